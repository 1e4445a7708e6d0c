pub mod Streamed
pub mod Running
