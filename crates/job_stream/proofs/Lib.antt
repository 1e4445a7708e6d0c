pub mod Texts
pub mod Pieces
pub mod Streams
pub mod Stepped
