pub mod Reported
pub mod Stepping
pub mod Running
pub mod Passing
pub mod Working
