pub mod Turns
pub mod Places
pub mod Runs
pub mod Driving
pub mod Opening
