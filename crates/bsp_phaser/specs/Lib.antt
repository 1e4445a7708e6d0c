pub mod Numbers
pub mod Steps
pub mod Readings
pub mod Runs
pub mod Worked
