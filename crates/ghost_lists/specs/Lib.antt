pub mod Passed
pub mod Agreed
