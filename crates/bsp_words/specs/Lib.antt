pub mod CommandLine
pub mod Laws
pub mod Ranges
pub mod Topics
