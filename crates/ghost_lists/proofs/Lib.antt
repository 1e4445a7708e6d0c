pub mod Passing
pub mod Agreeing
