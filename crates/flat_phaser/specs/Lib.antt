pub mod Flat
pub mod Step
pub mod Alike
pub mod Laws
