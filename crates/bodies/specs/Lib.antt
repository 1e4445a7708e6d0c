pub mod Leaving
pub mod RunValue
pub mod WorkersValue
