pub mod Outlets
pub mod Left
