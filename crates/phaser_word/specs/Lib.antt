pub mod Fields
pub mod Packed
pub mod Phase
