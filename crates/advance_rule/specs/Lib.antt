pub mod Plan
pub mod Action
pub mod Stored
