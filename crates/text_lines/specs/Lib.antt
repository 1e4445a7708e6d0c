pub mod Limits
pub mod Text
pub mod Number
pub mod Refusals
pub mod Laws
pub mod Reading
