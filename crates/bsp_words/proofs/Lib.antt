mod Clashes
mod Decimals
mod Limits
mod Numbers
mod Parsed
pub mod Refusals
