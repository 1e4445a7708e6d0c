pub mod Behind
pub mod Listed
mod Marking
mod Noted
pub mod Reasoned
mod Refused
mod Short
