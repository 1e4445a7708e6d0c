pub mod Moves
pub mod Deeds
pub mod Initial
pub mod Jobs
pub mod Closing
pub mod Ending
pub mod Refused
pub mod Participants
pub mod Standing
pub mod Participating
mod Kept
