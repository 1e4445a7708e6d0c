pub mod HandedOut
pub mod Slots
pub mod Reopened
pub mod Watching
pub mod Queueing
