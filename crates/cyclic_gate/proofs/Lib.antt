pub mod Indexed
pub mod Replay
pub mod Ends
pub mod Trips
pub mod Answered
pub mod Waking
pub mod Forgetting
