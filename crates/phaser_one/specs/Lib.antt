pub mod Arrivals
pub mod Calls
pub mod Seen
pub mod Runs
pub mod Laws
pub mod Plans
