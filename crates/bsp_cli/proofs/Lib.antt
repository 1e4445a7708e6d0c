mod Faulted
mod Listings
mod Refusals
mod RunJobs
mod StreamJobs
mod TooLong
pub mod Upgrading
pub mod Saying
