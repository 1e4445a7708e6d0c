pub mod Given
pub mod Jobs
