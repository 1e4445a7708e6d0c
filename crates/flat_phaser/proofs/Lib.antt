pub mod Counts
pub mod Everyone
pub mod Places
pub mod Alikeness
pub mod Runs
pub mod Coming
