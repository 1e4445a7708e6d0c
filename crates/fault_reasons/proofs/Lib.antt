pub mod Before
pub mod Behind
pub mod Reached
pub mod WalkedRuns
pub mod Walks
pub mod WorkedOut
