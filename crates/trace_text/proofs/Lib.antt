pub mod CommandRuns
pub mod PrintedLines
pub mod TracedRuns
pub mod AskedLines
pub mod SpelledCommands
pub mod TreeRuns
mod OwnFaults
pub mod ReadWords
mod SpelledTrees
mod FoundNumbers
