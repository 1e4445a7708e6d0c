pub mod PassedBytes
pub mod ReadBytes
pub mod ReportProofs
pub mod ReportLawProofs
pub mod TakenProofs
pub mod LinesTaken
