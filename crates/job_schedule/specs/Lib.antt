pub mod ParticipantValue
pub mod Moves
pub mod AnswerValue
pub mod World
pub mod Parts
pub mod Laws
