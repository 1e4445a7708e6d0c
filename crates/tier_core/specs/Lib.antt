pub mod Turn
pub mod Machine
pub mod Run
pub mod CoreView
