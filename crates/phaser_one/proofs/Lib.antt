pub mod Counting
pub mod Following
pub mod LawProofs
pub mod RunProofs
pub mod WordProofs
pub mod PlanProofs
