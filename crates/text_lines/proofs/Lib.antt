pub mod LinesLemmas
pub mod NumbersLemmas
pub mod Readings
