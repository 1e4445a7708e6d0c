pub mod Framed
pub mod WellFormed
pub mod Mapped
pub mod Many
pub mod Each
pub mod Worked
