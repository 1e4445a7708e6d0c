pub mod Parents
pub mod Paths
pub mod Leaves
pub mod Faults
pub mod Widths
pub mod InText
pub mod Preferred
