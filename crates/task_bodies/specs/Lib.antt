pub mod Bodies
pub mod Settled
pub mod Kernels
pub mod Cells
pub mod Board
pub mod Worked
