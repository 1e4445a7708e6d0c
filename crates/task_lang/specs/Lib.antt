pub mod FaultCode
pub mod Laws
pub mod Lent
pub mod Meaning
pub mod Puts
pub mod SegmentValue
pub mod TaskValue
pub mod Views
