pub mod LeafTiers
pub mod Begun
pub mod JobPlan
pub use Rattle.stretch_queue.specs.Refusals
pub use Rattle.stretch_queue.specs.Watched
