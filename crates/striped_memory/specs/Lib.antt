pub mod Quarters
pub mod MemoryParts
pub use Rattle.waiter_queues.specs.Shared
