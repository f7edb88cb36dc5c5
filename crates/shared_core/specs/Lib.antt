pub mod Begins
pub mod Ends
pub mod Gates
pub mod Missing
pub mod Resting
pub mod Tries
pub use Rattle.shared_parts.specs.Calls
pub use Rattle.shared_parts.specs.declared.call.Call
