pub mod Counts
pub mod Keeps
pub mod QueueModes
pub mod QueueSeen
pub mod Applies
pub mod Making
