pub mod Acts
pub mod Kept
pub mod Shared
pub mod Made
