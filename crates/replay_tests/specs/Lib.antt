pub mod Claimed
pub mod Made
pub mod Resting
