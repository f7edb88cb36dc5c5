pub mod Differences
pub mod Explained
pub mod Places
