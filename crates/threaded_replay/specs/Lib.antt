pub mod Threaded
pub mod Following
pub mod Work
