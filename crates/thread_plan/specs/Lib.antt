pub mod Refusals
pub mod Arguments
pub mod Threads
pub mod Plans
pub mod Spelling
pub mod Globals
pub mod Hints
pub mod Starts
