pub mod ClassNesting
pub mod Sound
pub mod Complete
pub mod Reach
pub mod CheckedNests
pub mod Popping
pub mod Places
pub mod Stacking
pub mod Classes
pub mod Walking
pub mod Names
pub mod Ruled
pub mod EndLaws
pub mod Small
mod Scans
