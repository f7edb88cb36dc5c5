pub mod Ending
pub mod Along
pub mod Gating
pub mod Pointing
