pub mod Begun
pub mod Lengths
pub mod Plans
