pub mod Integers
pub mod Numeric
pub mod Ranges
