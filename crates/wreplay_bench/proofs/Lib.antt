pub mod Counting
pub mod Opening
