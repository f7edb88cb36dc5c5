pub mod Parts
pub mod Integers
pub mod Spelling
pub mod Quotes
