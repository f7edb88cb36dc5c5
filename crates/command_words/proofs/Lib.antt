pub mod Digits
pub mod Found
pub mod Ranges
pub mod Texts
