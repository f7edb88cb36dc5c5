pub mod Lines
pub mod Beginnings
pub mod Lengths
pub mod ReadBack
