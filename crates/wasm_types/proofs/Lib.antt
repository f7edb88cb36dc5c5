pub mod Leb128Laws
pub mod Powers
pub mod Widths
pub mod Putting
