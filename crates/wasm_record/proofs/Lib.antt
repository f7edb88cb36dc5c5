pub mod Objects
pub mod Coming
pub mod DrawnOnce
