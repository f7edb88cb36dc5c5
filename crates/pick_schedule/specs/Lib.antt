pub mod Schedule
pub mod Stretches
pub mod Printing
