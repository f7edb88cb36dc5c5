pub mod Words
pub mod Asked
pub mod Commands
pub mod Tables
