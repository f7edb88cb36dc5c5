pub mod Counted
pub mod Rounds
pub mod Alone
pub mod OnePage
