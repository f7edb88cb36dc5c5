pub mod Attendants
