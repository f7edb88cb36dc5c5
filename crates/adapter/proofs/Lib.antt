pub mod Addresses
pub mod Numbers
pub mod Pairing
pub mod References
pub mod Keeping
pub mod Told
