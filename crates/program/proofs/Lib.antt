pub mod Listings
pub mod Stops
pub mod Told
pub mod InMemory
