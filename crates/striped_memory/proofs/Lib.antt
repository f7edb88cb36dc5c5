pub mod Ranges
pub mod Looks
pub mod Stores
pub mod Items
pub mod Deals
pub mod Wholes
