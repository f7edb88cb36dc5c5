pub mod Objects
pub mod Access
pub mod Touches
pub mod Queues
pub mod Effects
pub mod Memory
pub mod SharedMemory
pub mod Bounds
