pub mod Frames
mod SimpleSteps
mod Landing
mod Steps
mod Jumps
mod TypedBlocks
mod Safety
mod Reaching
pub mod Beginning
pub mod Threads
pub mod Few
pub mod Acts
pub mod AsksWithin
pub mod Machine
pub mod Runs
pub mod Lists
pub mod Ranges
pub mod Here
pub mod Putting
pub mod Reading
pub mod Held
pub mod Straight
pub mod Variables
pub mod Bodies
pub mod Returns
pub mod Opening
pub mod Apart
pub mod Landings
pub mod Entering
pub mod Asking
pub mod Replying
pub mod AccessesApart
pub mod FunctionCode
pub mod CallsApart
