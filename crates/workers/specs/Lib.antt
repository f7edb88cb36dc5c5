pub mod Jobs
pub mod Ran
pub mod Driving
pub mod Work
pub mod Recording
pub use Rattle.workers.specs.Ran
