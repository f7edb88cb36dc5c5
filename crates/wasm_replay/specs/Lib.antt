pub mod Replays
pub mod Opens
pub mod Reads
pub use Rattle.replay_gate.specs.declared.answers.ReplayFault
