pub mod Recordings
pub mod Channels
pub use Rattle.recorder.specs.ThreadLogAt
pub use Rattle.event_core.specs.End
pub use Rattle.event_core.specs.declared.pick.Pick
pub use Rattle.run_pieces.specs.Cut
pub use Rattle.run_pieces.specs.declared.fault.PiecesFault
pub use Rattle.recorder.specs.Least
