pub mod Joined
pub mod PieceOf
pub mod Cut
pub mod Keeps
pub mod Laws
pub mod Lines
pub use Rattle.log_pieces.specs.Line
pub use Rattle.log_pieces.specs.Piece
pub use Rattle.replay_laws.specs.Laws as ReplayLaws
pub use Rattle.replay_laws.specs.RunLog
