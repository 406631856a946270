pub use Rattle.once_board.specs.Boards
pub use Rattle.once_board.specs.Holds
pub use Rattle.once_board.specs.Gathered
pub use Rattle.once_board.specs.Numbers
pub use Rattle.once_board.specs.Rows
pub mod Passes
