pub use Rattle.once_board.specs.Boards
pub use Rattle.once_board.specs.Holds
pub use Rattle.once_board.specs.Told
pub mod Shelves
