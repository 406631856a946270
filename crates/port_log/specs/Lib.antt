pub use Rattle.once_board.specs.Boards
pub use Rattle.once_board.specs.Filled
pub use Rattle.once_board.specs.RowSeats
pub use Rattle.once_board.specs.Rows
pub mod Entries
pub mod Logs
pub mod Calls
