-- what these definitions are made of
pub use Rattle.page_decoder.specs.Libraries
pub use Rattle.replay_core.specs.Counts
pub use Rattle.once_board.specs.Gathered
-- passes and what they have seen
pub mod Arrived
pub mod Passes
pub mod Seen
pub mod Pages
pub mod Spent
pub mod Keeps
-- the calls
pub mod Steps
pub mod Looks
pub mod Everyone
pub mod Together
pub mod Calls
pub mod Finish
