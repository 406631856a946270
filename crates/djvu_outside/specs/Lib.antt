-- what crates above and their readers cite
pub use Rattle.djvu_base.specs.Name
pub use Rattle.djvu_base.specs.Library
pub use Rattle.djvu_base.specs.Meter
pub mod Faults
pub mod Reading
pub mod Parts
pub mod Puts
pub mod FileReads
pub mod Cut
-- the folders and sinks here
pub mod Calls
pub mod Sinks
pub mod Folders
-- the inside of this crate
pub mod Readers
pub mod Pieces
