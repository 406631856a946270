-- what public clauses cite of the crate below
pub use Rattle.djvu_base.specs.Library
pub use Rattle.djvu_base.specs.Name
-- the chunks of a file, and where it ends
pub mod Start
pub mod Chunks
pub mod Ends
pub mod Refused
-- what is told of the chunks, and how a walker stands to it
pub mod Events
pub mod Order
pub mod Told
pub mod Walk
-- what laws speak of
pub mod Layout
pub mod Growth
pub mod Worked
-- the inside of this crate
pub mod Matching
pub mod Gathering
