-- what public clauses cite of the crates below
pub use Rattle.djvu_base.specs.Library
pub use Rattle.djvu_base.specs.Meter
pub use Rattle.iff_chunks.specs.Chunks
pub use Rattle.iff_chunks.specs.Ends as FileEnds
pub use Rattle.iff_chunks.specs.Events
pub use Rattle.zp_table.specs.Rows
pub use Rattle.layer_compose.specs.Drawing
-- a page with a mask at most, in a short form; layers that can be drawn
pub mod Reading
pub mod Found
pub mod Worked
-- the reading of a page with all its chunks, over what is given of other files
pub use Rattle.djvu_base.specs.Announced
pub use Rattle.include_graph.specs.Graphs
pub mod Kinds
pub mod Results
pub mod Given
pub mod PageRead
pub mod Headers
pub mod ChunkData
pub mod Acts
pub mod Read
pub mod Libraries
pub mod Needs
pub mod Plain
pub mod Resolving
pub mod WorkedPages
-- how what the code keeps of a file that is read stands to that
pub mod LayerState
pub mod Kept
pub mod Opened
-- the decoder of a page
pub mod ActsTold
pub mod Decoder
pub mod FileReading
pub mod FileSteps
pub mod PageFed
pub mod FileDecoding
