pub mod Bits
pub mod Pixels
pub mod Packed
pub mod Rows
pub mod Spans
pub mod Ink
pub mod Columns
pub mod Worked
