pub use Rattle.djvu_base.specs.Picture
pub use Rattle.bit_plane.specs.Pixels
pub mod Reduction
pub mod Drawing
pub mod Laying
pub mod Sides
pub mod Worked
