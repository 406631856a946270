-- What crates above may cite of the proofs here. All else may change with the code.
-- the colours that name the context of the next pixel
pub use Rattle.jb2_shapes.proofs.Going.{next_colours}
-- a reading stays sound
pub use Rattle.jb2_shapes.proofs.Cutting.{stays_within, moved_below}
-- a reading leaves less room
pub use Rattle.jb2_shapes.proofs.Leaving.{Leaves, leaves_at, leaves_room}
