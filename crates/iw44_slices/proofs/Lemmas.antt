-- What crates above may cite of the proofs here.
-- a reading with more bytes, and one that was whole
pub use Rattle.iw44_slices.proofs.Cutting.{cut_anywhere, whole_stays, never_exhausted}
-- what a reading leaves: states and a place to go on from, and room for fewer decisions
pub use Rattle.iw44_slices.proofs.Cutting.{Leaves, leaves_room}
-- what is left of a slice tells the coefficients, and these are small
pub use Rattle.iw44_slices.proofs.Telling.{slice_tells, stands_tells, stands_small}
