-- The lemmas of this crate; above each stand the laws or calls whose clauses it ends in, or the file that cites it.
-- laws slices_end; Standing
mod Ending
-- laws readings_grow, decisions_are_bounded; Advancing
mod Cutting
-- Courses, Moving; laws thresholds_are_halved
mod Sizes
-- Staying, Passing
mod Courses
-- laws sizes_stay_small; Telling, Advancing
mod Staying
-- crates above
pub mod Lemmas
-- does_something, words_of, mark; what follows
mod Bits
-- the courses of a block, unfolded once; what follows
mod Skipping
-- begin_slice, begin_block, next_slice; what follows
mod Standing
-- skip_bucket, skip_chosen, skip_start, skip_raise
mod Passing
-- the measure of seek, and what calls require
mod Nearing
-- laws courses_tell_coefficients; Moving, Advancing
mod Telling
-- asked; Moving
mod Naming
-- take
mod Moving
-- Contexts
mod Numbering
-- read, SliceReader
mod Advancing
