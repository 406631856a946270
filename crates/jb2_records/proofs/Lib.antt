-- The lemmas of this crate, lowest first; above each stand the functions and laws whose clauses it ends in, or the files that cite it.
-- Unread::decide, Numbering, Sketching
mod Offering
-- Unread::number
mod Numbering
-- Unread::shape
mod Sketching
-- Coder::push, Coder::end
mod Arriving
-- Coder::number
mod Calling
-- Coder::flag, Coder::row
mod Deciding
-- Coder::direct, Coder::refined
mod Shaping
-- Finishing
mod Bounding
-- Continuing
mod Following
-- Continuing, Ending, Leaving
mod Keeping
-- Growing, Leaving
mod Continuing
-- laws readings_stay_within
mod Leaving
-- laws records_end
mod Ending
-- laws more_bytes_go_on
mod Growing
-- Finishing
mod Settling
-- laws records_end
mod Finishing
-- Library::take, Library::into_dictionary
mod Libraries
-- Picture::place, Picture::place_plain, next_spot
mod Showing
-- the readers; Library::start, Library::take
mod Adding
-- Machine::kind
mod Resting
-- src/numbers.rt
mod Waiting
-- the steps of a machine
mod Lasting
mod Suspending
mod Asking
mod Stepping
mod Entering
-- src/marks.rt
mod Marking
-- src/shapes.rt
mod Making
-- Feeding
mod Lengthening
-- the readers
mod Feeding
-- RecordReader::into_machine, MaskReader::mask
mod Concluding
