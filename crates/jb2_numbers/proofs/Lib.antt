-- The lemmas of this crate, lowest first; above each stand the functions and laws whose clauses it ends in, or the files that cite it.
-- laws numbers_lie_within
mod Bounds
-- laws names_differ
mod Names
-- NumberContexts::move_to, NumberContexts::root_cell
mod Cells
-- NumberContexts::grow
mod Growing
-- Path::with_decision, Path::split_last
mod Digits
-- NumberReader::take, Phase::next
mod Sound
-- NumberReader::advance, NumberReader::decide, NumberReader::read_on, NumberReader::step
mod Stepping
-- laws numbers_end, numbers_lie_within, one_value_codes_nothing, readings_stay_possible
mod Ending
-- Reaching
mod Covering
-- laws numbers_are_reached
mod Reaching
-- laws cuts_change_nothing, readings_leave_room, readings_stay_within, stops_change_nothing
mod Cutting
-- laws types_are_coded
mod Starting
-- what crates above may cite
pub mod Lemmas
