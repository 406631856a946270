-- The lemmas of this crate, lowest first; above each stand the functions and laws whose clauses it ends in, and the lemmas above it.
-- None is cited from above.
-- place_of
mod Finding
-- Walk::include; Marking, Walking, Asking, Ordering, Serving, Meeting, Leaving, Leading
mod Among
-- is_known, items_known, Walk::step; Walking
mod Stepping
-- Walking
mod Marking
-- verdict, Walk::step, Walk::include
mod Walking
-- law verdicts_stay
mod Knowing
-- law verdicts_ask
mod Asking
-- law lists; Serving, Meeting, Leaving
mod Ordering
-- laws lists, faults; Meeting
mod Serving
-- law verdicts_meet_first; Leaving
mod Meeting
-- law lists
mod Leaving
-- laws below, faults
mod Leading
-- law by_events; Staying, Feeding
mod ByEvents
-- law outlines_stay; Feeding, Closing
mod Staying
-- FileWalk::walk; Closing
mod Feeding
-- OutlineReader::feed, OutlineReader::end, FileWalk::read, FileWalk::close; law readers_report
mod Closing
