-- The lemmas of this crate, each with the laws that it ends in. None is cited from above.
-- pieces_go_on
mod Arriving
-- held_is_the_owners
mod Feeding
-- told_stays
mod Telling
-- spent_stays, published_files_are_the_librarys
mod Spending
-- passes_tell_the_library
mod Finding
mod Summing
mod Meeting
mod Ending
-- joined_passes_are_together
mod Joining
