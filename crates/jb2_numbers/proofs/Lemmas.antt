-- What crates above may cite of the proofs here. All else may change with the code.
-- the three kinds of steps
pub use Rattle.jb2_numbers.proofs.Stepping.{step_in_implied, step_in_coded, answer_in_coded}
-- so many steps after others; and a reader that has read nothing
pub use Rattle.jb2_numbers.proofs.Stepping.{steps_add, stands_begun}
-- a number that is read lies within its bounds, and when its reading has ended
pub use Rattle.jb2_numbers.proofs.Ending.{answer_within, read_on-ends, read_on-ends_from, possible_from}
-- a reading stays sound, and how one of fewer bytes goes beside one of more
pub use Rattle.jb2_numbers.proofs.Cutting.{Behind, Turns, Follows, same, waits, stays_behind, never_exhausted, same_bit, knows, implies, codes, turns, follows, stopped_anywhere, number_stays}
-- the type of a record has a coded decision
pub use Rattle.jb2_numbers.proofs.Starting.{type_codes}
