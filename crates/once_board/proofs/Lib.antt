-- What the crates above may cite is in `Lemmas`, and nothing else is theirs. The rest stands lowest first, each with the clauses
-- that it ends in.

-- sums and lists of numbers, records of places, and what a step leaves alone: in every clause
mod Sums
mod Records
mod Changes
mod Keeps
-- `told` of `steps::claim_word`, so `answer` of `Board::claim`
mod ClaimStep
-- `put` of `steps::fill_place`, so `put` of `Board::put`
mod PutStep
-- `seat` and `sound` of `Board::new`
mod Starting
-- `kept` and `off` of `moves::split_seat`, so `kept` and `split_off` of `Board::split`
mod Dividing
mod SplitStep
-- `met` of `moves::join_seats`, so `agree`, `apart`, `extends` and `owns` of `Board::join`
mod JoinStep
-- `to`, `from` and `met` of `moves::tell_seat`, so `told` and `same` of `Board::tell`
mod TellStep
-- `told` of `looks::take_turn` and `learned` of `looks::share_value`, so `answer` of `Board::look`
mod LookStep
mod LookAnswers
-- the law `rule_in_words`
mod StatedRule
-- `row_owners` and `free_owners`
mod OwnerLists
-- `hand_over` and `bring_together`
mod Counting
-- lemmas for the crates above: rows, their values, and seats that are joined one after another
mod RowSteps
mod RowValues
mod FilledRows
mod FilledValues
mod RowSeating
mod Gathering
pub mod Lemmas
