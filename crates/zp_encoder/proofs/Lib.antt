-- The lemmas of this crate, lowest first; above each stand the functions and laws whose clauses it ends in, or the files that cite it.
-- digits: Digits, Standing
mod Numbers
-- Digits
mod DigitLemmas
-- Standing
mod StandingLemmas
-- one decision: Decoding
mod Leading
-- law codes_make_decisions, ZpEncoder::finish
mod Decoding
-- ZpEncoder
mod Writing
