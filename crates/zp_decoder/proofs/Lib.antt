-- The lemmas of this crate, lowest first; above each stand the functions and laws whose clauses it ends in, or the files that cite it.
-- Within, Moving, Deciding
mod Shifting
-- laws decisions_end, decisions_stay_within
mod Within
-- law more_bytes_change_nothing
mod Growing
-- law flat_inverts_bits
mod FlatLemmas
-- bits of the input in words: Window
mod Input
-- bits that are shifted in at once: leading_ones, Deciding
mod Moving
-- Standing
mod Keeping
-- ZpDecoder::push
mod Pushing
-- ZpDecoder::was_fed, law decoders_are_fed
mod Feeding
-- Steps
mod Deciding
-- ZpDecoder::decode, ZpDecoder::iw, ZpDecoder::pass
mod Steps
-- law taken_bytes_decide
mod Taking
-- states by their names, for the crates above
mod StateLemmas
-- what crates above may cite
pub mod Lemmas
