-- The lemmas of this crate, lowest first; before each stand the functions and laws whose clauses it ends in, and the lemmas above it.
-- law recursion; Chunking
mod Fuel
-- Moving, Telling, Growing, Chunking, Passing
mod Going
-- Heading, Chunking, Passing, and where pieces that are used up lead
mod Moving
-- match_on
mod CommonFront
-- start, magic, word, length, kind
mod Heading
-- chunk
mod Chunking
-- data, data_end, pad
mod Passing
-- Stage::end
mod Closing
-- law order; Walker::feed
mod Ordering
-- Walker::feed
mod Telling
-- law never_cut
mod Uncut
-- law chunks_stay
mod Growing
-- law layout, from chunks to bytes
mod Laying
-- law layout, from bytes to chunks
mod LaidChunks
-- law bounds
mod Bounds
-- what crates above may cite: the walk over a file that is held as a whole
pub mod Lemmas
