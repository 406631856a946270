-- What crates above may cite of the proofs here. All else may change with the code.
-- how much room a decoder's payload and place leave, and how few bytes it took
pub use Rattle.zp_decoder.proofs.Feeding.{room_is, few_is}
-- what a decision answers, the bounds that it keeps, and the room that it leaves
pub use Rattle.zp_decoder.proofs.Within.{Comes, comes, needs, exhausts, moves, standing, state_below, fewer, facts_of_place}
pub use Rattle.zp_decoder.proofs.Within.{le_from_le_true, between_facts, between-from_facts}
-- with more bytes a decision is the same
pub use Rattle.zp_decoder.proofs.Growing.{grown}
-- a decision over the bytes that were taken, beside one over the payload
pub use Rattle.zp_decoder.proofs.Taking.{taken_same, wanted, fits}
-- states by their names
pub use Rattle.zp_decoder.proofs.StateLemmas.{are_same-true, are_same-refl, stored_here, stored_elsewhere, stored_below, fresh_below}
-- z lies within the interval, and so many shifts are enough: an encoder shifts as a decoder does
pub use Rattle.zp_decoder.proofs.Within.{SplitFacts, split_facts, high_or_low, bit_at-lt, bits_from-lt}
pub use Rattle.zp_decoder.proofs.Shifting.{IsEnough, enough_at_first, enough_some, enough_later}
-- bits in a row: in two parts, past the end, and what a byte more changes
pub use Rattle.zp_decoder.proofs.Input.{bits_from-join, ones_past, bits_with}
