-- What crates above may cite of the proofs here. All else may change with the code.
-- lists of values that are made place by place
pub use Rattle.iw44_blocks.proofs.RowsOfValues.{by_place, value_more}
-- the even columns and rows of a grid, and values that are given alike
pub use Rattle.iw44_blocks.proofs.EvenPlaces.{quarter_value, quarter_within, values_same}
-- words of bits
pub use Rattle.iw44_blocks.proofs.Words.{no_bits, bits_below, none_bits, bits_like}
