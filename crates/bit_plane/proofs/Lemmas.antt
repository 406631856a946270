-- What crates above may cite of the proofs here. All else may change with the code.
-- digits of shifted words
pub use Rattle.bit_plane.proofs.BitLemmas.{digit-shr, digit_above}
-- the lowest digit that is set
pub use Rattle.bit_plane.proofs.InkLemmas.{lowest, digit-zero}
-- planes that are made by a test
pub use Rattle.bit_plane.proofs.PixelLemmas.{same_where, black_where, wide}
-- what is black once a pixel is set
pub use Rattle.bit_plane.proofs.PixelLaws.{set_is_black}
-- sums over the first numbers
pub use Rattle.bit_plane.proofs.Totals.{total, total_same, total_joined, total_front, sum_of_map, sum_of_range}
-- the black pixels by their places, and the digits of a number that are 1
pub use Rattle.bit_plane.proofs.Counting.{black_places, ones_total}
-- the same pixels, written in two ways
pub use Rattle.bit_plane.proofs.RowRuns.{same_place, run_at_place}
