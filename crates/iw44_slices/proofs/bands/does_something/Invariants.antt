use Rattle.std.proofs.Common.{◌≡◌, ◌+◌, ◌-◌, ◌*◌}
use Rattle.iw44_slices.specs.Bands.{is_in_use, threshold, band_of, first_bucket, bucket_count}
use Rattle.iw44_slices.specs.Slice.{some_from, does_something}
use Rattle.iw44_slices.proofs.bands.does_something.Given as goal

abbrev pub invariant-loop-place : goal.invariant-loop-place
invariant-loop-place l =
    some_from (λ index. is_in_use (threshold l.number index)) (16 * bucket_count (band_of l.number) - l.place) (16 * first_bucket (band_of l.number) + l.place)
    ≡ does_something l.number
