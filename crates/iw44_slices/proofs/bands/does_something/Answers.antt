use Rattle.std.proofs.Common.{◌≡◌, ◌+◌, ◌*◌, ℕ, true, false, sym, ◌∙◌, arith, ap}
use Rattle.iw44_slices.specs.Bands.{is_in_use, threshold, band_of, first_bucket, bucket_count}
use Rattle.iw44_slices.proofs.Bits.{some_here, some_later, some_first}
use Rattle.iw44_slices.proofs.bands.does_something.Goals as goal

pub loop-place-init : goal.loop-place-init
loop-place-init c =
    some_first (λ index. is_in_use (threshold c.args.number index)) (16 * bucket_count (band_of c.args.number)) (16 * first_bucket (band_of c.args.number))

pub returns-then-is_in_use : goal.returns-then-is_in_use
returns-then-is_in_use c =
    let test = λ (index : ℕ). is_in_use (threshold c.args.number index) in
    let used : test (16 * first_bucket (band_of c.args.number) + c.loop-place.place) ≡ true =
    ap (λ (f : ℕ). test (16 * f + c.loop-place.place)) (sym c.first_bucket-first.ensures.is)
    ∙ (ap is_in_use (sym c.threshold.ensures) ∙ (sym c.is_in_use.ensures ∙ c.if-is_in_use.true)) in
    sym (some_here test (16 * bucket_count (band_of c.args.number)) (16 * first_bucket (band_of c.args.number)) c.loop-place.place
    (omega (arith, c.loop-place-test.true, c.bucket_count-place-end.ensures.is)) used) ∙ c.loop-place.invariant

pub loop-place-preserved : goal.loop-place-preserved
loop-place-preserved c =
    let test = λ (index : ℕ). is_in_use (threshold c.args.number index) in
    let idle : test (16 * first_bucket (band_of c.args.number) + c.loop-place.place) ≡ false =
    ap (λ (f : ℕ). test (16 * f + c.loop-place.place)) (sym c.first_bucket-first.ensures.is)
    ∙ (ap is_in_use (sym c.threshold.ensures) ∙ (sym c.is_in_use.ensures ∙ c.if-is_in_use.false)) in
    some_later test (16 * bucket_count (band_of c.args.number)) (16 * first_bucket (band_of c.args.number)) c.loop-place.place
    (omega (arith, c.loop-place-test.true, c.bucket_count-place-end.ensures.is)) idle ∙ c.loop-place.invariant
