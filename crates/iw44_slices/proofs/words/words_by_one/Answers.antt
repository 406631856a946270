use Rattle.std.proofs.Common.{◌≡◌, ◌+◌, ◌-◌, ◌*◌, ◌&&◌, ℕ, Bool, ap, ◌∙◌, arith}
use Rattle.std.specs.Prelude.{not}
use Rattle.iw44_blocks.specs.Plane.{coefficient}
use Rattle.iw44_slices.specs.Bands.{is_in_use, threshold}
use Rattle.iw44_slices.specs.Slice.{is_active, is_unknown}
use Rattle.iw44_blocks.specs.Words.{is_zero}
use Rattle.iw44_slices.specs.Reader.{place_at}
use Rattle.iw44_blocks.proofs.Lemmas.{no_bits}
use Rattle.iw44_slices.proofs.Bits.{one_bit_more}
use Rattle.iw44_slices.proofs.words.words_by_one.Goals as goal

pub loop-place-init : goal.loop-place-init
loop-place-init c =
    let at = place_at c.args.number c.args.block c.args.coefficients.now in
    record {
      active = no_bits (is_active at) (16 * c.args.bucket + 16);
      unknown = no_bits (is_unknown at) (16 * c.args.bucket + 16);
      active_low = omega arith;
      unknown_low = omega arith;
    }

pub loop-place-preserved : goal.loop-place-preserved
loop-place-preserved c =
    let at = place_at c.args.number c.args.block c.args.coefficients.now in
    let i : ℕ = 16 * c.args.bucket + (16 - (c.loop-place.place + 1)) in
    let same : 16 * c.args.bucket + (15 - c.loop-place.place) ≡ i = omega arith in
    let used : c.is_in_use-is_used.result ≡ is_in_use (threshold c.args.number i) =
    c.is_in_use-is_used.ensures ∙ (ap is_in_use c.threshold.ensures ∙ ap (λ (n : ℕ). is_in_use (threshold c.args.number n)) same) in
    let zero' : c.is_zero-is_zero.result ≡ is_zero (coefficient c.args.coefficients.now c.args.block i) =
    c.is_zero-is_zero.ensures ∙ ap (λ (n : ℕ). is_zero (coefficient c.args.coefficients.now c.args.block n)) same in
    let active : c.both.result ≡ is_active at i =
    c.both.ensures ∙ (ap (λ (b : Bool). b && not c.is_zero-is_zero.result) used ∙ ap (λ (b : Bool). is_in_use (threshold c.args.number i) && not b) zero') in
    let unknown : c.both-in-loop-place.result ≡ is_unknown at i =
    c.both-in-loop-place.ensures
    ∙ (ap (λ (b : Bool). b && c.is_zero-is_zero.result) used ∙ ap (λ (b : Bool). is_in_use (threshold c.args.number i) && b) zero') in
    let more = one_bit_more (is_active at) c.loop-place.place (16 * c.args.bucket + (16 - c.loop-place.place)) i c.loop-place.active
    c.with_bit-active.result c.both.result
    (omega arith) c.loop-place-test.true active c.with_bit-active.ensures c.loop-place.invariant.active in
    let others = one_bit_more (is_unknown at) c.loop-place.place (16 * c.args.bucket + (16 - c.loop-place.place)) i c.loop-place.unknown
    c.with_bit-unknown.result c.both-in-loop-place.result
    (omega arith) c.loop-place-test.true unknown c.with_bit-unknown.ensures c.loop-place.invariant.unknown in
    record { active = more.0; unknown = others.0; active_low = more.1; unknown_low = others.1 }
