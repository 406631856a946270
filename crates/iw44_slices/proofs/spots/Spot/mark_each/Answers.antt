use Rattle.std.proofs.Common.{◌≡◌, ◌<◌, ◌+◌, ◌*◌, ℕ, length, sym, ◌∙◌, ap, subst, refl, arith}
use Rattle.iw44_slices.specs.Bands.{band_of, first_bucket}
use Rattle.iw44_slices.specs.Slice.{Place, is_active, is_unknown}
use Rattle.iw44_blocks.specs.Words.{AreBits}
use Rattle.iw44_slices.specs.Reader.{place_at, first_at}
use Rattle.iw44_slices.proofs.Bits.{some_of_buckets, words_more}
use Rattle.iw44_slices.proofs.spots.Spot.mark_each.Goals as goal

pub loop-bucket-preserved : goal.loop-bucket-preserved
loop-bucket-preserved c =
    let at : Place = place_at c.loop-bucket.self.number c.loop-bucket.self.block c.args.coefficients.now in
    let first : c.first_bucket-first.result ≡ first_at at = c.first_bucket-first.ensures.is
    ∙ ap (λ (n : ℕ). first_bucket (band_of n)) (sym c.loop-bucket.invariant.number) in
    let active : AreBits (is_active at) 16 (16 * (first_at at + c.loop-bucket.bucket)) c.words_of-words.result.active =
    subst (λ (n : ℕ). AreBits (is_active at) 16 (16 * (n + c.loop-bucket.bucket)) c.words_of-words.result.active) first c.words_of-words.ensures.active in
    let unknown : AreBits (is_unknown at) 16 (16 * (first_at at + c.loop-bucket.bucket)) c.words_of-words.result.unknown =
    subst (λ (n : ℕ). AreBits (is_unknown at) 16 (16 * (n + c.loop-bucket.bucket)) c.words_of-words.result.unknown) first c.words_of-words.ensures.unknown in
    let low : c.loop-bucket.bucket < 16 = omega (arith, c.bucket_count-bucket-end.ensures.most, c.loop-bucket-test.true) in
    let in_active : c.loop-bucket.bucket < length c.loop-bucket.self.active = omega arith in
    let in_unknown : c.loop-bucket.bucket < length c.loop-bucket.self.unknown = omega arith in
    record {
      number = c.loop-bucket.invariant.number;
      block = c.loop-bucket.invariant.block;
      active = words_more (is_active at) (first_at at) c.loop-bucket.self.active c.loop-bucket.bucket c.words_of-words.result.active in_active
          c.loop-bucket.invariant.active active;
      unknown = words_more (is_unknown at) (first_at at) c.loop-bucket.self.unknown c.loop-bucket.bucket c.words_of-words.result.unknown in_unknown
          c.loop-bucket.invariant.unknown unknown;
      some = some_of_buckets (is_active at) (first_at at) c.loop-bucket.bucket c.words_of-words.result.active c.loop-bucket.self.is_active _
          c.loop-bucket.invariant.some refl active;
    }
