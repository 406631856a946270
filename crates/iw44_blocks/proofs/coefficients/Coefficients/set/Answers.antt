use Rattle.std.proofs.Common.{◌≡◌, ℕ, ◌+◌, ◌*◌, ◌/◌, ◌∙◌, ap, sym, subst, arith, to_z, of_z, w16, ℤ, pos}
use Rattle.std.specs.Prelude.{not, slice_index_or}
use Rattle.std.proofs.lemmas.Int.{ints}
use Rattle.std.proofs.lemmas.List.{length-set}
use Rattle.iw44_blocks.specs.Plane.{Plane, block_count}
use Rattle.iw44_blocks.specs.Words.{AreBits, is_zero}
use Rattle.iw44_blocks.proofs.Words.{word_from_0, words_with, or_any, any_number, place_within, word_low}
use Rattle.iw44_blocks.proofs.coefficients.Coefficients.set.Goals as goal

pub word_with-requires-clause-bits : goal.word_with-requires-clause-bits
word_with-requires-clause-bits c =
    let numbers = c.self.inside.numbers.items in
    let words = c.self.inside.words.items in
    let place : ℕ = 1024 * c.args.block + c.args.index in
    let within = place_within numbers c.args.self.now c.args.block c.args.index
    (c.self.invariant.plane.full ∙ ap (λ (p : Plane). 1024 * block_count p) c.self.view_is) c.requires.block c.requires.index in
    let before : to_z w16 (of_z w16 c.index.result.now) ≡ c.index.result.now = omega (arith, ints) in
    let has = word_from_0 numbers words place c.self.invariant.words within in
    let word : c.index-word.result.now ≡ slice_index_or words (place / 16) 0 =
    c.index-word.ensures ∙ or_any words (place / 16) c.index-word.result.now 0 (word_low numbers words place c.self.invariant.words within) in
    let old : c.index.result.now ≡ slice_index_or numbers place (pos 0) = c.index.ensures ∙ any_number numbers place c.index.result.now (pos 0) within in
    (has.0, (subst (λ (w : ℕ). AreBits (has.0) 16 0 w) (sym word) ((has.1).0), (has.1).1 ∙ ap (λ (v : ℤ). not (is_zero v)) (sym (before ∙ old))))

pub invariant_of-self : goal.invariant_of-self
invariant_of-self c =
    let numbers = c.self.inside.numbers.items in
    let words = c.self.inside.words.items in
    let place : ℕ = 1024 * c.args.block + c.args.index in
    let within = place_within numbers c.args.self.now c.args.block c.args.index
    (c.self.invariant.plane.full ∙ ap (λ (p : Plane). 1024 * block_count p) c.self.view_is) c.requires.block c.requires.index in
    let before : to_z w16 (of_z w16 c.index.result.now) ≡ c.index.result.now = omega (arith, ints) in
    let stored : to_z w16 (of_z w16 c.args.value) ≡ c.args.value = omega (arith, ints) in
    let word : c.index-word.result.now ≡ slice_index_or words (place / 16) 0 =
    c.index-word.ensures ∙ or_any words (place / 16) c.index-word.result.now 0 (word_low numbers words place c.self.invariant.words within) in
    let old : c.index.result.now ≡ slice_index_or numbers place (pos 0) = c.index.ensures ∙ any_number numbers place c.index.result.now (pos 0) within in
    record {
      plane = record {
        some = c.self.invariant.plane.some;
        fits = c.self.invariant.plane.fits;
        full = length-set numbers place (to_z w16 (of_z w16 c.args.value)) ∙ c.self.invariant.plane.full;
      };
      words = words_with numbers words place c.word_with.result (to_z w16 (of_z w16 c.args.value)) c.self.invariant.words within
          (λ test other from bits was now others.
          c.word_with.ensures test other from (subst (λ (w : ℕ). AreBits test 16 from w) (sym word) bits)
          (was ∙ ap (λ (v : ℤ). not (is_zero v)) (sym (before ∙ old))) now others);
    }
