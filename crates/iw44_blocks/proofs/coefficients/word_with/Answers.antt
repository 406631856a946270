use Rattle.std.proofs.Common.{◌≡◌, ℕ, ◌+◌, ◌-◌, ◌∙◌, ap, subst, sym, arith, true, false, to_z, of_z, w16}
use Rattle.std.specs.Prelude.{not}
use Rattle.std.proofs.lemmas.Int.{ints}
use Rattle.iw44_blocks.specs.Words.{AreBits, is_zero}
use Rattle.iw44_blocks.proofs.Words.{one_bit, room, enough, bit_added, bit_removed, differs_from_true, differs_from_false}
use Rattle.iw44_blocks.proofs.coefficients.word_with.Goals as goal

pub overflow_add-result : goal.overflow_add-result
overflow_add-result c =
    let same : to_z w16 (of_z w16 c.args.before) ≡ c.args.before = omega (arith, ints) in
    let before : is_zero c.args.before ≡ true = ap is_zero (sym same) ∙ sym c.if-is_zero-2.ensures in
    let has = c.requires.bits in
    let one = one_bit c.args.place c.requires.place in
    omega (arith, one, room (has.0) c.args.place c.args.word ((has.1).0) c.requires.place ((has.1).1 ∙ ap not before))

pub overflow_sub-result : goal.overflow_sub-result
overflow_sub-result c =
    let same : to_z w16 (of_z w16 c.args.before) ≡ c.args.before = omega (arith, ints) in
    let before : is_zero c.args.before ≡ false = ap is_zero (sym same) ∙ sym c.if-is_zero-2.ensures in
    let has = c.requires.bits in
    let one = one_bit c.args.place c.requires.place in
    omega (arith, one, enough (has.0) c.args.place c.args.word ((has.1).0) c.requires.place ((has.1).1 ∙ ap not before))

pub returns-then-is_zero-2 : goal.returns-then-is_zero-2
returns-then-is_zero-2 c test other from bits was now others =
    let same : to_z w16 (of_z w16 c.args.before) ≡ c.args.before = omega (arith, ints) in
    let new : to_z w16 (of_z w16 c.args.value) ≡ c.args.value = omega (arith, ints) in
    let before : is_zero c.args.before ≡ true = ap is_zero (sym same) ∙ sym c.if-is_zero-2.ensures in
    let value : is_zero c.args.value ≡ false = ap is_zero (sym new) ∙ (sym c.is_zero-2.ensures
    ∙ differs_from_true c.is_zero.result c.is_zero-2.result c.if-is_zero.false (c.is_zero.ensures ∙ (ap is_zero same ∙ before))) in
    subst (λ (n : ℕ). AreBits other 16 from (c.args.word + n)) (sym (one_bit c.args.place c.requires.place))
    (bit_added test other c.args.place 16 from c.args.word bits c.requires.place (was ∙ ap not before) (now ∙ ap not value) others)

pub returns-else-is_zero-2 : goal.returns-else-is_zero-2
returns-else-is_zero-2 c test other from bits was now others =
    let same : to_z w16 (of_z w16 c.args.before) ≡ c.args.before = omega (arith, ints) in
    let new : to_z w16 (of_z w16 c.args.value) ≡ c.args.value = omega (arith, ints) in
    let before : is_zero c.args.before ≡ false = ap is_zero (sym same) ∙ sym c.if-is_zero-2.ensures in
    let value : is_zero c.args.value ≡ true = ap is_zero (sym new) ∙ (sym c.is_zero-2.ensures
    ∙ differs_from_false c.is_zero.result c.is_zero-2.result c.if-is_zero.false (c.is_zero.ensures ∙ (ap is_zero same ∙ before))) in
    subst (λ (n : ℕ). AreBits other 16 from (c.args.word - n)) (sym (one_bit c.args.place c.requires.place))
    ((bit_removed test other c.args.place 16 from c.args.word bits c.requires.place (was ∙ ap not before) (now ∙ ap not value) others).1)
