use Rattle.std.proofs.Common.{◌≡◌, ℕ, ◌<◌, length, inl, inr, set, get_or, sym, ◌∙◌, arith, subst}
use Rattle.std.proofs.lemmas.Bool.{cases_lt}
use Rattle.std.proofs.lemmas.List.{get_or-set_same, get_or-set_other, length-set}
use Rattle.iw44_blocks.specs.Place.{spread}
use Rattle.iw44_blocks.proofs.places.spreads.Goals as goal

pub loop-place-preserved : goal.loop-place-preserved
loop-place-preserved c =
    let table = c.loop-place.table in
    let next = c.loop-place.place in
    let full = length-set table next c.spread.result ∙ c.loop-place.invariant.0 in (
      full,
      λ p below. elim (cases_lt p next) [
        | inl before ↦ get_or-set_other table next p c.spread.result 0 (λ e. omega arith) ∙ c.loop-place.invariant.1 p before
        | inr not ↦
            let same : p ≡ next = omega arith in
            let room : next < length table = omega (arith, c.loop-place.invariant.0, c.loop-place-test.true) in
            subst (λ (q : ℕ). get_or (set table next c.spread.result) q 0 ≡ spread q) (sym same) (get_or-set_same table next c.spread.result 0 room ∙ c.spread.ensures)
      ],
    )
