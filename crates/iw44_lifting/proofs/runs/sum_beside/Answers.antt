use Rattle.std.proofs.Common.{◌+◌, ◌-◌, ◌^◌, ◌≤◌, ℤ, unsigned_abs, sym, subst, arith}
use Rattle.std.proofs.lemmas.Int.{ints}
use Rattle.iw44_lifting.proofs.Sizes.{small_sum}
use Rattle.iw44_lifting.proofs.runs.sum_beside.Goals as goal

pub overflow_add-result : goal.overflow_add-result
overflow_add-result g c =
    let small = λ (v : ℤ). unsigned_abs v ≤ 2 ^ 54 in
    let before = subst small (sym c.number_at.ensures) (c.requires.small (c.args.place - c.args.distance)) in
    let behind = subst small (sym c.number_at-2.ensures) (c.requires.small (c.args.place + c.args.distance)) in
    omega (arith, ints)

pub returns-clause-small : goal.returns-clause-small
returns-clause-small g c =
    let small = λ (v : ℤ). unsigned_abs v ≤ 2 ^ 54 in
    let before = subst small (sym c.number_at.ensures) (c.requires.small (c.args.place - c.args.distance)) in
    let behind = subst small (sym c.number_at-2.ensures) (c.requires.small (c.args.place + c.args.distance)) in
    small_sum c.number_at.result c.number_at-2.result before behind
