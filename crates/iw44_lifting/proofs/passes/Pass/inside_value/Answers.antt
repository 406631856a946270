use Rattle.std.proofs.Common.{◌≡◌, ◌+◌, ◌*◌, ◌≤◌, ◌^◌, ◌∙◌, ℕ, ℤ, map, unsigned_abs, refl, sym, subst, to_z, of_z, w64, arith}
use Rattle.std.proofs.lemmas.Int.{ints}
use Rattle.std.proofs.lemmas.List.{length-map}
use Rattle.std.proofs.lemmas.Nat.{mul-add-lt}
use Rattle.iw44_blocks.specs.Lattice.{Lattice}
use Rattle.iw44_lifting.proofs.ListValues.{list_small, list_around, lifted_inside, thrice, before_fits, behind_fits}
use Rattle.iw44_lifting.proofs.passes.Pass.inside_value.Goals as goal

pub sum_beside-next-requires-clause-before : goal.sum_beside-next-requires-clause-before
sum_beside-next-requires-clause-before g c =
    let s = c.args.self.step in
    let inside = c.requires.inside in
    before_fits c.args.width c.args.y c.args.x s.up s.right (s.up * c.args.width + s.right) refl (omega (arith, inside.below)) (omega (arith, inside.left))

pub sum_beside-next-requires-clause-behind : goal.sum_beside-next-requires-clause-behind
sum_beside-next-requires-clause-behind g c =
    let s = c.args.self.step in
    let inside = c.requires.inside in
    let full = sym (length-map c.args.numbers.now g.T.Number.value) ∙ c.requires.grid.full in
    behind_fits c.args.width c.args.height c.args.y c.args.x s.up s.right (s.up * c.args.width + s.right) _ refl full (omega (arith, inside.above)) (omega (arith, inside.right))

pub sum_beside-next-requires-clause-small : goal.sum_beside-next-requires-clause-small
sum_beside-next-requires-clause-small g c i =
    let here : Lattice = record { width = c.args.width; height = c.args.height; values = map g.T.Number.value c.args.numbers.now } in
    list_small (2 ^ 54) here c.requires.grid c.requires.small i

pub sum_beside-third-requires-clause-before : goal.sum_beside-third-requires-clause-before
sum_beside-third-requires-clause-before g c =
    let s = c.args.self.step in
    before_fits c.args.width c.args.y c.args.x (3 * s.up) (3 * s.right) (3 * (s.up * c.args.width + s.right)) (thrice s.up c.args.width s.right) c.requires.inside.below c.requires.inside.left

pub sum_beside-third-requires-clause-behind : goal.sum_beside-third-requires-clause-behind
sum_beside-third-requires-clause-behind g c =
    let s = c.args.self.step in
    let full = sym (length-map c.args.numbers.now g.T.Number.value) ∙ c.requires.grid.full in
    behind_fits c.args.width c.args.height c.args.y c.args.x (3 * s.up) (3 * s.right) (3 * (s.up * c.args.width + s.right)) _ (thrice s.up c.args.width s.right) full
    c.requires.inside.above c.requires.inside.right

pub sum_beside-third-requires-clause-small : goal.sum_beside-third-requires-clause-small
sum_beside-third-requires-clause-small g c i =
    let here : Lattice = record { width = c.args.width; height = c.args.height; values = map g.T.Number.value c.args.numbers.now } in
    list_small (2 ^ 54) here c.requires.grid c.requires.small i

pub number_at-requires : goal.number_at-requires
number_at-requires g c =
    let full = sym (length-map c.args.numbers.now g.T.Number.value) ∙ c.requires.grid.full in
    let place = mul-add-lt c.args.y c.args.width c.args.x c.args.height (omega (arith, c.requires.inside.above)) (omega (arith, c.requires.inside.right)) in
    omega (arith, full, place)

pub lifted-requires-clause-x : goal.lifted-requires-clause-x
lifted-requires-clause-x g c =
    let here : Lattice = record { width = c.args.width; height = c.args.height; values = map g.T.Number.value c.args.numbers.now } in
    let low = list_small (2 ^ 54) here c.requires.grid c.requires.small (c.args.y * c.args.width + c.args.x) in
    let small : unsigned_abs c.number_at.result ≤ 2 ^ 54 = subst (λ (v : ℤ). unsigned_abs v ≤ 2 ^ 54) (sym c.number_at.ensures) low in
    omega (arith, ints)

pub returns : goal.returns
returns g c =
    let here : Lattice = record { width = c.args.width; height = c.args.height; values = map g.T.Number.value c.args.numbers.now } in
    let r : ℕ = c.args.self.step.right in
    let u : ℕ = c.args.self.step.up in
    let w : ℕ = c.args.width in
    let x : ℕ = c.args.x in
    let y : ℕ = c.args.y in
    let inside = c.requires.inside in
    let low = list_small (2 ^ 54) here c.requires.grid c.requires.small (y * w + x) in
    let small : unsigned_abs c.number_at.result ≤ 2 ^ 54 = subst (λ (v : ℤ). unsigned_abs v ≤ 2 ^ 54) (sym c.number_at.ensures) low in
    let stays : to_z w64 (of_z w64 c.number_at.result) ≡ c.number_at.result = omega (arith, ints) in
    let next_stays : to_z w64 (of_z w64 c.sum_beside-next.result) ≡ c.sum_beside-next.result = omega (arith, ints, c.sum_beside-next.ensures.small) in
    let third_stays : to_z w64 (of_z w64 c.sum_beside-third.result) ≡ c.sum_beside-third.result = omega (arith, ints, c.sum_beside-third.ensures.small) in
    let next = list_around here r u x y 1 r u (u * w + r) refl (omega arith) (omega arith) (omega (arith, inside.left)) (omega (arith, inside.below))
    (omega (arith, inside.right)) (omega (arith, inside.above)) in
    let third = list_around here r u x y 3 (3 * r) (3 * u) (3 * (u * w + r)) (thrice u w r) refl refl inside.left inside.below inside.right inside.above in
    let kept : to_z w64 (of_z w64 c.lifted.result) ≡ c.lifted.result = omega (arith, ints) in
    kept ∙ c.lifted.ensures ∙ lifted_inside c.args.self here x y _ _ _ inside (stays ∙ c.number_at.ensures) (next_stays ∙ c.sum_beside-next.ensures.sum ∙ next)
    (third_stays ∙ c.sum_beside-third.ensures.sum ∙ third)
