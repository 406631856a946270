use Rattle.std.proofs.Common.{◌≡◌, ℕ, ◌+◌, ◌*◌, ℤ, List, map, to_z, of_z, w64, ap, ◌∙◌, arith}
use Rattle.std.specs.Prelude.{slice_set}
use Rattle.std.proofs.lemmas.Int.{ints}
use Rattle.std.proofs.lemmas.List.{map-set}
use Rattle.iw44_blocks.specs.Lattice.{Lattice, with_value}
use Rattle.iw44_blocks.proofs.grids.Grid.put.Goals as goal

pub returns : goal.returns
returns g c =
    let inside = c.self.inside in
    let at : ℕ = c.args.y * inside.columns + c.args.x in
    let numbers = inside.numbers.items in
    let kept : to_z w64 (of_z w64 c.args.value) ≡ c.args.value = omega (arith, ints) in
    let values : map g.T.Number.value (slice_set numbers at c.narrow.result) ≡ slice_set (map g.T.Number.value numbers) at c.args.value =
    map-set g.T.Number.value numbers at c.narrow.result ∙ ap (slice_set (map g.T.Number.value numbers) at) (c.narrow.ensures ∙ kept) in
    ap (λ (l : List ℤ). let made : Lattice = record { width = inside.columns; height = inside.rows; values = l } in made) values
    ∙ ap (λ (l : Lattice). with_value l c.args.x c.args.y c.args.value) c.self.view_is
