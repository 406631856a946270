use Rattle.std.proofs.Common.{◌≡◌, ◌+◌, ◌*◌, ◌<◌, ◌++◌, ◌∷◌, [], map, ap, ◌∙◌, arith, to_z, of_z, w64}
use Rattle.std.proofs.lemmas.Int.{ints}
use Rattle.std.proofs.lemmas.List.{map-append}
use Rattle.std.proofs.lemmas.Nat.{mul-add-lt}
use Rattle.iw44_blocks.specs.Lattice.{value_at, values_by, half_up}
use Rattle.iw44_blocks.specs.Plane.{Plane, grid_of}
use Rattle.iw44_blocks.proofs.EvenPlaces.{side_fits, even_below, block_fits, even_value}
use Rattle.iw44_blocks.proofs.RowsOfValues.{value_more}
use Rattle.iw44_blocks.proofs.coefficients.Coefficients.push_even_row.Goals as goal

pub overflow_mul-row : goal.overflow_mul-row
overflow_mul-row g c =
    let height = ap (λ (p : Plane). p.height) c.self.view_is in
    let row = even_below c.args.y c.args.self.now.height c.requires.row in
    omega (arith, side_fits c.self.inside.columns c.self.inside.rows c.self.invariant.plane.some c.self.invariant.plane.fits)

pub overflow_add-first : goal.overflow_add-first
overflow_add-first g c =
    let width = ap (λ (p : Plane). p.width) c.self.view_is in
    let height = ap (λ (p : Plane). p.height) c.self.view_is in
    omega (
      arith,
      block_fits c.self.inside.columns c.self.inside.rows c.loop-x.x c.args.y c.blocks_along.result c.self.invariant.plane.some c.self.invariant.plane.fits
          (omega arith) (let row = c.requires.row in omega arith) c.blocks_along.ensures,
    )

pub push_reserved-requires : goal.push_reserved-requires
push_reserved-requires g c =
    let plane = c.args.self.now in
    let width = ap (λ (p : Plane). p.width) c.self.view_is in
    let wide : c.loop-x.x < half_up plane.width = omega arith in
    let place = mul-add-lt c.args.y (half_up plane.width) c.loop-x.x (half_up plane.height) c.requires.row wide in
    omega (arith, place, c.loop-x.invariant.count, c.loop-x.invariant.room, c.requires.room)

pub loop-x-preserved : goal.loop-x-preserved
loop-x-preserved g c =
    let plane = c.args.self.now in
    let width = ap (λ (p : Plane). p.width) c.self.view_is in
    let values = c.loop-x.values.items in
    let put = c.narrow.result in
    let wide : c.loop-x.x < half_up plane.width = omega arith in
    let stored : to_z w64 (of_z w64 c.into.result) ≡ c.into.result = omega (arith, ints) in
    let value : c.into.result ≡ c.at-value.result = omega (arith, ints) in
    let items : map g.T.Number.value c.push_reserved.new.self.items ≡ map g.T.Number.value values ++ g.T.Number.value put ∷ [] =
    ap (map g.T.Number.value) c.push_reserved.ensures.items ∙ map-append g.T.Number.value values (put ∷ []) in
    record {
      values = value_more (half_up plane.width) c.args.y c.loop-x.x (λ x y. value_at (grid_of plane) (2 * x) (2 * y)) (map g.T.Number.value values)
          (map g.T.Number.value c.push_reserved.new.self.items) (g.T.Number.value put) wide c.loop-x.invariant.values
          (c.narrow.ensures ∙ stored ∙ value ∙ c.at-value.ensures ∙ even_value plane c.loop-x.x c.args.y wide c.requires.row) items;
      count = omega (arith, c.push_reserved.ensures.len, c.loop-x.invariant.count);
      room = c.push_reserved.ensures.capacity ∙ c.loop-x.invariant.room;
    }

pub returns-clause-row : goal.returns-clause-row
returns-clause-row g c =
    let plane = c.args.self.now in
    let width = ap (λ (p : Plane). p.width) c.self.view_is in
    let all : c.loop-x.x ≡ half_up plane.width = omega arith in
    let count : c.args.y * half_up plane.width + c.loop-x.x ≡ (c.args.y + 1) * half_up plane.width =
    ap (λ x. c.args.y * half_up plane.width + x) all ∙ omega arith in
    c.loop-x.invariant.values ∙ ap (λ n. values_by (half_up plane.width) n (λ x y. value_at (grid_of plane) (2 * x) (2 * y))) count
