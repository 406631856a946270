use Rattle.std.proofs.Common.{◌≡◌, map, to_z, of_z, w64, ap, ◌∙◌, arith}
use Rattle.std.specs.Prelude.{slice_set}
use Rattle.std.proofs.lemmas.Int.{ints}
use Rattle.std.proofs.lemmas.List.{map-set}
use Rattle.iw44_lifting.proofs.runs.put_at.Goals as goal

pub returns : goal.returns
returns g c =
    let values = c.args.numbers.now in
    let place = c.args.place in
    let kept : to_z w64 (of_z w64 c.args.number) ≡ c.args.number = omega (arith, ints) in
    map-set g.T.Number.value values place c.narrow.result ∙ ap (slice_set (map g.T.Number.value values) place) (c.narrow.ensures ∙ kept)
