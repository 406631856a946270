use Rattle.std.proofs.Common.{◌≡◌, ◌*◌, ◌<◌, ℕ, length, arith, rules, sym, subst}
use Rattle.layer_compose.specs.Laying.{Covers}
use Rattle.layer_compose.proofs.Reducing.{covers, reduction_some, sizes_of}
use Rattle.layer_compose.proofs.CodedRows.{row_masked, row_unmasked}
use Rattle.layer_compose.proofs.layers.Layers.lay_in_front.Goals as goal

pub lay_masked-requires-clause-by : goal.lay_masked-requires-clause-by
lay_masked-requires-clause-by c =
    let P : ℕ → Type 0 = λ k. 0 < k in
    subst P (sym c.requires.front) (reduction_some c.args.self.now c.args.self.now.front)

pub lay_masked-requires-clause-covers : goal.lay_masked-requires-clause-covers
lay_masked-requires-clause-covers c = λ x column.
    let sizes = sizes_of c.args.self.now c.in-Some.mask c.in-Some.is c.requires.drawable.mask in
    let P : ℕ → Type 0 = λ k. Covers c.args.self.now.front k x c.args.y in
    subst P (sym c.requires.front)
    (covers c.args.self.now c.args.self.now.front x c.args.y c.requires.drawable.front (omega (arith, sizes.0, column)) c.requires.row)

pub returns-in-Some : goal.returns-in-Some
returns-in-Some c =
    let size : length c.lay_masked.new.out ≡ 3 * c.args.self.now.width = search rules in
    row_masked c.args.self.now c.in-Some.mask c.args.y c.args.by.front c.args.out.now c.lay_masked.new.out
    c.in-Some.is c.requires.drawable.mask c.requires.front c.requires.behind c.lay_masked.ensures size

pub returns-in_default : goal.returns-in_default
returns-in_default c = row_unmasked c.args.self.now c.args.y c.args.out.now c.in_default.is c.requires.behind
