use Rattle.std.proofs.Common.{◌-◌, arith}
use Rattle.layer_compose.proofs.CodedRows.{behind_alike, lowest_row}
use Rattle.layer_compose.proofs.layers.Layers.alike_rows.Goals as goal

pub copied_rows-requires-clause-behind : goal.copied_rows-requires-clause-behind
copied_rows-requires-clause-behind c = λ row below.
    behind_alike c.args.self.now c.args.y c.args.by.back (c.args.count - 1) row c.lay_behind.new.out c.requires.back (omega (arith, c.requires.alike, c.requires.some))
    (omega (arith, below)) c.lay_behind.ensures

pub returns : goal.returns
returns c =
    lowest_row c.args.self.now c.args.y (c.args.count - 1) c.args.count c.copied_rows.new.out c.lay_in_front.new.out (omega (arith, c.requires.some)) c.copied_rows.ensures
    c.lay_in_front.ensures
