use Rattle.std.proofs.Common.{◌+◌, ◌-◌, ◌*◌, ◌∙◌, arith}
use Rattle.std.proofs.lemmas.Nat.{mul-add-lt}
use Rattle.iw44_image.proofs.Painting.{pixel_more}
use Rattle.iw44_image.proofs.rasters.Samples.paint_row.Goals as goal

pub put-requires : goal.put-requires
put-requires c =
    let place = mul-add-lt c.args.row c.args.width c.loop-x.x c.args.height c.requires.row (omega arith) in
    omega (arith, place, c.loop-x.invariant.count, c.loop-x.invariant.room, c.requires.room)

pub loop-x-preserved : goal.loop-x-preserved
loop-x-preserved c = record {
  samples = pixel_more c.args.width c.args.height c.args.row c.loop-x.x
      ((c.args.height - 1 - c.args.row) * c.args.width + c.loop-x.x) c.args.self.now c.colour-colour.result c.loop-x.out.items c.put.new.samples.items
      (omega arith)
      (omega arith) c.colour-colour.ensures c.loop-x.invariant.samples c.put.ensures.items;
  count = omega (arith, c.put.ensures.count, c.loop-x.invariant.count);
  room = c.put.ensures.room ∙ c.loop-x.invariant.room;
}
