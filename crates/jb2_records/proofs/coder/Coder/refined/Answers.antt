use Rattle.std.proofs.Common.{refl, sym, subst}
use Rattle.std.specs.Prelude.{Some}
use Rattle.jb2_records.specs.Telling.{Parts, HalfShape}
use Rattle.jb2_records.proofs.Shaping.{shape_told}
use Rattle.jb2_records.proofs.coder.Coder.refined.Goals as goal

pub returns-clause-goes : goal.returns-clause-goes
returns-clause-goes c source width height at half =
    let old : Parts = record {
      zp = c.self.inside.zp;
      unread = c.self.inside.unread;
      numbers = c.self.inside.numbers;
      pixels = c.self.inside.pixels;
      flag = c.self.inside.flag;
      row = c.self.inside.row;
      count = c.self.inside.meter;
    } in
    let new : Parts = record old { zp = c.shape.new.zp; unread = c.shape.new.self; pixels = c.shape.new.contexts; count = c.shape.new.meter } in
    shape_told (Some c.args.reader.now.matched) old new c.args.reader.now.sketch c.shape.new.reader.sketch c.shape.result c.shape_result.result
    (record {
      drawn = c.shape.ensures.drawn;
      waits = c.shape.ensures.waits;
      width = c.shape.ensures.width;
      height = c.shape.ensures.height;
      grows = c.shape.ensures.grows;
      ticks = c.shape.ensures.ticks;
      feeds = c.shape.ensures.feeds;
      numbers = refl;
      flag = refl;
      row = refl;
    })
    c.shape_result.ensures source width height at
    (subst (λ (p : Parts). HalfShape source (Some c.args.reader.now.matched) width height at c.args.reader.now.sketch p) (sym c.self.view_is) half)
