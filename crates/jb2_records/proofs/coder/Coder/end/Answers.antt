use Rattle.std.proofs.Common.{true, refl, subst}
use Rattle.zp_decoder.specs.Chunk.{chunk}
use Rattle.jb2_records.specs.Telling.{Parts, Grows}
use Rattle.jb2_records.proofs.Arriving.{closed}
use Rattle.jb2_records.proofs.coder.Coder.end.Goals as goal

pub returns-clause-grows : goal.returns-clause-grows
returns-clause-grows c source =
    let old : Parts = record {
      zp = c.self.inside.zp;
      unread = c.self.inside.unread;
      numbers = c.self.inside.numbers;
      pixels = c.self.inside.pixels;
      flag = c.self.inside.flag;
      row = c.self.inside.row;
      count = c.self.inside.meter;
    } in
    let new : Parts = record old { zp = c.end.new.zp; unread = c.end.new.self } in
    subst (λ (p : Parts). Grows source (chunk source.table source.payload true) p new) c.self.view_is
    (closed old new c.self.invariant.feeds c.end.ensures.feeds c.end.ensures.left c.end.ensures.fed c.end.ensures.table refl refl refl refl refl source)
