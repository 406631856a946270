use Rattle.std.proofs.Common.{◌<◌, ℤ, refl, sym, subst}
use Rattle.std.specs.Prelude.{IfOk}
use Rattle.jb2_records.specs.Taking.{room_of}
use Rattle.jb2_records.specs.Telling.{Parts, HalfNumber}
use Rattle.jb2_records.proofs.Calling.{number_told, type_falls}
use Rattle.jb2_records.proofs.coder.Coder.number.Goals as goal

pub returns-clause-goes : goal.returns-clause-goes
returns-clause-goes c source root low high at half =
    let old : Parts = record {
      zp = c.self.inside.zp;
      unread = c.self.inside.unread;
      numbers = c.self.inside.numbers;
      pixels = c.self.inside.pixels;
      flag = c.self.inside.flag;
      row = c.self.inside.row;
      count = c.self.inside.meter;
    } in
    let new : Parts = record old { zp = c.number.new.zp; unread = c.number.new.self; numbers = c.number.new.contexts; count = c.number.new.meter } in
    number_told old new c.args.reader.now c.number.new.reader c.number.result c.number_result.result
    (record { counts = c.number.ensures.counts; pends = c.number.ensures.pends; feeds = c.number.ensures.feeds; pixels = refl; flag = refl; row = refl })
    c.number_result.ensures source root low high at (subst (λ (p : Parts). HalfNumber source root low high at c.args.reader.now p) (sym c.self.view_is) half)

pub returns-clause-falls : goal.returns-clause-falls
returns-clause-falls c reads =
    let old : Parts = record {
      zp = c.self.inside.zp;
      unread = c.self.inside.unread;
      numbers = c.self.inside.numbers;
      pixels = c.self.inside.pixels;
      flag = c.self.inside.flag;
      row = c.self.inside.row;
      count = c.self.inside.meter;
    } in
    let new : Parts = record old { zp = c.number.new.zp; unread = c.number.new.self; numbers = c.number.new.contexts; count = c.number.new.meter } in
    let some = c.was_fed.ensures.some in
    subst (λ (p : Parts). IfOk c.number_result.result (λ (n : ℤ). room_of new.unread new.zp < room_of p.unread p.zp)) c.self.view_is
    (type_falls old new c.args.reader.now c.number.new.reader c.number.result c.number_result.result
    (record { counts = c.number.ensures.counts; pends = c.number.ensures.pends; feeds = c.number.ensures.feeds; pixels = refl; flag = refl; row = refl })
    c.number_result.ensures c.self.invariant some.0 some.1 some.2 (c.was_fed.ensures.standing some.0 some.1 some.2) reads)
