use Rattle.std.proofs.Common.{refl, sym, subst}
use Rattle.jb2_records.specs.Telling.{Parts, Stands}
use Rattle.jb2_records.proofs.Deciding.{flag_told}
use Rattle.jb2_records.proofs.coder.Coder.flag.Goals as goal

pub returns-clause-goes : goal.returns-clause-goes
returns-clause-goes c source at stands =
    let old : Parts = record {
      zp = c.self.inside.zp;
      unread = c.self.inside.unread;
      numbers = c.self.inside.numbers;
      pixels = c.self.inside.pixels;
      flag = c.self.inside.flag;
      row = c.self.inside.row;
      count = c.self.inside.meter;
    } in
    let new : Parts = record old { zp = c.decide.new.zp; unread = c.decide.new.self; flag = c.decide.new.state; count = c.decide.new.meter } in
    flag_told old new c.decide.result c.bit_result.result (record { decides = c.decide.ensures.decides; numbers = refl; pixels = refl }) refl
    c.bit_result.ensures source at
    (subst (λ (p : Parts). Stands source at p) (sym c.self.view_is) stands)
