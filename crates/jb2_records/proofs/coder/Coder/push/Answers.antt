use Rattle.std.proofs.Common.{false, refl, ap, subst, ◌∙◌}
use Rattle.std.specs.Prelude.{OnOk}
use Rattle.zp_decoder.specs.Chunk.{Chunk}
use Rattle.jb2_records.specs.Taking.{with_bytes}
use Rattle.jb2_records.specs.Telling.{Parts, Grows}
use Rattle.jb2_records.proofs.Arriving.{pushed_by}
use Rattle.jb2_records.proofs.coder.Coder.push.Goals as goal

pub returns-clause-grows : goal.returns-clause-grows
returns-clause-grows c =
    let old : Parts = record {
      zp = c.self.inside.zp;
      unread = c.self.inside.unread;
      numbers = c.self.inside.numbers;
      pixels = c.self.inside.pixels;
      flag = c.self.inside.flag;
      row = c.self.inside.row;
      count = c.self.inside.meter;
    } in
    let new : Parts = record old { unread = c.push.new.self } in
    subst (λ (p : Parts). OnOk c.push.result ((source : Chunk) → Grows source (with_bytes source c.args.piece.now false) p new)) c.self.view_is
    (pushed_by c.push.result c.args.piece.now old new c.self.invariant.feeds (ap (λ (p : Parts). p.unread.ended) c.self.view_is ∙ c.requires) c.push.ensures.ok
    refl refl refl refl refl refl)
