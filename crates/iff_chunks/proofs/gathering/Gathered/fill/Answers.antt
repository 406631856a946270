use Rattle.std.proofs.Common.{◌++◌, ◌∷◌, [], take, slice_index_or, ap, sym, ◌∙◌, arith, append_assoc}
use Rattle.std.proofs.lemmas.List.{length-set, take_more, take_more_set}
use Rattle.iff_chunks.specs.Gathering.{gathered}
use Rattle.iff_chunks.proofs.gathering.Gathered.fill.Goals as goal

pub loop-now-preserved : goal.loop-now-preserved
loop-now-preserved c =
    let x = slice_index_or c.args.piece.now c.loop-now.used 0 in
    let here = take_more_set c.loop-now.now.bytes c.loop-now.now.count x (omega (arith, c.loop-now.invariant.4, c.loop-now-test.true, c.requires.room)) in
    let there = take_more c.args.piece.now c.loop-now.used 0 c.if-used-piece.true in (
      here ∙ ap (λ l. l ++ x ∷ []) c.loop-now.invariant.0 ∙ append_assoc (gathered c.args.self) (take c.loop-now.used c.args.piece.now) (x ∷ [])
          ∙ ap (λ l. gathered c.args.self ++ l) (sym there),
      omega (arith, c.loop-now.invariant.1),
      omega (arith, c.loop-now-test.true),
      omega (arith, c.if-used-piece.true),
      length-set c.loop-now.now.bytes c.loop-now.now.count x ∙ c.loop-now.invariant.4,
    )
