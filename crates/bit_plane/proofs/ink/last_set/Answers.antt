use Rattle.std.proofs.Common.{◌-◌, ◌^◌, ◌<◌, get_or, arith, rules}
use Rattle.bit_plane.proofs.InkLemmas.{last_found, clear_words}
use Rattle.bit_plane.proofs.ink.last_set.Goals as goal

pub returns-then-word-ne0 : goal.returns-then-word-ne0
returns-then-word-ne0 c =
    let fits : get_or c.args.words.now (c.loop-index.index - 1) 0 < 2 ^ 64 = search rules in
    last_found c.args.words.now (c.loop-index.index - 1) (λ k p. c.loop-index.invariant k (omega arith)) c.if-word-ne0.true fits

pub returns : goal.returns
returns c = clear_words c.args.words.now (λ k. c.loop-index.invariant k (omega arith))
