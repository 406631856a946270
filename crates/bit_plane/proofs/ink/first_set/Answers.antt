use Rattle.std.proofs.Common.{◌^◌, ◌<◌, inl, inr, get_or, arith, rules}
use Rattle.std.proofs.lemmas.Bool.{cases_lt}
use Rattle.std.proofs.lemmas.List.{get_or_past}
use Rattle.bit_plane.proofs.InkLemmas.{first_found, clear_words}
use Rattle.bit_plane.proofs.ink.first_set.Goals as goal

pub returns-then-word-ne0 : goal.returns-then-word-ne0
returns-then-word-ne0 c =
    let fits : get_or c.args.words.now c.loop-index.index 0 < 2 ^ 64 = search rules in
    first_found c.args.words.now c.loop-index.index c.loop-index.invariant c.if-word-ne0.true fits

pub returns : goal.returns
returns c = clear_words c.args.words.now (λ k.
    elim (cases_lt k c.loop-index.index) [
      | inl before ↦ c.loop-index.invariant k before
      | inr past ↦ get_or_past c.args.words.now k 0 (omega arith)
    ])
