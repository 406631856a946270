use Rattle.std.proofs.Common.{◌≡◌, [], ◌∷◌, ◌++◌, append_assoc, sym, ap, subst, ◌∙◌, arith, Some}
use Rattle.std.proofs.lemmas.Grind.{common_steps}
use Rattle.std.proofs.lemmas.List.{append-nil}
use Rattle.std.proofs.lemmas.List.Elements.{All-pop}
use Rattle.once_board.specs.Gathered.{Gathered}
use Rattle.once_board.proofs.Lemmas.{gathered_none, gathered_next}
use Rattle.board_tests.specs.Passes.{hold_of, IsPass}
use Rattle.board_tests.proofs.Passing.{reads_prefixes}
use Rattle.board_tests.proofs.passes.join_passes.Goals as goal

pub loop-pass-init : goal.loop-pass-init
loop-pass-init c = (
  [],
  sym (append-nil c.args.passes.items),
  c.requires.first,
  c.requires.passes,
  gathered_none hold_of c.args.board.now.owners c.args.first.hold,
)

pub join-requires : goal.join-requires
join-requires c = record {
  board = (c.loop-pass.invariant.2, (All-pop (IsPass c.args.board.now) _ _ (Some c.in-Some.pass) c.in-Some.ensures.items c.loop-pass.invariant.3).1.same_board);
}

pub loop-pass-preserved : goal.loop-pass-preserved
loop-pass-preserved c =
    let i = c.loop-pass.invariant in (
      c.in-Some.pass ∷ i.0,
      i.1 ∙ (ap (λ l. l ++ i.0) c.in-Some.ensures.items ∙ append_assoc c.pop.new.self.items (c.in-Some.pass ∷ []) i.0),
      c.join.ensures.board ∙ i.2,
      (All-pop (IsPass c.args.board.now) _ _ (Some c.in-Some.pass) c.in-Some.ensures.items i.3).0,
      gathered_next hold_of c.args.board.now.owners c.args.first.hold i.0 c.in-Some.pass c.loop-pass.seat.hold c.join.new.seat.hold i.4
          c.join.ensures.joined c.join.ensures.extends c.join.ensures.owns,
    )

pub returns-clause-prefixes : goal.returns-clause-prefixes
returns-clause-prefixes c =
    let i = c.loop-pass.invariant in
    let empty : c.loop-pass.passes.items ≡ [] = (grind (arith, common_steps)) in
    let all : c.args.passes.items ≡ i.0 = i.1 ∙ ap (λ l. l ++ i.0) empty in
    reads_prefixes c.args.board.now c.args.first.hold c.loop-pass.seat.hold c.args.passes.items c.requires.laid c.requires.passes
    (subst (λ l. Gathered hold_of c.args.board.now.owners c.args.first.hold l c.loop-pass.seat.hold) (sym all) i.4) c.laws.ensures.lawful
