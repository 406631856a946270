use Rattle.std.proofs.Common.{ap, subst, sym}
use Rattle.once_board.specs.Boards.{Claims}
use Rattle.once_board.proofs.ClaimStep.{answers_won, answers_taken}
use Rattle.once_board.proofs.board.Board.claim.Goals as goal
use Rattle.once_board.proofs.board.Board.claim.Goals.{then-word-eq0, else-word-eq0}

pub returns-clause-answer : goal.returns-clause-answer
returns-clause-answer g c =
    let told = c.claim_word-word.ensures.told in
    let owners = ap (λ b. b.owners) c.self.view_is in
    let hold = ap (λ s. s.hold) c.seat.view_is in
    let P = λ (answer : _). Claims c.args.self.now.owners c.args.place c.args.seat.now.hold c.claim_word-word.new.seat.me.0.hold answer in
    elim c.if-word-eq0.branch [
      | then-word-eq0 w ↦ subst P (sym w.result-is) (answers_won _ _ c.args.place c.claim_word-word.result _ _ _ _ owners hold told w.if-word-eq0.true)
      | else-word-eq0 w ↦ subst P (sym w.result-is) (answers_taken _ _ c.args.place c.claim_word-word.result _ _ _ _ owners hold told w.if-word-eq0.false)
    ]
