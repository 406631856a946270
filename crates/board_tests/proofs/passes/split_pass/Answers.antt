use Rattle.std.proofs.Common.{subst, sym, refl, ◌∙◌}
use Rattle.once_board.proofs.Lemmas.{rows_kept, rows_off}
use Rattle.board_tests.specs.Passes.{two_rows, IsNew}
use Rattle.board_tests.proofs.Passing.{new_pass}
use Rattle.board_tests.proofs.passes.split_pass.Goals as goal

pub returns-clause-new : goal.returns-clause-new
returns-clause-new c = subst IsNew (sym c.split-seat.ensures.kept)
    (rows_kept two_rows (λ row. 0) c.args.right c.args.seat.now.hold c.requires.right c.requires.new)

pub returns-clause-pass : goal.returns-clause-pass
returns-clause-pass c = new_pass c.args.board.now _ (c.split-seat.ensures.board.1 ∙ c.requires.board) c.requires.inside refl
    (subst IsNew (sym c.split-seat.ensures.split_off) (rows_off two_rows (λ row. 0) c.args.right c.args.seat.now.hold c.requires.right c.requires.new))
