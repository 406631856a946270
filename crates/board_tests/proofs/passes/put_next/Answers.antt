use Rattle.std.proofs.Common.{◌+◌, refl, ap, ◌∙◌}
use Rattle.once_board.specs.Holds.{put_at}
use Rattle.once_board.proofs.Lemmas.{extends_trans}
use Rattle.board_tests.specs.declared.passes.Pass.{Pass}
use Rattle.board_tests.specs.Passes.{hold_of}
use Rattle.board_tests.proofs.Passing.{put_pass, grown_values}
use Rattle.board_tests.proofs.passes.put_next.Goals as goal

pub returns-clause-pass : goal.returns-clause-pass
returns-clause-pass c =
    put_pass c.args.board.now c.requires.laid c.args.pass.now _ c.requires.pass refl
    (c.put.ensures.board ∙ c.claim.ensures.board) c.args.value refl c.requires.room
    (c.put.ensures.put ∙ ap (put_at _ c.args.value) c.in-Won.ensures.answer.0)

pub returns-clause-values : goal.returns-clause-values
returns-clause-values c =
    let after : Pass = record { seat = c.put.new.seat; row = c.args.pass.now.row; known = c.args.pass.now.known + 1 } in
    grown_values c.args.board.now c.requires.laid c.args.pass.now after c.requires.pass refl (c.put.ensures.board ∙ c.claim.ensures.board) c.args.value refl
    (extends_trans (hold_of c.args.pass.now) c.claim.new.seat.hold c.put.new.seat.hold c.claim.ensures.extends c.put.ensures.extends)
    (ap (λ k. k.value) c.put.ensures.place)
