use Rattle.std.proofs.Common.{refl, ap}
use Rattle.board_tests.proofs.Passing.{read_pass, same_pass}
use Rattle.board_tests.proofs.passes.read_next.Goals as goal

pub returns-in-Value-clause-pass : goal.returns-in-Value-clause-pass
returns-in-Value-clause-pass c =
    read_pass c.args.board.now c.requires.laid c.args.pass.now _ c.requires.pass refl c.look.ensures.board c.in-Value.value refl c.requires.room
    c.look.ensures.extends c.look.ensures.owns c.look.ensures.held.0 (ap (λ k. k.value) c.in-Value.ensures.answer.1)

pub returns-in_default : goal.returns-in_default
returns-in_default c =
    let same = same_pass c.args.board.now c.requires.laid c.args.pass.now _ c.requires.pass refl c.look.ensures.board refl c.look.ensures.extends
    c.look.ensures.owns c.look.ensures.held.0 in
    record { pass = same.0; row = refl; values = same.1; rights = c.look.ensures.held.0 }
