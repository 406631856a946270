use Rattle.std.proofs.Common.{ap, sym, ◌∙◌, arith, length}
use Rattle.iff_chunks.specs.Start.{common_front}
use Rattle.iff_chunks.proofs.CommonFront.{whole_match, part_match, other_match, common_le_bytes}
use Rattle.iff_chunks.proofs.fronts.match_on.Goals as goal

pub overflow_add-result-else-common-piece : goal.overflow_add-result-else-common-piece
overflow_add-result-else-common-piece c = omega (arith, common_le_bytes c.rest_of-rest.result.now c.args.piece.now)

pub returns-then-common-rest : goal.returns-then-common-rest
returns-then-common-rest c =
    let rest = c.rest_of-rest.ensures in
    whole_match c.args.wanted.now c.args.matched c.args.piece.now c.common_front-common.result
    (c.common_front-common.ensures ∙ ap (λ w. common_front w c.args.piece.now) rest)
    (c.if-common-rest.true ∙ ap length rest)

pub returns-then-common-piece : goal.returns-then-common-piece
returns-then-common-piece c =
    let rest = c.rest_of-rest.ensures in
    part_match c.args.wanted.now c.args.matched c.args.piece.now c.common_front-common.result
    (c.common_front-common.ensures ∙ ap (λ w. common_front w c.args.piece.now) rest)
    (λ e. c.if-common-rest.false (e ∙ ap length (sym rest)))
    c.if-common-piece.true
    c.requires

pub returns-else-common-piece : goal.returns-else-common-piece
returns-else-common-piece c =
    let rest = c.rest_of-rest.ensures in
    other_match c.args.wanted.now c.args.matched c.args.piece.now c.common_front-common.result
    (c.common_front-common.ensures ∙ ap (λ w. common_front w c.args.piece.now) rest)
    (λ e. c.if-common-rest.false (e ∙ ap length (sym rest)))
    c.if-common-piece.false
