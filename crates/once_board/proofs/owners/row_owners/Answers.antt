use Rattle.std.proofs.Common.{◌≡◌, ◌*◌, subst, arith}
use Rattle.once_board.proofs.OwnerLists.{GoRound, next_round, rows_laid}
use Rattle.once_board.proofs.owners.row_owners.Goals as goal

pub loop-place-preserved : goal.loop-place-preserved
loop-place-preserved c =
    next_round c.args.width c.args.rights c.loop-place.place c.loop-place.owners.items c.push.new.self.items c.in_ok-push.ensures.items c.loop-place.invariant

pub returns : goal.returns
returns c =
    let end : c.loop-place.place ≡ c.args.count * c.args.width = (let most = c.loop-place-test.false in let least = c.loop-place.auto.place-end in
    omega arith) in
    rows_laid c.args.count c.args.width c.args.rights c.loop-place.owners.items
    (subst (λ n. GoRound c.args.width c.args.rights n c.loop-place.owners.items) end c.loop-place.invariant)
