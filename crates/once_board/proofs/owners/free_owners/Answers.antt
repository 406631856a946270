use Rattle.std.proofs.Common.{subst, sym}
use Rattle.once_board.specs.Places.{IsFree}
use Rattle.once_board.proofs.OwnerLists.{all_free}
use Rattle.once_board.proofs.owners.free_owners.Goals as goal

pub returns-clause-free : goal.returns-clause-free
returns-clause-free c = λ place.
    subst (λ owners. IsFree owners place) (sym (c.in_ok-owners.ensures.items_if_clones_equal (λ y same. same))) (all_free c.args.count place)
