use Rattle.std.proofs.Common.{arith, add-one, ap, ◌∙◌}
use Rattle.once_board.proofs.LookStep.{learns_next}
use Rattle.once_board.proofs.looks.share_value.Goals as goal

pub store-requires : goal.store-requires
store-requires g c =
    let same = c.copy_value-copy.ensures.same in (
      same.0 ∙ c.requires.board.0,
      (let place = c.requires.place in let words = c.requires.board.1 in omega arith),
      learns_next _ _ _ _ c.args.place c.requires.turn.0 _ (ap (λ m. m.0.stage) same.1 ∙ c.requires.turn.1)
          (ap (λ m. m.1) same.1 ∙ c.requires.turn.2) c.requires.place,
    )

pub returns-clause-sound : goal.returns-clause-sound
returns-clause-sound g c =
    (c.store.ensures.2 c.args.place c.requires.turn.0 (add-one c.args.place) (ap (λ m. m.0.stage) c.copy_value-copy.ensures.same.1 ∙ c.requires.turn.1)).2
