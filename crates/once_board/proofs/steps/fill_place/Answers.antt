use Rattle.std.proofs.Common.{arith, add-one, sym, ap, ◌∙◌, ◌∷◌, None, Some}
use Rattle.atomic_table.specs.Table.{rest}
use Rattle.once_board.specs.Holds.{put_at}
use Rattle.once_board.specs.Told.{idle}
use Rattle.once_board.proofs.PutStep.{takes_next, opens_next, same_slot, in_hand}
use Rattle.once_board.proofs.steps.fill_place.Goals as goal

pub load-requires : goal.load-requires
load-requires g c = (
  c.requires.board.0,
  (let place = c.requires.place in let words = c.requires.board.1 in omega arith),
  takes_next _ _ _ _ c.args.place _ c.requires.idle.0 c.requires.place c.requires.claimed c.requires.unfilled,
)

pub exchange-requires : goal.exchange-requires
exchange-requires g c = (
  c.load.ensures.0 ∙ c.requires.board.0,
  (None, in_hand c.load.new.seat.me c.args.place None _ (c.load.ensures.2 c.args.place (add-one c.args.place)).0),
)

pub unreachable-requires : goal.unreachable-requires
unreachable-requires g c =
    let took = (c.load.ensures.2 c.args.place (add-one c.args.place)).0 in
    let value = same_slot c.args.place c.args.place None c.exchange.result _ _ (sym took ∙ c.exchange.ensures.2) in
    cc c.in-Some.is

pub store-requires : goal.store-requires
store-requires g c =
    let took = c.load.ensures.2 c.args.place (add-one c.args.place) in
    let now = c.exchange.ensures.3 in (
      c.exchange.ensures.0 ∙ (c.load.ensures.0 ∙ c.requires.board.0),
      (let place = c.requires.place in let words = c.requires.board.1 in omega arith),
      opens_next _ _ _ _ c.args.place c.args.value _ (ap (λ m. m.0.stage) now ∙ ap (λ v. v.stage) took.1)
          (ap (λ m. m.1) now ∙ ap (λ slots. (c.args.place, Some c.args.value) ∷ slots) (ap rest took.0 ∙ c.requires.idle.1))
          c.requires.place c.requires.fits,
    )

pub returns-clause-put : goal.returns-clause-put
returns-clause-put g c =
    let took = c.load.ensures.2 c.args.place (add-one c.args.place) in
    let now = c.exchange.ensures.3 in
    let has = ap (λ m. m.1) now ∙ ap (λ slots. (c.args.place, Some c.args.value) ∷ slots) (ap rest took.0 ∙ c.requires.idle.1) in
    let put = c.store.ensures.2 c.args.place c.args.value (add-one c.args.place) has in
    let same = ap (λ m. m.0.hold) now ∙ ap (λ v. v.hold) took.1 in
    (λ i. ((put.1 ∙ ap (λ h. idle (put_at c.args.place c.args.value h)) same) i, put.0 i))

pub returns-clause-sound : goal.returns-clause-sound
returns-clause-sound g c =
    let took = c.load.ensures.2 c.args.place (add-one c.args.place) in
    let now = c.exchange.ensures.3 in
    let has = ap (λ m. m.1) now ∙ ap (λ slots. (c.args.place, Some c.args.value) ∷ slots) (ap rest took.0 ∙ c.requires.idle.1) in
    (c.store.ensures.2 c.args.place c.args.value (add-one c.args.place) has).2
