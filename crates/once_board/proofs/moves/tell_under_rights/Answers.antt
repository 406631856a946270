use Rattle.std.proofs.Common.{◌≡◌, ◌∙◌, ap, sym, refl}
use Rattle.once_board.specs.declared.holds.Stage.TheVariants.{Joined}
use Rattle.once_board.specs.Places.{record_of}
use Rattle.once_board.specs.Holds.{joined, rights_and_records}
use Rattle.once_board.specs.Told.{idle, back_off}
use Rattle.once_board.proofs.SplitStep.{splits_rights}
use Rattle.once_board.proofs.JoinStep.{joins_seats}
use Rattle.once_board.proofs.TellStep.{gives_back, joins_rights, rights_and_records_lawful}
use Rattle.once_board.proofs.Records.{record_of-unread}
use Rattle.once_board.proofs.moves.tell_under_rights.Goals as goal

pub split_seat-rights-requires : goal.split_seat-rights-requires
split_seat-rights-requires g c = (c.requires.board.1, c.requires.board.2, splits_rights _ _ _ _ c.requires.from.0)

pub join_seat-requires : goal.join_seat-requires
join_seat-requires g c = (
  c.requires.board.0,
  c.split_seat-rights.ensures.3 ∙ c.requires.board.1,
  ap (λ m. m.1) c.split_seat-rights.ensures.4,
  c.requires.board.2,
  joins_seats _ _ _ _ _ _ c.requires.to.0 (ap (λ m. m.0.stage) c.split_seat-rights.ensures.4),
)

pub split_seat-back-requires : goal.split_seat-back-requires
split_seat-back-requires g c =
    let a = c.args.to.now.me.0.hold in
    let h = c.args.from.now.me.0.hold in
    let brought = ap (λ m. m.0.hold) c.split_seat-rights.ensures.4 in (
      c.join_seat.ensures.0 ∙ c.requires.board.0,
      c.requires.board.2,
      gives_back _ _ a (rights_and_records h) (rights_and_records_lawful h c.requires.lawful) refl refl refl _ _
          (ap (λ m. m.0.hold) c.join_seat.ensures.2 ∙ ap (λ b. joined a b) brought)
          (ap (λ m. m.0.stage) c.join_seat.ensures.2 ∙ ap (λ b. Joined a b) brought),
    )

pub join_seat-requires-2 : goal.join_seat-requires-2
join_seat-requires-2 g c =
    let a = c.args.to.now.me.0.hold in
    let h = c.args.from.now.me.0.hold in
    let brought = ap (λ m. m.0.hold) c.split_seat-rights.ensures.4 in
    let stage = ap (λ m. m.0.stage) c.join_seat.ensures.2 ∙ ap (λ b. Joined a b) brought in
    let back : c.split_seat-back.result.me.0 ≡ idle (rights_and_records h) = ap (λ m. m.0) c.split_seat-back.ensures.4 ∙ ap back_off stage in
    let kept = ap (λ m. m.0) c.split_seat-rights.ensures.2 in (
      c.split_seat-rights.ensures.0 ∙ c.requires.board.1,
      c.split_seat-back.ensures.3 ∙ (c.join_seat.ensures.0 ∙ c.requires.board.0),
      ap (λ m. m.1) c.split_seat-back.ensures.4,
      c.requires.board.2,
      joins_rights _ _ _ _ (ap (λ v. v.stage) kept) (ap (λ v. v.stage) back) (ap (λ v. v.hold.parts) back) (ap (λ v. v.hold.claims) back)
          (ap (λ v. v.hold.puts) back)
          (λ p. ap (λ v. (record_of v.hold.places p).word) back
          ∙ (ap (λ k. k.word) (record_of-unread h.places p) ∙ sym (ap (λ v. (record_of v.hold.places p).word) kept))) _ _,
    )
