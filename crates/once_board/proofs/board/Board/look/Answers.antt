use Rattle.std.proofs.Common.{◌≡◌, ℕ, ◌<◌, ◌≤◌, ◌≢◌, arith, ap, subst, sym}
use Rattle.once_board.specs.declared.answers.Looking.TheVariants.{Value, NotYet, Busy}
use Rattle.once_board.specs.Boards.{Looks}
use Rattle.once_board.proofs.LookAnswers.{answers_not_yet, answers_busy, found, found_grows, found_owned, same_held}
use Rattle.once_board.proofs.board.Board.look.Goals as goal
use Rattle.once_board.proofs.board.Board.look.Goals.{in-Ok, in-Err}

is_two : (word : ℕ) → 2 ≤ word → word ≢ 3 → word < 4 → word ≡ 2
is_two word low other small = omega arith

pub returns-then-word-lt2-clause-answer : goal.returns-then-word-lt2-clause-answer
returns-then-word-lt2-clause-answer g c =
    answers_not_yet _ _ c.args.place c.take_turn-word.result _ _ _ (ap (λ s. s.hold) c.seat.view_is) c.take_turn-word.ensures.told c.if-word-lt2.true

pub returns-then-word-eq3-clause-answer : goal.returns-then-word-eq3-clause-answer
returns-then-word-eq3-clause-answer g c =
    answers_busy _ _ c.args.place c.take_turn-word.result _ _ _ (ap (λ s. s.hold) c.seat.view_is) c.take_turn-word.ensures.told c.if-word-eq3.true

pub returns-clause-answer : goal.returns-clause-answer
returns-clause-answer g c =
    let told = c.take_turn-word.ensures.told in
    let two = is_two c.take_turn-word.result c.if-word-lt2.false c.if-word-eq3.false told.small in
    let owned = ap (λ b. b.owners) c.self.view_is in
    let same = ap (λ s. s.hold) c.seat.view_is in
    let P = λ (answer : _). Looks g.T.Share.fits c.args.place c.args.seat.now.hold c.share_value.new.seat.me.0.hold answer in
    elim c.match-share_value.branch [
      | in-Ok w ↦ subst P (sym w.result-is)
          (subst (λ x. P (Value x)) (sym w.in-Ok.ensures.learned.2)
          (found _ _ _ _ _ _ _ _ _ owned same told two w.in-Ok.ensures.learned.0 w.in-Ok.ensures.learned.1.0 (ap (λ m. m.0.hold) w.in-Ok.ensures.learned.1.1)))
      | in-Err w ↦ subst P (sym w.result-is) (
        w.in-Err.ensures.learned.0,
        found _ _ _ _ _ _ _ _ _ owned same told two w.in-Err.ensures.learned.0 w.in-Err.ensures.learned.1.0
            (ap (λ m. m.0.hold) w.in-Err.ensures.learned.1.1),
      )
    ]

pub returns-clause-extends : goal.returns-clause-extends
returns-clause-extends g c =
    let told = c.take_turn-word.ensures.told in
    let two = is_two c.take_turn-word.result c.if-word-lt2.false c.if-word-eq3.false told.small in
    let owned = ap (λ b. b.owners) c.self.view_is in
    let same = ap (λ s. s.hold) c.seat.view_is in
    let now = c.share_value.ensures.learned in
    found_grows _ _ _ _ _ _ _ _ _ owned same told two now.0 now.1.0 (ap (λ m. m.0.hold) now.1.1)

pub returns-clause-owns : goal.returns-clause-owns
returns-clause-owns g c =
    let told = c.take_turn-word.ensures.told in
    let two = is_two c.take_turn-word.result c.if-word-lt2.false c.if-word-eq3.false told.small in
    let owned = ap (λ b. b.owners) c.self.view_is in
    let same = ap (λ s. s.hold) c.seat.view_is in
    let now = c.share_value.ensures.learned in
    found_owned _ _ _ _ _ _ _ _ _ owned same told two now.0 now.1.0 (ap (λ m. m.0.hold) now.1.1)

pub returns-then-word-lt2-clause-held : goal.returns-then-word-lt2-clause-held
returns-then-word-lt2-clause-held g c =
    same_held g.T.Share.fits c.args.place c.args.seat.now.hold c.take_turn-word.new.seat.me.0.hold (NotYet c.take_turn-word.result)
    (returns-then-word-lt2-clause-answer g c)

pub returns-then-word-eq3-clause-held : goal.returns-then-word-eq3-clause-held
returns-then-word-eq3-clause-held g c =
    same_held g.T.Share.fits c.args.place c.args.seat.now.hold c.take_turn-word.new.seat.me.0.hold (Busy c.take_turn-word.result)
    (returns-then-word-eq3-clause-answer g c)

pub returns-clause-held : goal.returns-clause-held
returns-clause-held g c = same_held g.T.Share.fits c.args.place c.args.seat.now.hold c.share_value.new.seat.me.0.hold _ (returns-clause-answer g c)
