use Rattle.std.proofs.Common.{◌∙◌, ap, subst}
use Rattle.once_board.specs.Places.{record_of, met, unread}
use Rattle.once_board.specs.Holds.{Agrees, Extends, OwnsAll}
use Rattle.once_board.proofs.Records.{record_of-together, record_of-unread}
use Rattle.once_board.proofs.TellStep.{told_agrees, told_extends, told_owns}
use Rattle.once_board.proofs.board.Board.tell.Goals as goal

pub returns-clause-places : goal.returns-clause-places
returns-clause-places g c = λ place.
    let a = c.to.inside.seat.me.0.hold.places in
    let b = c.from.inside.seat.me.0.hold.places in
    ap (λ m. record_of m.0.hold.places place) c.tell_seat.ensures.to
    ∙ (record_of-together a _ place
    ∙ (ap (λ k. met (record_of a place) k) (record_of-unread b place)
    ∙ (λ i. met (record_of ((c.to.view_is i).hold.places) place) (unread (record_of ((c.from.view_is i).hold.places) place)))))

pub returns-clause-agree : goal.returns-clause-agree
returns-clause-agree g c =
    let known = told_agrees _ _ c.from.inside.seat.me.0.hold _ c.tell_seat.ensures.met in
    subst (λ s. Agrees s.hold c.args.from.now.hold) c.to.view_is (subst (λ s. Agrees c.to.inside.seat.me.0.hold s.hold) c.from.view_is known)

pub returns-clause-extends : goal.returns-clause-extends
returns-clause-extends g c = (
  subst (λ s. Extends s.hold c.tell_seat.new.to.me.0.hold) c.to.view_is c.tell_seat.ensures.met.extends_first,
  subst (λ s. Extends s.hold c.tell_seat.new.to.me.0.hold) c.from.view_is (told_extends _ _ c.from.inside.seat.me.0.hold _ c.tell_seat.ensures.met),
)

pub returns-clause-owns : goal.returns-clause-owns
returns-clause-owns g c = (
  subst (λ b. OwnsAll b.owners c.args.to.now.hold c.tell_seat.new.to.me.0.hold) c.self.view_is
      (subst (λ s. OwnsAll c.self.inside.table.shared.key s.hold c.tell_seat.new.to.me.0.hold) c.to.view_is c.tell_seat.ensures.met.owns_first),
  subst (λ b. OwnsAll b.owners c.args.from.now.hold c.tell_seat.new.to.me.0.hold) c.self.view_is
      (subst (λ s. OwnsAll c.self.inside.table.shared.key s.hold c.tell_seat.new.to.me.0.hold) c.from.view_is
      (told_owns _ _ c.from.inside.seat.me.0.hold _ c.tell_seat.ensures.met)),
)
