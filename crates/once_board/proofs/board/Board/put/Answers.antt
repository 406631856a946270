use Rattle.std.proofs.Common.{◌≡◌, ◌≤◌, subst, sym, ap, ◌∙◌}
use Rattle.once_board.specs.Numbers.{times}
use Rattle.once_board.specs.Places.{record_of, opened}
use Rattle.once_board.proofs.Records.{noted_here}
use Rattle.once_board.specs.Holds.{Extends}
use Rattle.once_board.proofs.PutStep.{put_extends}
use Rattle.once_board.proofs.board.Board.put.Goals as goal

pub fill_place-requires-clause-unfilled : goal.fill_place-requires-clause-unfilled
fill_place-requires-clause-unfilled g c =
    c.seat.invariant.sound.awaits_puts c.args.place
    (subst (λ s. 1 ≤ times c.args.place s.hold.claims) (sym c.seat.view_is) c.requires.won)
    (subst (λ s. times c.args.place s.hold.puts ≡ 0) (sym c.seat.view_is) c.requires.unfilled)

pub returns-clause-place : goal.returns-clause-place
returns-clause-place g c =
    ap (λ m. record_of m.0.hold.places c.args.place) c.fill_place.ensures.put
    ∙ (noted_here c.seat.inside.seat.me.0.hold.places c.args.place (opened c.args.value (record_of c.seat.inside.seat.me.0.hold.places c.args.place))
    ∙ ap (λ s. opened c.args.value (record_of s.hold.places c.args.place)) c.seat.view_is)

pub returns-clause-extends : goal.returns-clause-extends
returns-clause-extends g c =
    let before = c.seat.inside.seat.me.0.hold in
    let unfilled = c.seat.invariant.sound.awaits_puts c.args.place
    (subst (λ s. 1 ≤ times c.args.place s.hold.claims) (sym c.seat.view_is) c.requires.won)
    (subst (λ s. times c.args.place s.hold.puts ≡ 0) (sym c.seat.view_is) c.requires.unfilled) in
    subst (λ s. Extends s.hold c.fill_place.new.seat.me.0.hold) c.seat.view_is
    (subst (λ m. Extends before m.0.hold) (sym c.fill_place.ensures.put) (put_extends c.args.place c.args.value before unfilled))
