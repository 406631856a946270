use Rattle.std.proofs.Common.{◌≡◌, ◌+◌, ◌≤◌, ◌∙◌, ap, arith}
use Rattle.once_board.specs.Numbers.{times}
use Rattle.once_board.specs.Places.{record_of, met}
use Rattle.once_board.proofs.Sums.{times-append}
use Rattle.once_board.proofs.Records.{record_of-together}
use Rattle.once_board.proofs.board.Board.join.Goals as goal

pub returns-clause-places : goal.returns-clause-places
returns-clause-places g c = λ place.
    ap (λ m. record_of m.0.hold.places place) c.join_seats.ensures.joined
    ∙ (record_of-together c.seat.inside.seat.me.0.hold.places c.other.inside.seat.me.0.hold.places place
    ∙ (λ i. met (record_of ((c.seat.view_is i).hold.places) place) (record_of ((c.other.view_is i).hold.places) place)))

pub returns-clause-rights : goal.returns-clause-rights
returns-clause-rights g c = λ right.
    ap (λ m. times right m.0.hold.rights) c.join_seats.ensures.joined
    ∙ (times-append right c.seat.inside.seat.me.0.hold.rights c.other.inside.seat.me.0.hold.rights
    ∙ (λ i. times right (c.seat.view_is i).hold.rights + times right (c.other.view_is i).hold.rights))

pub returns-clause-claims : goal.returns-clause-claims
returns-clause-claims g c = λ place.
    ap (λ m. times place m.0.hold.claims) c.join_seats.ensures.joined
    ∙ (times-append place c.seat.inside.seat.me.0.hold.claims c.other.inside.seat.me.0.hold.claims
    ∙ (λ i. times place (c.seat.view_is i).hold.claims + times place (c.other.view_is i).hold.claims))

pub returns-clause-puts : goal.returns-clause-puts
returns-clause-puts g c = λ place.
    ap (λ m. times place m.0.hold.puts) c.join_seats.ensures.joined
    ∙ (times-append place c.seat.inside.seat.me.0.hold.puts c.other.inside.seat.me.0.hold.puts
    ∙ (λ i. times place (c.seat.view_is i).hold.puts + times place (c.other.view_is i).hold.puts))

pub returns-clause-one_holder : goal.returns-clause-one_holder
returns-clause-one_holder g c = λ right.
    let one : times right c.join_seats.new.seat.me.0.hold.rights ≤ 1 = c.join_seats.ensures.sound.rights_once right in
    let sum : times right c.join_seats.new.seat.me.0.hold.rights ≡ times right c.args.seat.now.hold.rights + times right c.args.other.hold.rights
    = returns-clause-rights g c right in
    omega arith

pub returns-clause-apart : goal.returns-clause-apart
returns-clause-apart g c = λ place.
    let one : times place c.join_seats.new.seat.me.0.hold.claims ≤ 1 = (c.join_seats.ensures.sound.once place).0 in
    let sum : times place c.join_seats.new.seat.me.0.hold.claims ≡ times place c.args.seat.now.hold.claims + times place c.args.other.hold.claims
    = returns-clause-claims g c place in
    omega arith

pub returns-clause-put_once : goal.returns-clause-put_once
returns-clause-put_once g c = λ place.
    let one : times place c.join_seats.new.seat.me.0.hold.claims ≤ 1 = (c.join_seats.ensures.sound.once place).0 in
    let few : times place c.join_seats.new.seat.me.0.hold.puts ≤ times place c.join_seats.new.seat.me.0.hold.claims =
    (c.join_seats.ensures.sound.once place).1 in
    let sum : times place c.join_seats.new.seat.me.0.hold.puts ≡ times place c.args.seat.now.hold.puts + times place c.args.other.hold.puts
    = returns-clause-puts g c place in
    omega arith
