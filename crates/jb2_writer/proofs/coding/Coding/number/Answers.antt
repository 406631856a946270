use Rattle.std.proofs.Common.{◌≡◌, ◌+◌, ℕ, [], to_z, of_z, w32, rules, refl, sym, ap, ◌∙◌, arith}
use Rattle.std.specs.Prelude.{nat_le}
use Rattle.jb2_numbers.specs.Number.{wanted}
use Rattle.jb2_writer.specs.Numbers.{HasDecided}
use Rattle.jb2_writer.proofs.Pathing.{first_decided, next_decided, none_left, all_decided, same_number, has_room, open_there}
use Rattle.jb2_writer.proofs.coding.Coding.number.Goals as goal

pub loop-count-init : goal.loop-count-init
loop-count-init c =
    first_decided _ _ c.is_open.result c.at_least-sign.result c.further-path.result c.args.self.now c.decide.new.self c.is_open.ensures
    (c.in_ok-decide.ensures [] refl) c.at_least-sign.ensures c.further-path.ensures

pub returns-in_default : goal.returns-in_default
returns-in_default c =
    let low : to_z w32 (of_z w32 c.args.low) ≡ c.args.low = search rules in
    let high : to_z w32 (of_z w32 c.args.high) ≡ c.args.high = search rules in
    let value : to_z w32 (of_z w32 c.args.value) ≡ c.args.value = search rules in
    let has : HasDecided (wanted c.args.root c.args.low c.args.high) c.args.value c.loop-count.count c.loop-count.path c.loop-count.phase
    c.args.self.now c.loop-count.self =
    same_number c.args.root _ _ _ _ _ _ c.loop-count.count c.loop-count.path c.loop-count.phase c.args.self.now c.loop-count.self low high value
    c.loop-count.invariant in
    none_left (wanted c.args.root c.args.low c.args.high) c.args.value c.loop-count.count c.loop-count.path c.loop-count.phase c.args.self.now
    c.loop-count.self has
    (sym c.cutoff.ensures ∙ c.in_default.is) (omega (arith, c.loop-count-test.true))

pub further-path-requires-in-loop-count : goal.further-path-requires-in-loop-count
further-path-requires-in-loop-count c = has_room c.loop-count.path c.loop-count.count c.loop-count.invariant.below c.loop-count-test.true

pub loop-count-preserved : goal.loop-count-preserved
loop-count-preserved c =
    next_decided _ _ c.loop-count.count c.loop-count.path c.in-Some.cutoff c.further-path-in-loop-count.result (c.loop-count.count + 1)
    c.reaches-decision.result c.is_open-in-loop-count.result c.loop-count.phase c.next-phase.result c.args.self.now c.loop-count.self
    c.decide-in-loop-count.new.self c.loop-count.invariant (sym c.cutoff.ensures ∙ c.in-Some.is)
    (c.reaches-decision.ensures ∙ ap (λ (size : ℕ). nat_le c.in-Some.cutoff size) c.size_of-size.ensures.size)
    (open_there _ _ _ _ _ _ c.is_open-in-loop-count.ensures c.size_of-size.ensures.low c.size_of-size.ensures.high)
    (c.in_ok-decide-2.ensures _ c.loop-count.invariant.digits) c.further-path-in-loop-count.ensures c.next-phase.ensures.keeps c.next-phase.ensures.fits refl

pub returns : goal.returns
returns c =
    let low : to_z w32 (of_z w32 c.args.low) ≡ c.args.low = search rules in
    let high : to_z w32 (of_z w32 c.args.high) ≡ c.args.high = search rules in
    let value : to_z w32 (of_z w32 c.args.value) ≡ c.args.value = search rules in
    let has : HasDecided (wanted c.args.root c.args.low c.args.high) c.args.value c.loop-count.count c.loop-count.path c.loop-count.phase
    c.args.self.now c.loop-count.self =
    same_number c.args.root _ _ _ _ _ _ c.loop-count.count c.loop-count.path c.loop-count.phase c.args.self.now c.loop-count.self low high value
    c.loop-count.invariant in
    all_decided (wanted c.args.root c.args.low c.args.high) c.args.value c.loop-count.count c.loop-count.path c.loop-count.phase c.args.self.now
    c.loop-count.self has
    (omega (arith, c.loop-count-test.false, c.loop-count.auto.count-end))
