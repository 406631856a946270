-- What it means that a record can be written: its fields are numbers between their bounds, and nothing of it is wrong.
use Rattle.std.proofs.Common.{◌≡◌, ◌≤◌, ◌<◌, ◌+◌, ◌*◌, ℕ, Bool, true, false, not, ◌&&◌, ℤ, pos, ◌+ℤ◌, ◌-ℤ◌, ◌≤ℤ◌, refl, arith}
use Rattle.std.specs.Prelude.{Option, Some, None, int_le, nat_le, nat_lt, if◌then◌else◌}
use Rattle.std.proofs.lemmas.Int.{ints}
use Rattle.std.proofs.lemmas.Bool.{and_parts}
use Rattle.std.proofs.lemmas.Grind.{common_steps}
use Rattle.djvu_base.specs.declared.faults.FaultKind.{FaultKind}
use Rattle.djvu_base.specs.declared.faults.FaultKind.TheVariants as fault
use Rattle.jb2_numbers.specs.declared.roots.Root.{Root}
use Rattle.jb2_numbers.specs.Number.{Wanted, wanted, phase_after, decisions_of, first_decisions}
use Rattle.jb2_numbers.specs.Phases.{Known, implied, decided}
use Rattle.jb2_numbers.specs.Reader.{AreBounds}
use Rattle.jb2_records.specs.Reading.{fault_of_shape, most, least}
use Rattle.jb2_writer.specs.Refusal.{is_sound, is_from_to, is_unsigned}
use Rattle.jb2_writer.proofs.Numbering.{IsReached}

-- what the laws of numbers give
pub record NumberLaws : Type 0 where
  pub reached : (number : Wanted) (value : ℤ) → AreBounds number.low number.high → number.low ≤ℤ value → value ≤ℤ number.high →
      phase_after number (decisions_of number value) ≡ Known value
  pub own : (number : Wanted) (value : ℤ) (count : ℕ) (bit : Bool) → AreBounds number.low number.high → number.low ≤ℤ value → value ≤ℤ number.high →
      implied (phase_after number (first_decisions count number value)) ≡ Some bit →
      bit ≡ decided value (phase_after number (first_decisions count number value))

order_of : (a b : ℤ) → int_le a b ≡ true → a ≤ℤ b
order_of a b h = search (arith, h)

pub record IsBetween (low high value : ℤ) : Type 0 where
  pub from : low ≤ℤ value
  pub to : value ≤ℤ high

pub between : (low high value : ℤ) → is_from_to low high value ≡ true → IsBetween low high value
between low high value e =
    let parts = and_parts (int_le low value) (int_le value high) e in
    record { from = order_of low value parts.0; to = order_of value high parts.1 }

pub reached_between : NumberLaws → (root : Root) (low high value : ℤ) → AreBounds low high → IsBetween low high value → IsReached (wanted root low high) value
reached_between laws root low high value bounds is = record {
  reached = laws.reached (wanted root low high) value bounds is.from is.to;
  own = λ count bit e. laws.own (wanted root low high) value count bit bounds is.from is.to e;
}

pub natural_bounds : (low high : ℕ) → low ≤ high → high ≤ 262142 → AreBounds (pos low) (pos high)
natural_bounds low high order few = record { order = omega (arith, ints, order); least = omega (arith, ints); most = omega (arith, ints, few) }

pub signed_bounds : AreBounds least most
signed_bounds = record { order = omega (arith, ints); least = omega (arith, ints); most = omega (arith, ints) }

pub natural_between : (low high value : ℕ) → low ≤ value → value ≤ high → IsBetween (pos low) (pos high) (pos value)
natural_between low high value from to = record { from = omega (arith, ints, from); to = omega (arith, ints, to) }

pub naturals : (low high value : ℕ) → IsBetween (pos low) (pos high) (pos value) → (low ≤ value) × (value ≤ high)
naturals low high value is = let from = is.from in let to = is.to in (omega (arith, ints, from), omega (arith, ints, to))

pub few_unsigned : (value : ℕ) → is_unsigned value ≡ true → value ≤ 262142
few_unsigned value e = (naturals 0 262142 value (between (pos 0) most (pos value) e)).1

pub none_wrong : (given : Option FaultKind) → is_sound given ≡ true → given ≡ None
none_wrong None e = refl
none_wrong (Some kind) e = absurd (cc)

pub le_from : (a b : ℕ) → nat_le a b ≡ true → a ≤ b
le_from a b e = grind (arith, common_steps)

pub lt_from : (a b : ℕ) → nat_lt a b ≡ true → a < b
lt_from a b e = grind (arith, common_steps)

le_from_false : (a b : ℕ) → nat_lt a b ≡ false → b ≤ a
le_from_false a b e = grind (arith, common_steps)

-- ---- the sides of a shape

record HasNone (first second : Bool) : Type 0 where
  one : first ≡ true
  two : second ≡ false

none_by : (first second third : Bool) →
    (if not first then Some fault.Jb2ShapeSize else if second then Some fault.Jb2Limit else if third then Some fault.Jb2Limit else None) ≡ None →
    HasNone first second
none_by true false third e = record { one = refl; two = refl }
none_by true true third e = absurd (cc)
none_by false second third e = absurd (cc)

pub record IsSmall (shapes width height : ℕ) : Type 0 where
  pub wide : width ≤ 262142
  pub high : height ≤ 262142
  pub few : shapes + 1 ≤ 65536

pub small_sides : (limit shapes pixels width height : ℕ) → fault_of_shape limit shapes pixels (pos width) (pos height) ≡ None → IsSmall shapes width height
small_sides limit shapes pixels width height e =
    let none = none_by (nat_le width 65535 && nat_le height 65535) (nat_lt 65536 (shapes + 1)) (nat_lt limit (pixels + width * height)) e in
    let sides = and_parts (nat_le width 65535) (nat_le height 65535) none.one in
    let wide = le_from width 65535 sides.0 in
    let high = le_from height 65535 sides.1 in
    record { wide = omega (arith, wide); high = omega (arith, high); few = le_from_false 65536 (shapes + 1) none.two }

pub side_back : (side size : ℕ) → pos size +ℤ (pos side -ℤ pos size) ≡ pos side
side_back side size = omega (arith, ints)
