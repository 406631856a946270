-- What is known of a number between its decisions (DjVu 3 reference, JB2). A decision says whether the number is at least
-- a cutoff.
use Rattle.std.specs.Prelude.{ℕ, ◌+◌, ◌-◌, ◌*◌, ◌/◌, ◌==◌, ℤ, pos, negsuc, Bool, true, false, not, Option, Some, None, nat_le, if◌then◌else◌}

-- the sign of a number, and the bounds of its size: a negative one is -size - 1
pub record Side : Type 0 where
  pub negative : Bool
  pub low : ℤ
  pub high : ℤ

-- what the next decision is about: the sign of a number from low to high; whether the size is at least the cutoff, which
-- doubles after a true; the same, with the range of sizes that is left, which is halved; nothing, the number is known
pub data Phase : Type 0 where
  Sign : ℤ → ℤ → Phase
  Doubling : Side → ℕ → Phase
  Halving : Side → ℕ → ℕ → Phase
  Known : ℤ → Phase

-- whether a whole number is at least a cutoff
abbrev pub at_least : ℤ → ℕ → Bool
at_least (pos n) cutoff = nat_le cutoff n
at_least (negsuc n) cutoff = false

-- -x - 1
abbrev pub opposite : ℤ → ℤ
opposite (pos n) = negsuc n
opposite (negsuc n) = pos n

-- the sign that a number has, and the bounds of its size
abbrev pub side_of : ℤ → ℤ → Bool → Side
side_of low high true = record { negative = false; low = low; high = high }
side_of low high false = record { negative = true; low = opposite high; high = opposite low }

abbrev pub number_of : Side → ℕ → ℤ
number_of side size = if side.negative then negsuc size else pos size

-- after a decision in the third phase range is halved, and this is the half
abbrev pub halved : Side → ℕ → ℕ → Bool → Phase
halved side cutoff range decision =
    if range == 1
    then Known (number_of side (if decision then cutoff else cutoff - 1))
    else Halving side (if decision then cutoff + range / 2 else cutoff - range / 2) range

-- at the first false of the second phase
abbrev pub settled : Side → ℕ → ℕ → Phase
settled side cutoff range = if range == 1 then Known (number_of side 0) else Halving side (cutoff - range / 2) range

abbrev pub next_phase : Phase → Bool → Phase
next_phase (Sign low high) decision = Doubling (side_of low high decision) 1
next_phase (Doubling side cutoff) true = Doubling side (2 * cutoff + 1)
next_phase (Doubling side cutoff) false = settled side cutoff ((cutoff + 1) / 2)
next_phase (Halving side cutoff range) decision = halved side cutoff (range / 2) decision
next_phase (Known value) decision = Known value

-- a decision is implied true where the low bound is at least the cutoff, and implied false where the high one is below
-- it; else it is coded
abbrev pub implied_by : ℤ → ℤ → ℕ → Option Bool
implied_by low high cutoff = if at_least low cutoff then Some true else if at_least high cutoff then None else Some false

abbrev pub implied : Phase → Option Bool
implied (Sign low high) = implied_by low high 0
implied (Doubling side cutoff) = implied_by side.low side.high cutoff
implied (Halving side cutoff range) = implied_by side.low side.high cutoff
implied (Known value) = None

-- whether no decision follows
abbrev pub is_known : Phase → Bool
is_known (Sign low high) = false
is_known (Doubling side cutoff) = false
is_known (Halving side cutoff range) = false
is_known (Known value) = true

-- decisions that the bounds allow
abbrev pub allows_by : ℤ → ℤ → ℕ → Bool → Bool
allows_by low high cutoff true = at_least high cutoff
allows_by low high cutoff false = not (at_least low cutoff)

abbrev pub allows : Phase → Bool → Bool
allows (Sign low high) decision = allows_by low high 0 decision
allows (Doubling side cutoff) decision = allows_by side.low side.high cutoff decision
allows (Halving side cutoff range) decision = allows_by side.low side.high cutoff decision
allows (Known value) decision = false

-- the size of a number: n of n and of -n - 1
abbrev pub size_of : ℤ → ℕ
size_of (pos n) = n
size_of (negsuc n) = n

-- what a number says in a phase: whether it is at least 0, and then whether its size is at least the cutoff
abbrev pub decided : ℤ → Phase → Bool
decided value (Sign low high) = at_least value 0
decided value (Doubling side cutoff) = nat_le cutoff (size_of value)
decided value (Halving side cutoff range) = nat_le cutoff (size_of value)
decided value (Known known) = false
