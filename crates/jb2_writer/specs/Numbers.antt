-- How the code goes through the decisions of a number.
use Rattle.std.specs.Prelude.{◌≡◌, ℕ, ◌+◌, ◌^◌, ◌<◌, ◌≤◌, ℤ, Bool, true, false, List, [], ◌∷◌, Option, Some, None, ⊤}
use Rattle.jb2_numbers.specs.Contexts.{Name}
use Rattle.jb2_numbers.specs.Phases.{Side, Phase, Doubling, Halving, is_known, at_least, side_of}
use Rattle.jb2_numbers.specs.Number.{Wanted, phase_after, first_decisions}
use Rattle.jb2_writer.specs.declared.numbers.Phase.{Phase as Kept}
use Rattle.jb2_writer.specs.declared.numbers.Phase.TheVariants as kept
use Rattle.jb2_writer.specs.declared.coding.Coding.{Coding}
use Rattle.jb2_writer.specs.Coded.{Coded, Bit, Number, coded_of}
use Rattle.jb2_writer.specs.Coding.{Adds, path_number}

-- what the code keeps stands for this phase of a number whose size has these bounds
abbrev pub Keeps : Side → Kept → Phase → Type 0
Keeps side (kept.Doubling cutoff) at = at ≡ Doubling side cutoff
Keeps side (kept.Halving cutoff range) at = at ≡ Halving side cutoff range
Keeps side kept.Known at = is_known at ≡ true

-- cutoffs and ranges are as large as numbers make them
abbrev pub Fits : Kept → Type 0
Fits (kept.Doubling cutoff) = (1 ≤ cutoff) × (cutoff < 0x80000)
Fits (kept.Halving cutoff range) = (2 ≤ range) × (range ≤ cutoff) × (cutoff + range < 0x100000)
Fits kept.Known = ⊤

-- the cutoff may double
abbrev pub MayDouble : Kept → Type 0
MayDouble (kept.Doubling cutoff) = cutoff < 0x40000
MayDouble (kept.Halving cutoff range) = ⊤
MayDouble kept.Known = ⊤

abbrev pub cutoff_of : Kept → Option ℕ
cutoff_of (kept.Doubling cutoff) = Some cutoff
cutoff_of (kept.Halving cutoff range) = Some cutoff
cutoff_of kept.Known = None

-- a decision that is coded, or isn't
abbrev pub coded_if : Bool → Name → Bool → List Coded
coded_if true at bit = Bit (Number at) bit ∷ []
coded_if false at bit = []

abbrev pub side_for : Wanted → ℤ → Side
side_for number value = side_of number.low number.high (at_least value 0)

-- so many decisions of a value were coded, and this is what is kept of it then
pub record HasDecided (number : Wanted) (value : ℤ) (count path : ℕ) (kept : Kept) (old new : Coding) : Type 0 where
  pub adds : Adds (coded_of number (first_decisions count number value)) old new
  pub digits : path_number (first_decisions count number value) ≡ path
  pub below : path < 2 ^ (count + 1)
  pub keeps : Keeps (side_for number value) kept (phase_after number (first_decisions count number value))
  pub fits : Fits kept
