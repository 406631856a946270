-- How the code keeps decisions, phases and contexts.
use Rattle.std.specs.Prelude.{◌≡◌, ℕ, zero, suc, ◌/◌, ◌%◌, ◌<◌, ◌≤◌, ◌==◌, ◌⊎◌, Bool, true, false, List, [], ◌∷◌, length, get_or, Option, Some, None}
use Rattle.jb2_numbers.specs.declared.roots.Root.{Root}
use Rattle.jb2_numbers.specs.declared.contexts.Cell.{Cell}
use Rattle.jb2_numbers.specs.declared.paths.Path.{Path}
use Rattle.jb2_numbers.specs.declared.phases.Side.{Side as KeptSide}
use Rattle.jb2_numbers.specs.declared.phases.Phase.{Phase as KeptPhase}
use Rattle.jb2_numbers.specs.declared.phases.Phase.TheVariants as kept
use Rattle.jb2_numbers.specs.Roots.{root_index}
use Rattle.jb2_numbers.specs.Contexts.{Name, name, further}
use Rattle.jb2_numbers.specs.Phases.{Side, Phase, Sign, Doubling, Halving, Known}

-- decisions are so many digits, the last one lowest
abbrev pub digits : ℕ → ℕ → List Bool
digits zero bits = []
digits (suc count) bits = (bits % 2 == 1) ∷ digits count (bits / 2)

abbrev pub decisions_in : Path → List Bool
decisions_in path = digits path.count path.bits

abbrev pub side_in : KeptSide → Side
side_in side = record { negative = side.negative; low = side.low; high = side.high }

abbrev pub phase_in : KeptPhase → Phase
phase_in (kept.Sign low high) = Sign low high
phase_in (kept.Doubling side cutoff) = Doubling (side_in side) cutoff
phase_in (kept.Halving side cutoff range) = Halving (side_in side) cutoff range
phase_in (kept.Known value) = Known value

-- what only the contexts themselves read: a cell for each context that was reached, those of the roots first
pub record Numbers : Type 0 where
  pub cells : List Cell

-- in state 0, and no cell follows
abbrev pub start : Cell
start = record { state = 0; after_false = 0; after_true = 0 }

abbrev pub link : Cell → Bool → ℕ
link cell true = cell.after_true
link cell false = cell.after_false

abbrev pub with_link : Cell → Bool → ℕ → Cell
with_link cell true next = record { state = cell.state; after_false = cell.after_false; after_true = next }
with_link cell false next = record { state = cell.state; after_false = next; after_true = cell.after_true }

-- no decision leads to the cell of a root, so 0 links to none
abbrev pub linked : ℕ → Option ℕ
linked zero = None
linked (suc at) = Some (suc at)

abbrev pub next_cell : List Cell → Bool → Option ℕ → Option ℕ
next_cell cells decision None = None
next_cell cells decision (Some at) = linked (link (get_or cells at start) decision)

-- the cell that decisions lead to from a root, if there is one
abbrev pub cell_after : List Cell → Root → List Bool → Option ℕ
cell_after cells root [] = Some (root_index root)
cell_after cells root (decision ∷ decisions) = next_cell cells decision (cell_after cells root decisions)

abbrev pub state_in : List Cell → Option ℕ → ℕ
state_in cells None = 0
state_in cells (Some at) = (get_or cells at start).state

-- the states by name: 0 where a name has no cell
unfoldable pub states_of : Numbers → Name → ℕ
states_of numbers at = state_in numbers.cells (cell_after numbers.cells at.root at.decisions)

-- this is the cell of the context with a name
pub record IsCell (numbers : Numbers) (of : Name) (at : ℕ) : Type 0 where
  pub leads : cell_after numbers.cells of.root of.decisions ≡ Some at
  pub within : at < length numbers.cells

-- each cell has one name: that of a root, or the one of the cell that links to it, with a decision more
pub record AreNamed (names : ℕ → Name) (cells : List Cell) : Type 0 where
  pub roots : (root : Root) → names (root_index root) ≡ name root []
  pub within : (at : ℕ) (decision : Bool) (next : ℕ) → linked (link (get_or cells at start) decision) ≡ Some next → next < length cells
  pub named : (at : ℕ) (decision : Bool) (next : ℕ) → linked (link (get_or cells at start) decision) ≡ Some next → names next ≡ further (names at) decision
  pub room : (length cells ≡ 0) ⊎ (16 ≤ length cells)

abbrev pub HaveNames : List Cell → Type 0
HaveNames cells = (names : ℕ → Name) × AreNamed names cells
