-- Contexts of numbers: states by names.
use Rattle.std.specs.Prelude.{ℕ, Bool, ◌&&◌, List, ◌∷◌}
use Rattle.zp_decoder.specs.States.{are_same, stored}
use Rattle.jb2_numbers.specs.declared.roots.Root.{Root}
use Rattle.jb2_numbers.specs.Roots.{is_same_root}

-- the name of a context: what the number is, and all decisions of this number before it, the last one first
pub record Name : Type 0 where
  pub root : Root
  pub decisions : List Bool

abbrev pub name : Root → List Bool → Name
name root decisions = record { root = root; decisions = decisions }

-- the name of a context with one decision more
abbrev pub further : Name → Bool → Name
further before decision = name before.root (decision ∷ before.decisions)

-- two names are the same where both parts are
abbrev pub is_same : Name → Name → Bool
is_same a b = is_same_root a.root b.root && are_same a.decisions b.decisions

-- the states, with this one at this name
abbrev pub store : (Name → ℕ) → Name → ℕ → Name → ℕ
store states at state other = stored is_same states at state other
