-- States of contexts by their names, of which a test says whether two are the same. A name may be a list of bits.
use Rattle.std.specs.Prelude.{ℕ, ◌<◌, Bool, true, false, ◌&&◌, List, [], ◌∷◌, if◌then◌else◌}

-- the states of contexts that are named by bits
abbrev pub States : Type 0
States = List Bool → ℕ

-- at the start of a chunk every state is 0
abbrev pub fresh : {Name : Type 0} → Name → ℕ
fresh name = 0

abbrev pub is_same_bit : Bool → Bool → Bool
is_same_bit true b = b
is_same_bit false true = false
is_same_bit false false = true

-- whether two lists of bits are the same
abbrev pub are_same : List Bool → List Bool → Bool
are_same [] [] = true
are_same [] (b ∷ bs) = false
are_same (a ∷ as') [] = false
are_same (a ∷ as') (b ∷ bs) = is_same_bit a b && are_same as' bs

-- the states, with this one at this name
abbrev pub stored : {Name : Type 0} → (Name → Name → Bool) → (Name → ℕ) → Name → ℕ → Name → ℕ
stored is_same states name state other = if is_same name other then state else states other

-- the same, where bits are the name
abbrev pub with_state : States → List Bool → ℕ → States
with_state states bits state other = stored are_same states bits state other

-- each state is one of so many
abbrev pub AreBelow : {Name : Type 0} → ℕ → (Name → ℕ) → Type 0
AreBelow {Name} count states = (name : Name) → states name < count
