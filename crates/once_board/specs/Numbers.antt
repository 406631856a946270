-- Lists of numbers, as rights and claims are kept: how often each number stands in them, and sums over lists.
use Rattle.std.specs.Prelude.{ℕ, zero, suc, ◌+◌, ◌==◌, nat_le, List, [], ◌∷◌, if◌then◌else◌, Option, Some, None}

-- a number for each item, added up
abbrev pub total : {V : Type 0} → (V → ℕ) → List V → ℕ
total f [] = 0
total f (v ∷ vs) = f v + total f vs

-- how often a number stands in a list
abbrev pub times : ℕ → List ℕ → ℕ
times x [] = 0
times x (y ∷ ys) = (if y == x then 1 else 0) + times x ys

-- a list without the first place at which a number stands
abbrev pub without : ℕ → List ℕ → List ℕ
without x [] = []
without x (y ∷ ys) = if y == x then ys else (y ∷ without x ys)

-- the number that is given, or none
abbrev pub given : Option ℕ → List ℕ
given None = []
given (Some x) = x ∷ []

-- a list without the number that is given
abbrev pub kept : Option ℕ → List ℕ → List ℕ
kept None xs = xs
kept (Some x) xs = without x xs

-- the numbers below another, each once
unfoldable pub below : ℕ → List ℕ
below zero = []
below (suc n) = n ∷ below n

-- how many parts there are, and how many rights there can be
unfoldable pub all_parts : ℕ
all_parts = 4_294_967_296

-- every right, once
unfoldable pub every_right : List ℕ
every_right = below all_parts

-- of two or more parts, one is given
abbrev pub part_given : ℕ → ℕ
part_given n = if nat_le 2 n then 1 else 0
