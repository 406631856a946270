-- The number of a name is below how many there are.
use Rattle.std.proofs.Common.{◌≡◌, ◌<◌, ℕ, suc, ◌+◌, Bool, true, false, cond, Some, None, List, [], ◌∷◌, length, arith}
use Rattle.std.specs.List.{position_from}
use Rattle.std.specs.Prelude.{bytes_eq}
use Rattle.include_graph.specs.Verdicts.{number_of}

some_is : (a b : ℕ) → Some a ≡ Some b → a ≡ b
some_is a b e = let same : Some a ≡ Some b = e in cc

position_below : (test : List ℕ → Bool) (names : List (List ℕ)) (first target : ℕ) → position_from test first names ≡ Some target → target
    < first + length names
position_below test [] first target e = let none : None ≡ Some target = e in absurd (cc)
position_below test (name ∷ names) first target e = by (test name) (position_below test names (first + 1) target) e
  where
    by : (here : Bool) → (position_from test (first + 1) names ≡ Some target → target < first + 1 + length names)
        → cond here (Some first) (position_from test (first + 1) names) ≡ Some target → target < first + suc (length names)
    by true later e = let same = some_is first target e in omega (arith, same)
    by false later e = let below = later e in omega (arith, below)

pub number_below : (names : List (List ℕ)) (name : List ℕ) (target : ℕ) → number_of name names ≡ Some target → target < length names
number_below names name target e = let below = position_below (bytes_eq name) names 0 target e in omega (arith, below)
