-- How many calls to come fail, before and after a call.
use Rattle.std.proofs.Common.{◌+◌, ◌^◌, ◌≤◌, ◌||◌, ℕ, Bool, true, false, cond, eqb, leb, ltb, length, List, [], ◌∷◌, Option, None, Some, arith}
use Rattle.std.specs.Bool.{OnTrue}
use Rattle.std.proofs.lemmas.Bool.Decides.{nat_tests}
use Rattle.djvu_outside.specs.Calls.{Numbered, has_number, fails_at, number_after, count_from, failures_from, failures_left, is_failing, after_call}

more : (number first before after : ℕ) (listed : Bool) → after + cond listed 1 0 ≤ before → cond (leb (number + 1) first) 1 0 + after + cond (eqb first number || listed) 1 0 ≤ cond (leb number first) 1 0 + before
more number first before after true h = grind (arith, nat_tests)
more number first before after false h = grind (arith, nat_tests)

-- of the calls from the next number on, one fewer fails than from this one on, where this one fails
count_from-suc : (number : ℕ) (failing : List ℕ) → count_from (number + 1) failing + cond (has_number failing number) 1 0 ≤ count_from number failing
count_from-suc number [] = omega arith
count_from-suc number (first ∷ failing) =
    more number first (count_from number failing) (count_from (number + 1) failing) (has_number failing number) (count_from-suc number failing)

within : (few : Bool) (number : ℕ) (failing : List ℕ) (one before : ℕ) → count_from (number + 1) failing + one ≤ before → failures_from (cond few (Some (number + 1)) None) failing + one ≤ before
within true number failing one before h = h
within false number failing one before h = omega arith

failures_from-after : (next : Option ℕ) (failing : List ℕ) → failures_from (number_after next) failing + cond (fails_at next failing) 1 0 ≤ failures_from next failing
failures_from-after None failing = omega arith
failures_from-after (Some number) failing = within (ltb (number + 1) (2 ^ 64)) number failing _ _ (count_from-suc number failing)

pub failures_left-after : (calls : Numbered) → failures_left (after_call calls) ≤ failures_left calls
failures_left-after calls = omega (arith, failures_from-after calls.next calls.failing)

one_fewer : (fails : Bool) (before after : ℕ) → after + cond fails 1 0 ≤ before → OnTrue fails (after + 1 ≤ before)
one_fewer true before after h = h
one_fewer false before after h = tt

pub failures_left-after_failing : (calls : Numbered) → OnTrue (is_failing calls) (failures_left (after_call calls) + 1 ≤ failures_left calls)
failures_left-after_failing calls = one_fewer (is_failing calls) _ _ (failures_from-after calls.next calls.failing)

pub count_from-le : (number : ℕ) (failing : List ℕ) → count_from number failing ≤ length failing
count_from-le number [] = omega arith
count_from-le number (first ∷ failing) = let h = count_from-le number failing in grind (arith, nat_tests)
