-- Calls that are numbered from 0, of which some fail.
use Rattle.std.specs.Prelude.{ℕ, Bool, false, ◌+◌, ◌^◌, List, [], ◌∷◌, Option, Some, None, if◌then◌else◌, nat_lt, nat_le, ◌==◌}
use Rattle.std.specs.List.{list_any}

-- the numbers of the calls that fail, and the number of the next call: numbers end with their type, and a call that
-- has none never fails
pub record Numbered : Type 0 where
  pub failing : List ℕ
  pub next : Option ℕ

-- before the first call
abbrev pub numbered_from_0 : List ℕ → Numbered
numbered_from_0 failing = record { failing = failing; next = Some 0 }

abbrev pub has_number : List ℕ → ℕ → Bool
has_number failing number = list_any (λ failed. failed == number) failing

abbrev pub fails_at : Option ℕ → List ℕ → Bool
fails_at None failing = false
fails_at (Some number) failing = has_number failing number

-- whether the next call fails
abbrev pub is_failing : Numbered → Bool
is_failing calls = fails_at calls.next calls.failing

abbrev pub number_after : Option ℕ → Option ℕ
number_after None = None
number_after (Some number) = if nat_lt (number + 1) (2 ^ 64) then Some (number + 1) else None

-- after the next call
abbrev pub after_call : Numbered → Numbered
after_call calls = record { failing = calls.failing; next = number_after calls.next }

abbrev pub count_from : ℕ → List ℕ → ℕ
count_from number [] = 0
count_from number (first ∷ failing) = (if nat_le number first then 1 else 0) + count_from number failing

abbrev pub failures_from : Option ℕ → List ℕ → ℕ
failures_from None failing = 0
failures_from (Some number) failing = count_from number failing

-- no more of the calls to come fail than so many
abbrev pub failures_left : Numbered → ℕ
failures_left calls = failures_from calls.next calls.failing
