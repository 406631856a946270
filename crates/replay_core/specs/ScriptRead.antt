-- How the reader of scripts reads numbers.
use Rattle.std.specs.Prelude.{ℕ, ◌≡◌, ◌≤◌, ◌^◌, true, List, Option, Some, None}
use Rattle.std.specs.Str.Parse.{digits_value}
use Rattle.replay_core.specs.Script.{is_numeral}

-- the number of these digits, or none where they are no digits or come to 2 ^ 32 or more
abbrev pub IsNumberOf : List ℕ → Option ℕ → Type 0
IsNumberOf word None = is_numeral word ≡ true → 2 ^ 32 ≤ digits_value 10 word
IsNumberOf word (Some number) = (is_numeral word ≡ true) × (digits_value 10 word ≡ number)
