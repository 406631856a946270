-- What an answer to words says of what they mean.
use Rattle.std.specs.Prelude.{◌≡◌, ℕ, Result, Ok, Err}
use Rattle.viewer_words.specs.declared.commands.WordsError.{WordsError}
use Rattle.viewer_words.specs.declared.commands.WordsError.TheVariants.{Refused, OutOfMemory}

-- the value is that of the words, and a refused number is the number that they are refused by; want of memory says nothing
abbrev pub Answers : {T : Type 0} → Result T ℕ → Result T WordsError → Type 0
Answers meant (Ok value) = meant ≡ Ok value
Answers meant (Err (Refused number)) = meant ≡ Err number
Answers meant (Err OutOfMemory) = Unit {0}
