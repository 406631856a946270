-- What contracts see of a shelf, and what taking on a file answers.
use Rattle.std.specs.Prelude.{◌≡◌, ℕ, suc, ◌+◌, ◌≤◌, ◌<◌, ◌⊎◌, List, [], ◌∷◌, length, Some}
use Rattle.once_board.specs.declared.holds.Hold.{Hold}
use Rattle.once_board.specs.declared.owners.Owner.{Owner}
use Rattle.once_board.specs.Holds.{won, saw, looked}
use Rattle.once_board.specs.Places.{IsFree, record_of}
use Rattle.once_board.specs.Told.{Follows, WasNew}
use Rattle.file_shelf.specs.declared.taking.Taking.{Taking}
use Rattle.file_shelf.specs.declared.taking.Taking.TheVariants as taking

-- a place for each file, which any seat may claim
pub record IsShelf (owners : List Owner) : Type 0 where
  pub free : (file : ℕ) → IsFree owners file
  pub few : length owners ≤ 1_024

module _ {R : Type 0} where
  -- after these words were read at a place, the first one first
  abbrev pub saw_all : ℕ → List ℕ → Hold R → Hold R
  saw_all file [] h = h
  saw_all file (word ∷ words) h = saw_all file words (saw file word h)

  -- this word was read at the place of a file in this call, and it is the last that was
  pub record WasRead (file word : ℕ) (before after : Hold R) : Type 0 where
    pub more : (record_of before.places file).readings < (record_of after.places file).readings
    pub last : (record_of after.places file).last ≡ word

  -- after some words were read, the result of a file was: it may stand there, and it is what the seat knew, if it knew one
  pub record FindsResult (fits : ℕ → R → Type 0) (file : ℕ) (before after : Hold R) (result : R) : Type 0 where
    pub words : List ℕ
    pub now : after ≡ looked file result (saw_all file words before)
    pub fit : fits file result
    pub known : (x : R) → (record_of before.places file).value ≡ Some x → result ≡ x

  -- what taking on a file makes of a seat, by its answer, where a claim comes after these words were read
  abbrev pub TakesAfter : (ℕ → R → Type 0) → List ℕ → ℕ → Hold R → Hold R → Taking R → Type 0
  TakesAfter fits first file before after (taking.Claimed claim) =
      (claim ≡ file) × (after ≡ won file (saw_all file first before)) × WasNew file before
  TakesAfter fits first file before after (taking.Taken word) =
      ((word ≡ 1) ⊎ (word ≡ 3)) × ((words : List ℕ) × (after ≡ saw file word (saw_all file words before)))
      × WasRead file word before after × Follows word (record_of before.places file)
  TakesAfter fits first file before after (taking.Ready result) = FindsResult fits file before after result × WasRead file 2 before after
  TakesAfter fits first file before after taking.OutOfMemory = ((result : R) × FindsResult fits file before after result) × WasRead file 2 before after

  -- an answer that is no claim
  abbrev pub IsRead : Taking R → Type 0
  IsRead (taking.Claimed claim) = ⊥
  IsRead (taking.Taken word) = Unit {0}
  IsRead (taking.Ready result) = Unit {0}
  IsRead taking.OutOfMemory = Unit {0}

  -- a claim comes after one look, which read 0
  abbrev pub TakesOn : (ℕ → R → Type 0) → ℕ → Hold R → Hold R → Taking R → Type 0
  TakesOn fits file before after answer = TakesAfter fits (0 ∷ []) file before after answer
