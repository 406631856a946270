-- Taking on a file, reading by reading.
use Rattle.std.proofs.Common.{◌≡◌, ◌≢◌, ℕ, zero, suc, ◌+◌, ◌<◌, ◌≤◌, ◌⊎◌, inl, inr, List, [], ◌∷◌, refl, sym, ap, subst, ◌∙◌, arith, Some, None}
use mathlib.Core.Logic.{dite}
use native.Mathlib.Decide.{ℕ_discrete}
use Rattle.once_board.specs.declared.holds.Known.{Known}
use Rattle.once_board.specs.declared.holds.Hold.{Hold}
use Rattle.once_board.specs.Boards.{Finds}
use Rattle.once_board.specs.Holds.{won, saw}
use Rattle.once_board.specs.Places.{record_of, read, opened}
use Rattle.once_board.specs.Told.{Follows, WasNew}
use Rattle.once_board.proofs.Lemmas.{noted_here}
use Rattle.file_shelf.specs.declared.taking.Taking.{Taking}
use Rattle.file_shelf.specs.declared.taking.Taking.TheVariants as taking
use Rattle.file_shelf.specs.Shelves.{WasRead, FindsResult, TakesAfter, IsRead}

module _ {R : Type 0} (fits : ℕ → R → Type 0) (file : ℕ) where
  module _ (word : ℕ) (before : Hold R) (follows : Follows word (record_of before.places file)) where
    there : record_of (saw file word before).places file ≡ read word (record_of before.places file)
    there = noted_here before.places file (read word (record_of before.places file))

    was_new : WasNew file (saw file word before) → WasNew file before
    was_new new = record {
      no_word =
          let none : word ≡ 0 = ap (λ (k : Known R). k.word) (sym there) ∙ new.no_word in
          none_below (record_of before.places file).word none follows.still_claimed;
      no_value = ap (λ (k : Known R). k.value) (sym there) ∙ new.no_value;
      no_claim = new.no_claim;
      no_put = new.no_put;
    }
      where
        none_below : (n : ℕ) → word ≡ 0 → (1 ≤ n → 1 ≤ word) → n ≡ 0
        none_below zero none h = refl
        none_below (suc n) none h = absurd (let more = h (omega arith) in omega arith)

    read_more : (last : ℕ) (after : Hold R) → WasRead file last (saw file word before) after → WasRead file last before after
    read_more last after is = record {
      more =
          let now : (record_of (saw file word before).places file).readings ≡ (record_of before.places file).readings + 1
          = ap (λ (k : Known R). k.readings) there in
          let more = is.more in
          omega arith;
      last = is.last;
    }

    follow_on : (later : ℕ) → Follows later (record_of (saw file word before).places file) → Follows later (record_of before.places file)
    follow_on later is = record {
      still_claimed = λ h. is.still_claimed (let up = follows.still_claimed h in
          let now : (record_of (saw file word before).places file).word ≡ word = ap (λ (k : Known R). k.word) there in omega arith);
      still_open = λ h. is.still_open (let up = follows.still_open h in
          let now : (record_of (saw file word before).places file).word ≡ word = ap (λ (k : Known R). k.word) there in omega arith);
      open_value = λ x known. is.open_value x (ap (λ (k : Known R). k.value) there ∙ known);
    }

    find_on : (after : Hold R) (x : R) → FindsResult fits file (saw file word before) after x → FindsResult fits file before after x
    find_on after x is = record {
      words = word ∷ is.words;
      now = is.now;
      fit = is.fit;
      known = λ y known. is.known y (ap (λ (k : Known R). k.value) there ∙ known);
    }

    -- what comes after a word was read
    pub reads_on : (first : List ℕ) (after : Hold R) (answer : Taking R) → IsRead answer
        → TakesAfter fits first file (saw file word before) after answer → TakesAfter fits first file before after answer
    reads_on first after (taking.Claimed claim) none is = absurd none
    reads_on first after (taking.Taken last) none is = (is.0, (word ∷ is.1.0, is.1.1), read_more last after is.2, follow_on last is.3)
    reads_on first after (taking.Ready x) none is = (find_on after x is.0, read_more 2 after is.1)
    reads_on first after taking.OutOfMemory none is = ((is.0.0, find_on after is.0.0 is.0.1), read_more 2 after is.1)

    pub takes_on : (first : List ℕ) (after : Hold R) (answer : Taking R) → TakesAfter fits first file (saw file word before) after answer
        → TakesAfter fits (word ∷ first) file before after answer
    takes_on first after (taking.Claimed claim) is = (is.0, is.1, was_new is.2)
    takes_on first after (taking.Taken last) is = reads_on first after (taking.Taken last) tt is
    takes_on first after (taking.Ready x) is = reads_on first after (taking.Ready x) tt is
    takes_on first after taking.OutOfMemory is = reads_on first after taking.OutOfMemory tt is
