-- The rule of a board in plain words. It follows from `Rule`, which says more, so that each step can keep it.
use Rattle.std.specs.Prelude.{◌≡◌, ◌≢◌, ℕ, suc, ◌≤◌, ◌<◌, List, length, Option, Some, None, slice_index}
use mathlib.Core.Option.{some}
use lib.ListN.{get_elem?}
use Rattle.atomic_table.specs.Table.{State}
use Rattle.once_board.specs.declared.holds.Seen.{Seen}
use Rattle.once_board.specs.declared.owners.Owner.{Owner}
use Rattle.once_board.specs.Numbers.{times, total}
use Rattle.once_board.specs.Places.{IsPrivate, record_of}
use Rattle.once_board.specs.Rule.{turn_of, one_if_some}

module _ {T : Type 0} (s : State (Option T) (Seen T)) where
  -- the word of a place
  abbrev pub place_word : ℕ → ℕ
  place_word place = slice_index s.words (suc place)

  abbrev pub IsSeat : ℕ → Seen T → Type 0
  IsSeat seat v = get_elem? s.views seat ≡ some v

  -- every record of a place that has a value has this one
  abbrev pub AllAgree : ℕ → T → Type 0
  AllAgree place x = (seat : ℕ) (v : Seen T) (y : T) → IsSeat seat v → (record_of v.hold.places place).value ≡ Some y → y ≡ x

  -- no record has a value of a place
  abbrev pub NoneKnows : ℕ → Type 0
  NoneKnows place = (seat : ℕ) (v : Seen T) → IsSeat seat v → (record_of v.hold.places place).value ≡ None

  -- how many claims of a place all seats have, and how many of them have its turn
  abbrev pub claims_of : ℕ → ℕ
  claims_of place = total (λ v. times place v.hold.claims) s.views

  abbrev pub turns_of : ℕ → ℕ
  turns_of place = total (λ v. one_if_some (turn_of place v.stage)) s.views

pub record Stated {T : Type 0} (fits : ℕ → T → Type 0) (owners : List Owner) (s : State (Option T) (Seen T)) : Type 0 where
  -- a place with the word 0 is in no seat's claims and has no value: no record has one, and its slot is empty
  pub free : (place : ℕ) → place_word s place ≡ 0 → (claims_of s place ≡ 0) × NoneKnows s place
  pub empty : (place : ℕ) → place < length s.homes → place_word s place ≡ 0 → get_elem? s.homes place ≡ some (some None)
  -- a place with the word 1 is in the claims of one seat, and no record has its value
  pub claimed : (place : ℕ) → place_word s place ≡ 1 → (claims_of s place ≡ 1) × NoneKnows s place
  -- a place with the word 2 or 3 has a value, which fits and is that of every record of it
  pub has_value : (place : ℕ) → 2 ≤ place_word s place → (x : T) × fits place x × AllAgree s place x
  -- with the word 2 the value is at home; with 3 one seat has the turn, and the value is with it
  pub at_home : (place : ℕ) → place < length s.homes → place_word s place ≡ 2
      → (x : T) × (get_elem? s.homes place ≡ some (some (Some x))) × fits place x × AllAgree s place x
  pub one_turn : (place : ℕ) → place_word s place ≡ 3 → turns_of s place ≡ 1
  pub in_hand : (place seat : ℕ) (v : Seen T) (x : T) → IsSeat s seat v → turn_of place v.stage ≡ Some x
      → (place_word s place ≡ 3) × fits place x × AllAgree s place x
  pub no_other_word : (place : ℕ) → place_word s place < 4
  -- each right is in one seat
  pub one_seat : (right : ℕ) → right < 4_294_967_296 → total (λ v. times right v.hold.rights) s.views ≡ 1
  -- a place whose word isn't 0 is in the claims of exactly one seat, and a seat with claims has a part
  pub one_claim : (place : ℕ) → place_word s place ≢ 0 → claims_of s place ≡ 1
  pub has_part : (seat : ℕ) (v : Seen T) (place : ℕ) → IsSeat s seat v → 1 ≤ times place v.hold.claims → 1 ≤ v.hold.parts
  -- the parts of all seats
  pub parts : total (λ v. v.hold.parts) s.views ≡ 4_294_967_296
  -- a private place whose word isn't 0 is shown as claimed or open in the record of the seat that has its right
  pub shown : (seat : ℕ) (v : Seen T) (place right : ℕ) → IsSeat s seat v → IsPrivate owners place right → 1 ≤ times right v.hold.rights
      → place_word s place ≢ 0 → 1 ≤ (record_of v.hold.places place).word
  -- a word that a record saw as 1 is now at least 1, and one seen as 2 or 3 is now at least 2
  pub stays_claimed : (seat : ℕ) (v : Seen T) (place : ℕ) → IsSeat s seat v → 1 ≤ (record_of v.hold.places place).word → 1 ≤ place_word s place
  pub stays_open : (seat : ℕ) (v : Seen T) (place : ℕ) → IsSeat s seat v → 2 ≤ (record_of v.hold.places place).word → 2 ≤ place_word s place
