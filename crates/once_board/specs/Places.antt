-- What a seat knows of each place: a list of records by place, and of places after its end nothing is known.
use Rattle.std.specs.Prelude.{◌≡◌, ℕ, zero, suc, ◌+◌, ◌≤◌, max, List, [], ◌∷◌, map, Option, Some, None}
use Rattle.once_board.specs.declared.holds.Known.{Known}
use Rattle.once_board.specs.declared.owners.Owner.{Owner}
use Rattle.once_board.specs.declared.owners.Owner.TheVariants.{Free, Private}

-- whose a place is; each place after the last is free
abbrev pub owner_of : List Owner → ℕ → Owner
owner_of [] place = Free
owner_of (o ∷ os) zero = o
owner_of (o ∷ os) (suc place) = owner_of os place

-- the place is private to this right
abbrev pub IsPrivate : List Owner → ℕ → ℕ → Type 0
IsPrivate owners place right = owner_of owners place ≡ Private right

abbrev pub IsFree : List Owner → ℕ → Type 0
IsFree owners place = owner_of owners place ≡ Free

module _ {T : Type 0} where
  -- nothing is known of a place
  abbrev pub unknown : Known T
  unknown = record { word = 0; value = None; readings = 0; last = 0 }

  -- what is known of a place
  abbrev pub record_of : List (Known T) → ℕ → Known T
  record_of [] place = unknown
  record_of (k ∷ ks) zero = k
  record_of (k ∷ ks) (suc place) = record_of ks place

  -- the same records, but for one place
  abbrev pub noted : List (Known T) → ℕ → Known T → List (Known T)
  noted [] zero known = known ∷ []
  noted [] (suc place) known = unknown ∷ noted [] place known
  noted (k ∷ ks) zero known = known ∷ ks
  noted (k ∷ ks) (suc place) known = k ∷ noted ks place known

  -- a reading of this word
  abbrev pub read : ℕ → Known T → Known T
  read word k = record { word = word; value = k.value; readings = k.readings + 1; last = word }

  -- the value of an open place
  abbrev pub opened : T → Known T → Known T
  opened x k = record { word = 2; value = Some x; readings = k.readings; last = k.last }

  -- a place that this seat claimed
  abbrev pub claimed : Known T → Known T
  claimed k = record { word = 1; value = k.value; readings = k.readings; last = k.last }

  abbrev pub either_value : Option T → Option T → Option T
  either_value (Some x) other = Some x
  either_value None other = other

  -- what two seats know of a place together. The last word that was read is that of the first seat
  abbrev pub met : Known T → Known T → Known T
  met k l = record { word = max k.word l.word; value = either_value k.value l.value; readings = k.readings + l.readings; last = k.last }

  abbrev pub together : List (Known T) → List (Known T) → List (Known T)
  together [] ls = map (met unknown) ls
  together (k ∷ ks) [] = map (λ one. met one unknown) (k ∷ ks)
  together (k ∷ ks) (l ∷ ls) = met k l ∷ together ks ls

  -- what is known of a place, without who read it
  abbrev pub unread : Known T → Known T
  unread k = record { word = k.word; value = k.value; readings = 0; last = 0 }

  -- nothing that was known of a place is lost: it stays claimed, it stays open, and it has the same value
  pub record Grows (k l : Known T) : Type 0 where
    pub still_claimed : 1 ≤ k.word → 1 ≤ l.word
    pub still_open : 2 ≤ k.word → 2 ≤ l.word
    pub same_value : (x : T) → k.value ≡ Some x → l.value ≡ Some x
