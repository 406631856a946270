-- What a seat holds and knows, and what each call makes of it.
use Rattle.std.specs.Prelude.{◌≡◌, ℕ, ◌+◌, ◌-◌, ◌≤◌, ◌⊎◌, List, [], ◌∷◌, ◌++◌, map, Option, Some, None}
use Rattle.once_board.specs.declared.holds.Known.{Known}
use Rattle.once_board.specs.declared.holds.Hold.{Hold}
use Rattle.once_board.specs.declared.owners.Owner.{Owner}
use Rattle.once_board.specs.Numbers.{times, given, kept, every_right, all_parts, part_given}
use Rattle.once_board.specs.Places.{IsFree, IsPrivate, record_of, noted, read, opened, claimed, met, together, unread, Grows}

module _ {T : Type 0} where
  -- of a seat that holds and knows nothing
  abbrev pub nothing : Hold T
  nothing = record { rights = []; parts = 0; claims = []; puts = []; places = [] }

  -- of the first seat: every right and every part, and nothing known
  abbrev pub first : Hold T
  first = record { rights = every_right; parts = all_parts; claims = []; puts = []; places = [] }

  -- after the claim of a place was won
  abbrev pub won : ℕ → Hold T → Hold T
  won place h = record {
    rights = h.rights;
    parts = h.parts;
    claims = place ∷ h.claims;
    puts = h.puts;
    places = noted h.places place (claimed (record_of h.places place));
  }

  -- after a word was read at a place
  abbrev pub saw : ℕ → ℕ → Hold T → Hold T
  saw place word h = record {
    rights = h.rights;
    parts = h.parts;
    claims = h.claims;
    puts = h.puts;
    places = noted h.places place (read word (record_of h.places place));
  }

  -- after a value was put at a place
  abbrev pub put_at : ℕ → T → Hold T → Hold T
  put_at place x h = record {
    rights = h.rights;
    parts = h.parts;
    claims = h.claims;
    puts = place ∷ h.puts;
    places = noted h.places place (opened x (record_of h.places place));
  }

  -- after the value of a place became known
  abbrev pub learned : ℕ → T → Hold T → Hold T
  learned place x h = record {
    rights = h.rights;
    parts = h.parts;
    claims = h.claims;
    puts = h.puts;
    places = noted h.places place (opened x (record_of h.places place));
  }

  -- after the value of a place was read, while its word was 2
  abbrev pub looked : ℕ → T → Hold T → Hold T
  looked place x h = record {
    rights = h.rights;
    parts = h.parts;
    claims = h.claims;
    puts = h.puts;
    places = noted h.places place (opened x (read 2 (record_of h.places place)));
  }

  -- what a seat keeps when another is split off, with a right or none
  abbrev pub split_kept : Option ℕ → Hold T → Hold T
  split_kept right h = record { rights = kept right h.rights; parts = h.parts - part_given h.parts; claims = h.claims; puts = h.puts; places = h.places }

  -- what the seat that is split off has
  abbrev pub split_off : Option ℕ → Hold T → Hold T
  split_off right h = record { rights = given right; parts = part_given h.parts; claims = []; puts = []; places = map unread h.places }

  -- a seat without its rights, and its rights with what it knows
  abbrev pub without_rights : Hold T → Hold T
  without_rights h = record { rights = []; parts = h.parts; claims = h.claims; puts = h.puts; places = h.places }

  abbrev pub rights_and_records : Hold T → Hold T
  rights_and_records h = record { rights = h.rights; parts = 0; claims = []; puts = []; places = map unread h.places }

  -- a seat that gets these rights back
  abbrev pub with_rights : Hold T → Hold T → Hold T
  with_rights h other = record { rights = h.rights ++ other.rights; parts = h.parts; claims = h.claims; puts = h.puts; places = h.places }

  -- two seats in one
  abbrev pub joined : Hold T → Hold T → Hold T
  joined h other = record {
    rights = h.rights ++ other.rights;
    parts = h.parts + other.parts;
    claims = h.claims ++ other.claims;
    puts
        = h.puts ++ other.puts;
    places = together h.places other.places;
  }

  -- a seat that was told what another knows
  abbrev pub told : Hold T → Hold T → Hold T
  told h other = record { rights = h.rights; parts = h.parts; claims = h.claims; puts = h.puts; places = together h.places (map unread other.places) }

  -- what a seat that was told knows of a place
  abbrev pub told_record : Hold T → Hold T → ℕ → Known T
  told_record h other place = met (record_of h.places place) (unread (record_of other.places place))

  -- places that both know the value of have one value
  abbrev pub Agrees : Hold T → Hold T → Type 0
  Agrees h other = (place : ℕ) (x y : T) → (record_of h.places place).value ≡ Some x → (record_of other.places place).value ≡ Some y → x ≡ y

  -- rights, parts, claims and puts are what they were
  abbrev pub SameHoldings : Hold T → Hold T → Type 0
  SameHoldings before after = (after.rights ≡ before.rights) × (after.parts ≡ before.parts) × (after.claims ≡ before.claims) × (after.puts ≡ before.puts)

  -- nothing that was known of any place is lost
  abbrev pub Extends : Hold T → Hold T → Type 0
  Extends before after = (place : ℕ) → Grows (record_of before.places place) (record_of after.places place)

  -- a place that is private to a right of the first is known as claimed or open to the second only where it was to the first
  abbrev pub OwnsAll : List Owner → Hold T → Hold T → Type 0
  OwnsAll owners h after = (place right : ℕ) → IsPrivate owners place right → 1 ≤ times right h.rights → 1 ≤ (record_of after.places place).word → 1 ≤
      (record_of h.places place).word

  -- a place whose value is known is known as open
  abbrev pub IsLawful : Hold T → Type 0
  IsLawful h = (place : ℕ) (x : T) → (record_of h.places place).value ≡ Some x → 2 ≤ (record_of h.places place).word

  -- each value that is known may stand at its place
  abbrev pub FitsAll : (ℕ → T → Type 0) → Hold T → Type 0
  FitsAll fits h = (place : ℕ) (x : T) → (record_of h.places place).value ≡ Some x → fits place x

  -- no seat has more parts than there are
  abbrev pub HasParts : Hold T → Type 0
  HasParts h = h.parts ≤ 4_294_967_296

  -- no right is held twice
  abbrev pub HasRightsOnce : Hold T → Type 0
  HasRightsOnce h = (right : ℕ) → times right h.rights ≤ 1

  -- no place is claimed twice, and none is put twice
  abbrev pub IsOnce : Hold T → Type 0
  IsOnce h = (place : ℕ) → (times place h.claims ≤ 1) × (times place h.puts ≤ times place h.claims)

  -- no value is known of a place that is among the claims and not among the puts
  abbrev pub AwaitsPuts : Hold T → Type 0
  AwaitsPuts h = (place : ℕ) → 1 ≤ times place h.claims → times place h.puts ≡ 0 → (record_of h.places place).value ≡ None

  -- who claimed a place knows it as claimed or open, and has a part
  abbrev pub ShowsClaims : Hold T → Type 0
  ShowsClaims h = (place : ℕ) → 1 ≤ times place h.claims → (1 ≤ (record_of h.places place).word) × (1 ≤ h.parts)

  -- with all parts, a place that is known as claimed or open is among the claims
  abbrev pub ClaimsAll : Hold T → Type 0
  ClaimsAll h = h.parts ≡ 4_294_967_296 → (place : ℕ) → 1 ≤ (record_of h.places place).word → times place h.claims ≡ 1

  -- a free place that this seat didn't claim, or a place that is private to a right of its and not known as claimed
  abbrev pub MayClaim : List Owner → ℕ → Hold T → Type 0
  MayClaim owners place h =
      (IsFree owners place × (times place h.claims ≡ 0))
      ⊎ ((right : ℕ) × IsPrivate owners place right × (1 ≤ times right h.rights) × ((record_of h.places place).word ≡ 0))
