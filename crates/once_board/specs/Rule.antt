-- The rule of a board: what holds of its words, its slots and all its seats between any two steps.
-- Word 0 stands beside the places, and word p + 1 is that of the place p. Slot p holds the value of the place p.
use Rattle.std.specs.Prelude.{◌≡◌, ℕ, suc, ◌≤◌, ◌<◌, ◌==◌, List, length, Option, Some, None, if◌then◌else◌, slice_index}
use mathlib.Core.Option.{some}
use mathlib.Core.Option as maybe
use lib.ListN.{get_elem?}
use Rattle.atomic_table.specs.Table.{State}
use Rattle.once_board.specs.declared.holds.Known.{Known}
use Rattle.once_board.specs.declared.holds.Hold.{Hold}
use Rattle.once_board.specs.declared.holds.Stage.{Stage}
use Rattle.once_board.specs.declared.holds.Stage.TheVariants.{Idle, Filling, Turn, Joined}
use Rattle.once_board.specs.declared.holds.Seen.{Seen}
use Rattle.once_board.specs.declared.owners.Owner.{Owner}
use Rattle.once_board.specs.Numbers.{times, total, all_parts}
use Rattle.once_board.specs.Places.{IsPrivate, record_of}
use Rattle.once_board.specs.Holds.{Agrees, Extends, OwnsAll}

-- what is at a place: nothing; a claim, with the slot at home; a claim whose seat has taken the slot to fill it; a value
-- at home; a value of which a seat has the turn
pub data Content (T : Type 0) : Type 0 where
  vacant : Content T
  awaited : Content T
  filling : Content T
  ready : T → Content T
  lent : T → Content T

module _ {T : Type 0} where
  abbrev pub word_of : Content T → ℕ
  word_of vacant = 0
  word_of awaited = 1
  word_of filling = 1
  word_of (ready x) = 2
  word_of (lent x) = 3

  abbrev pub value_of : Content T → Option T
  value_of vacant = None
  value_of awaited = None
  value_of filling = None
  value_of (ready x) = Some x
  value_of (lent x) = Some x

  -- how many claims there are of a place, how many puts, and how many seats that fill it or have its turn
  abbrev pub claim_count : Content T → ℕ
  claim_count vacant = 0
  claim_count awaited = 1
  claim_count filling = 1
  claim_count (ready x) = 1
  claim_count (lent x) = 1

  abbrev pub put_count : Content T → ℕ
  put_count vacant = 0
  put_count awaited = 0
  put_count filling = 0
  put_count (ready x) = 1
  put_count (lent x) = 1

  abbrev pub fill_count : Content T → ℕ
  fill_count vacant = 0
  fill_count awaited = 0
  fill_count filling = 1
  fill_count (ready x) = 0
  fill_count (lent x) = 0

  abbrev pub turn_count : Content T → ℕ
  turn_count vacant = 0
  turn_count awaited = 0
  turn_count filling = 0
  turn_count (ready x) = 0
  turn_count (lent x) = 1

  -- where the slot of a place is
  abbrev pub IsHome : List (maybe.Option (Option T)) → ℕ → Content T → Type 0
  IsHome homes place vacant = get_elem? homes place ≡ some (some None)
  IsHome homes place awaited = get_elem? homes place ≡ some (some None)
  IsHome homes place filling = Unit {0}
  IsHome homes place (ready x) = get_elem? homes place ≡ some (some (Some x))
  IsHome homes place (lent x) = Unit {0}

  -- whether a seat is filling a place, and the value whose turn it has there
  abbrev pub fills : ℕ → Stage T → ℕ
  fills place Idle = 0
  fills place (Filling p) = if p == place then 1 else 0
  fills place (Turn p x) = 0
  fills place (Joined a b) = 0

  abbrev pub turn_of : ℕ → Stage T → Option T
  turn_of place Idle = None
  turn_of place (Filling p) = None
  turn_of place (Turn p x) = if p == place then Some x else None
  turn_of place (Joined a b) = None

  abbrev pub one_if_some : Option T → ℕ
  one_if_some None = 0
  one_if_some (Some x) = 1

-- what a seat has to do with one place
pub record At (T : Type 0) : Type 0 where
  pub claims : ℕ
  pub puts : ℕ
  pub fills_it : ℕ
  pub turn : Option T
  pub known : Known T
  pub rights : List ℕ

module _ {T : Type 0} where
  abbrev pub at : ℕ → Seen T → At T
  at place v = record {
    claims = times place v.hold.claims;
    puts = times place v.hold.puts;
    fills_it = fills place v.stage;
    turn = turn_of place v.stage;
    known = record_of v.hold.places place;
    rights = v.hold.rights;
  }

-- a seat and one place, of this word and value
pub record Knows {T : Type 0} (owners : List Owner) (place word : ℕ) (value : Option T) (a : At T) : Type 0 where
  -- the value that a seat knows is the place's, which it knows as open
  pub true_value : (x : T) → a.known.value ≡ Some x → value ≡ Some x
  pub open_value : (x : T) → a.known.value ≡ Some x → 2 ≤ a.known.word
  -- a word that was seen is not undone
  pub was_claimed : 1 ≤ a.known.word → 1 ≤ word
  pub was_open : 2 ≤ a.known.word → 2 ≤ word
  -- who claimed it knows so, and knows its value once there is one
  pub shown : 1 ≤ a.claims → 1 ≤ a.known.word
  pub own_value : 1 ≤ a.claims → (x : T) → value ≡ Some x → a.known.value ≡ Some x
  pub put_claimed : a.puts ≤ a.claims
  pub fill_claimed : a.fills_it ≤ a.claims
  pub has_turn : (x : T) → a.turn ≡ Some x → value ≡ Some x
  -- who holds the right of a private place knows whether it is claimed
  pub own_place : (right : ℕ) → IsPrivate owners place right → 1 ≤ times right a.rights → 1 ≤ word → 1 ≤ a.known.word

module _ {T : Type 0} (fits : ℕ → T → Type 0) (owners : List Owner) where
  pub record PlaceOk (s : State (Option T) (Seen T)) (place : ℕ) (c : Content T) : Type 0 where
    pub word : slice_index s.words (suc place) ≡ word_of c
    pub claimed_by : total (λ v. (at place v).claims) s.views ≡ claim_count c
    pub put_by : total (λ v. (at place v).puts) s.views ≡ put_count c
    pub filled_by : total (λ v. (at place v).fills_it) s.views ≡ fill_count c
    pub turned_by : total (λ v. one_if_some (at place v).turn) s.views ≡ turn_count c
    pub home : place < length s.homes → IsHome s.homes place c
    pub may_stand : (x : T) → value_of c ≡ Some x → fits place x
    pub knowers : (seat : ℕ) (v : Seen T) → get_elem? s.views seat ≡ some v → Knows owners place (word_of c) (value_of c) (at place v)

module _ {T : Type 0} (owners : List Owner) where
  -- two seats that were joined: they agree, and the seat that they became knows what they knew
  pub record Met (a b h : Hold T) : Type 0 where
    pub agrees : Agrees a b
    pub extends_first : Extends a h
    pub extends_other : Extends b h
    pub owns_first : OwnsAll owners a h
    pub owns_other : OwnsAll owners b h

  abbrev pub IsMet : Stage T → Hold T → Type 0
  IsMet Idle h = Unit {0}
  IsMet (Filling p) h = Unit {0}
  IsMet (Turn p x) h = Unit {0}
  IsMet (Joined a b) h = Met a b h

  pub record SeatOk (v : Seen T) : Type 0 where
    pub claims_need_a_part : v.hold.parts ≡ 0 → (place : ℕ) → times place v.hold.claims ≡ 0
    pub joined_well : IsMet v.stage v.hold

-- the rule
pub record Rule {T : Type 0} (fits : ℕ → T → Type 0) (owners : List Owner) (s : State (Option T) (Seen T)) : Type 0 where
  pub contents : ℕ → Content T
  pub word_each : length s.words ≡ suc (length s.homes)
  pub right_once : (right : ℕ) → total (λ v. times right v.hold.rights) s.views ≤ 1
  pub right_each : (right : ℕ) → right < all_parts → total (λ v. times right v.hold.rights) s.views ≡ 1
  pub all_the_parts : total (λ v. v.hold.parts) s.views ≡ all_parts
  pub place_each : (place : ℕ) → PlaceOk fits owners s place (contents place)
  pub seat_each : (seat : ℕ) (v : Seen T) → get_elem? s.views seat ≡ some v → SeatOk owners v
