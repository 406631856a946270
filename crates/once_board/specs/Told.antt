-- What each step tells its seat.
use Rattle.std.specs.Prelude.{◌≡◌, ◌≢◌, ℕ, suc, ◌≤◌, ◌<◌, List, [], ◌∷◌, Option, Some, None}
use Rattle.atomic_table.specs.Table.{Me, Step, rest}
use Rattle.once_board.specs.declared.holds.Known.{Known}
use Rattle.once_board.specs.declared.holds.Hold.{Hold}
use Rattle.once_board.specs.declared.holds.Stage.{Stage}
use Rattle.once_board.specs.declared.holds.Stage.TheVariants.{Idle, Filling, Turn, Joined}
use Rattle.once_board.specs.declared.holds.Seen.{Seen}
use Rattle.once_board.specs.declared.owners.Owner.{Owner}
use Rattle.once_board.specs.Numbers.{times}
use Rattle.once_board.specs.Places.{IsFree, record_of}
use Rattle.once_board.specs.Rule.{IsMet}
use Rattle.once_board.specs.Holds.{AwaitsPuts, ClaimsAll, Extends, FitsAll, HasParts, HasRightsOnce, IsLawful, IsOnce, OwnsAll, ShowsClaims, joined, learned}
use Rattle.once_board.specs.Holds.{nothing, put_at, with_rights, saw, without_rights, split_kept, split_off, rights_and_records, won}

-- what holds of each seat at every moment
pub record IsSound {T : Type 0} (fits : ℕ → T → Type 0) (h : Hold T) : Type 0 where
  pub lawful : IsLawful h
  pub may_stand : FitsAll fits h
  pub has_parts : HasParts h
  pub rights_once : HasRightsOnce h
  pub once : IsOnce h
  pub awaits_puts : AwaitsPuts h
  pub shows_claims : ShowsClaims h
  pub claims_all : ClaimsAll h

-- a word that was read is at least 1 where the place was known as claimed, and at least 2 where it was known as open
pub record Follows {T : Type 0} (word : ℕ) (k : Known T) : Type 0 where
  pub still_claimed : 1 ≤ k.word → 1 ≤ word
  pub still_open : 2 ≤ k.word → 2 ≤ word
  pub open_value : (x : T) → k.value ≡ Some x → 2 ≤ word

-- nothing was known of a place, and it was neither claimed nor put
pub record WasNew {T : Type 0} (place : ℕ) (h : Hold T) : Type 0 where
  pub no_word : (record_of h.places place).word ≡ 0
  pub no_value : (record_of h.places place).value ≡ None
  pub no_claim : times place h.claims ≡ 0
  pub no_put : times place h.puts ≡ 0

-- a seat of the table: what it has seen, and the slots that it has taken
abbrev pub Seated : Type 0 → Type 0
Seated T = Me (Option T) (Seen T)

module _ {T : Type 0} where
  abbrev pub seen : Hold T → Stage T → Seen T
  seen h stage = record { hold = h; stage = stage }

  abbrev pub idle : Hold T → Seen T
  idle h = seen h Idle

  -- an exchange of 0 for 1
  pub record Claimed (fits : ℕ → T → Type 0) (owners : List Owner) (place found : ℕ) (m m' : Seated T) : Type 0 where
    pub same_slots : m'.1 ≡ m.1
    pub small : found < 4
    pub sound : IsSound fits m'.0.hold
    pub extends : Extends m.0.hold m'.0.hold
    pub at_once : found ≡ 0 → (m'.0 ≡ idle (won place m.0.hold)) × WasNew place m.0.hold
    pub lost : found ≢ 0 → (m'.0 ≡ idle (saw place found m.0.hold)) × IsFree owners place × Follows found (record_of m.0.hold.places place)

  abbrev pub claim_told : (ℕ → T → Type 0) → List Owner → Step (Option T) → Seated T → ℕ → Seated T → Type 0
  claim_told fits owners st m found m' = (place : ℕ) → st.word ≡ suc place → Claimed fits owners place found m m'

  -- a load that takes the empty slot
  abbrev pub fill_told : Step (Option T) → Seated T → ℕ → Seated T → Type 0
  fill_told st m found m' = (place : ℕ) → st.word ≡ suc place → (m'.1 ≡ (place, None) ∷ m.1) × (m'.0 ≡ seen m.0.hold (Filling place))

  -- a store of 2 that brings the value home
  abbrev pub put_told : (ℕ → T → Type 0) → Step (Option T) → Seated T → ℕ → Seated T → Type 0
  put_told fits st m found m' = (place : ℕ) (x : T) → st.word ≡ suc place → m.1 ≡ (place, Some x) ∷ [] → (m'.1 ≡ [])
      × (m'.0 ≡ idle (put_at place x m.0.hold)) × IsSound fits m'.0.hold

  -- how a seat is cut in two: with a right or none, and its rights with what it knows
  abbrev pub cut_kept : Option ℕ → Seen T → Seen T
  cut_kept right v = idle (split_kept right v.hold)

  abbrev pub cut_off : Option ℕ → Seen T → Seen T
  cut_off right v = idle (split_off right v.hold)

  abbrev pub rights_split : Seen T → Seen T
  rights_split v = idle (without_rights v.hold)

  abbrev pub rights_off : Seen T → Seen T
  rights_off v = idle (rights_and_records v.hold)

  -- the rights that came with the other seat go back
  abbrev pub back_kept : Stage T → Hold T → Seen T
  back_kept Idle h = idle h
  back_kept (Filling p) h = seen h (Filling p)
  back_kept (Turn p x) h = seen h (Turn p x)
  back_kept (Joined a b) h = seen (record { rights = a.rights; parts = a.parts; claims = a.claims; puts = a.puts; places = h.places }) (Joined a b)

  abbrev pub back_off : Stage T → Seen T
  back_off Idle = idle nothing
  back_off (Filling p) = idle nothing
  back_off (Turn p x) = idle nothing
  back_off (Joined a b) = idle b

  -- how two seats become one
  abbrev pub seats_joined : Seen T → Seen T → Seen T
  seats_joined v w = seen (joined v.hold w.hold) (Joined v.hold w.hold)

  abbrev pub rights_joined : Seen T → Seen T → Seen T
  rights_joined v w = idle (with_rights v.hold w.hold)

  -- a load that tells of two seats that were joined
  abbrev pub settle_told : (ℕ → T → Type 0) → List Owner → Step (Option T) → Seated T → ℕ → Seated T → Type 0
  settle_told fits owners st m found m' = (m'.1 ≡ m.1) × (m'.0 ≡ idle m.0.hold) × IsMet owners m.0.stage m.0.hold × IsSound fits m.0.hold

  -- an exchange of 2 for 3
  pub record Looked (fits : ℕ → T → Type 0) (owners : List Owner) (place found : ℕ) (m m' : Seated T) : Type 0 where
    pub small : found < 4
    pub sound : IsSound fits m'.0.hold
    pub follows : Follows found (record_of m.0.hold.places place)
    pub extends : Extends m.0.hold m'.0.hold
    pub owns : OwnsAll owners m.0.hold m'.0.hold
    pub unclaimed : found ≡ 0 → times place m.0.hold.claims ≡ 0
    pub got : found ≡ 2
        → (x : T) × (m'.0 ≡ seen (saw place 2 m.0.hold) (Turn place x)) × (m'.1 ≡ (place, Some x) ∷ m.1) × fits place x
        × ((y : T) → (record_of m.0.hold.places place).value ≡ Some y → x ≡ y)
    pub missed : found ≢ 2 → (m'.0 ≡ idle (saw place found m.0.hold)) × (m'.1 ≡ m.1)

  abbrev pub look_told : (ℕ → T → Type 0) → List Owner → Step (Option T) → Seated T → ℕ → Seated T → Type 0
  look_told fits owners st m found m' = (place : ℕ) → st.word ≡ suc place → Looked fits owners place found m m'

  -- the turn of a place went back, and the seat knows its value
  abbrev pub GivesBack : ℕ → Seated T → Seated T → T → Type 0
  GivesBack place m m' x = (m.0.stage ≡ Turn place x) × (m' ≡ (idle (learned place x m.0.hold), []))

  -- a store of 2 that brings the value home, by the seat that has its turn: it knows the value then
  abbrev pub learn_told : (ℕ → T → Type 0) → Step (Option T) → Seated T → ℕ → Seated T → Type 0
  learn_told fits st m found m' = (place : ℕ) (x : T) → st.word ≡ suc place → m.0.stage ≡ Turn place x → (m'.0 ≡ idle (learned place x m.0.hold))
      × (m'.1 ≡ rest m.1) × IsSound fits m'.0.hold
