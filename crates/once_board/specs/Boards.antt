-- What contracts see of a board and of its seats, and what its calls answer.
use Rattle.std.specs.Prelude.{◌≡◌, ◌≢◌, ℕ, suc, ◌<◌, List, [], length, Some, None}
use Rattle.atomic_table.specs.Seated.{TableId}
use Rattle.once_board.specs.declared.answers.Claiming.{Claiming}
use Rattle.once_board.specs.declared.answers.Claiming.TheVariants.{Won, Taken}
use Rattle.once_board.specs.declared.answers.Looking.{Looking}
use Rattle.once_board.specs.declared.answers.Looking.TheVariants.{Value, NotYet, Busy, OutOfMemory}
use Rattle.once_board.specs.declared.holds.Hold.{Hold}
use Rattle.once_board.specs.declared.holds.Stage.TheVariants.{Idle}
use Rattle.once_board.specs.declared.owners.Owner.{Owner}
use Rattle.once_board.specs.Numbers.{times}
use Rattle.once_board.specs.Places.{IsFree, unknown, record_of, read, claimed, opened}
use Rattle.once_board.specs.Holds.{won, saw, looked}
use Rattle.once_board.specs.Told.{IsSound, Follows, WasNew, Seated}

-- which board it is, and whose its places are
pub record BoardView : Type 0 where
  pub board : TableId
  pub owners : List Owner

-- a table with a slot for each owner, and with a word for each slot and one more
abbrev pub IsSized : TableId → List Owner → Type 0
IsSized id owners = (id.words ≡ suc id.slots) × (id.slots ≡ length owners)

-- whose seat it is, and what it holds and knows
pub record SeatView (T : Type 0) : Type 0 where
  pub board : TableId
  pub hold : Hold T

-- a seat of the table between two calls
pub record IsReady {T : Type 0} (fits : ℕ → T → Type 0) (m : Seated T) : Type 0 where
  pub idles : m.0.stage ≡ Idle
  pub no_slot : m.1 ≡ []
  pub sound : IsSound fits m.0.hold

-- what the first seat has: each right once, all parts, and nothing known
pub record IsFirst {T : Type 0} (h : Hold T) : Type 0 where
  pub each_right : (right : ℕ) → right < 4_294_967_296 → times right h.rights ≡ 1
  pub all_the_parts : h.parts ≡ 4_294_967_296
  pub no_claim : h.claims ≡ []
  pub no_put : h.puts ≡ []
  pub nothing_known : (place : ℕ) → record_of h.places place ≡ unknown

module _ {T : Type 0} where
  -- what a claim makes of a seat, by its answer
  abbrev pub Claims : List Owner → ℕ → Hold T → Hold T → Claiming → Type 0
  Claims owners place before after Won =
      (after ≡ won place before) × WasNew place before × (record_of after.places place ≡ claimed (record_of before.places place))
  Claims owners place before after (Taken word) =
      (after ≡ saw place word before) × (record_of after.places place ≡ read word (record_of before.places place))
      × (word ≢ 0) × (word < 4) × IsFree owners place × Follows word (record_of before.places place)

  -- a look that found this value: it fits, and it is what the seat knew, if it knew one. The seat knows it now
  abbrev pub Finds : (ℕ → T → Type 0) → ℕ → Hold T → Hold T → T → Type 0
  Finds fits place before after x =
      (after ≡ looked place x before) × (record_of after.places place ≡ opened x (read 2 (record_of before.places place)))
      × fits place x × ((y : T) → (record_of before.places place).value ≡ Some y → x ≡ y)

  -- what a look makes of a seat, by its answer
  abbrev pub Looks : (ℕ → T → Type 0) → ℕ → Hold T → Hold T → Looking T → Type 0
  Looks fits place before after (Value x) = Finds fits place before after x
  Looks fits place before after (NotYet word) =
      (after ≡ saw place word before) × (record_of after.places place ≡ read word (record_of before.places place))
      × (word < 2) × ((record_of before.places place).value ≡ None) × (word ≡ 0 → times place before.claims ≡ 0)
      × Follows word (record_of before.places place)
  Looks fits place before after (Busy word) =
      (after ≡ saw place word before) × (record_of after.places place ≡ read word (record_of before.places place)) × (word ≡ 3)
  Looks fits place before after OutOfMemory = (x : T) × Finds fits place before after x
