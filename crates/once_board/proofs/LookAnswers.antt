-- What the board answers to a look, and what it makes of the seat.
use Rattle.std.proofs.Common.{◌≡◌, ℕ, ◌<◌, ◌≤◌, List, sym, ap, subst, ◌∙◌, arith, Some}
use mathlib.Core.Logic.{dite}
use native.Mathlib.Decide.{ℕ_discrete}
use Rattle.once_board.specs.declared.holds.Known.{Known}
use Rattle.once_board.specs.declared.holds.Hold.{Hold}
use Rattle.once_board.specs.declared.holds.Stage.TheVariants.{Turn}
use Rattle.once_board.specs.declared.owners.Owner.{Owner}
use Rattle.once_board.specs.declared.answers.Looking.{Looking}
use Rattle.once_board.specs.declared.answers.Looking.TheVariants.{Value, NotYet, Busy, OutOfMemory}
use Rattle.once_board.specs.Boards.{Finds, Looks}
use Rattle.once_board.specs.Places.{record_of, noted, read, opened}
use Rattle.once_board.specs.Holds.{saw, learned, OwnsAll, Extends, SameHoldings, looked}
use Rattle.once_board.specs.Told.{Seated, Looked}
use Rattle.once_board.proofs.Records.{noted_here, noted_else, noted_twice, extends_at}
use Rattle.once_board.proofs.Changes.{none_of}
use Rattle.once_board.proofs.LookStep.{same_turn}

module _ {T : Type 0} where
  -- no answer of a look moves what the seat holds
  found_held : (fits : ℕ → T → Type 0) (p : ℕ) (h after : Hold T) (x : T) → Finds fits p h after x → SameHoldings h after
  found_held fits p h after x told = (
    ap (λ (s : Hold T). s.rights) told.0,
    ap (λ (s : Hold T). s.parts) told.0,
    ap (λ (s : Hold T). s.claims) told.0,
    ap
        (λ (s : Hold T). s.puts) told.0,
  )

  pub same_held : (fits : ℕ → T → Type 0) (p : ℕ) (h after : Hold T) (answer : Looking T) → Looks fits p h after answer → SameHoldings h after
  same_held fits p h after (Value x) told = found_held fits p h after x told
  same_held fits p h after (NotYet word) told =
      (ap (λ (s : Hold T). s.rights) told.0, ap (λ (s : Hold T). s.parts) told.0, ap (λ (s : Hold T). s.claims) told.0, ap (λ (s : Hold T). s.puts) told.0)
  same_held fits p h after (Busy word) told =
      (ap (λ (s : Hold T). s.rights) told.0, ap (λ (s : Hold T). s.parts) told.0, ap (λ (s : Hold T). s.claims) told.0, ap (λ (s : Hold T). s.puts) told.0)
  same_held fits p h after OutOfMemory told = found_held fits p h after told.0 told.1

module _ {T : Type 0} (fits : ℕ → T → Type 0) (owners : List Owner) where
  -- what the board answers

  pub answers_not_yet : (p word : ℕ) (m m' : Seated T) (h : Hold T) → m.0.hold ≡ h → Looked fits owners p word m m' → word < 2
      → Looks fits p h m'.0.hold (NotYet word)
  answers_not_yet p word m m' h same told low =
      let after = ap (λ v. v.hold) (told.missed (λ two. omega arith)).0 in
      subst (λ b. Looks fits p b m'.0.hold (NotYet word)) same (
        after,
        ap (λ b. record_of b.places p) after ∙ noted_here m.0.hold.places p (read word (record_of m.0.hold.places p)),
        low,
        none_of (record_of m.0.hold.places p).value (λ x known. let o = told.follows.open_value x known in omega arith),
        told.unclaimed,
        told.follows,
      )

  pub answers_busy : (p word : ℕ) (m m' : Seated T) (h : Hold T) → m.0.hold ≡ h → Looked fits owners p word m m' → word ≡ 3
      → Looks fits p h m'.0.hold (Busy word)
  answers_busy p word m m' h same told three =
      let after = ap (λ v. v.hold) (told.missed (λ two. omega arith)).0 in
      subst (λ b. Looks fits p b m'.0.hold (Busy word)) same
      (after, ap (λ b. record_of b.places p) after ∙ noted_here m.0.hold.places p (read word (record_of m.0.hold.places p)), three)

  looked_is : (p : ℕ) (x : T) (h : Hold T) → learned p x (saw p 2 h) ≡ looked p x h
  looked_is p x h i =
      let a : Known T = read 2 (record_of h.places p) in
      let places : noted (noted h.places p a) p (opened x (record_of (noted h.places p a) p)) ≡ noted h.places p (opened x a) =
      ap (λ k. noted (noted h.places p a) p (opened x k)) (noted_here h.places p a) ∙ noted_twice h.places p a (opened x a) in
      record { rights = h.rights; parts = h.parts; claims = h.claims; puts = h.puts; places = places i }

  -- the value was found
  module _ (p word : ℕ) (x : T) (m m' : Seated T) (after : Hold T) (told : Looked fits owners p word m m') (two : word ≡ 2) (turn : m'.0.stage ≡ Turn p x)
      (now : after ≡ learned p x m'.0.hold) where
    the_value : (told.got two).0 ≡ x
    the_value = same_turn fits owners p p (told.got two).0 x (sym (ap (λ v. v.stage) (told.got two).1) ∙ turn)

    after_is : after ≡ looked p x m.0.hold
    after_is = now ∙ (ap (λ v. learned p x v.hold) (told.got two).1 ∙ looked_is p x m.0.hold)

    agrees_with : (y : T) → (record_of m.0.hold.places p).value ≡ Some y → x ≡ y
    agrees_with y known = sym the_value ∙ (told.got two).4 y known

    pub answers_value : Finds fits p m.0.hold after x
    answers_value = (
      after_is,
      ap (λ b. record_of b.places p) after_is ∙ noted_here m.0.hold.places p (opened x (read 2 (record_of m.0.hold.places p))),
      subst (fits p) the_value (told.got two).3,
      agrees_with,
    )

    pub value_extends : Extends m.0.hold after
    value_extends =
        let k : Known T = opened x (read 2 (record_of m.0.hold.places p)) in
        extends_at m.0.hold after p k (ap (λ b. b.places) after_is)
        (record { still_claimed = λ h. omega arith; still_open = λ h. omega arith; same_value = λ y known. ap (λ z. Some z) (agrees_with y known) })

    pub value_owns : OwnsAll owners m.0.hold after
    value_owns q right private mine h =
        let k : Known T = opened x (read 2 (record_of m.0.hold.places p)) in
        let places : after.places ≡ noted m.0.hold.places p k = ap (λ b. b.places) after_is in
        let seen_then : m'.0.hold.places ≡ noted m.0.hold.places p (read 2 (record_of m.0.hold.places p)) = ap (λ v. v.hold.places) (told.got two).1 in
        told.owns q right private mine (dite (ℕ_discrete q p)
        (λ same. subst (λ z. 1 ≤ (record_of m'.0.hold.places z).word) (sym same)
        (subst (λ (z : Known T). 1 ≤ z.word)
        (sym (ap (λ l. record_of l p) seen_then ∙ noted_here m.0.hold.places p (read 2 (record_of m.0.hold.places p)))) (omega arith)))
        (λ ne. subst (λ (z : Known T). 1 ≤ z.word)
        (ap (λ l. record_of l q) places ∙
        (noted_else m.0.hold.places p q k ne
        ∙ sym (ap (λ l. record_of l q) seen_then ∙ noted_else m.0.hold.places p q (read 2 (record_of m.0.hold.places p)) ne))) h))

  -- the same, of a seat that holds h before and `after` after
  module _ (p word : ℕ) (m m' : Seated T) (key : List Owner) (h after : Hold T) (owned : owners ≡ key) (same : m.0.hold ≡ h)
      (told : Looked fits owners p word m m') (two : word ≡ 2) where
    pub found : (x : T) → m'.0.stage ≡ Turn p x → after ≡ learned p x m'.0.hold → Finds fits p h after x
    found x turn now = subst (λ b. Finds fits p b after x) same (answers_value p word x m m' after told two turn now)

    pub found_grows : (x : T) → m'.0.stage ≡ Turn p x → after ≡ learned p x m'.0.hold → Extends h after
    found_grows x turn now = subst (λ b. Extends b after) same (value_extends p word x m m' after told two turn now)

    pub found_owned : (x : T) → m'.0.stage ≡ Turn p x → after ≡ learned p x m'.0.hold → OwnsAll key h after
    found_owned x turn now = subst (λ o. OwnsAll o h after) owned (subst (λ b. OwnsAll owners b after) same (value_owns p word x m m' after told two turn now))
