-- The rule that each step keeps gives the rule in plain words.
use Rattle.std.proofs.Common.{◌≡◌, ◌≢◌, ℕ, ◌<◌, ◌≤◌, List, length, sym, refl, ap, ◌∙◌, arith, Some, None}
use mathlib.Core.Option.{some}
use lib.ListN.{get_elem?}
use Rattle.once_board.specs.declared.holds.Seen.{Seen}
use Rattle.once_board.specs.declared.owners.Owner.{Owner}
use Rattle.once_board.specs.Numbers.{times}
use Rattle.once_board.specs.Places.{record_of}
use Rattle.once_board.specs.Rule.{Content, vacant, awaited, filling, ready, lent, word_of, turn_of, one_if_some, at, PlaceOk, Rule, value_of}
use Rattle.once_board.specs.Stated.{place_word, claims_of, turns_of, NoneKnows, AllAgree, Stated}
use Rattle.once_board.proofs.Sums.{parts_are, total_one}
use Rattle.once_board.proofs.Changes.{none_of}
use Rattle.once_board.proofs.ClaimStep.{small_word}
use Rattle.once_board.proofs.Keeps.{Table, claim_known, part_of}

module _ {T : Type 0} (fits : ℕ → T → Type 0) (owners : List Owner) (s : Table T) (r : Rule fits owners s) where
  none_with : (p : ℕ) (c : Content T) → PlaceOk fits owners s p c → ((x : T) → value_of c ≡ Some x → ⊥) → NoneKnows s p
  none_with p c ok none_here seat v e = none_of (record_of v.hold.places p).value (λ x known. none_here x ((ok.knowers seat v e).true_value x known))

  free_of : (p : ℕ) (c : Content T) → PlaceOk fits owners s p c → word_of c ≡ 0 → (claims_of s p ≡ 0) × NoneKnows s p
  free_of p vacant ok is = (ok.claimed_by, none_with p vacant ok (λ x h. cc))
  free_of p awaited ok is = absurd (omega arith)
  free_of p filling ok is = absurd (omega arith)
  free_of p (ready x) ok is = absurd (omega arith)
  free_of p (lent x) ok is = absurd (omega arith)

  empty_of : (p : ℕ) (c : Content T) → PlaceOk fits owners s p c → p < length s.homes → word_of c ≡ 0 → get_elem? s.homes p ≡ some (some None)
  empty_of p vacant ok inside is = ok.home inside
  empty_of p awaited ok inside is = absurd (omega arith)
  empty_of p filling ok inside is = absurd (omega arith)
  empty_of p (ready x) ok inside is = absurd (omega arith)
  empty_of p (lent x) ok inside is = absurd (omega arith)

  claimed_of : (p : ℕ) (c : Content T) → PlaceOk fits owners s p c → word_of c ≡ 1 → (claims_of s p ≡ 1) × NoneKnows s p
  claimed_of p vacant ok is = absurd (omega arith)
  claimed_of p awaited ok is = (ok.claimed_by, none_with p awaited ok (λ x h. cc))
  claimed_of p filling ok is = (ok.claimed_by, none_with p filling ok (λ x h. cc))
  claimed_of p (ready x) ok is = absurd (omega arith)
  claimed_of p (lent x) ok is = absurd (omega arith)

  value_there : (p : ℕ) (c : Content T) → PlaceOk fits owners s p c → 2 ≤ word_of c → (x : T) × fits p x × AllAgree s p x
  value_there p vacant ok is = absurd (omega arith)
  value_there p awaited ok is = absurd (omega arith)
  value_there p filling ok is = absurd (omega arith)
  value_there p (ready x) ok is = (x, ok.may_stand x refl, (λ seat v y e known. let t = (ok.knowers seat v e).true_value y known in cc))
  value_there p (lent x) ok is = (x, ok.may_stand x refl, (λ seat v y e known. let t = (ok.knowers seat v e).true_value y known in cc))

  home_of : (p : ℕ) (c : Content T) → PlaceOk fits owners s p c → p < length s.homes → word_of c ≡ 2
      → (x : T) × (get_elem? s.homes p ≡ some (some (Some x))) × fits p x × AllAgree s p x
  home_of p vacant ok inside is = absurd (omega arith)
  home_of p awaited ok inside is = absurd (omega arith)
  home_of p filling ok inside is = absurd (omega arith)
  home_of p (ready x) ok inside is = (x, ok.home inside, ok.may_stand x refl, (λ seat v y e known. let t = (ok.knowers seat v e).true_value y known in cc))
  home_of p (lent x) ok inside is = absurd (omega arith)

  turn_there : (p : ℕ) (c : Content T) → PlaceOk fits owners s p c → word_of c ≡ 3 → turns_of s p ≡ 1
  turn_there p vacant ok is = absurd (omega arith)
  turn_there p awaited ok is = absurd (omega arith)
  turn_there p filling ok is = absurd (omega arith)
  turn_there p (ready x) ok is = absurd (omega arith)
  turn_there p (lent x) ok is = ok.turned_by

  -- a seat with the turn of a place has its value
  no_turn_at : (p seat : ℕ) (v : Seen T) (x : T) (n : ℕ) → get_elem? s.views seat ≡ some v → turn_of p v.stage ≡ Some x → turns_of s p ≡ n → n ≡ 0 → ⊥
  no_turn_at p seat v x n e turn sum none =
      let few = total_one (λ (u : Seen T). one_if_some (at p u).turn) s.views seat v e in
      let one : one_if_some (turn_of p v.stage) ≡ 1 = ap one_if_some turn in
      omega arith

  hand_of : (p seat : ℕ) (v : Seen T) (x : T) (c : Content T) → PlaceOk fits owners s p c → get_elem? s.views seat ≡ some v → turn_of p v.stage ≡ Some x
      → (word_of c ≡ 3) × fits p x × AllAgree s p x
  hand_of p seat v x vacant ok e turn = absurd (no_turn_at p seat v x 0 e turn ok.turned_by refl)
  hand_of p seat v x awaited ok e turn = absurd (no_turn_at p seat v x 0 e turn ok.turned_by refl)
  hand_of p seat v x filling ok e turn = absurd (no_turn_at p seat v x 0 e turn ok.turned_by refl)
  hand_of p seat v x (ready y) ok e turn = absurd (no_turn_at p seat v x 0 e turn ok.turned_by refl)
  hand_of p seat v x (lent y) ok e turn =
      let there : Some y ≡ Some x = (ok.knowers seat v e).has_turn x turn in
      (refl, ok.may_stand x there, (λ j u z d known. let t = (ok.knowers j u d).true_value z known in cc))

  word_at : (p : ℕ) → place_word s p ≡ word_of (r.contents p)
  word_at p = (r.place_each p).word

  one_claim_of : (p : ℕ) → place_word s p ≢ 0 → claims_of s p ≡ 1
  one_claim_of p busy =
      let is : place_word s p ≡ word_of (r.contents p) = word_at p in
      (r.place_each p).claimed_by ∙ claim_known (r.contents p) (let b = busy in omega arith)

  pub stated : Stated fits owners s
  stated = record {
    free = λ p is. free_of p (r.contents p) (r.place_each p) (sym (word_at p) ∙ is);
    empty = λ p inside is. empty_of p (r.contents p) (r.place_each p) inside (sym (word_at p) ∙ is);
    claimed = λ p is. claimed_of p (r.contents p) (r.place_each p) (sym (word_at p) ∙ is);
    has_value = λ p is. let w : place_word s p ≡ word_of (r.contents p) = word_at p in value_there p (r.contents p) (r.place_each p) (omega arith);
    at_home = λ p inside is. home_of p (r.contents p) (r.place_each p) inside (sym (word_at p) ∙ is);
    one_turn = λ p is. turn_there p (r.contents p) (r.place_each p) (sym (word_at p) ∙ is);
    in_hand = λ p seat v x e turn. let h = hand_of p seat v x (r.contents p) (r.place_each p) e turn in (word_at p ∙ h.0, h.1, h.2);
    no_other_word = λ p. let w : place_word s p ≡ word_of (r.contents p) = word_at p in let few = small_word (r.contents p) in omega arith;
    one_seat = λ right h. r.right_each right (let n = parts_are in omega arith);
    one_claim = one_claim_of;
    has_part = λ seat v p e h. part_of v.hold.parts (times p v.hold.claims) (λ none. (r.seat_each seat v e).claims_need_a_part none p) h;
    parts = r.all_the_parts ∙ parts_are;
    shown = λ seat v p right e private mine busy.
        let w : place_word s p ≡ word_of (r.contents p) = word_at p in
        ((r.place_each p).knowers seat v e).own_place right private mine (let b = busy in omega arith);
    stays_claimed = λ seat v p e h. let w : place_word s p ≡ word_of (r.contents p) = word_at p in
        let k = ((r.place_each p).knowers seat v e).was_claimed h in omega arith;
    stays_open = λ seat v p e h. let w : place_word s p ≡ word_of (r.contents p) = word_at p in let k = ((r.place_each p).knowers seat v e).was_open h in
        omega arith;
  }
