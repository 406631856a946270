-- Two seats are joined, and a load on the word beside the places tells what the rule says of them.
use Rattle.std.proofs.Common.{◌≡◌, ℕ, suc, ◌+◌, ◌≤◌, max, ◌⊎◌, ⊎_elim, inl, inr, List, ◌++◌, get_or, set, sym, refl, ap, subst, ◌∙◌, arith, Option, Some, None}
use Rattle.std.proofs.lemmas.List.{get_or-set_other}
use lib.ListN.{get_elem?, length-set}
use mathlib.Core.Option.{some, none}
use native.Mathlib.Decide.{dec_le}
use Rattle.atomic_table.specs.Table.{keeps as stays, Allows, Joins, step}
use Rattle.atomic_table.proofs.Lists.{at_set}
use Rattle.once_board.specs.declared.holds.Known.{Known}
use Rattle.once_board.specs.declared.holds.Hold.{Hold}
use Rattle.once_board.specs.declared.holds.Seen.{Seen}
use Rattle.once_board.specs.declared.holds.Stage.{Stage}
use Rattle.once_board.specs.declared.holds.Stage.TheVariants.{Idle, Joined}
use Rattle.once_board.specs.declared.owners.Owner.{Owner}
use Rattle.once_board.specs.Numbers.{times}
use Rattle.once_board.specs.Places.{record_of, met, either_value, Grows}
use Rattle.once_board.specs.Holds.{nothing, joined}
use Rattle.once_board.specs.Rule.{word_of, value_of, fills, turn_of, one_if_some, at, Knows, Met, IsMet, SeatOk, Rule}
use Rattle.once_board.specs.Told.{Seated, idle, seats_joined, settle_told}
use Rattle.once_board.proofs.Sums.{times-append, total_same}
use Rattle.once_board.proofs.Records.{record_of-together}
use Rattle.once_board.proofs.Changes.{at_same}
use Rattle.once_board.proofs.Keeps.{Table, sound_of}
use Rattle.once_board.proofs.Dividing.{joins_well, other_was}

-- values and words of two records

module _ {T : Type 0} where
  either_from : (a b : Option T) (x : T) → either_value a b ≡ Some x → (a ≡ Some x) ⊎ (b ≡ Some x)
  either_from (Some y) b x e = inl e
  either_from None b x e = inr e

  pub either_first : (a b : Option T) (x : T) → a ≡ Some x → either_value a b ≡ Some x
  either_first (Some y) b x e = e
  either_first None b x e = absurd (cc)

  pub either_other : (a b : Option T) (x : T) → ((y : T) → a ≡ Some y → y ≡ x) → b ≡ Some x → either_value a b ≡ Some x
  either_other (Some y) b x same e = ap (λ z. Some z) (same y refl)
  either_other None b x same e = e

max_of : (n a b : ℕ) → n ≤ max a b → Dec (n ≤ a) → (n ≤ a) ⊎ (n ≤ b)
max_of n a b h (yes l) = inl l
max_of n a b h (no l) = inr (omega arith)

pub max_from : (n a b : ℕ) → n ≤ max a b → (n ≤ a) ⊎ (n ≤ b)
max_from n a b h = max_of n a b h (dec_le n a)

sum_of : (a b : ℕ) → 1 ≤ a + b → Dec (1 ≤ a) → (1 ≤ a) ⊎ (1 ≤ b)
sum_of a b h (yes l) = inl l
sum_of a b h (no l) = inr (omega arith)

pub sum_from : (a b : ℕ) → 1 ≤ a + b → (1 ≤ a) ⊎ (1 ≤ b)
sum_from a b h = sum_of a b h (dec_le 1 a)

-- one number stands in either list
pub times_from : (x : ℕ) (xs ys : List ℕ) → 1 ≤ times x (xs ++ ys) → (1 ≤ times x xs) ⊎ (1 ≤ times x ys)
times_from x xs ys h = sum_from (times x xs) (times x ys) (let t = times-append x xs ys in omega arith)

module _ {T : Type 0} (owners : List Owner) where
  pub spent_at : (p word : ℕ) (value : Option T) → Knows owners p word value (at p (idle (nothing {T = T})))
  spent_at p word value = record {
    true_value = λ x h. absurd (cc);
    open_value = λ x h. absurd (cc);
    was_claimed = λ h. absurd (omega arith);
    was_open = λ h. absurd (omega arith);
    shown = λ h. h;
    own_value = λ h x k. absurd (omega arith);
    put_claimed = omega arith;
    fill_claimed = omega arith;
    has_turn = λ x h. absurd (cc);
    own_place = λ right private mine h. absurd (omega arith);
  }

  pub spent_ok : SeatOk owners (idle (nothing {T = T}))
  spent_ok = record { claims_need_a_part = λ none p. refl; joined_well = tt }

  module _ (v w : Seen T) where
    abbrev kv : ℕ → Known T
    kv p = record_of v.hold.places p

    abbrev kw : ℕ → Known T
    kw p = record_of w.hold.places p

    both_at : (p : ℕ) → at p (seats_joined v w) ≡ record {
      claims = times p (v.hold.claims ++ w.hold.claims);
      puts = times p
          (v.hold.puts ++ w.hold.puts);
      fills_it = 0;
      turn = None;
      known = met (kv p) (kw p);
      rights = v.hold.rights ++ w.hold.rights;
    }
    both_at p = at_same _ _ refl refl refl refl (record_of-together v.hold.places w.hold.places p) refl

    module _ (p word : ℕ) (value : Option T) (k : Knows owners p word value (at p v)) (l : Knows owners p word value (at p w)) where
      one_value : (x y : T) → (kv p).value ≡ Some y → value ≡ Some x → y ≡ x
      one_value x y is there = let t = k.true_value y is in cc

      agree_value : (x y : T) → (kv p).value ≡ Some x → (kw p).value ≡ Some y → x ≡ y
      agree_value x y is it = let t = k.true_value x is in let u = l.true_value y it in cc

      both_value : (x : T) → either_value (kv p).value (kw p).value ≡ Some x → value ≡ Some x
      both_value x is = ⊎_elim (λ a. k.true_value x a) (λ b. l.true_value x b) (either_from (kv p).value (kw p).value x is)

      both_open : (x : T) → either_value (kv p).value (kw p).value ≡ Some x → 2 ≤ max (kv p).word (kw p).word
      both_open x is = ⊎_elim (λ a. let o = k.open_value x a in omega arith) (λ b. let o = l.open_value x b in
          omega arith) (either_from (kv p).value (kw p).value x is)

      pub either_claimed : 1 ≤ max (kv p).word (kw p).word → 1 ≤ word
      either_claimed h = ⊎_elim k.was_claimed l.was_claimed (max_from 1 (kv p).word (kw p).word h)

      both_own : 1 ≤ times p (v.hold.claims ++ w.hold.claims) → (x : T) → value ≡ Some x → either_value (kv p).value (kw p).value ≡ Some x
      both_own h x is = ⊎_elim
          (λ a. either_first (kv p).value (kw p).value x (k.own_value a x is))
          (λ b. either_other (kv p).value (kw p).value x (λ y it. one_value x y it is) (l.own_value b x is))
          (times_from p v.hold.claims w.hold.claims h)

      both_knows : Knows owners p word value (at p (seats_joined v w))
      both_knows = subst (λ a. Knows owners p word value a) (sym (both_at p)) (record {
        true_value = both_value;
        open_value = both_open;
        was_claimed = either_claimed;
        was_open = λ h. ⊎_elim k.was_open l.was_open (max_from 2 (kv p).word (kw p).word h);
        shown = λ h. ⊎_elim (λ a. let o = k.shown a in omega arith) (λ b. let o = l.shown b in omega arith) (times_from p v.hold.claims w.hold.claims h);
        own_value = both_own;
        put_claimed = (let a = k.put_claimed in let b = l.put_claimed in let t = times-append p v.hold.puts w.hold.puts in
            let u = times-append p v.hold.claims w.hold.claims in omega arith);
        fill_claimed = omega arith;
        has_turn = λ x h. absurd (cc);
        own_place = λ right private mine h. ⊎_elim
            (λ a. let o = k.own_place right private a h in omega arith)
            (λ b. let o = l.own_place right private b h in omega arith)
            (times_from right v.hold.rights w.hold.rights mine);
      })

      grows_first : Grows (kv p) (record_of (joined v.hold w.hold).places p)
      grows_first = subst (λ z. Grows (kv p) z) (sym (record_of-together v.hold.places w.hold.places p)) (record {
        still_claimed = λ h. omega arith;
        still_open = λ h. omega arith;
        same_value = λ x is. either_first (kv p).value (kw p).value x is;
      })

      grows_other : Grows (kw p) (record_of (joined v.hold w.hold).places p)
      grows_other = subst (λ z. Grows (kw p) z) (sym (record_of-together v.hold.places w.hold.places p)) (record {
        still_claimed = λ h. omega arith;
        still_open = λ h. omega arith;
        same_value = λ x is. either_other (kv p).value (kw p).value x (λ y it. agree_value y x it is) is;
      })

      claimed_there : 1 ≤ (record_of (joined v.hold w.hold).places p).word → 1 ≤ word
      claimed_there h = either_claimed (subst (λ (z : Known T). 1 ≤ z.word) (record_of-together v.hold.places w.hold.places p) h)

module _ {T : Type 0} (fits : ℕ → T → Type 0) (owners : List Owner) where
  pub joins_seats : (id : ℕ) (v : Seen T) (other : ℕ) (w : Seen T) → v.stage ≡ Idle → w.stage ≡ Idle
      → Joins (Rule fits owners) id v other w (seats_joined v w) (idle nothing)
  joins_seats id v other w idles rests s r e apart d =
      let was = other_was fits owners s r id other v w (seats_joined v w) (idle nothing) e apart d in
      let k = λ (p : ℕ). (r.place_each p).knowers id v e in
      let l = λ (p : ℕ). (r.place_each p).knowers other w was in
      joins_well fits owners s r id other v w (seats_joined v w) (idle nothing) e apart d
      (record {
        same_rights = λ x. let t = times-append x v.hold.rights w.hold.rights in omega arith;
        same_parts = omega arith;
        same_claims = λ p. let t = times-append p v.hold.claims w.hold.claims in omega arith;
        same_puts = λ p. let t = times-append p v.hold.puts w.hold.puts in omega arith;
        same_fills = λ p. let a : fills p v.stage ≡ 0 = ap (fills p) idles in let b : fills p w.stage ≡ 0 = ap (fills p) rests in omega arith;
        same_turns = λ p. let a : one_if_some (turn_of p v.stage) ≡ 0 = ap (λ st. one_if_some (turn_of p st)) idles in
            let b : one_if_some (turn_of p w.stage) ≡ 0 = ap (λ st. one_if_some (turn_of p st)) rests in omega arith;
      })
      (λ p a b. both_knows owners v w p _ _ a b)
      (λ p b. spent_at owners p _ _)
      (record {
        claims_need_a_part = λ none p.
            let a = (r.seat_each id v e).claims_need_a_part (omega arith) p in
            let b = (r.seat_each other w was).claims_need_a_part (omega arith) p in
            let t = times-append p v.hold.claims w.hold.claims in omega arith;
        joined_well = record {
          agrees = λ p x y is it. agree_value owners v w p _ _ (k p) (l p) x y is it;
          extends_first = λ p. grows_first owners v w p _ _ (k p) (l p);
          extends_other = λ p. grows_other owners v w p _ _ (k p) (l p);
          owns_first = λ p right private mine h. (k p).own_place right private mine (claimed_there owners v w p _ _ (k p) (l p) h);
          owns_other = λ p right private mine h. (l p).own_place right private mine (claimed_there owners v w p _ _ (k p) (l p) h);
        };
      })
      (spent_ok owners)

  -- a load on the word beside the places, by a seat that was joined
  module _ (s : Table T) (r : Rule fits owners s) (id : ℕ) (v : Seen T) (a b : Hold T) (met_them : v.stage ≡ Joined a b)
      (e : get_elem? s.views id ≡ some v) where
    abbrev settled : Seen T
    settled = idle v.hold

    settled_at : (p : ℕ) → at p settled ≡ at p v
    settled_at p = at_same _ _ refl refl (ap (fills p) (sym met_them)) (ap (turn_of p) (sym met_them)) refl refl

    abbrev pub loaded : Table T
    loaded = record { words = set s.words 0 (get_or s.words 0 0); homes = s.homes; views = set s.views id settled }

    settled_knowers : (p word : ℕ) (value : Option T) → ((j : ℕ) (u : Seen T) → get_elem? s.views j ≡ some u → Knows owners p word value (at p u))
        → (j : ℕ) (u : Seen T) → get_elem? (set s.views id settled) j ≡ some u → Knows owners p word value (at p u)
    settled_knowers p word value old j u d = ⊎_elim
        (λ t. subst (λ z. Knows owners p word value (at p z)) t.1 (subst (λ z. Knows owners p word value z) (sym (settled_at p)) (old id v e)))
        (λ t. old j u t.1)
        (at_set s.views id j settled u d)

    pub settles_rule : Rule fits owners loaded
    settles_rule = record {
      contents = r.contents;
      word_each = length-set s.words 0 (get_or s.words 0 0) ∙ r.word_each;
      right_once = λ x. let t = total_same (λ (u : Seen T). times x u.hold.rights) s.views id v settled e refl in let o = r.right_once x in omega arith;
      right_each = λ x h. total_same (λ u. times x u.hold.rights) s.views id v settled e refl ∙ r.right_each x h;
      all_the_parts = total_same (λ u. u.hold.parts) s.views id v settled e refl ∙ r.all_the_parts;
      place_each = λ p. let ok = r.place_each p in record {
        word = get_or-set_other s.words 0 (suc p) (get_or s.words 0 0) 0 (λ z. absurd (omega arith)) ∙ ok.word;
        claimed_by = total_same (λ u. (at p u).claims) s.views id v settled e (ap (λ z. z.claims) (settled_at p)) ∙ ok.claimed_by;
        put_by = total_same (λ u. (at p u).puts) s.views id v settled e (ap (λ z. z.puts) (settled_at p)) ∙ ok.put_by;
        filled_by = total_same (λ u. (at p u).fills_it) s.views id v settled e (ap (λ z. z.fills_it) (settled_at p)) ∙ ok.filled_by;
        turned_by = total_same (λ u. one_if_some (at p u).turn) s.views id v settled e (ap (λ z. one_if_some z.turn) (settled_at p)) ∙ ok.turned_by;
        home = ok.home;
        may_stand = ok.may_stand;
        knowers = settled_knowers p (word_of (r.contents p)) (value_of (r.contents p)) ok.knowers;
      };
      seat_each = λ j u d. ⊎_elim
          (λ t. subst (SeatOk owners) t.1 (record { claims_need_a_part = (r.seat_each id v e).claims_need_a_part; joined_well = tt }))
          (λ t. r.seat_each j u t.1)
          (at_set s.views id j settled u d);
    }

  pub settles : (slots id : ℕ) (m : Seated T) (key : List Owner) → key ≡ owners → (a b : Hold T) → m.0.stage ≡ Joined a b
      → Allows (Rule fits key) slots id m 0 (λ n. n) (settle_told fits owners (step slots 0 0 0 none) m)
  settles slots id m key is a b met_them =
      let P : List Owner → Type 0 = λ k. Allows (Rule fits k) slots id m 0 (λ n. n) (settle_told fits owners (step slots 0 0 0 none) m) in
      subst P (sym is) (λ s r long e small. (
        idle m.0.hold,
        stays,
        tt,
        settles_rule s r id m.0 a b met_them e,
        (refl, refl, (r.seat_each id m.0 e).joined_well, sound_of fits owners s r id m.0 e),
      ))

  -- what is told of two seats, by their stage
  pub met_of : (stage : Stage T) (a b h : Hold T) → stage ≡ Joined a b → IsMet owners stage h → Met owners a b h
  met_of stage a b h is met = subst (λ st. IsMet owners st h) is met
