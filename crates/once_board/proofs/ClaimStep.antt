-- A claim: an exchange of 0 for 1 at a place.
use Rattle.std.proofs.Common.{◌≡◌, ◌≢◌, ℕ, suc, ◌+◌, ◌<◌, ◌≤◌, ◌==◌, ⊎_elim, List, length, get_or, sym, refl, ap, subst, ◌∙◌, arith, add-one, Option, None}
use mathlib.Core.Option.{some, none}
use lib.ListN.{get_elem?}
use prog.Atomic.{either}
use Rattle.atomic_table.specs.Table.{Act, keeps as stays, Allows, Valid, step, stepped, carried_after}
use Rattle.atomic_table.proofs.Lists.{exchanged}
use Rattle.once_board.specs.declared.holds.Hold.{Hold}
use Rattle.once_board.specs.declared.holds.Stage.TheVariants.{Idle}
use Rattle.once_board.specs.declared.holds.Seen.{Seen}
use Rattle.once_board.specs.declared.owners.Owner.{Owner}
use Rattle.once_board.specs.Numbers.{times, total}
use Rattle.once_board.specs.Places.{record_of, read, claimed, IsFree, Grows}
use Rattle.once_board.specs.Holds.{won, saw, MayClaim, Extends}
use Rattle.once_board.specs.Rule.{Content, vacant, awaited, filling, ready, lent, word_of, value_of, fills, turn_of, one_if_some, at}
use Rattle.once_board.specs.Rule.{Knows, PlaceOk, Rule, fill_count, turn_count}
use Rattle.once_board.specs.Told.{IsSound, Follows, WasNew, Seated, idle, Claimed, claim_told}
use Rattle.once_board.specs.declared.answers.Claiming.TheVariants.{Won, Taken}
use Rattle.once_board.specs.Boards.{Claims}
use Rattle.once_board.proofs.Sums.{set_there, total_one, total_two, times_here}
use Rattle.once_board.proofs.Records.{noted_here, noted_else, extends_at}
use Rattle.once_board.proofs.Changes.{none_of, zero_unless, at_same, other_claims}
use Rattle.once_board.proofs.Keeps.{Table, changed, OffSame, keeps, here, sound_of}

pub small_word : {T : Type 0} (c : Content T) → word_of c < 4
small_word vacant = omega arith
small_word awaited = omega arith
small_word filling = omega arith
small_word (ready x) = omega arith
small_word (lent x) = omega arith

module _ {T : Type 0} (fits : ℕ → T → Type 0) (owners : List Owner) where
  -- the word of a place was read, and nothing else happens
  module _ (s : Table T) (r : Rule fits owners s) (id p : ℕ) (v : Seen T) (idles : v.stage ≡ Idle) (e : get_elem? s.views id ≡ some v)
      (inside : p < length s.homes) where
    abbrev found : ℕ
    found = get_or s.words (suc p) 0

    abbrev after : Seen T
    after = idle (saw p found v.hold)

    saw_at : at p after ≡ record {
      claims = times p v.hold.claims;
      puts = times p v.hold.puts;
      fills_it = 0;
      turn = None;
      known = read found
          (record_of v.hold.places p);
      rights = v.hold.rights;
    }
    saw_at = at_same _ _ refl refl refl refl (noted_here v.hold.places p (read found (record_of v.hold.places p))) refl

    saw_off : OffSame fits owners p v after
    saw_off q ne = at_same _ _ refl refl (ap (fills q) (sym idles)) (ap (turn_of q) (sym idles))
        (noted_else v.hold.places p q (read found (record_of v.hold.places p)) ne) refl

    old : Knows owners p (word_of (r.contents p)) (value_of (r.contents p)) (at p v)
    old = (r.place_each p).knowers id v e

    pub word_is : found ≡ word_of (r.contents p)
    word_is = (r.place_each p).word

    saw_knows : Knows owners p (word_of (r.contents p)) (value_of (r.contents p)) (at p after)
    saw_knows = let is : found ≡ word_of (r.contents p) = word_is in
        subst (λ a. Knows owners p (word_of (r.contents p)) (value_of (r.contents p)) a) (sym saw_at) (record {
          true_value = old.true_value;
          open_value = λ x k. let o = old.was_open (old.open_value x k) in omega arith;
          was_claimed = λ h. omega arith;
          was_open = λ h. omega arith;
          shown = λ h. let o = old.was_claimed (old.shown h) in omega arith;
          own_value = old.own_value;
          put_claimed = old.put_claimed;
          fill_claimed = omega arith;
          has_turn = λ x k. absurd (cc);
          own_place = λ right private mine h. omega arith;
        })

    pub saw_keeps : Rule fits owners (changed fits owners s p found s.homes id after)
    saw_keeps = keeps fits owners s r id v after p found s.homes e (r.contents p) saw_off refl refl refl (λ q ne. refl)
        (record { claims_need_a_part = (r.seat_each id v e).claims_need_a_part; joined_well = tt })
        (here fits owners s r id v after p found s.homes e (r.contents p) (r.contents p) (r.place_each p) inside word_is refl refl
        (ap (λ st. fills p st + fill_count (r.contents p)) (sym idles))
        (ap (λ st. one_if_some (turn_of p st) + turn_count (r.contents p)) (sym idles))
        ((r.place_each p).home inside) (r.place_each p).may_stand saw_knows (λ j u ne d k. k))

    pub follows : Follows found (record_of v.hold.places p)
    follows = let is : found ≡ word_of (r.contents p) = word_is in record {
      still_claimed = λ h. let o = old.was_claimed h in omega arith;
      still_open = λ h. let o = old.was_open h in omega arith;
      open_value = λ x k. let o = old.was_open (old.open_value x k) in omega arith;
    }

    pub saw_extends : Extends v.hold (saw p found v.hold)
    saw_extends =
        let f = follows in
        extends_at v.hold (saw p found v.hold) p (read found (record_of v.hold.places p)) refl
        (record { still_claimed = f.still_claimed; still_open = f.still_open; same_value = λ x h. h })

    pub saw_sound : IsSound fits (saw p found v.hold)
    saw_sound = sound_of fits owners (changed fits owners s p found s.homes id after) saw_keeps id after (set_there s.views id v after e)

  module _ (s : Table T) (r : Rule fits owners s) (id p : ℕ) (v : Seen T) (idles : v.stage ≡ Idle) (e : get_elem? s.views id ≡ some v)
      (inside : p < length s.homes)
      (part : 1 ≤ v.hold.parts) (may : MayClaim owners p v.hold) where
    abbrev winner : Seen T
    winner = idle (won p v.hold)

    won_at : at p winner ≡ record {
      claims = suc (times p v.hold.claims);
      puts = times p v.hold.puts;
      fills_it = 0;
      turn = None;
      known = claimed
          (record_of v.hold.places p);
      rights = v.hold.rights;
    }
    won_at = at_same _ _ (times_here p v.hold.claims) refl refl refl (noted_here v.hold.places p (claimed (record_of v.hold.places p))) refl

    won_off : OffSame fits owners p v winner
    won_off q ne = at_same _ _ (other_claims p q v.hold.claims ne) refl (ap (fills q) (sym idles)) (ap (turn_of q) (sym idles))
        (noted_else v.hold.places p q (claimed (record_of v.hold.places p)) ne) refl

    won_knows : Knows owners p 0 None (at p v) → times p v.hold.claims ≡ 0 → Knows owners p 1 None (at p winner)
    won_knows old none_yet = subst (λ a. Knows owners p 1 None a) (sym won_at) (record {
      true_value = old.true_value;
      open_value = λ x k. absurd (let t = old.true_value x k in cc);
      was_claimed = λ h. omega arith;
      was_open = λ h. absurd (omega arith);
      shown = λ h. omega arith;
      own_value = λ h x k. absurd (cc);
      put_claimed = let o = old.put_claimed in omega arith;
      fill_claimed = omega arith;
      has_turn = λ x k. absurd (cc);
      own_place = λ right private mine h. omega arith;
    })

    -- another seat has no right to this place
    won_other : (j : ℕ) (u : Seen T) → j ≢ id → get_elem? s.views j ≡ some u → Knows owners p 0 None (at p u) → Knows owners p 1 None (at p u)
    won_other j u ne d k = record {
      true_value = k.true_value;
      open_value = k.open_value;
      was_claimed = λ h. omega arith;
      was_open = λ h. absurd (let o = k.was_open h in omega arith);
      shown = k.shown;
      own_value = λ h x is. absurd (cc);
      put_claimed = k.put_claimed;
      fill_claimed = k.fill_claimed;
      has_turn = k.has_turn;
      own_place = λ right private mine h. ⊎_elim
          (λ free. absurd (let a = free.0 in cc))
          (λ own.
          let same : own.0 ≡ right = (let a = own.1 in cc) in
          let has : 1 ≤ times right v.hold.rights = subst (λ z. 1 ≤ times z v.hold.rights) same own.2 in
          let two = total_two (λ (w : Seen T). times right w.hold.rights) s.views id j v u ne e d in
          let once = r.right_once right in
          absurd (omega arith))
          may;
    }

    won_keeps : (c : Content T) → PlaceOk fits owners s p c → word_of c ≡ 0 → Rule fits owners (changed fits owners s p 1 s.homes id winner)
    won_keeps vacant ok none_yet =
        let few = total_one (λ (u : Seen T). (at p u).claims) s.views id v e in
        let sum : total (λ (u : Seen T). (at p u).claims) s.views ≡ 0 = ok.claimed_by in
        let no_claim : times p v.hold.claims ≡ 0 = omega arith in
        keeps fits owners s r id v winner p 1 s.homes e awaited won_off refl refl refl (λ q ne. refl)
        (record { claims_need_a_part = λ no_part. absurd (omega arith); joined_well = tt })
        (here fits owners s r id v winner p 1 s.homes e vacant awaited ok inside refl
        (let t = times_here p v.hold.claims in omega arith) refl
        (ap (λ st. fills p st + 0) (sym idles)) (ap (λ st. one_if_some (turn_of p st) + 0) (sym idles))
        (ok.home inside) (λ x k. absurd (cc)) (won_knows (ok.knowers id v e) no_claim) won_other)
    won_keeps awaited ok none_yet = absurd (omega arith)
    won_keeps filling ok none_yet = absurd (omega arith)
    won_keeps (ready x) ok none_yet = absurd (omega arith)
    won_keeps (lent x) ok none_yet = absurd (omega arith)

    won_new : (c : Content T) → PlaceOk fits owners s p c → word_of c ≡ 0 → WasNew p v.hold
    won_new vacant ok none_yet =
        let few = total_one (λ (u : Seen T). (at p u).claims) s.views id v e in
        let sum : total (λ (u : Seen T). (at p u).claims) s.views ≡ 0 = ok.claimed_by in
        let k = ok.knowers id v e in
        let word = k.was_claimed in
        record {
          no_word = zero_unless (record_of v.hold.places p).word (λ h. absurd (let w = word h in omega arith));
          no_value = none_of (record_of v.hold.places p).value (λ x h. let t = k.true_value x h in cc);
          no_claim = omega arith;
          no_put = (let o = k.put_claimed in omega arith);
        }
    won_new awaited ok none_yet = absurd (omega arith)
    won_new filling ok none_yet = absurd (omega arith)
    won_new (ready x) ok none_yet = absurd (omega arith)
    won_new (lent x) ok none_yet = absurd (omega arith)

    won_grows : (c : Content T) → PlaceOk fits owners s p c → word_of c ≡ 0 → Grows (record_of v.hold.places p) (claimed (record_of v.hold.places p))
    won_grows c ok is =
        let new = won_new c ok is in
        record { still_claimed = λ h. omega arith; still_open = λ h. absurd (let z = new.no_word in omega arith); same_value = λ x h. h }

    -- the place is free, or its word was 0
    lost_free : get_or s.words (suc p) 0 ≢ 0 → IsFree owners p
    lost_free taken = ⊎_elim (λ free. free.0)
        (λ own.
        let k = (r.place_each p).knowers id v e in
        let is = (r.place_each p).word in
        let o = k.own_place own.0 own.1 own.2 (omega arith) in
        absurd (let z = own.3 in omega arith))
        may

  pub claims : (slots id p : ℕ) (m : Seated T) → m.0.stage ≡ Idle → p < slots → 1 ≤ m.0.hold.parts → MayClaim owners p m.0.hold
      → Allows (Rule fits owners) slots id m (suc p) (λ n. either (n == 0) 1 n) (claim_told fits owners (step slots (suc p) 0 1 none) m)
  claims slots id p m idles inside part may s r long e small =
      let n : ℕ = get_or s.words (suc p) 0 in
      let v : Seen T = m.0 in
      let inside' : p < length s.homes = omega arith in
      let P : ℕ → Type 0 = λ new. (w : Seen T) × (a : Act (Option T)) × Valid s.homes m.1 a × Rule fits owners (stepped s (suc p) new id m.1 w a)
      × claim_told fits owners (step slots (suc p) 0 1 none) m n (w, carried_after m.1 a) in
      exchanged n 0 1 P
      (λ hit.
      let c : Content T = r.contents p in
      let ok = r.place_each p in
      let is : word_of c ≡ 0 = sym ok.word ∙ hit in
      let kept = won_keeps s r id p v idles e inside' part may c ok is in (
        idle (won p v.hold),
        stays,
        tt,
        kept,
        (λ q same.
            let there : p ≡ q = omega arith in
            subst (λ z. Claimed fits owners z n m (idle (won p v.hold), m.1)) there (record {
              same_slots = refl;
              small = omega arith;
              sound = sound_of fits owners (changed fits owners s p 1 s.homes id (idle (won p v.hold))) kept id (idle (won p v.hold))
                  (set_there s.views id v (idle (won p v.hold)) e);
              extends = extends_at v.hold (won p v.hold) p (claimed (record_of v.hold.places p)) refl (won_grows s r id p v idles e inside' part may c ok is);
              at_once = λ z. (refl, won_new s r id p v idles e inside' part may c ok is);
              lost = λ taken. absurd (taken hit);
            })),
      ))
      (λ miss. (
        idle (saw p n v.hold),
        stays,
        tt,
        saw_keeps s r id p v idles e inside',
        (λ q same.
            let there : p ≡ q = omega arith in
            subst (λ z. Claimed fits owners z n m (idle (saw p n v.hold), m.1)) there (record {
              same_slots = refl;
              small = (let is = word_is s r id p v idles e inside' in let few = small_word (r.contents p) in omega arith);
              sound = saw_sound s r id p v idles e inside';
              extends = saw_extends s r id p v idles e inside';
              at_once = λ hit. absurd (miss hit);
              lost = λ taken. (refl, lost_free s r id p v idles e inside' part may taken, follows s r id p v idles e inside');
            })),
      ))

  -- in the words of the code
  pub claims_next : (slots id p : ℕ) (m : Seated T) (key : List Owner) → key ≡ owners → m.0.stage ≡ Idle → p < slots → 1 ≤ m.0.hold.parts
      → MayClaim owners p m.0.hold
      → Allows (Rule fits key) slots id m (p + 1) (λ n. either (n == 0) 1 n) (claim_told fits owners (step slots (p + 1) 0 1 none) m)
  claims_next slots id p m key is idles inside part may =
      let P : ℕ → List Owner → Type 0 = λ i k. Allows (Rule fits k) slots id m i (λ n. either (n == 0) 1 n)
      (claim_told fits owners (step slots i 0 1 none) m) in
      subst (λ i. P i key) (sym (add-one p)) (subst (λ k. P (suc p) k) (sym is) (claims slots id p m idles inside part may))

  -- what the board answers
  pub answers_won : (p word : ℕ) (m m' : Seated T) (key : List Owner) (h : Hold T) → owners ≡ key → m.0.hold ≡ h → Claimed fits owners p word m m'
      → word ≡ 0 → Claims key p h m'.0.hold Won
  answers_won p word m m' key h is same told hit =
      let won_it = told.at_once hit in
      let after = ap (λ v. v.hold) won_it.0 in
      let P : List Owner → Hold T → Type 0 = λ o b. Claims o p b m'.0.hold Won in
      subst (λ o. P o h) is (subst (λ b. P owners b) same
      (after, won_it.1, ap (λ b. record_of b.places p) after ∙ noted_here m.0.hold.places p (claimed (record_of m.0.hold.places p))))

  pub answers_taken : (p word : ℕ) (m m' : Seated T) (key : List Owner) (h : Hold T) → owners ≡ key → m.0.hold ≡ h → Claimed fits owners p word m m'
      → word ≢ 0 → Claims key p h m'.0.hold (Taken word)
  answers_taken p word m m' key h is same told miss =
      let lost_it = told.lost miss in
      let after = ap (λ v. v.hold) lost_it.0 in
      let P : List Owner → Hold T → Type 0 = λ o b. Claims o p b m'.0.hold (Taken word) in
      subst (λ o. P o h) is (subst (λ b. P owners b) same (
        after,
        ap (λ b. record_of b.places p) after
            ∙ noted_here m.0.hold.places p (read word (record_of m.0.hold.places p)),
        miss,
        told.small,
        lost_it.1,
        lost_it.2,
      ))
