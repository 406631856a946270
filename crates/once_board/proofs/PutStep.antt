-- A put: a load that takes the empty slot of a place, and a store of 2 that brings the value home.
use Rattle.std.proofs.Common.{◌≡◌, ◌≢◌, ℕ, suc, ◌+◌, ◌<◌, ◌≤◌, List, [], ◌∷◌, length, get_or, set, sym, refl, ap, subst, ◌∙◌, arith, add-one, Option, Some}
use Rattle.std.proofs.Common.{None}
use mathlib.Core.Option.{some, none, some-injective}
use mathlib.Core.Option as maybe
use mathlib.Core.Logic.{dite}
use native.Mathlib.Decide.{ℕ_discrete}
use lib.ListN.{get_elem?, length-set}
use Rattle.atomic_table.specs.Table.{takes, gives, Allows, step, rest}
use Rattle.atomic_table.proofs.Lists.{set_here, set_else}
use Rattle.once_board.specs.declared.holds.Stage.TheVariants.{Idle, Filling}
use Rattle.once_board.specs.declared.holds.Hold.{Hold}
use Rattle.once_board.specs.declared.holds.Seen.{Seen}
use Rattle.once_board.specs.declared.owners.Owner.{Owner}
use Rattle.once_board.specs.Numbers.{times, total}
use Rattle.once_board.specs.Places.{record_of, opened}
use Rattle.once_board.specs.Holds.{put_at, Extends}
use Rattle.once_board.specs.Rule.{Content, vacant, awaited, filling, ready, lent, fills, turn_of, at, Knows, PlaceOk, Rule}
use Rattle.once_board.specs.Rule.{one_if_some}
use Rattle.once_board.specs.Told.{IsSound, Seated, seen, idle, fill_told, put_told}
use Rattle.once_board.proofs.Sums.{set_there, total_one, total_two, total_some, times_here}
use Rattle.once_board.proofs.Records.{noted_here, noted_else, extends_at}
use Rattle.once_board.proofs.Changes.{at_same, other_claims, fills_else, fills_here}
use Rattle.once_board.proofs.Keeps.{Table, changed, OffSame, keeps, here, sound_of}

-- what the slot holds that was taken last
pub same_slot : {T : Type 0} (p q : ℕ) (a b : Option T) (xs ys : List (ℕ × Option T)) → ◌≡◌ {A = List (ℕ × Option T)} ((p, a) ∷ xs) ((q, b) ∷ ys) → a ≡ b
same_slot {T} p q a b xs ys e =
    let first : ℕ × Option T = (p, a) in
    let other : ℕ × Option T = (q, b) in
    let pair : first ≡ other = cc in
    ap (λ (z : ℕ × Option T). z.1) pair

-- the value of the one slot in hand
pub same_value : {T : Type 0} (p q : ℕ) (x y : T) → ◌≡◌ {A = List (ℕ × Option T)} ((p, Some x) ∷ []) ((q, Some y) ∷ []) → x ≡ y
same_value p q x y e = let value = same_slot p q (Some x) (Some y) [] [] e in cc

-- a slot in hand, with the others after it
pub in_hand : {T : Type 0} (m : Seated T) (p : ℕ) (a : Option T) (xs : List (ℕ × Option T)) → m.1 ≡ (p, a) ∷ xs → m.1 ≡ (p, a) ∷ rest m.1
in_hand m p a xs has = has ∙ (λ i. (p, a) ∷ sym (ap rest has) i)

module _ {T : Type 0} (fits : ℕ → T → Type 0) (owners : List Owner) where
  module _ (s : Table T) (r : Rule fits owners s) (id p : ℕ) (v : Seen T) (idles : v.stage ≡ Idle) (e : get_elem? s.views id ≡ some v)
      (inside : p < length s.homes)
      (claim : 1 ≤ times p v.hold.claims) (unfilled : (record_of v.hold.places p).value ≡ None) where
    abbrev filler : Seen T
    filler = seen v.hold (Filling p)

    fill_at : at p filler ≡ record {
      claims = times p v.hold.claims;
      puts = times p v.hold.puts;
      fills_it = 1;
      turn = None;
      known
          = record_of v.hold.places p;
      rights = v.hold.rights;
    }
    fill_at = at_same _ _ refl refl (fills_here T p) refl refl refl

    fill_off : OffSame fits owners p v filler
    fill_off q ne = at_same _ _ refl refl (fills_else T p q ne ∙ ap (fills q) (sym idles)) (ap (turn_of q) (sym idles)) refl refl

    fill_knows : Knows owners p 1 None (at p v) → Knows owners p 1 None (at p filler)
    fill_knows k = subst (λ a. Knows owners p 1 None a) (sym fill_at) (record {
      true_value = k.true_value;
      open_value = k.open_value;
      was_claimed = k.was_claimed;
      was_open = k.was_open;
      shown = k.shown;
      own_value = k.own_value;
      put_claimed = k.put_claimed;
      fill_claimed = claim;
      has_turn = λ x h. absurd (cc);
      own_place = k.own_place;
    })

    -- no seat fills the place yet: it would have a second claim
    one_filler : PlaceOk fits owners s p filling → ⊥
    one_filler ok =
        let o = total_some (λ (u : Seen T). (at p u).fills_it) s.views (let f = ok.filled_by in omega arith) in
        let k = ok.knowers o.0 o.1 o.2 in
        let its : (at p o.1).fills_it ≤ (at p o.1).claims = k.fill_claimed in
        let positive : 0 < (at p o.1).fills_it = o.3 in
        dite (ℕ_discrete o.0 id)
        (λ same.
        let who : some o.1 ≡ some v = sym o.2 ∙ (ap (λ z. get_elem? s.views z) same ∙ e) in
        let it : o.1 ≡ v = some-injective o.1 v who in
        let none_now : (at p o.1).fills_it ≡ 0 = ap (λ (u : Seen T). fills p u.stage) it ∙ ap (fills p) idles in
        omega arith)
        (λ other.
        let two = total_two (λ (u : Seen T). (at p u).claims) s.views id o.0 v o.1 other e o.2 in
        let sum = ok.claimed_by in
        omega arith)

    abbrev Taken : Type 0
    Taken = (get_elem? s.homes p ≡ some (some None)) × Rule fits owners (changed fits owners s p (get_or s.words (suc p) 0) (set s.homes p none) id filler)

    taken : (c : Content T) → PlaceOk fits owners s p c → Taken
    taken vacant ok = absurd (let few = total_one (λ (u : Seen T). (at p u).claims) s.views id v e in let sum = ok.claimed_by in omega arith)
    taken awaited ok = (
      ok.home inside,
      keeps fits owners s r id v filler p (get_or s.words (suc p) 0) (set s.homes p none) e filling fill_off refl refl
          (length-set s.homes p none) (λ q ne. set_else s.homes p q none ne)
          (record { claims_need_a_part = (r.seat_each id v e).claims_need_a_part; joined_well = tt })
          (here fits owners s r id v filler p (get_or s.words (suc p) 0) (set s.homes p none) e awaited filling ok inside ok.word refl refl
          (let f = fills_here T p in let g : fills p v.stage ≡ 0 = ap (fills p) idles in omega arith)
          (ap (λ st. one_if_some (turn_of p st) + 0) (sym idles))
          tt (λ x k. absurd (cc)) (fill_knows (ok.knowers id v e)) (λ j u ne d k. k)),
    )
    taken filling ok = absurd (one_filler ok)
    taken (ready x) ok = absurd (let k = (ok.knowers id v e).own_value claim x refl in cc)
    taken (lent x) ok = absurd (let k = (ok.knowers id v e).own_value claim x refl in cc)

  pub takes_slot : (slots id p : ℕ) (m : Seated T) → m.0.stage ≡ Idle → p < slots → 1 ≤ times p m.0.hold.claims → (record_of m.0.hold.places p).value ≡ None
      → Allows (Rule fits owners) slots id m (suc p) (λ n. n) (fill_told (step slots (suc p) 0 0 none) m)
  takes_slot slots id p m idles inside claim unfilled s r long e small =
      let took = taken s r id p m.0 idles e (omega arith) claim unfilled (r.contents p) (r.place_each p) in (
        seen m.0.hold (Filling p),
        takes p None,
        took.0,
        took.1,
        (λ q same. let there : p ≡ q = omega arith in (ap (λ z. (z, None) ∷ m.1) there, ap (λ z. seen m.0.hold (Filling z)) there)),
      )

  module _ (s : Table T) (r : Rule fits owners s) (id p : ℕ) (x : T) (v : Seen T) (at_it : v.stage ≡ Filling p) (e : get_elem? s.views id ≡ some v)
      (inside : p < length s.homes) (fit : fits p x) where
    abbrev putter : Seen T
    putter = idle (put_at p x v.hold)

    put_is : at p putter ≡ record {
      claims = times p v.hold.claims;
      puts = suc (times p v.hold.puts);
      fills_it = 0;
      turn = None;
      known = opened x
          (record_of v.hold.places p);
      rights = v.hold.rights;
    }
    put_is = at_same _ _ refl (times_here p v.hold.puts) refl refl (noted_here v.hold.places p (opened x (record_of v.hold.places p))) refl

    put_off : OffSame fits owners p v putter
    put_off q ne = at_same _ _ refl (other_claims p q v.hold.puts ne) (sym (ap (fills q) at_it ∙ fills_else T p q ne)) (ap (turn_of q) (sym at_it))
        (noted_else v.hold.places p q (opened x (record_of v.hold.places p)) ne) refl

    fills_one : (at p v).fills_it ≡ 1
    fills_one = ap (fills p) at_it ∙ fills_here T p

    put_knows : times p v.hold.puts ≡ 0 → 1 ≤ times p v.hold.claims → Knows owners p 2 (Some x) (at p putter)
    put_knows first claim = subst (λ a. Knows owners p 2 (Some x) a) (sym put_is) (record {
      true_value = λ y h. h;
      open_value = λ y h. omega arith;
      was_claimed = λ h. omega arith;
      was_open = λ h. omega arith;
      shown = λ h. omega arith;
      own_value = λ h y k. k;
      put_claimed = omega arith;
      fill_claimed = omega arith;
      has_turn = λ y h. absurd (cc);
      own_place = λ right private mine h. omega arith;
    })

    put_other : PlaceOk fits owners s p filling → 1 ≤ times p v.hold.claims → (j : ℕ) (u : Seen T) → j ≢ id → get_elem? s.views j ≡ some u
        → Knows owners p 1 None (at p u) → Knows owners p 2 (Some x) (at p u)
    put_other ok claim j u ne d k = record {
      true_value = λ y h. absurd (let t = k.true_value y h in cc);
      open_value = k.open_value;
      was_claimed = λ h. omega arith;
      was_open = λ h. omega arith;
      shown = k.shown;
      own_value = λ h y is. absurd (let two = total_two (λ (w : Seen T). (at p w).claims) s.views id j v u ne e d in let sum = ok.claimed_by in omega arith);
      put_claimed = k.put_claimed;
      fill_claimed = k.fill_claimed;
      has_turn = λ y h. absurd (let t = k.has_turn y h in cc);
      own_place = λ right private mine h. k.own_place right private mine (omega arith);
    }

    abbrev pub home_again : List (maybe.Option (Option T))
    home_again = set s.homes p (some (Some x))

    put_keeps : (c : Content T) → PlaceOk fits owners s p c → Rule fits owners (changed fits owners s p 2 home_again id putter)
    put_keeps vacant ok = absurd (let few = total_one (λ (u : Seen T). (at p u).fills_it) s.views id v e in let sum = ok.filled_by in
        let one = fills_one in omega arith)
    put_keeps awaited ok = absurd (let few = total_one (λ (u : Seen T). (at p u).fills_it) s.views id v e in let sum = ok.filled_by in
        let one = fills_one in omega arith)
    put_keeps filling ok =
        let k = ok.knowers id v e in
        let one = fills_one in
        let its : (at p v).fills_it ≤ (at p v).claims = k.fill_claimed in
        let claim : 1 ≤ times p v.hold.claims = omega arith in
        let few = total_one (λ (u : Seen T). (at p u).puts) s.views id v e in
        let sum : total (λ (u : Seen T). (at p u).puts) s.views ≡ 0 = ok.put_by in
        let no_put : times p v.hold.puts ≡ 0 = omega arith in
        keeps fits owners s r id v putter p 2 home_again e (ready x) put_off refl refl
        (length-set s.homes p (some (Some x))) (λ q ne. set_else s.homes p q (some (Some x)) ne)
        (record { claims_need_a_part = (r.seat_each id v e).claims_need_a_part; joined_well = tt })
        (here fits owners s r id v putter p 2 home_again e filling (ready x) ok inside refl refl
        (let t = times_here p v.hold.puts in omega arith)
        (omega arith)
        (ap (λ st. one_if_some (turn_of p st) + 0) (sym at_it))
        (set_here s.homes p (some (Some x)) inside)
        (λ y h. let same : x ≡ y = (cc) in subst (fits p) same fit)
        (put_knows no_put claim) (put_other ok claim))
    put_keeps (ready y) ok = absurd (let few = total_one (λ (u : Seen T). (at p u).fills_it) s.views id v e in let sum = ok.filled_by in
        let one = fills_one in omega arith)
    put_keeps (lent y) ok = absurd (let few = total_one (λ (u : Seen T). (at p u).fills_it) s.views id v e in let sum = ok.filled_by in
        let one = fills_one in omega arith)

    pub put_rule : Rule fits owners (changed fits owners s p 2 home_again id putter)
    put_rule = put_keeps (r.contents p) (r.place_each p)

    pub put_sound : IsSound fits (put_at p x v.hold)
    put_sound = sound_of fits owners (changed fits owners s p 2 home_again id putter) put_rule id putter (set_there s.views id v putter e)

  -- with the slot in hand
  brings : (slots id p : ℕ) (x : T) (v : Seen T) → v.stage ≡ Filling p → p < slots → fits p x
      → Allows (Rule fits owners) slots id (v, (p, Some x) ∷ []) (suc p) (λ _. 2) (λ _. put_told fits (step slots (suc p) 2 0 none) (v, (p, Some x) ∷ []) 2)
  brings slots id p x v at_it inside fit s r long e small =
      let inside' : p < length s.homes = omega arith in (
        idle (put_at p x v.hold),
        gives,
        tt,
        put_rule s r id p x v at_it e inside' fit,
        (λ q y same has.
            let there : p ≡ q = omega arith in
            let it : x ≡ y = same_value p q x y has in
            (refl, (λ i. idle (put_at (there i) (it i) v.hold)), put_sound s r id p x v at_it e inside' fit)),
      )

  pub opens : (slots id p : ℕ) (x : T) (m : Seated T) → m.0.stage ≡ Filling p → m.1 ≡ (p, Some x) ∷ [] → p < slots → fits p x
      → Allows (Rule fits owners) slots id m (suc p) (λ _. 2) (λ _. put_told fits (step slots (suc p) 2 0 none) m 2)
  opens slots id p x m at_it has inside fit =
      let P : List (ℕ × Option T) → Type 0 = λ slot. Allows (Rule fits owners) slots id (m.0, slot) (suc p) (λ _. 2)
      (λ _. put_told fits (step slots (suc p) 2 0 none) (m.0, slot) 2) in
      subst P (sym has) (brings slots id p x m.0 at_it inside fit)

  -- both in the words of the code
  pub takes_next : (slots id p : ℕ) (m : Seated T) → m.0.stage ≡ Idle → p < slots → 1 ≤ times p m.0.hold.claims → (record_of m.0.hold.places p).value ≡ None
      → Allows (Rule fits owners) slots id m (p + 1) (λ n. n) (fill_told (step slots (p + 1) 0 0 none) m)
  takes_next slots id p m idles inside claim unfilled =
      subst (λ i. Allows (Rule fits owners) slots id m i (λ n. n) (fill_told (step slots i 0 0 none) m)) (sym (add-one p))
      (takes_slot slots id p m idles inside claim unfilled)

  pub opens_next : (slots id p : ℕ) (x : T) (m : Seated T) → m.0.stage ≡ Filling p → m.1 ≡ (p, Some x) ∷ [] → p < slots → fits p x
      → Allows (Rule fits owners) slots id m (p + 1) (λ _. 2) (λ _. put_told fits (step slots (p + 1) 2 0 none) m 2)
  opens_next slots id p x m at_it has inside fit =
      subst (λ i. Allows (Rule fits owners) slots id m i (λ _. 2) (λ _. put_told fits (step slots i 2 0 none) m 2)) (sym (add-one p))
      (opens slots id p x m at_it has inside fit)

-- a put loses nothing
pub put_extends : {T : Type 0} (p : ℕ) (x : T) (h : Hold T) → (record_of h.places p).value ≡ None → Extends h (put_at p x h)
put_extends p x h unfilled = extends_at h (put_at p x h) p (opened x (record_of h.places p)) refl
    (record { still_claimed = λ k. omega arith; still_open = λ k. omega arith; same_value = λ y known. absurd (cc) })
