-- A look: an exchange of 2 for 3 that takes the value out, and a store of 2 that brings it home.
use Rattle.std.proofs.Common.{◌≡◌, ℕ, suc, ◌+◌, ◌<◌, ◌≤◌, ◌==◌, List, [], ◌∷◌, length, get_or, set, sym, refl, ap, subst, ◌∙◌, arith, add-one, Option, Some}
use Rattle.std.proofs.Common.{None}
use mathlib.Core.Option.{some, none}
use mathlib.Core.Option as maybe
use mathlib.Core.Logic.{dite}
use native.Mathlib.Decide.{ℕ_discrete}
use lib.ListN.{get_elem?, length-set}
use prog.Atomic.{either}
use Rattle.atomic_table.specs.Table.{Act, keeps as stays, takes, gives, Allows, Valid, step, stepped, carried_after}
use Rattle.atomic_table.proofs.Lists.{exchanged, set_here, set_else}
use Rattle.once_board.specs.declared.holds.Known.{Known}
use Rattle.once_board.specs.declared.holds.Stage.TheVariants.{Idle, Turn}
use Rattle.once_board.specs.declared.holds.Seen.{Seen}
use Rattle.once_board.specs.declared.owners.Owner.{Owner}
use Rattle.once_board.specs.Numbers.{times, total}
use Rattle.once_board.specs.Places.{record_of, noted, read, opened, IsPrivate}
use Rattle.once_board.specs.Holds.{saw, learned, OwnsAll, Extends}
use Rattle.once_board.specs.Rule.{Content, vacant, awaited, filling, ready, lent, word_of, value_of, turn_count, fills}
use Rattle.once_board.specs.Rule.{turn_of, one_if_some, at, Knows, PlaceOk, Rule, IsMet}
use Rattle.once_board.specs.Told.{IsSound, Seated, seen, idle, Looked, look_told, learn_told}
use Rattle.once_board.proofs.Sums.{set_there, total_one}
use Rattle.once_board.proofs.Records.{noted_here, noted_else}
use Rattle.once_board.proofs.Changes.{at_same, turn_else, turn_here}
use Rattle.once_board.proofs.ClaimStep.{small_word, saw_keeps, word_is, follows, saw_sound, saw_extends}
use Rattle.once_board.proofs.Keeps.{Table, changed, OffSame, keeps, here, sound_of}

module _ {T : Type 0} (fits : ℕ → T → Type 0) (owners : List Owner) where
  module _ (s : Table T) (r : Rule fits owners s) (id p : ℕ) (v : Seen T) (idles : v.stage ≡ Idle) (e : get_elem? s.views id ≡ some v)
      (inside : p < length s.homes) where
    knew : Knows owners p (word_of (r.contents p)) (value_of (r.contents p)) (at p v)
    knew = (r.place_each p).knowers id v e

    -- that a place which is private to a right of the seat is claimed was known before the reading
    pub owns_read : OwnsAll owners v.hold (saw p (get_or s.words (suc p) 0) v.hold)
    owns_read q right private mine h =
        let n : ℕ = get_or s.words (suc p) 0 in
        let k : Known T = read n (record_of v.hold.places p) in
        dite (ℕ_discrete q p)
        (λ same.
        let is : n ≡ word_of (r.contents p) = (r.place_each p).word in
        let at_p : 1 ≤ (record_of (noted v.hold.places p k) p).word = subst (λ z. 1 ≤ (record_of (noted v.hold.places p k) z).word) same h in
        let word : 1 ≤ n = subst (λ (z : Known T). 1 ≤ z.word) (noted_here v.hold.places p k) at_p in
        subst (λ z. 1 ≤ (record_of v.hold.places z).word) (sym same)
        (knew.own_place right (subst (λ z. IsPrivate owners z right) same private) mine (omega arith)))
        (λ ne. subst (λ (z : Known T). 1 ≤ z.word) (noted_else v.hold.places p q k ne) h)

    pub unclaimed_there : get_or s.words (suc p) 0 ≡ 0 → times p v.hold.claims ≡ 0
    unclaimed_there zero_now = free_content (r.contents p) (r.place_each p) ((sym (r.place_each p).word) ∙ zero_now)
      where
        free_content : (c : Content T) → PlaceOk fits owners s p c → word_of c ≡ 0 → times p v.hold.claims ≡ 0
        free_content vacant ok is = let few = total_one (λ (u : Seen T). (at p u).claims) s.views id v e in
            let sum : total (λ (u : Seen T). (at p u).claims) s.views ≡ 0 = ok.claimed_by in omega arith
        free_content awaited ok is = absurd (omega arith)
        free_content filling ok is = absurd (omega arith)
        free_content (ready x) ok is = absurd (omega arith)
        free_content (lent x) ok is = absurd (omega arith)

    -- the turn is won
    module _ (x : T) where
      abbrev holder : Seen T
      holder = seen (saw p 2 v.hold) (Turn p x)

      turn_at : at p holder ≡ record {
        claims = times p v.hold.claims;
        puts = times p v.hold.puts;
        fills_it = 0;
        turn = Some x;
        known = read 2
            (record_of v.hold.places p);
        rights = v.hold.rights;
      }
      turn_at = at_same _ _ refl refl refl (turn_here p x) (noted_here v.hold.places p (read 2 (record_of v.hold.places p))) refl

      turn_off : OffSame fits owners p v holder
      turn_off q ne = at_same _ _ refl refl (ap (fills q) (sym idles)) (turn_else p q x ne ∙ ap (turn_of q) (sym idles))
          (noted_else v.hold.places p q (read 2 (record_of v.hold.places p)) ne) refl

      turn_knows : Knows owners p 2 (Some x) (at p v) → Knows owners p 3 (Some x) (at p holder)
      turn_knows k = subst (λ a. Knows owners p 3 (Some x) a) (sym turn_at) (record {
        true_value = k.true_value;
        open_value = λ y h. omega arith;
        was_claimed = λ h. omega arith;
        was_open = λ h. omega arith;
        shown = λ h. omega arith;
        own_value = k.own_value;
        put_claimed = k.put_claimed;
        fill_claimed = omega arith;
        has_turn = λ y h. h;
        own_place = λ right private mine h. omega arith;
      })

      turn_other : (u : Seen T) → Knows owners p 2 (Some x) (at p u) → Knows owners p 3 (Some x) (at p u)
      turn_other u k = record {
        true_value = k.true_value;
        open_value = k.open_value;
        was_claimed = λ h. omega arith;
        was_open = λ h. omega arith;
        shown = k.shown;
        own_value = k.own_value;
        put_claimed = k.put_claimed;
        fill_claimed = k.fill_claimed;
        has_turn = k.has_turn;
        own_place = λ right private mine h. k.own_place right private mine (omega arith);
      }

      turn_keeps : PlaceOk fits owners s p (ready x) → Rule fits owners (changed fits owners s p 3 (set s.homes p none) id holder)
      turn_keeps ok = keeps fits owners s r id v holder p 3 (set s.homes p none) e (lent x) turn_off refl refl
          (length-set s.homes p none) (λ q ne. set_else s.homes p q none ne)
          (record { claims_need_a_part = (r.seat_each id v e).claims_need_a_part; joined_well = tt })
          (here fits owners s r id v holder p 3 (set s.homes p none) e (ready x) (lent x) ok inside refl refl refl
          (ap (λ st. fills p st + 0) (sym idles))
          (let t : one_if_some (turn_of p (Turn p x)) ≡ 1 = ap one_if_some (turn_here p x) in
          let z : one_if_some (turn_of p v.stage) ≡ 0 = ap (λ st. one_if_some (turn_of p st)) idles in omega arith)
          tt ok.may_stand (turn_knows (ok.knowers id v e)) (λ j u ne d k. turn_other u k))

    abbrev Turned : Type 0
    Turned = (x : T) × (get_elem? s.homes p ≡ some (some (Some x)))
        × Rule fits owners (changed fits owners s p 3 (set s.homes p none) id (seen (saw p 2 v.hold) (Turn p x)))
        × fits p x × ((y : T) → (record_of v.hold.places p).value ≡ Some y → x ≡ y)

    turned : (c : Content T) → PlaceOk fits owners s p c → word_of c ≡ 2 → Turned
    turned vacant ok is = absurd (omega arith)
    turned awaited ok is = absurd (omega arith)
    turned filling ok is = absurd (omega arith)
    turned (ready x) ok is = (x, ok.home inside, turn_keeps x ok, ok.may_stand x refl, (λ y known. let t = (ok.knowers id v e).true_value y known in cc))
    turned (lent x) ok is = absurd (omega arith)

    pub turn_won : get_or s.words (suc p) 0 ≡ 2 → Turned
    turn_won two = turned (r.contents p) (r.place_each p) (sym (r.place_each p).word ∙ two)

  pub looks : (slots id p : ℕ) (m : Seated T) → m.0.stage ≡ Idle → p < slots
      → Allows (Rule fits owners) slots id m (suc p) (λ n. either (n == 2) 3 n) (look_told fits owners (step slots (suc p) 2 3 none) m)
  looks slots id p m idles inside s r long e small =
      let n : ℕ = get_or s.words (suc p) 0 in
      let v : Seen T = m.0 in
      let inside' : p < length s.homes = omega arith in
      let P : ℕ → Type 0 = λ new. (w : Seen T) × (a : Act (Option T)) × Valid s.homes m.1 a × Rule fits owners (stepped s (suc p) new id m.1 w a)
      × look_told fits owners (step slots (suc p) 2 3 none) m n (w, carried_after m.1 a) in
      exchanged n 2 3 P
      (λ hit.
      let won = turn_won s r id p v idles e inside' hit in
      let x : T = won.0 in
      let w : Seen T = seen (saw p 2 v.hold) (Turn p x) in (
        w,
        takes p (Some x),
        won.1,
        won.2,
        (λ q same.
            let there : p ≡ q = omega arith in
            let M : Seated T = (w, (p, Some x) ∷ m.1) in
            subst (λ z. Looked fits owners z n m M) there (record {
              small = omega arith;
              sound = sound_of fits owners (changed fits owners s p 3 (set s.homes p none) id w) won.2 id w (set_there s.views id v w e);
              follows = follows fits owners s r id p v idles e inside';
              extends = subst (λ z. Extends v.hold (saw p z v.hold)) hit (saw_extends fits owners s r id p v idles e inside');
              owns = subst (λ z. OwnsAll owners v.hold (saw p z v.hold)) hit (owns_read s r id p v idles e inside');
              unclaimed = unclaimed_there s r id p v idles e inside';
              got = λ two. (x, refl, refl, won.3, won.4);
              missed = λ other. absurd (other hit);
            })),
      ))
      (λ miss. (
        idle (saw p n v.hold),
        stays,
        tt,
        saw_keeps fits owners s r id p v idles e inside',
        (λ q same.
            let there : p ≡ q = omega arith in
            let M : Seated T = (idle (saw p n v.hold), m.1) in
            subst (λ z. Looked fits owners z n m M) there (record {
              small = (let is = word_is fits owners s r id p v idles e inside' in let few = small_word (r.contents p) in omega arith);
              sound = saw_sound fits owners s r id p v idles e inside';
              follows = follows fits owners s r id p v idles e inside';
              extends = saw_extends fits owners s r id p v idles e inside';
              owns = owns_read s r id p v idles e inside';
              unclaimed = unclaimed_there s r id p v idles e inside';
              got = λ two. absurd (miss two);
              missed = λ other. (refl, refl);
            })),
      ))

  -- the turn goes back: the seat w knows at most the value more than the seat v did
  module _ (s : Table T) (r : Rule fits owners s) (id p : ℕ) (x : T) (v w : Seen T) (k : Known T) (at_it : v.stage ≡ Turn p x)
      (e : get_elem? s.views id ≡ some v) (inside : p < length s.homes)
      (is : at p w ≡ record { claims = times p v.hold.claims; puts = times p v.hold.puts; fills_it = 0; turn = None; known = k; rights = v.hold.rights })
      (off : OffSame fits owners p v w) (rights : w.hold.rights ≡ v.hold.rights) (parts : w.hold.parts ≡ v.hold.parts)
      (claims : w.hold.claims ≡ v.hold.claims) (idles : w.stage ≡ Idle)
      (known : Knows owners p 3 (Some x) (at p v) → Knows owners p 2 (Some x)
      (record { claims = times p v.hold.claims; puts = times p v.hold.puts; fills_it = 0; turn = None; known = k; rights = v.hold.rights })) where
    abbrev again : List (maybe.Option (Option T))
    again = set s.homes p (some (Some x))

    turn_one : (at p v).turn ≡ Some x
    turn_one = ap (turn_of p) at_it ∙ turn_here p x

    back_other : (u : Seen T) → Knows owners p 3 (Some x) (at p u) → Knows owners p 2 (Some x) (at p u)
    back_other u l = record {
      true_value = l.true_value;
      open_value = l.open_value;
      was_claimed = λ h. omega arith;
      was_open = λ h. omega arith;
      shown = l.shown;
      own_value = l.own_value;
      put_claimed = l.put_claimed;
      fill_claimed = l.fill_claimed;
      has_turn = l.has_turn;
      own_place = λ right private mine h. l.own_place right private mine (omega arith);
    }

    back_lent : PlaceOk fits owners s p (lent x) → Rule fits owners (changed fits owners s p 2 again id w)
    back_lent ok = keeps fits owners s r id v w p 2 again e (ready x) off rights parts
        (length-set s.homes p (some (Some x))) (λ q ne. set_else s.homes p q (some (Some x)) ne)
        (record {
          claims_need_a_part = λ none q. ap (times q) claims ∙ (r.seat_each id v e).claims_need_a_part (sym parts ∙ none) q;
          joined_well = subst (λ st. IsMet owners st w.hold) (sym idles) tt;
        })
        (here fits owners s r id v w p 2 again e (lent x) (ready x) ok inside refl
        (ap (λ a. a.claims + 1) is) (ap (λ a. a.puts + 1) is)
        (let f : fills p w.stage ≡ 0 = ap (fills p) idles in let g : fills p v.stage ≡ 0 = ap (fills p) at_it in omega arith)
        (let t : one_if_some (turn_of p v.stage) ≡ 1 = ap one_if_some turn_one in
        let z : one_if_some (turn_of p w.stage) ≡ 0 = ap (λ st. one_if_some (turn_of p st)) idles in omega arith)
        (set_here s.homes p (some (Some x)) inside) ok.may_stand
        (subst (λ a. Knows owners p 2 (Some x) a) (sym is) (known (ok.knowers id v e))) (λ j u ne d l. back_other u l))

    no_turn : (c : Content T) → PlaceOk fits owners s p c → turn_count c ≡ 0 → Rule fits owners (changed fits owners s p 2 again id w)
    no_turn c ok none_now = absurd (
        let few = total_one (λ (u : Seen T). one_if_some (at p u).turn) s.views id v e in
        let sum = ok.turned_by in
        let one : one_if_some (at p v).turn ≡ 1 = ap one_if_some turn_one in omega arith)

    back_any : (c : Content T) → PlaceOk fits owners s p c → Rule fits owners (changed fits owners s p 2 again id w)
    back_any vacant ok = no_turn vacant ok refl
    back_any awaited ok = no_turn awaited ok refl
    back_any filling ok = no_turn filling ok refl
    back_any (ready y) ok = no_turn (ready y) ok refl
    back_any (lent y) ok =
        let known_here = (ok.knowers id v e).has_turn x turn_one in
        let same : y ≡ x = (cc) in
        back_lent (subst (λ z. PlaceOk fits owners s p (lent z)) same ok)

    pub back_keeps : Rule fits owners (changed fits owners s p 2 again id w)
    back_keeps = back_any (r.contents p) (r.place_each p)

    pub back_sound : IsSound fits w.hold
    back_sound = sound_of fits owners (changed fits owners s p 2 again id w) back_keeps id w (set_there s.views id v w e)

  module _ (s : Table T) (r : Rule fits owners s) (id p : ℕ) (x : T) (v : Seen T) (at_it : v.stage ≡ Turn p x) (e : get_elem? s.views id ≡ some v)
      (inside : p < length s.homes) where
    abbrev learner : Seen T
    learner = idle (learned p x v.hold)

    learn_at : at p learner ≡ record {
      claims = times p v.hold.claims;
      puts = times p v.hold.puts;
      fills_it = 0;
      turn = None;
      known = opened x
          (record_of v.hold.places p);
      rights = v.hold.rights;
    }
    learn_at = at_same _ _ refl refl refl refl (noted_here v.hold.places p (opened x (record_of v.hold.places p))) refl

    learn_off : OffSame fits owners p v learner
    learn_off q ne = at_same _ _ refl refl (ap (fills q) (sym at_it)) (sym (ap (turn_of q) at_it ∙ turn_else p q x ne))
        (noted_else v.hold.places p q (opened x (record_of v.hold.places p)) ne) refl

    learn_known : Knows owners p 3 (Some x) (at p v) → Knows owners p 2 (Some x)
        (record {
          claims = times p v.hold.claims;
          puts = times p v.hold.puts;
          fills_it = 0;
          turn = None;
          known = opened x
              (record_of v.hold.places p);
          rights = v.hold.rights;
        })
    learn_known l = record {
      true_value = λ y h. h;
      open_value = λ y h. omega arith;
      was_claimed = λ h. omega arith;
      was_open = λ h. omega arith;
      shown = λ h. omega arith;
      own_value = λ h y k. k;
      put_claimed = l.put_claimed;
      fill_claimed = omega arith;
      has_turn = λ y h. absurd (cc);
      own_place = λ right private mine h. omega arith;
    }

    pub learn_keeps : Rule fits owners (changed fits owners s p 2 (set s.homes p (some (Some x))) id learner)
    learn_keeps = back_keeps s r id p x v learner (opened x (record_of v.hold.places p)) at_it e inside learn_at learn_off refl refl refl refl learn_known

    pub learn_sound : IsSound fits (learned p x v.hold)
    learn_sound = back_sound s r id p x v learner (opened x (record_of v.hold.places p)) at_it e inside learn_at learn_off refl refl refl refl learn_known

  -- one turn has one value
  pub same_turn : (p q : ℕ) (x y : T) → Turn p x ≡ Turn q y → x ≡ y
  same_turn p q x y e = cc

  learns_held : (slots id p : ℕ) (x : T) (v : Seen T) → v.stage ≡ Turn p x → p < slots
      → Allows (Rule fits owners) slots id (v, (p, Some x) ∷ []) (suc p) (λ _. 2) (λ _. learn_told fits (step slots (suc p) 2 0 none) (v, (p, Some x) ∷ []) 2)
  learns_held slots id p x v at_it inside s r long e small =
      let inside' : p < length s.homes = omega arith in (
        idle (learned p x v.hold),
        gives,
        tt,
        learn_keeps s r id p x v at_it e inside',
        (λ q y same stage.
            let there : p ≡ q = omega arith in
            let it : x ≡ y = same_turn p q x y (sym at_it ∙ stage) in
            ((λ i. idle (learned (there i) (it i) v.hold)), refl, learn_sound s r id p x v at_it e inside')),
      )

  -- both in the words of the code
  pub looks_next : (slots id p : ℕ) (m : Seated T) (key : List Owner) → key ≡ owners → m.0.stage ≡ Idle → p < slots
      → Allows (Rule fits key) slots id m (p + 1) (λ n. either (n == 2) 3 n) (look_told fits owners (step slots (p + 1) 2 3 none) m)
  looks_next slots id p m key is idles inside =
      let P : ℕ → List Owner → Type 0 = λ i k. Allows (Rule fits k) slots id m i (λ n. either (n == 2) 3 n) (look_told fits owners (step slots i 2 3 none) m) in
      subst (λ i. P i key) (sym (add-one p)) (subst (λ k. P (suc p) k) (sym is) (looks slots id p m idles inside))

  pub learns_next : (slots id p : ℕ) (x : T) (m : Seated T) → m.0.stage ≡ Turn p x → m.1 ≡ (p, Some x) ∷ [] → p < slots
      → Allows (Rule fits owners) slots id m (p + 1) (λ _. 2) (λ _. learn_told fits (step slots (p + 1) 2 0 none) m 2)
  learns_next slots id p x m at_it has inside =
      let P : ℕ → List (ℕ × Option T) → Type 0 = λ i slot. Allows (Rule fits owners) slots id (m.0, slot) i (λ _. 2)
      (λ _. learn_told fits (step slots i 2 0 none) (m.0, slot) 2) in
      subst (λ i. P i m.1) (sym (add-one p)) (subst (λ slot. P (suc p) slot) (sym has) (learns_held slots id p x m.0 at_it inside))
