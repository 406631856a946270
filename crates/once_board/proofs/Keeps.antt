-- A step at one place keeps all that concerns the others, and what the rule says of a seat by itself.
use Rattle.std.proofs.Common.{◌≡◌, ◌≢◌, ℕ, zero, suc, ◌+◌, ◌<◌, ◌≤◌, ◌==◌, ⊎_elim, eq-eqb, ne_eqb, if◌then◌else◌, List, length, set, sym, refl, ap, subst}
use Rattle.std.proofs.Common.{◌∙◌, arith, Option, Some}
use Rattle.std.proofs.lemmas.List.{get_or-set_same, get_or-set_other}
use lib.ListN.{get_elem?, length-set}
use mathlib.Core.Option.{some}
use mathlib.Core.Option as maybe
use mathlib.Core.Logic.{dite}
use native.Mathlib.Decide.{ℕ_discrete}
use Rattle.atomic_table.specs.Table.{State}
use Rattle.atomic_table.proofs.Lists.{at_set}
use Rattle.once_board.specs.declared.holds.Seen.{Seen}
use Rattle.once_board.specs.declared.owners.Owner.{Owner}
use Rattle.once_board.specs.Numbers.{times, total}
use Rattle.once_board.specs.Places.{record_of}
use Rattle.once_board.specs.Holds.{AwaitsPuts}
use Rattle.once_board.specs.Rule.{Content, vacant, awaited, filling, ready, lent, word_of, value_of, claim_count, put_count, fill_count, turn_count}
use Rattle.once_board.specs.Rule.{one_if_some, IsHome, at, Knows, PlaceOk, SeatOk, Rule}
use Rattle.once_board.specs.Told.{IsSound}
use Rattle.once_board.proofs.Changes.{none_of}
use Rattle.once_board.proofs.Sums.{parts_are, total_set, total_same, total_one, total_two, total_alone}

abbrev pub Table : Type 0 → Type 0
Table T = State (Option T) (Seen T)

pub claim_known : {T : Type 0} (c : Content T) → 1 ≤ word_of c → claim_count c ≡ 1
claim_known vacant h = absurd (omega arith)
claim_known awaited h = refl
claim_known filling h = refl
claim_known (ready x) h = refl
claim_known (lent x) h = refl

pub one_claim : {T : Type 0} (c : Content T) → claim_count c ≤ 1
one_claim vacant = omega arith
one_claim awaited = omega arith
one_claim filling = omega arith
one_claim (ready x) = omega arith
one_claim (lent x) = omega arith

-- a place that has a value was put and claimed once
put_known : {T : Type 0} (c : Content T) (x : T) → value_of c ≡ Some x → (put_count c ≡ 1) × (claim_count c ≡ 1)
put_known vacant x is = absurd (cc)
put_known awaited x is = absurd (cc)
put_known filling x is = absurd (cc)
put_known (ready y) x is = (refl, refl)
put_known (lent y) x is = (refl, refl)

pub part_of : (parts claims : ℕ) → (parts ≡ 0 → claims ≡ 0) → 1 ≤ claims → 1 ≤ parts
part_of zero claims none h = absurd (let z = none refl in omega arith)
part_of (suc n) claims none h = omega arith

home_same : {T : Type 0} (hs gs : List (maybe.Option (Option T))) (q : ℕ) (c : Content T) → get_elem? hs q ≡ get_elem? gs q → IsHome gs q c → IsHome hs q c
home_same hs gs q vacant e h = e ∙ h
home_same hs gs q awaited e h = e ∙ h
home_same hs gs q filling e h = tt
home_same hs gs q (ready x) e h = e ∙ h
home_same hs gs q (lent x) e h = tt

module _ {T : Type 0} (fits : ℕ → T → Type 0) (owners : List Owner) where
  -- the table after a step at a place
  abbrev pub changed : Table T → ℕ → ℕ → List (maybe.Option (Option T)) → ℕ → Seen T → Table T
  changed s p n homes id w = record { words = set s.words (suc p) n; homes = homes; views = set s.views id w }

  -- a seat changes at this place alone
  abbrev pub OffSame : ℕ → Seen T → Seen T → Type 0
  OffSame p v w = (q : ℕ) → q ≢ p → at q w ≡ at q v

  module _ (s : Table T) (r : Rule fits owners s) where
    pub place_of : (q : ℕ) → PlaceOk fits owners s q (r.contents q)
    place_of q = r.place_each q

    -- the one claimer of a place that is open has its put
    unput_unknown : (id : ℕ) (v : Seen T) → get_elem? s.views id ≡ some v → AwaitsPuts v.hold
    unput_unknown id v e p claim unput = none_of (record_of v.hold.places p).value (λ x known.
        let ok = r.place_each p in
        let one = put_known (r.contents p) x ((ok.knowers id v e).true_value x known) in
        let puts = ok.put_by in
        let claims = ok.claimed_by in
        let alone : total (λ (u : Seen T). (at p u).puts) s.views ≡ times p v.hold.puts =
        total_alone (λ (u : Seen T). (at p u).puts) s.views id v e (λ j w n d.
        let two : times p v.hold.claims + times p w.hold.claims ≤ total (λ (u : Seen T). (at p u).claims) s.views = total_two
        (λ (u : Seen T). (at p u).claims) s.views id j v w n e d in
        let few : times p w.hold.puts ≤ times p w.hold.claims = (ok.knowers j w d).put_claimed in
        let single = one.1 in
        omega arith) in
        let there = one.0 in
        omega arith)

    pub sound_of : (id : ℕ) (v : Seen T) → get_elem? s.views id ≡ some v → IsSound fits v.hold
    sound_of id v e = record {
      lawful = λ p x k. ((r.place_each p).knowers id v e).open_value x k;
      may_stand = λ p x k. (r.place_each p).may_stand x (((r.place_each p).knowers id v e).true_value x k);
      has_parts = let one = total_one (λ (u : Seen T). u.hold.parts) s.views id v e in let sum = r.all_the_parts in let n = parts_are in omega arith;
      rights_once = λ right. let one = total_one (λ (u : Seen T). times right u.hold.rights) s.views id v e in let most = r.right_once right in omega arith;
      once = λ p. (
        (let one = total_one (λ (u : Seen T). (at p u).claims) s.views id v e in let is = (r.place_each p).claimed_by in
            let few = one_claim (r.contents p) in omega arith),
        ((r.place_each p).knowers id v e).put_claimed,
      );
      awaits_puts = λ p claim unput. unput_unknown id v e p claim unput;
      shows_claims = λ p claim. (
        ((r.place_each p).knowers id v e).shown claim,
        part_of v.hold.parts (times p v.hold.claims) (λ none. (r.seat_each id v e).claims_need_a_part none p) claim,
      );
      claims_all = λ all p h.
          let c : Content T = r.contents p in
          let is = (r.place_each p).claimed_by in
          let one : claim_count c ≡ 1 = claim_known c (((r.place_each p).knowers id v e).was_claimed h) in
          let alone : total (λ (u : Seen T). (at p u).claims) s.views ≡ times p v.hold.claims =
          total_alone (λ (u : Seen T). (at p u).claims) s.views id v e (λ j w n d.
          let two : v.hold.parts + w.hold.parts ≤ total (λ (u : Seen T). u.hold.parts) s.views = total_two
          (λ (u : Seen T). u.hold.parts) s.views id j v w n e d in
          let sum = r.all_the_parts in
          let number = parts_are in
          (r.seat_each j w d).claims_need_a_part (omega arith) p) in
          omega arith;
    }

    module _ (id : ℕ) (v w : Seen T) (p n : ℕ) (homes : List (maybe.Option (Option T))) (e : get_elem? s.views id ≡ some v) where
      off_knows : (q word : ℕ) (value : Option T) → at q w ≡ at q v → ((j : ℕ) (u : Seen T) → get_elem? s.views j ≡ some u → Knows owners q word value (at q u))
          → (j : ℕ) (u : Seen T) → get_elem? (set s.views id w) j ≡ some u → Knows owners q word value (at q u)
      off_knows q word value same old j u d = ⊎_elim
          (λ t. subst (λ a. Knows owners q word value (at q a)) t.1 (subst (λ a. Knows owners q word value a) (sym same) (old id v e)))
          (λ t. old j u t.1)
          (at_set s.views id j w u d)

      off_place : (q : ℕ) (c : Content T) → q ≢ p → at q w ≡ at q v → length homes ≡ length s.homes → get_elem? homes q ≡ get_elem? s.homes q
          → PlaceOk fits owners s q c → PlaceOk fits owners (changed s p n homes id w) q c
      off_place q c ne same long home ok = record {
        word = get_or-set_other s.words (suc p) (suc q) n 0 (λ d. ne (omega arith)) ∙ ok.word;
        claimed_by = total_same (λ u. (at q u).claims) s.views id v w e (ap (λ a. a.claims) same) ∙ ok.claimed_by;
        put_by = total_same (λ u. (at q u).puts) s.views id v w e (ap (λ a. a.puts) same) ∙ ok.put_by;
        filled_by = total_same (λ u. (at q u).fills_it) s.views id v w e (ap (λ a. a.fills_it) same) ∙ ok.filled_by;
        turned_by = total_same (λ u. one_if_some (at q u).turn) s.views id v w e (ap (λ a. one_if_some a.turn) same) ∙ ok.turned_by;
        home = λ h. home_same homes s.homes q c home (ok.home (omega arith));
        may_stand = ok.may_stand;
        knowers = off_knows q (word_of c) (value_of c) same ok.knowers;
      }

      -- what is to be shown of the place itself
      pub here : (c d : Content T) → PlaceOk fits owners s p c → p < length s.homes → n ≡ word_of d
          → (at p w).claims + claim_count c ≡ (at p v).claims + claim_count d
          → (at p w).puts + put_count c ≡ (at p v).puts + put_count d
          → (at p w).fills_it + fill_count c ≡ (at p v).fills_it + fill_count d
          → one_if_some (at p w).turn + turn_count c ≡ one_if_some (at p v).turn + turn_count d
          → IsHome homes p d
          → ((x : T) → value_of d ≡ Some x → fits p x)
          → Knows owners p (word_of d) (value_of d) (at p w)
          → ((j : ℕ) (u : Seen T) → j ≢ id → get_elem? s.views j ≡ some u → Knows owners p (word_of c) (value_of c) (at p u) → Knows owners p (word_of d)
          (value_of d) (at p u))
          → PlaceOk fits owners (changed s p n homes id w) p d
      here c d ok inside is claims puts fill turn home stand mine others = record {
        word = let long = r.word_each in get_or-set_same s.words (suc p) n 0 (omega arith) ∙ is;
        claimed_by = let t = total_set (λ (u : Seen T). (at p u).claims) s.views id v w e in let o = ok.claimed_by in omega arith;
        put_by = let t = total_set (λ (u : Seen T). (at p u).puts) s.views id v w e in let o = ok.put_by in omega arith;
        filled_by = let t = total_set (λ (u : Seen T). (at p u).fills_it) s.views id v w e in let o = ok.filled_by in omega arith;
        turned_by = let t = total_set (λ (u : Seen T). one_if_some (at p u).turn) s.views id v w e in let o = ok.turned_by in omega arith;
        home = λ h. home;
        may_stand = stand;
        knowers = λ j u k. ⊎_elim
            (λ t. subst (λ a. Knows owners p (word_of d) (value_of d) (at p a)) t.1 mine)
            (λ t. others j u t.0 t.1 (ok.knowers j u t.1))
            (at_set s.views id j w u k);
      }

      -- a step at the place p
      pub keeps : (d : Content T) → OffSame p v w → w.hold.rights ≡ v.hold.rights → w.hold.parts ≡ v.hold.parts
          → length homes ≡ length s.homes → ((q : ℕ) → q ≢ p → get_elem? homes q ≡ get_elem? s.homes q) → SeatOk owners w
          → PlaceOk fits owners (changed s p n homes id w) p d → Rule fits owners (changed s p n homes id w)
      keeps d off rights parts long home seat there = record {
        contents = λ q. if q == p then d else r.contents q;
        word_each = length-set s.words (suc p) n ∙ (r.word_each ∙ ap suc (sym long));
        right_once = λ x. let t = total_same (λ (u : Seen T). times x u.hold.rights) s.views id v w e (ap (times x) rights) in let o = r.right_once x in
            omega arith;
        right_each = λ x h. total_same (λ u. times x u.hold.rights) s.views id v w e (ap (times x) rights) ∙ r.right_each x h;
        all_the_parts = total_same (λ u. u.hold.parts) s.views id v w e parts ∙ r.all_the_parts;
        place_each = λ q. dite (ℕ_discrete q p)
            (λ is. let there_is : PlaceOk fits owners (changed s p n homes id w) q d = subst (λ z. PlaceOk fits owners (changed s p n homes id w) z d)
            (sym is) there in rw (eq-eqb q p is) there_is)
            (λ ne. rw (ne_eqb q p ne) (off_place q (r.contents q) ne (off q ne) long (home q ne) (r.place_each q)));
        seat_each = λ j u k. ⊎_elim (λ t. subst (SeatOk owners) t.1 seat) (λ t. r.seat_each j u t.1) (at_set s.views id j w u k);
      }
