-- A seat is cut in two, and two seats become one: what has to be shown for the rule.
use Rattle.std.proofs.Common.{◌≡◌, ◌≢◌, ℕ, ◌+◌, ⊎_elim, List, [], ◌∷◌, ◌++◌, set, subst, ◌∙◌, arith}
use lib.ListN.{get_elem?}
use mathlib.Core.Option.{some}
use Rattle.atomic_table.proofs.Lists.{at_set, at_snoc}
use Rattle.once_board.specs.declared.holds.Seen.{Seen}
use Rattle.once_board.specs.declared.owners.Owner.{Owner}
use Rattle.once_board.specs.Numbers.{times}
use Rattle.once_board.specs.Rule.{word_of, value_of, one_if_some, at, Knows, SeatOk, Rule}
use Rattle.once_board.proofs.Sums.{total_split, total_join}
use Rattle.once_board.proofs.Keeps.{Table}

-- two seats have together what one had, or what two had
pub record Shares {T : Type 0} (l m : Seen T) (rights claims puts fills turns : ℕ → ℕ) (parts : ℕ) : Type 0 where
  pub same_rights : (x : ℕ) → times x l.hold.rights + times x m.hold.rights ≡ rights x
  pub same_parts : l.hold.parts + m.hold.parts ≡ parts
  pub same_claims : (p : ℕ) → (at p l).claims + (at p m).claims ≡ claims p
  pub same_puts : (p : ℕ) → (at p l).puts + (at p m).puts ≡ puts p
  pub same_fills : (p : ℕ) → (at p l).fills_it + (at p m).fills_it ≡ fills p
  pub same_turns : (p : ℕ) → one_if_some (at p l).turn + one_if_some (at p m).turn ≡ turns p

module _ {T : Type 0} (fits : ℕ → T → Type 0) (owners : List Owner) (s : Table T) (r : Rule fits owners s) where
  abbrev Passes : Seen T → Seen T → Type 0
  Passes v l = (p : ℕ) → Knows owners p (word_of (r.contents p)) (value_of (r.contents p)) (at p v) → Knows owners p (word_of (r.contents p))
      (value_of (r.contents p)) (at p l)

  module _ (id : ℕ) (v l m : Seen T) (e : get_elem? s.views id ≡ some v) where
    abbrev Two : List (Seen T)
    Two = set s.views id l ++ m ∷ []

    abbrev pub parted : Table T
    parted = record { words = s.words; homes = s.homes; views = Two }

    each_of_two : (P : Seen T → Type 0) → ((j : ℕ) (u : Seen T) → get_elem? s.views j ≡ some u → P u) → P l → P m → (j : ℕ) (u : Seen T)
        → get_elem? Two j ≡ some u → P u
    each_of_two P old first second j u d = ⊎_elim
        (λ here. ⊎_elim (λ t. subst P t.1 first) (λ t. old j u t.1) (at_set s.views id j l u here))
        (λ is. subst P is second)
        (at_snoc (set s.views id l) m u j d)

    pub splits_well : Shares l m (λ x. times x v.hold.rights) (λ p. (at p v).claims) (λ p. (at p v).puts) (λ p. (at p v).fills_it)
        (λ p. one_if_some (at p v).turn) v.hold.parts
        → Passes v l → Passes v m → SeatOk owners l → SeatOk owners m → Rule fits owners parted
    splits_well sums first second first_ok second_ok = record {
      contents = r.contents;
      word_each = r.word_each;
      right_once = λ x. let t = total_split (λ (u : Seen T). times x u.hold.rights) s.views id v l m e (sums.same_rights x) in let o = r.right_once x in
          omega arith;
      right_each = λ x h. total_split (λ u. times x u.hold.rights) s.views id v l m e (sums.same_rights x) ∙ r.right_each x h;
      all_the_parts = total_split (λ u. u.hold.parts) s.views id v l m e sums.same_parts ∙ r.all_the_parts;
      place_each = λ p. let ok = r.place_each p in record {
        word = ok.word;
        claimed_by = total_split (λ u. (at p u).claims) s.views id v l m e (sums.same_claims p) ∙ ok.claimed_by;
        put_by = total_split (λ u. (at p u).puts) s.views id v l m e (sums.same_puts p) ∙ ok.put_by;
        filled_by = total_split (λ u. (at p u).fills_it) s.views id v l m e (sums.same_fills p) ∙ ok.filled_by;
        turned_by = total_split (λ u. one_if_some (at p u).turn) s.views id v l m e (sums.same_turns p) ∙ ok.turned_by;
        home = ok.home;
        may_stand = ok.may_stand;
        knowers = each_of_two (λ u. Knows owners p (word_of (r.contents p)) (value_of (r.contents p)) (at p u)) ok.knowers (first p (ok.knowers id v e))
            (second p (ok.knowers id v e));
      };
      seat_each = each_of_two (SeatOk owners) r.seat_each first_ok second_ok;
    }

  module _ (id other : ℕ) (v w both left : Seen T) (e : get_elem? s.views id ≡ some v) (apart : other ≢ id)
      (d : get_elem? (set s.views id both) other ≡ some w) where
    abbrev One : List (Seen T)
    One = set (set s.views id both) other left

    abbrev pub merged : Table T
    merged = record { words = s.words; homes = s.homes; views = One }

    each_of_one : (P : Seen T → Type 0) → ((j : ℕ) (u : Seen T) → get_elem? s.views j ≡ some u → P u) → P both → P left → (j : ℕ) (u : Seen T)
        → get_elem? One j ≡ some u → P u
    each_of_one P old first second j u k = ⊎_elim
        (λ t. subst P t.1 second)
        (λ t. ⊎_elim (λ z. subst P z.1 first) (λ z. old j u z.1) (at_set s.views id j both u t.1))
        (at_set (set s.views id both) other j left u k)

    pub other_was : get_elem? s.views other ≡ some w
    other_was = ⊎_elim (λ t. absurd (apart t.0)) (λ t. t.1) (at_set s.views id other both w d)

    pub joins_well : Shares both left (λ x. times x v.hold.rights + times x w.hold.rights) (λ p. (at p v).claims + (at p w).claims)
        (λ p. (at p v).puts + (at p w).puts)
        (λ p. (at p v).fills_it + (at p w).fills_it) (λ p. one_if_some (at p v).turn + one_if_some (at p w).turn) (v.hold.parts + w.hold.parts)
        → ((p : ℕ) → Knows owners p (word_of (r.contents p)) (value_of (r.contents p)) (at p v) → Knows owners p (word_of (r.contents p))
        (value_of (r.contents p)) (at p w)
        → Knows owners p (word_of (r.contents p)) (value_of (r.contents p)) (at p both))
        → Passes w left → SeatOk owners both → SeatOk owners left → Rule fits owners merged
    joins_well sums first second first_ok second_ok = record {
      contents = r.contents;
      word_each = r.word_each;
      right_once = λ x. let t = total_join (λ (u : Seen T). times x u.hold.rights) s.views id other v w both left e d (sums.same_rights x) in
          let o = r.right_once x in omega arith;
      right_each = λ x h. total_join (λ u. times x u.hold.rights) s.views id other v w both left e d (sums.same_rights x) ∙ r.right_each x h;
      all_the_parts = total_join (λ u. u.hold.parts) s.views id other v w both left e d sums.same_parts ∙ r.all_the_parts;
      place_each = λ p. let ok = r.place_each p in record {
        word = ok.word;
        claimed_by = total_join (λ u. (at p u).claims) s.views id other v w both left e d (sums.same_claims p) ∙ ok.claimed_by;
        put_by = total_join (λ u. (at p u).puts) s.views id other v w both left e d (sums.same_puts p) ∙ ok.put_by;
        filled_by = total_join (λ u. (at p u).fills_it) s.views id other v w both left e d (sums.same_fills p) ∙ ok.filled_by;
        turned_by = total_join (λ u. one_if_some (at p u).turn) s.views id other v w both left e d (sums.same_turns p) ∙ ok.turned_by;
        home = ok.home;
        may_stand = ok.may_stand;
        knowers = each_of_one (λ u. Knows owners p (word_of (r.contents p)) (value_of (r.contents p)) (at p u)) ok.knowers
            (first p (ok.knowers id v e) (ok.knowers other w other_was)) (second p (ok.knowers other w other_was));
      };
      seat_each = each_of_one (SeatOk owners) r.seat_each first_ok second_ok;
    }
