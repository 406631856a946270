-- A seat is split off: with a right or none, or with all rights and what is known.
use Rattle.std.proofs.Common.{◌≡◌, ℕ, zero, suc, ◌+◌, ◌-◌, ◌≤◌, nat_le, List, [], ◌∷◌, ◌++◌, set, map, sym, refl, ap, subst, ◌∙◌, arith, Bool, true, false}
use Rattle.std.proofs.Common.{Option, Some, None}
use lib.ListN.{get_elem?}
use mathlib.Core.Option.{some}
use native.Mathlib.Decide.{ℕ_discrete}
use Rattle.std.proofs.lemmas.Bool.Decides.{nat_tests}
use Rattle.atomic_table.specs.Table.{Splits}
use Rattle.once_board.specs.declared.holds.Hold.{Hold}
use Rattle.once_board.specs.declared.holds.Seen.{Seen}
use Rattle.once_board.specs.declared.holds.Stage.TheVariants.{Idle}
use Rattle.once_board.specs.declared.owners.Owner.{Owner}
use Rattle.once_board.specs.Numbers.{times, without, given, kept, part_given}
use Rattle.once_board.specs.Places.{record_of, unread}
use Rattle.once_board.specs.Holds.{split_kept, split_off}
use Rattle.once_board.specs.Rule.{fills, turn_of, one_if_some, at, Knows, Rule}
use Rattle.once_board.specs.Told.{IsSound, idle, cut_kept, cut_off, rights_split, rights_off}
use Rattle.once_board.proofs.Sums.{times-without, times-without_other, times-without_few, times_single, times_else, times_here}
use Rattle.once_board.proofs.Records.{record_of-unread}
use Rattle.once_board.proofs.Changes.{at_same}
use Rattle.once_board.proofs.Keeps.{Table}
use Rattle.once_board.proofs.Dividing.{Shares, splits_well}

one_right : (y x : ℕ) (rights : List ℕ) → 1 ≤ times y rights → Dec (x ≡ y) → times x (without y rights) + times x (y ∷ []) ≡ times x rights
one_right y x rights has (yes e) = let w = times-without y rights has in let h = times_here y [] in
    subst (λ z. times z (without y rights) + times z (y ∷ []) ≡ times z rights) (sym e) (omega arith)
one_right y x rights has (no n) = let w = times-without_other y x rights n in let h = times_else x y [] (λ e. n (sym e)) in omega arith

pub kept_given : (right : Option ℕ) (rights : List ℕ) → ((x : ℕ) → right ≡ Some x → 1 ≤ times x rights) → (x : ℕ)
    → times x (kept right rights) + times x (given right) ≡ times x rights
kept_given None rights has x = omega arith
kept_given (Some y) rights has x = one_right y x rights (has y refl) (ℕ_discrete x y)

part_cases : (n : ℕ) (b : Bool) → nat_le 2 n ≡ b → (part_given n ≤ n) × (n - part_given n ≡ 0 → n ≡ 0) × (part_given n ≤ 1)
part_cases n true e = grind (arith, nat_tests)
part_cases n false e = grind (arith, nat_tests)

pub part_facts : (n : ℕ) → (part_given n ≤ n) × (n - part_given n ≡ 0 → n ≡ 0) × (part_given n ≤ 1)
part_facts n = part_cases n (nat_le 2 n) refl

kept_few : (right : Option ℕ) (rights : List ℕ) (x : ℕ) → times x (kept right rights) ≤ times x rights
kept_few None rights x = omega arith
kept_few (Some y) rights x = times-without_few y x rights

given_once : (right : Option ℕ) (x : ℕ) → times x (given right) ≤ 1
given_once None x = omega arith
given_once (Some y) x = times_single x y

nonzero : (n : ℕ) → (n ≡ 0 → ⊥) → 1 ≤ n
nonzero zero h = absurd (h refl)
nonzero (suc n) h = omega arith

module _ {T : Type 0} (fits : ℕ → T → Type 0) (owners : List Owner) where
  -- any cut that leaves the claims where they are: these rights and parts stay, and those go
  module _ (v : Seen T) (idles : v.stage ≡ Idle) (stay go : List ℕ) (few more : ℕ) (rights : (x : ℕ) → times x stay + times x go ≡ times x v.hold.rights)
      (parts : few + more ≡ v.hold.parts)
      (enough : few ≡ 0 → v.hold.parts ≡ 0) where
    abbrev pub staying : Seen T
    staying = idle (record { rights = stay; parts = few; claims = v.hold.claims; puts = v.hold.puts; places = v.hold.places })

    abbrev pub going : Seen T
    going = idle (record { rights = go; parts = more; claims = []; puts = []; places = map unread v.hold.places })

    cut_shares : Shares staying going (λ x. times x v.hold.rights) (λ p. (at p v).claims) (λ p. (at p v).puts) (λ p. (at p v).fills_it)
        (λ p. one_if_some (at p v).turn) v.hold.parts
    cut_shares = record {
      same_rights = rights;
      same_parts = parts;
      same_claims = λ p. omega arith;
      same_puts = λ p. omega arith;
      same_fills = λ p. ap (fills p) (sym idles);
      same_turns = λ p. ap (λ st. one_if_some (turn_of p st)) (sym idles);
    }

    stays_knowing : (p word : ℕ) (value : Option T) → Knows owners p word value (at p v) → Knows owners p word value (at p staying)
    stays_knowing p word value k = record {
      true_value = k.true_value;
      open_value = k.open_value;
      was_claimed = k.was_claimed;
      was_open = k.was_open;
      shown = k.shown;
      own_value = k.own_value;
      put_claimed = k.put_claimed;
      fill_claimed = omega arith;
      has_turn = λ x h. absurd (cc);
      own_place = λ right private mine h. k.own_place right private (let both = rights right in omega arith) h;
    }

    going_at : (p : ℕ) → at p going ≡ record { claims = 0; puts = 0; fills_it = 0; turn = None; known = unread (record_of v.hold.places p); rights = go }
    going_at p = at_same _ _ refl refl refl refl (record_of-unread v.hold.places p) refl

    goes_knowing : (p word : ℕ) (value : Option T) → Knows owners p word value (at p v) → Knows owners p word value (at p going)
    goes_knowing p word value k = subst (λ a. Knows owners p word value a) (sym (going_at p)) (record {
      true_value = k.true_value;
      open_value = k.open_value;
      was_claimed = k.was_claimed;
      was_open = k.was_open;
      shown = λ h. absurd (omega arith);
      own_value = λ h x is. absurd (omega arith);
      put_claimed = omega arith;
      fill_claimed = omega arith;
      has_turn = λ x h. absurd (cc);
      own_place = λ right private mine h. k.own_place right private (let both = rights right in omega arith) h;
    })

    pub cut_rule : (s : Table T) (r : Rule fits owners s) (id : ℕ) → get_elem? s.views id ≡ some v
        → Rule fits owners (record { words = s.words; homes = s.homes; views = set s.views id staying ++ going ∷ [] })
    cut_rule s r id e = splits_well fits owners s r id v staying going e cut_shares
        (λ p k. stays_knowing p _ _ k) (λ p k. goes_knowing p _ _ k)
        (record { claims_need_a_part = λ none. (r.seat_each id v e).claims_need_a_part (enough none); joined_well = tt })
        (record { claims_need_a_part = λ none p. refl; joined_well = tt })

  pub cuts : (right : Option ℕ) (id : ℕ) (v : Seen T) → v.stage ≡ Idle → ((x : ℕ) → right ≡ Some x → 1 ≤ times x v.hold.rights)
      → Splits (Rule fits owners) id v (cut_kept right v) (cut_off right v)
  cuts right id v idles has s r e =
      let parts = part_facts v.hold.parts in
      cut_rule v idles (kept right v.hold.rights) (given right) (v.hold.parts - part_given v.hold.parts) (part_given v.hold.parts)
      (kept_given right v.hold.rights has) (let few = parts.0 in omega arith) parts.1 s r id e

  pub splits_rights : (id : ℕ) (v : Seen T) → v.stage ≡ Idle → Splits (Rule fits owners) id v (rights_split v) (rights_off v)
  splits_rights id v idles s r e = cut_rule v idles [] v.hold.rights v.hold.parts 0 (λ x. omega arith) (omega arith) (λ none. none) s r id e

  -- both seats are sound
  pub kept_sound : (right : Option ℕ) (h : Hold T) → IsSound fits h → IsSound fits (split_kept right h)
  kept_sound right h sound = record {
    lawful = sound.lawful;
    may_stand = sound.may_stand;
    has_parts = let most = sound.has_parts in omega arith;
    rights_once = λ x. let few = kept_few right h.rights x in let most = sound.rights_once x in omega arith;
    once = sound.once;
    awaits_puts = sound.awaits_puts;
    shows_claims = λ p claim. let old = sound.shows_claims p claim in let parts = part_facts h.parts in
        (old.0, nonzero (h.parts - part_given h.parts) (λ none. let z = parts.1 none in let o = old.1 in omega arith));
    claims_all = λ all. sound.claims_all (let most = sound.has_parts in let parts = part_facts h.parts in omega arith);
  }

  pub off_sound : (right : Option ℕ) (h : Hold T) → IsSound fits h → IsSound fits (split_off right h)
  off_sound right h sound = record {
    lawful = λ p x is. let k = record_of-unread h.places p in subst (λ (z : _). 2 ≤ z.word) (sym k) (sound.lawful p x (ap (λ z. z.value) (sym k) ∙ is));
    may_stand = λ p x is. let k = record_of-unread h.places p in sound.may_stand p x (ap (λ z. z.value) (sym k) ∙ is);
    has_parts = let parts = part_facts h.parts in omega arith;
    rights_once = given_once right;
    once = λ p. (omega arith, omega arith);
    awaits_puts = λ p claim unput. absurd (omega arith);
    shows_claims = λ p claim. absurd (omega arith);
    claims_all = λ all. absurd (let parts = part_facts h.parts in omega arith);
  }
