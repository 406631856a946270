-- A new board keeps the rule.
use Rattle.std.proofs.Common.{◌≡◌, ℕ, zero, suc, ◌+◌, ◌<◌, List, [], ◌∷◌, length, map, replicate, get_or, sym, refl, ap, subst, ◌∙◌, arith, add-one, add-zero}
use Rattle.std.proofs.Common.{Option, None}
use lib.ListN.{get_elem?, length-replicate}
use mathlib.Core.Option.{some, some-injective, some-ne-none}
use Rattle.atomic_table.specs.Table.{opening}
use Rattle.once_board.specs.declared.holds.Seen.{Seen}
use Rattle.once_board.specs.declared.owners.Owner.{Owner}
use Rattle.once_board.specs.Numbers.{all_parts}
use Rattle.once_board.specs.Holds.{first}
use Rattle.once_board.specs.Rule.{vacant, at, Knows, SeatOk, Rule}
use Rattle.once_board.specs.Told.{IsSound, idle}
use Rattle.once_board.specs.Boards.{IsFirst}
use Rattle.once_board.proofs.Sums.{every_right_once, every_right_at_most_once, parts_are}

pub zero_anywhere : (n i : ℕ) → ◌≡◌ {A = ℕ} (get_or (replicate n 0) i 0) 0
zero_anywhere zero i = refl
zero_anywhere (suc n) zero = refl
zero_anywhere (suc n) (suc i) = zero_anywhere n i

as_many : (T : Type 0) (n : ℕ) → length (map some (replicate {A = Option T} n None)) ≡ n
as_many T zero = refl
as_many T (suc n) = ap suc (as_many T n)

module _ {T : Type 0} where
  abbrev nones : ℕ → List (Option T)
  nones n = replicate n None

  empty_homes : (n p : ℕ) → p < n → get_elem? (map some (nones n)) p ≡ some (some None)
  empty_homes zero p h = absurd (omega arith)
  empty_homes (suc n) zero h = refl
  empty_homes (suc n) (suc p) h = empty_homes n p (omega arith)

  only : (x v : Seen T) (j : ℕ) → get_elem? (x ∷ []) j ≡ some v → x ≡ v
  only x v zero e = some-injective x v e
  only x v (suc j) e = absurd (some-ne-none v (sym e))

module _ {T : Type 0} (fits : ℕ → T → Type 0) (owners : List Owner) where
  knows_nothing : (p : ℕ) → Knows owners p 0 None (at p (idle (first {T = T})))
  knows_nothing p = record {
    true_value = λ x h. absurd (cc);
    open_value = λ x h. absurd (cc);
    was_claimed = λ h. h;
    was_open = λ h. h;
    shown = λ h. h;
    own_value = λ h x k. absurd (cc);
    put_claimed = omega arith;
    fill_claimed = omega arith;
    has_turn = λ x h. absurd (cc);
    own_place = λ right private mine h. h;
  }

  pub starts : (n : ℕ) (words : List ℕ) → length words ≡ suc n → ((i : ℕ) → get_or words i 0 ≡ 0) → Rule fits owners
      (opening words (replicate n None) (idle (first {T = T})))
  starts n words long empty = record {
    contents = λ p. vacant;
    word_each = long ∙ ap suc (sym (as_many T n));
    right_once = λ right. let one = every_right_at_most_once right in omega arith;
    right_each = λ right h. let one = every_right_once right h in omega arith;
    all_the_parts = add-zero all_parts;
    place_each = λ p. record {
      word = empty (suc p);
      claimed_by = refl;
      put_by = refl;
      filled_by = refl;
      turned_by = refl;
      home = λ h. empty_homes n p (let many = as_many T n in omega arith);
      may_stand = λ x h. absurd (cc);
      knowers = λ j v e. subst (λ u. Knows owners p 0 None (at p u)) (only (idle first) v j e) (knows_nothing p);
    };
    seat_each = λ j v e. subst (SeatOk owners) (only (idle first) v j e) (record { claims_need_a_part = λ none p. refl; joined_well = tt });
  }

  pub first_sound : IsSound fits (first {T = T})
  first_sound = record {
    lawful = λ p x h. absurd (cc);
    may_stand = λ p x h. absurd (cc);
    has_parts = let n = parts_are in omega arith;
    rights_once = every_right_at_most_once;
    once = λ p. (omega arith, omega arith);
    awaits_puts = λ p claim unput. refl;
    shows_claims = λ p claim. absurd (omega arith);
    claims_all = λ all p h. absurd (omega arith);
  }

  pub first_is : IsFirst (first {T = T})
  first_is = record {
    each_right = λ right h. every_right_once right (let n = parts_are in omega arith);
    all_the_parts = parts_are;
    no_claim = refl;
    no_put = refl;
    nothing_known = λ p. refl;
  }

  -- with the words of a vector, each of them 0
  pub starts_with : (n : ℕ) (words : List ℕ) → words ≡ replicate (n + 1) 0 → Rule fits owners (opening words (replicate n None) (idle (first {T = T})))
  starts_with n words is =
      let start : Rule fits owners (opening (replicate (n + 1) 0) (replicate n None) (idle (first {T = T}))) =
      starts n (replicate (n + 1) 0) (length-replicate (n + 1) 0 ∙ add-one n) (λ i. zero_anywhere (n + 1) i) in
      subst (λ ws. Rule fits owners (opening ws (replicate n None) (idle (first {T = T})))) (sym is) start
