-- A seat that was told gives back the rights that came with the knowledge, and the teller takes them again.
use Rattle.std.proofs.Common.{◌≡◌, ℕ, ◌≤◌, ⊎_elim, List, [], ◌∷◌, ◌++◌, set, sym, refl, ap, subst, ◌∙◌, arith, Option}
use lib.ListN.{get_elem?}
use mathlib.Core.Option.{some}
use Rattle.atomic_table.specs.Table.{Splits, Joins}
use Rattle.once_board.specs.declared.holds.Known.{Known}
use Rattle.once_board.specs.declared.holds.Hold.{Hold}
use Rattle.once_board.specs.declared.holds.Seen.{Seen}
use Rattle.once_board.specs.declared.holds.Stage.{Stage}
use Rattle.once_board.specs.declared.holds.Stage.TheVariants.{Idle, Joined}
use Rattle.once_board.specs.declared.owners.Owner.{Owner}
use Rattle.once_board.specs.Numbers.{times}
use Rattle.once_board.specs.Places.{record_of, unread, together, Grows}
use Rattle.once_board.specs.Holds.{nothing, joined, rights_and_records, IsLawful, Agrees, Extends, OwnsAll}
use Rattle.once_board.specs.Rule.{fills, turn_of, one_if_some, at, Knows, Met, Rule}
use Rattle.once_board.specs.Told.{seen, idle, back_kept, back_off, rights_joined}
use Rattle.once_board.proofs.Sums.{times-append}
use Rattle.once_board.proofs.Records.{record_of-unread}
use Rattle.once_board.proofs.Keeps.{Table}
use Rattle.once_board.proofs.JoinStep.{spent_at, spent_ok, times_from}
use Rattle.once_board.proofs.Dividing.{Shares, splits_well, joins_well}

module _ {T : Type 0} (fits : ℕ → T → Type 0) (owners : List Owner) where
  -- the seat b only brought rights and knowledge to the seat a
  module _ (a b : Hold T) (lawful : IsLawful b) (no_part : b.parts ≡ 0) (no_claim : b.claims ≡ []) (no_put : b.puts ≡ []) where
    abbrev pub told_seat : Seen T
    told_seat = seen (joined a b) (Joined a b)

    abbrev keeper : Seen T
    keeper = seen (record { rights = a.rights; parts = a.parts; claims = a.claims; puts = a.puts; places = together a.places b.places }) (Joined a b)

    few_claims : (p : ℕ) → times p (a.claims ++ b.claims) ≡ times p a.claims
    few_claims p = let t = times-append p a.claims b.claims in let z : times p b.claims ≡ 0 = ap (times p) no_claim in omega arith

    few_puts : (p : ℕ) → times p (a.puts ++ b.puts) ≡ times p a.puts
    few_puts p = let t = times-append p a.puts b.puts in let z : times p b.puts ≡ 0 = ap (times p) no_put in omega arith

    back_shares : Shares keeper (idle b) (λ x. times x told_seat.hold.rights) (λ p. (at p told_seat).claims) (λ p. (at p told_seat).puts)
        (λ p. (at p told_seat).fills_it) (λ p. one_if_some (at p told_seat).turn) told_seat.hold.parts
    back_shares = record {
      same_rights = λ x. sym (times-append x a.rights b.rights);
      same_parts = refl;
      same_claims = λ p. sym (times-append p a.claims b.claims);
      same_puts = λ p. sym (times-append p a.puts b.puts);
      same_fills = λ p. refl;
      same_turns = λ p. refl;
    }

    keeps_knowing : (p word : ℕ) (value : Option T) → Knows owners p word value (at p told_seat) → Knows owners p word value (at p keeper)
    keeps_knowing p word value k = let c = few_claims p in let q = few_puts p in record {
      true_value = k.true_value;
      open_value = k.open_value;
      was_claimed = k.was_claimed;
      was_open = k.was_open;
      shown = λ h. k.shown (omega arith);
      own_value = λ h x is. k.own_value (omega arith) x is;
      put_claimed = (let o = k.put_claimed in omega arith);
      fill_claimed = omega arith;
      has_turn = λ x h. absurd (cc);
      own_place = λ right private mine h. k.own_place right private (let t = times-append right a.rights b.rights in omega arith) h;
    }

    goes_back : (p word : ℕ) (value : Option T) → Met owners a b (joined a b) → Knows owners p word value (at p told_seat)
        → Knows owners p word value (at p (idle b))
    goes_back p word value met k = let z : times p b.claims ≡ 0 = ap (times p) no_claim in let y : times p b.puts ≡ 0 = ap (times p) no_put in record {
      true_value = λ x is. k.true_value x ((met.extends_other p).same_value x is);
      open_value = lawful p;
      was_claimed = λ h. k.was_claimed ((met.extends_other p).still_claimed h);
      was_open = λ h. k.was_open ((met.extends_other p).still_open h);
      shown = λ h. absurd (omega arith);
      own_value = λ h x is. absurd (omega arith);
      put_claimed = omega arith;
      fill_claimed = omega arith;
      has_turn = λ x h. absurd (cc);
      own_place = λ right private mine h. met.owns_other p right private mine
          (k.own_place right private (let t = times-append right a.rights b.rights in omega arith) h);
    }

    gives_back_rule : (s : Table T) (r : Rule fits owners s) (id : ℕ) → get_elem? s.views id ≡ some told_seat → Rule fits owners
        (record { words = s.words; homes = s.homes; views = set s.views id keeper ++ idle b ∷ [] })
    gives_back_rule s r id e =
        let met : Met owners a b (joined a b) = (r.seat_each id told_seat e).joined_well in
        splits_well fits owners s r id told_seat keeper (idle b) e back_shares
        (λ p k. keeps_knowing p _ _ k) (λ p k. goes_back p _ _ met k)
        (record {
          claims_need_a_part = λ none p. let c = few_claims p in let o = (r.seat_each id told_seat e).claims_need_a_part (omega arith) p in omega arith;
          joined_well = record {
            agrees = met.agrees;
            extends_first = met.extends_first;
            extends_other = met.extends_other;
            owns_first
                = met.owns_first;
            owns_other = met.owns_other;
          };
        })
        (record { claims_need_a_part = λ none p. ap (times p) no_claim; joined_well = tt })

    pub gives_back : (id : ℕ) (v : Seen T) → v.hold ≡ joined a b → v.stage ≡ Joined a b
        → Splits (Rule fits owners) id v (back_kept v.stage v.hold) (back_off v.stage)
    gives_back id v hold stage =
        let P : Stage T → Hold T → Type 0 = λ st h. Splits (Rule fits owners) id (seen h st) (back_kept st h) (back_off st) in
        subst (λ st. P st v.hold) (sym stage) (subst (λ h. P (Joined a b) h) (sym hold) (λ s r e. gives_back_rule s r id e))

  -- the teller v, which kept all but its rights, takes them again
  module _ (v w : Seen T) (idles : v.stage ≡ Idle) (rests : w.stage ≡ Idle) (no_part : w.hold.parts ≡ 0) (no_claim : w.hold.claims ≡ [])
      (no_put : w.hold.puts ≡ [])
      (knows : (p : ℕ) → (record_of w.hold.places p).word ≡ (record_of v.hold.places p).word) where
    takes_knowing : (p word : ℕ) (value : Option T) → Knows owners p word value (at p v) → Knows owners p word value (at p w)
        → Knows owners p word value (at p (rights_joined v w))
    takes_knowing p word value k l = let same = knows p in record {
      true_value = k.true_value;
      open_value = k.open_value;
      was_claimed = k.was_claimed;
      was_open = k.was_open;
      shown = k.shown;
      own_value = k.own_value;
      put_claimed = k.put_claimed;
      fill_claimed = omega arith;
      has_turn = λ x h. absurd (cc);
      own_place = λ right private mine h. ⊎_elim
          (λ i. k.own_place right private i h)
          (λ i. let o = l.own_place right private i h in omega arith)
          (times_from right v.hold.rights w.hold.rights mine);
    }

    pub joins_rights : (id other : ℕ) → Joins (Rule fits owners) id v other w (rights_joined v w) (idle nothing)
    joins_rights id other s r e apart d =
        joins_well fits owners s r id other v w (rights_joined v w) (idle nothing) e apart d
        (record {
          same_rights = λ x. let t = times-append x v.hold.rights w.hold.rights in omega arith;
          same_parts = omega arith;
          same_claims = λ p. let z : times p w.hold.claims ≡ 0 = ap (times p) no_claim in omega arith;
          same_puts = λ p. let z : times p w.hold.puts ≡ 0 = ap (times p) no_put in omega arith;
          same_fills = λ p. let i : fills p v.stage ≡ 0 = ap (fills p) idles in let j : fills p w.stage ≡ 0 = ap (fills p) rests in omega arith;
          same_turns = λ p. let i : one_if_some (turn_of p v.stage) ≡ 0 = ap (λ st. one_if_some (turn_of p st)) idles in
              let j : one_if_some (turn_of p w.stage) ≡ 0 = ap (λ st. one_if_some (turn_of p st)) rests in omega arith;
        })
        (λ p k l. takes_knowing p _ _ k l)
        (λ p l. spent_at owners p _ _)
        (record { claims_need_a_part = (r.seat_each id v e).claims_need_a_part; joined_well = tt })
        (spent_ok owners)

pub rights_and_records_lawful : {T : Type 0} (h : Hold T) → IsLawful h → IsLawful (rights_and_records h)
rights_and_records_lawful {T} h lawful p x is =
    let k = record_of-unread h.places p in
    subst (λ (z : Known T). 2 ≤ z.word) (sym k) (lawful p x (ap (λ (z : Known T). z.value) (sym k) ∙ is))

-- what is known of two seats of which one was told what the other knows
module _ {T : Type 0} (owners : List Owner) (a h n : Hold T) (known : Met owners a (rights_and_records h) n) where
  pub told_agrees : Agrees a h
  told_agrees p x y is it = known.agrees p x y is (ap (λ (z : Known T). z.value) (record_of-unread h.places p) ∙ it)

  pub told_extends : Extends h n
  told_extends p =
      let k : record_of (rights_and_records h).places p ≡ unread (record_of h.places p) = record_of-unread h.places p in
      let grown : Grows (unread (record_of h.places p)) (record_of n.places p) = subst (λ z. Grows z (record_of n.places p)) k (known.extends_other p) in
      record { still_claimed = grown.still_claimed; still_open = grown.still_open; same_value = grown.same_value }

  pub told_owns : OwnsAll owners h n
  told_owns p right private mine seen_there = subst (λ (z : Known T). 1 ≤ z.word) (record_of-unread h.places p)
      (known.owns_other p right private mine seen_there)
