-- Seats that are joined one after another.
use Rattle.std.proofs.Common.{◌≡◌, ℕ, zero, suc, ◌+◌, ◌<◌, ◌≤◌, List, [], ◌∷◌, length, get_or, All, ap, ◌∙◌, arith}
use Rattle.std.proofs.lemmas.List.Elements.{All-nil, All-cons}
use Rattle.once_board.specs.declared.holds.Hold.{Hold}
use Rattle.once_board.specs.declared.owners.Owner.{Owner}
use Rattle.once_board.specs.Numbers.{times, total}
use Rattle.once_board.specs.Places.{record_of}
use Rattle.once_board.specs.Holds.{joined, Agrees, Extends, OwnsAll}
use Rattle.once_board.specs.Gathered.{Gathered, GatheredTwice}
use Rattle.once_board.proofs.Sums.{times-append}
use Rattle.once_board.proofs.Records.{grows_same}

total_at : {X : Type 0} (f : X → ℕ) (xs : List X) (k : ℕ) (d : X) → k < length xs → f (get_or xs k d) ≤ total f xs
total_at f [] k d below = absurd (omega arith)
total_at f (x ∷ xs) zero d below = omega arith
total_at f (x ∷ xs) (suc k) d below = let rest = total_at f xs k d (omega arith) in omega arith

module _ {T : Type 0} where
  pub extends_same : (h : Hold T) → Extends h h
  extends_same h place = grows_same (record_of h.places place)

  pub extends_trans : (a b c : Hold T) → Extends a b → Extends b c → Extends a c
  extends_trans a b c ab bc place = record {
    still_claimed = λ h. (bc place).still_claimed ((ab place).still_claimed h);
    still_open = λ h. (bc place).still_open ((ab place).still_open h);
    same_value = λ x h. (bc place).same_value x ((ab place).same_value x h);
  }

  -- two seats of which one seat knows all agree
  pub extends_agree : (s t h : Hold T) → Extends s h → Extends t h → Agrees s t
  extends_agree s t h first second place x y is it =
      let a = (first place).same_value x is in
      let b = (second place).same_value y it in
      cc

  -- of a seat whose rights went into another, which became a third
  pub owns_trans : (owners : List Owner) (a b c : Hold T) → ((right : ℕ) → times right a.rights ≤ times right b.rights)
      → OwnsAll owners a b → OwnsAll owners b c → OwnsAll owners a c
  owns_trans owners a b c held ab bc place right private mine seen =
      ab place right private mine (bc place right private (let has = held right in omega arith) seen)

module _ {X T : Type 0} (seat : X → Hold T) (owners : List Owner) (first : Hold T) where
  -- before the first was joined
  pub gathered_none : Gathered seat owners first [] first
  gathered_none = record {
    parts = omega arith;
    rights = λ right. omega arith;
    claims = λ place. omega arith;
    puts = λ place. omega arith;
    knows_first = extends_same first;
    owns_first = λ place right private mine seen. seen;
    knows_each = All-nil (λ x. Extends (seat x) first);
    owns_each = All-nil (λ x. OwnsAll owners (seat x) first);
  }

  module _ (xs : List X) (h after : Hold T) (old : Gathered seat owners first xs h) (knows : Extends h after) (owns : OwnsAll owners h after) where
    first_owned : OwnsAll owners first after
    first_owned = owns_trans owners first h after (λ right. let sum = old.rights right in omega arith) old.owns_first owns

    each_known : All (λ x. Extends (seat x) after) xs
    each_known k d below = extends_trans (seat (get_or xs k d)) h after (old.knows_each k d below) knows

    each_owned : All (λ x. OwnsAll owners (seat x) after) xs
    each_owned k d below = owns_trans owners (seat (get_or xs k d)) h after
        (λ right. let sum = old.rights right in let one = total_at (λ x. times right (seat x).rights) xs k d below in omega arith)
        (old.owns_each k d below) owns

  -- one more was joined
  pub gathered_next : (xs : List X) (x : X) (h after : Hold T) → Gathered seat owners first xs h → after ≡ joined h (seat x)
      → Extends h after × Extends (seat x) after → OwnsAll owners h after × OwnsAll owners (seat x) after → Gathered seat owners first (x ∷ xs) after
  gathered_next xs x h after old is knows owns = record {
    parts = let sum = old.parts in let a : after.parts ≡ h.parts + (seat x).parts = ap (λ (s : Hold T). s.parts) is in omega arith;
    rights = λ right.
        let sum = old.rights right in
        let a : times right after.rights ≡ times right h.rights + times right (seat x).rights
        = ap (λ (s : Hold T). times right s.rights) is ∙ times-append right h.rights (seat x).rights in
        omega arith;
    claims = λ place.
        let sum = old.claims place in
        let a : times place after.claims ≡ times place h.claims + times place (seat x).claims
        = ap (λ (s : Hold T). times place s.claims) is ∙ times-append place h.claims (seat x).claims in
        omega arith;
    puts = λ place.
        let sum = old.puts place in
        let a : times place after.puts ≡ times place h.puts + times place (seat x).puts
        = ap (λ (s : Hold T). times place s.puts) is ∙ times-append place h.puts (seat x).puts in
        omega arith;
    knows_first = extends_trans first h after old.knows_first knows.0;
    owns_first = first_owned xs h after old knows.0 owns.0;
    knows_each = All-cons (λ z. Extends (seat z) after) x xs knows.1 (each_known xs h after old knows.0 owns.0);
    owns_each = All-cons (λ z. OwnsAll owners (seat z) after) x xs owns.1 (each_owned xs h after old knows.0 owns.0);
  }

  -- a second list was joined into the seat that the first became
  pub gathered_twice : {Y : Type 0} (other : Y → Hold T) (xs : List X) (ys : List Y) (h after : Hold T)
      → Gathered seat owners first xs h → Gathered other owners h ys after → GatheredTwice seat other owners first xs ys after
  gathered_twice other xs ys h after old more = record {
    parts = let a = old.parts in let b = more.parts in omega arith;
    rights = λ right. let a = old.rights right in let b = more.rights right in omega arith;
    claims = λ place. let a = old.claims place in let b = more.claims place in omega arith;
    puts = λ place. let a = old.puts place in let b = more.puts place in omega arith;
    knows_first = extends_trans first h after old.knows_first more.knows_first;
    owns_first = first_owned xs h after old more.knows_first more.owns_first;
    knows_each = each_known xs h after old more.knows_first more.owns_first;
    owns_each = each_owned xs h after old more.knows_first more.owns_first;
    knows_each_other = more.knows_each;
    owns_each_other = more.owns_each;
  }
