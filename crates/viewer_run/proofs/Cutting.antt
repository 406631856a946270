-- Failures after others, and the files that they cut.
use Rattle.std.proofs.Common.{◌≡◌, ℕ, Bool, true, false, cond, ◌||◌, Some, None, List, [], ◌∷◌, ◌++◌, refl, sym, ap, ◌∙◌}
use Rattle.std.specs.Str.{bytes_eq}
use Rattle.std.proofs.lemmas.Bool.{true≢false}
use Rattle.std.proofs.lemmas.Slice.Eq.{bytes_eq-Decides}
use Rattle.djvu_base.specs.Name.{is_listed}
use Rattle.djvu_outside.specs.Cut.{first_entry}
use Rattle.djvu_outside.specs.Faults.{Failure, Listing, Reading}
use Rattle.viewer_run.specs.Shown.{lists_first, HasBroken}

pub entry_after : (a b : List Failure) (name : List ℕ) → first_entry a name ≡ None → first_entry (a ++ b) name ≡ first_entry b name
entry_after [] b name e = refl
entry_after (Listing ∷ a) b name e = entry_after a b name e
entry_after (Reading other count ∷ a) b name e = by (bytes_eq name other) e (entry_after a b name)
  where
    by : (t : Bool) → cond t (Some count) (first_entry a name) ≡ None → (first_entry a name ≡ None → first_entry (a ++ b) name ≡ first_entry b name)
        → cond t (Some count) (first_entry (a ++ b) name) ≡ first_entry b name
    by true e on = cc
    by false e on = on e

pub entry_before : (a b : List Failure) (name : List ℕ) → first_entry b name ≡ None → first_entry (a ++ b) name ≡ first_entry a name
entry_before [] b name e = e
entry_before (Listing ∷ a) b name e = entry_before a b name e
entry_before (Reading other count ∷ a) b name e = ap (λ o. cond (bytes_eq name other) (Some count) o) (entry_before a b name e)

pub other_way : (a b : List ℕ) → bytes_eq a b ≡ false → bytes_eq b a ≡ false
other_way a b e = by (bytes_eq b a) refl
  where
    by : (t : Bool) → bytes_eq b a ≡ t → bytes_eq b a ≡ false
    by true h = absurd (true≢false (sym ((bytes_eq-Decides a b).1 (sym ((bytes_eq-Decides b a).0 h))) ∙ e))
    by false h = h

pub or_first : (a b : Bool) → (a || b) ≡ false → a ≡ false
or_first true b e = absurd (true≢false e)
or_first false b e = refl

pub or_second : (a b : Bool) → (a || b) ≡ false → b ≡ false
or_second true b e = absurd (true≢false e)
or_second false b e = e

pub or_both : (a b : Bool) → a ≡ false → b ≡ false → (a || b) ≡ false
or_both a b e f = ap (λ x. x || b) e ∙ f

pub any_append : (name : List ℕ) (xs ys : List (List ℕ)) → is_listed (xs ++ ys) name ≡ false → (is_listed xs name ≡ false) × (is_listed ys name ≡ false)
any_append name [] ys e = (refl, e)
any_append name (x ∷ xs) ys e =
    let rest = any_append name xs ys (or_second (bytes_eq name x) (is_listed (xs ++ ys) name) e) in
    (or_both (bytes_eq name x) (is_listed xs name) (or_first (bytes_eq name x) (is_listed (xs ++ ys) name) e) rest.0, rest.1)

pub broken_both : (x y : Bool) (a b : List Failure) → HasBroken x a → HasBroken y b → HasBroken (x || y) (a ++ b)
broken_both true y [] b h k = absurd (h refl)
broken_both true y (e ∷ a) b h k = λ s. cc
broken_both false true a b h k = λ s. k (ap (λ l. l ++ b) (sym h) ∙ s)
broken_both false false a b h k = ap (λ l. l ++ b) h ∙ k

pub both_after : (a b : List Failure) → lists_first a ≡ false → lists_first b ≡ false → lists_first (a ++ b) ≡ false
both_after [] b e h = h
both_after (Listing ∷ a) b e h = absurd (true≢false e)
both_after (Reading name count ∷ a) b e h = refl
