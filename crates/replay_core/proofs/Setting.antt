-- Lists with one item set, and their sums.
use Rattle.std.proofs.Common.{◌≡◌, ℕ, zero, suc, ◌+◌, Option, Some, None, List, [], ◌∷◌, map, refl, sym, ap, arith}
use Rattle.std.specs.Prelude.{slice_get, slice_set, sum_by}
use Rattle.std.proofs.lemmas.List.Sums.{sum_by-cons}
use Rattle.replay_core.specs.Counts.{spent_on}
use Rattle.replay_core.specs.Machine.{change_at}
use Rattle.replay_core.proofs.Listing.{some_same}

-- a file that wasn't decoded is
pub sum_set : (files : List (Option ℕ)) (file decisions : ℕ) → slice_get files file ≡ Some None
    → sum_by spent_on (slice_set files file (Some decisions)) ≡ sum_by spent_on files + decisions
sum_set [] file decisions e = absurd (let wrong : None ≡ Some None = e in cc)
sum_set (first ∷ files) zero decisions e =
    let none : first ≡ None = some_same first None e in
    let before = sum_by-cons spent_on first files in
    let after = sum_by-cons spent_on (Some decisions) files in
    let nothing : spent_on first ≡ 0 = ap spent_on none in
    omega (arith, before, after, nothing)
sum_set (first ∷ files) (suc file) decisions e =
    let before = sum_by-cons spent_on first files in
    let after = sum_by-cons spent_on first (slice_set files file (Some decisions)) in
    let rest = sum_set files file decisions e in
    omega (arith, before, after, rest)

-- ---- pages

pub set_same : {A : Type 0} (items : List A) (number : ℕ) (item : A) → slice_get items number ≡ Some item → slice_set items number item ≡ items
set_same [] number item e = refl
set_same (first ∷ items) zero item e = ap (λ i. i ∷ items) (sym (some_same first item e))
set_same (first ∷ items) (suc number) item e = ap (λ l. first ∷ l) (set_same items number item e)

pub set_twice : {A : Type 0} (items : List A) (number : ℕ) (item other : A)
    → slice_set (slice_set items number item) number other ≡ slice_set items number other
set_twice [] number item other = refl
set_twice (first ∷ items) zero item other = refl
set_twice (first ∷ items) (suc number) item other = ap (λ l. first ∷ l) (set_twice items number item other)

pub map_set : {A B : Type 0} (f : A → B) (items : List A) (number : ℕ) (item : A)
    → map f (slice_set items number item) ≡ slice_set (map f items) number (f item)
map_set f [] number item = refl
map_set f (first ∷ items) zero item = refl
map_set f (first ∷ items) (suc number) item = ap (λ l. f first ∷ l) (map_set f items number item)

pub change_set : {A : Type 0} (change : A → A) (items : List A) (number : ℕ) (item : A) → slice_get items number ≡ Some item
    → change_at change number items ≡ slice_set items number (change item)
change_set change [] number item e = refl
change_set change (first ∷ items) zero item e = ap (λ i. change i ∷ items) (some_same first item e)
change_set change (first ∷ items) (suc number) item e = ap (λ l. first ∷ l) (change_set change items number item e)

pub sum_change : {A : Type 0} (of : A → ℕ) (items : List A) (number : ℕ) (was is : A) → slice_get items number ≡ Some was
    → sum_by of (slice_set items number is) + of was ≡ sum_by of items + of is
sum_change of [] number was is e = absurd (let wrong : None ≡ Some was = e in cc)
sum_change of (first ∷ items) zero was is e =
    let same : of first ≡ of was = ap of (some_same first was e) in
    let before = sum_by-cons of first items in
    let after = sum_by-cons of is items in
    omega (arith, same, before, after)
sum_change of (first ∷ items) (suc number) was is e =
    let rest = sum_change of items number was is e in
    let before = sum_by-cons of first items in
    let after = sum_by-cons of first (slice_set items number is) in
    omega (arith, rest, before, after)
