-- Lists with one item changed, and the last of the first items of a list.
use Rattle.std.proofs.Common.{◌≡◌, ◌<◌, ◌≤◌, ℕ, zero, suc, Bool, true, false, eqb, Some, None, List, [], ◌∷◌, ◌++◌, length, take, refl, sym, ap, ◌∙◌, arith}
use Rattle.std.proofs.lemmas.Bool.{eqb-true, eqb-false}
use Rattle.std.specs.Prelude.{slice_get, slice_set}
use Rattle.std.proofs.Math.Seq.{take-suc}
use Rattle.std.proofs.lemmas.Option.{slice_get_within, get_or_from_slice_get}
use Rattle.page_decoder.specs.Given.{Front}
use Rattle.replay_core.specs.Machine.{change_at, last_of}

pub some_same : {A : Type 0} (a b : A) → Some a ≡ Some b → a ≡ b
some_same a b e = cc

pub changed_here : {A : Type 0} (change : A → A) (items : List A) (number : ℕ) (item : A) → slice_get items number ≡ Some item
    → slice_get (change_at change number items) number ≡ Some (change item)
changed_here change [] number item e = absurd (let wrong : None ≡ Some item = e in cc)
changed_here change (first ∷ items) zero item e = ap (λ i. Some (change i)) (some_same first item e)
changed_here change (first ∷ items) (suc number) item e = changed_here change items number item e

pub changed_apart : {A : Type 0} (change : A → A) (items : List A) (number other : ℕ) → (other ≡ number → ⊥)
    → slice_get (change_at change number items) other ≡ slice_get items other
changed_apart change [] number other apart = refl
changed_apart change (first ∷ items) zero zero apart = absurd (apart refl)
changed_apart change (first ∷ items) zero (suc other) apart = refl
changed_apart change (first ∷ items) (suc number) zero apart = refl
changed_apart change (first ∷ items) (suc number) (suc other) apart = changed_apart change items number other (λ e. apart (ap suc e))

-- where there was no item, there is none
pub changed_nowhere : {A : Type 0} (change : A → A) (items : List A) (number other : ℕ) → slice_get items other ≡ None
    → slice_get (change_at change number items) other ≡ None
changed_nowhere change [] number other e = refl
changed_nowhere change (first ∷ items) zero zero e = absurd (let wrong : Some first ≡ None = e in cc)
changed_nowhere change (first ∷ items) zero (suc other) e = e
changed_nowhere change (first ∷ items) (suc number) zero e = absurd (let wrong : Some first ≡ None = e in cc)
changed_nowhere change (first ∷ items) (suc number) (suc other) e = changed_nowhere change items number other e

pub take_next : {A : Type 0} (items : List A) (count : ℕ) (next : A) → slice_get items count ≡ Some next
    → take (suc count) items ≡ take count items ++ next ∷ []
take_next items count next e =
    take-suc items count next (slice_get_within items count next e) ∙ ap (λ i. take count items ++ i ∷ []) (get_or_from_slice_get items count next next e)

pub none_left : {A : Type 0} (items : List A) (count : ℕ) → count ≤ length items → slice_get items count ≡ None → count ≡ length items
none_left [] zero le e = refl
none_left [] (suc count) le e = absurd (omega (arith, le))
none_left (first ∷ items) zero le e = absurd (let wrong : Some first ≡ None = e in cc)
none_left (first ∷ items) (suc count) le e = ap suc (none_left items count (omega (arith, le)) e)

-- the last of so many is the same in a list that goes on
pub get_front : {A : Type 0} (items more : List A) (count : ℕ) → count < length items → slice_get (items ++ more) count ≡ slice_get items count
get_front [] more count less = absurd (omega (arith, less))
get_front (first ∷ items) more zero less = refl
get_front (first ∷ items) more (suc count) less = get_front items more count (omega (arith, less))

pub last_front : {A : Type 0} (items more : List A) (count : ℕ) → count ≤ length items → Front items more → last_of more count ≡ last_of items count
last_front items more zero le front = refl
last_front items more (suc count) le front = ap (λ l. slice_get l count) front.1 ∙ get_front items front.0 count (omega (arith, le))

-- ---- an item that is set

pub set_here : {A : Type 0} (items : List A) (number : ℕ) (item : A) → number < length items → slice_get (slice_set items number item) number ≡ Some item
set_here [] number item less = absurd (omega (arith, less))
set_here (first ∷ items) zero item less = refl
set_here (first ∷ items) (suc number) item less = set_here items number item (omega (arith, less))

pub set_apart : {A : Type 0} (items : List A) (number other : ℕ) (item : A) → (other ≡ number → ⊥)
    → slice_get (slice_set items number item) other ≡ slice_get items other
set_apart [] number other item apart = refl
set_apart (first ∷ items) zero zero item apart = absurd (apart refl)
set_apart (first ∷ items) zero (suc other) item apart = refl
set_apart (first ∷ items) (suc number) zero item apart = refl
set_apart (first ∷ items) (suc number) (suc other) item apart = set_apart items number other item (λ e. apart (ap suc e))

pub set_length : {A : Type 0} (items : List A) (number : ℕ) (item : A) → length (slice_set items number item) ≡ length items
set_length [] number item = refl
set_length (first ∷ items) zero item = refl
set_length (first ∷ items) (suc number) item = ap suc (set_length items number item)

-- an item that is set, or one of before
pub data AfterSet {A : Type 0} (items : List A) (number : ℕ) (item : A) (other : ℕ) (found : A) : Type 0 where
  is_set : other ≡ number → found ≡ item → AfterSet items number item other found
  is_other : (other ≡ number → ⊥) → slice_get items other ≡ Some found → AfterSet items number item other found

pub after_set : {A : Type 0} (items : List A) (number : ℕ) (item : A) (other : ℕ) (found : A) → number < length items
    → slice_get (slice_set items number item) other ≡ Some found → AfterSet items number item other found
after_set items number item other found less e = by (eqb other number) refl
  where
    by : (b : Bool) → eqb other number ≡ b → AfterSet items number item other found
    by true is =
        let same = eqb-true other number is in
        is_set same (some_same found item (sym e ∙ ap (slice_get (slice_set items number item)) same ∙ set_here items number item less))
    by false is =
        let apart = eqb-false other number is in
        is_other apart (sym (set_apart items number other item apart) ∙ e)
