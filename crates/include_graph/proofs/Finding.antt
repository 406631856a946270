-- Where a name stands among ascending names, by a binary search.
use Rattle.std.proofs.Common.{◌≡◌, ℕ, zero, suc, ◌+◌, ◌<◌, Bool, true, false, cond, List, [], ◌∷◌, length, get_or, Some, None, IfSome, Result, Ok, Err, Ordering, Less, Equal, Greater, is_lt, is_eq, nat_cmp, inl, inr, refl, sym, ap, ◌∙◌, arith}
use Rattle.std.proofs.lemmas.Bool.{true≢false, cases_lt, and_parts}
use Rattle.std.proofs.lemmas.Cmp.{nat_list_cmp_total, alike_right}
use Rattle.std.proofs.lemmas.List.Sorted.{searchable_from_sorted}
use Rattle.std.proofs.lemmas.Map.Text.{is_eq-slice_cmp}
use Rattle.std.specs.Cmp.Lexicographic.{slice_cmp}
use Rattle.std.specs.List.{position_from}
use Rattle.std.specs.List.Sorted.{IsSortedBy, IsBinarySearchResult, IsSearchInRange}
use Rattle.std.specs.Ordering.{ordering_reverse}
use Rattle.std.specs.Prelude.{bytes_eq}
use Rattle.std.specs.Result.{result_ok}
use Rattle.djvu_base.specs.Name.{is_ascending, is_before}

abbrev order : List ℕ → List ℕ → Ordering
order = slice_cmp nat_cmp

is_less : (o : Ordering) → is_lt o ≡ true → o ≡ Less
is_less Less e = refl
is_less Equal e = absurd (true≢false (sym e))
is_less Greater e = absurd (true≢false (sym e))

turned : (o back : Ordering) → o ≡ ordering_reverse back → o ≡ Less → is_lt back ≡ false
turned o Less e less = absurd (true≢false (sym (ap is_lt less) ∙ ap is_lt e))
turned o Equal e less = refl
turned o Greater e less = refl

others_ascend : (name : List ℕ) (names : List (List ℕ)) → is_ascending (name ∷ names) ≡ true → is_ascending names ≡ true
others_ascend name [] up = refl
others_ascend name (next ∷ names) up = (and_parts (is_before name next) (is_ascending (next ∷ names)) up).1

-- the first name stands before all others
first_before : (name : List ℕ) (names : List (List ℕ)) → is_ascending (name ∷ names) ≡ true → (k : ℕ) (d : List ℕ) → k < length names
    → order name (get_or names k d) ≡ Less
first_before name [] up k d b = absurd (omega (arith, b))
first_before name (next ∷ names) up zero d b = is_less (order name next) (and_parts (is_before name next) (is_ascending (next ∷ names)) up).0
first_before name (next ∷ names) up (suc k) d b =
    nat_list_cmp_total.trans name next (get_or names k d) (is_less (order name next) (and_parts (is_before name next) (is_ascending (next ∷ names)) up).0)
    (first_before next names (others_ascend name (next ∷ names) up) k d (omega (arith, b)))

-- each name stands before all later ones
before_later : (names : List (List ℕ)) → is_ascending names ≡ true → (j k : ℕ) (d : List ℕ) → j < k → k < length names
    → order (get_or names j d) (get_or names k d) ≡ Less
before_later [] up j k d a b = absurd (omega (arith, b))
before_later (name ∷ names) up zero zero d a b = absurd (omega (arith, a))
before_later (name ∷ names) up zero (suc k) d a b = first_before name names up k d (omega (arith, b))
before_later (name ∷ names) up (suc j) zero d a b = absurd (omega (arith, a))
before_later (name ∷ names) up (suc j) (suc k) d a b = before_later names (others_ascend name names up) j k d (omega (arith, a)) (omega (arith, b))

sorted : (names : List (List ℕ)) → is_ascending names ≡ true → IsSortedBy (λ a b. is_lt (order a b)) names
sorted names up = λ k d a b. turned (order (get_or names k d) (get_or names (k + 1) d)) (order (get_or names (k + 1) d) (get_or names k d))
    (nat_list_cmp_total.antisymm (get_or names k d) (get_or names (k + 1) d)) (before_later names up k (k + 1) d (omega arith) b)

-- the first place that passes a test
position_at : (test : List ℕ → Bool) (names : List (List ℕ)) (first at : ℕ) (d : List ℕ) → at < length names
    → ((k : ℕ) → k < at → test (get_or names k d) ≡ false) → test (get_or names at d) ≡ true → position_from test first names ≡ Some (first + at)
position_at test [] first at d b before here = absurd (omega (arith, b))
position_at test (name ∷ names) first zero d b before here =
    let sum : first ≡ first + 0 = omega arith in
    ap (λ t. cond t (Some first) (position_from test (first + 1) names)) here ∙ ap Some sum
position_at test (name ∷ names) first (suc at) d b before here =
    let sum : first + 1 + at ≡ first + suc at = omega arith in
    ap (λ t. cond t (Some first) (position_from test (first + 1) names)) (before zero (omega arith))
    ∙ position_at test names (first + 1) at d (omega (arith, b)) (λ k l. before (suc k) (omega (arith, l))) here ∙ ap Some sum

position_nowhere : (test : List ℕ → Bool) (names : List (List ℕ)) (first : ℕ) (d : List ℕ)
    → ((k : ℕ) → k < length names → test (get_or names k d) ≡ false) → position_from test first names ≡ None
position_nowhere test [] first d none = refl
position_nowhere test (name ∷ names) first d none =
    ap (λ t. cond t (Some first) (position_from test (first + 1) names)) (none zero (omega arith))
    ∙ position_nowhere test names (first + 1) d (λ k l. none (suc k) (omega (arith, l)))

-- a name's test, by the order of another one to it
tested : (name other : List ℕ) (o : Ordering) → order other name ≡ o → bytes_eq name other ≡ is_eq (ordering_reverse o)
tested name other o e = sym (is_eq-slice_cmp name other) ∙ ap is_eq (nat_list_cmp_total.antisymm name other) ∙ ap (λ r. is_eq (ordering_reverse r)) e

-- what a binary search answers is the first place of the name
pub place_found : (names : List (List ℕ)) (name : List ℕ) → is_ascending names ≡ true → (r : Result ℕ ℕ) → IsSearchInRange r (length names)
    → IsBinarySearchResult (λ other. slice_cmp nat_cmp other name) names r → result_ok r ≡ position_from (bytes_eq name) 0 names
place_found names name up (Ok at) within here =
    let sum : 0 + at ≡ at = omega arith in
    sym (position_at (bytes_eq name) names 0 at [] within
    (λ k l. tested name (get_or names k []) Less (sym (alike_right nat_list_cmp_total (get_or names at []) name (get_or names k []) (here []))
    ∙ before_later names up k at [] l within))
    (tested name (get_or names at []) Equal (here [])) ∙ ap Some sum)
place_found names name up (Err at) within parted =
    let parts = parted (searchable_from_sorted nat_list_cmp_total (λ other. other) names name (sorted names up)) in
    sym (position_nowhere (bytes_eq name) names 0 [] (λ k l. elim (cases_lt k at) [
      | inl low ↦ tested name (get_or names k []) Less (parts.0 k [] (omega arith) low)
      | inr high ↦ tested name (get_or names k []) Greater (parts.1 k [] high l)
    ]))

pub place_within : (names : List (List ℕ)) (r : Result ℕ ℕ) → IsSearchInRange r (length names) → IfSome (result_ok r) (λ place. place < length names)
place_within names (Ok at) within = within
place_within names (Err at) within = tt
