-- Files among others.
use Rattle.std.proofs.Common.{◌≡◌, ℕ, suc, ◌+◌, ◌<◌, eqb, Bool, true, false, ◌||◌, List, [], ◌∷◌, ◌++◌, length, Option, Some, ◌⊎◌, inl, inr, refl, sym, ap, ◌∙◌, subst, arith, cond}
use Rattle.std.specs.List.{position_from, AllByRecursion, IsDistinct}
use Rattle.std.specs.Prelude.{bytes_eq}
use Rattle.std.proofs.lemmas.Bool.{true≢false, eqb-true, eq-eqb}
use Rattle.std.proofs.lemmas.List.Folds.{list_any-append}
use Rattle.std.proofs.lemmas.Map.Keys.{IsDistinct-cons}
use Rattle.include_graph.specs.Verdicts.{is_among, number_of}

or_right : (a b : Bool) → b ≡ true → (a || b) ≡ true
or_right true b e = refl
or_right false b e = e

or_left : (a b : Bool) → a ≡ true → (a || b) ≡ true
or_left a b e = ap (λ x. x || b) e

or_neither : (a b : Bool) → a ≡ false → b ≡ false → (a || b) ≡ false
or_neither a b e f = ap (λ x. x || b) e ∙ f

or_cases : (a b : Bool) → (a || b) ≡ true → (a ≡ true) ⊎ (b ≡ true)
or_cases true b e = inl refl
or_cases false b e = inr e

or_fails_left : (a b : Bool) → (a || b) ≡ false → a ≡ false
or_fails_left true b e = absurd (true≢false e)
or_fails_left false b e = refl

or_fails_right : (a b : Bool) → (a || b) ≡ false → b ≡ false
or_fails_right true b e = absurd (true≢false e)
or_fails_right false b e = e

pub not_both : {A : Type 0} (a : Bool) → a ≡ true → a ≡ false → A
not_both a t f = absurd (true≢false (sym t ∙ f))

-- whether it holds
pub by_test : {A : Type 0} (a : Bool) → (a ≡ true → A) → (a ≡ false → A) → A
by_test true t f = t refl
by_test false t f = f refl

pub among_head : (file : ℕ) (files : List ℕ) → is_among file (file ∷ files) ≡ true
among_head file files = or_left (eqb file file) (is_among file files) (eq-eqb file file refl)

pub among_tail : (q file : ℕ) (files : List ℕ) → is_among q files ≡ true → is_among q (file ∷ files) ≡ true
among_tail q file files h = or_right (eqb q file) (is_among q files) h

pub among_cases : (q file : ℕ) (files : List ℕ) → is_among q (file ∷ files) ≡ true → (q ≡ file) ⊎ (is_among q files ≡ true)
among_cases q file files h = elim (or_cases (eqb q file) (is_among q files) h) [ inl e ↦ inl (eqb-true q file e) | inr e ↦ inr e ]

pub among_left : (q : ℕ) (files more : List ℕ) → is_among q files ≡ true → is_among q (files ++ more) ≡ true
among_left q files more h = list_any-append (eqb q) files more ∙ or_left (is_among q files) (is_among q more) h

pub among_right : (q : ℕ) (files more : List ℕ) → is_among q more ≡ true → is_among q (files ++ more) ≡ true
among_right q files more h = list_any-append (eqb q) files more ∙ or_right (is_among q files) (is_among q more) h

pub not_among_left : (q : ℕ) (files more : List ℕ) → is_among q (files ++ more) ≡ false → is_among q files ≡ false
not_among_left q files more h = or_fails_left (is_among q files) (is_among q more) (sym (list_any-append (eqb q) files more) ∙ h)

pub not_among_both : (q : ℕ) (files more : List ℕ) → is_among q files ≡ false → is_among q more ≡ false → is_among q (files ++ more) ≡ false
not_among_both q files more a b = list_any-append (eqb q) files more ∙ or_neither (is_among q files) (is_among q more) a b

pub among_append : (q : ℕ) (files : List ℕ) (file : ℕ) → is_among q (files ++ file ∷ []) ≡ (is_among q files || (eqb q file || false))
among_append q files file = list_any-append (eqb q) files (file ∷ [])

or_turned : (a b : Bool) → (a || b) ≡ (b || (a || false))
or_turned true true = refl
or_turned true false = refl
or_turned false true = refl
or_turned false false = refl

-- at the head or at the end
pub among_turned : (q file : ℕ) (files : List ℕ) → is_among q (file ∷ files) ≡ is_among q (files ++ file ∷ [])
among_turned q file files = or_turned (eqb q file) (is_among q files) ∙ sym (among_append q files file)

-- a file that isn't one of them is none of them
pub apart : (q : ℕ) (files : List ℕ) → is_among q files ≡ false → AllByRecursion (λ file. eqb q file ≡ false) files
apart q [] h = tt
apart q (file ∷ files) h = (or_fails_left (eqb q file) (is_among q files) h, apart q files (or_fails_right (eqb q file) (is_among q files) h))

pub distinct_with : (file : ℕ) (files : List ℕ) → is_among file files ≡ false → IsDistinct eqb files → IsDistinct eqb (file ∷ files)
distinct_with file files h d = IsDistinct-cons eqb file files (apart file files h) d

-- another file isn't at the head
pub not_head : (q file : ℕ) (files : List ℕ) → is_among q files ≡ true → is_among file files ≡ false → eqb q file ≡ false
not_head q file files a b = by_test (eqb q file) (λ e. not_both (is_among file files) (subst (λ n. is_among n files ≡ true) (eqb-true q file e) a) b) (λ e. e)

number_here : (same : Bool) (first target : ℕ) (others : Option ℕ) (count : ℕ) → cond same (Some first) others ≡ Some target
    → (others ≡ Some target → target < first + 1 + count) → target < first + suc count
number_here true first target others count e later = let at : first ≡ target = cc in omega (arith, at)
number_here false first target others count e later = let behind = later e in omega (arith, behind)

number_within : (first target : ℕ) (name : List ℕ) (names : List (List ℕ)) → position_from (bytes_eq name) first names ≡ Some target
    → target < first + length names
number_within first target name [] e = cc
number_within first target name (listed ∷ names) e = number_here (bytes_eq name listed) first target
    (position_from (bytes_eq name) (first + 1) names) (length names) e (number_within (first + 1) target name names)

pub number_below : (target : ℕ) (name : List ℕ) (names : List (List ℕ)) → number_of name names ≡ Some target → target < length names
number_below target name names e = let within = number_within 0 target name names e in omega (arith, within)
