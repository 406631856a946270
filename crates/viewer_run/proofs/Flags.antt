-- Files by their numbers: flags of those that were read, and names.
use Rattle.std.proofs.Common.{◌≡◌, ◌≢◌, ℕ, zero, suc, ◌<◌, Bool, true, false, cond, eqb, ◌||◌, Ordering, Less, Equal, Greater, is_lt, nat_cmp, Some, IsSome, List, [], ◌∷◌, ◌++◌, length, set, get_or, refl, sym, ap, ◌∙◌, subst, arith}
use Rattle.std.specs.Prelude.{slice_get, slice_set}
use Rattle.std.specs.Str.{bytes_eq}
use Rattle.std.specs.Cmp.Lexicographic.{slice_cmp}
use Rattle.std.specs.Ordering.{ordering_reverse}
use Rattle.std.proofs.lemmas.Bool.{true≢false, and_parts, eqb-true, eq-eqb}
use Rattle.std.proofs.lemmas.Cmp.{nat_list_cmp_total}
use Rattle.std.proofs.lemmas.Slice.Eq.{bytes_eq-Decides}
use Rattle.std.proofs.lemmas.List.{get_or-set_same, length-set}
use Rattle.std.proofs.lemmas.Option.{slice_get-get_or}
use Rattle.djvu_base.specs.Library.{Files, names_of, contents_of}
use Rattle.djvu_base.specs.Name.{is_ascending, is_before}
use Rattle.include_graph.specs.Verdicts.{is_among}
use Rattle.djvu_outside.specs.Reading.{HasFile}

pub set_at : {A : Type 0} (list : List A) (number : ℕ) (it : A) → number < length list → slice_get (slice_set list number it) number ≡ Some it
set_at list number it h =
    slice_get-get_or (set list number it) number it (let e = length-set list number it in omega (arith, h, e))
    ∙ ap Some (get_or-set_same list number it it h)

pub set_other : {A : Type 0} (list : List A) (number other : ℕ) (it : A) → other ≢ number
    → slice_get (slice_set list number it) other ≡ slice_get list other
set_other [] number other it apart = refl
set_other (first ∷ list) zero zero it apart = absurd (apart refl)
set_other (first ∷ list) zero (suc other) it apart = refl
set_other (first ∷ list) (suc number) zero it apart = refl
set_other (first ∷ list) (suc number) (suc other) it apart = set_other list number other it (λ e. apart (ap suc e))

-- a folder has each file whose name it lists
pub has_listed : (files : Files) (number : ℕ) (name : List ℕ) → number < length (names_of files) → name ≡ get_or (names_of files) number name
    → HasFile files name
has_listed [] number name h e = absurd (omega (arith, h))
has_listed (file ∷ files) zero name h e =
    subst (λ (t : Bool). IsSome (cond t (Some file.1) (contents_of name files))) (sym ((bytes_eq-Decides name file.0).1 e)) refl
has_listed (file ∷ files) (suc number) name h e = by (bytes_eq name file.0) (has_listed files number name (omega (arith, h)) e)
  where
    by : (t : Bool) → HasFile files name → IsSome (cond t (Some file.1) (contents_of name files))
    by true more = refl
    by false more = more

-- ---- names that ascend

abbrev order : List ℕ → List ℕ → Ordering
order = slice_cmp nat_cmp

is_less : (o : Ordering) → is_lt o ≡ true → o ≡ Less
is_less Less e = refl
is_less Equal e = absurd (true≢false (sym e))
is_less Greater e = absurd (true≢false (sym e))

never_before : (o : Ordering) → o ≡ ordering_reverse o → o ≢ Less
never_before Less e less = cc
never_before Equal e less = cc
never_before Greater e less = cc

first_before : (name : List ℕ) (names : List (List ℕ)) → is_ascending (name ∷ names) ≡ true → (k : ℕ) (d : List ℕ) → k < length names
    → order name (get_or names k d) ≡ Less
first_before name [] up k d b = absurd (omega (arith, b))
first_before name (next ∷ names) up zero d b = is_less (order name next) (and_parts (is_before name next) (is_ascending (next ∷ names)) up).0
first_before name (next ∷ names) up (suc k) d b =
    let parts = and_parts (is_before name next) (is_ascending (next ∷ names)) up in
    nat_list_cmp_total.trans name next (get_or names k d) (is_less (order name next) parts.0)
    (first_before next names parts.1 k d (omega (arith, b)))

pub later_names : (name : List ℕ) (names : List (List ℕ)) → is_ascending (name ∷ names) ≡ true → is_ascending names ≡ true
later_names name [] up = refl
later_names name (next ∷ names) up = (and_parts (is_before name next) (is_ascending (next ∷ names)) up).1

not_same : (a b : List ℕ) → order a b ≡ Less → a ≢ b
not_same a b less e = never_before (order b b) (nat_list_cmp_total.antisymm b b) (ap (λ x. order x b) (sym e) ∙ less)

-- no name comes twice
pub names_apart : (names : List (List ℕ)) → is_ascending names ≡ true → (one other : ℕ) → one < length names → other < length names → other ≢ one
    → get_or names other [] ≢ get_or names one []
names_apart [] up one other a b apart = absurd (omega (arith, a))
names_apart (name ∷ names) up zero zero a b apart = absurd (apart refl)
names_apart (name ∷ names) up zero (suc other) a b apart =
    λ e. not_same name (get_or names other []) (first_before name names up other [] (omega (arith, b))) (sym e)
names_apart (name ∷ names) up (suc one) zero a b apart = not_same name (get_or names one []) (first_before name names up one [] (omega (arith, a)))
names_apart (name ∷ names) up (suc one) (suc other) a b apart =
    names_apart names (later_names name names up) one other (omega (arith, a)) (omega (arith, b)) (λ e. apart (ap suc e))

-- ---- numbers among others

pub among_last : (read : List ℕ) (file : ℕ) → is_among file (read ++ file ∷ []) ≡ true
among_last [] file = ap (λ b. b || false) (eq-eqb file file refl)
among_last (first ∷ read) file = by (eqb file first) (among_last read file)
  where
    by : (b : Bool) → is_among file (read ++ file ∷ []) ≡ true → (b || is_among file (read ++ file ∷ [])) ≡ true
    by true more = refl
    by false more = more

pub among_others : (read : List ℕ) (file other : ℕ) → other ≢ file → is_among other (read ++ file ∷ []) ≡ is_among other read
among_others [] file other apart = by (eqb other file) refl
  where
    by : (b : Bool) → eqb other file ≡ b → (b || false) ≡ false
    by true e = absurd (apart (eqb-true other file e))
    by false e = refl
among_others (first ∷ read) file other apart = ap (λ b. eqb other first || b) (among_others read file other apart)
