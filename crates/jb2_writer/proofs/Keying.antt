-- States of contexts as they are kept: those of numbers by keys, those of pixels in places.
use Rattle.std.proofs.Common.{◌≡◌, ℕ, ◌+◌, ◌*◌, ◌<◌, ◌≤◌, Bool, true, false, ◌&&◌, cond, eqb, List}
use Rattle.std.proofs.Common.{[], ◌∷◌, length, get_or, set, replicate, refl, sym, ap, ◌∙◌, arith, inl, inr}
use Rattle.std.specs.Prelude.{Option, Some, None, nat_eq, unwrap_or, if◌then◌else◌}
use Rattle.std.specs.HashMap.{get}
use Rattle.std.proofs.Math.Path.{fun_ext}
use Rattle.std.proofs.lemmas.Bool.{cases_Bool, cases_lt, eqb-true, eq-eqb}
use Rattle.std.proofs.lemmas.List.{get_or-set_same, get_or-set_other, get_or_default, get_or-replicate, get_or_past, length-replicate}
use Rattle.zp_decoder.specs.States.{fresh, are_same, with_state}
use Rattle.zp_decoder.proofs.Lemmas.{are_same-true, are_same-refl, stored_here, stored_elsewhere}
use Rattle.bit_plane.specs.Bits.{digit_of}
use Rattle.jb2_numbers.specs.Roots.{root_index}
use Rattle.jb2_numbers.specs.declared.roots.Root.{Root}
use Rattle.jb2_numbers.specs.Contexts.{Name, name, is_same, store}
use Rattle.jb2_shapes.specs.Numbers.{number_of}
use Rattle.jb2_writer.specs.Coding.{NumberStates, path_number, key_of, is_same_key, numbers_of, pixels_of}

some_path : (decisions : List Bool) → 1 ≤ path_number decisions
some_path [] = omega arith
some_path (true ∷ decisions) = let some = some_path decisions in omega (arith, some)
some_path (false ∷ decisions) = let some = some_path decisions in omega (arith, some)

differ : (m n : ℕ) → (m ≡ n → ⊥) → nat_eq m n ≡ false
differ m n other =
    elim (cases_Bool (eqb m n)) [
      | inl same ↦ absurd (other (eqb-true m n same))
      | inr different ↦ different
    ]

doubled : (m n : ℕ) (bit : Bool) → nat_eq (2 * m + digit_of bit) (2 * n + digit_of bit) ≡ nat_eq m n
doubled m n bit =
    elim (cases_Bool (eqb m n)) [
      | inl same ↦
          let e : m ≡ n = eqb-true m n same in
          eq-eqb (2 * m + digit_of bit) (2 * n + digit_of bit) (ap (λ (k : ℕ). 2 * k + digit_of bit) e) ∙ sym same
      | inr different ↦
          differ (2 * m + digit_of bit) (2 * n + digit_of bit) (λ e.
          let same : m ≡ n = omega (arith, e) in
          let is = eq-eqb m n same in
          cc)
          ∙ sym different
    ]

same_path : (a b : List Bool) → nat_eq (path_number a) (path_number b) ≡ are_same a b
same_path [] [] = refl
same_path [] (true ∷ b) = let some = some_path b in differ 1 (2 * path_number b + 1) (λ e. omega (arith, some, e))
same_path [] (false ∷ b) = let some = some_path b in differ 1 (2 * path_number b + 0) (λ e. omega (arith, some, e))
same_path (true ∷ a) [] = let some = some_path a in differ (2 * path_number a + 1) 1 (λ e. omega (arith, some, e))
same_path (false ∷ a) [] = let some = some_path a in differ (2 * path_number a + 0) 1 (λ e. omega (arith, some, e))
same_path (true ∷ a) (true ∷ b) = doubled (path_number a) (path_number b) true ∙ same_path a b
same_path (true ∷ a) (false ∷ b) = differ (2 * path_number a + 1) (2 * path_number b + 0) (λ e. omega (arith, e))
same_path (false ∷ a) (true ∷ b) = differ (2 * path_number a + 0) (2 * path_number b + 1) (λ e. omega (arith, e))
same_path (false ∷ a) (false ∷ b) = doubled (path_number a) (path_number b) false ∙ same_path a b

same_key : (a b : Name) → is_same_key (key_of a) (key_of b) ≡ is_same a b
same_key a b = ap (λ (same : Bool). nat_eq (root_index a.root) (root_index b.root) && same) (same_path a.decisions b.decisions)

read_back : (is : Bool) (state : ℕ) (before : Option ℕ) → unwrap_or (cond is (Some state) before) 0 ≡ if is then state else unwrap_or before 0
read_back true state before = refl
read_back false state before = refl

pub number_stored : (old new : NumberStates) (name : Name) (state : ℕ) →
    ((key : ℕ × ℕ) → get is_same_key new key ≡ cond (is_same_key (key_of name) key) (Some state) (get is_same_key old key)) →
    numbers_of new ≡ store (numbers_of old) name state
number_stored old new name state updates = fun_ext (λ other.
    ap (λ (kept : Option ℕ). unwrap_or kept 0) (updates (key_of other))
    ∙ (ap (λ (is : Bool). unwrap_or (cond is (Some state) (get is_same_key old (key_of other))) 0) (same_key name other)
    ∙ read_back (is_same name other) state (get is_same_key old (key_of other))))

pub none_stored : (new : NumberStates) → ((key : ℕ × ℕ) → get is_same_key new key ≡ None) → numbers_of new ≡ fresh
none_stored new empty = fun_ext (λ name. ap (λ (kept : Option ℕ). unwrap_or kept 0) (empty (key_of name)))

pub pixel_stored : ((colours other : List Bool) → number_of colours ≡ number_of other → colours ≡ other) → (old cells : List ℕ) (colours : List Bool)
    (number state : ℕ) → number_of colours ≡ number → number < length old → cells ≡ set old number state →
    pixels_of cells ≡ with_state (pixels_of old) colours state
pixel_stored injective old cells colours number state n p e = fun_ext (λ other.
    ap (λ (kept : List ℕ). get_or kept (number_of other) 0) (e ∙ ap (λ (i : ℕ). set old i state) (sym n))
    ∙ elim (cases_Bool (are_same colours other)) [
      | inl same ↦
          ap (λ (o : List Bool). get_or (set old (number_of colours) state) (number_of o) 0) (sym (are_same-true colours other same))
          ∙ get_or-set_same old (number_of colours) state 0 (omega (arith, n, p))
          ∙ sym (stored_here are_same (pixels_of old) colours other state same)
      | inr differs ↦
          get_or-set_other old (number_of colours) (number_of other) state 0 (λ e.
          let one = injective other colours e in
          let is : are_same colours colours ≡ false = ap (λ (o : List Bool). are_same colours o) (sym one) ∙ differs in
          let is_not = are_same-refl colours in
          cc)
          ∙ sym (stored_elsewhere are_same (pixels_of old) colours other state differs)
    ])

pub pixel_value : (kept : List ℕ) (colours : List Bool) (number state other : ℕ) → number_of colours ≡ number → number < length kept →
    state ≡ get_or kept number other → state ≡ pixels_of kept colours
pixel_value kept colours number state other n within e =
    e ∙ (get_or_default kept number other 0 within ∙ ap (λ (i : ℕ). get_or kept i 0) (sym n))

constant : (count i state : ℕ) → get_or (replicate count state) i state ≡ state
constant count i state =
    elim (cases_lt i count) [
      | inl within ↦ get_or-replicate count i state state within
      | inr past ↦ get_or_past (replicate count state) i state (omega (arith, length-replicate count state, past))
    ]

pub none_coloured : (kept : List ℕ) (count : ℕ) → kept ≡ replicate count 0 → pixels_of kept ≡ fresh
none_coloured kept count e = fun_ext (λ colours. ap (λ (states : List ℕ). get_or states (number_of colours) 0) e ∙ constant count (number_of colours) 0)

pub key_is : (key : ℕ × ℕ) (root : Root) (path : ℕ) (decisions : List Bool) → key ≡ (root_index root, path) → path_number decisions ≡ path →
    key ≡ key_of (name root decisions)
key_is key root path decisions e p = e ∙ ap (λ (n : ℕ). (root_index root, n)) (sym p)

pub value_is : (kept : NumberStates) (key : ℕ × ℕ) (of : Name) (state : ℕ) (found copied : Option ℕ) → state ≡ unwrap_or copied 0 → copied ≡ found →
    found ≡ get is_same_key kept key → key ≡ key_of of → state ≡ numbers_of kept of
value_is kept key of state found copied e f g k =
    e ∙ (ap (λ (o : Option ℕ). unwrap_or o 0) (f ∙ g) ∙ ap (λ (q : ℕ × ℕ). unwrap_or (get is_same_key kept q) 0) k)
