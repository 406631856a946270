-- A file, read piece by piece.
use Rattle.std.proofs.Common.{◌≡◌, Ok, Option, Some, None, IsSome, IfSome, ℕ, zero, suc, ◌+◌, ◌≤◌, List, [], ◌∷◌, ◌++◌, length, take, drop, refl, sym, ap, ◌∙◌, subst, arith}
use Rattle.std.proofs.lemmas.List.{append-nil, length-drop, take_all, take-take, take-append-le, drop-drop}
use Rattle.std.proofs.Math.Seq.{take-add, take-append_seam}
use Rattle.djvu_outside.specs.Pieces.{CountsCame}
use Rattle.djvu_outside.specs.Reading.{Opened, moved_on}

-- one more read goes on with the file
pub read_more : (content bytes now : List ℕ) (position n count : ℕ) → bytes ≡ take n (drop position content) → now ≡ bytes ++ take count (drop (position + n) content) → now ≡ take (n + count) (drop position content)
read_more content bytes now position n count e more =
    more ∙ ap (λ b. b ++ take count (drop (position + n) content)) e
    ∙ ap (λ d. take n (drop position content) ++ take count d) (sym (drop-drop n position content))
    ∙ sym (take-add n count (drop position content))

-- a read of nothing is the file's end
pub read_all : (content bytes : List ℕ) (position n limit : ℕ) → bytes ≡ take n (drop position content) → length content ≤ position + n → n ≤ limit → bytes ≡ take limit (drop position content)
read_all content bytes position n limit e end within =
    let size = length-drop position content in
    e ∙ take_all n (drop position content) (omega (arith, size)) ∙ sym (take_all limit (drop position content) (omega (arith, size)))

pub read_nothing : (content bytes now : List ℕ) (position n limit count : ℕ)
    → bytes ≡ take n (drop position content) → now ≡ bytes ++ take count (drop (position + n) content) → count ≡ 0 → length content ≤ position + n → n ≤ limit → now ≡ take limit (drop position content)
read_nothing content bytes now position n limit count e more none end within =
    more ∙ ap (λ k. bytes ++ take k (drop (position + n) content)) none ∙ append-nil bytes ∙ read_all content bytes position n limit e end within

-- some of the bytes up to a limit
pub read_part : (content bytes : List ℕ) (n limit : ℕ) → bytes ≡ take n content → n ≤ limit → bytes ≡ take (length bytes) (take limit content)
read_part content bytes n limit e within =
    let short : take n (take limit content) ≡ take n content = take-take n limit content within in
    e ∙ sym short ∙ take_by_length (take limit content) n ∙ ap (λ m. take m (take limit content)) (ap length (short ∙ sym e))
  where
    take_by_length : (l : List ℕ) (n : ℕ) → take n l ≡ take (length (take n l)) l
    take_by_length [] zero = refl
    take_by_length [] (suc n) = refl
    take_by_length (x ∷ l) zero = refl
    take_by_length (x ∷ l) (suc n) = ap (λ t. x ∷ t) (take_by_length l n)

pub some_of : {A : Type 0} (o : Option A) → IsSome o → (x : A) × (o ≡ Some x)
some_of None h = cc
some_of (Some x) h = (x, refl)

-- two moves are one
pub moved_twice : (here : Opened) (n count now : ℕ) → now ≡ n + count → moved_on (moved_on here n) count ≡ moved_on here now
moved_twice here n count now e =
    let sum : here.position + n + count ≡ here.position + now = omega arith in
    ap (λ p. let place : Opened = record { name = here.name; position = p } in place) sum

pub some_within : (o : Option ℕ) (k m : ℕ) → o ≡ Some k → IfSome o (λ c. c ≤ m) → k ≤ m
some_within o k m e h = subst (λ x. IfSome x (λ c. c ≤ m)) e h

pub some_counts : (o : Option ℕ) (k before after : ℕ) → o ≡ Some k → CountsCame (Ok o) before after → after ≡ before
some_counts o k before after e h = subst (λ x. CountsCame (Ok x) before after) e h

-- what was read into a buffer, after the bytes that it began with
pub read_after : (old zeros resized now : List ℕ) (start more count : ℕ) → start ≡ length old → resized ≡ take (start + more) old ++ zeros → take start now ≡ take start resized → take (start + count) now ≡ old ++ take count (drop start now)
read_after old zeros resized now start more count size is same =
    let all : take (start + more) old ≡ old = take_all (start + more) old (omega (arith, size)) in
    take-add start count now ∙ ap (λ l. l ++ take count (drop start now)) (same ∙ ap (take start) (is ∙ ap (λ l. l ++ zeros) all) ∙ ap (λ n. take n (old ++ zeros)) size ∙ take-append_seam old zeros)

-- the first bytes of a vector whose buffer was written
pub first_of : (now rest : List ℕ) (count room : ℕ) → count ≤ room → count ≤ length now → take count (take room (now ++ rest)) ≡ take count now
first_of now rest count room within short = take-take count room (now ++ rest) within ∙ take-append-le count now rest short
