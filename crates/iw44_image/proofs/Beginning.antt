-- The start of a chunk: what a test of the code says of the bytes.
use Rattle.std.proofs.Common.{◌≡◌, ℕ, zero, suc, ◌+◌, ◌-◌, ◌*◌, ◌%◌, ◌≤◌, Bool, true, false, ◌&&◌, nat_le, List, [], ◌∷◌, ◌++◌, length}
use Rattle.std.proofs.Common.{get_or, take, drop, length-drop, Option, Some, None, refl, ap, sym, ◌∙◌, subst, arith}
use Rattle.std.specs.Prelude.{if◌then◌else◌, ◌==◌, IsSome}
use Rattle.std.proofs.Math.Seq.{drop-append-add, take-length}
use Rattle.std.proofs.lemmas.Grind.{common_steps}
use Rattle.djvu_base.specs.declared.faults.FaultKind.TheVariants as fault
use Rattle.iw44_image.specs.declared.headers.Header.{Header}
use Rattle.iw44_image.specs.declared.headers.Start.{Start}
use Rattle.iw44_image.specs.declared.headers.Start.TheVariants as start
use Rattle.iw44_image.specs.Header.{Opening, Short, Wrong, Opened, missing, after_sizes, read_sizes, read_version, read_rest, open_chunk}
use Rattle.iw44_image.specs.Starting.{opening_in, IsInside, HasSerial}

pub drop_behind : (before bytes : List ℕ) (n count : ℕ) → length before ≡ count → drop (n + count) (before ++ bytes) ≡ drop n bytes
drop_behind before bytes n count e =
    let turned : n + count ≡ length before + n = omega arith in
    ap (λ (k : ℕ). drop k (before ++ bytes)) turned ∙ drop-append-add before bytes n

-- a start with bytes before it
abbrev pub IsMoved : ℕ → Start → Start → Type 0
IsMoved count inner moved = (before bytes : List ℕ) → length before ≡ count → opening_in (before ++ bytes) moved ≡ opening_in bytes inner

taken : (test other : Bool) (x y : Opening) → test ≡ true → other ≡ true → (if test && other then x else y) ≡ x
taken test other x y a b = rw a (rw b refl)

both_true : (n m : ℕ) → n ≡ m → (n == m) ≡ true
both_true n m e = grind (arith, common_steps, e)

le_true : (n m : ℕ) → n ≤ m → nat_le n m ≡ true
le_true n m e = grind (arith, common_steps, e)

-- what a pattern leaves of a list is all that is behind it
pub rest_all : (k : ℕ) (l : List ℕ) → take (length l - k) (drop k l) ≡ drop k l
rest_all k l = let size : length (drop k l) ≡ length l - k = length-drop k l in ap (λ (n : ℕ). take n (drop k l)) (sym size) ∙ take-length (drop k l)

pub version_read : (limit slices : ℕ) (l rest : List ℕ) (ended : Bool) (inner moved : Start) → 2 ≤ length l → get_or l 0 0 % 128 ≡ 1 →
    get_or l 1 0 ≤ 2 → IsMoved 2 inner moved → rest ≡ drop 2 l →
    opening_in rest inner ≡ read_sizes limit slices (get_or l 0 0) (get_or l 1 0) rest ended → opening_in l moved ≡ read_version limit slices l ended
version_read limit slices [] rest ended inner moved some major minor is all e = absurd (let h : 2 ≤ 0 = some in omega arith)
version_read limit slices (a ∷ []) rest ended inner moved some major minor is all e = absurd (let h : 2 ≤ 1 = some in omega arith)
version_read limit slices (a ∷ b ∷ l) rest ended inner moved some major minor is all e =
    is (a ∷ b ∷ []) l refl ∙ subst (λ (r : List ℕ). opening_in r inner ≡ read_sizes limit slices a b r ended) all e ∙ sym
    (taken (a % 128 == 1) (nat_le b 2) _ _ (both_true (a % 128) 1 major) (le_true b 2 minor))

pub sizes_read : (limit slices major minor : ℕ) (l rest : List ℕ) (ended : Bool) (inner moved : Start) → 4 ≤ length l → IsMoved 4 inner moved →
    rest ≡ drop 4 l →
    opening_in rest inner ≡ after_sizes limit slices major minor (256 * get_or l 0 0 + get_or l 1 0) (256 * get_or l 2 0 + get_or l 3 0) rest ended →
    opening_in l moved ≡ read_sizes limit slices major minor l ended
sizes_read limit slices major minor [] rest ended inner moved some is all e = absurd (let h : 4 ≤ 0 = some in omega arith)
sizes_read limit slices major minor (a ∷ []) rest ended inner moved some is all e = absurd (let h : 4 ≤ 1 = some in omega arith)
sizes_read limit slices major minor (a ∷ b ∷ []) rest ended inner moved some is all e = absurd (let h : 4 ≤ 2 = some in omega arith)
sizes_read limit slices major minor (a ∷ b ∷ c ∷ []) rest ended inner moved some is all e = absurd (let h : 4 ≤ 3 = some in omega arith)
sizes_read limit slices major minor (a ∷ b ∷ c ∷ d ∷ l) rest ended inner moved some is all e =
    is (a ∷ b ∷ c ∷ d ∷ []) l refl ∙ subst (λ (r : List ℕ). opening_in r inner ≡ after_sizes limit slices major minor (256 * a + b)
    (256 * c + d) r ended) all e

one_taken : (test : Bool) (x y : Opening) → test ≡ true → (if test then x else y) ≡ x
one_taken test x y a = rw a refl

pub chunk_read : (limit number : ℕ) (known : Option Header) (l rest : List ℕ) (ended : Bool) (inner moved : Start) → 2 ≤ length l →
    get_or l 0 0 ≡ number → IsMoved 2 inner moved → rest ≡ drop 2 l →
    opening_in rest inner ≡ read_rest limit known (get_or l 1 0) rest ended → opening_in l moved ≡ open_chunk limit number known l ended
chunk_read limit number known [] rest ended inner moved some serial is all e = absurd (let h : 2 ≤ 0 = some in omega arith)
chunk_read limit number known (a ∷ []) rest ended inner moved some serial is all e = absurd (let h : 2 ≤ 1 = some in omega arith)
chunk_read limit number known (a ∷ b ∷ l) rest ended inner moved some serial is all e =
    is (a ∷ b ∷ []) l refl ∙ subst (λ (r : List ℕ). opening_in r inner ≡ read_rest limit known b r ended) all e ∙ sym
    (one_taken (a == number) _ _ (both_true a number serial))

pub inside_read : (count : ℕ) (l rest : List ℕ) (inner moved : Start) → count ≤ length l → rest ≡ drop count l → IsInside (length rest) inner →
    ((bytes : ℕ) → IsInside bytes inner → IsInside (count + bytes) moved) → IsInside (length l) moved
inside_read count l rest inner moved some all here goes =
    let left : length rest ≡ length l - count = ap (length {A = ℕ}) all ∙ length-drop count l in
    let size : count + length rest ≡ length l = omega arith in
    subst (λ (n : ℕ). IsInside n moved) size (goes (length rest) here)

pub serial_fits : (number : ℕ) (start : Start) → number ≤ 255 → HasSerial number start
serial_fits number start.Short fits = tt
serial_fits number (start.Wrong kind) fits = tt
serial_fits number (start.Told header slices length) fits = fits

-- a header that is there doesn't depend on whether all data are
abbrev AreAlike : Opening → Opening → Type 0
AreAlike a b = (header : Header) (slices : ℕ) (zp : List ℕ) → a ≡ Opened header slices zp → b ≡ Opened header slices zp

missing_never : (ended : Bool) (other : Opening) → AreAlike (missing ended) other
missing_never true other header slices zp e = absurd (let wrong : Wrong fault.IwHeader ≡ Opened header slices zp = e in cc)
missing_never false other header slices zp e = absurd (let wrong : Short ≡ Opened header slices zp = e in cc)

test_alike : (test : Bool) (a b other : Opening) → AreAlike a b → AreAlike (if test then a else other) (if test then b else other)
test_alike true a b other alike = alike
test_alike false a b other alike = λ header slices zp e. e

sizes_alike : (limit slices major minor width height : ℕ) (bytes : List ℕ) (ended then_ended : Bool) →
    AreAlike (after_sizes limit slices major minor width height bytes ended) (after_sizes limit slices major minor width height bytes then_ended)
sizes_alike limit slices major zero width height bytes ended then_ended = λ header count zp e. e
sizes_alike limit slices major (suc zero) width height bytes ended then_ended = λ header count zp e. e
sizes_alike limit slices major (suc (suc minor)) width height [] ended then_ended = missing_never ended (missing then_ended)
sizes_alike limit slices major (suc (suc minor)) width height (last ∷ later) ended then_ended = λ header count zp e. e

read_alike : (limit slices major minor : ℕ) (bytes : List ℕ) (ended then_ended : Bool) → AreAlike (read_sizes limit slices major minor bytes ended)
    (read_sizes limit slices major minor bytes then_ended)
read_alike limit slices major minor [] ended then_ended = missing_never ended (missing then_ended)
read_alike limit slices major minor (a ∷ []) ended then_ended = missing_never ended (missing then_ended)
read_alike limit slices major minor (a ∷ b ∷ []) ended then_ended = missing_never ended (missing then_ended)
read_alike limit slices major minor (a ∷ b ∷ c ∷ []) ended then_ended = missing_never ended (missing then_ended)
read_alike limit slices major minor (a ∷ b ∷ c ∷ d ∷ later) ended then_ended = sizes_alike limit slices major minor (256 * a + b)
    (256 * c + d) later ended then_ended

version_alike : (limit slices : ℕ) (bytes : List ℕ) (ended then_ended : Bool) → AreAlike (read_version limit slices bytes ended)
    (read_version limit slices bytes then_ended)
version_alike limit slices [] ended then_ended = missing_never ended (missing then_ended)
version_alike limit slices (major ∷ []) ended then_ended = missing_never ended (missing then_ended)
version_alike limit slices (major ∷ minor ∷ later) ended then_ended =
    test_alike ((major % 128 == 1) && nat_le minor 2) _ _ _ (read_alike limit slices major minor later ended then_ended)

rest_alike : (limit : ℕ) (known : Option Header) (slices : ℕ) (bytes : List ℕ) (ended then_ended : Bool) → AreAlike
    (read_rest limit known slices bytes ended) (read_rest limit known slices bytes then_ended)
rest_alike limit None slices bytes ended then_ended = version_alike limit slices bytes ended then_ended
rest_alike limit (Some told) slices bytes ended then_ended = λ header count zp e. e

pub opened_alike : (limit number : ℕ) (known : Option Header) (bytes : List ℕ) (ended then_ended : Bool) → AreAlike
    (open_chunk limit number known bytes ended) (open_chunk limit number known bytes then_ended)
opened_alike limit number known [] ended then_ended = missing_never ended (missing then_ended)
opened_alike limit number known (serial ∷ []) ended then_ended = missing_never ended (missing then_ended)
opened_alike limit number known (serial ∷ slices ∷ later) ended then_ended = test_alike (serial == number) _ _ _
    (rest_alike limit known slices later ended then_ended)

-- a header that was known stays
kept_by : (test : Bool) (told : Header) (count : ℕ) (later : List ℕ) (header : Header) (slices : ℕ) (zp : List ℕ) →
    (if test then Opened told count later else Wrong fault.IwSerial) ≡ Opened header slices zp → header ≡ told
kept_by true told count later header slices zp e = let same : Opened told count later ≡ Opened header slices zp = e in cc
kept_by false told count later header slices zp e = absurd (let wrong : Wrong fault.IwSerial ≡ Opened header slices zp = e in cc)

kept_header : (limit number : ℕ) (told : Header) (bytes : List ℕ) (ended : Bool) (header : Header) (slices : ℕ) (zp : List ℕ) → open_chunk limit number
    (Some told) bytes ended ≡ Opened header slices zp → header ≡ told
kept_header limit number told [] true header slices zp e = absurd (let wrong : Wrong fault.IwHeader ≡ Opened header slices zp = e in cc)
kept_header limit number told [] false header slices zp e = absurd (let wrong : Short ≡ Opened header slices zp = e in cc)
kept_header limit number told (serial ∷ []) true header slices zp e = absurd (let wrong : Wrong fault.IwHeader ≡ Opened header slices zp = e in cc)
kept_header limit number told (serial ∷ []) false header slices zp e = absurd (let wrong : Short ≡ Opened header slices zp = e in cc)
kept_header limit number told (serial ∷ count ∷ later) ended header slices zp e = kept_by (serial == number) told count later header slices zp e

pub told_stays : (limit number : ℕ) (known : Option Header) (told : Header) (bytes : List ℕ) (ended : Bool) (header : Header) (slices : ℕ)
    (zp : List ℕ) → known ≡ Some told →
    open_chunk limit number known bytes ended ≡ Opened header slices zp → header ≡ told
told_stays limit number known told bytes ended header slices zp is e =
    kept_header limit number told bytes ended header slices zp (subst
    (λ (o : Option Header). open_chunk limit number o bytes ended ≡ Opened header slices zp) is e)

pub known_header : (limit number : ℕ) (known : Option Header) (bytes : List ℕ) (ended : Bool) (header : Header) (slices : ℕ) (zp : List ℕ) → IsSome known →
    open_chunk limit number known bytes ended ≡ Opened header slices zp → Some header ≡ known
known_header limit number None bytes ended header slices zp some e = absurd (let wrong : false ≡ true = some in cc)
known_header limit number (Some told) bytes ended header slices zp some e =
    ap (λ (h : Header). let o : Option Header = Some h in o) (kept_header limit number told bytes ended header slices zp e)
