-- The chunks from a place on, without a count of how many there may be.
use Rattle.std.proofs.Common.{◌≡◌, ℕ, ◌+◌, ◌-◌, ◌<◌, ◌≤◌, zero, suc, Bool, true, false, cond, Option, Some, None, List, [], ◌∷◌, length, take, drop, eqb, ltb, refl, sym, ap, ◌∙◌, arith}
use Rattle.std.proofs.lemmas.Bool.{ltb-false}
use Rattle.byteorder.specs.Endian.{big_number}
use Rattle.djvu_base.specs.declared.faults.FaultKind.{FaultKind}
use Rattle.djvu_base.specs.declared.faults.FaultKind.TheVariants.{ShortHeader}
use Rattle.iff_chunks.specs.Chunks.{Rest, Found, Behind, Stops, Has, Waits, On, Broken, InHeader, InData, FormEnd, found_at, found_so, behind_so, whole_header, header_at, header_fault, data_at, behind_data, pad_at, is_padded, chunks_from, rest_at}

-- what is behind a chunk has fewer bytes of the FORM left
abbrev pub BehindLess : ℕ → Behind → Type 0
BehindLess left (Waits tail) = Unit {0}
BehindLess left (On offset behind bytes) = behind < left

abbrev pub FoundLess : ℕ → Found → Type 0
FoundLess left (Stops tail) = Unit {0}
FoundLess left (Has chunk behind) = BehindLess left behind

pad_less : (offset next left behind : ℕ) (bytes : List ℕ) → behind < left → BehindLess left (pad_at offset next behind bytes)
pad_less offset next left behind [] h = tt
pad_less offset next left behind (b ∷ bytes) h = omega arith

data_less : (offset size left behind : ℕ) (bytes : List ℕ) → behind < left → BehindLess left (behind_data offset size behind bytes)
data_less offset size left behind bytes h =
    elim (is_padded size behind) as (λ t. BehindLess left (cond t (pad_at offset (offset + 9 + size) behind bytes) (On (offset + 8 + size) behind bytes)))
    [ true ↦ pad_less offset (offset + 9 + size) left behind bytes h | false ↦ h ]

found_data_less : (id : List ℕ) (offset size left behind : ℕ) (bytes : List ℕ) → behind < left → FoundLess left (data_at id offset size behind bytes)
found_data_less id offset size left behind bytes h =
    elim (ltb (length bytes) size) as
    (λ t. FoundLess left (cond t (Stops (InData (record { id = id; offset = offset; size = size; bytes = bytes })))
    (Has (record { id = id; offset = offset; size = size; bytes = take size bytes }) (behind_data offset size behind (drop size bytes)))))
    [ true ↦ tt | false ↦ data_less offset size left behind (drop size bytes) h ]

header_less : (fault : Option FaultKind) (id : List ℕ) (offset size left : ℕ) (bytes : List ℕ) → 8 ≤ left
    → FoundLess left (header_at fault id offset size (left - 8) bytes)
header_less (Some kind) id offset size left bytes h = tt
header_less None id offset size left bytes h = found_data_less id offset size left (left - 8 - size) bytes (omega arith)

found_less : (offset left : ℕ) (bytes : List ℕ) (ended short few : Bool) → ltb left 8 ≡ short
    → FoundLess left (cond ended (Stops FormEnd)
    (cond short (Stops (Broken ShortHeader offset))
    (cond few (Stops (InHeader offset bytes)) (whole_header (take 4 bytes) offset (big_number 4 (take 4 (drop 4 bytes))) (left - 8) (drop 8 bytes)))))
found_less offset left bytes true short few e = tt
found_less offset left bytes false true few e = tt
found_less offset left bytes false false true e = tt
found_less offset left bytes false false false e =
    header_less (header_fault (take 4 bytes) (big_number 4 (take 4 (drop 4 bytes))) (left - 8)) (take 4 bytes) offset (big_number 4 (take 4 (drop 4 bytes)))
    left (drop 8 bytes) (ltb-false left 8 e)

-- two ways to go on that agree where fewer bytes are left
same_behind : (f g : ℕ → ℕ → List ℕ → Rest) (left : ℕ) (behind : Behind) → BehindLess left behind
    → ((offset n : ℕ) (bytes : List ℕ) → n < left → f offset n bytes ≡ g offset n bytes) → behind_so f behind ≡ behind_so g behind
same_behind f g left (Waits tail) h same = refl
same_behind f g left (On offset n bytes) h same = same offset n bytes h

same_found : (f g : ℕ → ℕ → List ℕ → Rest) (left : ℕ) (found : Found) → FoundLess left found
    → ((offset n : ℕ) (bytes : List ℕ) → n < left → f offset n bytes ≡ g offset n bytes) → found_so f found ≡ found_so g found
same_found f g left (Stops tail) h same = refl
same_found f g left (Has chunk behind) h same = ap (λ (r : Rest). record { whole = chunk ∷ r.whole; tail = r.tail }) (same_behind f g left behind h same)

found_at_less : (offset left : ℕ) (bytes : List ℕ) → FoundLess left (found_at offset left bytes)
found_at_less offset left bytes = found_less offset left bytes (eqb left 0) (ltb left 8) (ltb (length bytes) 8) refl

none_left : (most offset : ℕ) (bytes : List ℕ) → chunks_from most offset 0 bytes ≡ record { whole = []; tail = FormEnd }
none_left zero offset bytes = refl
none_left (suc most) offset bytes = refl

-- any count that is large enough gives the same
enough : (most more offset left : ℕ) (bytes : List ℕ) → left ≤ most → left ≤ more → chunks_from most offset left bytes ≡ chunks_from more offset left bytes
enough zero more offset left bytes h k =
    let none : left ≡ 0 = omega arith in
    ap (λ n. chunks_from zero offset n bytes) none ∙ sym (none_left more offset bytes) ∙ ap (λ n. chunks_from more offset n bytes) (sym none)
enough (suc most) zero offset left bytes h k =
    let none : left ≡ 0 = omega arith in
    ap (λ n. chunks_from (suc most) offset n bytes) none ∙ none_left (suc most) offset bytes ∙ ap (λ n. chunks_from zero offset n bytes) (sym none)
enough (suc most) (suc more) offset left bytes h k =
    same_found (chunks_from most) (chunks_from more) left (found_at offset left bytes) (found_at_less offset left bytes)
    (λ o n b less. enough most more o n b (omega arith) (omega arith))

-- the chunks from a place on, by what is found there
pub rest_found : (offset left : ℕ) (bytes : List ℕ) → rest_at offset left bytes ≡ found_so rest_at (found_at offset left bytes)
rest_found offset zero bytes = refl
rest_found offset (suc left) bytes =
    same_found (chunks_from left) rest_at (suc left) (found_at offset (suc left) bytes) (found_at_less offset (suc left) bytes)
    (λ o n b less. enough left n o n b (omega arith) (omega arith))

pub enough_found : (most offset left : ℕ) (bytes : List ℕ) → left ≤ most → chunks_from most offset left bytes ≡ rest_at offset left bytes
enough_found most offset left bytes h = enough most left offset left bytes h (omega arith)
