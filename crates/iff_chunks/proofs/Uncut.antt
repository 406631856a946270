-- Bytes that more may follow are never cut.
use Rattle.std.proofs.Common.{◌≢◌, ℕ, zero, suc, ◌+◌, ◌-◌, Bool, true, false, cond, ltb, eqb, Some, None, List, [], ◌∷◌, length, take, drop}
use Rattle.std.specs.List.{list_all}
use Rattle.byteorder.specs.Endian.{big_number}
use Rattle.djvu_base.specs.declared.faults.FaultKind.TheVariants as fault
use Rattle.djvu_base.specs.Library.{file_limit}
use Rattle.iff_chunks.specs.Start.{Start, Begins, Arriving, Differs, start_of}
use Rattle.iff_chunks.specs.Chunks.{Tail, InHead, InHeader, InData, FormEnd, Broken, Chunks, Rest, Behind, Waits, On, Found, Stops, Has, pad_at, is_padded, behind_data, is_id_byte, header_at, whole_header, found_at, behind_so, found_so, chunks_from, rest_at, size_at, whole_length, magic, form_word, form_at, after_magic, chunks_of}

abbrev IsUncut : Tail → Type 0
IsUncut tail = (offset : ℕ) → tail ≢ Broken fault.Truncated offset

abbrev UncutBehind : Behind → Type 0
UncutBehind (Waits tail) = IsUncut tail
UncutBehind (On offset left bytes) = Unit {0}

abbrev UncutFound : Found → Type 0
UncutFound (Stops tail) = IsUncut tail
UncutFound (Has chunk behind) = UncutBehind behind

in_pad : (offset next left : ℕ) (bytes : List ℕ) → UncutBehind (pad_at offset next left bytes)
in_pad offset next left [] = λ place e. cc
in_pad offset next left (pad ∷ bytes) = tt

behind : (offset size left : ℕ) (bytes : List ℕ) (t : Bool)
    → UncutBehind (cond t (pad_at offset (offset + 9 + size) left bytes) (On (offset + 8 + size) left bytes))
behind offset size left bytes true = in_pad offset (offset + 9 + size) left bytes
behind offset size left bytes false = tt

in_data : (id : List ℕ) (offset size left : ℕ) (bytes : List ℕ) (t : Bool)
    → UncutFound (cond t (Stops (InData (record { id = id; offset = offset; size = size; bytes = bytes })))
    (Has (record { id = id; offset = offset; size = size; bytes = take size bytes }) (behind_data offset size left (drop size bytes))))
in_data id offset size left bytes true = λ place e. cc
in_data id offset size left bytes false = behind offset size left (drop size bytes) (is_padded size left)

at_header : (id : List ℕ) (offset size left : ℕ) (bytes : List ℕ) (named larger : Bool)
    → UncutFound (header_at (cond named (cond larger (Some fault.Overrun) None) (Some fault.BadId)) id offset size left bytes)
at_header id offset size left bytes false larger = λ place e. cc
at_header id offset size left bytes true true = λ place e. cc
at_header id offset size left bytes true false = in_data id offset size (left - size) bytes (ltb (length bytes) size)

found : (offset left : ℕ) (bytes : List ℕ) (none few short : Bool)
    → UncutFound (cond none (Stops FormEnd)
    (cond few (Stops (Broken fault.ShortHeader offset))
    (cond short (Stops (InHeader offset bytes)) (whole_header (take 4 bytes) offset (big_number 4 (take 4 (drop 4 bytes))) (left - 8) (drop 8 bytes)))))
found offset left bytes true few short = λ place e. cc
found offset left bytes false true short = λ place e. cc
found offset left bytes false false true = λ place e. cc
found offset left bytes false false false =
    let size = big_number 4 (take 4 (drop 4 bytes)) in
    at_header (take 4 bytes) offset size (left - 8) (drop 8 bytes) (list_all is_id_byte (take 4 bytes)) (ltb (left - 8) size)

next_behind : (next : ℕ → ℕ → List ℕ → Rest) → ((offset left : ℕ) (bytes : List ℕ) → IsUncut (next offset left bytes).tail) → (b : Behind) → UncutBehind b
    → IsUncut (behind_so next b).tail
next_behind next h (Waits tail) u = u
next_behind next h (On offset left bytes) u = h offset left bytes

next_found : (next : ℕ → ℕ → List ℕ → Rest) → ((offset left : ℕ) (bytes : List ℕ) → IsUncut (next offset left bytes).tail) → (f : Found) → UncutFound f
    → IsUncut (found_so next f).tail
next_found next h (Stops tail) u = u
next_found next h (Has chunk b) u = next_behind next h b u

chunks : (most offset left : ℕ) (bytes : List ℕ) → IsUncut (chunks_from most offset left bytes).tail
chunks zero offset left bytes = λ place e. cc
chunks (suc most) offset left bytes =
    next_found (chunks_from most) (chunks most) (found_at offset left bytes) (found offset left bytes (eqb left 0) (ltb left 8) (ltb (length bytes) 8))

kind : (offset size : ℕ) (bytes : List ℕ) (t : Bool)
    → IsUncut (cond {A = Chunks} t (record { form = None; whole = []; tail = InHead })
    (record {
      form = Some (record { offset = offset; kind = take 4 bytes; size = size });
      whole = (rest_at (offset + 12) (size - 4) (drop 4 bytes)).whole;
      tail = (rest_at (offset + 12) (size - 4) (drop 4 bytes)).tail;
    })).tail
kind offset size bytes true = λ place e. cc
kind offset size bytes false = chunks (size - 4) (offset + 12) (size - 4) (drop 4 bytes)

size_so : (offset size : ℕ) (bytes : List ℕ) (small large : Bool)
    → IsUncut (size_at (cond small (Some fault.NotForm) (cond large (Some fault.TooLarge) None)) offset size bytes).tail
size_so offset size bytes true large = λ place e. cc
size_so offset size bytes false true = λ place e. cc
size_so offset size bytes false false = kind offset size bytes (ltb (length bytes) 4)

length_so : (offset : ℕ) (bytes : List ℕ) (t : Bool)
    → IsUncut (cond {A = Chunks} t (record { form = None; whole = []; tail = InHead }) (whole_length offset (big_number 4 (take 4 bytes)) (drop 4 bytes))).tail
length_so offset bytes true = λ place e. cc
length_so offset bytes false = let size = big_number 4 (take 4 bytes) in size_so offset size (drop 4 bytes) (ltb size 4) (ltb file_limit (offset + 8 + size))

form : (offset : ℕ) (s : Start) → IsUncut (form_at offset s).tail
form offset (Begins bytes) = length_so offset bytes (ltb (length bytes) 4)
form offset Arriving = λ place e. cc
form offset Differs = λ place e. cc

by_magic : (s : Start) (bytes : List ℕ) → IsUncut (after_magic s bytes).tail
by_magic (Begins rest) bytes = form 4 (start_of form_word rest)
by_magic Arriving bytes = λ place e. cc
by_magic Differs bytes = form 0 (start_of form_word bytes)

pub uncut : (bytes : List ℕ) (offset : ℕ) → (chunks_of bytes).tail ≢ Broken fault.Truncated offset
uncut bytes = by_magic (start_of magic bytes) bytes
