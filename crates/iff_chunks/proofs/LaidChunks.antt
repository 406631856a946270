-- Bytes that are laid out as the grammar says have those chunks, and no others.
use Rattle.std.proofs.Common.{◌≡◌, ℕ, ◌+◌, ◌-◌, ◌<◌, ◌≤◌, true, false, cond, Option, Some, None, List, [], ◌∷◌, ◌++◌, inl, inr, length, take, drop, ltb, refl, sym, ap, ◌∙◌, arith}
use Rattle.std.specs.List.{list_all}
use Rattle.std.proofs.lemmas.Bool.{lt-ltb, le-ltb}
use Rattle.std.proofs.lemmas.List.{append-nil, length-append}
use Rattle.byteorder.specs.Endian.{big_number}
use Rattle.djvu_base.specs.declared.faults.FaultKind.{FaultKind}
use Rattle.djvu_base.specs.declared.faults.FaultKind.TheVariants.{NotForm, TooLarge, BadId, Overrun}
use Rattle.djvu_base.specs.Library.{file_limit}
use Rattle.iff_chunks.specs.Chunks.{Form, Chunk, Rest, Tail, Has, On, InData, found_so, header_at, header_fault, data_at, behind_data, pad_at, is_padded, is_id_byte, rest_at, in_form, length_at, whole_length, size_at, length_fault, form_word, chunks_of}
use Rattle.iff_chunks.specs.Layout.{IsHeader, IsBegun, left_after, Laid, AtEnd, TooShort, Beginning, NoId, TooLong, DataArriving, PadMissing, Padded, Unpadded, IsPrefix, IsLaidForm}
use Rattle.iff_chunks.proofs.Moving.{cond_true, cond_false, take_front, drop_front}
use Rattle.iff_chunks.proofs.Heading.{length_there, kind_there}
use Rattle.iff_chunks.proofs.Chunking.{found_short, found_part, found_header, data_some, data_whole_at}

-- the chunks and the tail as what comes from a place on
abbrev rest_of : List Chunk → Tail → Rest
rest_of chunks tail = record { whole = chunks; tail = tail }

-- a header's eight bytes
pub eight_bytes : (header id : List ℕ) (size : ℕ) → IsHeader header id size → length header ≡ 8
eight_bytes header id size h = ap length h.same ∙ length-append id h.number ∙ omega (arith, h.four, h.is_size.four)

first_four : (header id : List ℕ) (size : ℕ) → IsHeader header id size → take 4 header ≡ id
first_four header id size h = ap (take 4) h.same ∙ take_front 4 id h.number h.four

last_four : (header id : List ℕ) (size : ℕ) → IsHeader header id size → big_number 4 (drop 4 header) ≡ size
last_four header id size h = ap (λ l. big_number 4 (drop 4 l)) h.same ∙ ap (big_number 4) (drop_front 4 id h.number h.four) ∙ h.is_size.value

-- where a header is there
at_header : (offset left size : ℕ) (header id more : List ℕ) → 8 ≤ left → IsHeader header id size
    → rest_at offset left (header ++ more) ≡ found_so rest_at (header_at (header_fault id size (left - 8)) id offset size (left - 8) more)
at_header offset left size header id more room h =
    found_header offset left header more room (eight_bytes header id size h)
    ∙ ap (λ i. found_so rest_at (header_at (header_fault i (big_number 4 (drop 4 header)) (left - 8)) i offset (big_number 4 (drop 4 header)) (left - 8) more))
    (first_four header id size h)
    ∙ ap (λ n. found_so rest_at (header_at (header_fault id n (left - 8)) id offset n (left - 8) more)) (last_four header id size h)

with_fault : (offset left size : ℕ) (header id more : List ℕ) (fault : Option FaultKind) → 8 ≤ left → IsHeader header id size
    → header_fault id size (left - 8) ≡ fault
    → rest_at offset left (header ++ more) ≡ found_so rest_at (header_at fault id offset size (left - 8) more)
with_fault offset left size header id more fault room h f =
    at_header offset left size header id more room h ∙ ap (λ o. found_so rest_at (header_at o id offset size (left - 8) more)) f

bad_id : (id : List ℕ) (size left : ℕ) → list_all is_id_byte id ≡ false → header_fault id size left ≡ Some BadId
bad_id id size left e = cond_false (list_all is_id_byte id) (cond (ltb left size) (Some Overrun) None) (Some BadId) e

overrun : (id : List ℕ) (size left : ℕ) → list_all is_id_byte id ≡ true → left < size → header_fault id size left ≡ Some Overrun
overrun id size left e over =
    cond_true (list_all is_id_byte id) (cond (ltb left size) (Some Overrun) None) (Some BadId) e
    ∙ cond_true (ltb left size) (Some Overrun) None (lt-ltb left size over)

no_fault : (id : List ℕ) (size left : ℕ) → list_all is_id_byte id ≡ true → size ≤ left → header_fault id size left ≡ None
no_fault id size left e fits =
    cond_true (list_all is_id_byte id) (cond (ltb left size) (Some Overrun) None) (Some BadId) e
    ∙ cond_false (ltb left size) (Some Overrun) None (le-ltb left size fits)

-- where a chunk begins
at_chunk : (offset left : ℕ) (chunk : Chunk) (header more : List ℕ) → IsBegun offset left chunk header
    → rest_at offset left (header ++ more) ≡ found_so rest_at (data_at chunk.id offset chunk.size (left_after left chunk) more)
at_chunk offset left chunk header more begun =
    let room = begun.room in
    with_fault offset left chunk.size header chunk.id more None (omega (arith, room)) begun.is_header
    (no_fault chunk.id chunk.size (left - 8) begun.printable (omega (arith, room)))

-- the chunk is what its header and its data say
this_chunk : (offset left : ℕ) (chunk : Chunk) (header : List ℕ) → IsBegun offset left chunk header
    → ◌≡◌ {A = Chunk} (record { id = chunk.id; offset = offset; size = chunk.size; bytes = chunk.bytes }) chunk
this_chunk offset left chunk header begun = ap (λ o. record { id = chunk.id; offset = o; size = chunk.size; bytes = chunk.bytes }) (sym begun.place)

-- where all data of a chunk are there
after_chunk : (offset left : ℕ) (chunk : Chunk) (header more : List ℕ) → IsBegun offset left chunk header → length chunk.bytes ≡ chunk.size
    → rest_at offset left (header ++ (chunk.bytes ++ more)) ≡ found_so rest_at (Has chunk (behind_data offset chunk.size (left_after left chunk) more))
after_chunk offset left chunk header more begun sized =
    at_chunk offset left chunk header (chunk.bytes ++ more) begun
    ∙ ap (found_so rest_at) (data_whole_at chunk.id offset chunk.size (left_after left chunk) chunk.bytes more sized)
    ∙ ap (λ c. found_so rest_at (Has c (behind_data offset chunk.size (left_after left chunk) more))) (this_chunk offset left chunk header begun)

-- what comes after a chunk's data, where it is known whether they have a pad byte
padded : (offset size left : ℕ) (more : List ℕ) → is_padded size left ≡ true → behind_data offset size left more ≡ pad_at offset (offset + 9 + size) left more
padded offset size left more e = cond_true (is_padded size left) (pad_at offset (offset + 9 + size) left more) (On (offset + 8 + size) left more) e

unpadded : (offset size left : ℕ) (more : List ℕ) → is_padded size left ≡ false → behind_data offset size left more ≡ On (offset + 8 + size) left more
unpadded offset size left more e = cond_false (is_padded size left) (pad_at offset (offset + 9 + size) left more) (On (offset + 8 + size) left more) e

pub laid_rest : (offset left : ℕ) (chunks : List Chunk) (tail : Tail) (bytes : List ℕ) → Laid offset left chunks tail bytes
    → rest_at offset left bytes ≡ rest_of chunks tail
laid_rest _ _ _ _ _ (AtEnd offset bytes) = refl
laid_rest _ _ _ _ _ (TooShort offset left bytes some few) = found_short offset left bytes some few
laid_rest _ _ _ _ _ (Beginning offset left bytes room few) = found_part offset left bytes room few
laid_rest _ _ _ _ _ (NoId offset left size header id more room h e) =
    with_fault offset left size header id more (Some BadId) room h (bad_id id size (left - 8) e)
laid_rest _ _ _ _ _ (TooLong offset left size header id more room h e over) =
    with_fault offset left size header id more (Some Overrun) room h (overrun id size (left - 8) e over)
laid_rest _ _ _ _ _ (DataArriving offset left chunk header begun short) =
    at_chunk offset left chunk header chunk.bytes begun
    ∙ ap (found_so rest_at) (data_some chunk.id offset chunk.size (left_after left chunk) chunk.bytes short)
    ∙ ap (λ c. rest_of [] (InData c)) (this_chunk offset left chunk header begun)
laid_rest _ _ _ _ _ (PadMissing offset left chunk header begun sized e) =
    ap (λ b. rest_at offset left (header ++ b)) (sym (append-nil chunk.bytes))
    ∙ after_chunk offset left chunk header [] begun sized
    ∙ ap (λ b. found_so rest_at (Has chunk b)) (padded offset chunk.size (left_after left chunk) [] e)
laid_rest _ _ _ _ _ (Padded offset left chunk header pad chunks tail after begun sized e on) =
    after_chunk offset left chunk header (pad ∷ after) begun sized
    ∙ ap (λ b. found_so rest_at (Has chunk b)) (padded offset chunk.size (left_after left chunk) (pad ∷ after) e)
    ∙ ap (λ (r : Rest). rest_of (chunk ∷ r.whole) r.tail) (laid_rest (offset + 9 + chunk.size) (left_after left chunk - 1) chunks tail after on)
laid_rest _ _ _ _ _ (Unpadded offset left chunk header chunks tail after begun sized e on) =
    after_chunk offset left chunk header after begun sized
    ∙ ap (λ b. found_so rest_at (Has chunk b)) (unpadded offset chunk.size (left_after left chunk) after e)
    ∙ ap (λ (r : Rest). rest_of (chunk ∷ r.whole) r.tail) (laid_rest (offset + 8 + chunk.size) (left_after left chunk) chunks tail after on)

-- a FORM's length without a fault
fitting : (offset size : ℕ) → 4 ≤ size → offset + 8 + size ≤ file_limit → length_fault offset size ≡ None
fitting offset size room within =
    cond_false (ltb size 4) (Some NotForm) (cond (ltb file_limit (offset + 8 + size)) (Some TooLarge) None) (le-ltb size 4 room)
    ∙ cond_false (ltb file_limit (offset + 8 + size)) (Some TooLarge) None (le-ltb file_limit (offset + 8 + size) within)

-- the bytes after the FORM's word
laid_head : (bytes : List ℕ) (form : Form) (chunks : List Chunk) (tail : Tail) (l : IsLaidForm bytes form chunks tail)
    → length_at form.offset (l.number ++ (form.kind ++ l.after)) ≡ record { form = Some form; whole = chunks; tail = tail }
laid_head bytes form chunks tail l =
    length_there form.offset l.number (form.kind ++ l.after) l.is_size.four
    ∙ ap (λ n. whole_length form.offset n (form.kind ++ l.after)) l.is_size.value
    ∙ ap (λ f. size_at f form.offset form.size (form.kind ++ l.after)) (fitting form.offset form.size l.room l.within)
    ∙ kind_there form.offset form.size form.kind l.after l.four
    ∙ ap (in_form form) (laid_rest (form.offset + 12) (form.size - 4) chunks tail l.after l.body)

-- what may stand before the FORM
led : (prefix rest : List ℕ) → IsPrefix prefix → chunks_of (prefix ++ (form_word ++ rest)) ≡ length_at (length prefix) rest
led prefix rest (inl e) = ap (λ p. chunks_of (p ++ (form_word ++ rest))) e ∙ ap (λ p. length_at (length p) rest) (sym e)
led prefix rest (inr e) = ap (λ p. chunks_of (p ++ (form_word ++ rest))) e ∙ ap (λ p. length_at (length p) rest) (sym e)

pub laid_form : (bytes : List ℕ) (form : Form) (chunks : List Chunk) (tail : Tail) → IsLaidForm bytes form chunks tail
    → chunks_of bytes ≡ record { form = Some form; whole = chunks; tail = tail }
laid_form bytes form chunks tail l =
    ap chunks_of l.same
    ∙ led l.prefix (l.number ++ (form.kind ++ l.after)) l.may_lead
    ∙ ap (λ o. length_at o (l.number ++ (form.kind ++ l.after))) (sym l.place)
    ∙ laid_head bytes form chunks tail l
