-- What the limit on files and a FORM's length bound.
use Rattle.std.proofs.Common.{◌≡◌, ℕ, ◌+◌, ◌-◌, ◌*◌, ◌%◌, ◌<◌, ◌≤◌, Bool, true, false, cond, Option, Some, None, List, [], ◌∷◌, ◌++◌, ◌⊎◌, inl, inr, eqb, length, take, drop, ltb, refl, ap, ◌∙◌, arith}
use Rattle.std.specs.Cmp.{second_so}
use Rattle.std.proofs.lemmas.Bool.{ltb-true}
use Rattle.std.proofs.lemmas.List.{length-append, length-drop}
use Rattle.byteorder.specs.Endian.{big_number}
use Rattle.djvu_base.specs.declared.faults.FaultKind.{FaultKind}
use Rattle.djvu_base.specs.declared.faults.FaultKind.TheVariants.{Truncated}
use Rattle.djvu_base.specs.Library.{file_limit}
use Rattle.iff_chunks.specs.Start.{Start, Begins, Arriving, Differs, start_of}
use Rattle.iff_chunks.specs.Chunks.{Form, Chunk, Chunks, Tail, InHead, InHeader, InData, InPad, FormEnd, Broken, is_padded, in_head, in_form, rest_at, kind_at, length_fault, size_at, whole_length, length_at, magic, form_word, form_at, after_magic, chunks_of, chunks_in_all, end_of}
use Rattle.iff_chunks.specs.Events.{IsOpen}
use Rattle.iff_chunks.specs.Layout.{left_after, Laid, AtEnd, TooShort, Beginning, NoId, TooLong, DataArriving, PadMissing, Padded, Unpadded}
use Rattle.iff_chunks.proofs.Laying.{begins_so, form_laid}
use Rattle.iff_chunks.proofs.LaidChunks.{eight_bytes}
use Rattle.iff_chunks.proofs.Uncut.{uncut}

-- a complete chunk takes at least eight bytes
eight_each : (offset left : ℕ) (chunks : List Chunk) (tail : Tail) (bytes : List ℕ) → Laid offset left chunks tail bytes → 8 * length chunks ≤ left
eight_each _ _ _ _ _ (AtEnd offset bytes) = omega arith
eight_each _ _ _ _ _ (TooShort offset left bytes some few) = omega arith
eight_each _ _ _ _ _ (Beginning offset left bytes room few) = omega arith
eight_each _ _ _ _ _ (NoId offset left size header id more room h e) = omega arith
eight_each _ _ _ _ _ (TooLong offset left size header id more room h e over) = omega arith
eight_each _ _ _ _ _ (DataArriving offset left chunk header begun short) = omega arith
eight_each _ _ _ _ _ (PadMissing offset left chunk header begun sized e) = let room = begun.room in omega (arith, room)
eight_each _ _ _ _ _ (Padded offset left chunk header pad chunks tail after begun sized e on) =
    let room = begun.room in
    let rest = eight_each (offset + 9 + chunk.size) (left_after left chunk - 1) chunks tail after on in
    omega (arith, room, rest)
eight_each _ _ _ _ _ (Unpadded offset left chunk header chunks tail after begun sized e on) =
    let room = begun.room in
    let rest = eight_each (offset + 8 + chunk.size) (left_after left chunk) chunks tail after on in
    omega (arith, room, rest)

pub few_chunks : (bytes : List ℕ) (form : Form) → (chunks_of bytes).form ≡ Some form → 8 * length (chunks_of bytes).whole ≤ form.size
few_chunks bytes form e =
    let laid = form_laid bytes form e in
    let few = eight_each (form.offset + 12) (form.size - 4) (chunks_of bytes).whole (chunks_of bytes).tail laid.after laid.body in
    omega (arith, few)

-- data with a pad byte are not the last of the FORM
some_left : (size left : ℕ) → is_padded size left ≡ true → 0 < left
some_left size left e = ltb-true 0 left (second_so (eqb (size % 2) 1) (ltb 0 left) e)

-- where the bytes end within the FORM, it has more
part_only : (offset left : ℕ) (chunks : List Chunk) (tail : Tail) (bytes : List ℕ) → Laid offset left chunks tail bytes → IsOpen tail → length bytes < left
part_only _ _ _ _ _ (AtEnd offset bytes) open_ = absurd open_
part_only _ _ _ _ _ (TooShort offset left bytes some few) open_ = absurd open_
part_only _ _ _ _ _ (Beginning offset left bytes room few) open_ = omega arith
part_only _ _ _ _ _ (NoId offset left size header id more room h e) open_ = absurd open_
part_only _ _ _ _ _ (TooLong offset left size header id more room h e over) open_ = absurd open_
part_only _ _ _ _ _ (DataArriving offset left chunk header begun short) open_ =
    let room = begun.room in omega (arith, room, short, eight_bytes header chunk.id chunk.size begun.is_header, length-append header chunk.bytes)
part_only _ _ _ _ _ (PadMissing offset left chunk header begun sized e) open_ =
    let room = begun.room in
    let some = some_left chunk.size (left_after left chunk) e in
    omega (arith, room, some, sized, eight_bytes header chunk.id chunk.size begun.is_header, length-append header chunk.bytes)
part_only _ _ _ _ _ (Padded offset left chunk header pad chunks tail after begun sized e on) open_ =
    let room = begun.room in
    let rest = part_only (offset + 9 + chunk.size) (left_after left chunk - 1) chunks tail after on open_ in
    omega (
      arith,
      room,
      rest,
      sized,
      eight_bytes header chunk.id chunk.size begun.is_header,
      length-append header (chunk.bytes ++ (pad ∷ after)),
      length-append chunk.bytes (pad ∷ after),
    )
part_only _ _ _ _ _ (Unpadded offset left chunk header chunks tail after begun sized e on) open_ =
    let room = begun.room in
    let rest = part_only (offset + 8 + chunk.size) (left_after left chunk) chunks tail after on open_ in
    omega (
      arith,
      room,
      rest,
      sized,
      eight_bytes header chunk.id chunk.size begun.is_header,
      length-append header (chunk.bytes ++ after),
      length-append chunk.bytes after,
    )

in_form_only : (bytes : List ℕ) (form : Form) → (chunks_of bytes).form ≡ Some form → IsOpen (chunks_of bytes).tail → length bytes < file_limit
in_form_only bytes form e open_ =
    let l = form_laid bytes form e in
    let part = part_only (form.offset + 12) (form.size - 4) (chunks_of bytes).whole (chunks_of bytes).tail l.after l.body open_ in
    let whole : length bytes ≡ length l.prefix + (4 + (length l.number + (length form.kind + length l.after))) =
    ap length l.same
    ∙ omega (
      arith,
      length-append l.prefix (form_word ++ (l.number ++ (form.kind ++ l.after))),
      length-append form_word (l.number ++ (form.kind ++ l.after)),
      length-append l.number (form.kind ++ l.after),
      length-append form.kind l.after,
    ) in
    let within = l.within in
    let room = l.room in
    omega (arith, part, whole, within, room, l.place, l.four, l.is_size.four)

-- before the FORM's kind is there

-- a file that is still in its head has fewer bytes than this
abbrev FewInHead : ℕ → Chunks → List ℕ → Type 0
FewInHead most chunks bytes = chunks.form ≡ None → IsOpen chunks.tail → length bytes < most

few_cond : (t : Bool) (few most : ℕ) (chunks : Chunks) (bytes : List ℕ) → ltb (length bytes) few ≡ t → few ≤ most → FewInHead most chunks bytes
    → FewInHead most (cond t in_head chunks) bytes
few_cond true few most chunks bytes e less next = λ none open_. let short : length bytes < few = ltb-true _ _ e in omega (arith, short)
few_cond false few most chunks bytes e less next = next

few_kind : (offset size : ℕ) (bytes : List ℕ) → FewInHead 4 (kind_at offset size bytes) bytes
few_kind offset size bytes =
    few_cond (ltb (length bytes) 4) 4 4
    (in_form (record { offset = offset; kind = take 4 bytes; size = size }) (rest_at (offset + 12) (size - 4) (drop 4 bytes))) bytes refl (omega arith)
    (λ none open_. cc)

few_size : (f : Option FaultKind) (offset size : ℕ) (bytes : List ℕ) → FewInHead 4 (size_at f offset size bytes) bytes
few_size (Some kind) offset size bytes = λ none open_. absurd open_
few_size None offset size bytes = few_kind offset size bytes

few_length : (offset : ℕ) (bytes : List ℕ) → FewInHead 8 (length_at offset bytes) bytes
few_length offset bytes =
    let size = big_number 4 (take 4 bytes) in
    few_cond (ltb (length bytes) 4) 4 8 (whole_length offset size (drop 4 bytes)) bytes refl (omega arith)
    (λ none open_. let less = few_size (length_fault offset size) offset size (drop 4 bytes) none open_ in omega (arith, less, length-drop 4 bytes))

few_start : (wanted bytes : List ℕ) → start_of wanted bytes ≡ Arriving → length bytes < length wanted
few_start [] bytes e = cc
few_start (w ∷ wanted) [] e = omega arith
few_start (w ∷ wanted) (b ∷ bytes) e = by (eqb w b) e (few_start wanted bytes)
  where
    by : (t : Bool) → cond t (start_of wanted bytes) Differs ≡ Arriving → (start_of wanted bytes ≡ Arriving → length bytes < length wanted)
        → length (b ∷ bytes) < length (w ∷ wanted)
    by true e less = let fewer = less e in omega (arith, fewer)
    by false e less = cc

few_form : (offset : ℕ) (bytes : List ℕ) (s : Start) → start_of form_word bytes ≡ s → FewInHead 12 (form_at offset s) bytes
few_form offset bytes (Begins rest) e = λ none open_.
    let less = few_length offset rest none open_ in
    omega (arith, less, ap length (begins_so form_word bytes rest e), length-append form_word rest)
few_form offset bytes Arriving e = λ none open_. let less = few_start form_word bytes e in omega (arith, less)
few_form offset bytes Differs e = λ none open_. absurd open_

few_magic : (bytes : List ℕ) (s : Start) → start_of magic bytes ≡ s → FewInHead 16 (after_magic s bytes) bytes
few_magic bytes (Begins rest) e = λ none open_.
    let less = few_form 4 rest (start_of form_word rest) refl none open_ in
    omega (arith, less, ap length (begins_so magic bytes rest e), length-append magic rest)
few_magic bytes Arriving e = λ none open_. let less = few_start magic bytes e in omega (arith, less)
few_magic bytes Differs e = λ none open_. let less = few_form 0 bytes (start_of form_word bytes) refl none open_ in omega (arith, less)

large_limit : 16 ≤ file_limit
unfolding file_limit
large_limit = omega arith

open_is_early : (bytes : List ℕ) → IsOpen (chunks_of bytes).tail → length bytes < file_limit
open_is_early bytes open_ = by (chunks_of bytes).form refl
  where
    by : (f : Option Form) → (chunks_of bytes).form ≡ f → length bytes < file_limit
    by (Some form) e = in_form_only bytes form e open_
    by None e = let less = few_magic bytes (start_of magic bytes) refl e open_ in omega (arith, less, large_limit)

-- only bytes that end within the FORM are cut
cut_open : (whole : List Chunk) (tail : Tail) (offset : ℕ) → end_of whole tail ≡ Broken Truncated offset
    → IsOpen tail ⊎ ((place : ℕ) × (tail ≡ Broken Truncated place))
cut_open whole InHead offset e = inl tt
cut_open whole (InHeader place bytes) offset e = inl tt
cut_open whole (InData chunk) offset e = inl tt
cut_open whole (InPad place is_last) offset e = inl tt
cut_open [] FormEnd offset e = cc
cut_open (c ∷ whole) FormEnd offset e = cc
cut_open [] (Broken kind place) offset e = inr (offset, e)
cut_open (c ∷ whole) (Broken kind place) offset e = inr (offset, e)

pub cut_is_early : (bytes : List ℕ) (offset : ℕ) → (chunks_in_all bytes).tail ≡ Broken Truncated offset → length bytes < file_limit
cut_is_early bytes offset e = by (cut_open (chunks_of bytes).whole (chunks_of bytes).tail offset e)
  where
    by : IsOpen (chunks_of bytes).tail ⊎ ((place : ℕ) × ((chunks_of bytes).tail ≡ Broken Truncated place)) → length bytes < file_limit
    by (inl open_) = open_is_early bytes open_
    by (inr cut) = absurd (uncut bytes cut.0 cut.1)
