-- A page that is finished has a drawing, and one whose file's end is known is finished or refused.
use Rattle.std.proofs.Common.{◌≡◌, ◌≢◌, ℕ, zero, suc, Bool, true, false, cond, not, ◌&&◌, ◌||◌, ◌⊎◌, inl, inr, Option, Some, None, List, [], ◌∷◌, length, refl, sym, ap, ◌∙◌, subst, arith}
use Rattle.std.specs.Prelude.{◌==◌, nat_lt, nat_le}
use Rattle.djvu_base.specs.declared.faults.FaultKind.{FaultKind}
use Rattle.djvu_base.specs.declared.faults.FaultKind.TheVariants as fault
use Rattle.djvu_base.specs.Library.{Mark, Open, Whole, Broken as BrokenOff}
use Rattle.djvu_base.specs.Name.{is_listed}
use Rattle.zp_table.specs.declared.rows.Row.{Row}
use Rattle.layer_compose.specs.declared.layers.Layers.{Layers}
use Rattle.iff_chunks.specs.Start.{Start, Begins, Arriving, Differs, start_of}
use Rattle.iff_chunks.specs.Chunks.{Form, Chunk, Chunks, Tail, InHead, InHeader, InData, InPad, FormEnd, Broken, in_head, no_form, kind_at, size_at, length_fault, length_at, form_word, form_at, magic, after_magic, chunks_of, end_of}
use Rattle.iff_chunks.specs.Ends.{is_cut, broken_off, closed}
use Rattle.iff_chunks.specs.Layout.{Laid, AtEnd, TooShort, Beginning, NoId, TooLong, DataArriving, PadMissing, Padded, Unpadded, IsLaidForm}
use Rattle.iff_chunks.specs.Refused.{refused_ids}
use Rattle.page_decoder.specs.Reading.{Ending, Finished, Fault, NeedBytes, Reading, Came, kind_fault, unread_ids, is_info, is_mask, header_fault, size_in, size_fault, size_came, info_came, mask_came, nothing_came, blank_page, came, came_by, is_drawn, notice_by, after_chunk, after_came, read_chunks, ending_of, without_chunks, cut_by, at_end, read_tail, chunks_place, read_page, read_form, reading}

-- a reading that is finished has a drawing
abbrev pub HasDrawing : Reading → Type 0
HasDrawing read = read.end ≡ Finished → read.notices ≢ []

-- before the FORM's kind is there no page is finished
abbrev IsHeaded : Chunks → Type 0
IsHeaded chunks = (mark : Mark) (arrived : ℕ) → chunks.form ≡ None → ending_of (closed mark arrived chunks.whole chunks.tail) ≢ Finished

headed_head : IsHeaded in_head
headed_head Open arrived none e = cc
headed_head Whole arrived none e = cc
headed_head BrokenOff arrived none e = cc

headed_none : (kind : FaultKind) → IsHeaded (no_form kind)
headed_none kind Open arrived none e = cc
headed_none kind Whole arrived none e = cc
headed_none kind BrokenOff arrived none e = by (is_cut kind) e
  where
    by : (t : Bool) → ending_of (cond t (Broken fault.Read arrived) (Broken kind 0)) ≢ Finished
    by true e = cc
    by false e = cc

headed_cond : (t : Bool) (a b : Chunks) → IsHeaded a → IsHeaded b → IsHeaded (cond t a b)
headed_cond true a b x y = x
headed_cond false a b x y = y

headed_kind : (offset size : ℕ) (bytes : List ℕ) → IsHeaded (kind_at offset size bytes)
headed_kind offset size bytes = headed_cond (nat_lt (length bytes) 4) _ _ headed_head (λ mark arrived none e. cc)

headed_size : (f : Option FaultKind) (offset size : ℕ) (bytes : List ℕ) → IsHeaded (size_at f offset size bytes)
headed_size (Some kind) offset size bytes = headed_none kind
headed_size None offset size bytes = headed_kind offset size bytes

headed_length : (offset : ℕ) (bytes : List ℕ) → IsHeaded (length_at offset bytes)
headed_length offset bytes = headed_cond (nat_lt (length bytes) 4) _ _ headed_head (headed_size (length_fault offset _) offset _ _)

headed_form : (offset : ℕ) (start : Start) → IsHeaded (form_at offset start)
headed_form offset (Begins bytes) = headed_length offset bytes
headed_form offset Arriving = headed_head
headed_form offset Differs = headed_none fault.NotForm

headed_magic : (start : Start) (bytes : List ℕ) → IsHeaded (after_magic start bytes)
headed_magic (Begins rest) bytes = headed_form 4 (start_of form_word rest)
headed_magic Arriving bytes = headed_head
headed_magic Differs bytes = headed_form 0 (start_of form_word bytes)

headed : (bytes : List ℕ) → IsHeaded (chunks_of bytes)
headed bytes = headed_magic (start_of magic bytes) bytes

-- a page is not finished within a chunk
data_goes_on : (mark : Mark) (arrived : ℕ) (whole : List Chunk) (chunk : Chunk) → ending_of (closed mark arrived whole (InData chunk)) ≢ Finished
data_goes_on Open arrived whole chunk e = cc
data_goes_on Whole arrived [] chunk e = cc
data_goes_on Whole arrived (c ∷ whole) chunk e = cc
data_goes_on BrokenOff arrived [] chunk e = cc
data_goes_on BrokenOff arrived (c ∷ whole) chunk e = cc

-- nor is one without a chunk
none_finished : (place : ℕ) (end : Ending) → without_chunks place end ≢ Finished
none_finished place Finished e = cc
none_finished place (Fault kind offset) e = cc
none_finished place NeedBytes e = cc

-- the tail of a page without a whole chunk
tail_alone : (rows : List Row) (place : ℕ) (tail : Tail) (end : Ending) → ((chunk : Chunk) → tail ≡ InData chunk → end ≢ Finished)
    → HasDrawing (read_tail rows place tail end 0 None)
tail_alone rows place InHead end within e = absurd (none_finished place end e)
tail_alone rows place (InHeader offset bytes) end within e = absurd (none_finished place end e)
tail_alone rows place (InData chunk) end within e = by (came rows true false None chunk).fault e
  where
    by : (f : Option FaultKind) → HasDrawing (cut_by f chunk.offset end (came rows true false None chunk).decisions)
    by (Some kind) e = cc
    by None e = absurd (within chunk refl e)
tail_alone rows place (InPad offset is_last) end within e = absurd (none_finished place end e)
tail_alone rows place FormEnd end within e = absurd (none_finished place end e)
tail_alone rows place (Broken kind offset) end within e = absurd (none_finished place end e)

-- a first chunk without a fault is an INFO with at least five bytes
record IsFirstInfo (info short : Bool) : Type 0 where
  pub is_info : info ≡ true
  pub is_long : short ≡ false

first_info : (info unread mask short : Bool)
    → cond (true && not info) (Some fault.NoInfo)
    (cond (not true && info) (Some fault.SecondInfo)
    (cond unread (Some fault.Unsupported) (cond (mask && false) (Some fault.SecondMask) (cond (info && short) (Some fault.BadInfo) None)))) ≡ None
    → IsFirstInfo info short
first_info false unread mask short e = cc
first_info true true mask short e = cc
first_info true false true true e = cc
first_info true false true false e = record { is_info = refl; is_long = refl }
first_info true false false true e = cc
first_info true false false false e = record { is_info = refl; is_long = refl }

-- a whole chunk has all its data
abbrev pub FirstIsFull : List Chunk → Type 0
FirstIsFull [] = Unit {0}
FirstIsFull (chunk ∷ chunks) = length chunk.bytes ≡ chunk.size

pub full_laid : (offset left : ℕ) (whole : List Chunk) (tail : Tail) (bytes : List ℕ) → Laid offset left whole tail bytes → FirstIsFull whole
full_laid _ _ _ _ _ (AtEnd offset bytes) = tt
full_laid _ _ _ _ _ (TooShort offset left bytes some few) = tt
full_laid _ _ _ _ _ (Beginning offset left bytes room few) = tt
full_laid _ _ _ _ _ (NoId offset left size header id more room h e) = tt
full_laid _ _ _ _ _ (TooLong offset left size header id more room h e over) = tt
full_laid _ _ _ _ _ (DataArriving offset left chunk header begun short) = tt
full_laid _ _ _ _ _ (PadMissing offset left chunk header begun sized e) = sized
full_laid _ _ _ _ _ (Padded offset left chunk header pad chunks tail after begun sized e on) = sized
full_laid _ _ _ _ _ (Unpadded offset left chunk header chunks tail after begun sized e on) = sized

-- what a size brings, where nothing is wrong with it
sized : (chunk : Chunk) (rest : Option Layers → Reading) (f : Option FaultKind) → is_drawn chunk.id ≡ true
    → HasDrawing (after_chunk (size_came None f (size_in chunk.bytes)).fault chunk 1 (size_came None f (size_in chunk.bytes)) rest)
sized chunk rest (Some kind) drawn e none = cc
sized chunk rest None drawn e none =
    let first : notice_by true 1 (Some (blank_page (size_in chunk.bytes))) (rest (Some (blank_page (size_in chunk.bytes)))).notices ≡ [] =
    ap (λ t. notice_by t 1 (Some (blank_page (size_in chunk.bytes))) (rest (Some (blank_page (size_in chunk.bytes)))).notices) (sym drawn) ∙ none in cc

enough_of : (bytes : List ℕ) (size : ℕ) (short : Bool) → length bytes ≡ size → nat_lt size 5 ≡ short → short ≡ false → nat_le 4 (length bytes) ≡ true
enough_of bytes size short full s long = grind (arith)

first_drawn : (rows : List Row) (chunk : Chunk) (rest : Option Layers → Reading) → length chunk.bytes ≡ chunk.size
    → HasDrawing (after_came (came rows true true None chunk) chunk 1 rest)
first_drawn rows chunk rest full = by (header_fault true false chunk.id chunk.size) refl
  where
    long : (info short : Bool) → is_info chunk.id ≡ info → nat_lt chunk.size 5 ≡ short → IsFirstInfo info short
        → HasDrawing (after_came (came_by None rows true None chunk.id chunk.bytes) chunk 1 rest)
    long info short is s first =
        let enough : nat_le 4 (length chunk.bytes) ≡ true = enough_of chunk.bytes chunk.size short full s first.is_long in
        let named : is_info chunk.id ≡ true = is ∙ first.is_info in
        let drawn : is_drawn chunk.id ≡ true = ap (λ t. t || is_mask chunk.id) named in
        subst (λ (c : Came). HasDrawing (after_came c chunk 1 rest))
        (sym (ap (λ t. cond t (info_came None chunk.bytes) (cond (is_mask chunk.id) (mask_came rows true None chunk.bytes) (nothing_came None))) named
        ∙ ap (λ t. cond t (size_came None (size_fault (size_in chunk.bytes)) (size_in chunk.bytes)) (nothing_came None)) enough))
        (sized chunk rest (size_fault (size_in chunk.bytes)) drawn)

    by : (f : Option FaultKind) → header_fault true false chunk.id chunk.size ≡ f
        → HasDrawing (after_came (came_by f rows true None chunk.id chunk.bytes) chunk 1 rest)
    by (Some kind) e = λ finished. cc
    by None e =
        long (is_info chunk.id) (nat_lt chunk.size 5) refl refl
        (first_info (is_info chunk.id) (is_listed refused_ids chunk.id || is_listed unread_ids chunk.id) (is_mask chunk.id) (nat_lt chunk.size 5) e)

page_drawn : (rows : List Row) (place : ℕ) (whole : List Chunk) (tail : Tail) (end : Ending) → FirstIsFull whole
    → ((chunk : Chunk) → tail ≡ InData chunk → end ≢ Finished)
    → HasDrawing (read_chunks rows 0 None whole (read_tail rows place tail end))
page_drawn rows place [] tail end full within = tail_alone rows place tail end within
page_drawn rows place (chunk ∷ chunks) tail end full within =
    first_drawn rows chunk (λ next. read_chunks rows 1 next chunks (read_tail rows place tail end)) full

form_drawn : (rows : List Row) (place : ℕ) (f : Option Form) (whole : List Chunk) (tail : Tail) (end : Ending) → (f ≡ None → end ≢ Finished) → FirstIsFull whole
    → ((chunk : Chunk) → tail ≡ InData chunk → end ≢ Finished) → HasDrawing (read_form f rows place whole tail end)
form_drawn rows place None whole tail end head full within e = absurd (head refl e)
form_drawn rows place (Some form) whole tail end head full within e = by (kind_fault form.kind) e
  where
    by : (f : Option FaultKind) → HasDrawing (read_page f rows place whole tail end)
    by (Some kind) e = cc
    by None e = page_drawn rows place whole tail end full within e

-- the law of layouts: a file's bytes are its FORM's head, its chunks and its tail
abbrev pub BytesAreLaid : Type 0
BytesAreLaid = (bytes : List ℕ) (form : Form) → (chunks_of bytes).form ≡ Some form → IsLaidForm bytes form (chunks_of bytes).whole (chunks_of bytes).tail

full_of : BytesAreLaid → (bytes : List ℕ) (f : Option Form) → (chunks_of bytes).form ≡ f → FirstIsFull (chunks_of bytes).whole ⊎ (f ≡ None)
full_of law bytes None e = inr refl
full_of law bytes (Some form) e = inl (full_laid _ _ (chunks_of bytes).whole (chunks_of bytes).tail _ (law bytes form e).body)

pub drawing_there : BytesAreLaid → (rows : List Row) (mark : Mark) (bytes : List ℕ) → HasDrawing (reading rows mark bytes)
drawing_there law rows mark bytes = by (full_of law bytes (chunks_of bytes).form refl)
  where
    tail_in : (t : Tail) (chunk : Chunk) → t ≡ InData chunk → ending_of (closed mark (length bytes) (chunks_of bytes).whole t) ≢ Finished
    tail_in t chunk e =
        subst (λ (x : Tail). ending_of (closed mark (length bytes) (chunks_of bytes).whole x) ≢ Finished) (sym e)
        (data_goes_on mark (length bytes) (chunks_of bytes).whole chunk)

    by : FirstIsFull (chunks_of bytes).whole ⊎ ((chunks_of bytes).form ≡ None) → HasDrawing (reading rows mark bytes)
    by (inl full) e =
        form_drawn rows (chunks_place bytes) (chunks_of bytes).form (chunks_of bytes).whole (chunks_of bytes).tail
        (ending_of (closed mark (length bytes) (chunks_of bytes).whole (chunks_of bytes).tail)) (headed bytes mark (length bytes)) full
        (tail_in (chunks_of bytes).tail) e
    by (inr none) e =
        absurd (headed bytes mark (length bytes) none
        (subst (λ (f : Option Form). (read_form f rows (chunks_place bytes) (chunks_of bytes).whole (chunks_of bytes).tail
        (ending_of (closed mark (length bytes) (chunks_of bytes).whole (chunks_of bytes).tail))).end ≡ Finished) none e))

-- where the file's end is known no page needs bytes
end_known : (whole : List Chunk) (tail : Tail) → ending_of (end_of whole tail) ≢ NeedBytes
end_known [] InHead e = cc
end_known (c ∷ whole) InHead e = cc
end_known [] (InHeader offset []) e = cc
end_known [] (InHeader offset (byte ∷ bytes)) e = cc
end_known (c ∷ whole) (InHeader offset bytes) e = cc
end_known [] (InData chunk) e = cc
end_known (c ∷ whole) (InData chunk) e = cc
end_known [] (InPad offset true) e = cc
end_known [] (InPad offset false) e = cc
end_known (c ∷ whole) (InPad offset true) e = cc
end_known (c ∷ whole) (InPad offset false) e = cc
end_known [] FormEnd e = cc
end_known (c ∷ whole) FormEnd e = cc
end_known [] (Broken kind offset) e = cc
end_known (c ∷ whole) (Broken kind offset) e = cc

broken_known : (arrived : ℕ) (tail : Tail) → ending_of tail ≢ NeedBytes → ending_of (broken_off arrived tail) ≢ NeedBytes
broken_known arrived InHead known = known
broken_known arrived (InHeader offset bytes) known = known
broken_known arrived (InData chunk) known = known
broken_known arrived (InPad offset is_last) known = known
broken_known arrived FormEnd known = known
broken_known arrived (Broken kind offset) known = by (is_cut kind)
  where
    by : (t : Bool) → ending_of (cond t (Broken fault.Read arrived) (Broken kind offset)) ≢ NeedBytes
    by true e = cc
    by false e = cc

ending_known : (mark : Mark) (arrived : ℕ) (whole : List Chunk) (tail : Tail) → mark ≢ Open → ending_of (closed mark arrived whole tail) ≢ NeedBytes
ending_known Open arrived whole tail some = absurd (some refl)
ending_known Whole arrived whole tail some = end_known whole tail
ending_known BrokenOff arrived whole tail some = broken_known arrived (end_of whole tail) (end_known whole tail)

at_end_known : (done place : ℕ) (end : Ending) → end ≢ NeedBytes → at_end done place end ≢ NeedBytes
at_end_known zero place Finished known e = cc
at_end_known zero place (Fault kind offset) known e = cc
at_end_known zero place NeedBytes known e = known refl
at_end_known (suc done) place end known e = known e

tail_known : (rows : List Row) (place : ℕ) (tail : Tail) (end : Ending) (done : ℕ) (layers : Option Layers) → end ≢ NeedBytes
    → (read_tail rows place tail end done layers).end ≢ NeedBytes
tail_known rows place InHead end done layers known = at_end_known done place end known
tail_known rows place (InHeader offset bytes) end done layers known = at_end_known done place end known
tail_known rows place (InData chunk) end done layers known = by (came rows (done == 0) false layers chunk).fault
  where
    by : (f : Option FaultKind) → (cut_by f chunk.offset end (came rows (done == 0) false layers chunk).decisions).end ≢ NeedBytes
    by (Some kind) e = cc
    by None e = known e
tail_known rows place (InPad offset is_last) end done layers known = at_end_known done place end known
tail_known rows place FormEnd end done layers known = at_end_known done place end known
tail_known rows place (Broken kind offset) end done layers known = at_end_known done place end known

chunks_known : (rows : List Row) (done : ℕ) (layers : Option Layers) (chunks : List Chunk) (rest : ℕ → Option Layers → Reading)
    → ((d : ℕ) (l : Option Layers) → (rest d l).end ≢ NeedBytes) → (read_chunks rows done layers chunks rest).end ≢ NeedBytes
chunks_known rows done layers [] rest known = known done layers
chunks_known rows done layers (chunk ∷ chunks) rest known =
    by (came rows (done == 0) true layers chunk).fault (chunks_known rows (suc done) (came rows (done == 0) true layers chunk).layers chunks rest known)
  where
    by : (f : Option FaultKind) → (read_chunks rows (suc done) (came rows (done == 0) true layers chunk).layers chunks rest).end ≢ NeedBytes
        → (after_chunk f chunk (suc done) (came rows (done == 0) true layers chunk) (λ next. read_chunks rows (suc done) next chunks rest)).end ≢ NeedBytes
    by (Some kind) later e = cc
    by None later e = later e

form_known : (f : Option Form) (rows : List Row) (place : ℕ) (whole : List Chunk) (tail : Tail) (end : Ending) → end ≢ NeedBytes
    → (read_form f rows place whole tail end).end ≢ NeedBytes
form_known None rows place whole tail end known = known
form_known (Some form) rows place whole tail end known = by (kind_fault form.kind)
  where
    by : (f : Option FaultKind) → (read_page f rows place whole tail end).end ≢ NeedBytes
    by (Some kind) e = cc
    by None e = chunks_known rows 0 None whole (read_tail rows place tail end) (λ d l. tail_known rows place tail end d l known) e

pub end_there : (rows : List Row) (mark : Mark) (bytes : List ℕ) → mark ≢ Open → (reading rows mark bytes).end ≢ NeedBytes
end_there rows mark bytes some =
    form_known (chunks_of bytes).form rows (chunks_place bytes) (chunks_of bytes).whole (chunks_of bytes).tail _
    (ending_known mark (length bytes) (chunks_of bytes).whole (chunks_of bytes).tail some)
