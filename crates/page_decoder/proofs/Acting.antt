-- With more bytes there are more acts, or more data of the last one.
use Rattle.std.proofs.Common.{◌≡◌, ◌≢◌, ℕ, Bool, true, false, cond, ◌⊎◌, inl, inr, Option, Some, None, List, [], ◌∷◌, ◌++◌, length, refl, sym, ap, ◌∙◌, subst, append_assoc}
use Rattle.djvu_base.specs.declared.faults.FaultKind.{FaultKind}
use Rattle.djvu_base.specs.declared.faults.FaultKind.TheVariants.{Truncated, Read}
use Rattle.djvu_base.specs.Library.{Mark, Open, Whole}
use Rattle.djvu_base.specs.Library as library
use Rattle.iff_chunks.specs.Chunks.{Form, Chunk, Chunks, Tail, InHead, InHeader, InData, InPad, FormEnd, Broken, chunks_of}
use Rattle.iff_chunks.specs.Ends.{is_cut, closed}
use Rattle.iff_chunks.specs.Events.{events_of}
use Rattle.iff_chunks.specs.Growth.{IsGrown, IsStillThere}
use Rattle.iff_chunks.specs.Order.{AtForm, InOrder}
use Rattle.iw44_image.specs.Layer.{Data, data_of}
use Rattle.page_decoder.specs.Headers.{head_of}
use Rattle.page_decoder.specs.Acts.{Act, Kind, Reads, Close, Waits, form_acts, complete_act, open_act, complete_acts, tail_acts, acts_of, origin_of, close_of, close_in}
use Rattle.page_decoder.proofs.Further.{Longer, at_last, at_wait, in_data, behind}

-- what the laws of the container say of a file and its bytes so far
pub record Stay (bytes more : List ℕ) : Type 0 where
  pub ended : (chunks_of bytes).tail ≡ FormEnd → chunks_of (bytes ++ more) ≡ chunks_of bytes
  pub broken : (kind : FaultKind) (offset : ℕ) → (chunks_of bytes).tail ≡ Broken kind offset → chunks_of (bytes ++ more) ≡ chunks_of bytes
  pub form : (form : Form) → (chunks_of bytes).form ≡ Some form → (chunks_of (bytes ++ more)).form ≡ Some form
  pub whole : (later : List Chunk) × ((chunks_of (bytes ++ more)).whole ≡ (chunks_of bytes).whole ++ later)
  pub still : (chunk : Chunk) → (chunks_of bytes).tail ≡ InData chunk → IsStillThere (chunks_of bytes).whole chunk (chunks_of (bytes ++ more))
  pub order : InOrder AtForm (events_of (chunks_of bytes))
  pub uncut : (offset : ℕ) → (chunks_of bytes).tail ≢ Broken Truncated offset

pub same_longer : (more : Bool) (close : Close) (acts : List Act) → Longer more close close acts acts
same_longer more close [] = at_last refl
same_longer more close (act ∷ acts) = behind act acts acts (same_longer more close acts)

-- before the FORM's kind is there no act
pub none_before : (whole : List Chunk) (tail : Tail) → InOrder AtForm (events_of (record { form = None; whole = whole; tail = tail }))
    → complete_acts whole ++ tail_acts tail ≡ []
none_before [] InHead order = refl
none_before [] (InHeader offset bytes) order = refl
none_before [] (InData chunk) order = absurd order
none_before [] (InPad offset is_last) order = refl
none_before [] FormEnd order = refl
none_before [] (Broken kind offset) order = refl
none_before (chunk ∷ whole) tail order = absurd order

complete-append : (whole later : List Chunk) → complete_acts (whole ++ later) ≡ complete_acts whole ++ complete_acts later
complete-append [] later = refl
complete-append (chunk ∷ whole) later = ap (λ acts. complete_act chunk ∷ acts) (complete-append whole later)

-- the parts of a chunk with the same header
grown_head : (chunk grown : Chunk) → IsGrown chunk grown → head_of grown ≡ head_of chunk
grown_head chunk grown g =
    ap (λ id. record { id = id; offset = grown.offset; size = grown.size }) g.id
    ∙ ap (λ offset. record { id = chunk.id; offset = offset; size = grown.size }) g.offset
    ∙ ap (λ size. record { id = chunk.id; offset = chunk.offset; size = size }) g.size

module _ (long : Close) where
  prefix_longer : (acts few many : List Act) → Longer true Waits long few many → Longer true Waits long (acts ++ few) (acts ++ many)
  prefix_longer [] few many l = l
  prefix_longer (act ∷ acts) few many l = behind act (acts ++ few) (acts ++ many) (prefix_longer acts few many l)

  -- the data of a chunk go on, as far as these
  grown_longer : (chunk grown : Chunk) → IsGrown chunk grown → (ended : Bool) (acts : List Act)
      → Longer true Waits long (open_act chunk ∷ []) (Reads (head_of grown) (data_of grown.bytes ended) ∷ acts)
  grown_longer chunk grown g ended acts =
      let few = open_act chunk ∷ [] in
      let data_in : List ℕ → Data = λ bytes. data_of bytes ended in
      subst (λ h. Longer true Waits long few (Reads h (data_in grown.bytes) ∷ acts)) (sym (grown_head chunk grown g))
      (subst (λ b. Longer true Waits long few (Reads (head_of chunk) (data_in b) ∷ acts)) (sym g.bytes)
      (in_data refl refl (head_of chunk) chunk.bytes g.later ended acts))

  -- behind the FORM's kind
  still_longer : (whole : List Chunk) (chunk : Chunk) (chunks : Chunks) → IsStillThere whole chunk chunks
      → Longer true Waits long (complete_acts whole ++ open_act chunk ∷ []) (complete_acts chunks.whole ++ tail_acts chunks.tail)
  still_longer whole chunk chunks still = by still.there
    where
      by : ((later : List Chunk) × (chunks.whole ≡ whole ++ (still.grown ∷ later))) ⊎ ((chunks.whole ≡ whole) × (chunks.tail ≡ InData still.grown))
          → Longer true Waits long (complete_acts whole ++ open_act chunk ∷ []) (complete_acts chunks.whole ++ tail_acts chunks.tail)
      by (inl l) =
          let rest = complete_act still.grown ∷ (complete_acts l.0 ++ tail_acts chunks.tail) in
          let parts : complete_acts chunks.whole ++ tail_acts chunks.tail ≡ complete_acts whole ++ rest =
          ap (λ w. complete_acts w ++ tail_acts chunks.tail) l.1 ∙ ap (λ acts. acts ++ tail_acts chunks.tail) (complete-append whole (still.grown ∷ l.0))
          ∙ append_assoc (complete_acts whole) (complete_acts (still.grown ∷ l.0)) (tail_acts chunks.tail) in
          subst (λ acts. Longer true Waits long (complete_acts whole ++ open_act chunk ∷ []) acts) (sym parts)
          (prefix_longer (complete_acts whole) (open_act chunk ∷ []) rest
          (grown_longer chunk still.grown still.is_grown true (complete_acts l.0 ++ tail_acts chunks.tail)))
      by (inr same) =
          let parts : complete_acts chunks.whole ++ tail_acts chunks.tail ≡ complete_acts whole ++ open_act still.grown ∷ [] =
          ap (λ w. complete_acts w ++ tail_acts chunks.tail) same.0 ∙ ap (λ t. complete_acts whole ++ tail_acts t) same.1 in
          subst (λ acts. Longer true Waits long (complete_acts whole ++ open_act chunk ∷ []) acts) (sym parts)
          (prefix_longer (complete_acts whole) (open_act chunk ∷ []) (open_act still.grown ∷ []) (grown_longer chunk still.grown still.is_grown false []))

  waits_longer : (whole : List Chunk) (chunks : Chunks) → (later : List Chunk) × (chunks.whole ≡ whole ++ later)
      → Longer true Waits long (complete_acts whole ++ []) (complete_acts chunks.whole ++ tail_acts chunks.tail)
  waits_longer whole chunks l =
      let rest = complete_acts l.0 ++ tail_acts chunks.tail in
      let parts : complete_acts chunks.whole ++ tail_acts chunks.tail ≡ complete_acts whole ++ rest =
      ap (λ w. complete_acts w ++ tail_acts chunks.tail) l.1 ∙ ap (λ acts. acts ++ tail_acts chunks.tail) (complete-append whole l.0)
      ∙ append_assoc (complete_acts whole) (complete_acts l.0) (tail_acts chunks.tail) in
      subst (λ acts. Longer true Waits long (complete_acts whole ++ []) acts) (sym parts)
      (prefix_longer (complete_acts whole) [] rest (at_wait refl refl rest))

  -- the acts of a file whose bytes end within the FORM
  open_longer : (form other : Option Form) (whole : List Chunk) (tail : Tail) (chunks : Chunks) → chunks.form ≡ other
      → ((f : Form) → form ≡ Some f → other ≡ Some f)
      → InOrder AtForm (events_of (record { form = form; whole = whole; tail = tail }))
      → Longer true Waits long (complete_acts whole ++ tail_acts tail) (complete_acts chunks.whole ++ tail_acts chunks.tail)
      → Longer true Waits long (form_acts form ++ (complete_acts whole ++ tail_acts tail)) (acts_of chunks)
  open_longer None other whole tail chunks e on order l =
      subst (λ acts. Longer true Waits long acts (acts_of chunks)) (sym (none_before whole tail order)) (at_wait refl refl (acts_of chunks))
  open_longer (Some f) other whole tail chunks e on order l =
      subst (λ o. Longer true Waits long (Kind f.kind ∷ (complete_acts whole ++ tail_acts tail))
      (form_acts o ++ (complete_acts chunks.whole ++ tail_acts chunks.tail)))
      (sym (e ∙ on f refl)) (behind (Kind f.kind) (complete_acts whole ++ tail_acts tail) (complete_acts chunks.whole ++ tail_acts chunks.tail) l)

abbrev pub close_by : Mark → ℕ → Chunks → Close
close_by mark arrived chunks = close_of (origin_of chunks.form) (closed mark arrived chunks.whole chunks.tail)

pub closed_end : (mark : Mark) (arrived : ℕ) (whole : List Chunk) → closed mark arrived whole FormEnd ≡ FormEnd
closed_end Open arrived whole = refl
closed_end Whole arrived whole = refl
closed_end library.Broken arrived whole = refl

pub closed_broken : (mark : Mark) (arrived : ℕ) (whole : List Chunk) (kind : FaultKind) (offset : ℕ) → is_cut kind ≡ false
    → closed mark arrived whole (Broken kind offset) ≡ Broken kind offset
closed_broken Open arrived whole kind offset n = refl
closed_broken Whole arrived whole kind offset n = refl
closed_broken library.Broken arrived whole kind offset n = ap (λ b. cond b (Broken Read arrived) (Broken kind offset)) n

cut_is : (kind : FaultKind) → is_cut kind ≡ true → kind ≡ Truncated
cut_is Truncated e = refl
cut_is kind e = cc

pub not_cut : (kind : FaultKind) (cut : Bool) → is_cut kind ≡ cut → kind ≢ Truncated → is_cut kind ≡ false
not_cut kind true e never = absurd (never (cut_is kind e))
not_cut kind false e never = e

module _ (mark : Mark) (bytes more : List ℕ) (stay : Stay bytes more) where
  abbrev few : Chunks
  few = chunks_of bytes

  abbrev many : Chunks
  many = chunks_of (bytes ++ more)

  abbrev Goal : Type 0
  Goal = Longer true (close_in Open bytes) (close_in mark (bytes ++ more)) (acts_of few) (acts_of many)

  -- an open tail
  open_so : (tail : Tail) → few.tail ≡ tail → close_of (origin_of few.form) tail ≡ Waits
      → Longer true Waits (close_in mark (bytes ++ more)) (complete_acts few.whole ++ tail_acts few.tail)
      (complete_acts many.whole ++ tail_acts many.tail) → Goal
  open_so tail e waits l =
      subst (λ c. Longer true c (close_in mark (bytes ++ more)) (acts_of few) (acts_of many)) (sym (ap (λ t. close_of (origin_of few.form) t) e ∙ waits))
      (open_longer (close_in mark (bytes ++ more)) few.form many.form few.whole few.tail many refl stay.form stay.order l)

  waits_so : (tail : Tail) → few.tail ≡ tail → tail_acts tail ≡ [] → close_of (origin_of few.form) tail ≡ Waits → Goal
  waits_so tail e none waits =
      open_so tail e waits (subst (λ acts. Longer true Waits (close_in mark (bytes ++ more)) (complete_acts few.whole ++ acts)
      (complete_acts many.whole ++ tail_acts many.tail))
      (sym (ap tail_acts e ∙ none)) (waits_longer (close_in mark (bytes ++ more)) few.whole many stay.whole))

  -- a tail that stays
  settled : (tail : Tail) → few.tail ≡ tail → many ≡ few → ((m : Mark) (n : ℕ) (w : List Chunk) → closed m n w tail ≡ tail) → Goal
  settled tail e same ends =
      let long = close_in mark (bytes ++ more) in
      let stays : long ≡ close_in Open bytes =
      ap (close_by mark (length (bytes ++ more))) same
      ∙ ap (λ t. close_of (origin_of few.form) (closed mark (length (bytes ++ more)) few.whole t)) e
      ∙ ap (λ t. close_of (origin_of few.form) t) (ends mark (length (bytes ++ more)) few.whole ∙ sym e) in
      subst (λ c. Longer true (close_in Open bytes) c (acts_of few) (acts_of many)) (sym stays)
      (subst (λ c. Longer true (close_in Open bytes) (close_in Open bytes) (acts_of few) (acts_of c)) (sym same)
      (same_longer true (close_in Open bytes) (acts_of few)))

  by_tail : (tail : Tail) → few.tail ≡ tail → Goal
  by_tail InHead e = waits_so InHead e refl refl
  by_tail (InHeader offset arrived) e = waits_so (InHeader offset arrived) e refl refl
  by_tail (InData chunk) e =
      open_so (InData chunk) e refl (subst (λ t. Longer true Waits (close_in mark (bytes ++ more)) (complete_acts few.whole ++ tail_acts t)
      (complete_acts many.whole ++ tail_acts many.tail)) (sym e) (still_longer (close_in mark (bytes ++ more)) few.whole chunk many (stay.still chunk e)))
  by_tail (InPad offset is_last) e = waits_so (InPad offset is_last) e refl refl
  by_tail FormEnd e = settled FormEnd e (stay.ended e) closed_end
  by_tail (Broken kind offset) e =
      let whole = not_cut kind (is_cut kind) refl (λ t. stay.uncut offset (e ∙ ap (λ k. Broken k offset) t)) in
      settled (Broken kind offset) e (stay.broken kind offset e) (λ m n w. closed_broken m n w kind offset whole)

  -- with more bytes behind open ones
  pub bytes_longer : Goal
  bytes_longer = by_tail few.tail refl
