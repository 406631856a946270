-- An outline that is known stays, and is known where the file is closed.
use Rattle.std.proofs.Common.{◌≡◌, ℕ, Bool, true, false, List, [], ◌∷◌, ◌++◌, length, Some, refl, sym, ap, ◌∙◌, is_some, cond}
use Rattle.std.proofs.lemmas.Bool.{true≢false}
use Rattle.djvu_base.specs.declared.faults.FaultKind.{FaultKind}
use Rattle.djvu_base.specs.declared.faults.FaultKind.TheVariants.{Truncated, Read}
use Rattle.djvu_base.specs.Library.{Mark, Open, Whole}
use Rattle.djvu_base.specs.Library as library
use Rattle.iff_chunks.specs.Chunks.{Chunk, Tail, InHead, InHeader, InData, InPad, FormEnd, Broken, chunks_of, end_of}
use Rattle.iff_chunks.specs.Ends.{is_cut, broken_off, closed, file_end}
use Rattle.iff_chunks.specs.Events.{Event, Begun, Header, Data, ChunkEnd, events_of, GoesOn}
use Rattle.include_graph.specs.declared.outline.Outline.{Outline}
use Rattle.include_graph.specs.declared.outline.OutlineItem.{OutlineItem}
use Rattle.include_graph.specs.Outlines.{Items, items_at_end, outline_by, outline_of}
use Rattle.include_graph.specs.Reading.{Place, Passing, InInclude, Known, Progress, at_start, after_event, after_events, is_known, items_so_far, items_by_events}
use Rattle.include_graph.proofs.ByEvents.{by_events, known_stays}

abbrev progress : Place → Bool → List OutlineItem → Progress
progress place has_dictionary items = record { place = place; has_dictionary = has_dictionary; items = items }

-- behind the last item nothing changes
known_from : (place : Place) (has_dictionary : Bool) (items : List OutlineItem) (events : List Event) → is_known place ≡ true
    → after_events (progress place has_dictionary items) events ≡ progress place has_dictionary items
known_from Passing has_dictionary items events k = absurd (true≢false (sym k))
known_from (InInclude offset told) has_dictionary items events k = absurd (true≢false (sym k))
known_from Known has_dictionary items events k = known_stays has_dictionary items events

-- data alone settle nothing
data_settle : (place : Place) (has_dictionary : Bool) (items : List OutlineItem) (bytes : List ℕ)
    → is_known (after_event (progress place has_dictionary items) (Data bytes)).place ≡ true → is_known place ≡ true
data_settle Passing has_dictionary items bytes k = k
data_settle (InInclude offset told) has_dictionary items bytes k = k
data_settle Known has_dictionary items bytes k = k

last_data : (so_far : Progress) (bytes all : List ℕ) (events : List Event) → is_known (after_event so_far (Data bytes)).place ≡ true
    → after_events so_far (Data all ∷ events) ≡ after_event so_far (Data bytes)
last_data so_far bytes all events k =
    let before = data_settle so_far.place so_far.has_dictionary so_far.items bytes k in
    known_from so_far.place so_far.has_dictionary so_far.items (Data all ∷ events) before
    ∙ sym (known_from so_far.place so_far.has_dictionary so_far.items (Data bytes ∷ []) before)

-- events after which an outline is known leave it so with more behind them
pub known_by : (so_far : Progress) (told events : List Event) → GoesOn told events → is_known (after_events so_far told).place ≡ true
    → after_events so_far events ≡ after_events so_far told
known_by so_far [] events g k = known_from so_far.place so_far.has_dictionary so_far.items events k
known_by so_far (Begun kind size ∷ told) [] g k = absurd g
known_by so_far (Begun kind size ∷ told) (e ∷ events) g k = ap (λ x. after_events (after_event so_far x) events) (sym g.0)
    ∙ known_by (after_event so_far (Begun kind size)) told events g.1 k
known_by so_far (Header id offset size ∷ told) [] g k = absurd g
known_by so_far (Header id offset size ∷ told) (e ∷ events) g k = ap (λ x. after_events (after_event so_far x) events) (sym g.0)
    ∙ known_by (after_event so_far (Header id offset size)) told events g.1 k
known_by so_far (ChunkEnd ∷ told) [] g k = absurd g
known_by so_far (ChunkEnd ∷ told) (e ∷ events) g k = ap (λ x. after_events (after_event so_far x) events) (sym g.0)
    ∙ known_by (after_event so_far ChunkEnd) told events g.1 k
known_by so_far (Data bytes ∷ next ∷ told) [] g k = absurd g
known_by so_far (Data bytes ∷ next ∷ told) (e ∷ events) g k = ap (λ x. after_events (after_event so_far x) events) (sym g.0)
    ∙ known_by (after_event so_far (Data bytes)) (next ∷ told) events g.1 k
known_by so_far (Data bytes ∷ []) [] g k = absurd g
known_by so_far (Data bytes ∷ []) (Data all ∷ events) g k = last_data so_far bytes all events k
known_by so_far (Data bytes ∷ []) (Begun kind size ∷ events) g k = let same : Data bytes ≡ Begun kind size = g.0 in absurd (cc)
known_by so_far (Data bytes ∷ []) (Header id offset size ∷ events) g k = let same : Data bytes ≡ Header id offset size = g.0 in absurd (cc)
known_by so_far (Data bytes ∷ []) (ChunkEnd ∷ events) g k = let same : Data bytes ≡ ChunkEnd = g.0 in absurd (cc)

pub items_known_by : (so_far : Progress) (ended : Items) → is_known so_far.place ≡ true
    → items_so_far so_far ended ≡ record { items = so_far.items; is_known = true }
items_known_by so_far ended k = ap (λ b. cond b (record { items = so_far.items; is_known = true })
    (record { items = so_far.items ++ ended.items; is_known = ended.is_known })) k

items_open_by : (so_far : Progress) (ended : Items) → is_known so_far.place ≡ false
    → items_so_far so_far ended ≡ record { items = so_far.items ++ ended.items; is_known = ended.is_known }
items_open_by so_far ended k = ap (λ b. cond b (record { items = so_far.items; is_known = true })
    (record { items = so_far.items ++ ended.items; is_known = ended.is_known })) k

closed_end : (mark : Mark) (arrived : ℕ) (whole : List Chunk) → closed mark arrived whole FormEnd ≡ FormEnd
closed_end Open arrived whole = refl
closed_end Whole arrived whole = refl
closed_end library.Broken arrived whole = refl

closed_broken : (mark : Mark) (arrived : ℕ) (whole : List Chunk) (kind : FaultKind) (offset : ℕ) → is_cut kind ≡ false
    → closed mark arrived whole (Broken kind offset) ≡ Broken kind offset
closed_broken Open arrived whole kind offset n = refl
closed_broken Whole arrived whole kind offset n = refl
closed_broken library.Broken arrived whole kind offset n = ap (λ b. cond b (Broken Read arrived) (Broken kind offset)) n

pub cut_is : (kind : FaultKind) → is_cut kind ≡ true → kind ≡ Truncated
cut_is Truncated e = refl
cut_is kind e = cc

uncut : (kind : FaultKind) (cut : Bool) → is_cut kind ≡ cut → (kind ≡ Truncated → ⊥) → is_cut kind ≡ false
uncut kind true e never = absurd (never (cut_is kind e))
uncut kind false e never = e

-- the FORM ended or broke within these bytes
settled : (mark : Mark) (bytes more : List ℕ) (tail : Tail) → (chunks_of bytes).tail ≡ tail → ((arrived : ℕ) (whole : List Chunk)
    → closed mark arrived whole tail ≡ tail) → chunks_of (bytes ++ more) ≡ chunks_of bytes
    → items_by_events mark (bytes ++ more) ≡ items_by_events Open bytes
settled mark bytes more tail e ends same =
    let so_far = after_events at_start (events_of (chunks_of bytes)) in
    let arrived = length (bytes ++ more) in
    ap (λ chunks. items_so_far (after_events at_start (events_of chunks)) (items_at_end (closed mark arrived chunks.whole chunks.tail))) same
    ∙ ap (λ t. items_so_far so_far (items_at_end (closed mark arrived (chunks_of bytes).whole t))) e
    ∙ ap (λ t. items_so_far so_far (items_at_end t)) (ends arrived (chunks_of bytes).whole ∙ sym e)

module _ (mark : Mark) (bytes more : List ℕ) (outline : Outline)
    (events : GoesOn (events_of (chunks_of bytes)) (events_of (chunks_of (bytes ++ more))))
    (ended : (chunks_of bytes).tail ≡ FormEnd → chunks_of (bytes ++ more) ≡ chunks_of bytes)
    (broken : (kind : FaultKind) (offset : ℕ) → (chunks_of bytes).tail ≡ Broken kind offset → chunks_of (bytes ++ more) ≡ chunks_of bytes)
    (never : (offset : ℕ) → (chunks_of bytes).tail ≡ Broken Truncated offset → ⊥)
    (is : outline_by (items_by_events Open bytes) ≡ Some outline) where
  abbrev so_far : Progress
  so_far = after_events at_start (events_of (chunks_of bytes))

  open_tail : (tail : Tail) → (chunks_of bytes).tail ≡ tail → is_known so_far.place ≡ false
      → outline_by (record { items = so_far.items ++ (items_at_end tail).items; is_known = (items_at_end tail).is_known }) ≡ Some outline
  open_tail tail e k = sym (ap (λ t. outline_by (items_so_far so_far (items_at_end t))) e ∙ ap outline_by (items_open_by so_far (items_at_end tail) k)) ∙ is

  by_tail : (tail : Tail) → (chunks_of bytes).tail ≡ tail → is_known so_far.place ≡ false → outline_by (items_by_events mark (bytes ++ more)) ≡ Some outline
  by_tail InHead e k = let never = open_tail InHead e k in cc
  by_tail (InHeader offset got) e k = let never = open_tail (InHeader offset got) e k in cc
  by_tail (InData chunk) e k = let never = open_tail (InData chunk) e k in cc
  by_tail (InPad offset is_last) e k = let never = open_tail (InPad offset is_last) e k in cc
  by_tail FormEnd e k = ap outline_by (settled mark bytes more FormEnd e (closed_end mark) (ended e)) ∙ is
  by_tail (Broken kind offset) e k =
      let whole = uncut kind (is_cut kind) refl (λ t. never offset (e ∙ ap (λ x. Broken x offset) t)) in
      ap outline_by (settled mark bytes more (Broken kind offset) e (λ arrived chunks. closed_broken mark arrived chunks kind offset whole)
      (broken kind offset e)) ∙ is

  by_place : (known : Bool) → is_known so_far.place ≡ known → outline_by (items_by_events mark (bytes ++ more)) ≡ Some outline
  by_place false k = by_tail (chunks_of bytes).tail refl k
  by_place true k =
      let later = known_by at_start (events_of (chunks_of bytes)) (events_of (chunks_of (bytes ++ more))) events k in
      let last = items_at_end (file_end mark (bytes ++ more)) in
      ap outline_by (ap (λ p. items_so_far p last) later ∙ items_known_by so_far last k
      ∙ sym (items_known_by so_far (items_at_end (file_end Open bytes)) k)) ∙ is

  pub events_stay : outline_by (items_by_events mark (bytes ++ more)) ≡ Some outline
  events_stay = by_place (is_known so_far.place) refl

pub outline_stays : (mark : Mark) (bytes more : List ℕ) (outline : Outline) → GoesOn (events_of (chunks_of bytes)) (events_of (chunks_of (bytes ++ more)))
    → ((chunks_of bytes).tail ≡ FormEnd → chunks_of (bytes ++ more) ≡ chunks_of bytes)
    → ((kind : FaultKind) (offset : ℕ) → (chunks_of bytes).tail ≡ Broken kind offset → chunks_of (bytes ++ more) ≡ chunks_of bytes)
    → ((offset : ℕ) → (chunks_of bytes).tail ≡ Broken Truncated offset → ⊥) → outline_of Open bytes ≡ Some outline
    → outline_of mark (bytes ++ more) ≡ Some outline
outline_stays mark bytes more outline events ended broken never is =
    sym (ap outline_by (by_events mark (bytes ++ more))) ∙ events_stay mark bytes more outline events ended broken never
    (ap outline_by (by_events Open bytes) ∙ is)

known_end : (whole : List Chunk) (tail : Tail) → (items_at_end (end_of whole tail)).is_known ≡ true
known_end whole InHead = refl
known_end [] (InHeader offset []) = refl
known_end [] (InHeader offset (byte ∷ bytes)) = refl
known_end (chunk ∷ whole) (InHeader offset bytes) = refl
known_end whole (InData chunk) = refl
known_end whole (InPad offset true) = refl
known_end whole (InPad offset false) = refl
known_end whole FormEnd = refl
known_end whole (Broken kind offset) = refl

still_known : (arrived : ℕ) (tail : Tail) → (items_at_end tail).is_known ≡ true → (items_at_end (broken_off arrived tail)).is_known ≡ true
still_known arrived InHead k = k
still_known arrived (InHeader offset bytes) k = k
still_known arrived (InData chunk) k = k
still_known arrived (InPad offset is_last) k = k
still_known arrived FormEnd k = k
still_known arrived (Broken kind offset) k = by_cut (is_cut kind) where
  by_cut : (cut : Bool) → (items_at_end (cond cut (Broken Read arrived) (Broken kind offset))).is_known ≡ true
  by_cut true = refl
  by_cut false = refl

both_known : (so_far : Progress) (ended : Items) (known : Bool) → is_known so_far.place ≡ known → ended.is_known ≡ true
    → is_some (outline_by (items_so_far so_far ended)) ≡ true
both_known so_far ended true k e = ap (λ items. is_some (outline_by items)) (items_known_by so_far ended k)
both_known so_far ended false k e = ap (λ items. is_some (outline_by items)) (items_open_by so_far ended k)
    ∙ ap (λ b. is_some (outline_by (record { items = so_far.items ++ ended.items; is_known = b }))) e

pub known_whole : (bytes : List ℕ) → is_some (outline_of Whole bytes) ≡ true
known_whole bytes =
    let so_far = after_events at_start (events_of (chunks_of bytes)) in
    sym (ap (λ items. is_some (outline_by items)) (by_events Whole bytes))
    ∙ both_known so_far (items_at_end (file_end Whole bytes)) (is_known so_far.place) refl (known_end (chunks_of bytes).whole (chunks_of bytes).tail)

pub known_broken : (bytes : List ℕ) → is_some (outline_of library.Broken bytes) ≡ true
known_broken bytes =
    let so_far = after_events at_start (events_of (chunks_of bytes)) in
    sym (ap (λ items. is_some (outline_by items)) (by_events library.Broken bytes))
    ∙ both_known so_far (items_at_end (file_end library.Broken bytes)) (is_known so_far.place) refl
    (still_known (length bytes) (end_of (chunks_of bytes).whole (chunks_of bytes).tail) (known_end (chunks_of bytes).whole (chunks_of bytes).tail))
