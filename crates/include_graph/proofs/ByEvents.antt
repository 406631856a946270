-- The outline of a file by the events of its chunks.
use Rattle.std.proofs.Common.{◌≡◌, ℕ, Bool, true, false, ◌||◌, List, [], ◌∷◌, ◌++◌, Option, Some, None, refl, sym, ap, ◌∙◌, append_assoc, cond}
use Rattle.std.specs.Prelude.{flat_map}
use Rattle.djvu_base.specs.declared.faults.FaultKind.{FaultKind}
use Rattle.djvu_base.specs.Library.{Mark}
use Rattle.iff_chunks.specs.Chunks.{Form, Chunk, Tail, InHead, InHeader, InData, InPad, FormEnd, Broken, chunks_of}
use Rattle.iff_chunks.specs.Ends.{file_end}
use Rattle.iff_chunks.specs.Events.{Event, Header, ChunkEnd, form_events, data_events, open_events, chunk_events, tail_events}
use Rattle.include_graph.specs.declared.outline.OutlineItem.{OutlineItem}
use Rattle.include_graph.specs.declared.outline.OutlineItem.TheVariants as item
use Rattle.include_graph.specs.Included.{kind_fault, chunk_fault, is_dictionary, is_include, include_name}
use Rattle.include_graph.specs.Outlines.{Items, items_at_end, items_at_tail, items_in, items_of, unless_faulty, chunk_then, named_then, outlined}
use Rattle.include_graph.specs.Reading.{Place, Passing, InInclude, Known, Progress, at_start, in_chunk, behind_include, faulty_or, after_event, after_events, items_so_far, items_by_events}

-- these items, and then those
abbrev after_items : List OutlineItem → Items → Items
after_items before items = record { items = before ++ items.items; is_known = items.is_known }

abbrev progress : Place → Bool → List OutlineItem → Progress
progress place has_dictionary items = record { place = place; has_dictionary = has_dictionary; items = items }

pub after_both : (so_far : Progress) (events more : List Event) → after_events so_far (events ++ more) ≡ after_events (after_events so_far events) more
after_both so_far [] more = refl
after_both so_far (event ∷ events) more = after_both (after_event so_far event) events more

-- behind the last item nothing changes
pub known_stays : (has_dictionary : Bool) (items : List OutlineItem) (events : List Event)
    → after_events (progress Known has_dictionary items) events ≡ progress Known has_dictionary items
known_stays has_dictionary items [] = refl
known_stays has_dictionary items (event ∷ events) = known_stays has_dictionary items events

abbrev opened : Bool → ℕ → Place
opened included offset = cond included (InInclude offset []) Passing

-- behind the data of a chunk
abbrev filled : Bool → ℕ → List ℕ → Place
filled included offset bytes = cond included (InInclude offset bytes) Passing

data_told : (included : Bool) (offset : ℕ) (bytes : List ℕ) (has_dictionary : Bool) (items : List OutlineItem)
    → after_events (progress (opened included offset) has_dictionary items) (data_events bytes) ≡ progress (filled included offset bytes) has_dictionary items
data_told true offset [] has_dictionary items = refl
data_told true offset (byte ∷ bytes) has_dictionary items = refl
data_told false offset [] has_dictionary items = refl
data_told false offset (byte ∷ bytes) has_dictionary items = refl

-- behind a chunk's end
abbrev closed_chunk : Bool → Chunk → Bool → List OutlineItem → Progress
closed_chunk included chunk has_dictionary items = cond included (behind_include (include_name chunk.bytes) chunk.offset
    (progress (InInclude chunk.offset chunk.bytes) has_dictionary items)) (progress Passing has_dictionary items)

chunk_closed : (included : Bool) (chunk : Chunk) (has_dictionary : Bool) (items : List OutlineItem)
    → after_event (progress (filled included chunk.offset chunk.bytes) has_dictionary items) ChunkEnd ≡ closed_chunk included chunk has_dictionary items
chunk_closed true chunk has_dictionary items = refl
chunk_closed false chunk has_dictionary items = refl

header_told : (fault : Option FaultKind) (chunk : Chunk) (has_dictionary : Bool) (items : List OutlineItem) (events : List Event)
    → chunk_fault has_dictionary chunk.id ≡ fault
    → after_events (progress Passing has_dictionary items) (Header chunk.id chunk.offset chunk.size ∷ events) ≡ after_events
    (faulty_or fault chunk.offset (progress Passing has_dictionary items) (in_chunk chunk.id chunk.offset (progress Passing has_dictionary items))) events
header_told fault chunk has_dictionary items events e = ap (λ f. after_events (faulty_or f chunk.offset (progress Passing has_dictionary items)
    (in_chunk chunk.id chunk.offset (progress Passing has_dictionary items))) events) e

-- at the tail of a file
tail_told : (tail : Tail) (has_dictionary : Bool) (items : List OutlineItem) (ended : Items)
    → items_so_far (after_events (progress Passing has_dictionary items) (tail_events tail)) ended ≡ after_items items
    (items_at_tail tail ended has_dictionary)
tail_told InHead has_dictionary items ended = refl
tail_told (InHeader offset bytes) has_dictionary items ended = refl
tail_told (InPad offset is_last) has_dictionary items ended = refl
tail_told FormEnd has_dictionary items ended = refl
tail_told (Broken kind offset) has_dictionary items ended = refl
tail_told (InData chunk) has_dictionary items ended = by_fault (chunk_fault has_dictionary chunk.id) refl where
  unfinished : (included : Bool) → items_so_far (progress (filled included chunk.offset chunk.bytes) (has_dictionary || is_dictionary chunk.id)
      items) ended ≡ after_items items ended
  unfinished true = refl
  unfinished false = refl

  by_fault : (fault : Option FaultKind) → chunk_fault has_dictionary chunk.id ≡ fault
      → items_so_far (after_events (progress Passing has_dictionary items) (open_events chunk)) ended ≡ after_items items
      (unless_faulty (chunk_fault has_dictionary chunk.id) chunk.offset ended)
  by_fault None e =
      ap (λ p. items_so_far p ended) (header_told None chunk has_dictionary items (data_events chunk.bytes) e
      ∙ data_told (is_include chunk.id) chunk.offset chunk.bytes (has_dictionary || is_dictionary chunk.id) items)
      ∙ unfinished (is_include chunk.id) ∙ ap (λ f. after_items items (unless_faulty f chunk.offset ended)) (sym e)
  by_fault (Some kind) e =
      ap (λ p. items_so_far p ended) (header_told (Some kind) chunk has_dictionary items (data_events chunk.bytes) e
      ∙ known_stays has_dictionary (items ++ item.Broken kind chunk.offset ∷ []) (data_events chunk.bytes))
      ∙ ap (λ f. after_items items (unless_faulty f chunk.offset ended)) (sym e)

-- what follows a progress
abbrev Leads : Tail → Items → List Chunk → Progress → Items → Type 0
Leads tail ended chunks so_far items = items_so_far (after_events so_far (flat_map chunk_events chunks ++ tail_events tail)) ended ≡ items

leads_known : (tail : Tail) (ended : Items) (chunks : List Chunk) (has_dictionary : Bool) (items : List OutlineItem)
    → Leads tail ended chunks (progress Known has_dictionary items) (record { items = items; is_known = true })
leads_known tail ended chunks has_dictionary items = ap (λ p. items_so_far p ended)
    (known_stays has_dictionary items (flat_map chunk_events chunks ++ tail_events tail))

-- behind an INCL, by its name
named_leads : (tail : Tail) (ended : Items) (chunks : List Chunk) (name : Option (List ℕ)) (offset : ℕ) (place : Place) (has_dictionary : Bool)
    (items : List OutlineItem) (rest : Items)
    → ((more : List OutlineItem) → Leads tail ended chunks (progress Passing has_dictionary more) (after_items more rest))
    → Leads tail ended chunks (behind_include name offset (progress place has_dictionary items)) (after_items items (named_then name offset rest))
named_leads tail ended chunks None offset place has_dictionary items rest on = leads_known tail ended chunks has_dictionary
    (items ++ item.Broken _ offset ∷ [])
named_leads tail ended chunks (Some name) offset place has_dictionary items rest on =
    on (items ++ item.Include name offset ∷ []) ∙ ap (λ all. record { items = all; is_known = rest.is_known })
    (append_assoc items (item.Include name offset ∷ []) rest.items)

closed_leads : (tail : Tail) (ended : Items) (chunks : List Chunk) (included : Bool) (chunk : Chunk) (has_dictionary : Bool)
    (items : List OutlineItem) (rest : Items)
    → ((more : List OutlineItem) → Leads tail ended chunks (progress Passing has_dictionary more) (after_items more rest))
    → Leads tail ended chunks (closed_chunk included chunk has_dictionary items) (after_items items
    (cond included (named_then (include_name chunk.bytes) chunk.offset rest) rest))
closed_leads tail ended chunks true chunk has_dictionary items rest on = named_leads tail ended chunks (include_name chunk.bytes) chunk.offset
    (InInclude chunk.offset chunk.bytes) has_dictionary items rest on
closed_leads tail ended chunks false chunk has_dictionary items rest on = on items

-- a whole chunk
chunk_told : (fault : Option FaultKind) (chunk : Chunk) (has_dictionary : Bool) (items : List OutlineItem) (more : List Event)
    → chunk_fault has_dictionary chunk.id ≡ fault
    → after_events (progress Passing has_dictionary items) (chunk_events chunk ++ more) ≡ after_events
    (faulty_or fault chunk.offset (progress Passing has_dictionary items) (closed_chunk (is_include chunk.id) chunk
    (has_dictionary || is_dictionary chunk.id) items)) more
chunk_told None chunk has_dictionary items more e =
    after_both (progress Passing has_dictionary items) (chunk_events chunk) more ∙ ap (λ p. after_events p more)
    (header_told None chunk has_dictionary items (data_events chunk.bytes ++ ChunkEnd ∷ []) e
    ∙ after_both (progress (opened (is_include chunk.id) chunk.offset) (has_dictionary || is_dictionary chunk.id) items) (data_events chunk.bytes)
    (ChunkEnd ∷ [])
    ∙ ap (λ p. after_event p ChunkEnd) (data_told (is_include chunk.id) chunk.offset chunk.bytes (has_dictionary || is_dictionary chunk.id) items)
    ∙ chunk_closed (is_include chunk.id) chunk (has_dictionary || is_dictionary chunk.id) items)
chunk_told (Some kind) chunk has_dictionary items more e =
    after_both (progress Passing has_dictionary items) (chunk_events chunk) more ∙ ap (λ p. after_events p more)
    (header_told (Some kind) chunk has_dictionary items (data_events chunk.bytes ++ ChunkEnd ∷ []) e
    ∙ known_stays has_dictionary (items ++ item.Broken kind chunk.offset ∷ []) (data_events chunk.bytes ++ ChunkEnd ∷ []))

chunks_told : (tail : Tail) (ended : Items) (chunks : List Chunk) (has_dictionary : Bool) (items : List OutlineItem)
    → Leads tail ended chunks (progress Passing has_dictionary items) (after_items items (items_in (items_at_tail tail ended) has_dictionary chunks))
chunks_told tail ended [] has_dictionary items = tail_told tail has_dictionary items ended
chunks_told tail ended (chunk ∷ chunks) has_dictionary items =
    ap (λ events. items_so_far (after_events (progress Passing has_dictionary items) events) ended)
    (append_assoc (chunk_events chunk) (flat_map chunk_events chunks) (tail_events tail))
    ∙ by_fault tail ended chunk chunks has_dictionary items (chunk_fault has_dictionary chunk.id) refl
    (chunks_told tail ended chunks (has_dictionary || is_dictionary chunk.id)) where
      by_fault : (tail : Tail) (ended : Items) (chunk : Chunk) (chunks : List Chunk) (has_dictionary : Bool) (items : List OutlineItem)
          (fault : Option FaultKind) → chunk_fault has_dictionary chunk.id ≡ fault
          → ((more : List OutlineItem) → Leads tail ended chunks (progress Passing (has_dictionary || is_dictionary chunk.id) more)
          (after_items more (items_in (items_at_tail tail ended) (has_dictionary || is_dictionary chunk.id) chunks)))
          → items_so_far (after_events (progress Passing has_dictionary items) (chunk_events chunk ++
          (flat_map chunk_events chunks ++ tail_events tail))) ended
          ≡ after_items items (unless_faulty (chunk_fault has_dictionary chunk.id) chunk.offset
          (chunk_then chunk (items_in (items_at_tail tail ended) (has_dictionary || is_dictionary chunk.id) chunks)))
      by_fault tail ended chunk chunks has_dictionary items None e on =
          let rest = items_in (items_at_tail tail ended) (has_dictionary || is_dictionary chunk.id) chunks in
          ap (λ p. items_so_far p ended) (chunk_told None chunk has_dictionary items (flat_map chunk_events chunks ++ tail_events tail) e)
          ∙ closed_leads tail ended chunks (is_include chunk.id) chunk (has_dictionary || is_dictionary chunk.id) items rest on
          ∙ ap (λ f. after_items items (unless_faulty f chunk.offset (chunk_then chunk rest))) (sym e)
      by_fault tail ended chunk chunks has_dictionary items (Some kind) e on =
          let rest = items_in (items_at_tail tail ended) (has_dictionary || is_dictionary chunk.id) chunks in
          ap (λ p. items_so_far p ended) (chunk_told (Some kind) chunk has_dictionary items (flat_map chunk_events chunks ++ tail_events tail) e)
          ∙ leads_known tail ended chunks has_dictionary (items ++ item.Broken kind chunk.offset ∷ [])
          ∙ ap (λ f. after_items items (unless_faulty f chunk.offset (chunk_then chunk rest))) (sym e)

form_told : (form : Option Form) (tail : Tail) (ended : Items) (chunks : List Chunk)
    → items_so_far (after_events at_start (form_events form ++ (flat_map chunk_events chunks ++ tail_events tail))) ended ≡ items_of form chunks tail ended
form_told None tail ended chunks = chunks_told tail ended chunks false []
form_told (Some form) tail ended chunks = by_fault (kind_fault form.kind) refl where
  by_fault : (fault : Option FaultKind) → kind_fault form.kind ≡ fault
      → items_so_far (after_events (faulty_or (kind_fault form.kind) 0 at_start at_start) (flat_map chunk_events chunks ++ tail_events tail)) ended ≡
      unless_faulty (kind_fault form.kind) 0 (items_in (items_at_tail tail ended) false chunks)
  by_fault None e =
      ap (λ f. items_so_far (after_events (faulty_or f 0 at_start at_start) (flat_map chunk_events chunks ++ tail_events tail)) ended) e
      ∙ chunks_told tail ended chunks false [] ∙ ap (λ f. unless_faulty f 0 (items_in (items_at_tail tail ended) false chunks)) (sym e)
  by_fault (Some kind) e =
      ap (λ f. items_so_far (after_events (faulty_or f 0 at_start at_start) (flat_map chunk_events chunks ++ tail_events tail)) ended) e
      ∙ leads_known tail ended chunks false (item.Broken kind 0 ∷ []) ∙ ap (λ f. unless_faulty f 0 (items_in (items_at_tail tail ended) false chunks)) (sym e)

pub by_events : (mark : Mark) (bytes : List ℕ) → items_by_events mark bytes ≡ outlined mark bytes
by_events mark bytes = form_told (chunks_of bytes).form (chunks_of bytes).tail (items_at_end (file_end mark bytes)) (chunks_of bytes).whole
