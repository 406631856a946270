-- A reader that is fed.
use Rattle.std.proofs.Common.{◌≡◌, ℕ, Bool, true, false, List, [], ◌∷◌, ◌++◌, length, take, drop, Some, refl, sym, ap, ◌∙◌, subst, arith, append_assoc, cond}
use Rattle.std.proofs.lemmas.List.{append-nil, take-append-drop, take_all}
use Rattle.djvu_base.specs.Library.{Mark, Open}
use Rattle.iff_chunks.specs.declared.walker.WalkStep.{WalkStep}
use Rattle.iff_chunks.specs.declared.walker.WalkStep.TheVariants as walk
use Rattle.iff_chunks.specs.Chunks.{Tail, FormEnd, Broken, chunks_of}
use Rattle.iff_chunks.specs.Ends.{file_end}
use Rattle.iff_chunks.specs.Events.{Event, Begun, Header, Data, ChunkEnd, events_of, tell, with_data, GoesOn, is_event, IsOpen}
use Rattle.iff_chunks.specs.Told.{Told}
use Rattle.iff_chunks.specs.Walk.{IsFed}
use Rattle.iff_chunks.proofs.Lemmas.{walk_goes_on}
use Rattle.include_graph.specs.declared.outline.OutlineItem.{OutlineItem}
use Rattle.include_graph.specs.declared.reader.OutlineStep.{OutlineStep}
use Rattle.include_graph.specs.declared.file_walk.FileWalk.{FileWalk}
use Rattle.include_graph.specs.Outlines.{Items, items_at_end, outline_by, outline_of}
use Rattle.include_graph.specs.Reading.{Place, Passing, InInclude, Known, Progress, at_start, after_event, after_events, after_step, is_known, items_so_far, items_by_events, with_fault}
use Rattle.include_graph.specs.Fed.{progress_of, IsReading, IsWalking, Reaches, FedBy, PausesSo, outline_read}
use Rattle.include_graph.proofs.ByEvents.{by_events, after_both}
use Rattle.include_graph.proofs.Staying.{known_by, items_known_by}

two_data : (place : Place) (has_dictionary : Bool) (items : List OutlineItem) (told bytes : List ℕ)
    → after_event (record { place = place; has_dictionary = has_dictionary; items = items }) (Data (told ++ bytes)) ≡ after_event
    (after_event (record { place = place; has_dictionary = has_dictionary; items = items }) (Data told)) (Data bytes)
two_data Passing has_dictionary items told bytes = refl
two_data (InInclude offset before) has_dictionary items told bytes = ap (λ all. record
    { place = InInclude offset all; has_dictionary = has_dictionary; items = items }) (sym (append_assoc before told bytes))
two_data Known has_dictionary items told bytes = refl

data_more : (so_far : Progress) (told : List Event) (bytes : List ℕ)
    → after_events so_far (with_data told bytes) ≡ after_event (after_events so_far told) (Data bytes)
data_more so_far [] bytes = refl
data_more so_far (Data told ∷ []) bytes = two_data so_far.place so_far.has_dictionary so_far.items told bytes
data_more so_far (Data told ∷ next ∷ events) bytes = data_more (after_event so_far (Data told)) (next ∷ events) bytes
data_more so_far (Begun kind size ∷ events) bytes = data_more (after_event so_far (Begun kind size)) events bytes
data_more so_far (Header id offset size ∷ events) bytes = data_more (after_event so_far (Header id offset size)) events bytes
data_more so_far (ChunkEnd ∷ events) bytes = data_more (after_event so_far ChunkEnd) events bytes

pub step_told : (told : List Event) (answer : WalkStep) (used : List ℕ)
    → after_events at_start (tell told answer used) ≡ after_step (after_events at_start told) answer used
step_told told (walk.Form kind size) used = after_both at_start told (Begun kind size ∷ [])
step_told told (walk.Header id offset size) used = after_both at_start told (Header id offset size ∷ [])
step_told told walk.Data used = data_more at_start told used
step_told told walk.ChunkEnd used = after_both at_start told (ChunkEnd ∷ [])
step_told told walk.NeedBytes used = refl
step_told told walk.FormEnd used = refl
step_told told (walk.Broken kind offset) used = refl

-- at the start of a piece
pub reach_begins : (bytes piece : List ℕ) (reader : FileWalk) → GoesOn (events_of (chunks_of bytes)) (events_of (chunks_of (bytes ++ piece)))
    → IsWalking bytes piece reader → Reaches (bytes ++ piece) piece reader
reach_begins bytes piece reader goes w = record {
  told = events_of (chunks_of bytes);
  has = record { taken = bytes; parts = refl; is_told = w.told; goes = goes };
  progress = w.progress;
  unknown = w.unknown;
  counts = w.counts;
}

-- with one more event
pub reach_goes_on : (file rest next : List ℕ) (before after : FileWalk) (used : ℕ) (answer : WalkStep) → Reaches file rest before
    → IsFed before.walker rest used answer after.walker → next ≡ drop used rest
    → progress_of after.progress ≡ after_step (progress_of before.progress) answer (take used rest)
    → is_known (progress_of after.progress).place ≡ false → after.arrived ≡ before.arrived → Reaches file next after
reach_goes_on file rest next before after used answer r f n p k a = record {
  told = tell r.told answer (take used rest);
  has = walk_goes_on file rest next r.told before.walker after.walker used answer r.has f n;
  progress = p ∙ ap (λ s. after_step s answer (take used rest)) r.progress ∙ sym (step_told r.told answer (take used rest));
  unknown = k;
  counts = λ b. a ∙ r.counts b;
}

outline_from : (mark : Mark) (file : List ℕ) (items : Items) → items_by_events mark file ≡ items → outline_of mark file ≡ outline_by items
outline_from mark file items e = ap outline_by (sym (by_events mark file) ∙ e)

-- with an event behind which the outline is known
pub reach_knows : (file rest : List ℕ) (before after : FileWalk) (used : ℕ) (answer : WalkStep) → Reaches file rest before
    → IsFed before.walker rest used answer after.walker
    → progress_of after.progress ≡ after_step (progress_of before.progress) answer (take used rest)
    → is_known (progress_of after.progress).place ≡ true → outline_of Open file ≡ Some (outline_read after)
reach_knows file rest before after used answer r f p k =
    let told = tell r.told answer (take used rest) in
    let so_far : progress_of after.progress ≡ after_events at_start told = p ∙ ap (λ s. after_step s answer (take used rest)) r.progress
    ∙ sym (step_told r.told answer (take used rest)) in
    let goes = (walk_goes_on file rest (drop used rest) r.told before.walker after.walker used answer r.has f refl).goes in
    let known = ap (λ s. is_known s.place) (sym so_far) ∙ k in
    let same = known_by at_start told (events_of (chunks_of file)) goes known ∙ sym so_far in
    outline_from Open file (record { items = (progress_of after.progress).items; is_known = true })
    (ap (λ s. items_so_far s (items_at_end (file_end Open file))) same ∙ items_known_by (progress_of after.progress) (items_at_end (file_end Open file)) k)

items_unknown : (so_far : Progress) (ended : Items) → is_known so_far.place ≡ false
    → items_so_far so_far ended ≡ record { items = so_far.items ++ ended.items; is_known = ended.is_known }
items_unknown so_far ended k = ap (λ b. cond b (record { items = so_far.items; is_known = true })
    (record { items = so_far.items ++ ended.items; is_known = ended.is_known })) k

-- the file ends so behind the last event
pub tail_read : (mark : Mark) (file : List ℕ) (so_far : Progress) (tail : Tail) → after_events at_start (events_of (chunks_of file)) ≡ so_far
    → is_known so_far.place ≡ false → file_end mark file ≡ tail
    → outline_of mark file ≡ outline_by (record { items = so_far.items ++ (items_at_end tail).items; is_known = (items_at_end tail).is_known })
tail_read mark file so_far tail e k t =
    outline_from mark file (record { items = so_far.items ++ (items_at_end tail).items; is_known = (items_at_end tail).is_known })
    (ap (λ s. items_so_far s (items_at_end (file_end mark file))) e ∙ items_unknown so_far (items_at_end (file_end mark file)) k
    ∙ ap (λ x. record { items = so_far.items ++ (items_at_end x).items; is_known = (items_at_end x).is_known }) t)

-- where the FORM ended or broke
pub ended_read : (mark : Mark) (file : List ℕ) (so_far : Progress) → after_events at_start (events_of (chunks_of file)) ≡ so_far
    → is_known so_far.place ≡ false → file_end mark file ≡ FormEnd → outline_of mark file ≡ Some (record { items = so_far.items })
ended_read mark file so_far e k t = tail_read mark file so_far FormEnd e k t ∙ ap (λ all. Some (record { items = all })) (append-nil so_far.items)

pub broken_read : (mark : Mark) (file : List ℕ) (so_far : Progress) (kind : _) (offset : ℕ)
    → after_events at_start (events_of (chunks_of file)) ≡ so_far → is_known so_far.place ≡ false → file_end mark file ≡ Broken kind offset
    → outline_of mark file ≡ Some (record { items = (with_fault kind offset so_far).items })
broken_read mark file so_far kind offset e k t = tail_read mark file so_far (Broken kind offset) e k t

-- the parts of a file at a walker
whole_file : (file rest taken : List ℕ) (used : ℕ) → file ≡ taken ++ rest → taken ++ (take used rest ++ drop used rest) ≡ file
whole_file file rest taken used e = ap (λ r. taken ++ r) (take-append-drop used rest) ∙ sym e

-- where the walker's answer tells no event
pub reach_pauses : (bytes piece rest : List ℕ) (before middle after : FileWalk) (used : ℕ) (answer : WalkStep) (result : OutlineStep)
    → Reaches (bytes ++ piece) rest before → IsFed before.walker rest used answer middle.walker
    → middle.progress ≡ before.progress → middle.arrived ≡ before.arrived → is_event answer ≡ false → PausesSo answer middle result after
    → FedBy result Open (bytes ++ piece) after
reach_pauses bytes piece rest before middle after used walk.NeedBytes result r f p a q h =
    let all = f.needs r.has.taken r.told r.has.is_told refl in
    let file : r.has.taken ++ rest ≡ bytes ++ piece = sym r.has.parts in
    let whole : take used rest ≡ rest = ap (λ n. take n rest) all.0 ∙ take_all (length rest) rest (omega arith) in
    let events : events_of (chunks_of (bytes ++ piece)) ≡ r.told = ap (λ b. events_of (chunks_of b)) (sym file) ∙ all.1 in
    let progress : progress_of middle.progress ≡ progress_of before.progress = ap progress_of p in
    let told : Told (bytes ++ piece) (events_of (chunks_of (bytes ++ piece))) middle.walker =
    subst (λ e. Told (bytes ++ piece) e middle.walker) (sym events)
    (subst (λ b. Told b r.told middle.walker) (ap (λ b. r.has.taken ++ b) whole ∙ file) (f.told r.has.taken r.told r.has.is_told)) in
    let reading : IsReading Open (bytes ++ piece) middle = record {
      is_open = refl;
      told = told;
      goes_on = subst (λ b. IsOpen (chunks_of b).tail) file all.2;
      progress = progress ∙ r.progress ∙ ap (after_events at_start) (sym events);
      unknown = ap (λ s. is_known s.place) progress ∙ r.unknown;
      counts = λ b. a ∙ r.counts b;
    } in
    subst (λ s. FedBy s Open (bytes ++ piece) after) (sym h.0) (subst (λ x. IsReading Open (bytes ++ piece) x) (sym h.1) reading)
reach_pauses bytes piece rest before middle after used walk.FormEnd result r f p a q h =
    let whole = whole_file (bytes ++ piece) rest r.has.taken used r.has.parts in
    let ends = f.ends r.has.taken (drop used rest) r.told r.has.is_told in
    let events : events_of (chunks_of (bytes ++ piece)) ≡ r.told = ap (λ b. events_of (chunks_of b)) (sym whole) ∙ ends.0 in
    let tail : (chunks_of (bytes ++ piece)).tail ≡ FormEnd = ap (λ b. (chunks_of b).tail) (sym whole) ∙ ends.1 in
    let items : progress_of after.progress ≡ progress_of before.progress = ap (λ x. progress_of x.progress) h.1 ∙ ap progress_of p in
    subst (λ s. FedBy s Open (bytes ++ piece) after) (sym h.0)
    (ended_read Open (bytes ++ piece) (progress_of before.progress) (ap (after_events at_start) events ∙ sym r.progress) r.unknown tail
    ∙ ap (λ s. Some (record { items = s.items })) (sym items))
reach_pauses bytes piece rest before middle after used (walk.Broken kind offset) result r f p a q h =
    let whole = whole_file (bytes ++ piece) rest r.has.taken used r.has.parts in
    let ends = f.ends r.has.taken (drop used rest) r.told r.has.is_told in
    let events : events_of (chunks_of (bytes ++ piece)) ≡ r.told = ap (λ b. events_of (chunks_of b)) (sym whole) ∙ ends.0 in
    let tail : (chunks_of (bytes ++ piece)).tail ≡ Broken kind offset = ap (λ b. (chunks_of b).tail) (sym whole) ∙ ends.1 in
    let items : progress_of after.progress ≡ with_fault kind offset (progress_of before.progress) = h.1
    ∙ ap (λ x. with_fault kind offset (progress_of x)) p in
    subst (λ s. FedBy s Open (bytes ++ piece) after) (sym h.0)
    (broken_read Open (bytes ++ piece) (progress_of before.progress) kind offset (ap (after_events at_start) events
    ∙ sym r.progress) r.unknown tail ∙ ap (λ s. Some (record { items = s.items })) (sym items))
reach_pauses bytes piece rest before middle after used (walk.Form kind size) result r f p a q h = cc
reach_pauses bytes piece rest before middle after used (walk.Header id offset size) result r f p a q h = cc
reach_pauses bytes piece rest before middle after used walk.Data result r f p a q h = cc
reach_pauses bytes piece rest before middle after used walk.ChunkEnd result r f p a q h = cc
