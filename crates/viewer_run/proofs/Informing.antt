-- The lines of a file's chunks, by its events.
use Rattle.std.proofs.Common.{◌≡◌, ℕ, true, false, Option, Some, None, List, [], ◌∷◌, ◌++◌, length, take, drop, refl, sym, ap, ◌∙◌, append_assoc}
use Rattle.std.specs.List.{flat_map}
use Rattle.std.proofs.lemmas.Bool.{true≢false}
use Rattle.std.proofs.lemmas.List.{append-nil}
use Rattle.std.proofs.lemmas.List.Concat.{flat_map-append}
use Rattle.djvu_base.specs.declared.faults.FaultKind.{FaultKind}
use Rattle.djvu_base.specs.declared.ends.FileEnd.{FileEnd}
use Rattle.djvu_base.specs.Library.{mark_of}
use Rattle.iff_chunks.specs.declared.walker.WalkStep.{WalkStep}
use Rattle.iff_chunks.specs.declared.walker.WalkStep.TheVariants as step
use Rattle.iff_chunks.specs.declared.walker.WalkEnd.{WalkEnd}
use Rattle.iff_chunks.specs.declared.walker.WalkEnd.TheVariants as ended
use Rattle.iff_chunks.specs.Chunks.{Form, Chunk, Chunks, Tail, InHead, InHeader, InData, InPad, FormEnd, Broken, chunks_of}
use Rattle.iff_chunks.specs.Events.{Event, Begun, Header, Data, ChunkEnd, data_events, chunk_events, tail_events, form_events, events_of, tell, with_data, is_event}
use Rattle.iff_chunks.specs.Ends.{tail_of, file_end}
use Rattle.iff_chunks.specs.Told.{Walking, Told}
use Rattle.iff_chunks.specs.Walk.{IsFed}
use Rattle.viewer_run.specs.Info.{page_fault, form_lines, header_line, tail_line, heading_lines, event_line, event_lines, step_line, fault_text, has_fault, info_lines, Informs, InformsWhole}
use Rattle.iff_chunks.proofs.Lemmas.{Finishes, walk_begins, walk_goes_on, walk_told, walk_over, walk_end}

data_lines : (name bytes : List ℕ) (events : List Event) → event_lines name (data_events bytes ++ events) ≡ event_lines name events
data_lines name [] events = refl
data_lines name (b ∷ bytes) events = refl

chunk_lines : (name : List ℕ) (whole : List Chunk) → event_lines name (flat_map chunk_events whole) ≡ flat_map (header_line name) whole
chunk_lines name [] = refl
chunk_lines name (chunk ∷ whole) =
    ap (λ l. header_line name chunk ++ l)
    (ap (event_lines name) (append_assoc (data_events chunk.bytes) (ChunkEnd ∷ []) (flat_map chunk_events whole))
    ∙ data_lines name chunk.bytes (ChunkEnd ∷ flat_map chunk_events whole) ∙ chunk_lines name whole)

tail_lines : (name : List ℕ) (tail : Tail) → event_lines name (tail_events tail) ≡ tail_line name tail
tail_lines name InHead = refl
tail_lines name (InHeader offset bytes) = refl
tail_lines name (InData chunk) =
    ap (λ l. header_line name chunk ++ l) (ap (event_lines name) (sym (append-nil (data_events chunk.bytes))) ∙ data_lines name chunk.bytes [])
    ∙ append-nil (header_line name chunk)
tail_lines name (InPad offset is_last) = refl
tail_lines name FormEnd = refl
tail_lines name (Broken kind offset) = refl

formed_lines : (name : List ℕ) (form : Option Form) → event_lines name (form_events form) ≡ form_lines name form
formed_lines name None = refl
formed_lines name (Some form) = append-nil (form_lines name (Some form))

pub all_lines : (name : List ℕ) (chunks : Chunks) → event_lines name (events_of chunks) ≡ heading_lines name chunks
all_lines name chunks =
    flat_map-append (event_line name) (form_events chunks.form) (flat_map chunk_events chunks.whole ++ tail_events chunks.tail)
    ∙ ap (λ l. l ++ event_lines name (flat_map chunk_events chunks.whole ++ tail_events chunks.tail)) (formed_lines name chunks.form)
    ∙ ap (λ l. form_lines name chunks.form ++ l) (
    flat_map-append (event_line name) (flat_map chunk_events chunks.whole) (tail_events chunks.tail)
    ∙ ap (λ l. l ++ event_lines name (tail_events chunks.tail)) (chunk_lines name chunks.whole)
    ∙ ap (λ l. flat_map (header_line name) chunks.whole ++ l) (tail_lines name chunks.tail)
    )

more_data_lines : (name : List ℕ) (told : List Event) (bytes : List ℕ) → event_lines name (with_data told bytes) ≡ event_lines name told
more_data_lines name [] bytes = refl
more_data_lines name (Data old ∷ []) bytes = refl
more_data_lines name (Data old ∷ next ∷ told) bytes = more_data_lines name (next ∷ told) bytes
more_data_lines name (Begun kind size ∷ told) bytes = ap (λ l. event_line name (Begun kind size) ++ l) (more_data_lines name told bytes)
more_data_lines name (Header id offset size ∷ told) bytes = ap (λ l. event_line name (Header id offset size) ++ l) (more_data_lines name told bytes)
more_data_lines name (ChunkEnd ∷ told) bytes = more_data_lines name told bytes

one_more_line : (name : List ℕ) (told : List Event) (event : Event) → event_lines name told ++ event_line name event ≡ event_lines name (told ++ event ∷ [])
one_more_line name told event =
    ap (λ l. event_lines name told ++ l) (sym (append-nil (event_line name event))) ∙ sym (flat_map-append (event_line name) told (event ∷ []))

more_lines : (name : List ℕ) (told : List Event) (answer : WalkStep) (used : List ℕ) → is_event answer ≡ true
    → event_lines name told ++ step_line name answer ≡ event_lines name (tell told answer used)
more_lines name told (step.Form kind size) used q = one_more_line name told (Begun kind size)
more_lines name told (step.Header id offset size) used q = one_more_line name told (Header id offset size)
more_lines name told step.Data used q = append-nil (event_lines name told) ∙ sym (more_data_lines name told used)
more_lines name told step.ChunkEnd used q = one_more_line name told ChunkEnd
more_lines name told step.NeedBytes used q = absurd (true≢false (sym q))
more_lines name told step.FormEnd used q = absurd (true≢false (sym q))
more_lines name told (step.Broken kind offset) used q = absurd (true≢false (sym q))

pub informs_on : (file rest next name lines now : List ℕ) (before after : Walking) (used : ℕ) (answer : WalkStep) → Informs file rest name lines before
    → IsFed before rest used answer after → is_event answer ≡ true → next ≡ drop used rest → now ≡ lines ++ step_line name answer
    → Informs file next name now after
informs_on file rest next name lines now before after used answer f g event n l = record {
  told = tell f.told answer (take used rest);
  walk = walk_goes_on file rest next f.told before after used answer f.walk g n;
  lines_so = l ∙ ap (λ x. x ++ step_line name answer) f.lines_so ∙ more_lines name f.told answer (take used rest) event;
}

pub informs_whole : (file rest name lines : List ℕ) (before after : Walking) (used : ℕ) (answer : WalkStep) → Informs file rest name lines before
    → IsFed before rest used answer after → is_event answer ≡ false → InformsWhole file name lines after
informs_whole file rest name lines before after used answer f g none = record {
  walk = walk_over file rest f.told before after used answer f.walk g none;
  lines_so = f.lines_so ∙ ap (event_lines name) (walk_told file rest f.told before after used answer f.walk g none);
}

pub informs_start : (file name : List ℕ) (walker : Walking) → Told [] [] walker → Informs file file name [] walker
informs_start file name walker t = record { told = []; walk = walk_begins file walker t; lines_so = refl }

-- the whole report of a file, by what the walker says of its end
report_so : (file name lines : List ℕ) (walker : Walking) (end : FileEnd) (answer : WalkEnd) → InformsWhole file name lines walker
    → Finishes walker end (length file) answer
    → (info_lines (name ∷ []) 0 (mark_of end) file ≡ lines ++ fault_text (name ∷ []) 0 (tail_of answer))
    × (has_fault (file_end (mark_of end) file) ≡ has_fault (tail_of answer))
report_so file name lines walker end answer f says =
    let ends = sym (walk_end file walker end answer f.walk says) in (
      ap (λ t. heading_lines name (chunks_of file) ++ fault_text (name ∷ []) 0 t) ends
          ∙ ap (λ l. l ++ fault_text (name ∷ []) 0 (tail_of answer)) (sym (f.lines_so ∙ all_lines name (chunks_of file))),
      ap has_fault ends,
    )

none_broken : (answer : WalkEnd) → ((kind : FaultKind) (offset : ℕ) → answer ≡ ended.Broken kind offset → ⊥) → answer ≡ ended.FormEnd
none_broken ended.FormEnd never = refl
none_broken (ended.Broken kind offset) never = absurd (never kind offset refl)

-- a file without a fault of form
pub report_whole : (file name lines : List ℕ) (walker : Walking) (end : FileEnd) (answer : WalkEnd) → InformsWhole file name lines walker
    → Finishes walker end (length file) answer
    → ((kind : FaultKind) (offset : ℕ) → answer ≡ ended.Broken kind offset → ⊥)
    → (lines ≡ info_lines (name ∷ []) 0 (mark_of end) file) × (false ≡ has_fault (file_end (mark_of end) file))
report_whole file name lines walker end answer f says never =
    let so = report_so file name lines walker end answer f says in
    let none = none_broken answer never in (
      sym (so.0 ∙ ap (λ a. lines ++ fault_text (name ∷ []) 0 (tail_of a)) none ∙ append-nil lines),
      sym (so.1 ∙ ap (λ a. has_fault (tail_of a)) none),
    )

-- a file with one
pub report_fault : (file name lines line all : List ℕ) (walker : Walking) (end : FileEnd) (answer : WalkEnd) (kind : FaultKind) (offset : ℕ)
    → InformsWhole file name lines walker → Finishes walker end (length file) answer
    → answer ≡ ended.Broken kind offset → line ≡ page_fault (name ∷ []) 0 kind offset → all ≡ lines ++ line
    → (all ≡ info_lines (name ∷ []) 0 (mark_of end) file) × (true ≡ has_fault (file_end (mark_of end) file))
report_fault file name lines line all walker end answer kind offset f says is own more =
    let so = report_so file name lines walker end answer f says in (
      more ∙ ap (λ l. lines ++ l) own ∙ sym (so.0 ∙ ap (λ a. lines ++ fault_text (name ∷ []) 0 (tail_of a)) is),
      sym (so.1 ∙ ap (λ a. has_fault (tail_of a)) is),
    )
