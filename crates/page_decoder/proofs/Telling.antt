-- The reader of a file at one more event of its walker.
use Rattle.std.proofs.Common.{◌≡◌, ◌≢◌, ◌≤◌, ◌<◌, ◌+◌, ◌-◌, ◌^◌, ℕ, zero, suc, min, Bool, true, false, cond, eqb, Option, Some, None, inl, List, [], ◌∷◌, ◌++◌, length, take, drop, refl, sym, ap, ◌∙◌, subst, arith, append_assoc}
use Rattle.std.proofs.lemmas.List.{length-append, take-append-drop, take_all, drop_all}
use Rattle.std.proofs.lemmas.Grind.{common_steps}
use Rattle.djvu_base.specs.Library.{Open}
use Rattle.iff_chunks.specs.declared.walker.WalkStep.{WalkStep}
use Rattle.iff_chunks.specs.declared.walker.WalkStep.TheVariants as event
use Rattle.iff_chunks.specs.Chunks.{chunks_of, FormEnd, Broken}
use Rattle.iff_chunks.specs.Events.{Event, Begun, Header, Data, ChunkEnd, events_of, tell, GoesOn, IsOpen, Ends as EndsSo}
use Rattle.iff_chunks.specs.Told.{Walking, Told as WasTold}
use Rattle.iff_chunks.specs.Walk.{IsFed}
use Rattle.iff_chunks.specs.Order.{Turn, AtForm, AtHeader, AtData, AtEnd, InOrder}
use Rattle.include_graph.specs.declared.outline.Outline.{Outline}
use Rattle.jb2_records.specs.declared.results.FileResult.{FileResult}
use Rattle.djvu_base.specs.declared.ends.FileEnd.{FileEnd}
use Rattle.page_decoder.specs.declared.file_reader.FileReader.{FileReader}
use Rattle.page_decoder.specs.declared.file_reader.Stage.TheVariants as stage
use Rattle.page_decoder.specs.Given.{Home, Known, Given, KnowsMore}
use Rattle.page_decoder.specs.PageRead.{Left, at_start}
use Rattle.page_decoder.specs.Headers.{header_fault}
use Rattle.page_decoder.specs.Acts.{Act}
use Rattle.page_decoder.specs.Read.{On, and_then, at_header, step_through}
use Rattle.page_decoder.specs.ActsTold.{OpenChunk, ActsTold, nothing_told, after_event, after_events, after_step}
use Rattle.page_decoder.specs.FileReading.{origin_by, Counts, Holds, reached, IsWalking, IsGiven, IsTold, IsInOrder, Settles}
use Rattle.page_decoder.specs.FileSteps.{origin_so, origin_with, counted_with}
use Rattle.page_decoder.proofs.ResolveSteps.{waits_on}
use Rattle.page_decoder.proofs.Further.{Grows}
use Rattle.page_decoder.proofs.ActsByEvents.{step_told}
use Rattle.page_decoder.proofs.Onward.{first_on, through_on, header_on}

knows_same : (known : Known) → KnowsMore known known
knows_same known = record { outlines = λ file outline e. e; results = λ file result e. e }

-- ---- more that is known

pub reached_on : (home : Home) (a b : Known) → KnowsMore a b → Grows home.table → (acts : List Act) (chunk : Option OpenChunk) (left : Left)
    → reached home a acts chunk ≡ On left → reached home b acts chunk ≡ On left
reached_on home a b on grows acts None left e = through_on home a b on grows acts at_start left e
reached_on home a b on grows acts (Some chunk) left e =
    let next = λ (now : Left). at_header home a chunk.head (header_fault home.role now chunk.head) now in
    let parts = first_on (step_through home a acts at_start) next left e in
    ap (λ s. and_then s (λ now. at_header home b chunk.head (header_fault home.role now chunk.head) now))
    (through_on home a b on grows acts at_start parts.0 parts.1)
    ∙ header_on home a b on grows chunk.head (header_fault home.role parts.0 chunk.head) parts.0 left parts.2

pub holds_on : (home : Home) (a b : Known) → KnowsMore a b → Grows home.table → (so_far : ActsTold) (left : Left) (reader : FileReader)
    → Holds home a so_far left reader → Holds home b so_far left reader
holds_on home a b on grows so_far left reader h = record {
  on = reached_on home a b on grows so_far.acts so_far.chunk left h.on;
  holds_chunk = h.holds_chunk;
  waits = waits_on home a b left.decoded reader.includes on h.waits;
  decisions_are = h.decisions_are;
  tallies = h.tallies;
}

-- ---- bytes that the walker took

counts_on : (bytes taken : List ℕ) (arrived : ℕ) → Counts bytes arrived → Counts (bytes ++ taken) (counted_with arrived taken)
counts_on bytes taken arrived c =
    let sizes = length-append bytes taken in
    let now : arrived ≡ min (length bytes) (2 ^ 32 - 1) = c in
    grind (arith, common_steps)

origin_first : (bytes taken : List ℕ) (arrived origin : ℕ) → Counts bytes arrived → origin ≡ origin_by bytes
    → origin_with arrived taken origin ≡ origin_by (bytes ++ taken)
origin_first [] [] arrived origin c o = by (eqb arrived 0)
  where
    by : (t : Bool) → cond t origin origin ≡ 12
    by true = o
    by false = o
origin_first [] (byte ∷ taken) arrived origin c o =
    let none : arrived ≡ 0 = c in
    ap (λ n. cond (eqb n 0) (origin_so origin (byte ∷ taken)) origin) none
origin_first (byte ∷ bytes) taken arrived origin c o = by arrived (some)
  where
    some : arrived ≢ 0
    some e = let now : arrived ≡ min (length (byte ∷ bytes)) (2 ^ 32 - 1) = c in absurd (grind (arith, common_steps))

    by : (n : ℕ) → n ≢ 0 → cond (eqb n 0) (origin_so origin taken) origin ≡ origin_by (byte ∷ (bytes ++ taken))
    by zero s = absurd (s refl)
    by (suc n) s =
        let more : eqb (suc n) 0 ≡ false = grind (arith, common_steps) in
        ap (λ b. cond b (origin_so origin taken) origin) more ∙ o

-- ---- the next event

settles : (answer : WalkStep) (before after : Walking) (bytes rest : List ℕ) (used : ℕ) (told : List Event) → IsFed before rest used answer after
    → WasTold bytes told before → Settles answer (tell told answer (take used rest)) (bytes ++ take used rest) (drop used rest)
settles answer before after bytes rest used told f t = by answer refl
  where
    by : (a : WalkStep) → answer ≡ a → Settles a (tell told a (take used rest)) (bytes ++ take used rest) (drop used rest)
    by (event.Form kind size) e = tt
    by (event.Header id offset size) e = tt
    by event.Data e = tt
    by event.ChunkEnd e = tt
    by event.NeedBytes e =
        let n = f.needs bytes told t e in
        let whole : take used rest ≡ rest = ap (λ k. take k rest) n.0 ∙ take_all (length rest) rest (omega arith) in (
          drop_all used rest (let k = n.0 in omega (arith, k)),
          ap (λ b. events_of (chunks_of (bytes ++ b))) whole ∙ n.1,
          subst (λ b. IsOpen (chunks_of (bytes ++ b)).tail) (sym whole) n.2,
        )
    by event.FormEnd e = λ more.
        let ends = subst (λ a. EndsSo a told (chunks_of (bytes ++ (take used rest ++ more)))) e (f.ends bytes more told t) in
        let same = append_assoc bytes (take used rest) more in
        (ap (λ b. events_of (chunks_of b)) same ∙ ends.0, ap (λ b. (chunks_of b).tail) same ∙ ends.1)
    by (event.Broken kind offset) e = λ more.
        let ends = subst (λ a. EndsSo a told (chunks_of (bytes ++ (take used rest ++ more)))) e (f.ends bytes more told t) in
        let same = append_assoc bytes (take used rest) more in
        (ap (λ b. events_of (chunks_of b)) same ∙ ends.0, ap (λ b. (chunks_of b).tail) same ∙ ends.1)

-- ---- order

abbrev Fits : Turn → Option OpenChunk → Type 0
Fits AtForm chunk = chunk ≡ None
Fits AtHeader chunk = chunk ≡ None
Fits AtData chunk = Unit {0}
Fits AtEnd chunk = Unit {0}

none_then : (turn : Turn) (so_far : ActsTold) (told : List Event) (next : Event) → Fits turn so_far.chunk → InOrder turn (told ++ next ∷ [])
    → ((turn : Turn) (chunk : Option OpenChunk) → InOrder turn (next ∷ []) → Fits turn chunk → chunk ≡ None)
    → (after_events so_far told).chunk ≡ None
none_then turn so_far [] next f o none = none turn so_far.chunk o f
none_then AtForm so_far (Begun kind size ∷ told) next f o none = none_then AtHeader (after_event so_far (Begun kind size)) told next refl o none
none_then AtForm so_far (Header id offset size ∷ told) next f o none = absurd o
none_then AtForm so_far (Data bytes ∷ told) next f o none = absurd o
none_then AtForm so_far (ChunkEnd ∷ told) next f o none = absurd o
none_then AtHeader so_far (Header id offset size ∷ told) next f o none = none_then AtData (after_event so_far (Header id offset size)) told next tt o none
none_then AtHeader so_far (Begun kind size ∷ told) next f o none = absurd o
none_then AtHeader so_far (Data bytes ∷ told) next f o none = absurd o
none_then AtHeader so_far (ChunkEnd ∷ told) next f o none = absurd o
none_then AtData so_far (Data bytes ∷ told) next f o none = none_then AtEnd (after_event so_far (Data bytes)) told next tt o none
none_then AtData so_far (ChunkEnd ∷ told) next f o none = none_then AtHeader (after_event so_far ChunkEnd) told next refl o none
none_then AtData so_far (Begun kind size ∷ told) next f o none = absurd o
none_then AtData so_far (Header id offset size ∷ told) next f o none = absurd o
none_then AtEnd so_far (ChunkEnd ∷ told) next f o none = none_then AtHeader (after_event so_far ChunkEnd) told next refl o none
none_then AtEnd so_far (Begun kind size ∷ told) next f o none = absurd o
none_then AtEnd so_far (Header id offset size ∷ told) next f o none = absurd o
none_then AtEnd so_far (Data bytes ∷ told) next f o none = absurd o

pub none_at_form : (told : List Event) (kind : List ℕ) (size : ℕ) → InOrder AtForm (told ++ Begun kind size ∷ [])
    → (after_events nothing_told told).chunk ≡ None
none_at_form told kind size o = none_then AtForm nothing_told told (Begun kind size) refl o at
  where
    at : (turn : Turn) (chunk : Option OpenChunk) → InOrder turn (Begun kind size ∷ []) → Fits turn chunk → chunk ≡ None
    at AtForm chunk o f = f
    at AtHeader chunk o f = absurd o
    at AtData chunk o f = absurd o
    at AtEnd chunk o f = absurd o

pub none_at_header : (told : List Event) (id : List ℕ) (offset size : ℕ) → InOrder AtForm (told ++ Header id offset size ∷ [])
    → (after_events nothing_told told).chunk ≡ None
none_at_header told id offset size o = none_then AtForm nothing_told told (Header id offset size) refl o at
  where
    at : (turn : Turn) (chunk : Option OpenChunk) → InOrder turn (Header id offset size ∷ []) → Fits turn chunk → chunk ≡ None
    at AtForm chunk o f = absurd o
    at AtHeader chunk o f = f
    at AtData chunk o f = absurd o
    at AtEnd chunk o f = absurd o

in_order : (told : List Event) (answer : WalkStep) (taken : List ℕ) (so_far : ActsTold) → so_far ≡ after_events nothing_told told
    → InOrder AtForm (tell told answer taken) → IsInOrder answer so_far.chunk
in_order told (event.Form kind size) taken so_far e o = ap (λ x. x.chunk) e ∙ none_at_form told kind size o
in_order told (event.Header id offset size) taken so_far e o = ap (λ x. x.chunk) e ∙ none_at_header told id offset size o
in_order told event.Data taken so_far e o = tt
in_order told event.ChunkEnd taken so_far e o = tt
in_order told event.NeedBytes taken so_far e o = tt
in_order told event.FormEnd taken so_far e o = tt
in_order told (event.Broken kind offset) taken so_far e o = tt

-- the walker told one more event
pub told_next : (names : List (List ℕ)) (outlines : List (Option Outline)) (results : List (Option FileResult)) (rest : List ℕ) (end : Option FileEnd)
    (before given : Given) (old : FileReader) (after : Walking) (used : ℕ) (answer : WalkStep) → IsGiven names outlines results rest end before given
    → Grows before.home.table → old.stage ≡ stage.Walking → IsWalking before old → IsFed old.walker rest used answer after
    → IsTold given (drop used rest) answer (take used rest)
    (record old { walker = after; origin = origin_with old.arrived (take used rest) old.origin; arrived = counted_with old.arrived (take used rest) })
told_next names outlines results rest end before given old after used answer g grows s w f =
    let taken = take used rest in
    let told = w.walks.told in
    let bytes : given.bytes ≡ (before.bytes ++ taken) ++ drop used rest =
    g.bytes_are ∙ ap (λ b. before.bytes ++ b) (sym (take-append-drop used rest)) ∙ sym (append_assoc before.bytes taken (drop used rest)) in
    let now : Given = record { home = before.home; known = given.known; bytes = before.bytes ++ taken; mark = Open } in
    record {
      now = now;
      so_far = w.so_far;
      left = w.left;
      within = record { home = g.within.home; known = knows_same given.known; bytes = inl (refl, (drop used rest, bytes)) };
      bytes_are = bytes;
      known_is = refl;
      of = record {
        home_is = w.of.home_is;
        is_table = w.of.is_table;
        origin_is = origin_first before.bytes taken old.arrived old.origin w.of.counts w.of.origin_is;
        counts = counts_on before.bytes taken old.arrived w.of.counts;
      };
      walks = record {
        told = tell told answer taken;
        is_told = f.told before.bytes told w.walks.is_told;
        acts_are = ap (λ x. after_step x answer taken) w.walks.acts_are ∙ sym (step_told told answer taken);
        goes = λ more. subst (λ b. GoesOn (tell told answer taken) (events_of (chunks_of b))) (sym (append_assoc before.bytes taken more))
            (f.events before.bytes more told w.walks.is_told);
        is_open = refl;
      };
      holds = holds_so (holds_on before.home before.known given.known g.within.known grows w.so_far w.left old w.holds);
      is_walking = s;
      settles = settles answer old.walker after before.bytes rest used told f w.walks.is_told;
      order = in_order told answer taken w.so_far w.walks.acts_are (f.order before.bytes told w.walks.is_told);
    }
  where
    holds_so : Holds before.home given.known w.so_far w.left old → Holds before.home given.known w.so_far w.left
        (record old { walker = after; origin = origin_with old.arrived (take used rest) old.origin; arrived = counted_with old.arrived (take used rest) })
    holds_so h = record {
      on = h.on;
      holds_chunk = h.holds_chunk;
      waits = h.waits;
      decisions_are = h.decisions_are;
      tallies = record { chunks_are = h.tallies.chunks_are; drawn_are = h.tallies.drawn_are; last_is = h.tallies.last_is };
    }
