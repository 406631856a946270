-- The reader of a file behind the header of a chunk, before which its pending includes are resolved.
use Rattle.std.proofs.Common.{◌≡◌, ◌≢◌, ℕ, Option, Some, None, List, [], ◌∷◌, ◌++◌, length, refl, sym, ap, ◌∙◌, subst, arith}
use Rattle.std.specs.Arc.{arc_value}
use Rattle.djvu_base.specs.Meter.{ticked, TicksExactly}
use Rattle.iff_chunks.specs.Chunks.{chunks_of}
use Rattle.iw44_image.specs.Layer.{data_of}
use Rattle.page_decoder.specs.declared.file_reader.FileReader.{FileReader}
use Rattle.page_decoder.specs.declared.file_reader.Stage.TheVariants as stage
use Rattle.page_decoder.specs.declared.decoder.PageStep.{PageStep}
use Rattle.page_decoder.specs.declared.decoder.PageStep.TheVariants as step
use Rattle.page_decoder.specs.Kinds.{ChunkKind, kind_of}
use Rattle.page_decoder.specs.Kinds as kind
use Rattle.page_decoder.specs.Given.{Home, Known, Given}
use Rattle.page_decoder.specs.PageRead.{Refused, last_layers, Left, PageRead, at_start}
use Rattle.page_decoder.specs.Headers.{Head, header_fault}
use Rattle.page_decoder.specs.Acts.{Reads, acts_of, close_in}
use Rattle.page_decoder.specs.ActsTold.{ActsTold, begun_at, GoOnFrom}
use Rattle.page_decoder.specs.Read.{Step, On, and_then, after, all_resolved, resolved_before, nothing_pending, at_header, at_data, read_from, step_through, read}
use Rattle.page_decoder.specs.Needs.{Below}
use Rattle.page_decoder.specs.Kept.{Keeping, Keeps, Background}
use Rattle.page_decoder.specs.Opened.{Opens}
use Rattle.page_decoder.specs.Resolving.{Resolving, home_of, with_files, Waits, IsResolved}
use Rattle.page_decoder.specs.FileReading.{Answers, Moves, ComesTo, StandsBefore, StandsAt, ResolvesAt, IsBefore, Tallies, decisions_in}
use Rattle.page_decoder.specs.FileSteps.{IsKnown, IsEntering, ResolvesBefore, Begins, MayLackMemory}
use Rattle.page_decoder.proofs.ActsByEvents.{acts_go_on}
use Rattle.page_decoder.proofs.Answering.{exact_within, memory_answer}
use Rattle.page_decoder.proofs.Further.{after_then}
use Rattle.page_decoder.proofs.Onward.{reads_on}
use Rattle.page_decoder.proofs.ResolveSteps.{knows_same}
use Rattle.page_decoder.proofs.Stopping.{IsLeft, stop_answers, ticks_alone}
use Rattle.page_decoder.proofs.Retaining.{after_below, data_below, from_below}

-- ---- before a chunk

-- the includes before a chunk of this kind are resolved, or it brings nothing of them
pub record Entered (home : Home) (known : Known) (of : ChunkKind) (left : Left) (it : Resolving) : Type 0 where
  pub now : Left
  pub on : resolved_before of home known left ≡ On now
  pub waits : Waits home known now.decoded it
  pub chunks : now.chunks ≡ left.chunks
  pub drawings : now.told.drawings ≡ left.told.drawings
  pub decisions : now.told.decisions ≡ left.told.decisions
  pub layers : now.decoded.layers ≡ left.decoded.layers
  pub back : now.decoded.back ≡ left.decoded.back
  pub own : now.decoded.own ≡ left.decoded.own

module _ (home : Home) (known : Known) (left : Left) (before it : Resolving) where
  none_brought : (of : ChunkKind) → resolved_before of home known left ≡ On left → Waits home known left.decoded before → it ≡ before
      → Entered home known of left it
  none_brought of on w e = record {
    now = left;
    on = on;
    waits = subst (λ i. Waits home known left.decoded i) (sym e) w;
    chunks = refl;
    drawings = refl;
    decisions = refl;
    layers = refl;
    back = refl;
    own = refl;
  }

  all_brought : (of : ChunkKind) → resolved_before of home known left ≡ all_resolved home known left → IsResolved home known left it
      → Entered home known of left it
  all_brought of on r = record {
    now = nothing_pending (with_files it.inherited r.reached left);
    on = on ∙ r.is known (knows_same known);
    waits = r.waits;
    chunks = refl;
    drawings = refl;
    decisions = refl;
    layers = refl;
    back = refl;
    own = refl;
  }

  entered : (of : ChunkKind) → ResolvesAt of home known left before → ResolvesBefore of home known left None before it → Entered home known of left it
  entered kind.Dictionary r h = all_brought kind.Dictionary refl (h r)
  entered kind.Mask r h = all_brought kind.Mask refl (h r)
  entered kind.Info r h = none_brought kind.Info refl r h.1
  entered kind.Include r h = none_brought kind.Include refl r h.1
  entered kind.Front r h = none_brought kind.Front refl r h.1
  entered kind.Back r h = none_brought kind.Back refl r h.1
  entered kind.Refused r h = none_brought kind.Refused refl r h.1
  entered kind.Passed r h = none_brought kind.Passed refl r h.1

module _ (given : Given) (rest : List ℕ) (head : Head) (before : FileReader) (it : Resolving) (names : List (List ℕ)) (known : Known)
    (so : IsKnown names known given) (f : IsEntering given rest head before) where
  abbrev now : Given
  now = f.stands.now

  abbrev later : FileReader
  later = record before { includes = it }

  abbrev here : IsBefore now head before
  here = subst (λ s. StandsAt now s before) f.stage_is f.stands.stands

  abbrev left : Left
  left = here.left

  -- the chunk among the file's acts
  goes : GoOnFrom here.acts (begun_at head) (acts_of (chunks_of given.bytes))
  goes = subst (λ bytes. GoOnFrom here.acts (begun_at head) (acts_of (chunks_of bytes))) (sym f.stands.bytes_are)
      (subst (λ x. GoOnFrom x.acts x.chunk (acts_of (chunks_of (now.bytes ++ rest)))) (sym here.walks.acts_are)
      (acts_go_on here.walks.told (chunks_of (now.bytes ++ rest)) (here.walks.goes rest)))

  abbrev last : Left → PageRead
  last = read_from now.home now.known (close_in given.mark given.bytes) goes.2

  abbrev brought : Left → Step
  brought = at_data now.home head (data_of ([] ++ goes.0) goes.1)

  reads : (home : Home) (known : Known) → now.home ≡ home → now.known ≡ known
      → read given ≡ read_from home known (close_in given.mark given.bytes) (Reads head (data_of ([] ++ goes.0) goes.1) ∷ goes.2) left
      → read given ≡ after (and_then (resolved_before (kind_of head.id) now.home now.known left) brought) last
  reads home known h k is = is
      ∙ ap (λ x. read_from x known (close_in given.mark given.bytes) (Reads head (data_of ([] ++ goes.0) goes.1) ∷ goes.2) left) (sym h)
      ∙ ap (λ x. read_from now.home x (close_in given.mark given.bytes) (Reads head (data_of ([] ++ goes.0) goes.1) ∷ goes.2) left) (sym k)
      ∙ ap (λ fault. after (and_then (at_header now.home now.known head fault left) brought) last) here.fine

  is : read given ≡ after (and_then (resolved_before (kind_of head.id) now.home now.known left) brought) last
  is = reads given.home given.known f.stands.within.home f.stands.known_is
      (reads_on given here.acts (Reads head (data_of ([] ++ goes.0) goes.1) ∷ goes.2) left goes.3
      (subst (λ k. step_through given.home k here.acts at_start ≡ On left) f.stands.known_is
      (subst (λ h. step_through h now.known here.acts at_start ≡ On left) f.stands.within.home here.on)))

  grows : (from : Left) → Below from.told (after (brought from) last).left.told
  grows from = after_below from.told (brought from) last (from_below now.home now.known (close_in given.mark given.bytes) goes.2)
      (data_below now.home head (data_of ([] ++ goes.0) goes.1) from)

  kept : IsLeft left before later
  kept = record {
    drawn = here.tallies.drawn_are;
    same = refl;
    layers = here.keeps.layers_are ∙ here.tallies.last_is;
    decisions = ticks_alone before left.told.decisions here.none here.decisions_are;
  }

  stands : ResolvesAt (kind_of head.id) now.home now.known left it → StandsBefore given rest later
  stands r = record {
    now = now;
    within = f.stands.within;
    bytes_are = f.stands.bytes_are;
    known_is = f.stands.known_is;
    stands = subst (λ s. StandsAt now s later) (sym f.stage_is) (record {
      acts = here.acts;
      left = left;
      of = record { home_is = here.of.home_is; is_table = here.of.is_table; origin_is = here.of.origin_is; counts = here.of.counts };
      walks = here.walks;
      on = here.on;
      fine = here.fine;
      none = here.none;
      keeps = here.keeps;
      resolves = r;
      decisions_are = here.decisions_are;
      tallies = record {
        chunks_are = here.tallies.chunks_are;
        drawn_are = here.tallies.drawn_are;
        last_is = here.tallies.last_is;
      };
    });
  }

  stops : (of : ChunkKind) → read given ≡ after (and_then (resolved_before of now.home now.known left) brought) last
      → ResolvesAt of now.home now.known left before.includes → (stop : PageStep)
      → ResolvesBefore of now.home now.known left (Some stop) before.includes it
      → (ResolvesAt of now.home now.known left it → StandsBefore given rest later) → Answers given rest stop before later
  stops kind.Dictionary e r stop h stands = stop_answers given rest left before later kept now.home now.known (λ from. after (brought from) last)
      (e ∙ after_then (all_resolved now.home now.known left) brought last) grows stop (h r) stands
  stops kind.Mask e r stop h stands = stop_answers given rest left before later kept now.home now.known (λ from. after (brought from) last)
      (e ∙ after_then (all_resolved now.home now.known left) brought last) grows stop (h r) stands
  stops kind.Info e r stop h stands = let wrong : Some stop ≡ None = h.0 in absurd (cc)
  stops kind.Include e r stop h stands = let wrong : Some stop ≡ None = h.0 in absurd (cc)
  stops kind.Front e r stop h stands = let wrong : Some stop ≡ None = h.0 in absurd (cc)
  stops kind.Back e r stop h stands = let wrong : Some stop ≡ None = h.0 in absurd (cc)
  stops kind.Refused e r stop h stands = let wrong : Some stop ≡ None = h.0 in absurd (cc)
  stops kind.Passed e r stop h stands = let wrong : Some stop ≡ None = h.0 in absurd (cc)

  abbrev Brings : Option PageStep → Type 0
  Brings answer = (left : Left) → ResolvesBefore (kind_of head.id) (home_of before.role (arc_value before.table) names before.file) known left answer
      before.includes it

  brings_here : (answer : Option PageStep) → Brings answer → ResolvesBefore (kind_of head.id) now.home now.known left answer before.includes it
  brings_here answer h =
      let same : now.home.names ≡ names = ap (λ h. h.names) f.stands.within.home ∙ so.names_are in
      let home : home_of before.role (arc_value before.table) names before.file ≡ now.home =
      sym (here.of.home_is ∙ ap (λ n. home_of before.role (arc_value before.table) n before.file) same) in
      subst (λ k. ResolvesBefore (kind_of head.id) now.home k left answer before.includes it) (sym so.known_is ∙ sym f.stands.known_is)
      (subst (λ x. ResolvesBefore (kind_of head.id) x known left answer before.includes it) home (h left))

  pub enter_stops : (stop : PageStep) → Brings (Some stop) → Answers given rest stop before later
  enter_stops stop h = stops (kind_of head.id) is here.resolves stop (brings_here (Some stop) h) stands

  -- the includes are resolved
  module _ (h : Brings None) where
    come : Entered now.home now.known (kind_of head.id) left it
    come = entered now.home now.known left before.includes it (kind_of head.id) here.resolves (brings_here None h)

    tallied : (reader : FileReader) → reader.chunks ≡ before.chunks → reader.drawn ≡ before.drawn → Tallies come.now reader
    tallied reader a b = record {
      chunks_are = a ∙ here.tallies.chunks_are ∙ sym come.chunks;
      drawn_are = b ∙ here.tallies.drawn_are ∙ ap length (sym come.drawings);
      last_is = come.layers ∙ here.tallies.last_is ∙ ap last_layers (sym come.drawings);
    }

    -- no memory for the chunk's reader
    pub enter_lacks : (kept_now : Keeping) → kept_now.layers ≡ before.kept.layers
        → Answers given rest step.OutOfMemory before (record later { kept = kept_now })
    enter_lacks kept_now e =
        let below = subst (λ r. Below come.now.told r.left.told) (sym (is ∙ ap (λ s. after (and_then s brought) last) come.on)) (grows come.now) in
        let ticks : TicksExactly come.now.told.decisions 0 (decisions_in later) = kept.decisions ∙ ap (λ n. ticked n 0) (sym come.decisions) in
        memory_answer given rest before (record later { kept = kept_now }) come.now.told come.now.told.decisions below.drawings below.decisions
        (kept.drawn ∙ ap length (sym come.drawings)) refl
        (exact_within come.now.told.decisions come.now.told.decisions (decisions_in later) (omega arith) ticks)
        (e ∙ kept.layers ∙ ap last_layers (sym come.drawings))

    -- the chunk is at hand
    pub enter_begins : (after_it : FileReader) → Begins head later after_it → Moves given rest before after_it
    enter_begins after_it b =
        let table : now.home.table ≡ arc_value before.table = ap (λ x. x.table) here.of.home_is in
        let keeps : Keeps (arc_value before.table) come.now.decoded before.kept = record {
          layers_are = here.keeps.layers_are ∙ sym come.layers;
          own_is = here.keeps.own_is ∙ sym come.own;
          background = subst (λ t. Background t come.now.decoded.layers come.now.decoded.back before.kept.back) table
              (subst (λ l. Background now.home.table l come.now.decoded.back before.kept.back) (sym come.layers)
              (subst (λ chunks. Background now.home.table left.decoded.layers chunks before.kept.back) (sym come.back) here.keeps.background));
        } in
        let so_far : ActsTold = record { acts = here.acts; chunk = begun_at head } in
        let reader : FileReader = record later { kept = after_it.kept; chunk = Some b.chunk; stage = stage.Walking } in
        subst (λ r. Moves given rest before r) (sym b.is) (record {
          drawn = refl;
          stands = record {
            now = now;
            within = f.stands.within;
            bytes_are = f.stands.bytes_are;
            known_is = f.stands.known_is;
            stands = record {
              so_far = so_far;
              left = come.now;
              of = record { home_is = here.of.home_is; is_table = here.of.is_table; origin_is = here.of.origin_is; counts = here.of.counts };
              walks = here.walks;
              holds = record {
                on = ap (λ s. and_then s (λ left. at_header now.home now.known head (header_fault now.home.role left head) left)) here.on
                    ∙ ap (λ fault. at_header now.home now.known head fault left) here.fine ∙ come.on;
                holds_chunk = record {
                  head_is = b.head_is;
                  opens = subst (λ t. Opens t head come.now.decoded [] after_it.kept b.chunk.opened) (sym table)
                      (b.opens come.now.decoded keeps (sym come.waits.inherited));
                  few = omega (arith, b.none_read);
                };
                waits = come.waits;
                decisions_are = here.decisions_are ∙ ap (λ n. ticked n 0) (sym come.decisions);
                tallies = tallied reader refl refl;
              };
            };
          };
        })

    -- what the beginning of the chunk answers
    pub enter_comes : (answer : Option PageStep) (mid new : FileReader) → mid ≡ later → MayLackMemory answer → (answer ≡ None → Begins head mid new)
        → (answer ≢ None → new ≡ record mid { kept = new.kept }) → new.kept.layers ≡ mid.kept.layers → ComesTo given rest answer before new
    enter_comes None mid new e m begun same layers = enter_begins new (subst (λ x. Begins head x new) e (begun refl))
    enter_comes (Some answer) mid new e m begun same layers =
        let some : Some answer ≢ None = λ w. let wrong : Some answer ≡ None = w in cc in
        subst (λ a. Answers given rest a before new) (sym m)
        (subst (λ x. Answers given rest step.OutOfMemory before x) (sym (same some ∙ ap {A = FileReader} (λ x. record x { kept = new.kept }) e))
        (enter_lacks new.kept (layers ∙ ap {A = FileReader} (λ x. x.kept.layers) e)))
