-- What a page's decoder answers is what the page tells in its library, as far as results are known.
use Rattle.std.proofs.Common.{◌≡◌, ◌≢◌, ◌≤◌, ℕ, zero, suc, Option, Some, None, inl, inr, List, [], ◌∷◌, length, take, map, true, false, refl, sym, ap, ◌∙◌, subst, arith, ◌⊎◌}
use Rattle.std.specs.Prelude.{⊤, slice_get, option_map}
use Rattle.std.proofs.lemmas.Option.{slice_get-map, slice_get_within}
use Rattle.djvu_base.specs.Announced.{Announced}
use Rattle.djvu_base.specs.Library.{Library}
use Rattle.djvu_base.specs.Meter.{TicksExactly, ticked}
use Rattle.djvu_base.specs.declared.faults.Fault.{Fault}
use Rattle.zp_table.specs.declared.rows.Row.{Row}
use Rattle.zp_table.specs.Rows.{IsTable}
use Rattle.include_graph.specs.Verdicts.{is_among}
use Rattle.page_decoder.specs.declared.decoder.PageStep.{PageStep}
use Rattle.page_decoder.specs.declared.decoder.PageStep.TheVariants as page_step
use Rattle.page_decoder.specs.Results.{Result}
use Rattle.page_decoder.specs.Given.{Page, Given, Within}
use Rattle.page_decoder.specs.PageRead.{Drawing, notice_of, last_layers, Ending, Finished, Refused, NeedBytes, NeedOutline, NeedFile, PageRead}
use Rattle.page_decoder.specs.Read.{read}
use Rattle.page_decoder.specs.PageFed.{Decoding, Fed}
use Rattle.page_decoder.specs.Decoder.{Entry, Draws as DrawsEntry, Ends as EndsEntry, entry_at, next_entry, answer_to, decisions_to, drawn_with, Shows, RiseTogether}
use Rattle.page_decoder.specs.Libraries.{outlines_in, given_in, run_given, run_end, run, is_reached}
use Rattle.page_decoder.specs.Needs.{Below, Lacks, Built}
use Rattle.replay_core.specs.Counts.{decisions_by}
use Rattle.replay_core.specs.CoreSteps.{Reads, Pauses, Draws, Stops, Ends}
use Rattle.replay_core.specs.Machine.{PageState, last_of, layers_drawn}
use Rattle.replay_core.proofs.Listing.{get_front}

-- ---- entries of a reading

-- the entry that an answer tells
abbrev EntryOf : PageStep → Entry → Type 0
EntryOf (page_step.Drew notice) entry = (drawing : Drawing) × (entry ≡ DrawsEntry drawing) × (notice ≡ notice_of drawing)
EntryOf page_step.NeedBytes entry = entry ≡ EndsEntry NeedBytes
EntryOf (page_step.NeedOutline file) entry = entry ≡ EndsEntry (NeedOutline file)
EntryOf (page_step.NeedFile file) entry = entry ≡ EndsEntry (NeedFile file)
EntryOf page_step.Finished entry = entry ≡ EndsEntry Finished
EntryOf (page_step.Refused fault) entry = entry ≡ EndsEntry (Refused fault)
EntryOf page_step.OutOfMemory entry = ⊤

entry_told : (entry : Entry) → EntryOf (answer_to entry) entry
entry_told (DrawsEntry drawing) = (drawing, refl, refl)
entry_told (EndsEntry Finished) = refl
entry_told (EndsEntry (Refused fault)) = refl
entry_told (EndsEntry NeedBytes) = refl
entry_told (EndsEntry (NeedOutline file)) = refl
entry_told (EndsEntry (NeedFile file)) = refl

entry_of : (answer : PageStep) (entry : Entry) → answer ≡ answer_to entry → EntryOf answer entry
entry_of answer entry e = subst (λ a. EntryOf a entry) (sym e) (entry_told entry)

drawing_there : (drawings : List Drawing) (drawn : ℕ) (end : Ending) (drawing : Drawing) → entry_at drawings drawn end ≡ DrawsEntry drawing
    → slice_get drawings drawn ≡ Some drawing
drawing_there [] drawn end drawing e = absurd (let wrong : EndsEntry end ≡ DrawsEntry drawing = e in cc)
drawing_there (first ∷ drawings) zero end drawing e = let same : DrawsEntry first ≡ DrawsEntry drawing = e in cc
drawing_there (first ∷ drawings) (suc drawn) end drawing e = drawing_there drawings drawn end drawing e

none_there : (drawings : List Drawing) (drawn : ℕ) (end other : Ending) → entry_at drawings drawn end ≡ EndsEntry other
    → (slice_get drawings drawn ≡ None) × (end ≡ other)
none_there [] drawn end other e = (refl, (let same : EndsEntry end ≡ EndsEntry other = e in cc))
none_there (first ∷ drawings) zero end other e = absurd (let wrong : DrawsEntry first ≡ EndsEntry other = e in cc)
none_there (first ∷ drawings) (suc drawn) end other e = none_there drawings drawn end other e

-- the layers of the last of so many drawings
last_shown : (drawings : List Drawing) (drawn : ℕ) → drawn ≤ length drawings
    → last_layers (take drawn drawings) ≡ last_of (map (λ (drawing : Drawing). drawing.layers) drawings) drawn
last_shown drawings zero le = refl
last_shown [] (suc drawn) le = absurd (omega (arith, le))
last_shown (first ∷ drawings) (suc zero) le = refl
last_shown (first ∷ []) (suc (suc drawn)) le = absurd (omega (arith, le))
last_shown (first ∷ second ∷ drawings) (suc (suc drawn)) le = last_shown (second ∷ drawings) (suc drawn) (omega (arith, le))

ticked_within : (n few many : ℕ) → n ≤ ticked few 0 → few ≤ many → n ≤ ticked many 0
ticked_within n few many le rises = omega (arith, le, rises)

-- ---- the laws of readings

pub record Laws : Type 0 where
  pub told : (less more : Given) → IsTable less.home.table → Within less more → Below (read less).left.told (read more).left.told
  pub finished : (less more : Given) → IsTable less.home.table → Within less more → (read less).end ≡ Finished → read more ≡ read less
  pub refused : (less more : Given) (fault : Fault) → IsTable less.home.table → Within less more → (read less).end ≡ Refused fault → read more ≡ read less
  pub unmet : (less more : Given) → IsTable less.home.table → Within less more → Lacks less more (read less).end → read more ≡ read less
  pub both : (less more most : Given) → Within less more → Within more most → Within less most
  pub reached : (given : Given) (file : ℕ) → is_among file (read given).left.told.reached ≡ true
      → ((result : Result) × (given.known.results file ≡ Some result)) ⊎ ((read given).end ≡ NeedFile file)
  pub pages : (table : List Row) (library : Library) (results : ℕ → Option Result) (page : ℕ) → Built table library results
      → Within (given_in Page table library page results) (run_given table library page)

-- what the clauses of a decoder's step say
pub record Stepped (was is : Decoding) (answer : PageStep) (count_old count_new : ℕ) : Type 0 where
  pub told : (given : Given) → Fed given was → answer ≢ page_step.OutOfMemory → answer ≡ answer_to (next_entry (read given) was.drawn)
  pub decisions : (given : Given) → Fed given was → answer ≢ page_step.OutOfMemory
      → TicksExactly (decisions_to (next_entry (read given) was.drawn) (read given)) 0 is.decisions
  pub at_most : (given : Given) → Fed given was → is.decisions ≤ ticked (read given).left.told.decisions 0
  pub shows : (given : Given) → Fed given was → Shows is.layers is.drawn (read given).left.told
  pub fed : (given : Given) → Fed given was → Fed given is
  pub rise : RiseTogether was.decisions is.decisions count_old count_new
  pub drawn : is.drawn ≡ drawn_with answer was.drawn
  pub going : answer ≢ page_step.OutOfMemory → is.failed ≡ false

module _ (laws : Laws) (table : List Row) (is_table : IsTable table) (library : Library) (results : ℕ → Option Result) (built : Built table library results)
    (page : PageState) where
  abbrev Known : Given
  Known = given_in Page table library page.file results

  abbrev Whole : Given
  Whole = run_given table library page.file

  module _ (was is : Decoding) (answer : PageStep) (count_old count_new : ℕ) (stepped : Stepped was is answer count_old count_new)
      (reads : Reads table library results page.file was) (drawn_is : was.drawn ≡ page.drawn) where
    within_known : Within reads.given Known
    within_known = record { home = reads.home; known = reads.known; bytes = inr (reads.bytes, reads.mark) }

    within_whole : Within reads.given Whole
    within_whole = laws.both reads.given Known Whole within_known (laws.pages table library results page.file built)

    table_so : IsTable reads.given.home.table
    table_so = subst (λ home. IsTable home.table) (sym reads.home) is_table

    pub reads_on : Reads table library results page.file is
    reads_on = record {
      given = reads.given;
      fed = stepped.fed reads.given reads.fed;
      home = reads.home;
      known = reads.known;
      bytes = reads.bytes;
      mark = reads.mark;
    }

    pub most_so : is.decisions ≤ ticked (run table library page.file).left.told.decisions 0
    most_so =
        let most = stepped.at_most reads.given reads.fed in
        let more = (laws.told reads.given Whole table_so within_whole).decisions in
        ticked_within is.decisions (read reads.given).left.told.decisions (run table library page.file).left.told.decisions most more

    -- the entry that was told
    entry_now : answer ≢ page_step.OutOfMemory → EntryOf answer (next_entry (read reads.given) page.drawn)
    entry_now some =
        subst (λ n. EntryOf answer (next_entry (read reads.given) n)) drawn_is
        (entry_of answer (next_entry (read reads.given) was.drawn) (stepped.told reads.given reads.fed some))

    decisions_now : answer ≢ page_step.OutOfMemory → TicksExactly (decisions_to (next_entry (read reads.given) page.drawn) (read reads.given)) 0 is.decisions
    decisions_now some =
        subst (λ n. TicksExactly (decisions_to (next_entry (read reads.given) n) (read reads.given)) 0 is.decisions) drawn_is
        (stepped.decisions reads.given reads.fed some)

    -- where the reading of the page is this one, it stands at its end
    stops_so : (end : Ending) → answer ≢ page_step.OutOfMemory → drawn_with answer was.drawn ≡ was.drawn
        → next_entry (read reads.given) page.drawn ≡ EndsEntry end → read Whole ≡ read reads.given
        → Stops table library results page is (run_end end)
    stops_so end some stays entry same =
        let there = none_there (read reads.given).left.told.drawings page.drawn (read reads.given).end end entry in
        let none : slice_get (run table library page.file).left.told.drawings page.drawn ≡ None =
        ap (λ (r : PageRead). slice_get r.left.told.drawings page.drawn) same ∙ there.0 in
        record {
          none = slice_get-map notice_of (run table library page.file).left.told.drawings page.drawn ∙ ap (option_map notice_of) none;
          end_is = ap (λ (r : PageRead). run_end r.end) same ∙ ap run_end there.1;
          drawn = stepped.drawn ∙ stays ∙ drawn_is;
          tells = record {
            reads = reads_on;
            decisions = decisions_now some
                ∙ ap (λ n. ticked n 0) (ap (λ e. decisions_to e (read reads.given)) entry
                ∙ ap (λ (r : PageRead). r.left.told.decisions) (sym same)
                ∙ sym (ap (λ d. decisions_by d (run table library page.file).left.told.decisions) none));
            works = stepped.going some;
          };
        }

    end_then : (end : Ending) → next_entry (read reads.given) page.drawn ≡ EndsEntry end → (read reads.given).end ≡ end
    end_then end entry = (none_there (read reads.given).left.told.drawings page.drawn (read reads.given).end end entry).1

    -- what is reached was given, where the page is over
    reached_so : (end : Ending) → (read reads.given).end ≡ end → ((file : ℕ) → end ≢ NeedFile file) → read Whole ≡ read reads.given
        → (file : ℕ) → is_reached table library file page.file ≡ true → (result : Result) × (results file ≡ Some result)
    reached_so end e over same file reach =
        by (laws.reached reads.given file (subst (λ (r : PageRead). is_among file r.left.told.reached ≡ true) same reach))
      where
        by : ((result : Result) × (reads.given.known.results file ≡ Some result)) ⊎ ((read reads.given).end ≡ NeedFile file)
            → (result : Result) × (results file ≡ Some result)
        by (inl known) = (known.0, reads.known.results file known.0 known.1)
        by (inr needs) = absurd (over file (sym e ∙ needs))

    layers_so : is.drawn ≡ page.drawn → read Whole ≡ read reads.given → is.layers ≡ layers_drawn table library page
    layers_so drawn same =
        let shows = stepped.shows reads.given reads.fed in
        let le : page.drawn ≤ length (read reads.given).left.told.drawings =
        subst (λ n. n ≤ length (read reads.given).left.told.drawings) drawn shows.0 in
        shows.1 ∙ ap (λ n. last_layers (take n (read reads.given).left.told.drawings)) drawn
        ∙ last_shown (read reads.given).left.told.drawings page.drawn le
        ∙ ap (λ (r : PageRead). last_of (map (λ (drawing : Drawing). drawing.layers) r.left.told.drawings) page.drawn) (sym same)

    ends_so : (end : Ending) → answer ≢ page_step.OutOfMemory → drawn_with answer was.drawn ≡ was.drawn → ((file : ℕ) → end ≢ NeedFile file)
        → next_entry (read reads.given) page.drawn ≡ EndsEntry end → read Whole ≡ read reads.given → Ends table library results page is (run_end end)
    ends_so end some stays over entry same =
        let stops = stops_so end some stays entry same in
        record {
          stops = stops;
          reached = reached_so end (end_then end entry) over same;
          layers = layers_so stops.drawn same;
        }

    pub came_drew : (notice : Announced) → answer ≡ page_step.Drew notice → Draws table library results page is notice
    came_drew notice e =
        let some : answer ≢ page_step.OutOfMemory = λ wrong. absurd (let no : page_step.Drew notice ≡ page_step.OutOfMemory = sym e ∙ wrong in cc) in
        let entry = subst (λ a. EntryOf a (next_entry (read reads.given) page.drawn)) e (entry_now some) in
        let drawings = (laws.told reads.given Whole table_so within_whole).drawings in
        let there = drawing_there (read reads.given).left.told.drawings page.drawn (read reads.given).end entry.0 entry.1 in
        let found : slice_get (run table library page.file).left.told.drawings page.drawn ≡ Some entry.0 =
        ap (λ l. slice_get l page.drawn) drawings.1
        ∙ get_front (read reads.given).left.told.drawings drawings.0 page.drawn
        (slice_get_within (read reads.given).left.told.drawings page.drawn entry.0 there) ∙ there in
        record {
          next = slice_get-map notice_of (run table library page.file).left.told.drawings page.drawn ∙ ap (option_map notice_of) found
              ∙ ap Some (sym entry.2);
          drawn = stepped.drawn ∙ ap (λ a. drawn_with a was.drawn) e ∙ ap suc drawn_is;
          tells = record {
            reads = reads_on;
            decisions = decisions_now some
                ∙ ap (λ n. ticked n 0) (ap (λ e. decisions_to e (read reads.given)) entry.1
                ∙ sym (ap (λ d. decisions_by d (run table library page.file).left.told.decisions) found));
            works = stepped.going some;
          };
        }

    pub came_finished : answer ≡ page_step.Finished → Ends table library results page is Finished
    came_finished e =
        let some : answer ≢ page_step.OutOfMemory = λ wrong. absurd (let no : page_step.Finished ≡ page_step.OutOfMemory = sym e ∙ wrong in cc) in
        let entry = subst (λ a. EntryOf a (next_entry (read reads.given) page.drawn)) e (entry_now some) in
        ends_so Finished some (ap (λ a. drawn_with a was.drawn) e) (λ file wrong. absurd (cc)) entry
        (laws.finished reads.given Whole table_so within_whole (end_then Finished entry))

    pub came_refused : (fault : Fault) → answer ≡ page_step.Refused fault → Ends table library results page is (Refused fault)
    came_refused fault e =
        let some : answer ≢ page_step.OutOfMemory = λ wrong. absurd (let no : page_step.Refused fault ≡ page_step.OutOfMemory = sym e ∙ wrong in cc) in
        let entry = subst (λ a. EntryOf a (next_entry (read reads.given) page.drawn)) e (entry_now some) in
        ends_so (Refused fault) some (ap (λ a. drawn_with a was.drawn) e) (λ file wrong. absurd (cc)) entry
        (laws.refused reads.given Whole fault table_so within_whole (end_then (Refused fault) entry))

    pub came_bytes : answer ≡ page_step.NeedBytes → Stops table library results page is NeedBytes
    came_bytes e =
        let some : answer ≢ page_step.OutOfMemory = λ wrong. absurd (let no : page_step.NeedBytes ≡ page_step.OutOfMemory = sym e ∙ wrong in cc) in
        let entry = subst (λ a. EntryOf a (next_entry (read reads.given) page.drawn)) e (entry_now some) in
        stops_so NeedBytes some (ap (λ a. drawn_with a was.drawn) e) entry
        (laws.unmet reads.given Whole table_so within_whole
        (subst (λ end. Lacks reads.given Whole end) (sym (end_then NeedBytes entry)) (reads.bytes, reads.mark)))

    -- the outline of this file isn't known
    pub came_outline : (file : ℕ) → answer ≡ page_step.NeedOutline file → outlines_in library file ≡ None
        → Stops table library results page is (NeedFile file)
    came_outline file e lacks =
        let some : answer ≢ page_step.OutOfMemory = λ wrong. absurd (let no : page_step.NeedOutline file ≡ page_step.OutOfMemory = sym e ∙ wrong in cc) in
        let entry = subst (λ a. EntryOf a (next_entry (read reads.given) page.drawn)) e (entry_now some) in
        stops_so (NeedOutline file) some (ap (λ a. drawn_with a was.drawn) e) entry
        (laws.unmet reads.given Whole table_so within_whole
        (subst (λ end. Lacks reads.given Whole end) (sym (end_then (NeedOutline file) entry)) lacks))

    -- what this file gives isn't known
    pub came_file : (file : ℕ) → answer ≡ page_step.NeedFile file → results file ≡ None → (read Known).end ≡ NeedFile file
    came_file file e lacks =
        let some : answer ≢ page_step.OutOfMemory = λ wrong. absurd (let no : page_step.NeedFile file ≡ page_step.OutOfMemory = sym e ∙ wrong in cc) in
        let entry = subst (λ a. EntryOf a (next_entry (read reads.given) page.drawn)) e (entry_now some) in
        let same = laws.unmet reads.given Known table_so within_known
        (subst (λ end. Lacks reads.given Known end) (sym (end_then (NeedFile file) entry)) lacks) in
        ap (λ (r : PageRead). r.end) same ∙ end_then (NeedFile file) entry

    pub pauses_so : drawn_with answer was.drawn ≡ was.drawn → Pauses table library results page is
    pauses_so stays = record { reads = reads_on; drawn = stepped.drawn ∙ stays ∙ drawn_is }
