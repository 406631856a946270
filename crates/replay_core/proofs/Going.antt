-- A page's decoder takes a step, and is given outlines.
use Rattle.std.proofs.Common.{◌≡◌, ◌<◌, ℕ, Bool, true, false, cond, eqb, Option, Some, None, is_some, List, length, refl, sym, ap, ◌∙◌, subst, arith}
use Rattle.std.specs.Prelude.{slice_get, Result as Answered, Ok, Err, OnOk}
use Rattle.std.proofs.lemmas.Bool.{eqb-true, eq-eqb, ne_eqb, true≢false}
use Rattle.std.proofs.lemmas.List.{length-map}
use Rattle.std.proofs.lemmas.Option.{slice_get_within}
use Rattle.djvu_base.specs.Announced.{Announced}
use Rattle.djvu_base.specs.Library.{Mark, File}
use Rattle.djvu_base.specs.Meter.{TicksExactly}
use Rattle.djvu_base.specs.declared.faults.Fault.{Fault}
use Rattle.djvu_base.proofs.Ticks.{ticked_none}
use Rattle.include_graph.specs.declared.outline.Outline.{Outline}
use Rattle.include_graph.specs.declared.reader.OutlineStep.TheVariants as outline_step
use Rattle.include_graph.specs.declared.reader.OutlineStep.{OutlineStep}
use Rattle.include_graph.specs.Fed.{Outlining, Fed as OutlineFed, Reports}
use Rattle.include_graph.specs.Outlines.{outline_of}
use Rattle.jb2_records.specs.declared.results.FileResult.{FileResult}
use Rattle.page_decoder.specs.declared.decoder.PageStep.{PageStep}
use Rattle.page_decoder.specs.declared.decoder.PageStep.TheVariants as page_step
use Rattle.page_decoder.specs.Decoder.{KnowsOutline, drawn_with}
use Rattle.page_decoder.specs.Given.{Known, Given, KnowsMore}
use Rattle.page_decoder.specs.Libraries.{outline_in_file, outlines_in}
use Rattle.page_decoder.specs.PageFed.{Decoding, Fed, StaysSo}
use Rattle.page_decoder.specs.Resolving.{given_at}
use Rattle.replay_core.specs.declared.core_calls.CoreStep.{CoreStep}
use Rattle.replay_core.specs.declared.core_calls.CoreStep.TheVariants as step
use Rattle.replay_core.specs.Counts.{Counts}
use Rattle.replay_core.specs.CoreFiles.{FilePart, FileBy, FileStands}
use Rattle.replay_core.specs.Core.{CoreSeen, Stands, StandsSo, results_by}
use Rattle.replay_core.specs.CoreSteps.{Reads, GoesOn, GoesWith, ToldBy, GaveOutline, LacksOutline, OutlineBy, answer_or, stop_at}
use Rattle.replay_core.specs.Machine.{PageState, State}
use Rattle.replay_core.proofs.Beginning.{item_there}
use Rattle.replay_core.proofs.Joining.{decodes_none, goes_both, went_both, failed_too}
use Rattle.replay_core.proofs.Reading.{Laws, Stepped, most_so, pauses_so, came_drew, came_finished, came_refused, came_bytes, came_outline, came_file}

-- the law of readers of outlines
abbrev pub ReadersReport : Type 0
ReadersReport = (mark : Mark) (bytes : List ℕ) (reader : Outlining) → OutlineFed mark bytes reader → Reports reader.answered (outline_of mark bytes)

-- a core that stands has each file of its names
pub file_there : (state : State) (counts : Counts) (core : CoreSeen) → StandsSo state counts core → length core.inside.files ≡ length core.names
    → (file : ℕ) (part : FilePart) → slice_get core.inside.files file ≡ Some part
    → (it : File) × (slice_get state.library file ≡ Some it) × FileStands it (given_at (slice_get core.inside.results file)) part
file_there state counts core stands many file part e =
    let within = slice_get_within core.inside.files file part e in
    let names : length state.library ≡ length core.names = sym (length-map state.library (λ (f : File). f.name)) ∙ ap length stands.names in
    let it = item_there state.library file (subst (λ n. file < n) (many ∙ sym names) within) in
    (it.0, it.1, stands.files file it.0 part it.1 e)

-- where its outline is known to the core, it is the file's
known_outline : (it : File) (result : Option FileResult) (reader : Option Outlining) (known : Option Outline) (bytes : List ℕ) (outline : Outline)
    → reader ≡ None → known ≡ Some outline → FileBy reader known it result bytes → outline_of it.mark it.bytes ≡ Some outline
known_outline it result (Some reader) known bytes outline none e by = absurd (let wrong : Some reader ≡ None = none in cc)
known_outline it result None None bytes outline none e by = absurd (let wrong : None ≡ Some outline = e in cc)
known_outline it result None (Some found) bytes outline none e by = by.known ∙ e

-- while it is read, it isn't known
reported : (answer : OutlineStep) (found : Option Outline) → answer ≡ outline_step.NeedBytes → Reports answer found → found ≡ None
reported answer found e reports = subst (λ a. Reports a found) e reports

pub unknown_outline : ReadersReport → (it : File) (result : Option FileResult) (reader : Option Outlining) (known : Option Outline) (bytes : List ℕ)
    → is_some reader ≡ true → FileBy reader known it result bytes → outline_of it.mark it.bytes ≡ None
unknown_outline report it result None known bytes some by = absurd (true≢false (sym some))
unknown_outline report it result (Some reader) known bytes some by =
    reported reader.answered (outline_of it.mark it.bytes) by.needs (report it.mark it.bytes reader by.fed)

module _ (laws : Laws) (core : CoreSeen) (was is : Decoding) (answer : PageStep) (before after : ℕ) (stepped : Stepped was is answer before after) where
  abbrev Tells : Option CoreStep → Type 0
  Tells told = (state : State) (counts : Counts) (page : PageState) → StandsSo state counts core → was.drawn ≡ page.drawn
      → Reads core.table state.library (results_by core.inside.results) page.file was
      → ToldBy told core.table state.library (results_by core.inside.results) page is

  goes_so : (told : Option CoreStep) → Tells told → GoesOn core core was is told before after
  unfolding GoesOn Stands
  goes_so told tells state counts number page stands there drawn reads = record {
    own_ticks = stepped.rise.0;
    file_ticks = 0;
    decodes = decodes_none state counts page (answer_or told) core stands;
    own = stepped.rise.1;
    meter = subst (λ n. TicksExactly n before after) (omega arith) stepped.rise.2;
    told = tells state counts page stands drawn reads;
  }

  pub goes_drew : (notice : Announced) → answer ≡ page_step.Drew notice → GoesOn core core was is (Some (step.Drew notice)) before after
  goes_drew notice e = goes_so (Some (step.Drew notice)) (λ state counts page stands drawn reads.
      came_drew laws core.table stands.is_table state.library (results_by core.inside.results) stands.built page was is answer before after stepped reads
      drawn notice e)

  pub goes_finished : answer ≡ page_step.Finished → GoesOn core core was is (Some step.Finished) before after
  goes_finished e = goes_so (Some step.Finished) (λ state counts page stands drawn reads.
      came_finished laws core.table stands.is_table state.library (results_by core.inside.results) stands.built page was is answer before after stepped
      reads drawn e)

  pub goes_refused : (fault : Fault) → answer ≡ page_step.Refused fault → GoesOn core core was is (Some (step.Refused fault)) before after
  goes_refused fault e = goes_so (Some (step.Refused fault)) (λ state counts page stands drawn reads.
      came_refused laws core.table stands.is_table state.library (results_by core.inside.results) stands.built page was is answer before after stepped
      reads drawn fault e)

  pub goes_bytes : answer ≡ page_step.NeedBytes → GoesOn core core was is (Some step.NeedBytes) before after
  goes_bytes e = goes_so (Some step.NeedBytes) (λ state counts page stands drawn reads.
      came_bytes laws core.table stands.is_table state.library (results_by core.inside.results) stands.built page was is answer before after stepped
      reads drawn e)

  pub goes_failed : GoesOn core core was is (Some step.OutOfMemory) before after
  goes_failed = goes_so (Some step.OutOfMemory) (λ state counts page stands drawn reads.
      most_so laws core.table stands.is_table state.library (results_by core.inside.results) stands.built page was is answer before after stepped
      reads drawn)

  pub goes_pausing : drawn_with answer was.drawn ≡ was.drawn → GoesOn core core was is None before after
  goes_pausing stays = goes_so None (λ state counts page stands drawn reads.
      pauses_so laws core.table stands.is_table state.library (results_by core.inside.results) stands.built page was is answer before after stepped
      reads drawn stays)

  -- the page needs a file whose outline isn't known
  pub goes_lacking : ReadersReport → length core.inside.files ≡ length core.names → (file : ℕ) → answer ≡ page_step.NeedOutline file
      → LacksOutline core.inside.files file is is → GoesOn core core was is (Some (step.NeedFile file)) before after
  goes_lacking report many file e lacks = goes_so (Some (step.NeedFile file)) (λ state counts page stands drawn reads.
      let there = file_there state counts core stands many file lacks.part lacks.is_part in
      came_outline laws core.table stands.is_table state.library (results_by core.inside.results) stands.built page was is answer before after stepped
      reads drawn file e (ap outline_in_file there.1
      ∙ unknown_outline report there.0 (given_at (slice_get core.inside.results file)) lacks.part.reader lacks.part.outline lacks.part.bytes lacks.unknown
      there.2.by))

-- ---- gifts

-- the outline of one file more is known
outlined_too : ℕ → Outline → Known → Known
outlined_too file outline known =
    record { outlines = λ other. cond (eqb other file) (Some outline) (known.outlines other); results = known.results }

knows_outline : (file : ℕ) (outline : Outline) (known : Known) → KnowsOutline file outline known (outlined_too file outline known)
unfolding outlined_too
knows_outline file outline known = record {
  given = ap (λ t. cond t (Some outline) (known.outlines file)) (eq-eqb file file refl);
  others = λ other apart. ap (λ t. cond t (Some outline) (known.outlines other)) (ne_eqb other file apart);
  results = λ other. refl;
}

knows_more : (file : ℕ) (outline : Outline) (known all : Known) → KnowsMore known all → all.outlines file ≡ Some outline
    → KnowsMore (outlined_too file outline known) all
unfolding outlined_too
knows_more file outline known all more there = record {
  outlines = λ other found e. by other found (eqb other file) refl e;
  results = more.results;
}
  where
    by : (other : ℕ) (found : Outline) (t : Bool) → eqb other file ≡ t → cond (eqb other file) (Some outline) (known.outlines other) ≡ Some found
        → all.outlines other ≡ Some found
    by other found true is e =
        ap all.outlines (eqb-true other file is) ∙ there
        ∙ sym (ap (λ t. cond t (Some outline) (known.outlines other)) is) ∙ e
    by other found false is e = more.outlines other found (sym (ap (λ t. cond t (Some outline) (known.outlines other)) is) ∙ e)

pub goes_given : (core : CoreSeen) (was is : Decoding) (count : ℕ) (file : ℕ) → length core.inside.files ≡ length core.names
    → GaveOutline core.inside.files file was is → StaysSo was is → GoesOn core core was is None count count
unfolding GoesOn Stands
goes_given core was is count file many gave stays state counts number page stands there drawn reads =
    let its = file_there state counts core stands many file gave.part gave.is_part in
    let known : outlines_in state.library file ≡ Some gave.outline = ap outline_in_file its.1
    ∙ known_outline its.0 (given_at (slice_get core.inside.results file)) gave.part.reader gave.part.outline gave.part.bytes gave.outline gave.read
    gave.is_known its.2.by in
    let more = outlined_too file gave.outline reads.given.known in
    record {
      own_ticks = 0;
      file_ticks = 0;
      decodes = decodes_none state counts page step.NeedBytes core stands;
      own = stays.decisions_are ∙ sym (ticked_none was.decisions);
      meter = sym (ticked_none count);
      told = record {
        reads = record {
          given = record reads.given { known = more };
          fed = gave.fed reads.given more (knows_outline file gave.outline reads.given.known) reads.fed;
          home = reads.home;
          known = knows_more file gave.outline reads.given.known (record { outlines = outlines_in state.library; results = results_by core.inside.results })
              reads.known known;
          bytes = reads.bytes;
          mark = reads.mark;
        };
        drawn = stays.drawn_is ∙ drawn;
      };
    }

-- what came of the gift of an outline
pub outline_by : {A E : Type 0} → (files : List FilePart) (file : ℕ) (was is : Decoding) (part : FilePart) (outline : Outline) (answer : Answered A E)
    (told : Option CoreStep) → told ≡ stop_at answer → slice_get files file ≡ Some part → part.reader ≡ None → part.outline ≡ Some outline
    → ((given : Given) (known : Known) → KnowsOutline file outline given.known known → Fed given was → OnOk answer (Fed (record given { known = known }) is))
    → OnOk answer ((is.failed ≡ false) × (is.to_ask < was.to_ask)) → OutlineBy told files file was is
outline_by files file was is part outline answer told e there read known fed ok =
    subst (λ t. OutlineBy t files file was is) (sym e) (by answer fed ok)
  where
    by : {A E : Type 0} (answer : Answered A E)
        → ((given : Given) (known : Known) → KnowsOutline file outline given.known known → Fed given was
        → OnOk answer (Fed (record given { known = known }) is))
        → OnOk answer ((is.failed ≡ false) × (is.to_ask < was.to_ask)) → OutlineBy (stop_at answer) files file was is
    by (Ok done) fed ok = record {
      part = part;
      is_part = there;
      read = read;
      outline = outline;
      is_known = known;
      fed = fed;
      works = ok.0;
    }
    by (Err error) fed ok = tt

module _ (laws : Laws) (report : ReadersReport) (core : CoreSeen) (was is : Decoding) (answer : PageStep) (before after : ℕ)
    (stepped : Stepped was is answer before after) (file : ℕ) where
  pub goes_outline : length core.inside.files ≡ length core.names → answer ≡ page_step.NeedOutline file → (then : Decoding) (told : Option CoreStep)
      → OutlineBy told core.inside.files file is then → StaysSo is then → GoesOn core core was then told before after
  goes_outline many e then told came stays = by told came
    where
      by : (told : Option CoreStep) → OutlineBy told core.inside.files file is then → GoesOn core core was then told before after
      by None gave = goes_both None core core core was is then before after after
          (goes_pausing laws core was is answer before after stepped (ap (λ a. drawn_with a was.drawn) e))
          (goes_given core is then after file many gave stays) (record { table = refl; names = refl; pages = refl })
      by (Some (step.NeedFile needed)) lacks =
          subst (λ n. GoesOn core core was then (Some (step.NeedFile n)) before after) (sym lacks.0)
          (subst (λ d. GoesOn core core was d (Some (step.NeedFile file)) before after) (sym lacks.1.same)
          (goes_lacking laws core was is answer before after stepped report many file e (record {
            part = lacks.1.part;
            is_part = lacks.1.is_part;
            unknown = lacks.1.unknown;
            same = refl;
          })))
      by (Some step.OutOfMemory) failed = failed_too core core was is then before after (goes_failed laws core was is answer before after stepped)
          stays.decisions_are
      by (Some (step.Drew notice)) never = absurd never
      by (Some step.NeedBytes) never = absurd never
      by (Some step.Finished) never = absurd never
      by (Some (step.Refused fault)) never = absurd never

  pub goes_file : answer ≡ page_step.NeedFile file → (new : CoreSeen) (then : Decoding) (told : Option CoreStep) (last : ℕ)
      → GoesWith file core new is then told after last → GoesOn core new was then told before last
  unfolding GoesOn GoesWith Stands
  goes_file e new then told last more state counts number page stands there drawn reads =
      let paused = goes_pausing laws core was is answer before after stepped (ap (λ a. drawn_with a was.drawn) e) state counts number page stands there
      drawn reads in
      went_both state counts page told core core new was is then before after last paused
      (more state paused.decodes.after number page paused.decodes.stands there paused.told.drawn paused.told.reads
      (λ lacks. came_file laws core.table stands.is_table state.library (results_by core.inside.results) stands.built page was is answer before after
      stepped reads drawn file e lacks)
      (most_so laws core.table stands.is_table state.library (results_by core.inside.results) stands.built page was is answer before after stepped
      reads drawn)) refl
