-- What a core decodes of a file, by what it keeps of it, is what the library's file comes to.
use Rattle.std.proofs.Common.{◌≡◌, ◌≢◌, ◌≤◌, ℕ, true, Option, Some, None, is_some, ◌⊎◌, inl, inr, List, refl, sym, ap, ◌∙◌, subst, arith}
use Rattle.std.specs.Prelude.{slice_get, slice_set, sum_by, unwrap_or}
use Rattle.std.proofs.lemmas.Bool.{true≢false}
use Rattle.std.proofs.lemmas.Option.{slice_get_within}
use Rattle.djvu_base.specs.Library.{Mark, Open, mark_of, File, Library}
use Rattle.djvu_base.specs.Meter.{TicksExactly, ticked}
use Rattle.djvu_base.specs.declared.ends.FileEnd.{FileEnd}
use Rattle.djvu_base.specs.declared.ends.FileEnd.TheVariants as file_end
use Rattle.zp_table.specs.declared.rows.Row.{Row}
use Rattle.zp_table.specs.Rows.{IsTable}
use Rattle.include_graph.specs.declared.outline.Outline.{Outline}
use Rattle.include_graph.specs.Fed.{Outlining}
use Rattle.include_graph.specs.Outlines.{outline_of}
use Rattle.include_graph.specs.Verdicts.{is_among, outline_in}
use Rattle.std.specs.declared.sync.Arc.{Arc}
use Rattle.jb2_records.specs.declared.results.FileResult.{FileResult}
use Rattle.jb2_records.specs.declared.results.FileResult.TheVariants as gift
use Rattle.page_decoder.specs.Decoder.{RiseTogether}
use Rattle.page_decoder.specs.FileDecoding.{KnowsResults, included}
use Rattle.page_decoder.specs.FileReading.{mark_by}
use Rattle.page_decoder.specs.Given.{Page, Included, Known, Given, Front, Within}
use Rattle.page_decoder.specs.Libraries.{names_in, outline_in_file, outlines_in, given_in, run_given, res_of, is_reached, FileGoesOn, LibraryGoesOn}
use Rattle.page_decoder.specs.Needs.{IsMade, Built, HasNoFault}
use Rattle.page_decoder.specs.PageRead.{NeedFile}
use Rattle.page_decoder.specs.Read.{FileDone, read, decode}
use Rattle.page_decoder.specs.Resolving.{given_at, result_in, result_from}
use Rattle.page_decoder.specs.Results.{Result}
use Rattle.replay_core.specs.declared.core_calls.CoreStep.{CoreStep}
use Rattle.replay_core.specs.declared.core_calls.CoreStep.TheVariants as step
use Rattle.replay_core.specs.Counts.{spent_on}
use Rattle.replay_core.specs.CoreFiles.{FilePart, FileBy, FileStands, IsWanted}
use Rattle.replay_core.specs.Core.{CoreParts, CoreSeen, core_of, FileAfter, decoded, cut_off, results_by, Stands, IsCore}
use Rattle.replay_core.specs.CoreSteps.{DecodesBy, DecodesFor, Decodes, done_by, end_mark, step_of}
use Rattle.replay_core.proofs.Listing.{some_same, set_here, set_length}
use Rattle.replay_core.proofs.Gaining.{makes}
use Rattle.replay_core.proofs.Going.{ReadersReport, file_there, unknown_outline}
use Rattle.replay_core.proofs.Lasting.{PageLaws}
use Rattle.replay_core.proofs.Making.{MakingLaws, HasOutline, made_outlined}
use Rattle.replay_core.proofs.Outlined.{OutlinesStay, Alone, outlined_decoded}
use Rattle.replay_core.proofs.Standing.{MadeResults}
use Rattle.replay_core.proofs.Summing.{ticked_again, rises_alike}

-- ---- what the decoder of a file answers

-- by these bytes and this end
pub record DoneBy (table : List Row) (names : List (List ℕ)) (file : ℕ) (bytes : List ℕ) (mark : Mark) (results : List (Option FileResult))
    (gave : FileResult) (decisions : ℕ) : Type 0 where
  pub result : gave ≢ gift.NoMemory → (known : Known) → KnowsResults results known
      → result_in gave ≡ Some (decode (included table names file known bytes mark)).result
  pub exactly : gave ≢ gift.NoMemory → (known : Known) → KnowsResults results known
      → TicksExactly (decode (included table names file known bytes mark)).decisions 0 decisions
  pub at_most : (known : Known) → KnowsResults results known → decisions ≤ ticked (decode (included table names file known bytes mark)).decisions 0

pub known_there : {Z : Type 0} (found : Option (Arc Outline Z)) → is_some found ≡ true → is_some (outline_in found) ≡ true
known_there None e = e
known_there (Some outline) e = refl

pub end_told : (end : Option FileEnd) → mark_of (unwrap_or end file_end.Whole) ≡ end_mark end
end_told None = refl
end_told (Some end) = refl

pub done_so : (core : CoreSeen) (file : ℕ) (part : FilePart) (table : List Row) (names : List (List ℕ)) (bytes : List ℕ) (mark : Mark)
    (results : List (Option FileResult)) (gave : FileResult) (decisions : ℕ) → DoneBy table names file bytes mark results gave decisions
    → table ≡ core.table → names ≡ core.names → bytes ≡ part.bytes → mark ≡ end_mark part.end → results ≡ core.inside.results
    → is_some part.outline ≡ true → DecodesBy core file part gave decisions
done_so core file part table names bytes mark results gave decisions done same_table same_names same_bytes same_mark same_results known =
    let by_table = subst (λ t. DoneBy t names file bytes mark results gave decisions) same_table done in
    let by_names = subst (λ n. DoneBy core.table n file bytes mark results gave decisions) same_names by_table in
    let by_bytes = subst (λ b. DoneBy core.table core.names file b mark results gave decisions) same_bytes by_names in
    let by_mark = subst (λ m. DoneBy core.table core.names file part.bytes m results gave decisions) same_mark by_bytes in
    let it = subst (λ r. DoneBy core.table core.names file part.bytes (end_mark part.end) r gave decisions) same_results by_mark in
    record {
      result = it.result;
      exactly = it.exactly;
      at_most = it.at_most;
      unknown = λ none. absurd (true≢false (sym known ∙ ap is_some none));
    }

-- ---- what that is in the library

-- a file's decoding comes to this, or there was no memory
pub record Gives (all : FileDone) (gave : FileResult) (decisions : ℕ) : Type 0 where
  pub result : gave ≢ gift.NoMemory → result_in gave ≡ Some all.result
  pub exactly : gave ≢ gift.NoMemory → TicksExactly all.decisions 0 decisions
  pub at_most : decisions ≤ ticked all.decisions 0

nothing_given : (all : FileDone) (gave : FileResult) (decisions : ℕ) → gave ≡ gift.NoMemory → decisions ≡ 0 → Gives all gave decisions
nothing_given all gave decisions none zero = record {
  result = λ some. absurd (some none);
  exactly = λ some. absurd (some none);
  at_most = subst (λ n. n ≤ ticked all.decisions 0) (sym zero) (omega arith);
}

ended : (end : Option FileEnd) (it seen : File) → FileGoesOn seen it → mark_by end ≡ it.mark
    → (seen.mark ≡ Open) ⊎ (end_mark end ≡ seen.mark)
ended end it seen on mark = by end mark on.bytes
  where
    by : (end : Option FileEnd) → mark_by end ≡ it.mark
        → ((seen.mark ≡ Open) × Front seen.bytes it.bytes) ⊎ ((seen.bytes ≡ it.bytes) × (seen.mark ≡ it.mark))
        → (seen.mark ≡ Open) ⊎ (end_mark end ≡ seen.mark)
    by end mark (inl still) = inl still.0
    by None mark (inr same) = inl (same.1 ∙ sym mark)
    by (Some end) mark (inr same) = inr (mark ∙ sym same.1)

module _ (table : List Row) (is : IsTable table) (library : Library) (parts : CoreParts) (page file : ℕ)
    (made : IsMade table library (results_by parts.results) page file) (has : HasOutline library file) (laws : MakingLaws) (alone : Alone)
    (outlines : OutlinesStay) (report : ReadersReport) (it : File) (here : slice_get library file ≡ Some it) (part : FilePart)
    (stands : FileStands it None part) (gave : FileResult) (decisions : ℕ)
    (done : DecodesBy (core_of table (names_in library) parts) file part gave decisions) where
  abbrev R : ℕ → Option Result
  R = results_by parts.results

  abbrev All : FileDone
  All = decode (given_in Included table library file R)

  known : Known
  known = record { outlines = outlines_in library; results = R }

  knows : KnowsResults parts.results known
  unfolding known
  knows = record { results_are = λ other. refl }

  its_outline : outline_of it.mark it.bytes ≡ Some has.outline
  its_outline = ap outline_in_file (sym here) ∙ has.known

  same_done : IsWanted it has.outline part.bytes → done_by (core_of table (names_in library) parts) file part known ≡ All
  unfolding known
  same_done wanted =
      ap (λ bytes. decode (included table (names_in library) file known bytes (end_mark part.end))) wanted.bytes_are
      ∙ outlined_decoded table is library R page file made has alone laws.decoded outlines it wanted.seen here wanted.goes_on wanted.known
      (end_mark part.end) known (ended part.end it wanted.seen wanted.goes_on stands.mark) (λ other. refl)

  gives_known : IsWanted it has.outline part.bytes → Gives All gave decisions
  gives_known wanted =
      let same = same_done wanted in
      record {
        result = λ some. done.result some known knows ∙ ap (λ (d : FileDone). Some d.result) same;
        exactly = λ some. done.exactly some known knows ∙ ap (λ (d : FileDone). ticked d.decisions 0) same;
        at_most = subst (λ (d : FileDone). decisions ≤ ticked d.decisions 0) same (done.at_most known knows);
      }

  pub gives : Gives All gave decisions
  gives = by part.reader part.outline refl stands.by
    where
      by : (reader : Option Outlining) (outline : Option Outline) → part.outline ≡ outline → FileBy reader outline it None part.bytes
          → Gives All gave decisions
      by (Some reader) outline e reads =
          let none = unknown_outline report it None (Some reader) outline part.bytes refl reads in
          let wrong : None ≡ Some has.outline = sym none ∙ its_outline in
          absurd (cc)
      by None None e tt =
          let none = done.unknown e in
          nothing_given All gave decisions none.0 none.1
      by None (Some outline) e is_known =
          let same : outline ≡ has.outline = some_same outline has.outline (sym is_known.known ∙ its_outline) in
          gives_known (subst (λ o. IsWanted it o part.bytes) same
          (is_known.wanted refl (subst (λ (o : Outline). HasNoFault o.items) (sym same) has.clean)))

-- ---- what it costs

-- so many decisions are counted, which the meter ticked
pub record Costs (all : FileDone) (gave : FileResult) (ticks : ℕ) : Type 0 where
  pub decisions : ℕ
  pub same : ticked decisions 0 ≡ ticked ticks 0
  pub most : decisions ≤ all.decisions
  pub whole : gave ≢ gift.NoMemory → decisions ≡ all.decisions

most_cut : (decisions all : ℕ) → decisions ≤ ticked all 0 → decisions ≤ all
most_cut decisions all most = omega (arith, most)

pub costs : (all : FileDone) (gave : FileResult) (decisions ticks : ℕ) → Gives all gave decisions → TicksExactly ticks 0 decisions → Costs all gave ticks
costs all gave decisions ticks gives rise = by gave gives
  where
    known : (gave : FileResult) → Gives all gave decisions → gave ≢ gift.NoMemory → Costs all gave ticks
    known gave gives some = record {
      decisions = all.decisions;
      same = sym (gives.exactly some) ∙ rise;
      most = omega arith;
      whole = λ there. refl;
    }

    by : (gave : FileResult) → Gives all gave decisions → Costs all gave ticks
    by (gift.Dictionary shapes) gives = known (gift.Dictionary shapes) gives (λ wrong. absurd (cc))
    by gift.Nothing gives = known gift.Nothing gives (λ wrong. absurd (cc))
    by (gift.Refused fault) gives = known (gift.Refused fault) gives (λ wrong. absurd (cc))
    by gift.NoMemory gives = record {
      decisions = decisions;
      same = ap (λ n. ticked n 0) rise ∙ ticked_again ticks;
      most = most_cut decisions all.decisions gives.at_most;
      whole = λ some. absurd (some refl);
    }

some_given : (gave : FileResult) (result : Result) → result_in gave ≡ Some result → gave ≢ gift.NoMemory
some_given gave result e none = absurd (let wrong : None ≡ Some result = ap result_in (sym none) ∙ e in cc)

after_so : (table : List Row) (library : Library) (page file : ℕ) (gave : FileResult) (decisions : ℕ) → is_reached table library file page ≡ true
    → decisions ≤ (res_of table library file).decisions → (gave ≢ gift.NoMemory → decisions ≡ (res_of table library file).decisions)
    → FileAfter (step_of (Some gave)) table library page file None (Some decisions)
after_so table library page file gave decisions reach most whole = by gave whole
  where
    known : (answer : CoreStep) → decisions ≡ (res_of table library file).decisions → FileAfter answer table library page file None (Some decisions)
    known answer same = subst (λ n. FileAfter answer table library page file None (Some n)) (sym same) (decoded reach)

    by : (gave : FileResult) → (gave ≢ gift.NoMemory → decisions ≡ (res_of table library file).decisions)
        → FileAfter (step_of (Some gave)) table library page file None (Some decisions)
    by (gift.Dictionary shapes) whole = known step.NeedBytes (whole (λ wrong. absurd (cc)))
    by gift.Nothing whole = known step.NeedBytes (whole (λ wrong. absurd (cc)))
    by (gift.Refused fault) whole = known step.NeedBytes (whole (λ wrong. absurd (cc)))
    by gift.NoMemory whole = cut_off decisions refl reach most

-- ---- the core

pub record DecodingLaws (table : List Row) : Type 0 where
  pub making : MakingLaws
  pub pages : PageLaws table
  pub same : (library : Library) → LibraryGoesOn library library
  pub alone : Alone
  pub outlines : OutlinesStay
  pub report : ReadersReport
  pub results : MadeResults
  pub need : (table : List Row) (library : Library) (results : ℕ → Option Result) (page file : ℕ)
      → (read (given_in Page table library page results)).end ≡ NeedFile file → IsMade table library results page file
  pub within : (table : List Row) (library : Library) (results : ℕ → Option Result) (page : ℕ) → Built table library results
      → Within (given_in Page table library page results) (run_given table library page)
  pub reached : (less more : Given) (file : ℕ) → IsTable less.home.table → Within less more
      → is_among file (read less).left.told.reached ≡ true → is_among file (read more).left.told.reached ≡ true

pub decodes_file : (table : List Row) (names : List (List ℕ)) (parts : CoreParts) → IsCore names parts → (IsTable table → DecodingLaws table)
    → (file : ℕ) (part kept : FilePart) → slice_get parts.files file ≡ Some part → slice_get parts.results file ≡ Some None
    → (gave : FileResult) (decisions before after : ℕ) → DecodesBy (core_of table names parts) file part gave decisions
    → RiseTogether 0 decisions before after → ((it : File) → FileStands it None part → FileStands it (Some gave) kept)
    → DecodesFor file (core_of table names parts)
    (core_of table names (record parts { files = slice_set parts.files file kept; results = slice_set parts.results file (Some gave) })) before after
unfolding DecodesFor Stands
decodes_file table names parts it laws_of file part kept is_part first gave decisions before after done rise forgets state counts number page stands is_page
    needs =
    let laws = laws_of stands.is_table in
    let lacks : results_by parts.results file ≡ None = ap (λ r. result_from (given_at r)) first in
    let made = laws.need table state.library (results_by parts.results) page.file file (needs lacks) in
    let has = made_outlined laws.making.order table state.library (results_by parts.results) page.file file made in
    let reach : is_reached table state.library file page.file ≡ true = laws.reached (given_in Page table state.library page.file (results_by parts.results))
    (run_given table state.library page.file) file stands.is_table (laws.within table state.library (results_by parts.results) page.file stands.built)
    made.reached in
    let there = file_there state counts (core_of table names parts) stands it.files file part is_part in
    let its : FileStands there.0 None part = subst (λ r. FileStands there.0 r part) (ap given_at first) there.2 in
    let by : DecodesBy (core_of table (names_in state.library) parts) file part gave decisions =
    subst (λ n. DecodesBy (core_of table n parts) file part gave decisions) (sym stands.names) done in
    let gives = gives table stands.is_table state.library parts page.file file made has laws.making laws.alone laws.outlines laws.report there.0 there.1
    part its gave decisions by in
    let same = (laws.results table state.library (results_by parts.results) page.file file stands.built made).1 in
    let cost = costs (res_of table state.library file) gave decisions rise.0 (subst (λ all. Gives all gave decisions) (sym same) gives) rise.1 in
    let answered : step_of (given_at (slice_get (slice_set parts.results file (Some gave)) file)) ≡ step_of (Some gave) =
    ap (λ r. step_of (given_at r)) (set_here parts.results file (Some gave) (slice_get_within parts.results file None first)) in
    let gained = makes table laws.making laws.pages laws.same state counts names parts stands it.results number page is_page file gave cost.decisions
    first made reach (record {
      result = λ result e.
          let some = some_given gave result e in (
            some_same result (decode (given_in Included table state.library file (results_by parts.results))).result (sym e ∙ gives.result some),
            cost.whole some,
          );
      most = cost.most;
    }) kept part is_part forgets (step_of (Some gave)) rise.0
    (after_so table state.library page.file file gave cost.decisions reach cost.most cost.whole)
    (rises_alike (sum_by spent_on counts.files) cost.decisions rise.0 cost.same) in
    record {
      ticks = rise.0;
      decodes = subst (λ answer. Decodes state counts page answer (core_of table names parts)
          (core_of table names (record parts { files = slice_set parts.files file kept; results = slice_set parts.results file (Some gave) })) rise.0)
          (sym answered) gained;
      meter = rise.2;
    }

-- what the core keeps to stays, where a file was decoded
pub core_decoded : (names : List (List ℕ)) (parts : CoreParts) (files : List FilePart) → IsCore names (record parts { files = files })
    → (file : ℕ) (gave : FileResult)
    → IsCore names (record parts { files = files; results = slice_set parts.results file (Some gave) })
core_decoded names parts files it file gave = record {
  ascending = it.ascending;
  few = it.few;
  files = it.files;
  results = set_length parts.results file (Some gave) ∙ it.results;
  below = it.below;
  found = it.found;
  placed = it.placed;
}
