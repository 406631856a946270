-- A page's decoder is given what a file gives, which was decoded for it, or before.
use Rattle.std.proofs.Common.{◌≡◌, ◌≢◌, ◌≤◌, ℕ, ◌+◌, Bool, true, false, cond, eqb, Option, Some, List, refl, sym, ap, ◌∙◌, subst, arith}
use Rattle.std.specs.Prelude.{slice_get, Result as Answered, Ok, Err, IfOk, IsErr}
use Rattle.std.specs.declared.alloc.AllocError.{AllocError}
use Rattle.std.proofs.lemmas.Bool.{eqb-true, eq-eqb, ne_eqb}
use Rattle.djvu_base.specs.Library.{Library}
use Rattle.djvu_base.specs.Meter.{TicksExactly, ticked}
use Rattle.djvu_base.proofs.Ticks.{ticks_none}
use Rattle.zp_table.specs.declared.rows.Row.{Row}
use Rattle.jb2_records.specs.declared.results.FileResult.{FileResult}
use Rattle.jb2_records.specs.declared.results.FileResult.TheVariants as gift
use Rattle.page_decoder.specs.Decoder.{KnowsResult}
use Rattle.page_decoder.specs.Given.{Known, Given, KnowsMore}
use Rattle.page_decoder.specs.Libraries.{outlines_in, run}
use Rattle.page_decoder.specs.PageFed.{Decoding, Fed, StaysSo}
use Rattle.page_decoder.specs.Resolving.{given_at, result_in, result_from}
use Rattle.page_decoder.specs.Results.{Result}
use Rattle.replay_core.specs.declared.core_calls.CoreStep.{CoreStep}
use Rattle.replay_core.specs.declared.core_calls.CoreStep.TheVariants as step
use Rattle.replay_core.specs.Counts.{Counts}
use Rattle.replay_core.specs.Core.{CoreSeen, FileAfter, as_it_was, decoded, cut_off, results_by}
use Rattle.replay_core.specs.CoreSteps.{Decodes, Goes, GoesWith, Finds, FindsFor, DecodesFor, stop_at, step_of}
use Rattle.replay_core.specs.Machine.{PageState, State}
use Rattle.replay_core.proofs.Joining.{decodes_none}

-- files that were decoded are that, though there is no memory behind them
pub file_fails : (answer : CoreStep) (table : List Row) (library : Library) (page file : ℕ) (was is : Option ℕ)
    → FileAfter answer table library page file was is → FileAfter step.OutOfMemory table library page file was is
file_fails answer table library page file _ _ (as_it_was it) = as_it_was it
file_fails answer table library page file _ _ (decoded reach) = decoded reach
file_fails answer table library page file _ _ (cut_off decisions failed reach most) = cut_off decisions refl reach most

pub decodes_failed : (state : State) (counts : Counts) (page : PageState) (answer : CoreStep) (old new : CoreSeen) (ticks : ℕ)
    → Decodes state counts page answer old new ticks → Decodes state counts page step.OutOfMemory old new ticks
decodes_failed state counts page answer old new ticks it = record {
  after = it.after;
  stands = it.stands;
  own = it.own;
  places = it.places;
  files = λ file was is e f. file_fails answer old.table state.library page.file file was is (it.files file was is e f);
  count = it.count;
  results = it.results;
}

-- ---- what is found

-- where it isn't decoded any more
pub decodes_nothing : (file : ℕ) (core : CoreSeen) (count : ℕ) → DecodesFor file core core count count
unfolding DecodesFor
decodes_nothing file core count state counts number page stands there needs = record {
  ticks = 0;
  decodes = decodes_none state counts page (step_of (given_at (slice_get core.inside.results file))) core stands;
  meter = ticks_none count;
}

found_step : (found : FileResult) → found ≢ gift.NoMemory → step_of (Some found) ≡ step.NeedBytes
found_step (gift.Dictionary shapes) there = refl
found_step gift.Nothing there = refl
found_step (gift.Refused fault) there = refl
found_step gift.NoMemory there = absurd (there refl)

found_result : (found : FileResult) → found ≢ gift.NoMemory → (result : Result) × (result_in found ≡ Some result)
found_result (gift.Dictionary shapes) there = (_, refl)
found_result gift.Nothing there = (_, refl)
found_result (gift.Refused fault) there = (_, refl)
found_result gift.NoMemory there = absurd (there refl)

pub finds_so : (file : ℕ) (old new : CoreSeen) (answer : Answered FileResult AllocError) (before after : ℕ) → DecodesFor file old new before after
    → IfOk answer (λ found. slice_get new.inside.results file ≡ Some (Some found)) → IfOk answer (λ found. found ≢ gift.NoMemory)
    → FindsFor file old new answer before after
unfolding DecodesFor FindsFor
finds_so file old new (Ok found) before after decodes kept there state counts number page stands is needs =
    let it = decodes state counts number page stands is needs in
    let result = found_result found there in
    record {
      ticks = it.ticks;
      decodes = subst (λ answer. Decodes state counts page answer old new it.ticks)
          (ap (λ r. step_of (given_at r)) kept ∙ found_step found there) it.decodes;
      meter = it.meter;
      is_found = (result.0, result.1, ap (λ r. result_from (given_at r)) kept ∙ result.1);
    }
finds_so file old new (Err error) before after decodes kept there state counts number page stands is needs =
    let it = decodes state counts number page stands is needs in
    record {
      ticks = it.ticks;
      decodes = decodes_failed state counts page (step_of (given_at (slice_get new.inside.results file))) old new it.ticks it.decodes;
      meter = it.meter;
      is_found = tt;
    }

-- ---- what is given

-- this is known of one file more
found_too : ℕ → Option Result → Known → Known
found_too file result known = record { outlines = known.outlines; results = λ other. cond (eqb other file) result (known.results other) }

knows_result : (file : ℕ) (result : Option Result) (known : Known) → KnowsResult file result known (found_too file result known)
unfolding found_too
knows_result file result known = record {
  given = ap (λ t. cond t result (known.results file)) (eq-eqb file file refl);
  others = λ other apart. ap (λ t. cond t result (known.results other)) (ne_eqb other file apart);
  outlines = λ other. refl;
}

knows_more : (file : ℕ) (result : Option Result) (known all : Known) → KnowsMore known all → all.results file ≡ result
    → KnowsMore (found_too file result known) all
unfolding found_too
knows_more file result known all more there = record {
  outlines = more.outlines;
  results = λ other found e. by other found (eqb other file) refl e;
}
  where
    by : (other : ℕ) (found : Result) (t : Bool) → eqb other file ≡ t → cond (eqb other file) result (known.results other) ≡ Some found
        → all.results other ≡ Some found
    by other found true is e =
        ap all.results (eqb-true other file is) ∙ there
        ∙ sym (ap (λ t. cond t result (known.results other)) is) ∙ e
    by other found false is e = more.results other found (sym (ap (λ t. cond t result (known.results other)) is) ∙ e)

pub stops_there : {A E : Type 0} (answer : Answered A E) → IsErr answer → stop_at answer ≡ Some step.OutOfMemory
stops_there (Ok done) failed = absurd (cc)
stops_there (Err error) failed = refl

-- there was no memory to find it
pub unfound : {A E : Type 0} (file : ℕ) (old new : CoreSeen) (was : Decoding) (answer : Answered A E) (error : AllocError) (before after : ℕ)
    → FindsFor file old new (Err error) before after → stop_at answer ≡ Some step.OutOfMemory
    → GoesWith file old new was was (stop_at answer) before after
unfolding FindsFor GoesWith
unfound file old new was answer error before after finds failed state counts number page stands there drawn reads needs most =
    let it = finds state counts number page stands there needs in
    subst (λ told. Goes state counts page old new was was told before after) (sym failed) (record {
      own_ticks = 0;
      file_ticks = it.ticks;
      decodes = it.decodes;
      own = ticks_none was.decisions;
      meter = subst (λ n. TicksExactly n before after) (omega arith) it.meter;
      told = most;
    })

pub given_so : {A E : Type 0} (file : ℕ) (old new : CoreSeen) (was is : Decoding) (found : FileResult) (answer : Answered A E) (before after : ℕ)
    → FindsFor file old new (Ok found) before after
    → ((given : Given) (known : Known) → KnowsResult file (result_in found) given.known known → Fed given was → Fed (record given { known = known }) is)
    → StaysSo was is → GoesWith file old new was is (stop_at answer) before after
unfolding FindsFor GoesWith
given_so file old new was is found answer before after finds fed stays state counts number page stands there drawn reads needs most =
    by answer
  where
    it : Finds state counts page file old new (Ok found) before after
    it = finds state counts number page stands there needs

    all : Known
    all = record { outlines = outlines_in state.library; results = results_by new.inside.results }

    more : Known
    more = found_too file (result_in found) reads.given.known

    knows : KnowsMore reads.given.known all
    knows = record {
      outlines = reads.known.outlines;
      results = λ other result e. it.decodes.results other result (reads.known.results other result e);
    }

    meter : TicksExactly (0 + it.ticks) before after
    meter = subst (λ n. TicksExactly n before after) (omega arith) it.meter

    own : TicksExactly 0 was.decisions is.decisions
    own = stays.decisions_are ∙ ticks_none was.decisions

    by : {A E : Type 0} (answer : Answered A E) → Goes state counts page old new was is (stop_at answer) before after
    by (Ok done) = record {
      own_ticks = 0;
      file_ticks = it.ticks;
      decodes = it.decodes;
      own = own;
      meter = meter;
      told = record {
        reads = record {
          given = record reads.given { known = more };
          fed = fed reads.given more (knows_result file (result_in found) reads.given.known) reads.fed;
          home = reads.home;
          known = knows_more file (result_in found) reads.given.known all knows (it.is_found.2 ∙ sym it.is_found.1);
          bytes = reads.bytes;
          mark = reads.mark;
        };
        drawn = stays.drawn_is ∙ drawn;
      };
    }
    by (Err error) = record {
      own_ticks = 0;
      file_ticks = it.ticks;
      decodes = decodes_failed state counts page step.NeedBytes old new it.ticks it.decodes;
      own = own;
      meter = meter;
      told = subst (λ n. n ≤ ticked (run old.table state.library page.file).left.told.decisions 0) (sym stays.decisions_are) most;
    }
