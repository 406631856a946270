-- A core that goes on for a page, and on.
use Rattle.std.proofs.Common.{◌≡◌, ◌<◌, ◌≤◌, ℕ, ◌+◌, Option, Some, None, List, refl, sym, ◌∙◌, subst, arith}
use Rattle.std.specs.Prelude.{sum_by}
use Rattle.std.proofs.lemmas.Option.{slice_get_within}
use Rattle.djvu_base.specs.Library.{Library}
use Rattle.djvu_base.specs.Meter.{TicksExactly, ticked}
use Rattle.djvu_base.proofs.Ticks.{ticks_none, ticks_both}
use Rattle.zp_table.specs.declared.rows.Row.{Row}
use Rattle.page_decoder.specs.PageFed.{Decoding}
use Rattle.page_decoder.specs.Libraries.{run, res_of}
use Rattle.replay_core.specs.declared.core_calls.CoreStep.{CoreStep}
use Rattle.replay_core.specs.declared.core_calls.CoreStep.TheVariants as step
use Rattle.replay_core.specs.Counts.{Counts, spent_on}
use Rattle.replay_core.specs.Core.{CoreSeen, FileAfter, as_it_was, decoded, cut_off, Stands, results_by}
use Rattle.replay_core.specs.CoreSteps.{Reads, Decodes, Goes, GoesOn, SamePages, ToldBy, answer_or}
use Rattle.replay_core.specs.Machine.{PageState, State}
use Rattle.replay_core.proofs.Listing.{some_same}
use Rattle.replay_core.proofs.Beginning.{item_there}

-- a file that was decoded stays so
after_some : (answer : CoreStep) (table : List Row) (library : Library) (page file : ℕ) (was is : Option ℕ) → FileAfter answer table library page file was is
    → (decisions : ℕ) → was ≡ Some decisions → is ≡ Some decisions
after_some answer table library page file _ _ (as_it_was it) decisions e = e
after_some answer table library page file _ _ (decoded reach) decisions e = absurd (let wrong : None ≡ Some decisions = e in cc)
after_some answer table library page file _ _ (cut_off most failed reach within) decisions e = absurd (let wrong : None ≡ Some decisions = e in cc)

-- a file is decoded once
after_both : (answer : CoreStep) (table : List Row) (library : Library) (page file : ℕ) (was mid is : Option ℕ)
    → FileAfter step.NeedBytes table library page file was mid → FileAfter answer table library page file mid is
    → FileAfter answer table library page file was is
after_both answer table library page file _ _ is (as_it_was it) then = then
after_both answer table library page file _ _ is (decoded reach) then =
    subst (FileAfter answer table library page file None)
    (sym (after_some answer table library page file (Some (res_of table library file).decisions) is then (res_of table library file).decisions refl))
    (decoded reach)
after_both answer table library page file _ _ is (cut_off decisions wrong reach most) then =
    absurd (let no : step.NeedBytes ≡ step.OutOfMemory = wrong in cc)

-- where nothing is decoded
pub decodes_none : (state : State) (counts : Counts) (page : PageState) (answer : CoreStep) (core : CoreSeen) → Stands state counts core
    → Decodes state counts page answer core core 0
decodes_none state counts page answer core stands = record {
  after = counts;
  stands = stands;
  own = refl;
  places = refl;
  files = λ file was is e f. subst (FileAfter answer core.table state.library page.file file was) (some_same was is (sym e ∙ f)) (as_it_was was);
  count = ticks_none (ticked (sum_by spent_on counts.files) 0);
  results = λ file result e. e;
}

pub decodes_both : (state : State) (counts : Counts) (page : PageState) (answer : CoreStep) (old mid new : CoreSeen) (first last : ℕ)
    → (one : Decodes state counts page step.NeedBytes old mid first) → Decodes state one.after page answer mid new last → mid.table ≡ old.table
    → Decodes state counts page answer old new (first + last)
decodes_both state counts page answer old mid new first last one then same = record {
  after = then.after;
  stands = then.stands;
  own = then.own ∙ one.own;
  places = then.places ∙ one.places;
  files = λ file was is e f.
      let between = item_there one.after.files file (subst (λ n. file < n) (sym one.places) (slice_get_within counts.files file was e)) in
      after_both answer old.table state.library page.file file was between.0 is (one.files file was between.0 e between.1)
      (subst (λ t. FileAfter answer t state.library page.file file between.0 is) same (then.files file between.0 is between.1 f));
  count = ticks_both first last (ticked (sum_by spent_on counts.files) 0) (ticked (sum_by spent_on one.after.files) 0)
      (ticked (sum_by spent_on then.after.files) 0) one.count then.count;
  results = λ file result e. then.results file result (one.results file result e);
}

-- a decoder that stands
pub goes_none : (core : CoreSeen) (decoder : Decoding) (count : ℕ) → GoesOn core core decoder decoder None count count
unfolding GoesOn
goes_none core decoder count state counts number page stands is drawn reads = record {
  own_ticks = 0;
  file_ticks = 0;
  decodes = decodes_none state counts page step.NeedBytes core stands;
  own = ticks_none decoder.decisions;
  meter = ticks_none count;
  told = record { reads = reads; drawn = drawn };
}

-- a decoder that goes on, and on
pub went_both : (state : State) (counts : Counts) (page : PageState) (answer : Option CoreStep) (old mid new : CoreSeen) (first next last : Decoding)
    (before between after : ℕ) (went : Goes state counts page old mid first next None before between)
    → Goes state went.decodes.after page mid new next last answer between after → mid.table ≡ old.table
    → Goes state counts page old new first last answer before after
went_both state counts page answer old mid new first next last before between after went more same = record {
  own_ticks = went.own_ticks + more.own_ticks;
  file_ticks = went.file_ticks + more.file_ticks;
  decodes = decodes_both state counts page (answer_or answer) old mid new went.file_ticks more.file_ticks went.decodes more.decodes same;
  own = ticks_both went.own_ticks more.own_ticks first.decisions next.decisions last.decisions went.own more.own;
  meter = subst (λ n. TicksExactly n before after) (turn went.own_ticks went.file_ticks more.own_ticks more.file_ticks)
      (ticks_both (went.own_ticks + went.file_ticks) (more.own_ticks + more.file_ticks) before between after went.meter more.meter);
  told = subst (λ t. ToldBy answer t state.library (results_by new.inside.results) page last) same more.told;
}
  where
    turn : (a b c d : ℕ) → a + b + (c + d) ≡ a + c + (b + d)
    turn a b c d = omega arith

pub same_both : (old mid new : CoreSeen) → SamePages old mid → SamePages mid new → SamePages old new
same_both old mid new one then = record {
  table = then.table ∙ one.table;
  names = then.names ∙ one.names;
  pages = then.pages ∙ one.pages;
}

pub goes_both : (answer : Option CoreStep) (old mid new : CoreSeen) (first next last : Decoding) (before between after : ℕ)
    → GoesOn old mid first next None before between → GoesOn mid new next last answer between after → SamePages old mid
    → GoesOn old new first last answer before after
unfolding GoesOn
goes_both answer old mid new first next last before between after one then same state counts number page stands is drawn reads =
    let went = one state counts number page stands is drawn reads in
    went_both state counts page answer old mid new first next last before between after went
    (then state went.decodes.after number page went.decodes.stands is went.told.drawn
    (subst (λ t. Reads t state.library (results_by mid.inside.results) page.file next) (sym same.table) went.told.reads)) same.table

-- where there was no memory for a gift
pub failed_too : (old new : CoreSeen) (was is then : Decoding) (before after : ℕ) → GoesOn old new was is (Some step.OutOfMemory) before after
    → then.decisions ≡ is.decisions → GoesOn old new was then (Some step.OutOfMemory) before after
unfolding GoesOn
failed_too old new was is then before after went same state counts number page stands there drawn reads =
    let it = went state counts number page stands there drawn reads in
    record {
      own_ticks = it.own_ticks;
      file_ticks = it.file_ticks;
      decodes = it.decodes;
      own = same ∙ it.own;
      meter = it.meter;
      told = subst (λ n. n ≤ ticked (run old.table state.library page.file).left.told.decisions 0) (sym same) it.told;
    }
