-- A page that is drawn from one file that it needs to the next.
use Rattle.std.proofs.Common.{◌≡◌, ◌≢◌, ◌<◌, ◌||◌, ℕ, suc, Bool, true, false, Option, Some, None, Ok, List, length, refl, sym, ap, ◌∙◌, subst}
use Rattle.std.specs.Prelude.{slice_get}
use Rattle.djvu_base.specs.Library.{Files, names_of}
use Rattle.djvu_outside.specs.Faults.{Failure}
use Rattle.page_decoder.specs.Libraries.{run}
use Rattle.replay_core.specs.Counts.{Counts}
use Rattle.replay_core.specs.Machine.{PageState, State, unread_page}
use Rattle.viewer_run.specs.declared.core_run.CoreRun.{CoreRun}
use Rattle.viewer_run.specs.declared.core_run.Halt.{Halt}
use Rattle.viewer_run.specs.declared.core_run.Halt.TheVariants as halt
use Rattle.viewer_run.specs.CoreRun.{Follows, FileComes, StopsBefore, CanDraw, CanStep, ToHalt, HaltsAt, end_at, StopsAt, unread, with_file}
use Rattle.viewer_run.specs.Shown.{BrokenCounts}
use Rattle.viewer_run.proofs.Joining.{counts_both, or_assoc}
use Rattle.viewer_run.proofs.Stepping.{page_of}
use Rattle.viewer_run.proofs.Onward.{GoOn, GoBoth}
use Rattle.viewer_run.proofs.Paging.{needs_stop}
use Rattle.viewer_run.proofs.Unread.{one_read}
use Rattle.viewer_run.proofs.OnPage.{OnPage, on_steps, halts_now, NoticesStay, IsSoundBy, on_file}
use Rattle.viewer_run.proofs.Halted.{NeedsOpen, need_open, halt_can}

pub record DrawsOn (told : Option Files) (page : ℕ) (old now : CoreRun) (lines : List ℕ) (failures_old failures_now : List Failure)
    (faults_old faults_now count_old count_now : ℕ) : Type 0 where
  pub on : (state : State) (counts : Counts) (file : ℕ) → Follows state counts old → slice_get state.pages page ≡ Some (unread_page file)
      → OnPage told page file state counts old now lines failures_old failures_now count_old count_now
  pub can : CanStep page now
  pub names : now.names ≡ old.names
  pub failed : (failed : Bool) × (now.broken ≡ (old.broken || failed)) × BrokenCounts failed faults_old faults_now

-- where a page halts, in each state that its core follows
abbrev pub HaltsSo : Halt → ℕ → CoreRun → CoreRun → List ℕ → List ℕ → ℕ → ℕ → Type 0
HaltsSo halted_at page old new lines_old lines_new count_old count_new =
    (state : State) (counts : Counts) (here : PageState) → Follows state counts old → slice_get state.pages page ≡ Some here
    → ToHalt (Ok halted_at) page here state counts old new lines_old lines_new count_old count_new

-- a page that can be stepped still can when another file came
can_still : (told : Option Files) (page needed : ℕ) (old new : CoreRun) (failures_old failures_new : List Failure) (faults_old faults_new : ℕ)
    (can : CanDraw page old) (file : ℕ) → slice_get old.pages page ≡ Some file → slice_get old.read.items file ≡ Some true
    → slice_get old.read.items needed ≡ Some false
    → FileComes told needed can.state can.counts old new failures_old failures_new faults_old faults_new → CanStep page new
can_still told page needed old new failures_old failures_new faults_old faults_new can file found flag unread_so comes =
    let apart : file ≢ needed = λ e. let both : Some true ≡ Some false = sym flag ∙ ap (slice_get old.read.items) e ∙ unread_so in cc in
    record {
      can = record {
        state = with_file old.core.table can.state needed comes.bytes comes.end;
        counts = can.counts;
        follows = comes.follows;
        seen = can.seen;
        is = ap (λ l. slice_get l page) comes.pages ∙ can.is;
        open_ = can.open_;
        there = can.there;
      };
      file = file;
      is_file = ap (λ l. slice_get l page) comes.same.pages ∙ found;
      read = comes.others file apart ∙ flag;
    }

module _ (told : Option Files) (page : ℕ) (old mid ran : CoreRun) (lines_mid lines_new : List ℕ) (failures_old failures_mid : List Failure)
    (faults_old faults_mid count_old count_mid count_new : ℕ) (halted_at : Halt)
    (draws : DrawsOn told page old mid lines_mid failures_old failures_mid faults_old faults_mid count_old count_mid)
    (halts : HaltsSo halted_at page mid ran lines_mid lines_new count_mid count_new) where
  abbrev can : CanDraw page mid
  can = draws.can.can

  pub here_of : (here : PageState) × (slice_get can.state.pages page ≡ Some here) × (here.file ≡ draws.can.file)
  here_of = page_of can.state can.counts mid page draws.can.file can.follows draws.can.is_file

  pub halted_can : ToHalt (Ok halted_at) page here_of.0 can.state can.counts mid ran lines_mid lines_new count_mid count_new
  halted_can = halts can.state can.counts here_of.0 can.follows here_of.1

  pub its_names : ran.names ≡ old.names
  its_names = halted_can.stepped.names ∙ draws.names

  pub its_core : ran.core.names ≡ ran.names
  its_core = halted_can.stepped.follows.core_names

  pub its_broken : ran.broken ≡ mid.broken
  its_broken = halted_can.stepped.broken

  pub its_failed : (failed : Bool) × (ran.broken ≡ (old.broken || failed)) × BrokenCounts failed faults_old faults_mid
  its_failed = (draws.failed.0, its_broken ∙ draws.failed.1, draws.failed.2)

  pub its_need : NeedsOpen → (needed : ℕ) → halted_at ≡ halt.Need needed
      → (slice_get ran.read.items needed ≡ Some false) × (needed < length ran.names)
  its_need law needed e =
      need_open page here_of.0 can.state can.counts mid ran lines_mid lines_new count_mid count_new halted_at halted_can law needed
      (subst (λ h. HaltsAt h (run mid.core.table can.state.library here_of.0.file).end) e halted_can.halts)

  pub its_can : end_at halted_at ≡ None → CanDraw page ran
  its_can open_so =
      halt_can page here_of.0 can.state can.counts mid ran lines_mid lines_new count_mid count_new halted_at halted_can can.seen can.is can.there open_so

  pub its_on : (state : State) (counts : Counts) (file : ℕ) → Follows state counts old → slice_get state.pages page ≡ Some (unread_page file)
      → OnPage told page file state counts old ran lines_new failures_old failures_mid count_old count_new
  its_on state counts file follows found =
      let was = draws.on state counts file follows found in
      on_steps told page file state counts old mid ran lines_mid lines_new failures_old failures_mid count_old count_mid count_new was halted_at
      (halts was.gone.went.after was.gone.went.counted_so was.here was.gone.went.follows was.is_here)

  pub its_halts : (state : State) (counts : Counts) (file : ℕ) (follows : Follows state counts old)
      (found : slice_get state.pages page ≡ Some (unread_page file))
      → HaltsAt halted_at (run old.core.table (its_on state counts file follows found).gone.went.after.library file).end
  unfolding its_on
  its_halts state counts file follows found =
      let was = draws.on state counts file follows found in
      halts_now told page file state counts old mid ran lines_mid lines_new failures_old failures_mid count_old count_mid count_new was halted_at
      (halts was.gone.went.after was.gone.went.counted_so was.here was.gone.went.follows was.is_here)

-- a needed file was read, or there was no memory for it
module _ (told : Option Files) (page needed : ℕ) (old mid ran new : CoreRun) (lines_mid lines_new : List ℕ)
    (failures_old failures_mid failures_new : List Failure) (faults_old faults_mid faults_new count_old count_mid count_new : ℕ)
    (draws : DrawsOn told page old mid lines_mid failures_old failures_mid faults_old faults_mid count_old count_mid)
    (halts : HaltsSo (halt.Need needed) page mid ran lines_mid lines_new count_mid count_new) (law : NeedsOpen)
    (over : (files : Files) → told ≡ Some files → old.names ≡ names_of files) where
  abbrev need_so : (slice_get ran.read.items needed ≡ Some false) × (needed < length ran.names)
  need_so =
      its_need told page old mid ran lines_mid lines_new failures_old failures_mid faults_old faults_mid count_old count_mid count_new (halt.Need needed)
      draws halts law needed refl

  abbrev can_ran : CanDraw page ran
  can_ran =
      its_can told page old mid ran lines_mid lines_new failures_old failures_mid faults_old faults_mid count_old count_mid count_new (halt.Need needed)
      draws halts refl

  abbrev its_here : PageState
  its_here =
      (here_of told page old mid ran lines_mid lines_new failures_old failures_mid faults_old faults_mid count_old count_mid count_new (halt.Need needed)
      draws halts).0

  abbrev halted_so : ToHalt (Ok (halt.Need needed)) page its_here draws.can.can.state draws.can.can.counts mid ran lines_mid lines_new count_mid count_new
  halted_so =
      halted_can told page old mid ran lines_mid lines_new failures_old failures_mid faults_old faults_mid count_old count_mid count_new
      (halt.Need needed) draws halts

  pub draws_stop : ((state : State) (counts : Counts) → Follows state counts ran
      → StopsBefore told needed ran failures_mid failures_new faults_mid faults_new)
      → (state : State) (counts : Counts) (file : ℕ) → Follows state counts old → slice_get state.pages page ≡ Some (unread_page file)
      → StopsAt told page file state counts old failures_old failures_new count_old count_new
  draws_stop stops state counts file follows found =
      let now =
      its_on told page old mid ran lines_mid lines_new failures_old failures_mid faults_old faults_mid count_old count_mid count_new (halt.Need needed)
      draws halts state counts file follows found in
      let need =
      its_halts told page old mid ran lines_mid lines_new failures_old failures_mid faults_old faults_mid count_old count_mid count_new
      (halt.Need needed) draws halts state counts file follows found in
      needs_stop told page file needed state counts old ran new failures_old failures_mid failures_new faults_mid faults_new count_old count_new now.gone
      need_so.0 need_so.1 need over (stops now.gone.went.after now.gone.went.counted_so now.gone.went.follows)

  module _ (comes : (state : State) (counts : Counts) → Follows state counts ran
      → FileComes told needed state counts ran new failures_mid failures_new faults_mid faults_new) where
    pub draws_less : suc (unread new.read.items) ≡ unread mid.read.items
    draws_less =
        let came = comes can_ran.state can_ran.counts can_ran.follows in
        one_read ran.read.items new.read.items needed (came.follows.flags ∙ ap length came.same.names ∙ sym can_ran.follows.flags) need_so.0 came.flagged
        came.others
        ∙ ap unread halted_so.stepped.read

    pub draws_more : GoOn → GoBoth → NoticesStay → IsSoundBy
        → (failed : Bool) × (new.broken ≡ (ran.broken || failed)) × BrokenCounts failed faults_mid faults_new
        → DrawsOn told page old new lines_new failures_old failures_new faults_old faults_new count_old count_new
    draws_more on both stay sound failed =
        let came = comes can_ran.state can_ran.counts can_ran.follows in
        let steps = halted_so.stepped in
        record {
          on = λ state counts file follows found.
              let now =
              its_on told page old mid ran lines_mid lines_new failures_old failures_mid faults_old faults_mid count_old count_mid count_new
              (halt.Need needed) draws halts state counts file follows found in
              let need =
              its_halts told page old mid ran lines_mid lines_new failures_old failures_mid faults_old faults_mid count_old count_mid count_new
              (halt.Need needed) draws halts state counts file follows found in
              on_file told page file needed state counts old ran new lines_new failures_old failures_mid failures_new faults_mid faults_new count_old
              count_new now need_so.0 need_so.1 need over on both stay sound
              (comes now.gone.went.after now.gone.went.counted_so now.gone.went.follows);
          can =
              can_still told page needed ran new failures_mid failures_new faults_mid faults_new can_ran draws.can.file
              (ap (λ l. slice_get l page) steps.pages ∙ draws.can.is_file) (ap (λ l. slice_get l draws.can.file) steps.read ∙ draws.can.read) need_so.0
              came;
          names = came.same.names ∙ steps.names ∙ draws.names;
          failed = (
            draws.failed.0 || failed.0,
            failed.1 ∙ ap (λ b. b || failed.0) (steps.broken ∙ draws.failed.1) ∙ or_assoc old.broken draws.failed.0 failed.0,
            counts_both draws.failed.0 failed.0 faults_old faults_mid faults_new draws.failed.2 failed.2,
          );
        }
