-- A page that is drawn to its end, and gave its layers.
use Rattle.std.proofs.Common.{◌≡◌, ◌<◌, ◌≤◌, ◌+◌, ℕ, true, Option, Some, None, Ok, ◌⊎◌, List, [], ◌∷◌, length, map, refl, sym, ap, ◌∙◌, subst, arith}
use Rattle.std.specs.Prelude.{slice_get}
use Rattle.std.proofs.lemmas.List.{length-map, take_all}
use Rattle.djvu_base.specs.declared.faults.Fault.{Fault}
use Rattle.djvu_base.specs.Library.{Files}
use Rattle.djvu_base.specs.Name.{IsAscending}
use Rattle.djvu_outside.specs.Faults.{Failure}
use Rattle.zp_table.specs.Rows.{IsTable}
use Rattle.layer_compose.specs.declared.layers.Layers.{Layers}
use Rattle.page_decoder.specs.Given.{Given}
use Rattle.page_decoder.specs.Read.{read}
use Rattle.page_decoder.specs.PageRead.{Drawing, Ending, PageRead, notice_of, last_layers}
use Rattle.page_decoder.specs.Libraries.{drawn, shown_by, run, run_given}
use Rattle.replay_core.specs.declared.pages.CoreEnd.TheVariants as core_end
use Rattle.replay_core.specs.Core.{Stands, Takes}
use Rattle.replay_core.specs.CorePages.{PageSeen}
use Rattle.replay_core.specs.Counts.{Counts}
use Rattle.replay_core.specs.Machine.{PageState, State, last_of, layers_drawn, page_layers, page_notices}
use Rattle.viewer_words.specs.Lines.{name_at}
use Rattle.viewer_run.specs.declared.core_run.CoreRun.{CoreRun}
use Rattle.viewer_run.specs.declared.core_run.Halt.TheVariants as halt
use Rattle.viewer_run.specs.CoreRun.{Follows, ToHalt, HaltsAt, end_at, WentOn, GoneTo, DrawnTo, unread, with_needs}
use Rattle.viewer_run.specs.Found.{shown_found}
use Rattle.viewer_run.specs.Texts.{lines_of}
use Rattle.viewer_run.proofs.Paging.{read_same}
use Rattle.viewer_run.proofs.OnPage.{OnPage, on_steps, run_now, halts_now, IsSoundBy}
use Rattle.viewer_run.proofs.Halted.{end_over, halts_over}

shown_so : (fault : Option Fault) (end : Ending) (layers last : Option Layers) → HaltsAt (halt.End fault) end → layers ≡ last
    → shown_found fault layers ≡ shown_by end last
shown_so None end layers last e same = ap drawn same ∙ sym (ap (λ it. shown_by it last) e)
shown_so (Some its) end layers last e same = sym (ap (λ it. shown_by it last) e)

last_of_all : (drawings : List Drawing) → last_of (map (λ (d : Drawing). d.layers) drawings) (length drawings) ≡ last_layers drawings
last_of_all [] = refl
last_of_all (drawing ∷ []) = refl
last_of_all (drawing ∷ next ∷ drawings) = last_of_all (next ∷ drawings)

-- a run whose core gave the layers of a page
pub follows_take : (page : ℕ) (state : State) (counts : Counts) (old new : CoreRun) → Follows state counts old → Takes page old.core new.core
    → Stands state counts new.core → new.names ≡ old.names → new.pages ≡ old.pages → new.read.items ≡ old.read.items → Follows state counts new
follows_take page state counts old new was takes stands names pages flags = record {
  names = was.names ∙ sym names;
  core_names = takes.same.names ∙ was.core_names ∙ sym names;
  ascending = subst (λ n. IsAscending n) (sym names) was.ascending;
  flags = ap length flags ∙ was.flags ∙ sym (ap length names);
  table = subst IsTable (sym takes.same.table) was.table;
  stands = stands;
  closed = λ number file found flag. was.closed number file found (ap (λ l. slice_get l number) (sym flags) ∙ flag);
  empty = λ number file found flag. was.empty number file found (ap (λ l. slice_get l number) (sym flags) ∙ flag);
  pages = was.pages ∙ sym pages;
  count = takes.same.count ∙ was.count ∙ sym (ap length pages);
  below = λ number file found. subst (λ l. file < length l) (sym names) (was.below number file (ap (λ l. slice_get l number) (sym pages) ∙ found));
}

module _ (told : Option Files) (page file : ℕ) (state : State) (counts : Counts) (old mid ran new : CoreRun) (lines_mid lines_new : List ℕ)
    (failures_old failures_mid : List Failure) (count_old count_mid count_new : ℕ) (fault : Option Fault)
    (on : OnPage told page file state counts old mid lines_mid failures_old failures_mid count_old count_mid)
    (halted : ToHalt (Ok (halt.End fault)) page on.here on.gone.went.after on.gone.went.counted_so mid ran lines_mid lines_new count_mid count_new)
    (takes : Takes page ran.core new.core)
    (stands : (state : State) (counts : Counts) → Stands state counts ran.core → Stands state counts new.core)
    (names : new.names ≡ ran.names) (pages : new.pages ≡ ran.pages) (flags : new.read.items ≡ ran.read.items) (broken : new.broken ≡ ran.broken) where
  abbrev at_end : OnPage told page file state counts old ran lines_new failures_old failures_mid count_old count_new
  at_end =
      on_steps told page file state counts old mid ran lines_mid lines_new failures_old failures_mid count_old count_mid count_new on (halt.End fault) halted

  abbrev its : WentOn page state counts old ran count_old count_new
  its = at_end.gone.went

  gone_take : GoneTo told page file state counts old new failures_old failures_mid count_old count_new
  gone_take = record {
    went = record {
      after = its.after;
      counted_so = its.counted_so;
      follows =
          follows_take page its.after its.counted_so ran new its.follows takes (stands its.after its.counted_so its.follows.stands) names pages flags;
      same = record {
        names = names ∙ its.same.names;
        pages = pages ∙ its.same.pages;
        frame = record {
          table = takes.same.table ∙ its.same.frame.table;
          names = takes.same.names ∙ its.same.frame.names;
          count = takes.same.count ∙ its.same.frame.count;
        };
      };
      goes_on = its.goes_on;
      others = its.others;
      others_seen = λ other apart. takes.others other apart ∙ its.others_seen other apart;
      rise = its.rise;
    };
    needs = at_end.gone.needs;
    few = subst (λ f. at_end.gone.needs + unread f ≤ length old.names) (sym flags) at_end.gone.few;
    read_so = λ files start order is was.
        read_same files start failures_mid (with_needs old.core.table file at_end.gone.needs order) its.after.library its.after.library ran new names flags
        broken refl (at_end.gone.read_so files start order is was);
  }

  same_run : run mid.core.table on.gone.went.after.library on.here.file ≡ run old.core.table its.after.library file
  same_run =
      run_now told page file state counts old mid ran lines_mid lines_new failures_old failures_mid count_old count_mid count_new on (halt.End fault) halted

  halts_so : HaltsAt (halt.End fault) (run old.core.table its.after.library file).end
  halts_so =
      halts_now told page file state counts old mid ran lines_mid lines_new failures_old failures_mid count_old count_mid count_new on (halt.End fault)
      halted

  abbrev drawings : List Drawing
  drawings = (run old.core.table its.after.library file).left.told.drawings

  least : length drawings ≤ at_end.here.drawn
  unfolding on_steps
  least =
      let all = halted.all in
      let same = ap (λ (r : PageRead). length (map notice_of r.left.told.drawings)) same_run in
      let many = length-map drawings notice_of in
      omega (arith, all, same, many)

  most : IsSoundBy → at_end.here.drawn ≤ length drawings
  most sound =
      let there = sound its.after its.counted_so ran.core its.follows.stands page at_end.here at_end.is_here in
      let same =
      ap (λ t. length (page_notices t its.after.library at_end.here.file)) its.same.frame.table
      ∙ ap (λ f. length (page_notices old.core.table its.after.library f)) at_end.file_so in
      let many = length-map drawings notice_of in
      omega (arith, there, same, many)

  pub draws_end : IsSoundBy → ((given : Given) → (read given).left.decoded.layers ≡ last_layers (read given).left.told.drawings)
      → (layers : Option Layers) → ((state : State) (counts : Counts) (it : PageState) → Stands state counts ran.core → slice_get state.pages page ≡ Some it
      → layers ≡ layers_drawn ran.core.table state.library it)
      → (seen : PageSeen) → slice_get mid.core.pages page ≡ Some seen
      → DrawnTo told page file state counts old new lines_new (record { fault = fault; layers = layers }) failures_old failures_mid count_old count_new
  unfolding gone_take
  draws_end sound last layers layers_so seen is =
      let library = its.after.library in
      let below = least in
      let above = most sound in
      let count : at_end.here.drawn ≡ length drawings = omega (arith, below, above) in
      let found =
      layers_so its.after its.counted_so at_end.here its.follows.stands at_end.is_here
      ∙ ap (λ t. last_of (page_layers t library at_end.here.file) at_end.here.drawn) its.same.frame.table
      ∙ ap (λ f. last_of (page_layers old.core.table library f) at_end.here.drawn) at_end.file_so
      ∙ ap (last_of (page_layers old.core.table library file)) count ∙ last_of_all drawings ∙ sym (last (run_given old.core.table library file)) in
      let taken = takes.is _ (halted.seen seen is) in
      let many = length-map drawings notice_of in
      let whole = take_all at_end.here.drawn (page_notices old.core.table library file) (omega (arith, below, many)) in
      record {
        gone = gone_take;
        drawn = record {
          over = halts_over fault (run old.core.table library file).end halts_so;
          shown = shown_so fault (run old.core.table library file).end layers (run old.core.table library file).left.decoded.layers halts_so found;
          lines_so = at_end.lines_so ∙ ap (lines_of (name_at old.names file)) whole;
        };
        seen = λ it at.
            subst (λ (s : PageSeen). (s.end ≡ Some core_end.Finished) ⊎ ((its : Fault) × (s.end ≡ Some (core_end.Refused its))))
            (some_same (record seen { end = end_at (halt.End fault); taken = true }) it (sym taken ∙ at)) (end_over fault);
      }
    where
      some_same : (a b : PageSeen) → Some a ≡ Some b → a ≡ b
      some_same a b e = cc
