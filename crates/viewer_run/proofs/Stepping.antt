-- A step of a page, in the core's state.
use Rattle.std.proofs.Common.{◌≡◌, ◌≢◌, ◌<◌, ◌≤◌, ◌+◌, ℕ, zero, suc, Option, Some, None, Ok, Err, List, [], ◌∷◌, ◌++◌, length, map, take, refl, sym, ap, ◌∙◌, subst, arith}
use Rattle.std.specs.Prelude.{slice_get}
use Rattle.djvu_base.specs.Announced.{Announced}
use Rattle.std.proofs.lemmas.Option.{slice_get-get_or}
use Rattle.djvu_base.specs.Library.{File, Library, Open}
use Rattle.djvu_base.specs.Name.{IsAscending}
use Rattle.zp_table.specs.declared.rows.Row.{Row}
use Rattle.zp_table.specs.Rows.{IsTable}
use Rattle.djvu_outside.specs.declared.stops.Stop.{Stop}
use Rattle.page_decoder.specs.PageRead.{Drawing, AscendFrom, Ending, NeedBytes}
use Rattle.page_decoder.specs.Libraries.{names_in, run}
use Rattle.replay_core.specs.declared.core_calls.CoreStep.{CoreStep}
use Rattle.replay_core.specs.declared.core_calls.CoreStep.TheVariants as step
use Rattle.replay_core.specs.Core.{Stands, Steps, SameFrame, state_with}
use Rattle.djvu_base.specs.Meter.{ticked}
use Rattle.replay_core.specs.Counts.{Counts, counted}
use Rattle.replay_core.specs.declared.pages.CoreEnd.{CoreEnd}
use Rattle.replay_core.specs.CorePages.{PageSeen}
use Rattle.replay_core.specs.Machine.{PageState, State, Step, AtEnd, answer, change_at, drawn_with, page_notices, next_notice, stepped, page_step, state_after}
use Rattle.viewer_run.specs.declared.core_run.CoreRun.{CoreRun}
use Rattle.viewer_words.specs.Lines.{name_at, notice_line}
use Rattle.viewer_run.specs.Texts.{lines_of}
use Rattle.viewer_run.specs.declared.core_run.Halt.{Halt}
use Rattle.viewer_run.specs.CoreRun.{Follows, CanDraw, CanStep, Stepped, LinesAre, HaltsAt, ToHalt, end_at}
use Rattle.viewer_run.proofs.Halting.{changed_at, others_at, next_of, end_of, none_left, one_line, chunks_grow}
use Rattle.viewer_run.proofs.Rising.{rise_none, rise_both}

files_kept : (change : PageState → PageState) → ((page : PageState) → (change page).file ≡ page.file) → (number : ℕ) (pages : List PageState)
    → map (λ (page : PageState). page.file) (change_at change number pages) ≡ map (λ (page : PageState). page.file) pages
files_kept change kept number [] = refl
files_kept change kept zero (page ∷ pages) = ap (λ n. n ∷ map (λ (other : PageState). other.file) pages) (kept page)
files_kept change kept (suc number) (page ∷ pages) = ap (λ l. page.file ∷ l) (files_kept change kept number pages)

drawn_file : (next : Option Announced) (page : PageState) → (drawn_with next page).file ≡ page.file
drawn_file None page = refl
drawn_file (Some notice) page = refl

-- what a step leaves of a state, whatever it answers
pub record StepLeaves (table : List Row) (state after : State) (page : ℕ) (here now : PageState) : Type 0 where
  pub library : after.library ≡ state.library
  pub files : map (λ (it : PageState). it.file) after.pages ≡ map (λ (it : PageState). it.file) state.pages
  pub others : (other : ℕ) → other ≢ page → slice_get after.pages other ≡ slice_get state.pages other
  pub is_now : slice_get after.pages page ≡ Some now
  pub file : now.file ≡ here.file

-- where the page stands after a step that answers so
abbrev pub page_with : CoreStep → List Row → Library → PageState → PageState
page_with (step.Drew notice) table library here = stepped table library here
page_with step.NeedBytes table library here = stepped table library here
page_with (step.NeedFile file) table library here = stepped table library here
page_with step.Finished table library here = stepped table library here
page_with (step.Refused fault) table library here = stepped table library here
page_with step.OutOfMemory table library here = here

after_step : (table : List Row) (state : State) (page : ℕ) (here : PageState) → slice_get state.pages page ≡ Some here
    → StepLeaves table state (state_after table state (Step page)) page here (stepped table state.library here)
after_step table state page here is = record {
  library = refl;
  files = files_kept (stepped table state.library) (λ it. drawn_file (next_notice table state.library it) it) page state.pages;
  others = λ other apart. others_at (stepped table state.library) page other state.pages apart;
  is_now = changed_at (stepped table state.library) page state.pages here is;
  file = drawn_file (next_notice table state.library here) here;
}

pub step_leaves : (result : CoreStep) (table : List Row) (state : State) (page : ℕ) (here : PageState) → slice_get state.pages page ≡ Some here
    → StepLeaves table state (state_with result table state page) page here (page_with result table state.library here)
step_leaves (step.Drew notice) table state page here is = after_step table state page here is
step_leaves step.NeedBytes table state page here is = after_step table state page here is
step_leaves (step.NeedFile file) table state page here is = after_step table state page here is
step_leaves step.Finished table state page here is = after_step table state page here is
step_leaves (step.Refused fault) table state page here is = after_step table state page here is
step_leaves step.OutOfMemory table state page here is =
    record { library = refl; files = refl; others = λ other apart. refl; is_now = is; file = refl }

-- one more step
pub one_more_step : (table : List Row) (page : ℕ) (here : PageState) (state : State) (counts : Counts) (old mid new : CoreRun) (result : CoreStep)
    (count_old count_mid count_new : ℕ)
    → (before : Stepped table page here state counts old mid count_old count_mid)
    → Steps before.after before.counted_so page mid.core new.core result count_mid count_new → SameFrame mid.core new.core
    → ((other : ℕ) → other ≢ page → slice_get new.core.pages other ≡ slice_get mid.core.pages other)
    → new.names ≡ mid.names → new.pages ≡ mid.pages → new.read ≡ mid.read → new.broken ≡ mid.broken
    → Stepped table page here state counts old new count_old count_new
one_more_step table page here state counts old mid new result count_old count_mid count_new before steps frame seen names pages read broken =
    let leaves = step_leaves result mid.core.table before.after page before.now before.is_now in
    let was = before.follows in
    let flags = ap (λ r. r.items) read in
    record {
      after = state_with result mid.core.table before.after page;
      counted_so = steps.after;
      follows = record {
        names = ap (λ l. names_in l) leaves.library ∙ was.names ∙ sym names;
        core_names = frame.names ∙ was.core_names ∙ sym names;
        ascending = subst IsAscending (sym names) was.ascending;
        flags = ap length flags ∙ was.flags ∙ sym (ap length names);
        table = subst IsTable (sym frame.table) was.table;
        stands = steps.stands;
        closed = λ number file found flag.
            was.closed number file (ap (λ l. slice_get l number) (sym leaves.library) ∙ found) (ap (λ l. slice_get l number) (sym flags) ∙ flag);
        empty = λ number file found flag.
            was.empty number file (ap (λ l. slice_get l number) (sym leaves.library) ∙ found) (ap (λ l. slice_get l number) (sym flags) ∙ flag);
        pages = leaves.files ∙ was.pages ∙ sym pages;
        count = frame.count ∙ was.count ∙ sym (ap length pages);
        below = λ number file found. subst (λ l. file < length l) (sym names) (was.below number file (ap (λ l. slice_get l number) (sym pages) ∙ found));
      };
      library = leaves.library ∙ before.library;
      others = λ other apart. leaves.others other apart ∙ before.others other apart;
      now = page_with result mid.core.table before.after.library before.now;
      is_now = leaves.is_now;
      file = leaves.file ∙ before.file;
      table_so = frame.table ∙ before.table_so;
      names = names ∙ before.names;
      pages = pages ∙ before.pages;
      read = flags ∙ before.read;
      broken = broken ∙ before.broken;
      count = frame.count ∙ before.count;
      others_seen = λ other apart. seen other apart ∙ before.others_seen other apart;
      rise =
          rise_both (ticked (counted counts) 0) (ticked (counted before.counted_so) 0) (ticked (counted steps.after) 0) count_old count_mid count_new
          before.rise steps.rise;
    }

-- a page that is stepped on, and the lines of its notices
pub record Going (table : List Row) (page : ℕ) (here : PageState) (state : State) (counts : Counts) (old now : CoreRun) (lines_old lines_now : List ℕ)
    (count_old count_now taken : ℕ) : Type 0 where
  pub stepped : Stepped table page here state counts old now count_old count_now
  pub lines : (name : List ℕ) → name ≡ name_at old.names here.file → LinesAre table state.library here.file here.drawn name lines_old
      → LinesAre table state.library here.file stepped.now.drawn name lines_now
  pub drawn : stepped.now.drawn ≡ here.drawn + taken
  pub few : taken < 0x1_0000_0000

-- before the first step
pub going_first : (page : ℕ) (here : PageState) (state : State) (counts : Counts) (run : CoreRun) (lines : List ℕ) (count : ℕ)
    → Follows state counts run → slice_get state.pages page ≡ Some here → Going run.core.table page here state counts run run lines lines count count 0
going_first page here state counts run lines count follows is = record {
  stepped = record {
    after = state;
    counted_so = counts;
    follows = follows;
    library = refl;
    others = λ other apart. refl;
    now = here;
    is_now = is;
    file = refl;
    table_so = refl;
    names = refl;
    pages = refl;
    read = refl;
    broken = refl;
    count = refl;
    others_seen = λ other apart. refl;
    rise = rise_none _ count;
  };
  lines = λ name is before. before;
  drawn = omega arith;
  few = omega arith;
}

-- the next notice of the page, by the table and the library from before
next_notice_at : (table other : List Row) (library later : Library) (here now : PageState) (found : Option Announced) → other ≡ table → later ≡ library
    → now.file ≡ here.file → next_notice other later now ≡ found → slice_get (page_notices table library here.file) now.drawn ≡ found
next_notice_at table other library later here now found same_table same_library same_file e =
    ap (λ t. slice_get (page_notices t library here.file) now.drawn) (sym same_table)
    ∙ ap (λ l. slice_get (page_notices other l here.file) now.drawn) (sym same_library)
    ∙ ap (λ f. slice_get (page_notices other later f) now.drawn) (sym same_file) ∙ e

more_drawn : (now here taken : ℕ) → now ≡ here + taken → suc now ≡ here + (taken + 1)
more_drawn now here taken e = omega (arith, e)

-- a step that drew, and the line of its notice
pub going_on : (table : List Row) (page : ℕ) (here : PageState) (state : State) (counts : Counts) (old mid new : CoreRun) (notice : Announced)
    (lines_old lines_mid lines_new : List ℕ) (count_old count_mid count_new taken : ℕ)
    → ((drawings : List Drawing) → drawings ≡ (run table state.library here.file).left.told.drawings → AscendFrom 0 0 drawings)
    → (before : Going table page here state counts old mid lines_old lines_mid count_old count_mid taken)
    → Steps before.stepped.after before.stepped.counted_so page mid.core new.core (step.Drew notice) count_mid count_new → SameFrame mid.core new.core
    → ((other : ℕ) → other ≢ page → slice_get new.core.pages other ≡ slice_get mid.core.pages other)
    → new.names ≡ mid.names → new.pages ≡ mid.pages → new.read ≡ mid.read → new.broken ≡ mid.broken
    → lines_new ≡ lines_mid ++ notice_line (name_at old.names here.file) notice.chunks notice.sum → notice.chunks < 0x1_0000_0000
    → Going table page here state counts old new lines_old lines_new count_old count_new (taken + 1)
unfolding one_more_step
going_on table page here state counts old mid new notice lines_old lines_mid lines_new count_old count_mid count_new taken ascend before steps frame seen
    names pages read broken line small =
    let b = before.stepped in
    let answered = next_of _ _ notice (ap (page_step mid.core.table b.after.library) (sym b.is_now) ∙ steps.answers) in
    let next = next_notice_at table mid.core.table state.library b.after.library here b.now (Some notice) b.table_so b.library b.file answered in
    let notices = page_notices table state.library here.file in
    let one : page_with (step.Drew notice) mid.core.table b.after.library b.now ≡ record b.now { drawn = suc b.now.drawn } =
    ap (λ n. drawn_with n b.now) answered in
    let above = chunks_grow (run table state.library here.file).left.told.drawings 0 0 b.now.drawn notice (ascend _ refl) next in
    let count = before.drawn in
    record {
      stepped = one_more_step table page here state counts old mid new (step.Drew notice) count_old count_mid count_new b steps frame seen names pages read
          broken;
      lines = λ name is was.
          one_line name notices b.now.drawn notice lines_mid lines_new next (before.lines name is was)
          (line ∙ ap (λ n. lines_mid ++ notice_line n notice.chunks notice.sum) (sym is))
          ∙ ap (λ (p : PageState). lines_of name (take p.drawn notices)) (sym one);
      drawn = ap (λ (p : PageState). p.drawn) one ∙ more_drawn b.now.drawn here.drawn taken count;
      few = omega (arith, above, count, small);
    }

-- the end of the page, by the table and the library from before
end_at_so : (table other : List Row) (library later : Library) (here now : PageState) → other ≡ table → later ≡ library → now.file ≡ here.file
    → (run table library here.file).end ≡ (run other later now.file).end
end_at_so table other library later here now same_table same_library same_file =
    ap (λ t. (run t library here.file).end) (sym same_table) ∙ ap (λ l. (run other l here.file).end) (sym same_library)
    ∙ ap (λ f. (run other later f).end) (sym same_file)

-- ---- where steps halt

module _ (page : ℕ) (here : PageState) (state : State) (counts : Counts) (old mid new : CoreRun) (result : CoreStep) (lines_old lines_mid : List ℕ)
    (count_old count_mid count_new taken : ℕ)
    (before : Going old.core.table page here state counts old mid lines_old lines_mid count_old count_mid taken)
    (steps : Steps before.stepped.after before.stepped.counted_so page mid.core new.core result count_mid count_new) (frame : SameFrame mid.core new.core)
    (others : (other : ℕ) → other ≢ page → slice_get new.core.pages other ≡ slice_get mid.core.pages other)
    (names : new.names ≡ mid.names) (pages : new.pages ≡ mid.pages) (read : new.read ≡ mid.read) (broken : new.broken ≡ mid.broken) where
  last_step : Stepped old.core.table page here state counts old new count_old count_new
  last_step =
      one_more_step old.core.table page here state counts old mid new result count_old count_mid count_new before.stepped steps frame others names pages
      read broken

  -- there was no memory
  pub stops_so : (stop : Stop) (lines_new : List ℕ) → ToHalt (Err stop) page here state counts old new lines_old lines_new count_old count_new
  stops_so stop lines_new = record { stepped = last_step; halts = tt; all = tt; seen = λ it is. tt; lines = λ name is was. tt }

  -- no notice is left to draw
  pub halts_so : (halt : Halt) (told : Ending) → answer mid.core.table before.stepped.after (Step page) ≡ AtEnd told
      → page_with result mid.core.table before.stepped.after.library before.stepped.now
      ≡ drawn_with (next_notice mid.core.table before.stepped.after.library before.stepped.now) before.stepped.now
      → HaltsAt halt told
      → ((it : PageSeen) → slice_get old.core.pages page ≡ Some it → slice_get new.core.pages page ≡ Some (record it { end = end_at halt }))
      → ToHalt (Ok halt) page here state counts old new lines_old lines_mid count_old count_new
  unfolding last_step one_more_step
  halts_so halt told answered drawn halts seen =
      let b = before.stepped in
      let table = old.core.table in
      let ended =
      end_of (next_notice mid.core.table b.after.library b.now) (run mid.core.table b.after.library b.now.file).end told
      (ap (page_step mid.core.table b.after.library) (sym b.is_now) ∙ answered) in
      let next = next_notice_at table mid.core.table state.library b.after.library here b.now None b.table_so b.library b.file ended.0 in
      let same : page_with result mid.core.table b.after.library b.now ≡ b.now = drawn ∙ ap (λ n. drawn_with n b.now) ended.0 in
      let left = none_left (page_notices table state.library here.file) b.now.drawn next in
      record {
        stepped = last_step;
        halts =
            subst (HaltsAt halt) (sym (end_at_so table mid.core.table state.library b.after.library here b.now b.table_so b.library b.file ∙ ended.1)) halts;
        all = subst (λ (p : PageState). length (page_notices table state.library here.file) ≤ p.drawn) (sym same) left;
        seen = seen;
        lines = λ name is was.
            subst (λ (p : PageState). LinesAre table state.library here.file p.drawn name lines_mid) (sym same) (before.lines name is was);
      }

-- ---- a page that can be stepped

-- the item of a list, by what it becomes
pub item_of : {A B : Type 0} (change : A → B) (list : List A) (number : ℕ) (it : B) → slice_get (map change list) number ≡ Some it
    → (was : A) × (slice_get list number ≡ Some was) × (change was ≡ it)
item_of change [] number it e = cc
item_of change (first ∷ list) zero it e = (first, refl, cc)
item_of change (first ∷ list) (suc number) it e = item_of change list number it e

-- what it becomes, by the item
pub mapped_at : {A B : Type 0} (change : A → B) (list : List A) (number : ℕ) (it : A) → slice_get list number ≡ Some it
    → slice_get (map change list) number ≡ Some (change it)
mapped_at change [] number it e = cc
mapped_at change (first ∷ list) zero it e = let same : first ≡ it = cc in ap (λ x. Some (change x)) same
mapped_at change (first ∷ list) (suc number) it e = mapped_at change list number it e

-- a page of a core, in the state that this follows
pub page_of : (state : State) (counts : Counts) (run : CoreRun) (page file : ℕ) → Follows state counts run → slice_get run.pages page ≡ Some file
    → (here : PageState) × (slice_get state.pages page ≡ Some here) × (here.file ≡ file)
page_of state counts run page file follows found =
    item_of (λ (it : PageState). it.file) state.pages page file (ap (λ l. slice_get l page) follows.pages ∙ found)

-- a page that is stepped, in each state that its core follows
pub record StepsOn (page : ℕ) (old now : CoreRun) (lines_old lines_now : List ℕ) (count_old count_now taken : ℕ) : Type 0 where
  pub going : (state : State) (counts : Counts) (here : PageState) → Follows state counts old → slice_get state.pages page ≡ Some here
      → Going old.core.table page here state counts old now lines_old lines_now count_old count_now taken
  pub seen : (it : PageSeen) → slice_get old.core.pages page ≡ Some it → slice_get now.core.pages page ≡ Some (record it { end = None })

-- before the first step
pub steps_first : (page : ℕ) (run : CoreRun) (lines : List ℕ) (count : ℕ) → CanDraw page run → StepsOn page run run lines lines count count 0
steps_first page run lines count can = record {
  going = λ state counts here follows is. going_first page here state counts run lines count follows is;
  seen = λ it found.
      let same : can.seen ≡ it = some_same can.seen it (sym can.is ∙ found) in
      found ∙ ap (λ (e : Option CoreEnd). let seen : PageSeen = record it { end = e } in Some seen) (sym (ap (λ (s : PageSeen). s.end) same) ∙ can.open_);
}
  where
    some_same : (a b : PageSeen) → Some a ≡ Some b → a ≡ b
    some_same a b e = cc

-- a page whose file was read never needs bytes
pub never_bytes : ((table : List Row) (state : State) (page : ℕ) (it : PageState) (file : File) → slice_get state.pages page ≡ Some it
    → slice_get state.library it.file ≡ Some file → answer table state (Step page) ≡ AtEnd NeedBytes → file.mark ≡ Open)
    → (page : ℕ) (old now : CoreRun) (lines_old lines_now : List ℕ) (count_old count_now taken : ℕ)
    → StepsOn page old now lines_old lines_now count_old count_now taken → CanStep page old
    → ((state : State) (counts : Counts) → Stands state counts now.core → answer now.core.table state (Step page) ≡ AtEnd NeedBytes) → ⊥
never_bytes law page old now lines_old lines_now count_old count_now taken on can answers =
    let here = page_of can.can.state can.can.counts old page can.file can.can.follows can.is_file in
    let b = (on.going can.can.state can.can.counts here.0 can.can.follows here.1).stepped in
    let file : b.now.file ≡ can.file = b.file ∙ here.2 in
    let below : can.file < length now.names =
    subst (λ l. can.file < length l) (sym b.names) (can.can.follows.below page can.file can.is_file) in
    let there =
    item_of (λ (it : File). it.name) b.after.library can.file _
    (ap (λ l. slice_get l can.file) b.follows.names ∙ slice_get-get_or now.names can.file [] below) in
    let open_so =
    law now.core.table b.after page b.now there.0 b.is_now (ap (slice_get b.after.library) file ∙ there.1)
    (answers b.after b.counted_so b.follows.stands) in
    b.follows.closed can.file there.0 there.1 (ap (λ l. slice_get l can.file) b.read ∙ can.read) open_so
