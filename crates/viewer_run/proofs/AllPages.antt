-- Pages that are drawn one after another: `draw_pages`.
use Rattle.std.proofs.Common.{◌≡◌, ◌≢◌, ◌<◌, ◌≤◌, ◌+◌, ℕ, zero, suc, Bool, true, false, ◌||◌, Option, Some, None, ◌⊎◌, inl, inr, List, [], ◌∷◌, ◌++◌, length, map, take, replicate, refl, sym, ap, ◌∙◌, subst, arith}
use Rattle.std.specs.Prelude.{slice_get}
use Rattle.std.proofs.lemmas.Bool.{true≢false, cases_lt}
use Rattle.std.proofs.lemmas.List.{append-nil, length-map}
use Rattle.djvu_base.specs.declared.faults.Fault.{Fault}
use Rattle.djvu_base.specs.Library.{File, Files, Library, library_of, names_of, file_limit}
use Rattle.djvu_base.specs.Meter.{ticked}
use Rattle.djvu_outside.specs.Cut.{cut}
use Rattle.djvu_outside.specs.Faults.{Failure}
use Rattle.djvu_outside.specs.Puts.{Got}
use Rattle.djvu_outside.proofs.Lemmas.{got_none, got_both}
use Rattle.include_graph.specs.Verdicts.{is_among}
use Rattle.zp_table.specs.declared.rows.Row.{Row}
use Rattle.zp_table.specs.Rows.{IsTable}
use Rattle.page_decoder.specs.Decoder.{RiseTogether}
use Rattle.page_decoder.specs.PageRead.{Ending, Finished, Refused, NeedBytes, NeedOutline, NeedFile}
use Rattle.page_decoder.specs.Libraries.{names_in, run, LibraryGoesOn}
use Rattle.page_decoder.specs.Needs.{IsOver}
use Rattle.replay_core.specs.declared.pages.CoreEnd.TheVariants as core_end
use Rattle.replay_core.specs.CorePages.{PageSeen, untouched}
use Rattle.replay_core.specs.Counts.{Counts, no_counts, counted}
use Rattle.replay_core.specs.Machine.{State, start, empty_file, unread_page}
use Rattle.viewer_run.specs.declared.core_run.CoreRun.{CoreRun}
use Rattle.viewer_run.specs.CoreRun.{Follows, ReadSo, OfUnread, WentOn, with_needs}
use Rattle.viewer_run.specs.Drawing.{IsNext, IsPut}
use Rattle.viewer_run.specs.Ended.{Around}
use Rattle.viewer_run.specs.Offline.{texts_of_pages}
use Rattle.viewer_run.specs.Reads.{needed_by, and_page, and_pages}
use Rattle.viewer_run.specs.Shown.{HasBroken, BrokenCounts}
use Rattle.viewer_run.specs.Texts.{Texts, joined, texts_of_page}
use Rattle.viewer_run.proofs.Counting.{none_counted}
use Rattle.viewer_run.proofs.Extending.{known_still}
use Rattle.viewer_run.proofs.Halting.{take_next}
use Rattle.viewer_run.proofs.Joining.{counts_both}
use Rattle.viewer_run.proofs.Known.{known_none}
use Rattle.viewer_run.proofs.Numbering.{names_cut}
use Rattle.viewer_run.proofs.Ordering.{pages_append, needs_all}
use Rattle.viewer_run.proofs.Over.{AllOverIn, texts_stay, over_stays, over_append, texts_push, names_go_on}
use Rattle.viewer_run.proofs.Rising.{rise_none, rise_both}
use Rattle.viewer_run.proofs.Starting.{names_of_library}
use Rattle.viewer_run.proofs.Stepping.{mapped_at}

-- the files that pages read, one page after another
abbrev pub order_to : List Row → List ℕ → Library → List ℕ
order_to table pages library = and_pages table library pages []

-- the first so many of these pages were drawn, and what is put for them was put
pub record DrewSo (told : Option Files) (table : List Row) (names : List (List ℕ)) (numbers : List ℕ) (at : ℕ) (now : CoreRun) (refused : Bool)
    (before after : Around) : Type 0 where
  pub state : State
  pub counts : Counts
  pub follows : Follows state counts now
  pub names_so : now.names ≡ names
  pub pages_so : now.pages ≡ numbers
  pub table_so : now.core.table ≡ table
  pub to_come : (page file : ℕ) → at ≤ page → slice_get numbers page ≡ Some file
      → (slice_get state.pages page ≡ Some (unread_page file)) × (slice_get now.core.pages page ≡ Some (untouched file))
  pub over_seen : (page : ℕ) (it : PageSeen) → page < at → slice_get now.core.pages page ≡ Some it
      → (it.end ≡ Some core_end.Finished) ⊎ ((fault : Fault) × (it.end ≡ Some (core_end.Refused fault)))
  pub over : AllOverIn table state.library (take at numbers)
  pub rise : RiseTogether 0 (ticked (counted counts) 0) before.count after.count
  pub read_so : (files : Files) → told ≡ Some files → ReadSo files before.failures after.failures (order_to table (take at numbers)) state.library now
  pub puts : Got (texts_of_pages (texts_of_page table state.library) (take at numbers)).puts before.told after.told
  pub refused_so : refused ≡ (texts_of_pages (texts_of_page table state.library) (take at numbers)).refused

-- ---- no page yet

no_flag : (count number : ℕ) (flag : Bool) → slice_get (replicate count false) number ≡ Some flag → false ≡ flag
no_flag zero number flag e = cc
no_flag (suc count) zero flag e = cc
no_flag (suc count) (suc number) flag e = no_flag count number flag e

pub drew_none : (told : Option Files) (table : List Row) (names : List (List ℕ)) (numbers : List ℕ) (run : CoreRun) (around : Around)
    → ((files : Files) → told ≡ Some files → names ≡ names_of files)
    → Follows (start names numbers) (no_counts (length names) numbers) run → run.names ≡ names → run.pages ≡ numbers
    → run.read.items ≡ replicate (length names) false → run.core.table ≡ table → run.core.pages ≡ map untouched numbers → run.broken ≡ false
    → DrewSo told table names numbers 0 run false around around
drew_none told table names numbers run around over follows names_so pages_so flags table_so fresh sound = record {
  state = start names numbers;
  counts = no_counts (length names) numbers;
  follows = follows;
  names_so = names_so;
  pages_so = pages_so;
  table_so = table_so;
  to_come = λ page file at found. (
    mapped_at unread_page numbers page file found,
    ap (λ l. slice_get l page) fresh ∙ mapped_at untouched numbers page file found,
  );
  over_seen = λ page it less found. absurd (omega (arith, less));
  over = tt;
  rise = subst (λ n. RiseTogether 0 (ticked n 0) around.count around.count) (sym (none_counted (length names) numbers)) (rise_none 0 around.count);
  read_so = λ files is. record {
    added = [];
    grown = sym (append-nil around.failures);
    read = [];
    library_so =
        ap (map empty_file) (over files is ∙ sym (names_cut [] (library_of files) ∙ names_of_library file_limit files))
        ∙ sym (known_none (λ number. is_among number []) (cut [] (library_of files)) (λ number. refl));
    flags_so = λ number flag found. no_flag (length names) number flag (ap (λ l. slice_get l number) (sym flags) ∙ found);
    below = λ number among. absurd (true≢false (sym among));
    only = λ name apart. refl;
    first = refl;
    broken = subst (λ b. HasBroken b []) (sym sound) refl;
    order_so = λ later none. refl;
  };
  puts = got_none around.told;
  refused_so = refl;
}

-- ---- the next page

-- it can be drawn
pub is_next : (told : Option Files) (table : List Row) (names : List (List ℕ)) (numbers : List ℕ) (at file : ℕ) (now : CoreRun) (refused : Bool)
    (before after : Around) → DrewSo told table names numbers at now refused before after → slice_get numbers at ≡ Some file → IsNext at now
is_next told table names numbers at file now refused before after drew found =
    let come = drew.to_come at file (omega arith) found in
    record {
      can = record {
        state = drew.state;
        counts = drew.counts;
        follows = drew.follows;
        seen = untouched file;
        is = come.1;
        open_ = refl;
        there = refl;
      };
      file = file;
      unread = come.0;
    }

-- the law that pages that are over stay so
abbrev pub OverStays : Type 0
OverStays = (table : List Row) (library later : Library) (page : ℕ) → IsTable table → LibraryGoesOn library later
    → IsOver (run table library page).end → run table later page ≡ run table library page

over_needs : (end : Ending) → IsOver end → needed_by end ≡ None
over_needs Finished over = refl
over_needs (Refused fault) over = refl
over_needs NeedBytes over = absurd over
over_needs (NeedOutline file) over = absurd over
over_needs (NeedFile file) over = absurd over

-- the folder's library has as many files as names, however it was cut
pub cut_names : (failures : List Failure) (files : Files) → names_in (cut failures (library_of files)) ≡ names_of files
cut_names failures files = names_cut failures (library_of files) ∙ names_of_library file_limit files

pub cut_many : (failures : List Failure) (files : Files) → length (cut failures (library_of files)) ≡ length (names_of files)
cut_many failures files = sym (length-map (cut failures (library_of files)) (λ (file : File). file.name)) ∙ ap length (cut_names failures files)

module _ (told : Option Files) (table : List Row) (names : List (List ℕ)) (numbers : List ℕ) (at file : ℕ) (old new : CoreRun) (refused more : Bool)
    (before mid after : Around) (law : OverStays) (over : (files : Files) → told ≡ Some files → names ≡ names_of files)
    (drew : DrewSo told table names numbers at old refused before mid) (found : slice_get numbers at ≡ Some file)
    (put : IsPut told at file drew.state drew.counts old new more mid after) where
  abbrev its : WentOn at drew.state drew.counts old new mid.count after.count
  its = put.gone.went

  is_table : IsTable table
  is_table = subst IsTable drew.table_so drew.follows.table

  over_here : IsOver (run table its.after.library file).end
  over_here = subst (λ t. IsOver (run t its.after.library file).end) drew.table_so put.over

  stays : (page : ℕ) → IsOver (run table drew.state.library page).end → run table its.after.library page ≡ run table drew.state.library page
  stays page is = law table drew.state.library its.after.library page is_table its.goes_on is

  taken : take (at + 1) numbers ≡ take at numbers ++ file ∷ []
  taken = ap (λ n. take n numbers) suc_so ∙ take_next numbers at file found
    where
      suc_so : at + 1 ≡ suc at
      suc_so = omega arith

  texts_now : texts_of_pages (texts_of_page table its.after.library) (take (at + 1) numbers)
      ≡ joined (texts_of_pages (texts_of_page table drew.state.library) (take at numbers)) (texts_of_page old.core.table its.after.library file)
  texts_now =
      ap (texts_of_pages (texts_of_page table its.after.library)) taken ∙ texts_push (texts_of_page table its.after.library) (take at numbers) file
      ∙ ap (λ t. joined t (texts_of_page table its.after.library file))
      (texts_stay table drew.state.library its.after.library (names_go_on drew.state.library its.after.library its.goes_on) stays (take at numbers)
      drew.over)
      ∙ ap (λ t. joined (texts_of_pages (texts_of_page table drew.state.library) (take at numbers)) (texts_of_page t its.after.library file))
      (sym drew.table_so)

  all_over : AllOverIn table its.after.library (take (at + 1) numbers)
  all_over =
      subst (AllOverIn table its.after.library) (sym taken)
      (over_append table its.after.library (take at numbers) (file ∷ [])
      (over_stays table drew.state.library its.after.library (names_go_on drew.state.library its.after.library its.goes_on) stays (take at numbers)
      drew.over) (over_here, tt))

  -- what it read is all that its pages need
  module _ (files : Files) (is : told ≡ Some files) where
    abbrev reads : ReadSo files before.failures after.failures (with_needs old.core.table file put.gone.needs (order_to table (take at numbers)))
        its.after.library new
    reads = put.gone.read_so files before.failures (order_to table (take at numbers)) is (drew.read_so files is)

    names_now : new.names ≡ names_of files
    names_now = its.same.names ∙ drew.names_so ∙ over files is

    few_needs : (failures : List Failure) → put.gone.needs ≤ length (cut failures (library_of files))
    few_needs failures =
        let few = put.gone.few in
        let many = cut_many failures files in
        let same = ap length (drew.names_so ∙ over files is) in
        omega (arith, few, many, same)

    order_now : (later : List Failure) → OfUnread new.names reads.read later
        → order_to table (take (at + 1) numbers) (cut (reads.added ++ later) (library_of files)) ≡ reads.read
    order_now later none =
        let whole = cut (reads.added ++ later) (library_of files) in
        let known = known_still files reads.read reads.added later (subst (λ n. OfUnread n reads.read later) names_now none) ∙ sym reads.library_so in
        ap (λ l. and_pages table whole l []) taken ∙ pages_append table whole (take at numbers) (file ∷ []) []
        ∙ needs_all table whole file put.gone.needs (length whole) (and_page file (order_to table (take at numbers) whole)) reads.read
        (few_needs (reads.added ++ later))
        (ap (λ t. with_needs t file put.gone.needs (order_to table (take at numbers)) whole) (sym drew.table_so) ∙ reads.order_so later none)
        (ap (λ l. needed_by (run table l file).end) known ∙ over_needs (run table its.after.library file).end over_here)

    read_now : ReadSo files before.failures after.failures (order_to table (take (at + 1) numbers)) its.after.library new
    read_now = record {
      added = reads.added;
      grown = reads.grown;
      read = reads.read;
      library_so = reads.library_so;
      flags_so = reads.flags_so;
      below = reads.below;
      only = reads.only;
      first = reads.first;
      broken = reads.broken;
      order_so = order_now;
    }

  pub drew_more : DrewSo told table names numbers (at + 1) new (refused || more) before after
  drew_more = record {
    state = its.after;
    counts = its.counted_so;
    follows = its.follows;
    names_so = its.same.names ∙ drew.names_so;
    pages_so = its.same.pages ∙ drew.pages_so;
    table_so = its.same.frame.table ∙ drew.table_so;
    to_come = λ page other less there.
        let apart : page ≢ at = λ e. apart_from page less e in
        let was = drew.to_come page other (omega (arith, less)) there in
        (its.others page apart ∙ was.0, its.others_seen page apart ∙ was.1);
    over_seen = λ page it less there. seen_over page it less there (cases_lt page at);
    over = all_over;
    rise = rise_both 0 (ticked (counted drew.counts) 0) (ticked (counted its.counted_so) 0) before.count mid.count after.count drew.rise its.rise;
    read_so = read_now;
    puts =
        subst (λ (t : Texts). Got t.puts before.told after.told) (sym texts_now)
        (got_both (texts_of_pages (texts_of_page table drew.state.library) (take at numbers)).puts
        (texts_of_page old.core.table its.after.library file).puts before.told mid.told after.told drew.puts put.puts);
    refused_so =
        ap (λ b. b || more) drew.refused_so
        ∙ ap (λ b. (texts_of_pages (texts_of_page table drew.state.library) (take at numbers)).refused || b) put.refused_so
        ∙ sym (ap (λ (t : Texts). t.refused) texts_now);
  }
    where
      apart_from : (page : ℕ) → at + 1 ≤ page → page ≢ at
      apart_from page less e = omega (arith, less, e)

      seen_over : (page : ℕ) (it : PageSeen) → page < at + 1 → slice_get new.core.pages page ≡ Some it → (page < at) ⊎ (at ≤ page)
          → (it.end ≡ Some core_end.Finished) ⊎ ((fault : Fault) × (it.end ≡ Some (core_end.Refused fault)))
      seen_over page it less there (inl earlier) =
          let apart : page ≢ at = λ e. omega (arith, earlier, e) in
          drew.over_seen page it earlier (sym (its.others_seen page apart) ∙ there)
      seen_over page it less there (inr last) =
          let same : page ≡ at = omega (arith, less, last) in
          put.seen it (ap (slice_get new.core.pages) (sym same) ∙ there)

-- ---- the folder's count of faults

pub broken_more : (old new : Bool) (first mid last : ℕ) → BrokenCounts old first mid
    → (failed : Bool) × (new ≡ (old || failed)) × BrokenCounts failed mid last → BrokenCounts new first last
broken_more old new first mid last before now =
    subst (λ b. BrokenCounts b first last) (sym now.1) (counts_both old now.0 first mid last before now.2)

pub broken_grows : (broken : Bool) (before after : ℕ) → BrokenCounts broken before after → before ≤ after
broken_grows true before after rises = rises.later
broken_grows false before after same = omega (arith, same)
