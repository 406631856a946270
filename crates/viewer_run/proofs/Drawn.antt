-- What drawn pages come to, all of them or up to where the run stopped: `draw_pages`.
use Rattle.std.proofs.Common.{◌≡◌, ◌≤◌, ℕ, zero, suc, Bool, true, false, ◌||◌, eqb, Option, Some, Ok, Err, List, [], ◌∷◌, ◌++◌, length, map, take, drop, refl, sym, ap, ◌∙◌, subst, arith, append_assoc}
use Rattle.std.specs.Prelude.{slice_get}
use Rattle.std.specs.Str.{bytes_eq}
use Rattle.std.proofs.lemmas.Bool.{true≢false, eqb-true}
use Rattle.std.proofs.lemmas.List.{append-nil, take_all, take-append-drop}
use Rattle.std.proofs.lemmas.Option.{slice_get_within}
use Rattle.std.proofs.lemmas.Slice.Eq.{bytes_eq-Decides}
use Rattle.djvu_base.specs.Library.{Files, Library, library_of, names_of}
use Rattle.djvu_base.specs.Meter.{ticked, TicksExactly}
use Rattle.djvu_base.specs.Name.{is_listed}
use Rattle.djvu_base.proofs.Ticks.{at_most_none}
use Rattle.djvu_outside.specs.declared.stops.Stop.{Stop}
use Rattle.djvu_outside.specs.Cut.{cut}
use Rattle.djvu_outside.specs.Faults.{Failure}
use Rattle.djvu_outside.specs.Puts.{GivesBoth}
use Rattle.djvu_outside.proofs.Lemmas.{puts_after, puts_more, stops_first}
use Rattle.include_graph.specs.Verdicts.{is_among}
use Rattle.zp_table.specs.declared.rows.Row.{Row}
use Rattle.zp_table.specs.Rows.{IsTable}
use Rattle.page_decoder.specs.Decoder.{RiseTogether}
use Rattle.page_decoder.specs.Libraries.{names_in, res_of, is_reached, work_of, LibraryGoesOn}
use Rattle.replay_core.specs.Core.{CoreSeen, Stands, AllOver}
use Rattle.replay_core.specs.CorePages.{PageSeen}
use Rattle.replay_core.specs.Counts.{Counts, files_of, counted, CountsWithin, CountsAll}
use Rattle.replay_core.specs.Machine.{PageState, State}
use Rattle.viewer_words.specs.Lines.{name_at}
use Rattle.viewer_run.specs.declared.core_run.CoreRun.{CoreRun}
use Rattle.viewer_run.specs.declared.shown.Shown.{Shown}
use Rattle.viewer_run.specs.CoreRun.{Follows, ReadSo, StoppedSo, WentOn, with_needs}
use Rattle.viewer_run.specs.Drawing.{StopsPutting}
use Rattle.viewer_run.specs.Ended.{Around}
use Rattle.viewer_run.specs.Offline.{status_by, texts_of_pages}
use Rattle.viewer_run.specs.Plan.{Draws}
use Rattle.viewer_run.specs.Reads.{and_page, and_pages, and_its_needs}
use Rattle.viewer_run.specs.Shown.{NamesOnly, Shows}
use Rattle.viewer_run.specs.Texts.{Texts, joined, texts_of_page}
use Rattle.viewer_run.proofs.AllPages.{DrewSo, OverStays, order_to, cut_names, cut_many}
use Rattle.viewer_run.proofs.Counting.{all_stays}
use Rattle.viewer_run.proofs.Extending.{only_read}
use Rattle.viewer_run.proofs.Known.{known_goes_on}
use Rattle.viewer_run.proofs.Ordering.{pages_more, pages_append, needs_within}
use Rattle.viewer_run.proofs.Over.{AllOverIn, texts_stay, texts_append, texts_push, names_go_on}
use Rattle.viewer_run.proofs.Onward.{GoBoth}
use Rattle.viewer_run.proofs.Rising.{rise_both, rise_exactly, rise_at_most}

-- ---- names of files that were read

listed_among : (names : List (List ℕ)) (read : List ℕ) (number : ℕ) → is_among number read ≡ true
    → is_listed (map (name_at names) read) (name_at names number) ≡ true
listed_among names [] number e = absurd (true≢false (sym e))
listed_among names (first ∷ read) number e = by (eqb number first) refl e (listed_among names read number)
  where
    or_more : (a b : Bool) → b ≡ true → (a || b) ≡ true
    or_more true b e = refl
    or_more false b e = e

    by : (t : Bool) → eqb number first ≡ t → (t || is_among number read) ≡ true
        → (is_among number read ≡ true → is_listed (map (name_at names) read) (name_at names number) ≡ true)
        → (bytes_eq (name_at names number) (name_at names first) || is_listed (map (name_at names) read) (name_at names number)) ≡ true
    by true same e more =
        ap (λ b. b || is_listed (map (name_at names) read) (name_at names number))
        ((bytes_eq-Decides (name_at names number) (name_at names first)).1 (ap (name_at names) (eqb-true number first same)))
    by false same e more =
        or_more (bytes_eq (name_at names number) (name_at names first)) (is_listed (map (name_at names) read) (name_at names number)) (more e)

-- failures of some of these files are of these files
only_among : (names : List (List ℕ)) (read more : List ℕ) (failures : List Failure)
    → ((number : ℕ) → is_among number read ≡ true → is_among number more ≡ true) → NamesOnly (map (name_at names) read) failures
    → NamesOnly (map (name_at names) more) failures
only_among names read more failures within only name apart =
    only name
    (only_read names read name
    (λ number among same. true≢false
    (sym (listed_among names more number (within number among)) ∙ ap (is_listed (map (name_at names) more)) same ∙ apart)))

-- ---- the work of pages

-- the laws of what a core counts
pub record WorkLaws : Type 0 where
  pub most : (table : List Row) (library : Library) (counts : Counts) → CountsWithin table library counts
      → counted counts ≤ work_of table library (files_of counts.pages)
  pub all : (table : List Row) (library : Library) (counts : Counts) → CountsWithin table library counts → CountsAll table library counts
      → counted counts ≡ work_of table library (files_of counts.pages)
  pub stay : (table : List Row) (library later : Library) (counts : Counts) → IsTable table → LibraryGoesOn library later
      → CountsWithin table library counts → CountsWithin table later counts
  pub reached : (table : List Row) (library later : Library) (file page : ℕ) → IsTable table → LibraryGoesOn library later
      → is_reached table library file page ≡ true
      → (is_reached table later file page ≡ true) × (res_of table library file ≡ res_of table later file)
  pub within : (state : State) (counts : Counts) (core : CoreSeen) → Stands state counts core → CountsWithin core.table state.library counts
  pub files : (state : State) (counts : Counts) (core : CoreSeen) → Stands state counts core
      → files_of counts.pages ≡ map (λ (page : PageSeen). page.file) core.pages
  pub pages : (state : State) (counts : Counts) (core : CoreSeen) → Stands state counts core
      → map (λ (page : PageState). page.file) state.pages ≡ map (λ (page : PageSeen). page.file) core.pages
  pub ended : (state : State) (counts : Counts) (core : CoreSeen) → Stands state counts core → AllOver core.pages
      → CountsAll core.table state.library counts

module _ (laws : WorkLaws) (table : List Row) (numbers : List ℕ) (state : State) (counts : Counts) (run : CoreRun) (follows : Follows state counts run)
    (table_so : run.core.table ≡ table) (pages_so : run.pages ≡ numbers) (later : Library) (goes_on : LibraryGoesOn state.library later) where
  its_pages : files_of counts.pages ≡ numbers
  its_pages = laws.files state counts run.core follows.stands ∙ sym (laws.pages state counts run.core follows.stands) ∙ follows.pages ∙ pages_so

  is_table : IsTable table
  is_table = subst IsTable table_so follows.table

  within_later : CountsWithin table later counts
  within_later =
      laws.stay table state.library later counts is_table goes_on
      (subst (λ t. CountsWithin t state.library counts) table_so (laws.within state counts run.core follows.stands))

  pub work_most : counted counts ≤ work_of table later numbers
  work_most = subst (λ l. counted counts ≤ work_of table later l) its_pages (laws.most table later counts within_later)

  pub work_all : OverStays → AllOverIn table state.library numbers → AllOver run.core.pages → counted counts ≡ work_of table later numbers
  work_all law over all =
      let counts_all = subst (λ t. CountsAll t state.library counts) table_so (laws.ended state counts run.core follows.stands all) in
      subst (λ l. counted counts ≡ work_of table later l) its_pages
      (laws.all table later counts within_later
      (all_stays table state.library later (λ page is. law table state.library later page is_table goes_on is)
      (λ file page reached. laws.reached table state.library later file page is_table goes_on reached) counts
      (subst (AllOverIn table state.library) (sym its_pages) over) counts_all))

-- ---- where the run stopped

drop_next : {A : Type 0} (list : List A) (at : ℕ) (it : A) → slice_get list at ≡ Some it → drop at list ≡ it ∷ drop (suc at) list
drop_next [] at it e = cc
drop_next (first ∷ list) zero it e = let same : first ≡ it = cc in ap (λ x. x ∷ list) same
drop_next (first ∷ list) (suc at) it e = drop_next list at it e

-- before the first page
pub shows_nothing : (library : Library) (table : List Row) (numbers : List ℕ) (fault : Stop) (around : Around)
    → Shows library (Draws table numbers) (Err fault) around around
shows_nothing library table numbers fault around = record {
  added = [];
  grown = sym (append-nil around.failures);
  only = λ name apart. refl;
  reads = refl;
  puts = stops_first (texts_of_pages (texts_of_page table (cut [] library)) numbers).puts around.told;
  ticks = at_most_none (work_of table (cut [] library) numbers) around.count;
  refused = tt;
  broken = tt;
}

module _ (told : Option Files) (table : List Row) (names : List (List ℕ)) (numbers : List ℕ) (at file : ℕ) (old : CoreRun) (refused : Bool)
    (before mid after : Around) (drew : DrewSo told table names numbers at old refused before mid) (found : slice_get numbers at ≡ Some file)
    (stop : StopsPutting told at file drew.state drew.counts old mid after) where
  abbrev its : WentOn at drew.state drew.counts old stop.stops.mid mid.count after.count
  its = stop.stops.went

  rise_stopped : RiseTogether 0 (ticked (counted its.counted_so) 0) before.count after.count
  rise_stopped =
      rise_both 0 (ticked (counted drew.counts) 0) (ticked (counted its.counted_so) 0) before.count mid.count after.count drew.rise its.rise

  pub ticks_stopped : (ticks : ℕ) × TicksExactly ticks before.count after.count
  ticks_stopped = (rise_stopped.0, rise_stopped.2)

  abbrev rest : List ℕ
  rest = drop (suc at) numbers

  split : numbers ≡ (take at numbers ++ file ∷ []) ++ rest
  split =
      sym (take-append-drop at numbers) ∙ ap (λ l. take at numbers ++ l) (drop_next numbers at file found)
      ∙ sym (append_assoc (take at numbers) (file ∷ []) rest)

  module _ (files : Files) (is : told ≡ Some files) (over : names ≡ names_of files) (laws : WorkLaws) (both : GoBoth) (law : OverStays) where
    abbrev stopped : StoppedSo files before.failures after.failures
        (with_needs old.core.table file stop.stops.needs (order_to table (take at numbers))) old.names its.after.library
    stopped = stop.stops.stopped files before.failures (order_to table (take at numbers)) is (drew.read_so files is)

    abbrev whole : Library
    whole = cut stopped.added (library_of files)

    few_needs : stop.stops.needs ≤ length whole
    few_needs =
        let few = stop.stops.few in
        let many = cut_many stopped.added files in
        let same = ap length (drew.names_so ∙ over) in
        omega (arith, few, many, same)

    -- what was read is among what all pages need
    read_among : (number : ℕ) → is_among number (with_needs old.core.table file stop.stops.needs (order_to table (take at numbers)) whole) ≡ true
        → is_among number (and_pages table whole numbers []) ≡ true
    read_among number e =
        let first = order_to table (take at numbers) whole in
        ap (λ l. is_among number (and_pages table whole l [])) split
        ∙ ap (is_among number) (pages_append table whole (take at numbers ++ file ∷ []) rest [])
        ∙ ap (λ l. is_among number (and_pages table whole rest l)) (pages_append table whole (take at numbers) (file ∷ []) [])
        ∙ pages_more table whole rest number (and_its_needs table whole file (length whole) (and_page file first))
        (needs_within table whole file stop.stops.needs (length whole) number (and_page file first) few_needs
        (ap (λ t. is_among number (and_its_needs t whole file stop.stops.needs (and_page file first))) (sym drew.table_so) ∙ e))

    names_whole : old.names ≡ names_in whole
    names_whole = drew.names_so ∙ over ∙ sym (cut_names stopped.added files)

    only_stopped : NamesOnly (map (name_at (names_in whole)) (and_pages table whole numbers [])) stopped.added
    only_stopped =
        subst (λ n. NamesOnly (map (name_at n) (and_pages table whole numbers [])) stopped.added) names_whole
        (only_among old.names (with_needs old.core.table file stop.stops.needs (order_to table (take at numbers)) whole) (and_pages table whole numbers [])
        stopped.added read_among stopped.only)

    goes_on : LibraryGoesOn drew.state.library whole
    goes_on = both drew.state.library its.after.library whole its.goes_on stopped.goes_on

    texts_whole : texts_of_pages (texts_of_page table whole) numbers
        ≡ joined (joined (texts_of_pages (texts_of_page table drew.state.library) (take at numbers)) (texts_of_page old.core.table whole file))
        (texts_of_pages (texts_of_page table whole) rest)
    texts_whole =
        let texts = texts_of_page table whole in
        ap (texts_of_pages texts) split ∙ texts_append texts (take at numbers ++ file ∷ []) rest
        ∙ ap (λ t. joined t (texts_of_pages texts rest))
        (texts_push texts (take at numbers) file
        ∙ ap (λ t. joined t (texts file))
        (texts_stay table drew.state.library whole (names_go_on drew.state.library whole goes_on)
        (λ page is_over. law table drew.state.library whole page (subst IsTable drew.table_so drew.follows.table) goes_on is_over) (take at numbers) drew.over)
        ∙ ap (λ t. joined (texts_of_pages (texts_of_page table drew.state.library) (take at numbers)) (texts_of_page t whole file)) (sym drew.table_so))

    pub shows_stopped : (fault : Stop) → Shows (library_of files) (Draws table numbers) (Err fault) before after
    shows_stopped fault =
        let first = texts_of_pages (texts_of_page table drew.state.library) (take at numbers) in
        let here = texts_of_page old.core.table whole file in
        let last = texts_of_pages (texts_of_page table whole) rest in
        record {
          added = stopped.added;
          grown = stopped.grown;
          only = only_stopped;
          reads = stopped.first;
          puts =
              subst (λ (t : Texts). GivesBoth {T = Shown} (Err fault) t.puts before.told after.told) (sym texts_whole)
              (puts_more {T = Shown} (Err fault) (first.puts ++ here.puts) last.puts before.told after.told refl
              (puts_after {T = Shown} (Err fault) first.puts here.puts before.told mid.told after.told drew.puts (stop.puts whole stopped.goes_on)));
          ticks =
              rise_at_most (counted its.counted_so) (work_of table whole numbers) before.count after.count
              (work_most laws table numbers its.after its.counted_so stop.stops.mid its.follows (its.same.frame.table ∙ drew.table_so)
              (its.same.pages ∙ drew.pages_so) whole stopped.goes_on) rise_stopped;
          refused = tt;
          broken = tt;
        }

-- ---- all pages

module _ (told : Option Files) (table : List Row) (names : List (List ℕ)) (numbers : List ℕ) (at : ℕ) (now : CoreRun) (refused : Bool)
    (before after : Around) (drew : DrewSo told table names numbers at now refused before after) (all : length numbers ≤ at) where
  taken : take at numbers ≡ numbers
  taken = take_all at numbers all

  pub ticks_all : (ticks : ℕ) × TicksExactly ticks before.count after.count
  ticks_all = (drew.rise.0, drew.rise.2)

  all_seen : AllOver now.core.pages
  all_seen number page found =
      let within = slice_get_within now.core.pages number page found in
      let many = drew.follows.count in
      let same = ap length drew.pages_so in
      drew.over_seen number page (omega (arith, within, many, same, all)) found

  module _ (files : Files) (is : told ≡ Some files) (over : names ≡ names_of files) (laws : WorkLaws) (law : OverStays) where
    abbrev reads : ReadSo files before.failures after.failures (order_to table (take at numbers)) drew.state.library now
    reads = drew.read_so files is

    abbrev all_whole : Library
    all_whole = cut reads.added (library_of files)

    all_goes_on : LibraryGoesOn drew.state.library all_whole
    all_goes_on =
        subst (λ l. LibraryGoesOn l all_whole) (sym reads.library_so) (known_goes_on (λ number. is_among number reads.read) all_whole)

    order_all : and_pages table all_whole numbers [] ≡ reads.read
    order_all =
        ap (λ l. and_pages table all_whole l []) (sym taken)
        ∙ ap (λ f. order_to table (take at numbers) (cut f (library_of files))) (sym (append-nil reads.added))
        ∙ reads.order_so [] (λ number among. refl)

    texts_all : texts_of_pages (texts_of_page table all_whole) numbers ≡ texts_of_pages (texts_of_page table drew.state.library) (take at numbers)
    texts_all =
        ap (texts_of_pages (texts_of_page table all_whole)) (sym taken)
        ∙ texts_stay table drew.state.library all_whole (names_go_on drew.state.library all_whole all_goes_on)
        (λ page is_over. law table drew.state.library all_whole page (subst IsTable drew.table_so drew.follows.table) all_goes_on is_over)
        (take at numbers) drew.over

    pub shows_all : Shows (library_of files) (Draws table numbers) (Ok (record { refused = refused; broken = now.broken })) before after
    shows_all = record {
      added = reads.added;
      grown = reads.grown;
      only =
          subst (λ n. NamesOnly (map (name_at n) (and_pages table all_whole numbers [])) reads.added)
          (drew.names_so ∙ over ∙ sym (cut_names reads.added files))
          (subst (λ l. NamesOnly (map (name_at now.names) l) reads.added) (sym order_all) reads.only);
      reads = reads.first;
      puts =
          subst (λ (t : Texts). GivesBoth {T = Shown} (Ok (record { refused = refused; broken = now.broken })) t.puts before.told after.told)
          (sym texts_all) drew.puts;
      ticks =
          subst (λ n. TicksExactly n before.count after.count)
          (work_all laws table numbers drew.state drew.counts now drew.follows drew.table_so drew.pages_so all_whole all_goes_on law
          (subst (AllOverIn table drew.state.library) taken drew.over) all_seen)
          (rise_exactly (counted drew.counts) before.count after.count drew.rise);
      refused = ap status_by (ap (λ (t : Texts). t.refused) texts_all ∙ sym drew.refused_so);
      broken = reads.broken;
    }
