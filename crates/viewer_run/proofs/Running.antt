-- What a run puts, by its plan and by the failures that it met.
use Rattle.std.proofs.Common.{◌≡◌, ℕ, Bool, true, false, cond, not, ◌&&◌, ◌||◌, Some, None, Result, Ok, Err, IfOk, List, [], ◌∷◌, ◌++◌, ◌+◌, ◌<◌, ◌≤◌, arith, inl, inr, refl, sym, ap, ◌∙◌, subst, add-zero}
use Rattle.std.specs.Str.{bytes_eq}
use Rattle.std.proofs.lemmas.Bool.{true≢false}
use Rattle.std.proofs.lemmas.List.{append-nil}
use Rattle.std.proofs.lemmas.Slice.Eq.{bytes_eq-Decides}
use Rattle.djvu_base.specs.Library.{Files, Library, library_of}
use Rattle.djvu_base.specs.Meter.{TicksExactly, TicksAtMost}
use Rattle.djvu_base.specs.Name.{is_listed}
use Rattle.djvu_base.proofs.Ticks.{at_most_none}
use Rattle.djvu_outside.specs.declared.stops.Status.{Status}
use Rattle.djvu_outside.specs.declared.stops.Stop.{Stop}
use Rattle.djvu_outside.specs.declared.stops.Stop.TheVariants as stop
use Rattle.djvu_outside.specs.Faults.{Failure, Listing, Reading}
use Rattle.djvu_outside.specs.Cut.{first_entry, cut}
use Rattle.djvu_outside.specs.Parts.{FolderStops, status_of, Ticks}
use Rattle.djvu_outside.specs.Puts.{Put, GotPrefix, GivesBoth, to_report}
use Rattle.djvu_outside.proofs.Lemmas.{no_ticks, nothing_cut, puts_same, stops_first}
use Rattle.viewer_words.specs.declared.commands.Command.{Command}
use Rattle.viewer_words.specs.declared.commands.Command.TheVariants as command
use Rattle.viewer_words.specs.Files.{named_files}
use Rattle.viewer_words.specs.Lines.{words_line}
use Rattle.viewer_words.specs.Words.{words_of}
use Rattle.viewer_run.specs.declared.front.Front.{Front}
use Rattle.viewer_run.specs.declared.front.Mode.{Mode}
use Rattle.viewer_run.specs.declared.front.Mode.TheVariants as mode
use Rattle.viewer_run.specs.declared.shown.Shown.{Shown}
use Rattle.viewer_run.specs.EarlyFailures.{front_may_fail, front_failed, names_table, read_after, NamesRead}
use Rattle.viewer_run.specs.Plan.{Plan, Refuses, Draws, Lists, plan_of, plan_by_words, asks_no_folder}
use Rattle.viewer_run.specs.Reads.{names_behind}
use Rattle.viewer_run.specs.Offline.{Written, status_by, written_by, refused_by, offline, with_failures, written_cut, nothing_written, IsWritten, IsOutcome, MayFailSo}
use Rattle.viewer_run.specs.Runs.{Outside, Run}
use Rattle.viewer_run.specs.Ended.{Around, EndsSo, GoesOnFrom, Runs}
use Rattle.viewer_run.specs.Shown.{HasBroken, NamesOnly, Shows, lists_first, status_shown}
use Rattle.viewer_run.specs.Start.{StartsFor, plan_for}

-- what a plan writes, as an equation
pub is_written : (library : Library) (plan : Plan) (failures : List Failure) (w : Written) → w ≡ with_failures failures (written_by library plan)
    → IsWritten library plan failures w
is_written library (Refuses line) failures w e = e
is_written library (Draws rows pages) failures w e = e
is_written library (Lists pages) failures w e = e

pub written_is : (library : Library) (plan : Plan) (failures : List Failure) (w : Written) → IsWritten library plan failures w
    → w ≡ with_failures failures (written_by library plan)
written_is library (Refuses line) failures w e = e
written_is library (Draws rows pages) failures w e = e
written_is library (Lists pages) failures w e = e

may_fail : (how : Mode) (pages : List ℕ) (failures : List Failure) → MayFailSo (plan_for how pages) failures
may_fail (mode.Draw rows) pages failures = tt
may_fail mode.Info pages failures = tt

and_not : (a b : Bool) → b ≡ true → (a && not b) ≡ false
and_not true b e = ap not e
and_not false b e = refl

-- failures of what is read after the front alone aren't the front's
not_front : (library : Library) (words : List (List ℕ)) (failures : List Failure) → NamesOnly (read_after library words failures) failures
    → lists_first failures ≡ false → front_failed library words failures ≡ false
not_front library words [] only reads = refl
not_front library words (Listing ∷ failures) only reads = absurd (true≢false reads)
not_front library words (Reading name count ∷ failures) only reads =
    let read = read_after library words (Reading name count ∷ failures) in
    and_not (names_table (words_of words) name) (is_listed read name) (there (is_listed read name) refl)
  where
    there : (t : Bool) → is_listed (read_after library words (Reading name count ∷ failures)) name ≡ t
        → is_listed (read_after library words (Reading name count ∷ failures)) name ≡ true
    there true h = h
    there false h =
        let none : cond (bytes_eq name name) (Some count) (first_entry failures name) ≡ None = only name h in
        let some : cond (bytes_eq name name) (Some count) (first_entry failures name) ≡ Some count =
        ap (λ t. cond t (Some count) (first_entry failures name)) ((bytes_eq-Decides name name).1 refl) in
        let both = sym some ∙ none in cc

puts_kept : (failures : List Failure) (w : Written) → (with_failures failures w).puts ≡ w.puts
puts_kept [] w = refl
puts_kept (entry ∷ failures) w = refl

work_kept : (failures : List Failure) (w : Written) → (with_failures failures w).work ≡ w.work
work_kept [] w = refl
work_kept (entry ∷ failures) w = refl

-- the status of pages that were shown
status_of_all : (shown : Shown) (failures : List Failure) (w : Written) → HasBroken shown.broken failures → w.status ≡ status_by shown.refused
    → status_shown shown ≡ (with_failures failures w).status
status_of_all shown failures w broken refused = by shown.broken shown.refused failures broken refused
  where
    by : (b r : Bool) (failures : List Failure) → HasBroken b failures → w.status ≡ status_by r → cond b 3 (cond r 1 0) ≡ (with_failures failures w).status
    by true r [] h e = absurd (h refl)
    by true r (entry ∷ failures) h e = refl
    by false true [] h e = sym e
    by false false [] h e = sym e
    by false r (entry ∷ failures) h e = cc

or_second : (a b : Bool) → (a || b) ≡ false → b ≡ false
or_second true b e = absurd (true≢false e)
or_second false b e = e

only_named : (library : Library) (words : List (List ℕ)) (failures : List Failure) → NamesOnly (read_after library words failures) failures
    → NamesRead library words failures
only_named library words failures only name other =
    only name (or_second (names_table (words_of words) name) (is_listed (read_after library words failures) name) other)

-- the listing, or the table's reading, names no other file
early_named : (library : Library) (words : List (List ℕ)) (entry : Failure) → front_may_fail words (entry ∷ []) ≡ true → NamesRead library words (entry ∷ [])
early_named library words Listing e name other = refl
early_named library words (Reading table count) e name other = by (bytes_eq name table) refl
  where
    by : (t : Bool) → bytes_eq name table ≡ t → cond t (Some count) None ≡ None
    by false h = refl
    by true h =
        let same : name ≡ table = (bytes_eq-Decides name table).0 h in
        let read = read_after library words (Reading table count ∷ []) in
        absurd (true≢false (sym (ap (λ b. b || is_listed read name) (ap (names_table (words_of words)) same ∙ e)) ∙ other))

-- what pages that were shown come to
module _ (files : Files) (words : List (List ℕ)) (how : Mode) (pages : List ℕ) (plan : plan_for how pages ≡ plan_of (library_of files) words) where
  -- what is written over the files as far as they came
  abbrev shown_written : List Failure → Written
  shown_written failures = written_by (cut failures (library_of files)) (plan_for how pages)

  shown_outcome : (failures : List Failure) → front_failed (library_of files) words failures ≡ false
      → IsOutcome failures failures (library_of files) words (with_failures failures (shown_written failures))
  shown_outcome failures late =
      let library = cut failures (library_of files) in
      inr (
        late,
        subst (λ p. MayFailSo p failures) plan (may_fail how pages failures),
        is_written library (plan_of (library_of files) words) failures _ (ap (λ p. with_failures failures (written_by library p)) plan),
      )

  names_read : (failures : List Failure) → NamesOnly (names_behind (cut failures (library_of files)) (plan_for how pages)) failures
      → NamesOnly (read_after (library_of files) words failures) failures
  names_read failures only = subst (λ p. NamesOnly (names_behind (cut failures (library_of files)) p) failures) plan only

  -- a run that shows pages, up to its end
  pub runs_shown : (result : Result Shown Stop) (shown : Shown) (status : Status) (before mid after : Around)
      → mid ≡ before → Shows (library_of files) (plan_for how pages) result mid after → result ≡ Ok shown → status.0 ≡ status_shown shown
      → Runs files words (Ok status) before after
  runs_shown result shown status before mid after same shows ok is =
      let s =
      subst (λ m. Shows (library_of files) (plan_for how pages) (Ok shown) m after) same
      (subst (λ r. Shows (library_of files) (plan_for how pages) r mid after) ok shows) in
      let texts = shown_written s.added in
      let only = names_read s.added s.only in
      let late = not_front (library_of files) words s.added only s.reads in
      record {
        added = s.added;
        grown = s.grown;
        only = only_named (library_of files) words s.added only;
        goes_on = late;
        written = with_failures s.added texts;
        outcome = shown_outcome s.added late;
        puts = puts_same {T = Status} (Ok status) _ _ before.told after.told (sym (puts_kept s.added texts)) s.puts;
        status = is ∙ status_of_all shown s.added texts s.broken s.refused;
        ticks = subst (λ n. TicksExactly n before.count after.count) (sym (work_kept s.added texts)) s.ticks;
        nothing = λ e. cc;
      }

  not_folder : (fault : Stop) → (fault ≡ stop.Folder → ⊥) → (added : List Failure) (n : ℕ)
      → GoesOnFrom (Err fault) (library_of files) words added × EndsSo (Err fault) n
  not_folder stop.Folder h added n = absurd (h refl)
  not_folder stop.Sink h added n = (tt, tt)
  not_folder stop.Memory h added n = (tt, tt)

  err_same : (fault other : Stop) → ◌≡◌ {A = Result Status Stop} (Err fault) (Err other) → fault ≡ other
  err_same fault other e = cc

  -- a run that stops at a page
  pub runs_stopped : (shown : Result Shown Stop) (result : Result Status Stop) (fault : Stop) (before mid after : Around)
      → mid ≡ before → Shows (library_of files) (plan_for how pages) shown mid after → shown ≡ Err fault → (fault ≡ stop.Folder → ⊥) → result ≡ Err fault
      → Runs files words result before after
  runs_stopped shown result fault before mid after same shows err other is =
      let s =
      subst (λ m. Shows (library_of files) (plan_for how pages) (Err fault) m after) same
      (subst (λ r. Shows (library_of files) (plan_for how pages) r mid after) err shows) in
      let texts = shown_written s.added in
      let only = names_read s.added s.only in
      let late = not_front (library_of files) words s.added only s.reads in
      subst (λ r. Runs files words r before after) (sym is) (record {
        added = s.added;
        grown = s.grown;
        only = only_named (library_of files) words s.added only;
        goes_on = (not_folder fault other s.added 0).0;
        written = with_failures s.added texts;
        outcome = shown_outcome s.added late;
        puts = puts_same {T = Status} (Err fault) _ _ before.told after.told (sym (puts_kept s.added texts)) s.puts;
        status = (not_folder fault other s.added (with_failures s.added texts).status).1;
        ticks = subst (λ n. TicksAtMost n before.count after.count) (sym (work_kept s.added texts)) s.ticks;
        nothing = λ e. absurd (other (err_same fault stop.Folder e));
      })

-- a run that is refused, or stops at its line
pub runs_refused : (files : Files) (words : List (List ℕ)) (line : List ℕ) (result : Result Status Stop) (before after : Around)
    → Refuses line ≡ plan_of (library_of files) words → after.failures ≡ before.failures → after.count ≡ before.count
    → GivesBoth result (to_report line) before.told after.told → IfOk result (λ status. status.0 ≡ 2) → (result ≡ Err stop.Folder → ⊥)
    → Runs files words result before after
runs_refused files words line result before after plan same still gives status other =
    record {
      added = [];
      grown = same ∙ sym (append-nil before.failures);
      only = λ name other. refl;
      goes_on = by_result result other;
      written = refused_by line;
      outcome =
          inr (
            refl,
            subst (λ p. MayFailSo p []) plan refl,
            is_written (cut [] (library_of files)) (plan_of (library_of files) words) [] (refused_by line) (ap (written_by (cut [] (library_of files))) plan),
          );
      puts = gives;
      status = by_status result status other;
      ticks = subst (λ n. Ticks result 0 before.count n) (sym still) (no_ticks result 0 before.count refl);
      nothing = λ e. absurd (other e);
    }
  where
    by_result : (result : Result Status Stop) → (result ≡ Err stop.Folder → ⊥) → GoesOnFrom result (library_of files) words []
    by_result (Ok status) other = refl
    by_result (Err stop.Folder) other = absurd (other refl)
    by_result (Err stop.Sink) other = tt
    by_result (Err stop.Memory) other = tt

    by_status : (result : Result Status Stop) → IfOk result (λ status. status.0 ≡ 2) → (result ≡ Err stop.Folder → ⊥) → EndsSo result 2
    by_status (Ok status) is other = is
    by_status (Err stop.Folder) is other = absurd (other refl)
    by_status (Err stop.Sink) is other = tt
    by_status (Err stop.Memory) is other = tt

none_failed : (plan : Plan) → MayFailSo plan []
none_failed (Refuses line) = refl
none_failed (Draws rows pages) = tt
none_failed (Lists pages) = tt

-- a run that stops before its pages
pub runs_early : (files : Files) (words : List (List ℕ)) (front : Result Front Stop) (fault : Stop) (result : Result Status Stop) (before after : Around)
    → front ≡ Err fault → StartsFor front words before.failures after.failures → after.told ≡ before.told → after.count ≡ before.count → result ≡ Err fault
    → Runs files words result before after
runs_early files words front fault result before after e starts told still is =
    subst (λ x. Runs files words x before after) (sym is) (by fault (subst (λ x. StartsFor x words before.failures after.failures) e starts))
  where
    nothing_got : (puts : List Put) → GotPrefix puts before.told after.told
    nothing_got puts = subst (GotPrefix puts before.told) (sym told) (stops_first puts before.told)

    nothing_ticked : (work : ℕ) → TicksAtMost work before.count after.count
    nothing_ticked work = subst (TicksAtMost work before.count) (sym still) (at_most_none work before.count)

    by : (fault : Stop) → StartsFor {T = Front} (Err fault) words before.failures after.failures → Runs files words (Err fault) before after
    by stop.Folder l = record {
      added = l.0 ∷ [];
      grown = l.1;
      only = early_named (library_of files) words l.0 l.2;
      goes_on = tt;
      written = nothing_written;
      outcome = inl (l.2, (l.0, refl), refl);
      puts = nothing_got [];
      status = refl;
      ticks = nothing_ticked 0;
      nothing = λ e. (refl, refl);
    }
    by stop.Sink l = absurd l
    by stop.Memory l = record {
      added = [];
      grown = l ∙ sym (append-nil before.failures);
      only = λ name other. refl;
      goes_on = tt;
      written = written_cut [] (library_of files) words;
      outcome = inr (refl, none_failed (plan_of (library_of files) words), is_written (cut [] (library_of files)) (plan_of (library_of files) words) [] _ refl);
      puts = nothing_got (written_cut [] (library_of files) words).puts;
      status = tt;
      ticks = nothing_ticked (written_cut [] (library_of files) words).work;
      nothing = λ e. cc;
    }

cancel : (a b c : List Failure) → a ++ b ≡ a ++ c → b ≡ c
cancel [] b c e = e
cancel (x ∷ a) b c e = let rest : a ++ b ≡ a ++ c = cc in cancel a b c rest

-- the failures that were met are those by which the list grew
pub same_added : (old new a b : List Failure) → new ≡ old ++ a → new ≡ old ++ b → a ≡ b
same_added old new a b e f = cancel old a b (sym e ∙ f)

-- what is around one folder and one meter, as what is outside of a run
abbrev pub outside_of : Around → Outside
outside_of here = record { failures = here.failures ∷ []; told = here.told; counts = here.count ∷ [] }

one_outcome : (files : Files) (words : List (List ℕ)) (added : List Failure) (w : Written) → IsOutcome added added (library_of files) words w
    → IsOutcome added (added ++ []) (library_of files) words w
one_outcome files words added w o = subst (λ l. IsOutcome added l (library_of files) words w) (sym (append-nil added)) o

one_named : (files : Files) (words : List (List ℕ)) (added : List Failure) → NamesRead (library_of files) words added
    → NamesRead (library_of files) words (added ++ [])
one_named files words added o = subst (NamesRead (library_of files) words) (sym (append-nil added)) o

-- a run that came to its end
pub run_ended : (files : Files) (words : List (List ℕ)) (status : Status) (before after : Around) → Runs files words (Ok status) before after
    → Run files words status.0 (outside_of before) (outside_of after)
run_ended files words status before after r = record {
  added = r.added ∷ [];
  each_folder = refl;
  grown = ap (λ l. l ∷ []) r.grown;
  only = one_named files words r.added r.only;
  written = r.written;
  outcome = one_outcome files words r.added r.written r.outcome;
  same_status = λ below. r.status;
  part = r.written.puts;
  rest = [];
  puts_are = sym (append-nil r.written.puts);
  got = r.puts;
  all_put = λ below. refl;
  ticks = r.written.work ∷ [];
  each_meter = refl;
  counted = ap (λ n. n ∷ []) r.ticks;
  most = omega arith;
  all_counted = λ below. add-zero r.written.work;
}

is_folder : (fault : Stop) → status_of fault < 4 → fault ≡ stop.Folder
is_folder stop.Folder h = refl
is_folder stop.Sink h = absurd (omega arith)
is_folder stop.Memory h = absurd (omega arith)

stopped_status : (fault : Stop) (wanted : ℕ) → fault ≡ stop.Folder → EndsSo (Err fault) wanted → status_of fault ≡ wanted
stopped_status fault wanted e h = ap status_of e ∙ sym (subst (λ f. EndsSo (Err f) wanted) e h)

no_more : (ticks work : ℕ) → work ≡ 0 → ticks ≤ work → ticks + 0 ≡ work
no_more ticks work e h = omega arith

none_left : (part rest : List Put) → [] ≡ part ++ rest → rest ≡ []
none_left [] rest e = sym e
none_left (x ∷ part) rest e = cc

-- a run that stopped
pub run_stopped : (files : Files) (words : List (List ℕ)) (fault : Stop) (status : ℕ) (before after : Around) → status ≡ status_of fault
    → Runs files words (Err fault) before after → Run files words status (outside_of before) (outside_of after)
run_stopped files words fault status before after e r =
    let early : status < 4 → fault ≡ stop.Folder = λ below. is_folder fault (subst (λ n. n < 4) e below) in
    let none : status < 4 → (r.written.puts ≡ []) × (r.written.work ≡ 0) = λ below. r.nothing (ap Err (early below)) in
    record {
      added = r.added ∷ [];
      each_folder = refl;
      grown = ap (λ l. l ∷ []) r.grown;
      only = one_named files words r.added r.only;
      written = r.written;
      outcome = one_outcome files words r.added r.written r.outcome;
      same_status = λ below. e ∙ stopped_status fault r.written.status (early below) r.status;
      part = r.puts.part;
      rest = r.puts.rest;
      puts_are = r.puts.puts_are;
      got = r.puts.got;
      all_put = λ below. none_left r.puts.part r.puts.rest (sym (none below).0 ∙ r.puts.puts_are);
      ticks = r.ticks.0 ∷ [];
      each_meter = refl;
      counted = ap (λ n. n ∷ []) r.ticks.2;
      most = subst (λ n. n ≤ r.written.work) (sym (add-zero r.ticks.0)) r.ticks.1;
      all_counted = λ below. no_more r.ticks.0 r.written.work (none below).1 r.ticks.1;
    }

-- a run whose front failed doesn't come to its end
pub front_stops : (files : Files) (words : List (List ℕ)) (status : Status) (before after : Around) (added : List Failure)
    → Runs files words (Ok status) before after → after.failures ≡ before.failures ++ added → front_failed (library_of files) words added ≡ true → ⊥
front_stops files words status before after added r grown failed =
    true≢false (sym failed ∙ ap (front_failed (library_of files) words) (same_added before.failures after.failures added r.added grown r.grown) ∙ r.goes_on)

-- words that ask for nothing of the folder are refused
refused_alone : (asked : Result Command ℕ) (words : List (List ℕ)) → asks_no_folder asked ≡ true
    → (line : List ℕ) × (plan_by_words [] (named_files words) asked ≡ Refuses line)
refused_alone (Ok (command.Draw table pages)) words e = absurd (true≢false (sym e))
refused_alone (Ok (command.Info pages)) words e = absurd (true≢false (sym e))
refused_alone (Err number) words e = (words_line number, refl)

pub never_shown : (words : List (List ℕ)) (how : Mode) (pages : List ℕ) → asks_no_folder (words_of words) ≡ true → plan_for how pages ≡ plan_of [] words → ⊥
never_shown words how pages e plan = by how (plan ∙ (refused_alone (words_of words) words e).1)
  where
    by : (how : Mode) → plan_for how pages ≡ Refuses (refused_alone (words_of words) words e).0 → ⊥
    by (mode.Draw rows) e = cc
    by mode.Info e = cc

pub starts_alone : (front : Result Front Stop) (words : List (List ℕ)) (before after : ℕ) → FolderStops front before after → (front ≡ Err stop.Folder → ⊥)
    → StartsFor front words [] []
starts_alone (Ok value) words before after s other = refl
starts_alone (Err stop.Folder) words before after s other = absurd (other refl)
starts_alone (Err stop.Sink) words before after s other = s
starts_alone (Err stop.Memory) words before after s other = refl

-- where nothing failed
pub sound_outcome : (library : Library) (words : List (List ℕ)) (texts : Written) → IsOutcome [] [] library words texts → texts ≡ offline library words
sound_outcome library words texts (inl early) = absurd (true≢false (sym early.0))
sound_outcome library words texts (inr late) =
    written_is (cut [] library) (plan_of library words) [] texts late.2 ∙ ap (λ l. written_by l (plan_of library words)) (nothing_cut library)
