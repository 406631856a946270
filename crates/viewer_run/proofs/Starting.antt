-- What the start of a run leaves to its pages.
use Rattle.std.proofs.Common.{◌≡◌, ◌≢◌, ℕ, suc, Bool, true, false, cond, ltb, ◌||◌, Option, Some, None, Result, Ok, Err, IsSome, unwrap_or, List, [], ◌∷◌, ◌++◌, length, map, option_map, take, get_or, refl, sym, subst, arith, ap, ◌+◌, ◌∙◌}
use Rattle.std.specs.List.{AllPairs}
use Rattle.std.specs.Str.{bytes_eq}
use Rattle.std.proofs.lemmas.Bool.{true≢false, ltb-false}
use Rattle.std.proofs.lemmas.List.{take_all}
use Rattle.std.proofs.lemmas.List.Folds.{list_any_none}
use Rattle.std.proofs.lemmas.Slice.Eq.{bytes_eq-Decides}
use Rattle.djvu_base.specs.Library.{Files, Whole, names_of, contents_of, file_named, library_within, library_of, file_limit}
use Rattle.djvu_outside.specs.Faults.{Failure, Listing, Reading}
use Rattle.djvu_outside.specs.Reading.{HasFile, bytes_in}
use Rattle.viewer_words.specs.Lines.{words_line, folder_line}
use Rattle.djvu_base.specs.declared.ends.FileEnd.{FileEnd}
use Rattle.djvu_base.specs.declared.ends.FileEnd.TheVariants as file_end
use Rattle.djvu_outside.specs.FileReads.{IsReadTo}
use Rattle.djvu_outside.specs.FileReads.{is_broken}
use Rattle.viewer_words.specs.declared.commands.TableChoice.{TableChoice}
use Rattle.viewer_words.specs.declared.commands.TableChoice.TheVariants as choice
use Rattle.viewer_words.specs.Files.{NamedFile, first_unlisted, table_before, unlisted_line}
use Rattle.page_decoder.specs.Libraries.{names_in}
use Rattle.viewer_run.specs.Plan.{name_limit, line_by_names, bytes_of_found, table_in, table_of}
use Rattle.djvu_base.specs.Name.{IsAscending, is_listed}
use Rattle.viewer_run.specs.Listed.{HasFiles}
use Rattle.viewer_run.specs.Shown.{AreDistinct}
use Rattle.viewer_run.specs.Start.{IsEarly, Starts, StartsFor, AreListed, HasNames, CanRead}
use Rattle.viewer_run.specs.EarlyFailures.{front_may_fail, names_table}
use Rattle.djvu_outside.specs.declared.stops.Stop.{Stop}
use Rattle.djvu_outside.specs.declared.stops.Stop.TheVariants as stop
use Rattle.viewer_words.specs.declared.commands.Command.TheVariants as command
use Rattle.viewer_words.specs.Words.{words_of}

one_listed : (files : Files) (name : List ℕ) (bytes : List ℕ) (t : Bool) → (is_listed (names_of files) name ≡ true → HasFile files name)
    → (t || is_listed (names_of files) name) ≡ true → IsSome (cond t (Some bytes) (contents_of name files))
one_listed files name bytes true more h = refl
one_listed files name bytes false more h = more h

-- a listed name is the name of a file
listed_file : (files : Files) (name : List ℕ) → is_listed (names_of files) name ≡ true → HasFile files name
listed_file [] name e = absurd (true≢false (sym e))
listed_file (file ∷ files) name e = one_listed files name file.1 (bytes_eq name file.0) (listed_file files name) e

-- the folder has a file of each listed name
pub listed_files : (files : Files) (names pages : List (List ℕ)) → names ≡ names_of files → AreListed names pages → HasFiles files pages
listed_files files names [] e h = tt
listed_files files names (page ∷ pages) e h =
    (listed_file files page (ap (λ l. is_listed l page) (sym e) ∙ h.0), listed_files files names pages e h.1)

-- where no file is unlisted, each name is listed
all_listed : (names : List (List ℕ)) (named : List NamedFile) → first_unlisted names named ≡ None → AreListed names (map (λ (file : NamedFile). file.1) named)
all_listed names [] e = tt
all_listed names (file ∷ named) e = by (is_listed names file.1) refl e (all_listed names named)
  where
    by : (t : Bool) → is_listed names file.1 ≡ t → cond t (first_unlisted names named) (Some file.0) ≡ None
        → (first_unlisted names named ≡ None → AreListed names (map (λ (other : NamedFile). other.1) named))
        → (is_listed names file.1 ≡ true) × AreListed names (map (λ (other : NamedFile). other.1) named)
    by true h e more = (h, more e)
    by false h e more = cc

-- where no line refuses a run, the folder has what its words name
pub fits : (names : List (List ℕ)) (named : List NamedFile) → IsAscending names → line_by_names names named ≡ None
    → HasNames names (map (λ (file : NamedFile). file.1) named)
fits names named ascending e = by (ltb name_limit (length names)) refl e
  where
    none : (o : Option ℕ) → option_map words_line o ≡ None → o ≡ None
    none None e = refl
    none (Some number) e = cc

    by : (many : Bool) → ltb name_limit (length names) ≡ many → cond many (Some (folder_line (length names))) (unlisted_line names named) ≡ None
        → HasNames names (map (λ (file : NamedFile). file.1) named)
    by true h e = cc
    by false h e = record {
      ascending = ascending;
      few = ltb-false name_limit (length names) h;
      listed =
          all_listed names named (none (first_unlisted names named) e);
    }

-- the table's file and the pages of a drawing
pub lists_both : (listed : List (List ℕ)) (table : TableChoice) (pages names : List (List ℕ)) → names ≡ table_before table pages → HasNames listed names
    → HasNames listed pages
lists_both listed choice.Djvu pages names e h = subst (HasNames listed) e h
lists_both listed choice.Flat pages names e h = subst (HasNames listed) e h
lists_both listed (choice.File name) pages names e h =
    let both = subst (AreListed listed) e h.listed in
    record { ascending = h.ascending; few = h.few; listed = both.1 }

pub can_read : (files : Files) (listed : List (List ℕ)) (table : TableChoice) (pages names : List (List ℕ)) → listed ≡ names_of files
    → names ≡ table_before table pages → HasNames listed names → CanRead files table
can_read files listed choice.Djvu pages names over e h = tt
can_read files listed choice.Flat pages names over e h = tt
can_read files listed (choice.File name) pages names over e h =
    let both = subst (AreListed listed) e h.listed in listed_file files name (ap (λ l. is_listed l name) (sym over) ∙ both.0)

-- the library's names are the folder's
pub names_of_library : (limit : ℕ) (files : Files) → names_in (library_within limit files) ≡ names_of files
names_of_library limit [] = refl
names_of_library limit (file ∷ files) = ap (λ names. file.0 ∷ names) (names_of_library limit files)

bytes_found : (limit : ℕ) (files : Files) (name : List ℕ) → bytes_of_found (file_named name (library_within limit files)) ≡ take limit (bytes_in files name)
bytes_found limit [] name = sym (take_all limit [] (omega arith))
bytes_found limit (file ∷ files) name = by (bytes_eq name file.0) (bytes_found limit files name)
  where
    by : (t : Bool) → bytes_of_found (file_named name (library_within limit files)) ≡ take limit (bytes_in files name)
        → bytes_of_found (cond t (Some (record { name = file.0; bytes = take limit file.1; mark = Whole })) (file_named name (library_within limit files)))
        ≡ take limit (unwrap_or (cond t (Some file.1) (contents_of name files)) [])
    by true h = refl
    by false h = h

-- the table of a file that was read
pub table_found : (files : Files) (name : List ℕ) → table_of (library_of files) (choice.File name) ≡ table_in (take file_limit (bytes_in files name))
table_found files name = ap table_in (bytes_found file_limit files name)

-- a reading that failed, and one that didn't
pub broken_read : (end : FileEnd) (bytes content name : List ℕ) (position : ℕ) (old new : List Failure) → is_broken end ≡ true
    → IsReadTo end bytes content name position old new → (entry : Failure) × (new ≡ old ++ entry ∷ []) × IsEarly (choice.File name) entry
broken_read file_end.Whole bytes content name position old new e r = absurd (true≢false (sym e))
broken_read file_end.Broken bytes content name position old new e r = (Reading name (position + length bytes), r.1, (bytes_eq-Decides name name).1 refl)

pub whole_read : (end : FileEnd) (bytes content name : List ℕ) (position : ℕ) (old new : List Failure) → is_broken end ≡ false
    → IsReadTo end bytes content name position old new → new ≡ old
whole_read file_end.Whole bytes content name position old new e r = r.1
whole_read file_end.Broken bytes content name position old new e r = absurd (true≢false e)

not_same : (a b : List ℕ) → a ≢ b → bytes_eq a b ≡ false
not_same a b n = by (bytes_eq a b) refl
  where
    by : (t : Bool) → bytes_eq a b ≡ t → bytes_eq a b ≡ false
    by true e = absurd (n ((bytes_eq-Decides a b).0 e))
    by false e = e

-- pages of which no two are equal
pub are_distinct : (pages : List (List ℕ)) → AllPairs (λ page later. page ≢ later) pages → AreDistinct pages
are_distinct [] h = tt
are_distinct (page ∷ pages) h = (
  list_any_none (bytes_eq page) pages (λ k d within. not_same page (get_or pages k d) (h 0 (suc k) d (omega arith) (omega arith))),
  are_distinct pages (λ i j d less within. h (suc i) (suc j) d (omega arith) (omega arith)),
)

-- failures of the listing and of the table, by the words
pub starts_draw : {T : Type 0} (result : Result T Stop) (words pages : List (List ℕ)) (table : TableChoice) (old new : List Failure)
    → words_of words ≡ Ok (command.Draw table pages) → Starts result table old new → StartsFor result words old new
starts_draw (Ok value) words pages table old new e s = s
starts_draw (Err stop.Folder) words pages table old new e s = (s.0, s.1, by s.0 s.2)
  where
    by : (entry : Failure) → IsEarly table entry → front_may_fail words (entry ∷ []) ≡ true
    by Listing h = refl
    by (Reading name count) h = ap (λ r. names_table r name) e ∙ h
starts_draw (Err stop.Sink) words pages table old new e s = s
starts_draw (Err stop.Memory) words pages table old new e s = s

pub starts_info : {T : Type 0} (result : Result T Stop) (words : List (List ℕ)) (old new : List Failure) → Starts result choice.Djvu old new
    → StartsFor result words old new
starts_info (Ok value) words old new s = s
starts_info (Err stop.Folder) words old new s = (s.0, s.1, by s.0 s.2)
  where
    by : (entry : Failure) → IsEarly choice.Djvu entry → front_may_fail words (entry ∷ []) ≡ true
    by Listing h = refl
    by (Reading name count) h = absurd (true≢false (sym h))
starts_info (Err stop.Sink) words old new s = s
starts_info (Err stop.Memory) words old new s = s

pub none_there : (line : Option (List ℕ)) → ((some : List ℕ) → line ≡ Some some → ⊥) → line ≡ None
none_there None never = refl
none_there (Some line) never = absurd (never line refl)
