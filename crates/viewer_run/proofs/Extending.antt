-- What was read of a folder, with one more file.
use Rattle.std.proofs.Common.{◌≡◌, ◌≢◌, ◌<◌, ◌+◌, ◌||◌, ℕ, zero, suc, Bool, true, false, cond, eqb, Option, Some, None, List, [], ◌∷◌, ◌++◌, length, map, take, unwrap_or, refl, sym, ap, ◌∙◌, subst, arith, append_assoc}
use Rattle.std.specs.Prelude.{slice_get}
use Rattle.std.specs.Str.{bytes_eq}
use Rattle.std.proofs.lemmas.Bool.{true≢false, eqb-true, eq-eqb}
use Rattle.std.proofs.lemmas.List.{append-nil}
use Rattle.std.proofs.lemmas.Slice.Eq.{bytes_eq-Decides}
use Rattle.djvu_base.specs.declared.ends.FileEnd.{FileEnd}
use Rattle.djvu_base.specs.declared.ends.FileEnd.TheVariants as file_end
use Rattle.djvu_base.specs.Library.{File, Files, Library, Whole, Broken, mark_of, file_limit, library_of, library_within, names_of, contents_of}
use Rattle.djvu_base.specs.Name.{is_ascending, is_listed}
use Rattle.djvu_outside.specs.Cut.{first_entry, cut_at, cut_file, cut}
use Rattle.djvu_outside.specs.Faults.{Failure, Reading}
use Rattle.djvu_outside.specs.FileReads.{is_broken, IsReadTo}
use Rattle.djvu_outside.specs.Reading.{bytes_in}
use Rattle.include_graph.specs.Verdicts.{is_among}
use Rattle.page_decoder.specs.Libraries.{LibraryGoesOn}
use Rattle.replay_core.specs.Machine.{change_at, fed, ended}
use Rattle.viewer_words.specs.Lines.{name_at}
use Rattle.viewer_run.specs.declared.core_run.CoreRun.{CoreRun}
use Rattle.viewer_run.specs.CoreRun.{ReadSo, StoppedSo, OfUnread}
use Rattle.viewer_run.specs.Reads.{after_reading}
use Rattle.viewer_run.specs.Shown.{NamesOnly, lists_first, HasBroken}
use Rattle.viewer_run.proofs.Cutting.{entry_after, entry_before, or_both, any_append, broken_both, both_after}
use Rattle.viewer_run.proofs.Flags.{names_apart, later_names, among_last, among_others}
use Rattle.viewer_run.proofs.Ordering.{among_more}
use Rattle.viewer_run.proofs.Known.{file_comes, known_cut, known_goes_on}

-- failures of one name are none of another
only_other : (name other : List ℕ) (failures : List Failure) → NamesOnly (name ∷ []) failures → other ≢ name → first_entry failures other ≡ None
only_other name other failures only apart = only other (by (bytes_eq other name) refl)
  where
    by : (t : Bool) → bytes_eq other name ≡ t → (t || false) ≡ false
    by true e = absurd (apart ((bytes_eq-Decides other name).0 e))
    by false e = refl

-- failures of read files are none of a file that wasn't read
pub only_read : (names : List (List ℕ)) (read : List ℕ) (name : List ℕ) → ((number : ℕ) → is_among number read ≡ true → name_at names number ≢ name)
    → is_listed (map (name_at names) read) name ≡ false
only_read names [] name apart = refl
only_read names (first ∷ read) name apart =
    or_both (bytes_eq name (name_at names first)) (is_listed (map (name_at names) read) name) (by (bytes_eq name (name_at names first)) refl)
    (only_read names read name (λ number among. apart number (tail number among)))
  where
    head : is_among first (first ∷ read) ≡ true
    head = ap (λ b. b || is_among first read) (eq-eqb first first refl)

    by : (t : Bool) → bytes_eq name (name_at names first) ≡ t → t ≡ false
    by true e = absurd (apart first head (sym ((bytes_eq-Decides name (name_at names first)).0 e)))
    by false e = refl

    tail : (number : ℕ) → is_among number read ≡ true → is_among number (first ∷ read) ≡ true
    tail number among = more (eqb number first)
      where
        more : (b : Bool) → (b || is_among number read) ≡ true
        more true = refl
        more false = among

map_last : (names : List (List ℕ)) (read : List ℕ) (file : ℕ) → map (name_at names) (read ++ file ∷ []) ≡ map (name_at names) read ++ name_at names file ∷ []
map_last names [] file = refl
map_last names (first ∷ read) file = ap (λ l. name_at names first ∷ l) (map_last names read file)

pub only_both : (names more : List (List ℕ)) (a b : List Failure) → NamesOnly names a → NamesOnly more b → NamesOnly (names ++ more) (a ++ b)
only_both names more a b first second name apart =
    let parts = any_append name names more apart in
    entry_before a b name (second name parts.1) ∙ first name parts.0

-- the name that is left out comes from no file that was read
unread_apart : (names : List (List ℕ)) (read : List ℕ) (file : ℕ) → is_ascending names ≡ true
    → ((number : ℕ) → is_among number read ≡ true → number < length names)
    → file < length names → is_among file read ≡ false → (number : ℕ) → is_among number read ≡ true → name_at names number ≢ name_at names file
unread_apart names read file up below inside unread number among =
    names_apart names up file number inside (below number among)
    (λ e. true≢false (sym among ∙ ap (λ n. is_among n read) e ∙ unread))

-- failures of a file that wasn't read
pub of_unread : (names : List (List ℕ)) (read : List ℕ) (file : ℕ) (failures : List Failure) → is_ascending names ≡ true
    → ((number : ℕ) → is_among number read ≡ true → number < length names)
    → file < length names → is_among file read ≡ false → NamesOnly (name_at names file ∷ []) failures → OfUnread names read failures
of_unread names read file failures up below inside unread only number among =
    only_other (name_at names file) (name_at names number) failures only (unread_apart names read file up below inside unread number among)

cut_again : (a b : List Failure) (c : List Failure) (library : Library) → cut ((a ++ b) ++ c) library ≡ cut (a ++ (b ++ c)) library
cut_again a b c library = ap (λ f. cut f library) (append_assoc a b c)

-- the name of a library's file is that of the folder's
name_there : (limit : ℕ) (files : Files) (failures : List Failure) (number : ℕ) (file : File)
    → slice_get (cut failures (library_within limit files)) number ≡ Some file → file.name ≡ name_at (names_of files) number
name_there limit [] failures number file e = cc
name_there limit (it ∷ files) failures zero file e =
    let same : cut_file failures (record { name = it.0; bytes = take limit it.1; mark = Whole }) ≡ file = cc in
    ap (λ (f : File). f.name) (sym same) ∙ by (first_entry failures it.0)
  where
    by : (found : Option ℕ) → (cut_at found (record { name = it.0; bytes = take limit it.1; mark = Whole })).name ≡ it.0
    by None = refl
    by (Some count) = refl
name_there limit (it ∷ files) failures (suc number) file e = name_there limit files failures number file e

-- and without failures of read files, these are what they were
pub known_still : (files : Files) (read : List ℕ) (a b : List Failure) → OfUnread (names_of files) read b
    → after_reading read (cut (a ++ b) (library_of files)) ≡ after_reading read (cut a (library_of files))
known_still files read a b unread =
    known_cut (λ number. is_among number read) a b (library_of files)
    (λ number file found among.
    ap (first_entry b) (name_in number file found) ∙ unread number among)
  where
    name_in : (number : ℕ) (file : File) → slice_get (library_of files) number ≡ Some file → file.name ≡ name_at (names_of files) number
    name_in number file found = name_there file_limit files [] number file (ap (λ l. slice_get l number) (same_cut (library_of files)) ∙ found)
      where
        same_cut : (library : Library) → cut [] library ≡ library
        same_cut [] = refl
        same_cut (it ∷ library) = ap (λ l. it ∷ l) (same_cut library)

-- ---- a file that was read, in a library that was cut

abbrev failures_of : FileEnd → List ℕ → ℕ → List Failure
failures_of file_end.Whole name count = []
failures_of file_end.Broken name count = Reading name count ∷ []

abbrev whole_at : ℕ → List ℕ → List ℕ → File
whole_at limit name bytes = record { name = name; bytes = take limit bytes; mark = Whole }

grown_by : (end : FileEnd) (bytes content name : List ℕ) (old new : List Failure) → IsReadTo end bytes content name 0 old new
    → new ≡ old ++ failures_of end name (0 + length bytes)
grown_by file_end.Whole bytes content name old new read = read.1 ∙ sym (append-nil old)
grown_by file_end.Broken bytes content name old new read = read.1

only_of : (end : FileEnd) (name : List ℕ) (count : ℕ) → NamesOnly (name ∷ []) (failures_of end name count)
only_of file_end.Whole name count other apart = refl
only_of file_end.Broken name count other apart = by (bytes_eq other name) apart
  where
    by : (t : Bool) → (t || false) ≡ false → cond t (Some count) None ≡ None
    by true e = cc
    by false e = refl

first_of : (end : FileEnd) (name : List ℕ) (count : ℕ) → lists_first (failures_of end name count) ≡ false
first_of file_end.Whole name count = refl
first_of file_end.Broken name count = refl

broken_of : (end : FileEnd) (name : List ℕ) (count : ℕ) → HasBroken (is_broken end) (failures_of end name count)
broken_of file_end.Whole name count = refl
broken_of file_end.Broken name count = λ e. cc

-- what is left of it
cut_of : (end : FileEnd) (bytes content name : List ℕ) (limit : ℕ) (old new : List Failure) → IsReadTo end bytes (take limit content) name 0 old new
    → cut_at (first_entry (failures_of end name (0 + length bytes)) name) (whole_at limit name content)
    ≡ record { name = name; bytes = bytes; mark = mark_of end }
cut_of file_end.Whole bytes content name limit old new read =
    ap (λ b. let it : File = record { name = name; bytes = b; mark = Whole } in it) (sym read.0)
cut_of file_end.Broken bytes content name limit old new read =
    ap (λ t. cut_at (cond t (Some (0 + length bytes)) None) (whole_at limit name content)) ((bytes_eq-Decides name name).1 refl)
    ∙ ap (λ n. let it : File = record { name = name; bytes = take n (take limit content); mark = Broken } in it) (zero_so (length bytes))
    ∙ ap (λ b. let it : File = record { name = name; bytes = b; mark = Broken } in it) (sym read.0)
  where
    zero_so : (n : ℕ) → 0 + n ≡ n
    zero_so n = omega arith

-- the bytes of a file by its number, and by its name
content_at : (files : Files) (number : ℕ) → is_ascending (names_of files) ≡ true → number < length (names_of files)
    → (bytes : List ℕ) × (slice_get files number ≡ Some (name_at (names_of files) number, bytes))
    × (contents_of (name_at (names_of files) number) files ≡ Some bytes)
content_at [] number up inside = absurd (omega (arith, inside))
content_at (file ∷ files) zero up inside =
    (file.1, refl, ap (λ t. cond t (Some file.1) (contents_of file.0 files)) ((bytes_eq-Decides file.0 file.0).1 refl))
content_at (file ∷ files) (suc number) up inside =
    let name = name_at (names_of files) number in
    let rest = content_at files number (later_names file.0 (names_of files) up) (omega (arith, inside)) in
    let apart = names_apart (file.0 ∷ names_of files) up zero (suc number) (omega arith) inside (λ e. cc) in
    (rest.0, rest.1, ap (λ t. cond t (Some file.1) (contents_of name files)) (by (bytes_eq name file.0) refl apart) ∙ rest.2)
  where
    by : (t : Bool) → bytes_eq (name_at (names_of files) number) file.0 ≡ t → name_at (names_of files) number ≢ file.0 → t ≡ false
    by true e apart = absurd (apart ((bytes_eq-Decides (name_at (names_of files) number) file.0).0 e))
    by false e apart = refl

cut_at_place : (limit : ℕ) (files : Files) (failures : List Failure) (number : ℕ) (name bytes : List ℕ) → slice_get files number ≡ Some (name, bytes)
    → slice_get (cut failures (library_within limit files)) number ≡ Some (cut_file failures (whole_at limit name bytes))
cut_at_place limit [] failures number name bytes e = cc
cut_at_place limit (it ∷ files) failures zero name bytes e =
    ap (λ (f : List ℕ × List ℕ). Some (cut_file failures (whole_at limit f.0 f.1))) (some_same it (name, bytes) e)
  where
    some_same : (a b : List ℕ × List ℕ) → Some a ≡ Some b → a ≡ b
    some_same a b e = cc
cut_at_place limit (it ∷ files) failures (suc number) name bytes e = cut_at_place limit files failures number name bytes e

-- this file, with no failure of it before
pub record IsFileRead (files : Files) (failures : List Failure) (number : ℕ) (bytes : List ℕ) (end : FileEnd) : Type 0 where
  pub file : File
  pub found : slice_get (cut failures (library_of files)) number ≡ Some file
  pub is : file ≡ record { name = file.name; bytes = bytes; mark = mark_of end }

file_read : (files : Files) (a : List Failure) (number : ℕ) (bytes : List ℕ) (end : FileEnd) (old new : List Failure)
    → is_ascending (names_of files) ≡ true → number < length (names_of files) → first_entry a (name_at (names_of files) number) ≡ None
    → IsReadTo end bytes (take file_limit (bytes_in files (name_at (names_of files) number))) (name_at (names_of files) number) 0 old new
    → IsFileRead files (a ++ failures_of end (name_at (names_of files) number) (0 + length bytes)) number bytes end
file_read files a number bytes end old new up inside none read =
    let name = name_at (names_of files) number in
    let b = failures_of end name (0 + length bytes) in
    let content = content_at files number up inside in
    let is = ap (λ o. unwrap_or o []) content.2 in
    let left =
    cut_of end bytes content.0 name file_limit old new (subst (λ l. IsReadTo end bytes (take file_limit l) name 0 old new) is read) in
    record {
      file = record { name = name; bytes = bytes; mark = mark_of end };
      found =
          cut_at_place file_limit files (a ++ b) number name content.0 content.1
          ∙ ap (λ found. Some (cut_at found (whole_at file_limit name content.0))) (entry_after a b name none) ∙ ap Some left;
      is = refl;
    }

-- ---- one more file

module _ (files : Files) (start mid last : List Failure) (order next : Library → List ℕ) (library : Library) (old : CoreRun) (file : ℕ)
    (before : ReadSo files start mid order library old) (over : old.names ≡ names_of files) (up : is_ascending old.names ≡ true)
    (inside : file < length old.names) (unread : slice_get old.read.items file ≡ Some false)
    (next_so : (whole : Library) → order whole ≡ before.read → after_reading before.read whole ≡ library → next whole ≡ before.read ++ file ∷ []) where
  not_read : is_among file before.read ≡ false
  not_read = before.flags_so file false unread

  others_still : (failures : List Failure) → NamesOnly (name_at old.names file ∷ []) failures → OfUnread old.names before.read failures
  others_still failures only = of_unread old.names before.read file failures up before.below inside not_read only

  library_still : (failures : List Failure) → OfUnread old.names before.read failures
      → after_reading before.read (cut (before.added ++ failures) (library_of files)) ≡ library
  library_still failures none =
      known_still files before.read before.added failures (subst (λ n. OfUnread n before.read failures) over none) ∙ sym before.library_so

  next_read : (failures : List Failure) → OfUnread old.names before.read failures
      → next (cut (before.added ++ failures) (library_of files)) ≡ before.read ++ file ∷ []
  next_read failures none =
      next_so (cut (before.added ++ failures) (library_of files)) (before.order_so failures none) (library_still failures none)

  named_so : (failures : List Failure) → NamesOnly (name_at old.names file ∷ []) failures
      → NamesOnly (map (name_at old.names) (before.read ++ file ∷ [])) (before.added ++ failures)
  named_so failures only =
      subst (λ l. NamesOnly l (before.added ++ failures)) (sym (map_last old.names before.read file))
      (only_both (map (name_at old.names) before.read) (name_at old.names file ∷ []) before.added failures before.only only)

  -- the run stopped at this file
  pub stopped_more : (failures : List Failure) → last ≡ mid ++ failures → NamesOnly (name_at old.names file ∷ []) failures
      → lists_first failures ≡ false → StoppedSo files start last next old.names library
  stopped_more failures grown only first =
      let still = others_still failures only in
      record {
        added = before.added ++ failures;
        grown = grown ∙ ap (λ f. f ++ failures) before.grown ∙ append_assoc start before.added failures;
        goes_on =
            subst (λ l. LibraryGoesOn l (cut (before.added ++ failures) (library_of files))) (library_still failures still)
            (known_goes_on (λ number. is_among number before.read) (cut (before.added ++ failures) (library_of files)));
        only =
            subst (λ l. NamesOnly (map (name_at old.names) l) (before.added ++ failures)) (sym (next_read failures still)) (named_so failures only);
        first = both_after before.added failures before.first first;
      }

  among_now : (number : ℕ) (flag was : Bool) → number ≢ file → is_among number before.read ≡ was → was ≡ flag
      → is_among number (before.read ++ file ∷ []) ≡ flag
  among_now number flag was apart e same = among_others before.read file number apart ∙ e ∙ same

  -- it was read
  module _ (new : CoreRun) (bytes : List ℕ) (end : FileEnd)
      (read : IsReadTo end bytes (take file_limit (bytes_in files (name_at old.names file))) (name_at old.names file) 0 mid last)
      (names : new.names ≡ old.names) (flagged : slice_get new.read.items file ≡ Some true)
      (others : (other : ℕ) → other ≢ file → slice_get new.read.items other ≡ slice_get old.read.items other)
      (broken : new.broken ≡ (old.broken || is_broken end)) where
    abbrev its : List Failure
    its = failures_of end (name_at old.names file) (0 + length bytes)

    only_its : NamesOnly (name_at old.names file ∷ []) its
    only_its = only_of end (name_at old.names file) (0 + length bytes)

    flag_now : (number : ℕ) (flag : Bool) → slice_get new.read.items number ≡ Some flag → is_among number (before.read ++ file ∷ []) ≡ flag
    flag_now number flag found = by (eqb number file) refl
      where
        some_same : (a b : Bool) → Some a ≡ Some b → a ≡ b
        some_same a b e = cc

        by : (t : Bool) → eqb number file ≡ t → is_among number (before.read ++ file ∷ []) ≡ flag
        by true e =
            let same = eqb-true number file e in
            ap (λ n. is_among n (before.read ++ file ∷ [])) same ∙ among_last before.read file
            ∙ some_same true flag (sym flagged ∙ ap (slice_get new.read.items) (sym same) ∙ found)
        by false e =
            let apart : number ≢ file = λ same. true≢false (sym (eq-eqb number file same) ∙ e) in
            among_others before.read file number apart ∙ before.flags_so number flag (sym (others number apart) ∙ found)

    below_now : (number : ℕ) → is_among number (before.read ++ file ∷ []) ≡ true → number < length old.names
    below_now number among = by (eqb number file) refl
      where
        by : (t : Bool) → eqb number file ≡ t → number < length old.names
        by true e = subst (λ n. n < length old.names) (sym (eqb-true number file e)) inside
        by false e =
            let apart : number ≢ file = λ same. true≢false (sym (eq-eqb number file same) ∙ e) in
            before.below number (sym (among_others before.read file number apart) ∙ among)

    none_before : first_entry before.added (name_at old.names file) ≡ None
    none_before =
        before.only (name_at old.names file)
        (only_read old.names before.read (name_at old.names file) (unread_apart old.names before.read file up before.below inside not_read))

    abbrev ReadAt : List (List ℕ) → Type 0
    ReadAt names =
        is_ascending names ≡ true → file < length names → first_entry before.added (name_at names file) ≡ None
        → IsReadTo end bytes (take file_limit (bytes_in files (name_at names file))) (name_at names file) 0 mid last
        → IsFileRead files (before.added ++ failures_of end (name_at names file) (0 + length bytes)) file bytes end

    at_place : IsFileRead files (before.added ++ its) file bytes end
    at_place = subst ReadAt (sym over) (file_read files before.added file bytes end mid last) up inside none_before read

    later_none : (later : List Failure) → OfUnread new.names (before.read ++ file ∷ []) later → OfUnread old.names before.read (its ++ later)
    later_none later none number among =
        entry_after its later (name_at old.names number) (others_still its only_its number among)
        ∙ ap (λ n. first_entry later (name_at n number)) (sym names)
        ∙ none number (among_more number before.read (file ∷ []) among)

    pub read_more : ReadSo files start last next (change_at (ended end) file (change_at (fed bytes) file library)) new
    read_more = record {
      added = before.added ++ its;
      grown =
          grown_by end bytes (take file_limit (bytes_in files (name_at old.names file))) (name_at old.names file) mid last read
          ∙ ap (λ f. f ++ its) before.grown ∙ append_assoc start before.added its;
      read = before.read ++ file ∷ [];
      library_so =
          ap (λ l. change_at (ended end) file (change_at (fed bytes) file l)) (sym (library_still its (others_still its only_its)))
          ∙ file_comes (λ number. is_among number before.read) (λ number. is_among number (before.read ++ file ∷ []))
          (cut (before.added ++ its) (library_of files)) file at_place.file bytes end at_place.found at_place.is not_read (among_last before.read file)
          (λ other apart. sym (among_others before.read file other apart));
      flags_so = flag_now;
      below = λ number among. subst (λ l. number < length l) (sym names) (below_now number among);
      only = subst (λ n. NamesOnly (map (name_at n) (before.read ++ file ∷ [])) (before.added ++ its)) (sym names) (named_so its only_its);
      first = both_after before.added its before.first (first_of end (name_at old.names file) (0 + length bytes));
      broken =
          subst (λ b. HasBroken b (before.added ++ its)) (sym broken)
          (broken_both old.broken (is_broken end) before.added its before.broken (broken_of end (name_at old.names file) (0 + length bytes)));
      order_so = λ later none.
          ap next (cut_again before.added its later (library_of files)) ∙ next_read (its ++ later) (later_none later none);
    }
