-- Pages by their numbers in a library, and by their names.
use Rattle.std.proofs.Common.{◌≡◌, ℕ, zero, suc, Bool, true, false, cond, Option, Some, None, Result, Ok, Err, IfOk, IsSome, unwrap_or, List, [], ◌∷◌, ◌++◌, map, take, refl, sym, ap, ◌∙◌, subst}
use Rattle.std.specs.Str.{bytes_eq}
use Rattle.std.specs.Prelude.{slice_get}
use Rattle.std.proofs.lemmas.Slice.Eq.{bytes_eq-Decides}
use Rattle.djvu_base.specs.declared.faults.FaultKind.{FaultKind}
use Rattle.djvu_base.specs.Library.{File, Files, Library, Whole, contents_of, library_within, library_of, file_limit}
use Rattle.djvu_outside.specs.Faults.{Failure}
use Rattle.djvu_outside.specs.Reading.{HasFile, bytes_in}
use Rattle.djvu_outside.specs.Cut.{first_entry, cut_at, cut_file, cut}
use Rattle.djvu_outside.specs.Puts.{to_report}
use Rattle.iff_chunks.specs.Chunks.{Tail, InHead, InHeader, InData, InPad, FormEnd, Broken as BrokenOff, chunks_of}
use Rattle.iff_chunks.specs.Ends.{file_end}
use Rattle.page_decoder.specs.Libraries.{names_in}
use Rattle.viewer_words.specs.Lines.{name_at}
use Rattle.djvu_outside.specs.declared.stops.Stop.{Stop}
use Rattle.djvu_outside.specs.Parts.{Ticks}
use Rattle.djvu_outside.proofs.Lemmas.{no_ticks, puts_same}
use Rattle.viewer_run.specs.declared.shown.Shown.{Shown}
use Rattle.viewer_run.specs.Ended.{Around}
use Rattle.viewer_run.specs.Plan.{Plan, Lists as PlanLists, number_of, numbers_of}
use Rattle.viewer_run.specs.Reads.{names_behind}
use Rattle.viewer_run.specs.Texts.{Texts, joined}
use Rattle.viewer_run.specs.Info.{page_fault, heading_lines, fault_text, has_fault, info_of_file, info_of_found, info_of_page}
use Rattle.viewer_run.specs.Offline.{Written, status_by, texts_of_pages, written, listed}
use Rattle.viewer_run.specs.Listed.{HasFiles, file_of, texts_by, texts_named, Lists}
use Rattle.viewer_run.specs.Shown.{NamesOnly, Shows}

same_name_at : (o : Option ℕ) (file : File) → (cut_at o file).name ≡ file.name
same_name_at None file = refl
same_name_at (Some count) file = refl

abbrev whole_at : ℕ → List ℕ → List ℕ → File
whole_at limit name bytes = record { name = name; bytes = take limit bytes; mark = Whole }

-- the file of a page in a library that was cut
page_found : (failures : List Failure) (limit : ℕ) (files : Files) (name : List ℕ) → HasFile files name
    → slice_get (cut failures (library_within limit files)) (number_of (names_in (library_within limit files)) name)
    ≡ Some (cut_file failures (whole_at limit name (bytes_in files name)))
page_found failures limit [] name h = absurd (cc)
page_found failures limit (file ∷ files) name h = by (bytes_eq name file.0) refl (page_found failures limit files name) h
  where
    by : (t : Bool) → bytes_eq name file.0 ≡ t
        → (HasFile files name → slice_get (cut failures (library_within limit files)) (number_of (names_in (library_within limit files)) name)
        ≡ Some (cut_file failures (whole_at limit name (bytes_in files name)))) → IsSome (cond t (Some file.1) (contents_of name files))
        → slice_get (cut_file failures (whole_at limit file.0 file.1) ∷ cut failures (library_within limit files))
        (cond t zero (suc (number_of (names_in (library_within limit files)) name)))
        ≡ Some (cut_file failures (whole_at limit name (unwrap_or (cond t (Some file.1) (contents_of name files)) [])))
    by true e more h = ap (λ n. Some (cut_file failures (whole_at limit n file.1))) (sym ((bytes_eq-Decides name file.0).0 e))
    by false e more h = more h

-- the name of a page, by its number
name_found : (limit : ℕ) (files : Files) (name : List ℕ) → HasFile files name
    → name_at (names_in (library_within limit files)) (number_of (names_in (library_within limit files)) name) ≡ name
name_found limit [] name h = absurd (cc)
name_found limit (file ∷ files) name h = by (bytes_eq name file.0) refl (name_found limit files name) h
  where
    by : (t : Bool) → bytes_eq name file.0 ≡ t
        → (HasFile files name → name_at (names_in (library_within limit files)) (number_of (names_in (library_within limit files)) name) ≡ name)
        → IsSome (cond t (Some file.1) (contents_of name files))
        → name_at (file.0 ∷ names_in (library_within limit files)) (cond t zero (suc (number_of (names_in (library_within limit files)) name))) ≡ name
    by true e more h = sym ((bytes_eq-Decides name file.0).0 e)
    by false e more h = more h

-- the names of pages, by their numbers
pub names_found : (files : Files) (names : List (List ℕ)) → HasFiles files names
    → map (name_at (names_in (library_of files))) (numbers_of (names_in (library_of files)) names) ≡ names
names_found files [] h = refl
names_found files (name ∷ names) h =
    ap (λ n. n ∷ map (name_at (names_in (library_of files))) (numbers_of (names_in (library_of files)) names)) (name_found file_limit files name h.0)
    ∙ ap (λ l. name ∷ l) (names_found files names h.1)

pub names_cut : (failures : List Failure) (library : Library) → names_in (cut failures library) ≡ names_in library
names_cut failures [] = refl
names_cut failures (file ∷ library) =
    ap (λ n. n ∷ names_in (cut failures library)) (same_name_at (first_entry failures file.name) file) ∙ ap (λ l. file.name ∷ l) (names_cut failures library)

module _ (names : List (List ℕ)) (page : ℕ) (name : List ℕ) (is : name_at names page ≡ name) where
  -- the line of a page's fault doesn't depend on its number
  fault_same : (kind : FaultKind) (offset : ℕ) → page_fault names page kind offset ≡ page_fault (name ∷ []) 0 kind offset
  fault_same kind offset = ap (λ n. page_fault (n ∷ []) 0 kind offset) is

  tail_same : (tail : Tail) → fault_text names page tail ≡ fault_text (name ∷ []) 0 tail
  tail_same InHead = refl
  tail_same (InHeader offset bytes) = refl
  tail_same (InData chunk) = refl
  tail_same (InPad offset is_last) = refl
  tail_same FormEnd = refl
  tail_same (BrokenOff kind offset) = fault_same kind offset

  pub listed_same : (file : File) → info_of_file names page file ≡ info_of_file (name ∷ []) 0 file
  listed_same file =
      ap (λ l. let t : Texts = record { puts = to_report l; refused = has_fault (file_end file.mark file.bytes) } in t)
      (ap (λ l. heading_lines (name_at names page) (chunks_of file.bytes) ++ l) (tail_same (file_end file.mark file.bytes))
      ∙ ap (λ n. heading_lines n (chunks_of file.bytes) ++ fault_text (name ∷ []) 0 (file_end file.mark file.bytes)) is)

-- a page of a folder's library that was cut, by its number and by its name
page_texts : (failures : List Failure) (files : Files) (name : List ℕ) → HasFile files name
    → info_of_page (cut failures (library_of files)) (number_of (names_in (library_of files)) name) ≡ texts_by (file_of files failures name)
page_texts failures files name h =
    let library = library_of files in
    let page = number_of (names_in library) name in
    let file = file_of files failures name in
    ap (λ names. info_of_found names page (slice_get (cut failures library) page)) (names_cut failures library)
    ∙ ap (info_of_found (names_in library) page) (page_found failures file_limit files name h)
    ∙ listed_same (names_in library) page file.name
    (name_found file_limit files name h ∙ sym (same_name_at (first_entry failures name) (whole_at file_limit name (bytes_in files name)))) file

pages_texts : (failures : List Failure) (files : Files) (names : List (List ℕ)) → HasFiles files names
    → texts_of_pages (info_of_page (cut failures (library_of files))) (numbers_of (names_in (library_of files)) names) ≡ texts_named files failures names
pages_texts failures files [] h = refl
pages_texts failures files (name ∷ names) h =
    ap (λ t. joined t (texts_of_pages (info_of_page (cut failures (library_of files))) (numbers_of (names_in (library_of files)) names)))
    (page_texts failures files name h.0)
    ∙ ap (joined (texts_by (file_of files failures name))) (pages_texts failures files names h.1)

-- what is written for files of these names
pub written_named : (failures : List Failure) (files : Files) (names : List (List ℕ)) → HasFiles files names
    → listed (cut failures (library_of files)) (numbers_of (names_in (library_of files)) names) ≡ written (texts_named files failures names) 0
written_named failures files names h = ap (λ t. written t 0) (pages_texts failures files names h)

-- files that were listed, as the pages of a plan
pub shows_listed : (files : Files) (names : List (List ℕ)) (result : Result Shown Stop) (before after : Around) → HasFiles files names
    → after.count ≡ before.count → Lists files names result before.failures after.failures before.told after.told
    → Shows (library_of files) (PlanLists (numbers_of (names_in (library_of files)) names)) result before after
shows_listed files names result before after has still d =
    let pages = numbers_of (names_in (library_of files)) names in
    let plan : Plan = PlanLists pages in
    let same = written_named d.added files names has in
    let read : names_behind (cut d.added (library_of files)) plan ≡ names =
    ap (λ l. map (name_at l) pages) (names_cut d.added (library_of files)) ∙ names_found files names has in
    record {
      added = d.added;
      grown = d.grown;
      only = subst (λ l. NamesOnly l d.added) (sym read) d.only;
      reads = d.reads;
      puts = puts_same result _ _ before.told after.told (sym (ap (λ (w : Written). w.puts) same)) d.puts;
      ticks = subst (λ n. Ticks result 0 before.count n) (sym still) (no_ticks result 0 before.count refl);
      refused = by_refused result d.refused same;
      broken = d.broken;
    }
  where
    by_refused : (result : Result Shown Stop) → IfOk result (λ shown. shown.refused ≡ (texts_named files d.added names).refused)
        → listed (cut d.added (library_of files)) (numbers_of (names_in (library_of files)) names) ≡ written (texts_named files d.added names) 0
        → IfOk result (λ shown. (listed (cut d.added (library_of files)) (numbers_of (names_in (library_of files)) names)).status ≡ status_by shown.refused)
    by_refused (Ok shown) h e = ap (λ (w : Written). w.status) e ∙ sym (ap status_by h)
    by_refused (Err stop) h e = tt
