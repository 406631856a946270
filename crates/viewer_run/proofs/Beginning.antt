-- How a run of one core begins.
use Rattle.std.proofs.Common.{◌≡◌, ◌<◌, ℕ, zero, suc, true, false, Some, List, [], ◌∷◌, length, map, replicate, refl, sym, ap, ◌∙◌, subst}
use Rattle.std.specs.Prelude.{slice_get}
use Rattle.std.proofs.lemmas.List.{length-map, length-replicate}
use Rattle.std.proofs.lemmas.Option.{slice_get_within, get_or_from_slice_get}
use Rattle.djvu_base.specs.Library.{File}
use Rattle.djvu_base.specs.Name.{IsAscending}
use Rattle.zp_table.specs.Rows.{IsTable}
use Rattle.page_decoder.specs.Libraries.{names_in}
use Rattle.replay_core.specs.Core.{Stands}
use Rattle.replay_core.specs.CorePages.{untouched}
use Rattle.replay_core.specs.Counts.{no_counts}
use Rattle.replay_core.specs.Machine.{PageState, start, empty_file, unread_page}
use Rattle.viewer_run.specs.declared.core_run.CoreRun.{CoreRun}
use Rattle.viewer_run.specs.CoreRun.{Follows}
use Rattle.viewer_run.specs.Plan.{numbers_of}
use Rattle.viewer_run.specs.Start.{HasNames}
use Rattle.viewer_run.proofs.Apart.{numbers_below}

names_of_empty : (names : List (List ℕ)) → names_in (map empty_file names) ≡ names
names_of_empty [] = refl
names_of_empty (name ∷ names) = ap (λ l. name ∷ l) (names_of_empty names)

files_of_unread : (files : List ℕ) → map (λ (page : PageState). page.file) (map unread_page files) ≡ files
files_of_unread [] = refl
files_of_unread (file ∷ files) = ap (λ l. file ∷ l) (files_of_unread files)

none_read : (count number : ℕ) → slice_get (replicate count false) number ≡ Some true → ⊥
none_read zero number e = cc
none_read (suc count) zero e = cc
none_read (suc count) (suc number) e = none_read count number e

all_empty : (names : List (List ℕ)) (number : ℕ) (file : File) → slice_get (map empty_file names) number ≡ Some file → file ≡ empty_file file.name
all_empty [] number file e = cc
all_empty (name ∷ names) zero file e =
    let same : empty_file name ≡ file = cc in
    subst (λ (f : File). f ≡ empty_file f.name) same refl
all_empty (name ∷ names) (suc number) file e = all_empty names number file e

-- nothing was read, and nothing was drawn
pub begins : (names pages : List (List ℕ)) (run : CoreRun) → HasNames names pages → run.names ≡ names → run.pages ≡ numbers_of names pages
    → run.read.items ≡ replicate (length names) false → run.core.names ≡ names → run.core.pages ≡ map untouched (numbers_of names pages)
    → IsTable run.core.table → Stands (start names (numbers_of names pages)) (no_counts (length names) (numbers_of names pages)) run.core
    → Follows (start names (numbers_of names pages)) (no_counts (length names) (numbers_of names pages)) run
begins names pages run has same_names same_pages flags core_names seen table stands =
    let numbers = numbers_of names pages in
    record {
      names = names_of_empty names ∙ sym same_names;
      core_names = core_names ∙ sym same_names;
      ascending = subst IsAscending (sym same_names) has.ascending;
      flags = ap length flags ∙ length-replicate (length names) false ∙ sym (ap length same_names);
      table = table;
      stands = stands;
      closed = λ number file found flag. absurd (none_read (length names) number (ap (λ l. slice_get l number) (sym flags) ∙ flag));
      empty = λ number file found flag. all_empty names number file found;
      pages = files_of_unread numbers ∙ sym same_pages;
      count = ap length seen ∙ length-map numbers untouched ∙ sym (ap length same_pages);
      below = λ page file found.
          let there = ap (λ l. slice_get l page) (sym same_pages) ∙ found in
          subst (λ l. file < length l) (sym same_names)
          (subst (λ f. f < length names) (get_or_from_slice_get numbers page file 0 there)
          (numbers_below names pages has.listed page 0 (slice_get_within numbers page file there)));
    }
