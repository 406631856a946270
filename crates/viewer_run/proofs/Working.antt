-- Runs without work.
use Rattle.std.proofs.Common.{◌≡◌, ℕ, false, Option, Some, None, Result, Ok, Err, List, refl}
use Rattle.std.proofs.lemmas.Bool.{true≢false}
use Rattle.djvu_base.specs.Library.{Library}
use Rattle.viewer_words.specs.declared.commands.Command.{Command}
use Rattle.viewer_words.specs.declared.commands.Command.TheVariants as command
use Rattle.viewer_words.specs.Files.{named_files}
use Rattle.viewer_words.specs.Words.{words_of}
use Rattle.viewer_run.specs.Plan.{Plan, Refuses, Draws, Lists, draws, refused_or, line_by_names, numbers_of, plan_of, plan_by_words}
use Rattle.page_decoder.specs.Libraries.{names_in}
use Rattle.viewer_run.specs.Texts.{texts_of_page}
use Rattle.viewer_run.specs.Offline.{offline, status_by, texts_of_pages, written_by}
use Rattle.std.specs.Prelude.{Bool, true}

listed_work : (library : Library) (pages : List ℕ) (line : Option (List ℕ)) → (written_by library (refused_or line (Lists pages))).work ≡ 0
listed_work library pages (Some line) = refl
listed_work library pages None = refl

-- a run that draws nothing
pub work_of_others : (library : Library) (words : List (List ℕ)) → draws (words_of words) ≡ false → (offline library words).work ≡ 0
work_of_others library words = by (words_of words)
  where
    by : (r : Result Command ℕ) → draws r ≡ false → (written_by library (plan_by_words library (named_files words) r)).work ≡ 0
    by (Ok (command.Draw table pages)) e = absurd (true≢false e)
    by (Ok (command.Info pages)) e = listed_work library (numbers_of (names_in library) pages) (line_by_names (names_in library) (named_files words))
    by (Err number) e = refl

no_two : (refused : Bool) → status_by refused ≡ 2 → ⊥
no_two true e = cc
no_two false e = cc

-- a run that is refused
pub work_of_refused : (library : Library) (words : List (List ℕ)) → (offline library words).status ≡ 2 → (offline library words).work ≡ 0
work_of_refused library words = by (plan_of library words)
  where
    by : (plan : Plan) → (written_by library plan).status ≡ 2 → (written_by library plan).work ≡ 0
    by (Refuses line) e = refl
    by (Draws rows pages) e = absurd (no_two (texts_of_pages (texts_of_page rows library) pages).refused e)
    by (Lists pages) e = refl
