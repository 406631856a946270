-- What a run writes, its status, and how many decisions it reads.
use Rattle.std.specs.Prelude.{ℕ, Bool, true, false, ◌≡◌, ◌⊎◌, ⊤, List, [], ◌∷◌}
use Rattle.djvu_base.specs.Library.{Library}
use Rattle.djvu_outside.specs.Cut.{cut}
use Rattle.djvu_outside.specs.Faults.{Failure}
use Rattle.djvu_outside.specs.Puts.{Put, to_report}
use Rattle.zp_table.specs.declared.rows.Row.{Row}
use Rattle.page_decoder.specs.Libraries.{work_of}
use Rattle.viewer_run.specs.Texts.{Texts, no_texts, joined, texts_of_page}
use Rattle.viewer_run.specs.Info.{info_of_page}
use Rattle.viewer_run.specs.Plan.{Plan, Refuses, Draws, Lists, plan_of}
use Rattle.viewer_run.specs.EarlyFailures.{front_may_fail, front_failed}

-- pages in order, each of which has these texts
abbrev pub texts_of_pages : (ℕ → Texts) → List ℕ → Texts
texts_of_pages texts [] = no_texts
texts_of_pages texts (page ∷ pages) = joined (texts page) (texts_of_pages texts pages)

-- what a run puts into its two sinks, in that order, its status, and its work: the decisions of its pages, and of the files that
-- these reach, once of each
pub record Written : Type 0 where
  pub puts : List Put
  pub status : ℕ
  pub work : ℕ

-- 1 where a page was refused
abbrev pub status_by : Bool → ℕ
status_by true = 1
status_by false = 0

abbrev pub written : Texts → ℕ → Written
written texts work = record { puts = texts.puts; status = status_by texts.refused; work = work }

abbrev pub refused_by : List ℕ → Written
refused_by line = record { puts = to_report line; status = 2; work = 0 }

-- pages of a library that are drawn with this state table
abbrev pub drawn : List Row → Library → List ℕ → Written
drawn rows library pages = written (texts_of_pages (texts_of_page rows library) pages) (work_of rows library pages)

-- pages whose chunks are listed: no decision is read
abbrev pub listed : Library → List ℕ → Written
listed library pages = written (texts_of_pages (info_of_page library) pages) 0

abbrev pub written_by : Library → Plan → Written
written_by library (Refuses line) = refused_by line
written_by library (Draws rows pages) = drawn rows library pages
written_by library (Lists pages) = listed library pages

-- a run over a library, where nothing outside fails
abbrev pub offline : Library → List (List ℕ) → Written
offline library words = written_by library (plan_of library words)

-- the status is 3 where any reading failed
abbrev pub with_failures : List Failure → Written → Written
with_failures [] texts = texts
with_failures (entry ∷ entries) texts = record { puts = texts.puts; status = 3; work = texts.work }

-- what is written by this plan over a library, where the folder failed so
abbrev pub IsWritten : Library → Plan → List Failure → Written → Type 0
IsWritten library (Refuses line) failures texts = texts ≡ with_failures failures (refused_by line)
IsWritten library (Draws rows pages) failures texts = texts ≡ with_failures failures (drawn rows library pages)
IsWritten library (Lists pages) failures texts = texts ≡ with_failures failures (listed library pages)

-- the plan is that of the library, and its pages are those of the files as far as they came
abbrev pub written_cut : List Failure → Library → List (List ℕ) → Written
written_cut failures library words = with_failures failures (written_by (cut failures library) (plan_of library words))

abbrev pub nothing_written : Written
nothing_written = record { puts = []; status = 3; work = 0 }

-- after this plan the folder may have failed so: a run that is refused reads no page
abbrev pub MayFailSo : Plan → List Failure → Type 0
MayFailSo (Refuses line) failures = failures ≡ []
MayFailSo (Draws rows pages) failures = ⊤
MayFailSo (Lists pages) failures = ⊤

-- what a run over a library comes to. `first` are the failures of the folder that is listed, and `all` those of all folders;
-- a run has one folder. Where the listing or the table failed, that is the only failure, and nothing is written. Else it is
-- what the plan writes over the files as far as they came
abbrev pub IsOutcome : List Failure → List Failure → Library → List (List ℕ) → Written → Type 0
IsOutcome first all library words texts =
    ((front_may_fail words first ≡ true) × ((entry : Failure) × (all ≡ entry ∷ [])) × (texts ≡ nothing_written))
    ⊎ ((front_failed library words first ≡ false) × MayFailSo (plan_of library words) all × IsWritten (cut all library) (plan_of library words) all texts)
