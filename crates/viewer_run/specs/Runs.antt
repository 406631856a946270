-- A whole run, by what is outside of it before and after.
use Rattle.std.specs.Prelude.{ℕ, ◌≡◌, ◌+◌, ◌++◌, ◌<◌, ◌≤◌, List, [], ◌∷◌, length, Option}
use Rattle.djvu_base.specs.Library.{Files, library_of}
use Rattle.djvu_base.specs.Meter.{ticked}
use Rattle.djvu_outside.specs.Faults.{Failure, Rises}
use Rattle.djvu_outside.specs.Puts.{Put, Sinks, sinks, Got}
use Rattle.viewer_run.specs.EarlyFailures.{NamesRead}
use Rattle.viewer_run.specs.Offline.{Written, IsOutcome}

-- the failures of each folder, what both sinks tell that they were given, and the count of each meter
pub record Outside : Type 0 where
  pub failures : List (List Failure)
  pub told : Sinks
  pub counts : List ℕ

-- one folder and one meter
abbrev pub outside : List Failure → Option (List ℕ) → Option (List ℕ) → ℕ → Outside
outside failures out report count = record { failures = failures ∷ []; told = sinks out report; counts = count ∷ [] }

-- the failures of each folder with those that were added
abbrev pub with_added : List (List Failure) → List (List Failure) → List (List Failure)
with_added [] added = []
with_added (before ∷ befores) [] = before ∷ befores
with_added (before ∷ befores) (more ∷ added) = (before ++ more) ∷ with_added befores added

abbrev pub all_of : List (List Failure) → List Failure
all_of [] = []
all_of (added ∷ others) = added ++ all_of others

-- those of the folder that is listed
abbrev pub first_of : List (List Failure) → List Failure
first_of [] = []
first_of (added ∷ others) = added

-- each count after so many ticks of its meter
abbrev pub all_ticked : List ℕ → List ℕ → List ℕ
all_ticked [] counts = counts
all_ticked (tick ∷ ticks) [] = []
all_ticked (tick ∷ ticks) (count ∷ counts) = ticked tick count ∷ all_ticked ticks counts

abbrev pub total : List ℕ → ℕ
total [] = 0
total (tick ∷ ticks) = tick + total ticks

-- a run with these words over folders with these files: the failures that it added to each folder's, what they leave to be
-- written, the prefix of that which both sinks got, and the ticks of each meter. Below the status 4 it is all, and with 4 and
-- 5 any prefix, and at most as many ticks
pub record Run (files : Files) (words : List (List ℕ)) (status : ℕ) (before after : Outside) : Type 0 where
  pub added : List (List Failure)
  pub each_folder : length added ≡ length before.failures
  pub grown : after.failures ≡ with_added before.failures added
  pub only : NamesRead (library_of files) words (all_of added)
  pub written : Written
  pub outcome : IsOutcome (first_of added) (all_of added) (library_of files) words written
  pub same_status : status < 4 → status ≡ written.status
  pub part : List Put
  pub rest : List Put
  pub puts_are : written.puts ≡ part ++ rest
  pub got : Got part before.told after.told
  pub all_put : status < 4 → rest ≡ []
  pub ticks : List ℕ
  pub each_meter : length ticks ≡ length before.counts
  pub counted : after.counts ≡ all_ticked ticks before.counts
  pub most : total ticks ≤ written.work
  pub all_counted : status < 4 → total ticks ≡ written.work

-- the folder's count rose where the status is 3, and stayed where it is below; it never falls
pub record FolderEnds (status before after : ℕ) : Type 0 where
  pub failed : status ≡ 3 → Rises before after
  pub kept : status < 3 → after ≡ before
  pub grows : before ≤ after
