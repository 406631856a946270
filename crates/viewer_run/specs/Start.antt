-- The start of a run, up to its pages.
use Rattle.std.specs.Prelude.{ℕ, ◌≡◌, ◌≤◌, ◌++◌, true, ⊤, List, [], ◌∷◌, length, Option, Some, None, Result, Ok, Err}
use Rattle.djvu_base.specs.Library.{Files}
use Rattle.djvu_base.specs.Name.{IsAscending, is_listed}
use Rattle.djvu_outside.specs.Faults.{Failure, Listing, Reading}
use Rattle.djvu_outside.specs.Reading.{HasFile}
use Rattle.viewer_words.specs.declared.commands.TableChoice.{TableChoice}
use Rattle.viewer_words.specs.declared.commands.TableChoice.TheVariants as choice
use Rattle.viewer_run.specs.declared.front.Front.{Front}
use Rattle.viewer_run.specs.declared.front.Front.TheVariants as front
use Rattle.viewer_run.specs.declared.front.Mode.{Mode}
use Rattle.viewer_run.specs.declared.front.Mode.TheVariants as mode
use Rattle.djvu_outside.specs.declared.stops.Stop.{Stop}
use Rattle.djvu_outside.specs.declared.stops.Stop.TheVariants as stop
use Rattle.viewer_run.specs.Plan.{Plan, Refuses, Draws, Lists, name_limit, numbers_of}
use Rattle.viewer_run.specs.EarlyFailures.{is_table, front_may_fail}
use Rattle.viewer_run.specs.Shown.{AreDistinct}

-- a failure of the listing, or of the reading of this table
abbrev pub IsEarly : TableChoice → Failure → Type 0
IsEarly table Listing = ⊤
IsEarly table (Reading name count) = is_table table name ≡ true

-- of a part that lists the folder and reads the table: one such failure was met where it stopped for the folder
abbrev pub Starts : {T : Type 0} → Result T Stop → TableChoice → List Failure → List Failure → Type 0
Starts (Ok value) table before after = after ≡ before
Starts (Err stop.Folder) table before after = (entry : Failure) × (after ≡ before ++ entry ∷ []) × IsEarly table entry
Starts (Err stop.Sink) table before after = ⊥
Starts (Err stop.Memory) table before after = after ≡ before

-- the same by the words
abbrev pub StartsFor : {T : Type 0} → Result T Stop → List (List ℕ) → List Failure → List Failure → Type 0
StartsFor (Ok value) words before after = after ≡ before
StartsFor (Err stop.Folder) words before after = (entry : Failure) × (after ≡ before ++ entry ∷ []) × (front_may_fail words (entry ∷ []) ≡ true)
StartsFor (Err stop.Sink) words before after = ⊥
StartsFor (Err stop.Memory) words before after = after ≡ before

-- the plan of what is done with pages of these names
abbrev pub plan_for : Mode → List ℕ → Plan
plan_for (mode.Draw rows) pages = Draws rows pages
plan_for mode.Info pages = Lists pages

-- the plan of a front
abbrev pub plan_by : Front → Plan
plan_by (front.Refused line) = Refuses line
plan_by (front.Accepted names mode pages) = plan_for mode (numbers_of names pages)

-- it stands over a folder with these names
abbrev pub IsOver : List (List ℕ) → Front → Type 0
IsOver listed (front.Refused line) = ⊤
IsOver listed (front.Accepted names mode pages) = names ≡ listed

-- what is done reads no decision
abbrev pub ReadsNone : Front → Type 0
ReadsNone (front.Refused line) = ⊤
ReadsNone (front.Accepted names (mode.Draw rows) pages) = ⊥
ReadsNone (front.Accepted names mode.Info pages) = ⊤

-- the line that refuses a run, if it isn't the names that were listed
abbrev pub line_of : Result (List (List ℕ)) (List ℕ) → Option (List ℕ)
line_of (Ok names) = None
line_of (Err line) = Some line

-- each of these names is listed
abbrev pub AreListed : List (List ℕ) → List (List ℕ) → Type 0
AreListed names [] = ⊤
AreListed names (page ∷ pages) = (is_listed names page ≡ true) × AreListed names pages

-- names of a folder: ascending, no more than a folder may have, and with all of these among them
pub record HasNames (names wanted : List (List ℕ)) : Type 0 where
  pub ascending : IsAscending names
  pub few : length names ≤ name_limit
  pub listed : AreListed names wanted

-- the folder has the pages of a front, each of which comes once
abbrev pub CanShow : Front → Type 0
CanShow (front.Refused line) = ⊤
CanShow (front.Accepted names mode pages) = HasNames names pages × AreDistinct pages

-- the folder has the table's file
abbrev pub CanRead : Files → TableChoice → Type 0
CanRead files choice.Djvu = ⊤
CanRead files choice.Flat = ⊤
CanRead files (choice.File name) = HasFile files name
