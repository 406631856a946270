-- What pages that are shown came to, and which failures were met.
use Rattle.std.specs.Prelude.{ℕ, Bool, true, false, ◌≡◌, ◌++◌, ◌≢◌, ◌≤◌, ◌||◌, ⊤, List, [], ◌∷◌, None, Result, Ok, Err, IfOk, if◌then◌else◌}
use Rattle.djvu_base.specs.Library.{Library}
use Rattle.djvu_base.specs.Name.{is_listed}
use Rattle.djvu_outside.specs.declared.stops.Stop.{Stop}
use Rattle.djvu_outside.specs.Cut.{first_entry, cut}
use Rattle.djvu_outside.specs.Faults.{Failure, Listing, Reading, Rises}
use Rattle.djvu_outside.specs.Parts.{Ticks}
use Rattle.djvu_outside.specs.Puts.{GivesBoth}
use Rattle.viewer_run.specs.declared.shown.Shown.{Shown}
use Rattle.viewer_run.specs.Ended.{Around}
use Rattle.viewer_run.specs.Offline.{status_by, written_by}
use Rattle.viewer_run.specs.Plan.{Plan}
use Rattle.viewer_run.specs.Reads.{names_behind}

-- these failures name no other files than these
abbrev pub NamesOnly : List (List ℕ) → List Failure → Type 0
NamesOnly names failures = (name : List ℕ) → is_listed names name ≡ false → first_entry failures name ≡ None

-- what failed first was the listing
abbrev pub lists_first : List Failure → Bool
lists_first [] = false
lists_first (Listing ∷ failures) = true
lists_first (Reading name count ∷ failures) = false

-- a reading failed exactly where there is an entry
abbrev pub HasBroken : Bool → List Failure → Type 0
HasBroken true failures = failures ≢ []
HasBroken false failures = failures ≡ []

-- the pages of a plan were shown: what was put is what the plan writes over the files as far as they came, and the meter counts its
-- work
pub record Shows (library : Library) (plan : Plan) (result : Result Shown Stop) (before after : Around) : Type 0 where
  pub added : List Failure
  pub grown : after.failures ≡ before.failures ++ added
  pub only : NamesOnly (names_behind (cut added library) plan) added
  pub reads : lists_first added ≡ false
  pub puts : GivesBoth result (written_by (cut added library) plan).puts before.told after.told
  pub ticks : Ticks result (written_by (cut added library) plan).work before.count after.count
  pub refused : IfOk result (λ shown. (written_by (cut added library) plan).status ≡ status_by shown.refused)
  pub broken : IfOk result (λ shown. HasBroken shown.broken added)

-- the folder's count of faults rose where a reading failed
abbrev pub BrokenCounts : Bool → ℕ → ℕ → Type 0
BrokenCounts true before after = Rises before after
BrokenCounts false before after = after ≡ before

-- the same of pages that may have stopped: it never falls
abbrev pub PagesCount : Result Shown Stop → ℕ → ℕ → Type 0
PagesCount (Ok shown) before after = BrokenCounts shown.broken before after
PagesCount (Err stop) before after = before ≤ after

abbrev pub both : Shown → Shown → Shown
both before after = record { refused = before.refused || after.refused; broken = before.broken || after.broken }

-- no name comes twice
abbrev pub AreDistinct : List (List ℕ) → Type 0
AreDistinct [] = ⊤
AreDistinct (name ∷ names) = (is_listed names name ≡ false) × AreDistinct names

-- 3 where a reading failed, and else 1 where a page was refused
abbrev pub status_shown : Shown → ℕ
status_shown shown = if shown.broken then 3 else if shown.refused then 1 else 0
