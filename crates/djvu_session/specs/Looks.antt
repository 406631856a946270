-- What a look makes of a viewer's pass, and what it shows.
use Rattle.std.specs.Prelude.{ℕ, ◌≡◌, ◌≢◌, ◌≤◌, ◌<◌, ◌⊎◌, Bool, true, false, List, [], ◌∷◌, Option, Some, None, unwrap_or}
use Rattle.std.specs.List.{list_any}
use Rattle.djvu_base.specs.Announced.{Announced}
use Rattle.file_shelf.specs.Shelves.{WasRead}
use Rattle.port_log.specs.declared.entries.Entry.{Entry}
use Rattle.port_log.specs.declared.entries.Entry.TheVariants as entry
use Rattle.port_log.specs.Entries.{is_end}
use Rattle.port_log.specs.Logs as logs
use Rattle.djvu_session.specs.declared.answers.Shown.{Shown}
use Rattle.djvu_session.specs.declared.answers.Shown.TheVariants as shown
use Rattle.djvu_session.specs.Passes.{SessionView, ViewerView, SeatGoesOn, IsViewerOf, position_of}

abbrev pub last_notice : List Entry → Option Announced
last_notice [] = None
last_notice (entry.Drew notice ∷ entries) = Some (unwrap_or (last_notice entries) notice)
last_notice (entry.Ended how ∷ entries) = last_notice entries

abbrev pub has_end : List Entry → Bool
has_end entries = list_any is_end entries

-- the entries of a page's log that the pass read
abbrev pub entries_read : ViewerView → ℕ → List Entry
entries_read pass page = logs.entries pass.log page (position_of pass page).read

-- the look stopped behind what the pass read, where it read this word in the call
abbrev pub StoppedAt : ViewerView → ViewerView → ℕ → ℕ → Type 0
StoppedAt before after page word = WasRead (logs.place_of page (position_of after page).read) word before.log.hold after.log.hold

-- at a place that isn't open
abbrev pub StoppedBelow : ViewerView → ViewerView → ℕ → Type 0
StoppedBelow before after page = (word : ℕ) × (word < 2) × StoppedAt before after page word

-- where a look that shows something stopped: at the end, where another pass reads just now, or at a place that isn't open
abbrev pub StoppedSo : ViewerView → ViewerView → ℕ → Bool → Bool → Type 0
StoppedSo before after page true busy = busy ≡ false
StoppedSo before after page false true = StoppedAt before after page 3
StoppedSo before after page false false = StoppedBelow before after page

-- it shows what was read, which is something, and not less than the pass was told of
pub record ShowsLatest (before after : ViewerView) (page : ℕ) (notice : Option Announced) (ended busy : Bool) : Type 0 where
  pub some : 0 < (position_of after page).read
  pub told : (position_of after page).told ≤ (position_of after page).read
  pub last : notice ≡ last_notice (entries_read after page)
  pub end : ended ≡ has_end (entries_read after page)
  pub stopped : StoppedSo before after page ended busy

abbrev pub ShowsBy : ViewerView → ViewerView → ℕ → Shown → Type 0
ShowsBy before after page (shown.Latest notice ended busy) = ShowsLatest before after page notice ended busy
ShowsBy before after page shown.Nothing =
    ((position_of after page).read ≡ 0) × ((position_of after page).told ≡ 0) × StoppedBelow before after page
ShowsBy before after page shown.Busy =
    StoppedAt before after page 3 × (((position_of after page).read ≡ 0) ⊎ ((position_of after page).read < (position_of after page).told))
ShowsBy before after page shown.OutOfMemory =
    StoppedAt before after page 2 ⊎ ShowsLatest before after page (last_notice (entries_read after page)) (has_end (entries_read after page)) true
    ⊎ ShowsLatest before after page (last_notice (entries_read after page)) (has_end (entries_read after page)) false

-- a look at a page: it reads on in the page's log, and its position never falls
pub record Looks (page : ℕ) (before after : ViewerView) (answer : Shown) : Type 0 where
  pub is_pass : (session : SessionView) → IsViewerOf session before → IsViewerOf session after
  pub number : after.number ≡ before.number
  pub log : SeatGoesOn before.log.hold after.log.hold
  pub others : (other : ℕ) → other ≢ page → position_of after other ≡ position_of before other
  pub told : (position_of after page).told ≡ (position_of before page).told
  pub rises : (position_of before page).read ≤ (position_of after page).read
  pub shows : ShowsBy before after page answer
