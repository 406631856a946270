-- The core as a machine: bytes of files come and end, and the notices of pages are drawn one after another.
use Rattle.std.specs.Prelude.{ℕ, zero, suc, ◌≡◌, ◌≢◌, ◌<◌, ◌≤◌, ◌==◌, if◌then◌else◌, List, [], ◌∷◌, ◌++◌, length, map, Option, Some, None, slice_get, ⊤, ◌⊎◌}
use Rattle.djvu_base.specs.Library.{Mark, Open, Whole, Broken, mark_of, File, Library}
use Rattle.djvu_base.specs.Announced.{Announced}
use Rattle.djvu_base.specs.declared.ends.FileEnd.{FileEnd}
use Rattle.zp_table.specs.declared.rows.Row.{Row}
use Rattle.layer_compose.specs.declared.layers.Layers.{Layers}
use Rattle.layer_compose.specs.Drawing.{raster_of}
use Rattle.page_decoder.specs.PageRead.{Drawing, notice_of, notices_of, Ending, NeedBytes}
use Rattle.page_decoder.specs.Libraries.{run, draw, shown_by, page_in}
use Rattle.page_decoder.specs.Needs.{IsOver}

-- a page: its file, by its number in the library, and how many of its notices were drawn
pub record PageState : Type 0 where
  pub file : ℕ
  pub drawn : ℕ

pub record State : Type 0 where
  pub library : Library
  pub pages : List PageState

-- pages and viewers are told by their numbers, pages in the order of the state's list
pub data Event : Type 0 where
  -- a piece of a file comes. A file that has ended takes none
  Feed : (file : ℕ) (piece : List ℕ) → Event
  -- a file ends. Only its first end counts
  End : (file : ℕ) (how : FileEnd) → Event
  -- a page draws its next notice, if one is there
  Step : (page : ℕ) → Event
  -- a viewer asks for the last notice of a page
  Look : (viewer page : ℕ) → Event

pub data Answer : Type 0 where
  -- to a piece and to an end
  Taken : Answer
  -- the next notice
  Drew : (notice : Announced) → Answer
  -- no notice is left to draw: why the reading of the page ends
  AtEnd : (end : Ending) → Answer
  -- the last notice that was drawn, or none
  Looked : (notice : Option Announced) → Answer

-- ---- lists

-- the item of this number changed
abbrev pub change_at : {A : Type 0} → (A → A) → ℕ → List A → List A
change_at change number [] = []
change_at change zero (item ∷ items) = change item ∷ items
change_at change (suc number) (item ∷ items) = item ∷ change_at change number items

-- the last of the first so many items
abbrev pub last_of : {A : Type 0} → List A → ℕ → Option A
last_of items zero = None
last_of items (suc count) = slice_get items count

-- ---- files

abbrev pub fed_by : Mark → List ℕ → File → File
fed_by Open piece file = record file { bytes = file.bytes ++ piece }
fed_by Whole piece file = file
fed_by Broken piece file = file

abbrev pub fed : List ℕ → File → File
fed piece file = fed_by file.mark piece file

abbrev pub ended_by : Mark → FileEnd → File → File
ended_by Open how file = record file { mark = mark_of how }
ended_by Whole how file = file
ended_by Broken how file = file

abbrev pub ended : FileEnd → File → File
ended how file = ended_by file.mark how file

-- ---- pages

-- the notices of the page that this file of the library is
abbrev pub page_notices : List Row → Library → ℕ → List Announced
page_notices table library file = notices_of (run table library file).left.told

abbrev pub page_layers : List Row → Library → ℕ → List Layers
page_layers table library file = map (λ (drawing : Drawing). drawing.layers) (run table library file).left.told.drawings

abbrev pub next_notice : List Row → Library → PageState → Option Announced
next_notice table library page = slice_get (page_notices table library page.file) page.drawn

abbrev pub last_notice : List Row → Library → PageState → Option Announced
last_notice table library page = last_of (page_notices table library page.file) page.drawn

-- the layers of the last drawing that was drawn
abbrev pub layers_drawn : List Row → Library → PageState → Option Layers
layers_drawn table library page = last_of (page_layers table library page.file) page.drawn

abbrev pub drawn_with : Option Announced → PageState → PageState
drawn_with None page = page
drawn_with (Some notice) page = record page { drawn = suc page.drawn }

abbrev pub stepped : List Row → Library → PageState → PageState
stepped table library page = drawn_with (next_notice table library page) page

abbrev pub step_answer : Option Announced → Ending → Answer
step_answer None end = AtEnd end
step_answer (Some notice) end = Drew notice

-- a page that isn't there needs bytes, and none of its notices was drawn
abbrev pub page_step : List Row → Library → Option PageState → Answer
page_step table library None = AtEnd NeedBytes
page_step table library (Some page) = step_answer (next_notice table library page) (run table library page.file).end

abbrev pub page_look : List Row → Library → Option PageState → Answer
page_look table library None = Looked None
page_look table library (Some page) = Looked (last_notice table library page)

-- ---- events

abbrev pub state_after : List Row → State → Event → State
state_after table state (Feed file piece) = record state { library = change_at (fed piece) file state.library }
state_after table state (End file how) = record state { library = change_at (ended how) file state.library }
state_after table state (Step page) = record state { pages = change_at (stepped table state.library) page state.pages }
state_after table state (Look viewer page) = state

abbrev pub answer : List Row → State → Event → Answer
answer table state (Feed file piece) = Taken
answer table state (End file how) = Taken
answer table state (Step page) = page_step table state.library (slice_get state.pages page)
answer table state (Look viewer page) = page_look table state.library (slice_get state.pages page)

-- ---- lists of events

abbrev pub state_after_all : List Row → State → List Event → State
state_after_all table state [] = state
state_after_all table state (event ∷ events) = state_after_all table (state_after table state event) events

abbrev pub answers : List Row → State → List Event → List Answer
answers table state [] = []
answers table state (event ∷ events) = answer table state event ∷ answers table (state_after table state event) events

abbrev pub empty_file : List ℕ → File
empty_file name = record { name = name; bytes = []; mark = Open }

abbrev pub unread_page : ℕ → PageState
unread_page file = record { file = file; drawn = 0 }

-- before the first event: files of these names without bytes, and pages of these files
abbrev pub start : List (List ℕ) → List ℕ → State
start names files = record { library = map empty_file names; pages = map unread_page files }

-- ---- what was told of a page

abbrev pub notices_told : Answer → List Announced
notices_told (Drew notice) = notice ∷ []
notices_told other = []

abbrev pub ends_told : Answer → List Ending
ends_told (AtEnd end) = end ∷ []
ends_told other = []

-- what an event told of a page, by its answer
abbrev pub told_at : {A : Type 0} → (Answer → List A) → ℕ → Event → Answer → List A
told_at told page (Step other) answer = if page == other then told answer else []
told_at told page other answer = []

-- the same of events one after another
abbrev pub told_in : {A : Type 0} → (Answer → List A) → ℕ → List Event → List Answer → List A
told_in told page [] answers = []
told_in told page (event ∷ events) [] = []
told_in told page (event ∷ events) (answer ∷ answers) = told_at told page event answer ++ told_in told page events answers

-- the notices that steps drew of a page, in order
abbrev pub drawn_in : ℕ → List Event → List Answer → List Announced
drawn_in page events answers = told_in notices_told page events answers

-- the ends that steps on a page answered, in order
abbrev pub ends_in : ℕ → List Event → List Answer → List Ending
ends_in page events answers = told_in ends_told page events answers

-- ---- what holds of states

-- of no page more notices were drawn than it has
abbrev pub IsSound : List Row → State → Type 0
IsSound table state = (number : ℕ) (page : PageState) → slice_get state.pages number ≡ Some page
    → page.drawn ≤ length (page_notices table state.library page.file)

abbrev pub AllClosed : Library → Type 0
AllClosed library = (file : ℕ) (it : File) → slice_get library file ≡ Some it → it.mark ≢ Open

-- a page went on: it has the same file, and not fewer of its notices were drawn
pub record PageGoesOn (before after : PageState) : Type 0 where
  pub file : after.file ≡ before.file
  pub drawn : before.drawn ≤ after.drawn

-- two looks at a page with these notices: each shows the last of so many, and the later one not of fewer
pub record LooksRise (notices : List Announced) (earlier later : Answer) : Type 0 where
  pub before : ℕ
  pub after : ℕ
  pub rising : before ≤ after
  pub there : after ≤ length notices
  pub earlier_so : earlier ≡ Looked (last_of notices before)
  pub later_so : later ≡ Looked (last_of notices after)

-- a later look shows a notice where an earlier one did: the same one, or one behind more chunks
abbrev pub ShowsNoLess : Answer → Answer → Type 0
ShowsNoLess (Looked (Some notice)) later = (last : Announced) × (later ≡ Looked (Some last)) × ((notice ≡ last) ⊎ (notice.chunks < last.chunks))
ShowsNoLess other later = ⊤

-- a notice is that of a drawing, and this is the page's drawing behind the chunks that the notice tells
pub record TellsDrawing (table : List Row) (library : Library) (file : ℕ) (notice : Announced) : Type 0 where
  pub drawing : Drawing
  pub notice_so : notice ≡ notice_of drawing
  pub draw_so : draw table library file notice.chunks ≡ Some (raster_of drawing.layers)

-- a page is over, with this end, and all its notices were drawn
pub record HasEnded (table : List Row) (library : Library) (page : PageState) (end : Ending) : Type 0 where
  pub over : IsOver end
  pub end_so : (run table library page.file).end ≡ end
  pub all : page.drawn ≡ length (page_notices table library page.file)

-- what a run told of a page in the end: all its notices, its end, and by the layers of the last drawing the page itself
pub record TellsPage (table : List Row) (library : Library) (page : PageState) (drawn : List Announced) (end : Ending) : Type 0 where
  pub ended : HasEnded table library page end
  pub notices : drawn ≡ page_notices table library page.file
  pub page_so : shown_by end (layers_drawn table library page) ≡ page_in table library page.file

-- a step that draws, or answers an end after which nothing comes
pub data GoesWell : Answer → Type 0 where
  Draws : (notice : Announced) → GoesWell (Drew notice)
  Ends : (end : Ending) → IsOver end → GoesWell (AtEnd end)
