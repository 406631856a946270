-- What `finish` answers once all passes are joined, and what holds of the passes then.
use Rattle.std.specs.Prelude.{ℕ, ◌≡◌, ◌≤◌, List, length, Some, All, slice_get, sum_by}
use Rattle.djvu_base.specs.Library.{Library}
use Rattle.once_board.specs.declared.holds.Hold.{Hold}
use Rattle.once_board.specs.Holds.{Agrees}
use Rattle.page_decoder.specs.Given.{Front}
use Rattle.page_decoder.specs.Libraries.{run, LibraryGoesOn}
use Rattle.replay_core.specs.Counts.{counted, CountsWithin, CountsAll}
use Rattle.djvu_session.specs.declared.answers.PageAnswer.{PageAnswer}
use Rattle.djvu_session.specs.Passes.{SessionView, FeederView, PageState, DecoderView, ViewerView, file_at, position_of}
use Rattle.djvu_session.specs.Seen.{seen, held}
use Rattle.djvu_session.specs.Pages.{entries_of, IsTold}
use Rattle.djvu_session.specs.Spent.{sum_of}
use Rattle.djvu_session.specs.Everyone.{state_in, counts_in, AllEnded, CountsGoOn}
use Rattle.djvu_session.specs.Looks.{entries_read}

abbrev pub answer_of : PageState → PageAnswer
answer_of page = record { end = page.end; notices = page.notices; layers = page.layers }

-- some seats of one board agree, each with each
abbrev pub AllAgree : {X Y T : Type 0} → (X → Hold T) → (Y → Hold T) → List X → List Y → Type 0
AllAgree seat other xs ys = All (λ x. All (λ y. Agrees (seat x) (other y)) ys) xs

-- what the passes know of the three boards is one thing
pub record Agree (feeders : List FeederView) (decoders : List DecoderView) (viewers : List ViewerView) : Type 0 where
  pub fed : AllAgree (λ (f : FeederView). f.pool.hold) (λ (g : FeederView). g.pool.hold) feeders feeders
  pub read : AllAgree (λ (f : FeederView). f.pool.hold) (λ (d : DecoderView). d.pool.hold) feeders decoders
  pub pool : AllAgree (λ (d : DecoderView). d.pool.hold) (λ (e : DecoderView). e.pool.hold) decoders decoders
  pub shelf : AllAgree (λ (d : DecoderView). d.shelf.hold) (λ (e : DecoderView). e.shelf.hold) decoders decoders
  pub log : AllAgree (λ (d : DecoderView). d.log.hold) (λ (e : DecoderView). e.log.hold) decoders decoders
  pub seen : AllAgree (λ (v : ViewerView). v.log.hold) (λ (d : DecoderView). d.log.hold) viewers decoders
  pub looked : AllAgree (λ (v : ViewerView). v.log.hold) (λ (w : ViewerView). w.log.hold) viewers viewers

-- one page: it is told, answered and looked at as it is in the folder that the feeders hold
pub record FinishesPage (session : SessionView) (library : Library) (viewers : List ViewerView) (page : ℕ) (state : PageState)
    (answers : List PageAnswer) : Type 0 where
  pub answer : slice_get answers page ≡ Some (answer_of state)
  pub told : IsTold (run session.setup.table library (file_at session.setup page)) state
  pub looks : All (λ viewer. Front (entries_read viewer page) (entries_of state)) viewers
  pub told_of : All (λ viewer. (position_of viewer page).told ≤ length (entries_of state)) viewers

-- the sums that the passes keep: the decisions of their pages and of each decoded file, each file once. They are at most the work of the
-- pages in the folder that the feeders hold, and where every page ended without want of memory they are this work
pub record FinishesSums (session : SessionView) (library : Library) (decoders : List DecoderView) : Type 0 where
  pub sums : sum_by sum_of decoders ≡ counted (counts_in session.setup decoders)
  pub within : CountsWithin session.setup.table library (counts_in session.setup decoders)
  pub all : AllEnded session.setup decoders → CountsGoOn decoders → CountsAll session.setup.table library (counts_in session.setup decoders)

pub record Finishes (session : SessionView) (feeders : List FeederView) (decoders : List DecoderView) (viewers : List ViewerView)
    (answers : List PageAnswer) : Type 0 where
  pub agree : Agree feeders decoders viewers
  pub seen : All (λ pass. LibraryGoesOn (seen pass) (held session.setup.names feeders)) decoders
  pub many : length answers ≡ length session.setup.pages
  pub there : (page file : ℕ) → slice_get session.setup.pages page ≡ Some file → (state : PageState) × (state_in decoders page ≡ Some state)
  pub pages : (page : ℕ) (state : PageState) → state_in decoders page ≡ Some state
      → FinishesPage session (held session.setup.names feeders) viewers page state answers
  pub sums : FinishesSums session (held session.setup.names feeders) decoders
