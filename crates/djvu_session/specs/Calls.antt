-- What the other calls of a session make of passes.
use Rattle.std.specs.Prelude.{ℕ, ◌≡◌, ◌<◌, max, Bool, true, List, [], length, Some, None, slice_get}
use Rattle.once_board.specs.Filled.{count_of, used}
use Rattle.once_board.specs.Holds.{Extends}
use Rattle.once_board.specs.Places.{unknown, record_of}
use Rattle.once_board.specs.declared.holds.Hold.{Hold}
use Rattle.data_pool.specs.declared.pieces.Piece.{Piece}
use Rattle.data_pool.specs.declared.pool.Append.{Append}
use Rattle.data_pool.specs.Calls as pools
use Rattle.djvu_session.specs.Passes.{Setup, SessionView, FeederView, PageState, DecoderView, ViewerView, SeatGoesOn}
use Rattle.djvu_session.specs.Passes.{IsFeederOf, IsDecoderOf, IsViewerOf, read_of, page_of, spent_of, position_of}
use Rattle.djvu_session.specs.Pages.{untold}
use Rattle.djvu_session.specs.Everyone.{IsAll}

module _ {T : Type 0} where
  -- nothing is known of any place, and nothing was claimed
  pub record KnowsNothing (h : Hold T) : Type 0 where
    pub places : (place : ℕ) → record_of h.places place ≡ unknown
    pub claims : h.claims ≡ []
    pub puts : h.puts ≡ []

-- a decoder's pass before the first step: nothing was read, nothing told of its pages, and no file claimed
pub record IsNewDecoder (pass : DecoderView) : Type 0 where
  pub pool : KnowsNothing pass.pool.hold
  pub shelf : KnowsNothing pass.shelf.hold
  pub log : KnowsNothing pass.log.hold
  pub read : (file : ℕ) → read_of pass file ≡ 0
  pub pages : (page : ℕ) (state : PageState) → page_of pass page ≡ Some state → state ≡ untold
  pub spent : (file : ℕ) → spent_of pass file ≡ None

pub record IsNewViewer (pass : ViewerView) : Type 0 where
  pub log : KnowsNothing pass.log.hold
  pub positions : (page : ℕ) → position_of pass page ≡ record { read = 0; told = 0 }

-- the passes of a new session: so many of each kind, numbered from 0, all of them new
pub record Opens (setup : Setup) (feeders workers viewers : ℕ) (session : SessionView) (feeder_passes : List FeederView)
    (decoder_passes : List DecoderView) (viewer_passes : List ViewerView) : Type 0 where
  pub setup_is : session.setup ≡ setup
  pub rights : (session.pool.feeders ≡ feeders) × (session.log.workers ≡ workers)
  pub many : (length feeder_passes ≡ feeders) × (length decoder_passes ≡ workers) × (length viewer_passes ≡ viewers)
  pub feeder : (number : ℕ) (pass : FeederView) → slice_get feeder_passes number ≡ Some pass
      → (pass.number ≡ number) × IsFeederOf session pass × KnowsNothing pass.pool.hold
  pub decoder : (number : ℕ) (pass : DecoderView) → slice_get decoder_passes number ≡ Some pass
      → (pass.number ≡ number) × IsDecoderOf session pass × IsNewDecoder pass
  pub viewer : (number : ℕ) (pass : ViewerView) → slice_get viewer_passes number ≡ Some pass
      → (pass.number ≡ number) × IsViewerOf session pass × IsNewViewer pass
  -- with the seats that the session keeps they are all, as `finish` wants them
  pub all : IsAll session feeder_passes decoder_passes viewer_passes

-- bytes are appended to a file, by the answer: what the pool says of the pass's seat
pub record Appends (file : ℕ) (bytes : List ℕ) (before after : FeederView) (answer : Append) : Type 0 where
  pub is_pass : (session : SessionView) → IsFeederOf session before → IsFeederOf session after
  pub number : after.number ≡ before.number
  pub pool : SeatGoesOn before.pool.hold after.pool.hold
  pub seat : pools.Appends file bytes before.pool after.pool answer
  pub put : pools.PutsBytes file bytes before.pool after.pool answer

-- a file is ended, or was before
pub record Ends (file : ℕ) (how : Piece) (before after : FeederView) (answer : Bool) : Type 0 where
  pub is_pass : (session : SessionView) → IsFeederOf session before → IsFeederOf session after
  pub number : after.number ≡ before.number
  pub pool : SeatGoesOn before.pool.hold after.pool.hold
  pub seat : pools.Ends file how before.pool after.pool answer
  pub put : answer ≡ true → pools.PutOne file how before.pool after.pool

-- a viewer's pass is told of all entries that a decoder's pass announced
pub record TellsViewer (from : DecoderView) (before after : ViewerView) : Type 0 where
  pub is_pass : (session : SessionView) → IsViewerOf session before → IsViewerOf session after
  pub number : after.number ≡ before.number
  pub log : SeatGoesOn before.log.hold after.log.hold
  pub knows : Extends from.log.hold after.log.hold
  pub read : (page : ℕ) → (position_of after page).read ≡ (position_of before page).read
  pub told : (page : ℕ) → page < length before.positions
      → (position_of after page).told ≡ max (position_of before page).told (used (count_of from.log.counts page))

-- a decoder's pass is told of all pieces that a feeder's pass put, and of their ends. It has read none of them yet
pub record Briefs (from : FeederView) (before after : DecoderView) : Type 0 where
  pub is_pass : (session : SessionView) → IsDecoderOf session before → IsDecoderOf session after
  pub setup : after.setup ≡ before.setup
  pub number : after.number ≡ before.number
  pub pool : SeatGoesOn before.pool.hold after.pool.hold
  pub knows : Extends from.pool.hold after.pool.hold
  pub read : after.read ≡ before.read
  pub rest : (after.pages ≡ before.pages) × (after.spent ≡ before.spent) × (after.shelf ≡ before.shelf) × (after.log ≡ before.log)
