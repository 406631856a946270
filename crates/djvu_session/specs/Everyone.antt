-- All passes of a session together, and what they come to.
use Rattle.std.specs.Prelude.{ℕ, suc, ◌≡◌, ◌+◌, ◌<◌, List, [], ◌∷◌, All, Option, Some, None, ◌^◌, ◌-◌, slice_get}
use Rattle.once_board.specs.Numbers.{times, total}
use Rattle.replay_core.specs.Counts.{PageCount, Counts}
use Rattle.djvu_session.specs.Passes.{Setup, SessionView, FeederView, PageState, DecoderView, ViewerView}
use Rattle.djvu_session.specs.Passes.{IsFeederOf, IsDecoderOf, IsViewerOf, page_of, spent_of}
use Rattle.djvu_session.specs.Pages.{HasEnded}
use Rattle.djvu_session.specs.Spent.{decisions_of}

-- these are all passes: with the seats that the session keeps they have all parts of its boards, and each right of a feeder and of a
-- worker
pub record IsAll (session : SessionView) (feeders : List FeederView) (decoders : List DecoderView) (viewers : List ViewerView) : Type 0 where
  pub each_feeder : All (IsFeederOf session) feeders
  pub each_decoder : All (IsDecoderOf session) decoders
  pub each_viewer : All (IsViewerOf session) viewers
  pub pool_parts : session.kept.pool.hold.parts + total (λ f. f.pool.hold.parts) feeders + total (λ d. d.pool.hold.parts) decoders ≡ 4_294_967_296
  pub shelf_parts : session.kept.shelf.hold.parts + total (λ d. d.shelf.hold.parts) decoders ≡ 4_294_967_296
  pub log_parts : session.kept.log.hold.parts + total (λ d. d.log.hold.parts) decoders + total (λ v. v.log.hold.parts) viewers ≡ 4_294_967_296
  pub fed : (right : ℕ) → right < session.pool.feeders → total (λ f. times right f.pool.hold.rights) feeders ≡ 1
  pub worked : (right : ℕ) → right < session.log.workers → total (λ d. times right d.log.hold.rights) decoders ≡ 1

-- ---- what decoders have together

abbrev pub or_else : {A : Type 0} → Option A → Option A → Option A
or_else (Some it) other = Some it
or_else None other = other

-- the state of a page, in the pass whose own it is
abbrev pub state_in : List DecoderView → ℕ → Option PageState
state_in [] page = None
state_in (pass ∷ passes) page = or_else (page_of pass page) (state_in passes page)

-- the decisions that were read for a file, by the pass that claimed it
abbrev pub spent_in : List DecoderView → ℕ → Option ℕ
spent_in [] file = None
spent_in (pass ∷ passes) file = or_else (spent_of pass file) (spent_in passes file)

-- of pages from this number on, whose files these are
abbrev pub page_counts : List DecoderView → ℕ → List ℕ → List PageCount
page_counts passes page [] = []
page_counts passes page (file ∷ files) = record { file = file; decisions = decisions_of (state_in passes page) } ∷ page_counts passes (suc page) files

-- of the files of these names, from this number on
abbrev pub file_counts : List DecoderView → ℕ → List (List ℕ) → List (Option ℕ)
file_counts passes file [] = []
file_counts passes file (name ∷ names) = spent_in passes file ∷ file_counts passes (suc file) names

-- what the passes decoded, in decisions
abbrev pub counts_in : Setup → List DecoderView → Counts
counts_in setup passes = record { pages = page_counts passes 0 setup.pages; files = file_counts passes 0 setup.names }

-- every page ended, and none for want of memory
abbrev pub AllEnded : Setup → List DecoderView → Type 0
AllEnded setup passes = (page file : ℕ) → slice_get setup.pages page ≡ Some file
    → (state : PageState) × (state_in passes page ≡ Some state) × HasEnded state.end

-- no count of decisions stands at its type's end
pub record CountsGoOn (passes : List DecoderView) : Type 0 where
  pub own : (page : ℕ) (state : PageState) → state_in passes page ≡ Some state → state.decisions < 2 ^ 64 - 1
  pub files : (file spent : ℕ) → spent_in passes file ≡ Some spent → spent < 2 ^ 64 - 1
