-- What holds of each pass between calls.
use Rattle.std.specs.Prelude.{ℕ, ◌≡◌, ◌≤◌, ◌<◌, ◌%◌, length, Some}
use Rattle.once_board.specs.Filled.{EndsByLast}
use Rattle.once_board.specs.Numbers.{times}
use Rattle.once_board.specs.Told.{IsSound}
use Rattle.data_pool.specs.Pieces as pieces
use Rattle.data_pool.specs.Pools as pools
use Rattle.port_log.specs.Entries as entries
use Rattle.port_log.specs.Logs as logs
use Rattle.page_decoder.specs.Read.{read}
use Rattle.djvu_session.specs.Passes.{FeederView, PageState, DecoderView, ViewerView, read_of, page_of, spent_of, position_of}
use Rattle.djvu_session.specs.Seen.{pieces_read, given_of}
use Rattle.djvu_session.specs.Pages.{entries_of, IsTold}
use Rattle.djvu_session.specs.Spent.{HasPublished, one_if}

pub record FeederKeeps (pass : FeederView) : Type 0 where
  pub rows : pools.InPool pass.pool
  pub sound : IsSound pieces.may_stand pass.pool.hold

-- of a page that is the pass's own: what was told of it is true of what the pass has seen, and stands in the log
pub record KeepsPage (pass : DecoderView) (page : ℕ) (state : PageState) : Type 0 where
  pub own : page % pass.log.workers ≡ pass.number
  pub told : IsTold (read (given_of pass page)) state
  pub announced : logs.announced_entries pass.log page ≡ entries_of state

-- of a file that the pass claimed: it reached the file for a page of its own, and published what it decoded
pub record KeepsFile (pass : DecoderView) (file spent : ℕ) : Type 0 where
  pub page : ℕ
  pub state : PageState
  pub own : page_of pass page ≡ Some state
  pub published : HasPublished pass page file spent

pub record DecoderKeeps (pass : DecoderView) : Type 0 where
  pub rows : pools.InPool pass.pool
  pub sound : IsSound pieces.may_stand pass.pool.hold
  pub log : logs.InLog pass.log
  pub log_sound : IsSound entries.may_stand pass.log.hold
  pub many : (length pass.read ≡ length pass.setup.names) × (length pass.pages ≡ length pass.setup.pages) × (length pass.spent ≡ length pass.setup.names)
  -- what was read is known, and only the last of it may end the file
  pub few : (file : ℕ) → read_of pass file ≤ 2_049
  pub known : (file : ℕ) → pools.KnowsTo pass.pool file (read_of pass file)
  pub ends : (file : ℕ) → EndsByLast pieces.is_end (pieces_read pass file)
  -- exactly the pages of the pass's number are its own
  pub own : (page : ℕ) → page < length pass.setup.pages → page % pass.log.workers ≡ pass.number → (state : PageState) × (page_of pass page ≡ Some state)
  pub pages : (page : ℕ) (state : PageState) → page_of pass page ≡ Some state → KeepsPage pass page state
  -- no claim is outstanding: each was published, and its decisions are kept
  pub claims : (file : ℕ) → times file pass.shelf.hold.claims ≡ one_if (spent_of pass file)
  pub puts : (file : ℕ) → times file pass.shelf.hold.puts ≡ one_if (spent_of pass file)
  pub files : (file spent : ℕ) → spent_of pass file ≡ Some spent → KeepsFile pass file spent

-- of a page's log: the entries that were read or told of are known, and only the last of each may be an end
pub record KeepsLog (pass : ViewerView) (page : ℕ) : Type 0 where
  pub few : ((position_of pass page).read ≤ 260) × ((position_of pass page).told ≤ 260)
  pub read : logs.KnowsTo pass.log page (position_of pass page).read
  pub told : logs.KnowsTo pass.log page (position_of pass page).told
  pub ends : EndsByLast entries.is_end (logs.entries pass.log page (position_of pass page).read)
  pub told_ends : EndsByLast entries.is_end (logs.entries pass.log page (position_of pass page).told)

pub record ViewerKeeps (pass : ViewerView) : Type 0 where
  pub log : logs.InLog pass.log
  pub sound : IsSound entries.may_stand pass.log.hold
  pub pages : (page : ℕ) → KeepsLog pass page
