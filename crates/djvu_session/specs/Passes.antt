-- What contracts see of a session and of its passes, and which passes are a session's.
use Rattle.std.specs.Prelude.{◌≡◌, ℕ, ◌≤◌, ◌<◌, ◌==◌, if◌then◌else◌, List, length, Option, Some, None, slice_get, slice_index_or}
use Rattle.djvu_base.specs.Announced.{Announced}
use Rattle.djvu_base.specs.Name.{IsAscending}
use Rattle.zp_table.specs.declared.rows.Row.{Row}
use Rattle.zp_table.specs.Rows.{IsTable}
use Rattle.layer_compose.specs.declared.layers.Layers.{Layers}
use Rattle.jb2_records.specs.declared.results.FileResult.{FileResult}
use Rattle.once_board.specs.declared.holds.Hold.{Hold}
use Rattle.once_board.specs.Boards.{BoardView, SeatView}
use Rattle.once_board.specs.Holds.{Extends}
use Rattle.once_board.specs.Numbers.{times}
use Rattle.once_board.specs.Places.{record_of}
use Rattle.file_shelf.specs.Shelves.{IsShelf}
use Rattle.data_pool.specs.Pools.{PoolView, PoolSeatView, IsPool}
use Rattle.data_pool.specs.Pools as pools
use Rattle.port_log.specs.declared.entries.PageEnd.{PageEnd}
use Rattle.port_log.specs.Logs.{LogView, LogSeatView, IsLog}
use Rattle.port_log.specs.Logs as logs

-- ---- what is seen

-- what a session is opened for: the state table, the folder's names, and the files of its pages, by their numbers among the names
pub record Setup : Type 0 where
  pub table : List Row
  pub names : List (List ℕ)
  pub pages : List ℕ

-- the file of a page, by the page's number
abbrev pub file_at : Setup → ℕ → ℕ
file_at setup page = slice_index_or setup.pages page 0

-- seats of the three boards, one each
pub record Seats : Type 0 where
  pub pool : PoolSeatView
  pub shelf : SeatView FileResult
  pub log : LogSeatView

-- a session, and the seats that it keeps
pub record SessionView : Type 0 where
  pub setup : Setup
  pub pool : PoolView
  pub shelf : BoardView
  pub log : LogView
  pub kept : Seats

-- a feeder's pass
pub record FeederView : Type 0 where
  pub number : ℕ
  pub pool : PoolSeatView

-- what was told of a page so far: its notices, its end, the decisions of its own chunks, and its layers
pub record PageState : Type 0 where
  pub notices : List Announced
  pub end : Option PageEnd
  pub decisions : ℕ
  pub layers : Option Layers

-- a decoder's pass: of each file how many pieces it read; each page that is its own; and of each file that it claimed and published,
-- how many decisions were read for that
pub record DecoderView : Type 0 where
  pub setup : Setup
  pub number : ℕ
  pub pool : PoolSeatView
  pub shelf : SeatView FileResult
  pub log : LogSeatView
  pub read : List ℕ
  pub pages : List (Option PageState)
  pub spent : List (Option ℕ)

-- how many entries of a page's log a viewer's pass read, and how many it was told of
pub record Position : Type 0 where
  pub read : ℕ
  pub told : ℕ

-- a viewer's pass, with its position in each page's log
pub record ViewerView : Type 0 where
  pub number : ℕ
  pub log : LogSeatView
  pub positions : List Position

-- ---- parts of a pass

abbrev pub item : {A : Type 0} → Option (Option A) → Option A
item None = None
item (Some it) = it

-- how many pieces of a file were read
abbrev pub read_of : DecoderView → ℕ → ℕ
read_of pass file = slice_index_or pass.read file 0

-- a page, if it is the pass's own
abbrev pub page_of : DecoderView → ℕ → Option PageState
page_of pass page = item (slice_get pass.pages page)

-- the decisions that were read for a file, if the pass claimed it
abbrev pub spent_of : DecoderView → ℕ → Option ℕ
spent_of pass file = item (slice_get pass.spent file)

abbrev pub position_of : ViewerView → ℕ → Position
position_of pass page = slice_index_or pass.positions page (record { read = 0; told = 0 })

-- ---- whose passes they are

module _ {T : Type 0} where
  -- a seat holds this right, and no other
  abbrev pub HasOnly : ℕ → Hold T → Type 0
  HasOnly number h = (right : ℕ) → times right h.rights ≡ (if right == number then 1 else 0)

  abbrev pub HasNoRight : Hold T → Type 0
  HasNoRight h = (right : ℕ) → times right h.rights ≡ 0

  -- what no call of a session changes in a seat, and what only rises: it keeps its rights and parts, loses nothing that it knew, and has
  -- no fewer readings
  pub record SeatGoesOn (before after : Hold T) : Type 0 where
    pub rights : after.rights ≡ before.rights
    pub parts : after.parts ≡ before.parts
    pub extends : Extends before after
    pub readings : (place : ℕ) → (record_of before.places place).readings ≤ (record_of after.places place).readings

pub record IsFeederOf (session : SessionView) (pass : FeederView) : Type 0 where
  pub number : pass.number < session.pool.feeders
  pub pool : pools.IsSeatOf session.pool pass.pool
  pub right : HasOnly pass.number pass.pool.hold
  pub part : 1 ≤ pass.pool.hold.parts

pub record IsDecoderOf (session : SessionView) (pass : DecoderView) : Type 0 where
  pub setup : pass.setup ≡ session.setup
  pub number : pass.number < session.log.workers
  pub pool : pools.IsSeatOf session.pool pass.pool
  pub shelf : pass.shelf.board ≡ session.shelf.board
  pub log : logs.IsSeatOf session.log pass.log
  pub right : HasOnly pass.number pass.log.hold
  pub no_right : HasNoRight pass.pool.hold × HasNoRight pass.shelf.hold
  pub parts : (1 ≤ pass.pool.hold.parts) × (1 ≤ pass.shelf.hold.parts) × (1 ≤ pass.log.hold.parts)

pub record IsViewerOf (session : SessionView) (pass : ViewerView) : Type 0 where
  pub log : logs.IsSeatOf session.log pass.log
  pub many : length pass.positions ≡ length session.setup.pages
  pub no_right : HasNoRight pass.log.hold
  pub part : 1 ≤ pass.log.hold.parts

-- names in order, at most 1,024, and up to eight pages among them, none of them twice
pub record IsSetup (setup : Setup) : Type 0 where
  pub table : IsTable setup.table
  pub names : IsAscending setup.names
  pub some_names : (1 ≤ length setup.names) × (length setup.names ≤ 1_024)
  pub some_pages : (1 ≤ length setup.pages) × (length setup.pages ≤ 8)
  pub inside : (page file : ℕ) → slice_get setup.pages page ≡ Some file → file < length setup.names
  pub apart : (page other file : ℕ) → slice_get setup.pages page ≡ Some file → slice_get setup.pages other ≡ Some file → page ≡ other

-- what holds of every session: its boards have the places that its files and pages want, and the seats that it keeps claimed nothing
pub record IsSession (session : SessionView) : Type 0 where
  pub setup : IsSetup session.setup
  pub pool : IsPool session.pool × (session.pool.files ≡ length session.setup.names)
  pub shelf : IsShelf session.shelf.owners × (length session.shelf.owners ≡ length session.setup.names)
  pub log : IsLog session.log × (session.log.pages ≡ length session.setup.pages)
  pub kept_pool : pools.IsSeatOf session.pool session.kept.pool
  pub kept_shelf : session.kept.shelf.board ≡ session.shelf.board
  pub kept_log : logs.IsSeatOf session.log session.kept.log
  pub no_claim : (file : ℕ) → times file session.kept.shelf.hold.claims ≡ 0
