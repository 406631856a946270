-- What is told of a page, against a reading of it.
use Rattle.std.specs.Prelude.{ℕ, suc, ◌≡◌, ◌≤◌, ◌<◌, ◌⊎◌, ⊤, List, [], ◌∷◌, ◌++◌, length, map, take, Option, Some, None}
use Rattle.djvu_base.specs.Meter.{TicksExactly}
use Rattle.layer_compose.specs.declared.layers.Layers.{Layers}
use Rattle.page_decoder.specs.Given.{Front}
use Rattle.page_decoder.specs.PageRead.{Drawing, Ending, last_layers, notices_of, PageRead}
use Rattle.page_decoder.specs.PageRead as reading
use Rattle.port_log.specs.declared.entries.Entry.{Entry}
use Rattle.port_log.specs.declared.entries.Entry.TheVariants as entry
use Rattle.port_log.specs.declared.entries.PageEnd.{PageEnd}
use Rattle.port_log.specs.declared.entries.PageEnd.TheVariants as page_end
use Rattle.djvu_session.specs.Passes.{PageState}

abbrev pub end_entries : Option PageEnd → List Entry
end_entries None = []
end_entries (Some how) = entry.Ended how ∷ []

-- the entries that the log of a page has then
abbrev pub entries_of : PageState → List Entry
entries_of page = map entry.Drew page.notices ++ end_entries page.end

-- a page of which nothing was told
abbrev pub untold : PageState
untold = record { notices = []; end = None; decisions = 0; layers = None }

-- the page ended so: all notices of the reading were told, its decisions were read, and it ends so, too
pub record EndsAs (read : PageRead) (page : PageState) (how : Ending) : Type 0 where
  pub end : read.end ≡ how
  pub all : page.notices ≡ notices_of read.left.told
  pub decisions : TicksExactly read.left.told.decisions 0 page.decisions

-- a page that ended well or at a fault ended as its reading does
abbrev pub EndsSo : PageRead → PageState → Option PageEnd → Type 0
EndsSo read page None = ⊤
EndsSo read page (Some page_end.Finished) = EndsAs read page reading.Finished
EndsSo read page (Some (page_end.Refused fault)) = EndsAs read page (reading.Refused fault)
EndsSo read page (Some page_end.NoMemory) = ⊤

-- the layers behind the first so many drawings
abbrev pub layers_behind : List Drawing → ℕ → Option Layers
layers_behind drawings count = last_layers (take count drawings)

-- the layers are those behind the last notice. Where there was no memory, one more may have been drawn that wasn't announced
abbrev pub LayersSo : List Drawing → PageState → Option PageEnd → Type 0
LayersSo drawings page (Some page_end.NoMemory) =
    (page.layers ≡ layers_behind drawings (length page.notices))
    ⊎ ((length page.notices < length drawings) × (page.layers ≡ layers_behind drawings (suc (length page.notices))))
LayersSo drawings page other = page.layers ≡ layers_behind drawings (length page.notices)

-- what was told of a page is true of a reading: the notices are its first ones, no more decisions were read than it has, and the page
-- ended as it does
pub record IsTold (read : PageRead) (page : PageState) : Type 0 where
  pub notices : Front page.notices (notices_of read.left.told)
  pub decisions : page.decisions ≤ read.left.told.decisions
  pub end : EndsSo read page page.end
  pub layers : LayersSo read.left.told.drawings page page.end

-- a page ended, and not for want of memory
abbrev pub HasEnded : Option PageEnd → Type 0
HasEnded None = ⊥
HasEnded (Some page_end.Finished) = ⊤
HasEnded (Some (page_end.Refused fault)) = ⊤
HasEnded (Some page_end.NoMemory) = ⊥
