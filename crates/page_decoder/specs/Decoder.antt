-- A page's decoder: what contracts see of it, what it answers, and how it stands to what it was given.
use Rattle.std.specs.Prelude.{ℕ, zero, suc, ◌≡◌, ◌≢◌, ◌≤◌, ⊤, List, [], ◌∷◌, ◌++◌, length, take, Option, Some, None}
use Rattle.djvu_base.specs.Meter.{TicksExactly}
use Rattle.include_graph.specs.declared.outline.Outline.{Outline}
use Rattle.layer_compose.specs.declared.layers.Layers.{Layers}
use Rattle.page_decoder.specs.declared.decoder.PageStep.{PageStep}
use Rattle.page_decoder.specs.declared.decoder.PageStep.TheVariants as step
use Rattle.page_decoder.specs.Results.{Result}
use Rattle.page_decoder.specs.Given.{Known}
use Rattle.page_decoder.specs.PageRead.{Drawing, last_layers, notice_of, Ending, Finished, Refused, NeedBytes, NeedOutline, NeedFile, Told, PageRead}

-- ---- what is answered

-- one thing that a reading tells: a drawing, or behind all drawings why it ends
pub data Entry : Type 0 where
  Draws : Drawing → Entry
  Ends : Ending → Entry

-- behind so many drawings
abbrev pub entry_at : List Drawing → ℕ → Ending → Entry
entry_at [] drawn end = Ends end
entry_at (drawing ∷ drawings) zero end = Draws drawing
entry_at (drawing ∷ drawings) (suc drawn) end = entry_at drawings drawn end

-- the next entry of a reading, of which so many drawings were told
abbrev pub next_entry : PageRead → ℕ → Entry
next_entry read drawn = entry_at read.left.told.drawings drawn read.end

-- the answer that stands at an end
abbrev pub answer_at : Ending → PageStep
answer_at Finished = step.Finished
answer_at (Refused fault) = step.Refused fault
answer_at NeedBytes = step.NeedBytes
answer_at (NeedOutline file) = step.NeedOutline file
answer_at (NeedFile file) = step.NeedFile file

abbrev pub answer_to : Entry → PageStep
answer_to (Draws drawing) = step.Drew (notice_of drawing)
answer_to (Ends end) = answer_at end

-- the decisions of the page's own chunks, up to an entry of its reading
abbrev pub decisions_to : Entry → PageRead → ℕ
decisions_to (Draws drawing) read = drawing.decisions
decisions_to (Ends end) read = read.left.told.decisions

-- how many notices were drawn, with this answer
abbrev pub drawn_with : PageStep → ℕ → ℕ
drawn_with (step.Drew notice) drawn = suc drawn
drawn_with step.NeedBytes drawn = drawn
drawn_with (step.NeedOutline file) drawn = drawn
drawn_with (step.NeedFile file) drawn = drawn
drawn_with step.Finished drawn = drawn
drawn_with (step.Refused fault) drawn = drawn
drawn_with step.OutOfMemory drawn = drawn

-- the end at which the page stands, with this answer
abbrev pub end_with : PageStep → Option Ending
end_with (step.Drew notice) = None
end_with step.NeedBytes = Some NeedBytes
end_with (step.NeedOutline file) = Some (NeedOutline file)
end_with (step.NeedFile file) = Some (NeedFile file)
end_with step.Finished = Some Finished
end_with (step.Refused fault) = Some (Refused fault)
end_with step.OutOfMemory = None

-- two counts rose by the same number of ticks, as far as each of them goes
abbrev pub RiseTogether : ℕ → ℕ → ℕ → ℕ → Type 0
RiseTogether before after other_before other_after = (ticks : ℕ) × TicksExactly ticks before after × TicksExactly ticks other_before other_after

-- ---- what is given

-- this outline is known of the file, and nothing else changed
pub record KnowsOutline (file : ℕ) (outline : Outline) (less more : Known) : Type 0 where
  pub given : more.outlines file ≡ Some outline
  pub others : (other : ℕ) → other ≢ file → more.outlines other ≡ less.outlines other
  pub results : (other : ℕ) → more.results other ≡ less.results other

-- this is known of what the file gives, and nothing else changed. Where it found no memory, nothing is known
pub record KnowsResult (file : ℕ) (result : Option Result) (less more : Known) : Type 0 where
  pub given : more.results file ≡ result
  pub others : (other : ℕ) → other ≢ file → more.results other ≡ less.results other
  pub outlines : (other : ℕ) → more.outlines other ≡ less.outlines other

-- nothing is known of other files
pub record KnowsNothing (known : Known) : Type 0 where
  pub outlines : (file : ℕ) → known.outlines file ≡ None
  pub results : (file : ℕ) → known.results file ≡ None

-- more bytes lift a need of bytes, and a gift the need of it
abbrev pub without_bytes : Option Ending → Option Ending
without_bytes (Some NeedBytes) = None
without_bytes (Some Finished) = Some Finished
without_bytes (Some (Refused fault)) = Some (Refused fault)
without_bytes (Some (NeedOutline file)) = Some (NeedOutline file)
without_bytes (Some (NeedFile file)) = Some (NeedFile file)
without_bytes None = None

-- the layers are those of the last drawing that was told
abbrev pub Shows : Option Layers → ℕ → Told → Type 0
Shows layers drawn told = (drawn ≤ length told.drawings) × (layers ≡ last_layers (take drawn told.drawings))
