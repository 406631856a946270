-- The reading of an outline, event by event.
use Rattle.std.specs.Prelude.{ℕ, Bool, true, false, ◌||◌, ◌++◌, List, [], ◌∷◌, Option, Some, None, if◌then◌else◌}
use Rattle.djvu_base.specs.declared.faults.FaultKind.{FaultKind}
use Rattle.djvu_base.specs.declared.faults.FaultKind.TheVariants as fault
use Rattle.djvu_base.specs.Library.{Mark}
use Rattle.iff_chunks.specs.Chunks.{chunks_of}
use Rattle.iff_chunks.specs.Ends.{file_end}
use Rattle.iff_chunks.specs.Events.{Event, Begun, Header, Data, ChunkEnd, events_of}
use Rattle.iff_chunks.specs.declared.walker.WalkStep.{WalkStep}
use Rattle.iff_chunks.specs.declared.walker.WalkStep.TheVariants as step
use Rattle.include_graph.specs.declared.outline.OutlineItem.{OutlineItem}
use Rattle.include_graph.specs.declared.outline.OutlineItem.TheVariants as item
use Rattle.include_graph.specs.Included.{kind_fault, chunk_fault, is_dictionary, is_include, include_name}
use Rattle.include_graph.specs.Outlines.{Items, items_at_end}

-- where the reading stands
pub data Place : Type 0 where
  -- in no chunk, or in one that isn't an include
  Passing : Place
  -- in an INCL at this offset, of which these data were told
  InInclude : ℕ → List ℕ → Place
  -- behind the last item
  Known : Place

pub record Progress : Type 0 where
  pub place : Place
  pub has_dictionary : Bool
  pub items : List OutlineItem

abbrev pub at_start : Progress
at_start = record { place = Passing; has_dictionary = false; items = [] }

abbrev pub with_fault : FaultKind → ℕ → Progress → Progress
with_fault kind offset so_far = record { place = Known; has_dictionary = so_far.has_dictionary; items = so_far.items ++ item.Broken kind offset ∷ [] }

-- a fault at this offset, or else it goes on so
abbrev pub faulty_or : Option FaultKind → ℕ → Progress → Progress → Progress
faulty_or None offset so_far next = next
faulty_or (Some kind) offset so_far next = with_fault kind offset so_far

-- behind the header of a chunk without a fault
abbrev pub in_chunk : List ℕ → ℕ → Progress → Progress
in_chunk id offset so_far =
    record {
      place = (if is_include id then InInclude offset [] else Passing);
      has_dictionary = (so_far.has_dictionary || is_dictionary id);
      items =
          so_far.items;
    }

-- behind an INCL, by the name that it holds
abbrev pub behind_include : Option (List ℕ) → ℕ → Progress → Progress
behind_include None offset so_far = with_fault fault.BadIncludeName offset so_far
behind_include (Some name) offset so_far = record {
  place = Passing;
  has_dictionary = so_far.has_dictionary;
  items = so_far.items ++ item.Include
      name offset ∷ [];
}

abbrev pub at_place : Place → Event → Progress → Progress
at_place Known event so_far = so_far
at_place Passing (Begun kind size) so_far = faulty_or (kind_fault kind) 0 so_far so_far
at_place Passing (Header id offset size) so_far = faulty_or (chunk_fault so_far.has_dictionary id) offset so_far (in_chunk id offset so_far)
at_place Passing (Data bytes) so_far = so_far
at_place Passing ChunkEnd so_far = so_far
at_place (InInclude offset told) (Begun kind size) so_far = so_far
at_place (InInclude offset told) (Header id next size) so_far = so_far
at_place (InInclude offset told) (Data bytes) so_far = record {
  place = InInclude offset (told ++ bytes);
  has_dictionary = so_far.has_dictionary;
  items = so_far.items;
}
at_place (InInclude offset told) ChunkEnd so_far = behind_include (include_name told) offset so_far

abbrev pub after_event : Progress → Event → Progress
after_event so_far event = at_place so_far.place event so_far

abbrev pub after_events : Progress → List Event → Progress
after_events so_far [] = so_far
after_events so_far (event ∷ events) = after_events (after_event so_far event) events

-- behind an answer of a walker, for which it used these bytes
abbrev pub after_step : Progress → WalkStep → List ℕ → Progress
after_step so_far (step.Form kind size) used = after_event so_far (Begun kind size)
after_step so_far (step.Header id offset size) used = after_event so_far (Header id offset size)
after_step so_far step.Data used = after_event so_far (Data used)
after_step so_far step.ChunkEnd used = after_event so_far ChunkEnd
after_step so_far step.NeedBytes used = so_far
after_step so_far step.FormEnd used = so_far
after_step so_far (step.Broken kind offset) used = so_far

abbrev pub is_known : Place → Bool
is_known Known = true
is_known Passing = false
is_known (InInclude offset told) = false

-- the items, where no event follows and the file ends so
abbrev pub items_so_far : Progress → Items → Items
items_so_far so_far ended = if is_known so_far.place then record { items = so_far.items; is_known = true } else record
    { items = so_far.items ++ ended.items; is_known = ended.is_known }

-- the items of a file with these bytes, by the events of its chunks
abbrev pub items_by_events : Mark → List ℕ → Items
items_by_events mark bytes = items_so_far (after_events at_start (events_of (chunks_of bytes))) (items_at_end (file_end mark bytes))
