-- The outline of an included file, read off its chunks: its includes in order, up to its first fault of form.
use Rattle.std.specs.Prelude.{ℕ, Bool, true, false, ◌||◌, List, [], ◌∷◌, Option, Some, None, if◌then◌else◌}
use Rattle.djvu_base.specs.declared.faults.FaultKind.{FaultKind}
use Rattle.djvu_base.specs.declared.faults.FaultKind.TheVariants as fault
use Rattle.djvu_base.specs.Library.{Mark}
use Rattle.iff_chunks.specs.Chunks.{Form, Chunk, Tail, InHead, InHeader, InData, InPad, FormEnd, Broken, chunks_of}
use Rattle.iff_chunks.specs.Ends.{file_end}
use Rattle.include_graph.specs.declared.outline.Outline.{Outline}
use Rattle.include_graph.specs.declared.outline.OutlineItem.{OutlineItem}
use Rattle.include_graph.specs.declared.outline.OutlineItem.TheVariants as item
use Rattle.include_graph.specs.Included.{kind_fault, chunk_fault, is_dictionary, is_include, include_name}

-- the items of a file so far, and whether these are all that it has
pub record Items : Type 0 where
  pub items : List OutlineItem
  pub is_known : Bool

-- no item so far, and some may come
abbrev pub some_to_come : Items
some_to_come = record { items = []; is_known = false }

-- no item any more
abbrev pub no_more : Items
no_more = record { items = []; is_known = true }

-- a fault of form, after which no item comes
abbrev pub faulty : FaultKind → ℕ → Items
faulty kind offset = record { items = item.Broken kind offset ∷ []; is_known = true }

-- an item, and then these
abbrev pub item_then : OutlineItem → Items → Items
item_then first items = record { items = first ∷ items.items; is_known = items.is_known }

-- a fault at this offset, or what comes where there is none
abbrev pub unless_faulty : Option FaultKind → ℕ → Items → Items
unless_faulty None offset items = items
unless_faulty (Some kind) offset items = faulty kind offset

-- where the file's bytes end so
abbrev pub items_at_end : Tail → Items
items_at_end InHead = some_to_come
items_at_end (InHeader offset bytes) = some_to_come
items_at_end (InData chunk) = some_to_come
items_at_end (InPad offset is_last) = some_to_come
items_at_end FormEnd = no_more
items_at_end (Broken kind offset) = faulty kind offset

-- behind the complete chunks: the header of a chunk whose data are still arriving is tried, and then the file's end
abbrev pub items_at_tail : Tail → Items → Bool → Items
items_at_tail InHead ended has_dictionary = ended
items_at_tail (InHeader offset bytes) ended has_dictionary = ended
items_at_tail (InData chunk) ended has_dictionary = unless_faulty (chunk_fault has_dictionary chunk.id) chunk.offset ended
items_at_tail (InPad offset is_last) ended has_dictionary = ended
items_at_tail FormEnd ended has_dictionary = ended
items_at_tail (Broken kind offset) ended has_dictionary = ended

-- an include by the name that its data hold, at this offset, and then these items
abbrev pub named_then : Option (List ℕ) → ℕ → Items → Items
named_then None offset items = faulty fault.BadIncludeName offset
named_then (Some name) offset items = item_then (item.Include name offset) items

-- a complete chunk without a fault in its header, and then these items
abbrev pub chunk_then : Chunk → Items → Items
chunk_then chunk items = if is_include chunk.id then named_then (include_name chunk.bytes) chunk.offset items else items

-- complete chunks of a file that has a dictionary before them or not, and then what the file's rest gives
abbrev pub items_in : (Bool → Items) → Bool → List Chunk → Items
items_in rest has_dictionary [] = rest has_dictionary
items_in rest has_dictionary (chunk ∷ chunks) =
    unless_faulty (chunk_fault has_dictionary chunk.id) chunk.offset (chunk_then chunk (items_in rest (has_dictionary || is_dictionary chunk.id) chunks))

abbrev pub form_fault : Option Form → Option FaultKind
form_fault None = None
form_fault (Some form) = kind_fault form.kind

-- all chunks of a file, by its FORM, where the file ends so
abbrev pub items_of : Option Form → List Chunk → Tail → Items → Items
items_of form whole tail ended = unless_faulty (form_fault form) 0 (items_in (items_at_tail tail ended) false whole)

abbrev pub outline_by : Items → Option Outline
outline_by items = if items.is_known then Some (record { items = items.items }) else None

-- the items of a file with these bytes, of whose end this is known
abbrev pub outlined : Mark → List ℕ → Items
outlined mark bytes = items_of (chunks_of bytes).form (chunks_of bytes).whole (chunks_of bytes).tail (items_at_end (file_end mark bytes))

-- the outline of a file with these bytes, of whose end this is known. It is known once no item can come any more
abbrev pub outline_of : Mark → List ℕ → Option Outline
outline_of mark bytes = outline_by (outlined mark bytes)
