-- The reading of a page and of an included file, act by act. An include is resolved late: at the next dictionary or mask, or else at
-- the end of the FORM.
use Rattle.std.specs.Prelude.{ℕ, zero, suc, ◌+◌, List, [], ◌∷◌, ◌++◌, Option, Some, None}
use Rattle.djvu_base.specs.declared.faults.FaultKind.{FaultKind}
use Rattle.djvu_base.specs.declared.faults.FaultKind.TheVariants as fault
use Rattle.bit_plane.specs.Pixels.{Pixels}
use Rattle.layer_compose.specs.declared.layers.Layers.{Layers}
use Rattle.iff_chunks.specs.Chunks.{chunks_of}
use Rattle.iw44_image.specs.Layer.{Data}
use Rattle.include_graph.specs.declared.verdicts.Verdict.{Verdict}
use Rattle.include_graph.specs.declared.verdicts.Verdict.TheVariants as verdict
use Rattle.include_graph.specs.Verdicts.{number_of, fault_at, verdict_of}
use Rattle.page_decoder.specs.Kinds.{ChunkKind, kind_of}
use Rattle.page_decoder.specs.Kinds as kind
use Rattle.page_decoder.specs.Results.{Result, Dictionary, Nothing, result_of}
use Rattle.page_decoder.specs.Results as result
use Rattle.page_decoder.specs.Given.{Role, Page, Included, Home, Known, Given}
use Rattle.page_decoder.specs.PageRead.{Drawing, Ending, Finished, Refused, NeedBytes, NeedOutline, NeedFile, Include, Decoded, Left, PageRead, or_else, in_force, at_start}
use Rattle.page_decoder.specs.Headers.{Head, form_fault, header_fault}
use Rattle.page_decoder.specs.ChunkData.{Outcome, Leaves, Unfinished, Fails, Came, came}
use Rattle.page_decoder.specs.Acts.{Act, Kind, Reads, Close, Waits, Breaks, Over, acts_of, close_in}

-- what an act comes to: the reading goes on from here, or it ends
pub data Step : Type 0 where
  On : Left → Step
  Ends : PageRead → Step

abbrev pub ends : Left → Ending → Step
ends left end = Ends (record { left = left; end = end })

abbrev pub refused_at : Home → FaultKind → ℕ → Ending
refused_at home kind offset = Refused (fault_at kind home.file offset)

abbrev pub and_then : Step → (Left → Step) → Step
and_then (On left) next = next left
and_then (Ends read) next = Ends read

abbrev pub after : Step → (Left → PageRead) → PageRead
after (On left) next = next left
after (Ends read) next = read

-- one file more was reached
abbrev pub reaching : ℕ → Left → Left
reaching file left = record left { told = record left.told { reached = left.told.reached ++ file ∷ [] } }

-- so many decisions more were read
abbrev pub counting : ℕ → Left → Left
counting decisions left = record left { told = record left.told { decisions = left.told.decisions + decisions } }

-- ---- includes

-- an include gave a dictionary or none. The first one counts
abbrev pub inheriting : Option (List Pixels) → Left → Left
inheriting found left = record left { decoded = record left.decoded { inherited = or_else left.decoded.inherited found } }

abbrev pub nothing_pending : Left → Left
nothing_pending left = record left { decoded = record left.decoded { pending = [] } }

-- at a listed file, by what it gives
abbrev pub at_result : (Option (List Pixels) → Left → Step) → ℕ → Option Result → Left → Step
at_result next file None left = ends (reaching file left) (NeedFile file)
at_result next file (Some (Dictionary shapes)) left = next (Some shapes) (reaching file left)
at_result next file (Some Nothing) left = next None (reaching file left)
at_result next file (Some (result.Refused fault)) left = ends (reaching file left) (Refused fault)

-- the listed files in order. The target is the last one, and what it gives is inherited
abbrev pub in_files : Known → List ℕ → Option (List Pixels) → Left → Step
in_files known [] found left = On (inheriting found left)
in_files known (file ∷ files) found left = at_result (in_files known files) file (known.results file) left

abbrev pub at_verdict : Known → Verdict → Left → Step
at_verdict known (verdict.Files files) left = in_files known files None left
at_verdict known (verdict.NeedOutline file) left = ends left (NeedOutline file)
at_verdict known (verdict.Refused fault) left = ends left (Refused fault)

-- the files that an include of this target comes to. Those below an included file were decoded before it
abbrev pub listing : Role → Home → Known → ℕ → Verdict
listing Page home known target = verdict_of (record { names = home.names; outlines = known.outlines }) target
listing Included home known target = verdict.Files (target ∷ [])

abbrev pub at_target : Home → Known → ℕ → Option ℕ → Left → Step
at_target home known offset None left = ends left (refused_at home fault.MissingInclude offset)
at_target home known offset (Some target) left = at_verdict known (listing home.role home known target) left

abbrev pub at_include : Home → Known → Include → Left → Step
at_include home known include left = at_target home known include.offset (number_of include.name home.names) left

-- includes in order, each once
abbrev pub resolved : Home → Known → List Include → Left → Step
resolved home known [] left = On (nothing_pending left)
resolved home known (include ∷ includes) left = and_then (at_include home known include left) (resolved home known includes)

-- all that are pending
abbrev pub all_resolved : Home → Known → Left → Step
all_resolved home known left = resolved home known left.decoded.pending left

-- before a chunk of this kind
abbrev pub resolved_before : ChunkKind → Home → Known → Left → Step
resolved_before kind.Dictionary home known left = all_resolved home known left
resolved_before kind.Mask home known left = all_resolved home known left
resolved_before other home known left = On left

-- ---- chunks

-- at the FORM's kind, by what is wrong with it
abbrev pub at_form : Home → Option FaultKind → Left → Step
at_form home (Some kind) left = ends left (refused_at home kind 0)
at_form home None left = On left

-- at the header of a chunk, by what is wrong with it
abbrev pub at_header : Home → Known → Head → Option FaultKind → Left → Step
at_header home known head (Some kind) left = ends left (refused_at home kind head.offset)
at_header home known head None left = resolved_before (kind_of head.id) home known left

abbrev pub drawing_of : ℕ → ℕ → Option Layers → List Drawing
drawing_of chunks decisions None = []
drawing_of chunks decisions (Some layers) = record { chunks = chunks; decisions = decisions; layers = layers } ∷ []

-- the drawing that a chunk of this kind brings, which is the last of so many with so many decisions, and leaves these layers
abbrev pub drawing_by : ChunkKind → ℕ → ℕ → Option Layers → List Drawing
drawing_by kind.Info chunks decisions layers = drawing_of chunks decisions layers
drawing_by kind.Mask chunks decisions layers = drawing_of chunks decisions layers
drawing_by kind.Front chunks decisions layers = drawing_of chunks decisions layers
drawing_by kind.Back chunks decisions layers = drawing_of chunks decisions layers
drawing_by other chunks decisions layers = []

-- behind a complete chunk with these decisions, which leaves this
abbrev pub with_chunk : Head → ℕ → Decoded → Left → Left
with_chunk head decisions decoded left = record {
  chunks = suc left.chunks;
  decoded = decoded;
  told = record {
    drawings = left.told.drawings ++ drawing_by (kind_of head.id) (suc left.chunks) (left.told.decisions + decisions) decoded.layers;
    decisions = left.told.decisions + decisions;
    reached = left.told.reached;
  };
}

-- behind data that come to this, with so many decisions
abbrev pub at_outcome : Home → Head → ℕ → Outcome → Left → Step
at_outcome home head decisions (Leaves decoded) left = On (with_chunk head decisions decoded left)
at_outcome home head decisions Unfinished left = On (counting decisions left)
at_outcome home head decisions (Fails kind) left = ends (counting decisions left) (refused_at home kind head.offset)

abbrev pub at_came : Home → Head → Came → Left → Step
at_came home head it left = at_outcome home head it.decisions it.outcome left

abbrev pub at_data : Home → Head → Data → Left → Step
at_data home head given left = at_came home head (came home.table head given left.decoded) left

-- a chunk: its header, the includes before it, its data
abbrev pub at_act : Home → Known → Act → Left → Step
at_act home known (Kind kind) left = at_form home (form_fault home.role kind) left
at_act home known (Reads head given) left = and_then (at_header home known head (header_fault home.role left head) left) (at_data home head given)

-- ---- the end

abbrev pub finished : Left → PageRead
finished left = record { left = left; end = Finished }

-- a FORM with so many complete chunks has ended. A page has one
abbrev pub at_over : Role → ℕ → Home → Known → ℕ → Left → PageRead
at_over Page zero home known origin left = record { left = left; end = refused_at home fault.NoInfo origin }
at_over Page (suc chunks) home known origin left = after (all_resolved home known left) finished
at_over Included chunks home known origin left = after (all_resolved home known left) finished

abbrev pub at_close : Home → Known → Close → Left → PageRead
at_close home known Waits left = record { left = left; end = NeedBytes }
at_close home known (Breaks kind offset) left = record { left = left; end = refused_at home kind offset }
at_close home known (Over origin) left = at_over home.role left.chunks home known origin left

-- acts from here on, and what stands behind them
abbrev pub read_from : Home → Known → Close → List Act → Left → PageRead
read_from home known close [] left = at_close home known close left
read_from home known close (act ∷ acts) left = after (at_act home known act left) (read_from home known close acts)

-- some acts, without what stands behind them
abbrev pub step_through : Home → Known → List Act → Left → Step
step_through home known [] left = On left
step_through home known (act ∷ acts) left = and_then (at_act home known act left) (step_through home known acts)

-- the reading of a file of which this was given
abbrev pub read : Given → PageRead
read given = read_from given.home given.known (close_in given.mark given.bytes) (acts_of (chunks_of given.bytes)) at_start

-- ---- included files

-- the decoding of an included file: what it gives, and the decisions of its own chunks
pub record FileDone : Type 0 where
  pub result : Result
  pub decisions : ℕ

-- by why its reading ends, and what its chunks leave
abbrev pub result_by : Ending → Decoded → Result
result_by Finished decoded = result_of (in_force decoded)
result_by (Refused fault) decoded = result.Refused fault
result_by NeedBytes decoded = Nothing
result_by (NeedOutline file) decoded = Nothing
result_by (NeedFile file) decoded = Nothing

abbrev pub done_by : PageRead → FileDone
done_by read = record { result = result_by read.end read.left.decoded; decisions = read.left.told.decisions }

-- of an included file of which this was given
abbrev pub decode : Given → FileDone
decode given = done_by (read given)
