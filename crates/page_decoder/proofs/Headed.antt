-- A layer whose chunks are done has a header, of a size that is taken. So its picture lies on the page by a reduction.
use Rattle.std.proofs.Common.{◌≡◌, ℕ, Bool, true, false, cond, Option, Some, None, is_some, List, [], ◌∷◌, ◌++◌, refl, sym, ap, ◌∙◌, subst}
use Rattle.std.proofs.lemmas.Bool.{true≢false}
use Rattle.djvu_base.specs.declared.faults.FaultKind.TheVariants as fault
use Rattle.zp_table.specs.declared.rows.Row.{Row}
use Rattle.zp_decoder.specs.Chunk.{Chunk, chunk}
use Rattle.zp_decoder.specs.Decision.{Interval}
use Rattle.iw44_slices.specs.declared.steps.SliceStep.{SliceStep}
use Rattle.iw44_slices.specs.declared.steps.SliceStep.TheVariants as step
use Rattle.iw44_image.specs.Header.{Opening, Short, Wrong, Opened, open_chunk, checked}
use Rattle.iw44_image.specs.Layer.{Data, Layer, LayerReading, Answer, Done, Need, Fault, Task, Allowed, tasks, layer_after, after_slice, task_reading, chunk_end, read_tasks, with_header, read_opened, read_chunk, after_chunk, read_chunks, new_layer, header_or, read_layer}

-- the size in a layer's header is taken
abbrev pub IsTaken : Allowed → Layer → Type 0
IsTaken allowed layer = allowed.fits (header_or layer.header).width (header_or layer.header).height ≡ true

-- where there is one
abbrev IsFine : Allowed → Layer → Type 0
IsFine allowed layer = is_some layer.header ≡ true → IsTaken allowed layer

-- slices keep the header

end_keeps : (ended : Bool) (slices : ℕ) (layer : Layer) → (chunk_end ended slices layer).layer.header ≡ layer.header
end_keeps true slices layer = refl
end_keeps false slices layer = refl

after_keeps : (answer : SliceStep) (layer : Layer) (place : Option Interval) (rest : Layer → Option Interval → LayerReading)
    → (rest layer place).layer.header ≡ layer.header → (after_slice answer layer place rest).layer.header ≡ layer.header
after_keeps step.SliceEnd layer place rest goes = goes
after_keeps step.NeedBytes layer place rest goes = refl
after_keeps step.Exhausted layer place rest goes = refl

tasks_keep : (from : Chunk) (slices : ℕ) (tasks : List Task) (layer : Layer) (place : Option Interval)
    → (read_tasks from slices tasks layer place).layer.header ≡ layer.header
tasks_keep from slices [] layer place = end_keeps from.ended slices layer
tasks_keep from slices (next ∷ later) layer place =
    after_keeps (task_reading from next layer place).answer (layer_after layer next.channel (task_reading from next layer place))
    (task_reading from next layer place).at.place (λ after at. read_tasks from slices later after at)
    (tasks_keep from slices later (layer_after layer next.channel (task_reading from next layer place)) (task_reading from next layer place).at.place)

-- a chunk that is done

module _ (table : List Row) (allowed : Allowed) (ended : Bool) where
  first_taken : (fits : Bool) (header : _) (slices : ℕ) (zp : List ℕ) (layer : Layer)
      → allowed.fits (header_or (Some header)).width (header_or (Some header)).height ≡ fits
      → layer.header ≡ None → (read_opened table ended (cond fits (Opened header slices zp) (Wrong fault.LayerSize)) layer).answer ≡ Done
      → IsTaken allowed (read_opened table ended (cond fits (Opened header slices zp) (Wrong fault.LayerSize)) layer).layer
  first_taken false header slices zp layer f k done = let wrong : Fault fault.LayerSize ≡ Done = done in absurd (cc)
  first_taken true header slices zp layer f k done =
      let keeps = tasks_keep (chunk table zp ended) slices (tasks header slices layer.slices) (with_header layer.header layer header) None in
      subst (λ known. allowed.fits (header_or known).width (header_or known).height ≡ true)
      (sym (keeps ∙ ap (λ known. (with_header known layer header).header) k)) f

  opened_taken : (known : Option _) (opening : Opening) (layer : Layer) → layer.header ≡ known
      → (is_some known ≡ true → allowed.fits (header_or known).width (header_or known).height ≡ true)
      → (read_opened table ended (checked allowed.fits known opening) layer).answer ≡ Done
      → IsTaken allowed (read_opened table ended (checked allowed.fits known opening) layer).layer
  opened_taken None Short layer k fits done = let wrong : Need ≡ Done = done in absurd (cc)
  opened_taken None (Wrong kind) layer k fits done = let wrong : Fault kind ≡ Done = done in absurd (cc)
  opened_taken None (Opened header slices zp) layer k fits done = first_taken (allowed.fits header.width header.height) header slices zp layer refl k done
  opened_taken (Some first) Short layer k fits done = let wrong : Need ≡ Done = done in absurd (cc)
  opened_taken (Some first) (Wrong kind) layer k fits done = let wrong : Fault kind ≡ Done = done in absurd (cc)
  opened_taken (Some first) (Opened header slices zp) layer k fits done =
      let keeps = tasks_keep (chunk table zp ended) slices (tasks header slices layer.slices) (with_header layer.header layer header) None in
      subst (λ known. allowed.fits (header_or known).width (header_or known).height ≡ true)
      (sym (keeps ∙ ap (λ known. (with_header known layer header).header) k ∙ k)) (fits refl)

-- chunks that are done

after_done : (answer : Answer) (layer : Layer) (rest : Layer → LayerReading) → (after_chunk answer layer rest).answer ≡ Done
    → (answer ≡ Done) × (after_chunk answer layer rest ≡ rest layer)
after_done Done layer rest done = (refl, refl)
after_done Need layer rest done = let wrong : Need ≡ Done = done in absurd (cc)
after_done (Fault kind) layer rest done = let wrong : Fault kind ≡ Done = done in absurd (cc)

module _ (table : List Row) (allowed : Allowed) where
  chunk_taken : (given : Data) (layer : Layer) → IsFine allowed layer → (read_chunk table allowed given layer).answer ≡ Done
      → IsTaken allowed (read_chunk table allowed given layer).layer
  chunk_taken given layer fits done =
      opened_taken table allowed given.ended layer.header (open_chunk allowed.area layer.chunks layer.header given.bytes given.ended) layer refl fits done

  chunks_taken : (given : Data) (later : List Data) (layer : Layer) → IsFine allowed layer
      → (read_chunks table allowed (given ∷ later) layer).answer ≡ Done → IsTaken allowed (read_chunks table allowed (given ∷ later) layer).layer
  chunks_taken given [] layer fits done =
      let first = read_chunk table allowed given layer in
      let on = after_done first.answer first.layer (λ after. read_chunks table allowed [] after) done in
      subst (λ (r : LayerReading). IsTaken allowed r.layer) (sym on.1) (chunk_taken given layer fits on.0)
  chunks_taken given (next ∷ later) layer fits done =
      let first = read_chunk table allowed given layer in
      let on = after_done first.answer first.layer (λ after. read_chunks table allowed (next ∷ later) after) done in
      subst (λ (r : LayerReading). IsTaken allowed r.layer) (sym on.1)
      (chunks_taken next later first.layer (λ some. chunk_taken given layer fits on.0) (subst (λ (r : LayerReading). r.answer ≡ Done) on.1 done))

  -- a layer, with its last chunk
  pub layer_taken : (chunks : List Data) (given : Data) → (read_layer table allowed (chunks ++ given ∷ [])).answer ≡ Done
      → IsTaken allowed (read_layer table allowed (chunks ++ given ∷ [])).layer
  layer_taken [] given done = chunks_taken given [] new_layer (λ some. absurd (true≢false (sym some))) done
  layer_taken (first ∷ chunks) given done = chunks_taken first (chunks ++ given ∷ []) new_layer (λ some. absurd (true≢false (sym some))) done
