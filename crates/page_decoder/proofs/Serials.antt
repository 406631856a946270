-- A chunk of a layer that is done begins with its number, and is counted.
use Rattle.std.proofs.Common.{◌≡◌, ℕ, ◌+◌, Bool, true, false, cond, eqb, Option, Some, None, List, [], ◌∷◌, refl, ap, ◌∙◌}
use Rattle.std.proofs.lemmas.Bool.{eqb-true}
use Rattle.djvu_base.specs.declared.faults.FaultKind.TheVariants as fault
use Rattle.zp_table.specs.declared.rows.Row.{Row}
use Rattle.zp_decoder.specs.Chunk.{Chunk, chunk}
use Rattle.zp_decoder.specs.Decision.{Interval}
use Rattle.iw44_slices.specs.declared.steps.SliceStep.{SliceStep}
use Rattle.iw44_slices.specs.declared.steps.SliceStep.TheVariants as step
use Rattle.iw44_image.specs.Header.{Opening, Short, Wrong, Opened, missing, read_rest, open_chunk, checked}
use Rattle.iw44_image.specs.Layer.{Data, Layer, LayerReading, Done, Need, Fault, Task, Allowed, tasks, layer_after, after_slice, task_reading, chunk_end, read_tasks, with_header, read_opened, opening_of, read_chunk}

abbrev IsOpened : Opening → Type 0
IsOpened Short = ⊥
IsOpened (Wrong kind) = ⊥
IsOpened (Opened header slices zp) = Unit {0}

opened_so : (table : List Row) (ended : Bool) (opening : Opening) (layer : Layer) → (read_opened table ended opening layer).answer ≡ Done → IsOpened opening
opened_so table ended Short layer e = let wrong : Need ≡ Done = e in cc
opened_so table ended (Wrong kind) layer e = let wrong : Fault kind ≡ Done = e in cc
opened_so table ended (Opened header slices zp) layer e = tt

checked_so : (fits : ℕ → ℕ → Bool) (known : Option _) (opening : Opening) → IsOpened (checked fits known opening) → IsOpened opening
checked_so fits (Some header) opening is = is
checked_so fits None Short is = is
checked_so fits None (Wrong kind) is = is
checked_so fits None (Opened header slices zp) is = tt

missing_so : (ended : Bool) → IsOpened (missing ended) → ⊥
missing_so true is = is
missing_so false is = is

number_so : (limit number : ℕ) (known : Option _) (bytes : List ℕ) (ended : Bool) → IsOpened (open_chunk limit number known bytes ended)
    → (rest : List ℕ) × (bytes ≡ number ∷ rest)
number_so limit number known [] ended is = absurd (missing_so ended is)
number_so limit number known (serial ∷ []) ended is = absurd (missing_so ended is)
number_so limit number known (serial ∷ slices ∷ later) ended is = by (eqb serial number) refl is
  where
    by : (t : Bool) → eqb serial number ≡ t → IsOpened (cond t (read_rest limit known slices later ended) (Wrong fault.IwSerial))
        → (rest : List ℕ) × (serial ∷ slices ∷ later ≡ number ∷ rest)
    by true s is = (slices ∷ later, ap (λ n. n ∷ slices ∷ later) (eqb-true serial number s))
    by false s is = absurd is

pub begins_so : (table : List Row) (allowed : Allowed) (given : Data) (layer : Layer) → (read_chunk table allowed given layer).answer ≡ Done
    → (rest : List ℕ) × (given.bytes ≡ layer.chunks ∷ rest)
begins_so table allowed given layer e =
    number_so allowed.area layer.chunks layer.header given.bytes given.ended
    (checked_so allowed.fits layer.header (open_chunk allowed.area layer.chunks layer.header given.bytes given.ended)
    (opened_so table given.ended (opening_of allowed given layer) layer e))

-- the count

end_counts : (ended : Bool) (slices : ℕ) (layer : Layer) → (chunk_end ended slices layer).answer ≡ Done
    → (chunk_end ended slices layer).layer.chunks ≡ layer.chunks + 1
end_counts true slices layer e = refl
end_counts false slices layer e = let wrong : Need ≡ Done = e in absurd (cc)

after_counts : (answer : SliceStep) (layer : Layer) (place : Option Interval) (n : ℕ) (rest : Layer → Option Interval → LayerReading)
    → ((rest layer place).answer ≡ Done → (rest layer place).layer.chunks ≡ n) → (after_slice answer layer place rest).answer ≡ Done
    → (after_slice answer layer place rest).layer.chunks ≡ n
after_counts step.SliceEnd layer place n rest goes e = goes e
after_counts step.NeedBytes layer place n rest goes e = let wrong : Need ≡ Done = e in absurd (cc)
after_counts step.Exhausted layer place n rest goes e = let wrong : Fault fault.ZpExhausted ≡ Done = e in absurd (cc)

tasks_count : (from : Chunk) (slices : ℕ) (tasks : List Task) (layer : Layer) (place : Option Interval)
    → (read_tasks from slices tasks layer place).answer ≡ Done
    → (read_tasks from slices tasks layer place).layer.chunks ≡ layer.chunks + 1
tasks_count from slices [] layer place e = end_counts from.ended slices layer e
tasks_count from slices (next ∷ later) layer place e =
    after_counts (task_reading from next layer place).answer (layer_after layer next.channel (task_reading from next layer place))
    (task_reading from next layer place).at.place (layer.chunks + 1) (λ after at. read_tasks from slices later after at)
    (tasks_count from slices later (layer_after layer next.channel (task_reading from next layer place)) (task_reading from next layer place).at.place) e

header_keeps : (known : Option _) (layer : Layer) (header : _) → (with_header known layer header).chunks ≡ layer.chunks
header_keeps None layer header = refl
header_keeps (Some first) layer header = refl

opened_counts : (table : List Row) (ended : Bool) (opening : Opening) (layer : Layer) → (read_opened table ended opening layer).answer ≡ Done
    → (read_opened table ended opening layer).layer.chunks ≡ layer.chunks + 1
opened_counts table ended Short layer e = let wrong : Need ≡ Done = e in absurd (cc)
opened_counts table ended (Wrong kind) layer e = let wrong : Fault kind ≡ Done = e in absurd (cc)
opened_counts table ended (Opened header slices zp) layer e =
    tasks_count (chunk table zp ended) slices (tasks header slices layer.slices) (with_header layer.header layer header) None e
    ∙ ap (λ n. n + 1) (header_keeps layer.header layer header)

pub counts_so : (table : List Row) (allowed : Allowed) (given : Data) (layer : Layer) → (read_chunk table allowed given layer).answer ≡ Done
    → (read_chunk table allowed given layer).layer.chunks ≡ layer.chunks + 1
counts_so table allowed given layer e = opened_counts table given.ended (opening_of allowed given layer) layer e
