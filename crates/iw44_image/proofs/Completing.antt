-- A chunk of which all data are there.
use Rattle.std.proofs.Common.{◌≡◌, ℕ, zero, suc, ◌+◌, ◌*◌, ◌%◌, Bool, true, false, ◌&&◌, ◌||◌, List, [], ◌∷◌, Option, Some, None, refl, ap, sym, ◌∙◌, nat_lt, nat_le}
use Rattle.std.specs.Prelude.{if◌then◌else◌, ◌==◌, ⊤}
use Rattle.zp_table.specs.declared.rows.Row.{Row}
use Rattle.zp_decoder.specs.declared.decoder.Decision.{Decision}
use Rattle.zp_decoder.specs.declared.decoder.Decision.TheVariants as decision
use Rattle.zp_decoder.specs.Chunk.{Chunk, chunk}
use Rattle.zp_decoder.specs.Decision.{Interval, Form, Outcome, interval_at, split_of, bit_of, outcome_of}
use Rattle.zp_decoder.proofs.Lemmas.{comes, needs, exhausts, moves}
use Rattle.iw44_blocks.specs.Plane.{Plane}
use Rattle.iw44_slices.specs.Slice.{Asked, Course, Ended, Asks, slice_course}
use Rattle.iw44_slices.specs.Reading.{At, standing, form_of, moved, after_decision, outcome_at, read_on}
use Rattle.iw44_slices.specs.declared.steps.SliceStep.{SliceStep}
use Rattle.iw44_slices.specs.declared.steps.SliceStep.TheVariants as step
use Rattle.iw44_image.specs.declared.headers.Header.{Header}
use Rattle.iw44_image.specs.Header.{Opening, Short, Wrong, Opened, checked, sized, plain_header, header_by, after_sizes, read_sizes, read_version}
use Rattle.iw44_image.specs.Header.{read_rest, open_chunk}
use Rattle.iw44_image.specs.Layer.{Allowed, data_of, opening_of, Task, Layer, LayerReading, Need, plane_for, tasks, with_header, layer_after, after_slice}
use Rattle.iw44_image.specs.Layer.{task_reading, read_tasks, read_opened, read_chunk}

-- its decisions need no further bytes, nor do its slices
decided : (rows : List Row) (form : Form) (payload : List ℕ) (place : Option Interval) →
    (outcome_of rows form payload true place).answer ≡ decision.NeedBytes → ⊥
decided rows form payload place e =
    elim (comes rows form payload true place (split_of rows form (interval_at payload place).a) (interval_at payload place)) [
      | needs d is ↦ cc
      | exhausts d x is ↦
          let told : (outcome_of rows form payload true place).answer ≡ decision.Exhausted = ap (λ (o : Outcome). o.answer) is in
          let wrong = sym told ∙ e in cc
      | moves d x is ↦
          let bit : Bool = bit_of form (split_of rows form (interval_at payload place).a) (interval_at payload place) in
          let told : (outcome_of rows form payload true place).answer ≡ decision.Bit bit =
          ap (λ (o : Outcome). o.answer) is in
          let wrong = sym told ∙ e in cc
    ]

read_by : (from : Chunk) (plane : Plane) (asked : Asked) (next : Bool → Course) (at : At) (answer : Decision) → (answer ≡ decision.NeedBytes → ⊥) →
    ((bit : Bool) (later : At) → (read_on from (next bit) later).answer ≡ step.NeedBytes → ⊥) →
    (after_decision answer (outcome_at from asked at) plane asked next at (λ bit later. read_on from (next bit) later)).answer ≡ step.NeedBytes → ⊥
read_by from plane asked next at (decision.Bit bit) none goes e = goes bit (moved asked (outcome_at from asked at) at) e
read_by from plane asked next at decision.NeedBytes none goes e = none refl
read_by from plane asked next at decision.Exhausted none goes e = cc

never_needs : (rows : List Row) (payload : List ℕ) (course : Course) (at : At) → (read_on (chunk rows payload true) course at).answer ≡ step.NeedBytes → ⊥
never_needs rows payload (Ended plane) at e = cc
never_needs rows payload (Asks plane asked next) at e =
    read_by (chunk rows payload true) plane asked next at (outcome_at (chunk rows payload true) asked at).answer
    (decided rows (form_of asked at.states) payload at.place)
    (λ bit later there. never_needs rows payload (next bit) later there) e

slice_by : (answer : SliceStep) (layer : Layer) (place : Option Interval) (rest : Layer → Option Interval → LayerReading) → (answer ≡ step.NeedBytes → ⊥) →
    ((rest layer place).answer ≡ Need → ⊥) → (after_slice answer layer place rest).answer ≡ Need → ⊥
slice_by step.SliceEnd layer place rest none goes e = goes e
slice_by step.NeedBytes layer place rest none goes e = none refl
slice_by step.Exhausted layer place rest none goes e = cc

tasks_answered : (rows : List Row) (payload : List ℕ) (slices : ℕ) (tasks : List Task) (layer : Layer) (place : Option Interval) →
    (read_tasks (chunk rows payload true) slices tasks layer place).answer ≡ Need → ⊥
tasks_answered rows payload slices [] layer place e = cc
tasks_answered rows payload slices (next ∷ later) layer place e =
    slice_by (task_reading (chunk rows payload true) next layer place).answer
    (layer_after layer next.channel (task_reading (chunk rows payload true) next layer place))
    (task_reading (chunk rows payload true) next layer place).at.place (λ after at. read_tasks (chunk rows payload true) slices later after at)
    (never_needs rows payload (slice_course next.slice (plane_for layer.planes next.channel).plane)
    (standing (plane_for layer.planes next.channel).states place layer.decisions))
    (tasks_answered rows payload slices later (layer_after layer next.channel (task_reading (chunk rows payload true) next layer place))
    (task_reading (chunk rows payload true) next layer place).at.place) e

-- its start isn't short
abbrev IsTold : Opening → Type 0
IsTold Short = ⊥
IsTold (Wrong kind) = ⊤
IsTold (Opened header slices zp) = ⊤

either : (test : Bool) (a b : Opening) → IsTold a → IsTold b → IsTold (if test then a else b)
either true a b one other = one
either false a b one other = other

sized_told : (limit slices : ℕ) (header : Header) (zp : List ℕ) → IsTold (sized limit header slices zp)
sized_told limit slices header zp =
    either ((header.width == 0) || (header.height == 0)) _ _ tt (either (nat_lt limit (header.width * header.height)) _ _ tt tt)

sizes_told : (limit slices major minor width height : ℕ) (zp : List ℕ) → IsTold (after_sizes limit slices major minor width height zp true)
sizes_told limit slices major zero width height zp = sized_told limit slices (plain_header major width height) zp
sizes_told limit slices major (suc zero) width height zp = sized_told limit slices (plain_header major width height) zp
sizes_told limit slices major (suc (suc minor)) width height [] = tt
sizes_told limit slices major (suc (suc minor)) width height (last ∷ zp) = sized_told limit slices (header_by major width height last) zp

read_told : (limit slices major minor : ℕ) (bytes : List ℕ) → IsTold (read_sizes limit slices major minor bytes true)
read_told limit slices major minor [] = tt
read_told limit slices major minor (a ∷ []) = tt
read_told limit slices major minor (a ∷ b ∷ []) = tt
read_told limit slices major minor (a ∷ b ∷ c ∷ []) = tt
read_told limit slices major minor (a ∷ b ∷ c ∷ d ∷ later) = sizes_told limit slices major minor (256 * a + b) (256 * c + d) later

version_told : (limit slices : ℕ) (bytes : List ℕ) → IsTold (read_version limit slices bytes true)
version_told limit slices [] = tt
version_told limit slices (major ∷ []) = tt
version_told limit slices (major ∷ minor ∷ later) =
    either ((major % 128 == 1) && nat_le minor 2) _ _ (read_told limit slices major minor later) tt

rest_told : (limit : ℕ) (known : Option Header) (slices : ℕ) (bytes : List ℕ) → IsTold (read_rest limit known slices bytes true)
rest_told limit None slices bytes = version_told limit slices bytes
rest_told limit (Some header) slices bytes = tt

open_told : (limit number : ℕ) (known : Option Header) (bytes : List ℕ) → IsTold (open_chunk limit number known bytes true)
open_told limit number known [] = tt
open_told limit number known (serial ∷ []) = tt
open_told limit number known (serial ∷ slices ∷ later) = either (serial == number) _ _ (rest_told limit known slices later) tt

checked_told : (fits : ℕ → ℕ → Bool) (known : Option Header) (it : Opening) → IsTold it → IsTold (checked fits known it)
checked_told fits (Some header) it told = told
checked_told fits None Short told = told
checked_told fits None (Wrong kind) told = tt
checked_told fits None (Opened header slices zp) told = either (fits header.width header.height) _ _ tt tt

opened_answered : (table : List Row) (it : Opening) (layer : Layer) → IsTold it → (read_opened table true it layer).answer ≡ Need → ⊥
opened_answered table Short layer told e = told
opened_answered table (Wrong kind) layer told e = cc
opened_answered table (Opened header slices zp) layer told e =
    tasks_answered table zp slices (tasks header slices layer.slices) (with_header layer.header layer header) None e

pub chunk_answered : (table : List Row) (allowed : Allowed) (bytes : List ℕ) (layer : Layer) →
    (read_chunk table allowed (data_of bytes true) layer).answer ≡ Need → ⊥
chunk_answered table allowed bytes layer e =
    opened_answered table (opening_of allowed (data_of bytes true) layer) layer
    (checked_told allowed.fits layer.header (open_chunk allowed.area layer.chunks layer.header bytes true)
    (open_told allowed.area layer.chunks layer.header bytes)) e
