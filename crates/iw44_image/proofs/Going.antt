-- How the reading of a chunk goes on, whatever bytes may follow.
use Rattle.std.proofs.Common.{◌≡◌, ℕ, Bool, true, false, List, [], ◌++◌, Option}
use Rattle.std.proofs.Common.{refl, ap, sym, ◌∙◌, subst}
use Rattle.std.proofs.lemmas.List.{append-nil}
use Rattle.djvu_base.specs.declared.faults.FaultKind.TheVariants as fault
use Rattle.zp_table.specs.declared.rows.Row.{Row}
use Rattle.zp_decoder.specs.declared.decoder.Decision.{Decision}
use Rattle.zp_decoder.specs.declared.decoder.Decision.TheVariants as decision
use Rattle.zp_decoder.specs.Chunk.{Chunk, chunk, IsReady}
use Rattle.zp_decoder.specs.Decision.{Interval}
use Rattle.iw44_blocks.specs.Plane.{Plane}
use Rattle.iw44_slices.specs.Slice.{Course, Ended, Asks, Asked}
use Rattle.iw44_slices.specs.Reading.{Reading, At, standing, after_decision, outcome_at, moved, read_on}
use Rattle.iw44_slices.specs.declared.steps.SliceStep.{SliceStep}
use Rattle.iw44_slices.specs.declared.steps.SliceStep.TheVariants as step
use Rattle.iw44_slices.proofs.Lemmas.{cut_anywhere, whole_stays}
use Rattle.iw44_image.specs.declared.planes.Channel.{Channel}
use Rattle.iw44_image.specs.declared.planes.Channel.TheVariants.{Y, B, R}
use Rattle.iw44_image.specs.Layer.{Task, Layer, LayerReading, Need, Fault, ends, plane_for, layer_after, course_reading, after_slice, read_tasks}
use Rattle.iw44_image.specs.Offering.{Fits}
use Rattle.iw44_image.specs.Image.{read_from}

-- what was left is read again from where the reading stood, and gives the same
again_by : (from : Chunk) (plane : Plane) (asked : Asked) (next : Bool → Course) (at : At) (answer : Decision) → (outcome_at from asked at).answer ≡ answer →
    ((bit : Bool) (later : At) → read_on from (read_on from (next bit) later).left (read_on from (next bit) later).at ≡ read_on from (next bit) later) →
    (let it : Reading = after_decision answer (outcome_at from asked at) plane asked next at
    (λ bit later. read_on from (next bit) later) in read_on from it.left it.at ≡ it)
again_by from plane asked next at (decision.Bit bit) e rec = rec bit (moved asked (outcome_at from asked at) at)
again_by from plane asked next at decision.NeedBytes e rec = ap (λ (d : Decision). after_decision d (outcome_at from asked at) plane asked next at
    (λ bit later. read_on from (next bit) later)) e
again_by from plane asked next at decision.Exhausted e rec = ap (λ (d : Decision). after_decision d (outcome_at from asked at) plane asked next at
    (λ bit later. read_on from (next bit) later)) e

pub again : (from : Chunk) (course : Course) (at : At) → read_on from (read_on from course at).left (read_on from course at).at ≡ read_on from course at
again from (Ended plane) at = refl
again from (Asks plane asked next) at = again_by from plane asked next at (outcome_at from asked at).answer refl (λ bit later. again from (next bit) later)

-- a chunk of which all was taken, as one with nothing behind it
same_chunk : (rows : List Row) (taken more : List ℕ) (ended : Bool) → more ≡ [] → ended ≡ true → chunk rows (taken ++ more) ended ≡ chunk rows taken true
same_chunk rows taken more ended none all =
    ap (λ (m : List ℕ). chunk rows (taken ++ m) ended) none ∙ ap (λ (p : List ℕ). chunk rows p ended) (append-nil taken) ∙ ap
    (λ (b : Bool). chunk rows taken b) all

-- a slice that was read whole, with what may follow
pub whole_fits : (rows : List Row) (taken more : List ℕ) (told ended : Bool) (course : Course) (at : At) → IsReady
    (chunk rows taken told) at.states at.place → Fits told more ended →
    (read_on (chunk rows taken told) course at).answer ≡ step.SliceEnd → read_on (chunk rows (taken ++ more) ended) course at ≡ read_on
    (chunk rows taken told) course at
whole_fits rows taken more true ended course at ready fits all = let f = fits refl in ap (λ (c : Chunk). read_on c course at)
    (same_chunk rows taken more ended f.0 f.1)
whole_fits rows taken more false ended course at ready fits all = whole_stays rows taken more ended course at ready all

-- what is left of one, with what may follow
pub left_fits : (rows : List Row) (taken more : List ℕ) (told ended : Bool) (course : Course) (at : At) → IsReady
    (chunk rows taken told) at.states at.place → Fits told more ended →
    read_on (chunk rows (taken ++ more) ended) (read_on (chunk rows taken told) course at).left (read_on (chunk rows taken told) course at).at
    ≡ read_on (chunk rows (taken ++ more) ended) course at
left_fits rows taken more true ended course at ready fits =
    let f = fits refl in
    subst (λ (c : Chunk). read_on c (read_on (chunk rows taken true) course at).left (read_on (chunk rows taken true) course at).at ≡ read_on c course at)
    (sym (same_chunk rows taken more ended f.0 f.1)) (again (chunk rows taken true) course at)
left_fits rows taken more false ended course at ready fits = cut_anywhere rows taken more ended course at ready

-- a layer after what was read of a slice, which is read on
at_after : (channel : Channel) (layer : Layer) (reading : Reading) →
    standing (plane_for (layer_after layer channel reading).planes channel).states reading.at.place (layer_after layer channel reading).decisions ≡ reading.at
at_after Y layer reading = refl
at_after B layer reading = refl
at_after R layer reading = refl

after_twice : (channel : Channel) (layer : Layer) (first second : Reading) → layer_after
    (layer_after layer channel first) channel second ≡ layer_after layer channel second
after_twice Y layer first second = refl
after_twice B layer first second = refl
after_twice R layer first second = refl

-- the reading from a slice on, by the reading of that slice
abbrev by_reading : Chunk → ℕ → Channel → List Task → Layer → Reading → LayerReading
by_reading from slices channel later layer reading = after_slice reading.answer (layer_after layer channel reading) reading.at.place
    (λ after at. read_tasks from slices later after at)

pub goes_past : (rows : List Row) (taken more : List ℕ) (told ended : Bool) (slices : ℕ) (channel : Channel) (course : Course) (later : List Task)
    (layer : Layer) (place : Option Interval) (reading : Reading) →
    reading ≡ course_reading (chunk rows taken told) channel course layer place → IsReady (chunk rows taken told)
    (plane_for layer.planes channel).states place → Fits told more ended → reading.answer ≡ step.SliceEnd →
    read_from (chunk rows (taken ++ more) ended) slices channel course later layer place ≡ read_tasks (chunk rows (taken ++ more) ended) slices later
    (layer_after layer channel reading) reading.at.place
goes_past rows taken more told ended slices channel course later layer place reading is ready fits all =
    let long : Chunk = chunk rows (taken ++ more) ended in
    let at : At = standing (plane_for layer.planes channel).states place layer.decisions in
    let same : course_reading long channel course layer place ≡ reading =
    whole_fits rows taken more told ended course at ready fits (sym (ap (λ (r : Reading). r.answer) is) ∙ all) ∙ sym is in
    ap (λ (r : Reading). by_reading long slices channel later layer r) same
    ∙ ap (λ (a : SliceStep). after_slice a (layer_after layer channel reading) reading.at.place (λ after there. read_tasks long slices later after there)) all

pub goes_left : (rows : List Row) (taken more : List ℕ) (told ended : Bool) (slices : ℕ) (channel : Channel) (course : Course) (later : List Task)
    (layer : Layer) (place : Option Interval) (reading : Reading) →
    reading ≡ course_reading (chunk rows taken told) channel course layer place → IsReady (chunk rows taken told)
    (plane_for layer.planes channel).states place → Fits told more ended →
    read_from (chunk rows (taken ++ more) ended) slices channel course later layer place
    ≡ read_from (chunk rows (taken ++ more) ended) slices channel reading.left later (layer_after layer channel reading) reading.at.place
goes_left rows taken more told ended slices channel course later layer place reading is ready fits =
    let long : Chunk = chunk rows (taken ++ more) ended in
    let at : At = standing (plane_for layer.planes channel).states place layer.decisions in
    let after : Layer = layer_after layer channel reading in
    let whole : Reading = course_reading long channel course layer place in
    let rest : Reading = course_reading long channel reading.left after reading.at.place in
    let same : rest ≡ whole =
    ap (λ (a : At). read_on long reading.left a) (at_after channel layer reading)
    ∙ subst (λ (r : Reading). read_on long r.left r.at ≡ read_on long course at) (sym is) (left_fits rows taken more told ended course at ready fits) in
    let layers : by_reading long slices channel later after rest ≡ by_reading long slices channel later layer rest =
    ap (λ (l : Layer). after_slice rest.answer l rest.at.place (λ there then. read_tasks long slices later there then))
    (after_twice channel layer reading rest) in
    sym (layers ∙ ap (λ (r : Reading). by_reading long slices channel later layer r) same)

-- where the bytes end, so does the reading
pub goes_need : (from : Chunk) (slices : ℕ) (channel : Channel) (course : Course) (later : List Task) (layer : Layer) (place : Option Interval)
    (reading : Reading) →
    reading ≡ course_reading from channel course layer place → reading.answer ≡ step.NeedBytes →
    read_from from slices channel course later layer place ≡ ends Need (layer_after layer channel reading)
goes_need from slices channel course later layer place reading is all =
    ap (λ (r : Reading). by_reading from slices channel later layer r) (sym is)
    ∙ ap (λ (a : SliceStep). after_slice a (layer_after layer channel reading) reading.at.place (λ after there. read_tasks from slices later after there)) all

pub goes_exhausted : (from : Chunk) (slices : ℕ) (channel : Channel) (course : Course) (later : List Task) (layer : Layer) (place : Option Interval)
    (reading : Reading) →
    reading ≡ course_reading from channel course layer place → reading.answer ≡ step.Exhausted →
    read_from from slices channel course later layer place ≡ ends (Fault fault.ZpExhausted) (layer_after layer channel reading)
goes_exhausted from slices channel course later layer place reading is all =
    ap (λ (r : Reading). by_reading from slices channel later layer r) (sym is)
    ∙ ap (λ (a : SliceStep). after_slice a (layer_after layer channel reading) reading.at.place (λ after there. read_tasks from slices later after there)) all
