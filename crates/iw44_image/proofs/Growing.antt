-- A chunk of a layer with more bytes.
use Rattle.std.proofs.Common.{◌≡◌, ℕ, zero, suc, ◌+◌, ◌*◌, ◌%◌, ◌<◌, ◌≤◌, ◌||◌, ◌&&◌, Bool, true, false, List, [], ◌∷◌, ◌++◌, length, Option}
use Rattle.std.proofs.Common.{Some, None, refl, ap, sym, ◌∙◌, subst, arith, nat_lt, nat_le}
use Rattle.std.specs.Prelude.{if◌then◌else◌, ◌==◌}
use Rattle.std.proofs.lemmas.List.{length-append}
use Rattle.std.proofs.lemmas.Grind.{common_steps}
use Rattle.djvu_base.specs.declared.faults.FaultKind.{FaultKind}
use Rattle.zp_table.specs.declared.rows.Row.{Row}
use Rattle.zp_table.specs.Rows.{IsTable}
use Rattle.zp_decoder.specs.Chunk.{Chunk, chunk, IsReady}
use Rattle.zp_decoder.specs.Decision.{Interval}
use Rattle.zp_decoder.specs.Runs.{room, IsStanding, is_between}
use Rattle.zp_decoder.specs.States.{AreBelow}
use Rattle.zp_decoder.proofs.Lemmas.{between_facts, between-from_facts}
use Rattle.iw44_slices.specs.Slice.{slice_course}
use Rattle.iw44_slices.specs.Reading.{Reading, standing, read_on}
use Rattle.iw44_slices.specs.declared.steps.SliceStep.{SliceStep}
use Rattle.iw44_slices.specs.declared.steps.SliceStep.TheVariants as step
use Rattle.iw44_slices.proofs.Lemmas.{Leaves, leaves_room, cut_anywhere, whole_stays, never_exhausted}
use Rattle.iw44_image.specs.declared.headers.Header.{Header}
use Rattle.iw44_image.specs.Header.{Opening, Short, Wrong, Opened, checked, sized, plain_header, header_by, after_sizes, read_sizes, read_version}
use Rattle.iw44_image.specs.Header.{read_rest, open_chunk}
use Rattle.iw44_image.specs.declared.planes.Channel.{Channel}
use Rattle.iw44_image.specs.declared.planes.Channel.TheVariants.{Y, B, R}
use Rattle.iw44_image.specs.Layer.{Allowed, Data, data_of, opening_of, Task, Layer, LayerReading, Done, Need, Fault, plane_for, tasks}
use Rattle.iw44_image.specs.Layer.{with_header, layer_after, after_slice, task_reading, chunk_end, read_tasks, read_opened, read_chunk}
use Rattle.iw44_image.specs.Growth.{OpenGrows, AreRows}

either : (more : List ℕ) (test : Bool) (a b c d : Opening) → OpenGrows more a c → OpenGrows more b d → OpenGrows more (if test then a else b)
    (if test then c else d)
either more true a b c d h k = h
either more false a b c d h k = k

sized_grows : (limit slices : ℕ) (header : Header) (zp more : List ℕ) → OpenGrows more (sized limit header slices zp) (sized limit header slices (zp ++ more))
sized_grows limit slices header zp more =
    either more ((header.width == 0) || (header.height == 0)) _ _ _ _ refl (either more (nat_lt limit (header.width * header.height)) _ _ _ _ refl refl)

sizes_grow : (limit slices major minor width height : ℕ) (zp more : List ℕ) (ended : Bool) →
    OpenGrows more (after_sizes limit slices major minor width height zp false) (after_sizes limit slices major minor width height (zp ++ more) ended)
sizes_grow limit slices major zero width height zp more ended = sized_grows limit slices (plain_header major width height) zp more
sizes_grow limit slices major (suc zero) width height zp more ended = sized_grows limit slices (plain_header major width height) zp more
sizes_grow limit slices major (suc (suc minor)) width height [] more ended = tt
sizes_grow limit slices major (suc (suc minor)) width height (last ∷ zp) more ended = sized_grows limit slices (header_by major width height last) zp more

read_grows : (limit slices major minor : ℕ) (bytes more : List ℕ) (ended : Bool) → OpenGrows more (read_sizes limit slices major minor bytes false)
    (read_sizes limit slices major minor (bytes ++ more) ended)
read_grows limit slices major minor [] more ended = tt
read_grows limit slices major minor (a ∷ []) more ended = tt
read_grows limit slices major minor (a ∷ b ∷ []) more ended = tt
read_grows limit slices major minor (a ∷ b ∷ c ∷ []) more ended = tt
read_grows limit slices major minor (a ∷ b ∷ c ∷ d ∷ later) more ended = sizes_grow limit slices major minor (256 * a + b) (256 * c + d) later more ended

version_grows : (limit slices : ℕ) (bytes more : List ℕ) (ended : Bool) → OpenGrows more (read_version limit slices bytes false)
    (read_version limit slices (bytes ++ more) ended)
version_grows limit slices [] more ended = tt
version_grows limit slices (major ∷ []) more ended = tt
version_grows limit slices (major ∷ minor ∷ later) more ended =
    either more ((major % 128 == 1) && nat_le minor 2) _ _ _ _ (read_grows limit slices major minor later more ended) refl

rest_grows : (limit : ℕ) (known : Option Header) (slices : ℕ) (bytes more : List ℕ) (ended : Bool) → OpenGrows more
    (read_rest limit known slices bytes false) (read_rest limit known slices (bytes ++ more) ended)
rest_grows limit None slices bytes more ended = version_grows limit slices bytes more ended
rest_grows limit (Some header) slices bytes more ended = refl

pub open_grows : (limit number : ℕ) (known : Option Header) (bytes more : List ℕ) (ended : Bool) → OpenGrows more
    (open_chunk limit number known bytes false) (open_chunk limit number known (bytes ++ more) ended)
open_grows limit number known [] more ended = tt
open_grows limit number known (serial ∷ []) more ended = tt
open_grows limit number known (serial ∷ slices ∷ later) more ended = either more (serial == number) _ _ _ _
    (rest_grows limit known slices later more ended) refl

checked_grows : (fits : ℕ → ℕ → Bool) (known : Option Header) (more : List ℕ) (short long : Opening) → OpenGrows more short long → OpenGrows more
    (checked fits known short) (checked fits known long)
checked_grows fits (Some header) more it grown grows = grows
checked_grows fits None more Short long grows = tt
checked_grows fits None more (Wrong kind) long grows = ap (checked fits None) grows
checked_grows fits None more (Opened header slices zp) long grows =
    subst (λ (o : Opening). OpenGrows more (checked fits None (Opened header slices zp)) (checked fits None o)) (sym grows)
    (either more (fits header.width header.height) _ _ _ _ refl refl)

openings_grow : (allowed : Allowed) (bytes more : List ℕ) (ended : Bool) (layer : Layer) → OpenGrows more
    (opening_of allowed (data_of bytes false) layer) (opening_of allowed (data_of (bytes ++ more) ended) layer)
openings_grow allowed bytes more ended layer =
    checked_grows allowed.fits layer.header more _ _ (open_grows allowed.area layer.chunks layer.header bytes more ended)

-- reading on from a layer

-- decisions can be read from here on, of each plane
record CanRead (from : Chunk) (layer : Layer) (place : Option Interval) : Type 0 where
  table : IsTable from.table
  rows : AreRows from.table layer
  standing : IsStanding (length from.payload) place

rows_of : (table : List Row) (layer : Layer) (channel : Channel) → AreRows table layer → AreBelow (length table) (plane_for layer.planes channel).states
rows_of table layer Y rows = rows.0
rows_of table layer B rows = rows.1.0
rows_of table layer R rows = rows.1.1

rows_after : (table : List Row) (layer : Layer) (channel : Channel) (reading : Reading) → AreRows table layer → AreBelow
    (length table) reading.at.states → AreRows table (layer_after layer channel reading)
rows_after table layer Y reading rows now = (now, (rows.1.0, rows.1.1))
rows_after table layer B reading rows now = (rows.0, (now, rows.1.1))
rows_after table layer R reading rows now = (rows.0, (rows.1.0, now))

ready_of : (from : Chunk) (layer : Layer) (place : Option Interval) (channel : Channel) → CanRead from layer place → IsReady from
    (plane_for layer.planes channel).states place
ready_of from layer place channel can = record { table = can.table; below = rows_of from.table layer channel can.rows; standing = can.standing }

leaves : (from : Chunk) (next : Task) (layer : Layer) (place : Option Interval) → CanRead from layer place →
    Leaves from (standing (plane_for layer.planes next.channel).states place layer.decisions) (task_reading from next layer place)
leaves from next layer place can =
    leaves_room from (slice_course next.slice (plane_for layer.planes next.channel).plane)
    (standing (plane_for layer.planes next.channel).states place layer.decisions)
    (ready_of from layer place next.channel can)

can_after : (from : Chunk) (next : Task) (layer : Layer) (place : Option Interval) → CanRead from layer place →
    CanRead from (layer_after layer next.channel (task_reading from next layer place)) (task_reading from next layer place).at.place
can_after from next layer place can =
    let ready = (leaves from next layer place can).ready in
    record {
      table = can.table;
      rows = rows_after from.table layer next.channel
          (task_reading from next layer place) can.rows ready.below;
      standing = ready.standing;
    }

-- decisions are never taken back
end_counts : (ended : Bool) (slices : ℕ) (layer : Layer) → (chunk_end ended slices layer).layer.decisions ≡ layer.decisions
end_counts true slices layer = refl
end_counts false slices layer = refl

after_counts : (answer : SliceStep) (layer : Layer) (place : Option Interval) (n : ℕ) (rest : Layer → Option Interval → LayerReading) → n ≤ layer.decisions →
    (n ≤ layer.decisions → n ≤ (rest layer place).layer.decisions) → n ≤ (after_slice answer layer place rest).layer.decisions
after_counts step.SliceEnd layer place n rest low goes = goes low
after_counts step.NeedBytes layer place n rest low goes = low
after_counts step.Exhausted layer place n rest low goes = low

tasks_count : (from : Chunk) (slices : ℕ) (tasks : List Task) (layer : Layer) (place : Option Interval) (n : ℕ) → CanRead from layer place →
    n ≤ layer.decisions →
    n ≤ (read_tasks from slices tasks layer place).layer.decisions
tasks_count from slices [] layer place n can low = let e = end_counts from.ended slices layer in omega arith
tasks_count from slices (next ∷ later) layer place n can low =
    let more = (leaves from next layer place can).more in
    after_counts (task_reading from next layer place).answer (layer_after layer next.channel (task_reading from next layer place))
    (task_reading from next layer place).at.place n
    (λ after at. read_tasks from slices later after at) (omega arith)
    (λ there. tasks_count from slices later (layer_after layer next.channel (task_reading from next layer place))
    (task_reading from next layer place).at.place n (can_after from next layer place can) there)

-- a place in a chunk is one in a longer one
longer_place : (n k : ℕ) (place : Option Interval) → IsStanding n place → IsStanding (n + k) place
longer_place n k None stands = stands
longer_place n k (Some at) stands =
    let facts = between_facts n at (grind (arith, common_steps)) in
    let more = facts.bits in
    let there : is_between (n + k) at ≡ true = between-from_facts (n + k) at
    (record { low = facts.low; within = facts.within; below = facts.below; bits = omega arith }) in
    grind (arith, common_steps)

longer : (rows : List Row) (payload more : List ℕ) (ended : Bool) (layer : Layer) (place : Option Interval) → CanRead
    (chunk rows payload false) layer place → CanRead (chunk rows (payload ++ more) ended) layer place
longer rows payload more ended layer place can = record {
  table = can.table;
  rows = can.rows;
  standing = subst (λ (n : ℕ). IsStanding n place) (sym (length-append payload more)) (longer_place (length payload) (length more) place can.standing);
}

-- a slice that was cut has read no more than with more bytes
cut_counts : (rows : List Row) (payload more : List ℕ) (ended : Bool) (next : Task) (layer : Layer) (place : Option Interval) → CanRead
    (chunk rows payload false) layer place →
    (task_reading (chunk rows payload false) next layer place).at.decisions ≤ (task_reading (chunk rows (payload ++ more) ended) next layer place).at.decisions
cut_counts rows payload more ended next layer place can =
    let short = chunk rows payload false in
    let long = chunk rows (payload ++ more) ended in
    let course = slice_course next.slice (plane_for layer.planes next.channel).plane in
    let from = standing (plane_for layer.planes next.channel).states place layer.decisions in
    let ready = (leaves short next layer place can).ready in
    let there = longer rows payload more ended (layer_after layer next.channel (task_reading short next layer place))
    (task_reading short next layer place).at.place (can_after short next layer place can) in
    let rest = (leaves_room long (read_on short course from).left (read_on short course from).at
    (record { table = ready.table; below = ready.below; standing = there.standing })).more in
    subst (λ (r : Reading). (read_on short course from).at.decisions ≤ r.at.decisions)
    (cut_anywhere rows payload more ended course from (ready_of short layer place next.channel can)) rest

-- what a chunk has read is no more than with more bytes
abbrev TasksGrow : List Row → List ℕ → List ℕ → Bool → ℕ → List Task → Layer → Option Interval → Type 0
TasksGrow rows payload more ended slices tasks layer place =
    (read_tasks (chunk rows payload false) slices tasks layer place).layer.decisions ≤
    (read_tasks (chunk rows (payload ++ more) ended) slices tasks layer place).layer.decisions

stopped : (rows : List Row) (payload more : List ℕ) (ended : Bool) (slices : ℕ) (next : Task) (later : List Task) (layer : Layer)
    (place : Option Interval) → CanRead (chunk rows payload false) layer place →
    (task_reading (chunk rows payload false) next layer place).at.decisions ≤
    (read_tasks (chunk rows (payload ++ more) ended) slices (next ∷ later) layer place).layer.decisions
stopped rows payload more ended slices next later layer place can =
    let long = chunk rows (payload ++ more) ended in
    let there = longer rows payload more ended layer place can in
    after_counts (task_reading long next layer place).answer (layer_after layer next.channel (task_reading long next layer place))
    (task_reading long next layer place).at.place
    (task_reading (chunk rows payload false) next layer place).at.decisions
    (λ after at. read_tasks long slices later after at) (cut_counts rows payload more ended next layer place can)
    (λ low. tasks_count long slices later (layer_after layer next.channel (task_reading long next layer place)) (task_reading long next layer place).at.place
    (task_reading (chunk rows payload false) next layer place).at.decisions (can_after long next layer place there) low)

grow_by : (rows : List Row) (payload more : List ℕ) (ended : Bool) (slices : ℕ) (next : Task) (later : List Task) (layer : Layer)
    (place : Option Interval) (answer : SliceStep) →
    CanRead (chunk rows payload false) layer place → (task_reading (chunk rows payload false) next layer place).answer ≡ answer →
    TasksGrow rows payload more ended slices later (layer_after layer next.channel (task_reading (chunk rows payload false) next layer place))
    (task_reading (chunk rows payload false) next layer place).at.place →
    (after_slice answer (layer_after layer next.channel (task_reading (chunk rows payload false) next layer place))
    (task_reading (chunk rows payload false) next layer place).at.place
    (λ after at. read_tasks (chunk rows payload false) slices later after at)).layer.decisions
    ≤ (read_tasks (chunk rows (payload ++ more) ended) slices (next ∷ later) layer place).layer.decisions
grow_by rows payload more ended slices next later layer place step.SliceEnd can e goes =
    let short = chunk rows payload false in
    let long = chunk rows (payload ++ more) ended in
    let same = whole_stays rows payload more ended (slice_course next.slice (plane_for layer.planes next.channel).plane)
    (standing (plane_for layer.planes next.channel).states place layer.decisions) (ready_of short layer place next.channel can) e in
    let at_end : (task_reading long next layer place).answer ≡ step.SliceEnd = ap (λ (r : Reading). r.answer) same ∙ e in
    let all : read_tasks long slices (next ∷ later) layer place
    ≡ read_tasks long slices later (layer_after layer next.channel (task_reading short next layer place)) (task_reading short next layer place).at.place =
    ap (λ (r : Reading). after_slice r.answer (layer_after layer next.channel r) r.at.place (λ after at. read_tasks long slices later after at)) same
    ∙ ap (λ (a : SliceStep). after_slice a (layer_after layer next.channel (task_reading short next layer place))
    (task_reading short next layer place).at.place
    (λ after at. read_tasks long slices later after at)) e in
    subst (λ (r : LayerReading). (read_tasks short slices later (layer_after layer next.channel (task_reading short next layer place))
    (task_reading short next layer place).at.place).layer.decisions
    ≤ r.layer.decisions) (sym all) goes
grow_by rows payload more ended slices next later layer place step.NeedBytes can e goes = stopped rows payload more ended slices next later layer place can
grow_by rows payload more ended slices next later layer place step.Exhausted can e goes = stopped rows payload more ended slices next later layer place can

tasks_grow : (rows : List Row) (payload more : List ℕ) (ended : Bool) (slices : ℕ) (tasks : List Task) (layer : Layer) (place : Option Interval) →
    CanRead (chunk rows payload false) layer place →
    TasksGrow rows payload more ended slices tasks layer place
tasks_grow rows payload more ended slices [] layer place can = let e = end_counts ended slices layer in omega arith
tasks_grow rows payload more ended slices (next ∷ later) layer place can =
    grow_by rows payload more ended slices next later layer place (task_reading (chunk rows payload false) next layer place).answer can refl
    (tasks_grow rows payload more ended slices later (layer_after layer next.channel (task_reading (chunk rows payload false) next layer place))
    (task_reading (chunk rows payload false) next layer place).at.place (can_after (chunk rows payload false) next layer place can))

-- a chunk whose data haven't all come needs more of them, or its header is refused
needs_by : (rows : List Row) (payload : List ℕ) (next : Task) (layer : Layer) (place : Option Interval) (answer : SliceStep)
    (rest : Layer → Option Interval → LayerReading) →
    (task_reading (chunk rows payload false) next layer place).answer ≡ answer → ((after : Layer) (at : Option Interval) → (rest after at).answer ≡ Need) →
    (after_slice answer (layer_after layer next.channel (task_reading (chunk rows payload false) next layer place))
    (task_reading (chunk rows payload false) next layer place).at.place rest).answer ≡ Need
needs_by rows payload next layer place step.SliceEnd rest e goes = goes _ _
needs_by rows payload next layer place step.NeedBytes rest e goes = refl
needs_by rows payload next layer place step.Exhausted rest e goes =
    absurd (never_exhausted rows payload (slice_course next.slice (plane_for layer.planes next.channel).plane)
    (standing (plane_for layer.planes next.channel).states place layer.decisions) e)

tasks_need : (rows : List Row) (payload : List ℕ) (slices : ℕ) (tasks : List Task) (layer : Layer) (place : Option Interval) →
    (read_tasks (chunk rows payload false) slices tasks layer place).answer ≡ Need
tasks_need rows payload slices [] layer place = refl
tasks_need rows payload slices (next ∷ later) layer place =
    needs_by rows payload next layer place (task_reading (chunk rows payload false) next layer place).answer
    (λ after at. read_tasks (chunk rows payload false) slices later after at) refl
    (λ after at. tasks_need rows payload slices later after at)

header_counts : (known : Option Header) (layer : Layer) (header : Header) → (with_header known layer header).decisions ≡ layer.decisions
header_counts None layer header = refl
header_counts (Some first) layer header = refl

pub table_some : (table : List Row) → IsTable table → 0 < length table
table_some table is = grind (arith, common_steps)

header_rows : (known : Option Header) (table : List Row) (layer : Layer) (header : Header) → IsTable table → AreRows table layer → AreRows table
    (with_header known layer header)
header_rows None table layer header is rows = let some = table_some table is in ((λ name. some), ((λ name. some), (λ name. some)))
header_rows (Some first) table layer header is rows = rows

can_begin : (table : List Row) (zp : List ℕ) (ended : Bool) (layer : Layer) (header : Header) → IsTable table → AreRows table layer →
    CanRead (chunk table zp ended) (with_header layer.header layer header) None
can_begin table zp ended layer header is rows = record {
  table = is;
  rows = header_rows layer.header table layer header is rows;
  standing = search
      (common_steps);
}

opened_counts : (table : List Row) (ended : Bool) (it : Opening) (layer : Layer) → IsTable table → AreRows table layer → layer.decisions ≤
    (read_opened table ended it layer).layer.decisions
opened_counts table ended Short layer is rows = omega arith
opened_counts table ended (Wrong kind) layer is rows = omega arith
opened_counts table ended (Opened header slices zp) layer is rows =
    tasks_count (chunk table zp ended) slices (tasks header slices layer.slices) (with_header layer.header layer header) None layer.decisions
    (can_begin table zp ended layer header is rows) (let e = header_counts layer.header layer header in omega arith)

opened_grows : (table : List Row) (more : List ℕ) (ended : Bool) (short long : Opening) (layer : Layer) → IsTable table → AreRows table layer →
    OpenGrows more short long →
    (read_opened table false short layer).layer.decisions ≤ (read_opened table ended long layer).layer.decisions
opened_grows table more ended Short long layer is rows grows = opened_counts table ended long layer is rows
opened_grows table more ended (Wrong kind) long layer is rows grows = opened_counts table ended long layer is rows
opened_grows table more ended (Opened header slices zp) long layer is rows grows =
    subst (λ (o : Opening). (read_tasks (chunk table zp false) slices (tasks header slices layer.slices)
    (with_header layer.header layer header) None).layer.decisions ≤ (read_opened table ended o layer).layer.decisions)
    (sym grows) (tasks_grow table zp more ended slices (tasks header slices layer.slices) (with_header layer.header layer header) None
    (can_begin table zp false layer header is rows))

pub chunk_counts : (table : List Row) (allowed : Allowed) (given : Data) (layer : Layer) → IsTable table → AreRows table layer → layer.decisions ≤
    (read_chunk table allowed given layer).layer.decisions
chunk_counts table allowed given layer is rows = opened_counts table given.ended (opening_of allowed given layer) layer is rows

-- the states stay rows of the table
end_rows : (table : List Row) (ended : Bool) (slices : ℕ) (layer : Layer) → AreRows table layer → AreRows table (chunk_end ended slices layer).layer
end_rows table true slices layer rows = rows
end_rows table false slices layer rows = rows

after_rows : (table : List Row) (answer : SliceStep) (layer : Layer) (place : Option Interval) (rest : Layer → Option Interval → LayerReading) →
    AreRows table layer →
    AreRows table (rest layer place).layer → AreRows table (after_slice answer layer place rest).layer
after_rows table step.SliceEnd layer place rest rows later = later
after_rows table step.NeedBytes layer place rest rows later = rows
after_rows table step.Exhausted layer place rest rows later = rows

tasks_rows : (from : Chunk) (slices : ℕ) (tasks : List Task) (layer : Layer) (place : Option Interval) → CanRead from layer place → AreRows from.table
    (read_tasks from slices tasks layer place).layer
tasks_rows from slices [] layer place can = end_rows from.table from.ended slices layer can.rows
tasks_rows from slices (next ∷ later) layer place can =
    let after = can_after from next layer place can in
    after_rows from.table (task_reading from next layer place).answer (layer_after layer next.channel (task_reading from next layer place))
    (task_reading from next layer place).at.place
    (λ l at. read_tasks from slices later l at) after.rows
    (tasks_rows from slices later (layer_after layer next.channel (task_reading from next layer place)) (task_reading from next layer place).at.place after)

opened_rows : (table : List Row) (ended : Bool) (it : Opening) (layer : Layer) → IsTable table → AreRows table layer → AreRows table
    (read_opened table ended it layer).layer
opened_rows table ended Short layer is rows = rows
opened_rows table ended (Wrong kind) layer is rows = rows
opened_rows table ended (Opened header slices zp) layer is rows =
    tasks_rows (chunk table zp ended) slices (tasks header slices layer.slices) (with_header layer.header layer header) None
    (can_begin table zp ended layer header is rows)

pub chunk_rows : (table : List Row) (allowed : Allowed) (given : Data) (layer : Layer) → IsTable table → AreRows table layer → AreRows table
    (read_chunk table allowed given layer).layer
chunk_rows table allowed given layer is rows = opened_rows table given.ended (opening_of allowed given layer) layer is rows

pub chunk_grows : (table : List Row) (allowed : Allowed) (bytes more : List ℕ) (ended : Bool) (layer : Layer) → IsTable table → AreRows table layer →
    (read_chunk table allowed (data_of bytes false) layer).layer.decisions ≤ (read_chunk table allowed (data_of (bytes ++ more) ended) layer).layer.decisions
chunk_grows table allowed bytes more ended layer is rows =
    opened_grows table more ended (opening_of allowed (data_of bytes false) layer) (opening_of allowed (data_of (bytes ++ more) ended) layer) layer is rows
    (openings_grow allowed bytes more ended layer)

opened_refused : (table : List Row) (more : List ℕ) (ended : Bool) (short long : Opening) (layer : Layer) (kind : FaultKind) → OpenGrows more short long →
    (read_opened table false short layer).answer ≡ Fault kind → read_opened table ended long layer ≡ read_opened table false short layer
opened_refused table more ended Short long layer kind grows e = absurd (let wrong : Need ≡ Fault kind = e in cc)
opened_refused table more ended (Wrong first) long layer kind grows e = ap (λ (o : Opening). read_opened table ended o layer) grows
opened_refused table more ended (Opened header slices zp) long layer kind grows e =
    absurd (let wrong : Need ≡ Fault kind = sym (tasks_need table zp slices (tasks header slices layer.slices)
    (with_header layer.header layer header) None) ∙ e in cc)

pub chunk_refused : (table : List Row) (allowed : Allowed) (bytes more : List ℕ) (ended : Bool) (layer : Layer) (kind : FaultKind) →
    (read_chunk table allowed (data_of bytes false) layer).answer ≡ Fault kind →
    read_chunk table allowed (data_of (bytes ++ more) ended) layer ≡ read_chunk table allowed (data_of bytes false) layer
chunk_refused table allowed bytes more ended layer kind e =
    opened_refused table more ended (opening_of allowed (data_of bytes false) layer) (opening_of allowed (data_of (bytes ++ more) ended) layer) layer kind
    (openings_grow allowed bytes more ended layer) e

opened_open : (table : List Row) (it : Opening) (layer : Layer) → (read_opened table false it layer).answer ≡ Done → ⊥
opened_open table Short layer e = cc
opened_open table (Wrong kind) layer e = cc
opened_open table (Opened header slices zp) layer e =
    let wrong : Need ≡ Done = sym (tasks_need table zp slices (tasks header slices layer.slices) (with_header layer.header layer header) None) ∙ e in cc

pub chunk_open : (table : List Row) (allowed : Allowed) (bytes : List ℕ) (layer : Layer) →
    (read_chunk table allowed (data_of bytes false) layer).answer ≡ Done → ⊥
chunk_open table allowed bytes layer e = opened_open table (opening_of allowed (data_of bytes false) layer) layer e

-- a chunk's decisions leave room for fewer
after_bounded : (answer : SliceStep) (layer : Layer) (place : Option Interval) (n : ℕ) (rest : Layer → Option Interval → LayerReading) → layer.decisions ≤ n →
    (rest layer place).layer.decisions ≤ n → (after_slice answer layer place rest).layer.decisions ≤ n
after_bounded step.SliceEnd layer place n rest low goes = goes
after_bounded step.NeedBytes layer place n rest low goes = low
after_bounded step.Exhausted layer place n rest low goes = low

tasks_bounded : (from : Chunk) (slices : ℕ) (tasks : List Task) (layer : Layer) (place : Option Interval) → CanRead from layer place →
    (read_tasks from slices tasks layer place).layer.decisions ≤ layer.decisions + room from.payload place
tasks_bounded from slices [] layer place can = let e = end_counts from.ended slices layer in omega arith
tasks_bounded from slices (next ∷ later) layer place can =
    let less = (leaves from next layer place can).room in
    let rest = tasks_bounded from slices later (layer_after layer next.channel (task_reading from next layer place))
    (task_reading from next layer place).at.place (can_after from next layer place can) in
    after_bounded (task_reading from next layer place).answer (layer_after layer next.channel (task_reading from next layer place))
    (task_reading from next layer place).at.place
    (layer.decisions + room from.payload place) (λ after at. read_tasks from slices later after at) (omega arith) (omega arith)

pub chunk_bounded : (table : List Row) (allowed : Allowed) (bytes zp : List ℕ) (ended : Bool) (layer : Layer) (header : Header) (slices : ℕ) →
    IsTable table → AreRows table layer →
    opening_of allowed (data_of bytes ended) layer ≡ Opened header slices zp →
    (read_chunk table allowed (data_of bytes ended) layer).layer.decisions ≤ layer.decisions + 0x8000 * (8 * length zp + 177)
chunk_bounded table allowed bytes zp ended layer header slices is rows opened =
    let all = tasks_bounded (chunk table zp ended) slices (tasks header slices layer.slices) (with_header layer.header layer header) None
    (can_begin table zp ended layer header is rows) in
    let begun = header_counts layer.header layer header in
    let room_is : room zp None ≡ 0x8000 * (8 * length zp + 177) = omega arith in
    let low : (read_opened table ended (Opened header slices zp) layer).layer.decisions ≤ layer.decisions + 0x8000 * (8 * length zp + 177) = omega arith in
    subst (λ (o : Opening). (read_opened table ended o layer).layer.decisions ≤ layer.decisions + 0x8000 * (8 * length zp + 177)) (sym opened) low
