-- The acts of a file are what its events come to, and go on from what was told of them.
use Rattle.std.proofs.Common.{◌≡◌, ℕ, Bool, true, false, Option, Some, None, List, [], ◌∷◌, ◌++◌, refl, sym, ap, ◌∙◌, subst, append_assoc}
use Rattle.std.specs.List.{flat_map}
use Rattle.std.proofs.lemmas.List.{append-nil}
use Rattle.iff_chunks.specs.declared.walker.WalkStep.{WalkStep}
use Rattle.iff_chunks.specs.declared.walker.WalkStep.TheVariants as step
use Rattle.iff_chunks.specs.Chunks.{Form, Chunk, Chunks, Tail, InHead, InHeader, InData, InPad, FormEnd, Broken}
use Rattle.iff_chunks.specs.Events.{Event, Begun, Header, Data, ChunkEnd, data_events, open_events, chunk_events, tail_events, form_events, events_of, tell, with_data, GoesOn}
use Rattle.iw44_image.specs.Layer.{data_of}
use Rattle.page_decoder.specs.Headers.{Head, head_of}
use Rattle.page_decoder.specs.Acts.{Act, Kind, Reads, form_acts, complete_act, complete_acts, tail_acts, acts_of}
use Rattle.page_decoder.specs.ActsTold.{OpenChunk, ActsTold, nothing_told, acts_so, all_told, with_bytes, begun_at, after_event, after_events, after_step, GoOnFrom}

-- one list of events behind another
pub after_both : (so_far : ActsTold) (a b : List Event) → after_events so_far (a ++ b) ≡ after_events (after_events so_far a) b
after_both so_far [] b = refl
after_both so_far (event ∷ a) b = after_both (after_event so_far event) a b

-- data that come in two parts

with_both : (chunk : Option OpenChunk) (told bytes : List ℕ) → with_bytes (told ++ bytes) chunk ≡ with_bytes bytes (with_bytes told chunk)
with_both None told bytes = refl
with_both (Some chunk) told bytes = ap (λ all. Some (record { head = chunk.head; bytes = all })) (sym (append_assoc chunk.bytes told bytes))

two_data : (so_far : ActsTold) (told bytes : List ℕ) → after_event so_far (Data (told ++ bytes)) ≡ after_event (after_event so_far (Data told)) (Data bytes)
two_data so_far told bytes = ap (λ chunk. record { acts = so_far.acts; chunk = chunk }) (with_both so_far.chunk told bytes)

data_more : (so_far : ActsTold) (told : List Event) (bytes : List ℕ)
    → after_events so_far (with_data told bytes) ≡ after_event (after_events so_far told) (Data bytes)
data_more so_far [] bytes = refl
data_more so_far (Data told ∷ []) bytes = two_data so_far told bytes
data_more so_far (Data told ∷ next ∷ events) bytes = data_more (after_event so_far (Data told)) (next ∷ events) bytes
data_more so_far (Begun kind size ∷ events) bytes = data_more (after_event so_far (Begun kind size)) events bytes
data_more so_far (Header id offset size ∷ events) bytes = data_more (after_event so_far (Header id offset size)) events bytes
data_more so_far (ChunkEnd ∷ events) bytes = data_more (after_event so_far ChunkEnd) events bytes

-- with one more answer
pub step_told : (told : List Event) (answer : WalkStep) (used : List ℕ)
    → after_events nothing_told (tell told answer used) ≡ after_step (after_events nothing_told told) answer used
step_told told (step.Form kind size) used = after_both nothing_told told (Begun kind size ∷ [])
step_told told (step.Header id offset size) used = after_both nothing_told told (Header id offset size ∷ [])
step_told told step.Data used = data_more nothing_told told used
step_told told step.ChunkEnd used = after_both nothing_told told (ChunkEnd ∷ [])
step_told told step.NeedBytes used = refl
step_told told step.FormEnd used = refl
step_told told (step.Broken kind offset) used = refl

-- ---- the acts of a file

-- data of a chunk that has begun
data_told : (acts : List Act) (head : Head) (bytes : List ℕ)
    → after_events (record { acts = acts; chunk = begun_at head }) (data_events bytes)
    ≡ record { acts = acts; chunk = Some (record { head = head; bytes = bytes }) }
data_told acts head [] = refl
data_told acts head (byte ∷ bytes) = refl

abbrev between : List Act → ActsTold
between acts = record { acts = acts; chunk = None }

open_told : (acts : List Act) (chunk : Chunk)
    → after_events (between acts) (open_events chunk) ≡ record { acts = acts; chunk = Some (record { head = head_of chunk; bytes = chunk.bytes }) }
open_told acts chunk =
    ap (λ all. after_events (record { acts = all; chunk = begun_at (head_of chunk) }) (data_events chunk.bytes)) (append-nil acts)
    ∙ data_told acts (head_of chunk) chunk.bytes

chunk_told : (acts : List Act) (chunk : Chunk) → after_events (between acts) (chunk_events chunk) ≡ between (acts ++ complete_act chunk ∷ [])
chunk_told acts chunk =
    after_both (between acts) (open_events chunk) (ChunkEnd ∷ [])
    ∙ ap (λ so_far. after_event so_far ChunkEnd) (open_told acts chunk)

tail_told : (acts : List Act) (tail : Tail) → all_told (after_events (between acts) (tail_events tail)) ≡ acts ++ tail_acts tail
tail_told acts InHead = refl
tail_told acts (InHeader offset bytes) = refl
tail_told acts (InData chunk) = ap all_told (open_told acts chunk)
tail_told acts (InPad offset is_last) = refl
tail_told acts FormEnd = refl
tail_told acts (Broken kind offset) = refl

whole_told : (acts : List Act) (whole : List Chunk) (tail : Tail)
    → all_told (after_events (between acts) (flat_map chunk_events whole ++ tail_events tail)) ≡ acts ++ (complete_acts whole ++ tail_acts tail)
whole_told acts [] tail = tail_told acts tail
whole_told acts (chunk ∷ whole) tail =
    let rest = flat_map chunk_events whole ++ tail_events tail in
    ap (λ events. all_told (after_events (between acts) events)) (append_assoc (chunk_events chunk) (flat_map chunk_events whole) (tail_events tail))
    ∙ ap all_told (after_both (between acts) (chunk_events chunk) rest)
    ∙ ap (λ so_far. all_told (after_events so_far rest)) (chunk_told acts chunk)
    ∙ whole_told (acts ++ complete_act chunk ∷ []) whole tail
    ∙ append_assoc acts (complete_act chunk ∷ []) (complete_acts whole ++ tail_acts tail)

form_told : (form : Option Form) (whole : List Chunk) (tail : Tail)
    → all_told (after_events nothing_told (form_events form ++ (flat_map chunk_events whole ++ tail_events tail)))
    ≡ form_acts form ++ (complete_acts whole ++ tail_acts tail)
form_told None whole tail = whole_told [] whole tail
form_told (Some form) whole tail = whole_told (Kind form.kind ∷ []) whole tail

-- the acts of a file are what its events come to
pub acts_by_events : (chunks : Chunks) → acts_of chunks ≡ all_told (after_events nothing_told (events_of chunks))
acts_by_events chunks = sym (form_told chunks.form chunks.whole chunks.tail)

-- ---- going on

no_rest : (acts : List Act) (chunk : OpenChunk) (ended : Bool) (others : List Act)
    → (acts ++ acts_so ended (Some chunk)) ++ others ≡ acts ++ Reads chunk.head (data_of (chunk.bytes ++ []) ended) ∷ others
no_rest acts chunk ended others =
    append_assoc acts (acts_so ended (Some chunk)) others
    ∙ ap (λ bytes. acts ++ Reads chunk.head (data_of bytes ended) ∷ others) (sym (append-nil chunk.bytes))

-- what goes on from an open chunk that is told with its act
behind_open : (acts : List Act) (chunk : Option OpenChunk) (ended : Bool) (all others : List Act) → all ≡ (acts ++ acts_so ended chunk) ++ others
    → GoOnFrom acts chunk all
behind_open acts None ended all others e = (others, e ∙ ap (λ l. l ++ others) (append-nil acts))
behind_open acts (Some chunk) ended all others e = ([], ended, others, e ∙ no_rest acts chunk ended others)

-- what goes on from one more event goes on from what was told before it
pub before_data : (acts : List Act) (chunk : Option OpenChunk) (bytes : List ℕ) (all : List Act)
    → GoOnFrom acts (with_bytes bytes chunk) all → GoOnFrom acts chunk all
before_data acts None bytes all g = g
before_data acts (Some chunk) bytes all g =
    (bytes ++ g.0, g.1, g.2, g.3 ∙ ap (λ b. acts ++ Reads chunk.head (data_of b g.1) ∷ g.2) (append_assoc chunk.bytes bytes g.0))

before_event : (so_far : ActsTold) (event : Event) (all : List Act) → GoOnFrom (after_event so_far event).acts (after_event so_far event).chunk all
    → GoOnFrom so_far.acts so_far.chunk all
before_event so_far (Begun kind size) all g =
    behind_open so_far.acts so_far.chunk false all (Kind kind ∷ g.0) (g.1 ∙ append_assoc (all_told so_far) (Kind kind ∷ []) g.0)
before_event so_far (Header id offset size) all g = behind_open so_far.acts so_far.chunk false all _ g.3
before_event so_far (Data bytes) all g = before_data so_far.acts so_far.chunk bytes all g
before_event so_far ChunkEnd all g = behind_open so_far.acts so_far.chunk true all g.0 g.1

told_now : (acts : List Act) (chunk : Option OpenChunk) → GoOnFrom acts chunk (acts ++ acts_so false chunk)
told_now acts chunk = behind_open acts chunk false (acts ++ acts_so false chunk) [] (sym (append-nil (acts ++ acts_so false chunk)))

pub events_go_on : (so_far : ActsTold) (events : List Event) → GoOnFrom so_far.acts so_far.chunk (all_told (after_events so_far events))
events_go_on so_far [] = told_now so_far.acts so_far.chunk
events_go_on so_far (event ∷ events) =
    before_event so_far event (all_told (after_events (after_event so_far event) events)) (events_go_on (after_event so_far event) events)

told_go_on : (so_far : ActsTold) (told events : List Event) → GoesOn told events
    → GoOnFrom (after_events so_far told).acts (after_events so_far told).chunk (all_told (after_events so_far events))
told_go_on so_far [] events g = events_go_on so_far events
told_go_on so_far (Data told ∷ []) (Data bytes ∷ events) g =
    let more : after_event so_far (Data bytes) ≡ after_event (after_event so_far (Data told)) (Data g.0) =
    ap (λ b. after_event so_far (Data b)) g.1 ∙ two_data so_far told g.0 in
    subst (λ x. GoOnFrom (after_event so_far (Data told)).acts (after_event so_far (Data told)).chunk (all_told (after_events x events))) (sym more)
    (events_go_on (after_event so_far (Data told)) (Data g.0 ∷ events))
told_go_on so_far (Data told ∷ []) [] g = absurd g
told_go_on so_far (Data told ∷ []) (Begun kind size ∷ events) g = let wrong : Data told ≡ Begun kind size = g.0 in absurd (cc)
told_go_on so_far (Data told ∷ []) (Header id offset size ∷ events) g = let wrong : Data told ≡ Header id offset size = g.0 in absurd (cc)
told_go_on so_far (Data told ∷ []) (ChunkEnd ∷ events) g = let wrong : Data told ≡ ChunkEnd = g.0 in absurd (cc)
told_go_on so_far (Data told ∷ next ∷ more) [] g = absurd g
told_go_on so_far (Data told ∷ next ∷ more) (first ∷ events) g =
    subst (λ e. GoOnFrom (after_events so_far (Data told ∷ next ∷ more)).acts (after_events so_far (Data told ∷ next ∷ more)).chunk
    (all_told (after_events (after_event so_far e) events))) g.0 (told_go_on (after_event so_far (Data told)) (next ∷ more) events g.1)
told_go_on so_far (Begun kind size ∷ more) [] g = absurd g
told_go_on so_far (Begun kind size ∷ more) (first ∷ events) g =
    subst (λ e. GoOnFrom (after_events so_far (Begun kind size ∷ more)).acts (after_events so_far (Begun kind size ∷ more)).chunk
    (all_told (after_events (after_event so_far e) events))) g.0 (told_go_on (after_event so_far (Begun kind size)) more events g.1)
told_go_on so_far (Header id offset size ∷ more) [] g = absurd g
told_go_on so_far (Header id offset size ∷ more) (first ∷ events) g =
    subst (λ e. GoOnFrom (after_events so_far (Header id offset size ∷ more)).acts (after_events so_far (Header id offset size ∷ more)).chunk
    (all_told (after_events (after_event so_far e) events))) g.0 (told_go_on (after_event so_far (Header id offset size)) more events g.1)
told_go_on so_far (ChunkEnd ∷ more) [] g = absurd g
told_go_on so_far (ChunkEnd ∷ more) (first ∷ events) g =
    subst (λ e. GoOnFrom (after_events so_far (ChunkEnd ∷ more)).acts (after_events so_far (ChunkEnd ∷ more)).chunk
    (all_told (after_events (after_event so_far e) events))) g.0 (told_go_on (after_event so_far ChunkEnd) more events g.1)

-- the acts of a file go on from what was told of its events
pub acts_go_on : (told : List Event) (chunks : Chunks) → GoesOn told (events_of chunks)
    → GoOnFrom (after_events nothing_told told).acts (after_events nothing_told told).chunk (acts_of chunks)
acts_go_on told chunks g =
    subst (λ all. GoOnFrom (after_events nothing_told told).acts (after_events nothing_told told).chunk all) (sym (acts_by_events chunks))
    (told_go_on nothing_told told (events_of chunks) g)
