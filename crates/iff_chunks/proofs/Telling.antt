-- What follows of a walker's place for the events of the file, however it goes on.
use Rattle.std.proofs.Common.{◌≡◌, ℕ, ◌<◌, Some, List, [], ◌∷◌, ◌++◌, length, refl, sym, ap, ◌∙◌, subst, arith, append_assoc}
use Rattle.std.specs.List.{flat_map}
use Rattle.std.proofs.lemmas.List.{length-append}
use Rattle.iff_chunks.specs.declared.walker.WalkStep.{WalkStep}
use Rattle.iff_chunks.specs.declared.walker.WalkStep.TheVariants as step
use Rattle.iff_chunks.specs.declared.stages.OpenChunk.{OpenChunk}
use Rattle.iff_chunks.specs.declared.stages.Stage.{Stage}
use Rattle.iff_chunks.specs.declared.stages.Stage.TheVariants as stage
use Rattle.iff_chunks.specs.Chunks.{Chunk, Rest, Has, chunks_of, found_so, behind_so, behind_data, rest_at}
use Rattle.iff_chunks.specs.Events.{Event, Begun, Header, Data, ChunkEnd, form_events, open_events, chunk_events, tail_events, events_of, tell, with_data, GoesOn, IsOpen, Ends}
use Rattle.iff_chunks.specs.Told.{BehindData, Stands, Fits, IsDataEnd, chunk_of, told_of}
use Rattle.iff_chunks.proofs.Going.{same_goes_on, front_goes_on, data_goes_on, rest_events, in_form_events, in_form_goes_on, told_more, pre_goes_on}

-- a chunk whose data arrived has an end
chunk_goes_on : (chunk : Chunk) (rest : Rest) → GoesOn (chunk_events chunk) ((chunk_events chunk ++ flat_map chunk_events rest.whole) ++ tail_events rest.tail)
chunk_goes_on chunk rest =
    subst (λ l. GoesOn (chunk_events chunk) l) (sym (append_assoc (chunk_events chunk) (flat_map chunk_events rest.whole) (tail_events rest.tail)))
    (front_goes_on (chunk_events chunk) (flat_map chunk_events rest.whole ++ tail_events rest.tail))

open_chunk_goes_on : (chunk : Chunk) (rest : Rest)
    → GoesOn (open_events chunk) ((chunk_events chunk ++ flat_map chunk_events rest.whole) ++ tail_events rest.tail)
open_chunk_goes_on chunk rest =
    let after = (ChunkEnd ∷ []) ++ (flat_map chunk_events rest.whole ++ tail_events rest.tail) in
    subst (λ l. GoesOn (open_events chunk) l)
    (sym (append_assoc (open_events chunk) (ChunkEnd ∷ []) (flat_map chunk_events rest.whole ++ tail_events rest.tail))
    ∙ sym (append_assoc (chunk_events chunk) (flat_map chunk_events rest.whole) (tail_events rest.tail)))
    (front_goes_on (open_events chunk) after)

none_goes_on : (taken : List ℕ) (told : List Event) (more : List ℕ) → told ≡ [] → GoesOn told (events_of (chunks_of (taken ++ more)))
none_goes_on taken told more e = subst (λ t. GoesOn t (events_of (chunks_of (taken ++ more)))) (sym e) tt

-- what was told at a place goes on in the events of the file
pub stands_goes_on : (place : Stage) (taken : List ℕ) (told : List Event) (more : List ℕ) → Stands place taken told
    → GoesOn told (events_of (chunks_of (taken ++ more)))
stands_goes_on stage.Start taken told more s = none_goes_on taken told more s.1
stands_goes_on (stage.Magic matched) taken told more s = none_goes_on taken told more s.1
stands_goes_on (stage.Word offset matched) taken told more s = none_goes_on taken told more s.1
stands_goes_on (stage.Length offset got) taken told more s = none_goes_on taken told more s.1
stands_goes_on (stage.Kind offset size got) taken told more s = none_goes_on taken told more s.1
stands_goes_on (stage.Header place got) taken told more s = in_form_goes_on taken told s.whole [] _ s.in_form more tt
stands_goes_on (stage.Data chunk left) taken told more s =
    in_form_goes_on taken told s.whole (open_events (chunk_of s.id chunk s.bytes)) _ s.in_form more
    (data_goes_on rest_at s.id chunk.offset chunk.length chunk.behind s.bytes more (omega (arith, s.count)))
stands_goes_on (stage.DataEnd chunk) taken told more s =
    in_form_goes_on taken told s.whole (open_events (chunk_of s.id chunk s.bytes)) _ s.in_form more
    (open_chunk_goes_on (chunk_of s.id chunk s.bytes) (behind_so rest_at (behind_data chunk.offset chunk.length chunk.behind more)))
stands_goes_on (stage.Pad chunk) taken told more s = in_form_goes_on taken told s.whole [] _ s.in_form more tt
stands_goes_on stage.Ended taken told more s = subst (λ e. GoesOn told e) (sym (s.all more)) (same_goes_on told)
stands_goes_on (stage.Broken kind offset) taken told more s = subst (λ e. GoesOn told e) (sym (s.all more)) (same_goes_on told)

-- where a chunk's data arrived, its end comes next
behind_data_ends : (chunk : OpenChunk) (taken : List ℕ) (told : List Event) (more : List ℕ) → BehindData taken told chunk
    → GoesOn (told ++ ChunkEnd ∷ []) (events_of (chunks_of (taken ++ more)))
behind_data_ends chunk taken told more s =
    let f = s.in_form in
    let c = chunk_of s.id chunk s.bytes in
    let rest = behind_so rest_at (behind_data chunk.offset chunk.length chunk.behind more) in
    subst (λ t. GoesOn t (events_of (chunks_of (taken ++ more))))
    (sym (ap (λ t. t ++ ChunkEnd ∷ []) f.told_so ∙ told_more f.form s.whole (open_events c) (ChunkEnd ∷ [])))
    (subst (λ e. GoesOn (told_of f.form s.whole (chunk_events c)) e) (sym (in_form_events taken told s.whole (open_events c) _ f more))
    (pre_goes_on (form_events (Some f.form) ++ flat_map chunk_events s.whole) (chunk_events c)
    (rest_events (found_so rest_at (Has c (behind_data chunk.offset chunk.length chunk.behind more)))) (chunk_goes_on c rest)))

pub data_ends : (place : Stage) (taken : List ℕ) (told : List Event) (more : List ℕ) → IsDataEnd place → Stands place taken told
    → GoesOn (told ++ ChunkEnd ∷ []) (events_of (chunks_of (taken ++ more)))
data_ends stage.Start taken told more d s = absurd d
data_ends (stage.Magic matched) taken told more d s = absurd d
data_ends (stage.Word offset matched) taken told more d s = absurd d
data_ends (stage.Length offset got) taken told more d s = absurd d
data_ends (stage.Kind offset size got) taken told more d s = absurd d
data_ends (stage.Header place got) taken told more d s = absurd d
data_ends (stage.Data chunk left) taken told more d s = absurd d
data_ends (stage.DataEnd chunk) taken told more d s = behind_data_ends chunk taken told more s
data_ends (stage.Pad chunk) taken told more d s = absurd d
data_ends stage.Ended taken told more d s = absurd d
data_ends (stage.Broken kind offset) taken told more d s = absurd d

-- a last answer comes once every event was told
pub answer_ends : (answer : WalkStep) (place : Stage) (used size : ℕ) (taken bytes : List ℕ) (told : List Event) (more : List ℕ) → Fits answer place used size
    → Stands place taken (tell told answer bytes) → Ends answer told (chunks_of (taken ++ more))
answer_ends (step.Form kind length) place used size taken bytes told more f s = tt
answer_ends (step.Header id offset length) place used size taken bytes told more f s = tt
answer_ends step.Data place used size taken bytes told more f s = tt
answer_ends step.ChunkEnd place used size taken bytes told more f s = tt
answer_ends step.NeedBytes place used size taken bytes told more f s = tt
answer_ends step.FormEnd place used size taken bytes told more f s =
    let there = subst (λ p. Stands p taken told) f s in
    (there.all more, there.ends more)
answer_ends (step.Broken kind offset) place used size taken bytes told more f s =
    let there = subst (λ p. Stands p taken told) f s in
    (there.all more, there.ends more)

-- events don't go on in none
some_in_none : (event : Event) (told : List Event) → GoesOn (event ∷ told) [] → ⊥
some_in_none (Data bytes) [] g = g
some_in_none (Data bytes) (next ∷ told) g = g
some_in_none (Begun kind size) told g = g
some_in_none (Header id offset size) told g = g
some_in_none ChunkEnd told g = g

-- nor in fewer than they are
longer : (told : List Event) (event : Event) → GoesOn (told ++ event ∷ []) told → ⊥
longer [] event g = some_in_none event [] g
longer (Begun kind size ∷ told) event g = longer told event g.1
longer (Header id offset size ∷ told) event g = longer told event g.1
longer (ChunkEnd ∷ told) event g = longer told event g.1
longer (Data bytes ∷ []) event g = some_in_none event [] g.1
longer (Data bytes ∷ next ∷ told) event g = longer (next ∷ told) event g.1

with_some : (told : List Event) (bytes : List ℕ) → with_data told bytes ≡ [] → ⊥
with_some [] bytes e = cc
with_some (Data old ∷ []) bytes e = cc
with_some (Data old ∷ next ∷ told) bytes e = cc
with_some (Begun kind size ∷ told) bytes e = cc
with_some (Header id offset size ∷ told) bytes e = cc
with_some (ChunkEnd ∷ told) bytes e = cc

behind_first : (old : List ℕ) (grown told : List Event) → (grown ≡ [] → ⊥) → GoesOn (Data old ∷ grown) (Data old ∷ told) → GoesOn grown told
behind_first old [] told some g = absurd (some refl)
behind_first old (first ∷ grown) told some g = g.1

data_longer : (told : List Event) (bytes : List ℕ) → 0 < length bytes → GoesOn (with_data told bytes) told → ⊥
data_longer [] bytes some g = g
data_longer (Data old ∷ []) bytes some g =
    let sizes : length old ≡ length ((old ++ bytes) ++ g.0) =
    ap length g.1 in omega (arith, sizes, some, length-append (old ++ bytes) g.0, length-append old bytes)
data_longer (Data old ∷ next ∷ told) bytes some g =
    data_longer (next ∷ told) bytes some (behind_first old (with_data (next ∷ told) bytes) (next ∷ told) (with_some (next ∷ told) bytes) g)
data_longer (Begun kind size ∷ told) bytes some g = data_longer told bytes some g.1
data_longer (Header id offset size ∷ told) bytes some g = data_longer told bytes some g.1
data_longer (ChunkEnd ∷ told) bytes some g = data_longer told bytes some g.1

-- where nothing more is to be told and the FORM goes on, bytes are needed
pub only_needs : (answer : WalkStep) (used : List ℕ) (told : List Event) (bytes : List ℕ) → (answer ≡ step.Data → 0 < length used)
    → GoesOn (tell told answer used) (events_of (chunks_of bytes)) → Ends answer told (chunks_of bytes) → events_of (chunks_of bytes) ≡ told
    → IsOpen (chunks_of bytes).tail → answer ≡ step.NeedBytes
only_needs (step.Form kind size) used told bytes some g ends all more =
    absurd (longer told (Begun kind size) (subst (λ e. GoesOn (told ++ Begun kind size ∷ []) e) all g))
only_needs (step.Header id offset size) used told bytes some g ends all more =
    absurd (longer told (Header id offset size) (subst (λ e. GoesOn (told ++ Header id offset size ∷ []) e) all g))
only_needs step.Data used told bytes some g ends all more = absurd (data_longer told used (some refl) (subst (λ e. GoesOn (with_data told used) e) all g))
only_needs step.ChunkEnd used told bytes some g ends all more = absurd (longer told ChunkEnd (subst (λ e. GoesOn (told ++ ChunkEnd ∷ []) e) all g))
only_needs step.NeedBytes used told bytes some g ends all more = refl
only_needs step.FormEnd used told bytes some g ends all more = absurd (subst IsOpen ends.1 more)
only_needs (step.Broken kind offset) used told bytes some g ends all more = absurd (subst IsOpen ends.1 more)
