-- Events that go on from others.
use Rattle.std.proofs.Common.{◌≡◌, ℕ, ◌+◌, ◌-◌, ◌<◌, ◌≤◌, Bool, true, false, cond, ltb, Some, List, [], ◌∷◌, ◌++◌, length, take, drop, refl, sym, ap, ◌∙◌, subst, arith, append_assoc}
use Rattle.std.specs.List.{flat_map}
use Rattle.std.proofs.lemmas.List.{append-nil}
use Rattle.std.proofs.lemmas.List.Concat.{flat_map-append}
use Rattle.std.proofs.Math.Seq.{take-append-add}
use Rattle.iff_chunks.specs.Chunks.{Form, Chunk, Rest, Stops, Has, InData, in_form, found_so, behind_so, data_at, behind_data, chunks_of}
use Rattle.iff_chunks.specs.Events.{Event, Begun, Header, Data, ChunkEnd, data_events, form_events, chunk_events, open_events, tail_events, events_of, with_data, GoesOn}
use Rattle.iff_chunks.specs.Told.{InForm, behind_chunks, told_of}

pub same_goes_on : (told : List Event) → GoesOn told told
same_goes_on [] = tt
same_goes_on (Data bytes ∷ []) = ([], sym (append-nil bytes))
same_goes_on (Data bytes ∷ event ∷ told) = (refl, same_goes_on (event ∷ told))
same_goes_on (Begun kind size ∷ told) = (refl, same_goes_on told)
same_goes_on (Header id offset size ∷ told) = (refl, same_goes_on told)
same_goes_on (ChunkEnd ∷ told) = (refl, same_goes_on told)

-- the same events in front of both
pub pre_goes_on : (pre a b : List Event) → GoesOn a b → GoesOn (pre ++ a) (pre ++ b)
pre_goes_on [] a b g = g
pre_goes_on (Data x ∷ []) [] b g = ([], sym (append-nil x))
pre_goes_on (Data x ∷ []) (e ∷ a) b g = (refl, g)
pre_goes_on (Data x ∷ p ∷ pre) a b g = (refl, pre_goes_on (p ∷ pre) a b g)
pre_goes_on (Begun kind size ∷ pre) a b g = (refl, pre_goes_on pre a b g)
pre_goes_on (Header id offset size ∷ pre) a b g = (refl, pre_goes_on pre a b g)
pre_goes_on (ChunkEnd ∷ pre) a b g = (refl, pre_goes_on pre a b g)

pub front_goes_on : (a b : List Event) → GoesOn a (a ++ b)
front_goes_on a b = subst (λ t. GoesOn t (a ++ b)) (append-nil a) (pre_goes_on a [] b tt)

-- a chunk's data that go on
pub open_goes_on : (id : List ℕ) (offset size : ℕ) (bytes more : List ℕ) (rest : List Event)
    → GoesOn (Header id offset size ∷ data_events bytes) (Header id offset size ∷ (data_events (bytes ++ more) ++ rest))
open_goes_on id offset size [] more rest = (refl, tt)
open_goes_on id offset size (b ∷ bytes) more rest = (refl, (more, refl))

-- the events of what is behind some chunks
abbrev pub rest_events : Rest → List Event
rest_events rest = flat_map chunk_events rest.whole ++ tail_events rest.tail

pub events_split : (form : Form) (whole : List Chunk) (rest : Rest)
    → events_of (in_form form (behind_chunks whole rest)) ≡ told_of form whole (rest_events rest)
events_split form whole rest =
    ap (λ l. Begun form.kind form.size ∷ (l ++ tail_events rest.tail)) (flat_map-append chunk_events whole rest.whole)
    ∙ ap (λ l. Begun form.kind form.size ∷ l) (append_assoc (flat_map chunk_events whole) (flat_map chunk_events rest.whole) (tail_events rest.tail))

-- the events of the file, behind those chunks
pub in_form_events : (taken : List ℕ) (told : List Event) (whole : List Chunk) (last : List Event) (next : List ℕ → Rest)
    (f : InForm taken told whole last next) (more : List ℕ) → events_of (chunks_of (taken ++ more)) ≡ told_of f.form whole (rest_events (next more))
in_form_events taken told whole last next f more = ap events_of (f.on more) ∙ events_split f.form whole (next more)

pub in_form_goes_on : (taken : List ℕ) (told : List Event) (whole : List Chunk) (last : List Event) (next : List ℕ → Rest)
    (f : InForm taken told whole last next) (more : List ℕ) → GoesOn last (rest_events (next more)) → GoesOn told (events_of (chunks_of (taken ++ more)))
in_form_goes_on taken told whole last next f more g =
    subst (λ t. GoesOn t (events_of (chunks_of (taken ++ more)))) (sym f.told_so)
    (subst (λ e. GoesOn (told_of f.form whole last) e) (sym (in_form_events taken told whole last next f more))
    (pre_goes_on (form_events (Some f.form) ++ flat_map chunk_events whole) last (rest_events (next more)) g))

-- data that are told go on those that were told last
with_data_last : (pre : List Event) (id : List ℕ) (offset size : ℕ) (bytes piece : List ℕ) → 0 < length piece
    → with_data (pre ++ (Header id offset size ∷ data_events bytes)) piece ≡ pre ++ (Header id offset size ∷ data_events (bytes ++ piece))
with_data_last [] id offset size [] [] h = absurd (omega arith)
with_data_last [] id offset size [] (p ∷ piece) h = refl
with_data_last [] id offset size (b ∷ bytes) piece h = refl
with_data_last (Data x ∷ []) id offset size bytes piece h = ap (λ l. Data x ∷ l) (with_data_last [] id offset size bytes piece h)
with_data_last (Data x ∷ p ∷ pre) id offset size bytes piece h = ap (λ l. Data x ∷ l) (with_data_last (p ∷ pre) id offset size bytes piece h)
with_data_last (Begun kind n ∷ pre) id offset size bytes piece h = ap (λ l. Begun kind n ∷ l) (with_data_last pre id offset size bytes piece h)
with_data_last (Header i o s ∷ pre) id offset size bytes piece h = ap (λ l. Header i o s ∷ l) (with_data_last pre id offset size bytes piece h)
with_data_last (ChunkEnd ∷ pre) id offset size bytes piece h = ap (λ l. ChunkEnd ∷ l) (with_data_last pre id offset size bytes piece h)

pub with_more : (form : Form) (whole : List Chunk) (id : List ℕ) (offset size : ℕ) (bytes piece : List ℕ) → 0 < length piece
    → with_data (told_of form whole (Header id offset size ∷ data_events bytes)) piece
    ≡ told_of form whole (Header id offset size ∷ data_events (bytes ++ piece))
with_more form whole id offset size bytes piece h = with_data_last (form_events (Some form) ++ flat_map chunk_events whole) id offset size bytes piece h

-- one more event is told behind all
pub told_more : (form : Form) (whole : List Chunk) (last more : List Event) → told_of form whole last ++ more ≡ told_of form whole (last ++ more)
told_more form whole last more = append_assoc (form_events (Some form) ++ flat_map chunk_events whole) last more

-- a chunk's end makes it a whole one
pub told_whole : (form : Form) (whole : List Chunk) (chunk : Chunk)
    → told_of form whole (open_events chunk) ++ ChunkEnd ∷ [] ≡ told_of form (whole ++ chunk ∷ []) []
told_whole form whole chunk =
    told_more form whole (open_events chunk) (ChunkEnd ∷ [])
    ∙ sym (append-nil (told_of form whole (chunk_events chunk)))
    ∙ ap (λ l. (Begun form.kind form.size ∷ l) ++ [])
    (ap (λ l. flat_map chunk_events whole ++ l) (sym (append-nil (chunk_events chunk))) ∙ sym (flat_map-append chunk_events whole (chunk ∷ [])))

-- data that arrived, of a chunk that may have more of them, are a front of the chunk's
data_front : (next : ℕ → ℕ → List ℕ → Rest) (id : List ℕ) (offset size behind : ℕ) (bytes more : List ℕ) → length bytes ≤ size → (few : Bool)
    → ltb (length (bytes ++ more)) size ≡ few
    → GoesOn (Header id offset size ∷ data_events bytes)
    (rest_events (found_so next (cond few (Stops (InData (record { id = id; offset = offset; size = size; bytes = bytes ++ more })))
    (Has (record { id = id; offset = offset; size = size; bytes = take size (bytes ++ more) }) (behind_data offset size behind (drop size (bytes ++ more)))))))
data_front next id offset size behind bytes more h true e =
    subst (λ r. GoesOn (Header id offset size ∷ data_events bytes) (Header id offset size ∷ r)) (append-nil (data_events (bytes ++ more)))
    (open_goes_on id offset size bytes more [])
data_front next id offset size behind bytes more h false e =
    let rest = behind_so next (behind_data offset size behind (drop size (bytes ++ more))) in
    let sum : size ≡ length bytes + (size - length bytes) = omega arith in
    let there : take size (bytes ++ more) ≡ bytes ++ take (size - length bytes) more =
    ap (λ n. take n (bytes ++ more)) sum ∙ take-append-add bytes more (size - length bytes) in
    let after = (ChunkEnd ∷ flat_map chunk_events rest.whole) ++ tail_events rest.tail in
    let shape : (b : List ℕ) → Header id offset size ∷ (data_events b ++ after)
    ≡ ((Header id offset size ∷ (data_events b ++ ChunkEnd ∷ [])) ++ flat_map chunk_events rest.whole) ++ tail_events rest.tail =
    λ b. ap (λ l. Header id offset size ∷ l)
    (sym (append_assoc (data_events b) (ChunkEnd ∷ flat_map chunk_events rest.whole) (tail_events rest.tail))
    ∙ ap (λ l. l ++ tail_events rest.tail) (sym (append_assoc (data_events b) (ChunkEnd ∷ []) (flat_map chunk_events rest.whole)))) in
    subst (λ l. GoesOn (Header id offset size ∷ data_events bytes) l)
    (ap (λ b. Header id offset size ∷ (data_events b ++ after)) (sym there) ∙ shape (take size (bytes ++ more)))
    (open_goes_on id offset size bytes (take (size - length bytes) more) after)

pub data_goes_on : (next : ℕ → ℕ → List ℕ → Rest) (id : List ℕ) (offset size behind : ℕ) (bytes more : List ℕ) → length bytes ≤ size
    → GoesOn (Header id offset size ∷ data_events bytes) (rest_events (found_so next (data_at id offset size behind (bytes ++ more))))
data_goes_on next id offset size behind bytes more h = data_front next id offset size behind bytes more h (ltb (length (bytes ++ more)) size) refl
