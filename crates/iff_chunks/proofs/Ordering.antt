-- The events of a file come in their order.
use Rattle.std.proofs.Common.{◌≡◌, ℕ, ◌+◌, ◌-◌, Bool, true, false, cond, Option, Some, None, List, [], ◌∷◌, ◌++◌, ltb, length, take, drop, sym, ◌∙◌, subst}
use Rattle.std.specs.List.{flat_map}
use Rattle.std.proofs.lemmas.List.{append_assoc}
use Rattle.byteorder.specs.Endian.{big_number}
use Rattle.djvu_base.specs.declared.faults.FaultKind.{FaultKind}
use Rattle.iff_chunks.specs.Start.{Start, Begins, Arriving, Differs, start_of}
use Rattle.iff_chunks.specs.Chunks.{Form, Chunk, Chunks, Rest, Tail, InHead, InHeader, InData, InPad, FormEnd, Broken, in_head, in_form, rest_at, kind_at, length_fault, size_at, whole_length, length_at, form_at, form_word, magic, after_magic, chunks_of}
use Rattle.iff_chunks.specs.Events.{Event, Begun, Header, Data, ChunkEnd, data_events, chunk_events, tail_events, events_of, GoesOn}
use Rattle.iff_chunks.specs.Order.{Turn, AtForm, AtHeader, AtData, AtEnd, InOrder}

data_order : (bytes : List ℕ) (events : List Event) → InOrder AtHeader events → InOrder AtData (data_events bytes ++ (ChunkEnd ∷ events))
data_order [] events o = o
data_order (b ∷ bytes) events o = o

open_data_order : (bytes : List ℕ) → InOrder AtData (data_events bytes)
open_data_order [] = tt
open_data_order (b ∷ bytes) = tt

rest_order : (whole : List Chunk) (tail : Tail) → InOrder AtHeader (flat_map chunk_events whole ++ tail_events tail)
rest_order [] InHead = tt
rest_order [] (InHeader offset bytes) = tt
rest_order [] (InData chunk) = open_data_order chunk.bytes
rest_order [] (InPad offset is_last) = tt
rest_order [] FormEnd = tt
rest_order [] (Broken kind offset) = tt
rest_order (chunk ∷ whole) tail =
    let rest = flat_map chunk_events whole ++ tail_events tail in
    let events : ((data_events chunk.bytes ++ ChunkEnd ∷ []) ++ flat_map chunk_events whole) ++ tail_events tail
    ≡ data_events chunk.bytes ++ (ChunkEnd ∷ rest) =
    append_assoc (data_events chunk.bytes ++ ChunkEnd ∷ []) (flat_map chunk_events whole) (tail_events tail)
    ∙ append_assoc (data_events chunk.bytes) (ChunkEnd ∷ []) rest in
    subst (InOrder AtData) (sym events) (data_order chunk.bytes rest (rest_order whole tail))

abbrev Ordered : Chunks → Type 0
Ordered chunks = InOrder AtForm (events_of chunks)

form_order : (form : Form) (rest : Rest) → Ordered (in_form form rest)
form_order form rest = rest_order rest.whole rest.tail

kind_order : (offset size : ℕ) (bytes : List ℕ) → Ordered (kind_at offset size bytes)
kind_order offset size bytes = by (ltb (length bytes) 4)
  where
    by : (few : Bool) → Ordered (cond few in_head
        (in_form (record { offset = offset; kind = take 4 bytes; size = size }) (rest_at (offset + 12) (size - 4) (drop 4 bytes))))
    by true = tt
    by false = form_order (record { offset = offset; kind = take 4 bytes; size = size }) (rest_at (offset + 12) (size - 4) (drop 4 bytes))

size_order : (fault : Option FaultKind) (offset size : ℕ) (bytes : List ℕ) → Ordered (size_at fault offset size bytes)
size_order (Some kind) offset size bytes = tt
size_order None offset size bytes = kind_order offset size bytes

length_order : (offset : ℕ) (bytes : List ℕ) → Ordered (length_at offset bytes)
length_order offset bytes = by (ltb (length bytes) 4)
  where
    by : (few : Bool) → Ordered (cond few in_head (whole_length offset (big_number 4 (take 4 bytes)) (drop 4 bytes)))
    by true = tt
    by false = size_order (length_fault offset (big_number 4 (take 4 bytes))) offset (big_number 4 (take 4 bytes)) (drop 4 bytes)

word_order : (offset : ℕ) (start : Start) → Ordered (form_at offset start)
word_order offset (Begins bytes) = length_order offset bytes
word_order offset Arriving = tt
word_order offset Differs = tt

magic_order : (start : Start) (bytes : List ℕ) → Ordered (after_magic start bytes)
magic_order (Begins rest) bytes = word_order 4 (start_of form_word rest)
magic_order Arriving bytes = tt
magic_order Differs bytes = word_order 0 (start_of form_word bytes)

pub events_order : (bytes : List ℕ) → InOrder AtForm (events_of (chunks_of bytes))
events_order bytes = magic_order (start_of magic bytes) bytes

begun_order : (turn : Turn) (kind : List ℕ) (size : ℕ) (told events : List Event) → ((t : Turn) → InOrder t events → InOrder t told)
    → InOrder turn (Begun kind size ∷ events) → InOrder turn (Begun kind size ∷ told)
begun_order AtForm kind size told events on o = on AtHeader o
begun_order AtHeader kind size told events on o = o
begun_order AtData kind size told events on o = o
begun_order AtEnd kind size told events on o = o

header_order : (turn : Turn) (id : List ℕ) (offset size : ℕ) (told events : List Event) → ((t : Turn) → InOrder t events → InOrder t told)
    → InOrder turn (Header id offset size ∷ events) → InOrder turn (Header id offset size ∷ told)
header_order AtForm id offset size told events on o = o
header_order AtHeader id offset size told events on o = on AtData o
header_order AtData id offset size told events on o = o
header_order AtEnd id offset size told events on o = o

end_order : (turn : Turn) (told events : List Event) → ((t : Turn) → InOrder t events → InOrder t told) → InOrder turn (ChunkEnd ∷ events)
    → InOrder turn (ChunkEnd ∷ told)
end_order AtForm told events on o = o
end_order AtHeader told events on o = o
end_order AtData told events on o = on AtHeader o
end_order AtEnd told events on o = on AtHeader o

more_data_order : (turn : Turn) (bytes : List ℕ) (told events : List Event) → ((t : Turn) → InOrder t events → InOrder t told)
    → InOrder turn (Data bytes ∷ events) → InOrder turn (Data bytes ∷ told)
more_data_order AtForm bytes told events on o = o
more_data_order AtHeader bytes told events on o = o
more_data_order AtData bytes told events on o = on AtEnd o
more_data_order AtEnd bytes told events on o = o

some_data_order : (turn : Turn) (bytes all : List ℕ) (events : List Event) → InOrder turn (Data all ∷ events) → InOrder turn (Data bytes ∷ [])
some_data_order AtForm bytes all events o = o
some_data_order AtHeader bytes all events o = o
some_data_order AtData bytes all events o = tt
some_data_order AtEnd bytes all events o = o

-- what was told is in order if the events are that it is a front of
pub front_order : (turn : Turn) (told events : List Event) → GoesOn told events → InOrder turn events → InOrder turn told
front_order turn [] events g o = none turn
  where
    none : (turn : Turn) → InOrder turn []
    none AtForm = tt
    none AtHeader = tt
    none AtData = tt
    none AtEnd = tt
front_order turn (Begun kind size ∷ told) [] g o = absurd g
front_order turn (Begun kind size ∷ told) (e ∷ events) g o =
    begun_order turn kind size told events (λ t. front_order t told events g.1) (subst (λ x. InOrder turn (x ∷ events)) (sym g.0) o)
front_order turn (Header id offset size ∷ told) [] g o = absurd g
front_order turn (Header id offset size ∷ told) (e ∷ events) g o =
    header_order turn id offset size told events (λ t. front_order t told events g.1) (subst (λ x. InOrder turn (x ∷ events)) (sym g.0) o)
front_order turn (ChunkEnd ∷ told) [] g o = absurd g
front_order turn (ChunkEnd ∷ told) (e ∷ events) g o =
    end_order turn told events (λ t. front_order t told events g.1) (subst (λ x. InOrder turn (x ∷ events)) (sym g.0) o)
front_order turn (Data bytes ∷ []) [] g o = absurd g
front_order turn (Data bytes ∷ []) (Data all ∷ events) g o = some_data_order turn bytes all events o
front_order turn (Data bytes ∷ []) (Begun kind size ∷ events) g o = absurd (cc)
front_order turn (Data bytes ∷ []) (Header id offset size ∷ events) g o = absurd (cc)
front_order turn (Data bytes ∷ []) (ChunkEnd ∷ events) g o = absurd (cc)
front_order turn (Data bytes ∷ next ∷ told) [] g o = absurd g
front_order turn (Data bytes ∷ next ∷ told) (e ∷ events) g o =
    more_data_order turn bytes (next ∷ told) events (λ t. front_order t (next ∷ told) events g.1) (subst (λ x. InOrder turn (x ∷ events)) (sym g.0) o)
