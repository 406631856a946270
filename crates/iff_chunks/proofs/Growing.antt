-- What stays of a file's chunks when more bytes follow.
use Rattle.std.proofs.Common.{◌⊎◌, inl, inr, ◌≡◌, ℕ, ◌+◌, ◌-◌, ◌<◌, ◌≤◌, zero, suc, Bool, true, false, cond, Option, Some, None, List, [], ◌∷◌, ◌++◌, length, take, drop, eqb, ltb, refl, sym, ap, ◌∙◌, subst, arith, append_assoc}
use Rattle.std.specs.List.{flat_map}
use Rattle.std.proofs.lemmas.Bool.{le-ltb, ltb-true, ltb-false}
use Rattle.std.proofs.lemmas.List.{append-nil, length-append, length-drop, take-append-le, drop-append-le}
use Rattle.byteorder.specs.Endian.{big_number}
use Rattle.djvu_base.specs.declared.faults.FaultKind.{FaultKind}
use Rattle.djvu_base.specs.declared.faults.FaultKind.TheVariants.{ShortHeader}
use Rattle.iff_chunks.specs.Start.{Start, Begins, Arriving, Differs, start_of}
use Rattle.iff_chunks.specs.Chunks.{Form, Chunk, Chunks, Rest, Tail, Stops, Has, On, InHeader, InData, InPad, FormEnd, Broken, found_so, behind_so, whole_header, header_at, header_fault, data_at, behind_data, pad_at, is_padded, chunks_from, rest_at, in_head, no_form, in_form, kind_at, length_fault, size_at, whole_length, length_at, magic, form_word, form_at, after_magic, chunks_of}
use Rattle.iff_chunks.specs.Growth.{IsGrown, IsStillThere}
use Rattle.iff_chunks.specs.Events.{Begun, chunk_events, tail_events, events_of, GoesOn}
use Rattle.iff_chunks.proofs.Going.{same_goes_on, pre_goes_on, data_goes_on, rest_events}
use Rattle.iff_chunks.proofs.Moving.{cond_false}

-- how the bytes begin, once more follow
abbrev pub Grows : Start → List ℕ → Start → Type 0
Grows (Begins rest) more grown = grown ≡ Begins (rest ++ more)
Grows Arriving more grown = Unit {0}
Grows Differs more grown = grown ≡ Differs

start_grows : (wanted bytes more : List ℕ) → Grows (start_of wanted bytes) more (start_of wanted (bytes ++ more))
start_grows [] bytes more = refl
start_grows (w ∷ wanted) [] more = tt
start_grows (w ∷ wanted) (b ∷ bytes) more =
    elim (eqb w b) as (λ t. Grows (cond t (start_of wanted bytes) Differs) more (cond t (start_of wanted (bytes ++ more)) Differs))
    [ true ↦ start_grows wanted bytes more | false ↦ refl ]

take_both : (count : ℕ) (bytes more : List ℕ) → length bytes ≤ count → take count (bytes ++ more) ≡ bytes ++ take (count - length bytes) more
take_both count [] more h = ap (λ n. take n more) (omega arith)
take_both zero (b ∷ bytes) more h = absurd (omega arith)
take_both (suc count) (b ∷ bytes) more h = ap (λ l. b ∷ l) (take_both count bytes more (omega arith) ∙ ap (λ n. bytes ++ take n more) (omega arith))

-- a chunk whose data are arriving after these chunks is the next one, or its data are still arriving
pub record IsStillIn (whole : List Chunk) (chunk : Chunk) (rest : Rest) : Type 0 where
  pub grown : Chunk
  pub is_grown : IsGrown chunk grown
  pub there : ((later : List Chunk) × (rest.whole ≡ whole ++ (grown ∷ later))) ⊎ ((rest.whole ≡ whole) × (rest.tail ≡ InData grown))

same_chunk : (chunk : Chunk) → IsGrown chunk chunk
same_chunk chunk = record { id = refl; offset = refl; size = refl; later = []; bytes = sym (append-nil chunk.bytes) }

-- what stays of the chunks from a place on
pub record RestStays (before after : Rest) : Type 0 where
  pub ended : before.tail ≡ FormEnd → after ≡ before
  pub broken : (kind : FaultKind) (offset : ℕ) → before.tail ≡ Broken kind offset → after ≡ before
  pub later : List Chunk
  pub chunks : after.whole ≡ before.whole ++ later
  pub open_ : (chunk : Chunk) → before.tail ≡ InData chunk → IsStillIn before.whole chunk after
  pub events : GoesOn (rest_events before) (rest_events after)

rest_same : (rest : Rest) → RestStays rest rest
rest_same rest = record {
  open_ = λ chunk e. record { grown = chunk; is_grown = same_chunk chunk; there = inr (refl, e) };
  ended = λ e. refl;
  broken = λ kind offset e. refl;
  later = [];
  chunks = sym (append-nil rest.whole);
  events = same_goes_on (rest_events rest);
}

-- an open tail of which nothing was told
rest_quiet : (tail : Tail) (after : Rest) → ((chunk : Chunk) → tail ≡ InData chunk → ⊥) → (tail ≡ FormEnd → ⊥)
    → ((kind : FaultKind) (offset : ℕ) → tail ≡ Broken kind offset → ⊥) → tail_events tail ≡ [] → RestStays (record { whole = []; tail = tail }) after
rest_quiet tail after not_open not_ended not_broken none = record {
  open_ = λ chunk e. absurd (not_open chunk e);
  ended = λ e. absurd (not_ended e);
  broken = λ kind offset e. absurd (not_broken kind offset e);
  later = after.whole;
  chunks = refl;
  events = subst (λ t. GoesOn t (rest_events after)) (sym none) tt;
}

-- one chunk before both
pushed : (chunk open_chunk : Chunk) (before after : Rest) → IsStillIn before.whole open_chunk after
    → IsStillIn (chunk ∷ before.whole) open_chunk (record { whole = chunk ∷ after.whole; tail = after.tail })
pushed chunk open_chunk before after still = record { grown = still.grown; is_grown = still.is_grown; there = by still.there }
  where
    by : ((later : List Chunk) × (after.whole ≡ before.whole ++ (still.grown ∷ later))) ⊎ ((after.whole ≡ before.whole) × (after.tail ≡ InData still.grown))
        → ((later : List Chunk) × (chunk ∷ after.whole ≡ (chunk ∷ before.whole) ++ (still.grown ∷ later)))
        ⊎ ((chunk ∷ after.whole ≡ chunk ∷ before.whole) × (after.tail ≡ InData still.grown))
    by (inl (later, e)) = inl (later, ap (λ w. chunk ∷ w) e)
    by (inr (e, tail)) = inr (ap (λ w. chunk ∷ w) e, tail)

rest_with : (chunk : Chunk) (before after : Rest) → RestStays before after
    → RestStays (record { whole = chunk ∷ before.whole; tail = before.tail }) (record { whole = chunk ∷ after.whole; tail = after.tail })
rest_with chunk before after s =
    let push : Rest → Rest = λ r. record { whole = chunk ∷ r.whole; tail = r.tail } in
    let split : (r : Rest) → rest_events (push r) ≡ chunk_events chunk ++ rest_events r =
    λ r. append_assoc (chunk_events chunk) (flat_map chunk_events r.whole) (tail_events r.tail) in
    record {
      open_ = λ open_chunk e. pushed chunk open_chunk before after (s.open_ open_chunk e);
      ended = λ e. ap push (s.ended e);
      broken = λ kind offset e. ap push (s.broken kind offset e);
      later = s.later;
      chunks = ap (λ w. chunk ∷ w) s.chunks;
      events =
          subst (λ b. GoesOn b (rest_events (push after))) (sym (split before))
          (subst (λ a. GoesOn (chunk_events chunk ++ rest_events before) a) (sym (split after))
          (pre_goes_on (chunk_events chunk) (rest_events before) (rest_events after) s.events));
    }

-- a way to go on from a place of which what is so stays
abbrev pub Stays : (ℕ → ℕ → List ℕ → Rest) → Type 0
Stays next = (offset left : ℕ) (bytes more : List ℕ) → RestStays (next offset left bytes) (next offset left (bytes ++ more))

pad_stays : (next : ℕ → ℕ → List ℕ → Rest) → Stays next → (offset after left : ℕ) (bytes more : List ℕ)
    → RestStays (behind_so next (pad_at offset after left bytes)) (behind_so next (pad_at offset after left (bytes ++ more)))
pad_stays next stays offset after left [] more =
    rest_quiet (InPad offset (eqb left 1)) (behind_so next (pad_at offset after left more)) (λ chunk e. cc) (λ e. cc) (λ kind at e. cc) refl
pad_stays next stays offset after left (p ∷ bytes) more = stays after (left - 1) bytes more

behind_stays : (next : ℕ → ℕ → List ℕ → Rest) → Stays next → (offset size left : ℕ) (bytes more : List ℕ)
    → RestStays (behind_so next (behind_data offset size left bytes)) (behind_so next (behind_data offset size left (bytes ++ more)))
behind_stays next stays offset size left bytes more =
    elim (is_padded size left) as (λ t.
    RestStays (behind_so next (cond t (pad_at offset (offset + 9 + size) left bytes) (On (offset + 8 + size) left bytes)))
    (behind_so next (cond t (pad_at offset (offset + 9 + size) left (bytes ++ more)) (On (offset + 8 + size) left (bytes ++ more))))) [
      | true ↦ pad_stays next stays offset (offset + 9 + size) left bytes more
      | false ↦ stays (offset + 8 + size) left bytes more
    ]

-- all data are there, and stay
whole_data : (id : List ℕ) (offset size left : ℕ) (bytes more : List ℕ) → size ≤ length bytes
    → data_at id offset size left (bytes ++ more)
    ≡ Has (record { id = id; offset = offset; size = size; bytes = take size bytes }) (behind_data offset size left (drop size bytes ++ more))
whole_data id offset size left bytes more enough =
    cond_false (ltb (length (bytes ++ more)) size) _ _ (le-ltb _ _ (omega (arith, length-append bytes more)))
    ∙ ap (λ b. Has (record { id = id; offset = offset; size = size; bytes = b }) (behind_data offset size left (drop size (bytes ++ more))))
    (take-append-le size bytes more enough)
    ∙ ap (λ b. Has (record { id = id; offset = offset; size = size; bytes = take size bytes }) (behind_data offset size left b))
    (drop-append-le size bytes more enough)

-- data that are still arriving, or have arrived with the bytes that came
still_arriving : (next : ℕ → ℕ → List ℕ → Rest) (id : List ℕ) (offset size left : ℕ) (bytes more : List ℕ) → length bytes < size → (few : Bool)
    → IsStillIn [] (record { id = id; offset = offset; size = size; bytes = bytes })
    (found_so next (cond few (Stops (InData (record { id = id; offset = offset; size = size; bytes = bytes ++ more })))
    (Has (record { id = id; offset = offset; size = size; bytes = take size (bytes ++ more) }) (behind_data offset size left (drop size (bytes ++ more))))))
still_arriving next id offset size left bytes more short true = record {
  grown = record { id = id; offset = offset; size = size; bytes = bytes ++ more };
  is_grown = record { id = refl; offset = refl; size = refl; later = more; bytes = refl };
  there = inr (refl, refl);
}
still_arriving next id offset size left bytes more short false = record {
  grown = record { id = id; offset = offset; size = size; bytes = take size (bytes ++ more) };
  is_grown = record { id = refl; offset = refl; size = refl; later = take (size - length bytes) more; bytes = take_both size bytes more (omega arith) };
  there = inl ((behind_so next (behind_data offset size left (drop size (bytes ++ more)))).whole, refl);
}

data_stays : (next : ℕ → ℕ → List ℕ → Rest) → Stays next → (id : List ℕ) (offset size left : ℕ) (bytes more : List ℕ) (few : Bool)
    → ltb (length bytes) size ≡ few
    → RestStays (found_so next (cond few (Stops (InData (record { id = id; offset = offset; size = size; bytes = bytes })))
    (Has (record { id = id; offset = offset; size = size; bytes = take size bytes }) (behind_data offset size left (drop size bytes)))))
    (found_so next (data_at id offset size left (bytes ++ more)))
data_stays next stays id offset size left bytes more true e =
    let after = found_so next (data_at id offset size left (bytes ++ more)) in
    let short : length bytes < size = ltb-true _ _ e in
    record {
      open_ = λ chunk e.
          let same : ◌≡◌ {A = Chunk} (record { id = id; offset = offset; size = size; bytes = bytes }) chunk = cc in
          subst (λ c. IsStillIn [] c after) same (still_arriving next id offset size left bytes more short (ltb (length (bytes ++ more)) size));
      ended = λ end. cc;
      broken = λ kind at end. cc;
      later = after.whole;
      chunks = refl;
      events = data_goes_on next id offset size left bytes more (omega arith);
    }
data_stays next stays id offset size left bytes more false e =
    let chunk : Chunk = record { id = id; offset = offset; size = size; bytes = take size bytes } in
    let before = behind_so next (behind_data offset size left (drop size bytes)) in
    subst (λ f. RestStays (record { whole = chunk ∷ before.whole; tail = before.tail }) (found_so next f))
    (sym (whole_data id offset size left bytes more (ltb-false _ _ e)))
    (rest_with chunk before (behind_so next (behind_data offset size left (drop size bytes ++ more)))
    (behind_stays next stays offset size left (drop size bytes) more))

header_stays : (next : ℕ → ℕ → List ℕ → Rest) → Stays next → (fault : Option FaultKind) (id : List ℕ) (offset size left : ℕ) (bytes more : List ℕ)
    → RestStays (found_so next (header_at fault id offset size left bytes)) (found_so next (header_at fault id offset size left (bytes ++ more)))
header_stays next stays (Some kind) id offset size left bytes more = rest_same (record { whole = []; tail = Broken kind offset })
header_stays next stays None id offset size left bytes more = data_stays next stays id offset size (left - size) bytes more (ltb (length bytes) size) refl

-- the whole header is there, and stays
header_there : (offset left : ℕ) (bytes more : List ℕ) → 8 ≤ length bytes
    → cond (ltb (length (bytes ++ more)) 8) (Stops (InHeader offset (bytes ++ more)))
    (whole_header (take 4 (bytes ++ more)) offset (big_number 4 (take 4 (drop 4 (bytes ++ more)))) (left - 8) (drop 8 (bytes ++ more)))
    ≡ whole_header (take 4 bytes) offset (big_number 4 (take 4 (drop 4 bytes))) (left - 8) (drop 8 bytes ++ more)
header_there offset left bytes more enough =
    let whole = bytes ++ more in
    cond_false (ltb (length whole) 8) _ _ (le-ltb _ _ (omega (arith, length-append bytes more)))
    ∙ ap (λ i. whole_header i offset (big_number 4 (take 4 (drop 4 whole))) (left - 8) (drop 8 whole)) (take-append-le 4 bytes more (omega arith))
    ∙ ap (λ n. whole_header (take 4 bytes) offset (big_number 4 n) (left - 8) (drop 8 whole))
    (ap (take 4) (drop-append-le 4 bytes more (omega arith)) ∙ take-append-le 4 (drop 4 bytes) more (omega (arith, length-drop 4 bytes)))
    ∙ ap (λ b. whole_header (take 4 bytes) offset (big_number 4 (take 4 (drop 4 bytes))) (left - 8) b) (drop-append-le 8 bytes more enough)

found_stays : (next : ℕ → ℕ → List ℕ → Rest) → Stays next → (offset left : ℕ) (bytes more : List ℕ) (ended short few : Bool) → ltb (length bytes) 8 ≡ few
    → RestStays (found_so next (cond ended (Stops FormEnd)
    (cond short (Stops (Broken ShortHeader offset))
    (cond few (Stops (InHeader offset bytes)) (whole_header (take 4 bytes) offset (big_number 4 (take 4 (drop 4 bytes))) (left - 8) (drop 8 bytes))))))
    (found_so next (cond ended (Stops FormEnd)
    (cond short (Stops (Broken ShortHeader offset))
    (cond (ltb (length (bytes ++ more)) 8) (Stops (InHeader offset (bytes ++ more)))
    (whole_header (take 4 (bytes ++ more)) offset (big_number 4 (take 4 (drop 4 (bytes ++ more)))) (left - 8) (drop 8 (bytes ++ more)))))))
found_stays next stays offset left bytes more true short few e = rest_same (record { whole = []; tail = FormEnd })
found_stays next stays offset left bytes more false true few e = rest_same (record { whole = []; tail = Broken ShortHeader offset })
found_stays next stays offset left bytes more false false true e = rest_quiet (InHeader offset bytes) _ (λ chunk x. cc) (λ x. cc) (λ kind at x. cc) refl
found_stays next stays offset left bytes more false false false e =
    let id = take 4 bytes in
    let size = big_number 4 (take 4 (drop 4 bytes)) in
    let before = found_so next (whole_header id offset size (left - 8) (drop 8 bytes)) in
    subst (λ f. RestStays before (found_so next f)) (sym (header_there offset left bytes more (ltb-false _ _ e)))
    (header_stays next stays (header_fault id size (left - 8)) id offset size (left - 8) (drop 8 bytes) more)

from_stays : (most : ℕ) → Stays (chunks_from most)
from_stays zero = λ offset left bytes more. rest_same (record { whole = []; tail = FormEnd })
from_stays (suc most) =
    λ offset left bytes more. found_stays (chunks_from most) (from_stays most) offset left bytes more (eqb left 0) (ltb left 8) (ltb (length bytes) 8) refl

-- what stays from some chunks to others
pub record Stay (before after : Chunks) : Type 0 where
  pub ended : before.tail ≡ FormEnd → after ≡ before
  pub broken : (kind : FaultKind) (offset : ℕ) → before.tail ≡ Broken kind offset → after ≡ before
  pub form : (form : Form) → before.form ≡ Some form → after.form ≡ Some form
  pub later : List Chunk
  pub chunks : after.whole ≡ before.whole ++ later
  pub open_ : (chunk : Chunk) → before.tail ≡ InData chunk → IsStillThere before.whole chunk after
  pub events : GoesOn (events_of before) (events_of after)

all_stays : (chunks : Chunks) → Stay chunks chunks
all_stays chunks = record {
  open_ = λ chunk e. record { grown = chunk; is_grown = same_chunk chunk; there = inr (refl, e) };
  ended = λ e. refl;
  broken = λ kind offset e. refl;
  form = λ form e. e;
  later = [];
  chunks = sym (append-nil chunks.whole);
  events = same_goes_on (events_of chunks);
}

head_stays : (after : Chunks) → Stay in_head after
head_stays after = record {
  open_ = λ chunk e. cc;
  ended = λ e. cc;
  broken = λ kind at e. cc;
  form = λ form e. cc;
  later = after.whole;
  chunks = refl;
  events = tt;
}

form_stays : (form : Form) (before after : Rest) → RestStays before after → Stay (in_form form before) (in_form form after)
form_stays form before after s = record {
  open_ = λ chunk e. let still = s.open_ chunk e in record { grown = still.grown; is_grown = still.is_grown; there = still.there };
  ended = λ e. ap (in_form form) (s.ended e);
  broken = λ kind offset e. ap (in_form form) (s.broken kind offset e);
  form = λ f e. e;
  later = s.later;
  chunks = s.chunks;
  events = pre_goes_on (Begun form.kind form.size ∷ []) (rest_events before) (rest_events after) s.events;
}

kind_stays : (offset size : ℕ) (bytes more : List ℕ) (few : Bool) → ltb (length bytes) 4 ≡ few
    → Stay (cond few in_head (in_form (record { offset = offset; kind = take 4 bytes; size = size }) (rest_at (offset + 12) (size - 4) (drop 4 bytes))))
    (kind_at offset size (bytes ++ more))
kind_stays offset size bytes more true e = head_stays (kind_at offset size (bytes ++ more))
kind_stays offset size bytes more false e =
    let enough : 4 ≤ length bytes = ltb-false _ _ e in
    let form : Form = record { offset = offset; kind = take 4 bytes; size = size } in
    let before = rest_at (offset + 12) (size - 4) (drop 4 bytes) in
    let after = rest_at (offset + 12) (size - 4) (drop 4 bytes ++ more) in
    let same : kind_at offset size (bytes ++ more) ≡ in_form form after =
    cond_false (ltb (length (bytes ++ more)) 4) _ _ (le-ltb _ _ (omega (arith, length-append bytes more)))
    ∙ ap (λ k. in_form (record { offset = offset; kind = k; size = size }) (rest_at (offset + 12) (size - 4) (drop 4 (bytes ++ more))))
    (take-append-le 4 bytes more enough)
    ∙ ap (λ b. in_form form (rest_at (offset + 12) (size - 4) b)) (drop-append-le 4 bytes more enough) in
    subst (λ c. Stay (in_form form before) c) (sym same) (form_stays form before after (from_stays (size - 4) (offset + 12) (size - 4) (drop 4 bytes) more))

size_stays : (fault : Option FaultKind) (offset size : ℕ) (bytes more : List ℕ)
    → Stay (size_at fault offset size bytes) (size_at fault offset size (bytes ++ more))
size_stays (Some kind) offset size bytes more = all_stays (no_form kind)
size_stays None offset size bytes more = kind_stays offset size bytes more (ltb (length bytes) 4) refl

length_stays : (offset : ℕ) (bytes more : List ℕ) (few : Bool) → ltb (length bytes) 4 ≡ few
    → Stay (cond few in_head (whole_length offset (big_number 4 (take 4 bytes)) (drop 4 bytes))) (length_at offset (bytes ++ more))
length_stays offset bytes more true e = head_stays (length_at offset (bytes ++ more))
length_stays offset bytes more false e =
    let enough : 4 ≤ length bytes = ltb-false _ _ e in
    let size = big_number 4 (take 4 bytes) in
    let same : length_at offset (bytes ++ more) ≡ whole_length offset size (drop 4 bytes ++ more) =
    cond_false (ltb (length (bytes ++ more)) 4) _ _ (le-ltb _ _ (omega (arith, length-append bytes more)))
    ∙ ap (λ f. whole_length offset (big_number 4 f) (drop 4 (bytes ++ more))) (take-append-le 4 bytes more enough)
    ∙ ap (λ b. whole_length offset size b) (drop-append-le 4 bytes more enough) in
    subst (λ c. Stay (whole_length offset size (drop 4 bytes)) c) (sym same) (size_stays (length_fault offset size) offset size (drop 4 bytes) more)

word_stays : (offset : ℕ) (start : Start) (more : List ℕ) (grown : Start) → Grows start more grown → Stay (form_at offset start) (form_at offset grown)
word_stays offset (Begins bytes) more grown g =
    subst (λ s. Stay (length_at offset bytes) (form_at offset s)) (sym g) (length_stays offset bytes more (ltb (length bytes) 4) refl)
word_stays offset Arriving more grown g = head_stays (form_at offset grown)
word_stays offset Differs more grown g = subst (λ s. Stay (form_at offset Differs) (form_at offset s)) (sym g) (all_stays (form_at offset Differs))

magic_stays : (start : Start) (bytes more : List ℕ) (grown : Start) → Grows start more grown
    → Stay (after_magic start bytes) (after_magic grown (bytes ++ more))
magic_stays (Begins rest) bytes more grown g =
    subst (λ s. Stay (after_magic (Begins rest) bytes) (after_magic s (bytes ++ more))) (sym g)
    (word_stays 4 (start_of form_word rest) more (start_of form_word (rest ++ more)) (start_grows form_word rest more))
magic_stays Arriving bytes more grown g = head_stays (after_magic grown (bytes ++ more))
magic_stays Differs bytes more grown g =
    subst (λ s. Stay (after_magic Differs bytes) (after_magic s (bytes ++ more))) (sym g)
    (word_stays 0 (start_of form_word bytes) more (start_of form_word (bytes ++ more)) (start_grows form_word bytes more))

pub chunks_stay : (bytes more : List ℕ) → Stay (chunks_of bytes) (chunks_of (bytes ++ more))
chunks_stay bytes more = magic_stays (start_of magic bytes) bytes more (start_of magic (bytes ++ more)) (start_grows magic bytes more)
