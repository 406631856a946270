-- How a walker goes on over the FORM's chunks.
use Rattle.std.proofs.Common.{◌≡◌, ◌≢◌, ℕ, ◌+◌, ◌-◌, ◌<◌, ◌≤◌, Bool, true, false, cond, Option, Some, None, List, [], ◌∷◌, ◌++◌, eqb, ltb, length, take, drop, refl, sym, ap, ◌∙◌, subst, arith}
use Rattle.std.specs.List.{list_all}
use Rattle.std.proofs.lemmas.Bool.{lt-ltb, le-ltb, ltb-false, eqb-true, eqb-false, ne_eqb}
use Rattle.std.proofs.lemmas.List.{append-nil, length-append, length-drop, take-append-le, drop-append-le}
use Rattle.std.proofs.Math.Seq.{take-length}
use Rattle.byteorder.specs.Endian.{big_number}
use Rattle.djvu_base.specs.declared.faults.FaultKind.{FaultKind}
use Rattle.djvu_base.specs.declared.faults.FaultKind.TheVariants.{ShortHeader, BadId, Overrun}
use Rattle.iff_chunks.specs.declared.walker.WalkStep.TheVariants as step
use Rattle.iff_chunks.specs.declared.stages.ChunkPlace.{ChunkPlace}
use Rattle.iff_chunks.specs.declared.stages.OpenChunk.{OpenChunk}
use Rattle.iff_chunks.specs.declared.stages.Stage.TheVariants as stage
use Rattle.iff_chunks.specs.declared.gathering.Gathered.{Gathered}
use Rattle.iff_chunks.specs.Gathering.{gathered}
use Rattle.iff_chunks.specs.Chunks.{Chunk, Rest, Tail, Stops, Has, InHeader, InData, FormEnd, Broken, in_form, found_at, found_so, whole_header, header_at, header_fault, data_at, behind_data, is_id_byte, rest_at}
use Rattle.iff_chunks.specs.Events.{Event, Header, open_events, tail_events}
use Rattle.iff_chunks.specs.Told.{InForm, AtChunk, IsSettled, IsPlace, IsChunk, IsSound, AllTold, Stands, Feeds, told_of, behind_chunks, chunk_of, opened_by, header_fed, begun}
use Rattle.iff_chunks.proofs.Fuel.{rest_found}
use Rattle.iff_chunks.proofs.Going.{rest_events, in_form_events, told_more}
use Rattle.iff_chunks.proofs.Moving.{cond_true, cond_false, take_front, drop_front, gathers, in_form_moved, in_form_quiet, feeds_more}
use Rattle.iff_chunks.proofs.Heading.{Filled, all_used, used_within, whole_length_of, still_short}

-- the chunks go on as something else says the same
pub in_form_same : (taken : List ℕ) (told : List Event) (whole : List Chunk) (last : List Event) (next then : List ℕ → Rest) → InForm taken told whole last next
    → ((more : List ℕ) → next more ≡ then more) → InForm taken told whole last then
in_form_same taken told whole last next then f same = record {
  form = f.form;
  told_so = f.told_so;
  on = λ more. f.on more ∙ ap (λ r. in_form f.form (behind_chunks whole r)) (same more);
}

-- whatever follows, nothing but this tail comes
pub settled : (taken : List ℕ) (told : List Event) (whole : List Chunk) (next : List ℕ → Rest) (x : List ℕ) (tail : Tail) → InForm taken told whole [] next
    → ((more : List ℕ) → next (x ++ more) ≡ record { whole = []; tail = tail }) → tail_events tail ≡ [] → IsSettled (taken ++ x) told tail
settled taken told whole next x tail f e none =
    let g = in_form_moved taken told whole [] next x f in
    record {
      all =
          λ more. in_form_events (taken ++ x) told whole [] (λ m. next (x ++ m)) g more ∙ ap (λ r. told_of g.form whole (rest_events r)) (e more)
          ∙ ap (told_of g.form whole) none ∙ sym g.told_so;
      ends = λ more. ap (λ c. c.tail) (g.on more) ∙ ap (λ (r : Rest). r.tail) (e more);
    }

-- what is found where a chunk may begin

pub found_end : (offset : ℕ) (bytes : List ℕ) → rest_at offset 0 bytes ≡ record { whole = []; tail = FormEnd }
found_end offset bytes = refl

found_place : (offset left : ℕ) (bytes : List ℕ) → 0 < left
    → found_at offset left bytes ≡ cond (ltb left 8) (Stops (Broken ShortHeader offset))
    (cond (ltb (length bytes) 8) (Stops (InHeader offset bytes))
    (whole_header (take 4 bytes) offset (big_number 4 (take 4 (drop 4 bytes))) (left - 8) (drop 8 bytes)))
found_place offset left bytes some = cond_false (eqb left 0) (Stops FormEnd) _ (ne_eqb left 0 (omega arith))

pub found_short : (offset left : ℕ) (bytes : List ℕ) → 0 < left → left < 8 → rest_at offset left bytes ≡ record { whole = []; tail = Broken ShortHeader offset }
found_short offset left bytes some few =
    rest_found offset left bytes ∙ ap (found_so rest_at) (found_place offset left bytes some ∙ cond_true (ltb left 8) _ _ (lt-ltb left 8 few))

pub found_part : (offset left : ℕ) (bytes : List ℕ) → 8 ≤ left → length bytes < 8
    → rest_at offset left bytes ≡ record { whole = []; tail = InHeader offset bytes }
found_part offset left bytes room few =
    rest_found offset left bytes ∙ ap (found_so rest_at)
    (found_place offset left bytes (omega arith) ∙ cond_false (ltb left 8) _ _ (le-ltb left 8 room)
    ∙ cond_true (ltb (length bytes) 8) _ _ (lt-ltb (length bytes) 8 few))

-- the second four bytes of eight
second_four : (header more : List ℕ) → length header ≡ 8 → take 4 (drop 4 (header ++ more)) ≡ drop 4 header
second_four header more e =
    ap (take 4) (drop-append-le 4 header more (omega (arith, e))) ∙ take_front 4 (drop 4 header) more (omega (arith, e, length-drop 4 header))

first_four : (header more : List ℕ) → length header ≡ 8 → take 4 (header ++ more) ≡ take 4 header
first_four header more e = take-append-le 4 header more (omega (arith, e))

pub found_header : (offset left : ℕ) (header more : List ℕ) → 8 ≤ left → length header ≡ 8
    → rest_at offset left (header ++ more) ≡ found_so rest_at (whole_header (take 4 header) offset (big_number 4 (drop 4 header)) (left - 8) more)
found_header offset left header more room eight =
    let bytes = header ++ more in
    rest_found offset left bytes
    ∙ ap (found_so rest_at) (found_place offset left bytes (omega arith) ∙ cond_false (ltb left 8) _ _ (le-ltb left 8 room)
    ∙ cond_false (ltb (length bytes) 8) _ _ (le-ltb (length bytes) 8 (omega (arith, eight, length-append header more))))
    ∙ ap (λ i. found_so rest_at (whole_header i offset (big_number 4 (take 4 (drop 4 bytes))) (left - 8) (drop 8 bytes))) (first_four header more eight)
    ∙ ap (λ n. found_so rest_at (whole_header (take 4 header) offset (big_number 4 n) (left - 8) (drop 8 bytes))) (second_four header more eight)
    ∙ ap (λ m. found_so rest_at (whole_header (take 4 header) offset (big_number 4 (drop 4 header)) (left - 8) m)) (drop_front 8 header more eight)

pub data_some : (id : List ℕ) (offset size behind : ℕ) (bytes : List ℕ) → length bytes < size
    → data_at id offset size behind bytes ≡ Stops (InData (record { id = id; offset = offset; size = size; bytes = bytes }))
data_some id offset size behind bytes few = cond_true (ltb (length bytes) size) _ _ (lt-ltb (length bytes) size few)

pub data_whole_at : (id : List ℕ) (offset size behind : ℕ) (bytes more : List ℕ) → length bytes ≡ size
    → data_at id offset size behind (bytes ++ more)
    ≡ Has (record { id = id; offset = offset; size = size; bytes = bytes }) (behind_data offset size behind more)
data_whole_at id offset size behind bytes more e =
    cond_false (ltb (length (bytes ++ more)) size) _ _ (le-ltb (length (bytes ++ more)) size (omega (arith, e, length-append bytes more)))
    ∙ ap (λ b. Has (record { id = id; offset = offset; size = size; bytes = b }) (behind_data offset size behind (drop size (bytes ++ more))))
    (take_front size bytes more e)
    ∙ ap (λ m. Has (record { id = id; offset = offset; size = size; bytes = bytes }) (behind_data offset size behind m)) (drop_front size bytes more e)

-- the FORM's end
pub chunk_ends : (place : ChunkPlace) (got : Gathered) (piece : List ℕ) → place.left ≡ 0
    → Feeds (stage.Header place got) piece (record { used = 0; stage = stage.Ended; step = step.FormEnd })
chunk_ends place got piece e = record {
  sound = tt;
  within = omega arith;
  fits = refl;
  stays = tt;
  spends = tt;
  quiet = λ taken told fewer s few. absurd (omega arith);
  told =
      λ taken told s. settled taken told s.whole (λ m. rest_at place.offset place.left (gathered got ++ m)) [] FormEnd s.in_form
      (λ more. ap (λ n. rest_at place.offset n (gathered got ++ more)) e) refl;
}

pub chunk_short : (place : ChunkPlace) (got : Gathered) (piece : List ℕ) → place.left ≢ 0 → place.left < 8
    → Feeds (stage.Header place got) piece (record { used = 0; stage = stage.Broken ShortHeader place.offset; step = step.Broken ShortHeader place.offset })
chunk_short place got piece some few = record {
  sound = tt;
  within = omega arith;
  fits = refl;
  stays = tt;
  spends = tt;
  quiet = λ taken told fewer s few. absurd (omega arith);
  told =
      λ taken told s. settled taken told s.whole (λ m. rest_at place.offset place.left (gathered got ++ m)) [] (Broken ShortHeader place.offset) s.in_form
      (λ more. found_short place.offset place.left (gathered got ++ more) (omega arith) few) refl;
}

-- within a chunk's header
header_quiet : (place : ChunkPlace) (got now : Gathered) (piece : List ℕ) (used fewer : ℕ) (taken : List ℕ) (told : List Event) → Filled got now piece used 8
    → 8 ≤ place.left → AtChunk taken told place (gathered got) → got.count + fewer < 8 → AllTold (taken ++ take fewer piece) told
header_quiet place got now piece used fewer taken told f room s few =
    in_form_quiet taken told s.whole [] (λ m. rest_at place.offset place.left (gathered got ++ m)) (take fewer piece)
    (InHeader place.offset (gathered got ++ take fewer piece)) s.in_form
    (found_part place.offset place.left (gathered got ++ take fewer piece) room (still_short got now piece used 8 fewer f few)) refl tt

pub chunk_part : (place : ChunkPlace) (got now : Gathered) (piece : List ℕ) (used : ℕ) → Filled got now piece used 8 → now.count < 8 → 8 ≤ place.left
    → IsPlace place → Feeds (stage.Header place got) piece (record { used = length piece; stage = stage.Header place now; step = step.NeedBytes })
chunk_part place got now piece used f short room fits =
    let all = all_used got now piece used 8 f short in
    let bytes : gathered now ≡ gathered got ++ piece = f.bytes ∙ ap (λ p. gathered got ++ p) (ap (λ n. take n piece) all ∙ take-length piece) in
    feeds_more (stage.Header place got) (stage.Header place now) piece (fits, record { room = f.room; short = short })
    (λ taken told s. record {
      whole = s.whole;
      first = s.first;
      in_form =
          in_form_same (taken ++ piece) told s.whole [] _ (λ m. rest_at place.offset place.left (gathered now ++ m))
          (in_form_moved taken told s.whole [] (λ m. rest_at place.offset place.left (gathered got ++ m)) piece s.in_form)
          (λ more. ap (rest_at place.offset place.left) (gathers (gathered got) (gathered now) piece more bytes));
    })
    (λ taken told fewer s few. header_quiet place got now piece used fewer taken told f room s (omega (arith, f.count, all)))
    tt

-- with the whole header the file goes on so
with_header : (place : ChunkPlace) (got now : Gathered) (piece : List ℕ) (used : ℕ) (taken : List ℕ) (told : List Event) → Filled got now piece used 8
    → 8 ≤ now.count → 8 ≤ place.left → (s : AtChunk taken told place (gathered got))
    → InForm (taken ++ take used piece) told s.whole []
    (λ m. found_so rest_at (whole_header (take 4 (gathered now)) place.offset (big_number 4 (drop 4 (gathered now))) (place.left - 8) m))
with_header place got now piece used taken told f enough room s =
    in_form_same (taken ++ take used piece) told s.whole [] _ _
    (in_form_moved taken told s.whole [] (λ m. rest_at place.offset place.left (gathered got ++ m)) (take used piece) s.in_form)
    (λ more.
    ap (rest_at place.offset place.left) (gathers (gathered got) (gathered now) (take used piece) more f.bytes)
    ∙ found_header place.offset place.left (gathered now) more room (whole_length_of got now piece used 8 f enough))

-- a header without a fault fits into the FORM
pub header_fits : (id : List ℕ) (size left : ℕ) → header_fault id size left ≡ None → size ≤ left
header_fits id size left e = by_id (list_all is_id_byte id) (ltb left size) refl e
  where
    by_id : (ok over : Bool) → ltb left size ≡ over → cond ok (cond over (Some Overrun) None) (Some BadId) ≡ None → size ≤ left
    by_id true true e h = cc
    by_id true false e h = ltb-false left size e
    by_id false over e h = cc

-- the place and the length of an open chunk
opened_fits : (place : ChunkPlace) (size : ℕ) → 8 ≤ place.left → IsPlace place → size ≤ place.left - 8 → IsChunk (opened_by place size)
opened_fits place size room fits h = omega (arith, fits)

-- no data arrived behind the header
behind_header : (taken : List ℕ) (told : List Event) (place : ChunkPlace) (whole : List Chunk) (id : List ℕ) (size : ℕ) → 8 ≤ place.left → IsPlace place
    → size ≤ place.left - 8
    → InForm taken (told ++ Header id place.offset size ∷ []) whole (open_events (chunk_of id (opened_by place size) []))
    (λ m. found_so rest_at (data_at id place.offset size (place.left - 8 - size) m))
    → (none : Bool) → eqb size 0 ≡ none
    → Stands (cond none (stage.DataEnd (opened_by place size)) (stage.Data (opened_by place size) size)) taken (told ++ Header id place.offset size ∷ [])
behind_header taken told place whole id size room fits h f true e =
    let zero_size : size ≡ 0 = eqb-true size 0 e in
    record {
      whole = whole;
      id = id;
      bytes = [];
      in_form =
          in_form_same taken (told ++ Header id place.offset size ∷ []) whole (open_events (chunk_of id (opened_by place size) [])) _ _ f
          (λ more. ap (found_so rest_at) (data_whole_at id place.offset size (place.left - 8 - size) [] more (sym zero_size)));
    }
behind_header taken told place whole id size room fits h f false e =
    let some : size ≢ 0 = eqb-false size 0 e in
    record {
      whole = whole;
      id = id;
      bytes = [];
      some = omega arith;
      count = omega arith;
      in_form = f;
    }

data_stage_sound : (chunk : OpenChunk) → IsChunk chunk → (none : Bool) → eqb chunk.length 0 ≡ none
    → IsSound (cond none (stage.DataEnd chunk) (stage.Data chunk chunk.length))
data_stage_sound chunk fits true e = fits
data_stage_sound chunk fits false e = let some : chunk.length ≢ 0 = eqb-false chunk.length 0 e in (fits, omega arith, omega arith)

-- the whole header of a chunk
header_feeds : (place : ChunkPlace) (got now : Gathered) (piece : List ℕ) (used : ℕ) → Filled got now piece used 8 → 8 ≤ now.count → 8 ≤ place.left
    → IsPlace place
    → (fault : Option FaultKind) → header_fault (take 4 (gathered now)) (big_number 4 (drop 4 (gathered now))) (place.left - 8) ≡ fault
    → Feeds (stage.Header place got) piece (header_fed fault place (gathered now) used)
header_feeds place got now piece used f enough room fits (Some kind) e = record {
  sound = tt;
  within = used_within got now piece used 8 f;
  fits = refl;
  stays = tt;
  spends = tt;
  quiet = λ taken told fewer s few. header_quiet place got now piece used fewer taken told f room s (omega (arith, f.most, f.gathering.short));
  told = λ taken told s.
      let there = with_header place got now piece used taken told f enough room s in
      let size = big_number 4 (drop 4 (gathered now)) in
      subst (λ t. IsSettled t told (Broken kind place.offset)) (append-nil (taken ++ take used piece))
      (settled (taken ++ take used piece) told s.whole _ [] (Broken kind place.offset) there
      (λ more. ap (λ o. found_so rest_at (header_at o (take 4 (gathered now)) place.offset size (place.left - 8) more)) e) refl);
}
header_feeds place got now piece used f enough room fits None e =
    let id = take 4 (gathered now) in
    let size : ℕ = big_number 4 (drop 4 (gathered now)) in
    let h : size ≤ place.left - 8 = header_fits id size (place.left - 8) e in
    let opened = opened_by place size in
    record {
      sound = data_stage_sound opened (opened_fits place size room fits h) (eqb size 0) refl;
      within = used_within got now piece used 8 f;
      fits = omega (arith, f.count, f.gathering.short);
      stays = tt;
      spends = tt;
      quiet = λ taken told fewer s few. header_quiet place got now piece used fewer taken told f room s (omega (arith, f.most, f.gathering.short));
      told = λ taken told s.
          let there = with_header place got now piece used taken told f enough room s in
          let now_told = told ++ Header id place.offset size ∷ [] in
          behind_header (taken ++ take used piece) told place s.whole id size room fits h (record {
            form = there.form;
            told_so = ap (λ t. t ++ Header id place.offset size ∷ []) there.told_so ∙ told_more there.form s.whole [] (Header id place.offset size ∷ []);
            on =
                λ more. there.on more ∙ ap (λ o.
                in_form there.form (behind_chunks s.whole (found_so rest_at (header_at o id place.offset size (place.left - 8) more)))) e;
          }) (eqb size 0) refl;
    }

pub chunk_begins : (place : ChunkPlace) (got now : Gathered) (piece : List ℕ) (used : ℕ) → Filled got now piece used 8 → 8 ≤ now.count → 8 ≤ place.left
    → IsPlace place → Feeds (stage.Header place got) piece (begun place (gathered now) used)
chunk_begins place got now piece used f enough room fits =
    header_feeds place got now piece used f enough room fits (header_fault (take 4 (gathered now)) (big_number 4 (drop 4 (gathered now))) (place.left - 8)) refl
