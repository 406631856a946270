-- How a walker goes on before the FORM's chunks.
use Rattle.std.proofs.Common.{◌≡◌, ℕ, ◌+◌, ◌-◌, ◌<◌, ◌≤◌, true, false, min, Some, None, slice_get, List, [], ◌∷◌, ◌++◌, ltb, length, take, drop, refl, sym, ap, ◌∙◌, arith}
use Rattle.std.proofs.lemmas.Bool.{lt-ltb, le-ltb, ltb-true, ltb-false}
use Rattle.std.proofs.lemmas.List.{append-nil, length-append, length-drop, length-take}
use Rattle.std.proofs.Math.Seq.{take-length}
use Rattle.byteorder.specs.Endian.{big_number}
use Rattle.djvu_base.specs.declared.faults.FaultKind.{FaultKind}
use Rattle.iff_chunks.specs.declared.walker.WalkStep.TheVariants as step
use Rattle.iff_chunks.specs.declared.stages.Stage.{Stage}
use Rattle.iff_chunks.specs.declared.stages.Stage.TheVariants as stage
use Rattle.iff_chunks.specs.declared.gathering.Gathered.{Gathered}
use Rattle.iff_chunks.specs.Gathering.{gathered}
use Rattle.iff_chunks.specs.Start.{Start, Begins, Arriving, Differs, start_of}
use Rattle.iff_chunks.specs.Matching.{IsUnsettled}
use Rattle.iff_chunks.specs.Chunks.{Chunks, chunks_of, magic, form_word, after_magic, in_head, no_form, in_form, form_at, length_at, whole_length, size_at, length_fault, kind_at, rest_at}
use Rattle.iff_chunks.specs.Events.{Event, Begun, events_of}
use Rattle.iff_chunks.specs.Told.{BeforeForm, within_magic, IsGathering, IsForm, IsSound, AllTold, Stands, Feeds, Stays}
use Rattle.iff_chunks.proofs.Moving.{cond_true, cond_false, take_front, drop_front, length_gathered, moved, gathers, open_told, Leads, feeds_more}

-- the FORM's head isn't there yet
pub head_quiet : (taken : List ℕ) (told : List Event) (become : List ℕ → Chunks) (x : List ℕ) → BeforeForm taken told become → become x ≡ in_head
    → AllTold (taken ++ x) told
head_quiet taken told become x s e = open_told (taken ++ x) told in_head (s.0 x ∙ e) (sym s.1) tt

-- bytes that break the file before its FORM is there
pub head_breaks : (from : Stage) (become : List ℕ → Chunks) (piece : List ℕ) (used : ℕ) (kind : FaultKind) → used ≤ length piece
    → ((taken : List ℕ) (told : List Event) → Stands from taken told → BeforeForm taken told become)
    → ((more : List ℕ) → become (take used piece ++ more) ≡ no_form kind)
    → ((fewer : ℕ) → fewer < used → become (take fewer piece) ≡ in_head)
    → Stays from (record { used = used; stage = stage.Broken kind 0; step = step.Broken kind 0 })
    → Feeds from piece (record { used = used; stage = stage.Broken kind 0; step = step.Broken kind 0 })
head_breaks from become piece used kind within stands breaks quiet stays = record {
  sound = tt;
  within = within;
  fits = refl;
  stays = stays;
  spends = tt;
  quiet = λ taken told fewer s few. head_quiet taken told become (take fewer piece) (stands taken told s) (quiet fewer few);
  told = λ taken told s.
      let there = stands taken told s in
      let on : (more : List ℕ) → chunks_of ((taken ++ take used piece) ++ more) ≡ no_form kind =
      λ more. moved taken become (take used piece) there.0 more ∙ breaks more in
      record {
        all = λ more. ap events_of (on more) ∙ sym there.1;
        ends = λ more. ap (λ c. c.tail) (on more);
      };
}

-- a word that is wanted, and what it leads to
pub word_part : (from to : Stage) (wanted : List ℕ) (become : Start → Chunks) (matched now : ℕ) (piece : List ℕ) → IsSound to
    → ((taken : List ℕ) (told : List Event) → Stands from taken told → BeforeForm taken told (λ more. become (start_of (drop matched wanted) more)))
    → ((taken : List ℕ) (told : List Event) → BeforeForm taken told (λ more. become (start_of (drop now wanted) more)) → Stands to taken told)
    → become Arriving ≡ in_head
    → now < length wanted
    → ((more : List ℕ) → start_of (drop matched wanted) (piece ++ more) ≡ start_of (drop now wanted) more)
    → IsUnsettled (drop matched wanted) piece (length piece)
    → Stays from (record { used = length piece; stage = to; step = step.NeedBytes })
    → Feeds from piece (record { used = length piece; stage = to; step = step.NeedBytes })
word_part from to wanted become matched now piece sound stands back arriving inside part unsettled stays =
    feeds_more from to piece sound
    (λ taken told s.
    let there = stands taken told s in
    back (taken ++ piece) told ((λ more. moved taken (λ m. become (start_of (drop matched wanted) m)) piece there.0 more ∙ ap become (part more)), there.1))
    (λ taken told fewer s few. head_quiet taken told (λ m. become (start_of (drop matched wanted) m)) (take fewer piece) (stands taken told s)
    (ap become (unsettled_all fewer few) ∙ arriving))
    stays
  where
    unsettled_all : (fewer : ℕ) → fewer ≤ length piece → start_of (drop matched wanted) (take fewer piece) ≡ Arriving
    unsettled_all fewer few = by_case (ltb fewer (length piece)) refl
      where
        wants : (w : List ℕ) → 0 < length w → start_of w [] ≡ Arriving
        wants [] h = absurd (omega arith)
        wants (x ∷ w) h = refl

        by_case : (t : _) → ltb fewer (length piece) ≡ t → start_of (drop matched wanted) (take fewer piece) ≡ Arriving
        by_case true e = unsettled fewer (ltb-true _ _ e)
        by_case false e =
            let all : fewer ≡ length piece = omega (arith, ltb-false _ _ e) in
            ap (λ n. start_of (drop matched wanted) (take n piece)) all ∙ ap (start_of (drop matched wanted)) (take-length piece ∙ sym (append-nil piece))
            ∙ part [] ∙ wants (drop now wanted) (omega (arith, length-drop now wanted))

-- a word that is there
pub word_lead : (from to : Stage) (wanted : List ℕ) (become : Start → Chunks) (matched used : ℕ) (piece : List ℕ)
    → ((taken : List ℕ) (told : List Event) → Stands from taken told → BeforeForm taken told (λ more. become (start_of (drop matched wanted) more)))
    → ((taken : List ℕ) (told : List Event) → BeforeForm taken told (λ more. become (Begins more)) → Stands to taken told)
    → become Arriving ≡ in_head
    → used ≤ length piece
    → ((more : List ℕ) → start_of (drop matched wanted) (take used piece ++ more) ≡ Begins more)
    → IsUnsettled (drop matched wanted) piece used
    → Leads from to piece used
word_lead from to wanted become matched used piece stands back arriving inside whole unsettled = record {
  inside = inside;
  stands = λ taken told s.
      let there = stands taken told s in
      back (taken ++ take used piece) told
      ((λ more. moved taken (λ m. become (start_of (drop matched wanted) m)) (take used piece) there.0 more ∙ ap become (whole more)), there.1);
  quiet =
      λ taken told fewer s few. head_quiet taken told (λ m. become (start_of (drop matched wanted) m)) (take fewer piece) (stands taken told s)
      (ap become (unsettled fewer few) ∙ arriving);
}

-- a file whose first byte is that of "AT&T"
first_of_magic : (start : Start) (more : List ℕ) → after_magic start (65 ∷ more) ≡ within_magic start
first_of_magic (Begins rest) more = refl
first_of_magic Arriving more = refl
first_of_magic Differs more = refl

pub first_byte : (piece : List ℕ) (byte found : ℕ) → Some found ≡ slice_get piece 0 → found ≡ byte → take 1 piece ≡ byte ∷ []
first_byte [] byte found e same = cc
first_byte (x ∷ piece) byte found e same = ap (λ b. b ∷ []) (cc)

start_quiet : (taken : List ℕ) (told : List Event) (piece : List ℕ) (fewer : ℕ) → Stands stage.Start taken told → fewer < 1
    → AllTold (taken ++ take fewer piece) told
start_quiet taken told piece fewer s few =
    let none : fewer ≡ 0 = omega arith in
    open_told (taken ++ take fewer piece) told in_head (ap (λ n. chunks_of (taken ++ take n piece)) none ∙ ap (λ t. chunks_of (t ++ [])) s.0) (sym s.1) tt

pub start_magic : (piece : List ℕ) → 1 ≤ length piece → take 1 piece ≡ 65 ∷ [] → Leads stage.Start (stage.Magic 1) piece 1
start_magic piece some e = record {
  inside = some;
  stands =
      λ taken told s. (
        (λ more. ap chunks_of (ap (λ l. (l ++ take 1 piece) ++ more) s.0 ∙ ap (λ l. l ++ more) e)
            ∙ first_of_magic (start_of (drop 1 magic) more) more),
        s.1,
      );
  quiet = λ taken told fewer s few. start_quiet taken told piece fewer s few;
}

pub start_word : (piece : List ℕ) → 1 ≤ length piece → take 1 piece ≡ 70 ∷ [] → Leads stage.Start (stage.Word 0 1) piece 1
start_word piece some e = record {
  inside = some;
  stands = λ taken told s. ((λ more. ap chunks_of (ap (λ l. (l ++ take 1 piece) ++ more) s.0 ∙ ap (λ l. l ++ more) e)), s.1);
  quiet = λ taken told fewer s few. start_quiet taken told piece fewer s few;
}

pub magic_lead : (matched used : ℕ) (piece : List ℕ) → used ≤ length piece
    → ((more : List ℕ) → start_of (drop matched magic) (take used piece ++ more) ≡ Begins more) → IsUnsettled (drop matched magic) piece used
    → Leads (stage.Magic matched) (stage.Word 4 0) piece used
magic_lead matched used piece inside whole unsettled =
    word_lead (stage.Magic matched) (stage.Word 4 0) magic within_magic matched used piece (λ taken told s. s) (λ taken told s. s) refl inside whole unsettled

pub magic_part : (matched now : ℕ) (piece : List ℕ) → now < 4
    → ((more : List ℕ) → start_of (drop matched magic) (piece ++ more) ≡ start_of (drop now magic) more) → IsUnsettled (drop matched magic) piece (length piece)
    → Feeds (stage.Magic matched) piece (record { used = length piece; stage = stage.Magic now; step = step.NeedBytes })
magic_part matched now piece inside part unsettled =
    word_part (stage.Magic matched) (stage.Magic now) magic within_magic matched now piece inside (λ taken told s. s) (λ taken told s. s) refl inside part
    unsettled tt

pub form_word_part : (offset matched now : ℕ) (piece : List ℕ) → offset ≤ 4 → now < 4
    → ((more : List ℕ) → start_of (drop matched form_word) (piece ++ more) ≡ start_of (drop now form_word) more)
    → IsUnsettled (drop matched form_word) piece (length piece)
    → Feeds (stage.Word offset matched) piece (record { used = length piece; stage = stage.Word offset now; step = step.NeedBytes })
form_word_part offset matched now piece early inside part unsettled =
    word_part (stage.Word offset matched) (stage.Word offset now) form_word (form_at offset) matched now piece (early, inside) (λ taken told s. s)
    (λ taken told s. s) refl inside part unsettled tt

-- the FORM's word is there, and no byte of its length
pub form_word_lead : (offset matched used : ℕ) (got : Gathered) (piece : List ℕ) → gathered got ≡ [] → used ≤ length piece
    → ((more : List ℕ) → start_of (drop matched form_word) (take used piece ++ more) ≡ Begins more) → IsUnsettled (drop matched form_word) piece used
    → Leads (stage.Word offset matched) (stage.Length offset got) piece used
form_word_lead offset matched used got piece none inside whole unsettled =
    word_lead (stage.Word offset matched) (stage.Length offset got) form_word (form_at offset) matched used piece (λ taken told s. s)
    (λ taken told s. ((λ more. s.0 more ∙ ap (λ g. length_at offset (g ++ more)) (sym none)), s.1)) refl inside whole unsettled

-- more bytes were gathered, up to the wanted ones
pub record Filled (got now : Gathered) (piece : List ℕ) (used wanted : ℕ) : Type 0 where
  pub gathering : IsGathering got wanted
  pub few : wanted ≤ 8
  pub bytes : gathered now ≡ gathered got ++ take used piece
  pub count : now.count ≡ got.count + used
  pub room : length now.bytes ≡ 8
  pub most : used ≡ min (wanted - got.count) (length piece)

pub all_used : (got now : Gathered) (piece : List ℕ) (used wanted : ℕ) → Filled got now piece used wanted → now.count < wanted → used ≡ length piece
all_used got now piece used wanted f short = omega (arith, f.count, f.most)

pub used_within : (got now : Gathered) (piece : List ℕ) (used wanted : ℕ) → Filled got now piece used wanted → used ≤ length piece
used_within got now piece used wanted f = omega (arith, f.most)

pub whole_length_of : (got now : Gathered) (piece : List ℕ) (used wanted : ℕ) → Filled got now piece used wanted → wanted ≤ now.count
    → length (gathered now) ≡ wanted
whole_length_of got now piece used wanted f enough =
    omega (arith, f.count, f.most, f.few, f.gathering.short, length_gathered now f.room (omega (arith, f.count, f.most, f.few, f.gathering.short)))

-- fewer bytes than were used leave some wanted
pub still_short : (got now : Gathered) (piece : List ℕ) (used wanted fewer : ℕ) → Filled got now piece used wanted → got.count + fewer < wanted
    → length (gathered got ++ take fewer piece) < wanted
still_short got now piece used wanted fewer f short =
    omega (
      arith,
      length-append (gathered got) (take fewer piece),
      length-take fewer piece,
      length_gathered got f.gathering.room (omega (arith, f.gathering.short, f.few)),
    )

-- not all wanted bytes are there
pub gather_part : (from to : Stage) (become : List ℕ → Chunks) (got now : Gathered) (piece : List ℕ) (used wanted : ℕ) → Filled got now piece used wanted
    → now.count < wanted → IsSound to
    → ((taken : List ℕ) (told : List Event) → Stands from taken told → BeforeForm taken told (λ more. become (gathered got ++ more)))
    → ((taken : List ℕ) (told : List Event) → BeforeForm taken told (λ more. become (gathered now ++ more)) → Stands to taken told)
    → ((bytes : List ℕ) → length bytes < wanted → become bytes ≡ in_head)
    → Stays from (record { used = length piece; stage = to; step = step.NeedBytes })
    → Feeds from piece (record { used = length piece; stage = to; step = step.NeedBytes })
gather_part from to become got now piece used wanted f short sound stands back none stays =
    let all = all_used got now piece used wanted f short in
    let bytes : gathered now ≡ gathered got ++ piece = f.bytes ∙ ap (λ p. gathered got ++ p) (ap (λ n. take n piece) all ∙ take-length piece) in
    feeds_more from to piece sound
    (λ taken told s.
    let there = stands taken told s in
    back (taken ++ piece) told (
      (λ more. moved taken (λ m. become (gathered got ++ m)) piece there.0 more
          ∙ ap become (gathers (gathered got) (gathered now) piece more bytes)),
      there.1,
    ))
    (λ taken told fewer s few. head_quiet taken told (λ m. become (gathered got ++ m)) (take fewer piece) (stands taken told s)
    (none (gathered got ++ take fewer piece) (still_short got now piece used wanted fewer f (omega (arith, f.count, all)))))
    stays

pub short_length : (offset : ℕ) (bytes : List ℕ) → length bytes < 4 → length_at offset bytes ≡ in_head
short_length offset bytes h = cond_true (ltb (length bytes) 4) in_head (whole_length offset (big_number 4 (take 4 bytes)) (drop 4 bytes)) (lt-ltb _ _ h)

pub short_kind : (offset size : ℕ) (bytes : List ℕ) → length bytes < 4 → kind_at offset size bytes ≡ in_head
short_kind offset size bytes h =
    cond_true (ltb (length bytes) 4) in_head
    (in_form (record { offset = offset; kind = take 4 bytes; size = size }) (rest_at (offset + 12) (size - 4) (drop 4 bytes))) (lt-ltb _ _ h)

pub length_there : (offset : ℕ) (four more : List ℕ) → length four ≡ 4 → length_at offset (four ++ more) ≡ whole_length offset (big_number 4 four) more
length_there offset four more e =
    cond_false (ltb (length (four ++ more)) 4) in_head (whole_length offset (big_number 4 (take 4 (four ++ more))) (drop 4 (four ++ more)))
    (le-ltb _ _ (omega (arith, length-append four more)))
    ∙ ap (λ f. whole_length offset (big_number 4 f) (drop 4 (four ++ more))) (take_front 4 four more e)
    ∙ ap (whole_length offset (big_number 4 four)) (drop_front 4 four more e)

pub kind_there : (offset size : ℕ) (four more : List ℕ) → length four ≡ 4
    → kind_at offset size (four ++ more) ≡ in_form (record { offset = offset; kind = four; size = size }) (rest_at (offset + 12) (size - 4) more)
kind_there offset size four more e =
    cond_false (ltb (length (four ++ more)) 4) in_head
    (in_form (record { offset = offset; kind = take 4 (four ++ more); size = size }) (rest_at (offset + 12) (size - 4) (drop 4 (four ++ more))))
    (le-ltb _ _ (omega (arith, length-append four more)))
    ∙ ap (λ f. in_form (record { offset = offset; kind = f; size = size }) (rest_at (offset + 12) (size - 4) (drop 4 (four ++ more))))
    (take_front 4 four more e)
    ∙ ap (λ m. in_form (record { offset = offset; kind = four; size = size }) (rest_at (offset + 12) (size - 4) m)) (drop_front 4 four more e)

pub length_part : (offset : ℕ) (got now : Gathered) (piece : List ℕ) (used : ℕ) → Filled got now piece used 4 → now.count < 4 → offset ≤ 4
    → Feeds (stage.Length offset got) piece (record { used = length piece; stage = stage.Length offset now; step = step.NeedBytes })
length_part offset got now piece used f short early =
    gather_part (stage.Length offset got) (stage.Length offset now) (length_at offset) got now piece used 4 f short
    (early, record { room = f.room; short = short }) (λ taken told s. s) (λ taken told s. s) (short_length offset) tt

pub kind_part : (offset size : ℕ) (got now : Gathered) (piece : List ℕ) (used : ℕ) → Filled got now piece used 4 → now.count < 4 → IsForm offset size
    → Feeds (stage.Kind offset size got) piece (record { used = length piece; stage = stage.Kind offset size now; step = step.NeedBytes })
kind_part offset size got now piece used f short form =
    gather_part (stage.Kind offset size got) (stage.Kind offset size now) (kind_at offset size) got now piece used 4 f short
    (form, record { room = f.room; short = short }) (λ taken told s. s) (λ taken told s. s) (short_kind offset size) tt

-- what the bytes are once the length is there
with_length : (offset : ℕ) (got now : Gathered) (piece more : List ℕ) (used : ℕ) → Filled got now piece used 4 → 4 ≤ now.count
    → length_at offset (gathered got ++ (take used piece ++ more)) ≡ whole_length offset (big_number 4 (gathered now)) more
with_length offset got now piece more used f enough =
    ap (length_at offset) (gathers (gathered got) (gathered now) (take used piece) more f.bytes)
    ∙ length_there offset (gathered now) more (whole_length_of got now piece used 4 f enough)

pub length_breaks : (offset : ℕ) (got now : Gathered) (piece : List ℕ) (used : ℕ) (kind : FaultKind) → Filled got now piece used 4 → 4 ≤ now.count
    → length_fault offset (big_number 4 (gathered now)) ≡ Some kind
    → Feeds (stage.Length offset got) piece (record { used = used; stage = stage.Broken kind 0; step = step.Broken kind 0 })
length_breaks offset got now piece used kind f enough e =
    head_breaks (stage.Length offset got) (λ m. length_at offset (gathered got ++ m)) piece used kind (used_within got now piece used 4 f) (λ taken told s. s)
    (λ more. with_length offset got now piece more used f enough ∙ ap (λ o. size_at o offset (big_number 4 (gathered now)) more) e)
    (λ fewer few. short_length offset (gathered got ++ take fewer piece) (still_short got now piece used 4 fewer f (omega (arith, f.most, f.gathering.short))))
    tt

pub length_lead : (offset : ℕ) (got now fresh : Gathered) (piece : List ℕ) (used : ℕ) → Filled got now piece used 4 → 4 ≤ now.count
    → length_fault offset (big_number 4 (gathered now)) ≡ None → gathered fresh ≡ []
    → Leads (stage.Length offset got) (stage.Kind offset (big_number 4 (gathered now)) fresh) piece used
length_lead offset got now fresh piece used f enough e none = record {
  inside = used_within got now piece used 4 f;
  stands = λ taken told s. (
    (λ more. moved taken (λ m. length_at offset (gathered got ++ m)) (take used piece) s.0 more ∙ with_length offset got now piece more used f enough
        ∙ ap (λ o. size_at o offset (big_number 4 (gathered now)) more) e ∙ ap (λ g. kind_at offset (big_number 4 (gathered now)) (g ++ more)) (sym none)),
    s.1,
  );
  quiet =
      λ taken told fewer s few. head_quiet taken told (λ m. length_at offset (gathered got ++ m)) (take fewer piece) s
      (short_length offset (gathered got ++ take fewer piece) (still_short got now piece used 4 fewer f (omega (arith, f.most, f.gathering.short))));
}

pub kind_whole : (offset size : ℕ) (got now fresh : Gathered) (piece : List ℕ) (used : ℕ) → Filled got now piece used 4 → 4 ≤ now.count → IsForm offset size
    → gathered fresh ≡ [] → IsGathering fresh 8
    → Feeds (stage.Kind offset size got) piece
    (record {
      used = used;
      stage = stage.Header (record { offset = offset + 12; left = size - 4; is_first = true }) fresh;
      step = step.Form (gathered now) size;
    })
kind_whole offset size got now fresh piece used f enough form none empty = record {
  sound = (omega (arith, form.kind, form.fits), empty);
  within = used_within got now piece used 4 f;
  fits = omega (arith, f.count, f.gathering.short);
  stays = tt;
  spends = tt;
  quiet =
      λ taken told fewer s few. head_quiet taken told (λ m. kind_at offset size (gathered got ++ m)) (take fewer piece) s
      (short_kind offset size (gathered got ++ take fewer piece) (still_short got now piece used 4 fewer f (omega (arith, f.most, f.gathering.short))));
  told = λ taken told s. record {
    whole = [];
    first = refl;
    in_form = record {
      form = record { offset = offset; kind = gathered now; size = size };
      told_so = ap (λ t. t ++ Begun (gathered now) size ∷ []) s.1;
      on = λ more.
          moved taken (λ m. kind_at offset size (gathered got ++ m)) (take used piece) s.0 more
          ∙ ap (kind_at offset size) (gathers (gathered got) (gathered now) (take used piece) more f.bytes)
          ∙ kind_there offset size (gathered now) more (whole_length_of got now piece used 4 f enough)
          ∙ ap (λ g. in_form (record { offset = offset; kind = gathered now; size = size }) (rest_at (offset + 12) (size - 4) (g ++ more))) (sym none);
    };
  };
}
