-- What a file is whose bytes end where a walker stands.
use Rattle.std.proofs.Common.{◌≡◌, ◌≢◌, ℕ, ◌+◌, ◌<◌, ◌≤◌, Bool, true, false, cond, ◌&&◌, List, [], ◌∷◌, ◌++◌, ◌⊎◌, inl, inr, eqb, length, drop, refl, sym, ap, ◌∙◌, subst, arith}
use Rattle.std.proofs.lemmas.Bool.{ne_eqb, eq-eqb}
use Rattle.std.proofs.lemmas.List.{append-nil, length-append, length-drop}
use Rattle.djvu_base.specs.declared.faults.FaultKind.{FaultKind}
use Rattle.djvu_base.specs.declared.faults.FaultKind.TheVariants.{Truncated, ShortHeader}
use Rattle.iff_chunks.specs.declared.walker.WalkStep.{WalkStep}
use Rattle.iff_chunks.specs.declared.walker.WalkStep.TheVariants as step
use Rattle.iff_chunks.specs.declared.stages.ChunkPlace.{ChunkPlace}
use Rattle.iff_chunks.specs.declared.stages.OpenChunk.{OpenChunk}
use Rattle.iff_chunks.specs.declared.stages.Stage.{Stage}
use Rattle.iff_chunks.specs.declared.stages.Stage.TheVariants as stage
use Rattle.iff_chunks.specs.declared.gathering.Gathered.{Gathered}
use Rattle.iff_chunks.specs.Gathering.{gathered}
use Rattle.iff_chunks.specs.Start.{Arriving, start_of}
use Rattle.iff_chunks.specs.Chunks.{Chunk, Chunks, Rest, Tail, InHeader, InData, InPad, FormEnd, Broken, magic, form_word, in_head, in_form, form_at, found_so, is_padded, rest_at, chunks_of, chunks_in_all, end_of}
use Rattle.iff_chunks.specs.Events.{Event, ChunkEnd, open_events, Settles, IsLast}
use Rattle.iff_chunks.specs.Told.{InForm, AtChunk, IsSettled, IsGathering, IsSound, Stands, Closes, within_magic, behind_chunks, chunk_of, is_none_of, cut_before_pad}
use Rattle.iff_chunks.proofs.Moving.{cond_true, cond_false, length_gathered}
use Rattle.iff_chunks.proofs.Heading.{short_length, short_kind}
use Rattle.iff_chunks.proofs.Chunking.{found_short, found_part, data_some}
use Rattle.iff_chunks.proofs.Passing.{with_chunk, unpadded, padded, some_chunk}

-- the bytes that were taken are all
all_taken : (taken : List ℕ) (become : List ℕ → Chunks) → ((more : List ℕ) → chunks_of (taken ++ more) ≡ become more) → chunks_of taken ≡ become []
all_taken taken become on = ap chunks_of (sym (append-nil taken)) ∙ on []

closed : (taken : List ℕ) (chunks : Chunks) → chunks_of taken ≡ chunks → (chunks_in_all taken).tail ≡ end_of chunks.whole chunks.tail
closed taken chunks e = ap (λ c. end_of c.whole c.tail) e

head_closed : (taken : List ℕ) (become : List ℕ → Chunks) → ((more : List ℕ) → chunks_of (taken ++ more) ≡ become more) → become [] ≡ in_head
    → (chunks_in_all taken).tail ≡ Broken Truncated 0
head_closed taken become on e = closed taken in_head (all_taken taken become on ∙ e)

wants : (wanted : List ℕ) → 0 < length wanted → start_of wanted [] ≡ Arriving
wants [] h = absurd (omega arith)
wants (x ∷ wanted) h = refl

gathers_few : (got : Gathered) (wanted : ℕ) → IsGathering got wanted → wanted ≤ 8 → length (gathered got ++ []) < wanted
gathers_few got wanted g few = omega (arith, length-append (gathered got) [], length_gathered got g.room (omega (arith, g.short)), g.short)

start_closes : (taken : List ℕ) (told : List Event) → Stands stage.Start taken told → (chunks_in_all taken).tail ≡ Broken Truncated 0
start_closes taken told s = closed taken in_head (ap chunks_of s.0)

magic_closes : (matched : ℕ) (taken : List ℕ) (told : List Event) → matched < 4 → Stands (stage.Magic matched) taken told
    → (chunks_in_all taken).tail ≡ Broken Truncated 0
magic_closes matched taken told h s = head_closed taken _ s.0 (ap within_magic (wants (drop matched magic) (omega (arith, length-drop matched magic))))

word_closes : (offset matched : ℕ) (taken : List ℕ) (told : List Event) → matched < 4 → Stands (stage.Word offset matched) taken told
    → (chunks_in_all taken).tail ≡ Broken Truncated 0
word_closes offset matched taken told h s =
    head_closed taken _ s.0 (ap (form_at offset) (wants (drop matched form_word) (omega (arith, length-drop matched form_word))))

length_closes : (offset : ℕ) (got : Gathered) (taken : List ℕ) (told : List Event) → IsGathering got 4 → Stands (stage.Length offset got) taken told
    → (chunks_in_all taken).tail ≡ Broken Truncated 0
length_closes offset got taken told g s = head_closed taken _ s.0 (short_length offset (gathered got ++ []) (gathers_few got 4 g (omega arith)))

kind_closes : (offset size : ℕ) (got : Gathered) (taken : List ℕ) (told : List Event) → IsGathering got 4 → Stands (stage.Kind offset size got) taken told
    → (chunks_in_all taken).tail ≡ Broken Truncated 0
kind_closes offset size got taken told g s = head_closed taken _ s.0 (short_kind offset size (gathered got ++ []) (gathers_few got 4 g (omega arith)))

-- the places before the FORM's kind is there
abbrev pub InHeadPlace : Stage → Type 0
InHeadPlace place =
    (place ≡ stage.Start) ⊎ ((matched : ℕ) × (place ≡ stage.Magic matched)) ⊎ ((offset : ℕ) × (matched : ℕ) × (place ≡ stage.Word offset matched))
    ⊎ ((offset : ℕ) × (got : Gathered) × (place ≡ stage.Length offset got))
    ⊎ ((offset : ℕ) × (size : ℕ) × (got : Gathered) × (place ≡ stage.Kind offset size got))

pub head_closes : (place : Stage) → IsSound place → InHeadPlace place → Closes place (step.Broken Truncated 0)
head_closes place sound (inl e) = record { all = λ taken told s. start_closes taken told (subst (λ p. Stands p taken told) e s); last = tt }
head_closes place sound (inr (inl m)) =
    record { all = λ taken told s. magic_closes m.0 taken told (subst IsSound m.1 sound) (subst (λ p. Stands p taken told) m.1 s); last = tt }
head_closes place sound (inr (inr (inl w))) =
    record { all = λ taken told s. word_closes w.0 w.1 taken told (subst IsSound w.2 sound).1 (subst (λ p. Stands p taken told) w.2 s); last = tt }
head_closes place sound (inr (inr (inr (inl l)))) =
    record { all = λ taken told s. length_closes l.0 l.1 taken told (subst IsSound l.2 sound).1 (subst (λ p. Stands p taken told) l.2 s); last = tt }
head_closes place sound (inr (inr (inr (inr k)))) =
    record { all = λ taken told s. kind_closes k.0 k.1 k.2 taken told (subst IsSound k.3 sound).1 (subst (λ p. Stands p taken told) k.3 s); last = tt }

-- the bytes end in the FORM, behind some chunks
form_closed : (taken : List ℕ) (told : List Event) (whole : List Chunk) (last : List Event) (next : List ℕ → Rest) (rest : Rest)
    → InForm taken told whole last next → next [] ≡ rest → (chunks_in_all taken).tail ≡ end_of (whole ++ rest.whole) rest.tail
form_closed taken told whole last next rest f e =
    closed taken (in_form f.form (behind_chunks whole rest)) (all_taken taken _ f.on ∙ ap (λ r. in_form f.form (behind_chunks whole r)) e)

end_header : (whole : List Chunk) (offset : ℕ) (got : List ℕ)
    → end_of whole (InHeader offset got) ≡ cond (is_none_of whole && eqb (length got) 0) (Broken Truncated 0) (Broken Truncated offset)
end_header [] offset [] = refl
end_header [] offset (b ∷ got) =
    sym (cond_false (eqb (length (b ∷ got)) 0) (Broken Truncated 0) (Broken Truncated offset) (ne_eqb (length (b ∷ got)) 0 (omega arith)))
end_header (chunk ∷ whole) offset [] = refl
end_header (chunk ∷ whole) offset (b ∷ got) = refl

pub header_ended : (place : ChunkPlace) (got : Gathered) → place.left ≡ 0 → Closes (stage.Header place got) step.FormEnd
header_ended place got e = record {
  all =
      λ taken told s. form_closed taken told s.whole [] _ (record { whole = []; tail = FormEnd }) s.in_form
      (ap (λ n. rest_at place.offset n (gathered got ++ [])) e);
  last = tt;
}

pub header_short : (place : ChunkPlace) (got : Gathered) → place.left ≢ 0 → place.left < 8
    → Closes (stage.Header place got) (step.Broken ShortHeader place.offset)
header_short place got some few = record {
  all =
      λ taken told s. form_closed taken told s.whole [] _ (record { whole = []; tail = Broken ShortHeader place.offset }) s.in_form
      (found_short place.offset place.left (gathered got ++ []) (omega arith) few);
  last = tt;
}

header_cut : (place : ChunkPlace) (got : Gathered) (taken : List ℕ) (told : List Event) → 8 ≤ place.left → IsGathering got 8
    → AtChunk taken told place (gathered got)
    → (chunks_in_all taken).tail ≡ cond (place.is_first && eqb got.count 0) (Broken Truncated 0) (Broken Truncated place.offset)
header_cut place got taken told room g s =
    let none = append-nil (gathered got) in
    let part =
    found_part place.offset place.left (gathered got ++ []) room (gathers_few got 8 g (omega arith))
    ∙ ap (λ b. record { whole = []; tail = InHeader place.offset b }) none in
    form_closed taken told s.whole [] _ (record { whole = []; tail = InHeader place.offset (gathered got) }) s.in_form part
    ∙ ap (λ w. end_of w (InHeader place.offset (gathered got))) (append-nil s.whole)
    ∙ end_header s.whole place.offset (gathered got)
    ∙ ap (λ b. cond (b && eqb (length (gathered got)) 0) (Broken Truncated 0) (Broken Truncated place.offset)) (sym s.first)
    ∙ ap (λ n. cond (place.is_first && eqb n 0) (Broken Truncated 0) (Broken Truncated place.offset)) (length_gathered got g.room (omega (arith, g.short)))

pub header_cut_first : (place : ChunkPlace) (got : Gathered) → 8 ≤ place.left → IsGathering got 8 → (place.is_first && eqb got.count 0) ≡ true
    → Closes (stage.Header place got) (step.Broken Truncated 0)
header_cut_first place got room g e = record {
  all =
      λ taken told s. header_cut place got taken told room g s
      ∙ cond_true (place.is_first && eqb got.count 0) (Broken Truncated 0) (Broken Truncated place.offset) e;
  last = tt;
}

pub header_cut_later : (place : ChunkPlace) (got : Gathered) → 8 ≤ place.left → IsGathering got 8 → (place.is_first && eqb got.count 0) ≡ false
    → Closes (stage.Header place got) (step.Broken Truncated place.offset)
header_cut_later place got room g e = record {
  all =
      λ taken told s. header_cut place got taken told room g s
      ∙ cond_false (place.is_first && eqb got.count 0) (Broken Truncated 0) (Broken Truncated place.offset) e;
  last = tt;
}

pub first_none : (is_first : Bool) (count : ℕ) → is_first ≡ true → count ≡ 0 → (is_first && eqb count 0) ≡ true
first_none is_first count f e = ap (λ b. b && eqb count 0) f ∙ eq-eqb count 0 e

pub not_first : (is_first : Bool) (count : ℕ) → is_first ≡ false → (is_first && eqb count 0) ≡ false
not_first is_first count f = ap (λ b. b && eqb count 0) f

pub some_there : (is_first : Bool) (count : ℕ) → count ≢ 0 → (is_first && eqb count 0) ≡ false
some_there true count h = ne_eqb count 0 h
some_there false count h = refl

pub data_closes : (chunk : OpenChunk) (left : ℕ) → Closes (stage.Data chunk left) (step.Broken Truncated chunk.offset)
data_closes chunk left = record {
  all = λ taken told s.
      form_closed taken told s.whole (open_events (chunk_of s.id chunk s.bytes)) _ (record { whole = []; tail = InData (chunk_of s.id chunk (s.bytes ++ [])) })
      s.in_form
      (ap (found_so rest_at) (data_some s.id chunk.offset chunk.length chunk.behind (s.bytes ++ [])
      (omega (arith, s.some, s.count, length-append s.bytes []))));
  last = tt;
}

-- before a pad byte
pad_settles : (offset behind : ℕ) (tail : Tail) (is_last : Bool) → eqb behind 1 ≡ is_last → tail ≡ cond is_last FormEnd (Broken Truncated offset)
    → Settles (cond is_last step.FormEnd (step.Broken Truncated offset)) tail
pad_settles offset behind tail true e t = t
pad_settles offset behind tail false e t = t

pad_last : (offset behind : ℕ) (is_last : Bool) → eqb behind 1 ≡ is_last → IsLast (cond is_last step.FormEnd (step.Broken Truncated offset))
pad_last offset behind true e = tt
pad_last offset behind false e = tt

pub pad_closes : (chunk : OpenChunk) → Closes (stage.Pad chunk) (cut_before_pad chunk.offset chunk.behind)
pad_closes chunk = record {
  all =
      λ taken told s. pad_settles chunk.offset chunk.behind (chunks_in_all taken).tail (eqb chunk.behind 1) refl
      (form_closed taken told s.whole [] _ (record { whole = []; tail = InPad chunk.offset (eqb chunk.behind 1) }) s.in_form refl);
  last = pad_last chunk.offset chunk.behind (eqb chunk.behind 1) refl;
}

pub data_end_padded : (chunk : OpenChunk) → is_padded chunk.length chunk.behind ≡ true → Closes (stage.DataEnd chunk) (cut_before_pad chunk.offset chunk.behind)
data_end_padded chunk e = record {
  all = λ taken told s.
      let f = with_chunk taken told chunk s _ (λ more. padded chunk more e) in
      pad_settles chunk.offset chunk.behind (chunks_in_all taken).tail (eqb chunk.behind 1) refl
      (form_closed taken (told ++ ChunkEnd ∷ []) (s.whole ++ chunk_of s.id chunk s.bytes ∷ []) [] _
      (record { whole = []; tail = InPad chunk.offset (eqb chunk.behind 1) }) f refl);
  last = pad_last chunk.offset chunk.behind (eqb chunk.behind 1) refl;
}

-- behind the data, where no pad byte comes, a chunk may begin
pub data_end_unpadded : (chunk : OpenChunk) (got : Gathered) (answer : WalkStep) → is_padded chunk.length chunk.behind ≡ false → gathered got ≡ []
    → Closes (stage.Header (record { offset = chunk.offset + 8 + chunk.length; left = chunk.behind; is_first = false }) got) answer
    → Closes (stage.DataEnd chunk) answer
data_end_unpadded chunk got answer e none closes = record {
  all = λ taken told s. closes.all taken (told ++ ChunkEnd ∷ []) (record {
    whole = s.whole ++ chunk_of s.id chunk s.bytes ∷ [];
    first = sym (some_chunk s.whole (chunk_of s.id chunk s.bytes));
    in_form =
        with_chunk taken told chunk s _
        (λ more. unpadded chunk more e ∙ ap (λ g. rest_at (chunk.offset + 8 + chunk.length) chunk.behind (g ++ more)) (sym none));
  });
  last = closes.last;
}

settled_tail : (taken : List ℕ) (told : List Event) (tail : Tail) → IsSettled taken told tail → (chunks_of taken).tail ≡ tail
settled_tail taken told tail s = ap (λ b. (chunks_of b).tail) (sym (append-nil taken)) ∙ s.ends []

pub ended_closes : Closes stage.Ended step.FormEnd
ended_closes = record {
  all = λ taken told s. ap (λ t. end_of (chunks_of taken).whole t) (settled_tail taken told FormEnd s);
  last = tt;
}

pub broken_closes : (kind : FaultKind) (offset : ℕ) → Closes (stage.Broken kind offset) (step.Broken kind offset)
broken_closes kind offset = record {
  all = λ taken told s. ap (λ t. end_of (chunks_of taken).whole t) (settled_tail taken told (Broken kind offset) s);
  last = tt;
}
