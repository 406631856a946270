-- How a walker goes on over a chunk's data, its end and its pad byte.
use Rattle.std.proofs.Common.{◌≡◌, ℕ, ◌+◌, ◌-◌, ◌<◌, ◌≤◌, true, false, List, [], ◌∷◌, ◌++◌, eqb, length, take, refl, sym, ap, ◌∙◌, subst, inl, inr, arith, append_assoc}
use Rattle.std.proofs.lemmas.List.{append-nil, length-append, length-take-le}
use Rattle.std.proofs.Math.Seq.{take-length}
use Rattle.iff_chunks.specs.declared.walker.WalkStep.TheVariants as step
use Rattle.iff_chunks.specs.declared.stages.OpenChunk.{OpenChunk}
use Rattle.iff_chunks.specs.declared.stages.Stage.TheVariants as stage
use Rattle.iff_chunks.specs.declared.gathering.Gathered.{Gathered}
use Rattle.iff_chunks.specs.Gathering.{gathered}
use Rattle.iff_chunks.specs.Chunks.{Chunk, Rest, On, InData, InPad, in_form, found_so, behind_so, data_at, behind_data, pad_at, is_padded, rest_at}
use Rattle.iff_chunks.specs.Events.{Event, ChunkEnd, open_events, with_data}
use Rattle.iff_chunks.specs.Told.{InForm, AtChunk, InChunk, BehindData, BeforePad, IsGathering, IsChunk, AllTold, Feeds, behind_chunks, chunk_of, is_none_of}
use Rattle.iff_chunks.proofs.Going.{with_more, told_whole}
use Rattle.iff_chunks.proofs.Moving.{cond_true, cond_false, in_form_moved, in_form_quiet, Leads, feeds_more}
use Rattle.iff_chunks.proofs.Chunking.{in_form_same, data_some, data_whole_at}

-- more data arrive
more_data : (taken : List ℕ) (told : List Event) (chunk : OpenChunk) (left : ℕ) (x : List ℕ) → 0 < length x → (s : InChunk taken told chunk left)
    → InForm (taken ++ x) (with_data told x) s.whole (open_events (chunk_of s.id chunk (s.bytes ++ x)))
    (λ m. found_so rest_at (data_at s.id chunk.offset chunk.length chunk.behind ((s.bytes ++ x) ++ m)))
more_data taken told chunk left x some s =
    let f =
    in_form_moved taken told s.whole (open_events (chunk_of s.id chunk s.bytes))
    (λ m. found_so rest_at (data_at s.id chunk.offset chunk.length chunk.behind (s.bytes ++ m))) x s.in_form in
    record {
      form = f.form;
      told_so = ap (λ t. with_data t x) f.told_so ∙ with_more f.form s.whole s.id chunk.offset chunk.length s.bytes x some;
      on =
          λ more. f.on more ∙ ap (λ b. in_form f.form (behind_chunks s.whole (found_so rest_at (data_at s.id chunk.offset chunk.length chunk.behind b))))
          (sym (append_assoc s.bytes x more));
    }

-- within a chunk's data, before more of them
data_quiet : (chunk : OpenChunk) (left : ℕ) (taken : List ℕ) (told : List Event) → InChunk taken told chunk left → AllTold (taken ++ []) told
data_quiet chunk left taken told s =
    in_form_quiet taken told s.whole (open_events (chunk_of s.id chunk s.bytes)) _ [] (InData (chunk_of s.id chunk (s.bytes ++ []))) s.in_form
    (ap (found_so rest_at) (data_some s.id chunk.offset chunk.length chunk.behind (s.bytes ++ []) (omega (arith, s.some, s.count, length-append s.bytes []))))
    (ap (λ b. open_events (chunk_of s.id chunk b)) (append-nil s.bytes)) tt

pub data_waits : (chunk : OpenChunk) (left : ℕ) (piece : List ℕ) → length piece ≡ 0 → IsChunk chunk → 0 < left → left ≤ chunk.length
    → Feeds (stage.Data chunk left) piece (record { used = length piece; stage = stage.Data chunk left; step = step.NeedBytes })
data_waits chunk left [] none fits some part =
    feeds_more (stage.Data chunk left) (stage.Data chunk left) [] (fits, some, part)
    (λ taken told s. subst (λ t. InChunk t told chunk left) (sym (append-nil taken)) s)
    (λ taken told fewer s few. subst (λ n. AllTold (taken ++ take n []) told) (zero_is fewer few) (data_quiet chunk left taken told s))
    tt
  where
    zero_is : (fewer : ℕ) → fewer ≤ 0 → 0 ≡ fewer
    zero_is fewer few = omega arith
data_waits chunk left (p ∷ piece) none fits some part = absurd (omega arith)

pub data_part : (chunk : OpenChunk) (left : ℕ) (piece : List ℕ) → 0 < length piece → length piece < left → left ≤ chunk.length → IsChunk chunk
    → Feeds (stage.Data chunk left) piece (record { used = length piece; stage = stage.Data chunk (left - length piece); step = step.Data })
data_part chunk left piece some short part fits = record {
  sound = (fits, omega arith, omega arith);
  within = omega arith;
  fits = (some, inl refl);
  stays = tt;
  spends = tt;
  quiet = λ taken told fewer s few. absurd (omega arith);
  told = λ taken told s.
      subst (λ p. InChunk (taken ++ p) (with_data told p) chunk (left - length piece)) (sym (take-length piece)) (record {
        whole = s.whole;
        id = s.id;
        bytes = s.bytes ++ piece;
        some = omega arith;
        count = omega (arith, length-append s.bytes piece, s.count);
        in_form = more_data taken told chunk left piece some s;
      });
}

pub data_all : (chunk : OpenChunk) (left : ℕ) (piece : List ℕ) → 0 < left → left ≤ length piece → IsChunk chunk
    → Feeds (stage.Data chunk left) piece (record { used = left; stage = stage.DataEnd chunk; step = step.Data })
data_all chunk left piece some enough fits =
    let size = length-take-le left piece enough in
    record {
      sound = fits;
      within = enough;
      fits = (some, inr tt);
      stays = tt;
      spends = tt;
      quiet = λ taken told fewer s few. absurd (omega arith);
      told = λ taken told s.
          let x = take left piece in
          let whole_size : length (s.bytes ++ x) ≡ chunk.length = omega (arith, length-append s.bytes x, size, s.count) in
          let f = more_data taken told chunk left x (omega (arith, size)) s in
          record {
            whole = s.whole;
            id = s.id;
            bytes = s.bytes ++ x;
            in_form =
                in_form_same (taken ++ x) (with_data told x) s.whole (open_events (chunk_of s.id chunk (s.bytes ++ x))) _ _ f
                (λ more. ap (found_so rest_at) (data_whole_at s.id chunk.offset chunk.length chunk.behind (s.bytes ++ x) more whole_size));
          };
    }

-- the chunk is one of the whole ones
pub with_chunk : (taken : List ℕ) (told : List Event) (chunk : OpenChunk) (s : BehindData taken told chunk) (next : List ℕ → Rest)
    → ((more : List ℕ) → behind_so rest_at (behind_data chunk.offset chunk.length chunk.behind more) ≡ next more)
    → InForm taken (told ++ ChunkEnd ∷ []) (s.whole ++ chunk_of s.id chunk s.bytes ∷ []) [] next
with_chunk taken told chunk s next e =
    let f = s.in_form in
    let c = chunk_of s.id chunk s.bytes in
    record {
      form = f.form;
      told_so = ap (λ t. t ++ ChunkEnd ∷ []) f.told_so ∙ told_whole f.form s.whole c;
      on = λ more.
          let rest = behind_so rest_at (behind_data chunk.offset chunk.length chunk.behind more) in
          f.on more
          ∙ ap (λ w. in_form f.form (record { whole = w; tail = rest.tail })) (sym (append_assoc s.whole (c ∷ []) rest.whole))
          ∙ ap (λ r. in_form f.form (behind_chunks (s.whole ++ c ∷ []) r)) (e more);
    }

pub some_chunk : (whole : List Chunk) (chunk : Chunk) → is_none_of (whole ++ chunk ∷ []) ≡ false
some_chunk [] chunk = refl
some_chunk (c ∷ whole) chunk = refl

pub unpadded : (chunk : OpenChunk) (more : List ℕ) → is_padded chunk.length chunk.behind ≡ false
    → behind_so rest_at (behind_data chunk.offset chunk.length chunk.behind more) ≡ rest_at (chunk.offset + 8 + chunk.length) chunk.behind more
unpadded chunk more e =
    ap (behind_so rest_at) (cond_false (is_padded chunk.length chunk.behind) (pad_at chunk.offset (chunk.offset + 9 + chunk.length) chunk.behind more)
    (On (chunk.offset + 8 + chunk.length) chunk.behind more) e)

pub padded : (chunk : OpenChunk) (more : List ℕ) → is_padded chunk.length chunk.behind ≡ true
    → behind_so rest_at (behind_data chunk.offset chunk.length chunk.behind more)
    ≡ behind_so rest_at (pad_at chunk.offset (chunk.offset + 9 + chunk.length) chunk.behind more)
padded chunk more e =
    ap (behind_so rest_at) (cond_true (is_padded chunk.length chunk.behind) (pad_at chunk.offset (chunk.offset + 9 + chunk.length) chunk.behind more)
    (On (chunk.offset + 8 + chunk.length) chunk.behind more) e)

pub end_unpadded : (chunk : OpenChunk) (got : Gathered) (piece : List ℕ) → IsChunk chunk → is_padded chunk.length chunk.behind ≡ false → gathered got ≡ []
    → IsGathering got 8
    → Feeds (stage.DataEnd chunk) piece
    (record {
      used = 0;
      stage = stage.Header (record { offset = chunk.offset + 8 + chunk.length; left = chunk.behind; is_first = false }) got;
      step = step.ChunkEnd;
    })
end_unpadded chunk got piece fits e none empty = record {
  sound = (fits, empty);
  within = omega arith;
  fits = tt;
  stays = tt;
  spends = (refl, refl);
  quiet = λ taken told fewer s few. absurd (omega arith);
  told = λ taken told s.
      subst (λ t. AtChunk t (told ++ ChunkEnd ∷ []) (record { offset = chunk.offset + 8 + chunk.length; left = chunk.behind; is_first = false }) (gathered got))
      (sym (append-nil taken)) (record {
        whole = s.whole ++ chunk_of s.id chunk s.bytes ∷ [];
        first = sym (some_chunk s.whole (chunk_of s.id chunk s.bytes));
        in_form =
            with_chunk taken told chunk s _
            (λ more. unpadded chunk more e ∙ ap (λ g. rest_at (chunk.offset + 8 + chunk.length) chunk.behind (g ++ more)) (sym none));
      });
}

pub end_padded : (chunk : OpenChunk) (piece : List ℕ) → IsChunk chunk → is_padded chunk.length chunk.behind ≡ true
    → Feeds (stage.DataEnd chunk) piece (record { used = 0; stage = stage.Pad chunk; step = step.ChunkEnd })
end_padded chunk piece fits e = record {
  sound = (fits, e);
  within = omega arith;
  fits = tt;
  stays = tt;
  spends = (refl, refl);
  quiet = λ taken told fewer s few. absurd (omega arith);
  told = λ taken told s.
      subst (λ t. BeforePad t (told ++ ChunkEnd ∷ []) chunk) (sym (append-nil taken)) (record {
        whole = s.whole ++ chunk_of s.id chunk s.bytes ∷ [];
        some = some_chunk s.whole (chunk_of s.id chunk s.bytes);
        in_form = with_chunk taken told chunk s _ (λ more. padded chunk more e);
      });
}

pad_quiet : (chunk : OpenChunk) (taken : List ℕ) (told : List Event) → BeforePad taken told chunk → AllTold (taken ++ []) told
pad_quiet chunk taken told s = in_form_quiet taken told s.whole [] _ [] (InPad chunk.offset (eqb chunk.behind 1)) s.in_form refl refl tt

pub pad_waits : (chunk : OpenChunk) (piece : List ℕ) → length piece ≡ 0 → IsChunk chunk → is_padded chunk.length chunk.behind ≡ true
    → Feeds (stage.Pad chunk) piece (record { used = length piece; stage = stage.Pad chunk; step = step.NeedBytes })
pad_waits chunk [] none fits e =
    feeds_more (stage.Pad chunk) (stage.Pad chunk) [] (fits, e)
    (λ taken told s. subst (λ t. BeforePad t told chunk) (sym (append-nil taken)) s)
    (λ taken told fewer s few. subst (λ n. AllTold (taken ++ take n []) told) (zero_is fewer few) (pad_quiet chunk taken told s))
    tt
  where
    zero_is : (fewer : ℕ) → fewer ≤ 0 → 0 ≡ fewer
    zero_is fewer few = omega arith
pad_waits chunk (p ∷ piece) none fits e = absurd (omega arith)

pub pad_leads : (chunk : OpenChunk) (got : Gathered) (piece : List ℕ) → 0 < length piece → gathered got ≡ []
    → Leads (stage.Pad chunk) (stage.Header (record { offset = chunk.offset + 9 + chunk.length; left = chunk.behind - 1; is_first = false }) got) piece 1
pad_leads chunk got [] some none = absurd (omega arith)
pad_leads chunk got (p ∷ piece) some none = record {
  inside = omega arith;
  stands = λ taken told s. record {
    whole = s.whole;
    first = sym s.some;
    in_form =
        in_form_same (taken ++ p ∷ []) told s.whole [] _ _
        (in_form_moved taken told s.whole [] (λ m. behind_so rest_at (pad_at chunk.offset (chunk.offset + 9 + chunk.length) chunk.behind m)) (p ∷ []) s.in_form)
        (λ more. ap (λ g. rest_at (chunk.offset + 9 + chunk.length) (chunk.behind - 1) (g ++ more)) (sym none));
  };
  quiet = λ taken told fewer s few. subst (λ n. AllTold (taken ++ take n (p ∷ piece)) told) (zero_is fewer few) (pad_quiet chunk taken told s);
}
  where
    zero_is : (fewer : ℕ) → fewer < 1 → 0 ≡ fewer
    zero_is fewer few = omega arith
