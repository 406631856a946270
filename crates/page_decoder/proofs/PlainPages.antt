-- Plain pages: both of their readings go through the same chunks, one by one.
use Rattle.std.proofs.Common.{◌≡◌, ◌≢◌, ◌≤◌, ◌+◌, ℕ, zero, suc, Bool, true, false, cond, ◌||◌, leb, ltb, ◌==◌, Option, Some, None, is_some, ◌⊎◌, inl, inr, List, [], ◌∷◌, ◌++◌, length, map, slice_get, refl, sym, ap, ◌∙◌, subst, append_assoc, arith}
use Rattle.std.proofs.lemmas.List.{append-nil, map-append}
use Rattle.djvu_base.specs.declared.faults.FaultKind.{FaultKind}
use Rattle.djvu_base.specs.declared.faults.FaultKind.TheVariants as fault
use Rattle.djvu_base.specs.declared.turns.Turn.TheVariants.{Upright}
use Rattle.djvu_base.specs.Turn.{turn_of}
use Rattle.iff_chunks.specs.Chunks.{Chunk, Tail, InHead, InHeader, InData, InPad, FormEnd, Broken}
use Rattle.zp_table.specs.Rows.{IsTable}
use Rattle.iw44_image.specs.Layer.{data_of}
use Rattle.layer_compose.specs.declared.layers.Layers.{Layers}
use Rattle.page_decoder.specs.Kinds.{ChunkKind, kind_of}
use Rattle.page_decoder.specs.Kinds as kind
use Rattle.page_decoder.specs.Reading as short
use Rattle.page_decoder.specs.Given.{Page, Home, Known}
use Rattle.page_decoder.specs.PageRead.{Ending, Finished, NeedBytes, Include, Decoded, Left, PageRead}
use Rattle.page_decoder.specs.Headers.{head_of, first_fault, later_fault, page_fault, header_fault}
use Rattle.page_decoder.specs.ChunkData.{Outcome, came_by, came}
use Rattle.page_decoder.specs.Acts.{Over, complete_acts, tail_acts, close_of}
use Rattle.page_decoder.specs.Read.{On, and_then, after, counting, nothing_pending, with_chunk, drawing_by, refused_at, resolved, resolved_before, at_header, at_outcome, at_data, finished, at_over, at_close, read_from, read}
use Rattle.page_decoder.specs.Plain.{IsPlainKind, IsUpright, IsPlain, ArePlain, EndsPlain, notice_in, end_in}
use Rattle.page_decoder.proofs.Finishing.{FirstIsFull}
use Rattle.page_decoder.proofs.PlainChunks.{refused_so, passed_so, info_id, mask_id, first_header, later_header, Agrees, SameData, RecordsEnd, IsBare, first_data, later_data, fails, leaves, unfinished}

-- ---- both readings

pub record Follows (home : Home) (left : Left) (it : short.Reading) (read : PageRead) : Type 0 where
  pub notices : map notice_in read.left.told.drawings ≡ map notice_in left.told.drawings ++ it.notices
  pub decisions : read.left.told.decisions ≡ left.told.decisions + it.decisions
  pub reached : read.left.told.reached ≡ left.told.reached
  pub end : read.end ≡ end_in home.file it.end

not_first : (n : ℕ) → (suc n == 0) ≡ false
not_first n = grind (arith)

no_more : (n : ℕ) → n ≡ n + 0
no_more n = grind (arith)

-- both end here
pub both_end : (home : Home) (left : Left) (end : Ending) (it : short.Ending) → end ≡ end_in home.file it
    → Follows home left (short.ends it 0) (record { left = left; end = end })
both_end home left end it e =
    record { notices = sym (append-nil (map notice_in left.told.drawings)); decisions = no_more left.told.decisions; reached = refl; end = e }

refuses : (home : Home) (left : Left) (kind : FaultKind) (offset n : ℕ)
    → Follows home left (short.stopped kind offset n) (record { left = counting n left; end = refused_at home kind offset })
refuses home left kind offset n = record { notices = sym (append-nil (map notice_in left.told.drawings)); decisions = refl; reached = refl; end = refl }

-- a drawing that a chunk brings

none_drawn : (info mask : Bool) (chunks : ℕ) (layers : Option Layers) (notices : List short.Notice) → info ≡ false → mask ≡ false
    → short.notice_by (info || mask) chunks layers notices ≡ notices
none_drawn false false chunks layers notices e f = refl
none_drawn true mask chunks layers notices e f = absurd (cc)
none_drawn false true chunks layers notices e f = absurd (cc)

one_drawn : (chunks decisions : ℕ) (layers : Option Layers) (notices : List short.Notice)
    → map notice_in (drawing_by kind.Info chunks decisions layers) ++ notices ≡ short.notice_by true chunks layers notices
one_drawn chunks decisions None notices = refl
one_drawn chunks decisions (Some layers) notices = refl

drawn_too : (of : ChunkKind) (id : List ℕ) (chunks decisions : ℕ) (layers : Option Layers) (notices : List short.Notice) → kind_of id ≡ of → IsPlainKind of
    → map notice_in (drawing_by of chunks decisions layers) ++ notices ≡ short.notice_by (short.is_drawn id) chunks layers notices
drawn_too kind.Info id chunks decisions layers notices e plain =
    subst (λ i. map notice_in (drawing_by kind.Info chunks decisions layers) ++ notices ≡ short.notice_by (short.is_drawn i) chunks layers notices)
    (sym (info_id id e)) (one_drawn chunks decisions layers notices)
drawn_too kind.Include id chunks decisions layers notices e plain = absurd plain
drawn_too kind.Dictionary id chunks decisions layers notices e plain = absurd plain
drawn_too kind.Mask id chunks decisions layers notices e plain =
    subst (λ i. map notice_in (drawing_by kind.Mask chunks decisions layers) ++ notices ≡ short.notice_by (short.is_drawn i) chunks layers notices)
    (sym (mask_id id e)) (one_drawn chunks decisions layers notices)
drawn_too kind.Front id chunks decisions layers notices e plain = absurd plain
drawn_too kind.Back id chunks decisions layers notices e plain = absurd plain
drawn_too kind.Refused id chunks decisions layers notices e plain =
    let other = refused_so _ _ _ _ _ _ _ e in sym (none_drawn _ _ chunks layers notices other.no_info other.no_mask)
drawn_too kind.Passed id chunks decisions layers notices e plain =
    let other = passed_so _ _ _ _ _ _ _ e in sym (none_drawn _ _ chunks layers notices other.no_info other.no_mask)

sum_of_three : (a b c : ℕ) → (a + b) + c ≡ a + (b + c)
sum_of_three a b c = grind (arith)

-- the reading behind a chunk, and with it
with_one : (home : Home) (chunk : Chunk) (of : ChunkKind) (n : ℕ) (layers : Option Layers) (left : Left) (rest : short.Reading) (read : PageRead)
    → kind_of chunk.id ≡ of → IsPlainKind of
    → Follows home (with_chunk (head_of chunk) n (record left.decoded { layers = layers }) left) rest read
    → Follows home left (short.with_chunk chunk (suc left.chunks) (record { fault = None; layers = layers; decisions = n }) rest) read
with_one home chunk of n layers left rest read e plain f =
    let before = left.told.drawings in
    let brought = drawing_by (kind_of chunk.id) (suc left.chunks) (left.told.decisions + n) layers in
    record {
      notices = f.notices ∙ ap (λ l. l ++ rest.notices) (map-append notice_in before brought)
          ∙ append_assoc (map notice_in before) (map notice_in brought) rest.notices
          ∙ ap (λ l. map notice_in before ++ l)
          (ap (λ k. map notice_in (drawing_by k (suc left.chunks) (left.told.decisions + n) layers) ++ rest.notices) e
          ∙ drawn_too of chunk.id (suc left.chunks) (left.told.decisions + n) layers rest.notices e plain);
      decisions = f.decisions ∙ sum_of_three left.told.decisions n rest.decisions;
      reached = f.reached;
      end = f.end;
    }

-- the FORM hasn't ended
abbrev pub IsNotOver : Tail → Type 0
IsNotOver InHead = Unit {0}
IsNotOver (InHeader offset bytes) = Unit {0}
IsNotOver (InData chunk) = Unit {0}
IsNotOver (InPad offset is_last) = Unit {0}
IsNotOver FormEnd = ⊥
IsNotOver (Broken kind offset) = Unit {0}

module _ (home : Home) where
  -- behind the data of a complete chunk
  complete_follows : (chunk : Chunk) (of : ChunkKind) (left : Left) (f : Option FaultKind) (layers : Option Layers) (n : ℕ) (outcome : Outcome)
      → kind_of chunk.id ≡ of → IsPlainKind of → Agrees true left.decoded f layers outcome
      → (rest : Option Layers → short.Reading) (on : Left → PageRead)
      → ((laid : Layers) → Follows home (with_chunk (head_of chunk) n (record left.decoded { layers = Some laid }) left) (rest (Some laid))
      (on (with_chunk (head_of chunk) n (record left.decoded { layers = Some laid }) left)))
      → Follows home left (short.after_chunk f chunk (suc left.chunks) (record { fault = f; layers = layers; decisions = n }) rest)
      (after (at_outcome home (head_of chunk) n outcome left) on)
  complete_follows chunk of left _ _ n _ e plain (fails kind layers) rest on then = refuses home left kind chunk.offset n
  complete_follows chunk of left _ _ n _ e plain (leaves layers ended) rest on then =
      with_one home chunk of n (Some layers) left (rest (Some layers)) _ e plain (then layers)
  complete_follows chunk of left _ _ n _ e plain (unfinished layers ended) rest on then = absurd (cc)

  -- behind those of a chunk that is cut
  cut_follows : (chunk : Chunk) (left : Left) (f : Option FaultKind) (layers : Option Layers) (n : ℕ) (outcome : Outcome)
      → Agrees false left.decoded f layers outcome → (end : short.Ending) (on : Left → PageRead)
      → ((m : ℕ) → Follows home (counting m left) (short.ends end 0) (on (counting m left)))
      → Follows home left (short.cut_by f chunk.offset end n) (after (at_outcome home (head_of chunk) n outcome left) on)
  cut_follows chunk left _ _ n _ (fails kind layers) end on then = refuses home left kind chunk.offset n
  cut_follows chunk left _ _ n _ (leaves layers ended) end on then = absurd (cc)
  cut_follows chunk left _ _ n _ (unfinished layers ended) end on then =
      let f = then n in record { notices = f.notices; decisions = f.decisions ∙ sym (no_more (left.told.decisions + n)); reached = f.reached; end = f.end }

  module _ (known : Known) where
    nothing_was_pending : (left : Left) → left.decoded.pending ≡ [] → nothing_pending left ≡ left
    nothing_was_pending left e = ap (λ all. record left { decoded = record left.decoded { pending = all } }) (sym e)

    resolves : (left : Left) (pending : List Include) → left.decoded.pending ≡ [] → pending ≡ [] → resolved home known pending left ≡ On left
    resolves left [] e p = ap On (nothing_was_pending left e)
    resolves left (include ∷ includes) e p = absurd (cc)

    no_include_before : (of : ChunkKind) (left : Left) → IsPlainKind of → left.decoded.pending ≡ [] → resolved_before of home known left ≡ On left
    no_include_before kind.Info left plain e = refl
    no_include_before kind.Include left plain e = absurd plain
    no_include_before kind.Dictionary left plain e = absurd plain
    no_include_before kind.Mask left plain e = resolves left left.decoded.pending e e
    no_include_before kind.Front left plain e = absurd plain
    no_include_before kind.Back left plain e = absurd plain
    no_include_before kind.Refused left plain e = refl
    no_include_before kind.Passed left plain e = refl

    -- ---- the end

    pub not_over : (end : Tail) (origin : ℕ) (left : Left) → IsNotOver end
        → Follows home left (short.ends (short.ending_of end) 0) (at_close home known (close_of origin end) left)
    not_over InHead origin left n = both_end home left NeedBytes short.NeedBytes refl
    not_over (InHeader offset bytes) origin left n = both_end home left NeedBytes short.NeedBytes refl
    not_over (InData chunk) origin left n = both_end home left NeedBytes short.NeedBytes refl
    not_over (InPad offset is_last) origin left n = both_end home left NeedBytes short.NeedBytes refl
    not_over FormEnd origin left n = absurd n
    not_over (Broken kind offset) origin left n = both_end home left (refused_at home kind offset) (short.Fault kind offset) refl

    module _ (page : home.role ≡ Page) where
      over_at : (done origin : ℕ) (left : Left) → left.chunks ≡ done → left.decoded.pending ≡ []
          → Follows home left (short.ends (short.at_end done origin short.Finished) 0) (at_close home known (Over origin) left)
      over_at done origin left c e =
          subst (λ role. Follows home left (short.ends (short.at_end done origin short.Finished) 0)
          (at_over role left.chunks home known origin left)) (sym page)
          (subst (λ count. Follows home left (short.ends (short.at_end done origin short.Finished) 0) (at_over Page count home known origin left)) (sym c)
          (by done))
        where
          by : (done : ℕ) → Follows home left (short.ends (short.at_end done origin short.Finished) 0) (at_over Page done home known origin left)
          by zero = both_end home left (refused_at home fault.NoInfo origin) (short.Fault fault.NoInfo origin) refl
          by (suc done) =
              subst (λ step. Follows home left (short.ends short.Finished 0) (after step finished)) (sym (resolves left left.decoded.pending e e))
              (both_end home left Finished short.Finished refl)

      at_need : (done place : ℕ) (left : Left)
          → Follows home left (short.ends (short.at_end done place short.NeedBytes) 0) (record { left = left; end = NeedBytes })
      at_need zero place left = both_end home left NeedBytes short.NeedBytes refl
      at_need (suc done) place left = both_end home left NeedBytes short.NeedBytes refl

      -- behind all chunks, none of which is cut
      closes : (end : Tail) (done origin place : ℕ) (left : Left) → left.chunks ≡ done → left.decoded.pending ≡ [] → (end ≡ FormEnd → origin ≡ place)
          → Follows home left (short.ends (short.at_end done place (short.ending_of end)) 0) (at_close home known (close_of origin end) left)
      closes FormEnd done origin place left c e o =
          subst (λ p. Follows home left (short.ends (short.at_end done p short.Finished) 0) (at_close home known (Over origin) left)) (o refl)
          (over_at done origin left c e)
      closes InHead done origin place left c e o = at_need done place left
      closes (InHeader offset bytes) done origin place left c e o = at_need done place left
      closes (InData chunk) done origin place left c e o = at_need done place left
      closes (InPad offset is_last) done origin place left c e o = at_need done place left
      closes (Broken kind offset) done origin place left c e o = at_fault done
        where
          at_fault : (done : ℕ) → Follows home left (short.ends (short.at_end done place (short.Fault kind offset)) 0)
              (record { left = left; end = refused_at home kind offset })
          at_fault zero = both_end home left (refused_at home kind offset) (short.Fault kind offset) refl
          at_fault (suc done) = both_end home left (refused_at home kind offset) (short.Fault kind offset) refl

      -- ---- a chunk

      -- a page begins with an INFO
      first_kind : (of : ChunkKind) (size : ℕ) → first_fault of size ≡ None → of ≡ kind.Info
      first_kind kind.Info size e = refl
      first_kind kind.Include size e = absurd (cc)
      first_kind kind.Dictionary size e = absurd (cc)
      first_kind kind.Mask size e = absurd (cc)
      first_kind kind.Front size e = absurd (cc)
      first_kind kind.Back size e = absurd (cc)
      first_kind kind.Refused size e = absurd (cc)
      first_kind kind.Passed size e = absurd (cc)

      long_enough : (size : ℕ) (brief : Bool) → ltb size 5 ≡ brief → cond brief (Some fault.BadInfo) None ≡ None → 5 ≤ size
      long_enough size true s e = absurd (cc)
      long_enough size false s e = grind (arith)

      all_there : (bytes : List ℕ) (size : ℕ) → length bytes ≡ size → 5 ≤ size → leb 4 (length bytes) ≡ true
      all_there bytes size e m = grind (arith)

      not_info : (of : ChunkKind) (decoded : Decoded) → later_fault decoded of ≡ None → of ≢ kind.Info
      not_info kind.Info decoded e same = cc
      not_info kind.Include decoded e same = cc
      not_info kind.Dictionary decoded e same = cc
      not_info kind.Mask decoded e same = cc
      not_info kind.Front decoded e same = cc
      not_info kind.Back decoded e same = cc
      not_info kind.Refused decoded e same = cc
      not_info kind.Passed decoded e same = cc

      -- what the page has: no chunk, or its size behind so many
      pub data Stands : ℕ → Option Layers → Left → Type 0 where
        at_first : (left : Left) → left.chunks ≡ 0 → left.decoded.layers ≡ None → Stands 0 None left
        behind : (done : ℕ) (layers : Layers) (left : Left) → left.chunks ≡ suc done → left.decoded.layers ≡ Some layers → Stands (suc done) (Some layers) left

      chunks_are : (done : ℕ) (layers : Option Layers) (left : Left) → Stands done layers left → left.chunks ≡ done
      chunks_are _ _ _ (at_first left c l) = c
      chunks_are _ _ _ (behind done layers left c l) = c

      -- the header of a chunk
      same_fault : (done : ℕ) (layers : Option Layers) (left : Left) (chunk : Chunk) → Stands done layers left → IsPlainKind (kind_of chunk.id)
          → header_fault home.role left (head_of chunk)
          ≡ short.header_fault (done == 0) (is_some (short.mask_in layers)) chunk.id chunk.size
      same_fault _ _ _ chunk (at_first left c l) plain =
          ap (λ role. header_fault role left (head_of chunk)) page
          ∙ ap (λ n. page_fault n left.decoded (head_of chunk)) c ∙ sym (first_header _ chunk.id chunk.size refl plain)
      same_fault _ _ _ chunk (behind done layers left c l) plain =
          ap (λ role. header_fault role left (head_of chunk)) page
          ∙ ap (λ n. page_fault n left.decoded (head_of chunk)) c ∙ sym (later_header _ chunk.id chunk.size layers left.decoded refl plain l)
          ∙ ap (λ first. short.header_fault first (is_some layers.mask) chunk.id chunk.size) (sym (not_first done))

      module _ (law : RecordsEnd) (is : IsTable home.table) where
        -- data behind a header that is right
        same_data : (done : ℕ) (layers : Option Layers) (left : Left) (chunk : Chunk) (ended : Bool) → Stands done layers left → IsBare left.decoded
            → IsPlainKind (kind_of chunk.id) → (ended ≡ true → IsUpright (kind_of chunk.id) chunk.bytes)
            → (ended ≡ true → done ≡ 0 → length chunk.bytes ≡ chunk.size)
            → short.header_fault (done == 0) (is_some (short.mask_in layers)) chunk.id chunk.size ≡ None
            → SameData ended left.decoded (short.data_came home.table ended layers chunk.id chunk.bytes)
            (came home.table (head_of chunk) (data_of chunk.bytes ended) left.decoded)
        same_data _ _ _ chunk ended (at_first left c l) bare plain up all f =
            let first : first_fault (kind_of chunk.id) chunk.size ≡ None = sym (first_header _ chunk.id chunk.size refl plain) ∙ f in
            let of = first_kind (kind_of chunk.id) chunk.size first in
            let long = long_enough chunk.size (ltb chunk.size 5) refl (ap (λ k. first_fault k chunk.size) (sym of) ∙ first) in
            subst (λ k. SameData ended left.decoded (short.data_came home.table ended None chunk.id chunk.bytes)
            (came_by k home.table (data_of chunk.bytes ended) chunk.offset left.decoded)) (sym of)
            (first_data law home.table is chunk.id chunk.bytes ended chunk.offset left.decoded of l (λ e. all_there chunk.bytes chunk.size (all e refl) long)
            (upright ended (λ e. subst (λ k. IsUpright k chunk.bytes) of (up e))))
          where
            upright : (ended : Bool) → (ended ≡ true → turn_of (slice_get chunk.bytes 9) ≡ Upright)
                → turn_of (slice_get chunk.bytes 9) ≡ Upright ⊎ (ended ≡ false)
            upright true u = inl (u refl)
            upright false u = inr refl
        same_data _ _ _ chunk ended (behind done layers left c l) bare plain up all f =
            later_data law home.table is (kind_of chunk.id) chunk.id chunk.bytes ended chunk.offset layers left.decoded refl plain
            (not_info (kind_of chunk.id) left.decoded (sym (later_header _ chunk.id chunk.size layers left.decoded refl plain l)
            ∙ ap (λ first. short.header_fault first (is_some layers.mask) chunk.id chunk.size) (sym (not_first done)) ∙ f)) l bare

        -- the two readings of a chunk, by what is wrong with its header
        complete_chunk : (f : Option FaultKind) (done : ℕ) (layers : Option Layers) (left : Left) (chunk : Chunk) → Stands done layers left
            → IsBare left.decoded → IsPlain chunk → (done ≡ 0 → length chunk.bytes ≡ chunk.size)
            → short.header_fault (done == 0) (is_some (short.mask_in layers)) chunk.id chunk.size ≡ f
            → (rest : Option Layers → short.Reading) (on : Left → PageRead)
            → ((laid : Layers) (n : ℕ) → Follows home (with_chunk (head_of chunk) n (record left.decoded { layers = Some laid }) left) (rest (Some laid))
            (on (with_chunk (head_of chunk) n (record left.decoded { layers = Some laid }) left)))
            → Follows home left (short.after_came (short.came_by f home.table true layers chunk.id chunk.bytes) chunk (suc left.chunks) rest)
            (after (and_then (at_header home known (head_of chunk) f left) (at_data home (head_of chunk) (data_of chunk.bytes true))) on)
        complete_chunk (Some kind) done layers left chunk stands bare plain full e rest on then =
            both_end home left (refused_at home kind chunk.offset) (short.Fault kind chunk.offset) refl
        complete_chunk None done layers left chunk stands bare plain full e rest on then =
            let same = same_data done layers left chunk true stands bare plain.of (λ t. plain.upright) (λ t. full) e in
            let old = short.data_came home.table true layers chunk.id chunk.bytes in
            let new = came home.table (head_of chunk) (data_of chunk.bytes true) left.decoded in
            subst (λ step. Follows home left (short.after_came old chunk (suc left.chunks) rest)
            (after (and_then step (at_data home (head_of chunk) (data_of chunk.bytes true))) on))
            (sym (no_include_before (kind_of chunk.id) left plain.of bare.none_pending))
            (subst (λ n. Follows home left (short.after_came old chunk (suc left.chunks) rest) (after (at_outcome home (head_of chunk) n new.outcome left) on))
            (sym same.decisions)
            (complete_follows chunk (kind_of chunk.id) left old.fault old.layers old.decisions new.outcome refl plain.of same.agrees rest on
            (λ laid. then laid old.decisions)))

        cut_chunk : (f : Option FaultKind) (done : ℕ) (layers : Option Layers) (left : Left) (chunk : Chunk) → Stands done layers left
            → IsBare left.decoded → IsPlainKind (kind_of chunk.id)
            → short.header_fault (done == 0) (is_some (short.mask_in layers)) chunk.id chunk.size ≡ f
            → (end : short.Ending) (on : Left → PageRead) → ((m : ℕ) → Follows home (counting m left) (short.ends end 0) (on (counting m left)))
            → Follows home left (short.cut_chunk (short.came_by f home.table false layers chunk.id chunk.bytes) chunk.offset end)
            (after (and_then (at_header home known (head_of chunk) f left) (at_data home (head_of chunk) (data_of chunk.bytes false))) on)
        cut_chunk (Some kind) done layers left chunk stands bare plain e end on then =
            both_end home left (refused_at home kind chunk.offset) (short.Fault kind chunk.offset) refl
        cut_chunk None done layers left chunk stands bare plain e end on then =
            let same = same_data done layers left chunk false stands bare plain (λ t. absurd (cc)) (λ t. absurd (cc)) e in
            let old = short.data_came home.table false layers chunk.id chunk.bytes in
            let new = came home.table (head_of chunk) (data_of chunk.bytes false) left.decoded in
            subst (λ step. Follows home left (short.cut_chunk old chunk.offset end)
            (after (and_then step (at_data home (head_of chunk) (data_of chunk.bytes false))) on))
            (sym (no_include_before (kind_of chunk.id) left plain bare.none_pending))
            (subst (λ n. Follows home left (short.cut_chunk old chunk.offset end) (after (at_outcome home (head_of chunk) n new.outcome left) on))
            (sym same.decisions) (cut_follows chunk left old.fault old.layers old.decisions new.outcome same.agrees end on then))

        -- ---- all chunks

        module _ (end : Tail) (origin place : ℕ) (ends_there : end ≡ FormEnd → origin ≡ place) where
          tail_follows : (tail : Tail) (done : ℕ) (layers : Option Layers) (left : Left) → Stands done layers left → IsBare left.decoded → EndsPlain tail
              → ((chunk : Chunk) → tail ≡ InData chunk → IsNotOver end)
              → Follows home left (short.read_tail home.table place tail (short.ending_of end) done layers)
              (read_from home known (close_of origin end) (tail_acts tail) left)
          tail_follows InHead done layers left stands bare plain open_ =
              closes end done origin place left (chunks_are done layers left stands) bare.none_pending ends_there
          tail_follows (InHeader offset bytes) done layers left stands bare plain open_ =
              closes end done origin place left (chunks_are done layers left stands) bare.none_pending ends_there
          tail_follows (InData chunk) done layers left stands bare plain open_ =
              subst (λ f. Follows home left (short.read_tail home.table place (InData chunk) (short.ending_of end) done layers)
              (after (and_then (at_header home known (head_of chunk) f left) (at_data home (head_of chunk) (data_of chunk.bytes false)))
              (at_close home known (close_of origin end))))
              (sym (same_fault done layers left chunk stands plain))
              (cut_chunk _ done layers left chunk stands bare plain refl (short.ending_of end) (at_close home known (close_of origin end))
              (λ m. not_over end origin (counting m left) (open_ chunk refl)))
          tail_follows (InPad offset is_last) done layers left stands bare plain open_ =
              closes end done origin place left (chunks_are done layers left stands) bare.none_pending ends_there
          tail_follows FormEnd done layers left stands bare plain open_ =
              closes end done origin place left (chunks_are done layers left stands) bare.none_pending ends_there
          tail_follows (Broken kind offset) done layers left stands bare plain open_ =
              closes end done origin place left (chunks_are done layers left stands) bare.none_pending ends_there

          pub chunks_follow : (whole : List Chunk) (tail : Tail) (done : ℕ) (layers : Option Layers) (left : Left) → Stands done layers left
              → IsBare left.decoded → ArePlain whole → EndsPlain tail → (done ≡ 0 → FirstIsFull whole) → ((chunk : Chunk) → tail ≡ InData chunk → IsNotOver end)
              → Follows home left (short.read_chunks home.table done layers whole (short.read_tail home.table place tail (short.ending_of end)))
              (read_from home known (close_of origin end) (complete_acts whole ++ tail_acts tail) left)
          chunks_follow [] tail done layers left stands bare plain ends full open_ = tail_follows tail done layers left stands bare ends open_
          chunks_follow (chunk ∷ whole) tail done layers left stands bare plain ends full open_ =
              let rest : Option Layers → short.Reading =
              λ next. short.read_chunks home.table (suc done) next whole (short.read_tail home.table place tail (short.ending_of end)) in
              let on : Left → PageRead = read_from home known (close_of origin end) (complete_acts whole ++ tail_acts tail) in
              let count = chunks_are done layers left stands in
              subst (λ f. Follows home left
              (short.after_came (short.came home.table (done == 0) true layers chunk) chunk (suc done) rest)
              (after (and_then (at_header home known (head_of chunk) f left) (at_data home (head_of chunk) (data_of chunk.bytes true))) on))
              (sym (same_fault done layers left chunk stands plain.0.of))
              (subst (λ n. Follows home left (short.after_came (short.came home.table (done == 0) true layers chunk) chunk (suc n) rest)
              (after (and_then (at_header home known (head_of chunk)
              (short.header_fault (done == 0) (is_some (short.mask_in layers)) chunk.id chunk.size) left)
              (at_data home (head_of chunk) (data_of chunk.bytes true))) on)) count
              (complete_chunk _ done layers left chunk stands bare plain.0 full refl rest on
              (λ laid n. chunks_follow whole tail (suc done) (Some laid) (with_chunk (head_of chunk) n (record left.decoded { layers = Some laid }) left)
              (behind done laid _ (ap suc count) refl)
              (record { no_own = bare.no_own; no_inherited = bare.no_inherited; none_pending = bare.none_pending })
              plain.1 ends (λ e. absurd (cc)) open_)))
