-- Plain pages: the readings of a file, from its FORM on.
use Rattle.std.proofs.Common.{◌≡◌, ◌+◌, ℕ, Bool, true, false, cond, Option, Some, None, inl, inr, List, [], ◌∷◌, ◌++◌, length, arith, refl, sym, ap, ◌∙◌, subst}
use Rattle.djvu_base.specs.declared.faults.FaultKind.{FaultKind}
use Rattle.djvu_base.specs.declared.faults.FaultKind.TheVariants as fault
use Rattle.djvu_base.specs.Library.{Mark, Open, Whole}
use Rattle.djvu_base.specs.Library as library
use Rattle.iff_chunks.specs.Chunks.{Form, Chunk, Tail, InHead, InHeader, InData, InPad, FormEnd, Broken, chunks_of, end_of}
use Rattle.iff_chunks.specs.Chunks.{form_word}
use Rattle.iff_chunks.specs.Ends.{closed, broken_off, is_cut, file_end}
use Rattle.iff_chunks.specs.Events.{events_of}
use Rattle.iff_chunks.specs.Layout.{IsPrefix}
use Rattle.iff_chunks.specs.Order.{AtForm, InOrder}
use Rattle.zp_table.specs.Rows.{IsTable}
use Rattle.page_decoder.specs.Reading as short
use Rattle.page_decoder.specs.Given.{Page, Given}
use Rattle.page_decoder.specs.PageRead.{at_start}
use Rattle.page_decoder.specs.Headers.{form_fault}
use Rattle.page_decoder.specs.Acts.{form_acts, complete_acts, tail_acts, origin_of, close_of}
use Rattle.page_decoder.specs.Read.{after, refused_at, at_form, read_from, read}
use Rattle.page_decoder.specs.Plain.{IsPlainPage, IsReadSo}
use Rattle.page_decoder.proofs.Acting.{none_before}
use Rattle.page_decoder.proofs.Finishing.{full_laid}
use Rattle.page_decoder.proofs.Origins.{Headless, headless}
use Rattle.page_decoder.proofs.Sounding.{Container}
use Rattle.page_decoder.proofs.PlainChunks.{RecordsEnd}
use Rattle.page_decoder.proofs.PlainPages.{Follows, both_end, IsNotOver, not_over, at_first, chunks_follow}

none_before_it : (n : ℕ) → 0 + n ≡ n
none_before_it n = grind (arith)

-- a file that is cut in a chunk, or whose FORM isn't there, doesn't end with its FORM

cut_short : (whole : List Chunk) (chunk : Chunk) → end_of whole (InData chunk) ≡ Broken fault.Truncated chunk.offset
cut_short [] chunk = refl
cut_short (first ∷ whole) chunk = refl

data_not_over : (mark : Mark) (arrived : ℕ) (whole : List Chunk) (chunk : Chunk) → IsNotOver (closed mark arrived whole (InData chunk))
data_not_over Open arrived whole chunk = tt
data_not_over Whole arrived whole chunk = subst IsNotOver (sym (cut_short whole chunk)) tt
data_not_over library.Broken arrived whole chunk = subst (λ end. IsNotOver (broken_off arrived end)) (sym (cut_short whole chunk)) tt

cut_at_head : (whole : List Chunk) → end_of whole InHead ≡ Broken fault.Truncated 0
cut_at_head [] = refl
cut_at_head (first ∷ whole) = refl

still_broken : (whole : List Chunk) (kind : FaultKind) (offset : ℕ) → end_of whole (Broken kind offset) ≡ Broken kind offset
still_broken [] kind offset = refl
still_broken (first ∷ whole) kind offset = refl

either_broken : (cut : Bool) (arrived : ℕ) (kind : FaultKind) (offset : ℕ) → IsNotOver (cond cut (Broken fault.Read arrived) (Broken kind offset))
either_broken true arrived kind offset = tt
either_broken false arrived kind offset = tt

head_not_over : (mark : Mark) (arrived : ℕ) (whole : List Chunk) (tail : Tail) → Headless tail → IsNotOver (closed mark arrived whole tail)
head_not_over Open arrived whole InHead h = tt
head_not_over Whole arrived whole InHead h = subst IsNotOver (sym (cut_at_head whole)) tt
head_not_over library.Broken arrived whole InHead h = subst (λ end. IsNotOver (broken_off arrived end)) (sym (cut_at_head whole)) tt
head_not_over Open arrived whole (Broken kind offset) h = tt
head_not_over Whole arrived whole (Broken kind offset) h = subst IsNotOver (sym (still_broken whole kind offset)) tt
head_not_over library.Broken arrived whole (Broken kind offset) h =
    subst (λ end. IsNotOver (broken_off arrived end)) (sym (still_broken whole kind offset)) (either_broken (is_cut kind) arrived kind offset)
head_not_over mark arrived whole (InHeader offset bytes) h = absurd h
head_not_over mark arrived whole (InData chunk) h = absurd h
head_not_over mark arrived whole (InPad offset is_last) h = absurd h
head_not_over mark arrived whole FormEnd h = absurd h

-- where the FORM's first chunk may begin

by_prefix : (bytes prefix rest : List ℕ) (offset : ℕ) → bytes ≡ prefix ++ (form_word ++ rest) → IsPrefix prefix → offset ≡ length prefix
    → offset + 12 ≡ short.chunks_place bytes
by_prefix bytes prefix rest offset e (inl p) o =
    ap (λ n. n + 12) (o ∙ ap length p) ∙ sym (ap short.chunks_place (e ∙ ap (λ x. x ++ (form_word ++ rest)) p))
by_prefix bytes prefix rest offset e (inr p) o =
    ap (λ n. n + 12) (o ∙ ap length p) ∙ sym (ap short.chunks_place (e ∙ ap (λ x. x ++ (form_word ++ rest)) p))

module _ (law : Container) (records : RecordsEnd) (given : Given) (is : IsTable given.home.table) (page : given.home.role ≡ Page)
    (plain : IsPlainPage (chunks_of given.bytes)) where
  abbrev end : Tail
  end = file_end given.mark given.bytes

  abbrev whole : List Chunk
  whole = (chunks_of given.bytes).whole

  abbrev tail : Tail
  tail = (chunks_of given.bytes).tail

  by_kind : (form : Form) → (chunks_of given.bytes).form ≡ Some form → (f : Option FaultKind)
      → Follows given.home at_start
      (short.read_page f given.home.table (short.chunks_place given.bytes) whole tail (short.ending_of end))
      (after (at_form given.home f at_start) (read_from given.home given.known (close_of (form.offset + 12) end) (complete_acts whole ++ tail_acts tail)))
  by_kind form e (Some kind) = both_end given.home at_start (refused_at given.home kind 0) (short.Fault kind 0) refl
  by_kind form e None =
      let laid = law.laid given.bytes form e in
      let place = by_prefix given.bytes laid.prefix _ form.offset laid.same laid.may_lead laid.place in
      chunks_follow given.home given.known page records is end (form.offset + 12) (short.chunks_place given.bytes) (λ over. place)
      whole tail 0 None at_start (at_first at_start refl refl) (record { no_own = refl; no_inherited = refl; none_pending = refl })
      plain.whole plain.tail (λ first. full_laid _ _ whole tail _ laid.body)
      (λ chunk is_open. subst (λ t. IsNotOver (closed given.mark (length given.bytes) whole t)) (sym is_open)
      (data_not_over given.mark (length given.bytes) whole chunk))

  by_form : (form : Option Form) → (chunks_of given.bytes).form ≡ form
      → Follows given.home at_start
      (short.read_form form given.home.table (short.chunks_place given.bytes) whole tail (short.ending_of end))
      (read_from given.home given.known (close_of (origin_of form) end) (form_acts form ++ (complete_acts whole ++ tail_acts tail)) at_start)
  by_form None e =
      let order = subst (λ f. InOrder AtForm (events_of (record { form = f; whole = whole; tail = tail }))) e (law.order given.bytes) in
      subst (λ acts. Follows given.home at_start (short.ends (short.ending_of end) 0)
      (read_from given.home given.known (close_of 0 end) acts at_start)) (sym (none_before whole tail order))
      (not_over given.home given.known end 0 at_start (head_not_over given.mark (length given.bytes) whole tail (headless given.bytes e)))
  by_form (Some form) e =
      subst (λ role. Follows given.home at_start
      (short.read_page (short.kind_fault form.kind) given.home.table (short.chunks_place given.bytes) whole tail (short.ending_of end))
      (after (at_form given.home (form_fault role form.kind) at_start)
      (read_from given.home given.known (close_of (form.offset + 12) end) (complete_acts whole ++ tail_acts tail)))) (sym page)
      (by_kind form e (short.kind_fault form.kind))

  pub read_so : IsReadSo given.home.file (short.reading given.home.table given.mark given.bytes) (read given)
  read_so =
      let both = by_form (chunks_of given.bytes).form refl in
      record { notices = both.notices; decisions = both.decisions ∙ none_before_it _; reached = both.reached; end = both.end }
