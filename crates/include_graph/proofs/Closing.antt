-- A reader that answers a piece, or the file's end.
use Rattle.std.proofs.Common.{◌≡◌, ℕ, ◌+◌, ◌<◌, ◌^◌, Bool, true, false, List, ◌++◌, length, Some, None, IsSome, Result, Ok, Err, IfOk, refl, sym, ap, ◌∙◌, subst, arith, cond, length-append}
use Rattle.std.specs.declared.alloc.AllocError.{AllocError}
use Rattle.djvu_base.specs.declared.ends.FileEnd.{FileEnd}
use Rattle.djvu_base.specs.declared.ends.FileEnd.TheVariants as known
use Rattle.djvu_base.specs.declared.faults.FaultKind.TheVariants.{Truncated, Read}
use Rattle.djvu_base.specs.Library.{Mark, Open, mark_of, file_limit}
use Rattle.iff_chunks.specs.declared.walker.WalkEnd.{WalkEnd}
use Rattle.iff_chunks.specs.declared.walker.WalkEnd.TheVariants as walk_end
use Rattle.iff_chunks.specs.Chunks.{Tail, InHead, InHeader, InData, InPad, FormEnd, Broken, chunks_of, chunks_in_all, end_of}
use Rattle.iff_chunks.specs.Ends.{is_cut, broken_off, closed, file_end, tail_of}
use Rattle.iff_chunks.specs.Events.{Event, events_of, IsOpen}
use Rattle.iff_chunks.specs.Told.{Told}
use Rattle.include_graph.specs.declared.reader.OutlineStep.{OutlineStep}
use Rattle.include_graph.specs.declared.reader.OutlineStep.TheVariants as step
use Rattle.include_graph.specs.declared.file_walk.FileWalk.{FileWalk}
use Rattle.include_graph.specs.declared.outline.Outline.{Outline}
use Rattle.include_graph.specs.Outlines.{outline_of}
use Rattle.include_graph.specs.Reading.{Progress, at_start, after_events, is_known}
use Rattle.include_graph.specs.Fed.{Counts, progress_of, IsReading, IsWalking, Outlining, Fed, FedBy, outline_read, ended_so, answer_of, Reports}
use Rattle.include_graph.proofs.Feeding.{tail_read, ended_read, broken_read}
use Rattle.include_graph.proofs.Staying.{cut_is}

pub answered : (found : Result OutlineStep AllocError) (P : OutlineStep → Type 0) → IfOk found P → P step.OutOfMemory → P (answer_of found)
answered (Ok answer) P h out = h
answered (Err error) P h out = out

pub begins_walking : (bytes piece : List ℕ) (reader : FileWalk) (count : ℕ) → IsReading Open bytes reader
    → (reader.arrived + length piece < 2 ^ 32 → count ≡ reader.arrived + length piece) → IsWalking bytes piece (record reader { arrived = count })
begins_walking bytes piece reader count r e = record {
  told = r.told;
  progress = r.progress;
  unknown = r.unknown;
  counts = λ b. counted (length-append bytes piece) b;
} where
  counted : length (bytes ++ piece) ≡ length bytes + length piece → length (bytes ++ piece) < 2 ^ 32 → count ≡ length (bytes ++ piece)
  counted sum b =
      let was : reader.arrived ≡ length bytes = r.counts (omega (arith, sum, b)) in
      let now : count ≡ reader.arrived + length piece = e (omega (arith, was, sum, b)) in
      now ∙ ap (λ n. n + length piece) was ∙ sym sum

-- where the outline was known, it stays
pub done_stays : (reader : Outlining) (mark : Mark) (bytes all : List ℕ) → reader.answered ≡ step.Done → ((outline : Outline)
    → outline_of Open bytes ≡ Some outline → outline_of mark all ≡ Some outline) → Fed Open bytes reader → Fed mark all reader
unfolding Fed
done_stays reader mark bytes all e law h = subst (λ s. FedBy s mark all reader.kept) (sym e)
    (law (outline_read reader.kept) (subst (λ s. FedBy s Open bytes reader.kept) e h))

-- where it wasn't, the walk goes on
pub walk_fed : (reader : Outlining) (mark : Mark) (bytes all : List ℕ) (was answer : OutlineStep) (before after : FileWalk)
    → ◌≡◌ {A = Outlining} (record { answered = was; kept = before }) reader → was ≡ step.NeedBytes
    → (IsReading Open bytes before → FedBy answer mark all after) → Fed Open bytes reader → Fed mark all (record { answered = answer; kept = after })
unfolding Fed
walk_fed reader mark bytes all was answer before after view e goes h =
    goes (subst (λ s. FedBy s Open bytes before) e (subst (λ (r : Outlining). FedBy r.answered Open bytes r.kept) (sym view) h))

off_same : (arrived count : ℕ) (tail : Tail) → ((offset : ℕ) → tail ≡ Broken Truncated offset → arrived ≡ count)
    → broken_off arrived tail ≡ broken_off count tail
off_same arrived count InHead e = refl
off_same arrived count (InHeader offset bytes) e = refl
off_same arrived count (InData chunk) e = refl
off_same arrived count (InPad offset is_last) e = refl
off_same arrived count FormEnd e = refl
off_same arrived count (Broken kind offset) e = by_cut (is_cut kind) refl where
  by_cut : (cut : Bool) → is_cut kind ≡ cut → cond (is_cut kind) (Broken Read arrived) (Broken kind offset) ≡ cond (is_cut kind) (Broken Read count)
      (Broken kind offset)
  by_cut true c = ap (λ n. cond (is_cut kind) (Broken Read n) (Broken kind offset)) (e offset (ap (λ k. Broken k offset) (cut_is kind c)))
  by_cut false c = ap (λ b. cond b (Broken Read arrived) (Broken kind offset)) c ∙ sym (ap (λ b. cond b (Broken Read count) (Broken kind offset)) c)

limit_fits : (n : ℕ) → n < file_limit → n < 2 ^ 32
unfolding file_limit
limit_fits n h = omega (arith, h)

pub end_counted : (end : FileEnd) (bytes : List ℕ) (arrived : ℕ) → Counts bytes arrived → ((offset : ℕ)
    → (chunks_in_all bytes).tail ≡ Broken Truncated offset → length bytes < file_limit)
    → closed (mark_of end) arrived (chunks_of bytes).whole (chunks_of bytes).tail ≡ file_end (mark_of end) bytes
end_counted known.Whole bytes arrived c early = refl
end_counted known.Broken bytes arrived c early = off_same arrived (length bytes) (end_of (chunks_of bytes).whole (chunks_of bytes).tail)
    (λ offset e. c (limit_fits (length bytes) (early offset e)))

ended_reader : (mark : Mark) (bytes : List ℕ) (so_far : Progress) (last : WalkEnd) → after_events at_start (events_of (chunks_of bytes)) ≡ so_far
    → is_known so_far.place ≡ false → file_end mark bytes ≡ tail_of last
    → outline_of mark bytes ≡ Some (record { items = (ended_so last so_far).items })
ended_reader mark bytes so_far walk_end.FormEnd e k t = ended_read mark bytes so_far e k t
ended_reader mark bytes so_far (walk_end.Broken kind offset) e k t = broken_read mark bytes so_far kind offset e k t

pub close_reads : (end : FileEnd) (bytes : List ℕ) (before after : FileWalk) (last : WalkEnd) (answer : OutlineStep) → IsReading Open bytes before
    → ((taken : List ℕ) (told : List Event) → Told taken told before.walker
    → tail_of last ≡ closed (mark_of end) before.arrived (chunks_of taken).whole (chunks_of taken).tail)
    → ((offset : ℕ) → (chunks_in_all bytes).tail ≡ Broken Truncated offset → length bytes < file_limit)
    → (answer ≡ step.Done) × (progress_of after.progress ≡ ended_so last (progress_of before.progress)) → FedBy answer (mark_of end) bytes after
close_reads end bytes before after last answer r ends early h =
    let tail : file_end (mark_of end) bytes ≡ tail_of last = sym (ends bytes (events_of (chunks_of bytes)) r.told
    ∙ end_counted end bytes before.arrived r.counts early) in
    subst (λ s. FedBy s (mark_of end) bytes after) (sym h.0)
    (ended_reader (mark_of end) bytes (progress_of before.progress) last (sym r.progress) r.unknown tail
    ∙ ap (λ s. Some (record { items = s.items })) (sym h.1))

open_unknown : (bytes : List ℕ) (so_far : Progress) (tail : Tail) → IsOpen tail → after_events at_start (events_of (chunks_of bytes)) ≡ so_far
    → is_known so_far.place ≡ false → file_end Open bytes ≡ tail → outline_of Open bytes ≡ None
open_unknown bytes so_far InHead o e k t = tail_read Open bytes so_far InHead e k t
open_unknown bytes so_far (InHeader offset got) o e k t = tail_read Open bytes so_far (InHeader offset got) e k t
open_unknown bytes so_far (InData chunk) o e k t = tail_read Open bytes so_far (InData chunk) e k t
open_unknown bytes so_far (InPad offset is_last) o e k t = tail_read Open bytes so_far (InPad offset is_last) e k t
open_unknown bytes so_far FormEnd o e k t = absurd o
open_unknown bytes so_far (Broken kind offset) o e k t = absurd o

pub reports : (answer : OutlineStep) (mark : Mark) (bytes : List ℕ) (reader : FileWalk) → FedBy answer mark bytes reader
    → Reports answer (outline_of mark bytes)
reports step.NeedBytes mark bytes reader r =
    subst (λ m. outline_of m bytes ≡ None) (sym r.is_open) (open_unknown bytes (progress_of reader.progress) (chunks_of bytes).tail r.goes_on
    (sym r.progress) r.unknown refl)
reports step.Done mark bytes reader h = subst (λ o. IsSome o) (sym h) refl
reports step.OutOfMemory mark bytes reader h = tt
