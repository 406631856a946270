use Rattle.std.proofs.Common.{◌≡◌, ◌<◌, ◌^◌, ◌-◌, ℕ, List, length, refl, sym, ap, ◌∙◌, subst, arith, lit<}
use Rattle.djvu_base.specs.Library.{Mark, Open, Whole, mark_of, file_limit}
use Rattle.djvu_base.specs.Library as library
use Rattle.djvu_base.specs.declared.faults.FaultKind.TheVariants as fault
use Rattle.iff_chunks.specs.declared.walker.WalkEnd.{WalkEnd}
use Rattle.iff_chunks.specs.declared.walker.WalkEnd.TheVariants as walk_end
use Rattle.iff_chunks.specs.Chunks.{Chunk, Tail, InHead, InHeader, InData, InPad, FormEnd, Broken, chunks_of, end_of}
use Rattle.iff_chunks.specs.Ends.{broken_off, closed, tail_of}
use Rattle.page_decoder.specs.Acts.{origin_of}
use Rattle.page_decoder.specs.Acts as acts
use Rattle.page_decoder.specs.FileReading.{close_of, mark_by}
use Rattle.page_decoder.specs.FileSteps.{IsBehind, close_by}
use Rattle.page_decoder.proofs.file_reader.FileReader.behind_bytes.Goals as goal

limit_fits : file_limit < 2 ^ 32
unfolding file_limit
limit_fits = lit< tt

same_close : (origin : ℕ) (end : WalkEnd) → acts.close_of origin (tail_of end) ≡ close_of origin (close_by end)
same_close origin walk_end.FormEnd = refl
same_close origin (walk_end.Broken kind offset) = refl

-- a cut comes early, where the count is the length
cut_so : (all arrived : ℕ) (tail : Tail) → ((offset : ℕ) → tail ≡ Broken fault.Truncated offset → arrived ≡ all) → broken_off arrived tail ≡ broken_off all tail
cut_so all arrived InHead e = refl
cut_so all arrived (InHeader offset bytes) e = refl
cut_so all arrived (InData chunk) e = refl
cut_so all arrived (InPad offset is_last) e = refl
cut_so all arrived FormEnd e = refl
cut_so all arrived (Broken fault.Truncated offset) e = ap (λ n. Broken fault.Read n) (e offset refl)
cut_so all arrived (Broken kind offset) e = refl

end_so : (mark : Mark) (all arrived : ℕ) (whole : List Chunk) (tail : Tail) → ((offset : ℕ) → end_of whole tail ≡ Broken fault.Truncated offset → arrived ≡ all)
    → closed mark arrived whole tail ≡ closed mark all whole tail
end_so Open all arrived whole tail e = refl
end_so Whole all arrived whole tail e = refl
end_so library.Broken all arrived whole tail e = cut_so all arrived (end_of whole tail) e

pub returns-in-Some-clause-behind : goal.returns-in-Some-clause-behind
returns-in-Some-clause-behind c = λ bytes told t counts open_.
    let chunks = chunks_of bytes in
    let origin = origin_of chunks.form in
    let mark = mark_of c.in-Some.end in
    let arrived = c.args.self.now.arrived in
    let all = λ (offset : ℕ) (e : end_of chunks.whole chunks.tail ≡ Broken fault.Truncated offset).
    let early = c.bounds.ensures.cut_is_early bytes offset e in
    let same : arrived ≡ length bytes = omega (arith, early, counts, limit_fits) in same in
    subst (λ e. IsBehind (mark_by e) bytes c.close_of.result) (sym c.in-Some.is)
    (ap (acts.close_of origin) (sym (c.finish.ensures.ends bytes told t ∙ end_so mark (length bytes) arrived chunks.whole chunks.tail all))
    ∙ same_close origin c.finish.result ∙ ap (close_of origin) (sym c.close_of.ensures))
