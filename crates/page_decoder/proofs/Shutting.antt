-- A chunk that was closed by the reader of its file.
use Rattle.std.proofs.Common.{◌≡◌, ◌≤◌, ◌+◌, ◌-◌, ◌^◌, ℕ, true, min, Option, Some, None, List, length, sym, ap, ◌∙◌, subst, arith}
use Rattle.std.proofs.lemmas.Grind.{common_steps}
use Rattle.djvu_base.specs.Meter.{ticked, TicksExactly}
use Rattle.zp_table.specs.declared.rows.Row.{Row}
use Rattle.iw44_image.specs.Layer.{data_of}
use Rattle.page_decoder.specs.declared.file_reader.FileReader.{FileReader}
use Rattle.page_decoder.specs.declared.file_reader.ChunkAtHand.{ChunkAtHand}
use Rattle.page_decoder.specs.declared.decoder.PageStep.{PageStep}
use Rattle.page_decoder.specs.declared.closing.ChunkCame.{ChunkCame}
use Rattle.page_decoder.specs.declared.closing.ChunkCame.TheVariants as came
use Rattle.page_decoder.specs.declared.closing.Closed.{Closed}
use Rattle.page_decoder.specs.Headers.{Head}
use Rattle.page_decoder.specs.PageRead.{Include, Decoded}
use Rattle.page_decoder.specs.ChunkData.{came as data_came}
use Rattle.page_decoder.specs.Kept.{Keeping}
use Rattle.page_decoder.specs.Opened.{Opens, ClosesTo, CountsOn, LayersStay}
use Rattle.page_decoder.specs.FileSteps.{HasClosed, HasLeft, Adds}

-- what was closed and counted before stays
abbrev Same : FileReader → FileReader → Type 0
Same before after = (after.kept ≡ before.kept) × (after.decisions ≡ before.decisions)

same_by : (before after : FileReader) → after ≡ before → Same before after
same_by before after e = (ap (λ (r : FileReader). r.kept) e, ap (λ (r : FileReader). r.decisions) e)

adds_same : (include : Include) (chunks : ℕ) (answer : Option PageStep) (before after : FileReader)
    → Adds include chunks answer before after → Same before after
adds_same include chunks None before after a = (ap (λ (r : FileReader). r.kept) a, ap (λ (r : FileReader). r.decisions) a)
adds_same include chunks (Some answer) before after a = same_by before after a.1

left_same : (head : Head) (chunks : ℕ) (it : ChunkCame) (answer : Option PageStep) (before after : FileReader) → HasLeft head chunks it answer before after
    → Same before after
left_same head chunks (came.Drew notice) answer before after l = (ap (λ (r : FileReader). r.kept) l.1, ap (λ (r : FileReader). r.decisions) l.1)
left_same head chunks came.Left answer before after l = (ap (λ (r : FileReader). r.kept) l.1, ap (λ (r : FileReader). r.decisions) l.1)
left_same head chunks (came.Include name) answer before after l = adds_same _ chunks answer before after l
left_same head chunks (came.Refused kind) answer before after l = same_by before after l.1
left_same head chunks came.OutOfMemory answer before after l = same_by before after l.1

pub closed_so : (chunk : ChunkAtHand) (closed : Closed) (answer : Option PageStep) (before after : FileReader) (kept : Keeping) (decisions chunks : ℕ)
    → chunks ≡ min (before.chunks + 1) (2 ^ 32 - 1) → decisions ≡ ticked closed.decisions before.decisions
    → ((table : List Row) (decoded : Decoded) (bytes : List ℕ) → Opens table chunk.head decoded bytes before.kept chunk.opened → length bytes ≡ chunk.head.size
    → ClosesTo closed chunks table chunk.head decoded (data_came table chunk.head (data_of bytes true) decoded) kept)
    → LayersStay closed.came before.kept.layers kept.layers
    → HasLeft chunk.head chunks closed.came answer (record before { kept = kept; decisions = decisions }) after → HasClosed chunk answer before after
closed_so chunk closed answer before after kept decisions chunks n d closes layers l =
    let same = left_same chunk.head chunks closed.came answer (record before { kept = kept; decisions = decisions }) after l in
    record {
      closed = closed;
      closes = λ table decoded bytes o w.
          subst (λ k. ClosesTo closed (min (before.chunks + 1) (2 ^ 32 - 1)) table chunk.head decoded
          (data_came table chunk.head (data_of bytes true) decoded) k) (sym same.0)
          (subst (λ m. ClosesTo closed m table chunk.head decoded (data_came table chunk.head (data_of bytes true) decoded) kept) n
          (closes table decoded bytes o w));
      decisions_are = same.1 ∙ d;
      has_left = subst (λ m. HasLeft chunk.head m closed.came answer (record before { kept = after.kept; decisions = after.decisions }) after) n
          (subst (λ k. HasLeft chunk.head chunks closed.came answer (record before { kept = k; decisions = after.decisions }) after) (sym same.0)
          (subst (λ m. HasLeft chunk.head chunks closed.came answer (record before { kept = kept; decisions = m }) after) (sym same.1) l));
      layers_stay = subst (λ (k : Keeping). LayersStay closed.came before.kept.layers k.layers) (sym same.0) layers;
    }

-- counts rise with the chunk's decisions
pub counts_together : (opened closed before now count new : ℕ) → CountsOn opened closed count new → now ≡ ticked closed before
    → (ticks : ℕ) × TicksExactly ticks (ticked opened before) now × TicksExactly ticks count new
counts_together opened closed before now count new c e = (closed - opened, so c.more, c.ticks)
  where
    so : opened ≤ closed → now ≡ ticked (closed - opened) (ticked opened before)
    so more = grind (arith, common_steps)

pub left_decisions : (head : Head) (chunks : ℕ) (it : ChunkCame) (answer : Option PageStep) (before after : FileReader)
    → HasLeft head chunks it answer before after → after.decisions ≡ before.decisions
left_decisions head chunks it answer before after l = (left_same head chunks it answer before after l).1
