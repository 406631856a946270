use Rattle.std.proofs.Common.{◌≡◌, ◌+◌, ◌≤◌, ◌∙◌, ◌++◌, ℕ, ap, take, length, vec_len, arith}
use Rattle.djvu_outside.proofs.FileLemmas.{read_after, first_of}
use Rattle.djvu_outside.proofs.read.read_some.Goals as goal

pub returns-in-Ok-clause-told : goal.returns-in-Ok-clause-told
returns-in-Ok-clause-told g c told here files opened =
    let read = c.in-Ok.ensures.bytes told here files opened in
    let old = c.args.bytes.now.items in
    let now = c.read_at.new.buffer in
    let start : ℕ = c.len-start.result in
    let room : length c.as_mut_slice.result.now ≡ vec_len c.resize.new.self = c.as_mut_slice.ensures.len in
    let same : length now ≡ length c.as_mut_slice.result.now = c.read_at.auto.buffer in
    let within : start + c.in-Ok.count ≤ length c.as_mut_slice.result.now = c.in-Ok.ensures.within in
    let first = first_of now _ (start + c.in-Ok.count) (vec_len c.resize.new.self) (omega (arith, within, room)) (omega (arith, within, same)) in
    let bytes = read_after old _ c.resize.new.self.items now start c.args.room c.in-Ok.count (c.len-start.ensures ∙ c.args.bytes.now.ok.0) c.in_ok-resize.ensures.items (c.in-Ok.ensures.prefix ∙ ap (take start) c.as_mut_slice.ensures.value) in
    (c.truncate.ensures.items ∙ first ∙ bytes ∙ ap (λ l. old ++ l) read.next, read.end, c.in-Ok.ensures.failure told here files opened)
