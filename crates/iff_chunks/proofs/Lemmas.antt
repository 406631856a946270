-- A walk over a file that is held as a whole: how it begins, goes on and ends.
use Rattle.std.proofs.Common.{◌≡◌, ℕ, ◌+◌, ◌*◌, ◌<◌, true, false, List, [], ◌++◌, length, take, drop, refl, sym, ap, ◌∙◌, subst, arith, append_assoc}
use Rattle.std.proofs.lemmas.Bool.{true≢false}
use Rattle.std.proofs.lemmas.List.{append-nil, take-append-drop, take_all, length-drop}
use Rattle.djvu_base.specs.declared.ends.FileEnd.{FileEnd}
use Rattle.djvu_base.specs.declared.ends.FileEnd.TheVariants as known
use Rattle.djvu_base.specs.Library.{mark_of}
use Rattle.iff_chunks.specs.declared.walker.WalkStep.{WalkStep}
use Rattle.iff_chunks.specs.declared.walker.WalkStep.TheVariants as step
use Rattle.iff_chunks.specs.declared.walker.WalkEnd.{WalkEnd}
use Rattle.iff_chunks.specs.Chunks.{Chunk, Tail, FormEnd, Broken, chunks_of, chunks_in_all, end_of}
use Rattle.iff_chunks.specs.Ends.{broken_off, closed, file_end, tail_of}
use Rattle.iff_chunks.specs.Events.{Event, events_of, tell, GoesOn, IsOpen, Ends, is_event}
use Rattle.iff_chunks.specs.Told.{Walking, Told, pending}
use Rattle.iff_chunks.specs.Walk.{IsFed, HasTold, HasToldAll}

-- a new walker
pub walk_begins : (file : List ℕ) (walker : Walking) → Told [] [] walker → HasTold file file [] walker
walk_begins file walker t = record { taken = []; parts = refl; is_told = t; goes = tt }

-- what was taken, what is used now, and what is left
whole_file : (file rest taken : List ℕ) (used : ℕ) → file ≡ taken ++ rest → taken ++ (take used rest ++ drop used rest) ≡ file
whole_file file rest taken used e = ap (λ r. taken ++ r) (take-append-drop used rest) ∙ sym e

-- one more answer
pub walk_goes_on : (file rest next : List ℕ) (told : List Event) (before after : Walking) (used : ℕ) (answer : WalkStep) → HasTold file rest told before
    → IsFed before rest used answer after → next ≡ drop used rest → HasTold file next (tell told answer (take used rest)) after
walk_goes_on file rest next told before after used answer t f n =
    let whole = whole_file file rest t.taken used t.parts in
    let now = tell told answer (take used rest) in
    record {
      taken = t.taken ++ take used rest;
      parts = sym whole ∙ sym (append_assoc t.taken (take used rest) (drop used rest)) ∙ ap (λ r. (t.taken ++ take used rest) ++ r) (sym n);
      is_told = f.told t.taken told t.is_told;
      goes = subst (λ b. GoesOn now (events_of (chunks_of b))) whole (f.events t.taken (drop used rest) told t.is_told);
    }

-- with each event the walk comes nearer to its end
pub walk_nears_its_end : (rest next : List ℕ) (before after : Walking) (used : ℕ) (answer : WalkStep) → IsFed before rest used answer after
    → is_event answer ≡ true → next ≡ drop used rest → 2 * length next + pending after < 2 * length rest + pending before
walk_nears_its_end rest next before after used answer f e n =
    let less = f.fewer e in let within = f.within in omega (arith, less, within, ap length n, length-drop used rest)

-- with an answer that tells no event, every event of the file was told
all_told : (file rest taken : List ℕ) (told : List Event) (used : ℕ) (answer : WalkStep) → file ≡ taken ++ rest → is_event answer ≡ false
    → (answer ≡ step.NeedBytes → (used ≡ length rest) × (events_of (chunks_of (taken ++ rest)) ≡ told) × IsOpen (chunks_of (taken ++ rest)).tail)
    → ((more : List ℕ) → Ends answer told (chunks_of (taken ++ (take used rest ++ more))))
    → (events_of (chunks_of file) ≡ told) × ((chunks_in_all (taken ++ take used rest)).tail ≡ (chunks_in_all file).tail)
all_told file rest taken told used (step.Form kind size) e q needs ends = absurd (true≢false q)
all_told file rest taken told used (step.Header id offset size) e q needs ends = absurd (true≢false q)
all_told file rest taken told used step.Data e q needs ends = absurd (true≢false q)
all_told file rest taken told used step.ChunkEnd e q needs ends = absurd (true≢false q)
all_told file rest taken told used step.NeedBytes e q needs ends =
    let all = needs refl in
    let bytes : take used rest ≡ rest = ap (λ n. take n rest) all.0 ∙ take_all (length rest) rest (omega arith) in
    (ap (λ b. events_of (chunks_of b)) e ∙ all.1, ap (λ b. (chunks_in_all b).tail) (ap (λ r. taken ++ r) bytes ∙ sym e))
all_told file rest taken told used step.FormEnd e q needs ends =
    let whole = whole_file file rest taken used e in
    let here = ends [] in
    let there = ends (drop used rest) in
    let now : (chunks_of (taken ++ take used rest)).tail ≡ FormEnd =
    ap (λ b. (chunks_of b).tail) (ap (λ r. taken ++ r) (sym (append-nil (take used rest)))) ∙ here.1 in
    let then : (chunks_of file).tail ≡ FormEnd = ap (λ b. (chunks_of b).tail) (sym whole) ∙ there.1 in (
      ap (λ b. events_of (chunks_of b)) (sym whole) ∙ there.0,
      ap (end_of (chunks_of (taken ++ take used rest)).whole) now ∙ sym (ap (end_of (chunks_of file).whole) then),
    )
all_told file rest taken told used (step.Broken kind offset) e q needs ends =
    let whole = whole_file file rest taken used e in
    let here = ends [] in
    let there = ends (drop used rest) in
    let now : (chunks_of (taken ++ take used rest)).tail ≡ Broken kind offset =
    ap (λ b. (chunks_of b).tail) (ap (λ r. taken ++ r) (sym (append-nil (take used rest)))) ∙ here.1 in
    let then : (chunks_of file).tail ≡ Broken kind offset = ap (λ b. (chunks_of b).tail) (sym whole) ∙ there.1 in (
      ap (λ b. events_of (chunks_of b)) (sym whole) ∙ there.0,
      ap (end_of (chunks_of (taken ++ take used rest)).whole) now ∙ sym (ap (end_of (chunks_of file).whole) then),
    )

same_events : (told : List Event) (answer : WalkStep) (used : List ℕ) → is_event answer ≡ false → tell told answer used ≡ told
same_events told (step.Form kind size) used q = absurd (true≢false q)
same_events told (step.Header id offset size) used q = absurd (true≢false q)
same_events told step.Data used q = absurd (true≢false q)
same_events told step.ChunkEnd used q = absurd (true≢false q)
same_events told step.NeedBytes used q = refl
same_events told step.FormEnd used q = refl
same_events told (step.Broken kind offset) used q = refl

-- the events of a walk that is over, by an answer that tells none
pub walk_told : (file rest : List ℕ) (told : List Event) (before after : Walking) (used : ℕ) (answer : WalkStep) → HasTold file rest told before
    → IsFed before rest used answer after → is_event answer ≡ false → told ≡ events_of (chunks_of file)
walk_told file rest told before after used answer t f q =
    sym (all_told file rest t.taken told used answer t.parts q (f.needs t.taken told t.is_told) (λ more. f.ends t.taken more told t.is_told)).0

pub walk_over : (file rest : List ℕ) (told : List Event) (before after : Walking) (used : ℕ) (answer : WalkStep) → HasTold file rest told before
    → IsFed before rest used answer after → is_event answer ≡ false → HasToldAll file after
walk_over file rest told before after used answer t f q =
    let all = all_told file rest t.taken told used answer t.parts q (f.needs t.taken told t.is_told) (λ more. f.ends t.taken more told t.is_told) in
    record {
      taken = t.taken ++ take used rest;
      is_told = subst (λ e. Told (t.taken ++ take used rest) e after) (same_events told answer (take used rest) q ∙ sym all.0) (f.told t.taken told t.is_told);
      same_end = all.1;
    }

-- files whose bytes all say the same end the same
same_closed : (end : FileEnd) (arrived : ℕ) (whole chunks : List Chunk) (tail last : Tail) → end_of whole tail ≡ end_of chunks last
    → closed (mark_of end) arrived whole tail ≡ closed (mark_of end) arrived chunks last
same_closed known.Whole arrived whole chunks tail last e = e
same_closed known.Broken arrived whole chunks tail last e = ap (broken_off arrived) e

-- what a walker says of the end of a file of so many bytes
abbrev pub Finishes : Walking → FileEnd → ℕ → WalkEnd → Type 0
Finishes walker end arrived answer =
    (taken : List ℕ) (told : List Event) → Told taken told walker → tail_of answer ≡ closed (mark_of end) arrived (chunks_of taken).whole (chunks_of taken).tail

-- once it told every event, that is the end of the file
pub walk_end : (file : List ℕ) (walker : Walking) (end : FileEnd) (answer : WalkEnd) → HasToldAll file walker → Finishes walker end (length file) answer
    → tail_of answer ≡ file_end (mark_of end) file
walk_end file walker end answer t says =
    says t.taken (events_of (chunks_of file)) t.is_told
    ∙ same_closed end (length file) (chunks_of t.taken).whole (chunks_of file).whole (chunks_of t.taken).tail (chunks_of file).tail t.same_end
