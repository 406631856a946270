-- What is so of the file behind some bytes is so behind more of them.
use Rattle.std.proofs.Common.{◌≡◌, ◌≢◌, ℕ, ◌+◌, ◌-◌, ◌<◌, ◌≤◌, Bool, true, false, cond, ltb, List, [], ◌++◌, length, take, drop, refl, sym, ap, ◌∙◌, subst, arith, append_assoc}
use Rattle.std.proofs.lemmas.Bool.{ltb-true, ltb-false}
use Rattle.std.proofs.lemmas.List.{length-drop, length-take-le, take_all, drop_all, take-append-le, drop-append-le}
use Rattle.std.proofs.Math.Seq.{take-add, take-length}
use Rattle.iff_chunks.specs.declared.walker.WalkStep.{WalkStep}
use Rattle.iff_chunks.specs.declared.walker.WalkStep.TheVariants as step
use Rattle.iff_chunks.specs.declared.stages.Fed.{Fed}
use Rattle.iff_chunks.specs.declared.stages.Stage.{Stage}
use Rattle.iff_chunks.specs.declared.gathering.Gathered.{Gathered}
use Rattle.iff_chunks.specs.Gathering.{gathered}
use Rattle.iff_chunks.specs.Chunks.{Chunk, Chunks, Rest, Tail, chunks_of}
use Rattle.iff_chunks.specs.Events.{Event, tail_events, events_of, tell, IsOpen}
use Rattle.iff_chunks.specs.Told.{Becomes, InForm, AllTold, Stands, IsSound, Stays, Fits, Feeds, due, Spends, quiet_until, told_of}
use Rattle.iff_chunks.proofs.Going.{rest_events, in_form_events}

pub cond_true : {A : Type 0} (t : Bool) (x y : A) → t ≡ true → cond t x y ≡ x
cond_true t x y e = ap (λ b. cond b x y) e

pub cond_false : {A : Type 0} (t : Bool) (x y : A) → t ≡ false → cond t x y ≡ y
cond_false t x y e = ap (λ b. cond b x y) e

pub take_front : (n : ℕ) (front more : List ℕ) → length front ≡ n → take n (front ++ more) ≡ front
take_front n front more e = take-append-le n front more (omega arith) ∙ take_all n front (omega arith)

pub drop_front : (n : ℕ) (front more : List ℕ) → length front ≡ n → drop n (front ++ more) ≡ more
drop_front n front more e = drop-append-le n front more (omega arith) ∙ ap (λ l. l ++ more) (drop_all n front (omega arith))

pub length_gathered : (got : Gathered) → length got.bytes ≡ 8 → got.count ≤ 8 → length (gathered got) ≡ got.count
length_gathered got room few = length-take-le got.count got.bytes (omega arith)

pub moved : (taken : List ℕ) (become : List ℕ → Chunks) (x : List ℕ) → Becomes taken become → Becomes (taken ++ x) (λ more. become (x ++ more))
moved taken become x on = λ more. ap chunks_of (append_assoc taken x more) ∙ on (x ++ more)

pub in_form_moved : (taken : List ℕ) (told : List Event) (whole : List Chunk) (last : List Event) (next : List ℕ → Rest) (x : List ℕ)
    → InForm taken told whole last next → InForm (taken ++ x) told whole last (λ more. next (x ++ more))
in_form_moved taken told whole last next x f = record {
  form = f.form;
  told_so = f.told_so;
  on = λ more. ap chunks_of (append_assoc taken x more) ∙ f.on (x ++ more);
}

-- more was gathered
pub gathers : (front now x more : List ℕ) → now ≡ front ++ x → front ++ (x ++ more) ≡ now ++ more
gathers front now x more e = sym (append_assoc front x more) ∙ ap (λ l. l ++ more) (sym e)

pub open_told : (bytes : List ℕ) (told : List Event) (chunks : Chunks) → chunks_of bytes ≡ chunks → events_of chunks ≡ told → IsOpen chunks.tail
    → AllTold bytes told
open_told bytes told chunks e all more = record {
  all = ap events_of e ∙ all;
  more = subst (λ c. IsOpen c.tail) (sym e) more;
}

-- the bytes end at a place of the FORM of which nothing more is to be told
pub in_form_quiet : (taken : List ℕ) (told : List Event) (whole : List Chunk) (last : List Event) (next : List ℕ → Rest) (x : List ℕ) (tail : Tail)
    → InForm taken told whole last next → next x ≡ record { whole = []; tail = tail } → tail_events tail ≡ last → IsOpen tail → AllTold (taken ++ x) told
in_form_quiet taken told whole last next x tail f e t open_yet = record {
  all = in_form_events taken told whole last next f x ∙ ap (λ r. told_of f.form whole (rest_events r)) e ∙ ap (told_of f.form whole) t ∙ sym f.told_so;
  more = subst IsOpen (sym (ap (λ c. c.tail) (f.on x) ∙ ap (λ (r : Rest). r.tail) e)) open_yet;
}

-- an answer without data tells the same, whatever was used
same_told : (told : List Event) (answer : WalkStep) (used other : List ℕ) → answer ≢ step.Data → tell told answer used ≡ tell told answer other
same_told told (step.Form kind size) used other h = refl
same_told told (step.Header id offset size) used other h = refl
same_told told step.Data used other h = absurd (h refl)
same_told told step.ChunkEnd used other h = refl
same_told told step.NeedBytes used other h = refl
same_told told step.FormEnd used other h = refl
same_told told (step.Broken kind offset) used other h = refl

fits_behind : (answer : WalkStep) (place : Stage) (passed used size : ℕ) → answer ≢ step.Data → passed ≤ size → Fits answer place used (size - passed)
    → Fits answer place (passed + used) size
fits_behind (step.Form kind length) place passed used size d h f = omega (arith, f)
fits_behind (step.Header id offset length) place passed used size d h f = omega (arith, f)
fits_behind step.Data place passed used size d h f = absurd (d refl)
fits_behind step.ChunkEnd place passed used size d h f = tt
fits_behind step.NeedBytes place passed used size d h f = omega (arith, f)
fits_behind step.FormEnd place passed used size d h f = f
fits_behind (step.Broken kind offset) place passed used size d h f = f

quiet_behind : (answer : WalkStep) (passed used fewer : ℕ) → answer ≢ step.Data → passed ≤ fewer → fewer < quiet_until answer (passed + used)
    → fewer - passed < quiet_until answer used
quiet_behind (step.Form kind length) passed used fewer d h f = omega arith
quiet_behind (step.Header id offset length) passed used fewer d h f = omega arith
quiet_behind step.Data passed used fewer d h f = absurd (d refl)
quiet_behind step.ChunkEnd passed used fewer d h f = omega arith
quiet_behind step.NeedBytes passed used fewer d h f = omega arith
quiet_behind step.FormEnd passed used fewer d h f = omega arith
quiet_behind (step.Broken kind offset) passed used fewer d h f = omega arith

-- from one place to another over so many bytes of the piece, without an event
pub record Leads (from to : Stage) (piece : List ℕ) (passed : ℕ) : Type 0 where
  pub inside : passed ≤ length piece
  pub stands : (taken : List ℕ) (told : List Event) → Stands from taken told → Stands to (taken ++ take passed piece) told
  pub quiet : (taken : List ℕ) (told : List Event) (fewer : ℕ) → Stands from taken told → fewer < passed → AllTold (taken ++ take fewer piece) told

split_take : (taken piece : List ℕ) (passed n : ℕ) → (taken ++ take passed piece) ++ take n (drop passed piece) ≡ taken ++ take (passed + n) piece
split_take taken piece passed n = append_assoc taken (take passed piece) (take n (drop passed piece)) ∙ ap (λ l. taken ++ l) (sym (take-add passed n piece))

quiet_both : (from to : Stage) (piece : List ℕ) (passed : ℕ) (fed : Fed) (taken : List ℕ) (told : List Event) (fewer : ℕ) → Leads from to piece passed
    → Feeds to (drop passed piece) fed → fed.step ≢ step.Data → Stands from taken told → fewer < quiet_until fed.step (passed + fed.used) → (early : Bool)
    → ltb fewer passed ≡ early → AllTold (taken ++ take fewer piece) told
quiet_both from to piece passed fed taken told fewer lead f no_data s few true e = lead.quiet taken told fewer s (ltb-true fewer passed e)
quiet_both from to piece passed fed taken told fewer lead f no_data s few false e =
    let late : passed ≤ fewer = ltb-false fewer passed e in
    let there =
    f.quiet (taken ++ take passed piece) told (fewer - passed) (lead.stands taken told s) (quiet_behind fed.step passed fed.used fewer no_data late few) in
    let bytes = split_take taken piece passed (fewer - passed) in
    let sum : passed + (fewer - passed) ≡ fewer = omega arith in
    subst (λ b. AllTold b told) (bytes ∙ ap (λ n. taken ++ take n piece) sum) there

spends_behind : (answer : WalkStep) (from to there : Stage) → due to ≡ 0 → Spends answer to there → Spends answer from there
spends_behind step.ChunkEnd from to there none s = let both : 0 ≡ 1 = sym none ∙ s.0 in absurd (omega (arith, both))
spends_behind step.NeedBytes from to there none s = tt
spends_behind step.Data from to there none s = tt
spends_behind step.FormEnd from to there none s = tt
spends_behind (step.Broken kind offset) from to there none s = tt
spends_behind (step.Form kind length) from to there none s = tt
spends_behind (step.Header id offset length) from to there none s = tt

-- the first bytes of a piece lead from one place to another without an event, and the rest is fed there
pub feeds_behind : (from to : Stage) (piece : List ℕ) (passed : ℕ) (fed : Fed) → Leads from to piece passed → due to ≡ 0
    → Feeds to (drop passed piece) fed → fed.step ≢ step.Data → Stays from (record { used = passed + fed.used; stage = fed.stage; step = fed.step })
    → Feeds from piece (record { used = passed + fed.used; stage = fed.stage; step = fed.step })
feeds_behind from to piece passed fed lead none f no_data stays =
    let size = length-drop passed piece in
    let inside = lead.inside in
    record {
      sound = f.sound;
      within = omega (arith, f.within);
      fits = fits_behind fed.step fed.stage passed fed.used (length piece) no_data inside (subst (λ n. Fits fed.step fed.stage fed.used n) size f.fits);
      stays = stays;
      spends = spends_behind fed.step from to fed.stage none f.spends;
      quiet = λ taken told fewer s few. quiet_both from to piece passed fed taken told fewer lead f no_data s few (ltb fewer passed) refl;
      told = λ taken told s.
          let there = f.told (taken ++ take passed piece) told (lead.stands taken told s) in
          let same = same_told told fed.step (take fed.used (drop passed piece)) (take (passed + fed.used) piece) no_data in
          subst (λ t. Stands fed.stage (taken ++ take (passed + fed.used) piece) t) same
          (subst (λ b. Stands fed.stage b (tell told fed.step (take fed.used (drop passed piece)))) (split_take taken piece passed fed.used) there);
    }

-- a piece that is used up without an event leaves the walker where nothing more is to be told
pub feeds_more : (from to : Stage) (piece : List ℕ) → IsSound to
    → ((taken : List ℕ) (told : List Event) → Stands from taken told → Stands to (taken ++ piece) told)
    → ((taken : List ℕ) (told : List Event) (fewer : ℕ) → Stands from taken told → fewer ≤ length piece → AllTold (taken ++ take fewer piece) told)
    → Stays from (record { used = length piece; stage = to; step = step.NeedBytes })
    → Feeds from piece (record { used = length piece; stage = to; step = step.NeedBytes })
feeds_more from to piece sound stands quiet stays = record {
  sound = sound;
  within = omega arith;
  fits = refl;
  stays = stays;
  spends = tt;
  quiet = λ taken told fewer s few. quiet taken told fewer s (omega arith);
  told = λ taken told s. subst (λ p. Stands to (taken ++ p) told) (sym (take-length piece)) (stands taken told s);
}
