use Rattle.std.proofs.Common.{true, ◌+◌, append_assoc, refl, ◌≡◌, ◌≢◌, ℕ, ◌*◌, ◌<◌, ◌≤◌, List, [], ◌∷◌, ◌++◌, ◌⊎◌, length, take, drop, sym, ap, ◌∙◌, subst, inl, inr, arith}
use Rattle.std.proofs.lemmas.Bool.{true≢false}
use Rattle.std.proofs.lemmas.List.{take-append-drop, length-take-le}
use Rattle.std.proofs.Math.Seq.{take-length}
use Rattle.iff_chunks.specs.declared.walker.WalkStep.{WalkStep}
use Rattle.iff_chunks.specs.declared.walker.WalkStep.TheVariants as step
use Rattle.iff_chunks.specs.declared.stages.Stage.{Stage}
use Rattle.iff_chunks.specs.declared.stages.Stage.TheVariants as stage
use Rattle.iff_chunks.specs.declared.stages.Fed.{Fed}
use Rattle.iff_chunks.specs.Chunks.{chunks_of}
use Rattle.iff_chunks.specs.Events.{Event, ChunkEnd, events_of, tell, GoesOn, Ends, IsOpen, IsLast, Takes, is_event}
use Rattle.iff_chunks.specs.Told.{Told, Over, Stands, Stays, Feeds, Fits, IsDataEnd, AllTold, due, pending, Spends, quiet_until}
use Rattle.iff_chunks.specs.Order.{InOrder, AtForm}
use Rattle.iff_chunks.specs.Walk.{IsFed}
use Rattle.iff_chunks.proofs.Ordering.{front_order, events_order}
use Rattle.iff_chunks.proofs.Telling.{stands_goes_on, answer_ends, data_ends, only_needs}
use Rattle.iff_chunks.proofs.walker.Walker.feed.Goals as goal

-- where the walker stood before the piece
stood : (from now : Stage) (taken : List ℕ) (told : List Event) → from ≡ now → Told taken told now → Stands from taken told
unfolding Told
stood from now taken told view t = subst (λ p. Stands p taken told) (sym view) t

-- where the walker stands after the piece
stands : (from now : Stage) (piece : List ℕ) (fed : Fed) (taken : List ℕ) (told : List Event) → from ≡ now → Feeds from piece fed → Told taken told now
    → Stands fed.stage (taken ++ take fed.used piece) (tell told fed.step (take fed.used piece))
stands from now piece fed taken told view f t = f.told taken told (stood from now taken told view t)

goes : (from now : Stage) (piece : List ℕ) (fed : Fed) (taken after : List ℕ) (told : List Event) → from ≡ now → Feeds from piece fed → Told taken told now
    → GoesOn (tell told fed.step (take fed.used piece)) (events_of (chunks_of (taken ++ (take fed.used piece ++ after))))
goes from now piece fed taken after told view f t =
    subst (λ bytes. GoesOn (tell told fed.step (take fed.used piece)) (events_of (chunks_of bytes))) (append_assoc taken (take fed.used piece) after)
    (stands_goes_on fed.stage (taken ++ take fed.used piece) _ after (stands from now piece fed taken told view f t))

last : (from now : Stage) (piece : List ℕ) (fed : Fed) (taken after : List ℕ) (told : List Event) → from ≡ now → Feeds from piece fed → Told taken told now
    → Ends fed.step told (chunks_of (taken ++ (take fed.used piece ++ after)))
last from now piece fed taken after told view f t =
    subst (λ bytes. Ends fed.step told (chunks_of bytes)) (append_assoc taken (take fed.used piece) after)
    (answer_ends fed.step fed.stage fed.used (length piece) (taken ++ take fed.used piece) (take fed.used piece) told after f.fits
    (stands from now piece fed taken told view f t))

needs_all : (from : Stage) (fed : Fed) (taken piece : List ℕ) (told : List Event) → fed.step ≡ step.NeedBytes → Feeds from piece fed → Stands from taken told
    → (fed.used ≡ length piece) × (events_of (chunks_of (taken ++ piece)) ≡ told) × IsOpen (chunks_of (taken ++ piece)).tail
needs_all from fed taken piece told e f s =
    let used : fed.used ≡ length piece = subst (λ a. Fits a fed.stage fed.used (length piece)) e f.fits in
    let few : length piece < quiet_until fed.step fed.used = subst (λ a. length piece < quiet_until a fed.used) (sym e) (omega (arith, used)) in
    let all : AllTold (taken ++ piece) told = subst (λ p. AllTold (taken ++ p) told) (take-length piece) (f.quiet taken told (length piece) s few) in
    (used, all.all, all.more)

some_used : (fed : Fed) (piece : List ℕ) → Fits fed.step fed.stage fed.used (length piece) → fed.step ≡ step.Data → 0 < fed.used
some_used fed piece f e = (subst (λ a. Fits a fed.stage fed.used (length piece)) e f).0

pub returns-clause-only_then : goal.returns-clause-only_then
returns-clause-only_then c taken told t all more =
    let from = c.self.inside.stage in
    let fed = c.feed-fed.result in
    let piece = c.args.piece.now in
    let f = c.feed-fed.ensures in
    let whole = ap (λ p. taken ++ p) (take-append-drop fed.used piece) in
    only_needs fed.step (take fed.used piece) told (taken ++ piece) (λ e. omega (arith, some_used fed piece f.fits e, length-take-le fed.used piece f.within))
    (subst (λ b. GoesOn (tell told fed.step (take fed.used piece)) (events_of (chunks_of b))) whole
    (goes from c.args.self.now piece fed taken (drop fed.used piece) told c.self.view_is f t))
    (subst (λ b. Ends fed.step told (chunks_of b)) whole (last from c.args.self.now piece fed taken (drop fed.used piece) told c.self.view_is f t))
    all more

takes_some : (answer : WalkStep) (place : Stage) (used size : ℕ) → Fits answer place used size → Takes answer used
takes_some (step.Form kind n) place used size f = f
takes_some (step.Header id offset n) place used size f = f
takes_some step.Data place used size f = f.0
takes_some step.ChunkEnd place used size f = tt
takes_some step.NeedBytes place used size f = tt
takes_some step.FormEnd place used size f = tt
takes_some (step.Broken kind offset) place used size f = tt

all_told : (fed : Fed) (taken piece after : List ℕ) (told : List Event) → (fed.used ≡ length piece) ⊎ IsDataEnd fed.stage
    → Stands fed.stage (taken ++ take fed.used piece) (tell told fed.step (take fed.used piece))
    → (fed.used ≡ length piece) ⊎ GoesOn (tell told fed.step (take fed.used piece) ++ ChunkEnd ∷ [])
    (events_of (chunks_of (taken ++ (take fed.used piece ++ after))))
all_told fed taken piece after told (inl e) s = inl e
all_told fed taken piece after told (inr d) s =
    inr (subst (λ bytes. GoesOn (tell told fed.step (take fed.used piece) ++ ChunkEnd ∷ []) (events_of (chunks_of bytes)))
    (append_assoc taken (take fed.used piece) after)
    (data_ends fed.stage (taken ++ take fed.used piece) (tell told fed.step (take fed.used piece)) after d s))

quiet_used : (answer : WalkStep) (used fewer : ℕ) → answer ≢ step.Data → fewer < used → fewer < quiet_until answer used
quiet_used (step.Form kind length) used fewer d h = h
quiet_used (step.Header id offset length) used fewer d h = h
quiet_used step.Data used fewer d h = absurd (d refl)
quiet_used step.ChunkEnd used fewer d h = h
quiet_used step.NeedBytes used fewer d h = omega arith
quiet_used step.FormEnd used fewer d h = h
quiet_used (step.Broken kind offset) used fewer d h = h

pub returns-clause-no_later : goal.returns-clause-no_later
returns-clause-no_later c taken told fewer t no_data few =
    let fed = c.feed-fed.result in
    let all =
    c.feed-fed.ensures.quiet taken told fewer (stood c.self.inside.stage c.args.self.now taken told c.self.view_is t)
    (quiet_used fed.step fed.used fewer no_data few) in
    (all.all, all.more)

over_now : (answer : WalkStep) (place : Stage) (used size : ℕ) → Fits answer place used size → IsLast answer → Over answer place
unfolding Over
over_now step.FormEnd place used size f l = f
over_now (step.Broken kind offset) place used size f l = f
over_now (step.Form kind length) place used size f l = l
over_now (step.Header id offset length) place used size f l = l
over_now step.Data place used size f l = l
over_now step.ChunkEnd place used size f l = l
over_now step.NeedBytes place used size f l = l

pub returns-clause-over : goal.returns-clause-over
returns-clause-over c l = over_now c.feed-fed.result.step c.feed-fed.result.stage c.feed-fed.result.used (length c.args.piece.now) c.feed-fed.ensures.fits l

stays_over : (answer : WalkStep) (from now : Stage) (fed : Fed) → from ≡ now → Stays from fed → Over answer now
    → ◌≡◌ {A = ℕ × WalkStep} (fed.used, fed.step) (0, answer) × Over answer fed.stage
unfolding Over
stays_over step.FormEnd from now fed view s o =
    let same = subst (λ p. Stays p fed) (view ∙ o) s in
    (ap (λ f. (f.used, f.step)) same, ap (λ f. f.stage) same)
stays_over (step.Broken kind offset) from now fed view s o =
    let same = subst (λ p. Stays p fed) (view ∙ o) s in
    (ap (λ f. (f.used, f.step)) same, ap (λ f. f.stage) same)
stays_over (step.Form kind length) from now fed view s o = absurd o
stays_over (step.Header id offset length) from now fed view s o = absurd o
stays_over step.Data from now fed view s o = absurd o
stays_over step.ChunkEnd from now fed view s o = absurd o
stays_over step.NeedBytes from now fed view s o = absurd o

pub returns-clause-stays : goal.returns-clause-stays
returns-clause-stays c answer o = stays_over answer c.self.inside.stage c.args.self.now c.feed-fed.result c.self.view_is c.feed-fed.ensures.stays o

few_due : (place : Stage) → due place ≤ 1
few_due stage.Start = omega arith
few_due (stage.Magic matched) = omega arith
few_due (stage.Word offset matched) = omega arith
few_due (stage.Length offset got) = omega arith
few_due (stage.Kind offset size got) = omega arith
few_due (stage.Header place got) = omega arith
few_due (stage.Data chunk left) = omega arith
few_due (stage.DataEnd chunk) = omega arith
few_due (stage.Pad chunk) = omega arith
few_due stage.Ended = omega arith
few_due (stage.Broken kind offset) = omega arith

fewer_due : (answer : WalkStep) (from to : Stage) (used size : ℕ) → is_event answer ≡ true → Fits answer to used size → Spends answer from to
    → due to < 2 * used + due from
fewer_due (step.Form kind n) from to used size e f s = omega (arith, f, few_due to)
fewer_due (step.Header id offset n) from to used size e f s = omega (arith, f, few_due to)
fewer_due step.Data from to used size e f s = omega (arith, f.0, few_due to)
fewer_due step.ChunkEnd from to used size e f s = omega (arith, s.0, s.1)
fewer_due step.NeedBytes from to used size e f s = absurd (true≢false (sym e))
fewer_due step.FormEnd from to used size e f s = absurd (true≢false (sym e))
fewer_due (step.Broken kind offset) from to used size e f s = absurd (true≢false (sym e))

fewer_pending : (answer : WalkStep) (from now to : Stage) (used size : ℕ) → from ≡ now → is_event answer ≡ true → Fits answer to used size
    → Spends answer from to → pending to < 2 * used + pending now
unfolding pending
fewer_pending answer from now to used size view e f s = subst (λ p. due to < 2 * used + due p) view (fewer_due answer from to used size e f s)

told_now : (from now : Stage) (piece : List ℕ) (fed : Fed) (taken : List ℕ) (told : List Event) → from ≡ now → Feeds from piece fed → Told taken told now
    → Told (taken ++ take fed.used piece) (tell told fed.step (take fed.used piece)) fed.stage
unfolding Told
told_now from now piece fed taken told view f t = stands from now piece fed taken told view f t

order_now : (from now : Stage) (piece : List ℕ) (fed : Fed) (taken : List ℕ) (told : List Event) → from ≡ now → Feeds from piece fed → Told taken told now
    → InOrder AtForm (tell told fed.step (take fed.used piece))
order_now from now piece fed taken told view f t =
    front_order AtForm (tell told fed.step (take fed.used piece)) (events_of (chunks_of (taken ++ (take fed.used piece ++ []))))
    (goes from now piece fed taken [] told view f t) (events_order (taken ++ (take fed.used piece ++ [])))

data_now : (from now : Stage) (piece : List ℕ) (fed : Fed) (taken more : List ℕ) (told : List Event) → from ≡ now → Feeds from piece fed → Told taken told now
    → fed.step ≡ step.Data
    → (fed.used ≡ length piece) ⊎ GoesOn (tell told fed.step (take fed.used piece) ++ ChunkEnd ∷ [])
    (events_of (chunks_of (taken ++ (take fed.used piece ++ more))))
data_now from now piece fed taken more told view f t e =
    let fits = (subst (λ a. Fits a fed.stage fed.used (length piece)) e f.fits).1 in
    all_told fed taken piece more told fits (stands from now piece fed taken told view f t)

is_fed : (from now : Stage) (piece : List ℕ) (fed : Fed) → from ≡ now → Feeds from piece fed → IsFed now piece fed.used fed.step fed.stage
is_fed from now piece fed view f = record {
  within = f.within;
  told = λ taken told t. told_now from now piece fed taken told view f t;
  events = λ taken more told t. goes from now piece fed taken more told view f t;
  order = λ taken told t. order_now from now piece fed taken told view f t;
  ends = λ taken more told t. last from now piece fed taken more told view f t;
  needs = λ taken told t e. needs_all from fed taken piece told e f (stood from now taken told view t);
  takes = takes_some fed.step fed.stage fed.used (length piece) f.fits;
  all_data = λ taken more told t e. data_now from now piece fed taken more told view f t e;
  fewer = λ e. fewer_pending fed.step from now fed.stage fed.used (length piece) view e f.fits f.spends;
}

pub returns-clause-fed : goal.returns-clause-fed
returns-clause-fed c = is_fed c.self.inside.stage c.args.self.now c.args.piece.now c.feed-fed.result c.self.view_is c.feed-fed.ensures
