-- A reading with more given goes on from the reading with less: where the two differ, the shorter one has ended. So one relation on
-- steps, with the same state on both sides, is kept by each act.
use Rattle.std.proofs.Common.{◌≡◌, ◌≤◌, ℕ, zero, suc, Bool, true, false, Option, Some, None, List, [], ◌∷◌, ◌++◌, refl, sym, ap, ◌∙◌, subst}
use Rattle.djvu_base.specs.declared.faults.FaultKind.{FaultKind}
use Rattle.bit_plane.specs.Pixels.{Pixels}
use Rattle.zp_table.specs.declared.rows.Row.{Row}
use Rattle.iw44_image.specs.Layer.{Data, data_of}
use Rattle.include_graph.specs.declared.outline.Outline.{Outline}
use Rattle.include_graph.specs.declared.verdicts.Verdict.{Verdict}
use Rattle.include_graph.specs.declared.verdicts.Verdict.TheVariants as verdict
use Rattle.include_graph.specs.Graphs.{KnownOn, VerdictOn, same_verdict, was_unknown}
use Rattle.include_graph.specs.Verdicts.{number_of, verdict_of}
use Rattle.page_decoder.specs.Kinds.{ChunkKind, kind_of}
use Rattle.page_decoder.specs.Kinds as kind
use Rattle.page_decoder.specs.Results.{Result, Dictionary, Nothing}
use Rattle.page_decoder.specs.Results as result
use Rattle.page_decoder.specs.Given.{Role, Page, Included, Home, Known, KnowsMore}
use Rattle.page_decoder.specs.PageRead.{Ending, Finished, Refused, NeedBytes, NeedOutline, NeedFile, Include, Decoded, Left, PageRead}
use Rattle.page_decoder.specs.Headers.{Head, header_fault}
use Rattle.page_decoder.specs.ChunkData.{Outcome, Leaves, Unfinished, Fails, Came, came}
use Rattle.page_decoder.specs.Acts.{Act, Kind, Reads, Close, Waits, Breaks, Over}
use Rattle.page_decoder.specs.Read.{Step, On, Ends, and_then, after, reaching, counting, at_result, in_files, at_verdict, listing, at_target, at_include, resolved, all_resolved, resolved_before, at_header, at_outcome, at_came, at_data, at_act, finished, at_over, at_close, read_from}
use Rattle.page_decoder.specs.Needs.{Below}
use Rattle.page_decoder.proofs.Retaining.{below_same, below_both, below_more, told_by, then_below, after_below, files_below, verdict_below, resolved_below, outcome_below, data_below, from_below}

-- a need that was met: by what is known, or by bytes where there are more of them
abbrev pub Met : Bool → Known → Ending → Type 0
Met more known Finished = ⊥
Met more known (Refused fault) = ⊥
Met more known NeedBytes = more ≡ true
Met more known (NeedOutline file) = (outline : Outline) × (known.outlines file ≡ Some outline)
Met more known (NeedFile file) = (result : Result) × (known.results file ≡ Some result)

-- a reading with more given is the same, or its need was met and it told at least as much
pub data Further (more : Bool) (known : Known) (a b : PageRead) : Type 0 where
  same : a ≡ b → Further more known a b
  goes_on : Met more known a.end → Below a.left.told b.left.told → Further more known a b

-- the same of steps
pub data Later (more : Bool) (known : Known) (a b : Step) : Type 0 where
  alike : a ≡ b → Later more known a b
  met : (read : PageRead) → a ≡ Ends read → Met more known read.end → Below read.left.told (told_by b) → Later more known a b

-- data that go on: they are never complete before; what fails stays with all that was read; and decisions don't get fewer
pub record CameOn (less more : Came) : Type 0 where
  pub unfinished : (decoded : Decoded) → less.outcome ≡ Leaves decoded → ⊥
  pub fails : (kind : FaultKind) → less.outcome ≡ Fails kind → more ≡ less
  pub decisions : less.decisions ≤ more.decisions

-- what this file takes from those below it
pub record Grows (table : List Row) : Type 0 where
  pub verdicts : (names : List (List ℕ)) (less more : ℕ → Option Outline) (file : ℕ) → KnownOn less more
      → VerdictOn more (verdict_of (record { names = names; outlines = less }) file) (verdict_of (record { names = names; outlines = more }) file)
  pub more_data : (head : Head) (bytes more : List ℕ) (ended : Bool) (decoded : Decoded)
      → CameOn (came table head (data_of bytes false) decoded) (came table head (data_of (bytes ++ more) ended) decoded)

pub then_later : (more : Bool) (known : Known) (a b : Step) (next other : Left → Step) → ((left : Left) → Later more known (next left) (other left))
    → ((left : Left) → Below left.told (told_by (other left))) → Later more known a b → Later more known (and_then a next) (and_then b other)
then_later more known (On left) b next other all below (alike e) = subst (λ s. Later more known (next left) (and_then s other)) e (all left)
then_later more known (Ends read) b next other all below (alike e) = alike (ap (λ s. and_then s other) e)
then_later more known a b next other all below (met read e need l) =
    met read (ap (λ s. and_then s next) e) need (then_below read.left.told b other below l)

after_further : (more : Bool) (known : Known) (a b : Step) (next other : Left → PageRead) → ((left : Left) → Further more known (next left) (other left))
    → ((left : Left) → Below left.told (other left).left.told) → Later more known a b → Further more known (after a next) (after b other)
after_further more known (On left) b next other all below (alike e) = subst (λ s. Further more known (next left) (after s other)) e (all left)
after_further more known (Ends read) b next other all below (alike e) = same (ap (λ s. after s other) e)
after_further more known a b next other all below (met read e need l) =
    subst (λ s. Further more known (after s next) (after b other)) (sym e) (goes_on need (after_below read.left.told b other below l))

-- a listed file, by what is known of it
result_later : (more : Bool) (known : Known) (file : ℕ) (less now : Option Result) (next other : Option (List Pixels) → Left → Step) (left : Left)
    → ((it : Result) → less ≡ Some it → now ≡ Some it) → known.results file ≡ now
    → ((found : Option (List Pixels)) (at : Left) → Later more known (next found at) (other found at))
    → ((found : Option (List Pixels)) (at : Left) → Below at.told (told_by (other found at)))
    → Later more known (at_result next file less left) (at_result other file now left)
result_later more known file None None next other left on is all below = alike refl
result_later more known file None (Some it) next other left on is all below =
    met (record { left = reaching file left; end = NeedFile file }) refl (it, is) (tells it)
  where
    tells : (x : Result) → Below (reaching file left).told (told_by (at_result other file (Some x) left))
    tells (Dictionary shapes) = below (Some shapes) (reaching file left)
    tells Nothing = below None (reaching file left)
    tells (result.Refused fault) = below_same (reaching file left).told
result_later more known file (Some it) now next other left on is all below =
    subst (λ r. Later more known (at_result next file (Some it) left) (at_result other file r left)) (sym (on it refl)) (goes it)
  where
    goes : (x : Result) → Later more known (at_result next file (Some x) left) (at_result other file (Some x) left)
    goes (Dictionary shapes) = all (Some shapes) (reaching file left)
    goes Nothing = all None (reaching file left)
    goes (result.Refused fault) = alike refl

module _ (more : Bool) (home : Home) (a b : Known) (on : KnowsMore a b) (grows : Grows home.table) where
  files_later : (files : List ℕ) (found : Option (List Pixels)) (left : Left) → Later more b (in_files a files found left) (in_files b files found left)
  files_later [] found left = alike refl
  files_later (file ∷ files) found left =
      result_later more b file (a.results file) (b.results file) (in_files a files) (in_files b files) left (on.results file) refl (files_later files)
      (files_below b files)

  same_later : (it : Verdict) (left : Left) → Later more b (at_verdict a it left) (at_verdict b it left)
  same_later (verdict.Files files) left = files_later files None left
  same_later (verdict.NeedOutline file) left = alike refl
  same_later (verdict.Refused fault) left = alike refl

  verdict_later : (v w : Verdict) (left : Left) → VerdictOn b.outlines v w → Later more b (at_verdict a v left) (at_verdict b w left)
  verdict_later v w left (same_verdict e) = subst (λ x. Later more b (at_verdict a v left) (at_verdict b x left)) e (same_later v left)
  verdict_later v w left (was_unknown file outline e known) =
      met (record { left = left; end = NeedOutline file }) (ap (λ x. at_verdict a x left) e) (outline, known) (verdict_below b w left)

  listing_on : (role : Role) (target : ℕ) → VerdictOn b.outlines (listing role home a target) (listing role home b target)
  listing_on Page target = grows.verdicts home.names a.outlines b.outlines target on.outlines
  listing_on Included target = same_verdict refl

  target_later : (offset : ℕ) (target : Option ℕ) (left : Left) → Later more b (at_target home a offset target left) (at_target home b offset target left)
  target_later offset None left = alike refl
  target_later offset (Some target) left =
      verdict_later (listing home.role home a target) (listing home.role home b target) left (listing_on home.role target)

  resolved_later : (includes : List Include) (left : Left) → Later more b (resolved home a includes left) (resolved home b includes left)
  resolved_later [] left = alike refl
  resolved_later (include ∷ includes) left =
      then_later more b (at_include home a include left) (at_include home b include left) (resolved home a includes) (resolved home b includes)
      (resolved_later includes) (resolved_below home b includes) (target_later include.offset (number_of include.name home.names) left)

  before_later : (of : ChunkKind) (left : Left) → Later more b (resolved_before of home a left) (resolved_before of home b left)
  before_later kind.Info left = alike refl
  before_later kind.Include left = alike refl
  before_later kind.Dictionary left = resolved_later left.decoded.pending left
  before_later kind.Mask left = resolved_later left.decoded.pending left
  before_later kind.Front left = alike refl
  before_later kind.Back left = alike refl
  before_later kind.Refused left = alike refl
  before_later kind.Passed left = alike refl

  pub header_later : (head : Head) (fault : Option FaultKind) (left : Left) → Later more b (at_header home a head fault left) (at_header home b head fault left)
  header_later head (Some kind) left = alike refl
  header_later head None left = before_later (kind_of head.id) left

  pub act_later : (act : Act) (left : Left) → Later more b (at_act home a act left) (at_act home b act left)
  act_later (Kind kind) left = alike refl
  act_later (Reads head given) left =
      let fault = header_fault home.role left head in
      then_later more b (at_header home a head fault left) (at_header home b head fault left) (at_data home head given) (at_data home head given)
      (λ now. alike refl) (data_below home head given) (header_later head fault left)

  ended_further : (left : Left) → Further more b (after (all_resolved home a left) finished) (after (all_resolved home b left) finished)
  ended_further left =
      after_further more b (all_resolved home a left) (all_resolved home b left) finished finished (λ now. same refl) (λ now. below_same now.told)
      (resolved_later left.decoded.pending left)

  over_further : (role : Role) (chunks origin : ℕ) (left : Left)
      → Further more b (at_over role chunks home a origin left) (at_over role chunks home b origin left)
  over_further Page zero origin left = same refl
  over_further Page (suc chunks) origin left = ended_further left
  over_further Included chunks origin left = ended_further left

  close_further : (close : Close) (left : Left) → Further more b (at_close home a close left) (at_close home b close left)
  close_further Waits left = same refl
  close_further (Breaks kind offset) left = same refl
  close_further (Over origin) left = over_further home.role left.chunks origin left

-- more acts, or more data of the last one

pub data Longer (more : Bool) (short long : Close) : List Act → List Act → Type 0 where
  at_last : short ≡ long → Longer more short long [] []
  at_wait : short ≡ Waits → more ≡ true → (acts : List Act) → Longer more short long [] acts
  in_data : short ≡ Waits → more ≡ true → (head : Head) (bytes rest : List ℕ) (ended : Bool) (acts : List Act)
      → Longer more short long (Reads head (data_of bytes false) ∷ []) (Reads head (data_of (bytes ++ rest) ended) ∷ acts)
  behind : (act : Act) (acts others : List Act) → Longer more short long acts others → Longer more short long (act ∷ acts) (act ∷ others)

outcome_further : (more : Bool) (home : Home) (a b : Known) (long : Close) (head : Head) (it now : Came) (outcome : Outcome) (acts : List Act)
    (left : Left) → more ≡ true
    → it.outcome ≡ outcome → CameOn it now
    → Further more b (after (at_outcome home head it.decisions outcome left) (read_from home a Waits []))
    (after (at_came home head now left) (read_from home b long acts))
outcome_further more home a b long head it now (Leaves decoded) acts left m e on = absurd (on.unfinished decoded e)
outcome_further more home a b long head it now (Fails kind) acts left m e on =
    let all : at_came home head now left ≡ at_outcome home head it.decisions (Fails kind) left =
    ap (λ c. at_came home head c left) (on.fails kind e) ∙ ap (λ o. at_outcome home head it.decisions o left) e in
    same (ap (λ s. after s (read_from home b long acts)) (sym all))
outcome_further more home a b long head it now Unfinished acts left m e on =
    let told : Below (counting it.decisions left).told (told_by (at_came home head now left)) =
    below_both (counting it.decisions left).told (counting now.decisions left).told (told_by (at_came home head now left))
    (below_more it.decisions now.decisions left on.decisions) (outcome_below home head now.decisions now.outcome left) in
    goes_on m (after_below (counting it.decisions left).told (at_came home head now left) (read_from home b long acts) (from_below home b long acts) told)

pub after_then : (s : Step) (next : Left → Step) (last : Left → PageRead) → after (and_then s next) last ≡ after s (λ left. after (next left) last)
after_then (On left) next last = refl
after_then (Ends read) next last = refl

-- a chunk whose data arrive, and the same with more data
reads_further : (more : Bool) (home : Home) (a b : Known) → KnowsMore a b → Grows home.table
    → (long : Close) (head : Head) (bytes rest : List ℕ) (ended : Bool)
    (acts : List Act) (left : Left) → more ≡ true
    → Further more b (read_from home a Waits (Reads head (data_of bytes false) ∷ []) left)
    (read_from home b long (Reads head (data_of (bytes ++ rest) ended) ∷ acts) left)
reads_further more home a b on grows long head bytes rest ended acts left m =
    let few : Data = data_of bytes false in
    let many : Data = data_of (bytes ++ rest) ended in
    let fault = header_fault home.role left head in
    let less = at_header home a head fault left in
    let all = at_header home b head fault left in
    let next : Left → PageRead = λ now. after (at_data home head few now) (read_from home a Waits []) in
    let other : Left → PageRead = λ now. after (at_data home head many now) (read_from home b long acts) in
    subst (λ r. Further more b r (read_from home b long (Reads head many ∷ acts) left))
    (sym (after_then less (at_data home head few) (read_from home a Waits [])))
    (subst (λ r. Further more b (after less next) r) (sym (after_then all (at_data home head many) (read_from home b long acts)))
    (after_further more b less all next other
    (λ now. outcome_further more home a b long head (came home.table head few now.decoded) (came home.table head many now.decoded)
    (came home.table head few now.decoded).outcome acts now m refl (grows.more_data head bytes rest ended now.decoded))
    (λ now. after_below now.told (at_data home head many now) (read_from home b long acts) (from_below home b long acts) (data_below home head many now))
    (header_later more home a b on grows head fault left)))

-- all of it: over more acts, with more known
pub longer_further : (more : Bool) (home : Home) (a b : Known) → KnowsMore a b → Grows home.table → (short long : Close) (acts others : List Act)
    → Longer more short long acts others → (left : Left) → Further more b (read_from home a short acts left) (read_from home b long others left)
longer_further more home a b on grows short long _ _ (at_last e) left =
    subst (λ c. Further more b (at_close home a short left) (at_close home b c left)) e (close_further more home a b on grows short left)
longer_further more home a b on grows short long _ _ (at_wait e m others) left =
    subst (λ c. Further more b (at_close home a c left) (read_from home b long others left)) (sym e) (goes_on m (from_below home b long others left))
longer_further more home a b on grows short long _ _ (in_data e m head bytes rest ended acts) left =
    subst (λ c. Further more b (read_from home a c (Reads head (data_of bytes false) ∷ []) left)
    (read_from home b long (Reads head (data_of (bytes ++ rest) ended) ∷ acts) left)) (sym e)
    (reads_further more home a b on grows long head bytes rest ended acts left m)
longer_further more home a b on grows short long _ _ (behind act acts others l) left =
    after_further more b (at_act home a act left) (at_act home b act left) (read_from home a short acts) (read_from home b long others)
    (longer_further more home a b on grows short long acts others l) (from_below home b long others) (act_later more home a b on grows act left)
