-- What a reading came to by its first acts stays, with more known, and the reading goes on from there.
use Rattle.std.proofs.Common.{◌≡◌, ◌≤◌, ◌+◌, ℕ, Bool, false, Option, Some, None, List, [], ◌∷◌, ◌++◌, length, refl, sym, ap, ◌∙◌, subst, arith}
use Rattle.djvu_base.specs.declared.faults.FaultKind.{FaultKind}
use Rattle.bit_plane.specs.Pixels.{Pixels}
use Rattle.include_graph.specs.declared.verdicts.Verdict.{Verdict}
use Rattle.include_graph.specs.declared.verdicts.Verdict.TheVariants as verdict
use Rattle.include_graph.specs.Verdicts.{number_of}
use Rattle.iff_chunks.specs.Chunks.{chunks_of}
use Rattle.page_decoder.specs.Kinds.{ChunkKind, kind_of}
use Rattle.page_decoder.specs.Kinds as kind
use Rattle.page_decoder.specs.Results.{Result, Dictionary, Nothing}
use Rattle.page_decoder.specs.Results as result
use Rattle.page_decoder.specs.Given.{Home, Known, Given, KnowsMore}
use Rattle.page_decoder.specs.PageRead.{Include, Left, PageRead, at_start}
use Rattle.page_decoder.specs.Headers.{Head, form_fault, header_fault}
use Rattle.page_decoder.specs.ChunkData.{Outcome, Leaves, Unfinished, Fails, came}
use Rattle.page_decoder.specs.Acts.{Act, Kind, Reads, acts_of, close_in}
use Rattle.page_decoder.specs.Read.{Step, On, Ends, and_then, after, reaching, at_result, in_files, at_verdict, listing, at_target, at_include, resolved, resolved_before, at_form, at_header, at_outcome, at_data, at_act, read_from, step_through, read}
use Rattle.page_decoder.proofs.Further.{Later, alike, met, Grows, header_later, act_later}
use Rattle.page_decoder.proofs.Running.{from_acts}

-- a step that goes on isn't one that ends
on_not_end : (left : Left) (read : PageRead) → On left ≡ Ends read → ⊥
on_not_end left read e = cc

-- with more known a step that went on goes on alike
pub on_later : (more : Bool) (known : Known) (a b : Step) (left : Left) → Later more known a b → a ≡ On left → b ≡ On left
on_later more known a b left (alike same) e = sym same ∙ e
on_later more known a b left (met read ends need l) e = absurd (on_not_end left read (sym e ∙ ends))

module _ (home : Home) (a b : Known) (on : KnowsMore a b) (grows : Grows home.table) where
  told_on : (s : Step) (next : Left → Step) (left : Left) → s ≡ On left → and_then s next ≡ next left
  told_on s next left e = ap (λ x. and_then x next) e

  -- acts one behind the other: where all of them went on
  act_on : (act : Act) (left now : Left) → at_act home a act left ≡ On now → at_act home b act left ≡ On now
  act_on act left now e = on_later false b (at_act home a act left) (at_act home b act left) now (act_later false home a b on grows act left) e

  pub header_on : (head : Head) (fault : Option FaultKind) (left now : Left) → at_header home a head fault left ≡ On now
      → at_header home b head fault left ≡ On now
  header_on head fault left now e =
      on_later false b (at_header home a head fault left) (at_header home b head fault left) now (header_later false home a b on grows head fault left) e

-- the parts of two steps of which the second one went on
pub first_on : (s : Step) (next : Left → Step) (now : Left) → and_then s next ≡ On now → (left : Left) × (s ≡ On left) × (next left ≡ On now)
first_on (On left) next now e = (left, refl, e)
first_on (Ends ended) next now e = absurd (on_not_end now ended (sym e))

pub through_on : (home : Home) (a b : Known) → KnowsMore a b → Grows home.table → (acts : List Act) (left now : Left)
    → step_through home a acts left ≡ On now → step_through home b acts left ≡ On now
through_on home a b on grows [] left now e = e
through_on home a b on grows (act ∷ acts) left now e =
    let parts = first_on (at_act home a act left) (step_through home a acts) now e in
    ap (λ s. and_then s (step_through home b acts)) (act_on home a b on grows act left parts.0 parts.1)
    ∙ through_on home a b on grows acts parts.0 now parts.2

-- acts in two parts
pub through_both : (home : Home) (known : Known) (acts others : List Act) (left : Left)
    → step_through home known (acts ++ others) left ≡ and_then (step_through home known acts left) (step_through home known others)
through_both home known [] others left = refl
through_both home known (act ∷ acts) others left = by (through_both home known acts others) (at_act home known act left)
  where
    by : ((now : Left) → step_through home known (acts ++ others) now ≡ and_then (step_through home known acts now) (step_through home known others))
        → (s : Step)
        → and_then s (step_through home known (acts ++ others)) ≡ and_then (and_then s (step_through home known acts)) (step_through home known others)
    by all (On now) = all now
    by all (Ends ended) = refl

-- one more act
pub through_last : (home : Home) (known : Known) (acts : List Act) (act : Act) (left now next : Left) → step_through home known acts left ≡ On now
    → at_act home known act now ≡ On next → step_through home known (acts ++ act ∷ []) left ≡ On next
through_last home known acts act left now next e f =
    through_both home known acts (act ∷ []) left ∙ ap (λ s. and_then s (step_through home known (act ∷ []))) e
    ∙ ap (λ s. and_then s (step_through home known [])) f

-- the reading of a file whose first acts went on to this
pub reads_on : (given : Given) (acts others : List Act) (left : Left) → acts_of (chunks_of given.bytes) ≡ acts ++ others
    → step_through given.home given.known acts at_start ≡ On left
    → read given ≡ read_from given.home given.known (close_in given.mark given.bytes) others left
reads_on given acts others left e f =
    let close = close_in given.mark given.bytes in
    ap (λ all. read_from given.home given.known close all at_start) e
    ∙ from_acts given.home given.known close acts others at_start
    ∙ ap (λ s. after s (read_from given.home given.known close others)) f

-- ---- chunks are no more than acts

abbrev pub Few : ℕ → Step → Type 0
Few chunks (On left) = left.chunks ≤ chunks
Few chunks (Ends ended) = Unit {0}

then_few : (chunks more : ℕ) (s : Step) (next : Left → Step) → ((left : Left) → Few (left.chunks + more) (next left)) → Few chunks s
    → Few (chunks + more) (and_then s next)
then_few chunks more (On left) next all f = by (next left) (all left)
  where
    by : (s : Step) → Few (left.chunks + more) s → Few (chunks + more) s
    by (On now) h = omega (arith, f, h)
    by (Ends ended) h = tt
then_few chunks more (Ends ended) next all f = tt

none_more : (s : Step) (chunks : ℕ) → Few chunks s → Few (chunks + 0) s
none_more (On left) chunks f = omega (arith, f)
none_more (Ends ended) chunks f = tt

none_less : (s : Step) (chunks : ℕ) → Few (chunks + 0) s → Few chunks s
none_less (On left) chunks f = omega (arith, f)
none_less (Ends ended) chunks f = tt

module _ (known : Known) where
  result_few : (next : Option (List Pixels) → Left → Step) (file : ℕ) (it : Option Result) (left : Left)
      → ((found : Option (List Pixels)) (now : Left) → Few now.chunks (next found now)) → Few left.chunks (at_result next file it left)
  result_few next file None left all = tt
  result_few next file (Some (Dictionary shapes)) left all = all (Some shapes) (reaching file left)
  result_few next file (Some Nothing) left all = all None (reaching file left)
  result_few next file (Some (result.Refused fault)) left all = tt

  files_few : (files : List ℕ) (found : Option (List Pixels)) (left : Left) → Few left.chunks (in_files known files found left)
  files_few [] found left = omega arith
  files_few (file ∷ files) found left = result_few (in_files known files) file (known.results file) left (files_few files)

  verdict_few : (it : Verdict) (left : Left) → Few left.chunks (at_verdict known it left)
  verdict_few (verdict.Files files) left = files_few files None left
  verdict_few (verdict.NeedOutline file) left = tt
  verdict_few (verdict.Refused fault) left = tt

module _ (home : Home) (known : Known) where
  target_few : (offset : ℕ) (target : Option ℕ) (left : Left) → Few left.chunks (at_target home known offset target left)
  target_few offset None left = tt
  target_few offset (Some target) left = verdict_few known (listing home.role home known target) left

  resolved_few : (includes : List Include) (left : Left) → Few left.chunks (resolved home known includes left)
  resolved_few [] left = omega arith
  resolved_few (include ∷ includes) left =
      none_less (resolved home known (include ∷ includes) left) left.chunks
      (then_few left.chunks 0 (at_include home known include left) (resolved home known includes)
      (λ now. none_more (resolved home known includes now) now.chunks (resolved_few includes now))
      (target_few include.offset (number_of include.name home.names) left))

  before_few : (of : ChunkKind) (left : Left) → Few left.chunks (resolved_before of home known left)
  before_few kind.Info left = omega arith
  before_few kind.Include left = omega arith
  before_few kind.Dictionary left = resolved_few left.decoded.pending left
  before_few kind.Mask left = resolved_few left.decoded.pending left
  before_few kind.Front left = omega arith
  before_few kind.Back left = omega arith
  before_few kind.Refused left = omega arith
  before_few kind.Passed left = omega arith

  pub header_few : (head : Head) (fault : Option FaultKind) (left : Left) → Few left.chunks (at_header home known head fault left)
  header_few head (Some kind) left = tt
  header_few head None left = before_few (kind_of head.id) left

  outcome_few : (head : Head) (decisions : ℕ) (outcome : Outcome) (left : Left) → Few (left.chunks + 1) (at_outcome home head decisions outcome left)
  outcome_few head decisions (Leaves decoded) left = omega arith
  outcome_few head decisions Unfinished left = omega arith
  outcome_few head decisions (Fails kind) left = tt

  form_few : (fault : Option FaultKind) (left : Left) → Few (left.chunks + 1) (at_form home fault left)
  form_few (Some kind) left = tt
  form_few None left = omega arith

  act_few : (act : Act) (left : Left) → Few (left.chunks + 1) (at_act home known act left)
  act_few (Kind kind) left = form_few (form_fault home.role kind) left
  act_few (Reads head given) left =
      then_few left.chunks 1 (at_header home known head (header_fault home.role left head) left) (at_data home head given)
      (λ now. outcome_few head (came home.table head given now.decoded).decisions (came home.table head given now.decoded).outcome now)
      (header_few head (header_fault home.role left head) left)

  through_few : (acts : List Act) (left : Left) → Few (left.chunks + length acts) (step_through home known acts left)
  through_few [] left = omega arith
  through_few (act ∷ acts) left = by (through_few acts) (at_act home known act left) (act_few act left)
    where
      on : (now : Left) (s : Step) → now.chunks ≤ left.chunks + 1 → Few (now.chunks + length acts) s → Few (left.chunks + length (act ∷ acts)) s
      on now (On last) f h = omega (arith, f, h)
      on now (Ends ended) f h = tt

      by : ((now : Left) → Few (now.chunks + length acts) (step_through home known acts now)) → (s : Step) → Few (left.chunks + 1) s
          → Few (left.chunks + length (act ∷ acts)) (and_then s (step_through home known acts))
      by all (Ends ended) f = tt
      by all (On now) f = on now (step_through home known acts now) f (all now)

  -- after acts that went on
  pub few_chunks : (acts : List Act) (left : Left) → step_through home known acts at_start ≡ On left → left.chunks ≤ length acts
  few_chunks acts left e =
      let few : left.chunks ≤ 0 + length acts = subst (λ s. Few (0 + length acts) s) e (through_few acts at_start) in omega (arith, few)
