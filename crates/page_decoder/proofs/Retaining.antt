-- What a reading told is never taken back: each step tells no less than what was left before it.
use Rattle.std.proofs.Common.{◌≤◌, ℕ, zero, suc, ◌+◌, Option, Some, None, List, [], ◌∷◌, ◌++◌, map, refl, sym, ap, ◌∙◌, arith, append_assoc}
use Rattle.std.proofs.lemmas.List.{append-nil, map-append}
use Rattle.djvu_base.specs.declared.faults.FaultKind.{FaultKind}
use Rattle.bit_plane.specs.Pixels.{Pixels}
use Rattle.iw44_image.specs.Layer.{Data}
use Rattle.include_graph.specs.declared.verdicts.Verdict.{Verdict}
use Rattle.include_graph.specs.declared.verdicts.Verdict.TheVariants as verdict
use Rattle.include_graph.specs.Verdicts.{number_of}
use Rattle.page_decoder.specs.Kinds.{ChunkKind, kind_of}
use Rattle.page_decoder.specs.Kinds as kind
use Rattle.page_decoder.specs.Results.{Result, Dictionary, Nothing}
use Rattle.page_decoder.specs.Results as result
use Rattle.page_decoder.specs.Given.{Role, Page, Included, Home, Known, Front}
use Rattle.page_decoder.specs.PageRead.{notice_of, notices_of, Told, Include, Left, PageRead}
use Rattle.page_decoder.specs.Headers.{Head, form_fault, header_fault}
use Rattle.page_decoder.specs.ChunkData.{Outcome, Leaves, Unfinished, Fails, Came, came}
use Rattle.page_decoder.specs.Acts.{Act, Kind, Reads, Close, Waits, Breaks, Over}
use Rattle.page_decoder.specs.Read.{Step, On, Ends, and_then, after, reaching, counting, at_result, in_files, at_verdict, listing, at_target, at_include, resolved, all_resolved, resolved_before, at_form, at_header, drawing_by, at_outcome, at_came, at_data, at_act, finished, at_over, at_close, read_from}
use Rattle.page_decoder.specs.Needs.{Below}

pub front_same : {A : Type 0} (xs : List A) → Front xs xs
front_same xs = ([], sym (append-nil xs))

pub front_both : {A : Type 0} (a b c : List A) → Front a b → Front b c → Front a c
front_both a b c l m = (l.0 ++ m.0, m.1 ∙ ap (λ n. n ++ m.0) l.1 ∙ append_assoc a l.0 m.0)

pub notices_front : (less more : Told) → Front less.drawings more.drawings → Front (notices_of less) (notices_of more)
notices_front less more l = (map notice_of l.0, ap (map notice_of) l.1 ∙ map-append notice_of less.drawings l.0)

pub below_same : (told : Told) → Below told told
below_same told = record { drawings = front_same told.drawings; decisions = omega arith; reached = front_same told.reached }

pub below_both : (a b c : Told) → Below a b → Below b c → Below a c
below_both a b c l m = record {
  drawings = front_both a.drawings b.drawings c.drawings l.drawings m.drawings;
  decisions = omega (arith, l.decisions, m.decisions);
  reached = front_both a.reached b.reached c.reached l.reached m.reached;
}

below_reached : (file : ℕ) (left : Left) → Below left.told (reaching file left).told
below_reached file left = record { drawings = front_same left.told.drawings; decisions = omega arith; reached = (file ∷ [], refl) }

pub below_more : (n m : ℕ) (left : Left) → (n ≤ m) → Below (counting n left).told (counting m left).told
below_more n m left h = record { drawings = front_same left.told.drawings; decisions = omega (arith, h); reached = front_same left.told.reached }

below_decisions : (n : ℕ) (left : Left) → Below left.told (counting n left).told
below_decisions n left = record { drawings = front_same left.told.drawings; decisions = omega arith; reached = front_same left.told.reached }

-- what a step told
abbrev pub told_by : Step → Told
told_by (On left) = left.told
told_by (Ends read) = read.left.told

-- joints

pub then_below : (told : Told) (s : Step) (next : Left → Step) → ((left : Left) → Below left.told (told_by (next left))) → Below told (told_by s)
    → Below told (told_by (and_then s next))
then_below told (On left) next all below = below_both told left.told (told_by (next left)) below (all left)
then_below told (Ends read) next all below = below

pub after_below : (told : Told) (s : Step) (next : Left → PageRead) → ((left : Left) → Below left.told (next left).left.told) → Below told (told_by s)
    → Below told (after s next).left.told
after_below told (On left) next all below = below_both told left.told (next left).left.told below (all left)
after_below told (Ends read) next all below = below

-- includes

pub result_below : (next : Option (List Pixels) → Left → Step) (file : ℕ) (result : Option Result) (left : Left)
    → ((found : Option (List Pixels)) (now : Left) → Below now.told (told_by (next found now)))
    → Below (reaching file left).told (told_by (at_result next file result left))
result_below next file None left all = below_same (reaching file left).told
result_below next file (Some (Dictionary shapes)) left all = all (Some shapes) (reaching file left)
result_below next file (Some Nothing) left all = all None (reaching file left)
result_below next file (Some (result.Refused fault)) left all = below_same (reaching file left).told

pub files_below : (known : Known) (files : List ℕ) (found : Option (List Pixels)) (left : Left) → Below left.told (told_by (in_files known files found left))
files_below known [] found left = below_same left.told
files_below known (file ∷ files) found left =
    below_both left.told (reaching file left).told (told_by (in_files known (file ∷ files) found left)) (below_reached file left)
    (result_below (in_files known files) file (known.results file) left (files_below known files))

pub verdict_below : (known : Known) (verdict : Verdict) (left : Left) → Below left.told (told_by (at_verdict known verdict left))
verdict_below known (verdict.Files files) left = files_below known files None left
verdict_below known (verdict.NeedOutline file) left = below_same left.told
verdict_below known (verdict.Refused fault) left = below_same left.told

target_below : (home : Home) (known : Known) (offset : ℕ) (target : Option ℕ) (left : Left)
    → Below left.told (told_by (at_target home known offset target left))
target_below home known offset None left = below_same left.told
target_below home known offset (Some target) left = verdict_below known (listing home.role home known target) left

pub resolved_below : (home : Home) (known : Known) (includes : List Include) (left : Left) → Below left.told (told_by (resolved home known includes left))
resolved_below home known [] left = below_same left.told
resolved_below home known (include ∷ includes) left =
    then_below left.told (at_include home known include left) (resolved home known includes) (resolved_below home known includes)
    (target_below home known include.offset (number_of include.name home.names) left)

before_below : (of : ChunkKind) (home : Home) (known : Known) (left : Left) → Below left.told (told_by (resolved_before of home known left))
before_below kind.Info home known left = below_same left.told
before_below kind.Include home known left = below_same left.told
before_below kind.Dictionary home known left = resolved_below home known left.decoded.pending left
before_below kind.Mask home known left = resolved_below home known left.decoded.pending left
before_below kind.Front home known left = below_same left.told
before_below kind.Back home known left = below_same left.told
before_below kind.Refused home known left = below_same left.told
before_below kind.Passed home known left = below_same left.told

-- chunks

form_below : (home : Home) (fault : Option FaultKind) (left : Left) → Below left.told (told_by (at_form home fault left))
form_below home (Some kind) left = below_same left.told
form_below home None left = below_same left.told

header_below : (home : Home) (known : Known) (head : Head) (fault : Option FaultKind) (left : Left)
    → Below left.told (told_by (at_header home known head fault left))
header_below home known head (Some kind) left = below_same left.told
header_below home known head None left = before_below (kind_of head.id) home known left

-- data tell no less than their decisions
pub outcome_below : (home : Home) (head : Head) (decisions : ℕ) (outcome : Outcome) (left : Left)
    → Below (counting decisions left).told (told_by (at_outcome home head decisions outcome left))
outcome_below home head decisions (Leaves decoded) left = record {
  drawings = (drawing_by (kind_of head.id) (suc left.chunks) (left.told.decisions + decisions) decoded.layers, refl);
  decisions = omega arith;
  reached = front_same left.told.reached;
}
outcome_below home head decisions Unfinished left = below_same (counting decisions left).told
outcome_below home head decisions (Fails kind) left = below_same (counting decisions left).told

pub came_below : (home : Home) (head : Head) (it : Came) (left : Left) → Below left.told (told_by (at_came home head it left))
came_below home head it left =
    below_both left.told (counting it.decisions left).told (told_by (at_came home head it left)) (below_decisions it.decisions left)
    (outcome_below home head it.decisions it.outcome left)

pub data_below : (home : Home) (head : Head) (given : Data) (left : Left) → Below left.told (told_by (at_data home head given left))
data_below home head given left = came_below home head (came home.table head given left.decoded) left

act_below : (home : Home) (known : Known) (act : Act) (left : Left) → Below left.told (told_by (at_act home known act left))
act_below home known (Kind kind) left = form_below home (form_fault home.role kind) left
act_below home known (Reads head given) left =
    let fault = header_fault home.role left head in
    then_below left.told (at_header home known head fault left) (at_data home head given) (data_below home head given)
    (header_below home known head fault left)

-- the end

ended_below : (home : Home) (known : Known) (left : Left) → Below left.told (after (all_resolved home known left) finished).left.told
ended_below home known left =
    after_below left.told (all_resolved home known left) finished (λ now. below_same now.told) (resolved_below home known left.decoded.pending left)

over_below : (role : Role) (chunks : ℕ) (home : Home) (known : Known) (origin : ℕ) (left : Left)
    → Below left.told (at_over role chunks home known origin left).left.told
over_below Page zero home known origin left = below_same left.told
over_below Page (suc chunks) home known origin left = ended_below home known left
over_below Included chunks home known origin left = ended_below home known left

close_below : (home : Home) (known : Known) (close : Close) (left : Left) → Below left.told (at_close home known close left).left.told
close_below home known Waits left = below_same left.told
close_below home known (Breaks kind offset) left = below_same left.told
close_below home known (Over origin) left = over_below home.role left.chunks home known origin left

pub from_below : (home : Home) (known : Known) (close : Close) (acts : List Act) (left : Left)
    → Below left.told (read_from home known close acts left).left.told
from_below home known close [] left = close_below home known close left
from_below home known close (act ∷ acts) left =
    after_below left.told (at_act home known act left) (read_from home known close acts) (from_below home known close acts) (act_below home known act left)
