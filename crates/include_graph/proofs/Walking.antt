-- The steps of a walk that keeps its path in a stack.
use Rattle.std.proofs.Common.{◌≡◌, ℕ, suc, ◌+◌, ◌-◌, ◌<◌, ◌≤◌, Bool, true, false, List, [], ◌∷◌, ◌++◌, length, drop, reverse, replicate, Option, Some, None, Result, Ok, Err, IfOk, refl, sym, ap, ◌∙◌, subst, arith, option_to_list}
use Rattle.std.specs.Prelude.{slice_get, slice_set}
use Rattle.std.specs.List.{IsDistinct}
use Rattle.std.proofs.lemmas.List.{reverse-append, get_or-replicate, length-replicate}
use Rattle.std.proofs.lemmas.Option.{slice_get-get_or}
use Rattle.djvu_base.specs.declared.faults.FaultKind.{FaultKind}
use Rattle.djvu_base.specs.declared.faults.FaultKind.TheVariants as kinds
use Rattle.include_graph.specs.declared.outline.Outline.{Outline}
use Rattle.include_graph.specs.declared.outline.OutlineItem.{OutlineItem}
use Rattle.include_graph.specs.declared.outline.OutlineItem.TheVariants as item
use Rattle.include_graph.specs.declared.stack.Frame.{Frame}
use Rattle.include_graph.specs.declared.stack.Mark.{Mark}
use Rattle.include_graph.specs.declared.stack.Mark.TheVariants as mark
use Rattle.include_graph.specs.declared.walk.Step.{Step}
use Rattle.include_graph.specs.declared.walk.Step.TheVariants as step
use Rattle.include_graph.specs.declared.walk.Walk.{Walk}
use Rattle.include_graph.specs.Verdicts.{Graph, Walked, Left, Unknown, walk_then, is_among, at_target, at_include, number_of, in_list, refused, visit}
use Rattle.include_graph.specs.Stack.{IsWalk, path_of, mark_by, mark_of, down, rest_of_walk, items_known, items_left, work_of_files, work_of_path}
use Rattle.include_graph.specs.Steps.{frames_of, Standing, rest_from, work_left, work_now, StepGives, WorksBelow, Enters}
use Rattle.include_graph.proofs.Among.{among_head}
use Rattle.include_graph.proofs.Marking.{mark_ahead, mark_on_path, mark_left, path_room, enters, leaves, work_entered, work_same}
use Rattle.include_graph.proofs.Stepping.{then_left_is, down_known, down_unknown, rest_left, rest_include, rest_broken}

pub if_ok : {A E : Type 0} (result : Result A E) (P Q : A → Type 0) → IfOk result P → ((value : A) → P value → Q value) → IfOk result Q
if_ok (Ok value) P Q h all = all value h
if_ok (Err error) P Q h all = tt

pub pushed : (items : List Frame) (frame : Frame) (more : List Frame) → more ≡ items ++ frame ∷ [] → reverse more ≡ frame ∷ reverse items
pushed items frame more e = ap reverse e ∙ reverse-append items (frame ∷ [])

pub popped : (items rest : List Frame) (last : Option Frame) (frame : Frame) → items ≡ rest ++ option_to_list last → last ≡ Some frame
    → reverse items ≡ frame ∷ reverse rest
popped items rest last frame e is = pushed rest frame items (e ∙ ap (λ l. rest ++ option_to_list l) is)

pub same_walk : (graph : Graph) (frames others : List Frame) (marks signs : List Mark) (left gone : List ℕ) → frames ≡ others → marks ≡ signs
    → left ≡ gone → IsWalk graph frames marks left → IsWalk graph others signs gone
same_walk graph frames others marks signs left gone e f g w =
    subst (λ x. IsWalk graph others signs x) g (subst (λ x. IsWalk graph others x left) f (subst (λ x. IsWalk graph x marks left) e w))

-- the mark of a file, as it was read
pub own_mark : (graph : Graph) (walk : Walk) (file : ℕ) (found : Mark) → Standing graph walk → file < length graph.names
    → slice_get walk.marks.items file ≡ Some found → mark_of (path_of (frames_of walk)) walk.left.items file ≡ found
own_mark graph walk file found w b g = some (mark_of (path_of (frames_of walk)) walk.left.items file) found (sym (w.marked file b) ∙ g) where
  some : (a b : Mark) → Some a ≡ Some b → a ≡ b
  some a b e = cc

enter_gives : (graph : Graph) (before after : Walk) (file : ℕ) (answer : Step) → Standing graph before → file < length graph.names
    → mark_of (path_of (frames_of before)) before.left.items file ≡ mark.Ahead → Enters (graph.outlines file) file before answer after
    → StepGives graph (walk_then (down graph (path_of (frames_of before)) file before.left.items) (rest_of_walk graph (frames_of before))) answer after
enter_gives graph before after file step.GoesOn w b m h =
    let ahead = mark_ahead (path_of (frames_of before)) before.left.items file m in
    let frames = pushed before.path.items (record { file = file; passed = 0 }) after.path.items h.1 in
    let room = path_room graph (frames_of before) before.marks.items before.left.items file w b ahead.0 in (
      same_walk graph (record { file = file; passed = 0 } ∷ frames_of before) (frames_of after) (slice_set before.marks.items file mark.OnPath)
          after.marks.items before.left.items after.left.items (sym frames) (sym h.2) (sym h.3)
          (enters graph (frames_of before) before.marks.items before.left.items file w b ahead.0),
      down_known graph (path_of (frames_of before)) file before.left.items room (frames_of before) refl h.0.0 h.0.1
          ∙ ap (λ fs. rest_of_walk graph fs before.left.items) (sym frames) ∙ ap (rest_of_walk graph (frames_of after)) (sym h.3),
    )
enter_gives graph before after file step.Over w b m h = absurd h
enter_gives graph before after file (step.Unknown other) w b m h =
    let ahead = mark_ahead (path_of (frames_of before)) before.left.items file m in
    let room = path_room graph (frames_of before) before.marks.items before.left.items file w b ahead.0 in
    subst (λ f. walk_then (down graph (path_of (frames_of before)) file before.left.items) (rest_of_walk graph (frames_of before)) ≡ Unknown f) (sym h.1)
    (down_unknown graph (path_of (frames_of before)) file before.left.items room (rest_of_walk graph (frames_of before)) h.0)
enter_gives graph before after file (step.Faulty fault) w b m h = absurd h

target_ahead : (go : ℕ → List ℕ → Walked) (on_path was_left : Bool) (file offset target : ℕ) (left : List ℕ) → on_path ≡ false → was_left ≡ false
    → at_target go on_path was_left file offset target left ≡ go target left
target_ahead go true was_left file offset target left e f = cc
target_ahead go false true file offset target left e f = cc
target_ahead go false false file offset target left e f = refl

target_on_path : (go : ℕ → List ℕ → Walked) (on_path was_left : Bool) (file offset target : ℕ) (left : List ℕ) → on_path ≡ true
    → at_target go on_path was_left file offset target left ≡ refused kinds.CyclicInclude file offset
target_on_path go true was_left file offset target left e = refl
target_on_path go false was_left file offset target left e = cc

target_left : (go : ℕ → List ℕ → Walked) (on_path was_left : Bool) (file offset target : ℕ) (left : List ℕ) → on_path ≡ false → was_left ≡ true
    → at_target go on_path was_left file offset target left ≡ Left left
target_left go true was_left file offset target left e f = cc
target_left go false true file offset target left e f = refl
target_left go false false file offset target left e f = cc

module _ (go : ℕ → List ℕ → Walked) (path : List ℕ) (file offset : ℕ) (number : Option ℕ) (left : List ℕ) (target : ℕ) (numbered : number ≡ Some target) where
  pub include_ahead : mark_of path left target ≡ mark.Ahead → at_include go path file offset number left ≡ go target left
  include_ahead m =
      let ahead = mark_ahead path left target m in
      ap (λ n. at_include go path file offset n left) numbered
      ∙ target_ahead go (is_among target path) (is_among target left) file offset target left ahead.0 ahead.1

  pub include_on_path : mark_of path left target ≡ mark.OnPath → at_include go path file offset number left ≡ refused kinds.CyclicInclude file offset
  include_on_path m = ap (λ n. at_include go path file offset n left) numbered
      ∙ target_on_path go (is_among target path) (is_among target left) file offset target left (mark_on_path path left target m)

  pub include_left : mark_of path left target ≡ mark.Left → at_include go path file offset number left ≡ Left left
  include_left m =
      let passed = mark_left path left target m in
      ap (λ n. at_include go path file offset n left) numbered
      ∙ target_left go (is_among target path) (is_among target left) file offset target left passed.0 passed.1

-- a walk that goes down at an include
pub ahead_gives : (graph : Graph) (before after : Walk) (file offset : ℕ) (number : Option ℕ) (target : ℕ) (answer : Step) → Standing graph before
    → target < length graph.names → number ≡ Some target
    → slice_get before.marks.items target ≡ Some mark.Ahead → Enters (graph.outlines target) target before answer after
    → StepGives graph (walk_then (at_include (down graph (path_of (frames_of before))) (path_of (frames_of before)) file offset number
    before.left.items) (rest_of_walk graph (frames_of before))) answer after
ahead_gives graph before after file offset number target answer w b e g h =
    let m = own_mark graph before target mark.Ahead w b g in
    let path = path_of (frames_of before) in
    subst (λ walked. StepGives graph (walk_then walked (rest_of_walk graph (frames_of before))) answer after)
    (sym (include_ahead (down graph path) path file offset number before.left.items target e m))
    (enter_gives graph before after target answer w b m h)

pub ahead_works : (graph : Graph) (outlines : List (Option Outline)) (before after : Walk) (file : ℕ) (answer : Step) → file < length outlines
    → graph.outlines file ≡ in_list outlines file → slice_get before.marks.items file ≡ Some mark.Ahead
    → Enters (graph.outlines file) file before answer after → WorksBelow (1 + work_left graph outlines before) graph outlines answer after
ahead_works graph outlines before after file step.GoesOn b e g h =
    let files : work_of_files before.marks.items outlines ≡ work_of_files (slice_set before.marks.items file mark.OnPath) outlines + suc
    (suc (length (items_known (in_list outlines file)))) = work_entered before.marks.items outlines file g b in
    let marks : work_of_files after.marks.items outlines ≡ work_of_files (slice_set before.marks.items file mark.OnPath) outlines = ap
    (λ m. work_of_files m outlines) h.2 in
    let path : work_of_path graph (frames_of after) ≡ suc (length (items_known (graph.outlines file))) + work_of_path graph (frames_of before) = ap
    (work_of_path graph) (pushed before.path.items (record { file = file; passed = 0 }) after.path.items h.1) in
    let size : length (items_known (graph.outlines file)) ≡ length (items_known (in_list outlines file)) = ap (λ o. length (items_known o)) e in
    omega (arith, files, marks, path, size)
ahead_works graph outlines before after file step.Over b e g h = tt
ahead_works graph outlines before after file (step.Unknown other) b e g h = tt
ahead_works graph outlines before after file (step.Faulty fault) b e g h = tt

-- a walk that leaves a file
pub leave_gives : (graph : Graph) (before after : Walk) (frame : Frame) (rest : List Frame) → Standing graph before
    → frames_of before ≡ frame ∷ reverse rest → length (items_known (graph.outlines frame.file)) ≤ frame.passed
    → after.path.items ≡ rest → after.marks.items ≡ slice_set before.marks.items frame.file mark.Left
    → after.left.items ≡ before.left.items ++ frame.file ∷ [] → StepGives graph (rest_from graph before) step.GoesOn after
leave_gives graph before after frame rest w e b p m l =
    let was : IsWalk graph (frame ∷ reverse rest) before.marks.items before.left.items = subst
    (λ fs. IsWalk graph fs before.marks.items before.left.items) e w in (
      same_walk graph (reverse rest) (frames_of after) (slice_set before.marks.items frame.file mark.Left) after.marks.items
          (before.left.items ++ frame.file ∷ []) after.left.items (sym (ap reverse p)) (sym m) (sym l)
          (leaves graph frame (reverse rest) before.marks.items before.left.items was),
      ap (λ fs. rest_of_walk graph fs before.left.items) e ∙ rest_left graph frame (reverse rest) before.left.items b
          ∙ ap (λ fs. rest_of_walk graph fs (before.left.items ++ frame.file ∷ [])) (sym (ap reverse p)) ∙ ap (rest_of_walk graph (frames_of after)) (sym l),
    )

pub leave_works : (graph : Graph) (outlines : List (Option Outline)) (before after : Walk) (frame : Frame) (rest : List Frame)
    → Standing graph before → frames_of before ≡ frame ∷ reverse rest
    → after.path.items ≡ rest → after.marks.items ≡ slice_set before.marks.items frame.file mark.Left
    → work_left graph outlines after < work_left graph outlines before
leave_works graph outlines before after frame rest w e p m =
    let was : IsWalk graph (frame ∷ reverse rest) before.marks.items before.left.items = subst
    (λ fs. IsWalk graph fs before.marks.items before.left.items) e w in
    let here = among_head frame.file (path_of (reverse rest)) in
    let marked : slice_get before.marks.items frame.file ≡ Some mark.OnPath = was.marked frame.file (was.below frame.file here)
    ∙ ap (λ t. Some (mark_by t (is_among frame.file before.left.items))) here in
    let files : work_of_files after.marks.items outlines ≡ work_of_files before.marks.items outlines = ap (λ x. work_of_files x outlines) m
    ∙ work_same before.marks.items outlines frame.file marked in
    let path : work_of_path graph (frames_of before) ≡ suc (length (items_left graph frame)) + work_of_path graph (reverse rest) = ap
    (work_of_path graph) e in
    let now : work_of_path graph (frames_of after) ≡ work_of_path graph (reverse rest) = ap (λ x. work_of_path graph (reverse x)) p in
    omega (arith, files, path, now)

pub file_below : (graph : Graph) (walk : Walk) (frame : Frame) (rest : List Frame) → Standing graph walk → frames_of walk ≡ frame ∷ rest
    → frame.file < length graph.names
file_below graph walk frame rest w e = w.below frame.file (subst (λ fs. is_among frame.file (path_of fs) ≡ true) (sym e)
    (among_head frame.file (path_of rest)))

-- one item of the last file of the path was passed
abbrev pub past : Frame → Frame
past frame = record { file = frame.file; passed = frame.passed + 1 }

pub include_stands : (graph : Graph) (before after : Walk) (frame : Frame) (rest : List Frame) → Standing graph before
    → frames_of before ≡ frame ∷ rest → frames_of after ≡ past frame ∷ rest
    → after.marks.items ≡ before.marks.items → after.left.items ≡ before.left.items → Standing graph after
include_stands graph before after frame rest w e f m l =
    let was : IsWalk graph (frame ∷ rest) before.marks.items before.left.items = subst (λ fs. IsWalk graph fs before.marks.items before.left.items) e w in
    let now : IsWalk graph (past frame ∷ rest) before.marks.items before.left.items = record
    { marked = was.marked; count = was.count; distinct = was.distinct; below = was.below } in
    same_walk graph (past frame ∷ rest) (frames_of after) before.marks.items after.marks.items before.left.items after.left.items (sym f) (sym m) (sym l) now

pub include_rest : (graph : Graph) (before after : Walk) (frame : Frame) (rest : List Frame) (name : List ℕ) (offset : ℕ)
    → frames_of before ≡ frame ∷ rest → frames_of after ≡ past frame ∷ rest → after.left.items ≡ before.left.items
    → items_left graph frame ≡ item.Include name offset ∷ drop (frame.passed + 1) (items_known (graph.outlines frame.file))
    → rest_from graph before ≡ walk_then (at_include (down graph (path_of (frames_of after))) (path_of (frames_of after)) frame.file offset
    (number_of name graph.names) after.left.items) (rest_of_walk graph (frames_of after))
include_rest graph before after frame rest name offset e f l i =
    ap (λ fs. rest_of_walk graph fs before.left.items) e ∙ rest_include graph frame rest before.left.items name offset i
    ∙ ap (λ fs. walk_then (at_include (down graph (path_of fs)) (path_of fs) frame.file offset (number_of name graph.names) before.left.items)
    (rest_of_walk graph fs)) (sym f)
    ∙ ap (λ gone. walk_then (at_include (down graph (path_of (frames_of after))) (path_of (frames_of after)) frame.file offset
    (number_of name graph.names) gone) (rest_of_walk graph (frames_of after))) (sym l)

pub include_works : (graph : Graph) (outlines : List (Option Outline)) (before after : Walk) (frame : Frame) (rest : List Frame) (next : OutlineItem)
    → frames_of before ≡ frame ∷ rest → frames_of after ≡ past frame ∷ rest → after.marks.items ≡ before.marks.items
    → items_left graph frame ≡ next ∷ drop (frame.passed + 1) (items_known (graph.outlines frame.file))
    → 1 + work_left graph outlines after ≡ work_left graph outlines before
include_works graph outlines before after frame rest next e f m i =
    let files : work_of_files after.marks.items outlines ≡ work_of_files before.marks.items outlines = ap (λ x. work_of_files x outlines) m in
    let path : work_of_path graph (frames_of before) ≡ suc (length (items_left graph frame)) + work_of_path graph rest = ap (work_of_path graph) e in
    let now : work_of_path graph (frames_of after) ≡ suc (length (drop (frame.passed + 1) (items_known (graph.outlines frame.file)))) + work_of_path
    graph rest = ap (work_of_path graph) f in
    let one : length (items_left graph frame) ≡ suc (length (drop (frame.passed + 1) (items_known (graph.outlines frame.file)))) = ap length i in
    omega (arith, files, path, now, one)

pub broken_rest : (graph : Graph) (before : Walk) (frame : Frame) (rest : List Frame) (kind : FaultKind) (offset : ℕ) → frames_of before ≡ frame ∷ rest
    → items_left graph frame ≡ item.Broken kind offset ∷ drop (frame.passed + 1) (items_known (graph.outlines frame.file))
    → rest_from graph before ≡ refused kind frame.file offset
broken_rest graph before frame rest kind offset e i =
    ap (λ fs. rest_of_walk graph fs before.left.items) e ∙ rest_broken graph frame rest before.left.items kind offset
    (drop (frame.passed + 1) (items_known (graph.outlines frame.file))) i

pub over_rest : (graph : Graph) (before : Walk) (rest : List Frame) (last : Option Frame) → before.path.items ≡ rest ++ option_to_list last
    → last ≡ None → rest ≡ [] → rest_from graph before ≡ Left before.left.items
over_rest graph before rest last e n none = ap (λ fs. rest_of_walk graph (reverse fs) before.left.items) (e ∙ ap (λ l. rest ++ option_to_list l) n
    ∙ ap (λ r. r ++ []) none)

fresh : (graph : Graph) (count : ℕ) → count ≡ length graph.names → IsWalk graph [] (replicate count mark.Ahead) []
unfolding IsDistinct
fresh graph count n = record {
  marked = λ file b.
      slice_get-get_or (replicate count mark.Ahead) file mark.Ahead (let e = length-replicate count mark.Ahead in omega (arith, e, n, b))
      ∙ ap Some (get_or-replicate count file mark.Ahead mark.Ahead (omega (arith, n, b)));
  count = length-replicate count mark.Ahead ∙ n;
  distinct = tt;
  below = λ file h. cc;
}

-- a walk that wasn't anywhere yet
pub new_stands : (graph : Graph) (walk : Walk) (count : ℕ) → count ≡ length graph.names → walk.path.items ≡ []
    → walk.marks.items ≡ replicate count mark.Ahead → walk.left.items ≡ [] → Standing graph walk
new_stands graph walk count n p m l =
    same_walk graph [] (frames_of walk) (replicate count mark.Ahead) walk.marks.items [] walk.left.items (sym (ap reverse p)) (sym m) (sym l)
    (fresh graph count n)

pub begin_gives : (graph : Graph) (walk after : Walk) (file count : ℕ) (answer : Step) → count ≡ length graph.names → file < length graph.names
    → walk.path.items ≡ [] → walk.marks.items ≡ replicate count mark.Ahead → walk.left.items ≡ []
    → Enters (graph.outlines file) file walk answer after → StepGives graph (visit graph (length graph.names) [] file []) answer after
begin_gives graph walk after file count answer n b p m l h =
    let stands = new_stands graph walk count n p m l in
    let path : frames_of walk ≡ [] = ap reverse p in
    let ahead : mark_of (path_of (frames_of walk)) walk.left.items file ≡ mark.Ahead = ap (λ fs. mark_of (path_of fs) walk.left.items file) path
    ∙ ap (λ gone. mark_of [] gone file) l in
    let given = enter_gives graph walk after file answer stands b ahead h in
    let whole : walk_then (down graph (path_of (frames_of walk)) file walk.left.items) (rest_of_walk graph (frames_of walk)) ≡ visit graph
    (length graph.names) [] file [] =
    ap (λ fs. walk_then (down graph (path_of fs) file walk.left.items) (rest_of_walk graph fs)) path ∙ then_left_is (down graph [] file walk.left.items)
    ∙ ap (λ gone. visit graph (length graph.names - 0) [] file gone) l
    ∙ ap (λ most. visit graph most [] file []) (let e : length graph.names - 0 ≡ length graph.names = omega arith in e) in
    subst (λ walked. StepGives graph walked answer after) whole given

-- the rest of the walk gives what the whole walk gives
pub on_from : (graph : Graph) (rest : Walked) (before after : Walk) (found answer : Step) → StepGives graph rest found before → found ≡ step.GoesOn
    → StepGives graph (rest_from graph before) answer after → StepGives graph rest answer after
on_from graph rest before after found answer h e on = let was = subst (λ s. StepGives graph rest s before) e h in subst
    (λ walked. StepGives graph walked answer after) (sym was.1) on

pub goes_on_stands : (graph : Graph) (rest : Walked) (walk : Walk) (found : Step) → StepGives graph rest found walk → found ≡ step.GoesOn
    → Standing graph walk
goes_on_stands graph rest walk found h e = (subst (λ s. StepGives graph rest s walk) e h).0

pub works_less : (graph : Graph) (outlines : List (Option Outline)) (before after : Walk) (found answer : Step) → found ≡ step.GoesOn
    → WorksBelow (work_left graph outlines before) graph outlines answer after → work_now graph outlines answer after < work_now graph outlines found before
works_less graph outlines before after found step.GoesOn e h = subst (λ s. suc (work_left graph outlines after) < work_now graph outlines s before)
    (sym e) (omega (arith, h))
works_less graph outlines before after found step.Over e h = subst (λ s. 0 < work_now graph outlines s before) (sym e) (omega arith)
works_less graph outlines before after found (step.Unknown file) e h = subst (λ s. 0 < work_now graph outlines s before) (sym e) (omega arith)
works_less graph outlines before after found (step.Faulty fault) e h = subst (λ s. 0 < work_now graph outlines s before) (sym e) (omega arith)
