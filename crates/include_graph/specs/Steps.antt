-- What a step of a walk over outlines says of the rest of the walk.
use Rattle.std.specs.Prelude.{ℕ, suc, ◌≡◌, ◌+◌, ◌<◌, ◌++◌, ⊤, List, [], ◌∷◌, reverse, slice_set, Option, Some, None}
use Rattle.include_graph.specs.declared.outline.Outline.{Outline}
use Rattle.include_graph.specs.declared.stack.Frame.{Frame}
use Rattle.include_graph.specs.declared.stack.Mark.TheVariants as mark
use Rattle.include_graph.specs.declared.walk.Step.{Step}
use Rattle.include_graph.specs.declared.walk.Step.TheVariants as step
use Rattle.include_graph.specs.declared.walk.Walk.{Walk}
use Rattle.include_graph.specs.Verdicts.{Graph, Walked, Left, Unknown, Faulty}
use Rattle.include_graph.specs.Stack.{IsWalk, rest_of_walk, work_of_files, work_of_path}

-- the frames of a walk's path, the last one first
abbrev pub frames_of : Walk → List Frame
frames_of walk = reverse walk.path.items

abbrev pub Standing : Graph → Walk → Type 0
Standing graph walk = IsWalk graph (frames_of walk) walk.marks.items walk.left.items

abbrev pub rest_from : Graph → Walk → Walked
rest_from graph walk = rest_of_walk graph (frames_of walk) walk.left.items

-- how much a walk may still have to do
abbrev pub work_left : Graph → List (Option Outline) → Walk → ℕ
work_left graph outlines walk = work_of_files walk.marks.items outlines + work_of_path graph (frames_of walk)

-- a walk whose rest gave this answered a step, and stands there then
abbrev pub StepGives : Graph → Walked → Step → Walk → Type 0
StepGives graph rest step.GoesOn walk = Standing graph walk × (rest ≡ rest_from graph walk)
StepGives graph rest step.Over walk = rest ≡ Left walk.left.items
StepGives graph rest (step.Unknown file) walk = rest ≡ Unknown file
StepGives graph rest (step.Faulty fault) walk = rest ≡ Faulty fault

-- the walk goes on with less to do than this
abbrev pub WorksBelow : ℕ → Graph → List (Option Outline) → Step → Walk → Type 0
WorksBelow limit graph outlines step.GoesOn walk = work_left graph outlines walk < limit
WorksBelow limit graph outlines step.Over walk = ⊤
WorksBelow limit graph outlines (step.Unknown file) walk = ⊤
WorksBelow limit graph outlines (step.Faulty fault) walk = ⊤

-- a walk went down into a file, by its outline
abbrev pub Enters : Option Outline → ℕ → Walk → Step → Walk → Type 0
Enters outline file before step.GoesOn walk =
    ((known : Outline) × (outline ≡ Some known)) × (walk.path.items ≡ before.path.items ++ record { file = file; passed = 0 } ∷ []) ×
    (walk.marks.items ≡ slice_set before.marks.items file mark.OnPath) × (walk.left.items ≡ before.left.items)
Enters outline file before step.Over walk = ⊥
Enters outline file before (step.Unknown other) walk = (outline ≡ None) × (other ≡ file)
Enters outline file before (step.Faulty fault) walk = ⊥

-- how much a walk may still have to do that answered so
abbrev pub work_now : Graph → List (Option Outline) → Step → Walk → ℕ
work_now graph outlines step.GoesOn walk = suc (work_left graph outlines walk)
work_now graph outlines step.Over walk = 0
work_now graph outlines (step.Unknown file) walk = 0
work_now graph outlines (step.Faulty fault) walk = 0
