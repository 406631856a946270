-- A walk over outlines that keeps its path in a stack: where it stands, and what the rest of it gives.
use Rattle.std.specs.Prelude.{ℕ, suc, eqb, ◌≡◌, ◌+◌, ◌-◌, ◌<◌, Bool, true, false, List, [], ◌∷◌, length, map, drop, slice_get, Option, Some, None}
use Rattle.std.specs.List.{IsDistinct}
use Rattle.include_graph.specs.declared.outline.Outline.{Outline}
use Rattle.include_graph.specs.declared.outline.OutlineItem.{OutlineItem}
use Rattle.include_graph.specs.declared.stack.Frame.{Frame}
use Rattle.include_graph.specs.declared.stack.Mark.{Mark}
use Rattle.include_graph.specs.declared.stack.Mark.TheVariants as mark
use Rattle.include_graph.specs.Verdicts.{Graph, Walked, Left, walk_then, is_among, at_items, visit}

-- the items of an outline, and none where it isn't known
abbrev pub items_known : Option Outline → List OutlineItem
items_known None = []
items_known (Some outline) = outline.items

abbrev pub path_of : List Frame → List ℕ
path_of frames = map (λ frame. frame.file) frames

-- down into a file that this path leads to
abbrev pub down : Graph → List ℕ → ℕ → List ℕ → Walked
down graph path target left = visit graph (length graph.names - length path) path target left

-- the items of a frame that weren't passed
abbrev pub items_left : Graph → Frame → List OutlineItem
items_left graph frame = drop frame.passed (items_known (graph.outlines frame.file))

-- what the rest of a walk gives whose path has these frames, the last one first
abbrev pub rest_of_walk : Graph → List Frame → List ℕ → Walked
rest_of_walk graph [] left = Left left
rest_of_walk graph (frame ∷ frames) left =
    walk_then (at_items (down graph (path_of (frame ∷ frames))) graph.names (path_of (frame ∷ frames)) frame.file (items_left graph frame) left)
    (rest_of_walk graph frames)

abbrev pub mark_by : Bool → Bool → Mark
mark_by true was_left = mark.OnPath
mark_by false true = mark.Left
mark_by false false = mark.Ahead

abbrev pub mark_of : List ℕ → List ℕ → ℕ → Mark
mark_of path left file = mark_by (is_among file path) (is_among file left)

-- how much of an outline a walk may still have to do, if it wasn't there
abbrev pub work_ahead : Mark → List OutlineItem → ℕ
work_ahead mark.Ahead items = suc (suc (length items))
work_ahead mark.OnPath items = 0
work_ahead mark.Left items = 0

abbrev pub work_of_files : List Mark → List (Option Outline) → ℕ
work_of_files [] outlines = 0
work_of_files (mark ∷ marks) [] = 0
work_of_files (mark ∷ marks) (outline ∷ outlines) = work_ahead mark (items_known outline) + work_of_files marks outlines

abbrev pub work_of_path : Graph → List Frame → ℕ
work_of_path graph [] = 0
work_of_path graph (frame ∷ frames) = suc (length (items_left graph frame)) + work_of_path graph frames

-- a walk stands so: its path, the last frame first, is of distinct files, and marks say where each file is
pub record IsWalk (graph : Graph) (frames : List Frame) (marks : List Mark) (left : List ℕ) : Type 0 where
  pub marked : (file : ℕ) → file < length graph.names → slice_get marks file ≡ Some (mark_of (path_of frames) left file)
  pub count : length marks ≡ length graph.names
  pub distinct : IsDistinct eqb (path_of frames)
  pub below : (file : ℕ) → is_among file (path_of frames) ≡ true → file < length graph.names
