-- The verdict on a file: a walk over the outlines of files, depth first, with the path of files that it went down by.
use Rattle.std.specs.Prelude.{ℕ, zero, suc, eqb, Bool, true, false, List, [], ◌∷◌, ◌++◌, length, map, Option, Some, None, bytes_eq}
use Rattle.std.specs.Arc.{arc_value}
use Rattle.std.specs.List.{list_any, position_from}
use Rattle.std.specs.declared.sync.Arc.{Arc}
use Rattle.djvu_base.specs.declared.faults.FaultKind.{FaultKind}
use Rattle.djvu_base.specs.declared.faults.FaultKind.TheVariants as kinds
use Rattle.djvu_base.specs.declared.faults.Fault.{Fault}
use Rattle.include_graph.specs.declared.outline.Outline.{Outline}
use Rattle.include_graph.specs.declared.outline.OutlineItem.{OutlineItem}
use Rattle.include_graph.specs.declared.outline.OutlineItem.TheVariants as item
use Rattle.include_graph.specs.declared.verdicts.Verdict.{Verdict}
use Rattle.include_graph.specs.declared.verdicts.Verdict.TheVariants.{Files, NeedOutline, Refused}

-- the files of a folder: their names in order, and the outlines that are known, by the numbers of the names
pub record Graph : Type 0 where
  pub names : List (List ℕ)
  pub outlines : ℕ → Option Outline

-- the outlines of a list, by their places in it, and none elsewhere
abbrev pub in_list : List (Option Outline) → ℕ → Option Outline
in_list [] file = None
in_list (outline ∷ outlines) zero = outline
in_list (outline ∷ outlines) (suc file) = in_list outlines file

abbrev pub outline_in : {Z : Type 0} → Option (Arc Outline Z) → Option Outline
outline_in None = None
outline_in (Some outline) = Some (arc_value outline)

-- the files of these names, whose outlines, where they are known, are these
abbrev pub graph_in : {Z : Type 0} → List (List ℕ) → List (Option (Arc Outline Z)) → Graph
graph_in names outlines = record { names = names; outlines = in_list (map outline_in outlines) }

-- the number of a name
abbrev pub number_of : List ℕ → List (List ℕ) → Option ℕ
number_of name names = position_from (bytes_eq name) 0 names

abbrev pub is_among : ℕ → List ℕ → Bool
is_among file files = list_any (eqb file) files

-- a part of a walk: it goes on with these files left so far, in the order in which they were left, or it stops at a file
-- whose outline isn't known, or at a fault
pub data Walked : Type 0 where
  Left : List ℕ → Walked
  Unknown : ℕ → Walked
  Faulty : Fault → Walked

abbrev pub walk_then : Walked → (List ℕ → Walked) → Walked
walk_then (Left left) next = next left
walk_then (Unknown file) next = Unknown file
walk_then (Faulty fault) next = Faulty fault

abbrev pub fault_at : FaultKind → ℕ → ℕ → Fault
fault_at kind file offset = record { kind = kind; place = record { file = file; offset = offset } }

abbrev pub refused : FaultKind → ℕ → ℕ → Walked
refused kind file offset = Faulty (fault_at kind file offset)

-- at an include whose target is on the path or not, and was left before or not
abbrev pub at_target : (ℕ → List ℕ → Walked) → Bool → Bool → ℕ → ℕ → ℕ → List ℕ → Walked
at_target go true was_left file offset target left = refused kinds.CyclicInclude file offset
at_target go false true file offset target left = Left left
at_target go false false file offset target left = go target left

-- at the include of a file, by the number of the name that it holds: `go` goes down into the target. The path ends with the file
abbrev pub at_include : (ℕ → List ℕ → Walked) → List ℕ → ℕ → ℕ → Option ℕ → List ℕ → Walked
at_include go path file offset None left = refused kinds.MissingInclude file offset
at_include go path file offset (Some target) left = at_target go (is_among target path) (is_among target left) file offset target left

-- the items of a file, in order; behind the last one the file is left
abbrev pub at_items : (ℕ → List ℕ → Walked) → List (List ℕ) → List ℕ → ℕ → List OutlineItem → List ℕ → Walked
at_items go names path file [] left = Left (left ++ file ∷ [])
at_items go names path file (item.Include name offset ∷ items) left = walk_then (at_include go path file offset (number_of name names) left)
    (at_items go names path file items)
at_items go names path file (item.Broken kind offset ∷ items) left = refused kind file offset

abbrev pub at_outline : (ℕ → List ℕ → Walked) → List (List ℕ) → List ℕ → ℕ → Option Outline → List ℕ → Walked
at_outline go names path file None left = Unknown file
at_outline go names path file (Some outline) left = at_items go names path file outline.items left

-- down into a file, where this path led to it, and at most so many files further down. Without any it can't go there
abbrev pub visit : Graph → ℕ → List ℕ → ℕ → List ℕ → Walked
visit graph zero path file left = Unknown file
visit graph (suc most) path file left = at_outline (visit graph most (file ∷ path)) graph.names (file ∷ path) file (graph.outlines file) left

abbrev pub verdict_by : Walked → Verdict
verdict_by (Left left) = Files left
verdict_by (Unknown file) = NeedOutline file
verdict_by (Faulty fault) = Refused fault

-- the verdict on a file. No path is longer than there are names
abbrev pub verdict_of : Graph → ℕ → Verdict
verdict_of graph file = verdict_by (visit graph (length graph.names) [] file [])
