-- What holds of verdicts: how they grow with the outlines that are known, how a verdict's list is ordered, and where faults are met.
use Rattle.std.specs.Prelude.{ℕ, ◌≡◌, ◌<◌, ◌++◌, true, false, List, [], ◌∷◌, length, Contains, Option, Some, None, ⊤}
use Rattle.djvu_base.specs.declared.faults.Fault.{Fault}
use Rattle.djvu_base.specs.declared.faults.FaultKind.{FaultKind}
use Rattle.djvu_base.specs.declared.faults.FaultKind.TheVariants as kinds
use Rattle.include_graph.specs.declared.outline.Outline.{Outline}
use Rattle.include_graph.specs.declared.outline.OutlineItem.{OutlineItem}
use Rattle.include_graph.specs.declared.outline.OutlineItem.TheVariants as item
use Rattle.include_graph.specs.declared.verdicts.Verdict.{Verdict}
use Rattle.include_graph.specs.declared.verdicts.Verdict.TheVariants.{NeedOutline}
use Rattle.include_graph.specs.Verdicts.{Graph, number_of, is_among, fault_at}

-- each outline that is known is known there too
abbrev pub KnownOn : (ℕ → Option Outline) → (ℕ → Option Outline) → Type 0
KnownOn outlines later = (file : ℕ) (outline : Outline) → outlines file ≡ Some outline → later file ≡ Some outline

-- a verdict with these outlines known, by one with fewer: it is the same, or that one was unknown at an outline that is known now
pub data VerdictOn (outlines : ℕ → Option Outline) (before after : Verdict) : Type 0 where
  same_verdict : before ≡ after → VerdictOn outlines before after
  was_unknown : (file : ℕ) (outline : Outline) → before ≡ NeedOutline file → outlines file ≡ Some outline → VerdictOn outlines before after

-- the items have no fault, and each is an include of one of these files
abbrev pub IncludesAmong : List (List ℕ) → List ℕ → List OutlineItem → Type 0
IncludesAmong names files [] = ⊤
IncludesAmong names files (item.Include name offset ∷ items) = ((target : ℕ) × (number_of name names ≡ Some target) × (is_among target files ≡ true))
    × IncludesAmong names files items
IncludesAmong names files (item.Broken kind offset ∷ items) = ⊥

-- a file has an outline that is known, and includes only these files
pub record IsServed (graph : Graph) (files : List ℕ) (file : ℕ) : Type 0 where
  pub below : file < length graph.names
  pub outline : Outline
  pub known : graph.outlines file ≡ Some outline
  pub includes : IncludesAmong graph.names files outline.items

-- behind the files `before`, each file comes once, after all that it includes
abbrev pub InOrder : Graph → List ℕ → List ℕ → Type 0
InOrder graph before [] = ⊤
InOrder graph before (file ∷ files) = IsServed graph before file × (is_among file before ≡ false) × InOrder graph (before ++ file ∷ []) files

-- the outline of a file is known, and has this item
pub record HasItem (graph : Graph) (file : ℕ) (found : OutlineItem) : Type 0 where
  pub outline : Outline
  pub known : graph.outlines file ≡ Some outline
  pub has : Contains outline.items found

-- a file has an include of this one
pub record Includes (graph : Graph) (file next : ℕ) : Type 0 where
  pub name : List ℕ
  pub offset : ℕ
  pub has : HasItem graph file (item.Include name offset)
  pub number : number_of name graph.names ≡ Some next

-- includes lead from the target to the first of these files: each file is included by the next one, and the target comes last
abbrev pub IsWay : Graph → ℕ → List ℕ → Type 0
IsWay graph target [] = ⊥
IsWay graph target (file ∷ []) = file ≡ target
IsWay graph target (file ∷ above ∷ path) = Includes graph above file × IsWay graph target (above ∷ path)

-- a file, to which these files lead, has this fault
pub data HasFault (graph : Graph) (path : List ℕ) (file : ℕ) (fault : Fault) : Type 0 where
  -- it includes a file that is missing
  lacks_file : (name : List ℕ) (offset : ℕ) → HasItem graph file (item.Include name offset) → number_of name graph.names ≡ None
      → fault ≡ fault_at kinds.MissingInclude file offset → HasFault graph path file fault
  -- it includes itself or one of these files
  comes_back : (name : List ℕ) (offset next : ℕ) → HasItem graph file (item.Include name offset) → number_of name graph.names ≡ Some next
      → is_among next (file ∷ path) ≡ true → fault ≡ fault_at kinds.CyclicInclude file offset → HasFault graph path file fault
  -- it has a fault of form
  is_broken : (kind : FaultKind) (offset : ℕ) → HasItem graph file (item.Broken kind offset) → fault ≡ fault_at kind file offset
      → HasFault graph path file fault

-- includes lead from the target to a file that has this fault
pub record LeadsTo (graph : Graph) (target : ℕ) (fault : Fault) : Type 0 where
  pub file : ℕ
  pub path : List ℕ
  pub way : IsWay graph target (file ∷ path)
  pub has : HasFault graph path file fault
