-- Walks over the includes of a file, depth first: what one meets first that remembers nothing but its path, and which files one leaves.
use Rattle.std.specs.Prelude.{ℕ, ◌≡◌, ◌++◌, ⊤, true, false, List, [], ◌∷◌, Some, None}
use Rattle.djvu_base.specs.declared.faults.Fault.{Fault}
use Rattle.djvu_base.specs.declared.faults.FaultKind.{FaultKind}
use Rattle.djvu_base.specs.declared.faults.FaultKind.TheVariants as kinds
use Rattle.include_graph.specs.declared.outline.Outline.{Outline}
use Rattle.include_graph.specs.declared.outline.OutlineItem.{OutlineItem}
use Rattle.include_graph.specs.declared.outline.OutlineItem.TheVariants as item
use Rattle.include_graph.specs.Verdicts.{Graph, number_of, is_among, fault_at}

-- what a walk meets first
pub data Met : Type 0 where
  -- no fault, and no outline that isn't known
  MetNothing : Met
  -- a file whose outline isn't known
  MetUnknown : ℕ → Met
  MetFault : Fault → Met

-- the walk stops there
abbrev pub Stops : Met → Type 0
Stops MetNothing = ⊥
Stops (MetUnknown file) = ⊤
Stops (MetFault fault) = ⊤

-- what a walk has ahead: a file that it comes to, or the items of a file's outline that it didn't pass
pub data Ahead : Type 0 where
  AFile : Ahead
  Items : List OutlineItem → Ahead

-- what is met first from a file on, to which this path leads, the last file first
pub data Meets (graph : Graph) : List ℕ → ℕ → Ahead → Met → Type 0 where
  -- the outline of the file isn't known
  not_known : (path : List ℕ) (file : ℕ) → graph.outlines file ≡ None → Meets graph path file AFile (MetUnknown file)
  -- it is known, and this is met over its items
  into_file : (path : List ℕ) (file : ℕ) (outline : Outline) (met : Met) → graph.outlines file ≡ Some outline
      → Meets graph path file (Items outline.items) met → Meets graph path file AFile met
  -- no item is left
  all_passed : (path : List ℕ) (file : ℕ) → Meets graph path file (Items []) MetNothing
  -- the next item is a fault of form
  at_break : (path : List ℕ) (file : ℕ) (kind : FaultKind) (offset : ℕ) (items : List OutlineItem)
      → Meets graph path file (Items (item.Broken kind offset ∷ items)) (MetFault (fault_at kind file offset))
  -- the next item is an include of a file that is missing
  at_missing : (path : List ℕ) (file : ℕ) (name : List ℕ) (offset : ℕ) (items : List OutlineItem) → number_of name graph.names ≡ None
      → Meets graph path file (Items (item.Include name offset ∷ items)) (MetFault (fault_at kinds.MissingInclude file offset))
  -- the next item is an include of the file itself, or of one of its path
  at_cycle : (path : List ℕ) (file : ℕ) (name : List ℕ) (offset : ℕ) (items : List OutlineItem) (next : ℕ)
      → number_of name graph.names ≡ Some next → is_among next (file ∷ path) ≡ true
      → Meets graph path file (Items (item.Include name offset ∷ items)) (MetFault (fault_at kinds.CyclicInclude file offset))
  -- the walk goes down at the next item, and stops below
  stops_below : (path : List ℕ) (file : ℕ) (name : List ℕ) (offset : ℕ) (items : List OutlineItem) (next : ℕ) (met : Met)
      → number_of name graph.names ≡ Some next → is_among next (file ∷ path) ≡ false
      → Meets graph (file ∷ path) next AFile met → Stops met → Meets graph path file (Items (item.Include name offset ∷ items)) met
  -- nothing is met below the next item, and this over the items behind it
  passes : (path : List ℕ) (file : ℕ) (name : List ℕ) (offset : ℕ) (items : List OutlineItem) (next : ℕ) (met : Met)
      → number_of name graph.names ≡ Some next → is_among next (file ∷ path) ≡ false
      → Meets graph (file ∷ path) next AFile MetNothing → Meets graph path file (Items items) met
      → Meets graph path file (Items (item.Include name offset ∷ items)) met

-- what a walk from a file meets first
abbrev pub MeetsFirst : Graph → ℕ → Met → Type 0
MeetsFirst graph target met = Meets graph [] target AFile met

-- a walk from a file on comes to its end, where these files were left before, and those in the end, in the order in which they were
pub data Leaves (graph : Graph) : List ℕ → ℕ → Ahead → List ℕ → List ℕ → Type 0 where
  -- the outline of the file is known, and the walk goes over its items
  over_items : (path : List ℕ) (file : ℕ) (outline : Outline) (left after : List ℕ) → graph.outlines file ≡ Some outline
      → Leaves graph path file (Items outline.items) left after → Leaves graph path file AFile left after
  -- no item comes, and the file is left
  leaves_file : (path : List ℕ) (file : ℕ) (left : List ℕ) → Leaves graph path file (Items []) left (left ++ file ∷ [])
  -- the next item is an include of a file that was left
  goes_by : (path : List ℕ) (file : ℕ) (name : List ℕ) (offset : ℕ) (items : List OutlineItem) (next : ℕ) (left after : List ℕ)
      → number_of name graph.names ≡ Some next → is_among next (file ∷ path) ≡ false → is_among next left ≡ true
      → Leaves graph path file (Items items) left after → Leaves graph path file (Items (item.Include name offset ∷ items)) left after
  -- the walk goes down at the next item, and comes back to those behind it
  goes_down : (path : List ℕ) (file : ℕ) (name : List ℕ) (offset : ℕ) (items : List OutlineItem) (next : ℕ) (left between after : List ℕ)
      → number_of name graph.names ≡ Some next → is_among next (file ∷ path) ≡ false → is_among next left ≡ false
      → Leaves graph (file ∷ path) next AFile left between → Leaves graph path file (Items items) between after
      → Leaves graph path file (Items (item.Include name offset ∷ items)) left after

-- a walk from a file leaves these files, in this order
abbrev pub LeavesAll : Graph → ℕ → List ℕ → Type 0
LeavesAll graph target files = Leaves graph [] target AFile [] files
