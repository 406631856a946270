-- The tree of cells: no two names have the same cell, and what a new or a moved cell means.
use Rattle.std.proofs.Common.{◌≡◌, ◌≤◌, ◌<◌, ℕ, zero, suc, Bool, true, false, List, [], ◌∷◌, ◌++◌, length, get_or, set, replicate, refl, sym, ap, subst, ◌∙◌, inl, inr, arith}
use Rattle.std.specs.Prelude.{◌⊎◌, Option, Some, None, if◌then◌else◌}
use Rattle.std.proofs.Math.Path.{fun_ext}
use Rattle.std.proofs.lemmas.Bool.{cases_lt, cases_eq}
use Rattle.std.proofs.lemmas.List.{get_or-set_same, get_or-set_other, get_or-replicate, get_or_past, get_or_read, length-set, length-replicate}
use Rattle.zp_decoder.specs.States.{AreBelow, fresh}
use Rattle.zp_decoder.proofs.Lemmas.{stored_below}
use Rattle.jb2_numbers.specs.declared.roots.Root.{Root}
use Rattle.jb2_numbers.specs.declared.contexts.Cell.{Cell}
use Rattle.jb2_numbers.specs.Roots.{root_index}
use Rattle.jb2_numbers.specs.Contexts.{Name, name, further, is_same, store}
use Rattle.jb2_numbers.specs.Kept.{Numbers, start, link, linked, next_cell, cell_after, state_in, states_of, IsCell, AreNamed, HaveNames}
use Rattle.jb2_numbers.specs.Steps.{KeepsCells}
use Rattle.jb2_numbers.proofs.Names.{root_at, root_found, same_names}

linked_some : (n : ℕ) → (n ≡ 0 → ⊥) → linked n ≡ Some n
linked_some zero some = absurd (some refl)
linked_some (suc n) some = refl

some_same : (a b : ℕ) → Some a ≡ Some b → a ≡ b
some_same a b e = cc

-- ---- names of cells

named_by : (names : ℕ → Name) (cells : List Cell) → AreNamed names cells →
    (root : Root) (decision : Bool) (decisions : List Bool) (at : ℕ) (before : Option ℕ) →
    ((j : ℕ) → before ≡ Some j → names j ≡ name root decisions) → next_cell cells decision before ≡ Some at → names at ≡ name root (decision ∷ decisions)
named_by names cells are root decision decisions at None earlier leads = absurd (cc)
named_by names cells are root decision decisions at (Some j) earlier leads = are.named j decision at leads
    ∙ ap (λ (n : Name). further n decision) (earlier j refl)

named_at : (names : ℕ → Name) (cells : List Cell) → AreNamed names cells → (root : Root) (decisions : List Bool) (at : ℕ) →
    cell_after cells root decisions ≡ Some at → names at ≡ name root decisions
named_at names cells are root [] at leads = ap names (sym (some_same (root_index root) at leads)) ∙ are.roots root
named_at names cells are root (decision ∷ decisions) at leads =
    named_by names cells are root decision decisions at (cell_after cells root decisions) (named_at names cells are root decisions) leads

-- a cell has one name
pub one_name : (cells : List Cell) → HaveNames cells → (a b : Name) (at : ℕ) → cell_after cells a.root a.decisions ≡ Some at →
    cell_after cells b.root b.decisions ≡ Some at → a ≡ b
one_name cells have a b at of_a of_b = sym (named_at have.0 cells have.1 a.root a.decisions at of_a) ∙ named_at have.0 cells have.1 b.root b.decisions at of_b

-- ---- cells that are all at their start

abbrev pub AreStarts : List Cell → Type 0
AreStarts cells = (at : ℕ) → get_or cells at start ≡ start

unlinked : (cell : Cell) (decision : Bool) (next : ℕ) → cell ≡ start → linked (link cell decision) ≡ Some next → ⊥
unlinked cell true next is leads = let none : linked (link cell true) ≡ None = ap (λ (c : Cell). linked (link c true)) is in absurd (cc (none, leads))
unlinked cell false next is leads = let none : linked (link cell false) ≡ None = ap (λ (c : Cell). linked (link c false)) is in absurd (cc (none, leads))

pub start_names : (cells : List Cell) → AreStarts cells → (length cells ≡ 0) ⊎ (16 ≤ length cells) → HaveNames cells
start_names cells starts room = (
  (λ (at : ℕ). name (root_at at) []),
  record {
    roots = λ root. ap (λ (r : Root). name r []) (root_found root);
    within = λ at decision next leads. absurd (unlinked (get_or cells at start) decision next (starts at) leads);
    named = λ at decision next leads. absurd (unlinked (get_or cells at start) decision next (starts at) leads);
    room = room;
  },
)

state_started : (cells : List Cell) → AreStarts cells → (o : Option ℕ) → state_in cells o ≡ 0
state_started cells starts None = refl
state_started cells starts (Some at) = ap (λ (c : Cell). c.state) (starts at)

pub states_started : (numbers : Numbers) → AreStarts numbers.cells → states_of numbers ≡ fresh
unfolding states_of
states_started numbers starts = fun_ext (λ (of : Name). state_started numbers.cells starts (cell_after numbers.cells of.root of.decisions))

pub none_start : (cells : List Cell) → cells ≡ [] → AreStarts cells
none_start cells none at = ap (λ (list : List Cell). get_or list at start) none

pub repeated_start : (n : ℕ) → AreStarts (replicate n start)
repeated_start n at =
    elim (cases_lt at n) [
      | inl less ↦ get_or-replicate n at start start less
      | inr past ↦ get_or_past (replicate n start) at start (rw (length-replicate n start) past)
    ]

-- ---- a cell that moves to another state

abbrev pub SameLinks : List Cell → List Cell → Type 0
SameLinks a b = (at : ℕ) (decision : Bool) → link (get_or b at start) decision ≡ link (get_or a at start) decision

next_same : (a b : List Cell) → SameLinks a b → (decision : Bool) (o : Option ℕ) → next_cell b decision o ≡ next_cell a decision o
next_same a b same decision None = refl
next_same a b same decision (Some at) = ap linked (same at decision)

cells_same : (a b : List Cell) → SameLinks a b → (root : Root) (decisions : List Bool) → cell_after b root decisions ≡ cell_after a root decisions
cells_same a b same root [] = refl
cells_same a b same root (decision ∷ decisions) =
    ap (next_cell b decision) (cells_same a b same root decisions) ∙ next_same a b same decision (cell_after a root decisions)

names_same : (a b : List Cell) → SameLinks a b → length b ≡ length a → HaveNames a → HaveNames b
names_same a b same size have = (
  have.0,
  record {
    roots = have.1.roots;
    within = λ at decision next leads. subst (λ (n : ℕ). next < n) (sym size) (have.1.within at decision next (ap linked (sym (same at decision)) ∙ leads));
    named = λ at decision next leads. have.1.named at decision next (ap linked (sym (same at decision)) ∙ leads);
    room = subst (λ (n : ℕ). (n ≡ 0) ⊎ (16 ≤ n)) (sym size) have.1.room;
  },
)

abbrev pub moved : Cell → ℕ → Cell
moved cell state = record { state = state; after_false = cell.after_false; after_true = cell.after_true }

moved_link : (cell : Cell) (state : ℕ) (decision : Bool) → link (moved cell state) decision ≡ link cell decision
moved_link cell state true = refl
moved_link cell state false = refl

module _ (cells : List Cell) (at state : ℕ) (within : at < length cells) where
  abbrev moved_cells : List Cell
  moved_cells = set cells at (moved (get_or cells at start) state)

  here : get_or moved_cells at start ≡ moved (get_or cells at start) state
  here = get_or-set_same cells at (moved (get_or cells at start) state) start within

  elsewhere : (i : ℕ) → (i ≡ at → ⊥) → get_or moved_cells i start ≡ get_or cells i start
  elsewhere i other = get_or-set_other cells at i (moved (get_or cells at start) state) start other

  moved_links : SameLinks cells moved_cells
  moved_links i decision =
      elim (cases_eq i at) [
        | inl same ↦ subst (λ (k : ℕ). link (get_or moved_cells k start) decision ≡ link (get_or cells k start) decision) (sym same)
            (ap (λ (c : Cell). link c decision) here ∙ moved_link (get_or cells at start) state decision)
        | inr other ↦ ap (λ (c : Cell). link c decision) (elsewhere i other)
      ]

  pub moved_names : HaveNames cells → HaveNames moved_cells
  moved_names have = names_same cells moved_cells moved_links (length-set cells at (moved (get_or cells at start) state)) have

  pub moved_keeps : KeepsCells (record { cells = cells }) (record { cells = moved_cells })
  moved_keeps of i is = record {
    leads = cells_same cells moved_cells moved_links of.root of.decisions ∙ is.leads;
    within = subst (λ (n : ℕ). i < n) (sym (length-set cells at (moved (get_or cells at start) state))) is.within;
  }

  state_moved : HaveNames cells → (of other : Name) → cell_after cells of.root of.decisions ≡ Some at → (o : Option ℕ) →
      cell_after cells other.root other.decisions ≡ o → (same : Bool) → is_same of other ≡ same →
      state_in moved_cells o ≡ (if same then state else state_in cells o)
  state_moved have of other leads o is true e =
      let one : of ≡ other = (same_names of other).0 e in
      let there : o ≡ Some at = sym is ∙ (ap (λ (n : Name). cell_after cells n.root n.decisions) (sym one) ∙ leads) in
      ap (state_in moved_cells) there ∙ ap (λ (c : Cell). c.state) here
  state_moved have of other leads None is false e = refl
  state_moved have of other leads (Some i) is false e =
      elim (cases_eq i at) [
        | inl same ↦
            let one : of ≡ other = one_name cells have of other at leads (is ∙ ap (λ (k : ℕ). Some k) same) in
            let yes : is_same of other ≡ true = (same_names of other).1 one in
            absurd (cc (yes, e))
        | inr apart ↦ ap (λ (c : Cell). c.state) (elsewhere i apart)
      ]

  pub moved_states : HaveNames cells → (of : Name) → cell_after cells of.root of.decisions ≡ Some at →
      states_of (record { cells = moved_cells }) ≡ store (states_of (record { cells = cells })) of state
  unfolding states_of
  moved_states have of leads =
      fun_ext (λ (other : Name). ap (state_in moved_cells) (cells_same cells moved_cells moved_links other.root other.decisions)
      ∙ state_moved have of other leads (cell_after cells other.root other.decisions) refl (is_same of other) refl)

  pub moved_below : HaveNames cells → (of : Name) (count : ℕ) → cell_after cells of.root of.decisions ≡ Some at → state < count →
      AreBelow count (states_of (record { cells = cells })) →
      AreBelow count (states_of (record { cells = moved_cells }))
  moved_below have of count leads low below = subst (AreBelow count) (sym (moved_states have of leads))
      (stored_below is_same (states_of (record { cells = cells })) of state count below low)

-- a cell that was read, as the code has it
pub cell_read : (cells : List Cell) (at : ℕ) (cell : Cell) → at < length cells → cell ≡ get_or cells at cell → cell ≡ get_or cells at start
cell_read cells at cell within is = get_or_read cells at cell within is start

-- a link that is there leads to the cell of a name with a decision more
pub linked_cell : (cells : List Cell) → HaveNames cells → (before : Name) (at : ℕ) (decision : Bool) (cell : Cell) (next : ℕ) →
    IsCell (record { cells = cells }) before at → cell ≡ get_or cells at cell → next ≡ link cell decision →
    (next ≡ 0 → ⊥) → IsCell (record { cells = cells }) (further before decision) next
linked_cell cells have before at decision cell next of is links some =
    let there : linked (link (get_or cells at start) decision) ≡ Some next =
    ap (λ (c : Cell). linked (link c decision)) (sym (cell_read cells at cell of.within is)) ∙ (ap linked (sym links) ∙ linked_some next some) in
    record {
      leads = ap (next_cell cells decision) of.leads ∙ there;
      within = have.1.within at decision next there;
    }

-- the cells of the roots, where there were none
pub rooted : (old new : List Cell) (cell : Cell) → length old ≡ 0 → cell ≡ start → new ≡ old ++ replicate 16 cell →
    AreStarts old × (AreStarts new × (length new ≡ 16))
rooted [] new cell none is news =
    let all : new ≡ replicate 16 start = news ∙ ap (replicate 16) is in (
      none_start [] refl,
      ((λ at. ap (λ (list : List Cell). get_or list at start) all ∙ repeated_start 16 at), ap length all ∙ length-replicate 16 start),
    )
rooted (first ∷ old) new cell none is news = absurd (omega (arith, none))
