-- A cell more, to which one that was there links.
use Rattle.std.proofs.Common.{◌≡◌, ◌≤◌, ◌<◌, ◌+◌, ◌==◌, ℕ, zero, suc, Bool, true, false, List, [], ◌∷◌, ◌++◌, length, get_or, set, refl, sym, ap, subst, ◌∙◌, inl, inr, arith}
use Rattle.std.specs.Prelude.{◌⊎◌, Option, Some, None, Result, Ok, Err, IfOk, if◌then◌else◌}
use Rattle.std.proofs.Math.Path.{fun_ext}
use Rattle.std.proofs.lemmas.Bool.{cases_Bool, cases_lt, cases_eq}
use Rattle.std.proofs.lemmas.Grind.{common_steps}
use Rattle.std.proofs.lemmas.List.{get_or-set_same, get_or-set_other, get_or_past, get_or_read, get_or_push, get_or_append_left, length-set, length-append}
use Rattle.jb2_numbers.specs.declared.roots.Root.{Root}
use Rattle.jb2_numbers.specs.declared.contexts.Cell.{Cell}
use Rattle.jb2_numbers.specs.Roots.{root_index}
use Rattle.jb2_numbers.specs.Contexts.{Name, name, further}
use Rattle.jb2_numbers.specs.Kept.{Numbers, start, link, with_link, linked, next_cell, cell_after, state_in, states_of, IsCell, AreNamed, HaveNames}
use Rattle.jb2_numbers.proofs.Names.{root_below}

pub record Grows (cells more : List Cell) (at : ℕ) (decision : Bool) : Type 0 where
  pub size : length more ≡ length cells + 1
  pub here : get_or more at start ≡ with_link (get_or cells at start) decision (length cells)
  pub last : get_or more (length cells) start ≡ start
  pub others : (i : ℕ) → (i ≡ at → ⊥) → (i ≡ length cells → ⊥) → get_or more i start ≡ get_or cells i start
  pub none : link (get_or cells at start) decision ≡ 0
  pub within : at < length cells
  pub room : 16 ≤ length cells

some_roots : (cells : List Cell) (at : ℕ) → at < length cells → (length cells ≡ 0) ⊎ (16 ≤ length cells) → 16 ≤ length cells
some_roots cells at within (inl none) = absurd (omega (arith, within, none))
some_roots cells at within (inr some) = some

pub grown_by : (cells : List Cell) (at : ℕ) (decision : Bool) → at < length cells → 16 ≤ length cells → link (get_or cells at start) decision ≡ 0 →
    Grows cells (set (cells ++ start ∷ []) at (with_link (get_or cells at start) decision (length cells))) at decision
grown_by cells at decision within room none =
    let longer : length (cells ++ start ∷ []) ≡ length cells + 1 = length-append cells (start ∷ []) in
    let cell : Cell = with_link (get_or cells at start) decision (length cells) in
    record {
      size = length-set (cells ++ start ∷ []) at cell ∙ longer;
      here = get_or-set_same (cells ++ start ∷ []) at cell start (omega (arith, within, longer));
      last = get_or-set_other (cells ++ start ∷ []) at (length cells) cell start (λ same. omega (arith, within, same))
          ∙ get_or_push cells start start (length cells) refl;
      others = λ i apart before. get_or-set_other (cells ++ start ∷ []) at i cell start apart ∙
          elim (cases_lt i (length cells)) [
            | inl less ↦ get_or_append_left cells (start ∷ []) start i less
            | inr past ↦
                let end : length (cells ++ start ∷ []) ≤ i = omega (arith, longer, past, before) in
                get_or_past (cells ++ start ∷ []) i start end ∙ sym (get_or_past cells i start past)
          ];
      none = none;
      within = within;
      room = room;
    }

-- the same, as the code has it
pub grown_from : (cells pushed : List Cell) (at link_now : ℕ) (decision : Bool) (cell new : Cell) → HaveNames cells → at < length cells →
    link (get_or cells at start) decision ≡ 0 →
    pushed ≡ cells ++ start ∷ [] → cell ≡ get_or pushed at cell → new ≡ with_link cell decision link_now → link_now ≡ length cells →
    Grows cells (set pushed at new) at decision
grown_from cells pushed at link_now decision cell new have within none pushes is links size =
    let longer : length pushed ≡ length cells + 1 = ap length pushes ∙ length-append cells (start ∷ []) in
    let read : cell ≡ get_or cells at start =
    get_or_read pushed at cell (omega (arith, within, longer)) is start
    ∙ (ap (λ (list : List Cell). get_or list at start) pushes ∙ get_or_append_left cells (start ∷ []) start at within) in
    let news : new ≡ with_link (get_or cells at start) decision (length cells) =
    links ∙ (ap (λ (c : Cell). with_link c decision link_now) read ∙ ap (with_link (get_or cells at start) decision) size) in
    subst (λ (list : List Cell). Grows cells list at decision) (sym
    (ap (λ (list : List Cell). set list at new) pushes ∙ ap (set (cells ++ start ∷ []) at) news))
    (grown_by cells at decision within (some_roots cells at within have.1.room) none)

no_link_at : (n next : ℕ) → n ≡ 0 → linked n ≡ Some next → ⊥
no_link_at n next is leads = let none : linked n ≡ None = ap linked is in absurd (cc (none, leads))

some_link : (n next : ℕ) → linked n ≡ Some next → n ≡ next
some_link zero next leads = absurd (cc)
some_link (suc n) next leads = cc

linked_size : (n : ℕ) → 16 ≤ n → linked n ≡ Some n
linked_size zero some = absurd (omega (arith, some))
linked_size (suc n) some = refl

other_link : (cell : Cell) (decision other : Bool) (next : ℕ) → (other ≡ decision → ⊥) → link (with_link cell decision next) other ≡ link cell other
other_link cell true true next apart = absurd (apart refl)
other_link cell true false next apart = refl
other_link cell false true next apart = refl
other_link cell false false next apart = absurd (apart refl)

this_link : (cell : Cell) (decision : Bool) (next : ℕ) → link (with_link cell decision next) decision ≡ next
this_link cell true next = refl
this_link cell false next = refl

state_linked : (cell : Cell) (decision : Bool) (next : ℕ) → (with_link cell decision next).state ≡ cell.state
state_linked cell true next = refl
state_linked cell false next = refl

bits_equal : (a b : Bool) → (a ≡ b) ⊎ (a ≡ b → ⊥)
bits_equal true true = inl refl
bits_equal true false = inr (λ e. cc)
bits_equal false true = inr (λ e. cc)
bits_equal false false = inl refl

-- the names, with that of a new cell
abbrev renamed : Name → ℕ → (ℕ → Name) → ℕ → Name
renamed new n names i = if i == n then new else names i

renamed_same : (new : Name) (n : ℕ) (names : ℕ → Name) → renamed new n names n ≡ new
renamed_same new n names = let e : (n == n) ≡ true = grind (arith, common_steps) in rw e refl

renamed_other : (new : Name) (n : ℕ) (names : ℕ → Name) (i : ℕ) → (i ≡ n → ⊥) → renamed new n names i ≡ names i
renamed_other new n names i apart =
    elim (cases_Bool (i == n)) [
      | inl equal ↦ let same : i ≡ n = grind (arith, common_steps, equal) in absurd (apart same)
      | inr e ↦ rw e refl
    ]

-- what a link of the longer list is
data Links (cells : List Cell) (at : ℕ) (decision : Bool) (i : ℕ) (other : Bool) (next : ℕ) : Type 0 where
  was : i < length cells → linked (link (get_or cells i start) other) ≡ Some next → Links cells at decision i other next
  is_new : i ≡ at → other ≡ decision → next ≡ length cells → Links cells at decision i other next

module _ (cells more : List Cell) (at : ℕ) (decision : Bool) (grows : Grows cells more at decision) where
  abbrev Linked : List Cell → ℕ → Bool → ℕ → Type 0
  Linked list i other next = linked (link (get_or list i start) other) ≡ Some next

  not_last : at ≡ length cells → ⊥
  not_last same = let within : at < length cells = grows.within in omega (arith, within, same)

  last_unlinked : (list : List Cell) (i : ℕ) (other : Bool) (next : ℕ) → get_or list i start ≡ start → Linked list i other next → ⊥
  last_unlinked list i true next is leads = no_link_at (link (get_or list i start) true) next (ap (λ (c : Cell). link c true) is) leads
  last_unlinked list i false next is leads = no_link_at (link (get_or list i start) false) next (ap (λ (c : Cell). link c false) is) leads

  -- links that were there stay
  here_stays : (other : Bool) (next : ℕ) → Linked cells at other next → Linked more at other next
  here_stays other next leads =
      elim (bits_equal other decision) [
        | inl same ↦ absurd (no_link_at (link (get_or cells at start) other) next (ap (link (get_or cells at start)) same ∙ grows.none) leads)
        | inr apart ↦ ap (λ (c : Cell). linked (link c other)) grows.here
            ∙ (ap linked (other_link (get_or cells at start) decision other (length cells) apart) ∙ leads)
      ]

  stays : (i : ℕ) (other : Bool) (next : ℕ) → Linked cells i other next → Linked more i other next
  stays i other next leads =
      elim (cases_eq i at) [
        | inl same ↦ subst (λ (k : ℕ). Linked more k other next) (sym same) (here_stays other next (subst (λ (k : ℕ). Linked cells k other next) same leads))
        | inr apart ↦ elim (cases_eq i (length cells)) [
          | inl end ↦ absurd (last_unlinked cells i other next (get_or_past cells i start (omega (arith, end))) leads)
          | inr before ↦ ap (λ (c : Cell). linked (link c other)) (grows.others i apart before) ∙ leads
        ]
      ]

  -- and there is one more
  here_was : (other : Bool) (next : ℕ) → Linked more at other next → Links cells at decision at other next
  here_was other next leads =
      let there : linked (link (with_link (get_or cells at start) decision (length cells)) other) ≡ Some next = ap (λ (c : Cell). linked (link c other))
      (sym grows.here) ∙ leads in
      elim (bits_equal other decision) [
        | inl same ↦
            let new : linked (length cells) ≡ Some next = ap linked (sym (ap (link (with_link (get_or cells at start) decision (length cells))) same
            ∙ this_link (get_or cells at start) decision (length cells))) ∙ there in
            is_new refl same (sym (some_link (length cells) next new))
        | inr apart ↦ was grows.within (ap linked (sym (other_link (get_or cells at start) decision other (length cells) apart)) ∙ there)
      ]

  shorter : (i : ℕ) (other : Bool) (next : ℕ) → Linked cells i other next → i < length cells
  shorter i other next leads =
      elim (cases_lt i (length cells)) [
        | inl less ↦ less
        | inr past ↦ absurd (last_unlinked cells i other next (get_or_past cells i start past) leads)
      ]

  links : (i : ℕ) (other : Bool) (next : ℕ) → Linked more i other next → Links cells at decision i other next
  links i other next leads =
      elim (cases_eq i at) [
        | inl same ↦ subst (λ (k : ℕ). Links cells at decision k other next) (sym same)
            (here_was other next (subst (λ (k : ℕ). Linked more k other next) same leads))
        | inr apart ↦ elim (cases_eq i (length cells)) [
          | inl end ↦ absurd (last_unlinked more i other next (ap (λ (k : ℕ). get_or more k start) end ∙ grows.last) leads)
          | inr before ↦
              let there : Linked cells i other next = ap (λ (c : Cell). linked (link c other)) (sym (grows.others i apart before)) ∙ leads in
              was (shorter i other next there) there
        ]
      ]

  -- ---- cells of names

  next_stays : (other : Bool) (o o' : Option ℕ) (next : ℕ) → ((j : ℕ) → o ≡ Some j → o' ≡ Some j) → next_cell cells other o ≡ Some next →
      next_cell more other o' ≡ Some next
  next_stays other None o' next earlier leads = absurd (cc)
  next_stays other (Some j) o' next earlier leads = ap (next_cell more other) (earlier j refl) ∙ stays j other next leads

  cell_stays : (root : Root) (decisions : List Bool) (j : ℕ) → cell_after cells root decisions ≡ Some j → cell_after more root decisions ≡ Some j
  cell_stays root [] j leads = leads
  cell_stays root (other ∷ decisions) j leads = next_stays other (cell_after cells root decisions) (cell_after more root decisions) j
      (cell_stays root decisions) leads

  abbrev WasOrNew : Option ℕ → ℕ → Type 0
  WasOrNew o j = (o ≡ Some j) ⊎ (j ≡ length cells)

  from_link : (other : Bool) (o : Option ℕ) (i next : ℕ) → o ≡ Some i → Links cells at decision i other next → WasOrNew (next_cell cells other o) next
  from_link other o i next e (was less leads) = inl (ap (next_cell cells other) e ∙ leads)
  from_link other o i next e (is_new here same end) = inr end

  next_was : (other : Bool) (o o' : Option ℕ) (next : ℕ) → ((j : ℕ) → o' ≡ Some j → WasOrNew o j) → next_cell more other o' ≡ Some next →
      WasOrNew (next_cell cells other o) next
  next_was other o None next earlier leads = absurd (cc)
  next_was other o (Some i) next earlier leads =
      elim (earlier i refl) [
        | inl e ↦ from_link other o i next e (links i other next leads)
        | inr end ↦ absurd (last_unlinked more i other next (ap (λ (k : ℕ). get_or more k start) end ∙ grows.last) leads)
      ]

  cell_was : (root : Root) (decisions : List Bool) (j : ℕ) → cell_after more root decisions ≡ Some j → WasOrNew (cell_after cells root decisions) j
  cell_was root [] j leads = inl leads
  cell_was root (other ∷ decisions) j leads = next_was other (cell_after cells root decisions) (cell_after more root decisions) j
      (cell_was root decisions) leads

  -- ---- states

  state_stays : (i : ℕ) → (get_or more i start).state ≡ (get_or cells i start).state
  state_stays i =
      elim (cases_eq i at) [
        | inl same ↦ subst (λ (k : ℕ). (get_or more k start).state ≡ (get_or cells k start).state) (sym same)
            (ap (λ (c : Cell). c.state) grows.here ∙ state_linked (get_or cells at start) decision (length cells))
        | inr apart ↦ elim (cases_eq i (length cells)) [
          | inl end ↦ ap (λ (c : Cell). c.state) (ap (λ (k : ℕ). get_or more k start) end ∙ grows.last)
              ∙ sym (ap (λ (c : Cell). c.state) (get_or_past cells i start (omega (arith, end))))
          | inr before ↦ ap (λ (c : Cell). c.state) (grows.others i apart before)
        ]
      ]

  state_by : (o o' : Option ℕ) → ((j : ℕ) → o ≡ Some j → o' ≡ Some j) → ((j : ℕ) → o' ≡ Some j → WasOrNew o j) → state_in more o' ≡ state_in cells o
  state_by (Some j) o' on back = ap (state_in more) (on j refl) ∙ state_stays j
  state_by None None on back = refl
  state_by None (Some j) on back =
      elim (back j refl) [
        | inl e ↦ absurd (cc)
        | inr end ↦ ap (λ (c : Cell). c.state) (ap (λ (k : ℕ). get_or more k start) end ∙ grows.last)
      ]

  pub grown_states : states_of (record { cells = more }) ≡ states_of (record { cells = cells })
  unfolding states_of
  grown_states = fun_ext (λ (of : Name). state_by (cell_after cells of.root of.decisions) (cell_after more of.root of.decisions)
      (cell_stays of.root of.decisions) (cell_was of.root of.decisions))

  -- ---- the new cell

  pub grown_cell : (before : Name) → IsCell (record { cells = cells }) before at → IsCell (record { cells = more }) (further before decision) (length cells)
  grown_cell before is =
      let there : linked (link (get_or more at start) decision) ≡ Some (length cells) =
      ap (λ (c : Cell). linked (link c decision)) grows.here ∙ (ap linked (this_link (get_or cells at start) decision (length cells))
      ∙ linked_size (length cells) grows.room) in
      let size : length more ≡ length cells + 1 = grows.size in
      record {
        leads = ap (next_cell more decision) (cell_stays before.root before.decisions at is.leads) ∙ there;
        within = omega (arith, size);
      }

  module _ (names : ℕ → Name) (are : AreNamed names cells) where
    abbrev after : ℕ → Name
    after = renamed (further (names at) decision) (length cells) names

    old_name : (i : ℕ) → i < length cells → after i ≡ names i
    old_name i less = renamed_other (further (names at) decision) (length cells) names i (λ same. omega (arith, less, same))

    named_link : (i : ℕ) (other : Bool) (next : ℕ) → Links cells at decision i other next → after next ≡ further (after i) other
    named_link i other next (was less leads) =
        old_name next (are.within i other next leads) ∙ (are.named i other next leads ∙ ap (λ (n : Name). further n other) (sym (old_name i less)))
    named_link i other next (is_new here same end) =
        ap after end ∙ (renamed_same (further (names at) decision) (length cells) names
        ∙ (ap (λ (n : Name). further n decision) (sym (ap after here ∙ old_name at grows.within)) ∙ ap (further (after i)) (sym same)))

    link_within : (i : ℕ) (other : Bool) (next : ℕ) → Links cells at decision i other next → next < length cells + 1
    link_within i other next (was less leads) = let low : next < length cells = are.within i other next leads in omega (arith, low)
    link_within i other next (is_new here same end) = omega (arith, end)

    named_more : AreNamed after more
    named_more = record {
      roots = λ root. old_name (root_index root) (let low : root_index root < 16 = root_below root in let room : 16 ≤ length cells = grows.room in omega
          (arith, low, room)) ∙ are.roots root;
      within = λ i other next leads. subst (λ (n : ℕ). next < n) (sym grows.size) (link_within i other next (links i other next leads));
      named = λ i other next leads. named_link i other next (links i other next leads);
      room = inr (let size : length more ≡ length cells + 1 = grows.size in let room : 16 ≤ length cells = grows.room in omega (arith, size, room));
    }

  pub grown_names : HaveNames cells → HaveNames more
  grown_names have = (renamed (further (have.0 at) decision) (length cells) have.0, named_more have.0 have.1)

-- where the cell after a decision was found, it is that of the name with one decision more
pub cell_on : {E : Type 0} (result : Result ℕ E) (old new : Numbers) (root : Root) (decisions later : List Bool) (decision : Bool) (at : ℕ) →
    later ≡ decision ∷ decisions → IsCell old (name root decisions) at →
    IfOk result (λ (next : ℕ). (before : Name) → IsCell old before at → IsCell new (further before decision) next) →
    IfOk result (λ (next : ℕ). IsCell new (name root later) next)
cell_on (Ok next) old new root decisions later decision at is cell leads = subst (λ (ds : List Bool). IsCell new (name root ds) next) (sym is)
    (leads (name root decisions) cell)
cell_on (Err error) old new root decisions later decision at is cell leads = tt
