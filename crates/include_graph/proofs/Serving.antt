-- Each file of a list in order has itself a list as its verdict, and includes lead from it to no fault.
use Rattle.std.proofs.Common.{◌≡◌, ℕ, zero, suc, ◌<◌, Bool, true, false, List, [], ◌∷◌, ◌++◌, length, get_or, Option, Some, None, inl, inr, refl, sym, ap, ◌∙◌, subst, arith, append_assoc, length-append, rules}
use Rattle.djvu_base.specs.declared.faults.Fault.{Fault}
use Rattle.djvu_base.specs.declared.faults.FaultKind.{FaultKind}
use Rattle.include_graph.specs.declared.outline.Outline.{Outline}
use Rattle.include_graph.specs.declared.outline.OutlineItem.{OutlineItem}
use Rattle.include_graph.specs.declared.outline.OutlineItem.TheVariants as item
use Rattle.include_graph.specs.declared.verdicts.Verdict.TheVariants.{Files}
use Rattle.include_graph.specs.Verdicts.{Graph, Walked, Left, walk_then, number_of, is_among, at_target, at_include, at_items, at_outline, visit, verdict_by, verdict_of}
use Rattle.include_graph.specs.Graphs.{IncludesAmong, IsServed, InOrder, HasItem, Includes, IsWay, HasFault, lacks_file, comes_back, is_broken, LeadsTo}
use Rattle.include_graph.proofs.Among.{not_both, by_test, among_cases, not_among_left}
use Rattle.include_graph.proofs.Ordering.{verdict_order, order_length}

-- a file of a list in order, and those before it
pub record Stands (graph : Graph) (before files : List ℕ) (file : ℕ) : Type 0 where
  pub first : List ℕ
  pub rest : List ℕ
  pub parts : files ≡ first ++ file ∷ rest
  pub order : InOrder graph before first
  pub served : IsServed graph (before ++ first) file
  pub new : is_among file (before ++ first) ≡ false

pub stands : (graph : Graph) (before files : List ℕ) (file : ℕ) → InOrder graph before files → is_among file files ≡ true → Stands graph before files file
stands graph before [] file o h = cc
stands graph before (first ∷ files) file o h = elim (among_cases file first files h)
    [ inl e ↦ here e | inr h ↦ later (stands graph (before ++ first ∷ []) files file o.2 h) ] where
      here : file ≡ first → Stands graph before (first ∷ files) file
      here e =
          let none : before ≡ before ++ [] = search rules in
          record {
            first = [];
            rest = files;
            parts = ap (λ f. f ∷ files) (sym e);
            order = tt;
            served = subst (λ b. IsServed graph b file) none (subst (λ f. IsServed graph before f) (sym e) o.0);
            new = subst (λ b. is_among file b ≡ false) none (subst (λ f. is_among f before ≡ false) (sym e) o.1);
          }

      later : Stands graph (before ++ first ∷ []) files file → Stands graph before (first ∷ files) file
      later s =
          let e = append_assoc before (first ∷ []) s.first in
          record {
            first = first ∷ s.first;
            rest = s.rest;
            parts = ap (λ fs. first ∷ fs) s.parts;
            order = (o.0, o.1, s.order);
            served = subst (λ b. IsServed graph b file) e s.served;
            new = subst (λ b. is_among file b ≡ false) e s.new;
          }

-- the walk goes on
abbrev GoesOn : Walked → Type 0
GoesOn walked = (after : List ℕ) × (walked ≡ Left after)

then_goes_on : (walked : Walked) (next : List ℕ → Walked) → GoesOn walked → ((left : List ℕ) → GoesOn (next left)) → GoesOn (walk_then walked next)
then_goes_on walked next h all = let on = all h.0 in (on.0, ap (λ w. walk_then w next) h.1 ∙ on.1)

module _ (graph : Graph) (go : ℕ → List ℕ → Walked) (path before : List ℕ) (file : ℕ) where
  abbrev GoesDown : Type 0
  GoesDown = (target : ℕ) (left : List ℕ) → is_among target before ≡ true → GoesOn (go target left)

  target_goes_on : GoesDown → (on_path was_left : Bool) (offset target : ℕ) (left : List ℕ) → is_among target before ≡ true → on_path ≡ false
      → GoesOn (at_target go on_path was_left file offset target left)
  target_goes_on down true was_left offset target left h e = cc
  target_goes_on down false true offset target left h e = (left, refl)
  target_goes_on down false false offset target left h e = down target left h

  include_goes_on : GoesDown → ((q : ℕ) → is_among q path ≡ true → is_among q before ≡ false)
      → (offset : ℕ) (number : Option ℕ) (left : List ℕ) (target : ℕ) → number ≡ Some target → is_among target before ≡ true
      → GoesOn (at_include go path file offset number left)
  include_goes_on down apart offset number left target e h =
      subst (λ n. GoesOn (at_include go path file offset n left)) (sym e)
      (target_goes_on down (is_among target path) (is_among target left) offset target left h
      (by_test (is_among target path) (λ p. not_both (is_among target before) h (apart target p)) (λ p. p)))

  items_go_on : GoesDown → ((q : ℕ) → is_among q path ≡ true → is_among q before ≡ false) → (items : List OutlineItem)
      → IncludesAmong graph.names before items → (left : List ℕ) → GoesOn (at_items go graph.names path file items left)
  items_go_on down apart [] all left = (left ++ file ∷ [], refl)
  items_go_on down apart (item.Include name offset ∷ items) all left =
      let number = number_of name graph.names in
      then_goes_on (at_include go path file offset number left) (at_items go graph.names path file items)
      (include_goes_on down apart offset number left all.0.0 all.0.1 all.0.2) (items_go_on down apart items all.1)
  items_go_on down apart (item.Broken kind offset ∷ items) all left = absurd all

pub shorter : (first rest : List ℕ) (file most : ℕ) → length (first ++ file ∷ rest) < suc most → length first < most
shorter first rest file most h = let e = length-append first (file ∷ rest) in omega (arith, h, e)

-- none of the path stands before a file that they include
pub apart_below : (graph : Graph) (path before : List ℕ) (target : ℕ) (t : Stands graph [] before target) → ((q : ℕ) → is_among q path ≡ true
    → is_among q before ≡ false) → (q : ℕ) → is_among q (target ∷ path) ≡ true → is_among q t.first ≡ false
apart_below graph path before target t apart q h = elim (among_cases q target path h) [
  | inl e ↦ subst (λ f. is_among f t.first ≡ false) (sym e) t.new
  | inr h ↦ not_among_left q t.first (target ∷ t.rest) (subst (λ b. is_among q b ≡ false) t.parts (apart q h))
]

visit_goes_on : (graph : Graph) (most : ℕ) (path before : List ℕ) (file : ℕ) (left : List ℕ) → length before < most → InOrder graph [] before
    → IsServed graph before file → ((q : ℕ) → is_among q (file ∷ path) ≡ true → is_among q before ≡ false)
    → GoesOn (visit graph most path file left)
visit_goes_on graph zero path before file left few o s apart = absurd (omega (arith, few))
visit_goes_on graph (suc most) path before file left few o s apart =
    subst (λ known. GoesOn (at_outline (visit graph most (file ∷ path)) graph.names (file ∷ path) file known left)) (sym s.known)
    (items_go_on graph (visit graph most (file ∷ path)) (file ∷ path) before file
    (λ target next h. let t = stands graph [] before target o h in
    visit_goes_on graph most (file ∷ path) t.first target next (shorter t.first t.rest target most (subst (λ b. length b < suc most) t.parts few))
    t.order t.served (apart_below graph (file ∷ path) before target t apart))
    apart s.outline.items s.includes left)

pub listed_served : (graph : Graph) (target file : ℕ) (files : List ℕ) → target < length graph.names → verdict_of graph target ≡ Files files
    → is_among file files ≡ true → (list : List ℕ) × (verdict_of graph file ≡ Files list)
listed_served graph target file files b e h = itself (stands graph [] files file order h) where
  order : InOrder graph [] files
  order = (verdict_order graph target files b e).0

  itself : Stands graph [] files file → (list : List ℕ) × (verdict_of graph file ≡ Files list)
  itself t =
      let long = order_length graph files order in
      let few : length t.first < length graph.names = let e = ap length t.parts in let sum = length-append t.first (file ∷ t.rest) in omega
      (arith, long, e, sum) in
      let on = visit_goes_on graph (length graph.names) [] t.first file [] few t.order t.served
      (λ q h. elim (among_cases q file [] h) [ inl e ↦ subst (λ f. is_among f t.first ≡ false) (sym e) t.new | inr h ↦ cc ]) in
      (on.0, ap verdict_by on.1)

-- the includes of a file among these files
included_among : (names : List (List ℕ)) (before : List ℕ) (items : List OutlineItem) → IncludesAmong names before items
    → (name : List ℕ) (offset k : ℕ) → k < length items → get_or items k (item.Include name offset) ≡ item.Include name offset
    → (next : ℕ) × (number_of name names ≡ Some next) × (is_among next before ≡ true)
included_among names before [] all name offset k b e = absurd (omega (arith, b))
included_among names before (item.Include other place ∷ items) all name offset zero b e =
    let same : other ≡ name = cc in
    subst (λ n. (next : ℕ) × (number_of n names ≡ Some next) × (is_among next before ≡ true)) same all.0
included_among names before (item.Include other place ∷ items) all name offset (suc k) b e =
    included_among names before items all.1 name offset k (omega (arith, b)) e
included_among names before (item.Broken kind place ∷ items) all name offset k b e = absurd all

none_broken : (names : List (List ℕ)) (before : List ℕ) (items : List OutlineItem) → IncludesAmong names before items
    → (kind : FaultKind) (offset k : ℕ) → k < length items → get_or items k (item.Broken kind offset) ≡ item.Broken kind offset → ⊥
none_broken names before [] all kind offset k b e = absurd (omega (arith, b))
none_broken names before (item.Include other place ∷ items) all kind offset zero b e = cc
none_broken names before (item.Include other place ∷ items) all kind offset (suc k) b e =
    none_broken names before items all.1 kind offset k (omega (arith, b)) e
none_broken names before (item.Broken other place ∷ items) all kind offset k b e = absurd all

pub same_outline : (outline other : Outline) → Some outline ≡ Some other → outline ≡ other
same_outline outline other e = cc

pub same_number : (number other : ℕ) → Some number ≡ Some other → number ≡ other
same_number number other e = cc

pub not_some : (number : Option ℕ) (other : ℕ) → number ≡ None → number ≡ Some other → ⊥
not_some None other e f = cc
not_some (Some number) other e f = cc

-- a file whose includes are all among files in order, and none of the path is among these
record Descends (graph : Graph) (path : List ℕ) (file : ℕ) : Type 0 where
  before : List ℕ
  order : InOrder graph [] before
  served : IsServed graph before file
  apart : (q : ℕ) → is_among q (file ∷ path) ≡ true → is_among q before ≡ false

module _ (graph : Graph) (path : List ℕ) (file : ℕ) (d : Descends graph path file) where
  all_among : (found : OutlineItem) (h : HasItem graph file found) → IncludesAmong graph.names d.before h.outline.items
  all_among found h =
      let same = same_outline d.served.outline h.outline (sym d.served.known ∙ h.known) in
      subst (λ o. IncludesAmong graph.names d.before o.items) same d.served.includes

  next_among : (next : ℕ) → Includes graph file next → is_among next d.before ≡ true
  next_among next i =
      let h = i.has in
      let found = included_among graph.names d.before h.outline.items (all_among (item.Include i.name i.offset) h) i.name i.offset h.has.0 h.has.1 h.has.2 in
      subst (λ n. is_among n d.before ≡ true) (same_number found.0 next (sym found.1 ∙ i.number)) found.2

  goes_down : (next : ℕ) → Includes graph file next → Descends graph (file ∷ path) next
  goes_down next i =
      let t = stands graph [] d.before next d.order (next_among next i) in
      record { before = t.first; order = t.order; served = t.served; apart = apart_below graph (file ∷ path) d.before next t d.apart }

  no_fault : (fault : Fault) → HasFault graph path file fault → ⊥
  no_fault fault (lacks_file name offset h none is) =
      let found = included_among graph.names d.before h.outline.items (all_among (item.Include name offset) h) name offset h.has.0 h.has.1 h.has.2 in
      not_some (number_of name graph.names) found.0 none found.1
  no_fault fault (comes_back name offset next h number among is) =
      not_both (is_among next d.before) (next_among next (record { name = name; offset = offset; has = h; number = number })) (d.apart next among)
  no_fault fault (is_broken kind offset h is) =
      none_broken graph.names d.before h.outline.items (all_among (item.Broken kind offset) h) kind offset h.has.0 h.has.1 h.has.2

way_descends : (graph : Graph) (target : ℕ) (files : List ℕ) → InOrder graph [] files → is_among target files ≡ true → (path : List ℕ) (file : ℕ)
    → IsWay graph target (file ∷ path) → Descends graph path file
way_descends graph target files order among [] file e = subst (λ f. Descends graph [] f) (sym e) (at_list (stands graph [] files target order among)) where
  at_list : Stands graph [] files target → Descends graph [] target
  at_list t = record {
    before = t.first;
    order = t.order;
    served = t.served;
    apart = λ q h. elim (among_cases q target [] h) [ inl e ↦ subst (λ f. is_among f t.first ≡ false) (sym e) t.new | inr h ↦ cc ];
  }
way_descends graph target files order among (above ∷ path) file way =
    goes_down graph path above (way_descends graph target files order among path above way.1) file way.0

pub none_faulty : (graph : Graph) (target : ℕ) (files : List ℕ) → target < length graph.names → verdict_of graph target ≡ Files files
    → (fault : Fault) → LeadsTo graph target fault → ⊥
none_faulty graph target files b e fault leads =
    let ordered = verdict_order graph target files b e in
    no_fault graph leads.path leads.file (way_descends graph target files ordered.0 ordered.1 leads.path leads.file leads.way) fault leads.has
