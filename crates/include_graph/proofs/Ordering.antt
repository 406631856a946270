-- The list of a verdict is in order.
use Rattle.std.proofs.Common.{◌≡◌, ℕ, zero, ◌||◌, suc, ◌+◌, ◌<◌, ◌≤◌, eqb, Bool, true, false, List, [], ◌∷◌, ◌++◌, length, Option, Some, None, inl, inr, refl, sym, ap, ◌∙◌, subst, arith, append_assoc, rules}
use Rattle.std.specs.Prelude.{⊤}
use Rattle.std.specs.List.{IsDistinct}
use Rattle.std.proofs.lemmas.Map.Steps.{length-le_from_distinct_below}
use Rattle.include_graph.specs.declared.outline.Outline.{Outline}
use Rattle.include_graph.specs.declared.outline.OutlineItem.{OutlineItem}
use Rattle.include_graph.specs.declared.outline.OutlineItem.TheVariants as item
use Rattle.include_graph.specs.declared.verdicts.Verdict.TheVariants.{Files}
use Rattle.include_graph.specs.Verdicts.{Graph, Walked, Left, Unknown, Faulty, walk_then, number_of, is_among, at_target, at_include, at_items, at_outline, visit, verdict_by, verdict_of}
use Rattle.include_graph.specs.Graphs.{IncludesAmong, IsServed, InOrder}
use Rattle.include_graph.proofs.Among.{among_head, among_tail, among_cases, among_left, among_right, not_among_both, among_turned, distinct_with, not_head, number_below}

-- where the walk goes on
abbrev pub OnLeft : Walked → (List ℕ → Type 0) → Type 0
OnLeft (Left left) P = P left
OnLeft (Unknown file) P = ⊤
OnLeft (Faulty fault) P = ⊤

pub then_left : (walked : Walked) (P Q : List ℕ → Type 0) (next : List ℕ → Walked) → OnLeft walked P → ((left : List ℕ) → P left
    → OnLeft (next left) Q) → OnLeft (walk_then walked next) Q
then_left (Left left) P Q next h step = step left h
then_left (Unknown file) P Q next h step = tt
then_left (Faulty fault) P Q next h step = tt

abbrev pub Keeps : List ℕ → List ℕ → Type 0
Keeps before after = (q : ℕ) → is_among q before ≡ true → is_among q after ≡ true

-- these files were left in order, and none of the path is among them
pub record IsSound (graph : Graph) (path left : List ℕ) : Type 0 where
  pub order : InOrder graph [] left
  pub apart : (q : ℕ) → is_among q path ≡ true → is_among q left ≡ false

-- after a file of the path, or a target, was left or found among those that were
pub record Passed (graph : Graph) (path left : List ℕ) (file : ℕ) (after : List ℕ) : Type 0 where
  pub sound : IsSound graph path after
  pub keeps : Keeps left after
  pub has : is_among file after ≡ true

-- one file more at the end
pub order_more : (graph : Graph) (before files : List ℕ) (file : ℕ) → InOrder graph before files → IsServed graph (before ++ files) file
    → is_among file (before ++ files) ≡ false → InOrder graph before (files ++ file ∷ [])
order_more graph before [] file o s n = let e : before ++ [] ≡ before = search rules in
    (subst (λ b. IsServed graph b file) e s, subst (λ b. is_among file b ≡ false) e n, tt)
order_more graph before (first ∷ files) file o s n =
    let e = append_assoc before (first ∷ []) files in (
      o.0,
      o.1,
      order_more graph (before ++ first ∷ []) files file o.2 (subst (λ b. IsServed graph b file) (sym e) s)
          (subst (λ b. is_among file b ≡ false) (sym e) n),
    )

module _ (graph : Graph) (go : ℕ → List ℕ → Walked) (path : List ℕ) (file : ℕ) where
  abbrev GoesWell : Type 0
  GoesWell = (target : ℕ) (left : List ℕ) → target < length graph.names → is_among target (file ∷ path) ≡ false → is_among target left ≡ false
      → IsSound graph (file ∷ path) left → OnLeft (go target left) (Passed graph (file ∷ path) left target)

  target_passed : GoesWell → (on_path was_left : Bool) (offset target : ℕ) (left : List ℕ) → target < length graph.names
      → is_among target (file ∷ path) ≡ on_path → is_among target left ≡ was_left → IsSound graph (file ∷ path) left
      → OnLeft (at_target go on_path was_left file offset target left) (Passed graph (file ∷ path) left target)
  target_passed well true was_left offset target left b p l s = tt
  target_passed well false true offset target left b p l s = record { sound = s; keeps = λ q h. h; has = l }
  target_passed well false false offset target left b p l s = well target left b p l s

  abbrev Includes : Option ℕ → List ℕ → List ℕ → Type 0
  Includes number left after = (target : ℕ) × (number ≡ Some target) × Passed graph (file ∷ path) left target after

  include_passed : GoesWell → (offset : ℕ) (number : Option ℕ) (left : List ℕ) → ((target : ℕ) → number ≡ Some target
      → target < length graph.names) → IsSound graph (file ∷ path) left
      → OnLeft (at_include go (file ∷ path) file offset number left) (Includes number left)
  include_passed well offset None left b s = tt
  include_passed well offset (Some target) left b s =
      with_target (at_target go (is_among target (file ∷ path)) (is_among target left) file offset target left)
      (target_passed well (is_among target (file ∷ path)) (is_among target left) offset target left (b target refl) refl refl s) where
        with_target : (walked : Walked) → OnLeft walked (Passed graph (file ∷ path) left target) → OnLeft walked (Includes (Some target) left)
        with_target (Left after) h = (target, refl, h)
        with_target (Unknown other) h = tt
        with_target (Faulty fault) h = tt

  -- the file is left
  file_left : (left : List ℕ) → is_among file path ≡ false → IsSound graph (file ∷ path) left → IsServed graph left file
      → Passed graph path left file (left ++ file ∷ [])
  file_left left new s served = record {
    sound = record {
      order = order_more graph [] left file s.order served (s.apart file (among_head file path));
      apart = λ q h. not_among_both q left (file ∷ []) (s.apart q (among_tail q file path h))
          (let e = not_head q file path h new in subst (λ b. (b || false) ≡ false) (sym e) refl);
    };
    keeps = λ q h. among_left q left (file ∷ []) h;
    has = among_right file left (file ∷ []) (among_head file []);
  }

  items_passed : GoesWell → (items : List OutlineItem) (left : List ℕ) → is_among file path ≡ false → IsSound graph (file ∷ path) left
      → ((after : List ℕ) → Keeps left after → IncludesAmong graph.names after items → IsServed graph after file)
      → OnLeft (at_items go graph.names (file ∷ path) file items left) (Passed graph path left file)
  items_passed well [] left new s served = file_left left new s (served left (λ q h. h) tt)
  items_passed well (item.Include name offset ∷ items) left new s served =
      let number = number_of name graph.names in
      then_left (at_include go (file ∷ path) file offset number left) (Includes number left) (Passed graph path left file)
      (at_items go graph.names (file ∷ path) file items)
      (include_passed well offset number left (λ target e. number_below target name graph.names e) s)
      (λ next p. behind next p (items_passed well items next new p.2.sound (λ after keeps rest. served after (λ q h. keeps q (p.2.keeps q h))
      ((p.0, p.1, keeps p.0 p.2.has), rest)))) where
        behind : (next : List ℕ) → Includes (number_of name graph.names) left next
            → OnLeft (at_items go graph.names (file ∷ path) file items next) (Passed graph path next file)
            → OnLeft (at_items go graph.names (file ∷ path) file items next) (Passed graph path left file)
        behind next p h = longer (at_items go graph.names (file ∷ path) file items next) h where
          longer : (walked : Walked) → OnLeft walked (Passed graph path next file) → OnLeft walked (Passed graph path left file)
          longer (Left after) h = record { sound = h.sound; keeps = λ q k. h.keeps q (p.2.keeps q k); has = h.has }
          longer (Unknown other) h = tt
          longer (Faulty fault) h = tt
  items_passed well (item.Broken kind offset ∷ items) left new s served = tt

outline_passed : (graph : Graph) (go : ℕ → List ℕ → Walked) (path : List ℕ) (file : ℕ) → GoesWell graph go path file → file < length graph.names
    → (known : Option Outline) → graph.outlines file ≡ known → (left : List ℕ) → is_among file path ≡ false → IsSound graph (file ∷ path) left
    → OnLeft (at_outline go graph.names (file ∷ path) file known left) (Passed graph path left file)
outline_passed graph go path file well b None e left new s = tt
outline_passed graph go path file well b (Some outline) e left new s = items_passed graph go path file well outline.items left new s
    (λ after keeps all. record { below = b; outline = outline; known = e; includes = all })

pub sound_below : (graph : Graph) (path left : List ℕ) (file : ℕ) → IsSound graph path left → is_among file left ≡ false → IsSound graph (file ∷ path) left
sound_below graph path left file s n = record {
  order = s.order;
  apart = λ q h. elim (among_cases q file path h)
      [ inl e ↦ subst (λ f. is_among f left ≡ false) (sym e) n | inr h ↦ s.apart q h ];
}

pub visit_passed : (graph : Graph) (most : ℕ) (path : List ℕ) (file : ℕ) (left : List ℕ) → file < length graph.names → is_among file path ≡ false
    → is_among file left ≡ false → IsSound graph path left → OnLeft (visit graph most path file left) (Passed graph path left file)
visit_passed graph zero path file left b new n s = tt
visit_passed graph (suc most) path file left b new n s =
    outline_passed graph (visit graph most (file ∷ path)) path file (λ target next b p l s. visit_passed graph most (file ∷ path) target next b p l
    s) b (graph.outlines file) refl left new (sound_below graph path left file s n)

pub files_of : (walked : Walked) (P : List ℕ → Type 0) (files : List ℕ) → OnLeft walked P → verdict_by walked ≡ Files files → P files
files_of (Left left) P files h e = let same : left ≡ files = cc in subst P same h
files_of (Unknown file) P files h e = cc
files_of (Faulty fault) P files h e = cc

pub verdict_order : (graph : Graph) (file : ℕ) (files : List ℕ) → file < length graph.names → verdict_of graph file ≡ Files files
    → InOrder graph [] files × (is_among file files ≡ true)
verdict_order graph file files b e =
    let most = length graph.names in
    let passed = files_of (visit graph most [] file []) (Passed graph [] [] file) files
    (visit_passed graph most [] file [] b refl refl (record { order = tt; apart = λ q h. refl })) e in
    (passed.sound.order, passed.has)

abbrev EndsWith : ℕ → List ℕ → Type 0
EndsWith file left = (before : List ℕ) × (left ≡ before ++ file ∷ [])

then_last : (walked : Walked) (P : List ℕ → Type 0) (next : List ℕ → Walked) → ((left : List ℕ) → OnLeft (next left) P) → OnLeft (walk_then walked next) P
then_last (Left left) P next all = all left
then_last (Unknown file) P next all = tt
then_last (Faulty fault) P next all = tt

items_last : (go : ℕ → List ℕ → Walked) (names : List (List ℕ)) (path : List ℕ) (file : ℕ) (items : List OutlineItem) (left : List ℕ)
    → OnLeft (at_items go names path file items left) (EndsWith file)
items_last go names path file [] left = (left, refl)
items_last go names path file (item.Include name offset ∷ items) left =
    then_last (at_include go path file offset (number_of name names) left) (EndsWith file) (at_items go names path file items)
    (items_last go names path file items)
items_last go names path file (item.Broken kind offset ∷ items) left = tt

outline_last : (go : ℕ → List ℕ → Walked) (names : List (List ℕ)) (path : List ℕ) (file : ℕ) (known : Option Outline) (left : List ℕ)
    → OnLeft (at_outline go names path file known left) (EndsWith file)
outline_last go names path file None left = tt
outline_last go names path file (Some outline) left = items_last go names path file outline.items left

visit_last : (graph : Graph) (most : ℕ) (path : List ℕ) (file : ℕ) (left : List ℕ) → OnLeft (visit graph most path file left) (EndsWith file)
visit_last graph zero path file left = tt
visit_last graph (suc most) path file left = outline_last (visit graph most (file ∷ path)) graph.names (file ∷ path) file (graph.outlines file) left

-- the file itself is left last
pub verdict_last : (graph : Graph) (file : ℕ) (files : List ℕ) → verdict_of graph file ≡ Files files → (before : List ℕ) × (files ≡ before ++ file ∷ [])
verdict_last graph file files e =
    files_of (visit graph (length graph.names) [] file []) (EndsWith file) files (visit_last graph (length graph.names) [] file []) e

-- distinct files below a number are no more than that number
counted : (graph : Graph) (before files turned : List ℕ) → InOrder graph before files → IsDistinct eqb turned → ((q : ℕ)
    → is_among q turned ≡ is_among q before) → ((q : ℕ) → is_among q turned ≡ true → q < length graph.names)
    → length turned + length files ≤ length graph.names
counted graph before [] turned o d same b = let few = length-le_from_distinct_below turned (length graph.names) d b in omega (arith, few)
counted graph before (file ∷ files) turned o d same b =
    let served = o.0 in
    let below = served.below in
    let few = counted graph (before ++ file ∷ []) files (file ∷ turned) o.2 (distinct_with file turned (same file ∙ o.1) d)
    (λ q. ap (λ x. eqb q file || x) (same q) ∙ among_turned q file before)
    (λ q h. elim (among_cases q file turned h) [ inl e ↦ omega (arith, e, below) | inr h ↦ b q h ]) in
    omega (arith, few)

-- a list in order is at most as long as the names
pub order_length : (graph : Graph) (files : List ℕ) → InOrder graph [] files → length files ≤ length graph.names
unfolding IsDistinct
order_length graph files o = let few = counted graph [] files [] o tt (λ q. refl) (λ q h. cc) in omega (arith, few)
