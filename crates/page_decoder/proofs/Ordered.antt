-- Files in the order of a verdict's list: each one after all that it includes.
use Rattle.std.proofs.Common.{◌≡◌, ◌≤◌, ℕ, zero, suc, ◌+◌, true, eqb, Some, ◌⊎◌, inl, inr, List, [], ◌∷◌, ◌++◌, length, sym, ap, ◌∙◌, subst, arith}
use Rattle.std.specs.List.{Contains}
use Rattle.std.proofs.lemmas.Bool.{eqb-true, true≢false}
use Rattle.std.proofs.lemmas.List.Elements.{Contains-append_cases}
use Rattle.include_graph.specs.declared.outline.OutlineItem.{OutlineItem}
use Rattle.include_graph.specs.declared.outline.OutlineItem.TheVariants as item
use Rattle.include_graph.specs.Verdicts.{Graph, number_of, is_among}
use Rattle.include_graph.specs.Graphs.{IncludesAmong, IsServed, InOrder}
use Rattle.page_decoder.specs.Needs.{HasNoFault, IncludesFile}
use Rattle.page_decoder.proofs.Ruling.{or_cases, among_last, none_in, one_in}

-- the items of an ordered file have no fault, and include files before it

pub none_faulty : (names : List (List ℕ)) (files : List ℕ) (items : List OutlineItem) → IncludesAmong names files items → HasNoFault items
none_faulty names files [] all = tt
none_faulty names files (item.Include name offset ∷ items) all = none_faulty names files items all.1
none_faulty names files (item.Broken kind offset ∷ items) all = absurd all

first_or_later : (x : OutlineItem) (xs : List OutlineItem) (y : OutlineItem) → Contains (x ∷ xs) y → (x ≡ y) ⊎ Contains xs y
first_or_later x xs y has = by (Contains-append_cases (x ∷ []) xs y has)
  where
    by : Contains (x ∷ []) y ⊎ Contains xs y → (x ≡ y) ⊎ Contains xs y
    by (inl here) = inl (one_in x y here)
    by (inr later) = inr later

item_among : (names : List (List ℕ)) (files : List ℕ) (items : List OutlineItem) (name : List ℕ) (offset file : ℕ) → IncludesAmong names files items
    → Contains items (item.Include name offset) → number_of name names ≡ Some file → is_among file files ≡ true
item_among names files [] name offset file all has n = absurd (none_in (item.Include name offset) has)
item_among names files (item.Broken kind at ∷ items) name offset file all has n = absurd all
item_among names files (item.Include first at ∷ items) name offset file all has n =
    by (first_or_later (item.Include first at) items (item.Include name offset) has) (λ later. item_among names files items name offset file all.1 later n)
  where
    by : (item.Include first at ≡ item.Include name offset) ⊎ Contains items (item.Include name offset)
        → (Contains items (item.Include name offset) → is_among file files ≡ true) → is_among file files ≡ true
    by (inl e) rest =
        let same : first ≡ name = cc in
        let both : Some all.0.0 ≡ Some file = sym all.0.1 ∙ ap (λ w. number_of w names) same ∙ n in
        let number : all.0.0 ≡ file = cc in
        subst (λ f. is_among f files ≡ true) number all.0.2
    by (inr later) rest = rest later

pub includes_before : (graph : Graph) (files : List ℕ) (file other : ℕ) (served : IsServed graph files file) → IncludesFile graph.names served.outline other
    → is_among other files ≡ true
includes_before graph files file other served it = item_among graph.names files served.outline.items it.name it.offset other served.includes it.has it.number

-- what holds of a file at a depth, where it holds one less deep of all that it includes, holds of each file of an ordered list
module _ (graph : Graph) (Q : ℕ → ℕ → Type 0)
    (step : (before : List ℕ) (file : ℕ) → IsServed graph before file → (depth : ℕ) → ((other : ℕ) → is_among other before ≡ true → Q depth other)
    → Q (suc depth) file) where
  here : (before : List ℕ) (count file : ℕ) → IsServed graph before file
      → ((other : ℕ) → is_among other before ≡ true → (depth : ℕ) → count ≤ depth → Q depth other)
      → (depth : ℕ) → suc count ≤ depth → Q depth file
  here before count file served all zero h = absurd (omega (arith, h))
  here before count file served all (suc depth) h = step before file served depth (λ other m. all other m depth (omega (arith, h)))

  here_too : (before : List ℕ) (count file : ℕ) → IsServed graph before file
      → ((other : ℕ) → is_among other before ≡ true → (depth : ℕ) → count ≤ depth → Q depth other)
      → (other : ℕ) → is_among other (before ++ file ∷ []) ≡ true → (depth : ℕ) → suc count ≤ depth → Q depth other
  here_too before count file served all other m depth h = by (among_last other file before m)
    where
      by : (is_among other before ≡ true) ⊎ (other ≡ file) → Q depth other
      by (inl n) = all other n depth (omega (arith, h))
      by (inr e) = subst (λ f. Q depth f) (sym e) (here before count file served all depth h)

  from_here : (before files : List ℕ) (count : ℕ) → InOrder graph before files
      → ((other : ℕ) → is_among other before ≡ true → (depth : ℕ) → count ≤ depth → Q depth other)
      → (file : ℕ) → is_among file files ≡ true → (depth : ℕ) → count + length files ≤ depth → Q depth file
  from_here before [] count order all file m depth h = absurd (true≢false (sym m))
  from_here before (first ∷ files) count order all file m depth h =
      by (or_cases (eqb file first) (is_among file files) m)
      (λ n. from_here (before ++ first ∷ []) files (suc count) order.2 (here_too before count first order.0 all) file n depth (omega (arith, h)))
    where
      by : (eqb file first ≡ true) ⊎ (is_among file files ≡ true) → (is_among file files ≡ true → Q depth file) → Q depth file
      by (inl e) later = subst (λ f. Q depth f) (sym (eqb-true file first e)) (here before count first order.0 all depth (omega (arith, h)))
      by (inr n) later = later n

  pub ordered_holds : (files : List ℕ) → InOrder graph [] files → (file : ℕ) → is_among file files ≡ true → (depth : ℕ) → length files ≤ depth → Q depth file
  ordered_holds files order file m depth h = from_here [] files 0 order (λ other n. absurd (true≢false (sym n))) file m depth (omega (arith, h))
