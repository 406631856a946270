-- What a reading asks for isn't known, and is a file of the folder.
use Rattle.std.proofs.Common.{◌≡◌, ◌<◌, ℕ, None, List, [], ◌∷◌, ◌++◌, length, subst}
use Rattle.include_graph.specs.declared.verdicts.Verdict.TheVariants as verdict
use Rattle.include_graph.specs.Verdicts.{Graph, verdict_of}
use Rattle.include_graph.specs.Graphs.{InOrder}
use Rattle.page_decoder.specs.Given.{Role, Page, Included, Home, Known}
use Rattle.page_decoder.specs.PageRead.{Include}
use Rattle.page_decoder.specs.Read.{listing}
use Rattle.page_decoder.specs.Needs.{IsNext, IsUnknown}

abbrev graph_known : Home → Known → Graph
graph_known home known = record { names = home.names; outlines = known.outlines }

-- each file of an ordered list is below the number of names
in_order_below : (graph : Graph) (left before : List ℕ) (file : ℕ) (others : List ℕ) → InOrder graph left (before ++ file ∷ others) → file < length graph.names
in_order_below graph left [] file others order = order.0.below
in_order_below graph left (first ∷ before) file others order = in_order_below graph (left ++ first ∷ []) before file others order.2

pub same_list : (xs ys : List ℕ) → verdict.Files xs ≡ verdict.Files ys → xs ≡ ys
same_list xs ys e = let same = e in cc

pub alone : (target file : ℕ) (before others : List ℕ) → target ∷ [] ≡ before ++ file ∷ others → target ≡ file
alone target file [] others e = cc
alone target file (first ∷ []) others e = let wrong : target ∷ [] ≡ first ∷ file ∷ others = e in absurd (cc)
alone target file (first ∷ next ∷ before) others e = let wrong : target ∷ [] ≡ first ∷ next ∷ (before ++ file ∷ others) = e in absurd (cc)

-- the law of lists
abbrev pub Order : Type 0
Order = (graph : Graph) (file : ℕ) (files : List ℕ) → file < length graph.names → verdict_of graph file ≡ verdict.Files files → InOrder graph [] files

pub listed_below : (home : Home) (known : Known) → Order → (role : Role) (target file : ℕ) (before others : List ℕ) → target < length home.names
    → listing role home known target ≡ verdict.Files (before ++ file ∷ others) → file < length home.names
listed_below home known order Page target file before others below e =
    in_order_below (graph_known home known) [] before file others (order (graph_known home known) target (before ++ file ∷ others) below e)
listed_below home known order Included target file before others below e =
    subst (λ f. f < length home.names) (alone target file before others (same_list (target ∷ []) (before ++ file ∷ others) e)) below

pub next_below : (home : Home) (known : Known) (pending : List Include) → Order → (file : ℕ) → IsNext home known pending file → file < length home.names
next_below home known pending order file next = listed_below home known order home.role next.target file next.before next.others next.of_include.below next.list

module _ (home : Home) (known : Known)
    (asks : (graph : Graph) (target file : ℕ) → target < length graph.names → verdict_of graph target ≡ verdict.NeedOutline file → graph.outlines file ≡ None)
    (asked : (graph : Graph) (target file : ℕ) → target < length graph.names → verdict_of graph target ≡ verdict.NeedOutline file → file
    < length graph.names) where
  lacking_by : (role : Role) (target file : ℕ) → target < length home.names → listing role home known target ≡ verdict.NeedOutline file
      → (known.outlines file ≡ None) × (file < length home.names)
  lacking_by Page target file below e = (asks (graph_known home known) target file below e, asked (graph_known home known) target file below e)
  lacking_by Included target file below e = let wrong : verdict.Files (target ∷ []) ≡ verdict.NeedOutline file = e in absurd (cc)

  pub unknown_lacking : (pending : List Include) (file : ℕ) → IsUnknown home known pending file
      → (known.outlines file ≡ None) × (file < length home.names)
  unknown_lacking pending file it = lacking_by home.role it.target file it.of_include.below it.list
