-- Files that were decoded: how their decoding stays, and what it comes to in the end.
use Rattle.std.proofs.Common.{◌≡◌, ◌≢◌, ◌≤◌, ℕ, Bool, true, false, eqb, Option, Some, None, ◌⊎◌, inl, inr, List, [], ◌∷◌, ◌++◌, refl, sym, ap, ◌∙◌, subst}
use Rattle.std.specs.Prelude.{slice_get, ◌||◌}
use Rattle.std.proofs.lemmas.Bool.{eqb-true}
use Rattle.djvu_base.specs.Library.{File, Library}
use Rattle.djvu_base.specs.Meter.{TicksExactly}
use Rattle.jb2_records.specs.declared.results.FileResult.{FileResult}
use Rattle.jb2_records.specs.declared.results.FileResult.TheVariants as gift
use Rattle.include_graph.specs.declared.outline.Outline.{Outline}
use Rattle.include_graph.specs.declared.outline.OutlineItem.{OutlineItem}
use Rattle.include_graph.specs.declared.outline.OutlineItem.TheVariants as item
use Rattle.include_graph.specs.Outlines.{outline_of}
use Rattle.include_graph.specs.Verdicts.{Graph, is_among}
use Rattle.include_graph.specs.Graphs.{IncludesAmong, IsServed, InOrder}
use Rattle.zp_table.specs.declared.rows.Row.{Row}
use Rattle.page_decoder.specs.Results.{Result}
use Rattle.page_decoder.specs.Resolving.{result_in, result_from}
use Rattle.page_decoder.specs.Given.{Included}
use Rattle.page_decoder.specs.Read.{FileDone}
use Rattle.page_decoder.specs.Libraries.{outline_in_file, bytes_in, mark_in, graph_of, given_in}
use Rattle.page_decoder.specs.Needs.{HasNoFault, IncludesFile, IsMade, IsOutlined, IsBuilt, Built}
use Rattle.djvu_session.specs.Spent.{decoded, IsSpent, IsPublished, results_from}

either : (a b : Bool) → (a || b) ≡ true → (a ≡ true) ⊎ (b ≡ true)
either true b e = inl refl
either false b e = inr e

-- a file of an ordered list is served by those before it
pub served_among : (graph : Graph) (left files : List ℕ) (file : ℕ) → InOrder graph left files → is_among file files ≡ true
    → (before : List ℕ) × IsServed graph before file
served_among graph left [] file order m = absurd (let wrong : false ≡ true = m in cc)
served_among graph left (first ∷ files) file order m =
    by (either (eqb file first) (is_among file files) m) (served_among graph (left ++ first ∷ []) files file order.2)
  where
    by : (eqb file first ≡ true) ⊎ (is_among file files ≡ true) → (is_among file files ≡ true → (before : List ℕ) × IsServed graph before file)
        → (before : List ℕ) × IsServed graph before file
    by (inl e) later = (left, subst (IsServed graph left) (sym (eqb-true file first e)) order.0)
    by (inr n) later = later n

none_faulty : (names : List (List ℕ)) (files : List ℕ) (items : List OutlineItem) → IncludesAmong names files items → HasNoFault items
none_faulty names files [] all = tt
none_faulty names files (item.Include name offset ∷ items) all = none_faulty names files items all.1
none_faulty names files (item.Broken kind offset ∷ items) all = absurd all

known_outline : (file : Option File) (outline : Outline) → outline_in_file file ≡ Some outline → outline_of (mark_in file) (bytes_in file) ≡ Some outline
known_outline None outline e = absurd (let wrong : None ≡ Some outline = e in cc)
known_outline (Some it) outline e = e

-- so its outline is known and has no fault, where it is decoded
pub is_outlined : (table : List Row) (library : Library) (results : ℕ → Option Result) (files : List ℕ) (file : ℕ)
    → (served : IsServed (graph_of library) files file) → IsOutlined (given_in Included table library file results) served.outline
is_outlined table library results files file served = record {
  known = known_outline (slice_get library file) served.outline served.known;
  clean = none_faulty (graph_of library).names files served.outline.items served.includes;
}

-- and what it includes gives something
pub includes_give : (table : List Row) (library : Library) (results : ℕ → Option Result) (page file : ℕ) (files : List ℕ)
    → (served : IsServed (graph_of library) files file) → IsMade table library results page file
    → (other : ℕ) → IncludesFile (graph_of library).names served.outline other → (result : Result) × (results other ≡ Some result)
includes_give table library results page file files served made other it =
    let good = made.includes other (record {
      name = it.name;
      offset = it.offset;
      has = record { outline = served.outline; known = served.known; has = it.has };
      number = it.number;
    }) in
    (good.result, good.known)

-- the same decoding in another place
pub spent_on_too : (table : List Row) (library later : Library) (less more : ℕ → Option Result) (page file spent : ℕ) (result : FileResult)
    → decoded table later more file ≡ decoded table library less file → IsMade table later more page file
    → IsSpent table library less page file spent result → IsSpent table later more page file spent result
spent_on_too table library later less more page file spent result same made it = record {
  made = made;
  at_most = subst (λ (d : FileDone). spent ≤ d.decisions) (sym same) it.at_most;
  found = λ memory. subst (λ (d : FileDone). result_in result ≡ Some d.result) (sym same) (it.found memory);
  decisions = λ memory. subst (λ (d : FileDone). TicksExactly d.decisions 0 spent) (sym same) (it.decisions memory);
}

-- a result that is known isn't a want of memory
pub memory_for : (found : FileResult) (result : Result) → result_in found ≡ Some result → found ≢ gift.NoMemory
memory_for found result e none = absurd (let wrong : None ≡ Some result = ap result_in (sym none) ∙ e in cc)

built_by : (table : List Row) (library : Library) (known : ℕ → Option FileResult) (file : ℕ) (found : FileResult) (result : Result)
    → IsPublished table library known file found → result_in found ≡ Some result → IsBuilt table library (results_from known) file result
built_by table library known file found result it e =
    let so = it.is_spent.found (memory_for found result e) in
    let both : Some result ≡ Some (decoded table library (results_from known) file).result = sym e ∙ so in
    record { page = it.page; made = it.is_spent.made; so = cc }

pub is_built : (table : List Row) (library : Library) (known : ℕ → Option FileResult)
    → ((file : ℕ) (result : FileResult) → known file ≡ Some result → IsPublished table library known file result) → Built table library (results_from known)
is_built table library known published file result e = by (known file) refl e
  where
    by : (it : Option FileResult) → known file ≡ it → result_from it ≡ Some result → IsBuilt table library (results_from known) file result
    by None is none = absurd (let wrong : None ≡ Some result = none in cc)
    by (Some found) is so = built_by table library known file found result (published file found is) so
