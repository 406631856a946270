-- Results of included files over a library: those that were made out of one another are the library's, and they stay when it goes on.
use Rattle.std.proofs.Common.{◌≡◌, ◌<◌, ◌≤◌, ℕ, suc, true, Option, Some, None, List, length, refl, sym, ap, ◌∙◌, subst, arith}
use Rattle.std.specs.Prelude.{slice_get}
use Rattle.djvu_base.specs.Library.{File, Library}
use Rattle.zp_table.specs.declared.rows.Row.{Row}
use Rattle.zp_table.specs.Rows.{IsTable}
use Rattle.include_graph.specs.declared.outline.Outline.{Outline}
use Rattle.include_graph.specs.declared.verdicts.Verdict.TheVariants as verdict
use Rattle.include_graph.specs.Outlines.{outline_of}
use Rattle.include_graph.specs.Verdicts.{Graph, is_among, verdict_of}
use Rattle.include_graph.specs.Graphs.{IsServed, Includes}
use Rattle.page_decoder.specs.Results.{Result}
use Rattle.page_decoder.specs.Given.{Included, Known, Given, Within}
use Rattle.page_decoder.specs.Read.{FileDone, decode}
use Rattle.page_decoder.specs.Libraries.{names_in, outline_in_file, outlines_in, bytes_in, mark_in, graph_of, given_in, res, res_of, result_where, results_in, LibraryGoesOn}
use Rattle.page_decoder.specs.Needs.{IsGood, IsOutlined, IncludesFile, IsMade, Built}
use Rattle.page_decoder.proofs.Asking.{Order}
use Rattle.page_decoder.proofs.GoingOn.{OutlinesStay, within_library, length_names, length_stays}
use Rattle.page_decoder.proofs.Ordered.{none_faulty, includes_before, ordered_holds}

-- the laws of included files
abbrev pub Alone : Type 0
Alone = (given : Given) (known : Known) (outline : Outline) → given.home.role ≡ Included → IsOutlined given outline
    → ((file : ℕ) → IncludesFile given.home.names outline file → given.known.results file ≡ known.results file)
    → decode (record given { known = known }) ≡ decode given

abbrev pub Stays : Type 0
Stays = (less more : Given) (outline : Outline) → IsTable less.home.table → Within less more → less.home.role ≡ Included → IsOutlined less outline
    → ((file : ℕ) → IncludesFile less.home.names outline file → (it : Result) × (less.known.results file ≡ Some it)) → decode more ≡ decode less

abbrev pub Short : Type 0
Short = (graph : Graph) (file : ℕ) (files : List ℕ) → file < length graph.names → verdict_of graph file ≡ verdict.Files files → length files
    ≤ length graph.names

some_file : (library : Library) (file : ℕ) (outline : Outline) → outlines_in library file ≡ Some outline
    → outline_of (mark_in (slice_get library file)) (bytes_in (slice_get library file)) ≡ Some outline
some_file library file outline e = by (slice_get library file) e
  where
    by : (found : Option File) → outline_in_file found ≡ Some outline → outline_of (mark_in found) (bytes_in found) ≡ Some outline
    by None e = let wrong : None ≡ Some outline = e in absurd (cc)
    by (Some it) e = e

-- a file of an ordered list has an outline without a fault
served_outlined : (table : List Row) (library : Library) (results : ℕ → Option Result) (before : List ℕ) (file : ℕ)
    (served : IsServed (graph_of library) before file)
    → IsOutlined (given_in Included table library file results) served.outline
served_outlined table library results before file served = record {
  known = some_file library file served.outline served.known;
  clean = none_faulty (names_in library) before served.outline.items served.includes;
}

-- ---- results that were made

module _ (table : List Row) (library : Library) (results : ℕ → Option Result) (alone : Alone) (built : Built table library results) where
  -- all that a file includes gives something good
  abbrev IsReady : ℕ → Type 0
  IsReady file = (other : ℕ) → Includes (graph_of library) file other → IsGood results other

  abbrev IsResult : ℕ → ℕ → Type 0
  IsResult depth file = IsReady file → res table library depth file ≡ decode (given_in Included table library file results)

  result_step : (before : List ℕ) (file : ℕ) → IsServed (graph_of library) before file → (depth : ℕ)
      → ((other : ℕ) → is_among other before ≡ true → IsResult depth other) → IsResult (suc depth) file
  result_step before file served depth all ready =
      let below : ℕ → Option Result = λ other. Some (res table library depth other).result in
      alone (given_in Included table library file results) (record { outlines = outlines_in library; results = below }) served.outline refl
      (served_outlined table library results before file served) agree
    where
      agree : (other : ℕ) → IncludesFile (names_in library) served.outline other → results other ≡ Some (res table library depth other).result
      agree other it =
          let good = ready other (record {
            name = it.name;
            offset = it.offset;
            has = record { outline = served.outline; known = served.known; has = it.has };
            number = it.number;
          }) in
          let there = built other good.result good.known in
          let same = all other (includes_before (graph_of library) before file other served it) there.made.includes in
          good.known ∙ ap Some (there.so ∙ ap (λ (d : FileDone). d.result) (sym same))

  pub made_results : Order → Short → (listed : (graph : Graph) (target file : ℕ) (files : List ℕ) → target < length graph.names
      → verdict_of graph target ≡ verdict.Files files
      → is_among file files ≡ true → (list : List ℕ) × (verdict_of graph file ≡ verdict.Files list))
      → (page file : ℕ) → IsMade table library results page file
      → ((list : List ℕ) × (verdict_of (graph_of library) file ≡ verdict.Files list))
      × (res_of table library file ≡ decode (given_in Included table library file results))
  made_results order short listed page file made =
      let graph = graph_of library in
      let below : made.target < length (names_in library) = subst (λ n. made.target < n) (sym (length_names library)) made.below in
      let few = short graph made.target made.files below made.list in
      let most : length made.files ≤ suc (length library) = subst (λ n. length made.files ≤ suc n) (length_names library) (omega (arith, few)) in (
        listed graph made.target file made.files below made.list made.listed,
        ordered_holds graph IsResult result_step made.files (order graph made.target made.files below made.list) file made.listed
            (suc (length library)) most made.includes,
      )

  pub made_known : (of_made : (page file : ℕ) → IsMade table library results page file
      → ((list : List ℕ) × (verdict_of (graph_of library) file ≡ verdict.Files list))
      × (res_of table library file ≡ decode (given_in Included table library file results)))
      → (file : ℕ) (it : Result) → results file ≡ Some it → results_in table library file ≡ Some it
  made_known of_made file it e =
      let there = built file it e in
      let made = of_made there.page file there.made in
      ap (λ v. result_where v (res_of table library file)) made.0.1 ∙ ap (λ (d : FileDone). Some d.result) made.1 ∙ ap Some (sym there.so)

-- ---- libraries that go on

module _ (table : List Row) (is : IsTable table) (library later : Library) (on : LibraryGoesOn library later) (alone : Alone) (stays : Stays)
    (outlines : OutlinesStay) where
  abbrev IsSame : ℕ → ℕ → Type 0
  IsSame depth file = res table library depth file ≡ res table later depth file

  same_step : (before : List ℕ) (file : ℕ) → IsServed (graph_of library) before file → (depth : ℕ)
      → ((other : ℕ) → is_among other before ≡ true → IsSame depth other) → IsSame (suc depth) file
  same_step before file served depth all =
      let less : ℕ → Option Result = λ other. Some (res table library depth other).result in
      let more : ℕ → Option Result = λ other. Some (res table later depth other).result in
      sym (alone (given_in Included table library file less) (record { outlines = outlines_in library; results = more }) served.outline refl
      (served_outlined table library less before file served)
      (λ other it. ap (λ (d : FileDone). Some d.result) (all other (includes_before (graph_of library) before file other served it))))
      ∙ sym (stays (given_in Included table library file more) (given_in Included table later file more) served.outline is
      (within_library outlines Included table library later file more more on (λ other it e. e)) refl (served_outlined table library more before file served)
      (λ other it. ((res table later depth other).result, refl)))

  pub res_stays : Order → Short → (target file : ℕ) (files : List ℕ) → target < length (names_in library)
      → verdict_of (graph_of library) target ≡ verdict.Files files
      → is_among file files ≡ true → res_of table library file ≡ res_of table later file
  res_stays order short target file files below list m =
      let few = short (graph_of library) target files below list in
      let most : length files ≤ suc (length library) = subst (λ n. length files ≤ suc n) (length_names library) (omega (arith, few)) in
      ordered_holds (graph_of library) IsSame same_step files (order (graph_of library) target files below list) file m (suc (length library)) most
      ∙ ap (λ n. res table later (suc n) file) (length_stays library later on)
