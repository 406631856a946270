-- What a file needs to be decoded is known, and results that were made stay when the library goes on.
use Rattle.std.proofs.Common.{◌≡◌, ◌<◌, ◌||◌, ℕ, Bool, true, false, eqb, Option, Some, None, List, [], ◌∷◌, ◌++◌, length, refl, sym, ap, ◌∙◌, subst}
use Rattle.std.specs.Prelude.{slice_get}
use Rattle.std.specs.List.{list_any}
use Rattle.std.proofs.lemmas.Bool.{eqb-true}
use Rattle.std.proofs.lemmas.List.{length-map}
use Rattle.djvu_base.specs.Library.{File, Library}
use Rattle.zp_table.specs.declared.rows.Row.{Row}
use Rattle.zp_table.specs.Rows.{IsTable}
use Rattle.include_graph.specs.declared.outline.Outline.{Outline}
use Rattle.include_graph.specs.declared.outline.OutlineItem.{OutlineItem}
use Rattle.include_graph.specs.declared.outline.OutlineItem.TheVariants as item
use Rattle.include_graph.specs.declared.verdicts.Verdict.TheVariants as verdict
use Rattle.include_graph.specs.Outlines.{outline_of}
use Rattle.include_graph.specs.Verdicts.{Graph, is_among, verdict_of}
use Rattle.include_graph.specs.Graphs.{IncludesAmong, InOrder}
use Rattle.page_decoder.specs.Results.{Result}
use Rattle.page_decoder.specs.Given.{Included, Given, Within}
use Rattle.page_decoder.specs.Read.{FileDone, decode}
use Rattle.page_decoder.specs.Libraries.{names_in, outline_in_file, outlines_in, bytes_in, mark_in, graph_of, given_in, LibraryGoesOn}
use Rattle.page_decoder.specs.Needs.{HasNoFault, IsOutlined, IncludesFile, IsMade, IsBuilt}
use Rattle.replay_core.proofs.Lasting.{ResultsOn, GivenOn}

-- the law of lists that are in order
abbrev pub Order : Type 0
Order = (graph : Graph) (file : ℕ) (files : List ℕ) → file < length graph.names → verdict_of graph file ≡ verdict.Files files → InOrder graph [] files

none_faulty : (names : List (List ℕ)) (files : List ℕ) (items : List OutlineItem) → IncludesAmong names files items → HasNoFault items
none_faulty names files [] all = tt
none_faulty names files (item.Include name offset ∷ items) all = none_faulty names files items all.1
none_faulty names files (item.Broken kind offset ∷ items) all = absurd all

-- the outline of a file is known, and has no fault
pub record HasOutline (library : Library) (file : ℕ) : Type 0 where
  pub outline : Outline
  pub known : outlines_in library file ≡ Some outline
  pub clean : HasNoFault outline.items

served_in : (library : Library) (before files : List ℕ) (file : ℕ) → InOrder (graph_of library) before files → is_among file files ≡ true
    → HasOutline library file
served_in library before [] file order among = absurd (let wrong : false ≡ true = among in cc)
served_in library before (first ∷ files) file order among = by (eqb file first) refl (served_in library (before ++ first ∷ []) files file order.2) among
  where
    by : (b : Bool) → eqb file first ≡ b → (is_among file files ≡ true → HasOutline library file) → (b || list_any (eqb file) files) ≡ true
        → HasOutline library file
    by true is rest m =
        let served = order.0 in
        subst (HasOutline library) (sym (eqb-true file first is)) (record {
          outline = served.outline;
          known = served.known;
          clean = none_faulty (names_in library) before served.outline.items served.includes;
        })
    by false is rest m = rest m

pub made_outlined : Order → (table : List Row) (library : Library) (results : ℕ → Option Result) (page file : ℕ)
    → IsMade table library results page file → HasOutline library file
made_outlined order table library results page file made =
    served_in library [] made.files file
    (order (graph_of library) made.target made.files
    (subst (λ n. made.target < n) (sym (length-map library (λ (it : File). it.name))) made.below) made.list) made.listed

-- the outline is that of the file's bytes
pub outlined : (table : List Row) (library : Library) (results : ℕ → Option Result) (file : ℕ) (has : HasOutline library file)
    → IsOutlined (given_in Included table library file results) has.outline
outlined table library results file has = record { known = by (slice_get library file) has.known; clean = has.clean }
  where
    by : (found : Option File) → outline_in_file found ≡ Some has.outline → outline_of (mark_in found) (bytes_in found) ≡ Some has.outline
    by None e = let wrong : None ≡ Some has.outline = e in absurd (cc)
    by (Some it) e = e

-- each file that it includes gives something
pub made_includes : (table : List Row) (library : Library) (results : ℕ → Option Result) (page file : ℕ) (has : HasOutline library file)
    → IsMade table library results page file → (other : ℕ) → IncludesFile (names_in library) has.outline other
    → (result : Result) × (results other ≡ Some result)
made_includes table library results page file has made other it =
    let good = made.includes other (record {
      name = it.name;
      offset = it.offset;
      has = record { outline = has.outline; known = has.known; has = it.has };
      number = it.number;
    }) in
    (good.result, good.known)

-- the laws of included files, and of what is made
abbrev pub DecodeStays : Type 0
DecodeStays = (less more : Given) (outline : Outline) → IsTable less.home.table → Within less more → less.home.role ≡ Included → IsOutlined less outline
    → ((file : ℕ) → IncludesFile less.home.names outline file → (result : Result) × (less.known.results file ≡ Some result))
    → decode more ≡ decode less

abbrev pub MadeStays : Type 0
MadeStays = (table : List Row) (library later : Library) (less more : ℕ → Option Result) (page file : ℕ) → IsTable table → LibraryGoesOn library later
    → ResultsOn less more → IsMade table library less page file → IsMade table later more page file

pub record MakingLaws : Type 0 where
  pub order : Order
  pub given : GivenOn
  pub decoded : DecodeStays
  pub made : MadeStays

module _ (laws : MakingLaws) (table : List Row) (is : IsTable table) (library later : Library) (on : LibraryGoesOn library later)
    (less more : ℕ → Option Result) (known : ResultsOn less more) where
  -- a file that was made is decoded to the same
  pub decoded_on : (page file : ℕ) → IsMade table library less page file
      → decode (given_in Included table later file more) ≡ decode (given_in Included table library file less)
  decoded_on page file made =
      let has = made_outlined laws.order table library less page file made in
      laws.decoded (given_in Included table library file less) (given_in Included table later file more) has.outline is
      (laws.given Included table library later file less more on known) refl (outlined table library less file has)
      (made_includes table library less page file has made)

  pub built_on : (file : ℕ) (result : Result) → IsBuilt table library less file result → IsBuilt table later more file result
  built_on file result built = record {
    page = built.page;
    made = laws.made table library later less more built.page file is on known built.made;
    so = built.so ∙ ap (λ (done : FileDone). done.result) (sym (decoded_on built.page file built.made));
  }
