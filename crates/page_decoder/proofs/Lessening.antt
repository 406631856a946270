-- What wasn't given yet grows less with each gift.
use Rattle.std.proofs.Common.{◌≡◌, ◌≢◌, ◌<◌, ℕ, zero, suc, ◌+◌, Bool, true, false, eqb, Option, Some, None, refl, ap, ◌∙◌, arith}
use Rattle.std.specs.Prelude.{⊤, Result as Answered, Ok, Err, OnOk, IfOk, slice_get}
use Rattle.std.proofs.lemmas.Bool.{eqb-true, eqb-false}
use Rattle.include_graph.specs.declared.outline.Outline.{Outline}
use Rattle.include_graph.specs.Verdicts.{in_list}
use Rattle.jb2_records.specs.declared.results.FileResult.{FileResult}
use Rattle.jb2_records.specs.declared.results.FileResult.TheVariants as gift_of
use Rattle.page_decoder.specs.Results.{Result}
use Rattle.page_decoder.specs.Resolving.{Gifts, known_by, result_in, lacking, unknown_of, not_given, given_at, result_from}

unknown_same : {A : Type 0} (less more : ℕ → Option A) (count : ℕ) → ((other : ℕ) → other < count → more other ≡ less other)
    → unknown_of more count ≡ unknown_of less count
unknown_same less more zero same = refl
unknown_same less more (suc count) same =
    let here = ap lacking (same count (omega arith)) in
    let below = unknown_same less more count (λ other under. same other (omega (arith, under))) in
    omega (arith, here, below)

unknown_less : {A : Type 0} (less more : ℕ → Option A) (file : ℕ) (it : A) (count : ℕ) → less file ≡ None → more file ≡ Some it
    → ((other : ℕ) → other ≢ file → more other ≡ less other) → file < count → unknown_of more count < unknown_of less count
unknown_less less more file it zero lacks there others below = absurd (omega (arith, below))
unknown_less less more file it (suc count) lacks there others below =
    by (eqb count file) (λ under. unknown_less less more file it count lacks there others under) refl
  where
    by : (t : Bool) → (file < count → unknown_of more count < unknown_of less count) → eqb count file ≡ t
        → unknown_of more (suc count) < unknown_of less (suc count)
    by true rest e =
        let same = eqb-true count file e in
        let before : lacking (less count) ≡ 1 = ap (λ n. lacking (less n)) same ∙ ap lacking lacks in
        let after : lacking (more count) ≡ 0 = ap (λ n. lacking (more n)) same ∙ ap lacking there in
        let below_it = unknown_same less more count (λ other under. others other (λ is. omega (arith, under, is, same))) in
        omega (arith, before, after, below_it)
    by false rest e =
        let differs = eqb-false count file e in
        let here = ap lacking (others count differs) in
        let less = rest (omega (arith, below, differs)) in
        omega (arith, here, less)

-- a file gives something, unless there was no memory for its decoding
gives : (gift : FileResult) → gift ≢ gift_of.NoMemory → (it : Result) × (result_in gift ≡ Some it)
gives (gift_of.Dictionary shapes) some = (_, refl)
gives gift_of.Nothing some = (_, refl)
gives (gift_of.Refused fault) some = (_, refl)
gives gift_of.NoMemory some = absurd (some refl)

module _ (before after : Gifts) (file : ℕ) (same_count : after.count ≡ before.count) (below : file < before.count) where
  pub outline_less : {E : Type 0} (outline : Outline) (answer : Answered ⊤ E) → (known_by before).outlines file ≡ None
      → IfOk answer (λ done. (known_by after).outlines file ≡ Some outline)
      → ((other : ℕ) → other ≢ file → (known_by after).outlines other ≡ (known_by before).outlines other) → after.results ≡ before.results
      → OnOk answer (not_given after < not_given before)
  unfolding not_given
  outline_less outline (Ok done) lacks there others results =
      let fewer = unknown_less (known_by before).outlines (known_by after).outlines file outline before.count lacks there others below in
      let same = unknown_same (known_by before).results (known_by after).results before.count
      (λ other under. ap (λ r. result_from (given_at (slice_get r other))) results) in
      let outlines = ap (unknown_of (known_by after).outlines) same_count in
      let gifts = ap (unknown_of (known_by after).results) same_count in
      omega (arith, fewer, same, outlines, gifts)
  outline_less outline (Err error) lacks there others results = tt

  pub result_less : {E : Type 0} (gift : FileResult) (answer : Answered ⊤ E) → (known_by before).results file ≡ None
      → IfOk answer (λ done. (known_by after).results file ≡ result_in gift)
      → ((other : ℕ) → other ≢ file → (known_by after).results other ≡ (known_by before).results other) → after.outlines ≡ before.outlines
      → OnOk answer (gift ≢ gift_of.NoMemory → not_given after < not_given before)
  unfolding not_given
  result_less gift (Ok done) lacks there others outlines = λ some.
      let known = gives gift some in
      let fewer = unknown_less (known_by before).results (known_by after).results file known.0 before.count lacks (there ∙ known.1) others below in
      let same = unknown_same (known_by before).outlines (known_by after).outlines before.count
      (λ other under. ap (λ o. in_list o other) outlines) in
      let counts = ap (unknown_of (known_by after).outlines) same_count in
      let gifts = ap (unknown_of (known_by after).results) same_count in
      omega (arith, fewer, same, counts, gifts)
  result_less gift (Err error) lacks there others outlines = tt
