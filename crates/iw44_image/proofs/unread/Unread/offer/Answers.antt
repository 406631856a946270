use Rattle.std.proofs.Common.{◌++◌, ℕ, List, ap, subst, ◌∙◌}
use Rattle.std.specs.Prelude.{take}
use Rattle.std.proofs.lemmas.List.{take-append-drop, append-nil}
use Rattle.zp_decoder.specs.Decoder.{Fed}
use Rattle.iw44_image.proofs.unread.Unread.offer.Goals as goal

pub returns-then-count-eq0-clause-stays : goal.returns-then-count-eq0-clause-stays
returns-then-count-eq0-clause-stays c = λ none payload place fed.
    subst (λ (p : List ℕ). Fed p place c.push-count.new.self) (ap (λ (n : ℕ). payload ++ take n c.left-2.result.now) c.if-count-eq0.true ∙ append-nil payload)
    (c.push-count.ensures.fed payload place fed)

pub returns-clause-takes : goal.returns-clause-takes
returns-clause-takes c =
    let left : List ℕ = c.args.self.now in
    let count : ℕ = c.push-count.result in
    record {
      more = take count left;
      left = ap (λ (l : List ℕ). take count left ++ l) c.skip.ensures ∙ take-append-drop count left;
      fed = λ payload place fed. c.finish.ensures.fed (payload ++ take count left) place
          (subst (λ (l : List ℕ). Fed (payload ++ take count l) place c.push-count.new.self) c.left-2.ensures (c.push-count.ensures.fed payload place fed));
      table = c.finish.ensures.table ∙ c.push-count.ensures.table;
    }
