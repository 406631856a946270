use Rattle.std.proofs.Common.{ℕ, ◌+◌, List, [], ◌∷◌, ◌≡◌, zero, suc, drop, refl, sym, ap, ◌∙◌, arith}
use Rattle.std.proofs.Math.Seq.{drop-nil}
use Rattle.page_decoder.specs.PageRead.{Include}
use Rattle.page_decoder.proofs.resolving.Includes.skip.Goals as goal

one_less : (k : ℕ) (includes : List Include) → drop (k + 1) includes ≡ drop 1 (drop k includes)
one_less k [] = drop-nil (k + 1) ∙ sym (ap (drop 1) (drop-nil k))
one_less zero (include ∷ includes) = refl
one_less (suc k) (include ∷ includes) =
    let sum : suc k + 1 ≡ suc (k + 1) = omega arith in
    ap (λ n. drop n (include ∷ includes)) sum ∙ one_less k includes

pub returns-clause-pending : goal.returns-clause-pending
returns-clause-pending c = one_less c.self.inside.begun c.self.inside.read.items ∙ ap (λ it. drop 1 it.pending) c.self.view_is
