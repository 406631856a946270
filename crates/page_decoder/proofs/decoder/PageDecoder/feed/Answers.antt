use Rattle.std.proofs.Common.{◌≡◌, ◌⊎◌, inl, inr, sym, ap, ◌∙◌, subst}
use Rattle.djvu_base.specs.declared.faults.Fault.{Fault}
use Rattle.page_decoder.specs.declared.decoder.Standing.{Standing}
use Rattle.page_decoder.specs.declared.decoder.Standing.TheVariants as standing
use Rattle.page_decoder.specs.PageFed.{Fed, IsFed, Decoding}
use Rattle.page_decoder.proofs.Decoding.{GrowthLaws, IsSettled, with_bytes, settled_fed}
use Rattle.page_decoder.proofs.decoder.PageDecoder.feed.Goals as goal

over : (at : Standing) → (at ≡ standing.Finished) ⊎ ((fault : Fault) × (at ≡ standing.Refused fault)) → IsSettled at
over at (inl e) = subst IsSettled (sym e) tt
over at (inr e) = subst IsSettled (sym e.1) tt

pub returns-in-Failed-clause-fed : goal.returns-in-Failed-clause-fed
unfolding Fed
returns-in-Failed-clause-fed c given f =
    let laws : GrowthLaws =
    record { told = c.growth.ensures.told; unmet = c.growth.ensures.unmet; outline = c.needs.ensures.outline; file = c.needs.ensures.file } in
    subst (IsFed (with_bytes c.args.piece.now given)) c.self.view_is
    (settled_fed laws _ given c.args.piece.now (ap (λ (d : Decoding). d.mark) c.self.view_is ∙ c.requires)
    (subst IsSettled (sym c.in-Failed.is) tt) (subst (IsFed given) (sym c.self.view_is) f))

pub returns-in-Finished-clause-fed : goal.returns-in-Finished-clause-fed
unfolding Fed
returns-in-Finished-clause-fed c given f =
    let laws : GrowthLaws =
    record { told = c.growth.ensures.told; unmet = c.growth.ensures.unmet; outline = c.needs.ensures.outline; file = c.needs.ensures.file } in
    subst (IsFed (with_bytes c.args.piece.now given)) c.self.view_is
    (settled_fed laws _ given c.args.piece.now (ap (λ (d : Decoding). d.mark) c.self.view_is ∙ c.requires)
    (over c.self.inside.standing c.in-Finished.is) (subst (IsFed given) (sym c.self.view_is) f))
