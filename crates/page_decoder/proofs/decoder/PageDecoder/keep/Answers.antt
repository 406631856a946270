use Rattle.std.proofs.Common.{◌≡◌, ◌++◌, ℕ, refl, sym, ap, ◌∙◌, subst}
use Rattle.page_decoder.specs.PageFed.{Fed, IsFed, Decoding}
use Rattle.page_decoder.proofs.Decoding.{GrowthLaws, on_ok, on_err, with_bytes, bytes_within, open_given, pushed_fed, failing_fed}
use Rattle.page_decoder.proofs.GoingOn.{within_same}
use Rattle.page_decoder.proofs.decoder.PageDecoder.keep.Goals as goal

pub invariant_of-self : goal.invariant_of-self
unfolding Fed
invariant_of-self c =
    let laws : GrowthLaws =
    record { told = c.growth.ensures.told; unmet = c.growth.ensures.unmet; outline = c.needs.ensures.outline; file = c.needs.ensures.file } in
    let open_ = ap (λ (d : Decoding). d.mark) c.self.view_is ∙ c.requires.open in
    let i = c.self.invariant in
    rw (on_ok c.push.result _ _ c.in-Ok.is c.push.ensures.ok, c.without_bytes-self-inside.ensures) (record {
      is_page = i.is_page;
      ascending = i.ascending;
      few = i.few;
      places = i.places;
      given = with_bytes c.args.piece.now i.given;
      fed = pushed_fed laws _ i.given c.args.piece.now open_ i.fed;
    })

pub invariant_of-self-in-Err : goal.invariant_of-self-in-Err
unfolding Fed
invariant_of-self-in-Err c =
    let laws : GrowthLaws =
    record { told = c.growth.ensures.told; unmet = c.growth.ensures.unmet; outline = c.needs.ensures.outline; file = c.needs.ensures.file } in
    let i = c.self.invariant in
    rw (on_err c.push.result _ _ c.in-Err.is c.push.ensures.err) (record {
      is_page = i.is_page;
      ascending = i.ascending;
      few = i.few;
      places = i.places;
      given = i.given;
      fed = failing_fed laws _ i.given i.given (within_same i.given) refl i.fed;
    })

pub returns-in-Ok-clause-fed : goal.returns-in-Ok-clause-fed
unfolding Fed
returns-in-Ok-clause-fed c given f =
    let laws : GrowthLaws =
    record { told = c.growth.ensures.told; unmet = c.growth.ensures.unmet; outline = c.needs.ensures.outline; file = c.needs.ensures.file } in
    let open_ = ap (λ (d : Decoding). d.mark) c.self.view_is ∙ c.requires.open in
    rw (on_ok c.push.result _ _ c.in-Ok.is c.push.ensures.ok, c.without_bytes-self-inside.ensures)
    (pushed_fed laws _ given c.args.piece.now open_ (subst (IsFed given) (sym c.self.view_is) f))

pub returns-in-Err-clause-fed : goal.returns-in-Err-clause-fed
unfolding Fed
returns-in-Err-clause-fed c given f =
    let laws : GrowthLaws =
    record { told = c.growth.ensures.told; unmet = c.growth.ensures.unmet; outline = c.needs.ensures.outline; file = c.needs.ensures.file } in
    let fed = subst (IsFed given) (sym c.self.view_is) f in
    let open_ = ap (λ (d : Decoding). d.mark) c.self.view_is ∙ c.requires.open in
    rw (on_err c.push.result _ _ c.in-Err.is c.push.ensures.err)
    (failing_fed laws _ given (with_bytes c.args.piece.now given) (bytes_within given c.args.piece.now (open_given laws _ given fed open_)) refl fed)
