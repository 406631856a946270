use Rattle.std.proofs.Common.{◌≡◌, sym, ap, subst, ◌∙◌}
use Rattle.jb2_records.specs.Reading.{Mask}
use Rattle.jb2_records.specs.Mask.{mask_drawn}
use Rattle.jb2_records.specs.ReaderState.{ReaderState, Fed, input_of}
use Rattle.jb2_records.proofs.Concluding.{drawn_mask}
use Rattle.jb2_records.proofs.reader.MaskReader.mask.Goals as goal

pub returns-clause-mask : goal.returns-clause-mask
returns-clause-mask c width height payload is fed =
    let reader : ReaderState = c.self.inside.records in
    let of_mask : reader.source.purpose ≡ Mask width height = ap (λ (r : ReaderState). r.source.purpose) c.self.view_is ∙ is in
    let was : Fed payload reader = subst (λ (r : ReaderState). Fed payload r) (sym c.self.view_is) fed in
    let given : c.into_mask.result ≡ c.in-Some.picture.mask = c.into_mask.ensures in
    subst (λ (r : ReaderState). c.into_mask.result ≡ mask_drawn width height (input_of r payload)) c.self.view_is
    (given ∙ drawn_mask (input_of reader payload) c.into_machine-picture.result.picture c.in-Some.picture width height c.in-Some.is
    c.into_machine-picture.ensures.drawn of_mask
    (c.into_machine-picture.ensures.draws payload was))
