use Rattle.std.proofs.Common.{◌≡◌, rules, of_calls, sym, ap, ◌∙◌, subst}
use Rattle.djvu_base.specs.Library.{mark_of}
use Rattle.page_decoder.specs.PageFed.{Fed, IsFed, Decoding}
use Rattle.page_decoder.proofs.Decoding.{GrowthLaws, with_mark, ended_fed}
use Rattle.page_decoder.proofs.Gifting.{none_open}
use Rattle.page_decoder.proofs.decoder.PageDecoder.end.Goals as goal

pub returns-then-is_none-clause-fed : goal.returns-then-is_none-clause-fed
unfolding Fed
returns-then-is_none-clause-fed c open_ given f =
    let laws : GrowthLaws =
    record { told = c.growth.ensures.told; unmet = c.growth.ensures.unmet; outline = c.needs.ensures.outline; file = c.needs.ensures.file } in
    rw (c.without_bytes-self-inside.ensures)
    (ended_fed laws _ given c.args.end (ap (λ (d : Decoding). d.mark) c.self.view_is ∙ open_) (subst (IsFed given) (sym c.self.view_is) f))

pub invariant_of-self : goal.invariant_of-self
unfolding Fed
invariant_of-self c =
    let laws : GrowthLaws =
    record { told = c.growth.ensures.told; unmet = c.growth.ensures.unmet; outline = c.needs.ensures.outline; file = c.needs.ensures.file } in
    let i = c.self.invariant in
    rw (c.without_bytes-self-inside.ensures) (record {
      is_page = i.is_page;
      ascending = i.ascending;
      few = i.few;
      places = i.places;
      given = with_mark (mark_of c.args.end) i.given;
      fed = ended_fed laws _ i.given c.args.end (none_open c.self.inside.end (search (rules, of_calls))) i.fed;
    })
