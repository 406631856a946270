use Rattle.std.proofs.Common.{◌≡◌, ◌<◌, sym, ap, ◌∙◌, subst}
use Rattle.std.specs.Prelude.{OnOk}
use Rattle.std.specs.Arc.{arc_value}
use Rattle.page_decoder.specs.Resolving.{not_given}
use Rattle.page_decoder.specs.PageFed.{Fed, IsFed, Decoding, with_known}
use Rattle.page_decoder.proofs.Decoding.{GrowthLaws, outline_lacks}
use Rattle.page_decoder.proofs.Gifting.{outlined_too, knows_outline, outline_gifted}
use Rattle.page_decoder.proofs.Lessening.{outline_less}
use Rattle.page_decoder.proofs.decoder.PageDecoder.give_outline.Goals as goal

pub give_outline-given-requires-clause-place : goal.give_outline-given-requires-clause-place
unfolding Fed
give_outline-given-requires-clause-place c =
    let laws : GrowthLaws =
    record { told = c.growth.ensures.told; unmet = c.growth.ensures.unmet; outline = c.needs.ensures.outline; file = c.needs.ensures.file } in
    let i = c.self.invariant in
    subst (λ n. c.args.file < n) (sym i.places) (outline_lacks laws _ i.given c.args.file (ap (λ (d : Decoding). d.stands) c.self.view_is ∙ c.requires) i.fed).2

pub give_outline-given-requires-clause-lacking : goal.give_outline-given-requires-clause-lacking
unfolding Fed
give_outline-given-requires-clause-lacking c =
    let laws : GrowthLaws =
    record { told = c.growth.ensures.told; unmet = c.growth.ensures.unmet; outline = c.needs.ensures.outline; file = c.needs.ensures.file } in
    let i = c.self.invariant in (outline_lacks laws _ i.given c.args.file (ap (λ (d : Decoding). d.stands) c.self.view_is ∙ c.requires) i.fed).1

pub returns-clause-fed : goal.returns-clause-fed
unfolding Fed
returns-clause-fed c given known k f =
    let laws : GrowthLaws =
    record { told = c.growth.ensures.told; unmet = c.growth.ensures.unmet; outline = c.needs.ensures.outline; file = c.needs.ensures.file } in
    rw (c.standing_after-self-inside.ensures)
    (outline_gifted laws _ given known c.args.file c.give_outline-given.new.self (subst (IsFed given) (sym c.self.view_is) f) (arc_value c.args.outline)
    c.give_outline-given.result (ap (λ (d : Decoding). d.stands) c.self.view_is ∙ c.requires) k
    c.give_outline-given.ensures.outline c.give_outline-given.ensures.others c.give_outline-given.ensures.results)

pub returns-clause-to_ask : goal.returns-clause-to_ask
unfolding Fed
returns-clause-to_ask c =
    let laws : GrowthLaws =
    record { told = c.growth.ensures.told; unmet = c.growth.ensures.unmet; outline = c.needs.ensures.outline; file = c.needs.ensures.file } in
    let i = c.self.invariant in
    let lacks = outline_lacks laws _ i.given c.args.file (ap (λ (d : Decoding). d.stands) c.self.view_is ∙ c.requires) i.fed in
    subst (λ n. OnOk c.give_outline-given.result (not_given c.give_outline-given.new.self < n)) (ap (λ (d : Decoding). d.to_ask) c.self.view_is)
    (outline_less _ c.give_outline-given.new.self c.args.file c.give_outline-given.ensures.count (subst (λ n. c.args.file < n) (sym i.places) lacks.2)
    (arc_value c.args.outline) c.give_outline-given.result lacks.1 c.give_outline-given.ensures.outline
    c.give_outline-given.ensures.others c.give_outline-given.ensures.results)

pub invariant_of-self : goal.invariant_of-self
unfolding Fed
invariant_of-self c =
    let laws : GrowthLaws =
    record { told = c.growth.ensures.told; unmet = c.growth.ensures.unmet; outline = c.needs.ensures.outline; file = c.needs.ensures.file } in
    let i = c.self.invariant in
    let known = outlined_too c.args.file (arc_value c.args.outline) i.given.known in
    rw (c.standing_after-self-inside.ensures) (record {
      is_page = i.is_page;
      ascending = i.ascending;
      few = i.few;
      places = c.give_outline-given.ensures.count ∙ i.places;
      given = with_known known i.given;
      fed =
          outline_gifted laws _ i.given known c.args.file c.give_outline-given.new.self i.fed (arc_value c.args.outline) c.give_outline-given.result
          (ap (λ (d : Decoding). d.stands) c.self.view_is ∙ c.requires)
          (knows_outline c.args.file (arc_value c.args.outline) i.given.known) c.give_outline-given.ensures.outline c.give_outline-given.ensures.others
          c.give_outline-given.ensures.results;
    })
