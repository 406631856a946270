use Rattle.std.proofs.Common.{◌≡◌, ◌≢◌, ◌<◌, sym, ap, ◌∙◌, subst}
use Rattle.std.specs.Prelude.{OnOk}
use Rattle.jb2_records.specs.declared.results.FileResult.TheVariants as gift_of
use Rattle.page_decoder.specs.Resolving.{result_in, not_given}
use Rattle.page_decoder.specs.PageFed.{Fed, IsFed, Decoding, with_known}
use Rattle.page_decoder.proofs.Decoding.{GrowthLaws, file_lacks}
use Rattle.page_decoder.proofs.Gifting.{resulted_too, knows_result, file_gifted}
use Rattle.page_decoder.proofs.Lessening.{result_less}
use Rattle.page_decoder.proofs.decoder.PageDecoder.give_file.Goals as goal

pub give_file-given-requires-clause-place : goal.give_file-given-requires-clause-place
unfolding Fed
give_file-given-requires-clause-place c =
    let laws : GrowthLaws =
    record { told = c.growth.ensures.told; unmet = c.growth.ensures.unmet; outline = c.needs.ensures.outline; file = c.needs.ensures.file } in
    let i = c.self.invariant in
    subst (λ n. c.args.file < n) (sym i.places) (file_lacks laws _ i.given c.args.file (ap (λ (d : Decoding). d.stands) c.self.view_is ∙ c.requires) i.fed).2

pub give_file-given-requires-clause-lacking : goal.give_file-given-requires-clause-lacking
unfolding Fed
give_file-given-requires-clause-lacking c =
    let laws : GrowthLaws =
    record { told = c.growth.ensures.told; unmet = c.growth.ensures.unmet; outline = c.needs.ensures.outline; file = c.needs.ensures.file } in
    let i = c.self.invariant in (file_lacks laws _ i.given c.args.file (ap (λ (d : Decoding). d.stands) c.self.view_is ∙ c.requires) i.fed).1

pub returns-clause-fed : goal.returns-clause-fed
unfolding Fed
returns-clause-fed c given known k f =
    let laws : GrowthLaws =
    record { told = c.growth.ensures.told; unmet = c.growth.ensures.unmet; outline = c.needs.ensures.outline; file = c.needs.ensures.file } in
    rw (c.standing_after-self-inside.ensures)
    (file_gifted laws _ given known c.args.file c.give_file-given.new.self (subst (IsFed given) (sym c.self.view_is) f) (result_in c.args.gift)
    c.give_file-given.result (ap (λ (d : Decoding). d.stands) c.self.view_is ∙ c.requires) k
    c.give_file-given.ensures.result c.give_file-given.ensures.others c.give_file-given.ensures.outlines)

pub returns-clause-to_ask : goal.returns-clause-to_ask
unfolding Fed
returns-clause-to_ask c =
    let laws : GrowthLaws =
    record { told = c.growth.ensures.told; unmet = c.growth.ensures.unmet; outline = c.needs.ensures.outline; file = c.needs.ensures.file } in
    let i = c.self.invariant in
    let lacks = file_lacks laws _ i.given c.args.file (ap (λ (d : Decoding). d.stands) c.self.view_is ∙ c.requires) i.fed in
    subst (λ n. OnOk c.give_file-given.result (c.args.gift ≢ gift_of.NoMemory → not_given c.give_file-given.new.self < n))
    (ap (λ (d : Decoding). d.to_ask) c.self.view_is)
    (result_less _ c.give_file-given.new.self c.args.file c.give_file-given.ensures.count (subst (λ n. c.args.file < n) (sym i.places) lacks.2)
    c.args.gift c.give_file-given.result lacks.1 c.give_file-given.ensures.result c.give_file-given.ensures.others c.give_file-given.ensures.outlines)

pub invariant_of-self : goal.invariant_of-self
unfolding Fed
invariant_of-self c =
    let laws : GrowthLaws =
    record { told = c.growth.ensures.told; unmet = c.growth.ensures.unmet; outline = c.needs.ensures.outline; file = c.needs.ensures.file } in
    let i = c.self.invariant in
    let known = resulted_too c.args.file (result_in c.args.gift) i.given.known in
    rw (c.standing_after-self-inside.ensures) (record {
      is_page = i.is_page;
      ascending = i.ascending;
      few = i.few;
      places = c.give_file-given.ensures.count ∙ i.places;
      given = with_known known i.given;
      fed =
          file_gifted laws _ i.given known c.args.file c.give_file-given.new.self i.fed (result_in c.args.gift) c.give_file-given.result
          (ap (λ (d : Decoding). d.stands) c.self.view_is ∙ c.requires)
          (knows_result c.args.file (result_in c.args.gift) i.given.known) c.give_file-given.ensures.result c.give_file-given.ensures.others
          c.give_file-given.ensures.outlines;
    })
