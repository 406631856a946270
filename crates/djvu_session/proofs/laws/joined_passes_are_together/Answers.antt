use Rattle.std.proofs.Common.{arith, ◌∙◌, sym}
use Rattle.djvu_session.proofs.Joining.{seen_goes_on, long_held, claims_are, one_page_each}
use Rattle.djvu_session.proofs.laws.joined_passes_are_together.Goals as goal

pub returns : goal.returns
returns c session feeders decoders viewers pool shelf is all keeps_feeders keeps_decoders joined_pool lawful_pool joined_shelf lawful once claimed = record {
  is_setup = is.setup;
  long = long_held session.setup.names feeders;
  same = λ k d inside. (all.each_decoder k d inside).setup;
  keeps = keeps_decoders;
  seen = λ k d inside.
      seen_goes_on c.reads_are_prefixes.ensures.prefix session pool feeders _ is
      (λ j f below. record {
        keeps = keeps_feeders j f below;
        is = all.each_feeder j f below;
        knows = record { extends = joined_pool.knows_each j f below; owns = joined_pool.owns_each j f below; lawful = lawful_pool };
      }) keeps_feeders all.each_feeder all.fed (all.each_decoder k d inside) (keeps_decoders k d inside) (joined_pool.knows_each_other k d inside);
  knows = λ k d inside file result e. (joined_shelf.knows_each k d inside file).same_value result e;
  claimed = λ file result e.
      let open_so = lawful file result e in
      let parts = joined_shelf.parts ∙ all.shelf_parts in
      sym (claims_are session shelf decoders file is keeps_decoders joined_shelf) ∙ claimed parts file (omega (arith, open_so));
  once = λ file.
      let sum = claims_are session shelf decoders file is keeps_decoders joined_shelf in
      let few = (once file).0 in
      omega (arith, sum, few);
  alone = λ page. one_page_each session decoders page is all.each_decoder keeps_decoders all.worked;
}
