use Rattle.std.proofs.Common.{◌*◌, ◌∙◌, refl}
use Rattle.iw44_image.proofs.Painting.{full_of, painted_length, raster_is}
use Rattle.iw44_image.proofs.rasters.Samples.picture.Goals as goal

pub paint-requires-clause-full : goal.paint-requires-clause-full
paint-requires-clause-full c = full_of c.args.header c.requires.samples.0 c.args.self.now c.requires.samples.1 c.requires.samples.2

pub new-requires : goal.new-requires
new-requires c =
    c.in_ok-samples.samples.ok.0 ∙ painted_length c.args.header.width c.args.header.height
    (c.args.header.width * c.args.header.height) c.args.self.now c.in_ok-samples.samples.items c.in_ok-samples.ensures refl

pub returns : goal.returns
returns c = λ it are size. raster_is c.args.header it c.args.self.now c.in_ok-samples.samples.items c.new.result are size c.in_ok-samples.ensures c.new.ensures
