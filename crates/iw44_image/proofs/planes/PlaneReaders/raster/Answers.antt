use Rattle.std.proofs.Common.{Option, ap, refl}
use Rattle.iw44_image.specs.declared.planes.ChromaReaders.{ChromaReaders}
use Rattle.iw44_image.specs.Samples.{components_of}
use Rattle.iw44_image.specs.Readers.{planes_of, coded_b, coded_r}
use Rattle.iw44_image.proofs.PlaneSteps.{sizes_of, grey_of, chroma_of}
use Rattle.iw44_image.proofs.planes.PlaneReaders.raster.Goals as goal

pub picture-requires-clause-samples : goal.picture-requires-clause-samples
picture-requires-clause-samples c = (
  components_of (planes_of c.args.header c.args.self.now),
  c.in_ok-grey-in-None.ensures c.args.header (components_of (planes_of c.args.header c.args.self.now))
      (grey_of c.requires.sound.0 c.args.header c.args.self.now c.in-None.is c.requires.sound.1) refl,
  sizes_of c.requires.sound.0 c.args.header c.args.self.now c.requires.sound.1,
)

pub returns-in_ok-grey-in-None : goal.returns-in_ok-grey-in-None
returns-in_ok-grey-in-None c =
    c.picture.ensures (components_of (planes_of c.args.header c.args.self.now))
    (c.in_ok-grey-in-None.ensures c.args.header (components_of (planes_of c.args.header c.args.self.now))
    (grey_of c.requires.sound.0 c.args.header c.args.self.now c.in-None.is c.requires.sound.1) refl)
    (sizes_of c.requires.sound.0 c.args.header c.args.self.now c.requires.sound.1)

pub picture-requires-in-Some-clause-samples : goal.picture-requires-in-Some-clause-samples
picture-requires-in-Some-clause-samples c = (
  components_of (planes_of c.args.header c.args.self.now),
  c.in_ok-samples-in-Some.ensures c.args.header (components_of (planes_of c.args.header c.args.self.now))
      (chroma_of c.requires.sound.0 c.args.header c.args.self.now c.in-Some.chroma c.in-Some.is c.requires.sound.1).0 refl refl
      (ap (λ (o : Option ChromaReaders). (coded_b c.args.header o).plane) c.in-Some.is)
      (ap (λ (o : Option ChromaReaders). (coded_r c.args.header o).plane) c.in-Some.is),
  sizes_of c.requires.sound.0 c.args.header c.args.self.now c.requires.sound.1,
)

pub returns-in_ok-samples-in-Some : goal.returns-in_ok-samples-in-Some
returns-in_ok-samples-in-Some c =
    c.picture-in-Some.ensures (components_of (planes_of c.args.header c.args.self.now))
    (c.in_ok-samples-in-Some.ensures c.args.header (components_of (planes_of c.args.header c.args.self.now))
    (chroma_of c.requires.sound.0 c.args.header c.args.self.now c.in-Some.chroma c.in-Some.is c.requires.sound.1).0 refl refl
    (ap (λ (o : Option ChromaReaders). (coded_b c.args.header o).plane) c.in-Some.is)
    (ap (λ (o : Option ChromaReaders). (coded_r c.args.header o).plane) c.in-Some.is))
    (sizes_of c.requires.sound.0 c.args.header c.args.self.now c.requires.sound.1)
