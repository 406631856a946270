use Rattle.std.proofs.Common.{◌<◌, ℕ, [], ◌∷◌, ◌++◌, length, refl, sym, ap, subst, arith}
use Rattle.std.proofs.lemmas.List.{length-set}
use Rattle.std.specs.Vec.{with_item}
use Rattle.zp_decoder.specs.Decision.{Adaptive}
use Rattle.zp_decoder.specs.States.{States}
use Rattle.zp_encoder.specs.Written.{written}
use Rattle.zp_encoder.specs.Encoder.{Wrote}
use Rattle.jb2_writer.specs.Coded.{Pixel}
use Rattle.jb2_writer.specs.Coding.{contexts_of}
use Rattle.jb2_writer.proofs.Adding.{adds_bit, if_ok, pixel_sound}
use Rattle.jb2_writer.proofs.Keying.{pixel_stored, pixel_value}
use Rattle.jb2_writer.proofs.coding.Coding.pixel.Goals as goal

pub encode-requires : goal.encode-requires
encode-requires c =
    let within : c.args.number < length c.args.self.now.pixels.items = omega (arith, c.requires.number.within, c.requires.sound.places) in
    let value = pixel_value c.args.self.now.pixels.items c.requires.number.colours c.args.number c.index_mut.result.now _ c.requires.number.is within
    c.index_mut.ensures.value in
    subst (λ (state : ℕ). state < length c.args.self.now.encoder.table) (sym value) (c.requires.sound.pixels c.requires.number.colours)

pub returns : goal.returns
returns c colours n =
    let within : c.args.number < length c.args.self.now.pixels.items = omega (arith, c.requires.number.within, c.requires.sound.places) in
    let value = pixel_value c.args.self.now.pixels.items colours c.args.number c.index_mut.result.now _ n within c.index_mut.ensures.value in
    let stored = pixel_stored c.contexts_are_named.ensures.numbers c.args.self.now.pixels.items
    (with_item c.args.self.now.pixels c.args.number c.encode.new.ctx).items colours c.args.number c.encode.new.ctx n within refl in
    if_ok _ _ _ c.encode.result c.encode.ensures.wrote (λ wrote.
    adds_bit c.args.self.now _ (Pixel colours) c.args.bit c.encode.new.ctx
    (λ decisions before. subst (λ (state : ℕ). Wrote (decisions ++ written (Adaptive state) c.args.bit c.encode.new.ctx ∷ []) c.encode.new.self) value
    (wrote decisions before))
    (ap (λ (pixels : States). record (contexts_of c.args.self.now) { pixels = pixels }) stored)
    (pixel_sound c.args.self.now _ colours c.encode.new.ctx c.requires.sound c.encode.ensures.table c.encode.ensures.below stored
    (length-set c.args.self.now.pixels.items c.args.number c.encode.new.ctx) refl refl refl) c.encode.ensures.table)
