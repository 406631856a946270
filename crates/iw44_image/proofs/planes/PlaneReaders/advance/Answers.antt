use Rattle.std.proofs.Common.{◌-◌, Some, length, sym, subst}
use Rattle.iw44_image.specs.declared.planes.Channel.{Channel}
use Rattle.iw44_image.specs.declared.planes.Channel.TheVariants.{B, R}
use Rattle.iw44_image.specs.declared.planes.ChromaReaders.{ChromaReaders}
use Rattle.iw44_image.specs.declared.planes.PlaneReaders.{PlaneReaders}
use Rattle.iw44_image.specs.Readers.{Placed, HaveRead, plane_reading}
use Rattle.iw44_image.proofs.PlaneSteps.{y_read, b_read, r_read, chroma_of, whole_is}
use Rattle.iw44_image.proofs.planes.PlaneReaders.advance.Goals as goal

pub returns-in-Y-clause-read : goal.returns-in-Y-clause-read
returns-in-Y-clause-read g c = λ header slice decisions course payload place sound placed fed.
    let new : PlaneReaders = record { y = c.advance.new.self; chroma = c.args.self.now.chroma } in
    subst (λ (channel : Channel). Placed header channel slice course c.args.self.now → HaveRead header channel slice
    (plane_reading header channel course decisions payload place c.args.zp.now c.args.self.now) payload c.args.self.now new c.advance.new.zp c.advance.result)
    (sym c.in-Y.is)
    (λ there. y_read header slice decisions course payload place c.args.zp.now c.advance.new.zp c.args.self.now c.advance.new.self c.advance.result there
    (c.advance.ensures.read slice decisions course payload place there.0 fed))
    placed

pub returns-in-Y-clause-sound : goal.returns-in-Y-clause-sound
returns-in-Y-clause-sound g c = λ header sound. record { y = c.advance.ensures.sound header sound.y; chroma = sound.chroma }

pub returns-in-Some-clause-read : goal.returns-in-Some-clause-read
returns-in-Some-clause-read g c = λ header slice decisions course payload place sound placed fed.
    let chroma : ChromaReaders = record { b = c.advance-in-Some.new.self; r = c.in-Some.chroma.r } in
    let new : PlaneReaders = record { y = c.args.self.now.y; chroma = Some chroma } in
    subst (λ (channel : Channel). Placed header channel slice course c.args.self.now → HaveRead header channel slice
    (plane_reading header channel course decisions payload place c.args.zp.now c.args.self.now) payload c.args.self.now new
    c.advance-in-Some.new.zp c.advance-in-Some.result)
    (sym c.in-B.is)
    (subst (λ (old : PlaneReaders). Placed header B slice course old → HaveRead header B slice
    (plane_reading header B course decisions payload place c.args.zp.now old) payload old new
    c.advance-in-Some.new.zp c.advance-in-Some.result)
    (sym (whole_is c.args.self.now c.in-Some.chroma c.in-Some.is))
    (λ there. b_read header slice decisions course payload place c.args.zp.now c.advance-in-Some.new.zp c.args.self.now.y c.in-Some.chroma
    c.advance-in-Some.new.self c.advance-in-Some.result there
    (c.advance-in-Some.ensures.read (slice - header.delay) decisions course payload place there.1.0 fed)))
    placed

pub returns-in-Some-clause-sound : goal.returns-in-Some-clause-sound
returns-in-Some-clause-sound g c = λ header sound.
    let chroma = chroma_of (length c.args.zp.now.table) header c.args.self.now c.in-Some.chroma c.in-Some.is sound in
    record { y = sound.y; chroma = (chroma.0, (c.advance-in-Some.ensures.sound header chroma.1.0, chroma.1.1)) }

pub returns-in-Some-chroma-clause-read : goal.returns-in-Some-chroma-clause-read
returns-in-Some-chroma-clause-read g c = λ header slice decisions course payload place sound placed fed.
    let chroma : ChromaReaders = record { b = c.in-Some-chroma.chroma.b; r = c.advance-in-Some-chroma.new.self } in
    let new : PlaneReaders = record { y = c.args.self.now.y; chroma = Some chroma } in
    subst (λ (channel : Channel). Placed header channel slice course c.args.self.now → HaveRead header channel slice
    (plane_reading header channel course decisions payload place c.args.zp.now c.args.self.now) payload c.args.self.now new
    c.advance-in-Some-chroma.new.zp c.advance-in-Some-chroma.result)
    (sym c.in-R.is)
    (subst (λ (old : PlaneReaders). Placed header R slice course old → HaveRead header R slice
    (plane_reading header R course decisions payload place c.args.zp.now old) payload old new
    c.advance-in-Some-chroma.new.zp c.advance-in-Some-chroma.result)
    (sym (whole_is c.args.self.now c.in-Some-chroma.chroma c.in-Some-chroma.is))
    (λ there. r_read header slice decisions course payload place c.args.zp.now c.advance-in-Some-chroma.new.zp c.args.self.now.y
    c.in-Some-chroma.chroma c.advance-in-Some-chroma.new.self c.advance-in-Some-chroma.result there
    (c.advance-in-Some-chroma.ensures.read (slice - header.delay) decisions course payload place there.1.1 fed)))
    placed

pub returns-in-Some-chroma-clause-sound : goal.returns-in-Some-chroma-clause-sound
returns-in-Some-chroma-clause-sound g c = λ header sound.
    let chroma = chroma_of (length c.args.zp.now.table) header c.args.self.now c.in-Some-chroma.chroma c.in-Some-chroma.is sound in
    record { y = sound.y; chroma = (chroma.0, (chroma.1.0, c.advance-in-Some-chroma.ensures.sound header chroma.1.1)) }
