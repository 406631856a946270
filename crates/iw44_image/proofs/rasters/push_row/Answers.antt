use Rattle.std.proofs.Common.{◌≡◌, ℕ, ◌+◌, ◌*◌, ◌++◌, ◌∷◌, [], ap, ◌∙◌, arith, rules, to_z, of_z, w8, w64}
use Rattle.iw44_blocks.specs.Lattice.{value_at}
use Rattle.iw44_blocks.proofs.Lemmas.{value_more}
use Rattle.iw44_image.specs.Samples.{sample_of}
use Rattle.iw44_image.specs.Rasters.{shared_place, shared_sample}
use Rattle.iw44_image.proofs.rasters.push_row.Goals as goal

pub push_reserved-requires : goal.push_reserved-requires
push_reserved-requires c =
    let next : (c.args.y + 1) * c.args.width ≡ c.args.y * c.args.width + c.args.width = omega arith in
    omega (arith, c.loop-x.invariant.count, c.loop-x.invariant.room, c.requires.room)

pub loop-x-preserved : goal.loop-x-preserved
loop-x-preserved c =
    let grid = c.args.grid.now in
    let half = c.args.half in
    let x = c.loop-x.x in
    let stored : to_z w8 (of_z w8 c.sample_of.result) ≡ c.sample_of.result = search rules in
    let same : to_z w64 (of_z w64 c.value.result) ≡ c.value.result = search rules in
    let value : c.sample_of.result ≡ shared_sample half grid x c.args.y =
    c.sample_of.ensures ∙ ap sample_of (same ∙ c.value.ensures ∙ ap (λ (n : ℕ). value_at grid n c.shared_place-row.result) c.shared_place.ensures
    ∙ ap (λ (n : ℕ). value_at grid (shared_place half x) n) c.shared_place-row.ensures) in
    record {
      samples = value_more c.args.width c.args.y x (shared_sample half grid) c.loop-x.samples.items c.push_reserved.new.self.items c.sample_of.result
          (omega arith) c.loop-x.invariant.samples value (c.push_reserved.ensures.items ∙ ap (λ v. c.loop-x.samples.items ++ v ∷ []) stored);
      count = omega (arith, c.push_reserved.ensures.len, c.loop-x.invariant.count);
      room = c.push_reserved.ensures.capacity ∙ c.loop-x.invariant.room;
    }
