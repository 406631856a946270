use Rattle.std.proofs.Common.{◌≡◌, ℕ, ◌++◌, length, List, refl, subst, sym}
use Rattle.std.specs.Prelude.{OnOk}
use Rattle.iw44_image.specs.Layer.{Data}
use Rattle.iw44_image.specs.Keeping.{HasRoom}
use Rattle.page_decoder.specs.LayerState.{LayerState, Lays}
use Rattle.page_decoder.proofs.Tallying.{push_lays}
use Rattle.page_decoder.proofs.layer_reader.LayerReader.push.Goals as goal

pub returns-clause-lays : goal.returns-clause-lays
returns-clause-lays c =
    let o : LayerState = record { image = c.self.inside.iw; page = c.self.inside.page_size; decisions = c.self.inside.count } in
    let n : LayerState = record { image = c.push.new.self; page = c.self.inside.page_size; decisions = c.self.inside.count } in
    let e = c.push.ensures in
    subst (λ (it : LayerState). OnOk c.push.result ((chunks : List Data) (bytes : List ℕ) → Lays chunks bytes it → Lays chunks (bytes ++ c.args.piece.now) n))
    c.self.view_is
    (push_lays c.push.result o n c.args.piece.now
    (record {
      alike = record { table = e.table; limit = e.limit; page = refl };
      header = e.header;
      decisions = refl;
      room = subst (λ (it : LayerState). HasRoom (length c.args.piece.now) it.image.to_come) (sym c.self.view_is) c.requires;
    })
    c.layers_grow.ensures.decisions c.self.invariant e.holds e.to_come)
