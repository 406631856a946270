use Rattle.std.proofs.Common.{◌++◌, sym, subst}
use Rattle.djvu_base.specs.Library.{Open}
use Rattle.include_graph.specs.Fed.{FedBy}
use Rattle.include_graph.proofs.Closing.{answered, begins_walking}
use Rattle.include_graph.proofs.Walking.{if_ok}
use Rattle.include_graph.proofs.file_walk.FileWalk.read.Goals as goal

pub returns : goal.returns
returns c bytes r =
    let all = bytes ++ c.args.piece.now in
    let after = c.walk-walked.new.self in
    let walking = begins_walking bytes c.args.piece.now c.args.self.now c.counted-self.result r c.counted-self.ensures in
    subst (λ s. FedBy s Open all after) (sym c.answer_of.ensures)
    (answered c.walk-walked.result (λ s. FedBy s Open all after)
    (if_ok c.walk-walked.result _ (λ s. FedBy s Open all after) c.walk-walked.ensures (λ s h. h bytes walking)) tt)
