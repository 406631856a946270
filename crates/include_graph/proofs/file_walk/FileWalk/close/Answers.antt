use Rattle.std.proofs.Common.{sym, subst}
use Rattle.djvu_base.specs.Library.{mark_of}
use Rattle.include_graph.specs.Fed.{FedBy}
use Rattle.include_graph.proofs.Closing.{answered, close_reads}
use Rattle.include_graph.proofs.Walking.{if_ok}
use Rattle.include_graph.proofs.file_walk.FileWalk.close.Goals as goal

pub returns-clause-fed : goal.returns-clause-fed
returns-clause-fed c bytes r =
    let mark = mark_of c.args.end in
    let after = c.at_end-ended.new.self in
    subst (λ s. FedBy s mark bytes after) (sym c.answer_of.ensures)
    (answered c.at_end-ended.result (λ s. FedBy s mark bytes after)
    (if_ok c.at_end-ended.result _ (λ s. FedBy s mark bytes after) c.at_end-ended.ensures
    (λ s h. close_reads c.args.end bytes c.args.self.now after c.finish-last.result s r c.finish-last.ensures.ends
    (λ offset e. c.bounds.ensures.cut_is_early bytes offset e) h)) tt)
