use Rattle.std.proofs.Common.{◌++◌, sym, ap, ◌∙◌}
use Rattle.djvu_base.specs.Library.{Open}
use Rattle.include_graph.specs.Fed.{Outlining}
use Rattle.include_graph.proofs.Closing.{done_stays, walk_fed}
use Rattle.include_graph.proofs.reader.OutlineReader.feed.Goals as goal

pub returns-in-NeedBytes-clause-fed : goal.returns-in-NeedBytes-clause-fed
returns-in-NeedBytes-clause-fed c bytes h =
    walk_fed c.args.self.now Open bytes (bytes ++ c.args.piece.now) c.self.inside.answered c.read-self-inside.result
    c.self.inside.walk c.read-self-inside.new.self c.self.view_is c.in-NeedBytes.is (c.read-self-inside.ensures bytes) h

pub returns-in-Done-clause-fed : goal.returns-in-Done-clause-fed
returns-in-Done-clause-fed c bytes h =
    done_stays c.args.self.now Open bytes (bytes ++ c.args.piece.now) (ap (λ (r : Outlining). r.answered) (sym c.self.view_is) ∙ c.in-Done.is)
    (λ outline e. c.outlines_stay.ensures.stays Open bytes c.args.piece.now outline e) h
