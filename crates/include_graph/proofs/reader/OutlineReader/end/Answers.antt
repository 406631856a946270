use Rattle.std.proofs.Common.{◌≡◌, [], Some, sym, ap, ◌∙◌, subst}
use Rattle.std.proofs.lemmas.List.{append-nil}
use Rattle.djvu_base.specs.Library.{mark_of}
use Rattle.include_graph.specs.Outlines.{outline_of}
use Rattle.include_graph.specs.Fed.{Outlining}
use Rattle.include_graph.proofs.Closing.{done_stays, walk_fed}
use Rattle.include_graph.proofs.reader.OutlineReader.end.Goals as goal

pub returns-in-NeedBytes-clause-fed : goal.returns-in-NeedBytes-clause-fed
returns-in-NeedBytes-clause-fed c bytes h =
    walk_fed c.args.self.now (mark_of c.args.end) bytes bytes c.self.inside.answered c.close-self-inside.result c.self.inside.walk c.close-self-inside.new.self
    c.self.view_is c.in-NeedBytes.is (c.close-self-inside.ensures.fed bytes) h

pub returns-in-Done-clause-fed : goal.returns-in-Done-clause-fed
returns-in-Done-clause-fed c bytes h =
    done_stays c.args.self.now (mark_of c.args.end) bytes bytes (ap (λ (r : Outlining). r.answered) (sym c.self.view_is) ∙ c.in-Done.is)
    (λ outline e. subst (λ b. outline_of (mark_of c.args.end) b ≡ Some outline) (append-nil bytes)
    (c.outlines_stay.ensures.stays (mark_of c.args.end) bytes [] outline e)) h
