use Rattle.include_graph.proofs.Staying.{outline_stays, known_whole, known_broken}
use Rattle.include_graph.proofs.laws.outlines_stay.Goals as goal

pub returns-clause-stays : goal.returns-clause-stays
returns-clause-stays c mark bytes more outline is =
    let stay = c.chunks_stay.ensures in
    outline_stays mark bytes more outline (stay.events bytes more) (stay.ended bytes more) (stay.broken bytes more) (c.never_cut.ensures bytes) is

pub returns-clause-whole : goal.returns-clause-whole
returns-clause-whole c bytes = known_whole bytes

pub returns-clause-broken : goal.returns-clause-broken
returns-clause-broken c bytes = known_broken bytes
