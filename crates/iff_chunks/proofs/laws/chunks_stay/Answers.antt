use Rattle.iff_chunks.proofs.Growing.{chunks_stay}
use Rattle.iff_chunks.proofs.laws.chunks_stay.Goals as goal

pub returns-clause-ended : goal.returns-clause-ended
returns-clause-ended c bytes more e = (chunks_stay bytes more).ended e

pub returns-clause-broken : goal.returns-clause-broken
returns-clause-broken c bytes more kind offset e = (chunks_stay bytes more).broken kind offset e

pub returns-clause-form : goal.returns-clause-form
returns-clause-form c bytes more form e = (chunks_stay bytes more).form form e

pub returns-clause-whole : goal.returns-clause-whole
returns-clause-whole c bytes more = ((chunks_stay bytes more).later, (chunks_stay bytes more).chunks)

pub returns-clause-open : goal.returns-clause-open
returns-clause-open c bytes more chunk e = (chunks_stay bytes more).open_ chunk e

pub returns-clause-events : goal.returns-clause-events
returns-clause-events c bytes more = (chunks_stay bytes more).events
