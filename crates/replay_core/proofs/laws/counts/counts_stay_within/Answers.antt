use Rattle.replay_core.proofs.Counting.{stay_within}
use Rattle.replay_core.proofs.laws.counts.counts_stay_within.Goals as goal

pub returns : goal.returns
returns c table library later counts is on within =
    stay_within table library later counts on (λ page. (c.libraries_go_on.ensures.told table library later page is on).decisions)
    (λ file page reached. c.reached_files_stay.ensures table library later file page is on reached) within
