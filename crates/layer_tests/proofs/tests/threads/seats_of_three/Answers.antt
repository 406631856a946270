use Rattle.layer_tests.proofs.Feeding.{feeds_on}
use Rattle.layer_tests.proofs.tests.threads.seats_of_three.Goals as goal

pub returns-clause-feeds : goal.returns-clause-feeds
returns-clause-feeds c =
    feeds_on c.args.pool.now c.requires.two.0 c.requires.two.1 c.args.first.now c.split.new.seat c.split-2.new.seat c.in_ok-second.second
    c.requires.new c.in_ok-second.ensures.kept c.in_ok-second.ensures.split_off c.in_ok-third.ensures.kept c.in_ok-third.ensures.seats.0
    c.in_ok-second.ensures.seats.1
