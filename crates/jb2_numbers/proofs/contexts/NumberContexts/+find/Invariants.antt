use Rattle.jb2_numbers.proofs.contexts.NumberContexts.+find.Given as goal

abbrev pub decreases-find : goal.decreases-find
decreases-find l = l.path.count
