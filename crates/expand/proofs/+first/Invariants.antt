use Rattle.expand.proofs.+first.Given as goal

abbrev pub decreases-first : goal.decreases-first
decreases-first l = l.k
