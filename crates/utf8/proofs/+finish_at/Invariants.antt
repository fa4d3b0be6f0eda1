use Rattle.utf8.proofs.+finish_at.Given as goal

abbrev pub decreases-finish_at : goal.decreases-finish_at
decreases-finish_at l = l.k
