use Rattle.er_exit.proofs.hints.+word_start.Given as goal

abbrev pub decreases-word_start : goal.decreases-word_start
decreases-word_start l = l.words
