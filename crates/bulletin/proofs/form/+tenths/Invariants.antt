use Rattle.bulletin.proofs.form.+tenths.Given as goal

abbrev pub decreases-tenths : goal.decreases-tenths
decreases-tenths l = l.p
