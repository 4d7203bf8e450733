use Rattle.tracer.proofs.names.+add_digits.Given as goal

abbrev pub decreases-add_digits : goal.decreases-add_digits
decreases-add_digits a = a.places
