use Rattle.fr_grammar.proofs.leaves.captures.Goals as goal

pub list-requires-clause-readable : goal.list-requires-clause-readable
list-requires-clause-readable c = c.in_ok-rest.ensures.readable _ c.requires.readable
