use Rattle.fr_grammar.proofs.leaves.capture.Goals as goal

pub add-requires-clause-names : goal.add-requires-clause-names
add-requires-clause-names c = ((c.in_ok-name.ensures.readable _ c.requires.readable).0, tt)

pub returns-clause-readable : goal.returns-clause-readable
returns-clause-readable c = c.in_ok-more.ensures.readable _ (c.in_ok-name.ensures.readable _ c.requires.readable).1
