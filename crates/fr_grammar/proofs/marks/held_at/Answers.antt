use Rattle.fr_grammar.proofs.marks.held_at.Goals as goal

pub returns-clause-readable : goal.returns-clause-readable
returns-clause-readable c = λ n h. c.name_at.ensures.readable n (c.in_ok-rest.ensures.readable n h)
