use Rattle.fr_grammar.proofs.marks.bound_at.Goals as goal

pub returns-clause-readable : goal.returns-clause-readable
returns-clause-readable c =
    λ n h.
    let a = c.in_ok-rest.ensures.readable n h in
    let b = c.in_ok-name.ensures.readable n a in
    (b.0, c.in_ok-rest-2.ensures.readable n b.1)
