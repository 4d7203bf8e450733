use Rattle.fr_syntax.specs.Meanings.{term_of}
use Rattle.source_front.proofs.Checkable.{checkable, typed_source}
use Rattle.source_front.proofs.source.checked_source.Goals as goal

pub returns-in-Err-clause-refused : goal.returns-in-Err-clause-refused
returns-in-Err-clause-refused c = c.refused_tokens.ensures c.args.bytes.now c.in-Err.ensures.err

pub returns-in-Err-parse-clause-refused : goal.returns-in-Err-parse-clause-refused
returns-in-Err-parse-clause-refused c = c.refused_term.ensures c.args.bytes.now c.in-Ok.tokens.items c.in-Ok.tokens.names c.in-Ok.ensures.ok c.in-Err-parse.ensures.first

pub check-requires : goal.check-requires
check-requires c = checkable c.args.bytes.now c.in-Ok.tokens.items c.in-Ok.tokens.names c.in-Ok-parse.tree c.in-Ok.ensures.ok c.in-Ok-parse.ensures.spelled c.in-Ok-parse.ensures.names c.in-Ok-parse.ensures.tree

pub returns-in-Ok-check-clause-typed : goal.returns-in-Ok-check-clause-typed
returns-in-Ok-check-clause-typed c =
    typed_source c.args.bytes.now c.in-Ok-parse.tree c.in-Ok-check.checked.arena
    (record { names = c.in-Ok.tokens.names; ts = c.in-Ok.tokens.items; tokens = c.in-Ok.ensures.ok; program = c.in-Ok-parse.ensures.spelled }) c.in-Ok-check.ensures.typed c.in-Ok-check.ensures.tree

pub returns-clause-refused : goal.returns-clause-refused
returns-clause-refused c =
    c.refused_types.ensures c.args.bytes.now (term_of c.in-Ok-parse.tree)
    (record { names = c.in-Ok.tokens.names; ts = c.in-Ok.tokens.items; tokens = c.in-Ok.ensures.ok; program = c.in-Ok-parse.ensures.spelled }) c.in-Err-check.ensures.fault
