use Rattle.drust_cli.proofs.parser.found.Goals as goal

pub returns-in-Run-clause-rows : goal.returns-in-Run-clause-rows
returns-in-Run-clause-rows c = rw c.in-Run.is c.matches.ensures.rows

pub returns-in-Run-clause-taken : goal.returns-in-Run-clause-taken
returns-in-Run-clause-taken c = rw c.in-Run.is c.matches.ensures.taken

pub returns-in-Run-clause-refused : goal.returns-in-Run-clause-refused
returns-in-Run-clause-refused c = rw c.in-Run.is c.matches.ensures.refused

pub returns-in-Load-clause-rows : goal.returns-in-Load-clause-rows
returns-in-Load-clause-rows c = rw c.in-Load.is c.matches-in-Load.ensures.rows

pub returns-in-Load-clause-taken : goal.returns-in-Load-clause-taken
returns-in-Load-clause-taken c = rw c.in-Load.is c.matches-in-Load.ensures.taken

pub returns-in-Load-clause-refused : goal.returns-in-Load-clause-refused
returns-in-Load-clause-refused c = rw c.in-Load.is c.matches-in-Load.ensures.refused
