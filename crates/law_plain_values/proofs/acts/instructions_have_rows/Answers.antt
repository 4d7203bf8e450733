use Rattle.law_plain_values.proofs.acts.instructions_have_rows.Goals as goal
use Rattle.law_plain_values.proofs.acts.CodeRows.{instructions_have_rows_lem, ends_have_rows}

pub returns-clause-steps : goal.returns-clause-steps
returns-clause-steps c = instructions_have_rows_lem

pub returns-clause-ends : goal.returns-clause-ends
returns-clause-ends c = ends_have_rows
