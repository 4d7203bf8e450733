use Rattle.law_heap_writes.proofs.writes.write_steps.Goals as goal
use Rattle.law_heap_writes.proofs.writes.Clauses.{moves_plain, assigns_plain}

pub returns : goal.returns
returns c = record { moves = moves_plain; assigns = assigns_plain }
