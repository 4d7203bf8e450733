use Rattle.law_heap_steps.proofs.turns.drop_steps.Goals as goal
use Rattle.law_heap_steps.proofs.turns.Clauses.{discards, drops, replaces}

pub returns : goal.returns
returns c = record { discards = discards; drops = drops; replaces = replaces }
