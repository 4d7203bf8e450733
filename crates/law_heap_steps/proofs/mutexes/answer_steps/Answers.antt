use Rattle.law_heap_steps.proofs.mutexes.answer_steps.Goals as goal
use Rattle.law_heap_steps.proofs.mutexes.Clauses.{dups, locks}

pub returns : goal.returns
returns c = record { dups = dups; locks = locks }
