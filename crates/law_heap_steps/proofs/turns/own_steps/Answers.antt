use Rattle.law_heap_steps.proofs.turns.own_steps.Goals as goal
use Rattle.law_heap_steps.proofs.turns.Clauses.{lets, sums, prints, reads, borrows}

pub returns : goal.returns
returns c = record { lets = lets; sums = sums; prints = prints; reads = reads; borrows = borrows }
