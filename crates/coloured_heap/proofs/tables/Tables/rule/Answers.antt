use Rattle.coloured_heap.proofs.tables.Tables.rule.Goals as goal

pub returns-in-Dupped : goal.returns-in-Dupped
returns-in-Dupped c s h = rw c.in-Dupped.is (c.can_dup.ensures s h)
