use Rattle.std.proofs.lemmas.Result.{on_ok_weaker, IfErr-weaker}
use Rattle.coloured_heap.specs.Heap.{start}
use Rattle.coloured_heap.proofs.checking.check.Goals as goal

pub returns-in-Ok-clause-legal : goal.returns-in-Ok-clause-legal
returns-in-Ok-clause-legal c = on_ok_weaker c.take_entries.result (λ f. f start c.in-Ok.ensures) c.take_entries.ensures.legal

pub returns-in-Ok-clause-refused : goal.returns-in-Ok-clause-refused
returns-in-Ok-clause-refused c = IfErr-weaker c.take_entries.result _ _ (λ e f. f start c.in-Ok.ensures) c.take_entries.ensures.refused
