use Rattle.std.proofs.lemmas.Result.{on_ok_weaker}
use Rattle.coloured_heap.proofs.tables.Tables.ask_copy.Goals as goal

pub returns : goal.returns
returns c = on_ok_weaker c.wish.result (λ f s h. f s h) (rw c.object_key.ensures at c.wish.ensures)
