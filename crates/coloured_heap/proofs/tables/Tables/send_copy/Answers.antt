use Rattle.std.proofs.lemmas.Result.{on_ok_weaker}
use Rattle.coloured_heap.proofs.tables.Tables.send_copy.Goals as goal

pub returns : goal.returns
returns c = on_ok_weaker c.serve.result (λ f s h. f _ ((rw c.object_key.ensures at c.answer.ensures) s h)) c.serve.ensures
