use Rattle.std.proofs.Common.{sym}
use Rattle.std.proofs.lemmas.Result.{on_ok_weaker}
use Rattle.coloured_heap.proofs.tables.Tables.ask_dup.Goals as goal

pub returns : goal.returns
returns c = on_ok_weaker c.wish.result (λ f s h. rw (sym c.entry.view_is) (rw (sym c.entry.view_is) at (f s h))) (rw (c.mutex_key.ensures, c.asker.ensures) at c.wish.ensures)
