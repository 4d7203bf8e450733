use Rattle.std.proofs.Common.{rules, sym}
use Rattle.std.proofs.lemmas.Result.{on_ok_weaker}
use Rattle.coloured_heap.proofs.tables.Tables.change.Goals as goal

pub returns-in-Make : goal.returns-in-Make
returns-in-Make c = on_ok_weaker c.add_object.result (λ f s h. rw (sym c.entry.view_is, c.in-Make.is) (f s _ h)) c.add_object.ensures

pub returns-in-Ask : goal.returns-in-Ask
returns-in-Ask c = on_ok_weaker c.ask_copy.result (λ f s h. rw (sym c.entry.view_is, c.in-Ask.is) (f s h)) c.ask_copy.ensures

pub returns-in-Serve : goal.returns-in-Serve
returns-in-Serve c = on_ok_weaker c.send_copy.result (λ f s h. rw (c.in-Serve.is) (f s h)) c.send_copy.ensures

pub returns-in-Fill : goal.returns-in-Fill
returns-in-Fill c = on_ok_weaker c.fill.result (λ f s h. rw (sym c.entry.view_is, c.in-Fill.is) (f s h)) c.fill.ensures

pub returns-in-Pull : goal.returns-in-Pull
returns-in-Pull c = on_ok_weaker c.ask_object.result (λ f s h. rw (sym c.entry.view_is, c.in-Pull.is) (f s h)) c.ask_object.ensures

pub returns-in-AskLock : goal.returns-in-AskLock
returns-in-AskLock c = on_ok_weaker c.ask_lock.result (λ f s h. rw (c.in-AskLock.is) (f s h)) c.ask_lock.ensures

pub returns-in-AskDup : goal.returns-in-AskDup
returns-in-AskDup c = on_ok_weaker c.ask_dup.result (λ f s h. rw (c.in-AskDup.is) (f s h)) c.ask_dup.ensures

pub returns-in-Start : goal.returns-in-Start
returns-in-Start c = on_ok_weaker c.start.result (λ f s h. rw (c.in-Start.is) (f s h)) c.start.ensures

pub returns-in-AskJoin : goal.returns-in-AskJoin
returns-in-AskJoin c = on_ok_weaker c.wish.result (λ f s h. rw (sym c.entry.view_is, c.in-AskJoin.is) (rw (sym c.entry.view_is) at (f s h))) (rw (c.number.ensures.number, c.asker.ensures) at c.wish.ensures)

pub returns-in_default : goal.returns-in_default
returns-in_default c = c.change_there.ensures (search rules)
