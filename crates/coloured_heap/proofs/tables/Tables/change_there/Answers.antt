use Rattle.std.proofs.Common.{rules, sym}
use Rattle.coloured_heap.proofs.ActLemmas.{stays}
use Rattle.coloured_heap.proofs.tables.Tables.change_there.Goals as goal

pub returns-in-Give : goal.returns-in-Give
returns-in-Give c none s h = rw (c.in-Give.is) (c.send_object.ensures s h)

pub returns-in-Take : goal.returns-in-Take
returns-in-Take c none s h = rw (sym c.entry.view_is, c.in-Take.is) (c.change_object.ensures s h)

pub returns-in-Tint : goal.returns-in-Tint
returns-in-Tint c none s h = rw (c.in-Tint.is) (c.change_object-in-Tint.ensures s h)

pub returns-in-Renew : goal.returns-in-Renew
returns-in-Renew c none s h = rw (c.in-Renew.is) (c.change_object-in-Renew.ensures s h)

pub returns-in-Condemn : goal.returns-in-Condemn
returns-in-Condemn c none s h = rw (c.in-Condemn.is) (c.change_object-in-Condemn.ensures s h)

pub returns-in-Free : goal.returns-in-Free
returns-in-Free c none s h = rw (c.in-Free.is) (c.remove_object.ensures s h)

pub returns-in-Evict : goal.returns-in-Evict
returns-in-Evict c none s h = rw (sym c.entry.view_is, c.in-Evict.is) (c.evict.ensures s h)

pub returns-in-Grant : goal.returns-in-Grant
returns-in-Grant c none s h = rw (c.in-Grant.is) (c.grant.ensures s h)

pub returns-in-GiveBack : goal.returns-in-GiveBack
returns-in-GiveBack c none s h = rw (c.in-GiveBack.is) (c.set_holder.ensures s h)

pub returns-in-Dupped : goal.returns-in-Dupped
returns-in-Dupped c none s h = rw (c.in-Dupped.is) (c.send_share.ensures s h)

pub returns-in-Answer : goal.returns-in-Answer
returns-in-Answer c none s h = rw c.in-Answer.is ((rw (c.number-in-Answer.ensures.number, c.number.ensures.number) at c.answer.ensures) s h)

pub returns-in-Finish : goal.returns-in-Finish
returns-in-Finish c none s h = rw (c.in-Finish.is) (c.change_thread.ensures s h)

pub returns-in-Depart : goal.returns-in-Depart
returns-in-Depart c none s h = rw (c.in-Depart.is) (c.change_thread-in-Depart.ensures s h)

pub returns-in_default : goal.returns-in_default
returns-in_default c none s h = rw (stays c.args.entry.now s c.args.act.now none (search rules)) h
