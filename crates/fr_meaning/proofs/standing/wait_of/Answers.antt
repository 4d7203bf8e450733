use Rattle.std.proofs.Common.{sym, ap, ◌∙◌}
use Rattle.fr_plain.specs.Machine.{lock_waits, mutex_behind}
use Rattle.fr_acts.specs.Acting.{state}
use Rattle.fr_acts.specs.MutexActs.{Rest}
use Rattle.fr_meaning.specs.Next.{next_waits}
use Rattle.fr_meaning.specs.Running.{plain_of}
use Rattle.fr_meaning.specs.Threads.{thread_of}
use Rattle.fr_meaning.proofs.standing.wait_of.Goals as goal

pub returns-in-Lock : goal.returns-in-Lock
returns-in-Lock c = λ fs. (
    let r = c.args.running.now in
    let s = plain_of fs r in
    let x = thread_of fs c.args.thread.now in
    let rest : Rest = record { threads = s.threads; life = x.life; pairs = s.pairs; output = s.output } in
    c.lock_wait.ensures rest ∙ ap (λ vs. lock_waits s (mutex_behind (state x.number vs r.common.heap.heap) c.in-Lock.place)) c.deref.ensures.value ∙ sym (ap (next_waits s x) c.in-Lock.is))
