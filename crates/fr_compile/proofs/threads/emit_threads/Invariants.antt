use Rattle.fr_forms.specs.FormTerms.{root_of}
use Rattle.fr_compile.specs.Emitting.{waits_of}
use Rattle.fr_compile.proofs.Queue.{left}
use Rattle.fr_compile.proofs.Turns.{AreTaken}
use Rattle.fr_compile.proofs.threads.emit_threads.Given as goal

-- main and the threads that were taken from the queue have their code
abbrev pub invariant-queue : goal.invariant-queue
invariant-queue l = AreTaken l.forms l.code.items l.queue.items l.next (root_of l.forms)

-- the steps of the threads that are left, and of those that they start
abbrev pub decreases-queue : goal.decreases-queue
decreases-queue l = left (waits_of l.forms l.queue.items) l.next
