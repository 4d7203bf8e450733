use Rattle.std.proofs.Common.{◌≡◌, List, drop}
use Rattle.fr_plain.specs.Whole.{all_wait}
use Rattle.fr_forms.specs.declared.forms.Form.{Form}
use Rattle.fr_forms.specs.FormTerms.{AreInOrder}
use Rattle.fr_meaning.specs.Running.{plain_of, Stands}
use Rattle.fr_meaning.specs.Threads.{threads_of}
use Rattle.fr_meaning.proofs.standing.all_wait.Given as goal

abbrev pub invariant-each : goal.invariant-each
invariant-each l = record { rest : (fs : List Form) → AreInOrder fs → Stands fs l.running → all_wait (plain_of fs l.running) (threads_of fs (drop l.at l.running.threads.items)) ≡ all_wait (plain_of fs l.running) (threads_of fs l.running.threads.items) }
