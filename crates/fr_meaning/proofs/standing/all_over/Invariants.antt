use Rattle.std.proofs.Common.{◌≡◌, List, drop}
use Rattle.fr_plain.specs.Whole.{all_over}
use Rattle.fr_forms.specs.declared.forms.Form.{Form}
use Rattle.fr_meaning.specs.Threads.{threads_of}
use Rattle.fr_meaning.proofs.standing.all_over.Given as goal

abbrev pub invariant-each : goal.invariant-each
invariant-each l = record { rest : (fs : List Form) → all_over (threads_of fs (drop l.at l.threads)) ≡ all_over (threads_of fs l.initial.threads) }
