use Rattle.std.proofs.Common.{◌≡◌, ℤ, ◌-◌, List}
use Rattle.fr_plain.specs.MachineThreads.{Pair}
use Rattle.fr_meaning.specs.Running.{AreParents}
use Rattle.fr_plain.specs.Threads.{release, release_by}
use Rattle.fr_forms.specs.declared.forms.Form.{Form}
use Rattle.fr_acts.specs.MutexActs.{last_of}
use Rattle.fr_meaning.specs.Beside.{beside_of}
use Rattle.fr_meaning.specs.Threads.{AreWell, whole, numbers_of}
use Rattle.fr_meaning.proofs.threads.let_go.Given as goal

abbrev pub invariant-each : goal.invariant-each
invariant-each l = record {
  goes : (fs : List Form) (output : List ℤ) → release_by (l.many - l.gone) (whole fs l.threads.items (beside_of l.common) output) (last_of l.last) ≡ release (whole fs l.initial.threads.items (beside_of l.initial.common) output) (last_of l.fn.released);
  numbers : numbers_of l.threads.items ≡ numbers_of l.initial.threads.items;
  well : (fs : List Form) → AreWell fs l.initial.threads.items → AreWell fs l.threads.items;
  pairs : l.common.pairs ≡ l.initial.common.pairs;
  parents : (ps : List Pair) → AreParents ps l.initial.threads.items → AreParents ps l.threads.items;
}
