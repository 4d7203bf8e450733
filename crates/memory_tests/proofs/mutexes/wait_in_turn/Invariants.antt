use Rattle.std.proofs.Common.{◌≡◌, true}
use Rattle.memory_tests.specs.Mutexes.{is_out}
use Rattle.memory_tests.proofs.mutexes.wait_in_turn.Given as goal

-- the contents of both are out
abbrev pub invariant-threads : goal.invariant-threads
invariant-threads l = (is_out l.mutexes.state l.first ≡ true) × (is_out l.mutexes.state l.second ≡ true)
