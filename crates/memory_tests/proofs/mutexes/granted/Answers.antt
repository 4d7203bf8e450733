use Rattle.heap_partition.specs.declared.value.Owned.TheVariants.{Unit}
use Rattle.memory_tests.proofs.MutexLemmas.{granted_out}
use Rattle.memory_tests.proofs.mutexes.granted.Goals as goal

pub returns-in-Next-clause-back : goal.returns-in-Next-clause-back
returns-in-Next-clause-back c = granted_out c.args.mutexes.now.state c.args.back Unit c.in-Next.ensures.state c.requires.back c.args.back c.requires.back

pub returns-in-Next-clause-other : goal.returns-in-Next-clause-other
returns-in-Next-clause-other c = granted_out c.args.mutexes.now.state c.args.back Unit c.in-Next.ensures.state c.requires.back c.args.other c.requires.other
