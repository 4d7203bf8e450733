use Rattle.std.proofs.Common.{ap}
use Rattle.drust_io.specs.Memory.{Device}
use Rattle.drust_io.proofs.FlowLemmas.{copied_off}
use Rattle.drust_io.proofs.memory.MemorySourceSource.read.Goals as goal

pub returns-clause-bytes : goal.returns-clause-bytes
returns-clause-bytes c =
    copied_off c.self.inside.at c.copy_front-n.result c.self.inside.bytes.items _ _ _ (ap (λ (d : Device). d.bytes) c.self.view_is) c.deref-2.ensures.value c.copy_front-n.ensures.bytes
