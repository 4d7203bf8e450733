use Rattle.std.proofs.Common.{ap}
use Rattle.drust_io.specs.Memory.{Steady}
use Rattle.drust_io.proofs.FlowLemmas.{copied_off}
use Rattle.drust_io.proofs.steady.NoFaultSourceSource.read.Goals as goal

pub returns-clause-bytes : goal.returns-clause-bytes
returns-clause-bytes c =
    copied_off c.self.inside.at c.copy_front-n.result c.self.inside.bytes.items _ _ _ (ap (λ (d : Steady). d.bytes) c.self.view_is) c.deref.ensures.value c.copy_front-n.ensures.bytes
