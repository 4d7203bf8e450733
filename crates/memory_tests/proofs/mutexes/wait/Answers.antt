use Rattle.std.proofs.Common.{ap, ◌∙◌}
use Rattle.memory_tests.specs.Mutexes.{is_out}
use Rattle.memory_tests.proofs.MutexLemmas.{waits_out}
use Rattle.memory_tests.proofs.mutexes.wait.Goals as goal

pub returns-clause-asked : goal.returns-clause-asked
returns-clause-asked c =
    let out = ap (λ ms. is_out ms c.args.asked) c.reserve.ensures.state ∙ c.requires.asked in
    waits_out c.reserve.new.self.state c.args.asked 1 c.args.thread c.ask.ensures.state out c.args.asked out

pub returns-clause-other : goal.returns-clause-other
returns-clause-other c =
    waits_out c.reserve.new.self.state c.args.asked 1 c.args.thread c.ask.ensures.state (ap (λ ms. is_out ms c.args.asked) c.reserve.ensures.state ∙ c.requires.asked) c.args.other (ap (λ ms. is_out ms c.args.other) c.reserve.ensures.state ∙ c.requires.other)
