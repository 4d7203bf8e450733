use Rattle.std.proofs.Common.{ap, length, ◌∙◌}
use Rattle.server_model.specs.Questions.{runnable_in}
use Rattle.server_parts.specs.Threads.{states}
use Rattle.server_parts.proofs.StandLemmas.{runnable_many}
use Rattle.server_parts.proofs.threads.Threads.stepping.Goals as goal

pub returns : goal.returns
returns c = c.stepping.ensures ∙ runnable_many c.self.invariant ∙ ap (λ ps. length (runnable_in (states ps))) c.self.view_is
