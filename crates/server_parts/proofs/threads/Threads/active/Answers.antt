use Rattle.std.proofs.Common.{ap, ◌∙◌}
use Rattle.server_model.specs.Questions.{active_in}
use Rattle.server_parts.specs.Threads.{states}
use Rattle.server_parts.proofs.threads.Threads.active.Goals as goal

pub returns : goal.returns
returns c = c.self.invariant.count ∙ ap (λ ps. active_in (states ps)) c.self.view_is
