use Rattle.fr_forms.specs.FormTerms.{captures_of}
use Rattle.fr_compile.proofs.Captured.{bare_spawn}
use Rattle.fr_compile.proofs.Forms.{on_ok}
use Rattle.fr_compile.proofs.emitting.spawn.Goals as goal

pub returns-clause-code : goal.returns-clause-code
returns-clause-code c =
    on_ok c.leave.result _ _ c.leave.ensures.code (λ e. bare_spawn c.args.code.now.items c.leave.new.code.items c.in_ok-captures.captures (captures_of c.args.captures.now) e c.in_ok-captures.ensures)
