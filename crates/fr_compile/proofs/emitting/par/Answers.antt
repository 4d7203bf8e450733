use Rattle.std.proofs.Common.{ap, ◌∙◌}
use Rattle.fr_forms.specs.FormTerms.{captures_of}
use Rattle.fr_compile.proofs.Captured.{listed, bare_par}
use Rattle.fr_compile.proofs.Forms.{on_ok}
use Rattle.fr_compile.proofs.emitting.par.Goals as goal

pub returns-clause-code : goal.returns-clause-code
returns-clause-code c =
    on_ok c.finish.result _ _ c.finish.ensures.code
    (λ e. bare_par c.args.code.now.items c.push-3.new.self.items c.finish.new.code.items c.in_ok-captures.captures c.in_ok-others.others (captures_of c.args.ours.now.captures.items) (captures_of c.args.theirs.now.captures.items)
    c.in_ok-push-3.ensures.pushed e (c.in_ok-captures.ensures ∙ ap listed c.deref.ensures.value) (c.in_ok-others.ensures ∙ ap listed c.deref-2.ensures.value))
