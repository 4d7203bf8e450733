use Rattle.std.proofs.Common.{sym, ◌∙◌, ap}
use Rattle.std.specs.Prelude.{is_some}
use Rattle.fr_types.specs.Types.{kind_of}
use Rattle.borrow_check.proofs.RuleLemmas.{bind_typed, bind_fault}
use Rattle.borrow_check.proofs.rules.bind.Goals as goal

pub returns-then-is_some-clause-gives : goal.returns-then-is_some-clause-gives
returns-then-is_some-clause-gives c = λ names h lt.
    bind_fault names c.args.env.now c.args.name c.args.place (kind_of c.args.t) h lt (sym c.if-is_some.true ∙ c.is_some.ensures ∙ ap is_some c.find.ensures.slot)

pub returns-clause-gives : goal.returns-clause-gives
returns-clause-gives c = λ names h lt.
    bind_typed names c.args.env.now c.push.new.self c.args.name c.args.place (kind_of c.args.t) h lt (sym c.if-is_some.false ∙ c.is_some.ensures ∙ ap is_some c.find.ensures.slot) c.in_ok-push.ensures.pushed
