use Rattle.std.proofs.Common.{rules, ◌≡◌, ◌∙◌, ◌-◌, [], length, sym, ap, subst}
use Rattle.std.specs.Prelude.{min}
use Rattle.law_runs_rounds.specs.rounds.Working.{CanWork}
use Rattle.drust_run.specs.Turns.{most_in_turn}
use Rattle.drust_run.proofs.turns.take_turn.Goals as goal

pub quantum-requires : goal.quantum-requires
quantum-requires c =
    let v = c.args.server.now in
    let n = length c.args.journal.now.items in
    let left : c.saturating_sub.result ≡ c.options-options.result.now.turns - n = search rules in
    let most : c.at_most-most.result ≡ most_in_turn n v = c.at_most-most.ensures ∙ ap (min c.options-options.result.now.quantum) left ∙ ap (λ o. min o.quantum (o.turns - n)) c.options-options.ensures in
    record { able = subst (λ k. CanWork v.code v.options k v.state c.args.choice.now) (sym most) c.requires.ready.able; short = c.requires.ready.short }
