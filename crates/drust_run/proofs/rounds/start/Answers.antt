use Rattle.std.proofs.Common.{length, sym, ap, subst, ◌∙◌}
use Rattle.server_model.specs.Servers.{Cluster}
use Rattle.law_runs_rounds.specs.rounds.UnderWay.{IsUnderWay}
use Rattle.cluster_core.specs.Views.{events_in}
use Rattle.drust_run.proofs.StartLemmas.{start_counts, start_is}
use Rattle.drust_run.proofs.rounds.start.Goals as goal

pub returns-clause-way : goal.returns-clause-way
returns-clause-way c =
    let o = c.args.options.now in
    let k = c.in_ok-new.field-0.state in
    let table = c.in_ok-new.ensures.table.1 in
    subst IsUnderWay (sym (start_is k c.in_ok-choices_of.field-0.items c.journal_for.result.items o c.in_ok-new.ensures.start c.in_ok-choices_of.ensures c.journal_for.ensures))
    (c.starts_are_under_way.ensures k.code table.table o table.is c.requires.options)

pub returns-clause-counted : goal.returns-clause-counted
returns-clause-counted c =
    let k = c.in_ok-new.field-0.state in
    ap (λ (z : Cluster). events_in z.servers) c.in_ok-new.ensures.start ∙ start_counts k.code c.args.options.now ∙ ap length (sym c.journal_for.ensures)
