use Rattle.std.proofs.Common.{nat_eq, sym, ap, ◌∙◌}
use Rattle.cluster_core.proofs.EndingLemmas.{over_by_count}
use Rattle.cluster_core.proofs.standing.all_over.Goals as goal

pub returns : goal.returns
returns c = ap (λ n. nat_eq n 0) c.active.ensures ∙ sym (over_by_count c.args.server.now.state.threads)
