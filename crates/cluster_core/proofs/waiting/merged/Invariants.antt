use Rattle.std.proofs.Common.{◌≡◌, ◌+◌, ◌-◌, ◌++◌, [], length, drop}
use Rattle.server_model.specs.Questions.{waits_among}
use Rattle.cluster_core.proofs.MergeLemmas.{add_each}
use Rattle.cluster_core.proofs.waiting.merged.Given as goal

-- merging what is left gives all
abbrev pub invariant-waits : goal.invariant-waits
invariant-waits l = l.all.items ++ add_each (drop l.here (waits_among l.server.state.threads [])) (drop l.there l.others.items) ≡ waits_among l.server.state.threads l.others.items

abbrev pub decreases-waits : goal.decreases-waits
decreases-waits l = (length (waits_among l.server.state.threads []) - l.here) + (length l.others.items - l.there)
