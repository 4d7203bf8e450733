use Rattle.server_index.proofs.SumLemmas.{AreSums}
use Rattle.server_index.proofs.sums.sums_of.Given as goal

-- as far as counts were summed, each sum is theirs
abbrev pub invariant-counts : goal.invariant-counts
invariant-counts l = AreSums l.level l.sums.items l.at
