use Rattle.server_deliveries.proofs.pulling.+passed_at.Given as goal

-- the hops that are left
abbrev pub decreases-passed_at : goal.decreases-passed_at
decreases-passed_at l = l.depth
