use Rattle.server_deliveries.proofs.pulling.+chased.Given as goal

-- the hops that are left
abbrev pub decreases-chased : goal.decreases-chased
decreases-chased l = l.depth
