use Rattle.std.proofs.Common.{◌≡◌, IsSome}
use Rattle.server_tests.specs.Driving.{again}
use Rattle.server_tests.proofs.driving.repeat.Given as goal

-- what is left to do from here leads where the whole does
abbrev pub invariant-events : goal.invariant-events
invariant-events l =
    (again l.server.code l.server.options l.what l.left l.server.state ≡ again l.initial.server.code l.initial.server.options l.what l.fn.times l.initial.server.state)
    × IsSome (again l.server.code l.server.options l.what l.left l.server.state) × (l.server.code ≡ l.initial.server.code) × (l.server.options ≡ l.initial.server.options)

abbrev pub decreases-events : goal.decreases-events
decreases-events l = l.left
