use Rattle.std.proofs.Common.{◌≡◌, true, sym, subst}
use Rattle.server_model.specs.Servers.{Server}
use Rattle.server_core.specs.Steps.{CountsLeft}
use Rattle.server_tests.proofs.DrivingLemmas.{finds}
use Rattle.server_tests.proofs.driving.act.Goals as goal

pub act-requires-clause-counts : goal.act-requires-clause-counts
act-requires-clause-counts c = subst (λ (s : Server). CountsLeft s) (sym c.room.ensures.state) (finds c.args.server.now.code c.args.server.now.options c.args.what.now c.args.server.now.state c.requires).counts
