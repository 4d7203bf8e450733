use Rattle.cluster_core.proofs.RoomLemmas.{grows_itself}
use Rattle.cluster_core.proofs.apply.make_ready.Goals as goal

pub returns-then-ready-clause-grown : goal.returns-then-ready-clause-grown
returns-then-ready-clause-grown c = grows_itself c.args.servers.now.items
