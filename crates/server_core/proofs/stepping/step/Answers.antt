use Rattle.std.proofs.Common.{◌≡◌, arith}
use Rattle.server_parts.specs.Accesses.{access_in}
use Rattle.server_parts.specs.Hands.{hand}
use Rattle.server_core.proofs.StepLemmas.{stays}
use Rattle.server_core.proofs.stepping.step.Goals as goal

pub follow-names-requires-clause-started : goal.follow-names-requires-clause-started
follow-names-requires-clause-started c =
    let same : c.prepare-ready.new.work.state.rest.started ≡ c.args.work.now.state.rest.started =
    (stays (access_in c.access_of-access.result) (hand c.args.work.now c.args.thread.now) (hand c.prepare-ready.new.work c.prepare-ready.new.thread) c.prepare-ready.result c.prepare-ready.ensures.state).started in
    omega (arith, same, c.requires.started)

pub follow-names-requires-clause-pc : goal.follow-names-requires-clause-pc
follow-names-requires-clause-pc c =
    let same : c.prepare-ready.new.thread.state.pc ≡ c.args.thread.now.state.pc =
    (stays (access_in c.access_of-access.result) (hand c.args.work.now c.args.thread.now) (hand c.prepare-ready.new.work c.prepare-ready.new.thread) c.prepare-ready.result c.prepare-ready.ensures.state).pc in
    omega (arith, same, c.requires.counts.pc)

pub follow-names-requires-clause-made : goal.follow-names-requires-clause-made
follow-names-requires-clause-made c =
    let same : c.prepare-ready.new.thread.state.made ≡ c.args.thread.now.state.made =
    (stays (access_in c.access_of-access.result) (hand c.args.work.now c.args.thread.now) (hand c.prepare-ready.new.work c.prepare-ready.new.thread) c.prepare-ready.result c.prepare-ready.ensures.state).made in
    omega (arith, same, c.requires.counts.made)
