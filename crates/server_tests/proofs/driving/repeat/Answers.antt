use Rattle.std.proofs.Common.{◌≡◌, ◌-◌, Option, IsSome, sym, ap, subst, ◌∙◌}
use Rattle.server_model.specs.Servers.{Server}
use Rattle.server_tests.specs.Driving.{again}
use Rattle.server_tests.proofs.DrivingLemmas.{first_done, others_done}
use Rattle.server_tests.proofs.driving.repeat.Goals as goal

pub act-requires : goal.act-requires
act-requires c = first_done c.events.server.code c.events.server.options c.args.what.now c.events.left c.events.server.state c.events-test.true c.events.invariant.1

pub events-preserved : goal.events-preserved
events-preserved c =
    let step =
    others_done c.events.server.code c.events.server.options c.args.what.now c.events.left c.events.server.state (c.act.new.server.state, c.in_ok-entry.entry) c.events-test.true c.in_ok-entry.ensures.done in
    let moved =
    ap (λ x. again x c.act.new.server.options c.args.what.now (c.events.left - 1) c.act.new.server.state) c.act.ensures.kept.0
    ∙ ap (λ x. again c.events.server.code x c.args.what.now (c.events.left - 1) c.act.new.server.state) c.act.ensures.kept.1
    ∙ sym step in
    (moved ∙ c.events.invariant.0, subst (λ (o : Option Server). IsSome o) (sym moved) c.events.invariant.1, c.act.ensures.kept.0 ∙ c.events.invariant.2, c.act.ensures.kept.1 ∙ c.events.invariant.3)
