use Rattle.std.proofs.Common.{◌≡◌, ◌∷◌, length, ap, arith}
use Rattle.drust_run.proofs.TurnLemmas.{others_ready}
use Rattle.drust_run.proofs.turns.+turns.Goals as goal

pub take_turns-requires : goal.take_turns-requires
take_turns-requires g t c κs within =
    let servers : c.args.servers.now ≡ c.in-Some.server.now ∷ c.in-Some.others.now = c.in-Some.ensures.cases.0 in
    let choices : c.args.choices.now ≡ c.in-Some-split_first_mut.choice.now ∷ c.in-Some-split_first_mut.rest.now = c.in-Some-split_first_mut.ensures.cases.0 in
    let ready =
    others_ready c.args.journal.now.items c.take_turn.new.journal.items _ _ c.in-Some.server.now c.take_turn.new.server c.in-Some-split_first_mut.choice.now c.take_turn.new.choice c.in-Some.others.now c.in-Some-split_first_mut.rest.now servers choices c.requires.ready c.in_ok-done.ensures in
    (omega (arith, c.decreases, ap length servers), (within, (omega (arith, ap length servers, ap length choices, c.requires.as_many), (omega (arith, ap length servers, c.requires.few), ready))))
