use Rattle.std.proofs.Common.{◌+◌, slice_set, sym, ap, subst, ◌∙◌, arith}
use Rattle.server_model.specs.Clusters.{outboxes}
use Rattle.cluster_core.specs.Views.{states, events_in}
use Rattle.cluster_core.specs.Rooms.{HaveRoomFor}
use Rattle.cluster_core.specs.Handing.{handed, AreEmpty}
use Rattle.cluster_core.proofs.RowLemmas.{KeepsRun, at_place, states_same, states_at, run_set, then_same}
use Rattle.cluster_core.proofs.HandingLemmas.{next, room_there, gone, none_taken, one_more_empty, room_for_set}
use Rattle.cluster_core.proofs.sending.send_from.Goals as goal

pub accept_at-requires : goal.accept_at-requires
accept_at-requires c =
    let there = at_place c.messages.servers.items c.args.at c.index_mut.result.now (omega (arith, c.requires.within, c.messages.invariant.long)) c.index_mut.ensures.value in
    let its = next c.args.at c.messages.servers.items c.index_mut.result.now c.outbox.new.self (record { target = c.in-Some.target; message = c.in-Some.message }) c.messages.invariant.numbered c.messages.invariant.before c.messages.invariant.room there c.in-Some.ensures.taken
    c.outbox.ensures.kept.0 c.outbox.ensures.kept.1 c.outbox.ensures.room in
    record { room = room_there c.args.at c.messages.servers.items (slice_set c.messages.servers.items c.args.at c.outbox.new.self) c.in-Some.target c.in-Some.message its }

pub messages-smaller : goal.messages-smaller
messages-smaller c =
    let there = at_place c.messages.servers.items c.args.at c.index_mut.result.now (omega (arith, c.requires.within, c.messages.invariant.long)) c.index_mut.ensures.value in
    let its = next c.args.at c.messages.servers.items c.index_mut.result.now c.outbox.new.self (record { target = c.in-Some.target; message = c.in-Some.message }) c.messages.invariant.numbered c.messages.invariant.before c.messages.invariant.room there c.in-Some.ensures.taken
    c.outbox.ensures.kept.0 c.outbox.ensures.kept.1 c.outbox.ensures.room in
    let after = gone c.args.at c.messages.servers.items (slice_set c.messages.servers.items c.args.at c.outbox.new.self) c.accept_at.new.servers.items c.in-Some.target c.in-Some.message its c.accept_at.ensures in
    omega (arith, after.fewer)

pub messages-preserved : goal.messages-preserved
messages-preserved c =
    let there = at_place c.messages.servers.items c.args.at c.index_mut.result.now (omega (arith, c.requires.within, c.messages.invariant.long)) c.index_mut.ensures.value in
    let its = next c.args.at c.messages.servers.items c.index_mut.result.now c.outbox.new.self (record { target = c.in-Some.target; message = c.in-Some.message }) c.messages.invariant.numbered c.messages.invariant.before c.messages.invariant.room there c.in-Some.ensures.taken
    c.outbox.ensures.kept.0 c.outbox.ensures.kept.1 c.outbox.ensures.room in
    let after = gone c.args.at c.messages.servers.items (slice_set c.messages.servers.items c.args.at c.outbox.new.self) c.accept_at.new.servers.items c.in-Some.target c.in-Some.message its c.accept_at.ensures in
    let run = after.run in record {
      handed = after.handed_same ∙ c.messages.invariant.handed;
      numbered = after.numbered;
      before = after.before;
      room = after.room;
      run = then_same c.args.servers.now.items c.messages.servers.items c.accept_at.new.servers.items c.messages.invariant.run run;
      events = after.events ∙ c.messages.invariant.events;
      long = run.long ∙ c.messages.invariant.long;
    }

pub returns-clause-handed : goal.returns-clause-handed
returns-clause-handed c =
    let there = at_place c.messages.servers.items c.args.at c.index_mut.result.now (omega (arith, c.requires.within, c.messages.invariant.long)) c.index_mut.ensures.value in
    let none = none_taken c.index_mut.result.now.state c.outbox.new.self.state c.in_default.ensures.taken in
    ap handed (states_same c.messages.servers.items c.args.at c.index_mut.result.now c.outbox.new.self there none.1) ∙ c.messages.invariant.handed

pub returns-clause-empty : goal.returns-clause-empty
returns-clause-empty c =
    let there = at_place c.messages.servers.items c.args.at c.index_mut.result.now (omega (arith, c.requires.within, c.messages.invariant.long)) c.index_mut.ensures.value in
    let none = none_taken c.index_mut.result.now.state c.outbox.new.self.state c.in_default.ensures.taken in
    subst (AreEmpty (c.args.at + 1)) (sym (states_same c.messages.servers.items c.args.at c.index_mut.result.now c.outbox.new.self there none.1))
    (one_more_empty c.args.at (states c.messages.servers.items) c.index_mut.result.now.state c.messages.invariant.before (states_at c.messages.servers.items c.args.at c.index_mut.result.now there) none.0)

pub returns-clause-room : goal.returns-clause-room
returns-clause-room c =
    let there = at_place c.messages.servers.items c.args.at c.index_mut.result.now (omega (arith, c.requires.within, c.messages.invariant.long)) c.index_mut.ensures.value in
    let none = none_taken c.index_mut.result.now.state c.outbox.new.self.state c.in_default.ensures.taken in
    let same = states_same c.messages.servers.items c.args.at c.index_mut.result.now c.outbox.new.self there none.1 in
    subst (λ l. HaveRoomFor (outboxes l) (slice_set c.messages.servers.items c.args.at c.outbox.new.self)) (sym same)
    (room_for_set (outboxes (states c.messages.servers.items)) c.messages.servers.items c.args.at c.index_mut.result.now c.outbox.new.self there (ap (λ s. s.rest.number) none.1) c.outbox.ensures.room c.messages.invariant.room)

pub returns-clause-run : goal.returns-clause-run
returns-clause-run c =
    let there = at_place c.messages.servers.items c.args.at c.index_mut.result.now (omega (arith, c.requires.within, c.messages.invariant.long)) c.index_mut.ensures.value in
    let none = none_taken c.index_mut.result.now.state c.outbox.new.self.state c.in_default.ensures.taken in
    let keeps : KeepsRun c.index_mut.result.now c.outbox.new.self = record { code = c.outbox.ensures.kept.0; options = c.outbox.ensures.kept.1; number = ap (λ s. s.rest.number) none.1 } in
    then_same c.args.servers.now.items c.messages.servers.items (slice_set c.messages.servers.items c.args.at c.outbox.new.self) c.messages.invariant.run (run_set c.messages.servers.items c.args.at c.index_mut.result.now c.outbox.new.self there keeps)

pub returns-clause-events : goal.returns-clause-events
returns-clause-events c =
    let there = at_place c.messages.servers.items c.args.at c.index_mut.result.now (omega (arith, c.requires.within, c.messages.invariant.long)) c.index_mut.ensures.value in
    let none = none_taken c.index_mut.result.now.state c.outbox.new.self.state c.in_default.ensures.taken in
    ap events_in (states_same c.messages.servers.items c.args.at c.index_mut.result.now c.outbox.new.self there none.1) ∙ c.messages.invariant.events
