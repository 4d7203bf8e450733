use Rattle.std.proofs.Common.{slice_set, sym, ap, subst, ◌∙◌, arith}
use Rattle.cluster_core.specs.Views.{states, events_in}
use Rattle.cluster_core.specs.Handing.{NoneSent}
use Rattle.cluster_core.proofs.RowLemmas.{KeepsRun, at_place, states_same, states_at, run_set, then_same}
use Rattle.cluster_core.proofs.HandingLemmas.{next, room_there, none_taken, all_handed}
use Rattle.cluster_core.proofs.OutboxLemmas.{before_empty, none_anywhere, all_empty}
use Rattle.cluster_core.proofs.ReadyLemmas.{room_set_again}
use Rattle.cluster_core.proofs.AppliedLemmas.{both_set, leaves}
use Rattle.cluster_core.proofs.apply.send_event.Goals as goal

pub accept_at-requires : goal.accept_at-requires
accept_at-requires c =
    let vs = c.messages.servers.items in
    let there = at_place vs c.args.at c.index_mut.result.now (omega (arith, c.requires.within, c.messages.invariant.long)) c.index_mut.ensures.value in
    let its = next c.args.at vs c.index_mut.result.now c.outbox.new.self (record { target = c.in-Some.target; message = c.in-Some.message }) c.messages.invariant.numbered (before_empty c.args.at (states vs) c.messages.invariant.others) c.messages.invariant.room there c.in-Some.ensures.taken
    c.outbox.ensures.kept.0 c.outbox.ensures.kept.1 c.outbox.ensures.room in
    record { room = room_there c.args.at vs (slice_set vs c.args.at c.outbox.new.self) c.in-Some.target c.in-Some.message its }

pub messages-smaller : goal.messages-smaller
messages-smaller c =
    let vs = c.messages.servers.items in
    let there = at_place vs c.args.at c.index_mut.result.now (omega (arith, c.requires.within, c.messages.invariant.long)) c.index_mut.ensures.value in
    let its = next c.args.at vs c.index_mut.result.now c.outbox.new.self (record { target = c.in-Some.target; message = c.in-Some.message }) c.messages.invariant.numbered (before_empty c.args.at (states vs) c.messages.invariant.others) c.messages.invariant.room there c.in-Some.ensures.taken
    c.outbox.ensures.kept.0 c.outbox.ensures.kept.1 c.outbox.ensures.room in
    let after = leaves c.args.at vs c.outbox.new.self c.in-Some.target c.in-Some.message c.refill.result c.accept_at.new.servers.items c.refill.new.servers.items c.messages.invariant.others its c.accept_at.ensures c.refill.ensures in
    omega (arith, after.fewer)

pub messages-preserved : goal.messages-preserved
messages-preserved c =
    let vs = c.messages.servers.items in
    let there = at_place vs c.args.at c.index_mut.result.now (omega (arith, c.requires.within, c.messages.invariant.long)) c.index_mut.ensures.value in
    let its = next c.args.at vs c.index_mut.result.now c.outbox.new.self (record { target = c.in-Some.target; message = c.in-Some.message }) c.messages.invariant.numbered (before_empty c.args.at (states vs) c.messages.invariant.others) c.messages.invariant.room there c.in-Some.ensures.taken
    c.outbox.ensures.kept.0 c.outbox.ensures.kept.1 c.outbox.ensures.room in
    let after = leaves c.args.at vs c.outbox.new.self c.in-Some.target c.in-Some.message c.refill.result c.accept_at.new.servers.items c.refill.new.servers.items c.messages.invariant.others its c.accept_at.ensures c.refill.ensures in
    let run = after.run in record {
      handed = after.handed_same ∙ c.messages.invariant.handed;
      numbered = after.numbered;
      others = after.others;
      room = after.room;
      ready = λ e. let set = both_set c.refill.result c.messages.ready (sym c.both-ready.ensures ∙ e) in after.ready (c.messages.invariant.ready set.1) set.0;
      run = then_same c.args.servers.now.items vs c.refill.new.servers.items c.messages.invariant.run run;
      events = after.events ∙ c.messages.invariant.events;
      long = run.long ∙ c.messages.invariant.long;
    }

pub returns-clause-handed : goal.returns-clause-handed
returns-clause-handed c =
    let vs = c.messages.servers.items in
    let there = at_place vs c.args.at c.index_mut.result.now (omega (arith, c.requires.within, c.messages.invariant.long)) c.index_mut.ensures.value in
    let none = none_taken c.index_mut.result.now.state c.outbox.new.self.state c.in_default.ensures.taken in
    let empty = none_anywhere c.args.at (states vs) c.index_mut.result.now.state c.messages.invariant.others (states_at vs c.args.at c.index_mut.result.now there) none.0 in
    states_same vs c.args.at c.index_mut.result.now c.outbox.new.self there none.1 ∙ sym (all_handed (states vs) (all_empty (states vs) empty)) ∙ c.messages.invariant.handed

pub returns-clause-sent : goal.returns-clause-sent
returns-clause-sent c =
    let vs = c.messages.servers.items in
    let there = at_place vs c.args.at c.index_mut.result.now (omega (arith, c.requires.within, c.messages.invariant.long)) c.index_mut.ensures.value in
    let none = none_taken c.index_mut.result.now.state c.outbox.new.self.state c.in_default.ensures.taken in
    let empty = none_anywhere c.args.at (states vs) c.index_mut.result.now.state c.messages.invariant.others (states_at vs c.args.at c.index_mut.result.now there) none.0 in
    subst NoneSent (sym (states_same vs c.args.at c.index_mut.result.now c.outbox.new.self there none.1)) empty

pub returns-clause-ready : goal.returns-clause-ready
returns-clause-ready c = λ e. room_set_again c.args.at 2 c.messages.servers.items c.outbox.new.self (c.messages.invariant.ready e)

pub returns-clause-run : goal.returns-clause-run
returns-clause-run c =
    let vs = c.messages.servers.items in
    let there = at_place vs c.args.at c.index_mut.result.now (omega (arith, c.requires.within, c.messages.invariant.long)) c.index_mut.ensures.value in
    let none = none_taken c.index_mut.result.now.state c.outbox.new.self.state c.in_default.ensures.taken in
    let keeps : KeepsRun c.index_mut.result.now c.outbox.new.self = record { code = c.outbox.ensures.kept.0; options = c.outbox.ensures.kept.1; number = ap (λ s. s.rest.number) none.1 } in
    then_same c.args.servers.now.items vs (slice_set vs c.args.at c.outbox.new.self) c.messages.invariant.run (run_set vs c.args.at c.index_mut.result.now c.outbox.new.self there keeps)

pub returns-clause-events : goal.returns-clause-events
returns-clause-events c =
    let vs = c.messages.servers.items in
    let there = at_place vs c.args.at c.index_mut.result.now (omega (arith, c.requires.within, c.messages.invariant.long)) c.index_mut.ensures.value in
    let none = none_taken c.index_mut.result.now.state c.outbox.new.self.state c.in_default.ensures.taken in
    ap events_in (states_same vs c.args.at c.index_mut.result.now c.outbox.new.self there none.1) ∙ c.messages.invariant.events
