use Rattle.std.proofs.Common.{ℕ, sym, subst, ◌∙◌, arith}
use Rattle.std.specs.Prelude.{slice_get, IfSome}
use Rattle.cluster_core.specs.Rows.{Changes, Grows}
use Rattle.cluster_core.specs.Applying.{CanAct, Applied}
use Rattle.cluster_core.proofs.ReadyLemmas.{room_everywhere}
use Rattle.cluster_core.proofs.AppliedLemmas.{both_set, applied_there}
use Rattle.cluster_core.proofs.apply.apply_at.Goals as goal

pub act_at-requires-clause-within : goal.act_at-requires-clause-within
act_at-requires-clause-within c = omega (arith, c.from-at.ensures, c.requires.within)

pub act_at-requires-clause-able : goal.act_at-requires-clause-able
act_at-requires-clause-able c = subst (λ (n : ℕ). IfSome (slice_get c.args.servers.now.items n) (CanAct c.args.event.now.what)) (sym c.from-at.ensures) c.requires.able

pub returns-clause-done : goal.returns-clause-done
returns-clause-done c =
    let n = c.from-at.result in
    let vs = c.args.servers.now.items in
    let us = c.act_at.new.servers.items in
    let ws = c.send_event-others.new.servers.items in
    let zs = c.refill-own.new.servers.items in
    let sends = c.send_event-others.ensures in
    let grows = subst (λ (m : ℕ). Changes (Grows 2 c.refill-own.result) m ws zs) (sym c.from-at.ensures) c.refill-own.ensures in
    subst (λ (m : ℕ). Applied m c.args.event.now.what c.in_ok-entry.entry vs zs) c.from-at.ensures
    (applied_there n c.args.event.now.what c.in_ok-entry.entry c.refill-own.result vs us ws zs c.in_ok-entry.ensures.done sends.handed sends.sent sends.run sends.events grows)

pub returns-clause-ready : goal.returns-clause-ready
returns-clause-ready c = λ e.
    let ws = c.send_event-others.new.servers.items in
    let zs = c.refill-own.new.servers.items in
    let set = both_set c.refill-own.result c.send_event-others.result (sym c.both.ensures ∙ e) in
    let grows = subst (λ (m : ℕ). Changes (Grows 2 c.refill-own.result) m ws zs) (sym c.from-at.ensures) c.refill-own.ensures in
    room_everywhere c.from-at.result 2 c.refill-own.result ws zs (c.send_event-others.ensures.ready set.1) grows set.0
