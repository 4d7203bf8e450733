use Rattle.std.proofs.Common.{rules, ◌<◌, ◌≤◌, ℕ, true, false, slice_get, slice_set, length, sym, ap, subst, ◌∙◌, arith, refl}
use Rattle.cluster_core.specs.Rows.{Changes, Grows}
use Rattle.cluster_core.proofs.RowLemmas.{changed, not_there, at_place, past_end}
use Rattle.cluster_core.proofs.apply.refill.Goals as goal

pub returns-in_default : goal.returns-in_default
returns-in_default c =
    let past : length c.args.servers.now.items ≤ c.args.at = search rules in
    not_there (Grows 2 true) c.args.at c.args.servers.now.items (past_end c.args.servers.now.items c.args.at past)

pub returns-in-Ok : goal.returns-in-Ok
returns-in-Ok c =
    let inside : c.from.result < length c.args.servers.now.items = omega (arith, c.in-Some.ensures.variant.0 refl, c.args.servers.now.ok.0) in
    let there = ap (slice_get c.args.servers.now.items) (sym c.from.ensures) ∙ at_place c.args.servers.now.items c.from.result c.in-Some.server.now inside c.in-Some.ensures.value in
    subst (λ (n : ℕ). Changes (Grows 2 true) c.args.at c.args.servers.now.items (slice_set c.args.servers.now.items n c.accept_room.new.self)) (sym c.from.ensures)
    (changed (Grows 2 true) c.args.at c.args.servers.now.items c.in-Some.server.now c.accept_room.new.self there
    (record { state = c.accept_room.ensures.state; code = c.accept_room.ensures.kept.0; options = c.accept_room.ensures.kept.1; no_less = c.accept_room.ensures.spare; room_made = λ e. c.in-Ok.ensures.room }))

pub returns-in-Err : goal.returns-in-Err
returns-in-Err c =
    let inside : c.from.result < length c.args.servers.now.items = omega (arith, c.in-Some.ensures.variant.0 refl, c.args.servers.now.ok.0) in
    let there = ap (slice_get c.args.servers.now.items) (sym c.from.ensures) ∙ at_place c.args.servers.now.items c.from.result c.in-Some.server.now inside c.in-Some.ensures.value in
    subst (λ (n : ℕ). Changes (Grows 2 false) c.args.at c.args.servers.now.items (slice_set c.args.servers.now.items n c.accept_room.new.self)) (sym c.from.ensures)
    (changed (Grows 2 false) c.args.at c.args.servers.now.items c.in-Some.server.now c.accept_room.new.self there
    (record { state = c.accept_room.ensures.state; code = c.accept_room.ensures.kept.0; options = c.accept_room.ensures.kept.1; no_less = c.accept_room.ensures.spare; room_made = λ e. absurd (cc e) }))
