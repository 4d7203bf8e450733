use Rattle.std.proofs.Common.{◌<◌, length, true, refl, ◌∙◌, arith}
use Rattle.std.proofs.lemmas.List.{length-set}
use Rattle.cluster_core.specs.Rows.{Grows}
use Rattle.cluster_core.proofs.RowLemmas.{at_place}
use Rattle.cluster_core.proofs.RoomLemmas.{grows_itself, grow_set, room_set}
use Rattle.cluster_core.proofs.row.make_room.Goals as goal

pub servers-init : goal.servers-init
servers-init c = (grows_itself c.args.servers.now.items, tt, refl)

pub returns-in_err-accept_room-clause-grown : goal.returns-in_err-accept_room-clause-grown
returns-in_err-accept_room-clause-grown c =
    let inside : c.servers.at < length c.servers.servers.items = omega (arith, c.servers-test.true, c.servers.invariant.2, c.len-at-end.ensures, c.args.servers.now.ok.0) in
    let there = at_place c.servers.servers.items c.servers.at c.index_mut.result.now inside c.index_mut.ensures.value in
    let grows : Grows 0 true c.index_mut.result.now c.accept_room.new.self =
    record { state = c.accept_room.ensures.state; code = c.accept_room.ensures.kept.0; options = c.accept_room.ensures.kept.1; no_less = c.accept_room.ensures.spare; room_made = λ e. omega arith } in
    grow_set c.args.servers.now.items c.servers.servers.items c.servers.at c.index_mut.result.now c.accept_room.new.self c.servers.invariant.0 there grows

pub servers-preserved : goal.servers-preserved
servers-preserved c =
    let inside : c.servers.at < length c.servers.servers.items = omega (arith, c.servers-test.true, c.servers.invariant.2, c.len-at-end.ensures, c.args.servers.now.ok.0) in
    let there = at_place c.servers.servers.items c.servers.at c.index_mut.result.now inside c.index_mut.ensures.value in
    let grows : Grows 0 true c.index_mut.result.now c.accept_room.new.self =
    record { state = c.accept_room.ensures.state; code = c.accept_room.ensures.kept.0; options = c.accept_room.ensures.kept.1; no_less = c.accept_room.ensures.spare; room_made = λ e. omega arith } in (
      grow_set c.args.servers.now.items c.servers.servers.items c.servers.at c.index_mut.result.now c.accept_room.new.self c.servers.invariant.0 there grows,
      room_set c.args.room c.servers.at c.servers.servers.items c.accept_room.new.self inside c.servers.invariant.1 c.in_ok-accept_room.ensures.room,
      length-set c.servers.servers.items c.servers.at c.accept_room.new.self ∙ c.servers.invariant.2,
    )
