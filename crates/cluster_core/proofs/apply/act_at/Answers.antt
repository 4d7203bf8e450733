use Rattle.std.proofs.Common.{◌<◌, true, length, slice_set, arith}
use Rattle.journal.specs.View.{EntryView}
use Rattle.cluster_core.specs.Rows.{Grows, HaveGrown}
use Rattle.cluster_core.specs.Applying.{Acts, Acted}
use Rattle.cluster_core.proofs.RowLemmas.{at_place}
use Rattle.cluster_core.proofs.RoomLemmas.{grow_set, grown_long}
use Rattle.cluster_core.proofs.ActingLemmas.{able_grown, acted, if_ok, if_err}
use Rattle.cluster_core.proofs.apply.act_at.Goals as goal

pub index_mut-requires : goal.index_mut-requires
index_mut-requires c = omega (arith, c.requires.within, grown_long c.args.servers.now.items c.make_ready.new.servers.items c.make_ready.ensures.grown, c.make_ready.new.servers.ok.0)

pub act_here-requires : goal.act_here-requires
act_here-requires c =
    let vs = c.args.servers.now.items in
    let gs = c.make_ready.new.servers.items in
    let inside : c.args.at < length gs = omega (arith, c.requires.within, grown_long vs gs c.make_ready.ensures.grown) in
    let there = at_place gs c.args.at c.index_mut.result.now inside c.index_mut.ensures.value in
    record { able = able_grown vs gs c.args.at c.index_mut.result.now c.args.what.now c.make_ready.ensures.grown there c.requires.able }

pub returns-clause-done : goal.returns-clause-done
returns-clause-done c =
    let n = c.args.at in
    let w = c.args.what.now in
    let vs = c.args.servers.now.items in
    let gs = c.make_ready.new.servers.items in
    let g = c.index_mut.result.now in
    let u = c.act_here.new.server in
    let grown = c.make_ready.ensures.grown in
    let inside : n < length gs = omega (arith, c.requires.within, grown_long vs gs grown) in
    let there = at_place gs n g inside c.index_mut.ensures.value in
    if_ok (λ (e : EntryView). Acts w e g u) (λ (e : EntryView). Acted n w e vs (slice_set gs n u)) c.act_here.result
    (λ e a. acted n w e vs gs g u grown c.in_ok-make_ready.ensures.room c.requires.numbered c.requires.sent there a) c.act_here.ensures.done

pub returns-clause-refused : goal.returns-clause-refused
returns-clause-refused c =
    let n = c.args.at in
    let vs = c.args.servers.now.items in
    let gs = c.make_ready.new.servers.items in
    let g = c.index_mut.result.now in
    let u = c.act_here.new.server in
    let grown = c.make_ready.ensures.grown in
    let inside : n < length gs = omega (arith, c.requires.within, grown_long vs gs grown) in
    let there = at_place gs n g inside c.index_mut.ensures.value in
    if_err (Grows 0 true g u) (HaveGrown vs (slice_set gs n u)) c.act_here.result (λ k. grow_set vs gs n g u grown there k) c.act_here.ensures.refused
