use Rattle.std.proofs.Common.{◌≡◌, length, refl, sym, ap, ◌∙◌, arith}
use Rattle.std.specs.Arc.{arc_value}
use Rattle.server_model.specs.Servers.{Cluster}
use Rattle.server_model.specs.Clusters.{hand_over}
use Rattle.drive_model.specs.Balance.{loads}
use Rattle.cluster_core.specs.Views.{states, events_in, cluster_of, AreServersOf}
use Rattle.drust_run.specs.Drives.{run_of}
use Rattle.drust_run.proofs.ClusterLemmas.{states_long, handed_counts, run_by}
use Rattle.drust_run.proofs.MoveLemmas.{loads_long}
use Rattle.drust_run.proofs.ShiftLemmas.{is_move, has_shifted}
use Rattle.drust_run.proofs.balance.shift.Goals as goal

pub move_of-requires : goal.move_of-requires
move_of-requires c =
    let vs = c.into_servers-checked.result.1.items in
    let taken : c.deref-2.result.now ≡ loads (states vs) = c.deref-2.ensures.value ∙ c.in_ok-loads.ensures ∙ ap (λ l. loads (states l)) c.deref.ensures.value in
    let are : AreServersOf _ vs = c.into_servers-checked.ensures.run in
    record { few = omega (arith, ap length taken, loads_long (states vs), states_long vs, are.few) }

pub act_at-requires-clause-within : goal.act_at-requires-clause-within
act_at-requires-clause-within c =
    let r = run_of c.args.drive in
    let vs = c.into_servers-checked.result.1.items in
    let p = arc_value c.into_servers-checked.result.0 in
    let is = c.into_servers-checked.ensures.servers in
    let taken : c.deref-2.result.now ≡ loads r.cluster.servers =
    c.deref-2.ensures.value ∙ c.in_ok-loads.ensures ∙ ap (λ l. loads (states l)) c.deref.ensures.value ∙ ap (λ (k : Cluster). loads k.servers) is in
    let m = is_move p r vs c.args.number c.deref-2.result.now c.in-Some.source c.in-Some.what c.requires.each c.rounds_go_on.ensures.moves c.requires.way c.requires.due c.into_servers-checked.ensures.run is taken c.in-Some.ensures in
    m.within

pub act_at-requires-clause-able : goal.act_at-requires-clause-able
act_at-requires-clause-able c =
    let r = run_of c.args.drive in
    let vs = c.into_servers-checked.result.1.items in
    let p = arc_value c.into_servers-checked.result.0 in
    let is = c.into_servers-checked.ensures.servers in
    let taken : c.deref-2.result.now ≡ loads r.cluster.servers =
    c.deref-2.ensures.value ∙ c.in_ok-loads.ensures ∙ ap (λ l. loads (states l)) c.deref.ensures.value ∙ ap (λ (k : Cluster). loads k.servers) is in
    let m = is_move p r vs c.args.number c.deref-2.result.now c.in-Some.source c.in-Some.what c.requires.each c.rounds_go_on.ensures.moves c.requires.way c.requires.due c.into_servers-checked.ensures.run is taken c.in-Some.ensures in
    m.able

pub from_servers-cluster-requires-clause-run : goal.from_servers-cluster-requires-clause-run
from_servers-cluster-requires-clause-run c =
    let r = run_of c.args.drive in
    let vs = c.into_servers-checked.result.1.items in
    let p = arc_value c.into_servers-checked.result.0 in
    let is = c.into_servers-checked.ensures.servers in
    let taken : c.deref-2.result.now ≡ loads r.cluster.servers =
    c.deref-2.ensures.value ∙ c.in_ok-loads.ensures ∙ ap (λ l. loads (states l)) c.deref.ensures.value ∙ ap (λ (k : Cluster). loads k.servers) is in
    let m = is_move p r vs c.args.number c.deref-2.result.now c.in-Some.source c.in-Some.what c.requires.each c.rounds_go_on.ensures.moves c.requires.way c.requires.due c.into_servers-checked.ensures.run is taken c.in-Some.ensures in
    let e = c.in_ok-act_at.field-0 in
    let us = c.act_at.new.servers.items in
    let all = has_shifted p r vs us c.args.number c.in-Some.source c.in-Some.what e m c.requires.way c.requires.due c.into_servers-checked.ensures.run is c.requires.counted c.in_ok-act_at.ensures in
    all.run

pub from_servers-cluster-requires-clause-few : goal.from_servers-cluster-requires-clause-few
from_servers-cluster-requires-clause-few c =
    let r = run_of c.args.drive in
    let vs = c.into_servers-checked.result.1.items in
    let p = arc_value c.into_servers-checked.result.0 in
    let is = c.into_servers-checked.ensures.servers in
    let taken : c.deref-2.result.now ≡ loads r.cluster.servers =
    c.deref-2.ensures.value ∙ c.in_ok-loads.ensures ∙ ap (λ l. loads (states l)) c.deref.ensures.value ∙ ap (λ (k : Cluster). loads k.servers) is in
    let m = is_move p r vs c.args.number c.deref-2.result.now c.in-Some.source c.in-Some.what c.requires.each c.rounds_go_on.ensures.moves c.requires.way c.requires.due c.into_servers-checked.ensures.run is taken c.in-Some.ensures in
    let e = c.in_ok-act_at.field-0 in
    let us = c.act_at.new.servers.items in
    let all = has_shifted p r vs us c.args.number c.in-Some.source c.in-Some.what e m c.requires.way c.requires.due c.into_servers-checked.ensures.run is c.requires.counted c.in_ok-act_at.ensures in
    all.few

pub returns-clause-shifted : goal.returns-clause-shifted
returns-clause-shifted c =
    let r = run_of c.args.drive in
    let vs = c.into_servers-checked.result.1.items in
    let p = arc_value c.into_servers-checked.result.0 in
    let is = c.into_servers-checked.ensures.servers in
    let taken : c.deref-2.result.now ≡ loads r.cluster.servers =
    c.deref-2.ensures.value ∙ c.in_ok-loads.ensures ∙ ap (λ l. loads (states l)) c.deref.ensures.value ∙ ap (λ (k : Cluster). loads k.servers) is in
    let m = is_move p r vs c.args.number c.deref-2.result.now c.in-Some.source c.in-Some.what c.requires.each c.rounds_go_on.ensures.moves c.requires.way c.requires.due c.into_servers-checked.ensures.run is taken c.in-Some.ensures in
    let e = c.in_ok-act_at.field-0 in
    let us = c.act_at.new.servers.items in
    let all = has_shifted p r vs us c.args.number c.in-Some.source c.in-Some.what e m c.requires.way c.requires.due c.into_servers-checked.ensures.run is c.requires.counted c.in_ok-act_at.ensures in
    let state : c.hand_over.new.self.state ≡ hand_over (cluster_of us) = c.in_ok-hand_over.ensures.handed ∙ ap hand_over c.from_servers-cluster.ensures.state in
    all.shifted ∙ run_by _ _ _ _ _ _ (sym state) refl (sym c.in_ok-push.ensures.pushed)

pub returns-clause-counted : goal.returns-clause-counted
returns-clause-counted c =
    let r = run_of c.args.drive in
    let vs = c.into_servers-checked.result.1.items in
    let p = arc_value c.into_servers-checked.result.0 in
    let is = c.into_servers-checked.ensures.servers in
    let taken : c.deref-2.result.now ≡ loads r.cluster.servers =
    c.deref-2.ensures.value ∙ c.in_ok-loads.ensures ∙ ap (λ l. loads (states l)) c.deref.ensures.value ∙ ap (λ (k : Cluster). loads k.servers) is in
    let m = is_move p r vs c.args.number c.deref-2.result.now c.in-Some.source c.in-Some.what c.requires.each c.rounds_go_on.ensures.moves c.requires.way c.requires.due c.into_servers-checked.ensures.run is taken c.in-Some.ensures in
    let e = c.in_ok-act_at.field-0 in
    let us = c.act_at.new.servers.items in
    let all = has_shifted p r vs us c.args.number c.in-Some.source c.in-Some.what e m c.requires.way c.requires.due c.into_servers-checked.ensures.run is c.requires.counted c.in_ok-act_at.ensures in
    let state : c.hand_over.new.self.state ≡ hand_over (cluster_of us) = c.in_ok-hand_over.ensures.handed ∙ ap hand_over c.from_servers-cluster.ensures.state in
    ap (λ (k : Cluster). events_in k.servers) state ∙ handed_counts (cluster_of us) ∙ all.counted ∙ ap length (sym c.in_ok-push.ensures.pushed)
