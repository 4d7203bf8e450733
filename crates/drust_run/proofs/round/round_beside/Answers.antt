use Rattle.std.proofs.Common.{◌≡◌, ◌≤◌, ◌*◌, ◌-◌, ◌++◌, List, length, refl, sym, ap, subst, ◌∙◌, arith}
use Rattle.std.proofs.Math.ListN.{take, drop}
use Rattle.std.specs.Arc.{arc_value}
use Rattle.std.specs.List.{AllByRecursion}
use Rattle.journal.specs.Journals.{NamesItsThread}
use Rattle.server_model.specs.Servers.{Cluster}
use Rattle.cluster_core.specs.Views.{states, code_in, options_in, events_in, AreServersOf}
use Rattle.law_runs_rounds.specs.rounds.UnderWay.{IsUnderWay}
use Rattle.drust_run.specs.Drives.{run_of}
use Rattle.fr_base.specs.declared.settings.Options.{Options}
use Rattle.drust_run.specs.Desks.{EachIsReady, WorkEach, NoneLacks, servers_at, choices_at, entries_at}
use Rattle.drust_run.proofs.RoundLemmas.{written_back, for_each, for_each_is, each_ready, side_by_side}
use Rattle.drust_run.proofs.ClusterLemmas.{run_at, run_named, states_long, all_ready, HasWorked, has_worked, round_handed, counted_handed, ok_three}
use Rattle.drust_run.proofs.round.round_beside.Goals as goal

pub seat-requires-clause-as_many : goal.seat-requires-clause-as_many
seat-requires-clause-as_many g c =
    let vs = c.into_servers-checked.result.1.items in
    c.requires.way.generators ∙ ap (λ (k : Cluster). length k.servers) (sym c.into_servers-checked.ensures.servers) ∙ states_long vs

pub at_work-requires-clause-ready : goal.at_work-requires-clause-ready
at_work-requires-clause-ready g c κs within =
    let r = run_of c.args.drive in
    let ds = c.in_ok-desks.desks.items in
    let journal = c.args.drive.journal.items in
    let p = arc_value c.into_servers-checked.result.0 in
    let o = options_in (servers_at ds) in
    let code = code_in (servers_at ds) in
    let left = o.turns - length journal in
    let is = run_named r c.into_servers-checked.result.1.items (servers_at ds) (choices_at ds) c.into_servers-checked.ensures.servers c.in_ok-desks.ensures.servers c.in_ok-desks.ensures.choices in
    let way : IsUnderWay (run_at (servers_at ds) (choices_at ds) journal) = subst IsUnderWay is c.requires.way in
    let are : AreServersOf p (servers_at ds) = subst (AreServersOf p) (sym c.in_ok-desks.ensures.servers) c.into_servers-checked.ensures.run in
    let options : c.args.drive.cluster.state.options ≡ o = ap (λ (k : Cluster). k.options) (sym c.into_servers-checked.ensures.servers) ∙ ap options_in (sym c.in_ok-desks.ensures.servers) in
    let all : o.servers * o.quantum ≤ left = subst (λ (q : Options). q.servers * q.quantum ≤ q.turns - length journal) options c.requires.enough in
    let enough : for_each o.quantum ds ≤ left = omega (arith, for_each_is o.quantum ds, ap (λ n. n * o.quantum) are.count, all) in
    let quantum : c.options.result.now.quantum ≡ o.quantum = ap (λ (q : Options). q.quantum) (c.options.ensures ∙ options) in
    let ready : EachIsReady o.quantum ds =
    each_ready code o left ds are.short are.alike c.in_ok-desks.ensures.fresh enough (all_ready (servers_at ds) (choices_at ds) journal c.requires.each c.rounds_go_on.ensures.servers way) in
    subst (EachIsReady c.options.result.now.quantum) (sym c.deref_mut.ensures.value) (subst (λ q. EachIsReady q ds) (sym quantum) ready)

pub handed-requires-clause-run : goal.handed-requires-clause-run
handed-requires-clause-run g c =
    let r = run_of c.args.drive in
    let ds = c.in_ok-desks.desks.items in
    let journal = c.args.drive.journal.items in
    let p = arc_value c.into_servers-checked.result.0 in
    let o = options_in (servers_at ds) in
    let code = code_in (servers_at ds) in
    let left = o.turns - length journal in
    let is = run_named r c.into_servers-checked.result.1.items (servers_at ds) (choices_at ds) c.into_servers-checked.ensures.servers c.in_ok-desks.ensures.servers c.in_ok-desks.ensures.choices in
    let way : IsUnderWay (run_at (servers_at ds) (choices_at ds) journal) = subst IsUnderWay is c.requires.way in
    let are : AreServersOf p (servers_at ds) = subst (AreServersOf p) (sym c.in_ok-desks.ensures.servers) c.into_servers-checked.ensures.run in
    let options : c.args.drive.cluster.state.options ≡ o = ap (λ (k : Cluster). k.options) (sym c.into_servers-checked.ensures.servers) ∙ ap options_in (sym c.in_ok-desks.ensures.servers) in
    let all : o.servers * o.quantum ≤ left = subst (λ (q : Options). q.servers * q.quantum ≤ q.turns - length journal) options c.requires.enough in
    let enough : for_each o.quantum ds ≤ left = omega (arith, for_each_is o.quantum ds, ap (λ n. n * o.quantum) are.count, all) in
    let quantum : c.options.result.now.quantum ≡ o.quantum = ap (λ (q : Options). q.quantum) (c.options.ensures ∙ options) in
    let counted : events_in (states (servers_at ds)) ≡ length journal =
    ap (λ l. events_in (states l)) c.in_ok-desks.ensures.servers ∙ ap (λ (k : Cluster). events_in k.servers) c.into_servers-checked.ensures.servers ∙ c.requires.counted in
    let es = c.at_work.new.desks in
    let back = written_back c.in_ok-desks.desks.len es (drop (length es) ds) (c.at_work.auto.desks ∙ c.deref_mut.ensures.len) in
    let works : WorkEach o.quantum ds es = subst (λ q. WorkEach q ds es) quantum (subst (λ l. WorkEach c.options.result.now.quantum l es) c.deref_mut.ensures.value c.at_work.ensures) in
    let none : NoneLacks es = subst NoneLacks back (subst NoneLacks c.deref.ensures.value (c.none_lacks.ensures c.if-not-none_lacks.false)) in
    let rnd = side_by_side code o left ds es are.alike enough works none in
    let worked : HasWorked p (servers_at ds) (servers_at es) (choices_at ds) (choices_at es) journal (journal ++ entries_at es) =
    has_worked p (servers_at ds) (servers_at es) (choices_at ds) (choices_at es) journal (entries_at es) (journal ++ entries_at es) way are counted rnd refl in
    let risen = c.in_ok-servers.ensures.servers ∙ ap servers_at back in
    subst (AreServersOf p) (sym risen) worked.run

pub handed-requires-clause-few : goal.handed-requires-clause-few
handed-requires-clause-few g c =
    let r = run_of c.args.drive in
    let ds = c.in_ok-desks.desks.items in
    let journal = c.args.drive.journal.items in
    let p = arc_value c.into_servers-checked.result.0 in
    let o = options_in (servers_at ds) in
    let code = code_in (servers_at ds) in
    let left = o.turns - length journal in
    let is = run_named r c.into_servers-checked.result.1.items (servers_at ds) (choices_at ds) c.into_servers-checked.ensures.servers c.in_ok-desks.ensures.servers c.in_ok-desks.ensures.choices in
    let way : IsUnderWay (run_at (servers_at ds) (choices_at ds) journal) = subst IsUnderWay is c.requires.way in
    let are : AreServersOf p (servers_at ds) = subst (AreServersOf p) (sym c.in_ok-desks.ensures.servers) c.into_servers-checked.ensures.run in
    let options : c.args.drive.cluster.state.options ≡ o = ap (λ (k : Cluster). k.options) (sym c.into_servers-checked.ensures.servers) ∙ ap options_in (sym c.in_ok-desks.ensures.servers) in
    let all : o.servers * o.quantum ≤ left = subst (λ (q : Options). q.servers * q.quantum ≤ q.turns - length journal) options c.requires.enough in
    let enough : for_each o.quantum ds ≤ left = omega (arith, for_each_is o.quantum ds, ap (λ n. n * o.quantum) are.count, all) in
    let quantum : c.options.result.now.quantum ≡ o.quantum = ap (λ (q : Options). q.quantum) (c.options.ensures ∙ options) in
    let counted : events_in (states (servers_at ds)) ≡ length journal =
    ap (λ l. events_in (states l)) c.in_ok-desks.ensures.servers ∙ ap (λ (k : Cluster). events_in k.servers) c.into_servers-checked.ensures.servers ∙ c.requires.counted in
    let es = c.at_work.new.desks in
    let back = written_back c.in_ok-desks.desks.len es (drop (length es) ds) (c.at_work.auto.desks ∙ c.deref_mut.ensures.len) in
    let works : WorkEach o.quantum ds es = subst (λ q. WorkEach q ds es) quantum (subst (λ l. WorkEach c.options.result.now.quantum l es) c.deref_mut.ensures.value c.at_work.ensures) in
    let none : NoneLacks es = subst NoneLacks back (subst NoneLacks c.deref.ensures.value (c.none_lacks.ensures c.if-not-none_lacks.false)) in
    let rnd = side_by_side code o left ds es are.alike enough works none in
    let worked : HasWorked p (servers_at ds) (servers_at es) (choices_at ds) (choices_at es) journal (journal ++ entries_at es) =
    has_worked p (servers_at ds) (servers_at es) (choices_at ds) (choices_at es) journal (entries_at es) (journal ++ entries_at es) way are counted rnd refl in
    let risen = c.in_ok-servers.ensures.servers ∙ ap servers_at back in
    subst (λ l. events_in (states l) ≤ 1000000000) (sym risen) worked.few

pub returns-clause-round : goal.returns-clause-round
returns-clause-round g c =
    let r = run_of c.args.drive in
    let ds = c.in_ok-desks.desks.items in
    let journal = c.args.drive.journal.items in
    let p = arc_value c.into_servers-checked.result.0 in
    let o = options_in (servers_at ds) in
    let code = code_in (servers_at ds) in
    let left = o.turns - length journal in
    let is = run_named r c.into_servers-checked.result.1.items (servers_at ds) (choices_at ds) c.into_servers-checked.ensures.servers c.in_ok-desks.ensures.servers c.in_ok-desks.ensures.choices in
    let way : IsUnderWay (run_at (servers_at ds) (choices_at ds) journal) = subst IsUnderWay is c.requires.way in
    let are : AreServersOf p (servers_at ds) = subst (AreServersOf p) (sym c.in_ok-desks.ensures.servers) c.into_servers-checked.ensures.run in
    let options : c.args.drive.cluster.state.options ≡ o = ap (λ (k : Cluster). k.options) (sym c.into_servers-checked.ensures.servers) ∙ ap options_in (sym c.in_ok-desks.ensures.servers) in
    let all : o.servers * o.quantum ≤ left = subst (λ (q : Options). q.servers * q.quantum ≤ q.turns - length journal) options c.requires.enough in
    let enough : for_each o.quantum ds ≤ left = omega (arith, for_each_is o.quantum ds, ap (λ n. n * o.quantum) are.count, all) in
    let quantum : c.options.result.now.quantum ≡ o.quantum = ap (λ (q : Options). q.quantum) (c.options.ensures ∙ options) in
    let counted : events_in (states (servers_at ds)) ≡ length journal =
    ap (λ l. events_in (states l)) c.in_ok-desks.ensures.servers ∙ ap (λ (k : Cluster). events_in k.servers) c.into_servers-checked.ensures.servers ∙ c.requires.counted in
    let es = c.at_work.new.desks in
    let back = written_back c.in_ok-desks.desks.len es (drop (length es) ds) (c.at_work.auto.desks ∙ c.deref_mut.ensures.len) in
    let works : WorkEach o.quantum ds es = subst (λ q. WorkEach q ds es) quantum (subst (λ l. WorkEach c.options.result.now.quantum l es) c.deref_mut.ensures.value c.at_work.ensures) in
    let none : NoneLacks es = subst NoneLacks back (subst NoneLacks c.deref.ensures.value (c.none_lacks.ensures c.if-not-none_lacks.false)) in
    let rnd = side_by_side code o left ds es are.alike enough works none in
    let worked : HasWorked p (servers_at ds) (servers_at es) (choices_at ds) (choices_at es) journal (journal ++ entries_at es) =
    has_worked p (servers_at ds) (servers_at es) (choices_at ds) (choices_at es) journal (entries_at es) (journal ++ entries_at es) way are counted rnd refl in
    let risen = c.in_ok-servers.ensures.servers ∙ ap servers_at back in
    ok_three c.handed.result (λ d state choices entries. round_handed p r (servers_at ds) (servers_at es) _ (choices_at ds) (choices_at es) d.choices.items journal (journal ++ entries_at es) d.journal.items d.cluster.state is worked state risen (choices ∙ c.in_ok-servers.ensures.choices ∙ ap choices_at back) (entries ∙ c.in_ok-servers.ensures.journal ∙ ap (λ l. journal ++ entries_at l) back))
    c.handed.ensures.cluster c.handed.ensures.choices c.handed.ensures.journal

pub returns-clause-counted : goal.returns-clause-counted
returns-clause-counted g c =
    let r = run_of c.args.drive in
    let ds = c.in_ok-desks.desks.items in
    let journal = c.args.drive.journal.items in
    let p = arc_value c.into_servers-checked.result.0 in
    let o = options_in (servers_at ds) in
    let code = code_in (servers_at ds) in
    let left = o.turns - length journal in
    let is = run_named r c.into_servers-checked.result.1.items (servers_at ds) (choices_at ds) c.into_servers-checked.ensures.servers c.in_ok-desks.ensures.servers c.in_ok-desks.ensures.choices in
    let way : IsUnderWay (run_at (servers_at ds) (choices_at ds) journal) = subst IsUnderWay is c.requires.way in
    let are : AreServersOf p (servers_at ds) = subst (AreServersOf p) (sym c.in_ok-desks.ensures.servers) c.into_servers-checked.ensures.run in
    let options : c.args.drive.cluster.state.options ≡ o = ap (λ (k : Cluster). k.options) (sym c.into_servers-checked.ensures.servers) ∙ ap options_in (sym c.in_ok-desks.ensures.servers) in
    let all : o.servers * o.quantum ≤ left = subst (λ (q : Options). q.servers * q.quantum ≤ q.turns - length journal) options c.requires.enough in
    let enough : for_each o.quantum ds ≤ left = omega (arith, for_each_is o.quantum ds, ap (λ n. n * o.quantum) are.count, all) in
    let quantum : c.options.result.now.quantum ≡ o.quantum = ap (λ (q : Options). q.quantum) (c.options.ensures ∙ options) in
    let counted : events_in (states (servers_at ds)) ≡ length journal =
    ap (λ l. events_in (states l)) c.in_ok-desks.ensures.servers ∙ ap (λ (k : Cluster). events_in k.servers) c.into_servers-checked.ensures.servers ∙ c.requires.counted in
    let es = c.at_work.new.desks in
    let back = written_back c.in_ok-desks.desks.len es (drop (length es) ds) (c.at_work.auto.desks ∙ c.deref_mut.ensures.len) in
    let works : WorkEach o.quantum ds es = subst (λ q. WorkEach q ds es) quantum (subst (λ l. WorkEach c.options.result.now.quantum l es) c.deref_mut.ensures.value c.at_work.ensures) in
    let none : NoneLacks es = subst NoneLacks back (subst NoneLacks c.deref.ensures.value (c.none_lacks.ensures c.if-not-none_lacks.false)) in
    let rnd = side_by_side code o left ds es are.alike enough works none in
    let worked : HasWorked p (servers_at ds) (servers_at es) (choices_at ds) (choices_at es) journal (journal ++ entries_at es) =
    has_worked p (servers_at ds) (servers_at es) (choices_at ds) (choices_at es) journal (entries_at es) (journal ++ entries_at es) way are counted rnd refl in
    let risen = c.in_ok-servers.ensures.servers ∙ ap servers_at back in
    ok_three c.handed.result (λ d state choices entries. counted_handed p (servers_at ds) (servers_at es) _ (choices_at ds) (choices_at es) journal (journal ++ entries_at es) d.journal.items d.cluster.state worked state risen (entries ∙ c.in_ok-servers.ensures.journal ∙ ap (λ l. journal ++ entries_at l) back))
    c.handed.ensures.cluster c.handed.ensures.choices c.handed.ensures.journal
