use Rattle.std.proofs.Common.{◌≡◌, ◌≤◌, ◌*◌, ◌-◌, ◌++◌, List, length, refl, sym, ap, subst, ◌∙◌, arith}
use Rattle.std.proofs.Math.ListN.{take, drop}
use Rattle.std.specs.Arc.{arc_value}
use Rattle.journal.specs.Journals.{NamesItsThread}
use Rattle.server_model.specs.Servers.{Cluster}
use Rattle.cluster_core.specs.Views.{states, code_in, options_in, events_in, AreServersOf}
use Rattle.law_runs_rounds.specs.rounds.UnderWay.{IsUnderWay}
use Rattle.drust_run.specs.Drives.{run_of}
use Rattle.drust_run.specs.Turns.{TakeTurns, CanTakeTurns}
use Rattle.drust_run.proofs.RoundLemmas.{written_back, turns_ready, turned}
use Rattle.drust_run.proofs.ClusterLemmas.{run_at, run_at_is, states_long, all_ready, HasWorked, has_worked, round_handed, counted_handed, ok_three}
use Rattle.drust_run.proofs.round.round_in_turn.Goals as goal

pub take_turns-requires-clause-as_many : goal.take_turns-requires-clause-as_many
take_turns-requires-clause-as_many g c =
    let vs = c.into_servers-checked.result.1.items in
    let gs = c.args.drive.choices.items in
    let long : length gs ≡ length vs = c.requires.way.generators ∙ ap (λ (k : Cluster). length k.servers) (sym c.into_servers-checked.ensures.servers) ∙ states_long vs in
    ap length c.deref_mut-2.ensures.value ∙ long ∙ ap length (sym c.deref_mut.ensures.value)

pub take_turns-requires-clause-ready : goal.take_turns-requires-clause-ready
take_turns-requires-clause-ready g c =
    let r = run_of c.args.drive in
    let vs = c.into_servers-checked.result.1.items in
    let gs = c.args.drive.choices.items in
    let journal = c.args.drive.journal.items in
    let p = arc_value c.into_servers-checked.result.0 in
    let is = run_at_is r vs c.into_servers-checked.ensures.servers in
    let way : IsUnderWay (run_at vs gs journal) = subst IsUnderWay is c.requires.way in
    let are : AreServersOf p vs = c.into_servers-checked.ensures.run in
    let long : length gs ≡ length vs = c.requires.way.generators ∙ ap (λ (k : Cluster). length k.servers) (sym c.into_servers-checked.ensures.servers) ∙ states_long vs in
    let ready : CanTakeTurns (length journal) vs gs =
    turns_ready (code_in vs) (options_in vs) (length journal) vs gs are.short long are.alike (all_ready vs gs journal c.requires.each c.rounds_go_on.ensures.servers way) in
    subst (λ l. CanTakeTurns (length journal) l c.deref_mut-2.result.now) (sym c.deref_mut.ensures.value) (subst (CanTakeTurns (length journal) vs) (sym c.deref_mut-2.ensures.value) ready)

pub handed-requires-clause-run : goal.handed-requires-clause-run
handed-requires-clause-run g c =
    let r = run_of c.args.drive in
    let vs = c.into_servers-checked.result.1.items in
    let gs = c.args.drive.choices.items in
    let journal = c.args.drive.journal.items in
    let p = arc_value c.into_servers-checked.result.0 in
    let is = run_at_is r vs c.into_servers-checked.ensures.servers in
    let way : IsUnderWay (run_at vs gs journal) = subst IsUnderWay is c.requires.way in
    let are : AreServersOf p vs = c.into_servers-checked.ensures.run in
    let counted : events_in (states vs) ≡ length journal = ap (λ (k : Cluster). events_in k.servers) c.into_servers-checked.ensures.servers ∙ c.requires.counted in
    let us = c.take_turns.new.servers in
    let hs = c.take_turns.new.choices in
    let after = c.take_turns.new.journal.items in
    let turns : TakeTurns journal vs gs us hs after =
    subst (λ l. TakeTurns journal l gs us hs after) c.deref_mut.ensures.value (subst (λ l. TakeTurns journal c.deref_mut.result.now l us hs after) c.deref_mut-2.ensures.value c.in_ok-most.ensures) in
    let t = turned (code_in vs) (options_in vs) journal vs us gs hs after are.alike turns in
    let worked : HasWorked p vs us gs hs journal after = has_worked p vs us gs hs journal t.entries after way are counted t.round t.behind in
    let back = written_back c.into_servers-checked.result.1.len us (drop (length us) vs) (c.take_turns.auto.servers ∙ c.deref_mut.ensures.len) in
    subst (AreServersOf p) (sym back) worked.run

pub handed-requires-clause-few : goal.handed-requires-clause-few
handed-requires-clause-few g c =
    let r = run_of c.args.drive in
    let vs = c.into_servers-checked.result.1.items in
    let gs = c.args.drive.choices.items in
    let journal = c.args.drive.journal.items in
    let p = arc_value c.into_servers-checked.result.0 in
    let is = run_at_is r vs c.into_servers-checked.ensures.servers in
    let way : IsUnderWay (run_at vs gs journal) = subst IsUnderWay is c.requires.way in
    let are : AreServersOf p vs = c.into_servers-checked.ensures.run in
    let counted : events_in (states vs) ≡ length journal = ap (λ (k : Cluster). events_in k.servers) c.into_servers-checked.ensures.servers ∙ c.requires.counted in
    let us = c.take_turns.new.servers in
    let hs = c.take_turns.new.choices in
    let after = c.take_turns.new.journal.items in
    let turns : TakeTurns journal vs gs us hs after =
    subst (λ l. TakeTurns journal l gs us hs after) c.deref_mut.ensures.value (subst (λ l. TakeTurns journal c.deref_mut.result.now l us hs after) c.deref_mut-2.ensures.value c.in_ok-most.ensures) in
    let t = turned (code_in vs) (options_in vs) journal vs us gs hs after are.alike turns in
    let worked : HasWorked p vs us gs hs journal after = has_worked p vs us gs hs journal t.entries after way are counted t.round t.behind in
    let back = written_back c.into_servers-checked.result.1.len us (drop (length us) vs) (c.take_turns.auto.servers ∙ c.deref_mut.ensures.len) in
    subst (λ l. events_in (states l) ≤ 1000000000) (sym back) worked.few

pub returns-clause-round : goal.returns-clause-round
returns-clause-round g c =
    let r = run_of c.args.drive in
    let vs = c.into_servers-checked.result.1.items in
    let gs = c.args.drive.choices.items in
    let journal = c.args.drive.journal.items in
    let p = arc_value c.into_servers-checked.result.0 in
    let is = run_at_is r vs c.into_servers-checked.ensures.servers in
    let way : IsUnderWay (run_at vs gs journal) = subst IsUnderWay is c.requires.way in
    let are : AreServersOf p vs = c.into_servers-checked.ensures.run in
    let counted : events_in (states vs) ≡ length journal = ap (λ (k : Cluster). events_in k.servers) c.into_servers-checked.ensures.servers ∙ c.requires.counted in
    let us = c.take_turns.new.servers in
    let hs = c.take_turns.new.choices in
    let after = c.take_turns.new.journal.items in
    let turns : TakeTurns journal vs gs us hs after =
    subst (λ l. TakeTurns journal l gs us hs after) c.deref_mut.ensures.value (subst (λ l. TakeTurns journal c.deref_mut.result.now l us hs after) c.deref_mut-2.ensures.value c.in_ok-most.ensures) in
    let t = turned (code_in vs) (options_in vs) journal vs us gs hs after are.alike turns in
    let worked : HasWorked p vs us gs hs journal after = has_worked p vs us gs hs journal t.entries after way are counted t.round t.behind in
    let back = written_back c.into_servers-checked.result.1.len us (drop (length us) vs) (c.take_turns.auto.servers ∙ c.deref_mut.ensures.len) in
    let drawn = written_back c.args.drive.choices.len hs (drop (length hs) gs) (c.take_turns.auto.choices ∙ c.deref_mut-2.ensures.len) in
    ok_three c.handed.result (λ d state choices entries. round_handed p r vs us _ gs hs d.choices.items journal after d.journal.items d.cluster.state is worked state back (choices ∙ drawn) entries)
    c.handed.ensures.cluster c.handed.ensures.choices c.handed.ensures.journal

pub returns-clause-counted : goal.returns-clause-counted
returns-clause-counted g c =
    let r = run_of c.args.drive in
    let vs = c.into_servers-checked.result.1.items in
    let gs = c.args.drive.choices.items in
    let journal = c.args.drive.journal.items in
    let p = arc_value c.into_servers-checked.result.0 in
    let is = run_at_is r vs c.into_servers-checked.ensures.servers in
    let way : IsUnderWay (run_at vs gs journal) = subst IsUnderWay is c.requires.way in
    let are : AreServersOf p vs = c.into_servers-checked.ensures.run in
    let counted : events_in (states vs) ≡ length journal = ap (λ (k : Cluster). events_in k.servers) c.into_servers-checked.ensures.servers ∙ c.requires.counted in
    let us = c.take_turns.new.servers in
    let hs = c.take_turns.new.choices in
    let after = c.take_turns.new.journal.items in
    let turns : TakeTurns journal vs gs us hs after =
    subst (λ l. TakeTurns journal l gs us hs after) c.deref_mut.ensures.value (subst (λ l. TakeTurns journal c.deref_mut.result.now l us hs after) c.deref_mut-2.ensures.value c.in_ok-most.ensures) in
    let t = turned (code_in vs) (options_in vs) journal vs us gs hs after are.alike turns in
    let worked : HasWorked p vs us gs hs journal after = has_worked p vs us gs hs journal t.entries after way are counted t.round t.behind in
    let back = written_back c.into_servers-checked.result.1.len us (drop (length us) vs) (c.take_turns.auto.servers ∙ c.deref_mut.ensures.len) in
    ok_three c.handed.result (λ d state choices entries. counted_handed p vs us _ gs hs journal after d.journal.items d.cluster.state worked state back entries)
    c.handed.ensures.cluster c.handed.ensures.choices c.handed.ensures.journal
