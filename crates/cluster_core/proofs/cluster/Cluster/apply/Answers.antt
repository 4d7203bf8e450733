use Rattle.std.proofs.Common.{◌≡◌, ◌<◌, true, false, slice_get, sym, ap, subst, ◌∙◌, arith}
use Rattle.std.specs.Arc.{arc_value}
use Rattle.coherent_types.specs.ClusterTypes.{IsCoherent}
use Rattle.journal.specs.View.{EntryView}
use Rattle.server_model.specs.Servers.{Cluster}
use Rattle.server_model.specs.Clusters.{apply}
use Rattle.law_counts_sums.proofs.Results.{given_by}
use Rattle.law_counts_limits.proofs.limits.Counts.{few_are_few}
use Rattle.cluster_core.specs.Views.{ClusterView, AreServersOf, cluster_of, states, events_in}
use Rattle.cluster_core.specs.Handing.{NoneSent}
use Rattle.cluster_core.specs.Enabled.{is_enabled}
use Rattle.cluster_core.specs.Applying.{can_do}
use Rattle.cluster_core.proofs.RoomLemmas.{grown_states, grown_run}
use Rattle.cluster_core.proofs.RunLemmas.{goes_on, cluster_with}
use Rattle.cluster_core.proofs.ReadyLemmas.{room_grown}
use Rattle.cluster_core.proofs.DefinedLemmas.{enabled_same, is_there, applied_is, able}
use Rattle.cluster_core.proofs.cluster.Cluster.apply.Goals as goal

pub returns-then-not-can_do-clause-memory : goal.returns-then-not-can_do-clause-memory
returns-then-not-can_do-clause-memory c = λ e.
    let vs = c.self.inside.servers.items in
    let are : AreServersOf (arc_value c.self.inside.checked) vs = c.self.invariant.0 in
    let state : cluster_of vs ≡ c.args.self.now.state = ap (λ (v : ClusterView). v.state) c.self.view_is in
    let test : c.can_do.result ≡ can_do c.args.event.what (slice_get vs c.args.event.server) = c.can_do.ensures ∙ ap (λ l. can_do c.args.event.what (slice_get l c.args.event.server)) c.deref.ensures.value in
    let same : c.can_do.result ≡ is_enabled c.args.self.now.state c.args.event =
    test ∙ enabled_same (arc_value c.self.inside.checked) vs c.args.event.server c.args.event.what are ∙ ap (λ k. is_enabled k c.args.event) state in
    let bad : false ≡ true = sym c.if-not-can_do.true ∙ same ∙ e in
    absurd (cc bad)

pub apply_at-requires-clause-within : goal.apply_at-requires-clause-within
apply_at-requires-clause-within c =
    let vs = c.self.inside.servers.items in
    let test : c.can_do.result ≡ can_do c.args.event.what (slice_get vs c.args.event.server) = c.can_do.ensures ∙ ap (λ l. can_do c.args.event.what (slice_get l c.args.event.server)) c.deref.ensures.value in
    is_there vs c.args.event.server c.args.event.what (sym test ∙ c.if-not-can_do.false)

pub apply_at-requires-clause-able : goal.apply_at-requires-clause-able
apply_at-requires-clause-able c =
    let vs = c.self.inside.servers.items in
    let are : AreServersOf (arc_value c.self.inside.checked) vs = c.self.invariant.0 in
    let state : cluster_of vs ≡ c.args.self.now.state = ap (λ (v : ClusterView). v.state) c.self.view_is in
    let test : c.can_do.result ≡ can_do c.args.event.what (slice_get vs c.args.event.server) = c.can_do.ensures ∙ ap (λ l. can_do c.args.event.what (slice_get l c.args.event.server)) c.deref.ensures.value in
    let on = c.if-not-can_do.false in
    let few : events_in (states vs) < 1000000000 = subst (λ k. events_in k.servers < 1000000000) (sym state) c.requires.few in
    able (arc_value c.self.inside.checked) vs c.args.event.server c.args.event.what are (subst IsCoherent (sym state) c.requires.coherent) few (sym test ∙ on)

pub invariant_of-self : goal.invariant_of-self
invariant_of-self c =
    let vs = c.self.inside.servers.items in
    let ws = c.apply_at.new.servers.items in
    let state : cluster_of vs ≡ c.args.self.now.state = ap (λ (v : ClusterView). v.state) c.self.view_is in
    let few : events_in (states vs) < 1000000000 = subst (λ k. events_in k.servers < 1000000000) (sym state) c.requires.few in
    let a = c.in-Ok.ensures.done in
    (goes_on (arc_value c.self.inside.checked) vs ws a.run c.self.invariant.0, omega (arith, few, a.events), c.in-Ok.ensures.ready)

pub invariant_of-self-in-Err : goal.invariant_of-self-in-Err
invariant_of-self-in-Err c =
    let vs = c.self.inside.servers.items in
    let ws = c.apply_at.new.servers.items in
    let grown = c.in-Err.ensures.refused in
    (goes_on (arc_value c.self.inside.checked) vs ws (grown_run vs ws grown) c.self.invariant.0, omega (arith, c.self.invariant.1, ap events_in (grown_states vs ws grown)), λ e. room_grown 2 vs ws grown (c.self.invariant.2 e))

pub returns-in-Ok-clause-applied : goal.returns-in-Ok-clause-applied
returns-in-Ok-clause-applied c =
    let vs = c.self.inside.servers.items in
    let ws = c.apply_at.new.servers.items in
    let are : AreServersOf (arc_value c.self.inside.checked) vs = c.self.invariant.0 in
    let state : cluster_of vs ≡ c.args.self.now.state = ap (λ (v : ClusterView). v.state) c.self.view_is in
    let test : c.can_do.result ≡ can_do c.args.event.what (slice_get vs c.args.event.server) = c.can_do.ensures ∙ ap (λ l. can_do c.args.event.what (slice_get l c.args.event.server)) c.deref.ensures.value in
    let on = sym test ∙ c.if-not-can_do.false in
    let none : NoneSent (states vs) = subst (λ k. NoneSent k.servers) (sym state) c.requires.sent in
    ap (λ k. apply k c.args.event) (sym state) ∙ applied_is (arc_value c.self.inside.checked) vs ws c.args.event.server c.args.event.what c.in-Ok.entry are none on c.in-Ok.ensures.done

pub returns-in-Ok-clause-not_enabled : goal.returns-in-Ok-clause-not_enabled
returns-in-Ok-clause-not_enabled c = λ e.
    let vs = c.self.inside.servers.items in
    let are : AreServersOf (arc_value c.self.inside.checked) vs = c.self.invariant.0 in
    let state : cluster_of vs ≡ c.args.self.now.state = ap (λ (v : ClusterView). v.state) c.self.view_is in
    let test : c.can_do.result ≡ can_do c.args.event.what (slice_get vs c.args.event.server) = c.can_do.ensures ∙ ap (λ l. can_do c.args.event.what (slice_get l c.args.event.server)) c.deref.ensures.value in
    let same : c.can_do.result ≡ is_enabled c.args.self.now.state c.args.event =
    test ∙ enabled_same (arc_value c.self.inside.checked) vs c.args.event.server c.args.event.what are ∙ ap (λ k. is_enabled k c.args.event) state in
    let bad : true ≡ false = sym c.if-not-can_do.false ∙ same ∙ e in
    absurd (cc bad)

pub returns-in-Err-clause-not_enabled : goal.returns-in-Err-clause-not_enabled
returns-in-Err-clause-not_enabled c = λ e.
    let vs = c.self.inside.servers.items in
    let are : AreServersOf (arc_value c.self.inside.checked) vs = c.self.invariant.0 in
    let state : cluster_of vs ≡ c.args.self.now.state = ap (λ (v : ClusterView). v.state) c.self.view_is in
    let test : c.can_do.result ≡ can_do c.args.event.what (slice_get vs c.args.event.server) = c.can_do.ensures ∙ ap (λ l. can_do c.args.event.what (slice_get l c.args.event.server)) c.deref.ensures.value in
    let same : c.can_do.result ≡ is_enabled c.args.self.now.state c.args.event =
    test ∙ enabled_same (arc_value c.self.inside.checked) vs c.args.event.server c.args.event.what are ∙ ap (λ k. is_enabled k c.args.event) state in
    let bad : true ≡ false = sym c.if-not-can_do.false ∙ same ∙ e in
    absurd (cc bad)

pub returns-in-Err-clause-refused : goal.returns-in-Err-clause-refused
returns-in-Err-clause-refused c =
    let vs = c.self.inside.servers.items in
    let ws = c.apply_at.new.servers.items in
    let grown = c.in-Err.ensures.refused in
    cluster_with vs ws (states vs) (grown_run vs ws grown) (grown_states vs ws grown) ∙ ap (λ (v : ClusterView). v.state) c.self.view_is

pub returns-in-Err-clause-sent : goal.returns-in-Err-clause-sent
returns-in-Err-clause-sent c =
    let vs = c.self.inside.servers.items in
    let ws = c.apply_at.new.servers.items in
    let state : cluster_of vs ≡ c.args.self.now.state = ap (λ (v : ClusterView). v.state) c.self.view_is in
    subst NoneSent (sym (grown_states vs ws c.in-Err.ensures.refused)) (subst (λ k. NoneSent k.servers) (sym state) c.requires.sent)

pub returns-in-Ok-clause-coherent : goal.returns-in-Ok-clause-coherent
returns-in-Ok-clause-coherent c =
    given_by (λ (d : Cluster × EntryView). IsCoherent d.0) _ _ (c.events_keep_coherence.ensures c.args.self.now.state c.args.event c.requires.coherent (few_are_few c.args.self.now.state c.requires.few)) (returns-in-Ok-clause-applied c)

pub returns-in-Err-clause-coherent : goal.returns-in-Err-clause-coherent
returns-in-Err-clause-coherent c = subst IsCoherent (sym (returns-in-Err-clause-refused c)) c.requires.coherent
