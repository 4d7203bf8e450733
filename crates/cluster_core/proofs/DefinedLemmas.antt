-- An event in code is the definition's, and coherence gives what it asks.
use Rattle.std.proofs.Common.{◌≡◌, ℕ, zero, suc, ◌<◌, ◌≤◌, ◌^◌, Bool, true, false, if◌then◌else◌, List, [], ◌∷◌, length, take, drop, Option, Some, None, refl, sym, ap, subst, ◌∙◌, arith}
use Rattle.std.specs.Prelude.{slice_get, slice_set, option_map, IsSome, IfSome}
use Rattle.journal.specs.View.{EntryView}
use Rattle.thread_state.specs.View.{ThreadState}
use Rattle.borrow_check.specs.Programs.{Program}
use Rattle.server_model.specs.declared.event.What.{What}
use Rattle.server_model.specs.Servers.{Server, Sent, Cluster, server_at}
use Rattle.server_model.specs.Work.{then_some, thread_in}
use Rattle.server_model.specs.Events.{enabled, does}
use Rattle.server_model.specs.Clusters.{accept_all, with_server, with_outbox, hand_over_newer, done_at, apply}
use Rattle.coherent_types.specs.ClusterTypes.{IsCoherent}
use Rattle.law_counts_limits.specs.limits.Counts.{IsServerSmall}
use Rattle.law_counts_limits.proofs.limits.Counts.{counts_are_small, few_are_few}
use Rattle.law_results_events.proofs.enabled.Each.{each_event}
use Rattle.server_core.specs.Servers.{ServerView}
use Rattle.server_core.specs.Steps.{ThreadLeft, CountsLeft}
use Rattle.cluster_core.specs.Views.{states, events_in, code_in, options_in, cluster_of, AreServersOf}
use Rattle.cluster_core.specs.Handing.{handed, NoneSent}
use Rattle.cluster_core.specs.Enabled.{enabled_there, is_enabled}
use Rattle.cluster_core.specs.Applying.{can_do, CanAct, Applied}
use Rattle.cluster_core.proofs.RowLemmas.{states_at, with_at}
use Rattle.cluster_core.proofs.RunLemmas.{keeps_at, server_there, no_server, cluster_with}
use Rattle.cluster_core.proofs.OutboxLemmas.{none_at, handed_one}

-- WHAT IS ENABLED

-- a server of a run keeps the cluster's options
pub enabled_same : (p : Program) (vs : List ServerView) (n : ℕ) (w : What) → AreServersOf p vs → can_do w (slice_get vs n) ≡ is_enabled (cluster_of vs) (record { server = n; what = w })
enabled_same p vs n w are = by (slice_get vs n) refl
  where
    by : (o : Option ServerView) → slice_get vs n ≡ o → can_do w o ≡ enabled_there (options_in vs) w (server_at (states vs) n)
    by None e = ap (enabled_there (options_in vs) w) (sym (no_server p vs n are e))
    by (Some v) e =
        ap (λ o. enabled o v.state w) (keeps_at vs n v (code_in vs) (options_in vs) are.alike e).1
        ∙ ap (enabled_there (options_in vs) w) (sym (server_there p vs n v are e))

-- only a server that is there can do something
pub is_there : (vs : List ServerView) (n : ℕ) (w : What) → can_do w (slice_get vs n) ≡ true → n < length vs
is_there [] n w e = absurd (cc e)
is_there (v ∷ vs) zero w e = omega arith
is_there (v ∷ vs) (suc n) w e = let l = is_there vs n w e in omega (arith, l)

-- THE DEFINITION'S EVENT

-- none of the first
take_none : (xs : List Sent) → take 0 xs ≡ []
take_none [] = refl
take_none (x ∷ xs) = refl

-- all but none
drop_none : (xs : List Sent) → drop 0 xs ≡ xs
drop_none [] = refl
drop_none (x ∷ xs) = refl

-- with nothing older in its outbox, a server hands over all
newer_all : (n : ℕ) (older : List Sent) (new : Server) (ss : List Server) → older ≡ [] → hand_over_newer n (length older) new ss ≡ accept_all (with_server ss n (with_outbox [] new)) new.rest.outbox
newer_all n older new ss e =
    ap (λ l. hand_over_newer n (length l) new ss) e
    ∙ ap (λ l. accept_all (with_server ss n (with_outbox l new)) (drop 0 new.rest.outbox)) (take_none new.rest.outbox)
    ∙ ap (accept_all (with_server ss n (with_outbox [] new))) (drop_none new.rest.outbox)

-- what an event makes of the cluster, and its entry
abbrev end_of : Cluster → ℕ → Server → Server × EntryView → Cluster × EntryView
end_of k n s d = (record k { servers = hand_over_newer n (length s.rest.outbox) d.0 k.servers }, d.1)

-- what is done where a test holds
if_on : {X : Type 0} (b : Bool) (x y : X) → b ≡ true → (if b then x else y) ≡ x
if_on true x y e = refl
if_on false x y e = absurd (cc e)

-- the definition's event at a server that is there and can do it
apply_at : (k : Cluster) (n : ℕ) (w : What) (s : Server) → server_at k.servers n ≡ Some s → enabled k.options s w ≡ true → apply k (record { server = n; what = w }) ≡ option_map (end_of k n s) (does k.code k.options s w)
apply_at k n w s here on =
    ap (λ o. then_some o (λ s. option_map (λ d. (record k { servers = hand_over_newer n (length s.rest.outbox) d.0 k.servers }, d.1)) (done_at k w s))) here
    ∙ ap (option_map (end_of k n s)) (if_on (enabled k.options s w) (does k.code k.options s w) None on)

-- what the code did is the definition's event
pub applied_is : (p : Program) (vs ws : List ServerView) (n : ℕ) (w : What) (e : EntryView) → AreServersOf p vs → NoneSent (states vs) → can_do w (slice_get vs n) ≡ true → Applied n w e vs ws → apply (cluster_of vs) (record { server = n; what = w }) ≡ Some (cluster_of ws, e)
applied_is p vs ws n w e are none on a =
    let k = cluster_of vs in
    let ss = states vs in
    let made = a.makes in
    let v = made.old in
    let here : server_at ss n ≡ Some v.state = server_there p vs n v are made.there in
    let kept = keeps_at vs n v (code_in vs) (options_in vs) are.alike made.there in
    let on_here : enabled v.options v.state w ≡ true = ap (can_do w) (sym made.there) ∙ on in
    let on_there : enabled k.options v.state w ≡ true = ap (λ o. enabled o v.state w) (sym kept.1) ∙ on_here in
    let done : does k.code k.options v.state w ≡ Some (a.new, e) = ap (λ c. does c k.options v.state w) (sym kept.0) ∙ ap (λ o. does v.code o v.state w) (sym kept.1) ∙ made.done in
    let at : slice_get ss n ≡ Some v.state = states_at vs n v made.there in
    let out : v.state.rest.outbox ≡ [] = none_at n ss v.state none at in
    let set = with_at n ss (with_outbox [] a.new) are.numbered in
    let servers : hand_over_newer n (length v.state.rest.outbox) a.new ss ≡ handed (slice_set ss n a.new) =
    newer_all n v.state.rest.outbox a.new ss out ∙ ap (λ l. accept_all l a.new.rest.outbox) set ∙ sym (handed_one n ss v.state a.new none at) in
    let whole : cluster_of ws ≡ record k { servers = handed (slice_set ss n a.new) } = cluster_with vs ws (handed (slice_set ss n a.new)) a.run a.changed in
    apply_at k n w v.state here on_there ∙ ap (option_map (end_of k n v.state)) done ∙ ap (λ l. Some (record k { servers = l }, e)) servers ∙ ap (λ c. Some (c, e)) (sym whole)

-- WHAT COHERENCE GIVES

-- a map gives something where something is there
mapped_some : {X Y : Type 0} (f : X → Y) (o : Option X) → IsSome (option_map f o) → IsSome o
mapped_some f None h = h
mapped_some f (Some x) h = refl

-- no count of a server with small counts is near its end
counts_left : (k : Cluster) (s : Server) → IsServerSmall k s → events_in k.servers < 1000000000 → length k.code ≤ 2 ^ 30 → CountsLeft s
counts_left k s small few short = record {
  started = omega (arith, small.started, few);
  events = omega (arith, small.events, few);
  threads = λ t. by t (thread_in s.threads t) refl;
}
  where
    by : (t : ℕ) (o : Option ThreadState) → thread_in s.threads t ≡ o → IfSome o ThreadLeft
    by t None e = tt
    by t (Some y) e =
        let l = small.threads t y e in record {
          pc = omega (arith, l.pc, short);
          made = omega (arith, l.made, few);
          passed = omega (arith, l.passed);
          slots = omega (arith, l.slots, short);
        }

-- in a coherent cluster where few events were done an enabled event can be done in code
pub able : (p : Program) (vs : List ServerView) (n : ℕ) (w : What) → AreServersOf p vs → IsCoherent (cluster_of vs) → events_in (states vs) < 1000000000 → can_do w (slice_get vs n) ≡ true → IfSome (slice_get vs n) (CanAct w)
able p vs n w are coherent few on = by (slice_get vs n) refl on
  where
    by : (o : Option ServerView) → slice_get vs n ≡ o → can_do w o ≡ true → IfSome o (CanAct w)
    by None e q = tt
    by (Some v) e q =
        let k = cluster_of vs in
        let here : server_at k.servers n ≡ Some v.state = server_there p vs n v are e in
        let kept = keeps_at vs n v (code_in vs) (options_in vs) are.alike e in
        let on_there : enabled k.options v.state w ≡ true = ap (λ o. enabled o v.state w) (sym kept.1) ∙ q in
        let has : IsSome (apply k (record { server = n; what = w })) = each_event k n w v.state coherent (few_are_few k few) here on_there in
        let result : IsSome (does k.code k.options v.state w) = mapped_some (end_of k n v.state) (does k.code k.options v.state w) (subst IsSome (apply_at k n w v.state here on_there) has) in
        let same : does k.code k.options v.state w ≡ does v.code v.options v.state w = ap (λ c. does c k.options v.state w) (sym kept.0) ∙ ap (λ o. does v.code o v.state w) (sym kept.1) in record {
          on = q;
          result = subst IsSome same result;
          counts = counts_left k v.state (counts_are_small k n v.state coherent here) few are.short;
        }
