-- A sentence that each step keeps, and each event that is no step, is kept by each event.
use Rattle.std.proofs.Common.{◌≡◌, ◌⊎◌, inl, inr, ℕ, Option, Some, None, option_map, refl, subst, ap, ◌∙◌}
use Rattle.std.specs.Prelude.{slice_get}
use Rattle.law_copies_kept.specs.Below.journal.View.{EntryView}
use Rattle.law_copies_kept.specs.Below.server_msgs.declared.message.Message.{Message}
use Rattle.law_copies_kept.specs.Below.server_msgs.declared.message.Message.TheVariants as message
use Rattle.law_copies_kept.specs.Below.server_model.declared.event.Event.{Event}
use Rattle.law_copies_kept.specs.Below.server_model.declared.event.What.{What}
use Rattle.law_copies_kept.specs.Below.server_model.declared.event.What.TheVariants.{Step, Deliver, Evict, Migrate}
use Rattle.law_copies_kept.specs.Below.server_model.Servers.{Server, Cluster, server_at}
use Rattle.law_copies_kept.specs.Below.server_model.Work.{then_some}
use Rattle.law_copies_kept.specs.Below.server_model.Clusters.{apply}
use Rattle.law_copies_kept.specs.Below.coherent_memory.Coherent.{Sentence, Holds}
use Rattle.law_copies_kept.specs.Below.law_counts_sums.Kinds.{Kind, moving, moved, drop, message_kind, kind_at}
use Rattle.law_copies_kept.specs.Below.law_counts_sums.Laws.{Gives}
use Rattle.law_walks_own.specs.Below.law_words_paths.words.Unmoved.{Delivers}
use Rattle.law_walks_others.specs.Below.law_words_kept.stays.Laws.{IsOfKind}
use Rattle.law_walks_own.specs.Below.law_counts_things.things.Laws.{EachCoherentEventKeeps}
use Rattle.law_walks_others.specs.arrivals.Landed.{IsNoStep, EachUnsteppedEventKeeps}
use Rattle.law_walks_own.specs.steps.Steps.{StepsKeep}
use Rattle.law_walks_own.proofs.taken.Ways.{each_way}

same : {A : Type 0} {a b : A} → Some a ≡ Some b → a ≡ b
same h = cc

-- the delivery of a message is no step
message_is_none : (m : Message) → IsNoStep (message_kind m)
message_is_none (message.Fetch w o a t) = tt
message_is_none (message.Fetched w v t) = tt
message_is_none (message.Move w o a t) = tt
message_is_none (message.Moved w v t) = tt
message_is_none (message.Drop w o) = tt
message_is_none (message.Lock m a t) = tt
message_is_none (message.Granted m v t) = tt
message_is_none (message.Unlock m v) = tt
message_is_none (message.Dup m a t) = tt
message_is_none (message.Dupped m t) = tt
message_is_none (message.Release r) = tt
message_is_none (message.Start t) = tt
message_is_none (message.Join u a t) = tt
message_is_none (message.Joined u v t) = tt
message_is_none (message.Finished u v) = tt
message_is_none (message.Migrate t) = tt

delivery_is_none : (o : Option Message) (kind : Kind) → option_map message_kind o ≡ Some kind → IsNoStep kind
delivery_is_none None kind h = absurd cc
delivery_is_none (Some m) kind h = subst IsNoStep (same h) (message_is_none m)

-- an event of a kind is a step, or of a kind that is none
at_server : (k : Cluster) (s : Server) (w : What) (kind : Kind) → kind_at k w s ≡ Some kind → ((t : ℕ) × w ≡ Step t) ⊎ IsNoStep kind
at_server k s (Step t) kind h = inl (t, refl)
at_server k s (Deliver i) kind h = inr (delivery_is_none (slice_get s.rest.inbox i) kind h)
at_server k s (Evict w) kind h = inr (subst IsNoStep (same h) tt)
at_server k s (Migrate t target) kind h = inr (subst IsNoStep (same h) tt)

step_or_none : (k : Cluster) (e : Event) (kind : Kind) → IsOfKind kind k e → ((t : ℕ) × e.what ≡ Step t) ⊎ IsNoStep kind
step_or_none k e kind = by (server_at k.servers e.server)
  where
    by : (o : Option Server) → then_some o (kind_at k e.what) ≡ Some kind → ((t : ℕ) × e.what ≡ Step t) ⊎ IsNoStep kind
    by None h = absurd cc
    by (Some s) h = at_server k s e.what kind h

-- the kind of a delivery
delivery_kind : (k : Cluster) (e : Event) (m : Message) → Delivers k e m → IsOfKind (message_kind m) k e
delivery_kind k e m d = ap (λ o. then_some o (kind_at k e.what)) d.there ∙ ap (λ w. kind_at k w d.server) d.what ∙ ap (option_map message_kind) d.message

pub each_event : (n : Sentence) → StepsKeep n → EachUnsteppedEventKeeps n → EachCoherentEventKeeps n
each_event n steps others k e coherent few =
    each_way k (λ d. Holds d n)
    (record {
      steps = λ e t is. steps k e t is coherent few;
      steady = λ kind steady e is. by e kind is (step_or_none k e kind is);
      moves = λ e w o a t d. others moving tt k e (delivery_kind k e (message.Move w o a t) d) coherent few;
      drops = λ e w o d. others drop tt k e (delivery_kind k e (message.Drop w o) d) coherent few;
      comes = λ e w c t d. others moved tt k e (delivery_kind k e (message.Moved w c t) d) coherent few;
    })
    e
  where
    by : (e : Event) (kind : Kind) → IsOfKind kind k e → ((t : ℕ) × e.what ≡ Step t) ⊎ IsNoStep kind → Gives (λ (d : Cluster × EntryView). Holds d.0 n) (apply k e)
    by e kind is (inl step) = steps k e step.0 step.1 coherent few
    by e kind is (inr none) = others kind none k e is coherent few
