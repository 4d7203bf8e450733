-- What holds after each event, by what the event is: a step, one in which no object comes or goes and no pointer gets another word, or the delivery of a `move`, a `moved` or a `drop`.
use Rattle.std.proofs.Common.{◌≡◌, ℕ, Option, Some, None, option_map, refl, sym, ap, subst, ◌∙◌}
use Rattle.std.specs.Prelude.{slice_get}
use Rattle.law_words_ends.specs.Below.fr_base.declared.name.ObjNo.{ObjNo}
use Rattle.law_words_ends.specs.Below.heap_partition.declared.value.Cell.{Cell}
use Rattle.law_words_ends.specs.Below.journal.View.{EntryView}
use Rattle.law_words_ends.specs.Below.server_msgs.declared.message.Message.{Message}
use Rattle.law_words_ends.specs.Below.server_msgs.declared.message.Message.TheVariants as message
use Rattle.law_words_ends.specs.Below.server_model.declared.event.Event.{Event}
use Rattle.law_words_ends.specs.Below.server_model.declared.event.What.{What}
use Rattle.law_words_ends.specs.Below.server_model.declared.event.What.TheVariants.{Step, Deliver, Evict, Migrate}
use Rattle.law_words_ends.specs.Below.server_model.Servers.{Server, Cluster, server_at}
use Rattle.law_words_ends.specs.Below.server_model.Work.{then_some}
use Rattle.law_words_ends.specs.Below.server_model.Clusters.{done_at, apply}
use Rattle.law_words_ends.specs.Below.server_model.Events.{enabled, left_by, received, deliver_message, does}
use Rattle.law_words_ends.specs.Below.law_counts_sums.Kinds.{Kind, fetch, fetched, asks_lock, granted, unlocked, asks_dup, dupped, released, starts, asks_join, joined, finished, arrives, evicts, migrates, message_kind, kind_at}
use Rattle.law_words_ends.specs.Below.law_counts_sums.Laws.{Gives}
use Rattle.law_words_ends.proofs.Below.law_counts_sums.Results.{then_gives, over_gives, test_gives}
use Rattle.law_words_ends.specs.Below.law_words_paths.words.Unmoved.{Delivers}
use Rattle.law_words_ends.specs.Below.law_words_kept.stays.Laws.{IsOfKind}
use Rattle.law_walks_others.specs.Below.law_counts_waiting.waits.Steady.{IsSteady}

-- what each event is to leave
pub record Ways (k : Cluster) (Q : Cluster → Type 0) : Type 0 where
  pub steps : (e : Event) (t : ℕ) → e.what ≡ Step t → Gives (λ (d : Cluster × EntryView). Q d.0) (apply k e)
  pub steady : (kind : Kind) → IsSteady kind → (e : Event) → IsOfKind kind k e → Gives (λ (d : Cluster × EntryView). Q d.0) (apply k e)
  pub moves : (e : Event) (w : ℕ) (o : ObjNo) (a t : ℕ) → Delivers k e (message.Move w o a t) → Gives (λ (d : Cluster × EntryView). Q d.0) (apply k e)
  pub drops : (e : Event) (w : ℕ) (o : ObjNo) → Delivers k e (message.Drop w o) → Gives (λ (d : Cluster × EntryView). Q d.0) (apply k e)
  pub comes : (e : Event) (w : ℕ) (c : Cell) (t : ℕ) → Delivers k e (message.Moved w c t) → Gives (λ (d : Cluster × EntryView). Q d.0) (apply k e)

module _ (k : Cluster) (Q : Cluster → Type 0) (ways : Ways k Q) (e : Event) where
  abbrev Left : Type 0
  Left = Gives (λ (d : Cluster × EntryView). Q d.0) (apply k e)

  abbrev Keeps : Server → Type 0
  Keeps s = (w : What) → e.what ≡ w → Left

  server_is : {a b : Server} → Some a ≡ Some b → a ≡ b
  server_is h = cc

  -- an event that does nothing leaves anything
  none_done : (s : Server) → server_at k.servers e.server ≡ Some s → Gives (λ (r : Server × EntryView). ⊥) (does k.code k.options s e.what) → Left
  none_done s here none =
      then_gives (λ (d : Cluster × EntryView). Q d.0) (server_at k.servers e.server) _ (λ u at.
      over_gives (λ (r : Server × EntryView). ⊥) (λ (d : Cluster × EntryView). Q d.0) (done_at k e.what u) _
      (test_gives (λ (r : Server × EntryView). ⊥) (enabled k.options u e.what) (does k.code k.options u e.what)
      (λ able. subst (λ v. Gives (λ (r : Server × EntryView). ⊥) (does k.code k.options v e.what)) (server_is (sym here ∙ at)) none)) (λ r g. absurd g))

  module _ (s : Server) (here : server_at k.servers e.server ≡ Some s) where
    of_kind : (kind : Kind) → IsSteady kind → kind_at k e.what s ≡ Some kind → Left
    of_kind kind steady is = ways.steady kind steady e (ap (λ o. then_some o (kind_at k e.what)) here ∙ is)

    module _ (i : ℕ) (what : e.what ≡ Deliver i) where
      kind_is : (m : Message) → slice_get s.rest.inbox i ≡ Some m → kind_at k e.what s ≡ Some (message_kind m)
      kind_is m f = ap (λ w. kind_at k w s) what ∙ ap (option_map message_kind) f

      delivers : (m : Message) → slice_get s.rest.inbox i ≡ Some m → Delivers k e m
      delivers m f = record { place = i; what = what; server = s; there = here; message = f }

      of_message : (m : Message) → slice_get s.rest.inbox i ≡ Some m → Left
      of_message (message.Fetch w o a t) f = of_kind fetch tt (kind_is (message.Fetch w o a t) f)
      of_message (message.Fetched w v t) f = of_kind fetched tt (kind_is (message.Fetched w v t) f)
      of_message (message.Move w o a t) f = ways.moves e w o a t (delivers (message.Move w o a t) f)
      of_message (message.Moved w v t) f = ways.comes e w v t (delivers (message.Moved w v t) f)
      of_message (message.Drop w o) f = ways.drops e w o (delivers (message.Drop w o) f)
      of_message (message.Lock m a t) f = of_kind asks_lock tt (kind_is (message.Lock m a t) f)
      of_message (message.Granted m v t) f = of_kind granted tt (kind_is (message.Granted m v t) f)
      of_message (message.Unlock m v) f = of_kind unlocked tt (kind_is (message.Unlock m v) f)
      of_message (message.Dup m a t) f = of_kind asks_dup tt (kind_is (message.Dup m a t) f)
      of_message (message.Dupped m t) f = of_kind dupped tt (kind_is (message.Dupped m t) f)
      of_message (message.Release r) f = of_kind released tt (kind_is (message.Release r) f)
      of_message (message.Start t) f = of_kind starts tt (kind_is (message.Start t) f)
      of_message (message.Join u a t) f = of_kind asks_join tt (kind_is (message.Join u a t) f)
      of_message (message.Joined u v t) f = of_kind joined tt (kind_is (message.Joined u v t) f)
      of_message (message.Finished u v) f = of_kind finished tt (kind_is (message.Finished u v) f)
      of_message (message.Migrate t) f = of_kind arrives tt (kind_is (message.Migrate t) f)

      of_delivery : (o : Option Message) → slice_get s.rest.inbox i ≡ o → Left
      of_delivery None f =
          none_done s here (subst (λ w. Gives (λ (r : Server × EntryView). ⊥) (does k.code k.options s w)) (sym what)
          (subst (λ o. Gives (λ (r : Server × EntryView). ⊥) (option_map (left_by s.events None None) (then_some o (λ m. deliver_message k.code m (received i s))))) (sym f) tt))
      of_delivery (Some m) f = of_message m f

    of_what : (w : What) → e.what ≡ w → Left
    of_what (Step t) is = ways.steps e t is
    of_what (Deliver i) is = of_delivery i is (slice_get s.rest.inbox i) refl
    of_what (Evict v) is = of_kind evicts tt (ap (λ w. kind_at k w s) is)
    of_what (Migrate t target) is = of_kind migrates tt (ap (λ w. kind_at k w s) is)

  pub each_way : Left
  each_way = by (server_at k.servers e.server) refl
    where
      by : (o : Option Server) → server_at k.servers e.server ≡ o → Left
      by None none = then_gives (λ (d : Cluster × EntryView). Q d.0) (server_at k.servers e.server) _ (λ s at. absurd (no (sym none ∙ at)))
        where
          no : {s : Server} → None ≡ Some s → ⊥
          no h = cc
      by (Some s) here = of_what s here e.what refl
