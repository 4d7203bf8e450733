-- An event that does no plain step leaves contents, results and gifts at its server with what is wanted of them.
use Rattle.std.proofs.Common.{◌≡◌, ℕ, true, List, Option, Some, None, refl}
use Rattle.std.specs.Prelude.{slice_get, option_map}
use Rattle.law_counts_things.specs.Below.fr_base.declared.settings.Options.{Options}
use Rattle.law_counts_things.specs.Below.fr_base.declared.instruction.Instr.{Instr}
use Rattle.law_counts_things.specs.Below.read_cache.Cache.{Copy, can_evict}
use Rattle.law_counts_things.specs.Below.migration.Packing.{unpin_all, used_words, packed}
use Rattle.law_counts_things.specs.Below.thread_state.View.{ThreadState}
use Rattle.law_counts_things.specs.Below.journal.View.{EntryView}
use Rattle.law_counts_things.specs.Below.server_msgs.declared.message.Message.{Message}
use Rattle.law_counts_things.specs.Below.server_msgs.declared.message.Message.TheVariants as message
use Rattle.law_counts_things.specs.Below.server_model.declared.event.What.{What}
use Rattle.law_counts_things.specs.Below.server_model.declared.event.What.TheVariants.{Step, Deliver, Evict, Migrate}
use Rattle.law_counts_things.specs.Below.server_model.Servers.{Server}
use Rattle.law_counts_things.specs.Below.server_model.Work.{then_some, thread_in, without_thread, beside_threads}
use Rattle.law_counts_things.specs.Below.server_model.Moving.{migrate, depart}
use Rattle.law_counts_things.specs.Below.server_model.Events.{begin_work, begin_at, left_by, received, deliver_message, evict_copy, does}
use Rattle.law_counts_things.specs.Below.law_counts_sums.Laws.{Gives}
use Rattle.law_counts_things.proofs.Below.law_counts_sums.Results.{then_gives, over_gives, test_gives, weaker}
use Rattle.law_counts_things.proofs.Below.law_counts_sums.Known.{all_at}
use Rattle.law_counts_things.proofs.things.Threads.{remove_all, without_all, found_all}
use Rattle.law_types_still.proofs.things.Kept.{Wanted, GiftHas, MessageHas, sent_has}
use Rattle.law_types_still.proofs.things.Deliveries.{WorkHas, SiteHas, Comes, message_leaves}
use Rattle.law_types_still.proofs.things.Steps.{ServerHas, stepping}

module _ (w : Wanted) (code : List Instr) (o : Options) (s : Server) (comes : Comes w s.threads) (g : ServerHas w s) where
  abbrev Then : Server × EntryView → Type 0
  Then r = ServerHas w r.0

  -- a delivery
  delivering : (i : ℕ) → Gives Then (does code o s (Deliver i))
  delivering i = by (slice_get s.rest.inbox i) refl
    where
      by : (m : Option Message) → slice_get s.rest.inbox i ≡ m → Gives Then (option_map (left_by s.events None None) (then_some m (λ x. deliver_message code x (received i s))))
      by None q = tt
      by (Some m) q =
          let r = g.0 in
          over_gives (SiteHas w) Then (deliver_message code m (received i s)) (left_by s.events None None)
          (message_leaves w code m (received i s) comes (all_at (MessageHas w) s.rest.inbox i m r.waiting q)
          (record { contents = r.contents; notes = r.notes; waiting = remove_all (MessageHas w) s.rest.inbox i r.waiting; leaving = r.leaving }, g.1)) (λ x u. u)

  -- an eviction
  evicting : (c : ℕ) → Gives Then (does code o s (Evict c))
  evicting c =
      over_gives (SiteHas w) Then (beside_threads (evict_copy c) (begin_at s)) (left_by s.events None None)
      (over_gives (WorkHas w) (SiteHas w) (evict_copy c (begin_work s.rest)) _ (test_gives (WorkHas w) (can_evict s.rest.cache c) _ (λ q. g.0)) (λ x u. (u, g.1))) (λ x u. u)

  -- a migration
  leaving : (t target : ℕ) → Gives Then (does code o s (Migrate t target))
  leaving t target =
      over_gives (SiteHas w) Then (migrate t target (begin_at s)) (left_by s.events (Some t) None)
      (then_gives (SiteHas w) (thread_in s.threads t) _ (λ y q. by y (found_all (GiftHas w) s.threads t y g.1 q) (unpin_all (used_words y) s.rest.cache))) (λ x u. u)
    where
      by : (y : ThreadState) → GiftHas w y → (l : Option (List Copy))
          → Gives (SiteHas w) (option_map (λ p. record { work = depart target (begin_work s.rest) p; threads = without_thread s.threads t }) (option_map (λ left. (packed (record y { moved_since_step = true }), left)) l))
      by y has None = tt
      by y has (Some cs) =
          let r = g.0 in (
            sent_has w target (message.Migrate (packed (record y { moved_since_step = true }))) (record s.rest { cache = cs }) has (record { contents = r.contents; notes = r.notes; waiting = r.waiting; leaving = r.leaving }),
            without_all (GiftHas w) s.threads t g.1,
          )

  -- whatever a server does
  pub event_leaves : (e : What) → Gives (λ (r : Server × EntryView). r.1.done ≡ None → ServerHas w r.0) (does code o s e)
  event_leaves (Step t) = stepping w code o s t g
  event_leaves (Deliver i) = weaker Then (λ (r : Server × EntryView). r.1.done ≡ None → ServerHas w r.0) (does code o s (Deliver i)) (delivering i) (λ r u none. u)
  event_leaves (Evict c) = weaker Then (λ (r : Server × EntryView). r.1.done ≡ None → ServerHas w r.0) (does code o s (Evict c)) (evicting c) (λ r u none. u)
  event_leaves (Migrate t target) = weaker Then (λ (r : Server × EntryView). r.1.done ≡ None → ServerHas w r.0) (does code o s (Migrate t target)) (leaving t target) (λ r u none. u)
