-- Event by event: whatever does no plain step leaves the one heap as it was.
use Rattle.std.proofs.Common.{◌≡◌, ℕ, true, Option, Some, None, refl, sym, subst}
use Rattle.std.specs.Prelude.{slice_get, option_map}
use Rattle.law_words_paths.specs.Below.journal.View.{EntryView}
use Rattle.law_words_paths.specs.Below.server_msgs.declared.message.Message.{Message}
use Rattle.law_words_paths.specs.Below.server_msgs.declared.message.Message.TheVariants as message
use Rattle.law_words_paths.specs.Below.server_model.declared.event.What.{What}
use Rattle.law_words_paths.specs.Below.server_model.declared.event.What.TheVariants.{Step, Deliver, Evict, Migrate}
use Rattle.law_words_paths.specs.Below.server_model.Servers.{Server, Cluster, server_at}
use Rattle.law_words_paths.specs.Below.server_model.Work.{then_some}
use Rattle.law_words_paths.specs.Below.server_model.Events.{enabled, deliver_message, received, left_by, does}
use Rattle.law_words_paths.specs.Below.coherent_memory.Things.{server_things}
use Rattle.law_words_paths.specs.Below.coherent_memory.Sight.{sight}
use Rattle.law_words_paths.specs.Below.coherent_memory.Coherent.{IsSound}
use Rattle.law_heap_still.specs.Below.law_counts_sums.Laws.{Gives}
use Rattle.law_heap_still.proofs.Below.law_counts_sums.Results.{weaker}
use Rattle.law_words_paths.proofs.paths.Alike.{coherent_has_paths}
use Rattle.law_heap_still.specs.events.Shows.{Sign}
use Rattle.law_heap_still.proofs.events.Sites.{AlikeBy, ServerStill, leaves_heap_by}
use Rattle.law_heap_still.proofs.events.Alike.{Heeds, heeds_same_heap}
use Rattle.law_heap_still.proofs.events.Once.{shown_once}
use Rattle.law_heap_still.proofs.events.Drops.{named, objects_go}
use Rattle.law_heap_still.proofs.events.StillKinds.{message_still}
use Rattle.law_heap_still.proofs.events.Evictions.{evictions}
use Rattle.law_heap_still.proofs.events.Arrivals.{migrations}
use Rattle.law_heap_still.proofs.events.Undone.{steps}
use Rattle.law_heap_still.specs.undone.Undone.{EachUndoneLeavesHeap}
use Rattle.law_heap_still.proofs.undone.Locks.{locks_see}

module _ (k : Cluster) (sound : IsSound k) (number : ℕ) (s : Server) (here : server_at k.servers number ≡ Some s) where
  abbrev Class : (Sign → ℕ) → Type 0
  Class w = Heeds (named k) (sight k) w

  abbrev Alike : Server × EntryView → Type 0
  Alike r = AlikeBy Class (server_things s) (server_things r.0)

  -- where objects that nothing names count too
  heeded : (o : Option (Server × EntryView)) → Gives (ServerStill k s) o → Gives Alike o
  heeded o g = weaker (ServerStill k s) Alike o g (λ r u w z h. u w z h.0)

  message_goes : (i : ℕ) (m : Message) → slice_get s.rest.inbox i ≡ Some m → Gives Alike (does k.code k.options s (Deliver i))
  message_goes i (message.Drop w o) q = objects_go k sound number s here i w o q
  message_goes i (message.Fetch w o a t) q = heeded _ (message_still k sound number s here i (message.Fetch w o a t) q tt)
  message_goes i (message.Fetched w c t) q = heeded _ (message_still k sound number s here i (message.Fetched w c t) q tt)
  message_goes i (message.Move w o a t) q = heeded _ (message_still k sound number s here i (message.Move w o a t) q tt)
  message_goes i (message.Moved w c t) q = heeded _ (message_still k sound number s here i (message.Moved w c t) q tt)
  message_goes i (message.Lock m a t) q = heeded _ (message_still k sound number s here i (message.Lock m a t) q tt)
  message_goes i (message.Granted m v t) q = heeded _ (message_still k sound number s here i (message.Granted m v t) q tt)
  message_goes i (message.Unlock m v) q = heeded _ (message_still k sound number s here i (message.Unlock m v) q tt)
  message_goes i (message.Dup m a t) q = heeded _ (message_still k sound number s here i (message.Dup m a t) q tt)
  message_goes i (message.Dupped m t) q = heeded _ (message_still k sound number s here i (message.Dupped m t) q tt)
  message_goes i (message.Release r) q = heeded _ (message_still k sound number s here i (message.Release r) q tt)
  message_goes i (message.Start t) q = heeded _ (message_still k sound number s here i (message.Start t) q tt)
  message_goes i (message.Migrate t) q = heeded _ (message_still k sound number s here i (message.Migrate t) q tt)
  message_goes i (message.Join u a t) q = heeded _ (message_still k sound number s here i (message.Join u a t) q tt)
  message_goes i (message.Joined u v t) q = heeded _ (message_still k sound number s here i (message.Joined u v t) q tt)
  message_goes i (message.Finished u v) q = heeded _ (message_still k sound number s here i (message.Finished u v) q tt)

  delivered : (i : ℕ) (o : Option Message) → slice_get s.rest.inbox i ≡ o → Gives Alike (does k.code k.options s (Deliver i))
  delivered i None q = subst (λ o. Gives Alike (option_map (left_by s.events None None) (then_some o (λ m. deliver_message k.code m (received i s))))) (sym q) tt
  delivered i (Some m) q = message_goes i m q

  abbrev Undone : Server × EntryView → Type 0
  Undone r = r.1.done ≡ None → Alike r

  pub event_goes : (w : What) → enabled k.options s w ≡ true → Gives Undone (does k.code k.options s w)
  event_goes (Step t) on = weaker (λ (r : Server × EntryView). r.1.done ≡ None → ServerStill k s r) Undone (does k.code k.options s (Step t)) (steps k sound number s here t on) (λ r u none w z h. u none w z h.0)
  event_goes (Deliver i) on = weaker Alike Undone (does k.code k.options s (Deliver i)) (delivered i (slice_get s.rest.inbox i) refl) (λ r u none. u)
  event_goes (Evict c) on = weaker Alike Undone (does k.code k.options s (Evict c)) (heeded _ (evictions k s c)) (λ r u none. u)
  event_goes (Migrate t target) on = weaker Alike Undone (does k.code k.options s (Migrate t target)) (heeded _ (migrations k s t target)) (λ r u none. u)

pub each_undone : EachUndoneLeavesHeap
each_undone k e coherent few =
    let sound = coherent.sound in
    leaves_heap_by (λ (r : EntryView). r.done ≡ None) (λ w. Heeds (named k) (sight k) w) k e sound few
    (λ c code alike. heeds_same_heap k c code (shown_once k sound) (named k) (λ o h. h) (locks_see k (coherent_has_paths k coherent)) alike)
    (λ s here on. event_goes k sound e.server s here e.what on)
