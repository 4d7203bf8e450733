-- An eviction that is enabled has a result, whatever else there is in the cluster; in a sound one so has the delivery of a thread, since none of its number stands there.
use Rattle.std.proofs.Common.{◌≡◌, ◌≤◌, ℕ, ◌+◌, Bool, true, false, if◌then◌else◌, length, Option, Some, None, IsSome, refl, sym, ap, subst, arith}
use Rattle.std.specs.Prelude.{slice_get, option_map}
use Rattle.std.proofs.lemmas.Bool.{eq-eqb}
use Rattle.coherent_memory.specs.Below.thread_state.View.{ThreadState}
use Rattle.coherent_memory.specs.Below.server_msgs.declared.message.Message.{Message}
use Rattle.coherent_memory.specs.Below.server_msgs.declared.message.Message.TheVariants as message
use Rattle.coherent_memory.specs.Below.journal.View.{EntryView}
use Rattle.coherent_memory.specs.Below.server_model.declared.event.What.{What}
use Rattle.coherent_memory.specs.Below.server_model.declared.event.What.TheVariants.{Deliver, Evict}
use Rattle.coherent_memory.specs.Below.server_model.Servers.{Server, Cluster, server_at}
use Rattle.coherent_memory.specs.Below.server_model.Work.{thread_in, then_some}
use Rattle.coherent_memory.specs.Below.server_model.Joining.{stand, arrive}
use Rattle.coherent_memory.specs.Below.server_model.Events.{enabled, left_by, received, deliver_message, does}
use Rattle.coherent_memory.specs.Below.server_model.Clusters.{hand_over_newer}
use Rattle.coherent_memory.specs.Names.{tot, one}
use Rattle.coherent_memory.specs.Things.{Thing, message_things, thread_things}
use Rattle.coherent_memory.specs.Weights.{is_thread}
use Rattle.coherent_memory.specs.Coherent.{IsSound}
use Rattle.coherent_memory.proofs.Sums.{server_parts}
use Rattle.law_counts_sums.proofs.Trades.{tot-remove}
use Rattle.law_counts_sums.proofs.Bags.{had_by, thread_number, tot-without}
use Rattle.law_counts_sums.proofs.Events.{tot-server}
use Rattle.law_counts_sums.specs.Laws.{HasResult, EvictionsHaveResults, StartsHaveResults, ParcelsHaveResults}

pub some_map : {X Y : Type 0} (f : X → Y) (o : Option X) → IsSome o → IsSome (option_map f o)
some_map f None h = absurd (cc h)
some_map f (Some x) h = refl

pub some_if : {X : Type 0} (b : Bool) (o : Option X) → b ≡ true → IsSome o → IsSome (if b then o else None)
some_if true o e h = h
some_if false o e h = absurd (cc e)

-- an event done at its server, its messages handed over
abbrev handed : Cluster → ℕ → Server → Server × EntryView → Cluster × EntryView
handed k n s d = (record k { servers = hand_over_newer n (length s.rest.outbox) d.0 k.servers }, d.1)

-- where it has a result at its server it has one
pub applied : (k : Cluster) (n : ℕ) (w : What) (s : Server) → server_at k.servers n ≡ Some s → enabled k.options s w ≡ true → IsSome (does k.code k.options s w) → HasResult k n w
applied k n w s here on h =
    subst (λ (o : Option Server). IsSome {T = Cluster × EntryView} (then_some o (λ z. option_map (handed k n z) (if enabled k.options z w then does k.code k.options z w else None)))) (sym here)
    (some_map (handed k n s) (if enabled k.options s w then does k.code k.options s w else None) (some_if (enabled k.options s w) (does k.code k.options s w) on h))

pub evictions : EvictionsHaveResults
evictions k n w s here on = applied k n (Evict w) s here on (some_map (left_by s.events None None) _ (some_map _ _ (some_if _ _ on refl)))

pub arrives : (k : Cluster) (n i : ℕ) (s : Server) (m : Message) → server_at k.servers n ≡ Some s → enabled k.options s (Deliver i) ≡ true → slice_get s.rest.inbox i ≡ Some m → IsSome (deliver_message k.code m (received i s)) → HasResult k n (Deliver i)
arrives k n i s m here on q h =
    applied k n (Deliver i) s here on
    (subst (λ (o : Option Message). IsSome (option_map (left_by s.events None None) (then_some o (λ z. deliver_message k.code z (received i s))))) (sym q) (some_map (left_by s.events None None) (deliver_message k.code m (received i s)) h))

-- THREADS UNDER WAY

module _ (k : Cluster) (sound : IsSound k) (number i : ℕ) (s : Server) (here : server_at k.servers number ≡ Some s) where
  abbrev n : ℕ
  n = s.rest.number

  -- of a thread under way none of its number stands there
  alone : (m : Message) (t : ThreadState) → slice_get s.rest.inbox i ≡ Some m → ((f : Thing → ℕ) → tot f (thread_things n true t) ≤ tot f (message_things n m)) → thread_in s.threads t.number ≡ None
  alone m t q within = by (thread_in s.threads t.number) refl
    where
      by : (o : Option ThreadState) → thread_in s.threads t.number ≡ o → o ≡ None
      by None e = refl
      by (Some y) e =
          let f = is_thread t.number in
          let once = sound.names.numbers_differ t.number in
          let packed : tot f (thread_things n true t) ≡ 1 + tot f (had_by n t) = ap (λ b. one b + tot f (had_by n t)) (eq-eqb t.number t.number refl) in
          let standing : tot f (thread_things n false y) ≡ 1 + tot f (had_by n y) = ap (λ b. one b + tot f (had_by n y)) (eq-eqb y.number t.number (thread_number s.threads t.number y e)) in
          absurd (omega (arith, once, packed, standing, within f, (tot-server f k.servers number s s here).0, server_parts f s, tot-remove (λ x. message_things n x) f 0 s.rest.inbox i m q, tot-without n f s.threads t.number y e))

  stands : (m : Message) (t : ThreadState) → slice_get s.rest.inbox i ≡ Some m → ((f : Thing → ℕ) → tot f (thread_things n true t) ≤ tot f (message_things n m)) → IsSome (arrive t (received i s))
  stands m t q within = subst (λ o. IsSome (stand o t (received i s))) (sym (alone m t q within)) refl

pub starts : StartsHaveResults
starts k n i s t sound here on q = arrives k n i s (message.Start t) here on q (stands k sound n i s here (message.Start t) t q (λ f. omega arith))

pub parcels : ParcelsHaveResults
parcels k n i s t sound here on q = arrives k n i s (message.Migrate t) here on q (stands k sound n i s here (message.Migrate t) t q (λ f. omega arith))
