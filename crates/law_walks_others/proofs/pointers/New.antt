-- Who stands after an event that answers nobody, without having stood before, has just started: it is ready and has no gift.
use Rattle.std.proofs.Common.{◌≡◌, ◌⊎◌, ℕ, ◌+◌, not, Bool, true, false, Option, Some, None, is_some, inl, inr, refl, sym, ap, ◌∙◌}
use Rattle.std.specs.Prelude.{slice_get}
use Rattle.law_words_values.specs.Below.thread_state.View.{ThreadState}
use Rattle.law_words_values.specs.Below.journal.View.{EntryView}
use Rattle.law_words_values.specs.Below.heap_partition.declared.value.Cell.{Cell}
use Rattle.law_words_values.specs.Below.server_msgs.declared.message.Message.TheVariants as message
use Rattle.law_words_values.specs.Below.server_model.declared.event.Event.{Event}
use Rattle.law_words_values.specs.Below.server_model.declared.event.What.TheVariants.{Step, Deliver}
use Rattle.law_words_values.specs.Below.server_model.Servers.{Server, Cluster, server_at}
use Rattle.law_words_values.specs.Below.server_model.Work.{Hand, thread_in}
use Rattle.law_words_values.specs.Below.server_model.Events.{Stepped, begin_work, received, step, is_ready}
use Rattle.law_words_values.specs.Below.server_model.Objects.{deliver_fetched, deliver_moved}
use Rattle.law_words_values.specs.Below.server_model.Clusters.{apply}
use Rattle.law_words_values.specs.Below.coherent_memory.Names.{tot, one, if_so}
use Rattle.law_words_values.specs.Below.coherent_memory.Things.{things_of}
use Rattle.law_words_values.specs.Below.coherent_memory.Follow.{Standing, threads_in, thread_at}
use Rattle.law_words_values.specs.Below.coherent_memory.Sight.{sight}
use Rattle.law_words_values.specs.Below.coherent_memory.Coherent.{IsSound}
use Rattle.law_words_values.proofs.Below.coherent_memory.Words.{none_all}
use Rattle.law_words_values.specs.Below.law_counts_sums.Laws.{Gives, FewEvents}
use Rattle.law_words_values.proofs.Below.law_counts_sums.Results.{weaker}
use Rattle.law_words_values.proofs.Below.law_counts_sums.Bags.{thread_number}
use Rattle.law_words_values.proofs.Below.law_counts_sums.ThreadThere.{thread_there}
use Rattle.law_words_values.proofs.Below.law_heap_still.events.Told.{found}
use Rattle.law_words_values.proofs.Below.law_counts_things.things.Goes.{Goes, thread_goes}
use Rattle.law_words_values.proofs.Below.law_counts_things.things.Handed.{Stood, InParcel}
use Rattle.law_counts_waiting.proofs.waits.Fates.{Fates, fated}
use Rattle.law_walks_others.proofs.pointers.Clusters.{goes_number}

any_gives : {X : Type 0} (P : X → Type 0) (o : Option X) → ((x : X) → P x) → Gives P o
any_gives P None f = tt
any_gives P (Some x) f = f x

-- a thread that didn't stand before, and isn't ready or has a gift
abbrev pub newly : Cluster → Standing → ℕ
newly k x = if_so (not (is_some (thread_at (sight k).ground.threads x.thread.number))) (one (not (is_ready x.thread.phase)) + one (is_some x.thread.gift))

-- the event brings no object and no copy to a thread
abbrev pub IsQuiet : Cluster → Event → Type 0
IsQuiet k e = (s : Server) → server_at k.servers e.server ≡ Some s → (i t v : ℕ) (c : Cell) → e.what ≡ Deliver i → (slice_get s.rest.inbox i ≡ Some (message.Moved v c t)) ⊎ (slice_get s.rest.inbox i ≡ Some (message.Fetched v c t)) → ⊥

-- a step is such a one
pub step_quiet : (k : Cluster) (e : Event) (t : ℕ) → e.what ≡ Step t → IsQuiet k e
step_quiet k e t is s here i u v c f g = let h : Step t ≡ Deliver i = sym is ∙ f in absurd (cc h)

module _ (k : Cluster) (sound : IsSound k) where
  -- who stood before isn't new
  stood : (x : Standing) → is_some (thread_at (sight k).ground.threads x.thread.number) ≡ true → newly k x ≡ 0
  stood x e = ap (λ b. if_so (not b) (one (not (is_ready x.thread.phase)) + one (is_some x.thread.gift))) e

  none_before : tot (newly k) (threads_in (things_of k)) ≡ 0
  none_before = none_all (newly k) (threads_in (things_of k)) (λ x among. stood x (ap is_some (found x (things_of k) (sound.names.numbers_differ x.thread.number) among)))

  module _ (e : Event) (quiet : IsQuiet k e) (s : Server) (here : server_at k.servers e.server ≡ Some s) where
    -- one of its threads
    its : (t : ℕ) (y : ThreadState) → thread_in s.threads t ≡ Some y → is_some (thread_at (sight k).ground.threads y.number) ≡ true
    its t y there = ap (λ n. is_some (thread_at (sight k).ground.threads n)) (thread_number s.threads t y there) ∙ ap is_some (thread_there k sound e.server s here t y there)

    fates : Fates k.code k.options s e.what (Stood (newly k) s.rest.number) (InParcel (newly k))
    fates = record {
      steps = λ t y i is able there p code.
          weaker (λ (d : Stepped). Goes k.code y d.hand.thread) (λ (d : Stepped). Stood (newly k) s.rest.number d.hand.thread) (step k.options.servers i (record { work = begin_work s.rest; thread = y }))
          (thread_goes k.code k.options.servers i y code s.rest (record { work = begin_work s.rest; thread = y }) refl)
          (λ d g. stood (record { server = s.rest.number; packed = false; thread = d.hand.thread }) (ap (λ n. is_some (thread_at (sight k).ground.threads n)) (goes_number g) ∙ its t y there));
      comes = λ i t v c y is there at p. any_gives (λ (h : Hand). Stood (newly k) s.rest.number h.thread) (deliver_moved k.code v c (record { work = (received i s).work; thread = y })) (λ h. absurd (quiet s here i t v c is (inl there)));
      copied = λ i t v c y is there at p. any_gives (λ (h : Hand). Stood (newly k) s.rest.number h.thread) (deliver_fetched v c (record { work = (received i s).work; thread = y })) (λ h. absurd (quiet s here i t v c is (inr there)));
      given_it = λ t y v there p a. stood (record { server = s.rest.number; packed = false; thread = record y { gift = Some v; phase = Rattle.law_words_values.specs.Below.thread_state.declared.phase.Phase.TheVariants.Got } }) (its t y there);
      paired = λ t a b y there p q. stood (record { server = s.rest.number; packed = false; thread = record y { phase = Rattle.law_words_values.specs.Below.thread_state.declared.phase.Phase.TheVariants.GotPar a b } }) (its t y there);
      arrives = λ t q. q;
      starts = λ t n y i u pc vs there p at d. none_weighs (is_some (thread_at (sight k).ground.threads u));
      leaves = λ t n y there p r. stood (record { server = n; packed = true; thread = Rattle.law_words_values.specs.Below.migration.Packing.packed (record y { moved_since_step = true }) }) (its t y there);
    }
      where
        none_weighs : (b : Bool) → if_so (not b) 0 ≡ 0
        none_weighs true = refl
        none_weighs false = refl

  pub new_ones : (e : Event) → IsQuiet k e → FewEvents k → Gives (λ (d : Cluster × EntryView). tot (newly k) (threads_in (things_of d.0)) ≡ 0) (apply k e)
  new_ones e quiet few = fated (newly k) k e sound few none_before (λ s here. fates e quiet s here)
