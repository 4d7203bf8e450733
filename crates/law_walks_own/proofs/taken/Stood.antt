-- Who stands after an event without having stood before has just started, whatever the event is: it is ready and has no gift.
use Rattle.std.proofs.Common.{◌≡◌, ℕ, ◌+◌, not, Bool, true, false, Some, is_some, refl, ap, ◌∙◌}
use Rattle.law_words_ends.specs.Below.migration.Packing.{packed}
use Rattle.law_words_ends.specs.Below.thread_state.View.{ThreadState}
use Rattle.law_words_ends.specs.Below.thread_state.declared.phase.Phase.TheVariants as phase
use Rattle.law_words_ends.specs.Below.journal.View.{EntryView}
use Rattle.law_words_ends.specs.Below.server_model.declared.event.Event.{Event}
use Rattle.law_words_ends.specs.Below.server_model.Servers.{Server, Cluster, server_at}
use Rattle.law_words_ends.specs.Below.server_model.Work.{Hand, thread_in}
use Rattle.law_words_ends.specs.Below.server_model.Events.{Stepped, begin_work, received, step, is_ready}
use Rattle.law_words_ends.specs.Below.server_model.Objects.{deliver_fetched, deliver_moved}
use Rattle.law_words_ends.specs.Below.server_model.Clusters.{apply}
use Rattle.law_words_ends.specs.Below.coherent_memory.Names.{tot, one, if_so}
use Rattle.law_words_ends.specs.Below.coherent_memory.Things.{things_of}
use Rattle.law_words_ends.specs.Below.coherent_memory.Follow.{Standing, threads_in, thread_at}
use Rattle.law_words_ends.specs.Below.coherent_memory.Sight.{sight}
use Rattle.law_words_ends.specs.Below.coherent_memory.Coherent.{IsSound}
use Rattle.law_words_ends.proofs.Below.coherent_memory.Words.{none_all}
use Rattle.law_words_ends.specs.Below.law_counts_sums.Laws.{Gives, FewEvents}
use Rattle.law_words_ends.proofs.Below.law_counts_sums.Results.{weaker}
use Rattle.law_words_ends.proofs.Below.law_counts_sums.Bags.{thread_number}
use Rattle.law_words_ends.proofs.Below.law_counts_sums.ThreadThere.{thread_there}
use Rattle.law_words_ends.proofs.Below.law_heap_still.events.Told.{found}
use Rattle.law_words_ends.proofs.Below.law_counts_things.things.Goes.{Goes, IsGotten, thread_goes, moved_goes, fetched_goes}
use Rattle.law_words_ends.proofs.Below.law_counts_things.things.Handed.{Stood, InParcel}
use Rattle.law_walks_others.proofs.Below.law_counts_waiting.waits.Fates.{Fates, fated}
use Rattle.law_walks_others.proofs.pointers.Clusters.{goes_number}
use Rattle.law_walks_others.proofs.pointers.New.{newly}

module _ (k : Cluster) (sound : IsSound k) where
  -- who stood before isn't new
  stood : (x : Standing) → is_some (thread_at (sight k).ground.threads x.thread.number) ≡ true → newly k x ≡ 0
  stood x e = ap (λ b. if_so (not b) (one (not (is_ready x.thread.phase)) + one (is_some x.thread.gift))) e

  none_before : tot (newly k) (threads_in (things_of k)) ≡ 0
  none_before = none_all (newly k) (threads_in (things_of k)) (λ x among. stood x (ap is_some (found x (things_of k) (sound.names.numbers_differ x.thread.number) among)))

  module _ (e : Event) (s : Server) (here : server_at k.servers e.server ≡ Some s) where
    -- one of its threads
    its : (t : ℕ) (y : ThreadState) → thread_in s.threads t ≡ Some y → is_some (thread_at (sight k).ground.threads y.number) ≡ true
    its t y there = ap (λ n. is_some (thread_at (sight k).ground.threads n)) (thread_number s.threads t y there) ∙ ap is_some (thread_there k sound e.server s here t y there)

    goes_on : (t n : ℕ) (b : Bool) (y y2 : ThreadState) → thread_in s.threads t ≡ Some y → Goes k.code y y2 → newly k (record { server = n; packed = b; thread = y2 }) ≡ 0
    goes_on t n b y y2 there g = stood (record { server = n; packed = b; thread = y2 }) (ap (λ m. is_some (thread_at (sight k).ground.threads m)) (goes_number g) ∙ its t y there)

    abbrev Gets : ThreadState → Hand → Type 0
    Gets y h = (g : Goes k.code y h.thread) × IsGotten g

    fates : Fates k.code k.options s e.what (Stood (newly k) s.rest.number) (InParcel (newly k))
    fates = record {
      steps = λ t y i is able there p code.
          weaker (λ (d : Stepped). Goes k.code y d.hand.thread) (λ (d : Stepped). Stood (newly k) s.rest.number d.hand.thread) (step k.options.servers i (record { work = begin_work s.rest; thread = y }))
          (thread_goes k.code k.options.servers i y code s.rest (record { work = begin_work s.rest; thread = y }) refl) (λ d g. goes_on t s.rest.number false y d.hand.thread there g);
      comes = λ i t v c y is there at p.
          weaker (Gets y) (λ (h : Hand). Stood (newly k) s.rest.number h.thread) (deliver_moved k.code v c (record { work = (received i s).work; thread = y }))
          (moved_goes k.code y v c (record { work = (received i s).work; thread = y }) refl) (λ h g. goes_on t s.rest.number false y h.thread at g.0);
      copied = λ i t v c y is there at p.
          weaker (Gets y) (λ (h : Hand). Stood (newly k) s.rest.number h.thread) (deliver_fetched v c (record { work = (received i s).work; thread = y }))
          (fetched_goes k.code y v c (record { work = (received i s).work; thread = y }) refl) (λ h g. goes_on t s.rest.number false y h.thread at g.0);
      given_it = λ t y v there p a. stood (record { server = s.rest.number; packed = false; thread = record y { gift = Some v; phase = phase.Got } }) (its t y there);
      paired = λ t a b y there p q. stood (record { server = s.rest.number; packed = false; thread = record y { phase = phase.GotPar a b } }) (its t y there);
      arrives = λ t q. q;
      starts = λ t n y i u pc vs there p at d. none_weighs (is_some (thread_at (sight k).ground.threads u));
      leaves = λ t n y there p r. stood (record { server = n; packed = true; thread = packed (record y { moved_since_step = true }) }) (its t y there);
    }
      where
        none_weighs : (b : Bool) → if_so (not b) 0 ≡ 0
        none_weighs true = refl
        none_weighs false = refl

  pub none_new : (e : Event) → FewEvents k → Gives (λ (d : Cluster × EntryView). tot (newly k) (threads_in (things_of d.0)) ≡ 0) (apply k e)
  none_new e few = fated (newly k) k e sound few none_before (λ s here. fates e s here)
