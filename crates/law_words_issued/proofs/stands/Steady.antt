-- Each event in which no object comes or goes and no pointer gets another word keeps it that each word was issued.
use Rattle.std.proofs.Common.{◌≡◌, ℕ, Option, Some, None, refl, sym, ap, subst, ◌∙◌}
use Rattle.std.specs.Prelude.{slice_get, option_map}
use Rattle.law_walks_own.specs.Below.fr_base.declared.instruction.Instr.{Instr}
use Rattle.law_walks_own.specs.Below.fr_base.declared.instruction.Instr.TheVariants as instr
use Rattle.law_walks_own.specs.Below.thread_state.View.{ThreadState}
use Rattle.law_walks_own.specs.Below.server_msgs.declared.message.Message.{Message}
use Rattle.law_walks_own.specs.Below.server_msgs.declared.message.Message.TheVariants as message
use Rattle.law_walks_own.specs.Below.journal.View.{EntryView}
use Rattle.law_walks_own.specs.Below.server_model.declared.event.What.{What}
use Rattle.law_walks_own.specs.Below.server_model.declared.event.What.TheVariants.{Step, Deliver, Evict, Migrate}
use Rattle.law_walks_own.specs.Below.server_model.declared.event.Event.{Event}
use Rattle.law_walks_own.specs.Below.server_model.Servers.{Server, Cluster, server_at}
use Rattle.law_walks_own.specs.Below.server_model.Work.{then_some, thread_in}
use Rattle.law_walks_own.specs.Below.server_model.Places.{nowhere}
use Rattle.law_walks_own.specs.Below.server_model.Events.{does}
use Rattle.law_walks_own.specs.Below.server_model.Clusters.{apply}
use Rattle.law_walks_own.specs.Below.coherent_memory.Sight.{sight}
use Rattle.law_walks_own.specs.Below.coherent_memory.Coherent.{IsSound, Holds, are_issued}
use Rattle.law_walks_own.specs.Below.law_counts_sums.Kinds.{Kind, evicts, migrates, starts, arrives, fetch, fetched, asks_lock, granted, unlocked, asks_dup, dupped, released, asks_join, joined, finished, step_print, step_arith, step_par_end, instr_kind, message_kind, kind_at}
use Rattle.law_walks_own.specs.Below.law_counts_sums.Laws.{Gives, FewEvents}
use Rattle.law_walks_own.proofs.Below.law_counts_sums.Results.{both_give, weaker}
use Rattle.law_walks_own.proofs.Below.law_words_kept.stays.StayKinds.{Stays as StaysOfKind, kind_stays}
use Rattle.law_walks_own.specs.Below.law_words_paths.words.Unmoved.{WordsStay, LeavesWords}
use Rattle.law_walks_own.proofs.Below.law_counts_things.names.Sums.{base_of}
use Rattle.law_walks_own.specs.Below.law_counts_waiting.waits.Steady.{IsSteady, EachSteadyEventKeeps}
use Rattle.law_words_issued.specs.stands.Issuing.{MakesNone, IsReady}
use Rattle.law_words_issued.proofs.stands.Words.{only}
use Rattle.law_words_issued.proofs.stands.Deliveries.{MovesNone}
use Rattle.law_words_issued.proofs.stands.Does.{ServerKept, stepping, delivering, evicting, leaving}
use Rattle.law_words_issued.proofs.stands.Events.{was, Good, same_good, fits, keeps_issued}

some_same : {X : Type 0} {a b : X} → Some a ≡ Some b → a ≡ b
some_same e = cc

steady_stays : (kind : Kind) → IsSteady kind → StaysOfKind kind
steady_stays evicts p = tt
steady_stays migrates p = tt
steady_stays starts p = tt
steady_stays arrives p = tt
steady_stays fetch p = tt
steady_stays fetched p = tt
steady_stays asks_lock p = tt
steady_stays granted p = tt
steady_stays unlocked p = tt
steady_stays asks_dup p = tt
steady_stays dupped p = tt
steady_stays released p = tt
steady_stays asks_join p = tt
steady_stays joined p = tt
steady_stays finished p = tt
steady_stays step_print p = tt
steady_stays step_arith p = tt
steady_stays step_par_end p = tt
steady_stays kind p = absurd p

-- a steady step follows no place and makes nothing new
steady_step : (i : Instr) → IsSteady (instr_kind i) → MakesNone i × ((s : Server) (y : ThreadState) → IsReady s y i)
steady_step (instr.Print o) p = (tt, λ s y. record { spot = nowhere; ready = refl })
steady_step (instr.Arith f a b) p = (tt, λ s y. record { spot = nowhere; ready = refl })
steady_step instr.ParEnd p = (tt, λ s y. record { spot = nowhere; ready = refl })
steady_step i p = absurd p

module _ (kind : Kind) (steady : IsSteady kind) (k : Cluster) (e : Event) (sound : IsSound k) (few : FewEvents k) where
  -- no object comes or goes with a steady message
  steady_message : (s : Server) (m : Message) → IsSteady (message_kind m) → MovesNone (only (was k e sound few)) (base_of s) s.rest.partition m
  steady_message s (message.Move v o r t) p = absurd p
  steady_message s (message.Moved v c t) p = absurd p
  steady_message s (message.Drop v o) p = absurd p
  steady_message s m p = tt

  module _ (s : Server) (here : server_at k.servers e.server ≡ Some s) where
    abbrev Stays : Server × EntryView → Type 0
    Stays r = ServerKept (only (was k e sound few)) (base_of s) s.rest.partition r.0

    with_instr : (t : ℕ) (y : ThreadState) → thread_in s.threads t ≡ Some y → (o : Option Instr) → slice_get k.code y.pc ≡ o → option_map instr_kind o ≡ Some kind → Gives Stays (does k.code k.options s (Step t))
    with_instr t y a None c r = absurd (cc r)
    with_instr t y a (Some i) c r =
        let calm = steady_step i (subst IsSteady (sym (some_same r)) steady) in
        stepping (was k e sound few) (base_of s) s.rest.partition k.code k.options s (fits k e sound few s here) t y i a c calm.0 (calm.1 s y)

    with_thread : (t : ℕ) (o : Option ThreadState) → thread_in s.threads t ≡ o → then_some o (λ x. option_map instr_kind (slice_get k.code x.pc)) ≡ Some kind → Gives Stays (does k.code k.options s (Step t))
    with_thread t None a r = absurd (cc r)
    with_thread t (Some y) a r = with_instr t y a (slice_get k.code y.pc) refl r

    stays_well : (w : What) → kind_at k w s ≡ Some kind → Gives Stays (does k.code k.options s w)
    stays_well (Step t) q = with_thread t (thread_in s.threads t) refl q
    stays_well (Deliver i) q =
        delivering (was k e sound few) (base_of s) s.rest.partition k.code k.options s (fits k e sound few s here) i
        (λ m a. (steady_message s m (let r : Some (message_kind m) ≡ Some kind = sym (ap (option_map message_kind) a) ∙ q in subst IsSteady (sym (some_same r)) steady), λ v o r t c f h. refl))
    stays_well (Evict v) q = evicting (was k e sound few) (base_of s) s.rest.partition k.code k.options s (fits k e sound few s here) v
    stays_well (Migrate t target) q = leaving (was k e sound few) (base_of s) s.rest.partition k.code k.options s (fits k e sound few s here) t target

    does_well : (w : What) → kind_at k w s ≡ Some kind → Gives (Good k e sound few s here) (does k.code k.options s w)
    does_well w q = weaker Stays (Good k e sound few s here) (does k.code k.options s w) (stays_well w q) (λ r x. same_good k e sound few s here r x)

pub issued_steady : EachSteadyEventKeeps are_issued
issued_steady kind steady k e q sound few =
    both_give (λ (d : Cluster × EntryView). LeavesWords k d.0) (λ (d : Cluster × EntryView). WordsStay (sight k) (sight d.0) sound.words.have_words → Holds d.0 are_issued) (λ (d : Cluster × EntryView). Holds d.0 are_issued) (apply k e)
    (kind_stays kind (steady_stays kind steady) k e q sound few)
    (keeps_issued k e sound few (λ s here on. does_well kind steady k e sound few s here e.what (subst (λ o. then_some o (kind_at k e.what) ≡ Some kind) here q)) sound.words.have_words)
    (λ d stays go. go (stays.words sound.words.have_words))
