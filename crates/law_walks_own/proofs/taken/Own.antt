-- After its own step a thread has taken nothing.
use Rattle.std.proofs.Common.{◌≡◌, ℕ, ◌≤◌, true, false, List, Option, Some, None, option_map, refl, sym, subst, ◌∙◌, arith}
use Rattle.std.specs.Prelude.{slice_get}
use Rattle.law_words_ends.specs.Below.fr_base.declared.instruction.Instr.{Instr}
use Rattle.law_words_ends.specs.Below.thread_state.View.{ThreadState}
use Rattle.law_words_ends.specs.Below.journal.View.{EntryView}
use Rattle.law_words_ends.specs.Below.server_model.declared.event.Event.{Event}
use Rattle.law_words_ends.specs.Below.server_model.declared.event.What.TheVariants.{Step}
use Rattle.law_words_ends.specs.Below.server_model.Servers.{Server, Cluster, server_at}
use Rattle.law_words_ends.specs.Below.server_model.Work.{thread_in, then_some}
use Rattle.law_words_ends.specs.Below.server_model.Prepare.{is_taken}
use Rattle.law_words_ends.specs.Below.server_model.Events.{Stepped, can_step, has_phase, enabled, begin_work, step, step_in, stepped, does}
use Rattle.law_words_ends.specs.Below.server_model.Clusters.{with_server, done_at, act_at, apply}
use Rattle.law_words_ends.specs.Below.coherent_memory.Names.{tot}
use Rattle.law_words_ends.specs.Below.coherent_memory.Things.{Thing, stands, server_things, servers_things, things_of}
use Rattle.law_words_ends.specs.Below.coherent_memory.Coherent.{IsSound}
use Rattle.law_words_ends.proofs.Below.coherent_memory.Sums.{tot-append}
use Rattle.law_words_ends.specs.Below.law_counts_sums.Laws.{Gives, FewEvents}
use Rattle.law_words_ends.proofs.Below.law_counts_sums.Applied.{handed_on}
use Rattle.law_words_ends.proofs.Below.law_counts_sums.Bags.{all_standing, rest_things, server_same, thread_number, tot-set}
use Rattle.law_words_ends.proofs.Below.law_counts_sums.Events.{tot-server}
use Rattle.law_words_ends.proofs.Below.law_counts_sums.Results.{then_gives, over_gives, test_gives}
use Rattle.law_words_ends.proofs.Below.law_counts_sums.Sending.{each_event_sends}
use Rattle.law_words_ends.proofs.Below.law_counts_things.things.Goes.{Goes, thread_goes}
use Rattle.law_walks_others.proofs.Below.law_counts_waiting.waits.Takers.{step_untaken}
use Rattle.law_walks_others.proofs.pointers.Clusters.{goes_number}

-- the thread that stepped is there, and has taken nothing
pub record Untaken (t : ℕ) (b : List Thing) : Type 0 where
  pub server : ℕ
  pub thread : ThreadState
  pub number : thread.number ≡ t
  pub untaken : is_taken thread.phase ≡ false
  pub there : (f : Thing → ℕ) → f (stands server false thread) ≤ tot f b

-- among other things too
untaken_on : (t : ℕ) (a b : List Thing) → ((f : Thing → ℕ) → tot f a ≤ tot f b) → Untaken t a → Untaken t b
untaken_on t a b go u = record { server = u.server; thread = u.thread; number = u.number; untaken = u.untaken; there = λ f. (let l = u.there f in omega (arith, l, go f)) }

module _ (code : List Instr) (servers : ℕ) (s : Server) (t : ℕ) (able : has_phase can_step (thread_in s.threads t) ≡ true) where
  abbrev Then : Server × EntryView → Type 0
  Then r = Untaken t (server_things r.0)

  left : (y : ThreadState) → thread_in s.threads t ≡ Some y → can_step y.phase ≡ true → (d : Stepped) → Goes code y d.hand.thread → Then (stepped s d)
  left y at can d g =
      let s2 : Server = (stepped s d).0 in
      let m : ℕ = s2.rest.number in
      let numbered : d.hand.thread.number ≡ t = goes_number g ∙ thread_number s.threads t y at in
      record {
        server = m;
        thread = d.hand.thread;
        number = numbered;
        untaken = step_untaken can g;
        there = λ f. omega (arith, server_same s2 f, tot-append f (all_standing m s2.threads) (rest_things m s2.events s2.rest), tot-set m f s.threads t y d.hand.thread at numbered);
      }

  leaves : Gives Then (option_map (stepped s) (then_some (option_map (λ y. record { work = begin_work s.rest; thread = y }) (thread_in s.threads t)) (step_in code servers)))
  leaves = by (thread_in s.threads t) refl able
    where
      at : (y : ThreadState) → thread_in s.threads t ≡ Some y → can_step y.phase ≡ true → (o : Option Instr) → slice_get code y.pc ≡ o → Gives Then (option_map (stepped s) (then_some o (λ i. step servers i (record { work = begin_work s.rest; thread = y }))))
      at y q can None e = tt
      at y q can (Some i) e =
          over_gives (λ (d : Stepped). Goes code y d.hand.thread) Then (step servers i (record { work = begin_work s.rest; thread = y })) (stepped s)
          (thread_goes code servers i y e s.rest (record { work = begin_work s.rest; thread = y }) refl) (λ d g. left y q can d g)

      by : (o : Option ThreadState) → thread_in s.threads t ≡ o → has_phase can_step o ≡ true → Gives Then (option_map (stepped s) (then_some (option_map (λ y. record { work = begin_work s.rest; thread = y }) o) (step_in code servers)))
      by None q can = tt
      by (Some y) q can = at y q can (slice_get code y.pc) refl

-- IN ITS CLUSTER

module _ (k : Cluster) (e : Event) (t : ℕ) (is : e.what ≡ Step t) (sound : IsSound k) (few : FewEvents k) where
  acted : Gives (λ (d : Cluster × EntryView). Untaken t (things_of d.0)) (act_at k e)
  acted =
      then_gives (λ (d : Cluster × EntryView). Untaken t (things_of d.0)) (server_at k.servers e.server) _ (λ s here.
      over_gives (λ (r : Server × EntryView). Untaken t (server_things r.0)) (λ (d : Cluster × EntryView). Untaken t (things_of d.0)) (done_at k e.what s) _
      (test_gives (λ (r : Server × EntryView). Untaken t (server_things r.0)) (enabled k.options s e.what) (does k.code k.options s e.what) (λ able.
      subst (λ w. enabled k.options s w ≡ true → Gives (λ (r : Server × EntryView). Untaken t (server_things r.0)) (does k.code k.options s w)) (sym is) (λ on. leaves k.code k.options.servers s t on) able))
      (λ r u. untaken_on t (server_things r.0) (servers_things (with_server k.servers e.server r.0)) (λ f. (let b = tot-server f k.servers e.server s r.0 here in omega (arith, b.1))) u))

  pub own_untaken : Gives (λ (d : Cluster × EntryView). Untaken t (things_of d.0)) (apply k e)
  own_untaken = handed_on (λ z. Untaken t (things_of z)) (λ z a b same u. untaken_on t (servers_things a) (servers_things b) (λ f. (let h = same f in omega (arith, h))) u) k e (each_event_sends k e sound few) acted
