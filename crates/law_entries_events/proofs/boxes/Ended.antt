-- From what a step that is done comes to, to its entry in the cluster afterwards.
use Rattle.std.proofs.Common.{◌≡◌, ℕ, Bool, true, false, Option, Some, None, is_some, option_map, refl, sym, ap, subst, ◌∙◌}
use Rattle.std.specs.Prelude.{slice_get}
use Rattle.law_entries_writes.specs.Below.law_copies_kept.Below.fr_base.declared.instruction.Instr.{Instr}
use Rattle.law_entries_writes.specs.Below.law_copies_kept.Below.fr_base.declared.step.Fresh.{Fresh}
use Rattle.law_entries_writes.specs.Below.law_copies_kept.Below.thread_state.View.{ThreadState}
use Rattle.law_entries_writes.specs.Below.law_copies_kept.Below.journal.View.{EntryView}
use Rattle.law_entries_writes.specs.Below.law_copies_kept.Below.server_model.declared.event.Event.{Event}
use Rattle.law_entries_writes.specs.Below.law_copies_kept.Below.server_model.declared.event.What.TheVariants.{Step}
use Rattle.law_entries_writes.specs.Below.law_copies_kept.Below.server_model.Servers.{Server, Cluster, server_at}
use Rattle.law_entries_writes.specs.Below.law_copies_kept.Below.server_model.Work.{Hand, thread_in, then_some}
use Rattle.law_entries_writes.specs.Below.law_copies_kept.Below.server_model.Events.{enabled, begin_work, Stepped, step, step_in, stepped, does}
use Rattle.law_entries_writes.specs.Below.law_copies_kept.Below.server_model.Clusters.{apply}
use Rattle.law_entries_writes.specs.Below.law_entries_variables.Below.coloured_heap.Heap.{Coloured}
use Rattle.law_entries_writes.specs.Below.law_copies_kept.Below.coherent_memory.Sight.{sight}
use Rattle.law_entries_writes.specs.Below.law_copies_kept.Below.coherent_memory.Words.{HasWords}
use Rattle.law_entries_writes.specs.Below.law_copies_kept.Below.coherent_types.ClusterTypes.{IsCoherent}
use Rattle.law_entries_writes.proofs.Below.law_copies_kept.Below.law_words_paths.paths.Sole.{some_is}
use Rattle.law_entries_writes.specs.Below.law_copies_kept.Below.law_counts_sums.Laws.{Gives, FewEvents}
use Rattle.law_entries_writes.proofs.Below.law_copies_kept.Below.law_counts_sums.Results.{over_gives, both_give}
use Rattle.law_entries_writes.proofs.Below.law_copies_kept.Below.law_words_values.carried.Hands.{ThereBy, places}
use Rattle.law_entries_writes.proofs.Below.law_copies_kept.references.WordedCopies.{then_holds}
use Rattle.law_entries_writes.specs.Below.law_entries_variables.deliveries.Entries.{LeadsOn}
use Rattle.law_entries_writes.proofs.Below.law_entries_variables.deliveries.Applied.{Afterwards, applied_by}
use Rattle.law_entries_writes.proofs.Below.law_entries_reads.asks.Agreeing.{Rewords}
use Rattle.law_entries_writes.proofs.Below.law_entries_reads.asks.Ending.{reworded_on, IsOk, Ended}

module _ (k : Cluster) (coherent : IsCoherent k) (s : Server) (here : server_at k.servers s.rest.number ≡ Some s) (t : ℕ) (y : ThreadState) (at : thread_in s.threads t ≡ Some y) (c0 : Coloured) (few : FewEvents k) (i : Instr) (code : slice_get k.code y.pc ≡ Some i) where
  abbrev before : HasWords (sight k)
  before = coherent.sound.words.have_words

  abbrev e : Event
  e = record { server = s.rest.number; what = Step t }

  abbrev start : Hand
  start = record { work = begin_work s.rest; thread = y }

  -- where it is done some words were given, and with these its entry leads on
  abbrev pub Outcome : Stepped → Type 0
  Outcome d = is_some d.names ≡ true → IsOk k coherent s here t y at c0 d.hand → Ended k coherent s here t y at c0 d

  abbrev Done : Cluster × EntryView → Type 0
  Done x = is_some x.1.done ≡ true → LeadsOn k.options x.1 c0 x.0

  -- at its server
  at_server : (Q : Stepped → Type 0) (T : Server × EntryView → Type 0) → ((d : Stepped) → Q d → T (stepped s d)) → Gives Q (step k.options.servers i start) → Gives T (does k.code k.options s (Step t))
  at_server Q T go g =
      subst (λ o. Gives T (option_map (stepped s) (then_some (option_map (λ v. record { work = begin_work s.rest; thread = v }) o) (step_in k.code k.options.servers)))) (sym at)
      (subst (λ o. Gives T (option_map (stepped s) (then_some o (λ j. step k.options.servers j start)))) (sym code) (over_gives Q T (step k.options.servers i start) (stepped s) g go))

  -- in its cluster
  in_cluster : (P : Cluster × EntryView → Type 0) → (enabled k.options s (Step t) ≡ true → Gives (λ (r : Server × EntryView). (c : Cluster) → Afterwards k s r.0 c → P (c, r.1)) (does k.code k.options s (Step t))) → Gives P (apply k e)
  in_cluster P g =
      applied_by P k e coherent.sound few
      (λ u there on. subst (λ (v : Server). enabled k.options v (Step t) ≡ true → Gives (λ (r : Server × EntryView). (c : Cluster) → Afterwards k v r.0 c → P (c, r.1)) (does k.code k.options v (Step t))) (some_is (sym here ∙ there)) g on)

  abbrev Step_is : Stepped → Stepped → Type 0
  Step_is d u = u ≡ d

  -- one that is known
  known_step : (d : Stepped) → step k.options.servers i start ≡ Some d → Gives (Step_is d) (step k.options.servers i start)
  known_step d same = subst (Gives (Step_is d)) (sym same) refl

  led : (d : Stepped) → step k.options.servers i start ≡ Some d → IsOk k coherent s here t y at c0 d.hand → Ended k coherent s here t y at c0 d → Gives Done (apply k e)
  led d same ok q =
      both_give (λ (x : Cluster × EntryView). Rewords k x.0 q.words before) (λ (x : Cluster × EntryView). Rewords k x.0 q.words before → LeadsOn k.options x.1 c0 x.0) Done (apply k e)
      (then_holds (λ c. Rewords k c q.words before) (λ a b r stay. reworded_on k a b q.words before r stay) k s t coherent.sound few here
      (λ on. at_server (Step_is d) (ThereBy (λ a b. Rewords k b q.words before) k s) (λ u is. subst (λ v. ThereBy (λ a b. Rewords k b q.words before) k s (stepped s v)) (sym is) (q.left, places k coherent.sound s here t y at d.hand ok)) (known_step d same)))
      (in_cluster (λ (x : Cluster × EntryView). Rewords k x.0 q.words before → LeadsOn k.options x.1 c0 x.0)
      (λ on. at_server (Step_is d) (λ (r : Server × EntryView). (c : Cluster) → Afterwards k s r.0 c → Rewords k c q.words before → LeadsOn k.options r.1 c0 c)
      (λ u is. subst (λ v. (c : Cluster) → Afterwards k s (stepped s v).0 c → Rewords k c q.words before → LeadsOn k.options (stepped s v).1 c0 c) (sym is) q.leads) (known_step d same)))
      (λ x r go done. go r)

  -- where nothing comes of it, or it isn't done
  unled : (enabled k.options s (Step t) ≡ true → Gives (λ (d : Stepped). d.names ≡ None) (step k.options.servers i start)) → Gives Done (apply k e)
  unled g =
      in_cluster Done
      (λ on. at_server (λ (d : Stepped). d.names ≡ None) (λ (r : Server × EntryView). (c : Cluster) → Afterwards k s r.0 c → Done (c, r.1)) (λ d none c after done. absurd (let no : true ≡ false = sym done ∙ ap is_some none in cc no)) (g on))

  by_step : (o : Option Stepped) → step k.options.servers i start ≡ o → Gives (λ (d : Stepped). IsOk k coherent s here t y at c0 d.hand) o → Gives Outcome o → Gives Done (apply k e)
  by_step None same ok g = unled (λ on. subst (Gives (λ (d : Stepped). d.names ≡ None)) (sym same) tt)
  by_step (Some d) same ok g = by d.names refl
    where
      by : (o : Option Fresh) → d.names ≡ o → Gives Done (apply k e)
      by None q = unled (λ on. subst (Gives (λ (x : Stepped). x.names ≡ None)) (sym same) q)
      by (Some names) q = led d same ok (g (ap is_some q) ok)

  pub ends_done : (enabled k.options s (Step t) ≡ true → Gives (λ (d : Stepped). IsOk k coherent s here t y at c0 d.hand) (step k.options.servers i start)) → (enabled k.options s (Step t) ≡ true → Gives Outcome (step k.options.servers i start)) → Gives Done (apply k e)
  ends_done ok g = by (enabled k.options s (Step t)) refl
    where
      by : (b : Bool) → enabled k.options s (Step t) ≡ b → Gives Done (apply k e)
      by true on = by_step (step k.options.servers i start) refl (ok on) (g on)
      by false off = unled (λ on. let no : false ≡ true = sym off ∙ on in absurd cc)
