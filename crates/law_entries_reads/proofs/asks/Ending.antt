-- From what a step comes to, to its entry in the cluster afterwards: where it does no plain step, the entry leads on.
use Rattle.std.proofs.Common.{◌≡◌, ◌⊎◌, inl, inr, ℕ, Bool, true, false, Option, Some, None, option_map, refl, sym, subst, ◌∙◌}
use Rattle.std.specs.Prelude.{slice_get}
use Rattle.law_entries_reads.specs.Below.law_copies_kept.Below.fr_base.declared.instruction.Instr.{Instr}
use Rattle.law_entries_reads.specs.Below.law_copies_kept.Below.thread_state.View.{ThreadState}
use Rattle.law_entries_reads.specs.Below.law_copies_kept.Below.journal.View.{EntryView}
use Rattle.law_entries_reads.specs.Below.law_copies_kept.Below.server_model.declared.event.Event.{Event}
use Rattle.law_entries_reads.specs.Below.law_copies_kept.Below.server_model.declared.event.What.TheVariants.{Step}
use Rattle.law_entries_reads.specs.Below.law_copies_kept.Below.server_model.Servers.{Server, Cluster, server_at}
use Rattle.law_entries_reads.specs.Below.law_copies_kept.Below.server_model.Work.{Hand, thread_in, then_some}
use Rattle.law_entries_reads.specs.Below.law_copies_kept.Below.server_model.Events.{enabled, begin_work, Stepped, wait_step, step, step_in, stepped, does}
use Rattle.law_entries_reads.specs.Below.law_copies_kept.Below.server_model.Clusters.{apply}
use Rattle.law_entries_reads.specs.Below.law_entries_variables.Below.coloured_heap.Heap.{Coloured}
use Rattle.law_entries_reads.specs.Below.law_copies_kept.Below.coherent_memory.Sight.{sight}
use Rattle.law_entries_reads.specs.Below.law_copies_kept.Below.coherent_memory.Words.{HasWords}
use Rattle.law_entries_reads.specs.Below.law_copies_kept.Below.coherent_types.ClusterTypes.{IsCoherent}
use Rattle.law_entries_reads.proofs.Below.law_copies_kept.Below.law_words_paths.paths.Sole.{some_is}
use Rattle.law_entries_reads.specs.Below.law_copies_kept.Below.law_counts_sums.Laws.{Gives, FewEvents}
use Rattle.law_entries_reads.proofs.Below.law_copies_kept.Below.law_counts_sums.Results.{over_gives, both_give}
use Rattle.law_entries_reads.proofs.Below.law_copies_kept.Below.law_words_values.carried.Hands.{ThereBy, Ok, put, places}
use Rattle.law_entries_reads.proofs.Below.law_copies_kept.copies.Clean.{Leaves}
use Rattle.law_entries_reads.proofs.Below.law_copies_kept.references.WordedCopies.{then_holds}
use Rattle.law_entries_reads.specs.Below.law_entries_variables.deliveries.Entries.{LeadsOn}
use Rattle.law_entries_reads.proofs.Below.law_entries_variables.deliveries.Applied.{Afterwards, applied_by}
use Rattle.law_entries_reads.proofs.asks.Recoloured.{NewWords}
use Rattle.law_entries_reads.proofs.asks.Agreeing.{Rewords}

-- words that objects got stay where words stay
pub reworded_on : (k b c : Cluster) (l : NewWords) (before : HasWords (sight k)) → Rewords k b l before → Leaves b c → Rewords k c l before
reworded_on k b c l before r stay = let w = (stay.0).words r.after in record { after = w.after; word = λ o. w.same o ∙ r.word o }

module _ (k : Cluster) (coherent : IsCoherent k) (s : Server) (here : server_at k.servers s.rest.number ≡ Some s) (t : ℕ) (y : ThreadState) (at : thread_in s.threads t ≡ Some y) (c0 : Coloured) where
  abbrev n : ℕ
  n = s.rest.number

  abbrev pub IsOk : Hand → Type 0
  IsOk = Ok k coherent.sound s here t y at

  abbrev Put : Hand → Cluster
  Put h = put k coherent.sound s here t y at h

  abbrev before : HasWords (sight k)
  before = coherent.sound.words.have_words

  -- a hand that waits is as it was but for what is noted
  pub unwaited : (h : Hand) → IsOk (wait_step h).hand → IsOk h
  unwaited h ok = record { number = ok.number; thread = ok.thread; bag = ok.bag }

  -- what such a step comes to: some words were given, and with these its entry leads on
  pub record Ended (d : Stepped) : Type 0 where
    pub words : NewWords
    pub left : Rewords k (Put d.hand) words before
    pub leads : (c : Cluster) → Afterwards k s (stepped s d).0 c → Rewords k c words before → LeadsOn k.options (stepped s d).1 c0 c

  abbrev pub Ends : Stepped → Type 0
  Ends d = IsOk d.hand → Ended d

  -- a plain step was done, or it ends so
  abbrev pub DoneOrEnds : Stepped → Type 0
  DoneOrEnds d = (d.names ≡ None → ⊥) ⊎ Ends d

  module _ (few : FewEvents k) (i : Instr) (code : slice_get k.code y.pc ≡ Some i) where
    abbrev e : Event
    e = record { server = n; what = Step t }

    abbrev start : Hand
    start = record { work = begin_work s.rest; thread = y }

    abbrev pub Undone : Cluster × EntryView → Type 0
    Undone x = x.1.done ≡ None → LeadsOn k.options x.1 c0 x.0

    -- at its server
    at_server : (Q : Stepped → Type 0) (T : Server × EntryView → Type 0) → ((d : Stepped) → Q d → T (stepped s d)) → Gives Q (step k.options.servers i start) → Gives T (does k.code k.options s (Step t))
    at_server Q T go g =
        subst (λ o. Gives T (option_map (stepped s) (then_some (option_map (λ v. record { work = begin_work s.rest; thread = v }) o) (step_in k.code k.options.servers)))) (sym at)
        (subst (λ o. Gives T (option_map (stepped s) (then_some o (λ j. step k.options.servers j start)))) (sym code)
        (over_gives Q T (step k.options.servers i start) (stepped s) g go))

    -- in its cluster
    in_cluster : (P : Cluster × EntryView → Type 0) → (enabled k.options s (Step t) ≡ true → Gives (λ (r : Server × EntryView). (c : Cluster) → Afterwards k s r.0 c → P (c, r.1)) (does k.code k.options s (Step t))) → Gives P (apply k e)
    in_cluster P g =
        applied_by P k e coherent.sound few
        (λ u there on. subst (λ (v : Server). enabled k.options v (Step t) ≡ true → Gives (λ (r : Server × EntryView). (c : Cluster) → Afterwards k v r.0 c → P (c, r.1)) (does k.code k.options v (Step t))) (some_is (sym here ∙ there)) g on)

    abbrev Step_is : Stepped → Stepped → Type 0
    Step_is d u = u ≡ d

    -- one that is known
    known_step : (d : Stepped) → step k.options.servers i start ≡ Some d → Gives (Step_is d) (step k.options.servers i start)
    known_step d same = subst (Gives (Step_is d)) (sym same) refl

    led : (d : Stepped) → step k.options.servers i start ≡ Some d → IsOk d.hand → Ended d → Gives Undone (apply k e)
    led d same ok q =
        both_give (λ (x : Cluster × EntryView). Rewords k x.0 q.words before) (λ (x : Cluster × EntryView). Rewords k x.0 q.words before → LeadsOn k.options x.1 c0 x.0) Undone (apply k e)
        (then_holds (λ c. Rewords k c q.words before) (λ a b r stay. reworded_on k a b q.words before r stay) k s t coherent.sound few here
        (λ on. at_server (Step_is d) (ThereBy (λ a b. Rewords k b q.words before) k s) (λ u is. subst (λ v. ThereBy (λ a b. Rewords k b q.words before) k s (stepped s v)) (sym is) (q.left, places k coherent.sound s here t y at d.hand ok)) (known_step d same)))
        (in_cluster (λ (x : Cluster × EntryView). Rewords k x.0 q.words before → LeadsOn k.options x.1 c0 x.0)
        (λ on. at_server (Step_is d) (λ (r : Server × EntryView). (c : Cluster) → Afterwards k s r.0 c → Rewords k c q.words before → LeadsOn k.options r.1 c0 c)
        (λ u is. subst (λ v. (c : Cluster) → Afterwards k s (stepped s v).0 c → Rewords k c q.words before → LeadsOn k.options (stepped s v).1 c0 c) (sym is) q.leads) (known_step d same)))
        (λ x r go undone. go r)

    -- where nothing comes of it, or a plain step was done
    unled : (enabled k.options s (Step t) ≡ true → Gives (λ (d : Stepped). d.names ≡ None → ⊥) (step k.options.servers i start)) → Gives Undone (apply k e)
    unled g = in_cluster Undone (λ on. at_server (λ (d : Stepped). d.names ≡ None → ⊥) (λ (r : Server × EntryView). (c : Cluster) → Afterwards k s r.0 c → Undone (c, r.1)) (λ d none c after undone. absurd (none undone)) (g on))

    by_step : (o : Option Stepped) → step k.options.servers i start ≡ o → Gives (λ (d : Stepped). IsOk d.hand) o → Gives DoneOrEnds o → Gives Undone (apply k e)
    by_step None same ok g = unled (λ on. subst (Gives (λ (d : Stepped). d.names ≡ None → ⊥)) (sym same) tt)
    by_step (Some d) same ok (inl none) = unled (λ on. subst (Gives (λ (d : Stepped). d.names ≡ None → ⊥)) (sym same) none)
    by_step (Some d) same ok (inr q) = led d same ok (q ok)

    pub ends_with : (enabled k.options s (Step t) ≡ true → Gives (λ (d : Stepped). IsOk d.hand) (step k.options.servers i start)) → (enabled k.options s (Step t) ≡ true → Gives DoneOrEnds (step k.options.servers i start)) → Gives Undone (apply k e)
    ends_with ok g = by (enabled k.options s (Step t)) refl
      where
        by : (b : Bool) → enabled k.options s (Step t) ≡ b → Gives Undone (apply k e)
        by true on = by_step (step k.options.servers i start) refl (ok on) (g on)
        by false off = unled (λ on. let no : false ≡ true = sym off ∙ on in absurd cc)
