-- A step that is done with which objects got words: from the hand that it leaves to its entry in the cluster afterwards.
use Rattle.std.proofs.Common.{◌≡◌, ℕ, Bool, true, false, List, [], ◌∷◌, Option, Some, None, is_some, option_map, refl, sym, ap, ap₂, subst, ◌∙◌, arith}
use Rattle.std.specs.Prelude.{slice_get}
use Rattle.law_heap_writes.specs.Below.law_words_asked.Below.fr_base.declared.step.Fresh.TheVariants as fresh
use Rattle.law_heap_writes.specs.Below.law_words_asked.Below.fr_base.declared.instruction.Instr.{Instr}
use Rattle.law_heap_writes.specs.Below.law_words_writes.Below.law_words_values.Below.read_cache.Cache.{Copy}
use Rattle.law_entries_writes.specs.Below.law_entries_variables.Below.migration.Packing.{unpin_all}
use Rattle.law_heap_writes.specs.Below.law_words_asked.Below.thread_state.View.{ThreadState, is_over}
use Rattle.law_heap_writes.specs.Below.law_words_asked.Below.journal.View.{EntryView}
use Rattle.law_heap_writes.specs.Below.law_words_asked.Below.journal.declared.act.Act.{Act}
use Rattle.law_heap_writes.specs.Below.law_words_asked.Below.server_model.declared.event.Event.{Event}
use Rattle.law_heap_writes.specs.Below.law_words_asked.Below.server_model.declared.event.What.TheVariants.{Step}
use Rattle.law_heap_writes.specs.Below.law_words_asked.Below.server_model.Servers.{Server, Cluster, server_at}
use Rattle.law_heap_writes.specs.Below.law_words_asked.Below.server_model.Work.{Hand, with_cache, thread_in, then_some}
use Rattle.law_heap_writes.specs.Below.law_words_asked.Below.server_model.Commit.{goes_on, go_on}
use Rattle.law_heap_writes.specs.Below.law_words_asked.Below.server_model.Events.{enabled, begin_work, entry_of, Stepped, done_step, committed, step, step_in, stepped, does}
use Rattle.law_heap_writes.specs.Below.law_words_asked.Below.server_model.Clusters.{apply}
use Rattle.law_entries_writes.specs.Below.law_entries_variables.Below.coloured_heap.Heap.{Coloured}
use Rattle.law_heap_writes.specs.Below.law_words_asked.Below.coherent_memory.Things.{Thing, stands}
use Rattle.law_heap_writes.specs.Below.law_words_asked.Below.coherent_memory.Sight.{sight}
use Rattle.law_heap_writes.specs.Below.law_words_asked.Below.coherent_memory.Words.{HasWords}
use Rattle.law_heap_writes.specs.Below.law_words_asked.Below.coherent_types.ClusterTypes.{IsCoherent}
use Rattle.law_heap_writes.proofs.Below.law_words_writes.Below.law_words_asked.Below.law_words_paths.paths.Sole.{some_is}
use Rattle.law_heap_writes.specs.Below.law_words_asked.Below.law_words_paths.words.Unmoved.{LeavesWords}
use Rattle.law_heap_writes.proofs.Below.law_words_writes.Below.law_words_asked.Below.law_words_paths.words.Unmoved.{untouched_stays}
use Rattle.law_heap_writes.specs.Below.law_words_asked.Below.law_counts_sums.Laws.{Gives, FewEvents}
use Rattle.law_heap_writes.proofs.Below.law_words_writes.Below.law_words_asked.Below.law_counts_sums.Results.{over_gives, both_give}
use Rattle.law_heap_writes.proofs.Below.law_words_writes.Below.law_words_asked.Below.law_words_kept.stays.Seen.{seen_alike}
use Rattle.law_heap_writes.proofs.Below.law_words_writes.Below.law_words_asked.Below.law_words_kept.stays.Sites.{HandAlike}
use Rattle.law_heap_writes.proofs.Below.law_words_writes.Below.law_words_asked.Below.law_words_kept.stays.Steps.{TakesNoneHere, settles}
use Rattle.law_heap_writes.proofs.Below.law_words_writes.Below.law_words_asked.Below.law_words_kept.prepared.Hands.{put, places}
use Rattle.law_heap_writes.proofs.Below.law_words_writes.Below.law_words_values.carried.Hands.{ThereBy, Together, each_together, together_chain, puts_alike}
use Rattle.law_heap_writes.proofs.Below.law_words_writes.Below.law_words_values.carried.Steps.{goes_next}
use Rattle.law_heap_writes.proofs.Below.law_words_writes.Below.law_words_asked.writes.Passing.{Fits}
use Rattle.law_entries_writes.proofs.Below.law_copies_kept.references.WordedCopies.{then_holds}
use Rattle.law_entries_writes.specs.Below.law_entries_variables.deliveries.Entries.{LeadsOn}
use Rattle.law_entries_writes.proofs.Below.law_entries_variables.deliveries.After.{Follows}
use Rattle.law_entries_writes.proofs.Below.law_entries_variables.deliveries.Applied.{Afterwards, applied_by}
use Rattle.law_entries_reads.proofs.Below.law_entries_variables.variables.Turning.{Turning, rethreaded, worked_alike, turned_server, uses_end}
use Rattle.law_entries_reads.proofs.Below.law_entries_variables.variables.Led.{done_entry}
use Rattle.law_entries_writes.proofs.Below.law_entries_reads.asks.Recoloured.{NewWords}
use Rattle.law_entries_writes.proofs.Below.law_entries_reads.asks.Agreeing.{Rewords}
use Rattle.law_entries_writes.proofs.Below.law_entries_reads.asks.Ending.{reworded_on}

-- a hand without its labels, and with these acts
abbrev pub shadow : List Act → Hand → Hand
shadow acts h = record { work = record { rest = h.work.rest; acts = acts; labels = [] }; thread = h.thread }

-- words stay where the next cluster leaves them
pub reworded_by_left : (k b c : Cluster) (l : NewWords) (before : HasWords (sight k)) → Rewords k b l before → LeavesWords b c → Rewords k c l before
reworded_by_left k b c l before r leaves = let w = leaves.words r.after in record { after = w.after; word = λ o. w.same o ∙ r.word o }

module _ (k : Cluster) (coherent : IsCoherent k) (few : FewEvents k) (s : Server) (here : server_at k.servers s.rest.number ≡ Some s) (t : ℕ) (y : ThreadState) (at : thread_in s.threads t ≡ Some y) (own : thread_in s.threads y.number ≡ Some y) (c0 : Coloured) where
  abbrev n : ℕ
  n = s.rest.number

  abbrev O : Hand → Type 0
  O = Fits k coherent s here t y at

  abbrev P : Hand → Cluster
  P = put k coherent s here t y at

  abbrev before : HasWords (sight k)
  before = coherent.sound.words.have_words

  -- THE HAND

  -- what is known of a hand from which the step is done: which words were given, what went and what came, and that the entry leads on
  pub record Wrote (h : Hand) : Type 0 where
    pub words : NewWords
    pub reached : Hand
    pub left : Rewords k (P reached) words before
    pub fits : O reached
    pub same : Together k.code n reached h
    pub untaken : TakesNoneHere k.code h.thread
    pub acts : List Act
    pub olds : List Thing
    pub news : List Thing
    pub turned : Turning s y olds news acts (shadow acts h)
    pub noted : h.work.acts ≡ acts
    pub free : h.thread.gift ≡ None
    pub leads : (c : Cluster) (z : ThreadState) → z.number ≡ y.number → z.gift ≡ None → is_over z.phase ≡ false → Follows k c (stands n false y ∷ olds) (stands n false z ∷ news) → Rewords k c words before → LeadsOn k.options (done_entry n y.number fresh.None acts h.work.labels) c0 c

  -- what a step comes to: some words were given, and with these its entry leads on
  pub record Ended (d : Stepped) : Type 0 where
    pub words : NewWords
    pub left : Rewords k (P d.hand) words before
    pub leads : (c : Cluster) → Afterwards k s (stepped s d).0 c → Rewords k c words before → LeadsOn k.options (stepped s d).1 c0 c

  -- the step is done
  abbrev settled_hand : Hand → List Copy → Hand
  settled_hand h cs = record { work = with_cache cs h.work; thread = record (go_on h).thread { passed = 0; walk = []; moved_since_step = false } }

  settled : (h : Hand) → Wrote h → (cs : List Copy) → unpin_all h.thread.walk h.work.rest.cache ≡ Some cs → HandAlike k.code n [] (go_on h) (settled_hand h cs)
      → O (settled_hand h cs) → Ended (done_step fresh.None (settled_hand h cs))
  settled h g cs e alike ok = record {
    words = g.words;
    left = reworded_by_left k (P g.reached) (P h3) g.words before g.left (untouched_stays (P g.reached) (P h3) (places k coherent s here t y at g.reached g.fits) (places k coherent s here t y at h3 ok) (seen_alike (P g.reached) (P h3) (places k coherent s here t y at g.reached g.fits) (places k coherent s here t y at h3 ok) refl (puts_alike k coherent.sound s here t y at g.reached h3 g.fits.number g.fits.thread together)));
    leads = λ c after w.
        let follows : Follows k c (stands n false y ∷ g.olds) (stands n false z ∷ g.news) =
        record { code = after.0; options = after.1; things = λ f i. omega (arith, after.2 f, turned_server s y g.olds g.news g.acts (shadow g.acts h3) turned3 own f i) } in
        let entry : entry_of (Some z.number) (Some fresh.None) h3.work ≡ done_entry n y.number fresh.None g.acts h.work.labels =
        ap₂ (λ i j. done_entry i j fresh.None h.work.acts h.work.labels) g.turned.number g.turned.named ∙ ap (λ a. done_entry n y.number fresh.None a h.work.labels) g.noted in
        subst (λ x. LeadsOn k.options x c0 c) (sym entry) (g.leads c z g.turned.named g.free refl follows w);
  }
    where
      h3 : Hand
      h3 = settled_hand h cs

      z : ThreadState
      z = h3.thread

      together : Together k.code n g.reached h3
      together = together_chain g.same (together_chain (goes_next k.code n h g.untaken) (each_together alike))

      turned3 : Turning s y g.olds g.news g.acts (shadow g.acts h3)
      turned3 =
          let sh : Hand = shadow g.acts h in
          let t1 : Turning s y g.olds g.news g.acts (record sh { work = with_cache cs sh.work }) = worked_alike s y g.olds g.news g.acts sh g.turned (with_cache cs sh.work) (uses_end sh.work h.thread.walk cs e) in
          rethreaded s y g.olds g.news g.acts (record sh { work = with_cache cs sh.work }) t1 z refl refl

  pub over : (o : Option Hand) → Gives Wrote o → Gives (λ (d : Stepped). O d.hand → Ended d) (committed (goes_on o))
  over None g = tt
  over (Some h) g = by (unpin_all h.thread.walk h.work.rest.cache) refl (settles k.code n (go_on h))
    where
      by : (q : Option (List Copy)) → unpin_all h.thread.walk h.work.rest.cache ≡ q
          → Gives (HandAlike k.code n [] (go_on h)) (option_map (λ cs. record { work = with_cache cs h.work; thread = record (go_on h).thread { passed = 0; walk = []; moved_since_step = false } }) q)
          → Gives (λ (d : Stepped). O d.hand → Ended d) (option_map (done_step fresh.None) (option_map (λ cs. record { work = with_cache cs h.work; thread = record (go_on h).thread { passed = 0; walk = []; moved_since_step = false } }) q))
      by None e a = tt
      by (Some cs) e a = λ ok. settled h g cs e a ok

  -- THE EVENT

  module _ (i : Instr) (code : slice_get k.code y.pc ≡ Some i) where
    abbrev e : Event
    e = record { server = n; what = Step t }

    abbrev start : Hand
    start = record { work = begin_work s.rest; thread = y }

    abbrev pub Done : Cluster × EntryView → Type 0
    Done x = is_some x.1.done ≡ true → LeadsOn k.options x.1 c0 x.0

    -- at its server
    at_server : (Q : Stepped → Type 0) (T : Server × EntryView → Type 0) → ((d : Stepped) → Q d → T (stepped s d)) → Gives Q (step k.options.servers i start) → Gives T (does k.code k.options s (Step t))
    at_server Q T go g =
        subst (λ o. Gives T (option_map (stepped s) (then_some (option_map (λ v. record { work = begin_work s.rest; thread = v }) o) (step_in k.code k.options.servers)))) (sym at)
        (subst (λ o. Gives T (option_map (stepped s) (then_some o (λ j. step k.options.servers j start)))) (sym code)
        (over_gives Q T (step k.options.servers i start) (stepped s) g go))

    -- in its cluster
    in_cluster : (Q : Cluster × EntryView → Type 0) → (enabled k.options s (Step t) ≡ true → Gives (λ (r : Server × EntryView). (c : Cluster) → Afterwards k s r.0 c → Q (c, r.1)) (does k.code k.options s (Step t))) → Gives Q (apply k e)
    in_cluster Q g =
        applied_by Q k e coherent.sound few
        (λ u there on. subst (λ (v : Server). enabled k.options v (Step t) ≡ true → Gives (λ (r : Server × EntryView). (c : Cluster) → Afterwards k v r.0 c → Q (c, r.1)) (does k.code k.options v (Step t))) (some_is (sym here ∙ there)) g on)

    abbrev Step_is : Stepped → Stepped → Type 0
    Step_is d u = u ≡ d

    -- one that is known
    known_step : (d : Stepped) → step k.options.servers i start ≡ Some d → Gives (Step_is d) (step k.options.servers i start)
    known_step d same = subst (Gives (Step_is d)) (sym same) refl

    led : (d : Stepped) → step k.options.servers i start ≡ Some d → O d.hand → Ended d → Gives Done (apply k e)
    led d same ok q =
        both_give (λ (x : Cluster × EntryView). Rewords k x.0 q.words before) (λ (x : Cluster × EntryView). Rewords k x.0 q.words before → LeadsOn k.options x.1 c0 x.0) Done (apply k e)
        (then_holds (λ c. Rewords k c q.words before) (λ a b r stay. reworded_on k a b q.words before r stay) k s t coherent.sound few here
        (λ on. at_server (Step_is d) (ThereBy (λ a b. Rewords k b q.words before) k s) (λ u is. subst (λ v. ThereBy (λ a b. Rewords k b q.words before) k s (stepped s v)) (sym is) (q.left, places k coherent s here t y at d.hand ok)) (known_step d same)))
        (in_cluster (λ (x : Cluster × EntryView). Rewords k x.0 q.words before → LeadsOn k.options x.1 c0 x.0)
        (λ on. at_server (Step_is d) (λ (r : Server × EntryView). (c : Cluster) → Afterwards k s r.0 c → Rewords k c q.words before → LeadsOn k.options r.1 c0 c)
        (λ u is. subst (λ v. (c : Cluster) → Afterwards k s (stepped s v).0 c → Rewords k c q.words before → LeadsOn k.options (stepped s v).1 c0 c) (sym is) q.leads) (known_step d same)))
        (λ x r go done. go r)

    -- where nothing comes of it, or no plain step was done
    unled : (enabled k.options s (Step t) ≡ true → Gives (λ (d : Stepped). is_some d.names ≡ true → ⊥) (step k.options.servers i start)) → Gives Done (apply k e)
    unled g = in_cluster Done (λ on. at_server (λ (d : Stepped). is_some d.names ≡ true → ⊥) (λ (r : Server × EntryView). (c : Cluster) → Afterwards k s r.0 c → Done (c, r.1)) (λ d none c after done. absurd (none done)) (g on))

    -- what it comes to where it is done
    abbrev pub EndsDone : Stepped → Type 0
    EndsDone d = is_some d.names ≡ true → O d.hand → Ended d

    by_names : (d : Stepped) → step k.options.servers i start ≡ Some d → O d.hand → EndsDone d → (b : Bool) → is_some d.names ≡ b → Gives Done (apply k e)
    by_names d same ok q true named = led d same ok (q named ok)
    by_names d same ok q false none = unled (λ on. subst (Gives (λ (x : Stepped). is_some x.names ≡ true → ⊥)) (sym same) (λ named. let no : false ≡ true = sym none ∙ named in absurd cc))

    by_step : (o : Option Stepped) → step k.options.servers i start ≡ o → Gives (λ (d : Stepped). O d.hand) o → Gives EndsDone o → Gives Done (apply k e)
    by_step None same ok g = unled (λ on. subst (Gives (λ (d : Stepped). is_some d.names ≡ true → ⊥)) (sym same) tt)
    by_step (Some d) same ok g = by_names d same ok g (is_some d.names) refl

    pub ends_done : (enabled k.options s (Step t) ≡ true → Gives (λ (d : Stepped). O d.hand) (step k.options.servers i start)) → (enabled k.options s (Step t) ≡ true → Gives EndsDone (step k.options.servers i start)) → Gives Done (apply k e)
    ends_done ok g = by (enabled k.options s (Step t)) refl
      where
        by : (b : Bool) → enabled k.options s (Step t) ≡ b → Gives Done (apply k e)
        by true on = by_step (step k.options.servers i start) refl (ok on) (g on)
        by false off = unled (λ on. let no : false ≡ true = sym off ∙ on in absurd cc)
