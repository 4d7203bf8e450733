-- From a step that is done to its entry, which leads on where its acts do.
use Rattle.std.proofs.Common.{◌≡◌, ℕ, ◌==◌, ◌&&◌, Bool, true, false, if◌then◌else◌, List, [], ◌∷◌, Option, Some, None, option_map, refl, sym, ap, ap₂, subst, ◌∙◌, arith}
use Rattle.law_words_ends.specs.Below.fr_base.declared.label.Label.{Label}
use Rattle.law_words_ends.specs.Below.fr_base.declared.step.Fresh.{Fresh}
use Rattle.law_words_ends.specs.Below.fr_base.declared.settings.Options.{Options}
use Rattle.law_words_ends.specs.Below.law_words_values.Below.read_cache.Cache.{Copy}
use Rattle.law_entries_variables.specs.Below.migration.Packing.{unpin_all}
use Rattle.law_words_ends.specs.Below.thread_state.View.{ThreadState, is_over}
use Rattle.law_words_ends.specs.Below.journal.View.{EntryView}
use Rattle.law_words_ends.specs.Below.journal.declared.act.Act.{Act}
use Rattle.law_words_ends.specs.Below.server_model.Servers.{Server, Cluster}
use Rattle.law_words_ends.specs.Below.server_model.Work.{Work, Hand, with_cache, thread_in}
use Rattle.law_words_ends.specs.Below.server_model.Commit.{done_where, go_on, settle}
use Rattle.law_words_ends.specs.Below.server_model.Events.{entry_of, Stepped, done_step, committed, stepped}
use Rattle.law_entries_variables.specs.Below.coloured_heap.Lists.{holds}
use Rattle.law_entries_variables.specs.Below.coloured_heap.Heap.{Running, Coloured}
use Rattle.law_entries_variables.specs.Below.coloured_heap.Rules.{of_run}
use Rattle.law_entries_variables.specs.Below.coloured_heap.Changes.{with_new_mutex}
use Rattle.law_entries_variables.specs.Below.coloured_heap.Reach.{reaches}
use Rattle.law_entries_variables.specs.Below.coloured_heap.Legal.{is_placed, is_new_name, acts_after, settled}
use Rattle.law_words_ends.specs.Below.coherent_memory.Names.{tot}
use Rattle.law_words_ends.specs.Below.coherent_memory.Things.{Thing, stands}
use Rattle.law_words_ends.specs.Below.coherent_memory.Sight.{sight}
use Rattle.law_words_ends.specs.Below.law_counts_sums.Laws.{Gives}
use Rattle.law_entries_variables.specs.deliveries.Entries.{LeadsOn}
use Rattle.law_entries_variables.proofs.deliveries.Answers.{Answers, answers_of, Fits, Agrees, coloured_by}
use Rattle.law_entries_variables.proofs.deliveries.After.{Follows}
use Rattle.law_entries_variables.proofs.deliveries.Runs.{Runs}
use Rattle.law_entries_variables.proofs.deliveries.Applied.{Afterwards}
use Rattle.law_entries_variables.proofs.still.Settled.{StoreNothing}
use Rattle.law_entries_variables.proofs.variables.Turning.{loud, silent, Turning, rethreaded, worked_alike, turned_server, uses_end}

-- THE ENTRY OF A STEP THAT IS DONE

abbrev pub done_entry : ℕ → ℕ → Fresh → List Act → List Label → EntryView
done_entry n t names acts ls = record { server = n; thread = Some t; done = Some names; acts = acts; labels = ls }

-- a new mutex is named, after the acts
pub record Ends (e : EntryView) (q : Answers) (p : Answers) : Type 0 where
  pub allowed : (c : Coloured) → Fits q c → is_new_name c e.server e.done ≡ true
  pub fits : (c : Coloured) → Fits q c → Fits p (with_new_mutex e.done c)

-- an entry whose acts lead to such answers leads on
pub done_leads : (o : Options) (n t : ℕ) (names : Fresh) (acts : List Act) (ls : List Label) (c : Coloured) (before q after : Answers) (d : Cluster) → tot loud ls ≡ 0 → Fits before c → of_run o n ≡ true
    → (r : Running) → before.running t ≡ Some r → (r.server == n) ≡ true → Runs o (done_entry n t names acts ls) acts c q → Ends (done_entry n t names acts ls) q after → Agrees after (answers_of (sight d))
    → LeadsOn o (done_entry n t names acts ls) c d
done_leads o n t names acts ls c before q after d quiet h run r at here u ends a = record {
  state = with_new_mutex (Some names) u.state;
  legal = ap (λ b. settled e (if b then acts_after o e acts c else None)) placed ∙ ap (settled e) u.runs ∙ ap (λ s. if is_new_name s n (Some names) then Some (with_new_mutex (Some names) s) else None) (none.0 u.state)
      ∙ ap (λ b. if b then Some (with_new_mutex (Some names) u.state) else None) (ends.allowed u.state u.fits);
  reached = ap (λ b. holds (reaches e ls) (if b then acts_after o e acts c else None)) placed ∙ ap (holds (reaches e ls)) u.runs ∙ none.1 e u.state;
  stands = coloured_by after (sight d) (with_new_mutex (Some names) u.state) (ends.fits u.state u.fits) a;
}
  where
    e : EntryView
    e = done_entry n t names acts ls

    none : StoreNothing ls
    none = silent ls quiet

    placed : is_placed o c e ≡ true
    placed = ap₂ (λ b x. b && holds (λ (z : Running). z.server == n) x) run (h.servers t r at) ∙ here

-- THE STEP

-- the entry of a server that was left so, where that is known of the cluster afterwards
abbrev pub LedWith : (Cluster → Type 0) → Cluster → Server → Coloured → Server × EntryView → Type 0
LedWith W k s c0 r = (c : Cluster) → Afterwards k s r.0 c → W c → LeadsOn k.options r.1 c0 c

-- a hand from which the step is done, with acts that lead on
pub record Steps (W : Cluster → Type 0) (k : Cluster) (s : Server) (y : ThreadState) (c0 : Coloured) (names : Fresh) (over : Bool) (h : Hand) : Type 0 where
  pub olds : List Thing
  pub news : List Thing
  pub acts : List Act
  pub turned : Turning s y olds news acts h
  pub gift : h.thread.gift ≡ None
  pub leads : (c : Cluster) (z : ThreadState) → z.number ≡ y.number → z.gift ≡ None → is_over z.phase ≡ over → Follows k c (stands s.rest.number false y ∷ olds) (stands s.rest.number false z ∷ news) → W c
      → LeadsOn k.options (done_entry s.rest.number y.number names acts h.work.labels) c0 c

module _ (W : Cluster → Type 0) (k : Cluster) (s : Server) (y : ThreadState) (at : thread_in s.threads y.number ≡ Some y) (c0 : Coloured) (names : Fresh) (over : Bool) where
  abbrev n : ℕ
  n = s.rest.number

  abbrev P : Hand → Type 0
  P = Steps W k s y c0 names over

  abbrev Done : Stepped → Type 0
  Done d = LedWith W k s c0 (stepped s d)

  -- of the thread its number, its slots and its gift count
  pub rephased : (h : Hand) (z : ThreadState) → z.number ≡ h.thread.number → z.slots ≡ h.thread.slots → z.gift ≡ h.thread.gift → P h → P (record h { thread = z })
  rephased h z named slots gift g = record { olds = g.olds; news = g.news; acts = g.acts; turned = rethreaded s y g.olds g.news g.acts h g.turned z named slots; gift = gift ∙ g.gift; leads = g.leads }

  -- the step is done from there
  pub settles : (h : Hand) → P h → is_over h.thread.phase ≡ over → Gives Done (option_map (done_step names) (settle h))
  settles h g on = by (unpin_all h.thread.walk h.work.rest.cache) refl
    where
      by : (o : Option (List Copy)) → unpin_all h.thread.walk h.work.rest.cache ≡ o
          → Gives Done (option_map (done_step names) (option_map (λ cs. record { work = with_cache cs h.work; thread = record h.thread { passed = 0; walk = []; moved_since_step = false } }) o))
      by None q = tt
      by (Some cs) q = λ c after w.
          let z : ThreadState = record h.thread { passed = 0; walk = []; moved_since_step = false } in
          let w2 : Work = with_cache cs h.work in
          let t1 : Turning s y g.olds g.news g.acts (record h { work = w2 }) = worked_alike s y g.olds g.news g.acts h g.turned w2 (uses_end h.work h.thread.walk cs q) in
          let t2 : Turning s y g.olds g.news g.acts (record { work = w2; thread = z }) = rethreaded s y g.olds g.news g.acts (record h { work = w2 }) t1 z refl refl in
          let follows : Follows k c (stands n false y ∷ g.olds) (stands n false z ∷ g.news) =
          record { code = after.0; options = after.1; things = λ f i. omega (arith, after.2 f, turned_server s y g.olds g.news g.acts (record { work = w2; thread = z }) t2 at f i) } in
          let entry : entry_of (Some z.number) (Some names) w2 ≡ done_entry n y.number names g.acts h.work.labels =
          ap₂ (λ i j. done_entry i j names h.work.acts h.work.labels) g.turned.number g.turned.named ∙ ap (λ a. done_entry n y.number names a h.work.labels) g.turned.noted in
          subst (λ e. LeadsOn k.options e c0 c) (sym entry) (g.leads c z g.turned.named g.gift on follows w)

-- the thread is at its next instruction
pub goes_on_led : (W : Cluster → Type 0) (k : Cluster) (s : Server) (y : ThreadState) → thread_in s.threads y.number ≡ Some y → (c0 : Coloured) (names : Fresh) (o : Option Hand) → Gives (Steps W k s y c0 names false) o
    → Gives (λ (d : Stepped). LedWith W k s c0 (stepped s d)) (committed (done_where names (option_map go_on o)))
goes_on_led W k s y at c0 names None g = tt
goes_on_led W k s y at c0 names (Some h) g = settles W k s y at c0 names false (go_on h) (rephased W k s y at c0 names false h (go_on h).thread refl refl refl g) refl
