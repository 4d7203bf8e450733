-- A step that notes no act leads on: its thread keeps its slots and runs on, its uses of copies end, and its labels store nothing.
use Rattle.std.proofs.Common.{◌≡◌, ℕ, ◌+◌, ◌-◌, ◌==◌, ◌&&◌, not, Bool, true, false, if◌then◌else◌, List, [], ◌∷◌, Option, Some, None, is_some, refl, sym, ap, ap₂, subst, ◌∙◌, arith}
use Rattle.std.specs.Prelude.{option_map}
use Rattle.law_entries_variables.specs.Below.fr_base.declared.name.MutexNo.{MutexNo}
use Rattle.law_entries_variables.specs.Below.fr_base.declared.label.Label.{Label}
use Rattle.law_entries_variables.specs.Below.fr_base.declared.step.Fresh.{Fresh}
use Rattle.law_entries_variables.specs.Below.fr_base.declared.step.Fresh.TheVariants as fresh
use Rattle.law_entries_variables.specs.Below.read_cache.Cache.{Copy, users, with_users, can_unpin, unpin}
use Rattle.law_entries_variables.specs.Below.thread_state.View.{ThreadState, is_over}
use Rattle.law_entries_variables.specs.Below.migration.Packing.{unpin_all}
use Rattle.law_entries_variables.specs.Below.journal.View.{EntryView}
use Rattle.law_entries_variables.specs.Below.journal.declared.act.Act.{Act}
use Rattle.law_entries_variables.specs.Below.server_model.Servers.{Rest, Server, Cluster, server_at}
use Rattle.law_entries_variables.specs.Below.server_model.Work.{Work, Hand, thread_in, set_thread}
use Rattle.law_entries_variables.specs.Below.server_model.Commit.{goes_on, go_on}
use Rattle.law_entries_variables.specs.Below.server_model.Events.{begin_work, begin_at, entry_of, Stepped, done_step, committed, stepped}
use Rattle.law_entries_variables.specs.Below.coloured_heap.Lists.{holds}
use Rattle.law_entries_variables.specs.Below.coloured_heap.Heap.{Running, Coloured, thread_at as runner_at}
use Rattle.law_entries_variables.specs.Below.coloured_heap.Rules.{of_run}
use Rattle.law_entries_variables.specs.Below.coloured_heap.Changes.{stored}
use Rattle.law_entries_variables.specs.Below.coloured_heap.Reach.{reaches, is_reached}
use Rattle.law_entries_variables.specs.Below.coloured_heap.Legal.{is_placed, entry_after, settled}
use Rattle.law_entries_variables.specs.Below.coherent_memory.Names.{tot, one, some, if_so}
use Rattle.law_entries_variables.specs.Below.coherent_memory.Things.{Thing, copied, stands, things_at, copy_things, things_of}
use Rattle.law_entries_variables.specs.Below.coherent_memory.Follow.{Standing, threads_in, thread_at}
use Rattle.law_entries_variables.specs.Below.coherent_memory.Sight.{sight}
use Rattle.law_entries_variables.specs.Below.coherent_memory.Requests.{is_mutex, locked_mutex}
use Rattle.law_entries_variables.specs.Below.coherent_memory.Walking.{instr_of}
use Rattle.law_entries_variables.specs.Below.coherent_memory.Colours.{StandsColoured, running_of}
use Rattle.law_entries_variables.specs.Below.coherent_memory.Coherent.{IsSound}
use Rattle.law_entries_variables.specs.Below.law_counts_sums.Laws.{Gives}
use Rattle.law_entries_variables.proofs.Below.law_counts_sums.Trades.{trade_whole}
use Rattle.law_entries_variables.proofs.Below.law_counts_sums.Bags.{rest_things, of_cache, thread_number}
use Rattle.law_entries_variables.proofs.Below.law_counts_sums.ThreadThere.{thread_there}
use Rattle.law_entries_variables.proofs.Below.law_heap_still.events.Told.{told}
use Rattle.law_entries_variables.proofs.Below.law_heap_still.events.Tests.{numbers}
use Rattle.law_entries_variables.specs.Below.law_words_paths.words.Unmoved.{LeavesWords}
use Rattle.law_entries_variables.specs.deliveries.Entries.{LeadsOn}
use Rattle.law_entries_variables.proofs.deliveries.Answers.{Answers, answers_of, Fits, fits, coloured_by}
use Rattle.law_entries_variables.proofs.deliveries.Weighed.{WorkTurns, SiteTurns, thread_turns, server_turns}
use Rattle.law_entries_variables.proofs.deliveries.Shown.{if_some, running_as, holder_by}
use Rattle.law_entries_variables.proofs.deliveries.After.{Follows, Keeps}
use Rattle.law_entries_variables.proofs.deliveries.Applied.{Afterwards, server_there}
use Rattle.law_entries_variables.proofs.deliveries.Quiet.{Quietly, quiet_agrees}
use Rattle.law_entries_variables.proofs.still.Kept.{gifts_stay}

-- labels that store nothing, and that reach what they load
abbrev pub StoreNothing : List Label → Type 0
StoreNothing ls = ((c : Coloured) → stored ls c ≡ c) × ((e : EntryView) (c : Coloured) → reaches e ls c ≡ true)

-- what a hand keeps of its thread and its server: all but temporary values
pub record Keeping (s : Server) (y : ThreadState) (h : Hand) : Type 0 where
  pub rest : h.work.rest ≡ s.rest
  pub acts : h.work.acts ≡ []
  pub labels : StoreNothing h.work.labels
  pub number : h.thread.number ≡ y.number
  pub slots : h.thread.slots ≡ y.slots
  pub gift : h.thread.gift ≡ None

-- what is left by such a step
pub record Settles (s : Server) (y : ThreadState) (d : Stepped) : Type 0 where
  pub names : d.names ≡ Some fresh.None
  pub acts : d.hand.work.acts ≡ []
  pub labels : StoreNothing d.hand.work.labels
  pub number : d.hand.thread.number ≡ y.number
  pub slots : d.hand.thread.slots ≡ y.slots
  pub gift : d.hand.thread.gift ≡ None
  pub live : is_over d.hand.thread.phase ≡ false
  pub walk : List ℕ
  pub copies : List Copy
  pub unpins : unpin_all walk s.rest.cache ≡ Some copies
  pub rest : d.hand.work.rest ≡ record s.rest { cache = copies }

-- the step is done from such a hand
pub goes_over : (s : Server) (y : ThreadState) (o : Option Hand) → Gives (Keeping s y) o → Gives (Settles s y) (committed (goes_on o))
goes_over s y None g = tt
goes_over s y (Some h) g = by (unpin_all h.thread.walk h.work.rest.cache) refl
  where
    by : (o : Option (List Copy)) → unpin_all h.thread.walk h.work.rest.cache ≡ o
        → Gives (Settles s y) (option_map (done_step fresh.None) (option_map (λ cs. record { work = record h.work { rest = record h.work.rest { cache = cs } }; thread = record (go_on h).thread { passed = 0; walk = []; moved_since_step = false } }) o))
    by None q = tt
    by (Some cs) q = record {
      names = refl;
      acts = g.acts;
      labels = g.labels;
      number = g.number;
      slots = g.slots;
      gift = g.gift;
      live = refl;
      walk = h.thread.walk;
      copies = cs;
      unpins = ap (λ (r : Rest). unpin_all h.thread.walk r.cache) (sym g.rest) ∙ q;
      rest = ap (λ (r : Rest). record r { cache = cs }) g.rest;
    }

-- USES OF COPIES AREN'T SEEN

-- a weight that doesn't see how many use a copy
abbrev pub Unused : (Thing → ℕ) → Type 0
Unused f = (n : ℕ) (c : Copy) (u : ℕ) → f (copied n (record c { users = u })) ≡ f (copied n c)

module _ (f : Thing → ℕ) (unused : Unused f) where
  pub users_unseen : (n i : ℕ) (cs : List Copy) (w u : ℕ) → tot f (things_at (copy_things n) i (with_users cs w u)) ≡ tot f (things_at (copy_things n) i cs)
  users_unseen n i [] w u = refl
  users_unseen n i (c ∷ cs) w u = by (c.word == w) (users_unseen n (i + 1) cs w u)
    where
      by : (b : Bool) → tot f (things_at (copy_things n) (i + 1) (with_users cs w u)) ≡ tot f (things_at (copy_things n) (i + 1) cs)
          → tot f (things_at (copy_things n) i (if b then record c { users = u } ∷ cs else c ∷ with_users cs w u)) ≡ tot f (things_at (copy_things n) i (c ∷ cs))
      by true go = omega (arith, unused n c u)
      by false go = omega (arith, go)

  pub unpinned_unseen : (n : ℕ) (ws : List ℕ) (cs left : List Copy) → unpin_all ws cs ≡ Some left → tot f (things_at (copy_things n) 0 left) ≡ tot f (things_at (copy_things n) 0 cs)
  unpinned_unseen n [] cs left e = let same : cs ≡ left = cc in ap (λ l. tot f (things_at (copy_things n) 0 l)) (sym same)
  unpinned_unseen n (w ∷ ws) cs left e = by (can_unpin cs w) e (unpinned_unseen n ws (unpin cs w) left)
    where
      by : (b : Bool) → (if b then unpin_all ws (unpin cs w) else None) ≡ Some left → (unpin_all ws (unpin cs w) ≡ Some left → tot f (things_at (copy_things n) 0 left) ≡ tot f (things_at (copy_things n) 0 (unpin cs w)))
          → tot f (things_at (copy_things n) 0 left) ≡ tot f (things_at (copy_things n) 0 cs)
      by true g go = go g ∙ users_unseen n 0 cs w (users cs w - 1)
      by false g go = absurd (cc g)

-- THE ENTRY

-- the entry of a server that was left so, where words stay
abbrev pub StepLed : Cluster → Server → Coloured → Server × EntryView → Type 0
StepLed k s c0 r = (c : Cluster) → Afterwards k s r.0 c → LeavesWords k c → LeadsOn k.options r.1 c0 c

-- of a plain step without names and acts
abbrev pub plain_entry : ℕ → ℕ → List Label → EntryView
plain_entry n t ls = record { server = n; thread = Some t; done = Some fresh.None; acts = []; labels = ls }

plain_legal : (k : Cluster) (n t : ℕ) (ls : List Label) (c : Coloured) → of_run k.options n ≡ true → (r : Running) → runner_at c t ≡ Some r → (r.server == n) ≡ true → StoreNothing ls → entry_after k.options c (plain_entry n t ls) ≡ Some c
plain_legal k n t ls c run r at here none =
    let e = plain_entry n t ls in
    let placed : is_placed k.options c e ≡ true = ap₂ (λ b d. b && holds (λ (x : Running). x.server == n) d) run at ∙ here in
    ap (λ b. settled e (if b then Some c else None)) placed ∙ ap (λ d. Some d) (none.0 c)

plain_reached : (k : Cluster) (n t : ℕ) (ls : List Label) (c : Coloured) → of_run k.options n ≡ true → (r : Running) → runner_at c t ≡ Some r → (r.server == n) ≡ true → StoreNothing ls → is_reached k.options c (plain_entry n t ls) ≡ true
plain_reached k n t ls c run r at here none =
    let e = plain_entry n t ls in
    let placed : is_placed k.options c e ≡ true = ap₂ (λ b d. b && holds (λ (x : Running). x.server == n) d) run at ∙ here in
    ap (λ b. holds (reaches e ls) (if b then Some c else None)) placed ∙ none.1 e c

module _ (k : Cluster) (sound : IsSound k) (number : ℕ) (s : Server) (here : server_at k.servers number ≡ Some s) (c0 : Coloured) (is_coloured : StandsColoured k c0) (t : ℕ) (y : ThreadState) (at : thread_in s.threads t ≡ Some y) (live : is_over y.phase ≡ false) where
  abbrev n : ℕ
  n = s.rest.number

  its : y.number ≡ t
  its = thread_number s.threads t y at

  -- it runs here
  pub runs_here : running_of (sight k) y.number ≡ Some (record { thread = y.number; server = n; has_ended = false })
  runs_here = ap (running_as y.number) (ap (thread_at (threads_in (things_of k))) its ∙ thread_there k sound number s here t y at) ∙ ap (λ b. if_some (not b) (record { thread = y.number; server = n; has_ended = false })) live

  -- without a gift it holds no mutex by one
  pub none_held : (z : ThreadState) → z.gift ≡ None → (o : MutexNo) (g : ℕ → ℕ) → told g (holder_by (sight k) o (stands n false z)) ≡ 0
  none_held z e o g =
      let me : Standing = record { server = n; packed = false; thread = z } in ap (λ j. told g (if_some (some (if_so (is_some j) (one (is_mutex o (locked_mutex (sight k) me (instr_of (sight k) me)))))) z.number)) e

  quietly : (z : ThreadState) → z.number ≡ y.number → is_over z.phase ≡ false → y.gift ≡ None → z.gift ≡ None → Quietly k (stands n false y ∷ []) (stands n false z ∷ [])
  quietly z named on bare bare2 = record {
    objects = λ o g. refl;
    drops = λ o. refl;
    copies = λ r w g. refl;
    served = λ j. refl;
    issued = λ h r w. refl;
    started = λ r w. refl;
    made = λ r w. refl;
    threads = λ u. ap (λ i. one (i == u) + 0) (sym named);
    running = λ u g. ap (λ i. i + 0) (ap₂ (λ i q. if_so (i == u) (told g (if_some (not q) (record { thread = u; server = n; has_ended = false })))) (sym named) (live ∙ sym on));
    wishes = λ j. refl;
    there = λ o. omega arith;
    holders = λ o g. omega (arith, none_held y bare o g, none_held z bare2 o g);
  }

  pub settled_led : (d : Stepped) → y.gift ≡ None → Settles s y d → StepLed k s c0 (stepped s d)
  settled_led d bare q c after words = subst (λ e. LeadsOn k.options e c0 c) (sym entry) (record {
    state = c0;
    legal = plain_legal k n y.number d.hand.work.labels c0 (server_there k sound number s here).0 (record { thread = y.number; server = n; has_ended = false }) (h.servers y.number _ runs_here) (numbers.itself n) q.labels;
    reached = plain_reached k n y.number d.hand.work.labels c0 (server_there k sound number s here).0 (record { thread = y.number; server = n; has_ended = false }) (h.servers y.number _ runs_here) (numbers.itself n) q.labels;
    stands = coloured_by a (sight c) c0 h (quiet_agrees k c olds news sound follows keeps (quietly z q.number q.live bare q.gift));
  })
    where
      z : ThreadState
      z = d.hand.thread

      olds : List Thing
      olds = stands n false y ∷ []

      news : List Thing
      news = stands n false z ∷ []

      a : Answers
      a = answers_of (sight k)

      h : Fits (answers_of (sight k)) c0
      h = fits (sight k) c0 is_coloured

      entry : entry_of (Some d.hand.thread.number) d.names d.hand.work ≡ plain_entry n y.number d.hand.work.labels
      entry =
          ap₂ (λ (r : Rest) i. made r.number i d.names d.hand.work.acts) q.rest q.number ∙ ap₂ (λ names acts. made n y.number names acts) q.names q.acts
        where
          made : ℕ → ℕ → Option Fresh → List Act → EntryView
          made m i names acts = record { server = m; thread = Some i; done = names; acts = acts; labels = d.hand.work.labels }

      bare_work : Work
      bare_work = record { rest = d.hand.work.rest; acts = []; labels = [] }

      cache : WorkTurns (begin_work s.rest) [] [] [] bare_work
      cache = record {
        number = ap (λ (r : Rest). r.number) q.rest;
        noted = refl;
        labels = refl;
        things = λ f i.
            let t2 = of_cache n 0 s.rest q.copies (trade_whole (things_at (copy_things n) 0 s.rest.cache) (things_at (copy_things n) 0 q.copies)) in
            let there : tot f (rest_things n 0 d.hand.work.rest) ≡ tot f (rest_things n 0 (record s.rest { cache = q.copies })) = ap (λ r. tot f (rest_things n 0 r)) q.rest in
            omega (arith, there, t2.before f, t2.after f, unpinned_unseen f i.unused n q.walk s.rest.cache q.copies q.unpins);
      }

      turns : SiteTurns (begin_at s) olds news [] (record { work = bare_work; threads = set_thread s.threads z })
      turns = thread_turns (begin_at s) t y z [] [] [] bare_work at q.number q.slots cache

      follows : Follows k c olds news
      follows = record { code = after.0; options = after.1; things = λ f i. omega (arith, after.2 f, server_turns s (record { work = bare_work; threads = set_thread s.threads z }) olds news [] s.events (Some z.number) d.names turns f i) }

      keeps : Keeps k c
      keeps = record { words = words.words; gifts = gifts_stay k c sound n false false y z [] (λ j. refl) (λ f j. refl) (λ o g. refl) q.number q.slots follows }
