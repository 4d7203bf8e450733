-- The entry of a step that is done, where its acts leave the coloured heap, its labels load what is reached, and its thread changes but for what its slots show.
use Rattle.std.proofs.Common.{◌≡◌, ℕ, ◌+◌, ◌==◌, not, false, List, [], ◌∷◌, ◌++◌, map, Option, Some, None, refl, sym, ap, ap₂, subst, ◌∙◌, arith}
use Rattle.std.specs.Prelude.{option_map}
use Rattle.law_copies_kept.specs.Below.fr_base.declared.name.MutexNo.{MutexNo}
use Rattle.law_copies_kept.specs.Below.fr_base.declared.settings.Options.{Options}
use Rattle.law_copies_kept.specs.Below.fr_base.declared.step.Fresh.{Fresh}
use Rattle.law_copies_kept.specs.Below.fr_base.declared.step.Fresh.TheVariants as fresh
use Rattle.law_copies_kept.specs.Below.read_cache.Cache.{Copy}
use Rattle.law_copies_kept.specs.Below.thread_state.View.{ThreadState, is_over}
use Rattle.law_copies_kept.specs.Below.thread_state.declared.value.Value.{Value}
use Rattle.law_copies_kept.specs.Below.thread_state.declared.value.Value.TheVariants as value
use Rattle.law_copies_kept.specs.Below.migration.Packing.{unpinned, unpin_all}
use Rattle.law_copies_kept.specs.Below.journal.View.{EntryView}
use Rattle.law_copies_kept.specs.Below.server_model.Servers.{Rest, Server, Cluster, server_at}
use Rattle.law_copies_kept.specs.Below.server_model.Work.{Work, Hand, Site, thread_in, set_thread}
use Rattle.law_copies_kept.specs.Below.server_model.Commit.{goes_on, go_on}
use Rattle.law_copies_kept.specs.Below.server_model.Events.{begin_work, begin_at, entry_of, Stepped, done_step, committed, stepped}
use Rattle.law_entries_variables.specs.Below.coloured_heap.Heap.{Running, Coloured}
use Rattle.law_copies_kept.specs.Below.coherent_memory.Names.{tot, one, if_so}
use Rattle.law_copies_kept.specs.Below.coherent_memory.Things.{Thing, stands, things_at, slot_things, copy_things}
use Rattle.law_copies_kept.specs.Below.coherent_memory.Sight.{sight}
use Rattle.law_copies_kept.specs.Below.coherent_memory.Colours.{StandsColoured, running_of}
use Rattle.law_copies_kept.specs.Below.coherent_memory.Coherent.{IsSound}
use Rattle.law_copies_kept.specs.Below.law_counts_sums.Laws.{Gives}
use Rattle.law_copies_kept.proofs.Below.law_counts_sums.Trades.{trade_whole, tot-append}
use Rattle.law_copies_kept.proofs.Below.law_counts_sums.Bags.{all_standing, rest_things, of_cache, thread_number, tot-without, tot-set}
use Rattle.law_copies_kept.specs.Below.law_words_values.Below.law_heap_still.events.Shows.{frame_of}
use Rattle.law_copies_kept.proofs.Below.law_heap_still.events.Told.{told}
use Rattle.law_copies_kept.proofs.Below.law_heap_still.events.Tests.{numbers}
use Rattle.law_entries_variables.specs.deliveries.Entries.{LeadsOn}
use Rattle.law_entries_variables.proofs.deliveries.Answers.{Answers, answers_of, Fits, fits, coloured_by}
use Rattle.law_entries_variables.proofs.deliveries.Weighed.{WorkTurns, SiteTurns, site_things, marks_of, thread_seen, slots_unpinned, server_turns}
use Rattle.law_entries_variables.proofs.deliveries.Shown.{if_some, holder_by}
use Rattle.law_entries_variables.proofs.deliveries.After.{Follows, Keeps}
use Rattle.law_entries_variables.proofs.deliveries.Applied.{server_there}
use Rattle.law_entries_variables.proofs.deliveries.Quiet.{Quietly, quiet_agrees}
use Rattle.law_entries_variables.proofs.still.Kept.{gifts_shown}
use Rattle.law_entries_variables.proofs.still.Settled.{StepLed, runs_here, none_held, Unused, unpinned_unseen}
use Rattle.law_entries_reads.proofs.places.Standing.{Leave, Loads, plain_entry, entry_leaves, entry_reaches}

-- SLOTS BUT FOR PINS

-- what a value shows has no pins
frame_unpinned : (v : Value) → frame_of (unpinned v) ≡ frame_of v
frame_unpinned value.Gone = refl
frame_unpinned (value.Own o) = refl
frame_unpinned (value.SharedSlot i) = refl
frame_unpinned (value.MutSlot i) = refl
frame_unpinned (value.Shared r) = refl
frame_unpinned (value.Mut r) = refl
frame_unpinned (value.Held m) = refl

-- so it is with all slots
frames_unpinned : (vs : List Value) → map frame_of (map unpinned vs) ≡ map frame_of vs
frames_unpinned [] = refl
frames_unpinned (v ∷ vs) = ap₂ (λ x l. x ∷ l) (frame_unpinned v) (frames_unpinned vs)

-- slots that are the same but for pins show the same
frames_same : (vs ws : List Value) → map unpinned vs ≡ map unpinned ws → map frame_of vs ≡ map frame_of ws
frames_same vs ws e = sym (frames_unpinned vs) ∙ ap (map frame_of) e ∙ frames_unpinned ws

-- WHAT IS LEFT

-- a hand that is as it was but for temporary values, pins and uses, and without a gift
pub record Kept (o : Options) (c0 : Coloured) (s : Server) (y : ThreadState) (h : Hand) : Type 0 where
  pub rest : h.work.rest ≡ record s.rest { cache = h.work.rest.cache }
  pub copies : (f : Thing → ℕ) → Unused f → tot f (things_at (copy_things s.rest.number) 0 h.work.rest.cache) ≡ tot f (things_at (copy_things s.rest.number) 0 s.rest.cache)
  pub number : h.thread.number ≡ y.number
  pub slots : map unpinned h.thread.slots ≡ map unpinned y.slots
  pub gift : h.thread.gift ≡ None
  pub acts : Leave o s.rest.number c0 h.work.acts
  pub labels : Loads s.rest.number c0 h.work.labels

-- what is left by such a step
pub record Left (o : Options) (c0 : Coloured) (s : Server) (y : ThreadState) (d : Stepped) : Type 0 where
  pub kept : Kept o c0 s y d.hand
  pub names : d.names ≡ Some fresh.None
  pub live : is_over d.hand.thread.phase ≡ false

-- the step is done from such a hand
pub done_from : (o : Options) (c0 : Coloured) (s : Server) (y : ThreadState) (f : Option Hand) → Gives (Kept o c0 s y) f → Gives (Left o c0 s y) (committed (goes_on f))
done_from o c0 s y None g = tt
done_from o c0 s y (Some h) g = by (unpin_all h.thread.walk h.work.rest.cache) refl
  where
    by : (q : Option (List Copy)) → unpin_all h.thread.walk h.work.rest.cache ≡ q
        → Gives (Left o c0 s y) (option_map (done_step fresh.None) (option_map (λ cs. record { work = record h.work { rest = record h.work.rest { cache = cs } }; thread = record (go_on h).thread { passed = 0; walk = []; moved_since_step = false } }) q))
    by None e = tt
    by (Some cs) e = record {
      kept = record {
        rest = ap (λ (r : Rest). record r { cache = cs }) g.rest;
        copies = λ f z. unpinned_unseen f z s.rest.number h.thread.walk h.work.rest.cache cs e ∙ g.copies f z;
        number = g.number;
        slots = g.slots;
        gift = g.gift;
        acts = g.acts;
        labels = g.labels;
      };
      names = refl;
      live = refl;
    }

-- THE ENTRY

-- a thread changes but for the marks in its slots
thread_turns : (x : Site) (t : ℕ) (y z : ThreadState) (w : Work) → thread_in x.threads t ≡ Some y → z.number ≡ y.number → map unpinned z.slots ≡ map unpinned y.slots → WorkTurns x.work [] [] [] w
    → SiteTurns x (stands x.work.rest.number false y ∷ []) (stands x.work.rest.number false z ∷ []) [] (record { work = w; threads = set_thread x.threads z })
thread_turns x t y z w q same slots b = record {
  number = b.number;
  noted = b.noted;
  labels = b.labels;
  things = λ f h.
      let n = x.work.rest.number in
      let ts = set_thread x.threads z in
      let there : tot f (site_things (record { work = w; threads = ts })) ≡ tot f (all_standing n ts ++ rest_things n 0 w.rest) = ap (λ i. tot f (all_standing i ts ++ rest_things i 0 w.rest)) b.number in
      let marks : marks_of f h z ≡ marks_of f h y =
      ap (λ i. tot f (things_at (slot_things 0 i) 0 z.slots)) same ∙ sym (slots_unpinned f h 0 0 y.number 0 z.slots) ∙ ap (λ l. tot f (things_at (slot_things 0 y.number) 0 l)) slots ∙ slots_unpinned f h 0 0 y.number 0 y.slots in
      omega (
        arith,
        there,
        marks,
        b.things f h,
        thread_seen f h n false y,
        thread_seen f h n false z,
        tot-without n f x.threads t y q,
        tot-set n f x.threads t y z q (same ∙ thread_number x.threads t y q),
        tot-append f (all_standing n x.threads) (rest_things n 0 x.work.rest),
        tot-append f (all_standing n ts) (rest_things n 0 w.rest),
      );
}

-- a thread holds no mutex by its gift
abbrev pub HoldsNone : Cluster → ℕ → ThreadState → Type 0
HoldsNone k n z = (m : MutexNo) (g : ℕ → ℕ) → told g (holder_by (sight k) m (stands n false z)) ≡ 0

module _ (k : Cluster) (sound : IsSound k) (number : ℕ) (s : Server) (here : server_at k.servers number ≡ Some s) (c0 : Coloured) (is_coloured : StandsColoured k c0) (t : ℕ) (y : ThreadState) (at : thread_in s.threads t ≡ Some y) (live : is_over y.phase ≡ false) where
  abbrev n : ℕ
  n = s.rest.number

  -- so it is without a gift
  pub bare_holds_none : (z : ThreadState) → z.gift ≡ None → HoldsNone k n z
  bare_holds_none z e m g = none_held k sound number s here c0 is_coloured t y at live z e m g

  -- nothing that is asked for changes
  quietly : (z : ThreadState) → z.number ≡ y.number → is_over z.phase ≡ false → HoldsNone k n y → HoldsNone k n z → Quietly k (stands n false y ∷ []) (stands n false z ∷ [])
  quietly z named on none none2 = record {
    objects = λ o g. refl;
    drops = λ o. refl;
    copies = λ r w g. refl;
    served = λ j. refl;
    issued = λ h r w. refl;
    started = λ r w. refl;
    made = λ r w. refl;
    threads = λ u. ap (λ i. one (i == u) + 0) (sym named);
    running = λ u g. ap (λ i. i + 0) (ap₂ (λ i q. if_so (i == u) (told g (if_some (not q) (record { thread = u; server = n; has_ended = false })))) (sym named) (live ∙ sym on));
    wishes = λ j. refl;
    there = λ o. omega arith;
    holders = λ o g. omega (arith, none o g, none2 o g);
  }

  -- so the entry leads on
  pub left_led : (d : Stepped) → HoldsNone k n y → Left k.options c0 s y d → StepLed k s c0 (stepped s d)
  left_led d none q c after words = subst (λ e. LeadsOn k.options e c0 c) (sym entry) (record {
    state = c0;
    legal = entry_leaves k.options n y.number d.hand.work.acts d.hand.work.labels c0 (server_there k sound number s here).0 me (h.servers y.number me runs) (numbers.itself n) q.kept.acts q.kept.labels;
    reached = entry_reaches k.options n y.number d.hand.work.acts d.hand.work.labels c0 (server_there k sound number s here).0 me (h.servers y.number me runs) (numbers.itself n) q.kept.acts q.kept.labels;
    stands = coloured_by a (sight c) c0 h (quiet_agrees k c olds news sound follows keeps (quietly z q.kept.number q.live none (bare_holds_none z q.kept.gift)));
  })
    where
      z : ThreadState
      z = d.hand.thread

      me : Running
      me = record { thread = y.number; server = n; has_ended = false }

      runs : running_of (sight k) y.number ≡ Some (record { thread = y.number; server = n; has_ended = false })
      runs = runs_here k sound number s here c0 is_coloured t y at live

      olds : List Thing
      olds = stands n false y ∷ []

      news : List Thing
      news = stands n false z ∷ []

      a : Answers
      a = answers_of (sight k)

      h : Fits (answers_of (sight k)) c0
      h = fits (sight k) c0 is_coloured

      made : ℕ → ℕ → Option Fresh → EntryView
      made m i names = record { server = m; thread = Some i; done = names; acts = d.hand.work.acts; labels = d.hand.work.labels }

      entry : entry_of (Some d.hand.thread.number) d.names d.hand.work ≡ plain_entry n y.number d.hand.work.acts d.hand.work.labels
      entry = ap₂ (λ (r : Rest) i. made r.number i d.names) q.kept.rest q.kept.number ∙ ap (made n y.number) q.names

      bare_work : Work
      bare_work = record { rest = d.hand.work.rest; acts = []; labels = [] }

      cache : WorkTurns (begin_work s.rest) [] [] [] bare_work
      cache = record {
        number = ap (λ (r : Rest). r.number) q.kept.rest;
        noted = refl;
        labels = refl;
        things = λ f i.
            let cs = d.hand.work.rest.cache in
            let t2 = of_cache n 0 s.rest cs (trade_whole (things_at (copy_things n) 0 s.rest.cache) (things_at (copy_things n) 0 cs)) in
            let there : tot f (rest_things n 0 d.hand.work.rest) ≡ tot f (rest_things n 0 (record s.rest { cache = cs })) = ap (λ r. tot f (rest_things n 0 r)) q.kept.rest in
            omega (arith, there, t2.before f, t2.after f, q.kept.copies f i.unused);
      }

      turns : SiteTurns (begin_at s) olds news [] (record { work = bare_work; threads = set_thread s.threads z })
      turns = thread_turns (begin_at s) t y z bare_work at q.kept.number q.kept.slots cache

      follows : Follows k c olds news
      follows = record { code = after.0; options = after.1; things = λ f i. omega (arith, after.2 f, server_turns s (record { work = bare_work; threads = set_thread s.threads z }) olds news [] s.events (Some z.number) d.names turns f i) }

      keeps : Keeps k c
      keeps = record { words = words.words; gifts = gifts_shown k c sound n false false y z [] (λ j. refl) (λ f j. refl) (λ o g. refl) q.kept.number (frames_same z.slots y.slots q.kept.slots) follows }
