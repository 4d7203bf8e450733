-- A step of a thread, done or not, costs at most three more than it takes, the threads that it starts aside.
use Rattle.std.proofs.Common.{◌≡◌, ◌≤◌, ℕ, ◌+◌, ◌*◌, ◌-◌, Bool, true, false, if◌then◌else◌, List, Some, ap, arith}
use Rattle.law_runs_coherent.specs.Below.fr_base.declared.instruction.Instr.{Instr}
use Rattle.law_runs_coherent.specs.Below.heap_partition.declared.value.Cell.{Cell}
use Rattle.law_runs_coherent.specs.Below.heap_partition.declared.value.Owned.{Owned}
use Rattle.law_runs_coherent.specs.Below.heap_partition.declared.value.Owned.TheVariants as owned
use Rattle.law_runs_coherent.specs.Below.owner_box.Partition.{stored, made, renewed}
use Rattle.law_runs_coherent.specs.Below.read_cache.Cache.{Copy, pin, unpin, users}
use Rattle.law_runs_coherent.specs.Below.migration.Packing.{unpin_all}
use Rattle.law_runs_coherent.specs.Below.mutex_home.Mutexes.{can_make, make}
use Rattle.law_runs_coherent.specs.Below.join_home.Tasks.{Task, can_begin, begin, can_begin_pair, begin_pair}
use Rattle.law_runs_coherent.specs.Below.thread_state.View.{ThreadState, new_thread}
use Rattle.law_runs_coherent.specs.Below.thread_state.declared.phase.Phase.TheVariants as phase
use Rattle.law_runs_coherent.specs.Below.thread_state.declared.value.Value.{Value}
use Rattle.law_runs_coherent.specs.Below.thread_state.declared.value.Value.TheVariants as value
use Rattle.law_runs_coherent.specs.Below.server_msgs.declared.message.Message.{Message}
use Rattle.law_runs_coherent.specs.Below.server_msgs.declared.message.Message.TheVariants as message
use Rattle.law_runs_coherent.specs.Below.journal.declared.act.Act.TheVariants as act
use Rattle.law_runs_coherent.specs.Below.server_model.Servers.{Rest}
use Rattle.law_runs_coherent.specs.Below.server_model.Work.{Work, Hand, sent_from, with_phase}
use Rattle.law_runs_coherent.specs.Below.server_model.NewWords.{NewWord, can_grow, issue_placed}
use Rattle.law_runs_coherent.specs.Below.server_model.Start.{next_thread, server_for, start_thread, capture}
use Rattle.law_runs_coherent.specs.Below.server_model.Drop.{home_of, give_up}
use Rattle.law_runs_coherent.specs.Below.server_model.Commit.{go_on, next_object, push_box, begun, pair_begun, spawn_with, end_with, label_dropped, ask_join, ask_dup, ask_lock}
use Rattle.law_runs_coherent.specs.Below.server_model.Prepare.{ask_copy, ask_object}
use Rattle.law_runs_coherent.specs.Below.law_counts_things.Below.global_addr.Words.{server_of}
use Rattle.law_runs_coherent.specs.Below.server_model.Events.{step}
use Rattle.law_runs_coherent.specs.Below.law_counts_sums.Laws.{Gives}
use Rattle.law_runs_coherent.proofs.Below.law_counts_sums.Results.{then_gives, over_gives, test_gives}
use Rattle.law_runs_coherent.proofs.Below.law_counts_things.things.Small.{Of, Places, Small}
use Rattle.law_runs_coherent.proofs.Below.law_counts_things.things.Plainly.{Settles, moves_by, Acts, EndsStep, steps}
use Rattle.law_runs_coherent.proofs.Below.law_counts_things.things.Goes.{Any, AnyWord, puts_by}
use Rattle.law_length_runs.specs.worth.Credit.{thread_worth, rest_worth}
use Rattle.law_length_runs.proofs.worth.Lists.{users_length, unpinned_length, made_live, stored_live, renewed_live}
use Rattle.law_length_runs.proofs.worth.Parts.{Within, sends, starts, noted_worth, mutex_made_worth, begin_worth, pair_worth}

-- what is let go costs nothing
pub gives_up : (c b : ℕ) (v : Owned) (w : Work) → Within c b w.rest → Within c b (give_up v w).rest
gives_up c b (owned.Box p) w g = sends c c b w.rest _ _ (omega arith) g
gives_up c b (owned.Mutex n) w g = sends c c b w.rest _ _ (omega arith) g
gives_up c b (owned.Task t) w g = sends c c b w.rest _ _ (omega arith) g
gives_up c b owned.Nothing w g = g
gives_up c b owned.Unit w g = g
gives_up c b (owned.Int n) w g = g

-- a value that is put costs nothing
pub stores : (c b : ℕ) (r : Rest) (w : ℕ) (v : Owned) → Within c b r → Within c b (record r { partition = stored r.partition w v })
stores c b r w v g = omega (arith, g, stored_live r.partition w v)

-- nor does a use of a copy
pub pins : (c b : ℕ) (r : Rest) (w : ℕ) → Within c b r → Within c b (record r { cache = pin r.cache w })
pins c b r w g = omega (arith, g, users_length r.cache w (users r.cache w + 1))

-- a renewal is as many objects
pub renews : (c b : ℕ) (r : Rest) (w : ℕ) → Within c b r → Within c b (record r { partition = renewed r.partition w })
renews c b r w g = omega (arith, g, renewed_live r.partition w)

unpins : (c b : ℕ) (r : Rest) (w : ℕ) → Within c b r → Within c b (record r { cache = unpin r.cache w })
unpins c b r w g = omega (arith, g, users_length r.cache w (users r.cache w - 1))

-- an object more, a mutex more, and a thread that is noted or two of them
pub makes : (c b : ℕ) (r : Rest) (x : Cell) → Within c b r → Within (c + 1) b (record r { partition = made r.partition x })
makes c b r x g = omega (arith, g, made_live r.partition x)

new_mutex : (c b : ℕ) (r : Rest) (v : Owned) → Within c b r → Within (c + 1) b (record r { mutexes = make r.mutexes v })
new_mutex c b r v g = omega (arith, g, mutex_made_worth r.mutexes v)

noted : (c b : ℕ) (r : Rest) (xs : List Task) → noted_worth xs ≡ noted_worth r.tasks + 2 → Within c b r → Within (c + 2) b (record r { tasks = xs })
noted c b r xs e g = omega (arith, g, e)

module _ (c b : ℕ) (y : ThreadState) where
  -- in the middle of a step
  abbrev pub F : Rest → ThreadState → Type 0
  F r t = (t.number ≡ y.number) × (t.moved_since_step ≡ y.moved_since_step) × Within c b r

  -- at its end
  abbrev pub E : Rest → ThreadState → Type 0
  E r t = (t.number ≡ y.number) × (thread_worth t + rest_worth r + b ≤ c + thread_worth y + 3 + 5 * r.started)

  pub places : Places F Any AnyWord
  places = record {
    spot = λ s v h g e. tt;
    puts = λ s v h z a g. puts_by F (λ vs r t x. x) (λ vs r t x. x) (λ h2 w x g2. (g2.0, g2.1, stores c b h2.work.rest w x g2.2)) s v h g;
    worded = λ w v new a x e. tt;
    word_of = λ r a. tt;
    points = λ v p a e. tt;
  }

  -- a thread that waits is worth what it was
  waits : (h : Hand) → h.thread.number ≡ y.number → h.thread.moved_since_step ≡ y.moved_since_step → Within (c + 3) b h.work.rest → Of E h
  waits h n m g = let w : thread_worth h.thread ≡ thread_worth y = ap (λ q. if q then 0 else 2) m in (n, omega (arith, w, g))

  small : Small F E Any AnyWord
  small = record {
    places = places;
    tints = λ p h a g e. tt;
    renews = λ p h a g e. (tt, (g.0, g.1, renews c b h.work.rest p.word g.2));
    pinned = λ r a. tt;
    pins = λ w h e g. (g.0, g.1, pins c b h.work.rest w g.2);
    uses = λ w h e g. (g.0, g.1, pins c b h.work.rest w g.2);
    asks_copy = λ p h a e g. waits (ask_copy p h) g.0 g.1 (sends c (c + 3) b h.work.rest (server_of p.word) (message.Fetch p.word p.object h.work.rest.number h.thread.number) (omega arith) g.2);
    asks_object = λ p h a e g. waits (ask_object p h) g.0 g.1 (sends c (c + 3) b h.work.rest (server_of p.word) (message.Move p.word p.object h.work.rest.number h.thread.number) (omega arith) g.2);
  }

  -- a step that ends has moved no more, and costs one at most
  at_end : (r : Rest) (ws : List ℕ) (cs : List Copy) → unpin_all ws r.cache ≡ Some cs → Within (c + 1) b r → 2 + rest_worth (record r { cache = cs }) + b ≤ c + thread_worth y + 3 + 5 * r.started
  at_end r ws cs e g = omega (arith, g, unpinned_length ws r.cache cs e)

  more : (r : Rest) → Within c b r → Within (c + 1) b r
  more r g = omega (arith, g)

  over_main : (main : Bool) (v : Owned) (h : Hand) → Of F h → Gives (λ h2. Settles E (with_phase phase.Over h2)) (end_with main v h)
  over_main true v h g = λ cs z.
      let w : Work = give_up v (label_dropped (value.Own v) h).work in
      (g.0, at_end w.rest h.thread.walk cs z (more w.rest (gives_up c b v (label_dropped (value.Own v) h).work g.2)))
  over_main false v h g = λ cs z.
      let m : Message = message.Finished h.thread.number v in
      (g.0, at_end (sent_from h.work.rest h.thread.home m) h.thread.walk cs z (sends c (c + 1) b h.work.rest h.thread.home m (omega arith) g.2))

  -- a thread that starts, or two of them
  abbrev Begun : Hand → Type 0
  Begun h2 = (h2.thread.number ≡ y.number) × Within (c + 2) b h2.work.rest

  one_starts : (d n pc : ℕ) (vs : List Value) (w : Work) → d ≤ c + 2 → Within d b w.rest → Within c b (start_thread n pc vs w).rest
  one_starts d n pc vs w l g = starts d c b w.rest (server_for n w.rest) (message.Start (new_thread (next_thread w.rest) pc vs)) (omega (arith, l)) g

  acts : (n : ℕ) (i : Instr) → Acts n F E Any Any AnyWord i
  acts n i = record {
    places = places;
    number = λ m. tt;
    unit_value = tt;
    nothing_value = tt;
    gone = tt;
    owned_temp = λ v a. tt;
    shared_slot = λ j. tt;
    mutable_slot = λ j. tt;
    second = λ v u a e. tt;
    shared = λ v u a e. tt;
    lent = λ w d e z v u h a g x. tt;
    off_temps = λ h g. g;
    off_slots = λ h g. g;
    on_temps = λ v h a g. g;
    on_slots = λ v h a g. g;
    gives = λ v h a g. (g.0, g.1, gives_up c b v h.work g.2);
    unpins = λ w h e g. (g.0, g.1, unpins c b h.work.rest w g.2);
    gift = λ v h e g. (tt, g);
    boxes = λ o e v h a g.
        let new : Cell = record { object = next_object h; value = v } in
        over_gives (λ (x : NewWord). Within (c + 1) b x.work.rest) (λ h2. Settles E (go_on h2)) (issue_placed (act.Make (next_object h)) new h.work) (λ x. push_box v x h)
        (test_gives (λ (x : NewWord). Within (c + 1) b x.work.rest) (can_grow h.work.rest.partition) _ (λ z. makes c b h.work.rest new g.2))
        (λ x w cs z. (g.0, at_end x.work.rest h.thread.walk cs z w));
    mutexes = λ o e v h a g.
        test_gives (λ h2. Settles E (go_on h2)) (can_make h.work.rest.mutexes) _ (λ z cs z2.
        (g.0, at_end (record h.work.rest { mutexes = make h.work.rest.mutexes v }) h.thread.walk cs z2 (new_mutex c b h.work.rest v g.2)));
    spawns = λ cs pc e h g.
        let u = next_thread h.work.rest in
        then_gives (λ h2. Settles E (go_on h2)) (capture false cs.items h.thread.slots) (spawn_with n pc u h) (λ new q.
        over_gives Begun (λ h2. Settles E (go_on h2)) (begun h) _ (test_gives Begun (can_begin h.work.rest.tasks u) _ (λ z. (g.0, noted c b h.work.rest (begin h.work.rest.tasks u) (begin_worth h.work.rest.tasks u) g.2)))
        (λ h2 x cs2 z.
        let w : Work = start_thread n pc new.0 h2.work in
        (x.0, at_end w.rest h2.thread.walk cs2 z (more w.rest (one_starts (c + 2) n pc new.0 h2.work (omega arith) x.1)))));
    unlocks = λ e m v h a d g. (g.0, g.1, sends c c b h.work.rest m.home (message.Unlock m v) (omega arith) g.2);
    holds = λ w e m a. tt;
    goes = λ o h g cs z. (g.0, at_end h.work.rest h.thread.walk cs z (more h.work.rest g.2));
    pairs = λ cs pc ds other e h g.
        let u = next_thread h.work.rest in
        then_gives (Settles E) (capture true cs.items h.thread.slots) _ (λ first p. then_gives (Settles E) (capture true ds.items first.1) _ (λ second q.
        over_gives Begun (Settles E) (pair_begun h u (u + 1)) _
        (test_gives Begun (can_begin_pair h.work.rest.tasks h.thread.number u (u + 1)) _ (λ z. (g.0, noted c b h.work.rest (begin_pair h.work.rest.tasks h.thread.number u (u + 1)) (pair_worth h.work.rest.tasks h.thread.number u (u + 1)) g.2)))
        (λ h2 x cs2 z.
        let one : Work = start_thread n pc first.0 h2.work in
        let w : Work = start_thread n other second.0 one in
        (x.0, at_end w.rest h2.thread.walk cs2 z (more w.rest (one_starts c n other second.0 one (omega arith) (one_starts (c + 2) n pc first.0 h2.work (omega arith) x.1)))))));
    ends = λ o e main v h a g. over_main main v h g;
    asks_join = λ o e u h q a g. waits (ask_join h u) g.0 g.1 (sends c (c + 3) b h.work.rest (home_of u) (message.Join u h.work.rest.number h.thread.number) (omega arith) g.2);
    asks_dup = λ w e m h q a g. waits (ask_dup h m) g.0 g.1 (sends c (c + 3) b h.work.rest m.home (message.Dup m h.work.rest.number h.thread.number) (omega arith) g.2);
    asks_lock = λ w e m h q a g. waits (ask_lock h m) g.0 g.1 (sends c (c + 3) b h.work.rest m.home (message.Lock m h.work.rest.number h.thread.number) (omega arith) g.2);
  }

  pub step_costs : (n : ℕ) (i : Instr) (h : Hand) → Of F h → Gives (EndsStep E) (step n i h)
  step_costs n i h g = steps i h (λ f. small) (λ f m h2 u. u) (acts n i) (λ h2 s q u. moves_by i s h2 (λ w d v z. tt)) g
