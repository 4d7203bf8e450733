-- What a step asks for is what its thread waits for then, and all else that will answer a thread stays.
use Rattle.std.proofs.Common.{◌≡◌, ℕ, ◌+◌, ◌==◌, Bool, true, false, if◌then◌else◌, List, Some, refl, sym, ap, subst, ◌∙◌}
use Rattle.std.specs.List.{AllByRecursion}
use Rattle.std.proofs.lemmas.Bool.{eq-eqb}
use Rattle.law_results_reads.specs.Below.fr_base.declared.name.MutexNo.{MutexNo}
use Rattle.law_results_reads.specs.Below.fr_base.declared.instruction.Instr.{Instr}
use Rattle.law_results_reads.specs.Below.fr_base.declared.release.Released.TheVariants as released
use Rattle.law_results_reads.specs.Below.global_addr.Words.{server_of}
use Rattle.law_results_reads.specs.Below.heap_partition.declared.value.Owned.{Owned}
use Rattle.law_results_reads.specs.Below.heap_partition.declared.value.Owned.TheVariants as owned
use Rattle.law_results_reads.specs.Below.mutex_home.Mutexes.{Mutex, can_make}
use Rattle.law_results_reads.specs.Below.join_home.Tasks.{Task, can_begin, can_begin_pair}
use Rattle.law_results_reads.specs.Below.thread_state.View.{ThreadState, new_thread}
use Rattle.law_results_reads.specs.Below.thread_state.declared.phase.Phase.{Phase}
use Rattle.law_results_reads.specs.Below.thread_state.declared.phase.Phase.TheVariants as phase
use Rattle.law_results_reads.specs.Below.thread_state.declared.value.Value.{Value}
use Rattle.law_results_reads.specs.Below.server_msgs.declared.message.Message.{Message}
use Rattle.law_results_reads.specs.Below.server_msgs.declared.message.Message.TheVariants as message
use Rattle.law_results_reads.specs.Below.journal.declared.act.Act.TheVariants as act
use Rattle.law_results_reads.specs.Below.server_model.Servers.{Sent, Rest}
use Rattle.law_results_reads.specs.Below.server_model.Work.{Work, Hand, with_phase, sent_from}
use Rattle.law_results_reads.specs.Below.server_model.NewWords.{NewWord, can_grow, issue_placed}
use Rattle.law_results_reads.specs.Below.server_model.Start.{next_thread, server_for, start_thread, capture}
use Rattle.law_results_reads.specs.Below.server_model.Drop.{home_of, give_up}
use Rattle.law_results_reads.specs.Below.server_model.Commit.{go_on, next_object, push_box, begun, pair_begun, spawn_with, end_with}
use Rattle.law_results_reads.specs.Below.server_model.Events.{can_step, step}
use Rattle.law_results_reads.specs.Below.coherent_memory.Names.{other, same_mutex}
use Rattle.law_results_reads.specs.Below.coherent_memory.Requests.{is_cell, is_lock, is_dup, is_join}
use Rattle.law_results_reads.specs.Below.law_counts_sums.Laws.{Gives}
use Rattle.law_results_reads.proofs.Below.law_counts_sums.Results.{then_gives, over_gives, test_gives}
use Rattle.law_results_reads.proofs.Below.law_counts_sums.Known.{all_append}
use Rattle.law_counts_things.proofs.things.Small.{Of, Places, Small, Passes}
use Rattle.law_counts_things.proofs.things.Plainly.{Settles, moves_by, Acts, EndsStep, steps}
use Rattle.law_counts_things.proofs.things.Goes.{puts_by, Any, AnyWord}
use Rattle.law_counts_asking.proofs.Asking.{Phases, passes, unfit, MessageFits, QueueFits, NoteFits, Fits, RestFits, sent_fits, turned, rest_still}

-- what the thread itself asks for fits its phase then
own_fits : (a : Phases) (n : ℕ) (p : Phase) (f : Phase → Bool) → f p ≡ true → unfit (turned a n p) n f ≡ 0
own_fits a n p f e = ap (λ b. other (passes f (if b then Some p else a n))) (eq-eqb n n refl) ∙ ap other e

-- who waits for the word waits for it
same_cell_word : (w : ℕ) → is_cell w (phase.WaitCell w) ≡ true
same_cell_word w = eq-eqb w w refl

-- a mutex is the same as itself
pub same_mutex_itself : (m : MutexNo) → same_mutex m m ≡ true
same_mutex_itself m = ap (λ b. Rattle.std.specs.Prelude.◌&&◌ b (m.count == m.count)) (eq-eqb m.home m.home refl) ∙ eq-eqb m.count m.count refl

-- the thread y, of which another phase was known that doesn't wait
module _ (a : Phases) (y : ThreadState) (now : Phase) (has : a y.number ≡ Some now) (calm : can_step now ≡ true) (servers : ℕ) (i : Instr) where
  abbrev F : Rest → ThreadState → Type 0
  F r t = Fits a r.mutexes.there r.tasks r.inbox r.outbox × (t.number ≡ y.number)

  abbrev pub E : Rest → ThreadState → Type 0
  E r t = Fits (turned a y.number t.phase) r.mutexes.there r.tasks r.inbox r.outbox

  -- what fits still fits where the thread that steps gets a phase
  still : (p : Phase) {there : List Mutex} {ts : List Task} {inbox : List Message} {outbox : List Sent} → Fits a there ts inbox outbox → Fits (turned a y.number p) there ts inbox outbox
  still p {there} {ts} {inbox} {outbox} g = rest_still a y.number now has calm p there ts inbox outbox g

  -- values make no difference
  places : Places F Any AnyWord
  places = record {
    spot = λ s v h g e. tt;
    puts = λ s v h z u g. puts_by F (λ vs r t x. x) (λ vs r t x. x) (λ h2 w x u. u) s v h g;
    worded = λ w v new x u e. tt;
    word_of = λ r u. tt;
    points = λ v p u e. tt;
  }

  -- a request of the thread, in the phase that waits for its answer
  asks : (p : Phase) (t : ℕ) (m : ℕ → Message) (f : Phase → Bool) → ((u : ℕ) → MessageFits (turned a y.number p) (m u) ≡ (unfit (turned a y.number p) u f ≡ 0)) → f p ≡ true → (h : Hand) → Of F h → RestFits (turned a y.number p) (sent_from h.work.rest t (m h.thread.number))
  asks p t m f is e h g =
      sent_fits (turned a y.number p) t (m h.thread.number) h.work.rest
      (subst (λ n. MessageFits (turned a y.number p) (m n)) (sym g.1) (by (sym (is y.number)) (own_fits a y.number p f e))) (still p g.0)
    where
      by : {A B : Type 0} → A ≡ B → A → B
      by e x = subst (λ (t : Type 0). t) e x

  -- the small steps of a place: a request fits the phase that its thread gets
  small : Small F E Any AnyWord
  small = record {
    places = places;
    tints = λ p h u g e. tt;
    renews = λ p h u g e. (tt, g);
    pinned = λ r u. tt;
    pins = λ w h e g. g;
    uses = λ w h e g. g;
    asks_copy = λ p h u e g. asks (phase.WaitCell p.word) (server_of p.word) (λ n. message.Fetch p.word p.object h.work.rest.number n) (is_cell p.word) (λ n. refl) (same_cell_word p.word) h g;
    asks_object = λ p h u e g. asks (phase.WaitCell p.word) (server_of p.word) (λ n. message.Move p.word p.object h.work.rest.number n) (is_cell p.word) (λ n. refl) (same_cell_word p.word) h g;
  }

  -- passing a hop makes no difference
  passed : Passes F
  passed m h g = g

  -- what answers nobody is sent
  says : (t : ℕ) (m : Message) (r : Rest) → MessageFits a m → RestFits a r → RestFits a (sent_from r t m)
  says t m r z g = sent_fits a t m r z g

  -- what is given up asks for nothing
  gives_up : (v : Owned) (w : Work) → RestFits a w.rest → RestFits a (give_up v w).rest
  gives_up (owned.Box p) w g = says (server_of p.word) (message.Drop p.word p.object) w.rest refl g
  gives_up (owned.Mutex m) w g = says m.home (message.Release (released.Mutex m)) w.rest refl g
  gives_up (owned.Task t) w g = says (home_of t) (message.Release (released.Task t)) w.rest refl g
  gives_up owned.Nothing w g = g
  gives_up owned.Unit w g = g
  gives_up (owned.Int m) w g = g

  -- nor does a new thread
  starts : (pc : ℕ) (vs : List Value) (w : Work) → RestFits a w.rest → RestFits a (start_thread servers pc vs w).rest
  starts pc vs w g = says (server_for servers w.rest) (message.Start (new_thread (next_thread w.rest) pc vs)) (record w.rest { started = w.rest.started + 1 }) refl (record { queues = g.queues; notes = g.notes; waiting = g.waiting; leaving = g.leaving })

  -- nor does the end of a thread
  ended : (main : Bool) (v : Owned) (h : Hand) → Of F h → Gives (λ h2. Settles E (with_phase phase.Over h2)) (end_with main v h)
  ended true v h g = λ cs z. still phase.Over (gives_up v (Rattle.law_results_reads.specs.Below.server_model.Commit.label_dropped (Rattle.law_results_reads.specs.Below.thread_state.declared.value.Value.TheVariants.Own v) h).work g.0)
  ended false v h g = λ cs z. still phase.Over (says h.thread.home (message.Finished h.thread.number v) h.work.rest refl g.0)

  -- the plain steps: what a lock, a dup or a join asks for fits the phase
  acts : Acts servers F E Any Any AnyWord i
  acts = record {
    places = places;
    number = λ m. tt;
    unit_value = tt;
    nothing_value = tt;
    gone = tt;
    owned_temp = λ v u. tt;
    shared_slot = λ j. tt;
    mutable_slot = λ j. tt;
    second = λ v u z e. tt;
    shared = λ v u z e. tt;
    lent = λ w d e z v u h x g c. tt;
    off_temps = λ h g. g;
    off_slots = λ h g. g;
    on_temps = λ v h u g. g;
    on_slots = λ v h u g. g;
    gives = λ v h u g. (gives_up v h.work g.0, g.1);
    unpins = λ w h e g. g;
    gift = λ v h e g. (tt, g);
    boxes = λ o e v h u g.
        over_gives (λ (m : NewWord). F m.work.rest h.thread) (λ h2. Settles E (go_on h2)) (issue_placed (act.Make (next_object h)) (record { object = next_object h; value = v }) h.work) (λ m. push_box v m h)
        (test_gives (λ (m : NewWord). F m.work.rest h.thread) (can_grow h.work.rest.partition) _ (λ z. g)) (λ m w cs z. still phase.Ready w.0);
    mutexes = λ o e v h u g. test_gives (λ h2. Settles E (go_on h2)) (can_make h.work.rest.mutexes) _ (λ z cs z2.
        let fits = g.0 in still phase.Ready (record { queues = all_append (QueueFits a) h.work.rest.mutexes.there _ fits.queues (tt, tt); notes = fits.notes; waiting = fits.waiting; leaving = fits.leaving }));
    spawns = λ cs pc e h g.
        then_gives (λ h2. Settles E (go_on h2)) (capture false cs.items h.thread.slots) (spawn_with servers pc (next_thread h.work.rest) h) (λ new q.
        over_gives (Of F) (λ h2. Settles E (go_on h2)) (begun h) _ (test_gives (Of F) (can_begin h.work.rest.tasks (next_thread h.work.rest)) _ (λ z.
        let fits = g.0 in (record { queues = fits.queues; notes = all_append (NoteFits a) h.work.rest.tasks _ fits.notes (refl, tt); waiting = fits.waiting; leaving = fits.leaving }, g.1)))
        (λ h2 u cs2 z. still phase.Ready (starts pc new.0 h2.work u.0)));
    unlocks = λ e m v h u x g. (says m.home (message.Unlock m v) h.work.rest refl g.0, g.1);
    holds = λ w e m u. tt;
    goes = λ o h g cs z. still phase.Ready g.0;
    pairs = λ cs pc ds to e h g.
        let u = next_thread h.work.rest in
        then_gives (Settles E) (capture true cs.items h.thread.slots) _ (λ first p. then_gives (Settles E) (capture true ds.items first.1) _ (λ second q.
        over_gives (Of F) (Settles E) (pair_begun h u (u + 1)) _ (test_gives (Of F) (can_begin_pair h.work.rest.tasks h.thread.number u (u + 1)) _ (λ z.
        let fits = g.0 in
        (record { queues = fits.queues; notes = all_append (NoteFits a) _ _ (all_append (NoteFits a) h.work.rest.tasks _ fits.notes (refl, tt)) (refl, tt); waiting = fits.waiting; leaving = fits.leaving }, g.1)))
        (λ h2 b cs2 z. still (phase.WaitPar u (u + 1)) (starts to second.0 (start_thread servers pc first.0 h2.work) (starts pc first.0 h2.work b.0)))));
    ends = λ o e main v h u g. ended main v h g;
    asks_join = λ o e u h q x g. asks (phase.WaitJoin u) (home_of u) (λ n. message.Join u h.work.rest.number n) (is_join u) (λ n. refl) (eq-eqb u u refl) h g;
    asks_dup = λ w e m h q u g. asks (phase.WaitDup m) m.home (λ n. message.Dup m h.work.rest.number n) (is_dup m) (λ n. refl) (same_mutex_itself m) h g;
    asks_lock = λ w e m h q u g. asks (phase.WaitLock m) m.home (λ n. message.Lock m h.work.rest.number n) (is_lock m) (λ n. refl) (same_mutex_itself m) h g;
  }

  -- a step of it leaves all that asks, or answers, fitting
  pub step_asks : (h : Hand) → h.thread ≡ y → RestFits a h.work.rest → Gives (EndsStep E) (step servers i h)
  step_asks h e g = steps i h (λ f. small) (λ f. passed) acts (λ h2 s q u. moves_by i s h2 (λ w c v z. tt)) (g, ap (λ (t : ThreadState). t.number) e)
