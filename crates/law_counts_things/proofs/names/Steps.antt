-- A step keeps what its server and its thread name, where the new names that its instruction gives fit.
use Rattle.std.proofs.Common.{◌≡◌, ℕ, suc, ◌+◌, ◌-◌, ◌*◌, ◌^◌, ◌&&◌, nat_lt, not, Bool, true, false, List, [], ◌∷◌, ◌++◌, Some, None, refl, sym, ap, subst, ◌∙◌, arith}
use Rattle.std.specs.List.{AllByRecursion}
use Rattle.law_counts_things.specs.Below.fr_base.Rooms.{WithRoom}
use Rattle.law_counts_things.specs.Below.fr_base.declared.place.Lval.{Lval}
use Rattle.law_counts_things.specs.Below.fr_base.declared.instruction.Instr.{Instr}
use Rattle.law_counts_things.specs.Below.fr_base.declared.instruction.Instr.TheVariants as instr
use Rattle.law_counts_things.specs.Below.fr_base.declared.instruction.Operand.{Operand}
use Rattle.law_counts_things.specs.Below.heap_partition.declared.value.BoxPtr.{BoxPtr}
use Rattle.law_counts_things.specs.Below.heap_partition.declared.value.Owned.{Owned}
use Rattle.law_counts_things.specs.Below.heap_partition.declared.value.Owned.TheVariants as owned
use Rattle.law_counts_things.specs.Below.global_addr.Words.{colour_of, server_of}
use Rattle.law_counts_things.specs.Below.owner_box.Partition.{made, renewed}
use Rattle.law_counts_things.specs.Below.read_cache.Cache.{Copy, users, pin}
use Rattle.law_counts_things.specs.Below.mutex_home.Mutexes.{can_make, make, next_mutex}
use Rattle.law_counts_things.specs.Below.join_home.Tasks.{Task, going, in_pair, can_begin, begin, can_begin_pair, begin_pair}
use Rattle.law_counts_things.specs.Below.migration.Packing.{unpin_all}
use Rattle.law_counts_things.specs.Below.thread_state.View.{ThreadState, new_thread, is_over}
use Rattle.law_counts_things.specs.Below.thread_state.declared.phase.Phase.{Phase}
use Rattle.law_counts_things.specs.Below.thread_state.declared.phase.Phase.TheVariants as phase
use Rattle.law_counts_things.specs.Below.thread_state.declared.value.Value.{Value}
use Rattle.law_counts_things.specs.Below.thread_state.declared.value.Value.TheVariants as value
use Rattle.law_counts_things.specs.Below.server_msgs.declared.message.Message.{Message}
use Rattle.law_counts_things.specs.Below.server_msgs.declared.message.Message.TheVariants as message
use Rattle.law_counts_things.specs.Below.journal.declared.act.Act.TheVariants as act
use Rattle.law_counts_things.specs.Below.server_model.Servers.{Rest}
use Rattle.law_counts_things.specs.Below.server_model.Work.{Work, Hand, sent_from, leads_here, with_cache, with_phase, working, front_of, then_some}
use Rattle.law_counts_things.specs.Below.server_model.NewWords.{NewWord, can_grow, is_last, issue_placed}
use Rattle.law_counts_things.specs.Below.server_model.Places.{Spot, value_at}
use Rattle.law_counts_things.specs.Below.server_model.Start.{next_thread, server_for, start_thread, capture}
use Rattle.law_counts_things.specs.Below.server_model.Drop.{home_of, give_up}
use Rattle.law_counts_things.specs.Below.server_model.Prepare.{ready, access_of, prepare, ask_copy, ask_object}
use Rattle.law_counts_things.specs.Below.server_model.Commit.{go_on, next_object, push_box, make_box, begun, pair_begun, spawn_with, par_with, end_with, label_dropped, mutex_made}
use Rattle.law_counts_things.specs.Below.server_model.Events.{step}
use Rattle.law_counts_things.specs.Below.coherent_memory.Placing.{phase_word}
use Rattle.law_counts_things.specs.Below.coherent_memory.Naming.{phase_thread}
use Rattle.law_counts_things.specs.Below.coherent_memory.Sharing.{phase_mutex}
use Rattle.law_counts_things.proofs.Below.coherent_memory.Names.{if_none, and_right}
use Rattle.law_counts_things.specs.Below.law_counts_sums.Laws.{Gives}
use Rattle.law_counts_things.proofs.Below.law_counts_sums.Results.{over_gives, bind_gives, test_gives}
use Rattle.law_counts_things.proofs.Below.law_counts_sums.Known.{all_append, all_take}
use Rattle.law_counts_things.proofs.things.Small.{Of, Small, Follows}
use Rattle.law_counts_things.proofs.things.Plainly.{Settles, Quiet, moves_by, Acts, EndsStep, steps}
use Rattle.law_counts_things.proofs.names.Fit.{Weights, Closed, marks, OwnedFits, Fits, TempFits, WordFits, MutexFit, TaskFits, owned_temp, ThreadFit, ThreadBody, Live, MessageFits, PartitionFit, made_fits, renewed_fits, issued_fits, renewal_fits, unpinned_fit, Base, RestFits}
use Rattle.law_counts_things.proofs.names.Middle.{BothFit, second_fits, shared_fits, lent_fits, capture_fits, says_fits, with_cells, gives_up, F, places, slots_put, temps_put, walked, gifted, used, pinned_word, spot_fits}

-- how many threads and mutexes an instruction starts and makes
abbrev pub starts : Instr → ℕ
starts (instr.Spawn cs pc) = 1
starts (instr.Par cs pc ds other) = 2
starts i = 0

abbrev pub makes : Instr → ℕ
makes (instr.Mutex o) = 1
makes i = 0

-- how many objects it makes
abbrev pub creates : Instr → ℕ
creates (instr.Box o) = 1
creates i = 0

-- what a server is once such an instruction is done
abbrev pub after : Instr → Base → Base
after i b = record { number = b.number; started = b.started + starts i; made = b.made + makes i; home = b.home; limit = b.limit }

-- a new thread fits
pub record Young (w : Weights) (u : ℕ) : Type 0 where
  pub named : w.thread u ≡ 0
  pub goes : w.going u 0 ≡ 0

-- a thread at the end of a step: it has made so many objects
pub record Ended (w : Weights) (i : Instr) (y : ThreadState) (number made : ℕ) (p : Phase) : Type 0 where
  pub live : Live w number made p
  pub same : number ≡ y.number
  pub as_many : made ≡ y.made + creates i

-- the new names of an instruction fit
pub record NewNames (w : Weights) (b : Base) (i : Instr) (y : ThreadState) : Type 0 where
  pub begins : w.made 0 ≡ 0
  pub stands : w.asker b.number y.number ≡ 0
  pub lives : creates i ≡ 0 → w.going y.number y.made ≡ 0
  pub spawned : (cs : WithRoom (ℕ × Bool)) (pc : ℕ) → i ≡ instr.Spawn cs pc → Young w (b.number * 2 ^ 32 + (b.started + 1))
  pub paired : (cs : WithRoom (ℕ × Bool)) (pc : ℕ) (ds : WithRoom (ℕ × Bool)) (other : ℕ) → i ≡ instr.Par cs pc ds other → Young w (b.number * 2 ^ 32 + (b.started + 1)) × Young w (b.number * 2 ^ 32 + (b.started + 1 + 1))
  pub mutex : (o : Operand) → i ≡ instr.Mutex o → w.mutex (record { home = b.home; count = b.made + 1 }) ≡ 0
  pub boxed : (o : Operand) → i ≡ instr.Box o → (w.object (record { thread = y.number; count = y.made }) ≡ 0) × (w.made (y.made + 1) ≡ 0) × (w.going y.number (y.made + 1) ≡ 0)
  pub lends : (p : Lval) (d : ℕ) → i ≡ instr.BorrowMut p → p.depth ≡ suc d → w.holder d ≡ 0
  pub asks : Follows (access_of i y) → (p : BoxPtr) → OwnedFits w (owned.Box p) → w.wanted p.word ≡ 0
  pub moves : (p : Lval) → i ≡ instr.Read p true → (h h2 : Hand) (s : Spot) (v : Value) → h.thread ≡ y → prepare (access_of i h.thread) h ≡ ready h2 s → value_at h2 s ≡ Some v → marks w v ≡ 0

module _ (w : Weights) (b : Base) (closed : Closed w b.limit) (n : ℕ) (i : Instr) (y : ThreadState) (new : NewNames w b i y) where
  abbrev pub E : Rest → ThreadState → Type 0
  E r t = RestFits w (after i b) r × ThreadBody w t × Ended w i y t.number t.made t.phase

  abbrev G : Rest → ThreadState → Type 0
  G = F w b closed y

  -- so many are started and made
  counts_as : (j : Instr) (r : Rest) → starts j ≡ 0 → makes j ≡ 0 → RestFits w b r → RestFits w (after j b) r
  counts_as j r s m g = record { numbered = g.numbered; begun = omega (arith, g.begun, s); made_so = omega (arith, g.made_so, m); homed = g.homed; partition = g.partition; copies = g.copies; mutexes = g.mutexes; tasks = g.tasks; waiting = g.waiting; leaving = g.leaving }

  abbrev None_new : Instr → Type 0
  None_new j = (starts j ≡ 0) × (makes j ≡ 0) × (creates j ≡ 0)

  follows_none : (j : Instr) (t : ThreadState) → Follows (access_of j t) → None_new j
  follows_none (instr.Spawn cs pc) t f = absurd f
  follows_none (instr.Par cs pc ds other) t f = absurd f
  follows_none (instr.Mutex o) t f = absurd f
  follows_none (instr.Box o) t f = absurd f
  follows_none j t f = (refl, refl, refl)

  quiet_none : (j : Instr) → Quiet j → None_new j
  quiet_none (instr.Spawn cs pc) q = absurd q
  quiet_none (instr.Par cs pc ds other) q = absurd q
  quiet_none (instr.Mutex o) q = absurd q
  quiet_none (instr.Box o) q = absurd q
  quiet_none j q = (refl, refl, refl)

  -- no object more is made
  tells : (h : Hand) → Of G h → creates i ≡ 0 → (p : Phase) → Ended w i y h.thread.number h.thread.made p
  tells h g z p =
      let mine = g.1 in record {
        live = if_none (not (is_over p)) (w.going h.thread.number h.thread.made) (subst (λ m. w.going h.thread.number m ≡ 0) (sym mine.as_many) (subst (λ m. w.going m y.made ≡ 0) (sym mine.same) (new.lives z)));
        same = mine.same;
        as_many = omega (arith, mine.as_many, z);
      }

  -- REQUESTS

  at_phase : (p : Phase) (t : ThreadState) → phase_word w.word p + phase_thread w.thread p + phase_mutex w.mutex p ≡ 0 → ThreadBody w t → ThreadFit w t.number t.made p t.gift t.walk t.slots t.temps
  at_phase p t a g = record { named = g.named; made_so = g.made_so; waits = a; given = g.given; walks = g.walks; slots_fit = g.slots_fit; temps_fit = g.temps_fit }

  -- a message, and the phase that waits for its answer
  asks_for : (t : ℕ) (m : Message) (p : Phase) (h : Hand) → None_new i → MessageFits w t m → phase_word w.word p + phase_thread w.thread p + phase_mutex w.mutex p ≡ 0 → Of G h → E (sent_from h.work.rest t m) (record h.thread { phase = p })
  asks_for t m p h z a q g = let mine = g.1 in (counts_as i (sent_from h.work.rest t m) z.0 z.1 (says_fits w b closed t m h.work.rest a g.0), at_phase p h.thread q mine.fit, tells h g z.2 p)

  named : (h : Hand) → Of G h → w.thread h.thread.number ≡ 0
  named h g = let mine = g.1 in let fit = mine.fit in fit.named

  -- it asks from where it stands
  stood : (h : Hand) → Of G h → w.asker h.work.rest.number h.thread.number ≡ 0
  stood h g = let mine = g.1 in let rest = g.0 in subst (λ n. w.asker n h.thread.number ≡ 0) (sym rest.numbered) (subst (λ n. w.asker b.number n ≡ 0) (sym mine.same) new.stands)

  asks_one : (p : BoxPtr) (h : Hand) → None_new i → Fits w (value.Own (owned.Box p)) → w.wanted p.word ≡ 0 → Of G h → Of E (ask_copy p h)
  asks_one p h z a o g = asks_for (server_of p.word) (message.Fetch p.word p.object h.work.rest.number h.thread.number) (phase.WaitCell p.word) h z (omega (arith, a, named h g, stood h g, o)) (omega (arith, a)) g

  asks_all : (p : BoxPtr) (h : Hand) → None_new i → Fits w (value.Own (owned.Box p)) → Of G h → Of E (ask_object p h)
  asks_all p h z a g = asks_for (server_of p.word) (message.Move p.word p.object h.work.rest.number h.thread.number) (phase.WaitCell p.word) h z (omega (arith, a, named h g, stood h g)) (omega (arith, a)) g

  small : Follows (access_of i y) → Small G E (Fits w) (WordFits w)
  small f = record {
    places = places w b closed y;
    tints = λ p h a g e. let rest = g.0 in let part = rest.partition in closed.next p.word (subst (λ l. nat_lt (colour_of p.word + 1) l ≡ true) part.limited e);
    renews = λ p h a g e.
        let q = h.work.rest.partition in
        let rest = g.0 in
        let grows = and_right (is_last q p.word) (can_grow q) (and_right (leads_here q p.word) (is_last q p.word && can_grow q) e) in
        (renewal_fits w b.limit closed q p.word grows rest.partition, (with_cells w b closed (renewed q p.word) h.work.rest (renewed_fits w b.limit closed q p.word rest.partition) rest, g.1));
    pinned = λ r a. a;
    pins = λ u h e g. used w b closed y u (users h.work.rest.cache u + 1) h g;
    uses = λ u h e g. walked w b closed y u (working (with_cache (pin h.work.rest.cache u)) h) (pinned_word w b closed y u h e g) (used w b closed y u (users h.work.rest.cache u + 1) h g);
    asks_copy = λ p h a e g. asks_one p h (follows_none i y f) a (new.asks f p a) g;
    asks_object = λ p h a e g. asks_all p h (follows_none i y f) a g;
  }

  -- THE END OF A STEP

  settled : (j : Base) (h : Hand) → RestFits w j h.work.rest → ThreadBody w h.thread → Ended w i y h.thread.number h.thread.made h.thread.phase → (cs : List Copy) → unpin_all h.thread.walk h.work.rest.cache ≡ Some cs
      → RestFits w j (record h.work.rest { cache = cs }) × ThreadFit w h.thread.number h.thread.made h.thread.phase h.thread.gift [] h.thread.slots h.thread.temps × Ended w i y h.thread.number h.thread.made h.thread.phase
  settled j h a t l cs z = (
    record { numbered = a.numbered; begun = a.begun; made_so = a.made_so; homed = a.homed; partition = a.partition; copies = unpinned_fit w h.thread.walk h.work.rest.cache cs z a.copies; mutexes = a.mutexes; tasks = a.tasks; waiting = a.waiting; leaving = a.leaving },
    record { named = t.named; made_so = t.made_so; waits = t.waits; given = t.given; walks = tt; slots_fit = t.slots_fit; temps_fit = t.temps_fit },
    l,
  )

  pushed : (v : Value) (t : ThreadState) → TempFits w v → ThreadBody w t → ThreadFit w t.number t.made t.phase t.gift t.walk t.slots (t.temps ++ v ∷ [])
  pushed v t a g = record { named = g.named; made_so = g.made_so; waits = g.waits; given = g.given; walks = g.walks; slots_fit = g.slots_fit; temps_fit = all_append (TempFits w) t.temps (v ∷ []) g.temps_fit (a, tt) }

  goes : (h : Hand) → None_new i → Of G h → Settles E (go_on h)
  goes h z g cs q = let mine = g.1 in settled (after i b) (go_on h) (counts_as i h.work.rest z.0 z.1 g.0) (at_phase phase.Ready h.thread refl mine.fit) (tells h g z.2 phase.Ready) cs q

  -- NEW OBJECTS AND MUTEXES

  boxes : (o : Operand) → i ≡ instr.Box o → (v : Owned) (h : Hand) → OwnedFits w v → Of G h → Gives (λ h2. Settles E (go_on h2)) (make_box v h)
  boxes o e v h a g =
      let mine = g.1 in
      let fit = mine.fit in
      let rest = g.0 in
      let fresh = new.boxed o e in
      let named = fit.named in
      let object : w.object (next_object h) ≡ 0 = subst (λ m. w.object (record { thread = h.thread.number; count = m }) ≡ 0) (sym mine.as_many) (subst (λ m. w.object (record { thread = m; count = y.made }) ≡ 0) (sym mine.same) fresh.0) in
      let more : w.made (h.thread.made + 1) ≡ 0 = subst (λ m. w.made (m + 1) ≡ 0) (sym mine.as_many) fresh.1 in
      over_gives (λ (m : NewWord). WordFits w m.word × RestFits w b m.work.rest) (λ h2. Settles E (go_on h2)) (issue_placed (act.Make (next_object h)) (record { object = next_object h; value = v }) h.work) (λ m. push_box v m h)
      (test_gives (λ (m : NewWord). WordFits w m.word × RestFits w b m.work.rest) (can_grow h.work.rest.partition) _ (λ z. (
        issued_fits w b.limit closed h.work.rest.partition z rest.partition,
        with_cells w b closed (made h.work.rest.partition (record { object = next_object h; value = v })) h.work.rest (made_fits w b.limit closed h.work.rest.partition (record { object = next_object h; value = v }) (omega (arith, object, named, a)) rest.partition) rest,
      )))
      (λ m k cs q.
      let word = k.0 in
      let box : TempFits w (value.Own (owned.Box (record { word = m.word; object = next_object h }))) = omega (arith, word, named) in
      let again : Ended w i y h.thread.number (h.thread.made + 1) phase.Ready = record {
        live = subst (λ c. w.going h.thread.number (c + 1) ≡ 0) (sym mine.as_many) (subst (λ c. w.going c (y.made + 1) ≡ 0) (sym mine.same) fresh.2);
        same = mine.same;
        as_many = omega (arith, mine.as_many, one e);
      } in
      let counted : ThreadBody w (record h.thread { made = h.thread.made + 1 }) = record { named = fit.named; made_so = more; waits = fit.waits; given = fit.given; walks = fit.walks; slots_fit = fit.slots_fit; temps_fit = fit.temps_fit } in
      let top = pushed _ (record h.thread { made = h.thread.made + 1 }) box counted in
      settled (after i b) (go_on (push_box v m h)) (counts_as i m.work.rest (ap starts e) (ap makes e) k.1) (at_phase phase.Ready (push_box v m h).thread refl top) again cs q)
    where
      one : i ≡ instr.Box o → creates i ≡ 1
      one e = ap creates e

  makes_mutex : (o : Operand) → i ≡ instr.Mutex o → (v : Owned) (h : Hand) → OwnedFits w v → Of G h → Gives (λ h2. Settles E (go_on h2)) (mutex_made v h)
  makes_mutex o e v h a g =
      let mine = g.1 in
      let rest = g.0 in
      let ms = h.work.rest.mutexes in
      let fresh : w.mutex (next_mutex ms) ≡ 0 = subst (λ m. w.mutex (record { home = ms.home; count = m + 1 }) ≡ 0) (sym rest.made_so) (subst (λ m. w.mutex (record { home = m; count = b.made + 1 }) ≡ 0) (sym rest.homed) (new.mutex o e)) in
      test_gives (λ h2. Settles E (go_on h2)) (can_make ms) _ (λ z cs q.
      let more : makes i ≡ 1 = ap makes e in
      let none : starts i ≡ 0 = ap starts e in
      let there : RestFits w (after i b) (record h.work.rest { mutexes = make ms v }) = record {
        numbered = rest.numbered;
        begun = omega (arith, rest.begun, none);
        made_so = omega (arith, rest.made_so, more);
        homed = rest.homed;
        partition = rest.partition;
        copies = rest.copies;
        mutexes = all_append (MutexFit w) ms.there (record { number = next_mutex ms; content = Some v; shares = 1; queue = [] } ∷ []) rest.mutexes (record { named = fresh; inside = a; waiting = tt }, tt);
        tasks = rest.tasks;
        waiting = rest.waiting;
        leaving = rest.leaving;
      } in
      let h2 : Hand = record { work = record h.work { rest = record h.work.rest { mutexes = make ms v } }; thread = record h.thread { temps = h.thread.temps ++ value.Own (owned.Mutex (next_mutex ms)) ∷ [] } } in
      settled (after i b) (go_on h2) there (at_phase phase.Ready h2.thread refl (pushed _ h.thread (owned_temp w (owned.Mutex (next_mutex ms)) (omega (arith, fresh))) mine.fit)) (tells h g (ap creates e) phase.Ready) cs q)

  -- NEW THREADS

  -- one thread more is started
  starts_one : (j j2 : Base) (pc : ℕ) (vs : List Value) (x : Work) → j2.number ≡ j.number → j2.started ≡ j.started + 1 → j2.made ≡ j.made → j2.home ≡ j.home → j2.limit ≡ j.limit → Young w (next_thread x.rest)
      → AllByRecursion (Fits w) vs → Closed w j2.limit → RestFits w j x.rest → RestFits w j2 (start_thread n pc vs x).rest
  starts_one j j2 pc vs x en es em eh el fresh a c g =
      let begun : RestFits w j2 (record x.rest { started = x.rest.started + 1 }) = record {
        numbered = g.numbered ∙ sym en;
        begun = omega (arith, g.begun, es);
        made_so = g.made_so ∙ sym em;
        homed = g.homed ∙ sym eh;
        partition = subst (λ l. PartitionFit w l x.rest.partition) (sym el) g.partition;
        copies = g.copies;
        mutexes = g.mutexes;
        tasks = g.tasks;
        waiting = subst (λ m. AllByRecursion (MessageFits w m) x.rest.inbox) (sym en) g.waiting;
        leaving = g.leaving;
      } in
      let young : ThreadBody w (new_thread (next_thread x.rest) pc vs) = record { named = fresh.named; made_so = new.begins; waits = refl; given = tt; walks = tt; slots_fit = a; temps_fit = tt } in
      says_fits w j2 c (server_for n x.rest) (message.Start (new_thread (next_thread x.rest) pc vs)) (record x.rest { started = x.rest.started + 1 }) (young, fresh.goes) begun

  noted : (ts : List Task) (r : Rest) → AllByRecursion (TaskFits w) ts → RestFits w b r → RestFits w b (record r { tasks = ts })
  noted ts r a g = record { numbered = g.numbered; begun = g.begun; made_so = g.made_so; homed = g.homed; partition = g.partition; copies = g.copies; mutexes = g.mutexes; tasks = a; waiting = g.waiting; leaving = g.leaving }

  -- the number of the next thread
  next_is : (r : Rest) (m : ℕ) → r.number ≡ b.number → r.started ≡ b.started + m → next_thread r ≡ b.number * 2 ^ 32 + (b.started + m + 1)
  next_is r m e s = ap (λ a. a * 2 ^ 32 + (r.started + 1)) e ∙ ap (λ c. b.number * 2 ^ 32 + (c + 1)) s

  first_fits : (r : Rest) → r.number ≡ b.number → r.started ≡ b.started → Young w (b.number * 2 ^ 32 + (b.started + 1)) → Young w (next_thread r)
  first_fits r e s z = subst (Young w) (sym (ap (λ a. a * 2 ^ 32 + (r.started + 1)) e ∙ ap (λ c. b.number * 2 ^ 32 + (c + 1)) s)) z

  second_fits_too : (r : Rest) → r.number ≡ b.number → r.started ≡ b.started + 1 → Young w (b.number * 2 ^ 32 + (b.started + 1 + 1)) → Young w (next_thread r)
  second_fits_too r e s z = subst (Young w) (sym (ap (λ a. a * 2 ^ 32 + (r.started + 1)) e ∙ ap (λ c. b.number * 2 ^ 32 + (c + 1)) s)) z

  spawns : (cs : WithRoom (ℕ × Bool)) (pc : ℕ) → i ≡ instr.Spawn cs pc → (h : Hand) → Of G h → Gives (λ h2. Settles E (go_on h2)) (then_some (capture false cs.items h.thread.slots) (spawn_with n pc (next_thread h.work.rest) h))
  spawns cs pc e h g =
      let mine = g.1 in
      let fit = mine.fit in
      let rest = g.0 in
      let u = next_thread h.work.rest in
      let young = first_fits h.work.rest rest.numbered rest.begun (new.spawned cs pc e) in
      let fresh : w.thread u ≡ 0 = young.named in
      bind_gives (BothFit w) (λ h2. Settles E (go_on h2)) (capture false cs.items h.thread.slots) (spawn_with n pc u h) (capture_fits w false cs.items h.thread.slots fit.slots_fit) (λ two c.
      over_gives (λ h2. RestFits w b h2.work.rest × (h2.thread ≡ h.thread)) (λ h2. Settles E (go_on h2)) (begun h) _
      (test_gives (λ h2. RestFits w b h2.work.rest × (h2.thread ≡ h.thread)) (can_begin h.work.rest.tasks u) _ (λ z. (
        noted (begin h.work.rest.tasks u) h.work.rest (all_append (TaskFits w) h.work.rest.tasks (record { thread = u; state = going } ∷ []) rest.tasks ((fresh, tt), tt)) rest,
        refl,
      )))
      (λ h2 k cs2 q.
      let there = k.0 in
      let one : starts i ≡ 1 = ap starts e in
      let none : makes i ≡ 0 = ap makes e in
      let begun_one = starts_one b (after i b) pc two.0 h2.work refl (omega (arith, one)) (omega (arith, none)) refl refl (first_fits h2.work.rest there.numbered there.begun (new.spawned cs pc e)) c.0 closed there in
      let before : ThreadBody w h2.thread = subst (ThreadBody w) (sym k.1) fit in
      let left : ThreadBody w (record h2.thread { slots = two.1 }) = record { named = before.named; made_so = before.made_so; waits = before.waits; given = before.given; walks = before.walks; slots_fit = c.1; temps_fit = before.temps_fit } in
      let task : TempFits w (value.Own (owned.Task u)) = omega (arith, fresh) in
      let h3 : Hand = record { work = start_thread n pc two.0 h2.work; thread = record h2.thread { slots = two.1; temps = h2.thread.temps ++ value.Own (owned.Task u) ∷ [] } } in
      settled (after i b) (go_on h3) begun_one (at_phase phase.Ready h3.thread refl (pushed _ (record h2.thread { slots = two.1 }) task left)) (subst (λ (t : ThreadState). Ended w i y t.number t.made phase.Ready) (sym k.1) (tells h g (ap creates e) phase.Ready)) cs2 q))

  pairs : (cs : WithRoom (ℕ × Bool)) (pc : ℕ) (ds : WithRoom (ℕ × Bool)) (other : ℕ) → i ≡ instr.Par cs pc ds other → (h : Hand) → Of G h
      → Gives (Settles E) (then_some (capture true cs.items h.thread.slots) (λ first. then_some (capture true ds.items first.1) (par_with n pc other (next_thread h.work.rest) (next_thread h.work.rest + 1) h first.0)))
  pairs cs pc ds other e h g =
      let mine = g.1 in
      let fit = mine.fit in
      let rest = g.0 in
      let u = next_thread h.work.rest in
      let both = new.paired cs pc ds other e in
      let young = first_fits h.work.rest rest.numbered rest.begun both.0 in
      let fresh : w.thread u ≡ 0 = young.named in
      let named : u + 1 ≡ b.number * 2 ^ 32 + (b.started + 1 + 1) = omega (arith, next_is h.work.rest 0 rest.numbered (omega (arith, rest.begun))) in
      let younger = subst (Young w) (sym named) both.1 in
      let fresher : w.thread (u + 1) ≡ 0 = younger.named in
      let parent = fit.named in
      bind_gives (BothFit w) (Settles E) (capture true cs.items h.thread.slots) _ (capture_fits w true cs.items h.thread.slots fit.slots_fit) (λ one c.
      bind_gives (BothFit w) (Settles E) (capture true ds.items one.1) _ (capture_fits w true ds.items one.1 c.1) (λ two d.
      over_gives (λ h2. RestFits w b h2.work.rest × (h2.thread ≡ h.thread)) (Settles E) (pair_begun h u (u + 1)) _
      (test_gives (λ h2. RestFits w b h2.work.rest × (h2.thread ≡ h.thread)) (can_begin_pair h.work.rest.tasks h.thread.number u (u + 1)) _ (λ z. (
        noted (begin_pair h.work.rest.tasks h.thread.number u (u + 1)) h.work.rest
            (all_append (TaskFits w) (h.work.rest.tasks ++ record { thread = u; state = in_pair h.thread.number false } ∷ []) (record { thread = u + 1; state = in_pair h.thread.number false } ∷ [])
            (all_append (TaskFits w) h.work.rest.tasks (record { thread = u; state = in_pair h.thread.number false } ∷ []) rest.tasks ((fresh, parent), tt)) ((fresher, parent), tt)) rest,
        refl,
      )))
      (λ h2 k cs2 q.
      let there = k.0 in
      let two_more : starts i ≡ 2 = ap starts e in
      let none : makes i ≡ 0 = ap makes e in
      let middle : Base = record { number = b.number; started = b.started + 1; made = b.made; home = b.home; limit = b.limit } in
      let first_begun = starts_one b middle pc one.0 h2.work refl refl refl refl refl (first_fits h2.work.rest there.numbered there.begun both.0) c.0 closed there in
      let x = start_thread n pc one.0 h2.work in
      let second_begun = starts_one middle (after i b) other two.0 x refl (omega (arith, two_more)) (omega (arith, none)) refl refl (second_fits_too x.rest first_begun.numbered first_begun.begun both.1) d.0 closed first_begun in
      let before : ThreadBody w h2.thread = subst (ThreadBody w) (sym k.1) fit in
      let left : ThreadBody w (record h2.thread { slots = two.1 }) = record { named = before.named; made_so = before.made_so; waits = before.waits; given = before.given; walks = before.walks; slots_fit = d.1; temps_fit = before.temps_fit } in
      let h3 : Hand = record { work = start_thread n other two.0 x; thread = record h2.thread { slots = two.1; pc = h2.thread.pc + 1; phase = phase.WaitPar u (u + 1) } } in
      settled (after i b) h3 second_begun (at_phase (phase.WaitPar u (u + 1)) (record h2.thread { slots = two.1 }) (omega (arith, fresh, fresher)) left) (subst (λ (t : ThreadState). Ended w i y t.number t.made (phase.WaitPar u (u + 1))) (sym k.1) (tells h g (ap creates e) (phase.WaitPar u (u + 1)))) cs2 q)))

  -- ENDS

  ends : (o : Operand) → i ≡ instr.End o → (main : Bool) (v : Owned) (h : Hand) → OwnedFits w v → Of G h → Gives (λ h2. Settles E (with_phase phase.Over h2)) (end_with main v h)
  ends o e true v h a g = λ cs q.
      let mine = g.1 in
      let h2 : Hand = record { work = give_up v (label_dropped (value.Own v) h).work; thread = record h.thread { phase = phase.Over } } in
      settled (after i b) h2 (counts_as i h2.work.rest (ap starts e) (ap makes e) (gives_up w b closed v (label_dropped (value.Own v) h).work a g.0)) (at_phase phase.Over h.thread refl mine.fit) (tells h g (ap creates e) phase.Over) cs q
  ends o e false v h a g = λ cs q.
      let mine = g.1 in
      let fit = mine.fit in
      let named = fit.named in
      let r2 = sent_from h.work.rest h.thread.home (message.Finished h.thread.number v) in
      let h2 : Hand = record { work = record h.work { rest = r2 }; thread = record h.thread { phase = phase.Over } } in
      settled (after i b) h2 (counts_as i r2 (ap starts e) (ap makes e) (says_fits w b closed h.thread.home (message.Finished h.thread.number v) h.work.rest (omega (arith, named, a)) g.0)) (at_phase phase.Over h.thread refl mine.fit) (tells h g (ap creates e) phase.Over) cs q

  -- ALL OF A STEP

  acts : Acts n G E (Fits w) (TempFits w) (WordFits w) i
  acts = record {
    places = places w b closed y;
    number = λ m. refl;
    unit_value = refl;
    nothing_value = refl;
    gone = refl;
    owned_temp = owned_temp w;
    shared_slot = λ j. refl;
    mutable_slot = λ j. refl;
    second = second_fits w;
    shared = shared_fits w;
    lent = λ p d e z v u h a g c. let mine = g.1 in let fit = mine.fit in let waits = fit.waits in lent_fits w h.thread.phase (record p { depth = d }) v u (omega (arith, waits)) (new.lends p d e z) a c;
    off_temps = λ h g. let mine = g.1 in let fit = mine.fit in temps_put w b closed y (front_of h.thread.temps) h (all_take (TempFits w) _ h.thread.temps fit.temps_fit) g;
    off_slots = λ h g. let mine = g.1 in let fit = mine.fit in slots_put w b closed y (front_of h.thread.slots) h (all_take (Fits w) _ h.thread.slots fit.slots_fit) g;
    on_temps = λ v h a g. let mine = g.1 in let fit = mine.fit in temps_put w b closed y (h.thread.temps ++ v ∷ []) h (all_append (TempFits w) h.thread.temps (v ∷ []) fit.temps_fit (a, tt)) g;
    on_slots = λ v h a g. let mine = g.1 in let fit = mine.fit in slots_put w b closed y (h.thread.slots ++ v ∷ []) h (all_append (Fits w) h.thread.slots (v ∷ []) fit.slots_fit (a, tt)) g;
    gives = λ v h a g. (gives_up w b closed v h.work a g.0, g.1);
    unpins = λ u h e g. used w b closed y u (users h.work.rest.cache u - 1) h g;
    gift = λ v h e g. let mine = g.1 in let fit = mine.fit in (subst (Gives (OwnedFits w)) e fit.given, gifted w b closed y None h tt g);
    boxes = boxes;
    mutexes = makes_mutex;
    spawns = spawns;
    unlocks = λ e m v h a c g. (says_fits w b closed m.home (message.Unlock m v) h.work.rest (omega (arith, a, c)) g.0, g.1);
    holds = λ p e m a. omega (arith, a);
    goes = λ q h g. goes h (quiet_none i q) g;
    pairs = pairs;
    ends = ends;
    asks_join = λ o e u h q a g. asks_for (home_of u) (message.Join u h.work.rest.number h.thread.number) (phase.WaitJoin u) h (ap starts e, ap makes e, ap creates e) (omega (arith, a, named h g, stood h g)) (omega (arith, a)) g;
    asks_dup = λ p e m h q a g. asks_for m.home (message.Dup m h.work.rest.number h.thread.number) (phase.WaitDup m) h (ap starts e, ap makes e, ap creates e) (omega (arith, a, named h g, stood h g)) (omega (arith, a)) g;
    asks_lock = λ p e m h q a g. asks_for m.home (message.Lock m h.work.rest.number h.thread.number) (phase.WaitLock m) h (ap starts e, ap makes e, ap creates e) (omega (arith, a, named h g, stood h g)) (omega (arith, a)) g;
  }

  -- a step of the thread
  pub step_fits : (h : Hand) → h.thread ≡ y → Of G h → Gives (EndsStep E) (step n i h)
  step_fits h e g =
      steps i h (λ f. small (subst (λ t. Follows (access_of i t)) e f)) (λ f m h2 u. u) acts
      (λ h2 s q u. moves_by i s h2 (λ p c v d.
      let fit : Fits w v = spot_fits w b closed y s v h2 u d in
      let mark = new.moves p c h h2 s v e q d in
      omega (arith, fit, mark))) g
