-- The delivery of a message keeps what its server and its threads name.
use Rattle.std.proofs.Common.{◌≡◌, ℕ, zero, suc, ◌+◌, ◌-◌, ◌^◌, ◌==◌, ◌&&◌, ◌||◌, not, Bool, true, false, nat_lt, if◌then◌else◌, List, [], ◌∷◌, ◌++◌, Option, Some, None, refl, subst, sym, arith}
use Rattle.std.specs.Prelude.{slice_get, option_map}
use Rattle.std.specs.List.{AllByRecursion}
use Rattle.std.specs.Bool.{⊤}
use Rattle.law_counts_things.specs.Below.fr_base.Lists.{is_in}
use Rattle.law_counts_things.specs.Below.fr_base.declared.name.MutexNo.{MutexNo}
use Rattle.law_counts_things.specs.Below.fr_base.declared.name.ObjNo.{ObjNo}
use Rattle.law_counts_things.specs.Below.fr_base.declared.place.Lval.{Lval}
use Rattle.law_counts_things.specs.Below.fr_base.declared.instruction.Instr.{Instr}
use Rattle.law_counts_things.specs.Below.fr_base.declared.release.Released.TheVariants as released
use Rattle.law_counts_things.specs.Below.heap_partition.declared.value.Cell.{Cell}
use Rattle.law_counts_things.specs.Below.heap_partition.declared.value.Owned.{Owned}
use Rattle.law_counts_things.specs.Below.heap_partition.declared.value.Owned.TheVariants as owned
use Rattle.law_counts_things.specs.Below.owner_box.Partition.{made, freed}
use Rattle.law_counts_things.specs.Below.read_cache.Cache.{users, can_pin, pin, can_fill, fill}
use Rattle.law_counts_things.specs.Below.mutex_home.Mutexes.{Mutex, Mutexes, mutex_in, put_mutex, end_mutex, asked_of, asked_in, ask, back_to, back_out, back_in, give_back, more_in, more, last_less, less_of, less_in, less}
use Rattle.law_counts_things.specs.Below.mutex_home.declared.answers.Asked.{Asked}
use Rattle.law_counts_things.specs.Below.mutex_home.declared.answers.Asked.TheVariants as asked
use Rattle.law_counts_things.specs.Below.mutex_home.declared.answers.Back.{Back}
use Rattle.law_counts_things.specs.Below.mutex_home.declared.answers.Back.TheVariants as back
use Rattle.law_counts_things.specs.Below.join_home.Tasks.{Task, TaskState, going, let_go, kept, in_pair, task_in, state_in, state_of, with_state, without_task, over_in, pair_ended, ended_from, ended, asked_from, let_go_from, let_go_of}
use Rattle.law_counts_things.specs.Below.join_home.Tasks as tasks
use Rattle.law_counts_things.specs.Below.join_home.declared.answers.EndedAs.{EndedAs}
use Rattle.law_counts_things.specs.Below.join_home.declared.answers.EndedAs.TheVariants as over
use Rattle.law_counts_things.specs.Below.thread_state.View.{ThreadState, is_over}
use Rattle.law_counts_things.specs.Below.thread_state.declared.phase.Phase.{Phase}
use Rattle.law_counts_things.specs.Below.thread_state.declared.phase.Phase.TheVariants as phase
use Rattle.law_counts_things.specs.Below.thread_state.declared.value.Value.{Value}
use Rattle.law_counts_things.specs.Below.thread_state.declared.value.Value.TheVariants as value
use Rattle.law_counts_things.specs.Below.server_msgs.declared.message.Message.{Message}
use Rattle.law_counts_things.specs.Below.server_msgs.declared.message.Message.TheVariants as message
use Rattle.law_counts_things.specs.Below.journal.declared.act.Act.TheVariants as act
use Rattle.law_counts_things.specs.Below.server_model.Servers.{Rest}
use Rattle.law_counts_things.specs.Below.server_model.Work.{Work, Hand, Site, note, sent_from, working, with_phase, with_cache, with_mutexes, with_tasks, with_partition, then_some, put_back, thread_in, at_thread, beside_threads, look_object, used_once}
use Rattle.law_counts_things.specs.Below.server_model.NewWords.{NewWord, can_grow, issue_placed}
use Rattle.law_counts_things.specs.Below.server_model.Places.{Spot, in_slot, value_at, set_pointer}
use Rattle.law_counts_things.specs.Below.server_model.Prepare.{Access, ReadTo, ReadPointer, WriteTo, LendTo, EndRef, passing, write_stars}
use Rattle.law_counts_things.specs.Below.server_model.Objects.{deliver_fetch, waits_for_cell, filled, deliver_fetched, deliver_move, chased, waits_under, arrived_at, arrived_slot, passed_spot, arrived_write, arrived_lend, arrived_end, arrived, instr_access, came, deliver_moved, deliver_drop}
use Rattle.law_counts_things.specs.Below.server_model.Sharing.{given, answer_lock, deliver_lock, waits_for_lock, deliver_granted, answer_back, deliver_unlock, deliver_dup, waits_for_dup, deliver_dupped, give_up_left}
use Rattle.law_counts_things.specs.Below.server_model.Joining.{answer_join, deliver_join, waits_for_join, deliver_joined, got_par, pair_over, end_answer, deliver_finished}
use Rattle.law_counts_things.specs.Below.server_model.Events.{release, deliver_message}
use Rattle.law_counts_things.specs.Below.coherent_memory.Names.{if_so}
use Rattle.law_counts_things.specs.Below.coherent_memory.Placing.{phase_word}
use Rattle.law_counts_things.specs.Below.coherent_memory.Naming.{phase_thread}
use Rattle.law_counts_things.specs.Below.coherent_memory.Sharing.{phase_mutex}
use Rattle.law_counts_things.proofs.Below.coherent_memory.Names.{if_none}
use Rattle.law_counts_things.specs.Below.law_counts_sums.Laws.{Gives}
use Rattle.law_counts_things.proofs.Below.law_counts_sums.Results.{then_gives, map_gives, over_gives, bind_gives, test_gives, stand_gives, given_by}
use Rattle.law_counts_things.proofs.Below.law_counts_sums.Known.{all_append}
use Rattle.law_counts_things.proofs.things.Small.{Of, pointer_put}
use Rattle.law_counts_things.proofs.things.MutexLists.{found, put_all, ends_all}
use Rattle.law_counts_things.proofs.things.Threads.{set_all, with_all, found_all}
use Rattle.law_counts_things.proofs.names.Fit.{Weights, Closed, owned_weight, OwnedFits, WordFits, body_weight, CellFits, ThreadFits, MessageFits, AskerFits, MutexFit, StateFits, TaskFits, made_fits, freed_fits, issued_fits, filled_fit, Base, RestFits}
use Rattle.law_counts_things.proofs.names.Middle.{F, places, object_fits, says_fits, with_copies, with_cells, gives_up, phased, walked, gifted, used, pinned_word, taken_up}

module _ (w : Weights) where
  -- MUTEXES

  pub record HomeFit (b : Base) (ms : Mutexes) : Type 0 where
    pub made_so : ms.made ≡ b.made
    pub homed : ms.home ≡ b.home
    pub there : AllByRecursion (MutexFit w) ms.there

  module _ (b : Base) where
    puts : (ms : Mutexes) (x : Mutex) → MutexFit w x → HomeFit b ms → HomeFit b (put_mutex ms x)
    puts ms x p a = record { made_so = a.made_so; homed = a.homed; there = put_all (MutexFit w) ms.there x a.there p }

    goes : (ms : Mutexes) (m : MutexNo) → HomeFit b ms → HomeFit b (end_mutex ms m)
    goes ms m a = record { made_so = a.made_so; homed = a.homed; there = ends_all (MutexFit w) ms.there m a.there }

    abbrev Granted : Asked → Type 0
    Granted asked.Queued = ⊤
    Granted (asked.Granted v) = OwnedFits w v

    abbrev pub AskedFits : Mutexes × Asked → Type 0
    AskedFits p = HomeFit b p.0 × Granted p.1

    pub asks : (ms : Mutexes) (m : MutexNo) (s t : ℕ) → w.thread t + w.asker s t ≡ 0 → HomeFit b ms → Gives AskedFits (ask ms m s t)
    asks ms m s t z a = by (mutex_in ms.there m) (found (MutexFit w) ms.there m a.there)
      where
        of : (x : Mutex) (c : Option Owned) → Gives (OwnedFits w) c → MutexFit w x → AskedFits (asked_of ms s t c x)
        of x None k p = (puts ms (record x { queue = x.queue ++ (s, t) ∷ [] }) (record { named = p.named; inside = p.inside; waiting = all_append (AskerFits w) x.queue ((s, t) ∷ []) p.waiting (z, tt) }) a, tt)
        of x (Some v) k p = (puts ms (record x { content = None }) (record { named = p.named; inside = tt; waiting = p.waiting }) a, k)

        by : (o : Option Mutex) → Gives (MutexFit w) o → Gives AskedFits (asked_in ms s t o)
        by None p = tt
        by (Some x) p = of x x.content p.inside p

    abbrev Goes : Back → Type 0
    Goes (back.Next s t v) = (w.thread t + w.asker s t ≡ 0) × OwnedFits w v
    Goes (back.Ended v) = OwnedFits w v
    Goes back.Kept = ⊤

    abbrev pub BackFits : Mutexes × Back → Type 0
    BackFits p = HomeFit b p.0 × Goes p.1

    pub backs : (ms : Mutexes) (m : MutexNo) (v : Owned) → OwnedFits w v → HomeFit b ms → Gives BackFits (give_back ms m v)
    backs ms m v k a = by (mutex_in ms.there m) (found (MutexFit w) ms.there m a.there)
      where
        alone : (x : Mutex) (q : Bool) → MutexFit w x → BackFits (if q then (end_mutex ms x.number, back.Ended v) else (put_mutex ms (record x { content = Some v }), back.Kept))
        alone x true p = (goes ms x.number a, k)
        alone x false p = (puts ms (record x { content = Some v }) (record { named = p.named; inside = k; waiting = p.waiting }) a, tt)

        queue : (x : Mutex) (l : List (ℕ × ℕ)) → AllByRecursion (AskerFits w) l → MutexFit w x → BackFits (back_to ms v x l)
        queue x [] q p = alone x (x.shares == 0) p
        queue x (first ∷ rest) q p = (puts ms (record x { queue = rest }) (record { named = p.named; inside = p.inside; waiting = q.1 }) a, (q.0, k))

        content : (x : Mutex) (c : Option Owned) → MutexFit w x → Gives BackFits (back_out ms v x c)
        content x None p = queue x x.queue p.waiting p
        content x (Some u) p = tt

        by : (o : Option Mutex) → Gives (MutexFit w) o → Gives BackFits (back_in ms v o)
        by None p = tt
        by (Some x) p = content x x.content p

    pub mores : (ms : Mutexes) (m : MutexNo) → HomeFit b ms → Gives (HomeFit b) (more ms m)
    mores ms m a = by (mutex_in ms.there m) (found (MutexFit w) ms.there m a.there)
      where
        by : (o : Option Mutex) → Gives (MutexFit w) o → Gives (HomeFit b) (more_in ms o)
        by None p = tt
        by (Some x) p = test_gives (HomeFit b) (nat_lt 0 x.shares && nat_lt x.shares (2 ^ 64 - 1)) _ (λ z. puts ms (record x { shares = x.shares + 1 }) (record { named = p.named; inside = p.inside; waiting = p.waiting }) a)

    abbrev pub LeftFits : {X : Type 0} → (X → Type 0) → X × Option Owned → Type 0
    LeftFits P p = P p.0 × Gives (OwnedFits w) p.1

    pub lesses : (ms : Mutexes) (m : MutexNo) → HomeFit b ms → Gives (LeftFits (HomeFit b)) (less ms m)
    lesses ms m a = by (mutex_in ms.there m) (found (MutexFit w) ms.there m a.there)
      where
        last : (x : Mutex) (c : Option Owned) → Gives (OwnedFits w) c → MutexFit w x → LeftFits (HomeFit b) (last_less ms x c)
        last x None k p = (puts ms (record x { shares = 0 }) (record { named = p.named; inside = p.inside; waiting = p.waiting }) a, tt)
        last x (Some v) k p = (goes ms x.number a, k)

        one : (x : Mutex) (q : Bool) → MutexFit w x → LeftFits (HomeFit b) (if q then last_less ms x x.content else (put_mutex ms (record x { shares = x.shares - 1 }), None))
        one x true p = last x x.content p.inside p
        one x false p = (puts ms (record x { shares = x.shares - 1 }) (record { named = p.named; inside = p.inside; waiting = p.waiting }) a, tt)

        by : (o : Option Mutex) → Gives (MutexFit w) o → Gives (LeftFits (HomeFit b)) (less_in ms o)
        by None p = tt
        by (Some x) p = test_gives (LeftFits (HomeFit b)) (nat_lt 0 x.shares) (Some (less_of ms x)) (λ z. one x (x.shares == 1) p)

  -- TASKS

  abbrev All : List Task → Type 0
  All xs = AllByRecursion (TaskFits w) xs

  noted : (xs : List Task) (t : ℕ) → All xs → Gives (StateFits w) (state_of xs t)
  noted [] t k = tt
  noted (x ∷ xs) t k = by (x.thread == t) (noted xs t k.1)
    where
      by : (q : Bool) → Gives (StateFits w) (state_in (task_in xs t)) → Gives (StateFits w) (state_in (if q then Some x else task_in xs t))
      by true g = let here = k.0 in here.1
      by false g = g

  turned : (xs : List Task) (t : ℕ) (s : TaskState) → w.thread t ≡ 0 → StateFits w s → All xs → All (with_state xs t s)
  turned [] t s z k a = tt
  turned (x ∷ xs) t s z k a = by (x.thread == t) (turned xs t s z k a.1)
    where
      by : (q : Bool) → All (with_state xs t s) → All (if q then record { thread = t; state = s } ∷ xs else x ∷ with_state xs t s)
      by true g = ((z, k), a.1)
      by false g = (a.0, g)

  gone : (xs : List Task) (t : ℕ) → All xs → All (without_task xs t)
  gone [] t a = tt
  gone (x ∷ xs) t a = by (x.thread == t) (gone xs t a.1)
    where
      by : (q : Bool) → All (without_task xs t) → All (if q then xs else x ∷ without_task xs t)
      by true g = a.1
      by false g = (a.0, g)

  abbrev JoinedFits : List Task × Option Owned → Type 0
  JoinedFits p = All p.0 × Gives (OwnedFits w) p.1

  joined_by : (xs : List Task) (t s u : ℕ) → w.thread t ≡ 0 → w.thread u + w.asker s u ≡ 0 → All xs → (o : Option TaskState) → Gives (StateFits w) o → Gives JoinedFits (asked_from xs t s u o)
  joined_by xs t s u z y a (Some going) k = (turned xs t (tasks.asked s u) z y a, tt)
  joined_by xs t s u z y a (Some (kept v)) k = (gone xs t a, k)
  joined_by xs t s u z y a _ k = tt

  pub joined : (xs : List Task) (t s u : ℕ) → w.thread t ≡ 0 → w.thread u + w.asker s u ≡ 0 → All xs → Gives JoinedFits (tasks.ask xs t s u)
  joined xs t s u z y a = joined_by xs t s u z y a (state_of xs t) (noted xs t a)

  lets_by : (xs : List Task) (t : ℕ) → w.thread t ≡ 0 → All xs → (o : Option TaskState) → Gives (StateFits w) o → Gives JoinedFits (let_go_from xs t o)
  lets_by xs t z a (Some going) k = (turned xs t let_go z tt a, tt)
  lets_by xs t z a (Some (kept v)) k = (gone xs t a, k)
  lets_by xs t z a _ k = tt

  pub lets_go : (xs : List Task) (t : ℕ) → w.thread t ≡ 0 → All xs → Gives JoinedFits (let_go_of xs t)
  lets_go xs t z a = lets_by xs t z a (state_of xs t) (noted xs t a)

  abbrev Tells : EndedAs → Type 0
  Tells (over.Answer s t v) = (w.thread t + w.asker s t ≡ 0) × OwnedFits w v
  Tells (over.LetGo v) = OwnedFits w v
  Tells e = ⊤

  abbrev EndFits : List Task × EndedAs → Type 0
  EndFits p = All p.0 × Tells p.1

  ends_by : (xs : List Task) (t : ℕ) (v : Owned) → w.thread t ≡ 0 → OwnedFits w v → All xs → (o : Option TaskState) → Gives (StateFits w) o → Gives EndFits (ended_from xs t v o)
  ends_by xs t v z k a None q = tt
  ends_by xs t v z k a (Some going) q = (turned xs t (kept v) z k a, tt)
  ends_by xs t v z k a (Some let_go) q = (gone xs t a, k)
  ends_by xs t v z k a (Some (kept u)) q = tt
  ends_by xs t v z k a (Some (tasks.asked s u)) q = (gone xs t a, (q, k))
  ends_by xs t v z k a (Some (in_pair parent true)) q = tt
  ends_by xs t v z k a (Some (in_pair parent false)) q = both (over_in xs parent)
    where
      both : (o : Option ℕ) → EndFits (pair_ended xs t parent o)
      both None = (turned xs t (in_pair parent true) z q a, tt)
      both (Some other) = (gone (without_task xs t) other (gone xs t a), tt)

  pub ends : (xs : List Task) (t : ℕ) (v : Owned) → w.thread t ≡ 0 → OwnedFits w v → All xs → Gives EndFits (ended xs t v)
  ends xs t v z k a = ends_by xs t v z k a (state_of xs t) (noted xs t a)

  got_fits : (u : ℕ) (p : Phase) → phase_word w.word p + phase_thread w.thread p + phase_mutex w.mutex p ≡ 0 → Gives (λ (q : Phase). phase_word w.word q + phase_thread w.thread q + phase_mutex w.mutex q ≡ 0) (got_par u p)
  got_fits u (phase.WaitPar a b) z = test_gives (λ (q : Phase). phase_word w.word q + phase_thread w.thread q + phase_mutex w.mutex q ≡ 0) ((a == u) || (b == u)) _ (λ e. z)
  got_fits u phase.Ready z = tt
  got_fits u (phase.WaitCell v) z = tt
  got_fits u phase.Got z = tt
  got_fits u (phase.Taken v) z = tt
  got_fits u (phase.WaitLock m) z = tt
  got_fits u (phase.WaitDup m) z = tt
  got_fits u (phase.WaitJoin t) z = tt
  got_fits u (phase.GotPar a b) z = tt
  got_fits u phase.Over z = tt

module _ (w : Weights) (b : Base) (closed : Closed w b.limit) where
  abbrev OfWork : Work → Type 0
  OfWork x = RestFits w b x.rest

  -- the hand, and the server with all threads
  abbrev pub Went : Hand → Type 0
  Went h = RestFits w b h.work.rest × ThreadFits w h.thread

  abbrev pub SiteFits : Site → Type 0
  SiteFits x = RestFits w b x.work.rest × AllByRecursion (ThreadFits w) x.threads

  says : (t : ℕ) (m : Message) (r : Rest) → MessageFits w t m → RestFits w b r → RestFits w b (sent_from r t m)
  says = says_fits w b closed

  mutexes_put : (ms : Mutexes) (r : Rest) → HomeFit w b ms → RestFits w b r → RestFits w b (record r { mutexes = ms })
  mutexes_put ms r a g = record { numbered = g.numbered; begun = g.begun; made_so = a.made_so; homed = a.homed; partition = g.partition; copies = g.copies; mutexes = a.there; tasks = g.tasks; waiting = g.waiting; leaving = g.leaving }

  tasks_put : (ts : List Task) (r : Rest) → AllByRecursion (TaskFits w) ts → RestFits w b r → RestFits w b (record r { tasks = ts })
  tasks_put ts r a g = record { numbered = g.numbered; begun = g.begun; made_so = g.made_so; homed = g.homed; partition = g.partition; copies = g.copies; mutexes = g.mutexes; tasks = a; waiting = g.waiting; leaving = g.leaving }

  home : (r : Rest) → RestFits w b r → HomeFit w b r.mutexes
  home r g = record { made_so = g.made_so; homed = g.homed; there = g.mutexes }

  beside : (f : Work → Option Work) (x : Site) → SiteFits x → Gives OfWork (f x.work) → Gives SiteFits (beside_threads f x)
  beside f x a g = over_gives OfWork SiteFits (f x.work) (λ v. record x { work = v }) g (λ v k. (k, a.1))

  at : (t : ℕ) (f : Hand → Option Hand) (x : Site) → SiteFits x → ((y : ThreadState) → ThreadFits w y → Gives Went (f (record { work = x.work; thread = y }))) → Gives SiteFits (at_thread t f x)
  at t f x a go = by (thread_in x.threads t) refl
    where
      by : (o : Option ThreadState) → thread_in x.threads t ≡ o → Gives SiteFits (then_some (option_map (λ y. record { work = x.work; thread = y }) o) (λ h. option_map (put_back x.threads) (f h)))
      by None q = tt
      by (Some y) q = over_gives Went SiteFits (f (record { work = x.work; thread = y })) (put_back x.threads) (go y (found_all (ThreadFits w) x.threads t y a.1 q)) (λ h k. (k.0, set_all (ThreadFits w) x.threads h.thread a.1 k.1))

  -- OBJECTS

  fetches : (v : ℕ) (o : ObjNo) (s t : ℕ) (x : Work) → w.word v + w.thread t + w.asker s t + w.wanted v ≡ 0 → ((c : Cell) → look_object x.rest.partition v o ≡ Some c → w.copy v c ≡ 0) → OfWork x → Gives OfWork (deliver_fetch v o s t x)
  fetches v o s t x k served a =
      let part = a.partition in
      map_gives OfWork (look_object x.rest.partition v o) _ (λ c q.
      let cell = object_fits w x.rest.partition v o c q part.cells_fit in
      says s (message.Fetched v c t) x.rest (omega (arith, k, cell, served c q)) a)

  freed_rest : (v : ℕ) (x : Rest) → RestFits w b x → RestFits w b (record x { partition = freed x.partition v })
  freed_rest v x a = with_cells w b closed (freed x.partition v) x (freed_fits w b.limit closed x.partition v a.partition) a

  moves : (v : ℕ) (o : ObjNo) (s t : ℕ) (x : Work) → w.word v + w.thread t + w.asker s t ≡ 0 → OfWork x → Gives OfWork (deliver_move v o s t x)
  moves v o s t x k a =
      let part = a.partition in
      map_gives OfWork (look_object x.rest.partition v o) _ (λ c q.
      let cell = object_fits w x.rest.partition v o c q part.cells_fit in
      says s (message.Moved v c t) (record x.rest { partition = freed x.rest.partition v }) (omega (arith, k, cell)) (freed_rest v x.rest a))

  drops : (v : ℕ) (o : ObjNo) (x : Work) → OfWork x → Gives OfWork (deliver_drop v o x)
  drops v o x a =
      let part = a.partition in
      map_gives OfWork (look_object x.rest.partition v o) _ (λ c q.
      let cell = object_fits w x.rest.partition v o c q part.cells_fit in
      gives_up w b closed c.value (note (act.Free o v) (with_partition (freed x.rest.partition v) x)) (omega (arith, cell)) (freed_rest v x.rest a))

  module _ (y : ThreadState) (live : w.going y.number y.made ≡ 0) where
    abbrev Mid : Hand → Type 0
    Mid = Of (F w b closed y)

    went : (h : Hand) → Mid h → Went h
    went h g =
        let mine = g.1 in (
          g.0,
          (mine.fit, if_none (not (is_over h.thread.phase)) (w.going h.thread.number h.thread.made) (subst (λ m. w.going h.thread.number m ≡ 0) (sym mine.as_many) (subst (λ m. w.going m y.made ≡ 0) (sym mine.same) live))),
        )

    uses_it : (v : ℕ) (q : Bool) (h : Hand) → Mid h → Gives Mid (used_once v q h)
    uses_it v true h a = a
    uses_it v false h a = test_gives Mid (can_pin h.work.rest.cache v) _ (λ e. walked w b closed y v (working (with_cache (pin h.work.rest.cache v)) h) (pinned_word w b closed y v h e a) (used w b closed y v (users h.work.rest.cache v + 1) h a))

    fills : (v : ℕ) (c : Cell) (h : Hand) → w.word v + body_weight w c + w.copy v c ≡ 0 → Mid h → Gives Went (option_map (λ h2. with_phase phase.Got (working (note (act.Fill c.object v)) h2)) (filled v c h))
    fills v c h k a =
        let rest = a.0 in
        over_gives Mid Went (filled v c h) _
        (test_gives Mid (can_fill h.work.rest.cache v c) _ (λ p.
        uses_it v (is_in v h.thread.walk) (working (with_cache (fill h.work.rest.cache v c)) h) (with_copies w b closed (fill h.work.rest.cache v c) h.work.rest (filled_fit w h.work.rest.cache v c k rest.copies) rest, a.1)))
        (λ h2 g. went (with_phase phase.Got h2) (phased w b closed y phase.Got h2 refl g))

    comes_at : (new : ℕ) (s : Spot) (h : Hand) → WordFits w new → Mid h → Gives Went (arrived_at s new h)
    comes_at new s h k a = over_gives Mid Went (set_pointer s new h) _ (pointer_put (places w b closed y) s new h k a) (λ h2 g. went (with_phase phase.Got h2) (phased w b closed y phase.Got h2 refl g))

    comes_slot : (old new i : ℕ) (h : Hand) → WordFits w new → Mid h → Gives Went (arrived_slot old new i h)
    comes_slot old new i h k a = test_gives Went (waits_under old (slice_get h.thread.slots i)) _ (λ z. comes_at new (in_slot i) h k a)

    comes_write : (p : Lval) (new : ℕ) (h : Hand) → WordFits w new → Mid h → Gives Went (arrived_write p new h)
    comes_write p new h k a = then_gives Went (passed_spot (write_stars h.thread.passed 0 h (in_slot p.slot))) _ (λ s q. comes_at new s (passing (h.thread.passed + 1) h) k a)

    taken : (new : ℕ) (h : Hand) → WordFits w new → Mid h → Went (with_phase (phase.Taken new) h)
    taken new h k a = went (with_phase (phase.Taken new) h) (phased w b closed y (phase.Taken new) h (omega (arith, k)) a)

    comes_lend : (slot d old new : ℕ) (h : Hand) → WordFits w new → Mid h → Gives Went (arrived_lend slot d old new h)
    comes_lend slot zero old new h k a = tt
    comes_lend slot (suc zero) old new h k a = taken new h k a
    comes_lend slot (suc (suc d)) old new h k a = by (waits_under old (slice_get h.thread.slots (chased d h.thread.slots slot)))
      where
        by : (q : Bool) → Gives Went (if q then arrived_at (in_slot (chased d h.thread.slots slot)) new h else Some (with_phase (phase.Taken new) h))
        by true = comes_at new (in_slot (chased d h.thread.slots slot)) h k a
        by false = taken new h k a

    comes_end : (s : Spot) (v : Option Value) (old new : ℕ) (h : Hand) → WordFits w new → Mid h → Gives Went (arrived_end s v old new h)
    comes_end s (Some (value.Mut q)) old new h k a = by (q.word == old)
      where
        by : (p : Bool) → Gives Went (if p then arrived_at s new h else arrived_write q.holder new h)
        by true = comes_at new s h k a
        by false = comes_write q.holder new h k a
    comes_end s _ old new h k a = tt

    comes_for : (x : Option Access) (old new : ℕ) (h : Hand) → WordFits w new → Mid h → Gives Went (arrived x old new h)
    comes_for None old new h k a = tt
    comes_for (Some (ReadTo p)) old new h k a = comes_slot old new (chased (p.depth - 1) h.thread.slots p.slot) h k a
    comes_for (Some (ReadPointer p)) old new h k a = comes_slot old new (chased (p.depth - 1) h.thread.slots p.slot) h k a
    comes_for (Some (WriteTo p)) old new h k a = comes_write p new h k a
    comes_for (Some (LendTo p)) old new h k a = comes_lend p.slot p.depth old new h k a
    comes_for (Some (EndRef s)) old new h k a = comes_end s (value_at h s) old new h k a

    comes : (code : List Instr) (old : ℕ) (c : Cell) (h : Hand) → CellFits w c → Mid h → Gives Went (came code old c h)
    comes code old c h k a =
        let rest = a.0 in
        bind_gives (λ (m : NewWord). WordFits w m.word × RestFits w b m.work.rest) Went (issue_placed (act.Take c.object old) c h.work) _
        (test_gives (λ (m : NewWord). WordFits w m.word × RestFits w b m.work.rest) (can_grow h.work.rest.partition) _ (λ p. (
          issued_fits w b.limit closed h.work.rest.partition p rest.partition,
          with_cells w b closed (made h.work.rest.partition c) h.work.rest (made_fits w b.limit closed h.work.rest.partition c k rest.partition) rest,
        )))
        (λ m g. comes_for (instr_access h (slice_get code h.thread.pc)) old m.word (record h { work = m.work }) g.0 (g.1, a.1))

    gives_it : (v : Owned) (g : Option Owned) (h : Hand) → OwnedFits w v → Mid h → Gives Went (given v g h)
    gives_it v None h k a =
        let h2 : Hand = record { work = h.work; thread = record h.thread { gift = Some v } } in
        went (with_phase phase.Got h2) (phased w b closed y phase.Got h2 refl (gifted w b closed y (Some v) h k a))
    gives_it v (Some u) h k a = tt

    goes_to : (q : Phase) (h : Hand) → phase_word w.word q + phase_thread w.thread q + phase_mutex w.mutex q ≡ 0 → Mid h → Went (with_phase q h)
    goes_to q h z a = went (with_phase q h) (phased w b closed y q h z a)

  -- a thread that goes on
  live_of : (y : ThreadState) → ThreadFits w y → is_over y.phase ≡ false → w.going y.number y.made ≡ 0
  live_of y f e = subst (λ q. if_so (not q) (w.going y.number y.made) ≡ 0) e f.1

  cell_awake : (p : Phase) (v : ℕ) → waits_for_cell p v ≡ true → is_over p ≡ false
  cell_awake phase.Over v e = absurd (cc e)
  cell_awake p v e = refl

  lock_awake : (p : Phase) (m : MutexNo) → waits_for_lock p m ≡ true → is_over p ≡ false
  lock_awake phase.Over m e = absurd (cc e)
  lock_awake p m e = refl

  dup_awake : (p : Phase) (m : MutexNo) → waits_for_dup p m ≡ true → is_over p ≡ false
  dup_awake phase.Over m e = absurd (cc e)
  dup_awake p m e = refl

  join_awake : (p : Phase) (u : ℕ) → waits_for_join p u ≡ true → is_over p ≡ false
  join_awake phase.Over u e = absurd (cc e)
  join_awake p u e = refl

  got_awake : (u : ℕ) (p q : Phase) → got_par u p ≡ Some q → is_over p ≡ false
  got_awake u phase.Over q e = absurd (cc e)
  got_awake u p q e = refl

  goes_on : (y : ThreadState) → ThreadFits w y → (u : ℕ) (x : Work) → OfWork x → Gives Went (pair_over u (record { work = x; thread = y }))
  goes_on y f u x a =
      let fit = f.0 in
      map_gives Went (got_par u y.phase) _ (λ q e.
      goes_to y (live_of y f (got_awake u y.phase q e)) q (record { work = x; thread = y }) (given_by (λ (p : Phase). phase_word w.word p + phase_thread w.thread p + phase_mutex w.mutex p ≡ 0) (got_par u y.phase) q (got_fits w u y.phase fit.waits) e)
      (taken_up w b closed y x.rest a f))

  -- MUTEXES AND TASKS

  left_over : (o : Option Owned) (x : Work) → Gives (OwnedFits w) o → OfWork x → OfWork (give_up_left o x)
  left_over None x k a = a
  left_over (Some v) x k a = gives_up w b closed v x k a

  locks : (m : MutexNo) (s t : ℕ) (x : Work) → w.mutex m + w.thread t + w.asker s t ≡ 0 → OfWork x → Gives OfWork (deliver_lock m s t x)
  locks m s t x k a = over_gives (AskedFits w b) OfWork (ask x.rest.mutexes m s t) _ (asks w b x.rest.mutexes m s t (omega (arith, k)) (home x.rest a)) (λ p q. by p.0 p.1 q.0 q.1)
    where
      by : (ms : Mutexes) (g : Asked) → HomeFit w b ms → Granted w b g → OfWork (answer_lock m s t g (with_mutexes ms x))
      by ms asked.Queued h g = mutexes_put ms x.rest h a
      by ms (asked.Granted v) h g = says s (message.Granted m v t) (record x.rest { mutexes = ms }) (omega (arith, k, g)) (mutexes_put ms x.rest h a)

  unlocks : (m : MutexNo) (v : Owned) (x : Work) → w.mutex m + owned_weight w v ≡ 0 → OfWork x → Gives OfWork (deliver_unlock m v x)
  unlocks m v x k a = over_gives (BackFits w b) OfWork (give_back x.rest.mutexes m v) _ (backs w b x.rest.mutexes m v (omega (arith, k)) (home x.rest a)) (λ p q. by p.0 p.1 q.0 q.1)
    where
      by : (ms : Mutexes) (g : Back) → HomeFit w b ms → Goes w b g → OfWork (answer_back m g (with_mutexes ms x))
      by ms (back.Next s t u) h g =
          let first = g.0 in
          let second = g.1 in
          says s (message.Granted m u t) (record x.rest { mutexes = ms }) (omega (arith, k, first, second)) (mutexes_put ms x.rest h a)
      by ms (back.Ended u) h g = gives_up w b closed u (with_mutexes ms x) g (mutexes_put ms x.rest h a)
      by ms back.Kept h g = mutexes_put ms x.rest h a

  dups : (m : MutexNo) (s t : ℕ) (x : Work) → w.mutex m + w.thread t + w.asker s t ≡ 0 → OfWork x → Gives OfWork (deliver_dup m s t x)
  dups m s t x k a = over_gives (HomeFit w b) OfWork (more x.rest.mutexes m) _ (mores w b x.rest.mutexes m (home x.rest a)) (λ ms h. says s (message.Dupped m t) (record x.rest { mutexes = ms }) (omega (arith, k)) (mutexes_put ms x.rest h a))

  joins : (u s t : ℕ) (x : Work) → w.thread u + w.thread t + w.asker s t ≡ 0 → OfWork x → Gives OfWork (deliver_join u s t x)
  joins u s t x k a = over_gives (JoinedFits w) OfWork (tasks.ask x.rest.tasks u s t) _ (joined w x.rest.tasks u s t (omega (arith, k)) (omega (arith, k)) a.tasks) (λ p q. by p.0 p.1 q.0 q.1)
    where
      by : (ts : List Task) (o : Option Owned) → AllByRecursion (TaskFits w) ts → Gives (OwnedFits w) o → OfWork (answer_join u s t o (with_tasks ts x))
      by ts None h g = tasks_put ts x.rest h a
      by ts (Some v) h g = says s (message.Joined u v t) (record x.rest { tasks = ts }) (omega (arith, k, g)) (tasks_put ts x.rest h a)

  releases_mutex : (m : MutexNo) (x : Work) → OfWork x → Gives OfWork (release (released.Mutex m) x)
  releases_mutex m x a = over_gives (LeftFits w b (HomeFit w b)) OfWork (less x.rest.mutexes m) _ (lesses w b x.rest.mutexes m (home x.rest a)) (λ p q. left_over p.1 (with_mutexes p.0 x) q.1 (mutexes_put p.0 x.rest q.0 a))

  releases_task : (u : ℕ) (x : Work) → w.thread u ≡ 0 → OfWork x → Gives OfWork (release (released.Task u) x)
  releases_task u x k a = over_gives (JoinedFits w) OfWork (let_go_of x.rest.tasks u) _ (lets_go w x.rest.tasks u k a.tasks) (λ p q. left_over p.1 (with_tasks p.0 x) q.1 (tasks_put p.0 x.rest q.0 a))

  finishes : (u : ℕ) (v : Owned) (x : Site) → w.thread u + owned_weight w v ≡ 0 → SiteFits x → Gives SiteFits (deliver_finished u v x)
  finishes u v x k a =
      let rest = a.0 in
      bind_gives (EndFits w) SiteFits (ended x.work.rest.tasks u v) _ (ends w x.work.rest.tasks u v (omega (arith, k)) (omega (arith, k)) rest.tasks) (λ p q. by p.0 p.1 q.0 q.1)
    where
      by : (ts : List Task) (e : EndedAs) → AllByRecursion (TaskFits w) ts → Tells w e → Gives SiteFits (end_answer u e (record x { work = with_tasks ts x.work }))
      by ts (over.Answer s t o) h g =
          let first = g.0 in
          let second = g.1 in
          (says s (message.Joined u o t) (record x.work.rest { tasks = ts }) (omega (arith, k, first, second)) (tasks_put ts x.work.rest h a.0), a.1)
      by ts (over.Both parent) h g =
          at parent (pair_over u) (record x { work = with_tasks ts x.work }) (tasks_put ts x.work.rest h a.0, a.1) (λ y t. goes_on y t u (with_tasks ts x.work) (tasks_put ts x.work.rest h a.0))
      by ts (over.LetGo o) h g = (gives_up w b closed o (with_tasks ts x.work) g (tasks_put ts x.work.rest h a.0), a.1)
      by ts over.Kept h g = (tasks_put ts x.work.rest h a.0, a.1)

  -- ALL MESSAGES

  -- where a copy is served, it fits
  abbrev pub Served : Message → Site → Type 0
  Served m x = (v : ℕ) (o : ObjNo) (s t : ℕ) (c : Cell) → m ≡ message.Fetch v o s t → look_object x.work.rest.partition v o ≡ Some c → w.copy v c ≡ 0

  pub message_fits : (code : List Instr) (m : Message) (x : Site) → MessageFits w b.number m → Served m x → SiteFits x → Gives SiteFits (deliver_message code m x)
  message_fits code (message.Fetch v o s t) x k served a = beside (deliver_fetch v o s t) x a (fetches v o s t x.work (omega (arith, k)) (λ c q. served v o s t c refl q) a.0)
  message_fits code (message.Fetched v c t) x k served a = at t (deliver_fetched v c) x a (λ y f. test_gives Went (waits_for_cell y.phase v) _ (λ z. fills y (live_of y f (cell_awake y.phase v z)) v c (record { work = x.work; thread = y }) (omega (arith, k)) (taken_up w b closed y x.work.rest a.0 f)))
  message_fits code (message.Move v o s t) x k served a = beside (deliver_move v o s t) x a (moves v o s t x.work (omega (arith, k)) a.0)
  message_fits code (message.Moved v c t) x k served a = at t (deliver_moved code v c) x a (λ y f. test_gives Went (waits_for_cell y.phase v) _ (λ z. comes y (live_of y f (cell_awake y.phase v z)) code v c (record { work = x.work; thread = y }) (omega (arith, k)) (taken_up w b closed y x.work.rest a.0 f)))
  message_fits code (message.Drop v o) x k served a = beside (deliver_drop v o) x a (drops v o x.work a.0)
  message_fits code (message.Lock m s t) x k served a = beside (deliver_lock m s t) x a (locks m s t x.work (omega (arith, k)) a.0)
  message_fits code (message.Granted m v t) x k served a = at t (deliver_granted m v) x a (λ y f. test_gives Went (waits_for_lock y.phase m) _ (λ z. gives_it y (live_of y f (lock_awake y.phase m z)) v y.gift (record { work = x.work; thread = y }) (omega (arith, k)) (taken_up w b closed y x.work.rest a.0 f)))
  message_fits code (message.Unlock m v) x k served a = beside (deliver_unlock m v) x a (unlocks m v x.work k a.0)
  message_fits code (message.Dup m s t) x k served a = beside (deliver_dup m s t) x a (dups m s t x.work (omega (arith, k)) a.0)
  message_fits code (message.Dupped m t) x k served a = at t (deliver_dupped m) x a (λ y f. test_gives Went (waits_for_dup y.phase m) _ (λ z. gives_it y (live_of y f (dup_awake y.phase m z)) (owned.Mutex m) y.gift (record { work = x.work; thread = y }) (omega (arith, k)) (taken_up w b closed y x.work.rest a.0 f)))
  message_fits code (message.Release (released.Mutex m)) x k served a = beside (release (released.Mutex m)) x a (releases_mutex m x.work a.0)
  message_fits code (message.Release (released.Task u)) x k served a = beside (release (released.Task u)) x a (releases_task u x.work (omega (arith, k)) a.0)
  message_fits code (message.Start t) x k served a = stand_gives SiteFits (thread_in x.threads t.number) t x (a.0, with_all (ThreadFits w) x.threads t a.1 k)
  message_fits code (message.Join u s t) x k served a = beside (deliver_join u s t) x a (joins u s t x.work (omega (arith, k)) a.0)
  message_fits code (message.Joined u v t) x k served a = at t (deliver_joined u v) x a (λ y f. test_gives Went (waits_for_join y.phase u) _ (λ z. gives_it y (live_of y f (join_awake y.phase u z)) v y.gift (record { work = x.work; thread = y }) (omega (arith, k)) (taken_up w b closed y x.work.rest a.0 f)))
  message_fits code (message.Finished u v) x k served a = finishes u v x k a
  message_fits code (message.Migrate t) x k served a = stand_gives SiteFits (thread_in x.threads t.number) t x (a.0, with_all (ThreadFits w) x.threads t a.1 k)
