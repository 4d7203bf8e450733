-- The delivery of a message takes at least one of what the message is worth.
use Rattle.std.proofs.Common.{◌≡◌, ◌≤◌, ℕ, zero, suc, ◌+◌, ◌*◌, ◌-◌, ◌==◌, Bool, true, false, if◌then◌else◌, List, Option, Some, None, refl, sym, ap, subst, arith}
use Rattle.std.specs.Prelude.{slice_get, option_map, IsSome}
use Rattle.law_runs_coherent.specs.Below.fr_base.Lists.{tot, is_in}
use Rattle.law_runs_coherent.specs.Below.fr_base.Names.{same_object}
use Rattle.law_runs_coherent.specs.Below.fr_base.declared.name.MutexNo.{MutexNo}
use Rattle.law_runs_coherent.specs.Below.fr_base.declared.name.ObjNo.{ObjNo}
use Rattle.law_runs_coherent.specs.Below.fr_base.declared.place.Lval.{Lval}
use Rattle.law_runs_coherent.specs.Below.fr_base.declared.instruction.Instr.{Instr}
use Rattle.law_runs_coherent.specs.Below.fr_base.declared.release.Released.{Released}
use Rattle.law_runs_coherent.specs.Below.fr_base.declared.release.Released.TheVariants as released
use Rattle.law_runs_coherent.specs.Below.heap_partition.declared.value.Cell.{Cell}
use Rattle.law_runs_coherent.specs.Below.heap_partition.declared.value.Owned.{Owned}
use Rattle.law_runs_coherent.specs.Below.heap_partition.declared.value.Owned.TheVariants as owned
use Rattle.law_runs_coherent.specs.Below.owner_box.View.{PartitionState}
use Rattle.law_runs_coherent.specs.Below.owner_box.Partition.{cell_of, freed, made}
use Rattle.law_runs_coherent.specs.Below.read_cache.Cache.{can_fill, fill, can_pin}
use Rattle.law_runs_coherent.specs.Below.mutex_home.Mutexes.{Mutexes, ask, give_back, more, less}
use Rattle.law_runs_coherent.specs.Below.mutex_home.declared.answers.Asked.{Asked}
use Rattle.law_runs_coherent.specs.Below.mutex_home.declared.answers.Asked.TheVariants as asked
use Rattle.law_runs_coherent.specs.Below.mutex_home.declared.answers.Back.{Back}
use Rattle.law_runs_coherent.specs.Below.mutex_home.declared.answers.Back.TheVariants as back
use Rattle.law_runs_coherent.specs.Below.join_home.Tasks.{Task, ended, let_go_of}
use Rattle.law_runs_coherent.specs.Below.join_home.Tasks as tasks
use Rattle.law_runs_coherent.specs.Below.join_home.declared.answers.EndedAs.{EndedAs}
use Rattle.law_runs_coherent.specs.Below.join_home.declared.answers.EndedAs.TheVariants as over
use Rattle.law_runs_coherent.specs.Below.thread_state.View.{ThreadState}
use Rattle.law_runs_coherent.specs.Below.thread_state.declared.phase.Phase.TheVariants as phase
use Rattle.law_runs_coherent.specs.Below.thread_state.declared.value.Value.{Value}
use Rattle.law_runs_coherent.specs.Below.thread_state.declared.value.Value.TheVariants as value
use Rattle.law_runs_coherent.specs.Below.server_msgs.declared.message.Message.{Message}
use Rattle.law_runs_coherent.specs.Below.server_msgs.declared.message.Message.TheVariants as message
use Rattle.law_runs_coherent.specs.Below.journal.declared.act.Act.TheVariants as act
use Rattle.law_runs_coherent.specs.Below.server_model.Servers.{Rest}
use Rattle.law_runs_coherent.specs.Below.server_model.Work.{Work, Hand, Site, sent_from, put_back, then_some, thread_in, at_thread, beside_threads, leads_here, look_object, note, with_partition, with_phase, with_mutexes, with_tasks, used_once}
use Rattle.law_runs_coherent.specs.Below.server_model.NewWords.{NewWord, can_grow, issue_placed}
use Rattle.law_runs_coherent.specs.Below.server_model.Places.{Spot, in_slot, value_at, set_pointer}
use Rattle.law_runs_coherent.specs.Below.server_model.Prepare.{Access, ReadTo, ReadPointer, WriteTo, LendTo, EndRef, passing, write_stars}
use Rattle.law_runs_coherent.specs.Below.server_model.Objects.{deliver_fetch, waits_for_cell, filled, deliver_fetched, deliver_move, chased, waits_under, arrived_at, arrived_slot, passed_spot, arrived_write, arrived_lend, arrived_end, arrived, instr_access, deliver_moved, deliver_drop}
use Rattle.law_runs_coherent.specs.Below.server_model.Sharing.{given, answer_lock, deliver_lock, waits_for_lock, deliver_granted, answer_back, deliver_unlock, deliver_dup, waits_for_dup, deliver_dupped, give_up_left}
use Rattle.law_runs_coherent.specs.Below.server_model.Joining.{stand, answer, answer_join, deliver_join, waits_for_join, deliver_joined, got_par, pair_over, end_answer, deliver_finished}
use Rattle.law_runs_coherent.specs.Below.server_model.Drop.{give_up}
use Rattle.law_runs_coherent.specs.Below.server_model.Events.{release, deliver_message}
use Rattle.law_runs_coherent.specs.Below.law_counts_sums.Laws.{Gives}
use Rattle.law_runs_coherent.proofs.Below.law_counts_sums.Results.{then_gives, map_gives, over_gives, bind_gives, test_gives, stand_gives, given_by}
use Rattle.law_runs_coherent.proofs.Below.law_counts_things.things.Small.{Of, pointer_put}
use Rattle.law_length_runs.specs.worth.Credit.{thread_worth, message_worth, rest_worth}
use Rattle.law_length_runs.proofs.worth.Lists.{thread_set, thread_found, thread_comes, freed_live, filled_length}
use Rattle.law_length_runs.proofs.worth.Parts.{Within, sends, all_worth, asked_worth, back_worth, asking, backing, more_worth, less_worth, noted_worth, answered_worth, ended_worth, joining, letting_go, ending}
use Rattle.law_length_runs.proofs.worth.Steps.{F, places, gives_up, pins, makes}

-- an object that is found is live
live_there : (p : PartitionState) (w : ℕ) (o : ObjNo) (c : Cell) → look_object p w o ≡ Some c → IsSome (cell_of p w)
live_there p w o c e = by (leads_here p w) e
  where
    of : (d : Option Cell) → then_some d (λ x. if same_object x.object o then Some x else None) ≡ Some c → IsSome d
    of None q = absurd (cc q)
    of (Some x) q = cc

    by : (b : Bool) → then_some (if b then cell_of p w else None) (λ x. if same_object x.object o then Some x else None) ≡ Some c → IsSome (cell_of p w)
    by true q = of (cell_of p w) q
    by false q = absurd (cc q)

-- the same with other bounds
pub shift : (c d b e : ℕ) (r : Rest) → c + e ≤ d + b → Within c b r → Within d e r
shift c d b e r l g = omega (arith, g, l)

-- an object that leaves is one less
frees : (c b : ℕ) (r : Rest) (w : ℕ) → IsSome (cell_of r.partition w) → Within c b r → Within c (b + 1) (record r { partition = freed r.partition w })
frees c b r w there g = omega (arith, g, freed_live r.partition w there)

-- a copy that comes is one more
fills_with : (c b : ℕ) (r : Rest) (v : ℕ) (x : Cell) → Within c b r → Within (c + 1) b (record r { cache = fill r.cache v x })
fills_with c b r v x g = omega (arith, g, filled_length r.cache v x)

-- other mutexes, and other notes of threads
with_others : (c d b e : ℕ) (r : Rest) (ms : Mutexes) → all_worth ms + c + e ≤ all_worth r.mutexes + d + b → Within c b r → Within d e (record r { mutexes = ms })
with_others c d b e r ms l g = omega (arith, g, l)

with_notes : (c d b e : ℕ) (r : Rest) (xs : List Task) → noted_worth xs + c + e ≤ noted_worth r.tasks + d + b → Within c b r → Within d e (record r { tasks = xs })
with_notes c d b e r xs l g = omega (arith, g, l)

-- what a site is worth at most
abbrev pub SiteWithin : ℕ → ℕ → Site → Type 0
SiteWithin c b x = rest_worth x.work.rest + tot thread_worth x.threads + b ≤ c + 5 * x.work.rest.started

module _ (d e : ℕ) where
  abbrev Good : Work → Type 0
  Good w = Within d e w.rest

  abbrev GoodHand : ThreadState → Hand → Type 0
  GoodHand y = Of (F d e y)

  -- what changes no thread
  beside : (f : Work → Option Work) (x : Site) → Gives Good (f x.work) → Gives (SiteWithin (d + tot thread_worth x.threads) e) (beside_threads f x)
  beside f x g = over_gives Good (SiteWithin (d + tot thread_worth x.threads) e) (f x.work) (λ w. record x { work = w }) g (λ w a. omega (arith, a))

  -- what changes one that is here, which has moved as it had
  at : (t : ℕ) (f : Hand → Option Hand) (x : Site) → ((y : ThreadState) → Gives (GoodHand y) (f (record { work = x.work; thread = y }))) → Gives (SiteWithin (d + tot thread_worth x.threads) e) (at_thread t f x)
  at t f x go = by (thread_in x.threads t) refl
    where
      put : (y : ThreadState) → thread_in x.threads t ≡ Some y → (h : Hand) → h.thread.number ≡ y.number → h.thread.moved_since_step ≡ y.moved_since_step → Within d e h.work.rest → SiteWithin (d + tot thread_worth x.threads) e (put_back x.threads h)
      put y q h same moved a =
          let here : thread_in x.threads h.thread.number ≡ Some y = subst (λ m. thread_in x.threads m ≡ Some y) (sym same) (thread_found x.threads t y q) in
          let w : thread_worth h.thread ≡ thread_worth y = ap (λ z. if z then 0 else 2) moved in
          omega (arith, a, w, thread_set thread_worth x.threads y h.thread here)

      by : (o : Option ThreadState) → thread_in x.threads t ≡ o → Gives (SiteWithin (d + tot thread_worth x.threads) e) (then_some (option_map (λ y. record { work = x.work; thread = y }) o) (λ h. option_map (put_back x.threads) (f h)))
      by None q = tt
      by (Some y) q = over_gives (GoodHand y) (SiteWithin (d + tot thread_worth x.threads) e) (f (record { work = x.work; thread = y })) (put_back x.threads) (go y) (λ h a. put y q h a.0 a.1 a.2)

  -- ANSWERS

  uses_it : (y : ThreadState) (v : ℕ) (b : Bool) (h : Hand) → GoodHand y h → Gives (GoodHand y) (used_once v b h)
  uses_it y v true h a = a
  uses_it y v false h a = test_gives (GoodHand y) (can_pin h.work.rest.cache v) _ (λ on. (a.0, a.1, pins d e h.work.rest v a.2))

  comes_at : (y : ThreadState) (new : ℕ) (s : Spot) (h : Hand) → GoodHand y h → Gives (GoodHand y) (arrived_at s new h)
  comes_at y new s h a = over_gives (GoodHand y) (GoodHand y) (set_pointer s new h) _ (pointer_put (places d e y) s new h tt a) (λ h2 b. b)

  comes_slot : (y : ThreadState) (old new i : ℕ) (h : Hand) → GoodHand y h → Gives (GoodHand y) (arrived_slot old new i h)
  comes_slot y old new i h a = test_gives (GoodHand y) (waits_under old (slice_get h.thread.slots i)) _ (λ on. comes_at y new (in_slot i) h a)

  comes_write : (y : ThreadState) (w : Lval) (new : ℕ) (h : Hand) → GoodHand y h → Gives (GoodHand y) (arrived_write w new h)
  comes_write y w new h a = then_gives (GoodHand y) (passed_spot (write_stars h.thread.passed 0 h (in_slot w.slot))) _ (λ s q. comes_at y new s (passing (h.thread.passed + 1) h) a)

  comes_lend : (y : ThreadState) (slot m old new : ℕ) (h : Hand) → GoodHand y h → Gives (GoodHand y) (arrived_lend slot m old new h)
  comes_lend y slot zero old new h a = tt
  comes_lend y slot (suc zero) old new h a = a
  comes_lend y slot (suc (suc m)) old new h a = by (waits_under old (slice_get h.thread.slots (chased m h.thread.slots slot)))
    where
      by : (b : Bool) → Gives (GoodHand y) (if b then arrived_at (in_slot (chased m h.thread.slots slot)) new h else Some (with_phase (phase.Taken new) h))
      by true = comes_at y new (in_slot (chased m h.thread.slots slot)) h a
      by false = a

  comes_end : (y : ThreadState) (s : Spot) (v : Option Value) (old new : ℕ) (h : Hand) → GoodHand y h → Gives (GoodHand y) (arrived_end s v old new h)
  comes_end y s (Some (value.Mut q)) old new h a = by (q.word == old)
    where
      by : (b : Bool) → Gives (GoodHand y) (if b then arrived_at s new h else arrived_write q.holder new h)
      by true = comes_at y new s h a
      by false = comes_write y q.holder new h a
  comes_end y s _ old new h a = tt

  comes_for : (y : ThreadState) (x : Option Access) (old new : ℕ) (h : Hand) → GoodHand y h → Gives (GoodHand y) (arrived x old new h)
  comes_for y None old new h a = tt
  comes_for y (Some (ReadTo w)) old new h a = comes_slot y old new (chased (w.depth - 1) h.thread.slots w.slot) h a
  comes_for y (Some (ReadPointer w)) old new h a = comes_slot y old new (chased (w.depth - 1) h.thread.slots w.slot) h a
  comes_for y (Some (WriteTo w)) old new h a = comes_write y w new h a
  comes_for y (Some (LendTo w)) old new h a = comes_lend y w.slot w.depth old new h a
  comes_for y (Some (EndRef s)) old new h a = comes_end y s (value_at h s) old new h a

  gives_it : (y : ThreadState) (v : Owned) (g : Option Owned) (h : Hand) → GoodHand y h → Gives (GoodHand y) (given v g h)
  gives_it y v None h a = a
  gives_it y v (Some u) h a = tt

  goes_on : (y : ThreadState) (u : ℕ) (h : Hand) → GoodHand y h → Gives (GoodHand y) (pair_over u h)
  goes_on y u h a = map_gives (GoodHand y) (got_par u h.thread.phase) _ (λ p q. a)

-- ALL MESSAGES

module _ (c b : ℕ) where
  -- what is left after a message that was worth so much
  abbrev pub Left : ℕ → Site → Site → Type 0
  Left n x x2 = SiteWithin (c + n + tot thread_worth x.threads) (b + 1) x2

  abbrev LeftWork : ℕ → Work → Type 0
  LeftWork n w = Within (c + n) (b + 1) w.rest

  -- a message is sent in turn
  posts : (n m b2 : ℕ) (r : Rest) (t : ℕ) (x : Message) → m + message_worth x + (b + 1) ≤ n + b2 → Within (c + m) b2 r → Within (c + n) (b + 1) (sent_from r t x)
  posts n m b2 r t x l a = shift (c + m + message_worth x) (c + n) b2 (b + 1) (sent_from r t x) (omega (arith, l)) (sends (c + m) (c + m + message_worth x) b2 r t x (omega arith) a)

  -- nothing is sent
  keeps : (n m b2 : ℕ) (r : Rest) → m + (b + 1) ≤ n + b2 → Within (c + m) b2 r → Within (c + n) (b + 1) r
  keeps n m b2 r l a = shift (c + m) (c + n) b2 (b + 1) r (omega (arith, l)) a

  -- OBJECTS

  fetches : (v : ℕ) (o : ObjNo) (s t : ℕ) (w : Work) → Within (c + 0) b w.rest → Gives (LeftWork 3) (deliver_fetch v o s t w)
  fetches v o s t w a = map_gives (LeftWork 3) (look_object w.rest.partition v o) _ (λ x q. posts 3 0 b w.rest s (message.Fetched v x t) (omega arith) a)

  moves : (v : ℕ) (o : ObjNo) (s t : ℕ) (w : Work) → Within (c + 0) b w.rest → Gives (LeftWork 2) (deliver_move v o s t w)
  moves v o s t w a =
      map_gives (LeftWork 2) (look_object w.rest.partition v o) _ (λ x q.
      posts 2 0 (b + 1) (record w.rest { partition = freed w.rest.partition v }) s (message.Moved v x t) (omega arith) (frees (c + 0) b w.rest v (live_there w.rest.partition v o x q) a))

  drops : (v : ℕ) (o : ObjNo) (w : Work) → Within (c + 0) b w.rest → Gives (LeftWork 0) (deliver_drop v o w)
  drops v o w a =
      map_gives (LeftWork 0) (look_object w.rest.partition v o) _ (λ x q.
      gives_up (c + 0) (b + 1) x.value (note (act.Free o v) (with_partition (freed w.rest.partition v) w)) (frees (c + 0) b w.rest v (live_there w.rest.partition v o x q) a))

  fills : (y : ThreadState) (v : ℕ) (x : Cell) (w : Work) → Within (c + 0) b w.rest → Gives (GoodHand (c + 2) (b + 1) y) (deliver_fetched v x (record { work = w; thread = y }))
  fills y v x w a =
      test_gives (GoodHand (c + 2) (b + 1) y) (waits_for_cell y.phase v) _ (λ on. over_gives (GoodHand (c + 2) (b + 1) y) (GoodHand (c + 2) (b + 1) y) (filled v x (record { work = w; thread = y })) _
      (test_gives (GoodHand (c + 2) (b + 1) y) (can_fill w.rest.cache v x) _ (λ p.
      uses_it (c + 2) (b + 1) y v (is_in v y.walk) _ (refl, refl, keeps 2 1 b (record w.rest { cache = fill w.rest.cache v x }) (omega arith) (shift (c + 0 + 1) (c + 1) b b (record w.rest { cache = fill w.rest.cache v x }) (omega arith) (fills_with (c + 0) b w.rest v x a))))) (λ h2 u. u))

  comes : (y : ThreadState) (code : List Instr) (old : ℕ) (x : Cell) (w : Work) → Within (c + 0) b w.rest → Gives (GoodHand (c + 2) (b + 1) y) (deliver_moved code old x (record { work = w; thread = y }))
  comes y code old x w a =
      test_gives (GoodHand (c + 2) (b + 1) y) (waits_for_cell y.phase old) _ (λ on. bind_gives (λ (n : NewWord). LeftWork 2 n.work) (GoodHand (c + 2) (b + 1) y) (issue_placed (act.Take x.object old) x w) _
      (test_gives (λ (n : NewWord). LeftWork 2 n.work) (can_grow w.rest.partition) _ (λ p.
      shift (c + 0 + 1) (c + 2) b (b + 1) (record w.rest { partition = made w.rest.partition x }) (omega arith) (makes (c + 0) b w.rest x a)))
      (λ n u. comes_for (c + 2) (b + 1) y (instr_access (record { work = w; thread = y }) (slice_get code y.pc)) old n.word (record { work = n.work; thread = y }) (refl, refl, u)))

  -- MUTEXES

  locks : (m : MutexNo) (s t : ℕ) (w : Work) → Within (c + 0) b w.rest → Gives (LeftWork 3) (deliver_lock m s t w)
  locks m s t w a = map_gives (LeftWork 3) (ask w.rest.mutexes m s t) _ (λ p q. by p.0 p.1 (given_by _ (ask w.rest.mutexes m s t) p (asking w.rest.mutexes m s t) q))
    where
      by : (ms : Mutexes) (x : Asked) → all_worth ms + asked_worth x ≤ all_worth w.rest.mutexes + 2 → LeftWork 3 (answer_lock m s t x (with_mutexes ms w))
      by ms asked.Queued l = with_others (c + 0) (c + 3) b (b + 1) w.rest ms (omega (arith, l)) a
      by ms (asked.Granted v) l = posts 3 1 b (record w.rest { mutexes = ms }) s (message.Granted m v t) (omega arith) (with_others (c + 0) (c + 1) b b w.rest ms (omega (arith, l)) a)

  unlocks : (m : MutexNo) (v : Owned) (w : Work) → Within (c + 0) b w.rest → Gives (LeftWork 0) (deliver_unlock m v w)
  unlocks m v w a = map_gives (LeftWork 0) (give_back w.rest.mutexes m v) _ (λ p q. by p.0 p.1 (given_by _ (give_back w.rest.mutexes m v) p (backing w.rest.mutexes m v) q))
    where
      by : (ms : Mutexes) (x : Back) → all_worth ms + back_worth x + 1 ≤ all_worth w.rest.mutexes → LeftWork 0 (answer_back m x (with_mutexes ms w))
      by ms (back.Next s t u) l = posts 0 0 (b + 2) (record w.rest { mutexes = ms }) s (message.Granted m u t) (omega arith) (with_others (c + 0) (c + 0) b (b + 2) w.rest ms (omega (arith, l)) a)
      by ms (back.Ended u) l = gives_up (c + 0) (b + 1) u (with_mutexes ms w) (with_others (c + 0) (c + 0) b (b + 1) w.rest ms (omega (arith, l)) a)
      by ms back.Kept l = with_others (c + 0) (c + 0) b (b + 1) w.rest ms (omega (arith, l)) a

  dups : (m : MutexNo) (s t : ℕ) (w : Work) → Within (c + 0) b w.rest → Gives (LeftWork 3) (deliver_dup m s t w)
  dups m s t w a =
      map_gives (LeftWork 3) (more w.rest.mutexes m) _ (λ ms q.
      let l = given_by _ (more w.rest.mutexes m) ms (more_worth w.rest.mutexes m) q in
      posts 3 1 b (record w.rest { mutexes = ms }) s (message.Dupped m t) (omega arith) (with_others (c + 0) (c + 1) b b w.rest ms (omega (arith, l)) a))

  -- what is left over costs nothing
  left_over : (o : Option Owned) (w : Work) → LeftWork 0 w → LeftWork 0 (give_up_left o w)
  left_over None w a = a
  left_over (Some v) w a = gives_up (c + 0) (b + 1) v w a

  -- THREADS

  joins : (u s by_thread : ℕ) (w : Work) → Within (c + 0) b w.rest → Gives (LeftWork 2) (deliver_join u s by_thread w)
  joins u s by_thread w a = map_gives (LeftWork 2) (tasks.ask w.rest.tasks u s by_thread) _ (λ p q. of p.0 p.1 (given_by _ (tasks.ask w.rest.tasks u s by_thread) p (joining w.rest.tasks u s by_thread) q))
    where
      of : (ts : List Task) (x : Option Owned) → noted_worth ts + answered_worth x ≤ noted_worth w.rest.tasks → LeftWork 2 (answer_join u s by_thread x (with_tasks ts w))
      of ts None l = with_notes (c + 0) (c + 2) b (b + 1) w.rest ts (omega (arith, l)) a
      of ts (Some v) l = posts 2 0 b (record w.rest { tasks = ts }) s (message.Joined u v by_thread) (omega arith) (with_notes (c + 0) (c + 0) b b w.rest ts (omega (arith, l)) a)

  releases : (x : Released) (w : Work) → Within (c + 0) b w.rest → Gives (LeftWork 0) (release x w)
  releases (released.Mutex m) w a =
      map_gives (LeftWork 0) (less w.rest.mutexes m) _ (λ p q.
      let l = given_by _ (less w.rest.mutexes m) p (less_worth w.rest.mutexes m) q in
      left_over p.1 (with_mutexes p.0 w) (with_others (c + 0) (c + 0) b (b + 1) w.rest p.0 (omega (arith, l)) a))
  releases (released.Task u) w a =
      map_gives (LeftWork 0) (let_go_of w.rest.tasks u) _ (λ p q.
      let l = given_by _ (let_go_of w.rest.tasks u) p (letting_go w.rest.tasks u) q in
      left_over p.1 (with_tasks p.0 w) (with_notes (c + 0) (c + 0) b (b + 1) w.rest p.0 (omega (arith, l)) a))

  -- a site whose threads stay
  stays : (n : ℕ) (x : Site) (w : Work) → LeftWork n w → Left n x (record x { work = w })
  stays n x w a = omega (arith, a)

  finishes : (u : ℕ) (v : Owned) (x : Site) → Within (c + 0) b x.work.rest → Gives (Left 0 x) (deliver_finished u v x)
  finishes u v x a = then_gives (Left 0 x) (ended x.work.rest.tasks u v) _ (λ p q. by p.0 p.1 (given_by _ (ended x.work.rest.tasks u v) p (ending x.work.rest.tasks u v) q))
    where
      by : (ts : List Task) (e : EndedAs) → noted_worth ts + ended_worth e + 1 ≤ noted_worth x.work.rest.tasks → Gives (Left 0 x) (end_answer u e (record x { work = with_tasks ts x.work }))
      by ts (over.Answer s t g) l =
          let m : Message = message.Joined u g t in
          stays 0 x (answer u s t g (with_tasks ts x.work)) (posts 0 0 (b + 2) (record x.work.rest { tasks = ts }) s m (omega arith) (with_notes (c + 0) (c + 0) b (b + 2) x.work.rest ts (omega (arith, l)) a))
      by ts (over.Both parent) l =
          at (c + 0) (b + 1) parent (pair_over u) (record x { work = with_tasks ts x.work }) (λ y.
          goes_on (c + 0) (b + 1) y u (record { work = with_tasks ts x.work; thread = y }) (refl, refl, with_notes (c + 0) (c + 0) b (b + 1) x.work.rest ts (omega (arith, l)) a))
      by ts (over.LetGo g) l = stays 0 x (give_up g (with_tasks ts x.work)) (gives_up (c + 0) (b + 1) g (with_tasks ts x.work) (with_notes (c + 0) (c + 0) b (b + 1) x.work.rest ts (omega (arith, l)) a))
      by ts over.Kept l = stays 0 x (with_tasks ts x.work) (with_notes (c + 0) (c + 0) b (b + 1) x.work.rest ts (omega (arith, l)) a)

  -- a thread that comes is worth what it was under way
  arrives : (n : ℕ) (t : ThreadState) (x : Site) → n ≡ 1 + thread_worth t → Within (c + 0) b x.work.rest → Gives (Left n x) (stand (thread_in x.threads t.number) t x)
  arrives n t x e a = stand_gives (Left n x) (thread_in x.threads t.number) t x (omega (arith, e, a, thread_comes thread_worth x.threads t))

  -- a gift comes
  gifts : (y : ThreadState) (v : Owned) (w : Work) → Within (c + 0) b w.rest → Gives (GoodHand (c + 1) (b + 1) y) (given v y.gift (record { work = w; thread = y }))
  gifts y v w a = gives_it (c + 1) (b + 1) y v y.gift (record { work = w; thread = y }) (refl, refl, keeps 1 0 b w.rest (omega arith) a)

  pub message_spends : (code : List Instr) (m : Message) (x : Site) → Within (c + 0) b x.work.rest → Gives (Left (message_worth m) x) (deliver_message code m x)
  message_spends code (message.Fetch w o s t) x a = beside (c + 3) (b + 1) (deliver_fetch w o s t) x (fetches w o s t x.work a)
  message_spends code (message.Fetched w u t) x a = at (c + 2) (b + 1) t (deliver_fetched w u) x (λ y. fills y w u x.work a)
  message_spends code (message.Move w o s t) x a = beside (c + 2) (b + 1) (deliver_move w o s t) x (moves w o s t x.work a)
  message_spends code (message.Moved w u t) x a = at (c + 2) (b + 1) t (deliver_moved code w u) x (λ y. comes y code w u x.work a)
  message_spends code (message.Drop w o) x a = beside (c + 0) (b + 1) (deliver_drop w o) x (drops w o x.work a)
  message_spends code (message.Lock m s t) x a = beside (c + 3) (b + 1) (deliver_lock m s t) x (locks m s t x.work a)
  message_spends code (message.Granted m v t) x a = at (c + 1) (b + 1) t (deliver_granted m v) x (λ y. test_gives (GoodHand (c + 1) (b + 1) y) (waits_for_lock y.phase m) _ (λ on. gifts y v x.work a))
  message_spends code (message.Unlock m v) x a = beside (c + 0) (b + 1) (deliver_unlock m v) x (unlocks m v x.work a)
  message_spends code (message.Dup m s t) x a = beside (c + 3) (b + 1) (deliver_dup m s t) x (dups m s t x.work a)
  message_spends code (message.Dupped m t) x a = at (c + 1) (b + 1) t (deliver_dupped m) x (λ y. test_gives (GoodHand (c + 1) (b + 1) y) (waits_for_dup y.phase m) _ (λ on. gifts y (owned.Mutex m) x.work a))
  message_spends code (message.Release m) x a = beside (c + 0) (b + 1) (release m) x (releases m x.work a)
  message_spends code (message.Start t) x a = arrives (1 + thread_worth t) t x refl a
  message_spends code (message.Join u s t) x a = beside (c + 2) (b + 1) (deliver_join u s t) x (joins u s t x.work a)
  message_spends code (message.Joined u v t) x a = at (c + 1) (b + 1) t (deliver_joined u v) x (λ y. test_gives (GoodHand (c + 1) (b + 1) y) (waits_for_join y.phase u) _ (λ on. gifts y v x.work a))
  message_spends code (message.Finished u v) x a = finishes u v x a
  message_spends code (message.Migrate t) x a = arrives (1 + thread_worth t) t x refl a
