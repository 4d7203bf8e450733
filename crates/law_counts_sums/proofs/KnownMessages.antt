-- The delivery of a message sends to servers of the run alone, where what it reads is known.
use Rattle.std.proofs.Common.{ℕ, zero, suc, ◌+◌, ◌-◌, ◌==◌, Bool, true, false, nat_lt, if◌then◌else◌, List, [], ◌∷◌, Option, Some, None, subst}
use Rattle.std.specs.Prelude.{slice_get, option_map}
use Rattle.std.specs.List.{AllByRecursion}
use Rattle.std.specs.Bool.{⊤}
use Rattle.coherent_memory.specs.Below.fr_base.Lists.{is_in}
use Rattle.coherent_memory.specs.Below.fr_base.Names.{same_mutex}
use Rattle.coherent_memory.specs.Below.fr_base.declared.name.MutexNo.{MutexNo}
use Rattle.coherent_memory.specs.Below.fr_base.declared.name.ObjNo.{ObjNo}
use Rattle.coherent_memory.specs.Below.fr_base.declared.place.Lval.{Lval}
use Rattle.coherent_memory.specs.Below.fr_base.declared.instruction.Instr.{Instr}
use Rattle.coherent_memory.specs.Below.fr_base.declared.release.Released.{Released}
use Rattle.coherent_memory.specs.Below.fr_base.declared.release.Released.TheVariants as released
use Rattle.coherent_memory.specs.Below.heap_partition.declared.value.Cell.{Cell}
use Rattle.coherent_memory.specs.Below.heap_partition.declared.value.Owned.{Owned}
use Rattle.coherent_memory.specs.Below.heap_partition.declared.value.Owned.TheVariants as owned
use Rattle.coherent_memory.specs.Below.owner_box.Partition.{freed}
use Rattle.coherent_memory.specs.Below.read_cache.Cache.{can_fill, can_pin}
use Rattle.coherent_memory.specs.Below.mutex_home.Mutexes.{Mutex, Mutexes, mutex_in, ask, back_to, back_out, back_in, give_back, more, last_less, less_of, less_in, less}
use Rattle.coherent_memory.specs.Below.mutex_home.declared.answers.Asked.{Asked}
use Rattle.coherent_memory.specs.Below.mutex_home.declared.answers.Asked.TheVariants as asked
use Rattle.coherent_memory.specs.Below.mutex_home.declared.answers.Back.{Back}
use Rattle.coherent_memory.specs.Below.mutex_home.declared.answers.Back.TheVariants as back
use Rattle.coherent_memory.specs.Below.join_home.Tasks.{Task, TaskState, going, let_go, kept, task_in, state_in, state_of, over_in, pair_ended, ended_from, ended, let_go_from, let_go_of}
use Rattle.coherent_memory.specs.Below.join_home.Tasks as tasks
use Rattle.coherent_memory.specs.Below.join_home.declared.answers.EndedAs.{EndedAs}
use Rattle.coherent_memory.specs.Below.join_home.declared.answers.EndedAs.TheVariants as over
use Rattle.coherent_memory.specs.Below.thread_state.View.{ThreadState}
use Rattle.coherent_memory.specs.Below.thread_state.declared.phase.Phase.TheVariants as phase
use Rattle.coherent_memory.specs.Below.thread_state.declared.value.Value.{Value}
use Rattle.coherent_memory.specs.Below.thread_state.declared.value.Value.TheVariants as value
use Rattle.coherent_memory.specs.Below.server_msgs.declared.message.Message.{Message}
use Rattle.coherent_memory.specs.Below.server_msgs.declared.message.Message.TheVariants as message
use Rattle.coherent_memory.specs.Below.server_model.Servers.{Server, Rest}
use Rattle.coherent_memory.specs.Below.server_model.Work.{Work, Hand, Site, put_back, then_some, thread_in, at_thread, beside_threads, look_object, with_mutexes, with_tasks, used_once}
use Rattle.coherent_memory.specs.Below.server_model.NewWords.{NewWord, can_grow, issue_placed}
use Rattle.coherent_memory.specs.Below.server_model.Places.{Spot, in_slot, value_at, set_pointer}
use Rattle.coherent_memory.specs.Below.server_model.Prepare.{Access, ReadTo, ReadPointer, WriteTo, LendTo, EndRef, passing, write_stars}
use Rattle.coherent_memory.specs.Below.server_model.Objects.{deliver_fetch, waits_for_cell, filled, deliver_fetched, deliver_move, chased, waits_under, arrived_at, arrived_slot, passed_spot, arrived_write, arrived_lend, arrived_end, arrived, instr_access, deliver_moved, deliver_drop}
use Rattle.coherent_memory.specs.Below.server_model.Sharing.{given, answer_lock, deliver_lock, waits_for_lock, deliver_granted, answer_back, deliver_unlock, deliver_dup, waits_for_dup, deliver_dupped, give_up_left}
use Rattle.coherent_memory.specs.Below.server_model.Joining.{answer_join, deliver_join, waits_for_join, deliver_joined, got_par, pair_over, end_answer, deliver_finished}
use Rattle.coherent_memory.specs.Below.server_model.Events.{release, deliver_message}
use Rattle.coherent_memory.specs.Below.journal.declared.act.Act.TheVariants as act
use Rattle.law_counts_sums.specs.Laws.{Gives}
use Rattle.law_counts_sums.proofs.Results.{then_gives, map_gives, over_gives, bind_gives, test_gives, stand_gives}
use Rattle.law_counts_sums.proofs.ObjectMessages.{looked_object}
use Rattle.law_counts_sums.proofs.Sends.{Sends, sends_more}
use Rattle.law_counts_sums.proofs.Known.{Here, OwnedKnown, CellKnown}
use Rattle.law_counts_sums.proofs.KnownPlaces.{pointer_keeps, looked_known}
use Rattle.law_counts_sums.proofs.KnownSteps.{sent, gives_up}

-- a mutex with what is in it and the servers of those that wait for it
pub record MutexKnown (ss : List Server) (m : Mutex) : Type 0 where
  pub inside : Gives (OwnedKnown ss) m.content
  pub waiting : AllByRecursion (λ (asker : ℕ × ℕ). Here ss asker.0) m.queue

-- what is noted of a thread: the server of the one that asked, or the result
abbrev pub StateKnown : List Server → TaskState → Type 0
StateKnown ss (tasks.asked s t) = Here ss s
StateKnown ss (kept v) = OwnedKnown ss v
StateKnown ss x = ⊤

abbrev pub TaskKnown : List Server → Task → Type 0
TaskKnown ss x = StateKnown ss x.state

-- of a server what the delivery of a message reads
pub record RestKnown (ss : List Server) (r : Rest) : Type 0 where
  pub cells_named : AllByRecursion (CellKnown ss) r.partition.cells
  pub mutexes_named : AllByRecursion (MutexKnown ss) r.mutexes.there
  pub tasks_named : AllByRecursion (TaskKnown ss) r.tasks

-- of a message the server of the one that asks, or the value that may be let go
abbrev pub MessageKnown : List Server → Message → Type 0
MessageKnown ss (message.Fetch w o s t) = Here ss s
MessageKnown ss (message.Move w o s t) = Here ss s
MessageKnown ss (message.Lock m s t) = Here ss s
MessageKnown ss (message.Dup m s t) = Here ss s
MessageKnown ss (message.Join u s t) = Here ss s
MessageKnown ss (message.Unlock m v) = OwnedKnown ss v
MessageKnown ss (message.Finished u v) = OwnedKnown ss v
MessageKnown ss m = ⊤

module _ (ss : List Server) (r : Rest) where
  abbrev Sent : Work → Type 0
  Sent w = Sends ss r w.rest

  abbrev SentHand : Hand → Type 0
  SentHand h = Sends ss r h.work.rest

  abbrev pub SentSite : Site → Type 0
  SentSite x = Sends ss r x.work.rest

  beside : (f : Work → Option Work) (x : Site) → Gives Sent (f x.work) → Gives SentSite (beside_threads f x)
  beside f x g = over_gives Sent SentSite (f x.work) (λ w. record x { work = w }) g (λ w a. a)

  at : (t : ℕ) (f : Hand → Option Hand) (x : Site) → ((y : ThreadState) → Gives SentHand (f (record { work = x.work; thread = y }))) → Gives SentSite (at_thread t f x)
  at t f x go = by (thread_in x.threads t)
    where
      by : (o : Option ThreadState) → Gives SentSite (then_some (option_map (λ y. record { work = x.work; thread = y }) o) (λ h. option_map (put_back x.threads) (f h)))
      by None = tt
      by (Some y) = over_gives SentHand SentSite (f (record { work = x.work; thread = y })) (put_back x.threads) (go y) (λ h a. a)

  -- OBJECTS

  fetches : (v : ℕ) (b : ObjNo) (s t : ℕ) (w : Work) → Here ss s → Sent w → Gives Sent (deliver_fetch v b s t w)
  fetches v b s t w k a = map_gives Sent (look_object w.rest.partition v b) _ (λ c q. sends_more ss r w.rest s (message.Fetched v c t) k a)

  moves : (v : ℕ) (b : ObjNo) (s t : ℕ) (w : Work) → Here ss s → Sent w → Gives Sent (deliver_move v b s t w)
  moves v b s t w k a = map_gives Sent (look_object w.rest.partition v b) _ (λ c q. sends_more ss r (record w.rest { partition = freed w.rest.partition v }) s (message.Moved v c t) k a)

  drops : (v : ℕ) (b : ObjNo) (w : Work) → AllByRecursion (CellKnown ss) w.rest.partition.cells → Sent w → Gives Sent (deliver_drop v b w)
  drops v b w k a =
      map_gives Sent (look_object w.rest.partition v b) _ (λ c q.
      let there : CellKnown ss (Some c) = subst (CellKnown ss) (looked_object w.rest.partition v b c q).0 (looked_known ss w.rest.partition v k) in
      gives_up ss r c.value (Rattle.coherent_memory.specs.Below.server_model.Work.note (act.Free b v) (Rattle.coherent_memory.specs.Below.server_model.Work.with_partition (freed w.rest.partition v) w)) there a)

  uses_it : (v : ℕ) (b : Bool) (h : Hand) → SentHand h → Gives SentHand (used_once v b h)
  uses_it v true h a = a
  uses_it v false h a = test_gives SentHand (can_pin h.work.rest.cache v) _ (λ on. a)

  fills : (v : ℕ) (c : Cell) (h : Hand) → SentHand h → Gives SentHand (deliver_fetched v c h)
  fills v c h a =
      test_gives SentHand (waits_for_cell h.thread.phase v) _ (λ on. over_gives SentHand SentHand (filled v c h) _
      (test_gives SentHand (can_fill h.work.rest.cache v c) _ (λ p. uses_it v (is_in v h.thread.walk) _ a)) (λ h2 b. b))

  comes_at : (new : ℕ) (s : Spot) (h : Hand) → SentHand h → Gives SentHand (arrived_at s new h)
  comes_at new s h a = over_gives SentHand SentHand (set_pointer s new h) _ (pointer_keeps (sent ss r) s new h a) (λ h2 b. b)

  comes_slot : (old new i : ℕ) (h : Hand) → SentHand h → Gives SentHand (arrived_slot old new i h)
  comes_slot old new i h a = test_gives SentHand (waits_under old (slice_get h.thread.slots i)) _ (λ on. comes_at new (in_slot i) h a)

  comes_write : (w : Lval) (new : ℕ) (h : Hand) → SentHand h → Gives SentHand (arrived_write w new h)
  comes_write w new h a = then_gives SentHand (passed_spot (write_stars h.thread.passed 0 h (in_slot w.slot))) _ (λ s q. comes_at new s (passing (h.thread.passed + 1) h) a)

  comes_lend : (slot d old new : ℕ) (h : Hand) → SentHand h → Gives SentHand (arrived_lend slot d old new h)
  comes_lend slot zero old new h a = tt
  comes_lend slot (suc zero) old new h a = a
  comes_lend slot (suc (suc d)) old new h a = by (waits_under old (slice_get h.thread.slots (chased d h.thread.slots slot)))
    where
      by : (b : Bool) → Gives SentHand (if b then arrived_at (in_slot (chased d h.thread.slots slot)) new h else Some (Rattle.coherent_memory.specs.Below.server_model.Work.with_phase (phase.Taken new) h))
      by true = comes_at new (in_slot (chased d h.thread.slots slot)) h a
      by false = a

  comes_end : (s : Spot) (v : Option Value) (old new : ℕ) (h : Hand) → SentHand h → Gives SentHand (arrived_end s v old new h)
  comes_end s (Some (value.Mut q)) old new h a = by (q.word == old)
    where
      by : (b : Bool) → Gives SentHand (if b then arrived_at s new h else arrived_write q.holder new h)
      by true = comes_at new s h a
      by false = comes_write q.holder new h a
  comes_end s _ old new h a = tt

  comes_for : (x : Option Access) (old new : ℕ) (h : Hand) → SentHand h → Gives SentHand (arrived x old new h)
  comes_for None old new h a = tt
  comes_for (Some (ReadTo w)) old new h a = comes_slot old new (chased (w.depth - 1) h.thread.slots w.slot) h a
  comes_for (Some (ReadPointer w)) old new h a = comes_slot old new (chased (w.depth - 1) h.thread.slots w.slot) h a
  comes_for (Some (WriteTo w)) old new h a = comes_write w new h a
  comes_for (Some (LendTo w)) old new h a = comes_lend w.slot w.depth old new h a
  comes_for (Some (EndRef s)) old new h a = comes_end s (value_at h s) old new h a

  comes : (code : List Instr) (old : ℕ) (c : Cell) (h : Hand) → SentHand h → Gives SentHand (deliver_moved code old c h)
  comes code old c h a =
      test_gives SentHand (waits_for_cell h.thread.phase old) _ (λ on. bind_gives (λ (n : NewWord). Sent n.work) SentHand (issue_placed (act.Take c.object old) c h.work) _
      (test_gives (λ (n : NewWord). Sent n.work) (can_grow h.work.rest.partition) _ (λ p. a)) (λ n b. comes_for (instr_access h (slice_get code h.thread.pc)) old n.word (record h { work = n.work }) b))

  -- MUTEXES

  gives_it : (v : Owned) (g : Option Owned) (h : Hand) → SentHand h → Gives SentHand (given v g h)
  gives_it v None h a = a
  gives_it v (Some u) h a = tt

  left_over : (o : Option Owned) (w : Work) → Gives (OwnedKnown ss) o → Sent w → Sent (give_up_left o w)
  left_over None w k a = a
  left_over (Some v) w k a = gives_up ss r v w k a

  found : (xs : List Mutex) (m : MutexNo) → AllByRecursion (MutexKnown ss) xs → Gives (MutexKnown ss) (mutex_in xs m)
  found [] m k = tt
  found (x ∷ xs) m k = by (same_mutex x.number m) (found xs m k.1)
    where
      by : (b : Bool) → Gives (MutexKnown ss) (mutex_in xs m) → Gives (MutexKnown ss) (if b then Some x else mutex_in xs m)
      by true g = k.0
      by false g = g

  locks : (m : MutexNo) (s t : ℕ) (w : Work) → Here ss s → Sent w → Gives Sent (deliver_lock m s t w)
  locks m s t w k a = map_gives Sent (ask w.rest.mutexes m s t) _ (λ p q. by p.0 p.1)
    where
      by : (ms : Mutexes) (x : Asked) → Sent (answer_lock m s t x (with_mutexes ms w))
      by ms asked.Queued = a
      by ms (asked.Granted v) = sends_more ss r (record w.rest { mutexes = ms }) s (message.Granted m v t) k a

  -- whom a content goes to once it is back, or what is let go
  abbrev BackKnown : Mutexes × Back → Type 0
  BackKnown x = by x.1
    where
      by : Back → Type 0
      by (back.Next s t v) = Here ss s
      by (back.Ended v) = OwnedKnown ss v
      by back.Kept = ⊤

  backs : (ms : Mutexes) (m : MutexNo) (v : Owned) → OwnedKnown ss v → AllByRecursion (MutexKnown ss) ms.there → Gives BackKnown (give_back ms m v)
  backs ms m v k all = by (mutex_in ms.there m) (found ms.there m all)
    where
      alone : (x : Mutex) (b : Bool) → BackKnown (if b then (Rattle.coherent_memory.specs.Below.mutex_home.Mutexes.end_mutex ms x.number, back.Ended v) else (Rattle.coherent_memory.specs.Below.mutex_home.Mutexes.put_mutex ms (record x { content = Some v }), back.Kept))
      alone x true = k
      alone x false = tt

      queue : (x : Mutex) (l : List (ℕ × ℕ)) → AllByRecursion (λ (asker : ℕ × ℕ). Here ss asker.0) l → BackKnown (back_to ms v x l)
      queue x [] q = alone x (x.shares == 0)
      queue x (first ∷ rest) q = q.0

      content : (x : Mutex) (c : Option Owned) → MutexKnown ss x → Gives BackKnown (back_out ms v x c)
      content x None q = queue x x.queue q.waiting
      content x (Some u) q = tt

      by : (o : Option Mutex) → Gives (MutexKnown ss) o → Gives BackKnown (back_in ms v o)
      by None q = tt
      by (Some x) q = content x x.content q

  unlocks : (m : MutexNo) (v : Owned) (w : Work) → OwnedKnown ss v → AllByRecursion (MutexKnown ss) w.rest.mutexes.there → Sent w → Gives Sent (deliver_unlock m v w)
  unlocks m v w k all a = over_gives BackKnown Sent (give_back w.rest.mutexes m v) _ (backs w.rest.mutexes m v k all) (λ p q. by p.0 p.1 q)
    where
      by : (ms : Mutexes) (b : Back) → BackKnown (ms, b) → Sent (answer_back m b (with_mutexes ms w))
      by ms (back.Next s t u) q = sends_more ss r (record w.rest { mutexes = ms }) s (message.Granted m u t) q a
      by ms (back.Ended u) q = gives_up ss r u (with_mutexes ms w) q a
      by ms back.Kept q = a

  dups : (m : MutexNo) (s t : ℕ) (w : Work) → Here ss s → Sent w → Gives Sent (deliver_dup m s t w)
  dups m s t w k a = map_gives Sent (more w.rest.mutexes m) _ (λ ms q. sends_more ss r (record w.rest { mutexes = ms }) s (message.Dupped m t) k a)

  abbrev LeftKnown : {X : Type 0} → X × Option Owned → Type 0
  LeftKnown x = Gives (OwnedKnown ss) x.1

  fewer : (ms : Mutexes) (m : MutexNo) → AllByRecursion (MutexKnown ss) ms.there → Gives LeftKnown (less ms m)
  fewer ms m all = by (mutex_in ms.there m) (found ms.there m all)
    where
      last : (x : Mutex) (c : Option Owned) → Gives (OwnedKnown ss) c → LeftKnown (last_less ms x c)
      last x None q = tt
      last x (Some v) q = q

      one : (x : Mutex) (b : Bool) → MutexKnown ss x → LeftKnown (if b then last_less ms x x.content else (Rattle.coherent_memory.specs.Below.mutex_home.Mutexes.put_mutex ms (record x { shares = x.shares - 1 }), None))
      one x true q = last x x.content q.inside
      one x false q = tt

      by : (o : Option Mutex) → Gives (MutexKnown ss) o → Gives LeftKnown (less_in ms o)
      by None q = tt
      by (Some x) q = test_gives LeftKnown (nat_lt 0 x.shares) (Some (less_of ms x)) (λ on. one x (x.shares == 1) q)

  -- THREADS

  noted : (xs : List Task) (t : ℕ) → AllByRecursion (TaskKnown ss) xs → Gives (StateKnown ss) (state_of xs t)
  noted [] t k = tt
  noted (x ∷ xs) t k = by (x.thread == t) (noted xs t k.1)
    where
      by : (b : Bool) → Gives (StateKnown ss) (state_in (task_in xs t)) → Gives (StateKnown ss) (state_in (if b then Some x else task_in xs t))
      by true g = k.0
      by false g = g

  joins : (u s by_thread : ℕ) (w : Work) → Here ss s → Sent w → Gives Sent (deliver_join u s by_thread w)
  joins u s by_thread w k a = map_gives Sent (tasks.ask w.rest.tasks u s by_thread) _ (λ p q. of p.0 p.1)
    where
      of : (ts : List Task) (x : Option Owned) → Sent (answer_join u s by_thread x (with_tasks ts w))
      of ts None = a
      of ts (Some v) = sends_more ss r (record w.rest { tasks = ts }) s (message.Joined u v by_thread) k a

  lets_go : (xs : List Task) (t : ℕ) (o : Option TaskState) → Gives (StateKnown ss) o → Gives LeftKnown (let_go_from xs t o)
  lets_go xs t (Some going) k = tt
  lets_go xs t (Some (kept v)) k = k
  lets_go xs t _ k = tt

  releases : (x : Released) (w : Work) → RestKnown ss w.rest → Sent w → Gives Sent (release x w)
  releases (released.Mutex m) w k a = over_gives LeftKnown Sent (less w.rest.mutexes m) _ (fewer w.rest.mutexes m k.mutexes_named) (λ p q. left_over p.1 (with_mutexes p.0 w) q a)
  releases (released.Task u) w k a = over_gives LeftKnown Sent (let_go_of w.rest.tasks u) _ (lets_go w.rest.tasks u (state_of w.rest.tasks u) (noted w.rest.tasks u k.tasks_named)) (λ p q. left_over p.1 (with_tasks p.0 w) q a)

  -- whom a result goes to, or what is let go
  abbrev EndKnown : List Task × EndedAs → Type 0
  EndKnown x = by x.1
    where
      by : EndedAs → Type 0
      by (over.Answer s t v) = Here ss s
      by (over.LetGo v) = OwnedKnown ss v
      by e = ⊤

  ends : (xs : List Task) (t : ℕ) (v : Owned) (o : Option TaskState) → OwnedKnown ss v → Gives (StateKnown ss) o → Gives EndKnown (ended_from xs t v o)
  ends xs t v None k q = tt
  ends xs t v (Some going) k q = tt
  ends xs t v (Some let_go) k q = k
  ends xs t v (Some (kept u)) k q = tt
  ends xs t v (Some (tasks.asked s by_thread)) k q = q
  ends xs t v (Some (tasks.in_pair parent true)) k q = tt
  ends xs t v (Some (tasks.in_pair parent false)) k q = both (over_in xs parent)
    where
      both : (o : Option ℕ) → EndKnown (pair_ended xs t parent o)
      both None = tt
      both (Some other) = tt

  goes_on : (u : ℕ) (h : Hand) → SentHand h → Gives SentHand (pair_over u h)
  goes_on u h a = map_gives SentHand (got_par u h.thread.phase) _ (λ p q. a)

  finishes : (u : ℕ) (v : Owned) (x : Site) → OwnedKnown ss v → AllByRecursion (TaskKnown ss) x.work.rest.tasks → SentSite x → Gives SentSite (deliver_finished u v x)
  finishes u v x k all a =
      bind_gives EndKnown SentSite (ended x.work.rest.tasks u v) _ (ends x.work.rest.tasks u v (state_of x.work.rest.tasks u) k (noted x.work.rest.tasks u all)) (λ p q. by p.0 p.1 q)
    where
      by : (ts : List Task) (e : EndedAs) → EndKnown (ts, e) → Gives SentSite (end_answer u e (record x { work = with_tasks ts x.work }))
      by ts (over.Answer s t b) q = sends_more ss r (record x.work.rest { tasks = ts }) s (message.Joined u b t) q a
      by ts (over.Both parent) q = at parent (pair_over u) (record x { work = with_tasks ts x.work }) (λ y. goes_on u (record { work = with_tasks ts x.work; thread = y }) a)
      by ts (over.LetGo b) q = gives_up ss r b (with_tasks ts x.work) q a
      by ts over.Kept q = a

  -- ALL MESSAGES

  pub message_sends : (code : List Instr) (m : Message) (x : Site) → MessageKnown ss m → RestKnown ss x.work.rest → SentSite x → Gives SentSite (deliver_message code m x)
  message_sends code (message.Fetch w o s t) x k known a = beside (deliver_fetch w o s t) x (fetches w o s t x.work k a)
  message_sends code (message.Fetched w c t) x k known a = at t (deliver_fetched w c) x (λ y. fills w c (record { work = x.work; thread = y }) a)
  message_sends code (message.Move w o s t) x k known a = beside (deliver_move w o s t) x (moves w o s t x.work k a)
  message_sends code (message.Moved w c t) x k known a = at t (deliver_moved code w c) x (λ y. comes code w c (record { work = x.work; thread = y }) a)
  message_sends code (message.Drop w o) x k known a = beside (deliver_drop w o) x (drops w o x.work known.cells_named a)
  message_sends code (message.Lock m s t) x k known a = beside (deliver_lock m s t) x (locks m s t x.work k a)
  message_sends code (message.Granted m v t) x k known a = at t (deliver_granted m v) x (λ y. test_gives SentHand (waits_for_lock y.phase m) _ (λ on. gives_it v y.gift (record { work = x.work; thread = y }) a))
  message_sends code (message.Unlock m v) x k known a = beside (deliver_unlock m v) x (unlocks m v x.work k known.mutexes_named a)
  message_sends code (message.Dup m s t) x k known a = beside (deliver_dup m s t) x (dups m s t x.work k a)
  message_sends code (message.Dupped m t) x k known a = at t (deliver_dupped m) x (λ y. test_gives SentHand (waits_for_dup y.phase m) _ (λ on. gives_it (owned.Mutex m) y.gift (record { work = x.work; thread = y }) a))
  message_sends code (message.Release m) x k known a = beside (release m) x (releases m x.work known a)
  message_sends code (message.Start t) x k known a = stand_gives SentSite (thread_in x.threads t.number) t x a
  message_sends code (message.Join u s t) x k known a = beside (deliver_join u s t) x (joins u s t x.work k a)
  message_sends code (message.Joined u v t) x k known a = at t (deliver_joined u v) x (λ y. test_gives SentHand (waits_for_join y.phase u) _ (λ on. gives_it v y.gift (record { work = x.work; thread = y }) a))
  message_sends code (message.Finished u v) x k known a = finishes u v x k known.tasks_named a
  message_sends code (message.Migrate t) x k known a = stand_gives SentSite (thread_in x.threads t.number) t x a
