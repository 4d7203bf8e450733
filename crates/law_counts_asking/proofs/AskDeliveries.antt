-- A delivery, an eviction and a migration leave all that asks, or answers, fitting what threads are known to wait for.
use Rattle.std.proofs.Common.{◌≡◌, ℕ, zero, suc, ◌+◌, ◌-◌, ◌==◌, Bool, true, false, if◌then◌else◌, List, Option, Some, None, refl}
use Rattle.std.specs.Prelude.{slice_get, option_map}
use Rattle.law_results_reads.specs.Below.fr_base.Lists.{is_in}
use Rattle.law_results_reads.specs.Below.fr_base.declared.name.MutexNo.{MutexNo}
use Rattle.law_results_reads.specs.Below.fr_base.declared.place.Lval.{Lval}
use Rattle.law_results_reads.specs.Below.fr_base.declared.instruction.Instr.{Instr}
use Rattle.law_results_reads.specs.Below.fr_base.declared.release.Released.{Released}
use Rattle.law_results_reads.specs.Below.fr_base.declared.release.Released.TheVariants as released
use Rattle.law_results_reads.specs.Below.global_addr.Words.{server_of}
use Rattle.law_results_reads.specs.Below.heap_partition.declared.value.Cell.{Cell}
use Rattle.law_results_reads.specs.Below.heap_partition.declared.value.Owned.{Owned}
use Rattle.law_results_reads.specs.Below.heap_partition.declared.value.Owned.TheVariants as owned
use Rattle.law_results_reads.specs.Below.owner_box.Partition.{freed}
use Rattle.law_results_reads.specs.Below.read_cache.Cache.{can_pin, can_fill}
use Rattle.law_results_reads.specs.Below.mutex_home.Mutexes.{Mutexes, ask, give_back, more, less}
use Rattle.law_results_reads.specs.Below.mutex_home.declared.answers.Asked.{Asked}
use Rattle.law_results_reads.specs.Below.mutex_home.declared.answers.Asked.TheVariants as answer
use Rattle.law_results_reads.specs.Below.mutex_home.declared.answers.Back.{Back}
use Rattle.law_results_reads.specs.Below.mutex_home.declared.answers.Back.TheVariants as back
use Rattle.law_results_reads.specs.Below.join_home.Tasks.{Task, ended, let_go_of}
use Rattle.law_results_reads.specs.Below.join_home.Tasks as tasks
use Rattle.law_results_reads.specs.Below.join_home.declared.answers.EndedAs.{EndedAs}
use Rattle.law_results_reads.specs.Below.join_home.declared.answers.EndedAs.TheVariants as over
use Rattle.law_results_reads.specs.Below.thread_state.View.{ThreadState}
use Rattle.law_results_reads.specs.Below.thread_state.declared.phase.Phase.TheVariants as phase
use Rattle.law_results_reads.specs.Below.thread_state.declared.value.Value.{Value}
use Rattle.law_results_reads.specs.Below.thread_state.declared.value.Value.TheVariants as value
use Rattle.law_results_reads.specs.Below.server_msgs.declared.message.Message.{Message}
use Rattle.law_results_reads.specs.Below.server_msgs.declared.message.Message.TheVariants as message
use Rattle.law_results_reads.specs.Below.journal.declared.act.Act.TheVariants as act
use Rattle.law_results_reads.specs.Below.server_model.Work.{Work, Hand, Site, with_phase, with_mutexes, with_tasks, with_partition, then_some, put_back, thread_in, at_thread, beside_threads, look_object, used_once, note}
use Rattle.law_results_reads.specs.Below.server_model.NewWords.{NewWord, can_grow, issue_placed}
use Rattle.law_results_reads.specs.Below.server_model.Places.{Spot, in_slot, value_at, set_pointer}
use Rattle.law_results_reads.specs.Below.server_model.Drop.{home_of, give_up}
use Rattle.law_results_reads.specs.Below.server_model.Prepare.{Access, ReadTo, ReadPointer, WriteTo, LendTo, EndRef, passing, write_stars}
use Rattle.law_results_reads.specs.Below.server_model.Objects.{deliver_fetch, waits_for_cell, filled, deliver_fetched, deliver_move, chased, waits_under, arrived_at, arrived_slot, passed_spot, arrived_write, arrived_lend, arrived_end, arrived, instr_access, deliver_moved, deliver_drop}
use Rattle.law_results_reads.specs.Below.server_model.Sharing.{given, answer_lock, deliver_lock, waits_for_lock, deliver_granted, answer_back, deliver_unlock, deliver_dup, waits_for_dup, deliver_dupped, give_up_left}
use Rattle.law_results_reads.specs.Below.server_model.Joining.{answer_join, deliver_join, waits_for_join, deliver_joined, got_par, pair_over, end_answer, deliver_finished}
use Rattle.law_results_reads.specs.Below.server_model.Events.{release, deliver_message}
use Rattle.law_results_reads.specs.Below.coherent_memory.Requests.{is_lock, is_join}
use Rattle.law_results_reads.specs.Below.law_counts_sums.Laws.{Gives}
use Rattle.law_results_reads.proofs.Below.law_counts_sums.Results.{then_gives, map_gives, over_gives, bind_gives, test_gives, stand_gives}
use Rattle.law_results_reads.proofs.Below.law_counts_sums.KnownPlaces.{Told, pointer_keeps}
use Rattle.law_counts_things.proofs.things.MutexLists as lists
use Rattle.law_counts_asking.proofs.Asking.{Phases, unfit, MessageFits, RestFits, Fits, sent_fits, AllQueues, NextFits, lock_asks, content_back, share_more, share_less, AllNotes, ResultFits, join_asks, task_let_go, thread_ends}

module _ (a : Phases) where
  abbrev pub WorkFits : Work → Type 0
  WorkFits w = RestFits a w.rest

  abbrev HandFits : Hand → Type 0
  HandFits h = RestFits a h.work.rest

  abbrev pub SiteFits : Site → Type 0
  SiteFits x = RestFits a x.work.rest

  -- a message that fits is sent
  says : (t : ℕ) (m : Message) (w : Work) → MessageFits a m → WorkFits w → RestFits a (Rattle.law_results_reads.specs.Below.server_model.Work.sent_from w.rest t m)
  says t m w z g = sent_fits a t m w.rest z g

  -- other queues that fit
  with_queues : (ms : Mutexes) (w : Work) → AllQueues a ms → WorkFits w → WorkFits (with_mutexes ms w)
  with_queues ms w q g = record { queues = q; notes = g.notes; waiting = g.waiting; leaving = g.leaving }

  -- other notes that fit
  with_notes : (ts : List Task) (w : Work) → AllNotes a ts → WorkFits w → WorkFits (with_tasks ts w)
  with_notes ts w n g = record { queues = g.queues; notes = n; waiting = g.waiting; leaving = g.leaving }

  -- what is given up asks for nothing
  gives_up : (v : Owned) (w : Work) → WorkFits w → WorkFits (give_up v w)
  gives_up (owned.Box p) w g = says (server_of p.word) (message.Drop p.word p.object) w refl g
  gives_up (owned.Mutex m) w g = says m.home (message.Release (released.Mutex m)) w refl g
  gives_up (owned.Task t) w g = says (home_of t) (message.Release (released.Task t)) w refl g
  gives_up owned.Nothing w g = g
  gives_up owned.Unit w g = g
  gives_up (owned.Int m) w g = g

  -- nor does what is left over
  left_over : (o : Option Owned) (w : Work) → WorkFits w → WorkFits (give_up_left o w)
  left_over None w g = g
  left_over (Some v) w g = gives_up v w g

  -- a delivery that touches no thread
  beside : (f : Work → Option Work) (x : Site) → Gives WorkFits (f x.work) → Gives SiteFits (beside_threads f x)
  beside f x g = over_gives WorkFits SiteFits (f x.work) (λ w. record x { work = w }) g (λ w u. u)

  -- a delivery to a thread
  at : (t : ℕ) (f : Hand → Option Hand) (x : Site) → ((y : ThreadState) → Gives HandFits (f (record { work = x.work; thread = y }))) → Gives SiteFits (at_thread t f x)
  at t f x go = by (thread_in x.threads t)
    where
      by : (o : Option ThreadState) → Gives SiteFits (then_some (option_map (λ y. record { work = x.work; thread = y }) o) (λ h. option_map (put_back x.threads) (f h)))
      by None = tt
      by (Some y) = over_gives HandFits SiteFits (f (record { work = x.work; thread = y })) (put_back x.threads) (go y) (λ h u. u)

  -- OBJECTS

  abbrev told : Told
  told p t g pc m i o ms ts c = Fits a ms.there ts i o

  -- another word in a pointer makes no difference
  pointer_fits : (s : Spot) (w : ℕ) (h : Hand) → HandFits h → Gives HandFits (set_pointer s w h)
  pointer_fits s w h g = pointer_keeps told s w h g

  -- nor does a use of a copy
  uses_it : (v : ℕ) (b : Bool) (h : Hand) → HandFits h → Gives HandFits (used_once v b h)
  uses_it v true h g = g
  uses_it v false h g = test_gives HandFits (can_pin h.work.rest.cache v) _ (λ z. g)

  -- a copy comes
  fills : (v : ℕ) (c : Cell) (h : Hand) → HandFits h → Gives HandFits (deliver_fetched v c h)
  fills v c h g =
      test_gives HandFits (waits_for_cell h.thread.phase v) _ (λ z. over_gives HandFits HandFits (filled v c h) _
      (test_gives HandFits (can_fill h.work.rest.cache v c) _ (λ p. uses_it v (is_in v h.thread.walk) _ g)) (λ h2 u. u))

  -- the object comes for the pointer at a spot
  comes_at : (new : ℕ) (s : Spot) (h : Hand) → HandFits h → Gives HandFits (arrived_at s new h)
  comes_at new s h g = over_gives HandFits HandFits (set_pointer s new h) _ (pointer_fits s new h g) (λ h2 u. u)

  -- for the one in a slot
  comes_slot : (old new i : ℕ) (h : Hand) → HandFits h → Gives HandFits (arrived_slot old new i h)
  comes_slot old new i h g = test_gives HandFits (waits_under old (slice_get h.thread.slots i)) _ (λ z. comes_at new (in_slot i) h g)

  -- for a hop of a write
  comes_write : (w : Lval) (new : ℕ) (h : Hand) → HandFits h → Gives HandFits (arrived_write w new h)
  comes_write w new h g = then_gives HandFits (passed_spot (write_stars h.thread.passed 0 h (in_slot w.slot))) _ (λ s q. comes_at new s (passing (h.thread.passed + 1) h) g)

  -- for a mutable borrow
  comes_lend : (slot d old new : ℕ) (h : Hand) → HandFits h → Gives HandFits (arrived_lend slot d old new h)
  comes_lend slot zero old new h g = tt
  comes_lend slot (suc zero) old new h g = g
  comes_lend slot (suc (suc d)) old new h g = by (waits_under old (slice_get h.thread.slots (chased d h.thread.slots slot)))
    where
      by : (b : Bool) → Gives HandFits (if b then arrived_at (in_slot (chased d h.thread.slots slot)) new h else Some (with_phase (phase.Taken new) h))
      by true = comes_at new (in_slot (chased d h.thread.slots slot)) h g
      by false = g

  -- for the end of a reference
  comes_end : (s : Spot) (v : Option Value) (old new : ℕ) (h : Hand) → HandFits h → Gives HandFits (arrived_end s v old new h)
  comes_end s (Some (value.Mut q)) old new h g = by (q.word == old)
    where
      by : (b : Bool) → Gives HandFits (if b then arrived_at s new h else arrived_write q.holder new h)
      by true = comes_at new s h g
      by false = comes_write q.holder new h g
  comes_end s _ old new h g = tt

  -- for whatever the instruction follows
  comes_for : (x : Option Access) (old new : ℕ) (h : Hand) → HandFits h → Gives HandFits (arrived x old new h)
  comes_for None old new h g = tt
  comes_for (Some (ReadTo w)) old new h g = comes_slot old new (chased (w.depth - 1) h.thread.slots w.slot) h g
  comes_for (Some (ReadPointer w)) old new h g = comes_slot old new (chased (w.depth - 1) h.thread.slots w.slot) h g
  comes_for (Some (WriteTo w)) old new h g = comes_write w new h g
  comes_for (Some (LendTo w)) old new h g = comes_lend w.slot w.depth old new h g
  comes_for (Some (EndRef s)) old new h g = comes_end s (value_at h s) old new h g

  -- an object comes
  comes : (code : List Instr) (old : ℕ) (c : Cell) (h : Hand) → HandFits h → Gives HandFits (deliver_moved code old c h)
  comes code old c h g =
      test_gives HandFits (waits_for_cell h.thread.phase old) _ (λ z. bind_gives (λ (m : NewWord). WorkFits m.work) HandFits (issue_placed (act.Take c.object old) c h.work) _
      (test_gives (λ (m : NewWord). WorkFits m.work) (can_grow h.work.rest.partition) _ (λ p. g)) (λ m u. comes_for (instr_access h (slice_get code h.thread.pc)) old m.word (record h { work = m.work }) u))

  -- a gift comes
  gives_it : (v : Owned) (o : Option Owned) (h : Hand) → HandFits h → Gives HandFits (given v o h)
  gives_it v None h g = g
  gives_it v (Some u) h g = tt

  -- MUTEXES

  -- a lock is asked for: it is granted, or its asker waits in the queue
  locks : (m : MutexNo) (s t : ℕ) (w : Work) → unfit a t (is_lock m) ≡ 0 → WorkFits w → Gives WorkFits (deliver_lock m s t w)
  locks m s t w z g = map_gives WorkFits (ask w.rest.mutexes m s t) _ (λ p q. by p.0 p.1 (lists.given (λ (r : Mutexes × Asked). AllQueues a r.0) (ask w.rest.mutexes m s t) p (lock_asks a w.rest.mutexes m s t z g.queues) q))
    where
      by : (ms : Mutexes) (x : Asked) → AllQueues a ms → WorkFits (answer_lock m s t x (with_mutexes ms w))
      by ms answer.Queued q = with_queues ms w q g
      by ms (answer.Granted v) q = says s (message.Granted m v t) (with_mutexes ms w) z (with_queues ms w q g)

  -- a content comes back: it goes on to the first in the queue
  unlocks : (m : MutexNo) (v : Owned) (w : Work) → WorkFits w → Gives WorkFits (deliver_unlock m v w)
  unlocks m v w g =
      map_gives WorkFits (give_back w.rest.mutexes m v) _ (λ p q.
      let it = lists.given (λ (r : Mutexes × Back). AllQueues a r.0 × NextFits a m r.1) (give_back w.rest.mutexes m v) p (content_back a w.rest.mutexes m v g.queues) q in by p.0 p.1 it.0 it.1)
    where
      by : (ms : Mutexes) (b : Back) → AllQueues a ms → NextFits a m b → WorkFits (answer_back m b (with_mutexes ms w))
      by ms (back.Next s t u) q z = says s (message.Granted m u t) (with_mutexes ms w) z (with_queues ms w q g)
      by ms (back.Ended u) q z = gives_up u (with_mutexes ms w) (with_queues ms w q g)
      by ms back.Kept q z = with_queues ms w q g

  -- a share is asked for, and answered
  dups : (m : MutexNo) (s t : ℕ) (w : Work) → unfit a t (Rattle.law_results_reads.specs.Below.coherent_memory.Requests.is_dup m) ≡ 0 → WorkFits w → Gives WorkFits (deliver_dup m s t w)
  dups m s t w z g =
      map_gives WorkFits (more w.rest.mutexes m) _ (λ ms q. says s (message.Dupped m t) (with_mutexes ms w) z (with_queues ms w (lists.given (AllQueues a) (more w.rest.mutexes m) ms (share_more a w.rest.mutexes m g.queues) q) g))

  -- THREADS

  -- a result is asked for: it is answered, or the asker is noted
  joins : (u s asker : ℕ) (w : Work) → unfit a asker (is_join u) ≡ 0 → WorkFits w → Gives WorkFits (deliver_join u s asker w)
  joins u s asker w z g =
      map_gives WorkFits (tasks.ask w.rest.tasks u s asker) _ (λ p q. of p.0 p.1 (lists.given (λ (r : List Task × Option Owned). AllNotes a r.0) (tasks.ask w.rest.tasks u s asker) p (join_asks a w.rest.tasks u s asker z g.notes) q))
    where
      of : (ts : List Task) (x : Option Owned) → AllNotes a ts → WorkFits (answer_join u s asker x (with_tasks ts w))
      of ts None n = with_notes ts w n g
      of ts (Some v) n = says s (message.Joined u v asker) (with_tasks ts w) z (with_notes ts w n g)

  -- a value of a mutex or a task is let go
  releases : (x : Released) (w : Work) → WorkFits w → Gives WorkFits (release x w)
  releases (released.Mutex m) w g =
      map_gives WorkFits (less w.rest.mutexes m) _ (λ p q. left_over p.1 (with_mutexes p.0 w) (with_queues p.0 w (lists.given (λ (r : Mutexes × Option Owned). AllQueues a r.0) (less w.rest.mutexes m) p (share_less a w.rest.mutexes m g.queues) q) g))
  releases (released.Task u) w g =
      map_gives WorkFits (let_go_of w.rest.tasks u) _ (λ p q. left_over p.1 (with_tasks p.0 w) (with_notes p.0 w (lists.given (λ (r : List Task × Option Owned). AllNotes a r.0) (let_go_of w.rest.tasks u) p (task_let_go a w.rest.tasks u g.notes) q) g))

  -- a thread has ended: its result goes to who is noted as its asker, or waits
  finishes : (u : ℕ) (v : Owned) (x : Site) → SiteFits x → Gives SiteFits (deliver_finished u v x)
  finishes u v x g =
      then_gives SiteFits (ended x.work.rest.tasks u v) _ (λ p q.
      let it = lists.given (λ (r : List Task × EndedAs). AllNotes a r.0 × ResultFits a u r.1) (ended x.work.rest.tasks u v) p (thread_ends a x.work.rest.tasks u v g.notes) q in by p.0 p.1 it.0 it.1)
    where
      by : (ts : List Task) (e : EndedAs) → AllNotes a ts → ResultFits a u e → Gives SiteFits (end_answer u e (record x { work = with_tasks ts x.work }))
      by ts (over.Answer s t b) n z = says s (message.Joined u b t) (with_tasks ts x.work) z (with_notes ts x.work n g)
      by ts (over.Both parent) n z = at parent (pair_over u) (record x { work = with_tasks ts x.work }) (λ y. map_gives HandFits (got_par u y.phase) _ (λ p q. with_notes ts x.work n g))
      by ts (over.LetGo b) n z = gives_up b (with_tasks ts x.work) (with_notes ts x.work n g)
      by ts over.Kept n z = with_notes ts x.work n g

  -- ALL MESSAGES

  -- whatever is delivered
  pub message_asks : (code : List Instr) (m : Message) (x : Site) → MessageFits a m → SiteFits x → Gives SiteFits (deliver_message code m x)
  message_asks code (message.Fetch w o s t) x z g = beside (deliver_fetch w o s t) x (map_gives WorkFits (look_object x.work.rest.partition w o) _ (λ c q. says s (message.Fetched w c t) x.work z g))
  message_asks code (message.Fetched w c t) x z g = at t (deliver_fetched w c) x (λ y. fills w c (record { work = x.work; thread = y }) g)
  message_asks code (message.Move w o s t) x z g =
      beside (deliver_move w o s t) x (map_gives WorkFits (look_object x.work.rest.partition w o) _ (λ c q. says s (message.Moved w c t) (with_partition (freed x.work.rest.partition w) x.work) z (record { queues = g.queues; notes = g.notes; waiting = g.waiting; leaving = g.leaving })))
  message_asks code (message.Moved w c t) x z g = at t (deliver_moved code w c) x (λ y. comes code w c (record { work = x.work; thread = y }) g)
  message_asks code (message.Drop w o) x z g =
      beside (deliver_drop w o) x (map_gives WorkFits (look_object x.work.rest.partition w o) _ (λ c q. gives_up c.value (note (act.Free o w) (with_partition (freed x.work.rest.partition w) x.work)) (record { queues = g.queues; notes = g.notes; waiting = g.waiting; leaving = g.leaving })))
  message_asks code (message.Lock m s t) x z g = beside (deliver_lock m s t) x (locks m s t x.work z g)
  message_asks code (message.Granted m v t) x z g = at t (deliver_granted m v) x (λ y. test_gives HandFits (waits_for_lock y.phase m) _ (λ q. gives_it v y.gift (record { work = x.work; thread = y }) g))
  message_asks code (message.Unlock m v) x z g = beside (deliver_unlock m v) x (unlocks m v x.work g)
  message_asks code (message.Dup m s t) x z g = beside (deliver_dup m s t) x (dups m s t x.work z g)
  message_asks code (message.Dupped m t) x z g = at t (deliver_dupped m) x (λ y. test_gives HandFits (waits_for_dup y.phase m) _ (λ q. gives_it (owned.Mutex m) y.gift (record { work = x.work; thread = y }) g))
  message_asks code (message.Release r) x z g = beside (release r) x (releases r x.work g)
  message_asks code (message.Start t) x z g = stand_gives SiteFits (thread_in x.threads t.number) t x g
  message_asks code (message.Join u s t) x z g = beside (deliver_join u s t) x (joins u s t x.work z g)
  message_asks code (message.Joined u v t) x z g = at t (deliver_joined u v) x (λ y. test_gives HandFits (waits_for_join y.phase u) _ (λ q. gives_it v y.gift (record { work = x.work; thread = y }) g))
  message_asks code (message.Finished u v) x z g = finishes u v x g
  message_asks code (message.Migrate t) x z g = stand_gives SiteFits (thread_in x.threads t.number) t x g
