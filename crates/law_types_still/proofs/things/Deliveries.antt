-- A delivery leaves contents, results and gifts with what is wanted of them: each goes on as it came, wherever it goes.
use Rattle.std.proofs.Common.{◌≡◌, ℕ, zero, suc, ◌+◌, ◌-◌, ◌==◌, Bool, true, false, if◌then◌else◌, List, Option, Some, None, refl}
use Rattle.std.specs.Prelude.{slice_get, option_map}
use Rattle.std.specs.List.{AllByRecursion}
use Rattle.law_counts_things.specs.Below.fr_base.Lists.{is_in}
use Rattle.law_counts_things.specs.Below.fr_base.declared.name.MutexNo.{MutexNo}
use Rattle.law_counts_things.specs.Below.fr_base.declared.place.Lval.{Lval}
use Rattle.law_counts_things.specs.Below.fr_base.declared.instruction.Instr.{Instr}
use Rattle.law_counts_things.specs.Below.fr_base.declared.release.Released.{Released}
use Rattle.law_counts_things.specs.Below.fr_base.declared.release.Released.TheVariants as released
use Rattle.law_counts_things.specs.Below.global_addr.Words.{server_of}
use Rattle.law_counts_things.specs.Below.heap_partition.declared.value.Cell.{Cell}
use Rattle.law_counts_things.specs.Below.heap_partition.declared.value.Owned.{Owned}
use Rattle.law_counts_things.specs.Below.heap_partition.declared.value.Owned.TheVariants as owned
use Rattle.law_counts_things.specs.Below.owner_box.Partition.{freed}
use Rattle.law_counts_things.specs.Below.read_cache.Cache.{can_pin, can_fill}
use Rattle.law_counts_things.specs.Below.mutex_home.Mutexes.{Mutexes, ask, give_back, more, less}
use Rattle.law_counts_things.specs.Below.mutex_home.declared.answers.Asked.{Asked}
use Rattle.law_counts_things.specs.Below.mutex_home.declared.answers.Asked.TheVariants as answer
use Rattle.law_counts_things.specs.Below.mutex_home.declared.answers.Back.{Back}
use Rattle.law_counts_things.specs.Below.mutex_home.declared.answers.Back.TheVariants as back
use Rattle.law_counts_things.specs.Below.join_home.Tasks.{Task, ended, let_go_of}
use Rattle.law_counts_things.specs.Below.join_home.Tasks as tasks
use Rattle.law_counts_things.specs.Below.join_home.declared.answers.EndedAs.{EndedAs}
use Rattle.law_counts_things.specs.Below.join_home.declared.answers.EndedAs.TheVariants as over
use Rattle.law_counts_things.specs.Below.thread_state.View.{ThreadState}
use Rattle.law_counts_things.specs.Below.thread_state.declared.phase.Phase.TheVariants as phase
use Rattle.law_counts_things.specs.Below.thread_state.declared.value.Value.{Value}
use Rattle.law_counts_things.specs.Below.thread_state.declared.value.Value.TheVariants as value
use Rattle.law_counts_things.specs.Below.server_msgs.declared.message.Message.{Message}
use Rattle.law_counts_things.specs.Below.server_msgs.declared.message.Message.TheVariants as message
use Rattle.law_counts_things.specs.Below.journal.declared.act.Act.TheVariants as act
use Rattle.law_counts_things.specs.Below.server_model.Work.{Work, Hand, Site, with_phase, with_mutexes, with_tasks, with_partition, then_some, put_back, thread_in, sent_from, at_thread, beside_threads, look_object, used_once, note}
use Rattle.law_counts_things.specs.Below.server_model.NewWords.{NewWord, can_grow, issue_placed}
use Rattle.law_counts_things.specs.Below.server_model.Places.{Spot, in_slot, value_at, set_pointer}
use Rattle.law_counts_things.specs.Below.server_model.Drop.{home_of, give_up}
use Rattle.law_counts_things.specs.Below.server_model.Prepare.{Access, ReadTo, ReadPointer, WriteTo, LendTo, EndRef, passing, write_stars}
use Rattle.law_counts_things.specs.Below.server_model.Objects.{deliver_fetch, waits_for_cell, filled, deliver_fetched, deliver_move, chased, waits_under, arrived_at, arrived_slot, passed_spot, arrived_write, arrived_lend, arrived_end, arrived, instr_access, deliver_moved, deliver_drop}
use Rattle.law_counts_things.specs.Below.server_model.Sharing.{given, answer_lock, deliver_lock, waits_for_lock, deliver_granted, answer_back, deliver_unlock, deliver_dup, waits_for_dup, deliver_dupped, give_up_left}
use Rattle.law_counts_things.specs.Below.server_model.Joining.{answer_join, deliver_join, waits_for_join, deliver_joined, got_par, pair_over, end_answer, deliver_finished}
use Rattle.law_counts_things.specs.Below.server_model.Events.{release, deliver_message}
use Rattle.law_counts_things.specs.Below.law_counts_sums.Laws.{Gives}
use Rattle.law_counts_things.proofs.Below.law_counts_sums.Results.{then_gives, map_gives, over_gives, bind_gives, test_gives, stand_gives}
use Rattle.law_counts_things.proofs.Below.law_counts_sums.KnownPlaces.{Told, pointer_keeps}
use Rattle.law_counts_things.proofs.things.MutexLists.{given as of_given}
use Rattle.law_counts_things.proofs.things.Threads.{set_all, with_all, found_all}
use Rattle.law_types_still.proofs.things.Kept.{Wanted, GiftHas, MessageHas, Has, RestHas, sent_has, AllContents, GrantHas, lock_asks, NextHas, content_back, share_more, share_less, AllNotes, join_asks, task_let_go, EndHas, thread_ends}

module _ (w : Wanted) where
  abbrev pub WorkHas : Work → Type 0
  WorkHas x = RestHas w x.rest

  abbrev pub HandHas : Hand → Type 0
  HandHas h = RestHas w h.work.rest × GiftHas w h.thread

  abbrev pub SiteHas : Site → Type 0
  SiteHas x = RestHas w x.work.rest × AllByRecursion (GiftHas w) x.threads

  -- a message with what is wanted is sent
  says : (t : ℕ) (m : Message) (x : Work) → MessageHas w m → WorkHas x → RestHas w (sent_from x.rest t m)
  says t m x z g = sent_has w t m x.rest z g

  -- other mutexes
  with_contents : (ms : Mutexes) (x : Work) → AllContents w ms → WorkHas x → WorkHas (with_mutexes ms x)
  with_contents ms x q g = record { contents = q; notes = g.notes; waiting = g.waiting; leaving = g.leaving }

  -- other notes
  with_notes : (ts : List Task) (x : Work) → AllNotes w ts → WorkHas x → WorkHas (with_tasks ts x)
  with_notes ts x n g = record { contents = g.contents; notes = n; waiting = g.waiting; leaving = g.leaving }

  -- what is given up goes
  gives_up : (v : Owned) (x : Work) → WorkHas x → WorkHas (give_up v x)
  gives_up (owned.Box p) x g = says (server_of p.word) (message.Drop p.word p.object) x tt g
  gives_up (owned.Mutex m) x g = says m.home (message.Release (released.Mutex m)) x tt g
  gives_up (owned.Task t) x g = says (home_of t) (message.Release (released.Task t)) x tt g
  gives_up owned.Nothing x g = g
  gives_up owned.Unit x g = g
  gives_up (owned.Int m) x g = g

  -- so does what is left over
  left_over : (o : Option Owned) (x : Work) → WorkHas x → WorkHas (give_up_left o x)
  left_over None x g = g
  left_over (Some v) x g = gives_up v x g

  -- a delivery that touches no thread
  beside : (f : Work → Option Work) (x : Site) → SiteHas x → Gives WorkHas (f x.work) → Gives SiteHas (beside_threads f x)
  beside f x g a = over_gives WorkHas SiteHas (f x.work) (λ y. record x { work = y }) a (λ y u. (u, g.1))

  -- a delivery to a thread
  at : (t : ℕ) (f : Hand → Option Hand) (x : Site) → SiteHas x → ((y : ThreadState) → thread_in x.threads t ≡ Some y → GiftHas w y → Gives HandHas (f (record { work = x.work; thread = y }))) → Gives SiteHas (at_thread t f x)
  at t f x g go = by (thread_in x.threads t) refl
    where
      by : (o : Option ThreadState) → thread_in x.threads t ≡ o → Gives SiteHas (then_some (option_map (λ y. record { work = x.work; thread = y }) o) (λ h. option_map (put_back x.threads) (f h)))
      by None e = tt
      by (Some y) e =
          over_gives HandHas SiteHas (f (record { work = x.work; thread = y })) (put_back x.threads) (go y e (found_all (GiftHas w) x.threads t y g.1 e)) (λ h u. (u.0, set_all (GiftHas w) x.threads h.thread g.1 u.1))

  -- OBJECTS

  abbrev told : Told
  told p t g pc m i o ms ts c = Has w ms.there ts i o × Gives (w.gift t) g

  -- another word in a pointer makes no difference
  pointer_has : (s : Spot) (v : ℕ) (h : Hand) → HandHas h → Gives HandHas (set_pointer s v h)
  pointer_has s v h g = pointer_keeps told s v h g

  -- nor does a use of a copy
  uses_it : (v : ℕ) (b : Bool) (h : Hand) → HandHas h → Gives HandHas (used_once v b h)
  uses_it v true h g = g
  uses_it v false h g = test_gives HandHas (can_pin h.work.rest.cache v) _ (λ z. g)

  -- a copy comes
  fills : (v : ℕ) (c : Cell) (h : Hand) → HandHas h → Gives HandHas (deliver_fetched v c h)
  fills v c h g =
      test_gives HandHas (waits_for_cell h.thread.phase v) _ (λ z. over_gives HandHas HandHas (filled v c h) _
      (test_gives HandHas (can_fill h.work.rest.cache v c) _ (λ p. uses_it v (is_in v h.thread.walk) _ g)) (λ h2 u. u))

  -- the object comes for the pointer at a spot
  comes_at : (new : ℕ) (s : Spot) (h : Hand) → HandHas h → Gives HandHas (arrived_at s new h)
  comes_at new s h g = over_gives HandHas HandHas (set_pointer s new h) _ (pointer_has s new h g) (λ h2 u. u)

  -- for the one in a slot
  comes_slot : (old new i : ℕ) (h : Hand) → HandHas h → Gives HandHas (arrived_slot old new i h)
  comes_slot old new i h g = test_gives HandHas (waits_under old (slice_get h.thread.slots i)) _ (λ z. comes_at new (in_slot i) h g)

  -- for a hop of a write
  comes_write : (p : Lval) (new : ℕ) (h : Hand) → HandHas h → Gives HandHas (arrived_write p new h)
  comes_write p new h g = then_gives HandHas (passed_spot (write_stars h.thread.passed 0 h (in_slot p.slot))) _ (λ s q. comes_at new s (passing (h.thread.passed + 1) h) g)

  -- for a mutable borrow
  comes_lend : (slot d old new : ℕ) (h : Hand) → HandHas h → Gives HandHas (arrived_lend slot d old new h)
  comes_lend slot zero old new h g = tt
  comes_lend slot (suc zero) old new h g = g
  comes_lend slot (suc (suc d)) old new h g = by (waits_under old (slice_get h.thread.slots (chased d h.thread.slots slot)))
    where
      by : (b : Bool) → Gives HandHas (if b then arrived_at (in_slot (chased d h.thread.slots slot)) new h else Some (with_phase (phase.Taken new) h))
      by true = comes_at new (in_slot (chased d h.thread.slots slot)) h g
      by false = g

  -- for the end of a reference
  comes_end : (s : Spot) (v : Option Value) (old new : ℕ) (h : Hand) → HandHas h → Gives HandHas (arrived_end s v old new h)
  comes_end s (Some (value.Mut q)) old new h g = by (q.word == old)
    where
      by : (b : Bool) → Gives HandHas (if b then arrived_at s new h else arrived_write q.holder new h)
      by true = comes_at new s h g
      by false = comes_write q.holder new h g
  comes_end s _ old new h g = tt

  -- for whatever the instruction follows
  comes_for : (x : Option Access) (old new : ℕ) (h : Hand) → HandHas h → Gives HandHas (arrived x old new h)
  comes_for None old new h g = tt
  comes_for (Some (ReadTo p)) old new h g = comes_slot old new (chased (p.depth - 1) h.thread.slots p.slot) h g
  comes_for (Some (ReadPointer p)) old new h g = comes_slot old new (chased (p.depth - 1) h.thread.slots p.slot) h g
  comes_for (Some (WriteTo p)) old new h g = comes_write p new h g
  comes_for (Some (LendTo p)) old new h g = comes_lend p.slot p.depth old new h g
  comes_for (Some (EndRef s)) old new h g = comes_end s (value_at h s) old new h g

  -- an object comes
  comes : (code : List Instr) (old : ℕ) (c : Cell) (h : Hand) → HandHas h → Gives HandHas (deliver_moved code old c h)
  comes code old c h g =
      test_gives HandHas (waits_for_cell h.thread.phase old) _ (λ z. bind_gives (λ (m : NewWord). WorkHas m.work) HandHas (issue_placed (act.Take c.object old) c h.work) _
      (test_gives (λ (m : NewWord). WorkHas m.work) (can_grow h.work.rest.partition) _ (λ p. g.0)) (λ m u. comes_for (instr_access h (slice_get code h.thread.pc)) old m.word (record h { work = m.work }) (u, g.1)))

  -- a gift comes
  gives_it : (v : Owned) (o : Option Owned) (h : Hand) → w.gift h.thread.number v → HandHas h → Gives HandHas (given v o h)
  gives_it v None h z g = (g.0, z)
  gives_it v (Some u) h z g = tt

  -- MUTEXES

  -- a lock is asked for: it is granted, or its asker waits in the queue
  locks : (m : MutexNo) (s t : ℕ) (x : Work) → WorkHas x → Gives WorkHas (deliver_lock m s t x)
  locks m s t x g =
      map_gives WorkHas (ask x.rest.mutexes m s t) _ (λ p q.
      let it = of_given (λ (r : Mutexes × Asked). AllContents w r.0 × GrantHas w m r.1) (ask x.rest.mutexes m s t) p (lock_asks w x.rest.mutexes m s t g.contents) q in by p.0 p.1 it.0 it.1)
    where
      by : (ms : Mutexes) (a : Asked) → AllContents w ms → GrantHas w m a → WorkHas (answer_lock m s t a (with_mutexes ms x))
      by ms answer.Queued q z = with_contents ms x q g
      by ms (answer.Granted v) q z = says s (message.Granted m v t) (with_mutexes ms x) z (with_contents ms x q g)

  -- a content comes back: it goes on to the first in the queue
  unlocks : (m : MutexNo) (v : Owned) (x : Work) → w.content m v → WorkHas x → Gives WorkHas (deliver_unlock m v x)
  unlocks m v x has g =
      map_gives WorkHas (give_back x.rest.mutexes m v) _ (λ p q.
      let it = of_given (λ (r : Mutexes × Back). AllContents w r.0 × NextHas w m r.1) (give_back x.rest.mutexes m v) p (content_back w x.rest.mutexes m v has g.contents) q in by p.0 p.1 it.0 it.1)
    where
      by : (ms : Mutexes) (b : Back) → AllContents w ms → NextHas w m b → WorkHas (answer_back m b (with_mutexes ms x))
      by ms (back.Next s t u) q z = says s (message.Granted m u t) (with_mutexes ms x) z (with_contents ms x q g)
      by ms (back.Ended u) q z = gives_up u (with_mutexes ms x) (with_contents ms x q g)
      by ms back.Kept q z = with_contents ms x q g

  -- a share is asked for, and answered
  dups : (m : MutexNo) (s t : ℕ) (x : Work) → WorkHas x → Gives WorkHas (deliver_dup m s t x)
  dups m s t x g =
      map_gives WorkHas (more x.rest.mutexes m) _ (λ ms q. says s (message.Dupped m t) (with_mutexes ms x) tt (with_contents ms x (of_given (AllContents w) (more x.rest.mutexes m) ms (share_more w x.rest.mutexes m g.contents) q) g))

  -- THREADS

  -- a result is asked for: it is answered, or the asker is noted
  joins : (u s asker : ℕ) (x : Work) → WorkHas x → Gives WorkHas (deliver_join u s asker x)
  joins u s asker x g =
      map_gives WorkHas (tasks.ask x.rest.tasks u s asker) _ (λ p q.
      let it = of_given (λ (r : List Task × Option Owned). AllNotes w r.0 × Gives (w.result u) r.1) (tasks.ask x.rest.tasks u s asker) p (join_asks w x.rest.tasks u s asker g.notes) q in of p.0 p.1 it.0 it.1)
    where
      of : (ts : List Task) (o : Option Owned) → AllNotes w ts → Gives (w.result u) o → WorkHas (answer_join u s asker o (with_tasks ts x))
      of ts None n z = with_notes ts x n g
      of ts (Some v) n z = says s (message.Joined u v asker) (with_tasks ts x) z (with_notes ts x n g)

  -- a value of a mutex or a task is let go
  releases : (r : Released) (x : Work) → WorkHas x → Gives WorkHas (release r x)
  releases (released.Mutex m) x g =
      map_gives WorkHas (less x.rest.mutexes m) _ (λ p q. left_over p.1 (with_mutexes p.0 x) (with_contents p.0 x (of_given (λ (r : Mutexes × Option Owned). AllContents w r.0) (less x.rest.mutexes m) p (share_less w x.rest.mutexes m g.contents) q) g))
  releases (released.Task u) x g =
      map_gives WorkHas (let_go_of x.rest.tasks u) _ (λ p q. left_over p.1 (with_tasks p.0 x) (with_notes p.0 x (of_given (λ (r : List Task × Option Owned). AllNotes w r.0) (let_go_of x.rest.tasks u) p (task_let_go w x.rest.tasks u g.notes) q) g))

  -- a thread has ended: its result goes to who is noted as its asker, or waits
  finishes : (u : ℕ) (v : Owned) (x : Site) → w.result u v → SiteHas x → Gives SiteHas (deliver_finished u v x)
  finishes u v x has g =
      then_gives SiteHas (ended x.work.rest.tasks u v) _ (λ p q.
      let it = of_given (λ (r : List Task × EndedAs). AllNotes w r.0 × EndHas w u r.1) (ended x.work.rest.tasks u v) p (let r = g.0 in thread_ends w x.work.rest.tasks u v has r.notes) q in by p.0 p.1 it.0 it.1)
    where
      by : (ts : List Task) (e : EndedAs) → AllNotes w ts → EndHas w u e → Gives SiteHas (end_answer u e (record x { work = with_tasks ts x.work }))
      by ts (over.Answer s t b) n z = (says s (message.Joined u b t) (with_tasks ts x.work) z (with_notes ts x.work n g.0), g.1)
      by ts (over.Both parent) n z =
          at parent (pair_over u) (record x { work = with_tasks ts x.work }) (with_notes ts x.work n g.0, g.1) (λ y e has. map_gives HandHas (got_par u y.phase) _ (λ p q. (with_notes ts x.work n g.0, has)))
      by ts (over.LetGo b) n z = (gives_up b (with_tasks ts x.work) (with_notes ts x.work n g.0), g.1)
      by ts over.Kept n z = (with_notes ts x.work n g.0, g.1)

  -- ALL MESSAGES

  -- what comes to a thread that waits for it is what is wanted of its gift
  pub record Comes (threads : List ThreadState) : Type 0 where
    pub content : (t : ℕ) (y : ThreadState) (m : MutexNo) (v : Owned) → thread_in threads t ≡ Some y → waits_for_lock y.phase m ≡ true → w.content m v → w.gift y.number v
    pub share : (t : ℕ) (y : ThreadState) (m : MutexNo) → thread_in threads t ≡ Some y → waits_for_dup y.phase m ≡ true → w.gift y.number (owned.Mutex m)
    pub result : (t : ℕ) (y : ThreadState) (u : ℕ) (v : Owned) → thread_in threads t ≡ Some y → waits_for_join y.phase u ≡ true → w.result u v → w.gift y.number v

  -- whatever is delivered
  pub message_leaves : (code : List Instr) (m : Message) (x : Site) → Comes x.threads → MessageHas w m → SiteHas x → Gives SiteHas (deliver_message code m x)
  message_leaves code (message.Fetch v o s t) x c z g = beside (deliver_fetch v o s t) x g (map_gives WorkHas (look_object x.work.rest.partition v o) _ (λ d q. says s (message.Fetched v d t) x.work tt g.0))
  message_leaves code (message.Fetched v d t) x c z g = at t (deliver_fetched v d) x g (λ y e has. fills v d (record { work = x.work; thread = y }) (g.0, has))
  message_leaves code (message.Move v o s t) x c z g =
      beside (deliver_move v o s t) x g (map_gives WorkHas (look_object x.work.rest.partition v o) _ (λ d q.
      let r = g.0 in says s (message.Moved v d t) (with_partition (freed x.work.rest.partition v) x.work) tt (record { contents = r.contents; notes = r.notes; waiting = r.waiting; leaving = r.leaving })))
  message_leaves code (message.Moved v d t) x c z g = at t (deliver_moved code v d) x g (λ y e has. comes code v d (record { work = x.work; thread = y }) (g.0, has))
  message_leaves code (message.Drop v o) x c z g =
      beside (deliver_drop v o) x g (map_gives WorkHas (look_object x.work.rest.partition v o) _ (λ d q.
      let r = g.0 in gives_up d.value (note (act.Free o v) (with_partition (freed x.work.rest.partition v) x.work)) (record { contents = r.contents; notes = r.notes; waiting = r.waiting; leaving = r.leaving })))
  message_leaves code (message.Lock m s t) x c z g = beside (deliver_lock m s t) x g (locks m s t x.work g.0)
  message_leaves code (message.Granted m v t) x c z g =
      at t (deliver_granted m v) x g (λ y e has. test_gives HandHas (waits_for_lock y.phase m) _ (λ q. gives_it v y.gift (record { work = x.work; thread = y }) (c.content t y m v e q z) (g.0, has)))
  message_leaves code (message.Unlock m v) x c z g = beside (deliver_unlock m v) x g (unlocks m v x.work z g.0)
  message_leaves code (message.Dup m s t) x c z g = beside (deliver_dup m s t) x g (dups m s t x.work g.0)
  message_leaves code (message.Dupped m t) x c z g =
      at t (deliver_dupped m) x g (λ y e has. test_gives HandHas (waits_for_dup y.phase m) _ (λ q. gives_it (owned.Mutex m) y.gift (record { work = x.work; thread = y }) (c.share t y m e q) (g.0, has)))
  message_leaves code (message.Release r) x c z g = beside (release r) x g (releases r x.work g.0)
  message_leaves code (message.Start t) x c z g = stand_gives SiteHas (thread_in x.threads t.number) t x (g.0, with_all (GiftHas w) x.threads t g.1 z)
  message_leaves code (message.Join u s t) x c z g = beside (deliver_join u s t) x g (joins u s t x.work g.0)
  message_leaves code (message.Joined u v t) x c z g =
      at t (deliver_joined u v) x g (λ y e has. test_gives HandHas (waits_for_join y.phase u) _ (λ q. gives_it v y.gift (record { work = x.work; thread = y }) (c.result t y u v e q z) (g.0, has)))
  message_leaves code (message.Finished u v) x c z g = finishes u v x z g
  message_leaves code (message.Migrate t) x c z g = stand_gives SiteHas (thread_in x.threads t.number) t x (g.0, with_all (GiftHas w) x.threads t g.1 z)
