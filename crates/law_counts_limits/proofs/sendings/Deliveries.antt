-- The delivery of a message sends what its acts send.
use Rattle.std.proofs.Common.{◌≡◌, refl, ℕ, zero, suc, ◌+◌, ◌-◌, ◌==◌, Bool, true, false, if◌then◌else◌, List, Option, Some, None}
use Rattle.std.specs.Prelude.{slice_get, option_map}
use Rattle.law_counts_things.specs.Below.fr_base.Lists.{is_in}
use Rattle.law_counts_things.specs.Below.fr_base.declared.name.MutexNo.{MutexNo}
use Rattle.law_counts_things.specs.Below.fr_base.declared.name.ObjNo.{ObjNo}
use Rattle.law_counts_things.specs.Below.fr_base.declared.place.Lval.{Lval}
use Rattle.law_counts_things.specs.Below.fr_base.declared.instruction.Instr.{Instr}
use Rattle.law_counts_things.specs.Below.fr_base.declared.release.Released.{Released}
use Rattle.law_counts_things.specs.Below.fr_base.declared.release.Released.TheVariants as released
use Rattle.law_counts_things.specs.Below.heap_partition.declared.value.Cell.{Cell}
use Rattle.law_counts_things.specs.Below.heap_partition.declared.value.Owned.{Owned}
use Rattle.law_counts_things.specs.Below.heap_partition.declared.value.Owned.TheVariants as owned
use Rattle.law_counts_things.specs.Below.owner_box.Partition.{freed}
use Rattle.law_counts_things.specs.Below.read_cache.Cache.{can_fill, fill}
use Rattle.law_counts_things.specs.Below.mutex_home.Mutexes.{Mutexes, ask, give_back, more, less}
use Rattle.law_counts_things.specs.Below.mutex_home.declared.answers.Asked.{Asked}
use Rattle.law_counts_things.specs.Below.mutex_home.declared.answers.Asked.TheVariants as asked
use Rattle.law_counts_things.specs.Below.mutex_home.declared.answers.Back.{Back}
use Rattle.law_counts_things.specs.Below.mutex_home.declared.answers.Back.TheVariants as back
use Rattle.law_counts_things.specs.Below.join_home.Tasks.{Task, ended, let_go_of}
use Rattle.law_counts_things.specs.Below.join_home.Tasks as tasks
use Rattle.law_counts_things.specs.Below.join_home.declared.answers.EndedAs.{EndedAs}
use Rattle.law_counts_things.specs.Below.join_home.declared.answers.EndedAs.TheVariants as over
use Rattle.law_counts_things.specs.Below.thread_state.View.{ThreadState}
use Rattle.law_counts_things.specs.Below.thread_state.declared.phase.Phase.TheVariants as phase
use Rattle.law_counts_things.specs.Below.thread_state.declared.value.Value.{Value}
use Rattle.law_counts_things.specs.Below.thread_state.declared.value.Value.TheVariants as value
use Rattle.law_counts_things.specs.Below.server_msgs.declared.message.Message.{Message}
use Rattle.law_counts_things.specs.Below.server_msgs.declared.message.Message.TheVariants as message
use Rattle.law_counts_things.specs.Below.journal.declared.act.Act.TheVariants as act
use Rattle.law_counts_things.specs.Below.server_model.Servers.{Rest}
use Rattle.law_counts_things.specs.Below.server_model.Work.{Work, Hand, Site, put_back, then_some, thread_in, at_thread, beside_threads, look_object, note, with_partition, with_cache, with_phase, with_mutexes, with_tasks, working}
use Rattle.law_counts_things.specs.Below.server_model.NewWords.{NewWord, issue_placed}
use Rattle.law_counts_things.specs.Below.server_model.Places.{Spot, in_slot, value_at, set_pointer}
use Rattle.law_counts_things.specs.Below.server_model.Prepare.{Access, ReadTo, ReadPointer, WriteTo, LendTo, EndRef, passing, write_stars}
use Rattle.law_counts_things.specs.Below.server_model.Objects.{deliver_fetch, waits_for_cell, filled, deliver_fetched, deliver_move, chased, waits_under, arrived_at, arrived_slot, passed_spot, arrived_write, arrived_lend, arrived_end, arrived, instr_access, deliver_moved, deliver_drop}
use Rattle.law_counts_things.specs.Below.server_model.Sharing.{given, answer_lock, deliver_lock, waits_for_lock, deliver_granted, answer_back, deliver_unlock, deliver_dup, waits_for_dup, deliver_dupped, give_up_left}
use Rattle.law_counts_things.specs.Below.server_model.Joining.{answer_join, deliver_join, waits_for_join, deliver_joined, got_par, pair_over, end_answer, deliver_finished}
use Rattle.law_counts_things.specs.Below.server_model.Events.{release, deliver_message}
use Rattle.law_counts_things.specs.Below.law_counts_sums.Laws.{Gives}
use Rattle.law_counts_things.proofs.Below.law_counts_sums.Results.{then_gives, map_gives, over_gives, bind_gives, test_gives, stand_gives}
use Rattle.law_counts_things.specs.Below.journal.declared.act.Act.{Act}
use Rattle.law_counts_things.specs.Below.coloured_heap.Sends.{sends}
use Rattle.law_counts_limits.proofs.sendings.Sent.{By, evicts, sends_act, notes}
use Rattle.law_counts_limits.proofs.sendings.Prepares.{IsHome, Good, pointer_puts, word_used}
use Rattle.law_counts_limits.proofs.sendings.Steps.{placed, gives_up}

module _ (r : Rest) where
  abbrev Sent : Work → Type 0
  Sent = By r

  abbrev SentHand : Hand → Type 0
  SentHand = Good r

  abbrev pub SentSite : Site → Type 0
  SentSite x = By r x.work

  noted : (a : Act) (w : Work) → sends a ≡ None → evicts a ≡ 0 → Sent w → Sent (note a w)
  noted a w e z g = notes r w.rest.number w.rest.inbox w.rest.outbox w.acts a e z g

  beside : (f : Work → Option Work) (x : Site) → Gives Sent (f x.work) → Gives SentSite (beside_threads f x)
  beside f x g = over_gives Sent SentSite (f x.work) (λ w. record x { work = w }) g (λ w a. a)

  -- a thread that is here, whose home is that of its number
  at : (t : ℕ) (f : Hand → Option Hand) (x : Site) → ((y : ThreadState) → thread_in x.threads t ≡ Some y → Gives SentHand (f (record { work = x.work; thread = y }))) → Gives SentSite (at_thread t f x)
  at t f x go = by (thread_in x.threads t) refl
    where
      by : (o : Option ThreadState) → thread_in x.threads t ≡ o → Gives SentSite (then_some (option_map (λ y. record { work = x.work; thread = y }) o) (λ h. option_map (put_back x.threads) (f h)))
      by None e = tt
      by (Some y) e = over_gives SentHand SentSite (f (record { work = x.work; thread = y })) (put_back x.threads) (go y e) (λ h a. a.0)

  -- OBJECTS

  fetches : (v : ℕ) (b : ObjNo) (s t : ℕ) (w : Work) → Sent w → Gives Sent (deliver_fetch v b s t w)
  fetches v b s t w a = map_gives Sent (look_object w.rest.partition v b) _ (λ c q. sends_act r w.rest w.acts (act.Serve b v s) s (message.Fetched v c t) refl a)

  moves : (v : ℕ) (b : ObjNo) (s t : ℕ) (w : Work) → Sent w → Gives Sent (deliver_move v b s t w)
  moves v b s t w a = map_gives Sent (look_object w.rest.partition v b) _ (λ c q. sends_act r (record w.rest { partition = freed w.rest.partition v }) w.acts (act.Give b v s) s (message.Moved v c t) refl a)

  drops : (v : ℕ) (b : ObjNo) (w : Work) → Sent w → Gives Sent (deliver_drop v b w)
  drops v b w a = map_gives Sent (look_object w.rest.partition v b) _ (λ c q. gives_up r c.value (note (act.Free b v) (with_partition (freed w.rest.partition v) w)) (noted (act.Free b v) (with_partition (freed w.rest.partition v) w) refl refl a))

  fills : (v : ℕ) (c : Cell) (h : Hand) → SentHand h → Gives SentHand (deliver_fetched v c h)
  fills v c h a =
      test_gives SentHand (waits_for_cell h.thread.phase v) _ (λ on. over_gives SentHand SentHand (filled v c h) _
      (test_gives SentHand (can_fill h.work.rest.cache v c) _ (λ p. word_used r v (is_in v h.thread.walk) (working (with_cache (fill h.work.rest.cache v c)) h) a)) (λ h2 b. (noted (act.Fill c.object v) h2.work refl refl b.0, b.1)))

  comes_at : (new : ℕ) (s : Spot) (h : Hand) → SentHand h → Gives SentHand (arrived_at s new h)
  comes_at new s h a = over_gives SentHand SentHand (set_pointer s new h) _ (pointer_puts r s new h a) (λ h2 b. b)

  comes_slot : (old new i : ℕ) (h : Hand) → SentHand h → Gives SentHand (arrived_slot old new i h)
  comes_slot old new i h a = test_gives SentHand (waits_under old (slice_get h.thread.slots i)) _ (λ on. comes_at new (in_slot i) h a)

  comes_write : (w : Lval) (new : ℕ) (h : Hand) → SentHand h → Gives SentHand (arrived_write w new h)
  comes_write w new h a = then_gives SentHand (passed_spot (write_stars h.thread.passed 0 h (in_slot w.slot))) _ (λ s q. comes_at new s (passing (h.thread.passed + 1) h) a)

  comes_lend : (slot d old new : ℕ) (h : Hand) → SentHand h → Gives SentHand (arrived_lend slot d old new h)
  comes_lend slot zero old new h a = tt
  comes_lend slot (suc zero) old new h a = a
  comes_lend slot (suc (suc d)) old new h a = by (waits_under old (slice_get h.thread.slots (chased d h.thread.slots slot)))
    where
      by : (b : Bool) → Gives SentHand (if b then arrived_at (in_slot (chased d h.thread.slots slot)) new h else Some (with_phase (phase.Taken new) h))
      by true = comes_at new (in_slot (chased d h.thread.slots slot)) h a
      by false = a

  comes_end : (s : Spot) (v : Option Value) (old new : ℕ) (h : Hand) → SentHand h → Gives SentHand (arrived_end s v old new h)
  comes_end s (Some (value.Mut q)) old new h a = by (q.word == old)
    where
      by : (b : Bool) → Gives SentHand (if b then arrived_at s new h else arrived_write q.holder new h)
      by true = comes_at new s h a
      by false = comes_write q.holder new h a
  comes_end s _ old new h a = tt

  comes_for : (x : Option Access) (old new : ℕ) (h : Hand) → SentHand h → Gives SentHand (arrived x old new h)
  comes_for None old new h a = tt
  comes_for (Some (ReadTo w)) old new h a = comes_slot old new (chased (w.depth - 1) h.thread.slots w.slot) h a
  comes_for (Some (ReadPointer w)) old new h a = comes_slot old new (chased (w.depth - 1) h.thread.slots w.slot) h a
  comes_for (Some (WriteTo w)) old new h a = comes_write w new h a
  comes_for (Some (LendTo w)) old new h a = comes_lend w.slot w.depth old new h a
  comes_for (Some (EndRef s)) old new h a = comes_end s (value_at h s) old new h a

  comes : (code : List Instr) (old : ℕ) (c : Cell) (h : Hand) → SentHand h → Gives SentHand (deliver_moved code old c h)
  comes code old c h a =
      test_gives SentHand (waits_for_cell h.thread.phase old) _ (λ on. bind_gives (λ (n : NewWord). Sent n.work) SentHand (issue_placed (act.Take c.object old) c h.work) _
      (placed r (act.Take c.object old) (λ w. refl) (λ w. refl) c h.work a.0) (λ n b. comes_for (instr_access h (slice_get code h.thread.pc)) old n.word (record h { work = n.work }) (b, a.1)))

  -- MUTEXES

  gives_it : (v : Owned) (g : Option Owned) (h : Hand) → SentHand h → Gives SentHand (given v g h)
  gives_it v None h a = a
  gives_it v (Some u) h a = tt

  left_over : (o : Option Owned) (w : Work) → Sent w → Sent (give_up_left o w)
  left_over None w a = a
  left_over (Some v) w a = gives_up r v w a

  locks : (m : MutexNo) (s t : ℕ) (w : Work) → Sent w → Gives Sent (deliver_lock m s t w)
  locks m s t w a = map_gives Sent (ask w.rest.mutexes m s t) _ (λ p q. by p.0 p.1)
    where
      by : (ms : Mutexes) (x : Asked) → Sent (answer_lock m s t x (with_mutexes ms w))
      by ms asked.Queued = a
      by ms (asked.Granted v) = sends_act r (record w.rest { mutexes = ms }) w.acts (act.Grant m t s) s (message.Granted m v t) refl a

  unlocks : (m : MutexNo) (v : Owned) (w : Work) → Sent w → Gives Sent (deliver_unlock m v w)
  unlocks m v w a = map_gives Sent (give_back w.rest.mutexes m v) _ (λ p q. by p.0 p.1)
    where
      by : (ms : Mutexes) (b : Back) → Sent (answer_back m b (with_mutexes ms w))
      by ms (back.Next s t u) = sends_act r (record w.rest { mutexes = ms }) w.acts (act.Grant m t s) s (message.Granted m u t) refl a
      by ms (back.Ended u) = gives_up r u (with_mutexes ms w) a
      by ms back.Kept = a

  dups : (m : MutexNo) (s t : ℕ) (w : Work) → Sent w → Gives Sent (deliver_dup m s t w)
  dups m s t w a = map_gives Sent (more w.rest.mutexes m) _ (λ ms q. sends_act r (record w.rest { mutexes = ms }) w.acts (act.Dupped m t s) s (message.Dupped m t) refl a)

  -- THREADS

  -- the home of each thread that is here is that of its number
  abbrev pub Homes : Site → Type 0
  Homes x = (t : ℕ) (y : ThreadState) → thread_in x.threads t ≡ Some y → IsHome y

  joins : (u s by_thread : ℕ) (w : Work) → Sent w → Gives Sent (deliver_join u s by_thread w)
  joins u s by_thread w a = map_gives Sent (tasks.ask w.rest.tasks u s by_thread) _ (λ p q. of p.0 p.1)
    where
      of : (ts : List Task) (x : Option Owned) → Sent (answer_join u s by_thread x (with_tasks ts w))
      of ts None = a
      of ts (Some v) = sends_act r (record w.rest { tasks = ts }) w.acts (act.Answer u by_thread s) s (message.Joined u v by_thread) refl a

  releases : (x : Released) (w : Work) → Sent w → Gives Sent (release x w)
  releases (released.Mutex m) w a = map_gives Sent (less w.rest.mutexes m) _ (λ p q. left_over p.1 (with_mutexes p.0 w) a)
  releases (released.Task u) w a = map_gives Sent (let_go_of w.rest.tasks u) _ (λ p q. left_over p.1 (with_tasks p.0 w) a)

  goes_on : (u : ℕ) (h : Hand) → SentHand h → Gives SentHand (pair_over u h)
  goes_on u h a = map_gives SentHand (got_par u h.thread.phase) _ (λ p q. a)

  finishes : (u : ℕ) (v : Owned) (x : Site) → Homes x → Sent x.work → Gives SentSite (deliver_finished u v x)
  finishes u v x homes a = then_gives SentSite (ended x.work.rest.tasks u v) _ (λ p q. by p.0 p.1)
    where
      by : (ts : List Task) (e : EndedAs) → Gives SentSite (end_answer u e (record x { work = with_tasks ts x.work }))
      by ts (over.Answer s t b) = sends_act r (record x.work.rest { tasks = ts }) x.work.acts (act.Answer u t s) s (message.Joined u b t) refl a
      by ts (over.Both parent) = at parent (pair_over u) (record x { work = with_tasks ts x.work }) (λ y e. goes_on u (record { work = with_tasks ts x.work; thread = y }) (a, homes parent y e))
      by ts (over.LetGo b) = gives_up r b (with_tasks ts x.work) a
      by ts over.Kept = a

  -- ALL MESSAGES

  pub message_sends : (code : List Instr) (m : Message) (x : Site) → Homes x → Sent x.work → Gives SentSite (deliver_message code m x)
  message_sends code (message.Fetch w o s t) x homes a = beside (deliver_fetch w o s t) x (fetches w o s t x.work a)
  message_sends code (message.Fetched w c t) x homes a = at t (deliver_fetched w c) x (λ y e. fills w c (record { work = x.work; thread = y }) (a, homes t y e))
  message_sends code (message.Move w o s t) x homes a = beside (deliver_move w o s t) x (moves w o s t x.work a)
  message_sends code (message.Moved w c t) x homes a = at t (deliver_moved code w c) x (λ y e. comes code w c (record { work = x.work; thread = y }) (a, homes t y e))
  message_sends code (message.Drop w o) x homes a = beside (deliver_drop w o) x (drops w o x.work a)
  message_sends code (message.Lock m s t) x homes a = beside (deliver_lock m s t) x (locks m s t x.work a)
  message_sends code (message.Granted m v t) x homes a = at t (deliver_granted m v) x (λ y e. test_gives SentHand (waits_for_lock y.phase m) _ (λ on. gives_it v y.gift (record { work = x.work; thread = y }) (a, homes t y e)))
  message_sends code (message.Unlock m v) x homes a = beside (deliver_unlock m v) x (unlocks m v x.work a)
  message_sends code (message.Dup m s t) x homes a = beside (deliver_dup m s t) x (dups m s t x.work a)
  message_sends code (message.Dupped m t) x homes a = at t (deliver_dupped m) x (λ y e. test_gives SentHand (waits_for_dup y.phase m) _ (λ on. gives_it (owned.Mutex m) y.gift (record { work = x.work; thread = y }) (a, homes t y e)))
  message_sends code (message.Release m) x homes a = beside (release m) x (releases m x.work a)
  message_sends code (message.Start t) x homes a = stand_gives SentSite (thread_in x.threads t.number) t x a
  message_sends code (message.Join u s t) x homes a = beside (deliver_join u s t) x (joins u s t x.work a)
  message_sends code (message.Joined u v t) x homes a = at t (deliver_joined u v) x (λ y e. test_gives SentHand (waits_for_join y.phase u) _ (λ on. gives_it v y.gift (record { work = x.work; thread = y }) (a, homes t y e)))
  message_sends code (message.Finished u v) x homes a = finishes u v x homes a
  message_sends code (message.Migrate t) x homes a = stand_gives SentSite (thread_in x.threads t.number) t x a
