-- The messages that ask for something stay until they are delivered: the delivery of another one leaves them, and a request is answered.
use Rattle.std.proofs.Common.{◌≡◌, ℕ, zero, suc, ◌+◌, ◌-◌, ◌≤◌, ◌==◌, Bool, true, false, if◌then◌else◌, List, [], ◌∷◌, ◌++◌, length, Option, Some, None, refl, ap, ◌∙◌, arith}
use Rattle.std.specs.Prelude.{slice_get, option_map, remove}
use Rattle.law_walks_others.specs.Below.fr_base.Lists.{is_in}
use Rattle.law_walks_others.specs.Below.fr_base.declared.name.MutexNo.{MutexNo}
use Rattle.law_walks_others.specs.Below.fr_base.declared.name.ObjNo.{ObjNo}
use Rattle.law_walks_others.specs.Below.fr_base.declared.place.Lval.{Lval}
use Rattle.law_walks_others.specs.Below.fr_base.declared.instruction.Instr.{Instr}
use Rattle.law_walks_others.specs.Below.fr_base.declared.release.Released.{Released}
use Rattle.law_walks_others.specs.Below.fr_base.declared.release.Released.TheVariants as released
use Rattle.law_walks_others.specs.Below.heap_partition.declared.value.Cell.{Cell}
use Rattle.law_walks_others.specs.Below.heap_partition.declared.value.Owned.{Owned}
use Rattle.law_walks_others.specs.Below.heap_partition.declared.value.Owned.TheVariants as owned
use Rattle.law_walks_others.specs.Below.owner_box.Partition.{freed}
use Rattle.law_walks_others.specs.Below.read_cache.Cache.{can_pin, can_fill}
use Rattle.law_walks_others.specs.Below.mutex_home.Mutexes.{Mutexes, ask, give_back, more, less}
use Rattle.law_walks_others.specs.Below.mutex_home.declared.answers.Asked.{Asked}
use Rattle.law_walks_others.specs.Below.mutex_home.declared.answers.Asked.TheVariants as asked
use Rattle.law_walks_others.specs.Below.mutex_home.declared.answers.Back.{Back}
use Rattle.law_walks_others.specs.Below.mutex_home.declared.answers.Back.TheVariants as back
use Rattle.law_walks_others.specs.Below.join_home.Tasks.{Task, ended, let_go_of}
use Rattle.law_walks_others.specs.Below.join_home.Tasks as tasks
use Rattle.law_walks_others.specs.Below.join_home.declared.answers.EndedAs.{EndedAs}
use Rattle.law_walks_others.specs.Below.join_home.declared.answers.EndedAs.TheVariants as over
use Rattle.law_walks_others.specs.Below.thread_state.View.{ThreadState}
use Rattle.law_walks_others.specs.Below.thread_state.declared.phase.Phase.TheVariants as phase
use Rattle.law_walks_others.specs.Below.thread_state.declared.value.Value.{Value}
use Rattle.law_walks_others.specs.Below.thread_state.declared.value.Value.TheVariants as value
use Rattle.law_walks_others.specs.Below.server_msgs.declared.message.Message.{Message}
use Rattle.law_walks_others.specs.Below.server_msgs.declared.message.Message.TheVariants as message
use Rattle.law_walks_others.specs.Below.journal.declared.act.Act.TheVariants as act
use Rattle.law_walks_others.specs.Below.server_model.Servers.{Sent, Rest}
use Rattle.law_walks_others.specs.Below.server_model.Work.{Work, Hand, Site, sent_from, leads_here, working, with_phase, with_mutexes, with_tasks, with_partition, then_some, put_back, thread_in, at_thread, beside_threads, look_object, used_once, note}
use Rattle.law_walks_others.specs.Below.server_model.NewWords.{NewWord, can_grow, issue_placed}
use Rattle.law_walks_others.specs.Below.server_model.Places.{Spot, in_slot, on_top, in_cell, in_copy, nowhere, note_write, value_at, put_at, with_word, set_pointer}
use Rattle.law_walks_others.specs.Below.server_model.Drop.{give_up}
use Rattle.law_walks_others.specs.Below.server_model.Prepare.{Access, ReadTo, ReadPointer, WriteTo, LendTo, EndRef, passing, write_stars}
use Rattle.law_walks_others.specs.Below.server_model.Objects.{deliver_fetch, waits_for_cell, filled, deliver_fetched, deliver_move, chased, waits_under, arrived_at, arrived_slot, passed_spot, arrived_write, arrived_lend, arrived_end, arrived, instr_access, deliver_moved, deliver_drop}
use Rattle.law_walks_others.specs.Below.server_model.Sharing.{given, answer_lock, deliver_lock, waits_for_lock, deliver_granted, answer_back, deliver_unlock, deliver_dup, waits_for_dup, deliver_dupped, give_up_left}
use Rattle.law_walks_others.specs.Below.server_model.Joining.{answer_join, deliver_join, waits_for_join, deliver_joined, got_par, pair_over, end_answer, deliver_finished}
use Rattle.law_walks_others.specs.Below.server_model.Events.{release, deliver_message}
use Rattle.law_walks_others.specs.Below.coherent_memory.Names.{tot}
use Rattle.law_walks_others.specs.Below.coherent_memory.Things.{Thing, things_at, message_things, waiting_things, leaving_things}
use Rattle.law_walks_others.proofs.Below.coherent_memory.Names.{same_number}
use Rattle.law_walks_others.specs.Below.law_counts_sums.Laws.{Gives}
use Rattle.law_walks_others.proofs.Below.law_counts_sums.Results.{then_gives, map_gives, over_gives, bind_gives, test_gives, stand_gives}
use Rattle.law_walks_others.proofs.Below.law_counts_sums.Trades.{tot-push}

module _ (n : ℕ) (f : Thing → ℕ) where
  -- what the messages that wait and that leave weigh
  abbrev pub mail : List Message → List Sent → ℕ
  mail inbox outbox = tot f (things_at (waiting_things n) 0 inbox) + tot f (things_at leaving_things 0 outbox)

  -- at server n they weigh that much at least
  abbrev pub Has : ℕ → Rest → Type 0
  Has l r = (r.number ≡ n) × (l ≤ mail r.inbox r.outbox)

  -- one message more
  pub sent_more : (l t : ℕ) (m : Message) (r : Rest) → Has l r → Has (l + tot f (message_things t m)) (sent_from r t m)
  sent_more l t m r a = by (t == r.number) refl
    where
      by : (b : Bool) → (t == r.number) ≡ b → Has (l + tot f (message_things t m)) (if b then record r { inbox = r.inbox ++ m ∷ [] } else record r { outbox = r.outbox ++ record { target = t; message = m } ∷ [] })
      by true e =
          let same : tot f (message_things t m) ≡ tot f (message_things n m) = ap (λ u. tot f (message_things u m)) (same_number t r.number e ∙ a.0) in
          (a.0, omega (arith, a.1, same, tot-push (waiting_things n) f r.inbox 0 m))
      by false e = (a.0, omega (arith, a.1, tot-push leaving_things f r.outbox 0 (record { target = t; message = m })))

  module _ (l : ℕ) where
    abbrev R : Rest → Type 0
    R r = Has l r

    sends : (t : ℕ) (m : Message) (r : Rest) → R r → R (sent_from r t m)
    sends t m r a = let b = sent_more l t m r a in (b.0, omega (arith, b.1))

    abbrev OfWork : Work → Type 0
    OfWork w = R w.rest

    abbrev OfHand : Hand → Type 0
    OfHand h = R h.work.rest

    abbrev OfSite : Site → Type 0
    OfSite x = R x.work.rest

    gives_up : (v : Owned) (w : Work) → OfWork w → OfWork (give_up v w)
    gives_up (owned.Box p) w g = sends _ _ w.rest g
    gives_up (owned.Mutex m) w g = sends _ _ w.rest g
    gives_up (owned.Task t) w g = sends _ _ w.rest g
    gives_up owned.Nothing w g = g
    gives_up owned.Unit w g = g
    gives_up (owned.Int m) w g = g

    puts : (s : Spot) (v : Value) (h : Hand) → OfHand h → Gives OfHand (put_at s v h)
    puts (in_slot j) v h a = test_gives OfHand (Rattle.std.specs.Prelude.nat_lt j (length h.thread.slots)) _ (λ z. a)
    puts on_top v h a = a
    puts (in_cell w through) (value.Own v) h a = test_gives OfHand (leads_here h.work.rest.partition w) _ (λ z. noted through a)
      where
        noted : (o : Option ℕ) → OfHand h → OfHand (note_write o (working (with_partition (Rattle.law_walks_others.specs.Below.owner_box.Partition.stored h.work.rest.partition w v)) h))
        noted None b = b
        noted (Some j) b = b
    puts (in_cell w through) value.Gone h a = tt
    puts (in_cell w through) (value.SharedSlot j) h a = tt
    puts (in_cell w through) (value.MutSlot j) h a = tt
    puts (in_cell w through) (value.Shared q) h a = tt
    puts (in_cell w through) (value.Mut q) h a = tt
    puts (in_cell w through) (value.Held m) h a = tt
    puts (in_copy w) v h a = tt
    puts nowhere v h a = tt

    pointer : (s : Spot) (w : ℕ) (h : Hand) → OfHand h → Gives OfHand (set_pointer s w h)
    pointer s w h a = then_gives OfHand (value_at h s) _ (λ v q. then_gives OfHand (with_word w v) _ (λ new e. puts s new h a))

    beside : (g : Work → Option Work) (x : Site) → Gives OfWork (g x.work) → Gives OfSite (beside_threads g x)
    beside g x a = over_gives OfWork OfSite (g x.work) (λ w. record x { work = w }) a (λ w b. b)

    at : (t : ℕ) (g : Hand → Option Hand) (x : Site) → ((y : ThreadState) → Gives OfHand (g (record { work = x.work; thread = y }))) → Gives OfSite (at_thread t g x)
    at t g x go = by (thread_in x.threads t)
      where
        by : (o : Option ThreadState) → Gives OfSite (then_some (option_map (λ y. record { work = x.work; thread = y }) o) (λ h. option_map (put_back x.threads) (g h)))
        by None = tt
        by (Some y) = over_gives OfHand OfSite (g (record { work = x.work; thread = y })) (put_back x.threads) (go y) (λ h a. a)

    drops : (v : ℕ) (b : ObjNo) (w : Work) → OfWork w → Gives OfWork (deliver_drop v b w)
    drops v b w a = map_gives OfWork (look_object w.rest.partition v b) _ (λ c q. gives_up c.value (note (act.Free b v) (with_partition (freed w.rest.partition v) w)) a)

    uses_it : (v : ℕ) (b : Bool) (h : Hand) → OfHand h → Gives OfHand (used_once v b h)
    uses_it v true h a = a
    uses_it v false h a = test_gives OfHand (can_pin h.work.rest.cache v) _ (λ z. a)

    fills_it : (v : ℕ) (c : Cell) (h : Hand) → OfHand h → Gives OfHand (deliver_fetched v c h)
    fills_it v c h a =
        test_gives OfHand (waits_for_cell h.thread.phase v) _ (λ z. over_gives OfHand OfHand (filled v c h) _
        (test_gives OfHand (can_fill h.work.rest.cache v c) _ (λ p. uses_it v (is_in v h.thread.walk) _ a)) (λ h2 b. b))

    comes_at : (new : ℕ) (s : Spot) (h : Hand) → OfHand h → Gives OfHand (arrived_at s new h)
    comes_at new s h a = over_gives OfHand OfHand (set_pointer s new h) _ (pointer s new h a) (λ h2 b. b)

    comes_slot : (old new i : ℕ) (h : Hand) → OfHand h → Gives OfHand (arrived_slot old new i h)
    comes_slot old new i h a = test_gives OfHand (waits_under old (slice_get h.thread.slots i)) _ (λ z. comes_at new (in_slot i) h a)

    comes_write : (w : Lval) (new : ℕ) (h : Hand) → OfHand h → Gives OfHand (arrived_write w new h)
    comes_write w new h a = then_gives OfHand (passed_spot (write_stars h.thread.passed 0 h (in_slot w.slot))) _ (λ s q. comes_at new s (passing (h.thread.passed + 1) h) a)

    comes_lend : (slot d old new : ℕ) (h : Hand) → OfHand h → Gives OfHand (arrived_lend slot d old new h)
    comes_lend slot zero old new h a = tt
    comes_lend slot (suc zero) old new h a = a
    comes_lend slot (suc (suc d)) old new h a = by (waits_under old (slice_get h.thread.slots (chased d h.thread.slots slot)))
      where
        by : (b : Bool) → Gives OfHand (if b then arrived_at (in_slot (chased d h.thread.slots slot)) new h else Some (with_phase (phase.Taken new) h))
        by true = comes_at new (in_slot (chased d h.thread.slots slot)) h a
        by false = a

    comes_end : (s : Spot) (v : Option Value) (old new : ℕ) (h : Hand) → OfHand h → Gives OfHand (arrived_end s v old new h)
    comes_end s (Some (value.Mut q)) old new h a = by (q.word == old)
      where
        by : (b : Bool) → Gives OfHand (if b then arrived_at s new h else arrived_write q.holder new h)
        by true = comes_at new s h a
        by false = comes_write q.holder new h a
    comes_end s _ old new h a = tt

    comes_for : (x : Option Access) (old new : ℕ) (h : Hand) → OfHand h → Gives OfHand (arrived x old new h)
    comes_for None old new h a = tt
    comes_for (Some (ReadTo w)) old new h a = comes_slot old new (chased (w.depth - 1) h.thread.slots w.slot) h a
    comes_for (Some (ReadPointer w)) old new h a = comes_slot old new (chased (w.depth - 1) h.thread.slots w.slot) h a
    comes_for (Some (WriteTo w)) old new h a = comes_write w new h a
    comes_for (Some (LendTo w)) old new h a = comes_lend w.slot w.depth old new h a
    comes_for (Some (EndRef s)) old new h a = comes_end s (value_at h s) old new h a

    comes : (code : List Instr) (old : ℕ) (c : Cell) (h : Hand) → OfHand h → Gives OfHand (deliver_moved code old c h)
    comes code old c h a =
        test_gives OfHand (waits_for_cell h.thread.phase old) _ (λ z. bind_gives (λ (m : NewWord). OfWork m.work) OfHand (issue_placed (act.Take c.object old) c h.work) _
        (test_gives (λ (m : NewWord). OfWork m.work) (can_grow h.work.rest.partition) _ (λ p. a)) (λ m b. comes_for (instr_access h (slice_get code h.thread.pc)) old m.word (record h { work = m.work }) b))

    gives_it : (v : Owned) (g : Option Owned) (h : Hand) → OfHand h → Gives OfHand (given v g h)
    gives_it v None h a = a
    gives_it v (Some u) h a = tt

    left_over : (o : Option Owned) (w : Work) → OfWork w → OfWork (give_up_left o w)
    left_over None w a = a
    left_over (Some v) w a = gives_up v w a

    locks : (m : MutexNo) (s t : ℕ) (w : Work) → OfWork w → Gives OfWork (deliver_lock m s t w)
    locks m s t w a = map_gives OfWork (ask w.rest.mutexes m s t) _ (λ p q. by p.0 p.1)
      where
        by : (ms : Mutexes) (x : Asked) → OfWork (answer_lock m s t x (with_mutexes ms w))
        by ms asked.Queued = a
        by ms (asked.Granted v) = sends _ _ (record w.rest { mutexes = ms }) a

    unlocks : (m : MutexNo) (v : Owned) (w : Work) → OfWork w → Gives OfWork (deliver_unlock m v w)
    unlocks m v w a = map_gives OfWork (give_back w.rest.mutexes m v) _ (λ p q. by p.0 p.1)
      where
        by : (ms : Mutexes) (x : Back) → OfWork (answer_back m x (with_mutexes ms w))
        by ms (back.Next s t u) = sends _ _ (record w.rest { mutexes = ms }) a
        by ms (back.Ended u) = gives_up u (with_mutexes ms w) a
        by ms back.Kept = a

    dups : (m : MutexNo) (s t : ℕ) (w : Work) → OfWork w → Gives OfWork (deliver_dup m s t w)
    dups m s t w a = map_gives OfWork (more w.rest.mutexes m) _ (λ ms q. sends _ _ (record w.rest { mutexes = ms }) a)

    joins : (u s by_thread : ℕ) (w : Work) → OfWork w → Gives OfWork (deliver_join u s by_thread w)
    joins u s by_thread w a = map_gives OfWork (tasks.ask w.rest.tasks u s by_thread) _ (λ p q. of p.0 p.1)
      where
        of : (ts : List Task) (x : Option Owned) → OfWork (answer_join u s by_thread x (with_tasks ts w))
        of ts None = a
        of ts (Some v) = sends _ _ (record w.rest { tasks = ts }) a

    releases : (x : Released) (w : Work) → OfWork w → Gives OfWork (release x w)
    releases (released.Mutex m) w a = map_gives OfWork (less w.rest.mutexes m) _ (λ p q. left_over p.1 (with_mutexes p.0 w) a)
    releases (released.Task u) w a = map_gives OfWork (let_go_of w.rest.tasks u) _ (λ p q. left_over p.1 (with_tasks p.0 w) a)

    goes_on : (u : ℕ) (h : Hand) → OfHand h → Gives OfHand (pair_over u h)
    goes_on u h a = map_gives OfHand (got_par u h.thread.phase) _ (λ p q. a)

    finishes : (u : ℕ) (v : Owned) (x : Site) → OfSite x → Gives OfSite (deliver_finished u v x)
    finishes u v x a = then_gives OfSite (ended x.work.rest.tasks u v) _ (λ p q. by p.0 p.1)
      where
        by : (ts : List Task) (e : EndedAs) → Gives OfSite (end_answer u e (record x { work = with_tasks ts x.work }))
        by ts (over.Answer s t b) = sends _ _ (record x.work.rest { tasks = ts }) a
        by ts (over.Both parent) = at parent (pair_over u) (record x { work = with_tasks ts x.work }) (λ y. goes_on u (record { work = with_tasks ts x.work; thread = y }) a)
        by ts (over.LetGo b) = gives_up b (with_tasks ts x.work) a
        by ts over.Kept = a

    -- whatever is delivered, what is left weighs that much afterwards
    pub message_leaves : (code : List Instr) (m : Message) (x : Site) → OfSite x → Gives OfSite (deliver_message code m x)
    message_leaves code (message.Fetch w o s t) x a = beside (deliver_fetch w o s t) x (map_gives OfWork (look_object x.work.rest.partition w o) _ (λ c q. sends _ _ x.work.rest a))
    message_leaves code (message.Fetched w c t) x a = at t (deliver_fetched w c) x (λ y. fills_it w c (record { work = x.work; thread = y }) a)
    message_leaves code (message.Move w o s t) x a =
        beside (deliver_move w o s t) x (map_gives OfWork (look_object x.work.rest.partition w o) _ (λ c q. sends _ _ (record x.work.rest { partition = freed x.work.rest.partition w }) a))
    message_leaves code (message.Moved w c t) x a = at t (deliver_moved code w c) x (λ y. comes code w c (record { work = x.work; thread = y }) a)
    message_leaves code (message.Drop w o) x a = beside (deliver_drop w o) x (drops w o x.work a)
    message_leaves code (message.Lock m s t) x a = beside (deliver_lock m s t) x (locks m s t x.work a)
    message_leaves code (message.Granted m v t) x a = at t (deliver_granted m v) x (λ y. test_gives OfHand (waits_for_lock y.phase m) _ (λ z. gives_it v y.gift (record { work = x.work; thread = y }) a))
    message_leaves code (message.Unlock m v) x a = beside (deliver_unlock m v) x (unlocks m v x.work a)
    message_leaves code (message.Dup m s t) x a = beside (deliver_dup m s t) x (dups m s t x.work a)
    message_leaves code (message.Dupped m t) x a = at t (deliver_dupped m) x (λ y. test_gives OfHand (waits_for_dup y.phase m) _ (λ z. gives_it (owned.Mutex m) y.gift (record { work = x.work; thread = y }) a))
    message_leaves code (message.Release m) x a = beside (release m) x (releases m x.work a)
    message_leaves code (message.Start t) x a = stand_gives OfSite (thread_in x.threads t.number) t x a
    message_leaves code (message.Join u s t) x a = beside (deliver_join u s t) x (joins u s t x.work a)
    message_leaves code (message.Joined u v t) x a = at t (deliver_joined u v) x (λ y. test_gives OfHand (waits_for_join y.phase u) _ (λ z. gives_it v y.gift (record { work = x.work; thread = y }) a))
    message_leaves code (message.Finished u v) x a = finishes u v x a
    message_leaves code (message.Migrate t) x a = stand_gives OfSite (thread_in x.threads t.number) t x a
