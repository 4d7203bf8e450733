-- The plain step of each instruction sends to servers of the run alone, where what it reads is known.
use Rattle.std.proofs.Common.{ℕ, ℤ, zero, suc, ◌+◌, ◌%◌, ◌<◌, ◌==◌, Bool, true, false, if◌then◌else◌, List, Option, Some, None, arith}
use Rattle.std.specs.Prelude.{slice_get}
use Rattle.std.specs.Bool.{⊤}
use Rattle.coherent_memory.specs.Below.fr_base.Rooms.{WithRoom}
use Rattle.coherent_memory.specs.Below.fr_base.declared.name.MutexNo.{MutexNo}
use Rattle.coherent_memory.specs.Below.fr_base.declared.place.Lval.{Lval}
use Rattle.coherent_memory.specs.Below.fr_base.declared.place.Op.{Op}
use Rattle.coherent_memory.specs.Below.fr_base.declared.step.Fresh.{Fresh}
use Rattle.coherent_memory.specs.Below.fr_base.declared.release.Released.TheVariants as released
use Rattle.coherent_memory.specs.Below.fr_base.declared.instruction.Instr.{Instr}
use Rattle.coherent_memory.specs.Below.fr_base.declared.instruction.Instr.TheVariants as instr
use Rattle.coherent_memory.specs.Below.fr_base.declared.instruction.Operand.{Operand}
use Rattle.coherent_memory.specs.Below.fr_base.declared.instruction.Operand.TheVariants as operand
use Rattle.coherent_memory.specs.Below.global_addr.Words.{server_of}
use Rattle.coherent_memory.specs.Below.heap_partition.declared.value.Owned.{Owned}
use Rattle.coherent_memory.specs.Below.heap_partition.declared.value.Owned.TheVariants as owned
use Rattle.coherent_memory.specs.Below.read_cache.Cache.{can_unpin}
use Rattle.coherent_memory.specs.Below.mut_borrow.Refs.{finish_word}
use Rattle.coherent_memory.specs.Below.mut_borrow.declared.shared.SharedRef.{SharedRef}
use Rattle.coherent_memory.specs.Below.mut_borrow.declared.mutable.MutRef.{MutRef}
use Rattle.coherent_memory.specs.Below.join_home.Tasks.{can_begin, can_begin_pair}
use Rattle.coherent_memory.specs.Below.mutex_home.Mutexes.{can_make}
use Rattle.coherent_memory.specs.Below.thread_state.View.{new_thread}
use Rattle.coherent_memory.specs.Below.thread_state.declared.phase.Phase.{Phase}
use Rattle.coherent_memory.specs.Below.thread_state.declared.phase.Phase.TheVariants as phase
use Rattle.coherent_memory.specs.Below.thread_state.declared.value.Value.{Value}
use Rattle.coherent_memory.specs.Below.thread_state.declared.value.Value.TheVariants as value
use Rattle.coherent_memory.specs.Below.server_msgs.declared.message.Message.TheVariants as message
use Rattle.coherent_memory.specs.Below.journal.declared.act.Act.TheVariants as act
use Rattle.coherent_memory.specs.Below.server_model.Servers.{Server, Rest}
use Rattle.coherent_memory.specs.Below.server_model.Work.{Work, Hand, Popped, last_of, pop_temp, pop_slot, pop, pop_owned, pop_int, taken_as, owned_of, int_of, task_of, mutex_of, then_some, working, label_all}
use Rattle.coherent_memory.specs.Below.migration.Packing.{unpin_all}
use Rattle.coherent_memory.specs.Below.server_model.NewWords.{NewWord, can_grow, issue_placed}
use Rattle.coherent_memory.specs.Below.server_model.Places.{Spot, in_slot, on_top, in_cell, in_copy, nowhere, cell_at, value_at, load_at, put_slot, second_of}
use Rattle.coherent_memory.specs.Below.server_model.Drop.{home_of, give_up, unpin_ref, finished_at, drop_value}
use Rattle.coherent_memory.specs.Below.server_model.Start.{next_thread, server_for, start_thread, capture}
use Rattle.coherent_memory.specs.Below.server_model.Commit.{Committed, done, waits, refused, done_where, go_on, goes_on, waiting, label_dropped, replace_slot, store_labels, store_at, replace_at, assign, take_out, read_as, shared_from, borrow_from, mutable_from, borrow_mut_from, discard, drop_slot, next_object, push_box, box_up, arith as calculate, print, begun, spawn_with, spawn, ask_join, take_gift, join, pair_begun, par, par_end, end_with, end_thread, mutex_made, mutex, mutex_at, ask_dup, dup, ask_lock, lock, held_of, unlock, commit, settle}
use Rattle.coherent_memory.specs.Below.server_model.Prepare.{Prepared, ready, requested, nothing, access_of, prepare}
use Rattle.coherent_memory.specs.Below.server_model.Events.{Stepped, done_step, committed, prepared, step}
use Rattle.law_counts_sums.specs.Laws.{Gives}
use Rattle.law_counts_sums.proofs.Results.{then_gives, map_gives, over_gives, bind_gives, test_gives}
use Rattle.law_counts_sums.proofs.Sends.{Adds, Sends, sends_more}
use Rattle.law_counts_sums.proofs.Known.{Here, OwnedKnown, ValueKnown, all_at, all_take}
use Rattle.law_counts_sums.proofs.KnownPlaces.{Told, Holds, spot_known, put_keeps, pointer_keeps}
use Rattle.law_counts_sums.proofs.KnownPrepares.{Ok, Asked, Fine, prepare_fine}

-- so far the event has sent to servers of the run alone
abbrev pub sent : List Server → Rest → Told
sent ss r p t g pc n i o ms ts c = Adds ss r n o

-- and so a request does
asks : (ss : List Server) (r : Rest) → Asked ss (sent ss r) (Holds (sent ss r))
asks ss r = record {
  for_copy = λ p h k g. sends_more ss r h.work.rest (server_of p.word) (message.Fetch p.word p.object h.work.rest.number h.thread.number) k g.1;
  for_object = λ p h k g. sends_more ss r h.work.rest (server_of p.word) (message.Move p.word p.object h.work.rest.number h.thread.number) k g.1;
}

module _ (ss : List Server) (r : Rest) where
  -- an owned value that is let go
  pub gives_up : (v : Owned) (w : Work) → OwnedKnown ss v → Sends ss r w.rest → Sends ss r (give_up v w).rest
  gives_up (owned.Box p) w k a = sends_more ss r w.rest (server_of p.word) (message.Drop p.word p.object) k a
  gives_up (owned.Mutex m) w k a = sends_more ss r w.rest m.home (message.Release (released.Mutex m)) k a
  gives_up (owned.Task t) w k a = sends_more ss r w.rest (home_of t) (message.Release (released.Task t)) k a
  gives_up owned.Nothing w k a = a
  gives_up owned.Unit w k a = a
  gives_up (owned.Int n) w k a = a

  abbrev Sent : Hand → Type 0
  Sent h = Sends ss r h.work.rest

  -- a step that is done, or whose thread waits
  abbrev SentBy : Committed → Type 0
  SentBy (done names h) = Sent h
  SentBy (waits h) = Sent h
  SentBy refused = ⊤

  done_sends : (names : Fresh) (o : Option Hand) → Gives Sent o → SentBy (done_where names o)
  done_sends names None g = tt
  done_sends names (Some h) g = g

  goes_sends : (o : Option Hand) → Gives Sent o → SentBy (goes_on o)
  goes_sends None g = tt
  goes_sends (Some h) g = g

  waits_sends : (o : Option Hand) → Gives Sent o → SentBy (waiting o)
  waits_sends None g = tt
  waits_sends (Some h) g = g

  -- VALUES TAKEN OUT

  abbrev PoppedOk : {X : Type 0} → (X → Type 0) → Popped X → Type 0
  PoppedOk P p = P p.item × Ok ss (sent ss r) p.hand

  pops_temp : (h : Hand) → Ok ss (sent ss r) h → Gives (PoppedOk (ValueKnown ss)) (pop_temp h)
  pops_temp h g =
      let known = g.0 in
      map_gives (PoppedOk (ValueKnown ss)) (last_of h.thread.temps) _ (λ v q. (
        all_at (ValueKnown ss) h.thread.temps _ v known.temps_known q,
        (
          record {
            home_here = known.home_here;
            slots_known = known.slots_known;
            temps_known = all_take (ValueKnown ss) _ h.thread.temps known.temps_known;
            partition_known = known.partition_known;
            copies_known = known.copies_known;
          },
          g.1,
        ),
      ))

  pops_slot : (h : Hand) → Ok ss (sent ss r) h → Gives (PoppedOk (ValueKnown ss)) (pop_slot h)
  pops_slot h g =
      let known = g.0 in
      map_gives (PoppedOk (ValueKnown ss)) (last_of h.thread.slots) _ (λ v q. (
        all_at (ValueKnown ss) h.thread.slots _ v known.slots_known q,
        (
          record {
            home_here = known.home_here;
            slots_known = all_take (ValueKnown ss) _ h.thread.slots known.slots_known;
            temps_known = known.temps_known;
            partition_known = known.partition_known;
            copies_known = known.copies_known;
          },
          g.1,
        ),
      ))

  pops : (o : Operand) (h : Hand) → Ok ss (sent ss r) h → Gives (PoppedOk (ValueKnown ss)) (pop o h)
  pops (operand.Const n) h g = (tt, g)
  pops operand.Unit h g = (tt, g)
  pops operand.Pop h g = pops_temp h g

  -- what a value is taken as is known where the value is
  takes_as : {X : Type 0} (P : X → Type 0) (f : Value → Option X) → ((v : Value) → ValueKnown ss v → Gives P (f v)) → (o : Option (Popped Value)) → Gives (PoppedOk (ValueKnown ss)) o → Gives (PoppedOk P) (then_some o (taken_as f))
  takes_as P f known o g = bind_gives (PoppedOk (ValueKnown ss)) (PoppedOk P) o (taken_as f) g (λ p u. over_gives P (PoppedOk P) (f p.item) (λ x. record { item = x; hand = p.hand }) (known p.item u.0) (λ x k. (k, u.1)))

  owned_known : (v : Value) → ValueKnown ss v → Gives (OwnedKnown ss) (owned_of v)
  owned_known (value.Own v) k = k
  owned_known _ k = tt

  task_known : (v : Value) → ValueKnown ss v → Gives (λ (t : ℕ). Here ss (home_of t)) (task_of v)
  task_known (value.Own (owned.Task t)) k = k
  task_known _ k = tt

  mutex_known : (v : Value) → ValueKnown ss v → Gives (λ (m : MutexNo). Here ss m.home) (mutex_of v)
  mutex_known (value.Own (owned.Mutex m)) k = k
  mutex_known _ k = tt

  held_known : (v : Value) → ValueKnown ss v → Gives (λ (m : MutexNo). Here ss m.home) (held_of v)
  held_known (value.Held m) k = k
  held_known _ k = tt

  -- of a number nothing needs to be known
  abbrev NoMatter : ℤ → Type 0
  NoMatter n = ⊤

  int_known : (v : Value) → ValueKnown ss v → Gives NoMatter (int_of v)
  int_known (value.Own (owned.Int n)) k = tt
  int_known _ k = tt

  pops_owned : (o : Operand) (h : Hand) → Ok ss (sent ss r) h → Gives (PoppedOk (OwnedKnown ss)) (pop_owned o h)
  pops_owned o h g = takes_as (OwnedKnown ss) owned_of owned_known (pop o h) (pops o h g)

  pops_int : (o : Operand) (h : Hand) → Ok ss (sent ss r) h → Gives (PoppedOk NoMatter) (pop_int o h)
  pops_int o h g = takes_as NoMatter int_of int_known (pop o h) (pops o h g)

  -- VALUES DROPPED

  unpins : (q : SharedRef) (b : Bool) (h : Hand) → Sent h → Gives Sent (unpin_ref q b h)
  unpins q false h a = a
  unpins q true h a = test_gives Sent (can_unpin h.work.rest.cache q.word) _ (λ on. a)

  finishes_at : (holder : Spot) (o : Option ℕ) (h : Hand) → Sent h → Gives Sent (finished_at holder o h)
  finishes_at holder None h a = a
  finishes_at holder (Some w) h a = pointer_keeps (sent ss r) holder w h a

  finishes : (holder : Spot) (q : MutRef) (b : Bool) (h : Hand) → Sent h → Gives Sent (if b then None else finished_at holder (finish_word q) h)
  finishes holder q true h a = tt
  finishes holder q false h a = finishes_at holder (finish_word q) h a

  drops : (holder : Spot) (v : Value) (h : Hand) → ValueKnown ss v → Sent h → Gives Sent (drop_value holder v h)
  drops holder (value.Own v) h k a = gives_up v h.work k a
  drops holder (value.Shared q) h k a = unpins q q.pinned h a
  drops holder (value.Mut q) h k a = finishes holder q q.dirty h a
  drops holder value.Gone h k a = a
  drops holder (value.SharedSlot i) h k a = a
  drops holder (value.MutSlot i) h k a = a
  drops holder (value.Held m) h k a = a

  -- SLOTS AND PLACES

  replaces_slot : (i : ℕ) (holder : Spot) (v : Value) (h : Hand) → Ok ss (sent ss r) h → Gives Sent (replace_slot i holder v h)
  replaces_slot i holder v h g =
      let known = g.0 in
      then_gives Sent (slice_get h.thread.slots i) _ (λ old q.
      bind_gives Sent Sent (put_slot i v (label_dropped old h)) (drop_value holder old) (put_keeps (sent ss r) (in_slot i) v (label_dropped old h) g.1)
      (λ h2 a. drops holder old h2 (all_at (ValueKnown ss) h.thread.slots i old known.slots_known q) a))

  replaces_at : (s : Spot) (v : Owned) (h : Hand) → Ok ss (sent ss r) h → Gives Sent (replace_at s v h)
  replaces_at s v h g =
      then_gives Sent (value_at h s) _ (λ old q.
      bind_gives Sent Sent (store_at s v (label_dropped old h)) (drop_value nowhere old) (stores s v (label_dropped old h) g.1) (λ h2 a. drops nowhere old h2 (spot_known ss s h old g.0 q) a))
    where
      stores : (s : Spot) (v : Owned) (h : Hand) → Sent h → Gives Sent (store_at s v h)
      stores s v h a = put_keeps (sent ss r) s (value.Own v) (working (label_all (store_labels (cell_at h s) v)) h) a

  assigns : (w : Lval) (d : ℕ) (o : Operand) (s : Spot) (h : Hand) → Ok ss (sent ss r) h → Gives Sent (assign w d o s h)
  assigns w zero o s h g = bind_gives (PoppedOk (ValueKnown ss)) Sent (pop o h) _ (pops o h g) (λ p u. replaces_slot w.slot s p.item p.hand u.1)
  assigns w (suc d) o s h g = bind_gives (PoppedOk (OwnedKnown ss)) Sent (pop_owned o h) _ (pops_owned o h g) (λ p u. replaces_at s p.item p.hand u.1)

  takes_out : (s : Spot) (h : Hand) → Sent h → Gives Sent (take_out s h)
  takes_out (in_slot i) h a = put_keeps (sent ss r) (in_slot i) value.Gone h a
  takes_out on_top h a = a
  takes_out (in_cell w through) h a =
      put_keeps (sent ss r) (in_cell w through) (value.Own owned.Nothing) (working (label_all (store_labels (cell_at h (in_cell w through)) owned.Nothing)) h) a
  takes_out (in_copy w) h a = tt
  takes_out nowhere h a = tt

  reads_as : (take : Bool) (s : Spot) (v : Value) (h : Hand) → Sent h → Gives Sent (read_as take s v h)
  reads_as false s v h a = map_gives Sent (second_of v) _ (λ u q. a)
  reads_as true s v h a = over_gives Sent Sent (take_out s h) _ (takes_out s h a) (λ h2 b. b)

  borrows : (w : Lval) (d : ℕ) (s : Spot) (h : Hand) → Sent h → Gives Sent (borrow_from w d s h)
  borrows w zero s h a = a
  borrows w (suc d) s h a = then_gives Sent (value_at h s) _ (λ v q. map_gives Sent (shared_from v) _ (λ u c. a))

  lends : (w : Lval) (d : ℕ) (s : Spot) (h : Hand) → Sent h → Gives Sent (borrow_mut_from w d s h)
  lends w zero s h a = a
  lends w (suc d) s h a = then_gives Sent (value_at h s) _ (λ v q. map_gives Sent (mutable_from h.thread.phase (record w { depth = d }) v) _ (λ u c. a))

  discards : (s : Spot) (h : Hand) → Ok ss (sent ss r) h → Gives Sent (discard s h)
  discards s h g = bind_gives (PoppedOk (ValueKnown ss)) Sent (pop_temp h) _ (pops_temp h g) (λ p u. drops s p.item (label_dropped p.item p.hand) u.0 (u.1).1)

  drops_slot : (s : Spot) (h : Hand) → Ok ss (sent ss r) h → Gives Sent (drop_slot s h)
  drops_slot s h g = bind_gives (PoppedOk (ValueKnown ss)) Sent (pop_slot h) _ (pops_slot h g) (λ p u. drops s p.item (label_dropped p.item p.hand) u.0 (u.1).1)

  -- OBJECTS AND NUMBERS

  boxes_up : (o : Operand) (h : Hand) → Ok ss (sent ss r) h → Gives Sent (box_up o h)
  boxes_up o h g =
      bind_gives (PoppedOk (OwnedKnown ss)) Sent (pop_owned o h) _ (pops_owned o h g) (λ p u.
      over_gives (λ (n : NewWord). Sends ss r n.work.rest) Sent (issue_placed (act.Make (next_object p.hand)) (record { object = next_object p.hand; value = p.item }) p.hand.work) (λ n. push_box p.item n p.hand)
      (test_gives (λ (n : NewWord). Sends ss r n.work.rest) (can_grow p.hand.work.rest.partition) _ (λ on. (u.1).1)) (λ n a. a))

  calculates : (f : Op) (a b : Operand) (h : Hand) → Ok ss (sent ss r) h → Gives Sent (calculate f a b h)
  calculates f a b h g =
      bind_gives (PoppedOk NoMatter) Sent (pop_int b h) _ (pops_int b h g) (λ y u.
      over_gives (PoppedOk NoMatter) Sent (pop_int a y.hand) _ (pops_int a y.hand u.1) (λ x w. (w.1).1))

  prints : (o : Operand) (h : Hand) → Ok ss (sent ss r) h → Gives Sent (print o h)
  prints o h g = over_gives (PoppedOk NoMatter) Sent (pop_int o h) _ (pops_int o h g) (λ p u. (u.1).1)

  -- MUTEXES

  mutex_there : (s : Spot) (h : Hand) → Ok ss (sent ss r) h → Gives (λ (m : MutexNo). Here ss m.home) (mutex_at h s)
  mutex_there s h g = then_gives (λ (m : MutexNo). Here ss m.home) (value_at h s) mutex_of (λ v q. mutex_known v (spot_known ss s h v g.0 q))

  makes_mutex : (o : Operand) (h : Hand) → Ok ss (sent ss r) h → SentBy (mutex o h)
  makes_mutex o h g =
      done_sends _ _ (over_gives Sent Sent (then_some (pop_owned o h) (λ p. mutex_made p.item p.hand)) go_on
      (bind_gives (PoppedOk (OwnedKnown ss)) Sent (pop_owned o h) _ (pops_owned o h g) (λ p u. test_gives Sent (can_make p.hand.work.rest.mutexes) _ (λ on. (u.1).1))) (λ h2 a. a))

  dups : (s : Spot) (gift : Option Owned) (h : Hand) → Ok ss (sent ss r) h → SentBy (dup s gift h)
  dups s None h g = waits_sends _ (over_gives (λ (m : MutexNo). Here ss m.home) Sent (mutex_at h s) (ask_dup h) (mutex_there s h g) (λ m k. sends_more ss r h.work.rest m.home (message.Dup m h.work.rest.number h.thread.number) k g.1))
  dups s (Some v) h g = goes_sends _ (map_gives Sent (mutex_at h s) _ (λ m q. g.1))

  locks : (s : Spot) (gift : Option Owned) (h : Hand) → Ok ss (sent ss r) h → SentBy (lock s gift h)
  locks s None h g = waits_sends _ (over_gives (λ (m : MutexNo). Here ss m.home) Sent (mutex_at h s) (ask_lock h) (mutex_there s h g) (λ m k. sends_more ss r h.work.rest m.home (message.Lock m h.work.rest.number h.thread.number) k g.1))
  locks s (Some v) h g = goes_sends _ (map_gives Sent (mutex_at h s) _ (λ m q. g.1))

  unlocks : (h : Hand) → Ok ss (sent ss r) h → Gives Sent (unlock h)
  unlocks h g =
      bind_gives (PoppedOk (OwnedKnown ss)) Sent (then_some (pop_slot h) (taken_as owned_of)) _ (takes_as (OwnedKnown ss) owned_of owned_known (pop_slot h) (pops_slot h g)) (λ v u.
      over_gives (PoppedOk (λ (m : MutexNo). Here ss m.home)) Sent (then_some (pop_slot v.hand) (taken_as held_of)) _ (takes_as (λ (m : MutexNo). Here ss m.home) held_of held_known (pop_slot v.hand) (pops_slot v.hand u.1)) (λ m w.
      sends_more ss r m.hand.work.rest m.item.home (message.Unlock m.item v.item) w.0 (w.1).1))

  -- THREADS

  joins : (o : Operand) (gift : Option Owned) (h : Hand) → Ok ss (sent ss r) h → SentBy (join o gift h)
  joins o None h g =
      waits_sends _ (over_gives (λ (u : ℕ). Here ss (home_of u)) Sent (then_some (pop o h) (λ p. task_of p.item)) (ask_join h)
      (bind_gives (PoppedOk (ValueKnown ss)) (λ (u : ℕ). Here ss (home_of u)) (pop o h) _ (pops o h g) (λ p u. task_known p.item u.0)) (λ u k.
      sends_more ss r h.work.rest (home_of u) (message.Join u h.work.rest.number h.thread.number) k g.1))
  joins o (Some result) h g =
      goes_sends _ (over_gives (PoppedOk (λ (u : ℕ). Here ss (home_of u))) Sent (then_some (pop o (take_gift h)) (taken_as task_of)) _
      (takes_as (λ (u : ℕ). Here ss (home_of u)) task_of task_known (pop o (take_gift h)) (pops o (take_gift h) g)) (λ p u. (u.1).1))

  par_ends : (p : Phase) (h : Hand) → Sent h → Gives Sent (par_end p h)
  par_ends (phase.GotPar a b) h g = g
  par_ends _ h g = tt

  ends_with : (main : Bool) (v : Owned) (h : Hand) → OwnedKnown ss v → Ok ss (sent ss r) h → Gives Sent (end_with main v h)
  ends_with true v h k g = gives_up v (label_dropped (value.Own v) h).work k g.1
  ends_with false v h k g = let known = g.0 in sends_more ss r h.work.rest h.thread.home (message.Finished h.thread.number v) known.home_here g.1

  ends : (o : Operand) (h : Hand) → Ok ss (sent ss r) h → SentBy (end_thread o h)
  ends o h g =
      done_sends _ _ (over_gives Sent Sent (then_some (pop_owned o h) (λ p. end_with (h.thread.number == 0) p.item p.hand)) _
      (bind_gives (PoppedOk (OwnedKnown ss)) Sent (pop_owned o h) _ (pops_owned o h g) (λ p u. ends_with (h.thread.number == 0) p.item p.hand u.0 u.1)) (λ h2 a. a))

  -- new threads go to one of the servers of the run
  module _ (servers : ℕ) (some : 0 < servers) (there : (n : ℕ) → n < servers → Here ss n) where
    below : (n : ℕ) → n % servers < servers
    below n = omega (arith, some)

    starts : (pc : ℕ) (vs : List Value) (w : Work) → Sends ss r w.rest → Sends ss r (start_thread servers pc vs w).rest
    starts pc vs w a =
        sends_more ss r (record w.rest { started = w.rest.started + 1 }) (server_for servers w.rest) (message.Start (new_thread (next_thread w.rest) pc vs)) (there (server_for servers w.rest) (below (w.rest.number + (w.rest.started + 1)))) a

    spawns : (cs : WithRoom (ℕ × Bool)) (pc : ℕ) (h : Hand) → Sent h → SentBy (spawn servers cs pc h)
    spawns cs pc h a =
        done_sends _ _ (over_gives Sent Sent (then_some (capture false cs.items h.thread.slots) (spawn_with servers pc (next_thread h.work.rest) h)) go_on
        (then_gives Sent (capture false cs.items h.thread.slots) _ (λ new q.
        over_gives Sent Sent (begun h) _ (test_gives Sent (can_begin h.work.rest.tasks (next_thread h.work.rest)) _ (λ on. a)) (λ h2 b. starts pc new.0 h2.work b))) (λ h2 b. b))

    pars : (cs : WithRoom (ℕ × Bool)) (pc : ℕ) (ds : WithRoom (ℕ × Bool)) (other : ℕ) (h : Hand) → Sent h → SentBy (par servers cs pc ds other h)
    pars cs pc ds other h a =
        let x = next_thread h.work.rest in
        done_sends _ _ (then_gives Sent (capture true cs.items h.thread.slots) _ (λ first p. then_gives Sent (capture true ds.items first.1) _ (λ second q.
        over_gives Sent Sent (pair_begun h x (x + 1)) _ (test_gives Sent (can_begin_pair h.work.rest.tasks h.thread.number x (x + 1)) _ (λ on. a))
        (λ h2 b. starts other second.0 (start_thread servers pc first.0 h2.work) (starts pc first.0 h2.work b)))))

    -- ALL INSTRUCTIONS

    commits : (i : Instr) (s : Spot) (h : Hand) → Ok ss (sent ss r) h → SentBy (commit servers i s h)
    commits (instr.Let o) s h g = goes_sends _ (over_gives (PoppedOk (ValueKnown ss)) Sent (pop o h) _ (pops o h g) (λ p u. (u.1).1))
    commits (instr.Assign w o) s h g = goes_sends _ (assigns w w.depth o s h g)
    commits (instr.Read w take) s h g = goes_sends _ (then_gives Sent (value_at h s) _ (λ v q. reads_as take s v (load_at s h) g.1))
    commits (instr.Borrow w) s h g = goes_sends _ (borrows w w.depth s h g.1)
    commits (instr.BorrowMut w) s h g = goes_sends _ (lends w w.depth s h g.1)
    commits (instr.Box o) s h g = goes_sends _ (boxes_up o h g)
    commits (instr.Arith f a b) s h g = goes_sends _ (calculates f a b h g)
    commits (instr.Print o) s h g = goes_sends _ (prints o h g)
    commits instr.Discard s h g = goes_sends _ (discards s h g)
    commits instr.DropSlot s h g = goes_sends _ (drops_slot s h g)
    commits (instr.Spawn cs pc) s h g = spawns cs pc h g.1
    commits (instr.Join o) s h g = joins o h.thread.gift h g
    commits (instr.Mutex o) s h g = makes_mutex o h g
    commits (instr.Dup w) s h g = dups s h.thread.gift h g
    commits (instr.Lock w) s h g = locks s h.thread.gift h g
    commits instr.Unlock s h g = goes_sends _ (unlocks h g)
    commits (instr.Par cs pc ds other) s h g = pars cs pc ds other h g.1
    commits instr.ParEnd s h g = goes_sends _ (par_ends h.thread.phase h g.1)
    commits (instr.End o) s h g = ends o h g

    -- A WHOLE STEP

    abbrev SentStep : Stepped → Type 0
    SentStep d = Sent d.hand

    commit_sends : (c : Committed) → SentBy c → Gives SentStep (committed c)
    commit_sends (done names h) a = over_gives Sent SentStep (settle h) (done_step names) (map_gives Sent (unpin_all h.thread.walk h.work.rest.cache) _ (λ cs q. a)) (λ h2 b. b)
    commit_sends (waits h) a = a
    commit_sends refused a = tt

    prepared_sends : (i : Instr) (p : Prepared) → Fine ss (sent ss r) (asks ss r) p → Gives SentStep (prepared servers i p)
    prepared_sends i (ready h s) g = commit_sends (commit servers i s h) (commits i s h g)
    prepared_sends i (requested h) a = a
    prepared_sends i nothing a = tt

    pub step_sends : (i : Instr) (h : Hand) → Ok ss (sent ss r) h → Gives SentStep (step servers i h)
    step_sends i h g = prepared_sends i (prepare (access_of i h.thread) h) (prepare_fine ss (sent ss r) (asks ss r) (access_of i h.thread) h g)
