-- A step sends at most two messages: its request alone, what it lets go, its end, or the threads that it starts.
use Rattle.std.proofs.Common.{◌≤◌, ℕ, zero, suc, ◌+◌, ◌==◌, Bool, true, false, if◌then◌else◌, List, Option, Some, None, arith}
use Rattle.std.specs.Prelude.{slice_get}
use Rattle.std.specs.Bool.{⊤}
use Rattle.law_counts_things.specs.Below.fr_base.Rooms.{WithRoom}
use Rattle.law_counts_things.specs.Below.fr_base.declared.place.Lval.{Lval}
use Rattle.law_counts_things.specs.Below.fr_base.declared.place.Op.{Op}
use Rattle.law_counts_things.specs.Below.fr_base.declared.step.Fresh.{Fresh}
use Rattle.law_counts_things.specs.Below.fr_base.declared.release.Released.TheVariants as released
use Rattle.law_counts_things.specs.Below.fr_base.declared.instruction.Instr.{Instr}
use Rattle.law_counts_things.specs.Below.fr_base.declared.instruction.Instr.TheVariants as instr
use Rattle.law_counts_things.specs.Below.fr_base.declared.instruction.Operand.{Operand}
use Rattle.law_counts_things.specs.Below.fr_base.declared.instruction.Operand.TheVariants as operand
use Rattle.law_counts_things.specs.Below.global_addr.Words.{server_of}
use Rattle.law_counts_things.specs.Below.heap_partition.declared.value.Owned.{Owned}
use Rattle.law_counts_things.specs.Below.heap_partition.declared.value.Owned.TheVariants as owned
use Rattle.law_counts_things.specs.Below.read_cache.Cache.{can_unpin}
use Rattle.law_counts_things.specs.Below.mut_borrow.Refs.{finish_word}
use Rattle.law_counts_things.specs.Below.mut_borrow.declared.shared.SharedRef.{SharedRef}
use Rattle.law_counts_things.specs.Below.mut_borrow.declared.mutable.MutRef.{MutRef}
use Rattle.law_counts_things.specs.Below.join_home.Tasks.{can_begin, can_begin_pair}
use Rattle.law_counts_things.specs.Below.mutex_home.Mutexes.{can_make}
use Rattle.law_counts_things.specs.Below.thread_state.View.{ThreadState, new_thread}
use Rattle.law_counts_things.specs.Below.thread_state.declared.phase.Phase.{Phase}
use Rattle.law_counts_things.specs.Below.thread_state.declared.phase.Phase.TheVariants as phase
use Rattle.law_counts_things.specs.Below.thread_state.declared.value.Value.{Value}
use Rattle.law_counts_things.specs.Below.thread_state.declared.value.Value.TheVariants as value
use Rattle.law_counts_things.specs.Below.server_msgs.declared.message.Message.TheVariants as message
use Rattle.law_counts_things.specs.Below.journal.declared.act.Act.TheVariants as act
use Rattle.law_counts_things.specs.Below.server_model.Servers.{Rest}
use Rattle.law_counts_things.specs.Below.server_model.Work.{Work, Hand, Popped, last_of, pop_temp, pop_slot, pop, pop_owned, pop_int, taken_as, owned_of, int_of, task_of, then_some, working, label_all}
use Rattle.law_counts_things.specs.Below.migration.Packing.{unpin_all}
use Rattle.law_counts_things.specs.Below.server_model.NewWords.{NewWord, can_grow, issue_placed}
use Rattle.law_counts_things.specs.Below.server_model.Places.{Spot, in_slot, on_top, in_cell, in_copy, nowhere, cell_at, value_at, load_at, put_slot, second_of}
use Rattle.law_counts_things.specs.Below.server_model.Drop.{home_of, give_up, unpin_ref, finished_at, drop_value}
use Rattle.law_counts_things.specs.Below.server_model.Start.{next_thread, server_for, start_thread, capture}
use Rattle.law_counts_things.specs.Below.server_model.Commit.{Committed, done, waits, refused, done_where, go_on, goes_on, waiting, label_dropped, replace_slot, store_labels, store_at, replace_at, assign, take_out, read_as, shared_from, borrow_from, mutable_from, borrow_mut_from, discard, drop_slot, next_object, push_box, box_up, arith as calculate, print, begun, spawn_with, spawn, ask_join, take_gift, join, pair_begun, par, par_end, end_with, end_thread, mutex_made, mutex, mutex_at, ask_dup, dup, ask_lock, lock, held_of, unlock, commit, settle}
use Rattle.law_counts_things.specs.Below.server_model.Prepare.{Prepared, ready, requested, nothing, access_of, prepare}
use Rattle.law_counts_things.specs.Below.server_model.Events.{Stepped, done_step, committed, prepared, step}
use Rattle.law_counts_things.specs.Below.law_counts_sums.Laws.{Gives}
use Rattle.law_counts_things.proofs.Below.law_counts_sums.Results.{then_gives, map_gives, over_gives, bind_gives, test_gives}
use Rattle.law_counts_things.proofs.Below.law_counts_sums.KnownPlaces.{Told, put_keeps, pointer_keeps}
use Rattle.law_counts_things.proofs.things.Small.{Places, Small, Made, prepare_makes}
use Rattle.law_counts_limits.specs.limits.Sending.{AddsFew, SendsFew}
use Rattle.law_counts_limits.proofs.limits.Sent.{at_most, sends_more}

-- so many messages of the event so far
abbrev pub told : ℕ → Rest → Told
told most r p t g pc n i o ms ts c = AddsFew most r n o

abbrev pub So : ℕ → Rest → Rest → ThreadState → Type 0
So most r r2 t = SendsFew most r r2

-- of values and words nothing is said
abbrev AnyValue : Value → Type 0
AnyValue v = ⊤

abbrev AnyWord : ℕ → Type 0
AnyWord w = ⊤

module _ (r : Rest) where
  places : Places (So 0 r) AnyValue AnyWord
  places = record {
    spot = λ s v h g e. tt;
    puts = λ s v h lies a g. put_keeps (told 0 r) s v h g;
    worded = λ w v new a b e. tt;
    word_of = λ q a. tt;
    points = λ v p a e. tt;
  }

  -- making a place ready sends nothing but one request
  small : Small (So 0 r) (So 1 r) AnyValue AnyWord
  small = record {
    places = places;
    tints = λ p h a g on. tt;
    renews = λ p h a g on. (tt, g);
    pinned = λ q a. tt;
    pins = λ w h on g. g;
    uses = λ w h on g. g;
    asks_copy = λ p h a e g. sends_more 0 r h.work.rest (server_of p.word) (message.Fetch p.word p.object h.work.rest.number h.thread.number) g;
    asks_object = λ p h a e g. sends_more 0 r h.work.rest (server_of p.word) (message.Move p.word p.object h.work.rest.number h.thread.number) g;
  }

  abbrev SentBy : ℕ → Work → Type 0
  SentBy most w = SendsFew most r w.rest

  abbrev Sent : ℕ → Hand → Type 0
  Sent most h = SendsFew most r h.work.rest

  up : (a b : ℕ) (w : Work) → a ≤ b → SentBy a w → SentBy b w
  up a b w l g = at_most a b r w.rest.number w.rest.outbox l g

  -- an owned value that is let go is one message at most
  pub gives_up : (n : ℕ) (v : Owned) (w : Work) → SentBy n w → SentBy (suc n) (give_up v w)
  gives_up n (owned.Box p) w a = sends_more n r w.rest (server_of p.word) (message.Drop p.word p.object) a
  gives_up n (owned.Mutex m) w a = sends_more n r w.rest m.home (message.Release (released.Mutex m)) a
  gives_up n (owned.Task t) w a = sends_more n r w.rest (home_of t) (message.Release (released.Task t)) a
  gives_up n owned.Nothing w a = up n (suc n) w (omega arith) a
  gives_up n owned.Unit w a = up n (suc n) w (omega arith) a
  gives_up n (owned.Int i) w a = up n (suc n) w (omega arith) a

  -- a step that is done, or whose thread waits
  abbrev SentIn : Committed → Type 0
  SentIn (done names h) = Sent 2 h
  SentIn (waits h) = Sent 2 h
  SentIn refused = ⊤

  done_sends : (n : ℕ) (names : Fresh) (o : Option Hand) → n ≤ 2 → Gives (Sent n) o → SentIn (done_where names o)
  done_sends n names None l g = tt
  done_sends n names (Some h) l g = up n 2 h.work l g

  goes_sends : (n : ℕ) (o : Option Hand) → n ≤ 2 → Gives (Sent n) o → SentIn (goes_on o)
  goes_sends n None l g = tt
  goes_sends n (Some h) l g = up n 2 h.work l g

  waits_sends : (n : ℕ) (o : Option Hand) → n ≤ 2 → Gives (Sent n) o → SentIn (waiting o)
  waits_sends n None l g = tt
  waits_sends n (Some h) l g = up n 2 h.work l g

  -- VALUES TAKEN OUT

  abbrev PoppedOk : {X : Type 0} → Popped X → Type 0
  PoppedOk p = Sent 0 p.hand

  pops_temp : (h : Hand) → Sent 0 h → Gives PoppedOk (pop_temp h)
  pops_temp h g = map_gives PoppedOk (last_of h.thread.temps) _ (λ v q. g)

  pops_slot : (h : Hand) → Sent 0 h → Gives PoppedOk (pop_slot h)
  pops_slot h g = map_gives PoppedOk (last_of h.thread.slots) _ (λ v q. g)

  pops : (o : Operand) (h : Hand) → Sent 0 h → Gives PoppedOk (pop o h)
  pops (operand.Const n) h g = g
  pops operand.Unit h g = g
  pops operand.Pop h g = pops_temp h g

  takes_as : {X : Type 0} (f : Value → Option X) (o : Option (Popped Value)) → Gives PoppedOk o → Gives PoppedOk (then_some o (taken_as f))
  takes_as f o g = bind_gives PoppedOk PoppedOk o (taken_as f) g (λ p u. map_gives PoppedOk (f p.item) _ (λ x q. u))

  pops_owned : (o : Operand) (h : Hand) → Sent 0 h → Gives PoppedOk (pop_owned o h)
  pops_owned o h g = takes_as owned_of (pop o h) (pops o h g)

  pops_int : (o : Operand) (h : Hand) → Sent 0 h → Gives PoppedOk (pop_int o h)
  pops_int o h g = takes_as int_of (pop o h) (pops o h g)

  -- VALUES DROPPED

  unpins : (q : SharedRef) (b : Bool) (h : Hand) → Sent 0 h → Gives (Sent 1) (unpin_ref q b h)
  unpins q false h a = up 0 1 h.work (omega arith) a
  unpins q true h a = test_gives (Sent 1) (can_unpin h.work.rest.cache q.word) _ (λ on. up 0 1 h.work (omega arith) a)

  finishes_at : (holder : Spot) (o : Option ℕ) (h : Hand) → Sent 0 h → Gives (Sent 1) (finished_at holder o h)
  finishes_at holder None h a = up 0 1 h.work (omega arith) a
  finishes_at holder (Some w) h a = pointer_keeps (told 1 r) holder w h (up 0 1 h.work (omega arith) a)

  finishes : (holder : Spot) (q : MutRef) (b : Bool) (h : Hand) → Sent 0 h → Gives (Sent 1) (if b then None else finished_at holder (finish_word q) h)
  finishes holder q true h a = tt
  finishes holder q false h a = finishes_at holder (finish_word q) h a

  drops : (holder : Spot) (v : Value) (h : Hand) → Sent 0 h → Gives (Sent 1) (drop_value holder v h)
  drops holder (value.Own v) h a = gives_up 0 v h.work a
  drops holder (value.Shared q) h a = unpins q q.pinned h a
  drops holder (value.Mut q) h a = finishes holder q q.dirty h a
  drops holder value.Gone h a = up 0 1 h.work (omega arith) a
  drops holder (value.SharedSlot i) h a = up 0 1 h.work (omega arith) a
  drops holder (value.MutSlot i) h a = up 0 1 h.work (omega arith) a
  drops holder (value.Held m) h a = up 0 1 h.work (omega arith) a

  -- SLOTS AND PLACES

  replaces_slot : (i : ℕ) (holder : Spot) (v : Value) (h : Hand) → Sent 0 h → Gives (Sent 1) (replace_slot i holder v h)
  replaces_slot i holder v h g =
      then_gives (Sent 1) (slice_get h.thread.slots i) _ (λ old q.
      bind_gives (Sent 0) (Sent 1) (put_slot i v (label_dropped old h)) (drop_value holder old) (put_keeps (told 0 r) (in_slot i) v (label_dropped old h) g) (λ h2 a. drops holder old h2 a))

  stores : (s : Spot) (v : Owned) (h : Hand) → Sent 0 h → Gives (Sent 0) (store_at s v h)
  stores s v h a = put_keeps (told 0 r) s (value.Own v) (working (label_all (store_labels (cell_at h s) v)) h) a

  replaces_at : (s : Spot) (v : Owned) (h : Hand) → Sent 0 h → Gives (Sent 1) (replace_at s v h)
  replaces_at s v h g =
      then_gives (Sent 1) (value_at h s) _ (λ old q.
      bind_gives (Sent 0) (Sent 1) (store_at s v (label_dropped old h)) (drop_value nowhere old) (stores s v (label_dropped old h) g) (λ h2 a. drops nowhere old h2 a))

  assigns : (w : Lval) (d : ℕ) (o : Operand) (s : Spot) (h : Hand) → Sent 0 h → Gives (Sent 1) (assign w d o s h)
  assigns w zero o s h g = bind_gives PoppedOk (Sent 1) (pop o h) _ (pops o h g) (λ p u. replaces_slot w.slot s p.item p.hand u)
  assigns w (suc d) o s h g = bind_gives PoppedOk (Sent 1) (pop_owned o h) _ (pops_owned o h g) (λ p u. replaces_at s p.item p.hand u)

  takes_out : (s : Spot) (h : Hand) → Sent 0 h → Gives (Sent 0) (take_out s h)
  takes_out (in_slot i) h a = put_keeps (told 0 r) (in_slot i) value.Gone h a
  takes_out on_top h a = a
  takes_out (in_cell w through) h a = put_keeps (told 0 r) (in_cell w through) (value.Own owned.Nothing) (working (label_all (store_labels (cell_at h (in_cell w through)) owned.Nothing)) h) a
  takes_out (in_copy w) h a = tt
  takes_out nowhere h a = tt

  reads_as : (take : Bool) (s : Spot) (v : Value) (h : Hand) → Sent 0 h → Gives (Sent 0) (read_as take s v h)
  reads_as false s v h a = map_gives (Sent 0) (second_of v) _ (λ u q. a)
  reads_as true s v h a = over_gives (Sent 0) (Sent 0) (take_out s h) _ (takes_out s h a) (λ h2 b. b)

  borrows : (w : Lval) (d : ℕ) (s : Spot) (h : Hand) → Sent 0 h → Gives (Sent 0) (borrow_from w d s h)
  borrows w zero s h a = a
  borrows w (suc d) s h a = then_gives (Sent 0) (value_at h s) _ (λ v q. map_gives (Sent 0) (shared_from v) _ (λ u c. a))

  lends : (w : Lval) (d : ℕ) (s : Spot) (h : Hand) → Sent 0 h → Gives (Sent 0) (borrow_mut_from w d s h)
  lends w zero s h a = a
  lends w (suc d) s h a = then_gives (Sent 0) (value_at h s) _ (λ v q. map_gives (Sent 0) (mutable_from h.thread.phase (record w { depth = d }) v) _ (λ u c. a))

  discards : (s : Spot) (h : Hand) → Sent 0 h → Gives (Sent 1) (discard s h)
  discards s h g = bind_gives PoppedOk (Sent 1) (pop_temp h) _ (pops_temp h g) (λ p u. drops s p.item (label_dropped p.item p.hand) u)

  drops_slot : (s : Spot) (h : Hand) → Sent 0 h → Gives (Sent 1) (drop_slot s h)
  drops_slot s h g = bind_gives PoppedOk (Sent 1) (pop_slot h) _ (pops_slot h g) (λ p u. drops s p.item (label_dropped p.item p.hand) u)

  -- OBJECTS AND NUMBERS

  boxes_up : (o : Operand) (h : Hand) → Sent 0 h → Gives (Sent 0) (box_up o h)
  boxes_up o h g =
      bind_gives PoppedOk (Sent 0) (pop_owned o h) _ (pops_owned o h g) (λ p u.
      over_gives (λ (n : NewWord). SentBy 0 n.work) (Sent 0) (issue_placed (act.Make (next_object p.hand)) (record { object = next_object p.hand; value = p.item }) p.hand.work) (λ n. push_box p.item n p.hand)
      (test_gives (λ (n : NewWord). SentBy 0 n.work) (can_grow p.hand.work.rest.partition) _ (λ on. u)) (λ n a. a))

  calculates : (f : Op) (a b : Operand) (h : Hand) → Sent 0 h → Gives (Sent 0) (calculate f a b h)
  calculates f a b h g = bind_gives PoppedOk (Sent 0) (pop_int b h) _ (pops_int b h g) (λ y u. over_gives PoppedOk (Sent 0) (pop_int a y.hand) _ (pops_int a y.hand u) (λ x w. w))

  prints : (o : Operand) (h : Hand) → Sent 0 h → Gives (Sent 0) (print o h)
  prints o h g = over_gives PoppedOk (Sent 0) (pop_int o h) _ (pops_int o h g) (λ p u. u)

  -- MUTEXES

  makes_mutex : (o : Operand) (h : Hand) → Sent 0 h → SentIn (mutex o h)
  makes_mutex o h g =
      done_sends 0 _ _ (omega arith) (over_gives (Sent 0) (Sent 0) (then_some (pop_owned o h) (λ p. mutex_made p.item p.hand)) go_on
      (bind_gives PoppedOk (Sent 0) (pop_owned o h) _ (pops_owned o h g) (λ p u. test_gives (Sent 0) (can_make p.hand.work.rest.mutexes) _ (λ on. u))) (λ h2 a. a))

  dups : (s : Spot) (gift : Option Owned) (h : Hand) → Sent 0 h → SentIn (dup s gift h)
  dups s None h g = waits_sends 1 _ (omega arith) (map_gives (Sent 1) (mutex_at h s) (ask_dup h) (λ m q. sends_more 0 r h.work.rest m.home (message.Dup m h.work.rest.number h.thread.number) g))
  dups s (Some v) h g = goes_sends 0 _ (omega arith) (map_gives (Sent 0) (mutex_at h s) _ (λ m q. g))

  locks : (s : Spot) (gift : Option Owned) (h : Hand) → Sent 0 h → SentIn (lock s gift h)
  locks s None h g = waits_sends 1 _ (omega arith) (map_gives (Sent 1) (mutex_at h s) (ask_lock h) (λ m q. sends_more 0 r h.work.rest m.home (message.Lock m h.work.rest.number h.thread.number) g))
  locks s (Some v) h g = goes_sends 0 _ (omega arith) (map_gives (Sent 0) (mutex_at h s) _ (λ m q. g))

  unlocks : (h : Hand) → Sent 0 h → Gives (Sent 1) (unlock h)
  unlocks h g =
      bind_gives PoppedOk (Sent 1) (then_some (pop_slot h) (taken_as owned_of)) _ (takes_as owned_of (pop_slot h) (pops_slot h g)) (λ v u.
      over_gives PoppedOk (Sent 1) (then_some (pop_slot v.hand) (taken_as held_of)) _ (takes_as held_of (pop_slot v.hand) (pops_slot v.hand u)) (λ m w.
      sends_more 0 r m.hand.work.rest m.item.home (message.Unlock m.item v.item) w))

  -- THREADS

  joins : (o : Operand) (gift : Option Owned) (h : Hand) → Sent 0 h → SentIn (join o gift h)
  joins o None h g = waits_sends 1 _ (omega arith) (map_gives (Sent 1) (then_some (pop o h) (λ p. task_of p.item)) (ask_join h) (λ u q. sends_more 0 r h.work.rest (home_of u) (message.Join u h.work.rest.number h.thread.number) g))
  joins o (Some result) h g = goes_sends 0 _ (omega arith) (over_gives PoppedOk (Sent 0) (then_some (pop o (take_gift h)) (taken_as task_of)) _ (takes_as task_of (pop o (take_gift h)) (pops o (take_gift h) g)) (λ p u. u))

  par_ends : (p : Phase) (h : Hand) → Sent 0 h → Gives (Sent 0) (par_end p h)
  par_ends (phase.GotPar a b) h g = g
  par_ends _ h g = tt

  ends_with : (main : Bool) (v : Owned) (h : Hand) → Sent 0 h → Gives (Sent 1) (end_with main v h)
  ends_with true v h g = gives_up 0 v (label_dropped (value.Own v) h).work g
  ends_with false v h g = sends_more 0 r h.work.rest h.thread.home (message.Finished h.thread.number v) g

  ends : (o : Operand) (h : Hand) → Sent 0 h → SentIn (end_thread o h)
  ends o h g =
      done_sends 1 _ _ (omega arith) (over_gives (Sent 1) (Sent 1) (then_some (pop_owned o h) (λ p. end_with (h.thread.number == 0) p.item p.hand)) _
      (bind_gives PoppedOk (Sent 1) (pop_owned o h) _ (pops_owned o h g) (λ p u. ends_with (h.thread.number == 0) p.item p.hand u)) (λ h2 a. a))

  module _ (servers : ℕ) where
    starts : (n pc : ℕ) (vs : List Value) (w : Work) → SentBy n w → SentBy (suc n) (start_thread servers pc vs w)
    starts n pc vs w a = sends_more n r (record w.rest { started = w.rest.started + 1 }) (server_for servers w.rest) (message.Start (new_thread (next_thread w.rest) pc vs)) a

    spawns : (cs : WithRoom (ℕ × Bool)) (pc : ℕ) (h : Hand) → Sent 0 h → SentIn (spawn servers cs pc h)
    spawns cs pc h a =
        done_sends 1 _ _ (omega arith) (over_gives (Sent 1) (Sent 1) (then_some (capture false cs.items h.thread.slots) (spawn_with servers pc (next_thread h.work.rest) h)) go_on
        (then_gives (Sent 1) (capture false cs.items h.thread.slots) _ (λ new q.
        over_gives (Sent 0) (Sent 1) (begun h) _ (test_gives (Sent 0) (can_begin h.work.rest.tasks (next_thread h.work.rest)) _ (λ on. a)) (λ h2 b. starts 0 pc new.0 h2.work b))) (λ h2 b. b))

    pars : (cs : WithRoom (ℕ × Bool)) (pc : ℕ) (ds : WithRoom (ℕ × Bool)) (other : ℕ) (h : Hand) → Sent 0 h → SentIn (par servers cs pc ds other h)
    pars cs pc ds other h a =
        let x = next_thread h.work.rest in
        done_sends 2 _ _ (omega arith) (then_gives (Sent 2) (capture true cs.items h.thread.slots) _ (λ first p. then_gives (Sent 2) (capture true ds.items first.1) _ (λ second q.
        over_gives (Sent 0) (Sent 2) (pair_begun h x (x + 1)) _ (test_gives (Sent 0) (can_begin_pair h.work.rest.tasks h.thread.number x (x + 1)) _ (λ on. a))
        (λ h2 b. starts 1 other second.0 (start_thread servers pc first.0 h2.work) (starts 0 pc first.0 h2.work b)))))

    -- ALL INSTRUCTIONS

    commits : (i : Instr) (s : Spot) (h : Hand) → Sent 0 h → SentIn (commit servers i s h)
    commits (instr.Let o) s h g = goes_sends 0 _ (omega arith) (over_gives PoppedOk (Sent 0) (pop o h) _ (pops o h g) (λ p u. u))
    commits (instr.Assign w o) s h g = goes_sends 1 _ (omega arith) (assigns w w.depth o s h g)
    commits (instr.Read w take) s h g = goes_sends 0 _ (omega arith) (then_gives (Sent 0) (value_at h s) _ (λ v q. reads_as take s v (load_at s h) g))
    commits (instr.Borrow w) s h g = goes_sends 0 _ (omega arith) (borrows w w.depth s h g)
    commits (instr.BorrowMut w) s h g = goes_sends 0 _ (omega arith) (lends w w.depth s h g)
    commits (instr.Box o) s h g = goes_sends 0 _ (omega arith) (boxes_up o h g)
    commits (instr.Arith f a b) s h g = goes_sends 0 _ (omega arith) (calculates f a b h g)
    commits (instr.Print o) s h g = goes_sends 0 _ (omega arith) (prints o h g)
    commits instr.Discard s h g = goes_sends 1 _ (omega arith) (discards s h g)
    commits instr.DropSlot s h g = goes_sends 1 _ (omega arith) (drops_slot s h g)
    commits (instr.Spawn cs pc) s h g = spawns cs pc h g
    commits (instr.Join o) s h g = joins o h.thread.gift h g
    commits (instr.Mutex o) s h g = makes_mutex o h g
    commits (instr.Dup w) s h g = dups s h.thread.gift h g
    commits (instr.Lock w) s h g = locks s h.thread.gift h g
    commits instr.Unlock s h g = goes_sends 1 _ (omega arith) (unlocks h g)
    commits (instr.Par cs pc ds other) s h g = pars cs pc ds other h g
    commits instr.ParEnd s h g = goes_sends 0 _ (omega arith) (par_ends h.thread.phase h g)
    commits (instr.End o) s h g = ends o h g

    -- A WHOLE STEP

    abbrev SentStep : Stepped → Type 0
    SentStep d = Sent 2 d.hand

    commit_sends : (c : Committed) → SentIn c → Gives SentStep (committed c)
    commit_sends (done names h) a = over_gives (Sent 2) SentStep (settle h) (done_step names) (map_gives (Sent 2) (unpin_all h.thread.walk h.work.rest.cache) _ (λ cs q. a)) (λ h2 b. b)
    commit_sends (waits h) a = a
    commit_sends refused a = tt

    prepared_sends : (i : Instr) (p : Prepared) → Made (So 0 r) (So 1 r) p → Gives SentStep (prepared servers i p)
    prepared_sends i (ready h s) g = commit_sends (commit servers i s h) (commits i s h g)
    prepared_sends i (requested h) a = up 1 2 h.work (omega arith) a
    prepared_sends i nothing a = tt

    pub step_sends : (i : Instr) (h : Hand) → Sent 0 h → Gives SentStep (step servers i h)
    step_sends i h g = prepared_sends i (prepare (access_of i h.thread) h) (prepare_makes (access_of i h.thread) h (λ f. small) (λ w n h2 a. a) g)
