-- A plain step is one of the same thread: one line for each function of its definition.
use Rattle.std.proofs.Common.{◌≡◌, ℕ, zero, suc, ◌==◌, Bool, true, false, if◌then◌else◌, List, Option, Some, None, IfSome, option_map}
use Rattle.std.specs.Bool.{⊤}
use Rattle.std.specs.Prelude.{slice_get}
use Rattle.fr_base.specs.declared.instruction.Instr.{Instr}
use Rattle.fr_base.specs.declared.instruction.Instr.TheVariants as instr
use Rattle.fr_base.specs.declared.instruction.Operand.{Operand}
use Rattle.fr_base.specs.declared.instruction.Operand.TheVariants as operand
use Rattle.fr_base.specs.declared.place.Lval.{Lval}
use Rattle.fr_base.specs.declared.place.Op.{Op}
use Rattle.fr_base.specs.declared.step.Fresh.{Fresh}
use Rattle.heap_partition.specs.declared.value.Owned.{Owned}
use Rattle.heap_partition.specs.declared.value.Owned.TheVariants as owned
use Rattle.read_cache.specs.Cache.{can_unpin, unpin}
use Rattle.mutex_home.specs.Mutexes.{can_make, make, next_mutex}
use Rattle.join_home.specs.Tasks.{can_begin, begin, can_begin_pair, begin_pair}
use Rattle.journal.specs.declared.act.Act.TheVariants as act
use Rattle.mut_borrow.specs.Refs.{finish_word}
use Rattle.mut_borrow.specs.declared.shared.SharedRef.{SharedRef}
use Rattle.thread_state.specs.declared.phase.Phase.{Phase}
use Rattle.thread_state.specs.declared.phase.Phase.TheVariants as phase
use Rattle.thread_state.specs.declared.value.Value.{Value}
use Rattle.thread_state.specs.declared.value.Value.TheVariants as value
use Rattle.migration.specs.Packing.{unpin_all}
use Rattle.server_model.specs.Work.{Hand, Popped, with_cache, with_mutexes, with_tasks, working, push_temp, last_of, pop_temp, pop_slot, pop, taken_as, owned_of, int_of, task_of, pop_owned, pop_int, then_some}
use Rattle.server_model.specs.NewWords.{issue_placed}
use Rattle.server_model.specs.Places.{Spot, in_slot, on_top, in_cell, in_copy, nowhere, value_at, put_slot, second_of}
use Rattle.server_model.specs.Drop.{unpin_ref, finished_at, drop_value}
use Rattle.server_model.specs.Start.{capture, next_thread}
use Rattle.server_model.specs.Prepare.{Prepared, ready, requested, nothing, access_of, prepare}
use Rattle.server_model.specs.Commit.{Committed, done, waits, refused, done_where, go_on, waiting, label_dropped, replace_slot, store_at, replace_at, assign, take_out, read_as, read, shared_from, borrow_from, mutable_from, borrow_mut_from, discard, drop_slot, next_object, push_box, make_box, box_up, arith, begun, spawn_with, join, take_gift, pair_begun, par_with, par_end, end_with, end_thread, mutex_made, mutex, mutex_at, dup, lock, held_of, unlock, commit, settle}
use Rattle.server_model.specs.Events.{Stepped, committed, prepared, step}
use Rattle.server_core.proofs.KeptLemmas.{some_then, any_then, some_map, any_map, some_where, PreparedOk, puts, sets, prepares}

none_or : {X : Type 0} (P : X → Type 0) (b : Bool) (o : Option X) → IfSome o P → IfSome (if b then None else o) P
none_or P true o h = tt
none_or P false o h = h

module _ (n : ℕ) where
  abbrev Named : Hand → Type 0
  Named h = h.thread.number ≡ n

  abbrev OfIt : {X : Type 0} → Popped X → Type 0
  OfIt t = t.hand.thread.number ≡ n

  abbrev Is : ℕ → ℕ → ℕ → ℕ → Type 0
  Is number pc made started = number ≡ n

  abbrev Fine : Committed → Type 0
  Fine (done names h) = Named h
  Fine (waits h) = Named h
  Fine refused = ⊤

  done_fine : (f : Fresh) (o : Option Hand) → IfSome o Named → Fine (done_where f o)
  done_fine f None g = tt
  done_fine f (Some h) g = g

  waiting_fine : (o : Option Hand) → IfSome o Named → Fine (waiting o)
  waiting_fine None g = tt
  waiting_fine (Some h) g = g

  on_fine : (f : Fresh) (o : Option Hand) → IfSome o Named → Fine (done_where f (option_map go_on o))
  on_fine f None g = tt
  on_fine f (Some h) g = g

  -- OPERANDS

  pops_temp : (h : Hand) → Named h → IfSome (pop_temp h) OfIt
  pops_temp h g = any_map OfIt (last_of h.thread.temps) _ (λ v. g)

  pops_slot : (h : Hand) → Named h → IfSome (pop_slot h) OfIt
  pops_slot h g = any_map OfIt (last_of h.thread.slots) _ (λ v. g)

  takes_as : {X : Type 0} (f : Value → Option X) (o : Option (Popped Value)) → IfSome o OfIt → IfSome (then_some o (taken_as f)) OfIt
  takes_as f o g = some_then OfIt OfIt o (taken_as f) g (λ t u. any_map OfIt (f t.item) _ (λ x. u))

  pops : (o : Operand) (h : Hand) → Named h → IfSome (pop o h) OfIt
  pops (operand.Const k) h g = g
  pops operand.Unit h g = g
  pops operand.Pop h g = pops_temp h g

  pops_owned : (o : Operand) (h : Hand) → Named h → IfSome (pop_owned o h) OfIt
  pops_owned o h g = takes_as owned_of (pop o h) (pops o h g)

  pops_int : (o : Operand) (h : Hand) → Named h → IfSome (pop_int o h) OfIt
  pops_int o h g = takes_as int_of (pop o h) (pops o h g)

  -- DROPS

  unpins : (r : SharedRef) (b : Bool) (h : Hand) → Named h → IfSome (unpin_ref r b h) Named
  unpins r true h g = some_where Named (can_unpin h.work.rest.cache r.word) (Some (working (with_cache (unpin h.work.rest.cache r.word)) h)) g
  unpins r false h g = g

  finished : (s : Spot) (o : Option ℕ) (h : Hand) → Named h → IfSome (finished_at s o h) Named
  finished s None h g = g
  finished s (Some w) h g = sets Is s w h g

  drops : (s : Spot) (v : Value) (h : Hand) → Named h → IfSome (drop_value s v h) Named
  drops s (value.Own v) h g = g
  drops s (value.Shared r) h g = unpins r r.pinned h g
  drops s (value.Mut r) h g = none_or Named r.dirty (finished_at s (finish_word r) h) (finished s (finish_word r) h g)
  drops s _ h g = g

  -- SLOTS AND PLACES

  replaces_slot : (i : ℕ) (s : Spot) (v : Value) (h : Hand) → Named h → IfSome (replace_slot i s v h) Named
  replaces_slot i s v h g =
      any_then Named (slice_get h.thread.slots i) _ (λ old. some_then Named Named (put_slot i v (label_dropped old h)) (drop_value s old) (puts Is (in_slot i) v (label_dropped old h) g) (λ k u. drops s old k u))

  stores : (s : Spot) (v : Owned) (h : Hand) → Named h → IfSome (store_at s v h) Named
  stores s v h g = puts Is s (value.Own v) _ g

  replaces : (s : Spot) (v : Owned) (h : Hand) → Named h → IfSome (replace_at s v h) Named
  replaces s v h g = any_then Named (value_at h s) _ (λ old. some_then Named Named (store_at s v (label_dropped old h)) (drop_value nowhere old) (stores s v (label_dropped old h) g) (λ k u. drops nowhere old k u))

  assigns : (w : Lval) (d : ℕ) (o : Operand) (s : Spot) (h : Hand) → Named h → IfSome (assign w d o s h) Named
  assigns w zero o s h g = some_then OfIt Named (pop o h) _ (pops o h g) (λ t u. replaces_slot w.slot s t.item t.hand u)
  assigns w (suc d) o s h g = some_then OfIt Named (pop_owned o h) _ (pops_owned o h g) (λ t u. replaces s t.item t.hand u)

  takes_out : (s : Spot) (h : Hand) → Named h → IfSome (take_out s h) Named
  takes_out (in_slot i) h g = puts Is (in_slot i) value.Gone h g
  takes_out on_top h g = stores on_top owned.Nothing h g
  takes_out (in_cell w through) h g = stores (in_cell w through) owned.Nothing h g
  takes_out (in_copy w) h g = stores (in_copy w) owned.Nothing h g
  takes_out nowhere h g = stores nowhere owned.Nothing h g

  reads_as : (take : Bool) (s : Spot) (v : Value) (h : Hand) → Named h → IfSome (read_as take s v h) Named
  reads_as false s v h g = any_map Named (second_of v) _ (λ u. g)
  reads_as true s v h g = some_map Named Named (take_out s h) _ (takes_out s h g) (λ k u. u)

  reads : (take : Bool) (s : Spot) (h : Hand) → Named h → IfSome (read take s h) Named
  reads take s h g = any_then Named (value_at h s) _ (λ v. reads_as take s v _ g)

  borrows : (w : Lval) (d : ℕ) (s : Spot) (h : Hand) → Named h → IfSome (borrow_from w d s h) Named
  borrows w zero s h g = g
  borrows w (suc d) s h g = any_then Named (value_at h s) _ (λ v. any_map Named (shared_from v) _ (λ r. g))

  borrows_mut : (w : Lval) (d : ℕ) (s : Spot) (h : Hand) → Named h → IfSome (borrow_mut_from w d s h) Named
  borrows_mut w zero s h g = g
  borrows_mut w (suc d) s h g = any_then Named (value_at h s) _ (λ v. any_map Named (mutable_from h.thread.phase (record w { depth = d }) v) _ (λ r. g))

  discards : (s : Spot) (h : Hand) → Named h → IfSome (discard s h) Named
  discards s h g = some_then OfIt Named (pop_temp h) _ (pops_temp h g) (λ t u. drops s t.item _ u)

  drops_slot : (s : Spot) (h : Hand) → Named h → IfSome (drop_slot s h) Named
  drops_slot s h g = some_then OfIt Named (pop_slot h) _ (pops_slot h g) (λ t u. drops s t.item _ u)

  -- OBJECTS AND NUMBERS

  makes_box : (v : Owned) (h : Hand) → Named h → IfSome (make_box v h) Named
  makes_box v h g = any_map Named (issue_placed (act.Make (next_object h)) (record { object = next_object h; value = v }) h.work) (λ k. push_box v k h) (λ k. g)

  boxes : (o : Operand) (h : Hand) → Named h → IfSome (box_up o h) Named
  boxes o h g = some_then OfIt Named (pop_owned o h) _ (pops_owned o h g) (λ t u. makes_box t.item t.hand u)

  counts : (f : Op) (a b : Operand) (h : Hand) → Named h → IfSome (arith f a b h) Named
  counts f a b h g = some_then OfIt Named (pop_int b h) _ (pops_int b h g) (λ y u. some_map OfIt Named (pop_int a y.hand) _ (pops_int a y.hand u) (λ x v. v))

  -- THREADS

  spawns : (servers pc u : ℕ) (h : Hand) (new : List Value × List Value) → Named h → IfSome (spawn_with servers pc u h new) Named
  spawns servers pc u h new g =
      some_map Named Named (begun h) _
      (some_where Named (can_begin h.work.rest.tasks (next_thread h.work.rest)) (Some (working (with_tasks (begin h.work.rest.tasks (next_thread h.work.rest))) h)) g)
      (λ k v. v)

  joins : (o : Operand) (gift : Option Owned) (h : Hand) → Named h → Fine (join o gift h)
  joins o None h g = waiting_fine _ (any_map Named (then_some (pop o h) (λ t. task_of t.item)) _ (λ u. g))
  joins o (Some result) h g = on_fine _ _ (some_map OfIt Named (then_some (pop o (take_gift h)) (taken_as task_of)) _ (takes_as task_of (pop o (take_gift h)) (pops o (take_gift h) g)) (λ t u. u))

  pairs : (servers pc other a b : ℕ) (h : Hand) (first : List Value) (second : List Value × List Value) → Named h → IfSome (par_with servers pc other a b h first second) Named
  pairs servers pc other a b h first second g =
      some_map Named Named (pair_begun h a b) _
      (some_where Named (can_begin_pair h.work.rest.tasks h.thread.number a b) (Some (working (with_tasks (begin_pair h.work.rest.tasks h.thread.number a b)) h)) g)
      (λ k u. u)

  pair_ends : (p : Phase) (h : Hand) → Named h → IfSome (par_end p h) Named
  pair_ends (phase.GotPar a b) h g = g
  pair_ends _ h g = tt

  ends_with : (b : Bool) (v : Owned) (h : Hand) → Named h → IfSome (end_with b v h) Named
  ends_with true v h g = g
  ends_with false v h g = g

  ends : (o : Operand) (h : Hand) → Named h → Fine (end_thread o h)
  ends o h g =
      done_fine _ _
      (some_map Named Named (then_some (pop_owned o h) (λ t. end_with (h.thread.number == 0) t.item t.hand)) _
      (some_then OfIt Named (pop_owned o h) _ (pops_owned o h g) (λ t u. ends_with (h.thread.number == 0) t.item t.hand u)) (λ k u. u))

  -- MUTEXES

  makes_mutex : (v : Owned) (h : Hand) → Named h → IfSome (mutex_made v h) Named
  makes_mutex v h g =
      some_where Named (can_make h.work.rest.mutexes) (Some (push_temp (value.Own (owned.Mutex (next_mutex h.work.rest.mutexes))) (working (with_mutexes (make h.work.rest.mutexes v)) h))) g

  mutexes : (o : Operand) (h : Hand) → Named h → Fine (mutex o h)
  mutexes o h g = on_fine _ _ (some_then OfIt Named (pop_owned o h) _ (pops_owned o h g) (λ t u. makes_mutex t.item t.hand u))

  dups : (s : Spot) (gift : Option Owned) (h : Hand) → Named h → Fine (dup s gift h)
  dups s None h g = waiting_fine _ (any_map Named (mutex_at h s) _ (λ m. g))
  dups s (Some share) h g = on_fine _ _ (any_map Named (mutex_at h s) _ (λ m. g))

  locks : (s : Spot) (gift : Option Owned) (h : Hand) → Named h → Fine (lock s gift h)
  locks s None h g = waiting_fine _ (any_map Named (mutex_at h s) _ (λ m. g))
  locks s (Some content) h g = on_fine _ _ (any_map Named (mutex_at h s) _ (λ m. g))

  unlocks : (h : Hand) → Named h → IfSome (unlock h) Named
  unlocks h g =
      some_then OfIt Named (then_some (pop_slot h) (taken_as owned_of)) _ (takes_as owned_of (pop_slot h) (pops_slot h g))
      (λ v u. some_map OfIt Named (then_some (pop_slot v.hand) (taken_as held_of)) _ (takes_as held_of (pop_slot v.hand) (pops_slot v.hand u)) (λ m k. k))

  -- ALL INSTRUCTIONS

  commits : (servers : ℕ) (i : Instr) (s : Spot) (h : Hand) → Named h → Fine (commit servers i s h)
  commits k (instr.Let o) s h g = on_fine _ _ (some_map OfIt Named (pop o h) _ (pops o h g) (λ t u. u))
  commits k (instr.Assign w o) s h g = on_fine _ _ (assigns w w.depth o s h g)
  commits k (instr.Read w take) s h g = on_fine _ _ (reads take s h g)
  commits k (instr.Borrow w) s h g = on_fine _ _ (borrows w w.depth s h g)
  commits k (instr.BorrowMut w) s h g = on_fine _ _ (borrows_mut w w.depth s h g)
  commits k (instr.Box o) s h g = on_fine _ _ (boxes o h g)
  commits k (instr.Arith f a b) s h g = on_fine _ _ (counts f a b h g)
  commits k (instr.Print o) s h g = on_fine _ _ (some_map OfIt Named (pop_int o h) _ (pops_int o h g) (λ t u. u))
  commits k instr.Discard s h g = on_fine _ _ (discards s h g)
  commits k instr.DropSlot s h g = on_fine _ _ (drops_slot s h g)
  commits k (instr.Spawn cs pc) s h g = on_fine _ _ (any_then Named (capture false cs.items h.thread.slots) _ (λ new. spawns k pc _ h new g))
  commits k (instr.Join o) s h g = joins o h.thread.gift h g
  commits k (instr.Mutex o) s h g = mutexes o h g
  commits k (instr.Dup w) s h g = dups s h.thread.gift h g
  commits k (instr.Lock w) s h g = locks s h.thread.gift h g
  commits k instr.Unlock s h g = on_fine _ _ (unlocks h g)
  commits k (instr.Par cs pc ds other) s h g =
      done_fine _ _ (any_then Named (capture true cs.items h.thread.slots) _ (λ first. any_then Named (capture true ds.items first.1) _ (λ second. pairs k pc other _ _ h first.0 second g)))
  commits k instr.ParEnd s h g = on_fine _ _ (pair_ends h.thread.phase h g)
  commits k (instr.End o) s h g = ends o h g

  -- STEPS

  abbrev OfStep : Stepped → Type 0
  OfStep d = d.hand.thread.number ≡ n

  committed_named : (c : Committed) → Fine c → IfSome (committed c) OfStep
  committed_named (done names h) g = some_map Named OfStep (settle h) _ (any_map Named (unpin_all h.thread.walk h.work.rest.cache) _ (λ cs. g)) (λ k u. u)
  committed_named (waits h) g = g
  committed_named refused g = tt

  prepared_named : (servers : ℕ) (i : Instr) (x : Prepared) → PreparedOk Named x → IfSome (prepared servers i x) OfStep
  prepared_named servers i (ready h s) g = committed_named (commit servers i s h) (commits servers i s h g)
  prepared_named servers i (requested h) g = g
  prepared_named servers i nothing g = tt

  -- a step is one of the thread that steps
  pub steps : (servers : ℕ) (i : Instr) (h : Hand) → Named h → IfSome (step servers i h) OfStep
  steps servers i h g = prepared_named servers i (prepare (access_of i h.thread) h) (prepares Is (access_of i h.thread) h g)
