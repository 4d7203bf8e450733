-- The plain step of each instruction, once for any fact that each small step keeps.
use Rattle.std.proofs.Common.{◌≡◌, ℕ, ℤ, zero, suc, ◌+◌, ◌-◌, ◌==◌, Bool, true, false, if◌then◌else◌, List, [], ◌∷◌, ◌++◌, Option, Some, None, refl}
use Rattle.std.specs.Prelude.{slice_get, length, option_map}
use Rattle.std.specs.Bool.{⊤}
use Rattle.law_counts_sums.specs.Below.fr_base.Rooms.{WithRoom}
use Rattle.law_counts_sums.specs.Below.fr_base.declared.name.MutexNo.{MutexNo}
use Rattle.law_counts_sums.specs.Below.fr_base.declared.place.Lval.{Lval}
use Rattle.law_counts_sums.specs.Below.fr_base.declared.place.Op.{Op}
use Rattle.law_counts_sums.specs.Below.fr_base.declared.step.Fresh.{Fresh}
use Rattle.law_counts_sums.specs.Below.fr_base.declared.instruction.Instr.{Instr}
use Rattle.law_counts_sums.specs.Below.fr_base.declared.instruction.Instr.TheVariants as instr
use Rattle.law_counts_sums.specs.Below.fr_base.declared.instruction.Operand.{Operand}
use Rattle.law_counts_sums.specs.Below.fr_base.declared.instruction.Operand.TheVariants as operand
use Rattle.law_counts_sums.specs.Below.fr_plain.Acts.{result_of}
use Rattle.law_counts_sums.specs.Below.heap_partition.declared.value.Owned.{Owned}
use Rattle.law_counts_sums.specs.Below.heap_partition.declared.value.Owned.TheVariants as owned
use Rattle.law_counts_sums.specs.Below.read_cache.Cache.{Copy, can_unpin, unpin}
use Rattle.law_counts_sums.specs.Below.mut_borrow.Refs.{finish_word}
use Rattle.law_counts_sums.specs.Below.mut_borrow.declared.shared.SharedRef.{SharedRef}
use Rattle.law_counts_sums.specs.Below.mut_borrow.declared.mutable.MutRef.{MutRef}
use Rattle.law_counts_sums.specs.Below.migration.Packing.{unpin_all}
use Rattle.law_counts_sums.specs.Below.thread_state.View.{ThreadState}
use Rattle.law_counts_sums.specs.Below.thread_state.declared.phase.Phase.{Phase}
use Rattle.law_counts_sums.specs.Below.thread_state.declared.phase.Phase.TheVariants as phase
use Rattle.law_counts_sums.specs.Below.thread_state.declared.value.Value.{Value}
use Rattle.law_counts_sums.specs.Below.thread_state.declared.value.Value.TheVariants as value
use Rattle.law_counts_sums.specs.Below.server_model.Servers.{Rest}
use Rattle.law_counts_sums.specs.Below.server_model.Work.{Hand, Popped, last_of, front_of, push_slot, push_temp, pop_temp, pop_slot, pop, pop_owned, pop_int, taken_as, owned_of, int_of, task_of, mutex_of, then_some, working, with_cache, with_phase, label_all}
use Rattle.law_counts_sums.specs.Below.server_model.Places.{Spot, in_slot, on_top, in_cell, in_copy, nowhere, cell_at, value_at, load_at, put_slot, second_of}
use Rattle.law_counts_sums.specs.Below.server_model.Drop.{give_up, unpin_ref, finished_at, drop_value}
use Rattle.law_counts_sums.specs.Below.server_model.Start.{next_thread, capture}
use Rattle.law_counts_sums.specs.Below.server_model.Commit.{Committed, done, waits, refused, done_where, go_on, goes_on, waiting, let_slot, label_dropped, replace_slot, store_labels, store_at, replace_at, assign, take_out, read, shared_from, borrow_from, mutable_from, borrow_mut_from, discard, drop_slot, make_box, box_up, arith as calculate, print, spawn_with, ask_join, take_gift, join, par_with, par_end, end_with, end_thread, mutex_made, mutex, mutex_at, ask_dup, dup, ask_lock, push_content, lock, held_of, send_content, unlock, commit, settle}
use Rattle.law_counts_sums.specs.Below.server_model.Prepare.{Prepared, ready, requested, nothing, access_of, prepare}
use Rattle.law_counts_sums.specs.Below.server_model.Events.{Stepped, done_step, committed, prepared, step}
use Rattle.law_counts_sums.specs.Laws.{Gives}
use Rattle.law_counts_sums.proofs.Results.{then_gives, map_gives, over_gives, bind_gives, test_gives}
use Rattle.law_counts_things.proofs.things.Small.{Of, owned_lies, Places, Small, Passes, Follows, Writes, Made, pointer_put, prepare_makes}

-- the step is done at its end: nothing of its walk is kept
abbrev pub Settles : (Rest → ThreadState → Type 0) → Hand → Type 0
Settles E h = (cs : List Copy) → unpin_all h.thread.walk h.work.rest.cache ≡ Some cs → E (record h.work.rest { cache = cs }) (record h.thread { passed = 0; walk = []; moved_since_step = false })

-- an instruction after which its thread is ready at the next one
abbrev pub Onward : Instr → Type 0
Onward (instr.Par cs pc ds other) = ⊥
Onward (instr.End o) = ⊥
Onward i = ⊤

-- the same, but for those that give a new name
abbrev pub Quiet : Instr → Type 0
Quiet (instr.Box o) = ⊥
Quiet (instr.Mutex o) = ⊥
Quiet (instr.Spawn cs pc) = ⊥
Quiet i = Onward i

pub quiet_onward : (i : Instr) → Quiet i → Onward i
quiet_onward (instr.Box o) q = absurd q
quiet_onward (instr.Mutex o) q = absurd q
quiet_onward (instr.Spawn cs pc) q = absurd q
quiet_onward i q = q

-- where the instruction moves what stands at the spot, that may be a temporary value
abbrev pub Moves : (Value → Type 0) → Instr → Spot → Hand → Type 0
Moves T (instr.Read w true) s h = (v : Value) → value_at h s ≡ Some v → T v
Moves T i s h = ⊤

pub moves_by : {T : Value → Type 0} (i : Instr) (s : Spot) (h : Hand) → ((w : Lval) → i ≡ instr.Read w true → (v : Value) → value_at h s ≡ Some v → T v) → Moves T i s h
moves_by (instr.Read w true) s h m = m w refl
moves_by i s h m = tt

-- what the plain step of an instruction does with values, slots and messages keeps the fact, and at its end what is wanted then holds; some values may be temporary ones
pub record Acts (n : ℕ) (F E : Rest → ThreadState → Type 0) (V T : Value → Type 0) (W : ℕ → Type 0) (i : Instr) : Type 0 where
  pub places : Places F V W
  -- values
  pub number : (n : ℤ) → V (value.Own (owned.Int n))
  pub unit_value : V (value.Own owned.Unit)
  pub nothing_value : V (value.Own owned.Nothing)
  pub gone : V value.Gone
  pub owned_temp : (v : Owned) → V (value.Own v) → T (value.Own v)
  pub shared_slot : (j : ℕ) → T (value.SharedSlot j)
  pub mutable_slot : (j : ℕ) → T (value.MutSlot j)
  pub second : (v u : Value) → V v → second_of v ≡ Some u → T u
  pub shared : (v u : Value) → V v → shared_from v ≡ Some u → T u
  pub lent : (w : Lval) (d : ℕ) → i ≡ instr.BorrowMut w → w.depth ≡ suc d → (v u : Value) (h : Hand) → V v → Of F h → mutable_from h.thread.phase (record w { depth = d }) v ≡ Some u → T u
  -- slots and temporary values
  pub off_temps : (h : Hand) → Of F h → F h.work.rest (record h.thread { temps = front_of h.thread.temps })
  pub off_slots : (h : Hand) → Of F h → F h.work.rest (record h.thread { slots = front_of h.thread.slots })
  pub on_temps : (v : Value) (h : Hand) → T v → Of F h → F h.work.rest (record h.thread { temps = h.thread.temps ++ v ∷ [] })
  pub on_slots : (v : Value) (h : Hand) → V v → Of F h → F h.work.rest (record h.thread { slots = h.thread.slots ++ v ∷ [] })
  pub gives : (v : Owned) (h : Hand) → V (value.Own v) → Of F h → Of F (working (give_up v) h)
  pub unpins : (w : ℕ) (h : Hand) → can_unpin h.work.rest.cache w ≡ true → Of F h → F (record h.work.rest { cache = unpin h.work.rest.cache w }) h.thread
  pub gift : (v : Owned) (h : Hand) → h.thread.gift ≡ Some v → Of F h → V (value.Own v) × F h.work.rest (record h.thread { gift = None })
  -- what single instructions do
  pub boxes : (o : Operand) → i ≡ instr.Box o → (v : Owned) (h : Hand) → V (value.Own v) → Of F h → Gives (λ h2. Settles E (go_on h2)) (make_box v h)
  pub mutexes : (o : Operand) → i ≡ instr.Mutex o → (v : Owned) (h : Hand) → V (value.Own v) → Of F h → Gives (λ h2. Settles E (go_on h2)) (mutex_made v h)
  pub spawns : (cs : WithRoom (ℕ × Bool)) (pc : ℕ) → i ≡ instr.Spawn cs pc → (h : Hand) → Of F h
      → Gives (λ h2. Settles E (go_on h2)) (then_some (capture false cs.items h.thread.slots) (spawn_with n pc (next_thread h.work.rest) h))
  pub unlocks : i ≡ instr.Unlock → (m : MutexNo) (v : Owned) (h : Hand) → V (value.Held m) → V (value.Own v) → Of F h → Of F (send_content m v h)
  pub holds : (w : Lval) → i ≡ instr.Lock w → (m : MutexNo) → V (value.Own (owned.Mutex m)) → V (value.Held m)
  -- ends
  pub goes : Quiet i → (h : Hand) → Of F h → Settles E (go_on h)
  pub pairs : (cs : WithRoom (ℕ × Bool)) (pc : ℕ) (ds : WithRoom (ℕ × Bool)) (other : ℕ) → i ≡ instr.Par cs pc ds other → (h : Hand) → Of F h
      → Gives (Settles E) (then_some (capture true cs.items h.thread.slots) (λ first. then_some (capture true ds.items first.1) (par_with n pc other (next_thread h.work.rest) (next_thread h.work.rest + 1) h first.0)))
  pub ends : (o : Operand) → i ≡ instr.End o → (main : Bool) (v : Owned) (h : Hand) → V (value.Own v) → Of F h → Gives (λ h2. Settles E (with_phase phase.Over h2)) (end_with main v h)
  -- requests
  pub asks_join : (o : Operand) → i ≡ instr.Join o → (u : ℕ) (h : Hand) → h.thread.gift ≡ None → V (value.Own (owned.Task u)) → Of F h → Of E (ask_join h u)
  pub asks_dup : (w : Lval) → i ≡ instr.Dup w → (m : MutexNo) (h : Hand) → h.thread.gift ≡ None → V (value.Own (owned.Mutex m)) → Of F h → Of E (ask_dup h m)
  pub asks_lock : (w : Lval) → i ≡ instr.Lock w → (m : MutexNo) (h : Hand) → h.thread.gift ≡ None → V (value.Own (owned.Mutex m)) → Of F h → Of E (ask_lock h m)

-- what became of the plain step
abbrev pub Ends : (Rest → ThreadState → Type 0) → Committed → Type 0
Ends E (done names h) = Settles E h
Ends E (waits h) = Of E h
Ends E refused = ⊤

module _ {n : ℕ} {F E : Rest → ThreadState → Type 0} {V T : Value → Type 0} {W : ℕ → Type 0} {i : Instr} (k : Acts n F E V T W i) where
  abbrev Good : Hand → Type 0
  Good = Of F

  done_ends : (names : Fresh) (o : Option Hand) → Gives (Settles E) o → Ends E (done_where names o)
  done_ends names None g = tt
  done_ends names (Some h) g = g

  goes_ends : Quiet i → (o : Option Hand) → Gives Good o → Ends E (goes_on o)
  goes_ends on None g = tt
  goes_ends on (Some h) g = k.goes on h g

  names_end : (names : Fresh) (o : Option Hand) → Gives (λ h2. Settles E (go_on h2)) o → Ends E (done_where names (option_map go_on o))
  names_end names None g = tt
  names_end names (Some h) g = g

  waits_end : (o : Option Hand) → Gives (Of E) o → Ends E (waiting o)
  waits_end None g = tt
  waits_end (Some h) g = g

  -- VALUES TAKEN OUT

  abbrev Out : {X : Type 0} → (X → Type 0) → Popped X → Type 0
  Out P p = P p.item × Good p.hand

  pops_temp : (h : Hand) → Good h → Gives (Out V) (pop_temp h)
  pops_temp h g = let kept = k.places in map_gives (Out V) (last_of h.thread.temps) _ (λ v q. (kept.spot on_top v h g q, k.off_temps h g))

  pops_slot : (h : Hand) → Good h → Gives (Out V) (pop_slot h)
  pops_slot h g = let kept = k.places in map_gives (Out V) (last_of h.thread.slots) _ (λ v q. (kept.spot (in_slot (length h.thread.slots - 1)) v h g q, k.off_slots h g))

  pops : (o : Operand) (h : Hand) → Good h → Gives (Out V) (pop o h)
  pops (operand.Const m) h g = (k.number m, g)
  pops operand.Unit h g = (k.unit_value, g)
  pops operand.Pop h g = pops_temp h g

  takes_as : {X : Type 0} (P : X → Type 0) (f : Value → Option X) → ((v : Value) → V v → Gives P (f v)) → (o : Option (Popped Value)) → Gives (Out V) o → Gives (Out P) (then_some o (taken_as f))
  takes_as P f known o g = bind_gives (Out V) (Out P) o (taken_as f) g (λ p u. over_gives P (Out P) (f p.item) (λ x. record { item = x; hand = p.hand }) (known p.item u.0) (λ x a. (a, u.1)))

  abbrev IsOwned : Owned → Type 0
  IsOwned v = V (value.Own v)

  abbrev IsTask : ℕ → Type 0
  IsTask u = V (value.Own (owned.Task u))

  abbrev IsMutex : MutexNo → Type 0
  IsMutex m = V (value.Own (owned.Mutex m))

  abbrev IsHeld : MutexNo → Type 0
  IsHeld m = V (value.Held m)

  abbrev NoMatter : ℤ → Type 0
  NoMatter m = ⊤

  owned_kept : (v : Value) → V v → Gives IsOwned (owned_of v)
  owned_kept (value.Own v) a = a
  owned_kept _ a = tt

  task_kept : (v : Value) → V v → Gives IsTask (task_of v)
  task_kept (value.Own (owned.Task t)) a = a
  task_kept _ a = tt

  mutex_kept : (v : Value) → V v → Gives IsMutex (mutex_of v)
  mutex_kept (value.Own (owned.Mutex m)) a = a
  mutex_kept _ a = tt

  held_kept : (v : Value) → V v → Gives IsHeld (held_of v)
  held_kept (value.Held m) a = a
  held_kept _ a = tt

  int_kept : (v : Value) → V v → Gives NoMatter (int_of v)
  int_kept (value.Own (owned.Int m)) a = tt
  int_kept _ a = tt

  pops_owned : (o : Operand) (h : Hand) → Good h → Gives (Out IsOwned) (pop_owned o h)
  pops_owned o h g = takes_as IsOwned owned_of owned_kept (pop o h) (pops o h g)

  pops_int : (o : Operand) (h : Hand) → Good h → Gives (Out NoMatter) (pop_int o h)
  pops_int o h g = takes_as NoMatter int_of int_kept (pop o h) (pops o h g)

  -- VALUES DROPPED

  unpins_ref : (q : SharedRef) (b : Bool) (h : Hand) → Good h → Gives Good (unpin_ref q b h)
  unpins_ref q false h g = g
  unpins_ref q true h g = test_gives Good (can_unpin h.work.rest.cache q.word) _ (λ on. k.unpins q.word h on g)

  finishes_at : (holder : Spot) (o : Option ℕ) (h : Hand) → Gives W o → Good h → Gives Good (finished_at holder o h)
  finishes_at holder None h a g = g
  finishes_at holder (Some w) h a g = pointer_put k.places holder w h a g

  finishing : (q : MutRef) → V (value.Mut q) → Gives W (finish_word q)
  finishing q a = by (q.word == q.first)
    where
      by : (b : Bool) → Gives W (if b then None else Some q.word)
      by true = tt
      by false = let kept = k.places in kept.word_of q a

  finishes : (holder : Spot) (q : MutRef) (b : Bool) (h : Hand) → V (value.Mut q) → Good h → Gives Good (if b then None else finished_at holder (finish_word q) h)
  finishes holder q true h a g = tt
  finishes holder q false h a g = finishes_at holder (finish_word q) h (finishing q a) g

  drops : (holder : Spot) (v : Value) (h : Hand) → V v → Good h → Gives Good (drop_value holder v h)
  drops holder (value.Own v) h a g = k.gives v h a g
  drops holder (value.Shared q) h a g = unpins_ref q q.pinned h g
  drops holder (value.Mut q) h a g = finishes holder q q.dirty h a g
  drops holder value.Gone h a g = g
  drops holder (value.SharedSlot j) h a g = g
  drops holder (value.MutSlot j) h a g = g
  drops holder (value.Held m) h a g = g

  -- SLOTS AND PLACES

  slot_there : (j : ℕ) (h : Hand) (v : Value) → Good h → slice_get h.thread.slots j ≡ Some v → V v
  slot_there j h v g e = let kept = k.places in kept.spot (in_slot j) v h g e

  replaces_slot : (j : ℕ) (holder : Spot) (v : Value) (h : Hand) → V v → Good h → Gives Good (replace_slot j holder v h)
  replaces_slot j holder v h a g =
      let kept = k.places in
      then_gives Good (slice_get h.thread.slots j) _ (λ old q.
      bind_gives Good Good (put_slot j v (label_dropped old h)) (drop_value holder old) (kept.puts (in_slot j) v (label_dropped old h) tt a g) (λ h2 u. drops holder old h2 (slot_there j h old g q) u))

  stores : (s : Spot) (v : Owned) (h : Hand) → IsOwned v → Good h → Gives Good (store_at s v h)
  stores s v h a g = let kept = k.places in kept.puts s (value.Own v) (working (label_all (store_labels (cell_at h s) v)) h) (owned_lies s v) a g

  replaces_at : (s : Spot) (v : Owned) (h : Hand) → IsOwned v → Good h → Gives Good (replace_at s v h)
  replaces_at s v h a g =
      let kept = k.places in
      then_gives Good (value_at h s) _ (λ old q. bind_gives Good Good (store_at s v (label_dropped old h)) (drop_value nowhere old) (stores s v (label_dropped old h) a g) (λ h2 u. drops nowhere old h2 (kept.spot s old h g q) u))

  assigns : (w : Lval) (d : ℕ) (o : Operand) (s : Spot) (h : Hand) → Good h → Gives Good (assign w d o s h)
  assigns w zero o s h g = bind_gives (Out V) Good (pop o h) _ (pops o h g) (λ p u. replaces_slot w.slot s p.item p.hand u.0 u.1)
  assigns w (suc d) o s h g = bind_gives (Out IsOwned) Good (pop_owned o h) _ (pops_owned o h g) (λ p u. replaces_at s p.item p.hand u.0 u.1)

  takes_out : (s : Spot) (h : Hand) → Good h → Gives Good (take_out s h)
  takes_out (in_slot j) h g = let kept = k.places in kept.puts (in_slot j) value.Gone h tt k.gone g
  takes_out on_top h g = let kept = k.places in kept.puts on_top (value.Own owned.Nothing) (working (label_all (store_labels (cell_at h on_top) owned.Nothing)) h) tt k.nothing_value g
  takes_out (in_cell w through) h g = stores (in_cell w through) owned.Nothing h k.nothing_value g
  takes_out (in_copy w) h g = tt
  takes_out nowhere h g = tt

  copies : (s : Spot) (h : Hand) → Good h → Gives Good (read false s h)
  copies s h g = let kept = k.places in then_gives Good (value_at h s) _ (λ v q. map_gives Good (second_of v) _ (λ u e. k.on_temps u (load_at s h) (k.second v u (kept.spot s v h g q) e) g))

  moves : (s : Spot) (h : Hand) → ((v : Value) → value_at h s ≡ Some v → T v) → Good h → Gives Good (read true s h)
  moves s h m g = then_gives Good (value_at h s) _ (λ v q. over_gives Good Good (take_out s (load_at s h)) (push_temp v) (takes_out s (load_at s h) g) (λ h2 u. k.on_temps v h2 (m v q) u))

  borrows : (w : Lval) (d : ℕ) (s : Spot) (h : Hand) → Good h → Gives Good (borrow_from w d s h)
  borrows w zero s h g = k.on_temps (value.SharedSlot w.slot) h (k.shared_slot w.slot) g
  borrows w (suc d) s h g = let kept = k.places in then_gives Good (value_at h s) _ (λ v q. map_gives Good (shared_from v) _ (λ u c. k.on_temps u h (k.shared v u (kept.spot s v h g q) c) g))

  lends : (w : Lval) (d : ℕ) (s : Spot) (h : Hand) → i ≡ instr.BorrowMut w → w.depth ≡ d → Good h → Gives Good (borrow_mut_from w d s h)
  lends w zero s h e z g = k.on_temps (value.MutSlot w.slot) h (k.mutable_slot w.slot) g
  lends w (suc d) s h e z g =
      let kept = k.places in
      then_gives Good (value_at h s) _ (λ v q. map_gives Good (mutable_from h.thread.phase (record w { depth = d }) v) _ (λ u c. k.on_temps u h (k.lent w d e z v u h (kept.spot s v h g q) g c) g))

  discards : (s : Spot) (h : Hand) → Good h → Gives Good (discard s h)
  discards s h g = bind_gives (Out V) Good (pop_temp h) _ (pops_temp h g) (λ p u. drops s p.item (label_dropped p.item p.hand) u.0 u.1)

  drops_slot : (s : Spot) (h : Hand) → Good h → Gives Good (drop_slot s h)
  drops_slot s h g = bind_gives (Out V) Good (pop_slot h) _ (pops_slot h g) (λ p u. drops s p.item (label_dropped p.item p.hand) u.0 u.1)

  -- OBJECTS, NUMBERS AND MUTEXES

  boxes_up : (o : Operand) (h : Hand) → i ≡ instr.Box o → Good h → Gives (λ h2. Settles E (go_on h2)) (box_up o h)
  boxes_up o h e g = bind_gives (Out IsOwned) (λ h2. Settles E (go_on h2)) (pop_owned o h) _ (pops_owned o h g) (λ p u. k.boxes o e p.item p.hand u.0 u.1)

  calculates : (f : Op) (a b : Operand) (h : Hand) → Good h → Gives Good (calculate f a b h)
  calculates f a b h g =
      bind_gives (Out NoMatter) Good (pop_int b h) _ (pops_int b h g) (λ y u.
      over_gives (Out NoMatter) Good (pop_int a y.hand) (λ x. push_temp (value.Own (owned.Int (result_of f x.item y.item))) x.hand) (pops_int a y.hand u.1) (λ x w.
      k.on_temps (value.Own (owned.Int (result_of f x.item y.item))) x.hand (k.owned_temp (owned.Int (result_of f x.item y.item)) (k.number (result_of f x.item y.item))) w.1))

  prints : (o : Operand) (h : Hand) → Good h → Gives Good (print o h)
  prints o h g = over_gives (Out NoMatter) Good (pop_int o h) _ (pops_int o h g) (λ p u. u.1)

  lets : (o : Operand) (h : Hand) → Good h → Gives Good (let_slot o h)
  lets o h g = over_gives (Out V) Good (pop o h) (λ p. push_slot p.item p.hand) (pops o h g) (λ p u. k.on_slots p.item p.hand u.0 u.1)

  makes_mutex : (o : Operand) (h : Hand) → i ≡ instr.Mutex o → Good h → Ends E (mutex o h)
  makes_mutex o h e g = names_end _ _ (bind_gives (Out IsOwned) (λ h2. Settles E (go_on h2)) (pop_owned o h) _ (pops_owned o h g) (λ p u. k.mutexes o e p.item p.hand u.0 u.1))

  mutex_there : (s : Spot) (h : Hand) → Good h → Gives IsMutex (mutex_at h s)
  mutex_there s h g = let kept = k.places in then_gives IsMutex (value_at h s) mutex_of (λ v q. mutex_kept v (kept.spot s v h g q))

  dups : Quiet i → (w : Lval) (s : Spot) (x : Option Owned) (h : Hand) → i ≡ instr.Dup w → h.thread.gift ≡ x → Good h → Ends E (dup s x h)
  dups on w s None h e q g = waits_end _ (over_gives IsMutex (Of E) (mutex_at h s) (ask_dup h) (mutex_there s h g) (λ m a. k.asks_dup w e m h q a g))
  dups on w s (Some v) h e q g = let got = k.gift v h q g in goes_ends on _ (map_gives Good (mutex_at h s) _ (λ m c. k.on_temps (value.Own v) (load_at s (take_gift h)) (k.owned_temp v got.0) got.1))

  locks : Quiet i → (w : Lval) (s : Spot) (x : Option Owned) (h : Hand) → i ≡ instr.Lock w → h.thread.gift ≡ x → Good h → Ends E (lock s x h)
  locks on w s None h e q g = waits_end _ (over_gives IsMutex (Of E) (mutex_at h s) (ask_lock h) (mutex_there s h g) (λ m a. k.asks_lock w e m h q a g))
  locks on w s (Some v) h e q g =
      let got = k.gift v h q g in
      goes_ends on _ (over_gives IsMutex Good (mutex_at h s) (push_content v (load_at s (take_gift h))) (mutex_there s h g) (λ m a.
      k.on_slots (value.Own v) (push_slot (value.Held m) (take_gift h)) got.0 (k.on_slots (value.Held m) (take_gift h) (k.holds w e m a) got.1)))

  unlocks : (h : Hand) → i ≡ instr.Unlock → Good h → Gives Good (unlock h)
  unlocks h e g =
      bind_gives (Out IsOwned) Good (then_some (pop_slot h) (taken_as owned_of)) _ (takes_as IsOwned owned_of owned_kept (pop_slot h) (pops_slot h g)) (λ v u.
      over_gives (Out IsHeld) Good (then_some (pop_slot v.hand) (taken_as held_of)) (λ m. send_content m.item v.item m.hand) (takes_as IsHeld held_of held_kept (pop_slot v.hand) (pops_slot v.hand u.1)) (λ m w.
      k.unlocks e m.item v.item m.hand w.0 u.0 w.1))

  -- THREADS

  joins : Quiet i → (o : Operand) (x : Option Owned) (h : Hand) → i ≡ instr.Join o → h.thread.gift ≡ x → Good h → Ends E (join o x h)
  joins on o None h e q g =
      waits_end _ (over_gives IsTask (Of E) (then_some (pop o h) (λ p. task_of p.item)) (ask_join h)
      (bind_gives (Out V) IsTask (pop o h) _ (pops o h g) (λ p u. task_kept p.item u.0)) (λ u a. k.asks_join o e u h q a g))
  joins on o (Some v) h e q g =
      let got = k.gift v h q g in
      goes_ends on _ (over_gives (Out IsTask) Good (then_some (pop o (take_gift h)) (taken_as task_of)) (λ p. push_temp (value.Own v) p.hand)
      (takes_as IsTask task_of task_kept (pop o (take_gift h)) (pops o (take_gift h) got.1)) (λ p u. k.on_temps (value.Own v) p.hand (k.owned_temp v got.0) u.1))

  pair_goes : (p : Phase) (h : Hand) → Good h → Gives Good (par_end p h)
  pair_goes (phase.GotPar a b) h g = g
  pair_goes _ h g = tt

  ends_thread : (o : Operand) (h : Hand) → i ≡ instr.End o → Good h → Ends E (end_thread o h)
  ends_thread o h e g = done_ends _ _ (by (then_some (pop_owned o h) (λ p. end_with (h.thread.number == 0) p.item p.hand)) (bind_gives (Out IsOwned) (λ h2. Settles E (with_phase phase.Over h2)) (pop_owned o h) _ (pops_owned o h g) (λ p u. k.ends o e (h.thread.number == 0) p.item p.hand u.0 u.1)))
    where
      by : (x : Option Hand) → Gives (λ h2. Settles E (with_phase phase.Over h2)) x → Gives (Settles E) (option_map (with_phase phase.Over) x)
      by None a = tt
      by (Some h2) a = a

-- A WHOLE STEP

-- what a step leaves is as is wanted
abbrev pub EndsStep : (Rest → ThreadState → Type 0) → Stepped → Type 0
EndsStep E d = Of E d.hand

module _ (E : Rest → ThreadState → Type 0) where
  settled : (names : Fresh) (h : Hand) → Settles E h → Gives (EndsStep E) (option_map (done_step names) (settle h))
  settled names h a = by (unpin_all h.thread.walk h.work.rest.cache) refl
    where
      by : (o : Option (List Copy)) → unpin_all h.thread.walk h.work.rest.cache ≡ o
          → Gives (EndsStep E) (option_map (done_step names) (option_map (λ cs. record { work = with_cache cs h.work; thread = record h.thread { passed = 0; walk = []; moved_since_step = false } }) o))
      by None q = tt
      by (Some cs) q = a cs q

  committing : (c : Committed) → Ends E c → Gives (EndsStep E) (committed c)
  committing (done names h) a = settled names h a
  committing (waits h) a = a
  committing refused a = tt

module _ {n : ℕ} {F E : Rest → ThreadState → Type 0} {V T : Value → Type 0} {W : ℕ → Type 0} where
  -- ALL INSTRUCTIONS

  pub commits : (i : Instr) (s : Spot) (h : Hand) → Acts n F E V T W i → Moves T i s h → Of F h → Ends E (commit n i s h)
  commits (instr.Let o) s h k m g = goes_ends k tt _ (lets k o h g)
  commits (instr.Assign w o) s h k m g = goes_ends k tt _ (assigns k w w.depth o s h g)
  commits (instr.Read w false) s h k m g = goes_ends k tt _ (copies k s h g)
  commits (instr.Read w true) s h k m g = goes_ends k tt _ (moves k s h m g)
  commits (instr.Borrow w) s h k m g = goes_ends k tt _ (borrows k w w.depth s h g)
  commits (instr.BorrowMut w) s h k m g = goes_ends k tt _ (lends k w w.depth s h refl refl g)
  commits (instr.Box o) s h k m g = names_end k _ _ (boxes_up k o h refl g)
  commits (instr.Arith f a b) s h k m g = goes_ends k tt _ (calculates k f a b h g)
  commits (instr.Print o) s h k m g = goes_ends k tt _ (prints k o h g)
  commits instr.Discard s h k m g = goes_ends k tt _ (discards k s h g)
  commits instr.DropSlot s h k m g = goes_ends k tt _ (drops_slot k s h g)
  commits (instr.Spawn cs pc) s h k m g = names_end k _ _ (k.spawns cs pc refl h g)
  commits (instr.Join o) s h k m g = joins k tt o h.thread.gift h refl refl g
  commits (instr.Mutex o) s h k m g = makes_mutex k o h refl g
  commits (instr.Dup w) s h k m g = dups k tt w s h.thread.gift h refl refl g
  commits (instr.Lock w) s h k m g = locks k tt w s h.thread.gift h refl refl g
  commits instr.Unlock s h k m g = goes_ends k tt _ (unlocks k h refl g)
  commits (instr.Par cs pc ds other) s h k m g = done_ends k _ _ (k.pairs cs pc ds other refl h g)
  commits instr.ParEnd s h k m g = goes_ends k tt _ (pair_goes k h.thread.phase h g)
  commits (instr.End o) s h k m g = ends_thread k o h refl g

  -- a thread goes on with its instruction: what is wanted at the end holds, whether the step is done or a request is sent
  pub steps : (i : Instr) (h : Hand) → (Follows (access_of i h.thread) → Small F E V W) → (Writes (access_of i h.thread) → Passes F) → Acts n F E V T W i
      → ((h2 : Hand) (s : Spot) → prepare (access_of i h.thread) h ≡ ready h2 s → Of F h2 → Moves T i s h2) → Of F h → Gives (EndsStep E) (step n i h)
  steps i h small passes k m g = by (prepare (access_of i h.thread) h) refl (prepare_makes (access_of i h.thread) h small passes g)
    where
      by : (p : Prepared) → prepare (access_of i h.thread) h ≡ p → Made F E p → Gives (EndsStep E) (prepared n i p)
      by (ready h2 s) e a = committing E (commit n i s h2) (commits i s h2 k (m h2 s e a) a)
      by (requested h2) e a = a
      by nothing e a = tt
