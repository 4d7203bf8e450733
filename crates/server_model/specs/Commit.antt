-- The plain step of an instruction whose place is ready (Featherweight Rust's reductions on servers; threads, mutexes, labels and
-- acts are this project's). A lock, a dup and a join without their answer send their request here.
use Rattle.std.specs.Prelude.{if◌then◌else◌, ℕ, zero, suc, ◌+◌, ◌==◌, Bool, true, false, List, [], ◌∷◌, Option, Some, None, slice_get, option_map}
use Rattle.fr_base.specs.declared.name.MutexNo.{MutexNo}
use Rattle.fr_base.specs.declared.name.ObjNo.{ObjNo}
use Rattle.fr_base.specs.declared.place.Lval.{Lval}
use Rattle.fr_base.specs.declared.place.Op.{Op}
use Rattle.fr_base.specs.declared.label.Label.{Label}
use Rattle.fr_base.specs.declared.label.Label.TheVariants as label
use Rattle.fr_base.specs.declared.step.Fresh.{Fresh}
use Rattle.fr_base.specs.declared.step.Fresh.TheVariants as fresh
use Rattle.fr_base.specs.declared.instruction.Operand.{Operand}
use Rattle.fr_base.specs.declared.instruction.Instr.{Instr}
use Rattle.fr_base.specs.declared.instruction.Instr.TheVariants as instr
use Rattle.fr_base.specs.Rooms.{WithRoom}
use Rattle.fr_plain.specs.Acts.{result_of}
use Rattle.place_walk.specs.Below.heap_partition.Plain.{plain_of}
use Rattle.place_walk.specs.Below.heap_partition.declared.value.Cell.{Cell}
use Rattle.place_walk.specs.Below.heap_partition.declared.value.Owned.{Owned}
use Rattle.place_walk.specs.Below.heap_partition.declared.value.Owned.TheVariants as owned
use Rattle.mutex_home.specs.Mutexes.{can_make, make, next_mutex}
use Rattle.join_home.specs.Tasks.{can_begin, begin, can_begin_pair, begin_pair}
use Rattle.mut_borrow.specs.declared.mutable.MutRef.{MutRef}
use Rattle.place_walk.specs.Below.thread_state.declared.phase.Phase.{Phase}
use Rattle.place_walk.specs.Below.thread_state.declared.phase.Phase.TheVariants as phase
use Rattle.place_walk.specs.Below.thread_state.declared.value.Value.{Value}
use Rattle.place_walk.specs.Below.thread_state.declared.value.Value.TheVariants as value
use Rattle.server_msgs.specs.declared.message.Message.TheVariants as message
use Rattle.journal.specs.declared.act.Act.TheVariants as act
use Rattle.server_model.specs.Work.{Hand, send, note, label_all, with_mutexes, with_tasks, with_cache, working, with_phase, go_to, with_slots, push_slot, push_temp, pop_temp, pop_slot, pop, taken_as, owned_of, task_of, mutex_of, pop_owned, pop_int, then_some}
use Rattle.migration.specs.Packing.{unpin_all}
use Rattle.server_model.specs.NewWords.{NewWord, issue_placed}
use Rattle.server_model.specs.Places.{Spot, in_slot, nowhere, cell_at, value_at, load_at, put_slot, put_at, took, second_of}
use Rattle.server_model.specs.Drop.{home_of, give_up, drop_labels, drop_value}
use Rattle.server_model.specs.Start.{next_thread, start_thread, capture}

-- the plain step is done, with the new names that it took; a request was sent, and the thread waits; or a value that the step needs
-- isn't there
pub data Committed : Type 0 where
  done : Fresh → Hand → Committed
  waits : Hand → Committed
  refused : Committed

-- the step is done, unless something failed
abbrev pub done_where : Fresh → Option Hand → Committed
done_where names None = refused
done_where names (Some h) = done names h

-- the thread is at its next instruction
abbrev pub go_on : Hand → Hand
go_on h = go_to (h.thread.pc + 1) h

-- a step without new names
abbrev pub goes_on : Option Hand → Committed
goes_on h = done_where fresh.None (option_map go_on h)

-- the thread waits, unless something failed
abbrev pub waiting : Option Hand → Committed
waiting None = refused
waiting (Some h) = waits h

-- SLOTS AND PLACES

-- a new variable
abbrev pub let_slot : Operand → Hand → Option Hand
let_slot o h = option_map (λ t. push_slot t.item t.hand) (pop o h)

-- what a step drops has its labels before the store that takes its place
abbrev pub label_dropped : Value → Hand → Hand
label_dropped v h = working (label_all (drop_labels v)) h

-- a variable gets a value, and what came out is dropped
abbrev pub replace_slot : ℕ → Spot → Value → Hand → Option Hand
replace_slot i holder v h = then_some (slice_get h.thread.slots i) (λ old. then_some (put_slot i v (label_dropped old h)) (drop_value holder old))

-- the label of a store
abbrev pub store_labels : Option Cell → Owned → List Label
store_labels None v = []
store_labels (Some c) v = label.Store c.object (plain_of v) ∷ []

-- an owned value is put at a spot; in a cell that is a store
abbrev pub store_at : Spot → Owned → Hand → Option Hand
store_at s v h = put_at s (value.Own v) (working (label_all (store_labels (cell_at h s) v)) h)

-- what a place leads to gets an owned value, and what came out is dropped
abbrev pub replace_at : Spot → Owned → Hand → Option Hand
replace_at s v h = then_some (value_at h s) (λ old. then_some (store_at s v (label_dropped old h)) (drop_value nowhere old))

-- an assignment to a variable, or through a star
abbrev pub assign : Lval → ℕ → Operand → Spot → Hand → Option Hand
assign w zero o s h = then_some (pop o h) (λ t. replace_slot w.slot s t.item t.hand)
assign w (suc d) o s h = then_some (pop_owned o h) (λ t. replace_at s t.item t.hand)

-- a move out leaves `Gone` in a slot and `Nothing` in a cell
abbrev pub take_out : Spot → Hand → Option Hand
take_out (in_slot i) h = put_slot i value.Gone h
take_out s h = store_at s owned.Nothing h

-- a second value, or the value itself
abbrev pub read_as : Bool → Spot → Value → Hand → Option Hand
read_as false s v h = option_map (λ u. push_temp u h) (second_of v)
read_as true s v h = option_map (push_temp v) (take_out s h)

-- the value at a place
abbrev pub read : Bool → Spot → Hand → Option Hand
read take s h = then_some (value_at h s) (λ v. read_as take s v (load_at s h))

-- REFERENCES

-- a shared reference from a pointer has its word, and pins nothing
abbrev pub shared_from : Value → Option Value
shared_from (value.SharedSlot i) = Some (value.SharedSlot i)
shared_from (value.MutSlot i) = Some (value.SharedSlot i)
shared_from (value.Own (owned.Box p)) = Some (value.Shared (record { word = p.word; object = p.object; pinned = false }))
shared_from (value.Shared r) = Some (value.Shared (record { word = r.word; object = r.object; pinned = false }))
shared_from (value.Mut r) = Some (value.Shared (record { word = r.word; object = r.object; pinned = false }))
shared_from v = None

-- of a variable, or from a pointer
abbrev pub borrow_from : Lval → ℕ → Spot → Hand → Option Hand
borrow_from w zero s h = Some (push_temp (value.SharedSlot w.slot) h)
borrow_from w (suc d) s h = then_some (value_at h s) (λ v. option_map (λ r. push_temp r h) (shared_from v))

-- a shared borrow
abbrev pub borrow : Lval → Spot → Hand → Option Hand
borrow w s h = borrow_from w w.depth s h

-- the object came for this borrow: the reference has its new word, and is clean
abbrev pub lent_word : Phase → MutRef → MutRef
lent_word (phase.Taken w) r = took r w
lent_word p r = r

-- a new mutable reference
abbrev pub lent : Phase → ℕ → ObjNo → Bool → Lval → Value
lent p w o dirty holder = value.Mut (lent_word p (record { word = w; first = w; object = o; dirty = dirty; holder = holder }))

-- a mutable reference from a pointer has its word and, from a mutable reference, its mark; its holder is the pointer's place
abbrev pub mutable_from : Phase → Lval → Value → Option Value
mutable_from p holder (value.MutSlot i) = Some (value.MutSlot i)
mutable_from p holder (value.Own (owned.Box b)) = Some (lent p b.word b.object false holder)
mutable_from p holder (value.Mut r) = Some (lent p r.word r.object r.dirty holder)
mutable_from p holder v = None

-- of a variable, or from a pointer
abbrev pub borrow_mut_from : Lval → ℕ → Spot → Hand → Option Hand
borrow_mut_from w zero s h = Some (push_temp (value.MutSlot w.slot) h)
borrow_mut_from w (suc d) s h = then_some (value_at h s) (λ v. option_map (λ r. push_temp r h) (mutable_from h.thread.phase (record w { depth = d }) v))

-- a mutable borrow
abbrev pub borrow_mut : Lval → Spot → Hand → Option Hand
borrow_mut w s h = borrow_mut_from w w.depth s h

-- the temporary value on top is dropped
abbrev pub discard : Spot → Hand → Option Hand
discard s h = then_some (pop_temp h) (λ t. drop_value s t.item (label_dropped t.item t.hand))

-- the last slot is dropped
abbrev pub drop_slot : Spot → Hand → Option Hand
drop_slot s h = then_some (pop_slot h) (λ t. drop_value s t.item (label_dropped t.item t.hand))

-- OBJECTS AND NUMBERS

-- the name of the thread's next object
abbrev pub next_object : Hand → ObjNo
next_object h = record { thread = h.thread.number; count = h.thread.made }

-- the thread has made one object more, a box of which is on top
abbrev pub push_box : Owned → NewWord → Hand → Hand
push_box v n h =
    push_temp (value.Own (owned.Box (record { word = n.word; object = next_object h })))
    (record { work = label_all (label.Make (next_object h) (plain_of v) ∷ []) n.work; thread = record h.thread { made = h.thread.made + 1 } })

-- a new object here
abbrev pub make_box : Owned → Hand → Option Hand
make_box v h = option_map (λ n. push_box v n h) (issue_placed (act.Make (next_object h)) (record { object = next_object h; value = v }) h.work)

-- a box of an owned value
abbrev pub box_up : Operand → Hand → Option Hand
box_up o h = then_some (pop_owned o h) (λ t. make_box t.item t.hand)

-- the right operand is on top
abbrev pub arith : Op → Operand → Operand → Hand → Option Hand
arith f a b h =
    then_some (pop_int b h) (λ y. option_map (λ x. push_temp (value.Own (owned.Int (result_of f x.item y.item))) x.hand) (pop_int a y.hand))

-- a number is printed
abbrev pub print : Operand → Hand → Option Hand
print o h = option_map (λ t. working (label_all (label.Print t.item ∷ [])) t.hand) (pop_int o h)

-- THREADS

-- the thread that starts is noted here, its home
abbrev pub begun : Hand → Option Hand
begun h =
    if can_begin h.work.rest.tasks (next_thread h.work.rest) then Some (working (with_tasks (begin h.work.rest.tasks (next_thread h.work.rest))) h) else None

-- a thread starts, and its task is a temporary value
abbrev pub spawn_with : ℕ → ℕ → ℕ → Hand → List Value × List Value → Option Hand
spawn_with servers pc u h new = option_map (λ h2. push_temp (value.Own (owned.Task u)) (working (start_thread servers pc new.0) (with_slots new.1 h2))) (begun h)

-- a thread starts with owned values
abbrev pub spawn : ℕ → WithRoom (ℕ × Bool) → ℕ → Hand → Committed
spawn servers cs pc h =
    done_where (fresh.Thread (next_thread h.work.rest)) (option_map go_on (then_some (capture false cs.items h.thread.slots) (spawn_with servers pc (next_thread h.work.rest) h)))

-- the thread's phase names its request, and the request goes to a home
abbrev pub ask_join : Hand → ℕ → Hand
ask_join h u = with_phase (phase.WaitJoin u) (working (λ w. send (home_of u) (message.Join u w.rest.number h.thread.number) (note (act.AskJoin u) w)) h)

-- without its gift
abbrev pub take_gift : Hand → Hand
take_gift h = record h { thread = record h.thread { gift = None } }

-- a join asks for the result of a task, which stays where it is, and takes both once the result is there
abbrev pub join : Operand → Option Owned → Hand → Committed
join o None h = waiting (option_map (ask_join h) (then_some (pop o h) (λ t. task_of t.item)))
join o (Some result) h = goes_on (option_map (λ t. push_temp (value.Own result) t.hand) (then_some (pop o (take_gift h)) (taken_as task_of)))

-- both threads are noted here, their home
abbrev pub pair_begun : Hand → ℕ → ℕ → Option Hand
pair_begun h a b =
    if can_begin_pair h.work.rest.tasks h.thread.number a b then Some (working (with_tasks (begin_pair h.work.rest.tasks h.thread.number a b)) h) else None

-- both start, and the thread waits for them
abbrev pub par_with : ℕ → ℕ → ℕ → ℕ → ℕ → Hand → List Value → List Value × List Value → Option Hand
par_with servers pc other a b h first second =
    option_map (λ h2. with_phase (phase.WaitPar a b) (go_on (working (λ w. start_thread servers other second.0 (start_thread servers pc first w)) (with_slots second.1 h2)))) (pair_begun h a b)

-- two threads start, the first list's first, and their parent waits for both
abbrev pub par : ℕ → WithRoom (ℕ × Bool) → ℕ → WithRoom (ℕ × Bool) → ℕ → Hand → Committed
par servers cs pc ds other h =
    done_where (fresh.Threads (next_thread h.work.rest) (next_thread h.work.rest + 1))
    (then_some (capture true cs.items h.thread.slots) (λ first. then_some (capture true ds.items first.1) (par_with servers pc other (next_thread h.work.rest) (next_thread h.work.rest + 1) h first.0)))

-- both have ended
abbrev pub par_end : Phase → Hand → Option Hand
par_end (phase.GotPar a b) h = Some h
par_end p h = None

-- the result of main is dropped; another thread's goes to its home
abbrev pub end_with : Bool → Owned → Hand → Option Hand
end_with true v h = Some (working (λ w. label_all (label.End h.thread.number ∷ []) (give_up v w)) (label_dropped (value.Own v) h))
end_with false v h =
    Some (working (λ w. send h.thread.home (message.Finished h.thread.number v) (label_all (label.End h.thread.number ∷ []) (note (act.Finish h.thread.number) w))) h)

-- the thread is over
abbrev pub end_thread : Operand → Hand → Committed
end_thread o h = done_where fresh.None (option_map (with_phase phase.Over) (then_some (pop_owned o h) (λ t. end_with (h.thread.number == 0) t.item t.hand)))

-- MUTEXES

-- a new mutex here, its home
abbrev pub mutex_made : Owned → Hand → Option Hand
mutex_made v h =
    if can_make h.work.rest.mutexes
    then Some (push_temp (value.Own (owned.Mutex (next_mutex h.work.rest.mutexes))) (working (with_mutexes (make h.work.rest.mutexes v)) h))
    else None

-- a mutex of an owned value
abbrev pub mutex : Operand → Hand → Committed
mutex o h = done_where (fresh.Mutex (next_mutex h.work.rest.mutexes)) (option_map go_on (then_some (pop_owned o h) (λ t. mutex_made t.item t.hand)))

-- the mutex whose value stands at a spot
abbrev pub mutex_at : Hand → Spot → Option MutexNo
mutex_at h s = then_some (value_at h s) mutex_of

-- the request of a dup
abbrev pub ask_dup : Hand → MutexNo → Hand
ask_dup h m = with_phase (phase.WaitDup m) (working (λ w. send m.home (message.Dup m w.rest.number h.thread.number) (note (act.AskDup m) w)) h)

-- a dup asks for one share more, and takes it once it is there
abbrev pub dup : Spot → Option Owned → Hand → Committed
dup s None h = waiting (option_map (ask_dup h) (mutex_at h s))
dup s (Some share) h = goes_on (option_map (λ m. push_temp (value.Own share) (load_at s (take_gift h))) (mutex_at h s))

-- the request of a lock
abbrev pub ask_lock : Hand → MutexNo → Hand
ask_lock h m = with_phase (phase.WaitLock m) (working (λ w. send m.home (message.Lock m w.rest.number h.thread.number) (note (act.AskLock m) w)) h)

-- the content in a new slot, with the hidden slot below it
abbrev pub push_content : Owned → Hand → MutexNo → Hand
push_content v h m = push_slot (value.Own v) (push_slot (value.Held m) (working (label_all (label.Lock m ∷ [])) h))

-- a lock asks for the content, and takes it once it is there
abbrev pub lock : Spot → Option Owned → Hand → Committed
lock s None h = waiting (option_map (ask_lock h) (mutex_at h s))
lock s (Some content) h = goes_on (option_map (push_content content (load_at s (take_gift h))) (mutex_at h s))

-- a lock's hidden value
abbrev pub held_of : Value → Option MutexNo
held_of (value.Held m) = Some m
held_of v = None

-- the content goes to the home of its mutex
abbrev pub send_content : MutexNo → Owned → Hand → Hand
send_content m v h = working (λ w. send m.home (message.Unlock m v) (label_all (label.Unlock m ∷ []) (note (act.GiveBack m) w))) h

-- the last slot's value goes back as the content, and the hidden slot below it goes
abbrev pub unlock : Hand → Option Hand
unlock h =
    then_some (then_some (pop_slot h) (taken_as owned_of)) (λ v. option_map (λ m. send_content m.item v.item m.hand) (then_some (pop_slot v.hand) (taken_as held_of)))

-- ALL INSTRUCTIONS

-- the plain step; the spot is what `prepare` came to, and `servers` the number of servers of the run
abbrev pub commit : (servers : ℕ) → Instr → Spot → Hand → Committed
commit n (instr.Let o) s h = goes_on (let_slot o h)
commit n (instr.Assign w o) s h = goes_on (assign w w.depth o s h)
commit n (instr.Read w take) s h = goes_on (read take s h)
commit n (instr.Borrow w) s h = goes_on (borrow w s h)
commit n (instr.BorrowMut w) s h = goes_on (borrow_mut w s h)
commit n (instr.Box o) s h = goes_on (box_up o h)
commit n (instr.Arith f a b) s h = goes_on (arith f a b h)
commit n (instr.Print o) s h = goes_on (print o h)
commit n instr.Discard s h = goes_on (discard s h)
commit n instr.DropSlot s h = goes_on (drop_slot s h)
commit n (instr.Spawn cs pc) s h = spawn n cs pc h
commit n (instr.Join o) s h = join o h.thread.gift h
commit n (instr.Mutex o) s h = mutex o h
commit n (instr.Dup w) s h = dup s h.thread.gift h
commit n (instr.Lock w) s h = lock s h.thread.gift h
commit n instr.Unlock s h = goes_on (unlock h)
commit n (instr.Par cs pc ds other) s h = par n cs pc ds other h
commit n instr.ParEnd s h = goes_on (par_end h.thread.phase h)
commit n (instr.End o) s h = end_thread o h

-- the plain step is done: nothing of its walk is kept, and it has moved no more
abbrev pub settle : Hand → Option Hand
settle h =
    option_map (λ cs. record { work = with_cache cs h.work; thread = record h.thread { passed = 0; walk = []; moved_since_step = false } }) (unpin_all h.thread.walk h.work.rest.cache)
