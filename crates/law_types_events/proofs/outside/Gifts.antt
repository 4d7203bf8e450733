-- Where the one heap is typed, each gift that is a content or a result is in it: who waits for it names the mutex by the place of its lock, or has the task on top.
use Rattle.std.proofs.Common.{◌≡◌, ◌-◌, ◌==◌, inl, ℕ, ◌+◌, not, Bool, true, false, length, Option, Some, None, is_some, refl, sym, ap, subst, ◌∙◌, arith}
use Rattle.std.specs.Prelude.{slice_get}
use Rattle.std.proofs.lemmas.Bool.{eq-eqb}
use Rattle.law_types_still.specs.Below.fr_base.Lists.{last_of}
use Rattle.law_types_still.specs.Below.fr_base.declared.label.Plain.{Plain}
use Rattle.law_types_still.specs.Below.fr_base.declared.name.ObjNo.{ObjNo}
use Rattle.law_types_still.specs.Below.fr_base.declared.name.MutexNo.{MutexNo}
use Rattle.law_types_still.specs.Below.fr_base.declared.place.Lval.{Lval}
use Rattle.law_types_still.specs.Below.fr_base.declared.instruction.Instr.{Instr}
use Rattle.law_types_still.specs.Below.fr_base.declared.instruction.Instr.TheVariants as instr
use Rattle.law_types_still.specs.Below.fr_base.declared.instruction.Operand.{Operand}
use Rattle.law_types_still.specs.Below.fr_base.declared.instruction.Operand.TheVariants as operand
use Rattle.law_types_still.specs.Below.fr_store.Store.{Val}
use Rattle.law_types_events.specs.Below.fr_sound.Seen.{seen_cell}
use Rattle.law_types_still.specs.Below.heap_partition.declared.value.Cell.{Cell}
use Rattle.law_types_still.specs.Below.heap_partition.declared.value.Owned.{Owned}
use Rattle.law_types_still.specs.Below.heap_partition.declared.value.Owned.TheVariants as owned
use Rattle.law_types_still.specs.Below.thread_state.View.{is_over}
use Rattle.law_types_still.specs.Below.thread_state.declared.value.Value.{Value}
use Rattle.law_types_still.specs.Below.thread_state.declared.value.Value.TheVariants as value
use Rattle.law_types_still.specs.Below.server_model.Servers.{Cluster}
use Rattle.law_types_still.specs.Below.coherent_memory.Names.{one, other, if_so, Among}
use Rattle.law_types_still.specs.Below.coherent_memory.Things.{Location, in_slot, in_temp, Thing, holds, lies, flies, things_of}
use Rattle.law_types_still.specs.Below.coherent_memory.Follow.{Standing, Ground, cell_of, slot_of, value_of, value_in, value_behind, value_at, place_at}
use Rattle.law_types_still.specs.Below.coherent_memory.Sight.{Sight, sight}
use Rattle.law_types_still.specs.Below.coherent_memory.Paths.{popped, task_in, joined_thread}
use Rattle.law_types_still.specs.Below.coherent_memory.Walking.{instr_of}
use Rattle.law_types_still.specs.Below.coherent_memory.Requests.{mutex_of, locked_mutex}
use Rattle.law_types_still.specs.Below.coherent_memory.Rooted.{is_end, dressed}
use Rattle.law_types_still.specs.Below.coherent_memory.OneHeap.{owns, object_n, mutex_n, task_n, content_owner, result_owner, gift_owner, owner_in, is_in_state, if_in, cell_value, first_shown, object_value}
use Rattle.law_types_still.proofs.Below.coherent_memory.Names.{if_none}
use Rattle.law_types_events.specs.Below.coherent_types.Names.{NameTypes}
use Rattle.law_types_events.specs.Below.coherent_types.ClusterTypes.{content_gift, result_gift, gift_misfit}
use Rattle.law_types_still.proofs.Below.law_counts_sums.MutexResults.{mutex_self}
use Rattle.law_types_still.specs.Below.law_words_paths.paths.HeapStore.{GoesOn}
use Rattle.law_types_still.proofs.Below.law_words_paths.paths.Forms.{none_of}
use Rattle.law_types_events.proofs.Below.law_words_paths.words.Standing.{CellOf, lying, flying, cell_among}
use Rattle.law_types_still.proofs.heap.Following.{HasHeap, IsShown, a_slot, an_object, stands_there, leads_in_heap}
use Rattle.law_types_still.specs.fits.Fits.{StandsOnce, gift_is_in}
use Rattle.law_types_events.proofs.outside.Names.{slot_among, temp_among}
use Rattle.law_types_events.proofs.outside.Inside.{named_in_state}

no_gift : (n : NameTypes) (m : Option MutexNo) (u : Option ℕ) → content_gift n m None + result_gift n u None ≡ 0
no_gift n None None = refl
no_gift n (Some m) None = refl
no_gift n None (Some u) = refl
no_gift n (Some m) (Some u) = refl

number_itself : (t : ℕ) → (t == t) ≡ true
number_itself t = eq-eqb t t refl

-- what is in the state doesn't count
pub in_counts : (q : Bool) (j : ℕ) → q ≡ true → if_so (not q) j ≡ 0
in_counts true j e = refl
in_counts false j e = absurd cc

-- a value behind a location
record StandsAt (g : Ground) (o : Option Location) (v : Value) : Type 0 where
  location : Location
  there : o ≡ Some location
  value : value_in g location ≡ Some v

stands_at : (g : Ground) (o : Option Location) (v : Value) → value_behind g o ≡ Some v → StandsAt g o v
stands_at g None v e = absurd cc
stands_at g (Some l) v e = record { location = l; there = refl; value = e }

is_mutex_value : (o : Option Value) (m : MutexNo) → mutex_of o ≡ Some m → o ≡ Some (value.Own (owned.Mutex m))
is_mutex_value (Some (value.Own (owned.Mutex q))) m e = let same : q ≡ m = cc in ap (λ r. Some (value.Own (owned.Mutex r))) same
is_mutex_value None m e = absurd cc
is_mutex_value (Some (value.Own owned.Nothing)) m e = absurd cc
is_mutex_value (Some (value.Own owned.Unit)) m e = absurd cc
is_mutex_value (Some (value.Own (owned.Int i))) m e = absurd cc
is_mutex_value (Some (value.Own (owned.Box p))) m e = absurd cc
is_mutex_value (Some (value.Own (owned.Task t))) m e = absurd cc
is_mutex_value (Some value.Gone) m e = absurd cc
is_mutex_value (Some (value.SharedSlot i)) m e = absurd cc
is_mutex_value (Some (value.MutSlot i)) m e = absurd cc
is_mutex_value (Some (value.Shared r)) m e = absurd cc
is_mutex_value (Some (value.Mut r)) m e = absurd cc
is_mutex_value (Some (value.Held q)) m e = absurd cc

is_task_value : (o : Option Value) (t : ℕ) → task_in o ≡ Some t → o ≡ Some (value.Own (owned.Task t))
is_task_value (Some (value.Own (owned.Task q))) t e = let same : q ≡ t = cc in ap (λ r. Some (value.Own (owned.Task r))) same
is_task_value None t e = absurd cc
is_task_value (Some (value.Own owned.Nothing)) t e = absurd cc
is_task_value (Some (value.Own owned.Unit)) t e = absurd cc
is_task_value (Some (value.Own (owned.Int i))) t e = absurd cc
is_task_value (Some (value.Own (owned.Box p))) t e = absurd cc
is_task_value (Some (value.Own (owned.Mutex q))) t e = absurd cc
is_task_value (Some value.Gone) t e = absurd cc
is_task_value (Some (value.SharedSlot i)) t e = absurd cc
is_task_value (Some (value.MutSlot i)) t e = absurd cc
is_task_value (Some (value.Shared r)) t e = absurd cc
is_task_value (Some (value.Mut r)) t e = absurd cc
is_task_value (Some (value.Held q)) t e = absurd cc

shown_in : (p : Plain) (v : Option Plain) (q : Bool) → if_in q v ≡ Some p → q ≡ true
shown_in p v true e = refl
shown_in p v false e = absurd cc

module _ (k : Cluster) (each_once : StandsOnce k) (heap : HasHeap k) (x : Standing) (there : Among x (sight k).ground.threads) where
  abbrev s : Sight
  s = sight k

  abbrev t : ℕ
  t = x.thread.number

  -- a thread that has a gift goes on
  goes : is_some x.thread.gift ≡ true → GoesOn k x
  goes gifted = record { among = there; going = by (is_over x.thread.phase) refl }
    where
      by : (q : Bool) → is_over x.thread.phase ≡ q → q ≡ false
      by false e = refl
      by true e =
          let all = none_of (dressed s) x s.ground.threads each_once.numbers.over_are_bare there in
          let bare : other (is_end (instr_of s x)) + length x.thread.slots + length x.thread.temps + one (is_some x.thread.gift) ≡ 0 = sym (ap (λ b. if_so b (other (is_end (instr_of s x)) + length x.thread.slots + length x.thread.temps + one (is_some x.thread.gift))) e) ∙ all in
          absurd (omega (arith, bare, ap one gifted))

  module _ (on : GoesOn k x) where
    object_in : (o : ObjNo) (v : Val) → seen_cell heap.typing.gives (object_value s o) ≡ Some v → is_in_state s (object_n o) ≡ true
    object_in o v h = by (object_value s o) refl h
      where
        by : (p : Option Plain) → object_value s o ≡ p → seen_cell heap.typing.gives p ≡ Some v → is_in_state s (object_n o) ≡ true
        by None q e = absurd cc
        by (Some p) q e = shown_in p (first_shown (cell_value o) s.things) (is_in_state s (object_n o)) q

    some_cell : (o : Option Cell) (m : MutexNo) → value_of o ≡ Some (value.Own (owned.Mutex m)) → (c : Cell) × (o ≡ Some c) × (c.value ≡ owned.Mutex m)
    some_cell None m e = absurd cc
    some_cell (Some c) m e = (c, refl, cc)

    -- a mutex that stands at a place of the thread is in the state
    shown_mutex : (l : Location) (m : MutexNo) → IsShown k heap x on l → value_in s.ground l ≡ Some (value.Own (owned.Mutex m)) → is_in_state s (mutex_n m) ≡ true
    shown_mutex _ m (a_slot i) e =
        let here : slice_get x.thread.slots i ≡ Some (value.Own (owned.Mutex m)) = sym (ap (λ o. slot_of o i) (stands_there k heap x on)) ∙ e in
        named_in_state s (mutex_n m) (holds (in_slot t (0 + i)) (owned.Mutex m)) (slot_among k x there i (value.Own (owned.Mutex m)) (holds (in_slot t (0 + i)) (owned.Mutex m)) here (inl refl)) (mutex_self m) refl
    shown_mutex _ m (an_object o v h) e =
        let c = some_cell (cell_of s.ground.cells o) m e in
        let at = cell_among o c.0 (things_of k) c.1 in
        let is_in : is_in_state s (object_n c.0.object) ≡ true = subst (λ p. is_in_state s (object_n p) ≡ true) (sym at.object) (object_in o v h) in
        by c.0 at.thing at.is at.among c.2 is_in
      where
        by : (c : Cell) (y : Thing) → CellOf c y → Among y s.things → c.value ≡ owned.Mutex m → is_in_state s (object_n c.object) ≡ true → is_in_state s (mutex_n m) ≡ true
        by c _ (lying r a) among is q = named_in_state s (mutex_n m) (lies r a c) among (ap (λ v. owns (mutex_n m) v) is ∙ mutex_self m) q
        by c _ (flying u) among is q = named_in_state s (mutex_n m) (flies u c) among (ap (λ v. owns (mutex_n m) v) is ∙ mutex_self m) q

    locked_in : (w : Lval) (m : MutexNo) → mutex_of (value_at s.ground t w) ≡ Some m → is_in_state s (mutex_n m) ≡ true
    locked_in w m e =
        let at = stands_at s.ground (place_at s.ground t w) (value.Own (owned.Mutex m)) (is_mutex_value (value_at s.ground t w) m e) in
        shown_mutex at.location m (leads_in_heap k heap x on w.slot w.depth at.location at.there).1 at.value

    -- so is a thread whose task is on top
    joined_in : (o : Operand) (u : ℕ) → task_in (popped o x.thread.temps) ≡ Some u → is_in_state s (task_n u) ≡ true
    joined_in (operand.Const c) u e = absurd cc
    joined_in operand.Unit u e = absurd cc
    joined_in operand.Pop u e =
        let here : last_of x.thread.temps ≡ Some (value.Own (owned.Task u)) = is_task_value (last_of x.thread.temps) u e in
        let i = length x.thread.temps - 1 in
        named_in_state s (task_n u) (holds (in_temp t (0 + i)) (owned.Task u)) (temp_among k x there i (value.Own (owned.Task u)) (holds (in_temp t (0 + i)) (owned.Task u)) here (inl refl)) (number_itself u) refl

    lock_gift : (n : NameTypes) (v : Owned) (w : Lval) (o : Option MutexNo) → mutex_of (value_at s.ground t w) ≡ o → if_so (not (owner_in (is_in_state s) (content_owner o))) (content_gift n o (Some v) + 0) ≡ 0
    lock_gift n v w None e = refl
    lock_gift n v w (Some m) e = in_counts (is_in_state s (mutex_n m)) _ (locked_in w m e)

    join_gift : (n : NameTypes) (v : Owned) (p : Operand) (o : Option ℕ) → task_in (popped p x.thread.temps) ≡ o → if_so (not (owner_in (is_in_state s) (result_owner o))) (0 + result_gift n o (Some v)) ≡ 0
    join_gift n v p None e = refl
    join_gift n v p (Some u) e = in_counts (is_in_state s (task_n u)) _ (joined_in p u e)

    some_gift : (n : NameTypes) (v : Owned) (i : Option Instr) → if_so (not (owner_in (is_in_state s) (gift_owner s x i))) (content_gift n (locked_mutex s x i) (Some v) + result_gift n (joined_thread i x.thread) (Some v)) ≡ 0
    some_gift n v (Some (instr.Lock w)) = lock_gift n v w (mutex_of (value_at s.ground t w)) refl
    some_gift n v (Some (instr.Join o)) = join_gift n v o (task_in (popped o x.thread.temps)) refl
    some_gift n v _ = refl

  -- no gift outside the one heap counts
  pub gift_counts : (n : NameTypes) → if_so (not (gift_is_in s x)) (gift_misfit n s x) ≡ 0
  gift_counts n = by x.thread.gift refl
    where
      by : (o : Option Owned) → x.thread.gift ≡ o → if_so (not (gift_is_in s x)) (content_gift n (locked_mutex s x (instr_of s x)) o + result_gift n (joined_thread (instr_of s x) x.thread) o) ≡ 0
      by None e = if_none (not (gift_is_in s x)) _ (no_gift n (locked_mutex s x (instr_of s x)) (joined_thread (instr_of s x) x.thread))
      by (Some v) e = some_gift (goes (ap is_some e)) n v (instr_of s x)
