-- TYPES: the last part of coherent memory (Featherweight Rust's types over the things of a cluster; threads, mutexes and views are this project's).
-- What can be counted is counted, as in the other parts: the number of things that break a sentence is 0.
use Rattle.std.specs.Prelude.{◌≡◌, ℕ, zero, suc, ◌+◌, ◌==◌, Bool, true, false, not, ◌&&◌, ◌||◌, List, [], ◌∷◌, reverse, Option, Some, None, is_some}
use Rattle.coherent_memory.specs.Below.fr_base.declared.name.ObjNo.{ObjNo}
use Rattle.coherent_memory.specs.Below.fr_base.declared.name.MutexNo.{MutexNo}
use Rattle.coherent_memory.specs.Below.fr_base.declared.place.Lval.{Lval}
use Rattle.coherent_memory.specs.Below.heap_partition.declared.value.Owned.{Owned}
use Rattle.coherent_memory.specs.Below.heap_partition.declared.value.Owned.TheVariants as owned
use Rattle.coherent_memory.specs.Below.thread_state.View.{ThreadState, is_over}
use Rattle.coherent_memory.specs.Below.thread_state.declared.value.Value.{Value}
use Rattle.coherent_memory.specs.Below.thread_state.declared.value.Value.TheVariants as value
use Rattle.coherent_memory.specs.Below.thread_state.declared.phase.Phase.{Phase}
use Rattle.coherent_memory.specs.Below.thread_state.declared.phase.Phase.TheVariants as phase
use Rattle.coherent_memory.specs.Below.fr_typing.Kinds.{Owned as OwnedType, same_owned, Kind, own, shared, mutable, view, Piece, whole, gone, boxed}
use Rattle.coherent_memory.specs.Below.fr_typing.Places.{Slot}
use Rattle.coherent_memory.specs.Below.fr_store.Keys.{Key, slot_k, temp_k}
use Rattle.coherent_memory.specs.Below.fr_store.Typed.{Exact, owns, refers, KeyTypes}
use Rattle.coherent_memory.specs.Below.server_model.Servers.{Cluster}
use Rattle.coherent_memory.specs.Names.{one, other, if_so, some, same_object, same_mutex}
use Rattle.coherent_memory.specs.Things.{Location, Spot, as_content, as_result, Thing, holds, lies, flies}
use Rattle.coherent_memory.specs.Follow.{Standing, Ground, leads, place_at, value_at}
use Rattle.coherent_memory.specs.Stale.{same_location}
use Rattle.coherent_memory.specs.Sight.{Sight, sight}
use Rattle.coherent_memory.specs.Placing.{sum_over}
use Rattle.coherent_memory.specs.Walking.{sum_threads, instr_of}
use Rattle.coherent_memory.specs.Paths.{joined_thread}
use Rattle.coherent_memory.specs.Requests.{locked_mutex}
use Rattle.coherent_memory.specs.Coherent.{IsSound}
use Rattle.coherent_memory.specs.OneHeap.{one_heap}
use Rattle.coherent_types.specs.Names.{NameTypes, names_of, fits, is_there, fits_some, is_type}
use Rattle.coherent_memory.specs.Below.fr_sound.States.{owned_part, Typing}
use Rattle.coherent_memory.specs.Below.fr_code.CodeTypes.{Entry, Table}
use Rattle.coherent_memory.specs.Below.fr_code.CodeTable.{IsTable}
pub use Rattle.coherent_memory.specs.Below.fr_code.TableStates.{KnownAt, CodeStateTypes}

-- CELLS, CONTENTS AND RESULTS

abbrev misfit_at : NameTypes → Spot → Owned → ℕ
misfit_at n (as_content m) v = other (is_there v && fits n (n.mutex m) v)
misfit_at n (as_result t) v = other (is_there v && fits n (n.result t) v)
misfit_at n p v = 0

abbrev pub misfit : NameTypes → Thing → ℕ
misfit n (holds p v) = misfit_at n p v
misfit n (lies s a c) = other (fits n (n.object c.object) c.value)
misfit n (flies w c) = other (fits n (n.object c.object) c.value)
misfit n x = 0

abbrev pub content_gift : NameTypes → Option MutexNo → Option Owned → ℕ
content_gift n (Some m) (Some v) = misfit_at n (as_content m) v
content_gift n m g = 0

abbrev pub result_gift : NameTypes → Option ℕ → Option Owned → ℕ
result_gift n (Some t) (Some v) = misfit_at n (as_result t) v
result_gift n t g = 0

-- a gift at a lock is the content of the mutex at its place, and one at a join the result of its operand's thread
abbrev pub gift_misfit : NameTypes → Sight → Standing → ℕ
gift_misfit n s x = content_gift n (locked_mutex s x (instr_of s x)) x.thread.gift + result_gift n (joined_thread (instr_of s x) x.thread) x.thread.gift

-- each object, each mutex and each thread's result has one type, and every cell, content and result agrees with it, wherever it stands; copies are
-- aside. What an owned value names has a type of fewer levels, so no object, content or result owns itself, directly or through others
abbrev pub misfits : NameTypes → Sight → ℕ
misfits n s = sum_over s (misfit n) + sum_threads s (gift_misfit n s)

-- SLOTS AND TEMPORARY VALUES

-- a value has the form of a part, and agrees with the names' types
abbrev pub has_form : NameTypes → Piece → Value → Bool
has_form n (whole (own o)) (value.Own v) = is_there v && fits n o v
has_form n (whole (shared us)) (value.SharedSlot i) = true
has_form n (whole (shared us)) (value.Shared r) = true
has_form n (whole (mutable us)) (value.MutSlot i) = true
has_form n (whole (mutable us)) (value.Mut r) = true
has_form n (whole (view o)) (value.Shared r) = same_owned (n.object r.object) o
has_form n (gone k) value.Gone = true
has_form n (boxed p) (value.Own v) = is_there v && fits_some n (owned_part (boxed p)) v
has_form n p v = false

abbrev pub is_mark : Value → Bool
is_mark (value.Held m) = true
is_mark v = false

-- a slot without a name is the hidden one of a lock
abbrev pub slot_form : NameTypes → Slot → Bool → Value → Bool
slot_form n s true v = has_form n s.part v
slot_form n s false v = is_mark v

-- the slots, the newest first
abbrev pub slots_wrong : NameTypes → List Slot → List Value → ℕ
slots_wrong n [] [] = 0
slots_wrong n (s ∷ e) (v ∷ vs) = other (slot_form n s (is_some s.name) v) + slots_wrong n e vs
slots_wrong n e vs = 1

abbrev pub temps_wrong : NameTypes → List Kind → List Value → ℕ
temps_wrong n [] [] = 0
temps_wrong n (k ∷ ks) (v ∷ vs) = other (has_form n (whole k) v) + temps_wrong n ks vs
temps_wrong n ks vs = 1

abbrev pub entry_wrong : (Entry → ℕ) → Option Entry → ℕ
entry_wrong f None = 1
entry_wrong f (Some x) = f x

abbrev pub forms_of : NameTypes → ThreadState → Entry → ℕ
forms_of n t x = slots_wrong n x.env (reverse t.slots) + temps_wrong n x.temps (reverse t.temps)

-- a sentence of the threads that aren't over, at their entries
abbrev pub at_entries : Table → Sight → (Standing → Entry → ℕ) → ℕ
at_entries table s f = sum_threads s (λ x. if_so (not (is_over x.thread.phase)) (entry_wrong (f x) (table x.thread.pc)))

-- each slot and temporary value has the form that typing gives at the thread's instruction; the hidden slot of a lock is a mark
abbrev pub forms_wrong : Table → NameTypes → Sight → ℕ
forms_wrong table n s = at_entries table s (λ x. forms_of n x.thread)

abbrev pub above_mark : NameTypes → Slot → List Value → ℕ
above_mark n c (value.Held m ∷ vs) = other (is_type (owned_part c.part) (n.mutex m))
above_mark n c vs = 0

abbrev pub locked_of : NameTypes → List Slot → List Value → ℕ
locked_of n (c ∷ e) (v ∷ vs) = above_mark n c vs + locked_of n e vs
locked_of n e vs = 0

-- the slot above the mark of a mutex is the one for its content: whole or in part gone, it has the shape that every value of the mutex gives it
abbrev pub locked_wrong : Table → NameTypes → Sight → ℕ
locked_wrong table n s = at_entries table s (λ x y. locked_of n y.env (reverse x.thread.slots))

-- VIEWS

abbrev waits_for : ℕ → Phase → Bool
waits_for t (phase.WaitPar a b) = (a == t) || (b == t)
waits_for t p = false

-- how many shared references and views to the object are among these values
abbrev pub refers_to : ObjNo → List Value → ℕ
refers_to o [] = 0
refers_to o (value.Shared r ∷ vs) = one (same_object r.object o) + refers_to o vs
refers_to o (v ∷ vs) = refers_to o vs

-- how many of them are in the slots of a parent that waits for t
abbrev pub parent_sees : ℕ → ObjNo → Standing → ℕ
parent_sees t o p = if_so (waits_for t p.thread.phase) (refers_to o p.thread.slots)

-- a view that no such parent sees
abbrev pub unseen : Sight → ℕ → Piece → Value → ℕ
unseen s t (whole (view o)) (value.Shared r) = other (some (sum_threads s (parent_sees t r.object)))
unseen s t p v = 0

abbrev pub unseen_slots : Sight → ℕ → List Slot → List Value → ℕ
unseen_slots s t (x ∷ e) (v ∷ vs) = unseen s t x.part v + unseen_slots s t e vs
unseen_slots s t e vs = 0

abbrev pub unseen_temps : Sight → ℕ → List Kind → List Value → ℕ
unseen_temps s t (k ∷ ks) (v ∷ vs) = unseen s t (whole k) v + unseen_temps s t ks vs
unseen_temps s t ks vs = 0

-- a view leads to an object to which the parent, which waits at its par, has a shared reference or a view in a slot
abbrev pub views_wrong : Table → Sight → ℕ
views_wrong table s =
    at_entries table s (λ x y. unseen_slots s x.thread.number y.env (reverse x.thread.slots) + unseen_temps s x.thread.number y.temps (reverse x.thread.temps))

-- RESULTS OF THREADS

abbrev pub gives_other : NameTypes → ℕ → Entry → ℕ
gives_other n t x = other (same_owned x.gives (n.result t))

-- the code of each thread, over or not, ends with the type that its task has
abbrev pub ends_wrong : Table → NameTypes → Sight → ℕ
ends_wrong table n s = sum_threads s (λ x. entry_wrong (gives_other n x.thread.number) (table x.thread.pc))

-- PLACES OF REFERENCES

abbrev pub same_place : Option Location → Option Location → Bool
same_place (Some l) (Some m) = same_location l m
same_place l m = false

abbrev is_value_of : MutexNo → Option Value → Bool
is_value_of m (Some (value.Own (owned.Mutex n))) = same_mutex n m
is_value_of m v = false

-- a holder is the place with one star less, as slot and stars
abbrev pub is_held_at : ℕ → ℕ → Lval → Bool
is_held_at slot zero h = false
is_held_at slot (suc n) h = (h.slot == slot) && (h.depth == n)

-- a reference leads where that place of its thread leads; the holder of a mutable one to an object is that place with one star less, and no other
-- way to the same pointer; a mark is of the mutex that stands there
abbrev pub leads_as : Ground → ℕ → Lval → Value → Bool
leads_as g t w (value.Held m) = is_value_of m (value_at g t w)
leads_as g t w (value.Mut r) = same_place (leads t (Some (value.Mut r))) (place_at g t w) && is_held_at w.slot w.depth r.holder
leads_as g t w v = same_place (leads t (Some v)) (place_at g t w)

-- the exact type of a reference that is no view names a place of its own thread
abbrev pub astray_from : Ground → ℕ → Key → ℕ → Value → ℕ
astray_from g t (slot_k u i) n v = if_so (u == t) (other (leads_as g t (record { slot = i; depth = n }) v))
astray_from g t k n v = 0

abbrev pub astray : Ground → ℕ → Exact → Value → ℕ
astray g t (owns x) v = 0
astray g t (refers m u) v = astray_from g t u.key u.depth v

abbrev pub all_astray : KeyTypes → Ground → ℕ → (ℕ → Key) → ℕ → List Value → ℕ
all_astray exact g t key i [] = 0
all_astray exact g t key i (v ∷ vs) = astray g t (exact (key i)) v + all_astray exact g t key (i + 1) vs

abbrev pub astray_of : KeyTypes → Ground → ThreadState → ℕ
astray_of exact g t = all_astray exact g t.number (slot_k t.number) 0 t.slots + all_astray exact g t.number (temp_k t.number) 0 t.temps

-- a reference leads to the slot or object that the place of its exact type leads to in its thread, one of the places that typing gives it; where
-- that is an object and the reference is mutable, its holder is that place with one star less, as slot and stars: what is written back to it when
-- the reference ends goes along the place that was lent. The hidden slot of a lock is the mark of the mutex
-- that stands at the lock's place
abbrev pub leads_wrong : KeyTypes → Sight → ℕ
leads_wrong exact s = sum_threads s (λ x. astray_of exact s.ground x.thread)

-- THE PART

pub record Types (k : Cluster) : Type 0 where
  -- what typing gives at each instruction
  pub table : Table
  pub is_table : IsTable k.code table
  -- one type for each object, each thread's result and each mutex's content; the exact types below the environments
  pub object : ObjNo → OwnedType
  pub typing : Typing
  -- the one heap of the cluster is typed by that table
  pub state : CodeStateTypes table typing (one_heap k)
  pub agree : misfits (names_of object typing.gives) (sight k) ≡ 0
  pub forms : forms_wrong table (names_of object typing.gives) (sight k) ≡ 0
  pub locked : locked_wrong table (names_of object typing.gives) (sight k) ≡ 0
  pub lead : leads_wrong typing.exact (sight k) ≡ 0
  pub views : views_wrong table (sight k) ≡ 0
  pub ends : ends_wrong table (names_of object typing.gives) (sight k) ≡ 0

-- COHERENT: all parts
pub record IsCoherent (k : Cluster) : Type 0 where
  pub sound : IsSound k
  pub types : Types k
