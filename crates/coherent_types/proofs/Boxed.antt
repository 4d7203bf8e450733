-- The boxed code after two events has types.
use Rattle.std.proofs.Common.{◌≡◌, ◌<◌, ◌≤◌, ◌⊎◌, inl, inr, ◌∙◌, ◌&&◌, if◌then◌else◌, pos, ℕ, zero, suc, ◌==◌, ◌%◌, ◌/◌, ◌^◌, true, false, List, [], ◌∷◌, Option, Some, None, refl, sym, ap, subst, arith}
use Rattle.coherent_memory.specs.Below.fr_base.declared.name.ObjNo.{ObjNo}
use Rattle.coherent_memory.specs.Below.fr_base.declared.name.MutexNo.{MutexNo}
use Rattle.coherent_memory.specs.Below.fr_base.declared.label.Plain.{Plain}
use Rattle.coherent_memory.specs.Below.fr_base.declared.label.Plain.TheVariants as plain
use Rattle.coherent_memory.specs.Below.fr_typing.Kinds.{Owned, unit, int}
use Rattle.coherent_memory.specs.Below.fr_store.Keys.{Key, slot_k, temp_k, content_k, result_k, hand_k}
use Rattle.coherent_memory.specs.Below.fr_store.Store.{Val, Location, at_key, at_object, box_v, int_v, ref_v, gone_v, mutex_v, task_v, Store, value_at}
use Rattle.coherent_memory.specs.Below.fr_store.Typed.{Tree, hole, int_tree, box_tree, Exact, owns, KeyTypes, exact_under, Stands, Typed}
use Rattle.coherent_memory.specs.Below.server_model.Figures.{run, steps_of}
use Rattle.coherent_memory.specs.Sight.{sight}
use Rattle.sample_clusters.specs.Clusters.{options, boxed_code}
use Rattle.coherent_memory.specs.Below.fr_plain.MachineThreads.{alive}
use Rattle.coherent_memory.specs.Below.fr_plain.PlainState.{place_in}
use Rattle.coherent_memory.specs.Below.fr_plain.declared.value.Value.{Value}
use Rattle.coherent_memory.specs.Below.fr_plain.declared.value.Value.TheVariants.{Own, Held}
use Rattle.coherent_memory.specs.Below.fr_plain.State.{slot_at}
use Rattle.coherent_memory.specs.Below.fr_code.Steps.{Place as CodePlace}
use Rattle.coherent_memory.specs.Below.fr_code.Machine.{CodeRunning}
use Rattle.coherent_memory.specs.Below.fr_sound.Seen.{Gives}
use Rattle.coherent_memory.specs.Below.fr_sound.States.{Typing, store_of, RunningTyped, part_at, is_reference, is_hidden, is_held, env_at, IsLower}
use Rattle.coherent_memory.specs.OneHeap.{one_heap, is_given_thread}
use Rattle.coherent_memory.specs.Below.fr_code.CodeTypes.{going}
use Rattle.coherent_types.specs.ClusterTypes.{KnownAt, CodeStateTypes, Types}
use Rattle.coherent_types.specs.Codes.{boxed_table, box_slot}
use Rattle.coherent_types.specs.Typed.{boxed_cluster, cluster_of}
use Rattle.coherent_types.proofs.Codes.{boxed_is_typed}
use Rattle.coherent_types.proofs.Numbers.{object_is, suc_zero, zero_suc, none_counted}
use Rattle.coherent_types.proofs.Alone.{each, none_ended, none_owed, no_pairs, no_parents}

abbrev the_object : ObjNo
the_object = record { thread = 0; count = 0 }

abbrev objects : ObjNo → Owned
objects = λ o. int

abbrev gives : Gives
gives = record { mutex = λ m. unit; result = λ t. unit }

-- the trees of all keys: main's first slot has a box
abbrev tree : Key → Tree
tree (slot_k t i) = if t == 0 && i == 0 then box_tree int_tree else hole
tree k = hole

abbrev exact : KeyTypes
exact k = owns (tree k)

abbrev rank : Key → ℕ
rank (slot_k t i) = i
rank (temp_k t i) = 1
rank k = 0

abbrev typing : Typing
typing = record { gives = gives; exact = exact; rank = rank; marks = λ t i. at_key (hand_k 0); order = λ t. 0 }

abbrev temps : CodePlace → List Value
temps p = p.temps

abbrev store : Store
store = store_of temps typing (one_heap boxed_cluster)

not_given : (t : ℕ) → is_given_thread (sight boxed_cluster) (suc t) ≡ false
not_given t = rw (suc_zero t) (none_counted (0 == suc t / 2 ^ 32) (suc t % 2 ^ 32))

others : (t : ℕ) → (one_heap boxed_cluster).thread (suc t) ≡ None
others t = rw (not_given t) refl

-- a key is that of main's first slot, or nothing stands there
abbrev IsFirst : Key → Type 0
IsFirst k = (k ≡ slot_k 0 0) ⊎ ((tree k ≡ hole) × (store.at k ≡ gone_v))

later : (t i : ℕ) → store.at (slot_k (suc t) i) ≡ gone_v
later t i = rw (others t) refl

first_or_gone : (k : Key) → IsFirst k
first_or_gone (slot_k zero zero) = inl refl
first_or_gone (slot_k zero (suc i)) = inr (rw (suc_zero i) refl, rw (suc_zero i) refl)
first_or_gone (slot_k (suc t) i) = inr (rw (suc_zero t) refl, later t i)
first_or_gone (temp_k zero i) = inr (refl, refl)
first_or_gone (temp_k (suc t) i) = inr (refl, rw (others t) refl)
first_or_gone (content_k h c) = inr (refl, refl)
first_or_gone (result_k zero) = inr (refl, refl)
first_or_gone (result_k (suc t)) = inr (refl, rw (others t) refl)
first_or_gone (hand_k t) = inr (refl, refl)

-- an object holds an integer, or isn't there
object_int : (t c : ℕ) → (store.heap (record { thread = t; count = c }) ≡ Some (int_v (pos 1))) ⊎ (store.heap (record { thread = t; count = c }) ≡ None)
object_int zero zero = inl refl
object_int zero (suc c) = inr (rw (zero_suc c) refl)
object_int (suc t) c = inr (rw (zero_suc t) refl)

-- a box stands in main's first slot alone
box_at : (k : Key) (o : ObjNo) → store.at k ≡ box_v o → IsFirst k → at_key k ≡ at_key (slot_k 0 0)
box_at k o e (inl p) = ap at_key p
box_at k o e (inr q) = let f = q.1 in absurd cc

no_box : (v : Option Val) (o : ObjNo) → (v ≡ Some (int_v (pos 1))) ⊎ (v ≡ None) → v ≡ Some (box_v o) → ⊥
no_box v o (inl f) e = absurd cc
no_box v o (inr f) e = absurd cc

same_val : {v w : Val} → Some v ≡ Some w → v ≡ w
same_val e = cc

box_place : (l : Location) (o : ObjNo) → value_at store l ≡ Some (box_v o) → l ≡ at_key (slot_k 0 0)
box_place (at_key k) o e = box_at k o (same_val e) (first_or_gone k)
box_place (at_object q) o e = absurd (no_box (store.heap q) o (object_int q.thread q.count) e)

-- each level of a key
box_level : (n : ℕ) (p : Exact) → exact_under n (owns (box_tree int_tree)) ≡ Some p → Stands exact store (at_key (slot_k 0 0)) n p
box_level zero p e =
    let f : owns (box_tree int_tree) ≡ p = cc in
    subst (λ q. Stands exact store (at_key (slot_k 0 0)) 0 q) f (record { spot = at_key (slot_k 0 0); value = box_v the_object; leads = refl; there = refl; fits = (the_object, refl) })
box_level (suc zero) p e =
    let f : owns int_tree ≡ p = cc in
    subst (λ q. Stands exact store (at_key (slot_k 0 0)) 1 q) f (record { spot = at_object the_object; value = int_v (pos 1); leads = refl; there = refl; fits = (pos 1, refl) })
box_level (suc (suc n)) p e = absurd cc

hole_level : (k : Key) → store.at k ≡ gone_v → (n : ℕ) (p : Exact) → exact_under n (owns hole) ≡ Some p → Stands exact store (at_key k) n p
hole_level k g zero p e =
    let f : owns hole ≡ p = cc in
    subst (λ q. Stands exact store (at_key k) 0 q) f (record { spot = at_key k; value = store.at k; leads = refl; there = refl; fits = g })
hole_level k g (suc n) p e = absurd cc

level_by : (k : Key) → IsFirst k → (n : ℕ) (p : Exact) → exact_under n (exact k) ≡ Some p → Stands exact store (at_key k) n p
level_by k (inl q) n p e = subst (λ j. Stands exact store (at_key j) n p) (sym q) (box_level n p (subst (λ j. exact_under n (exact j) ≡ Some p) q e))
level_by k (inr q) n p e = hole_level k q.1 n p (subst (λ t. exact_under n (owns t) ≡ Some p) q.0 e)

each_level : (k : Key) (n : ℕ) (p : Exact) → exact_under n (exact k) ≡ Some p → Stands exact store (at_key k) n p
each_level k n p e = level_by k (first_or_gone k) n p e

boxed_typed : Typed rank exact store
boxed_typed = record {
  stands = each_level;
  below = λ k m u e. absurd cc;
  once = λ i j m u v e f g. absurd cc;
  owner = λ a b o e f. box_place a o e ∙ sym (box_place b o f);
}

no_reference : (i : ℕ) (l : Location) → is_reference (part_at (box_slot ∷ []) i) ≡ true → store.at (slot_k 0 i) ≡ ref_v l → IsLower store (box_slot ∷ []) 0 i l
no_reference zero l e f = absurd cc
no_reference (suc i) l e f = let g = suc_zero i in absurd cc

above_one : (i : ℕ) → 1 ≤ i → exact (slot_k 0 i) ≡ owns hole
above_one zero l = absurd (omega (arith, l))
above_one (suc i) l = rw (suc_zero i) refl

-- WHAT STANDS SOMEWHERE

abbrev Small : Val → Type 0
Small v = (v ≡ gone_v) ⊎ ((v ≡ int_v (pos 1)) ⊎ (v ≡ box_v the_object))

key_small : (k : Key) → IsFirst k → Small (store.at k)
key_small k (inl q) = subst (λ j. Small (store.at j)) (sym q) (inr (inr refl))
key_small k (inr q) = inl q.1

object_small : (c : Option Val) (v : Val) → (c ≡ Some (int_v (pos 1))) ⊎ (c ≡ None) → c ≡ Some v → Small v
object_small c v (inl f) e = let g : Some (int_v (pos 1)) ≡ Some v = sym f ∙ e in inr (inl cc)
object_small c v (inr f) e = let g : None ≡ Some v = sym f ∙ e in absurd cc

small : (l : Location) (v : Val) → value_at store l ≡ Some v → Small v
small (at_key k) v e = subst Small (same_val e) (key_small k (first_or_gone k))
small (at_object q) v e = object_small (store.heap q) v (object_int q.thread q.count) e

no_mutex : (m : MutexNo) (r : Tree) → Small (mutex_v m r) → ⊥
no_mutex m r (inl e) = absurd cc
no_mutex m r (inr (inl e)) = absurd cc
no_mutex m r (inr (inr e)) = absurd cc

no_task : (t : ℕ) (r : Tree) → Small (task_v t r) → ⊥
no_task t r (inl e) = absurd cc
no_task t r (inr (inl e)) = absurd cc
no_task t r (inr (inr e)) = absurd cc

-- MAIN

abbrev main_slots : List Value
main_slots = Own (plain.Box the_object) ∷ []

abbrev main : CodeRunning
main = record { place = record { pc = 2; temps = [] }; slots = main_slots }

main_runs : (one_heap boxed_cluster).thread 0 ≡ Some (alive main)
main_runs = refl

main_hidden : (i : ℕ) → is_hidden (env_at (box_slot ∷ []) i) ≡ is_held (slot_at main_slots i)
main_hidden zero = refl
main_hidden (suc i) = rw (suc_zero i) refl

unmarked : (i : ℕ) (m : MutexNo) → slot_at main_slots i ≡ Some (Held m) → ⊥
unmarked zero m e = absurd cc
unmarked (suc i) m e = let f = suc_zero i in absurd cc

no_pair : (t : ℕ) → (one_heap boxed_cluster).pair t ≡ None
no_pair zero = refl
no_pair (suc t) = rw (zero_suc t) refl

main_typed : RunningTyped (KnownAt boxed_table) temps typing store 0 None main
main_typed = record {
  entry = going (box_slot ∷ []) [] unit;
  known = refl;
  gives = refl;
  keys = record { differ = λ x y e. cc; off = λ i e. absurd cc; ranks = λ i j l. l };
  thread = record {
    typed = boxed_typed;
    nested = (tt, tt);
    slots = (refl, tt);
    above = above_one;
    temp = refl;
    names = tt;
    quiet = λ j m u e. absurd cc;
    over = λ i l. l;
    alone = λ j m u e f. absurd cc;
  };
  waiting = λ i l. absurd (omega (arith, l));
  all_slots = refl;
  all_temps = refl;
  lower = no_reference;
  forks = refl;
  hidden = main_hidden;
  marked = λ i m e. absurd (unmarked i m e);
}

-- THE STATE

no_second : (c : ℕ) → (one_heap boxed_cluster).object (record { thread = 0; count = suc c }) ≡ None
no_second c = rw (zero_suc c) refl

no_later : (t c : ℕ) → (one_heap boxed_cluster).object (record { thread = suc t; count = c }) ≡ None
no_later t c = rw (zero_suc t) refl

-- each object is main's box's
object_owned : (t c : ℕ) (v : Plain) → (one_heap boxed_cluster).object (record { thread = t; count = c }) ≡ Some v → (t ≡ 0) × (c ≡ 0)
object_owned zero zero v e = (refl, refl)
object_owned zero (suc c) v e = let f : None ≡ Some v = sym (no_second c) ∙ e in absurd cc
object_owned (suc t) c v e = let f : None ≡ Some v = sym (no_later t c) ∙ e in absurd cc

owned : (o : ObjNo) (v : Plain) → (one_heap boxed_cluster).object o ≡ Some v → (l : Location) × (value_at store l ≡ Some (box_v o))
owned o v e =
    let h = object_owned o.thread o.count v e in
    let same : the_object ≡ o = object_is o 0 0 h.0 h.1 in
    (at_key (slot_k 0 0), ap (λ q. Some (box_v q)) same)

made : (o : ObjNo) (v : Plain) (x : CodeRunning) → (one_heap boxed_cluster).object o ≡ Some v → place_in ((one_heap boxed_cluster).thread o.thread) ≡ Some x → o.count < (one_heap boxed_cluster).made o.thread
made o v x e f =
    let h = object_owned o.thread o.count v e in
    subst (λ t. o.count < (one_heap boxed_cluster).made t) (sym h.0) (subst (λ c. c < 1) (sym h.1) (omega arith))

-- each box is main's
boxes_there : (l : Location) (o : ObjNo) → value_at store l ≡ Some (box_v o) → (v : Plain) × ((one_heap boxed_cluster).object o ≡ Some v)
boxes_there l o e =
    let f : Some (box_v the_object) ≡ Some (box_v o) = subst (λ m. value_at store m ≡ Some (box_v o)) (box_place l o e) e in
    let same : the_object ≡ o = cc in
    subst (λ q. (v : Plain) × ((one_heap boxed_cluster).object q ≡ Some v)) same (plain.Int (pos 1), refl)

boxed_state : CodeStateTypes boxed_table typing (one_heap boxed_cluster)
boxed_state = record {
  typed = boxed_typed;
  threads = each (one_heap boxed_cluster) main main_runs others (λ t x. RunningTyped (KnownAt boxed_table) temps typing store t ((one_heap boxed_cluster).pair t) x) main_typed;
  results = λ t v e. absurd (none_ended (one_heap boxed_cluster) main main_runs others t v e);
  near = λ k m u e. absurd cc;
  pairs = λ p b c e. no_pairs (one_heap boxed_cluster) main main_runs others no_pair typing p b c e;
  parents = λ p b c e. no_parents (one_heap boxed_cluster) main main_runs others no_pair p b c e;
  there = λ l m h. absurd (no_mutex m h.0 (small l (mutex_v m h.0) h.1));
  mutexes = λ m x e. absurd cc;
  one_task = λ l m t q r e f. absurd (no_task t q (small l (task_v t q) e));
  tasks_owed = λ l t r e. absurd (no_task t r (small l (task_v t r) e));
  owed_stand = λ t h. absurd (none_owed (one_heap boxed_cluster) main main_runs others t h);
  objects_there = boxes_there;
  objects_owned = owned;
  objects_made = made;
}

pub boxed_has_types : Types boxed_cluster
boxed_has_types = record {
  table = boxed_table;
  is_table = boxed_is_typed;
  object = objects;
  typing = typing;
  state = boxed_state;
  agree = refl;
  forms = refl;
  locked = refl;
  lead = refl;
  views = refl;
  ends = refl;
}

pub boxed_is_reached : cluster_of (run boxed_code (options 1) (steps_of 0 0 2)) ≡ Some boxed_cluster
boxed_is_reached = refl
