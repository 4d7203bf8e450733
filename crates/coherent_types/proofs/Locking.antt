-- The cluster in which main holds a mutex has types.
use Rattle.std.proofs.Common.{◌≡◌, ◌≢◌, ◌<◌, ◌≤◌, ◌⊎◌, inl, inr, ◌∙◌, ◌==◌, ◌/◌, ◌%◌, ◌^◌, ◌++◌, pos, ℕ, zero, suc, true, false, Bool, List, [], ◌∷◌, Option, Some, None, refl, sym, ap, subst, arith}
use Rattle.std.specs.Prelude.{slice_get}
use Rattle.std.proofs.lemmas.Bool.Decides.{nat_tests}
use Rattle.coherent_memory.specs.Below.fr_base.declared.name.ObjNo.{ObjNo}
use Rattle.coherent_memory.specs.Below.fr_base.declared.name.MutexNo.{MutexNo}
use Rattle.coherent_memory.specs.Below.fr_base.declared.label.Plain.TheVariants as plain
use Rattle.coherent_memory.specs.Below.fr_typing.Kinds.{Owned, unit, int}
use Rattle.coherent_memory.specs.Below.fr_store.Keys.{Key, slot_k, temp_k, content_k, result_k, hand_k}
use Rattle.coherent_memory.specs.Below.fr_store.Store.{Val, Location, at_key, at_object, box_v, int_v, ref_v, gone_v, mutex_v, task_v, Store, value_at, Place}
use Rattle.coherent_memory.specs.Below.fr_store.Typed.{Tree, hole, int_tree, mutex_tree, Exact, owns, refers, KeyTypes, exact_under, here, Stands, Typed, Unnamed}
use Rattle.coherent_memory.specs.Below.server_model.Figures.{run, steps_of, deliver}
use Rattle.coherent_memory.specs.Below.server_model.Programs.{with_servers, locked_twice}
use Rattle.sample_clusters.specs.Clusters.{place, the_mutex}
use Rattle.coherent_memory.specs.Sight.{sight}
use Rattle.coherent_memory.specs.Below.fr_plain.MachineThreads.{alive}
use Rattle.coherent_memory.specs.Below.fr_plain.PlainState.{place_in}
use Rattle.coherent_memory.specs.Below.fr_plain.declared.value.Value.{Value}
use Rattle.coherent_memory.specs.Below.fr_plain.declared.value.Value.TheVariants.{Own, Held}
use Rattle.coherent_memory.specs.Below.fr_plain.State.{slot_at}
use Rattle.coherent_memory.specs.Below.fr_plain.MachineThreads.{Shared}
use Rattle.coherent_memory.specs.Below.fr_code.Steps.{Place as CodePlace}
use Rattle.coherent_memory.specs.Below.fr_code.Machine.{CodeRunning}
use Rattle.coherent_memory.specs.Below.fr_sound.Seen.{Gives}
use Rattle.coherent_memory.specs.Below.fr_sound.States.{Typing, store_of, content_val, RunningTyped, part_at, is_reference, is_hidden, is_held, env_at, IsLower, IsLock, IsShare, IsMark, IsNear, MutexTyped}
use Rattle.coherent_memory.specs.OneHeap.{one_heap, is_given_thread}
use Rattle.coherent_memory.specs.Below.fr_code.CodeTypes.{going, takes_const, takes_unit, takes_pop, i_mutex, i_let, i_lock, i_copy, i_print, i_unlock, i_drop}
use Rattle.coherent_memory.specs.Below.fr_code.CodeTable.{IsTable}
use Rattle.coherent_memory.proofs.Below.fr_code.Chains.{leads, stops, chained}
use Rattle.coherent_types.specs.ClusterTypes.{KnownAt, CodeStateTypes, Types}
use Rattle.coherent_types.specs.Tables.{x_name, r_name, c_name}
use Rattle.coherent_types.specs.Typed.{cluster_of}
use Rattle.coherent_types.specs.Locking.{once_locked, twice_entries, twice_table, locking_cluster, LockHasTypes}
use Rattle.coherent_types.proofs.Numbers.{mutex_is, suc_zero, zero_suc, none_counted}
use Rattle.coherent_types.proofs.Alone.{each, none_ended, none_owed, no_pairs, no_parents}

twice_typed : IsTable locked_twice twice_table
twice_typed =
    chained locked_twice twice_entries unit refl (
      leads (i_mutex (takes_const refl) refl),
      (
        leads (i_let x_name (takes_pop refl) refl),
        (
          leads (i_lock r_name refl (record { named = refl; short = omega arith; is = refl }) refl refl),
          (
            leads (i_lock c_name refl (record { named = refl; short = omega arith; is = refl }) refl refl),
            (
              leads (i_copy refl (record { named = refl; short = omega arith; is = refl }) refl refl),
              (
                leads (i_print (takes_pop refl)),
                (
                  leads (i_unlock refl),
                  (
                    leads (i_unlock refl),
                    (leads (i_drop refl refl refl), (stops (takes_unit refl), tt)),
                  ),
                ),
              ),
            ),
          ),
        ),
      ),
    )

abbrev objects : ObjNo → Owned
objects = λ o. unit

abbrev gives : Gives
gives = record { mutex = λ m. int; result = λ t. unit }

abbrev mutex_place : Place
mutex_place = record { key = slot_k 0 0; depth = 0 }

abbrev exact : KeyTypes
exact (slot_k zero zero) = owns (mutex_tree int_tree)
exact (slot_k zero (suc zero)) = refers false mutex_place
exact (slot_k zero (suc (suc zero))) = owns int_tree
exact k = owns hole

abbrev rank : Key → ℕ
rank (slot_k t i) = i
rank (temp_k t i) = 5
rank k = 0

-- the mutex stands in main's first slot
abbrev typing : Typing
typing = record { gives = gives; exact = exact; rank = rank; marks = λ t i. at_key (slot_k 0 0); order = λ t. 0 }

abbrev temps : CodePlace → List Value
temps p = p.temps

abbrev store : Store
store = store_of temps typing (one_heap locking_cluster)

-- OTHER THREADS AND MUTEXES

not_given : (t : ℕ) → is_given_thread (sight locking_cluster) (suc t) ≡ false
not_given t = rw (suc_zero t) (none_counted (0 == suc t / 2 ^ 32) (suc t % 2 ^ 32))

others : (t : ℕ) → (one_heap locking_cluster).thread (suc t) ≡ None
others t = rw (not_given t) refl

one_zero : (1 == 0) ≡ false
one_zero = refl

one_more : (c : ℕ) → (1 == suc (suc c)) ≡ false
one_more c = grind (arith, nat_tests)

IsOut : Option Shared → Type 0
IsOut l = (l ≡ None) ⊎ (l ≡ Some (record { content = None; shares = 1 }))

all_out : (h c : ℕ) → IsOut ((one_heap locking_cluster).mutex (record { home = h; count = c }))
unfolding IsOut
all_out zero zero = inl refl
all_out zero (suc zero) = inr refl
all_out zero (suc (suc c)) = inl (rw (one_more c) refl)
all_out (suc h) c = inl (rw (zero_suc h) refl)

no_content : (l : Option Shared) → IsOut l → content_val gives l ≡ gone_v
unfolding IsOut
no_content l (inl e) = ap (content_val gives) e
no_content l (inr e) = ap (content_val gives) e

-- KEYS

over_one : (i : ℕ) → (suc (suc (suc i)) == 1) ≡ false
over_one i = grind (arith, nat_tests)

over_two : (i : ℕ) → (suc (suc (suc i)) == 2) ≡ false
over_two i = grind (arith, nat_tests)

abbrev Which : Key → Type 0
Which k = (k ≡ slot_k 0 0) ⊎ ((k ≡ slot_k 0 1) ⊎ ((k ≡ slot_k 0 2) ⊎ ((exact k ≡ owns hole) × (store.at k ≡ gone_v))))

which : (k : Key) → Which k
which (slot_k zero zero) = inl refl
which (slot_k zero (suc zero)) = inr (inl refl)
which (slot_k zero (suc (suc zero))) = inr (inr (inl refl))
which (slot_k zero (suc (suc (suc i)))) = inr (inr (inr (refl, rw (over_two i, over_one i, suc_zero (suc (suc i))) refl)))
which (slot_k (suc t) i) = inr (inr (inr (refl, rw (others t) refl)))
which (temp_k zero i) = inr (inr (inr (refl, refl)))
which (temp_k (suc t) i) = inr (inr (inr (refl, rw (others t) refl)))
which (content_k h c) = inr (inr (inr (refl, no_content ((one_heap locking_cluster).mutex (record { home = h; count = c })) (all_out h c))))
which (result_k zero) = inr (inr (inr (refl, refl)))
which (result_k (suc t)) = inr (inr (inr (refl, rw (others t) refl)))
which (hand_k t) = inr (inr (inr (refl, refl)))

-- there is no box
abbrev NoBox : Key → Type 0
NoBox k = (o : ObjNo) → store.at k ≡ box_v o → ⊥

no_box_by : (k : Key) → Which k → NoBox k
no_box_by k (inl p) = subst NoBox (sym p) (λ o e. absurd cc)
no_box_by k (inr (inl p)) = subst NoBox (sym p) (λ o e. absurd cc)
no_box_by k (inr (inr (inl p))) = subst NoBox (sym p) (λ o e. absurd cc)
no_box_by k (inr (inr (inr q))) = λ o e. let f = q.1 in absurd cc

same_val : {v w : Val} → Some v ≡ Some w → v ≡ w
same_val e = cc

no_box : (l : Location) (o : ObjNo) → value_at store l ≡ Some (box_v o) → ⊥
no_box (at_key k) o e = no_box_by k (which k) o (same_val e)
no_box (at_object q) o e = absurd cc

-- LEVELS

abbrev Level : Key → Type 0
Level k = (n : ℕ) (p : Exact) → exact_under n (exact k) ≡ Some p → Stands exact store (at_key k) n p

mutex_level : Level (slot_k 0 0)
mutex_level zero p e =
    let f : owns (mutex_tree int_tree) ≡ p = cc in
    subst (λ q. Stands exact store (at_key (slot_k 0 0)) 0 q) f (record { spot = at_key (slot_k 0 0); value = mutex_v the_mutex int_tree; leads = refl; there = refl; fits = (the_mutex, refl) })
mutex_level (suc n) p e = absurd cc

mark_level : Level (slot_k 0 1)
mark_level zero p e =
    let f : refers false mutex_place ≡ p = cc in
    subst (λ q. Stands exact store (at_key (slot_k 0 1)) 0 q) f (record {
      spot = at_key (slot_k 0 1);
      value = ref_v (at_key (slot_k 0 0));
      leads = refl;
      there = refl;
      fits = record { base = slot_k 0 0; boxes = 0; type = owns (mutex_tree int_tree); res = here refl; whole = tt; target = at_key (slot_k 0 0); is = refl; leads = refl };
    })
mark_level (suc n) p e = absurd cc

int_level : Level (slot_k 0 2)
int_level zero p e =
    let f : owns int_tree ≡ p = cc in
    subst (λ q. Stands exact store (at_key (slot_k 0 2)) 0 q) f (record { spot = at_key (slot_k 0 2); value = int_v (pos 1); leads = refl; there = refl; fits = (pos 1, refl) })
int_level (suc n) p e = absurd cc

hole_level : (k : Key) → store.at k ≡ gone_v → (n : ℕ) (p : Exact) → exact_under n (owns hole) ≡ Some p → Stands exact store (at_key k) n p
hole_level k g zero p e =
    let f : owns hole ≡ p = cc in
    subst (λ q. Stands exact store (at_key k) 0 q) f (record { spot = at_key k; value = store.at k; leads = refl; there = refl; fits = g })
hole_level k g (suc n) p e = absurd cc

level_by : (k : Key) → Which k → Level k
level_by k (inl p) = subst Level (sym p) mutex_level
level_by k (inr (inl p)) = subst Level (sym p) mark_level
level_by k (inr (inr (inl p))) = subst Level (sym p) int_level
level_by k (inr (inr (inr q))) = λ n p e. hole_level k q.1 n p (subst (λ t. exact_under n t ≡ Some p) q.0 e)

-- WHAT THE MARK NAMES

abbrev Named : Key → Bool → Place → Type 0
Named k m u = (mutex_place ≡ u) × (m ≡ false) × (k ≡ slot_k 0 1)

names_by : (k : Key) (m : Bool) (u : Place) → exact k ≡ refers m u → Which k → Named k m u
names_by k m u e (inl p) = let f : owns (mutex_tree int_tree) ≡ refers m u = subst (λ j. exact j ≡ refers m u) p e in absurd cc
names_by k m u e (inr (inl p)) = let f : refers false mutex_place ≡ refers m u = subst (λ j. exact j ≡ refers m u) p e in (cc, cc, p)
names_by k m u e (inr (inr (inl p))) = let f : owns int_tree ≡ refers m u = subst (λ j. exact j ≡ refers m u) p e in absurd cc
names_by k m u e (inr (inr (inr q))) = let f : owns hole ≡ refers m u = sym q.0 ∙ e in absurd cc

named : (k : Key) (m : Bool) (u : Place) → exact k ≡ refers m u → Named k m u
named k m u e = names_by k m u e (which k)

is_below : (k : Key) (m : Bool) (u : Place) → exact k ≡ refers m u → rank u.key < rank k
is_below k m u e =
    let x = named k m u e in
    subst (λ w. rank w.key < rank k) x.0 (subst (λ j. 0 < rank j) (sym x.2) (omega arith))

none_mutable : (k : Key) (u : Place) → exact k ≡ refers true u → ⊥
none_mutable k u e = let f = (named k true u e).1 in absurd cc

locking_typed : Typed rank exact store
locking_typed = record {
  stands = λ k. level_by k (which k);
  below = is_below;
  once = λ i j m u v e f g. absurd (none_mutable i u e);
  owner = λ a b o e f. absurd (no_box a o e);
}

not_temp : (j : Key) (m : Bool) (u : Place) → exact j ≡ refers m u → u.key ≢ temp_k 0 0
not_temp j m u e f = let g = ap (λ (w : Place). w.key) (named j m u e).0 in absurd cc

-- MAIN

abbrev main_slots : List Value
main_slots = Own (plain.Int (pos 1)) ∷ Held the_mutex ∷ Own (plain.Mutex the_mutex) ∷ []

abbrev main : CodeRunning
main = record { place = record { pc = 3; temps = [] }; slots = main_slots }

main_runs : (one_heap locking_cluster).thread 0 ≡ Some (alive main)
main_runs = refl

main_above : (i : ℕ) → 3 ≤ i → exact (slot_k 0 i) ≡ owns hole
main_above zero l = absurd (omega (arith, l))
main_above (suc zero) l = absurd (omega (arith, l))
main_above (suc (suc zero)) l = absurd (omega (arith, l))
main_above (suc (suc (suc i))) l = refl

never : {b : Bool} → b ≡ false → b ≡ true → ⊥
never f e = absurd cc

none_above : (i : ℕ) → is_reference (part_at once_locked (suc (suc (suc i)))) ≡ false
none_above i = rw (over_two i, over_one i, suc_zero (suc (suc i))) refl

main_lower : (i : ℕ) (l : Location) → is_reference (part_at once_locked i) ≡ true → store.at (slot_k 0 i) ≡ ref_v l → IsLower store once_locked 0 i l
main_lower zero l e f = absurd (never refl e)
main_lower (suc zero) l e f =
    let g : at_key (slot_k 0 0) ≡ l = cc in
    subst (λ q. IsLower store once_locked 0 1 q) g (refl, omega arith)
main_lower (suc (suc zero)) l e f = absurd (never refl e)
main_lower (suc (suc (suc i))) l e f = absurd (never (none_above i) e)

main_hidden : (i : ℕ) → is_hidden (env_at once_locked i) ≡ is_held (slot_at main_slots i)
main_hidden zero = refl
main_hidden (suc zero) = refl
main_hidden (suc (suc zero)) = refl
main_hidden (suc (suc (suc i))) = rw (over_two i, over_one i, suc_zero (suc (suc i))) refl

-- the mark is in the middle
abbrev TheMark : ℕ → MutexNo → Type 0
TheMark i m = (i ≡ 1) × (the_mutex ≡ m)

mark_at : (i : ℕ) (m : MutexNo) → slot_at main_slots i ≡ Some (Held m) → TheMark i m
mark_at zero m e = absurd cc
mark_at (suc zero) m e = (refl, cc)
mark_at (suc (suc zero)) m e = absurd cc
mark_at (suc (suc (suc i))) m e = let f = over_two i in let g = over_one i in let h = suc_zero (suc (suc i)) in absurd cc

mark_unnamed : Unnamed exact (slot_k 0 1)
mark_unnamed j m u e f =
    let g : slot_k 0 0 ≡ slot_k 0 1 = ap (λ (w : Place). w.key) (named j m u e).0 ∙ f in
    absurd cc

the_lock : IsLock typing store once_locked 0 1 the_mutex
the_lock = record { leads = refl; unnamed = mark_unnamed; content = refl }

main_marked : (i : ℕ) (m : MutexNo) → slot_at main_slots i ≡ Some (Held m) → IsLock typing store once_locked 0 i m
main_marked i m e =
    let h = mark_at i m e in
    subst (λ n. IsLock typing store once_locked 0 i n) h.1 (subst (λ j. IsLock typing store once_locked 0 j the_mutex) (sym h.0) the_lock)

no_pair : (t : ℕ) → (one_heap locking_cluster).pair t ≡ None
no_pair zero = refl
no_pair (suc t) = rw (zero_suc t) refl

main_typed : RunningTyped (KnownAt twice_table) temps typing store 0 None main
main_typed = record {
  entry = going once_locked [] unit;
  known = refl;
  gives = refl;
  keys = record { differ = λ x y e. cc; off = λ i e. absurd cc; ranks = λ i j l. l };
  thread = record {
    typed = locking_typed;
    nested = (tt, ((omega arith, tt), (tt, tt)));
    slots = (refl, ((refl, record { place = place 0 0; is = refl; among = inl refl }), (refl, tt)));
    above = main_above;
    temp = refl;
    names = tt;
    quiet = not_temp;
    over = λ i l. omega (arith, l);
    alone = λ j m u e f. inl (1, omega arith, (named j m u e).2);
  };
  waiting = λ i l. absurd (omega (arith, l));
  all_slots = refl;
  all_temps = refl;
  lower = main_lower;
  forks = refl;
  hidden = main_hidden;
  marked = main_marked;
}

-- THE MUTEX

abbrev NoTask : Key → Type 0
NoTask k = (t : ℕ) (r : Tree) → store.at k ≡ task_v t r → ⊥

no_task_by : (k : Key) → Which k → NoTask k
no_task_by k (inl p) = subst NoTask (sym p) (λ t r e. absurd cc)
no_task_by k (inr (inl p)) = subst NoTask (sym p) (λ t r e. absurd cc)
no_task_by k (inr (inr (inl p))) = subst NoTask (sym p) (λ t r e. absurd cc)
no_task_by k (inr (inr (inr q))) = λ t r e. let f = q.1 in absurd cc

no_task : (l : Location) (t : ℕ) (r : Tree) → value_at store l ≡ Some (task_v t r) → ⊥
no_task (at_key k) t r e = no_task_by k (which k) t r (same_val e)
no_task (at_object q) t r e = absurd cc

-- a value of a mutex is that in main's first slot
abbrev TheShare : Key → Type 0
TheShare k = (m : MutexNo) (r : Tree) → store.at k ≡ mutex_v m r → (k ≡ slot_k 0 0) × (the_mutex ≡ m)

first_share : TheShare (slot_k 0 0)
first_share m r e = (refl, cc)

share_by : (k : Key) → Which k → TheShare k
share_by k (inl p) = subst TheShare (sym p) first_share
share_by k (inr (inl p)) = subst TheShare (sym p) (λ m r e. absurd cc)
share_by k (inr (inr (inl p))) = subst TheShare (sym p) (λ m r e. absurd cc)
share_by k (inr (inr (inr q))) = λ m r e. let f = q.1 in absurd cc

the_share : (l : Location) (m : MutexNo) → IsShare store m l → (l ≡ at_key (slot_k 0 0)) × (the_mutex ≡ m)
the_share (at_key k) m h = let x = share_by k (which k) m h.0 (same_val h.1) in (ap at_key x.0, x.1)
the_share (at_object q) m h = let e = h.1 in absurd cc

abbrev the_state : Shared
the_state = record { content = None; shares = 1 }

is_there : (one_heap locking_cluster).mutex the_mutex ≡ Some the_state
is_there = refl

none_after : (c : ℕ) → (one_heap locking_cluster).mutex (record { home = 0; count = suc (suc c) }) ≡ None
none_after c = rw (one_more c) refl

none_elsewhere : (h c : ℕ) → (one_heap locking_cluster).mutex (record { home = suc h; count = c }) ≡ None
none_elsewhere h c = rw (zero_suc h) refl

-- no other mutex is there
Only : ℕ → ℕ → Type 0
Only h c = (x : Shared) → (one_heap locking_cluster).mutex (record { home = h; count = c }) ≡ Some x → (h ≡ 0) × (c ≡ 1) × (the_state ≡ x)

only_one : (h c : ℕ) → Only h c
unfolding Only
only_one zero zero x e = absurd cc
only_one zero (suc zero) x e = (refl, refl, cc)
only_one zero (suc (suc c)) x e = let f : None ≡ Some x = sym (none_after c) ∙ e in absurd cc
only_one (suc h) c x e = let f : None ≡ Some x = sym (none_elsewhere h c) ∙ e in absurd cc

only : (m : MutexNo) (x : Shared) → (one_heap locking_cluster).mutex m ≡ Some x → (the_mutex ≡ m) × (the_state ≡ x)
unfolding Only
only m x e = let h = only_one m.home m.count x e in (mutex_is m 0 1 h.0 h.1, h.2)

abbrev places : List Location
places = at_key (slot_k 0 0) ∷ []

same_location : {l m : Location} → Some l ≡ Some m → l ≡ m
same_location e = cc

each_place : (i : ℕ) (l : Location) → slice_get places i ≡ Some l → IsShare store the_mutex l
each_place zero l e = subst (IsShare store the_mutex) (same_location e) (int_tree, refl)
each_place (suc i) l e = absurd cc

place_once : (i j : ℕ) (l : Location) → slice_get places i ≡ Some l → slice_get places j ≡ Some l → i ≡ j
place_once zero zero l e f = refl
place_once zero (suc j) l e f = absurd cc
place_once (suc i) j l e f = absurd cc

-- main alone holds it
only_mark : (t i : ℕ) → IsMark (one_heap locking_cluster) the_mutex t i → (t ≡ 0) × (i ≡ 1)
only_mark t i h = by t h.thread h.goes_on h.mark
  where
    by : (t : ℕ) (x : CodeRunning) → place_in ((one_heap locking_cluster).thread t) ≡ Some x → slot_at x.slots i ≡ Some (Held the_mutex) → (t ≡ 0) × (i ≡ 1)
    by t x e = each (one_heap locking_cluster) main main_runs others (λ u z. slot_at z.slots i ≡ Some (Held the_mutex) → (u ≡ 0) × (i ≡ 1)) (λ f. (refl, (mark_at i the_mutex f).0)) t x e

mutex_typed : MutexTyped typing (one_heap locking_cluster) store the_mutex the_state
mutex_typed = record {
  given = refl;
  shares = record { places = places; each = each_place; all = λ l h. (0, ap Some (sym (the_share l the_mutex h).0)); once = place_once; count = refl };
  needed = omega arith;
  out = λ e. record { thread = 0; slot = 1; is = record { thread = main; goes_on = refl; mark = refl }; only = only_mark };
  unheld = λ v e. absurd cc;
  content = λ v e. absurd cc;
}

-- THE STATE

near_by : (k : Key) (m : Bool) (u : Place) → exact k ≡ refers m u → IsNear (one_heap locking_cluster) k u
near_by k m u e =
    let x = named k m u e in
    subst (λ w. IsNear (one_heap locking_cluster) k w) x.0 (subst (λ j. IsNear (one_heap locking_cluster) j mutex_place) (sym x.2) (record { thread = 0; of = refl; owner = 0; slot = 0; is = refl; near = inl refl }))

locking_state : CodeStateTypes twice_table typing (one_heap locking_cluster)
locking_state = record {
  typed = locking_typed;
  threads = each (one_heap locking_cluster) main main_runs others (λ t x. RunningTyped (KnownAt twice_table) temps typing store t ((one_heap locking_cluster).pair t) x) main_typed;
  results = λ t v e. absurd (none_ended (one_heap locking_cluster) main main_runs others t v e);
  near = near_by;
  pairs = λ p b c e. no_pairs (one_heap locking_cluster) main main_runs others no_pair typing p b c e;
  parents = λ p b c e. no_parents (one_heap locking_cluster) main main_runs others no_pair p b c e;
  there = λ l m h. subst (λ n. (x : Shared) × ((one_heap locking_cluster).mutex n ≡ Some x)) (the_share l m h).1 (the_state, is_there);
  mutexes = λ m x e.
      let h = only m x e in
      subst (λ z. MutexTyped typing (one_heap locking_cluster) store m z) h.1 (subst (λ n. MutexTyped typing (one_heap locking_cluster) store n the_state) h.0 mutex_typed);
  one_task = λ l m t q r e f. absurd (no_task l t q e);
  tasks_owed = λ l t r e. absurd (no_task l t r e);
  owed_stand = λ t h. absurd (none_owed (one_heap locking_cluster) main main_runs others t h);
  objects_there = λ l o e. absurd (no_box l o e);
  objects_owned = λ o v e. absurd cc;
  objects_made = λ o v x e f. absurd cc;
}

locking_has_types : Types locking_cluster
locking_has_types = record {
  table = twice_table;
  is_table = twice_typed;
  object = objects;
  typing = typing;
  state = locking_state;
  agree = refl;
  forms = refl;
  locked = refl;
  lead = refl;
  views = refl;
  ends = refl;
}

lock_is_reached : cluster_of (run locked_twice (with_servers 1 65536) (steps_of 0 0 3 ++ deliver 0 0 ++ deliver 0 0 ++ steps_of 0 0 1)) ≡ Some locking_cluster
lock_is_reached = refl

pub lock_has_types : LockHasTypes
lock_has_types = record { reached = lock_is_reached; table = twice_typed; typed = locking_has_types }
