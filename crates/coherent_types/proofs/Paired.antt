-- The cluster with a parent that waits and two branches has types.
use Rattle.std.proofs.Common.{◌≡◌, ◌≢◌, ◌<◌, ◌≤◌, ◌⊎◌, inl, inr, ◌∙◌, ◌+◌, ◌==◌, if◌then◌else◌, pos, ℕ, zero, suc, true, false, Bool, List, [], ◌∷◌, ◌++◌, Option, Some, None, refl, sym, ap, subst, arith}
use Rattle.std.proofs.lemmas.Bool.Decides.{nat_tests}
use Rattle.coherent_memory.specs.Below.fr_base.declared.name.ObjNo.{ObjNo}
use Rattle.coherent_memory.specs.Below.fr_base.declared.name.MutexNo.{MutexNo}
use Rattle.coherent_memory.specs.Below.fr_base.declared.label.Plain.{Plain}
use Rattle.coherent_memory.specs.Below.fr_base.declared.label.Plain.TheVariants as plain
use Rattle.coherent_memory.specs.Below.fr_typing.Kinds.{Owned, unit, int, view, whole}
use Rattle.coherent_memory.specs.Below.fr_typing.Places.{Env}
use Rattle.coherent_memory.specs.Below.fr_store.Keys.{Key, slot_k, temp_k, content_k, result_k, hand_k}
use Rattle.coherent_memory.specs.Below.fr_store.Store.{Val, Location, at_key, at_object, box_v, int_v, ref_v, gone_v, mutex_v, task_v, Store, value_at, Place}
use Rattle.coherent_memory.specs.Below.fr_store.Typed.{Tree, hole, int_tree, box_tree, Exact, owns, refers, KeyTypes, exact_under, here, Stands, Typed}
use Rattle.coherent_memory.specs.Below.fr_store.Below.{Seen}
use Rattle.coherent_memory.specs.Below.server_model.Figures.{run, steps_of, deliver}
use Rattle.coherent_memory.specs.Below.server_model.Programs.{with_servers, read_by_pairs}
use Rattle.sample_clusters.specs.Clusters.{place}
use Rattle.coherent_memory.specs.Sight.{sight}
use Rattle.coherent_memory.specs.Below.fr_plain.MachineThreads.{alive, over, owing, ended}
use Rattle.coherent_memory.specs.Below.fr_plain.PlainState.{place_in}
use Rattle.coherent_memory.specs.Below.fr_plain.declared.value.Value.{Value}
use Rattle.coherent_memory.specs.Below.fr_plain.declared.value.Value.TheVariants.{Own, ToObject, Held}
use Rattle.coherent_memory.specs.Below.fr_plain.State.{slot_at}
use Rattle.coherent_memory.specs.Below.fr_code.Steps.{Place as CodePlace}
use Rattle.coherent_memory.specs.Below.fr_code.Machine.{CodeRunning, CodeState}
use Rattle.coherent_memory.specs.Below.fr_sound.Seen.{Gives}
use Rattle.coherent_memory.specs.Below.fr_sound.States.{Typing, store_of, slot_val, temp_val, result_val, RunningTyped, env_at, part_at, is_reference, is_hidden, is_held, IsLower, by_boxes, WaitsFor, directly, IsKept, IsBranch, IsOwed, IsNear}
use Rattle.coherent_memory.specs.OneHeap.{PlainLife, one_heap, is_given_thread}
use Rattle.coherent_memory.specs.Below.fr_code.CodeTypes.{going, forked_at}
use Rattle.coherent_types.specs.ClusterTypes.{KnownAt, CodeStateTypes, Types}
use Rattle.coherent_types.specs.Tables.{r_name, slot, two_slots, pairs_table}
use Rattle.coherent_types.specs.Typed.{cluster_of}
use Rattle.coherent_types.specs.Paired.{paired_cluster, PairHasTypes}
use Rattle.coherent_types.proofs.Tables.{pairs_typed}
use Rattle.coherent_types.proofs.Numbers.{object_is, suc_zero, zero_suc}

abbrev the_object : ObjNo
the_object = record { thread = 0; count = 0 }

abbrev objects : ObjNo → Owned
objects = λ o. int

abbrev gives : Gives
gives = record { mutex = λ m. unit; result = λ t. unit }

-- all references lead to what main's first slot owns
abbrev boxed_place : Place
boxed_place = record { key = slot_k 0 0; depth = 1 }

abbrev exact : KeyTypes
exact (slot_k zero zero) = owns (box_tree int_tree)
exact (slot_k zero (suc zero)) = refers false boxed_place
exact (slot_k (suc zero) zero) = refers false boxed_place
exact (slot_k (suc (suc zero)) zero) = refers false boxed_place
exact k = owns hole

abbrev rank : Key → ℕ
rank (slot_k zero i) = i
rank (slot_k (suc t) i) = 2 + i
rank (temp_k t i) = 5
rank k = 0

abbrev typing : Typing
typing = record { gives = gives; exact = exact; rank = rank; marks = λ t i. at_key (hand_k 0); order = λ t. if t == 0 then 0 else 1 }

abbrev temps : CodePlace → List Value
temps p = p.temps

abbrev state : CodeState
state = one_heap paired_cluster

abbrev store : Store
store = store_of temps typing state

-- OTHER THREADS

abbrev Rests : Option PlainLife → Type 0
Rests l = (l ≡ Some over) ⊎ (l ≡ None)

not_zero : (t : ℕ) → (0 == suc (suc (suc t))) ≡ false
not_zero t = grind (arith, nat_tests)

not_one : (t : ℕ) → (1 == suc (suc (suc t))) ≡ false
not_one t = grind (arith, nat_tests)

not_two : (t : ℕ) → (2 == suc (suc (suc t))) ≡ false
not_two t = grind (arith, nat_tests)

rests : (t : ℕ) → Rests (state.thread (suc (suc (suc t))))
rests t = by (is_given_thread (sight paired_cluster) (suc (suc (suc t)))) refl
  where
    by : (b : Bool) → is_given_thread (sight paired_cluster) (suc (suc (suc t))) ≡ b → Rests (state.thread (suc (suc (suc t))))
    by true e = inl (rw (e, not_zero t, not_one t, not_two t) (rw (not_one t, not_two t) refl))
    by false e = inr (rw e refl)

no_slot : (t i : ℕ) (l : Option PlainLife) → Rests l → slot_val temps typing t i (place_in l) ≡ gone_v
no_slot t i l (inl e) = ap (λ z. slot_val temps typing t i (place_in z)) e
no_slot t i l (inr e) = ap (λ z. slot_val temps typing t i (place_in z)) e

no_temp : (t i : ℕ) (l : Option PlainLife) → Rests l → temp_val temps typing t i (place_in l) ≡ gone_v
no_temp t i l (inl e) = ap (λ z. temp_val temps typing t i (place_in z)) e
no_temp t i l (inr e) = ap (λ z. temp_val temps typing t i (place_in z)) e

no_kept : (t : ℕ) (l : Option PlainLife) → Rests l → result_val temps typing t l ≡ gone_v
no_kept t l (inl e) = ap (result_val temps typing t) e
no_kept t l (inr e) = ap (result_val temps typing t) e

-- THREADS

abbrev main_slots : List Value
main_slots = ToObject the_object ∷ Own (plain.Box the_object) ∷ []

abbrev main : CodeRunning
main = record { place = record { pc = 5; temps = [] }; slots = main_slots }

abbrev branch : ℕ → CodeRunning
branch pc = record { place = record { pc = pc; temps = [] }; slots = ToObject the_object ∷ [] }

main_runs : state.thread 0 ≡ Some (alive main)
main_runs = refl

first_runs : state.thread 1 ≡ Some (owing (branch 15))
first_runs = refl

second_runs : state.thread 2 ≡ Some (owing (branch 19))
second_runs = refl

at_rest : {l : Option PlainLife} {x : CodeRunning} → Rests l → place_in l ≡ Some x → ⊥
at_rest {x = x} (inl f) e = let g : None ≡ Some x = sym (ap place_in f) ∙ e in absurd cc
at_rest {x = x} (inr f) e = let g : None ≡ Some x = sym (ap place_in f) ∙ e in absurd cc

not_kept : {l : Option PlainLife} → Rests l → IsKept l → ⊥
not_kept (inl f) h = subst IsKept f h
not_kept (inr f) h = subst IsKept f h

same_thread : {x z : CodeRunning} → Some x ≡ Some z → x ≡ z
same_thread e = cc

-- what holds of the three holds of each thread that goes on
each : (Q : ℕ → CodeRunning → Type 0) → Q 0 main → Q 1 (branch 15) → Q 2 (branch 19) → (t : ℕ) (z : CodeRunning) → place_in (state.thread t) ≡ Some z → Q t z
each Q f g h zero z e = subst (Q 0) (same_thread (sym (ap place_in main_runs) ∙ e)) f
each Q f g h (suc zero) z e = subst (Q 1) (same_thread (sym (ap place_in first_runs) ∙ e)) g
each Q f g h (suc (suc zero)) z e = subst (Q 2) (same_thread (sym (ap place_in second_runs) ∙ e)) h
each Q f g h (suc (suc (suc t))) z e = absurd (at_rest (rests t) e)

-- main waits for both, and nobody else waits
waits_first : WaitsFor state 0 1
waits_first = record { first = 1; second = 2; pair = refl; one = inl refl }

waits_second : WaitsFor state 0 2
waits_second = record { first = 1; second = 2; pair = refl; one = inr refl }

same_pair : (p q : ℕ × ℕ) → Some p ≡ Some q → (p.0 ≡ q.0) × (p.1 ≡ q.1)
same_pair p q e =
    let f : p ≡ q = cc in
    (ap (λ (z : ℕ × ℕ). z.0) f, ap (λ (z : ℕ × ℕ). z.1) f)

abbrev IsPair : ℕ → ℕ → ℕ → Type 0
IsPair p b c = (p ≡ 0) × (b ≡ 1) × (c ≡ 2)

no_pair : {A : Type 0} (q : ℕ × ℕ) → None ≡ Some q → A
no_pair q e = absurd cc

none_pair : (p : ℕ) → state.pair (suc (suc (suc p))) ≡ None
none_pair p = rw (not_zero p, not_one p, not_two p) refl

the_pair : (p b c : ℕ) → state.pair p ≡ Some (b, c) → IsPair p b c
the_pair zero b c e = let h = same_pair (1, 2) (b, c) e in (refl, sym h.0, sym h.1)
the_pair (suc zero) b c e = no_pair (b, c) e
the_pair (suc (suc zero)) b c e = no_pair (b, c) e
the_pair (suc (suc (suc p))) b c e = no_pair (b, c) (sym (none_pair p) ∙ e)

only_main : (p t : ℕ) → WaitsFor state p t → p ≡ 0
only_main p t h = (the_pair p h.first h.second h.pair).0

first_branch : IsBranch typing state 0 1
first_branch = record { kept = tt; gives = refl; only = λ q h. only_main q 1 h; below = omega arith }

second_branch : IsBranch typing state 0 2
second_branch = record { kept = tt; gives = refl; only = λ q h. only_main q 2 h; below = omega arith }

abbrev ArePaired : ℕ → ℕ → ℕ → Type 0
ArePaired p b c = (b ≢ c) × IsBranch typing state p b × IsBranch typing state p c

they_differ : ◌≢◌ {A = ℕ} 1 2
they_differ e = omega (arith, e)

paired : (p b c : ℕ) → state.pair p ≡ Some (b, c) → ArePaired p b c
paired p b c e =
    let h = the_pair p b c e in
    subst (λ q. ArePaired q b c) (sym h.0) (subst (λ q. ArePaired 0 q c) (sym h.1) (subst (λ q. ArePaired 0 1 q) (sym h.2) (they_differ, first_branch, second_branch)))

none_owed : (t : ℕ) → IsOwed state t → ⊥
none_owed zero h = subst IsKept main_runs h.kept
none_owed (suc zero) h = h.free 0 waits_first
none_owed (suc (suc zero)) h = h.free 0 waits_second
none_owed (suc (suc (suc t))) h = not_kept (rests t) h.kept

-- KEYS

abbrev IsRef : Key → Type 0
IsRef k = (exact k ≡ refers false boxed_place) × (store.at k ≡ ref_v (at_object the_object)) × (0 < rank k) × IsNear state k boxed_place

near_main : IsNear state (slot_k 0 1) boxed_place
near_main = record { thread = 0; of = refl; owner = 0; slot = 0; is = refl; near = inl refl }

near_first : IsNear state (slot_k 1 0) boxed_place
near_first = record { thread = 1; of = refl; owner = 0; slot = 0; is = refl; near = inr (directly waits_first) }

near_second : IsNear state (slot_k 2 0) boxed_place
near_second = record { thread = 2; of = refl; owner = 0; slot = 0; is = refl; near = inr (directly waits_second) }

-- main's first slot, a reference, or nothing
abbrev Which : Key → Type 0
Which k = (k ≡ slot_k 0 0) ⊎ (IsRef k ⊎ ((exact k ≡ owns hole) × (store.at k ≡ gone_v)))

over_one : (i : ℕ) → (suc (suc i) == 1) ≡ false
over_one i = grind (arith, nat_tests)

which : (k : Key) → Which k
which (slot_k zero zero) = inl refl
which (slot_k zero (suc zero)) = inr (inl (refl, refl, omega arith, near_main))
which (slot_k zero (suc (suc i))) = inr (inr (refl, rw (over_one i, suc_zero (suc i)) refl))
which (slot_k (suc zero) zero) = inr (inl (refl, refl, omega arith, near_first))
which (slot_k (suc zero) (suc i)) = inr (inr (refl, rw (suc_zero i) refl))
which (slot_k (suc (suc zero)) zero) = inr (inl (refl, refl, omega arith, near_second))
which (slot_k (suc (suc zero)) (suc i)) = inr (inr (refl, rw (suc_zero i) refl))
which (slot_k (suc (suc (suc t))) i) = inr (inr (refl, no_slot (suc (suc (suc t))) i (state.thread (suc (suc (suc t)))) (rests t)))
which (temp_k zero i) = inr (inr (refl, refl))
which (temp_k (suc zero) i) = inr (inr (refl, refl))
which (temp_k (suc (suc zero)) i) = inr (inr (refl, refl))
which (temp_k (suc (suc (suc t))) i) = inr (inr (refl, no_temp (suc (suc (suc t))) i (state.thread (suc (suc (suc t)))) (rests t)))
which (content_k h c) = inr (inr (refl, refl))
which (result_k zero) = inr (inr (refl, refl))
which (result_k (suc zero)) = inr (inr (refl, refl))
which (result_k (suc (suc zero))) = inr (inr (refl, refl))
which (result_k (suc (suc (suc t)))) = inr (inr (refl, no_kept (suc (suc (suc t))) (state.thread (suc (suc (suc t)))) (rests t)))
which (hand_k t) = inr (inr (refl, refl))

-- OBJECTS

object_int : (t c : ℕ) → (store.heap (record { thread = t; count = c }) ≡ Some (int_v (pos 1))) ⊎ (store.heap (record { thread = t; count = c }) ≡ None)
object_int zero zero = inl refl
object_int zero (suc c) = inr (rw (zero_suc c) refl)
object_int (suc t) c = inr (rw (zero_suc t) refl)

box_at : (k : Key) (o : ObjNo) → store.at k ≡ box_v o → Which k → at_key k ≡ at_key (slot_k 0 0)
box_at k o e (inl p) = ap at_key p
box_at k o e (inr (inl r)) = let f = r.1 in absurd cc
box_at k o e (inr (inr q)) = let f = q.1 in absurd cc

no_box : (v : Option Val) (o : ObjNo) → (v ≡ Some (int_v (pos 1))) ⊎ (v ≡ None) → v ≡ Some (box_v o) → ⊥
no_box v o (inl f) e = absurd cc
no_box v o (inr f) e = absurd cc

same_val : {v w : Val} → Some v ≡ Some w → v ≡ w
same_val e = cc

box_place : (l : Location) (o : ObjNo) → value_at store l ≡ Some (box_v o) → l ≡ at_key (slot_k 0 0)
box_place (at_key k) o e = box_at k o (same_val e) (which k)
box_place (at_object q) o e = absurd (no_box (store.heap q) o (object_int q.thread q.count) e)

-- LEVELS

box_level : (n : ℕ) (p : Exact) → exact_under n (owns (box_tree int_tree)) ≡ Some p → Stands exact store (at_key (slot_k 0 0)) n p
box_level zero p e =
    let f : owns (box_tree int_tree) ≡ p = cc in
    subst (λ q. Stands exact store (at_key (slot_k 0 0)) 0 q) f (record { spot = at_key (slot_k 0 0); value = box_v the_object; leads = refl; there = refl; fits = (the_object, refl) })
box_level (suc zero) p e =
    let f : owns int_tree ≡ p = cc in
    subst (λ q. Stands exact store (at_key (slot_k 0 0)) 1 q) f (record { spot = at_object the_object; value = int_v (pos 1); leads = refl; there = refl; fits = (pos 1, refl) })
box_level (suc (suc n)) p e = absurd cc

ref_level : (k : Key) → store.at k ≡ ref_v (at_object the_object) → (n : ℕ) (p : Exact) → exact_under n (refers false boxed_place) ≡ Some p → Stands exact store (at_key k) n p
ref_level k g zero p e =
    let f : refers false boxed_place ≡ p = cc in
    subst (λ q. Stands exact store (at_key k) 0 q) f (record {
      spot = at_key k;
      value = store.at k;
      leads = refl;
      there = refl;
      fits = record { base = slot_k 0 0; boxes = 1; type = owns int_tree; res = here refl; whole = tt; target = at_object the_object; is = g; leads = refl };
    })
ref_level k g (suc n) p e = absurd cc

hole_level : (k : Key) → store.at k ≡ gone_v → (n : ℕ) (p : Exact) → exact_under n (owns hole) ≡ Some p → Stands exact store (at_key k) n p
hole_level k g zero p e =
    let f : owns hole ≡ p = cc in
    subst (λ q. Stands exact store (at_key k) 0 q) f (record { spot = at_key k; value = store.at k; leads = refl; there = refl; fits = g })
hole_level k g (suc n) p e = absurd cc

level_by : (k : Key) → Which k → (n : ℕ) (p : Exact) → exact_under n (exact k) ≡ Some p → Stands exact store (at_key k) n p
level_by k (inl q) n p e = subst (λ j. Stands exact store (at_key j) n p) (sym q) (box_level n p (subst (λ j. exact_under n (exact j) ≡ Some p) q e))
level_by k (inr (inl q)) n p e = ref_level k q.1 n p (subst (λ t. exact_under n t ≡ Some p) q.0 e)
level_by k (inr (inr q)) n p e = hole_level k q.1 n p (subst (λ t. exact_under n t ≡ Some p) q.0 e)

-- WHAT REFERENCES NAME

names_by : (k : Key) (m : Bool) (u : Place) → exact k ≡ refers m u → Which k → (boxed_place ≡ u) × (m ≡ false) × (0 < rank k) × IsNear state k boxed_place
names_by k m u e (inl q) = let f : owns (box_tree int_tree) ≡ refers m u = subst (λ j. exact j ≡ refers m u) q e in absurd cc
names_by k m u e (inr (inl q)) = let f : refers false boxed_place ≡ refers m u = sym q.0 ∙ e in (cc, cc, q.2, q.3)
names_by k m u e (inr (inr q)) = let f : owns hole ≡ refers m u = sym q.0 ∙ e in absurd cc

named : (k : Key) (m : Bool) (u : Place) → exact k ≡ refers m u → (boxed_place ≡ u) × (m ≡ false) × (0 < rank k) × IsNear state k boxed_place
named k m u e = names_by k m u e (which k)

none_mutable : (k : Key) (u : Place) → exact k ≡ refers true u → ⊥
none_mutable k u e = let f = (named k true u e).1 in absurd cc

paired_typed : Typed rank exact store
paired_typed = record {
  stands = λ k n p e. level_by k (which k) n p e;
  below = λ k m u e. subst (λ w. rank w.key < rank k) (named k m u e).0 (named k m u e).2;
  once = λ i j m u v e f g. absurd (none_mutable i u e);
  owner = λ a b o e f. box_place a o e ∙ sym (box_place b o f);
}

not_temp : (t i : ℕ) (j : Key) (m : Bool) (u : Place) → exact j ≡ refers m u → u.key ≢ temp_k t i
not_temp t i j m u e f = let g = ap (λ (w : Place). w.key) (named j m u e).0 in absurd cc

-- MAIN

main_above : (i : ℕ) → 2 ≤ i → exact (slot_k 0 i) ≡ owns hole
main_above zero l = absurd (omega (arith, l))
main_above (suc zero) l = absurd (omega (arith, l))
main_above (suc (suc i)) l = refl

main_lower : (i : ℕ) (l : Location) → is_reference (part_at two_slots i) ≡ true → store.at (slot_k 0 i) ≡ ref_v l → IsLower store two_slots 0 i l
main_lower zero l e f = absurd cc
main_lower (suc zero) l e f =
    let g : at_object the_object ≡ l = cc in
    subst (λ q. IsLower store two_slots 0 1 q) g (0, omega arith, by_boxes 0 refl)
main_lower (suc (suc i)) l e f = let g = over_one i in let h = suc_zero (suc i) in absurd cc

main_hidden : (i : ℕ) → is_hidden (env_at two_slots i) ≡ is_held (slot_at main_slots i)
main_hidden zero = refl
main_hidden (suc zero) = refl
main_hidden (suc (suc i)) = rw (over_one i, suc_zero (suc i)) refl

main_unmarked : (i : ℕ) (m : MutexNo) → slot_at main_slots i ≡ Some (Held m) → ⊥
main_unmarked zero m e = absurd cc
main_unmarked (suc zero) m e = absurd cc
main_unmarked (suc (suc i)) m e = let g = over_one i in let h = suc_zero (suc i) in absurd cc

abbrev Running : ℕ → CodeRunning → Type 0
Running t x = RunningTyped (KnownAt pairs_table) temps typing store t (state.pair t) x

main_typed : Running 0 main
main_typed = record {
  entry = forked_at two_slots [] unit;
  known = refl;
  gives = refl;
  keys = record { differ = λ x y e. cc; off = λ i e. absurd cc; ranks = λ i j l. l };
  thread = record {
    nested = ((omega arith, tt), (tt, tt));
    slots = ((refl, record { place = place 0 1; is = refl; among = inl refl }), (refl, tt));
    above = main_above;
    temp = refl;
    names = tt;
    quiet = not_temp 0 0;
    over = λ i l. omega (arith, l);
  };
  waiting = λ i l. absurd (omega (arith, l));
  all_slots = refl;
  all_temps = refl;
  lower = main_lower;
  forks = refl;
  hidden = main_hidden;
  marked = λ i m e. absurd (main_unmarked i m e);
}

-- BRANCHES

abbrev branch_slots : Env
branch_slots = slot r_name (whole (view int)) ∷ []

never : {b : Bool} → b ≡ false → b ≡ true → ⊥
never f e = absurd cc

no_reference : (i : ℕ) → is_reference (part_at branch_slots (suc i)) ≡ false
no_reference i = rw (suc_zero i) refl

branch_lower : (t i : ℕ) (l : Location) → is_reference (part_at branch_slots i) ≡ true → store.at (slot_k t i) ≡ ref_v l → IsLower store branch_slots t i l
branch_lower t zero l e f = absurd (never refl e)
branch_lower t (suc i) l e f = absurd (never (no_reference i) e)

not_theirs : (t : ℕ) (j : Key) (m : Bool) (u : Place) → exact j ≡ refers m u → (x : ℕ) → u.key ≢ slot_k (suc t) x
not_theirs t j m u e x f =
    let g : slot_k 0 0 ≡ slot_k (suc t) x = ap (λ (w : Place). w.key) (named j m u e).0 ∙ f in
    let h : 0 ≡ suc t = cc in
    omega (arith, h)

seen_by : (t : ℕ) → Seen (slot_k (suc t)) exact int boxed_place
seen_by t = record { foreign = λ x e. not_theirs t (slot_k 0 1) false boxed_place refl x e; base = slot_k 0 0; boxes = 1; res = here refl }

first_above : (i : ℕ) → 1 ≤ i → exact (slot_k 1 i) ≡ owns hole
first_above zero l = absurd (omega (arith, l))
first_above (suc i) l = refl

branch_hidden : (i : ℕ) → is_hidden (env_at branch_slots i) ≡ is_held (slot_at (ToObject the_object ∷ []) i)
branch_hidden zero = refl
branch_hidden (suc i) = rw (suc_zero i) refl

branch_unmarked : (i : ℕ) (m : MutexNo) → slot_at (ToObject the_object ∷ []) i ≡ Some (Held m) → ⊥
branch_unmarked zero m e = absurd cc
branch_unmarked (suc i) m e = let h = suc_zero i in absurd cc

first_typed : Running 1 (branch 15)
first_typed = record {
  entry = going branch_slots [] unit;
  known = refl;
  gives = refl;
  keys = record { differ = λ x y e. cc; off = λ i e. absurd cc; ranks = λ i j l. omega (arith, l) };
  thread = record {
    typed = paired_typed;
    nested = (tt, tt);
    slots = ((refl, seen_by 0), tt);
    above = first_above;
    temp = refl;
    names = tt;
    quiet = not_temp 1 0;
    over = λ i l. omega (arith, l);
    alone = λ j m u e f. inr (not_theirs 0 j m u e);
  };
  waiting = λ i l. absurd (omega (arith, l));
  all_slots = refl;
  all_temps = refl;
  lower = branch_lower 1;
  forks = refl;
  hidden = branch_hidden;
  marked = λ i m e. absurd (branch_unmarked i m e);
}

second_above : (i : ℕ) → 1 ≤ i → exact (slot_k 2 i) ≡ owns hole
second_above zero l = absurd (omega (arith, l))
second_above (suc i) l = refl

second_typed : Running 2 (branch 19)
second_typed = record {
  entry = going branch_slots [] unit;
  known = refl;
  gives = refl;
  keys = record { differ = λ x y e. cc; off = λ i e. absurd cc; ranks = λ i j l. omega (arith, l) };
  thread = record {
    typed = paired_typed;
    nested = (tt, tt);
    slots = ((refl, seen_by 1), tt);
    above = second_above;
    temp = refl;
    names = tt;
    quiet = not_temp 2 0;
    over = λ i l. omega (arith, l);
    alone = λ j m u e f. inr (not_theirs 1 j m u e);
  };
  waiting = λ i l. absurd (omega (arith, l));
  all_slots = refl;
  all_temps = refl;
  lower = branch_lower 2;
  forks = refl;
  hidden = branch_hidden;
  marked = λ i m e. absurd (branch_unmarked i m e);
}

-- WHAT STANDS SOMEWHERE

abbrev Small : Val → Type 0
Small v = (v ≡ gone_v) ⊎ ((v ≡ int_v (pos 1)) ⊎ ((v ≡ box_v the_object) ⊎ (v ≡ ref_v (at_object the_object))))

key_small : (k : Key) → Which k → Small (store.at k)
key_small k (inl q) = subst (λ j. Small (store.at j)) (sym q) (inr (inr (inl refl)))
key_small k (inr (inl r)) = inr (inr (inr r.1))
key_small k (inr (inr q)) = inl q.1

object_small : (c : Option Val) (v : Val) → (c ≡ Some (int_v (pos 1))) ⊎ (c ≡ None) → c ≡ Some v → Small v
object_small c v (inl f) e = let g : Some (int_v (pos 1)) ≡ Some v = sym f ∙ e in inr (inl cc)
object_small c v (inr f) e = let g : None ≡ Some v = sym f ∙ e in absurd cc

small : (l : Location) (v : Val) → value_at store l ≡ Some v → Small v
small (at_key k) v e = subst Small (same_val e) (key_small k (which k))
small (at_object q) v e = object_small (store.heap q) v (object_int q.thread q.count) e

no_mutex : (m : MutexNo) (r : Tree) → Small (mutex_v m r) → ⊥
no_mutex m r (inl e) = absurd cc
no_mutex m r (inr (inl e)) = absurd cc
no_mutex m r (inr (inr (inl e))) = absurd cc
no_mutex m r (inr (inr (inr e))) = absurd cc

no_task : (t : ℕ) (r : Tree) → Small (task_v t r) → ⊥
no_task t r (inl e) = absurd cc
no_task t r (inr (inl e)) = absurd cc
no_task t r (inr (inr (inl e))) = absurd cc
no_task t r (inr (inr (inr e))) = absurd cc

-- THE STATE

not_ended : {l : Option PlainLife} {v : Value} → Rests l → l ≡ Some (ended v) → ⊥
not_ended (inl f) e = absurd cc
not_ended (inr f) e = absurd cc

no_result : (t : ℕ) (v : Value) → state.thread t ≡ Some (ended v) → ⊥
no_result zero v e = absurd cc
no_result (suc zero) v e = absurd cc
no_result (suc (suc zero)) v e = absurd cc
no_result (suc (suc (suc t))) v e = not_ended (rests t) e

no_second : (c : ℕ) → state.object (record { thread = 0; count = suc c }) ≡ None
no_second c = rw (zero_suc c) refl

no_later : (t c : ℕ) → state.object (record { thread = suc t; count = c }) ≡ None
no_later t c = rw (zero_suc t) refl

-- each object is main's box's
the_only : (t c : ℕ) (v : Plain) → state.object (record { thread = t; count = c }) ≡ Some v → (t ≡ 0) × (c ≡ 0)
the_only zero zero v e = (refl, refl)
the_only zero (suc c) v e = let f : None ≡ Some v = sym (no_second c) ∙ e in absurd cc
the_only (suc t) c v e = let f : None ≡ Some v = sym (no_later t c) ∙ e in absurd cc

owned : (o : ObjNo) (v : Plain) → state.object o ≡ Some v → (l : Location) × (value_at store l ≡ Some (box_v o))
owned o v e =
    let h = the_only o.thread o.count v e in
    let same : the_object ≡ o = object_is o 0 0 h.0 h.1 in
    (at_key (slot_k 0 0), ap (λ q. Some (box_v q)) same)

made : (o : ObjNo) (v : Plain) (x : CodeRunning) → state.object o ≡ Some v → place_in (state.thread o.thread) ≡ Some x → o.count < state.made o.thread
made o v x e f =
    let h = the_only o.thread o.count v e in
    subst (λ t. o.count < state.made t) (sym h.0) (subst (λ c. c < 1) (sym h.1) (omega arith))

near : (k : Key) (m : Bool) (u : Place) → exact k ≡ refers m u → IsNear state k u
near k m u e = let h = named k m u e in subst (IsNear state k) h.0 h.3

-- each box is main's
boxes_there : (l : Location) (o : ObjNo) → value_at store l ≡ Some (box_v o) → (v : Plain) × (state.object o ≡ Some v)
boxes_there l o e =
    let f : Some (box_v the_object) ≡ Some (box_v o) = subst (λ m. value_at store m ≡ Some (box_v o)) (box_place l o e) e in
    let same : the_object ≡ o = cc in
    subst (λ q. (v : Plain) × (state.object q ≡ Some v)) same (plain.Int (pos 1), refl)

paired_state : CodeStateTypes pairs_table typing state
paired_state = record {
  typed = paired_typed;
  threads = each Running main_typed first_typed second_typed;
  results = λ t v e. absurd (no_result t v e);
  near = near;
  pairs = paired;
  parents = λ p b c e. subst (λ q. (x : CodeRunning) × (place_in (state.thread q) ≡ Some x)) (sym (the_pair p b c e).0) (main, refl);
  there = λ l m h. absurd (no_mutex m h.0 (small l (mutex_v m h.0) h.1));
  mutexes = λ m x e. absurd cc;
  one_task = λ l m t q r e f. absurd (no_task t q (small l (task_v t q) e));
  tasks_owed = λ l t r e. absurd (no_task t r (small l (task_v t r) e));
  owed_stand = λ t h. absurd (none_owed t h);
  objects_there = boxes_there;
  objects_owned = owned;
  objects_made = made;
}

paired_has_types : Types paired_cluster
paired_has_types = record {
  table = pairs_table;
  is_table = pairs_typed;
  object = objects;
  typing = typing;
  state = paired_state;
  agree = refl;
  forms = refl;
  locked = refl;
  lead = refl;
  views = refl;
  ends = refl;
}

pair_is_reached : cluster_of (run read_by_pairs (with_servers 1 65536) (steps_of 0 0 5 ++ deliver 0 0 ++ deliver 0 0)) ≡ Some paired_cluster
pair_is_reached = refl

pub pair_has_types : PairHasTypes
pair_has_types = record { reached = pair_is_reached; typed = paired_has_types }
