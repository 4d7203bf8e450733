-- What an owned value names has a type of fewer levels, so none owns itself.
use Rattle.std.proofs.Common.{◌≡◌, inl, inr, ◌<◌, ℕ, suc, ◌+◌, ◌&&◌, Bool, true, false, List, [], ◌∷◌, reverse, Option, Some, None, is_some, not, refl, ap, subst, arith}
use Rattle.coherent_memory.proofs.Below.coloured_heap.Times.{both, number_is, object_is, mutex_is}
use Rattle.coherent_memory.specs.Below.fr_base.declared.name.ObjNo.{ObjNo}
use Rattle.coherent_memory.specs.Below.fr_base.declared.name.MutexNo.{MutexNo}
use Rattle.coherent_memory.specs.Below.heap_partition.declared.value.BoxPtr.{BoxPtr}
use Rattle.coherent_memory.specs.Below.heap_partition.declared.value.Owned.{Owned as Value}
use Rattle.coherent_memory.specs.Below.heap_partition.declared.value.Owned.TheVariants as owned
use Rattle.coherent_memory.specs.Below.fr_typing.Kinds.{Owned, unit, int, box, mutex, task, same_owned, own, shared, mutable, view, Piece, whole, gone, boxed}
use Rattle.coherent_memory.specs.Below.fr_typing.Places.{Slot, Env}
use Rattle.coherent_memory.specs.Below.fr_typing.Checks.{owned_levels}
use Rattle.coherent_memory.specs.Below.thread_state.View.{ThreadState, is_over}
use Rattle.coherent_memory.specs.Below.thread_state.declared.value.Value.{Value as Any}
use Rattle.coherent_memory.specs.Below.thread_state.declared.value.Value.TheVariants as value
use Rattle.coherent_memory.specs.Names.{tot, other, if_so, Among}
use Rattle.coherent_memory.specs.Things.{as_content, as_result, holds, lies, flies}
use Rattle.coherent_memory.specs.Sight.{Sight, sight}
use Rattle.coherent_memory.specs.Walking.{instr_of}
use Rattle.coherent_memory.specs.Paths.{joined_thread}
use Rattle.coherent_memory.specs.Requests.{locked_mutex}
use Rattle.coherent_memory.specs.OneHeap.{Node, object_n, mutex_n, task_n, owns}
use Rattle.coherent_memory.specs.Below.fr_code.CodeTypes.{Entry, Table}
use Rattle.coherent_memory.specs.Below.fr_sound.States.{owned_part}
use Rattle.coherent_types.specs.Names.{NameTypes, names_of, fits, fits_some, is_there, is_type}
use Rattle.coherent_types.specs.ClusterTypes.{misfit, content_gift, result_gift, gift_misfit, has_form, slot_form, slots_wrong, temps_wrong, forms_of, forms_wrong, entry_wrong, above_mark, locked_of, locked_wrong}
use Rattle.coherent_types.specs.Owning.{IsTop, IsHeld, Stands, lying, flying, content, granted, held, result, joined, OwnsInTheEnd, directly, through, NoneOwnsItself}

abbrev type_of : NameTypes → Node → Owned
type_of n (object_n o) = n.object o
type_of n (mutex_n m) = n.mutex m
type_of n (task_n t) = n.result t

level : NameTypes → Node → ℕ
level n a = owned_levels (type_of n a)

same_levels : (a b : Owned) → same_owned a b ≡ true → owned_levels a ≡ owned_levels b
same_levels unit unit e = refl
same_levels int int e = refl
same_levels (box a) (box b) e = ap suc (same_levels a b e)
same_levels (mutex a) (mutex b) e = ap suc (same_levels a b e)
same_levels (task a) (task b) e = ap suc (same_levels a b e)
same_levels a b e = absurd cc

same_owned_is : (a b : Owned) → same_owned a b ≡ true → a ≡ b
same_owned_is unit unit e = refl
same_owned_is int int e = refl
same_owned_is (box a) (box b) e = ap box (same_owned_is a b e)
same_owned_is (mutex a) (mutex b) e = ap mutex (same_owned_is a b e)
same_owned_is (task a) (task b) e = ap task (same_owned_is a b e)
same_owned_is a b e = absurd cc

fewer_box : (n : NameTypes) (t : Owned) (p : BoxPtr) (o : ObjNo) → fits n t (owned.Box p) ≡ true → p.object ≡ o → owned_levels (n.object o) < owned_levels t
fewer_box n (box t) p o e f =
    let x = same_levels (n.object p.object) t e in
    let y = ap (λ q. owned_levels (n.object q)) f in
    omega (arith, x, y)
fewer_box n t p o e f = absurd cc

fewer_mutex : (n : NameTypes) (t : Owned) (q m : MutexNo) → fits n t (owned.Mutex q) ≡ true → q ≡ m → owned_levels (n.mutex m) < owned_levels t
fewer_mutex n (mutex t) q m e f =
    let x = same_levels (n.mutex q) t e in
    let y = ap (λ z. owned_levels (n.mutex z)) f in
    omega (arith, x, y)
fewer_mutex n t q m e f = absurd cc

fewer_task : (n : NameTypes) (t : Owned) (q u : ℕ) → fits n t (owned.Task q) ≡ true → q ≡ u → owned_levels (n.result u) < owned_levels t
fewer_task n (task t) q u e f =
    let x = same_levels (n.result q) t e in
    let y = ap (λ z. owned_levels (n.result z)) f in
    omega (arith, x, y)
fewer_task n t q u e f = absurd cc

-- a name in a value of a type has a type of fewer levels
fewer : (n : NameTypes) (t : Owned) (b : Node) (v : Value) → fits n t v ≡ true → owns b v ≡ true → level n b < owned_levels t
unfolding level
fewer n t (object_n o) (owned.Box p) e f = fewer_box n t p o e (object_is p.object o f)
fewer n t (mutex_n m) (owned.Mutex q) e f = fewer_mutex n t q m e (mutex_is q m f)
fewer n t (task_n u) (owned.Task q) e f = fewer_task n t q u e (number_is q u f)
fewer n t b v e f = absurd cc

none_in : {A : Type 0} (f : A → ℕ) (x : A) (xs : List A) → tot f xs ≡ 0 → Among x xs → f x ≡ 0
none_in f x [] z h = absurd h
none_in f x (y ∷ ys) z (inl e) = subst (λ w. f w ≡ 0) e (omega (arith, z))
none_in f x (y ∷ ys) z (inr h) = none_in f x ys (omega (arith, z)) h

not_other : (b : Bool) → other b ≡ 0 → b ≡ true
not_other true e = refl
not_other false e = absurd cc

right_of : (a b : Bool) → other (a && b) ≡ 0 → b ≡ true
right_of a b e = (both a b (not_other (a && b) e)).1

-- A HELD CONTENT

no_more : (a b : ℕ) → a + b ≡ 0 → (a ≡ 0) × (b ≡ 0)
no_more a b e = (omega (arith, e), omega (arith, e))

fits_of : (n : NameTypes) (o : Option Owned) (p : Owned) (v : Value) → is_type o p ≡ true → fits_some n o v ≡ true → fits n p v ≡ true
fits_of n None p v e f = absurd cc
fits_of n (Some q) p v e f = subst (λ x. fits n x v ≡ true) (same_owned_is q p e) f

-- a slot that has an owned value agrees with its part
part_fits : (n : NameTypes) (p : Piece) (v : Value) → has_form n p (value.Own v) ≡ true → fits_some n (owned_part p) v ≡ true
part_fits n (whole (own o)) v e = (both (is_there v) (fits n o v) e).1
part_fits n (whole (shared us)) v e = absurd cc
part_fits n (whole (mutable us)) v e = absurd cc
part_fits n (whole (view o)) v e = absurd cc
part_fits n (gone k) v e = absurd cc
part_fits n (boxed p) v e = (both (is_there v) (fits_some n (owned_part (boxed p)) v) e).1

slot_fits : (n : NameTypes) (s : Slot) (b : Bool) (v : Value) → slot_form n s b (value.Own v) ≡ true → fits_some n (owned_part s.part) v ≡ true
slot_fits n s true v e = part_fits n s.part v e
slot_fits n s false v e = absurd cc

top_type : (n : NameTypes) (c : Slot) (m : MutexNo) (us : List Any) → above_mark n c us ≡ 0 → IsTop m us → is_type (owned_part c.part) (n.mutex m) ≡ true
top_type n c m [] z h = absurd h
top_type n c m (u ∷ us) z h = not_other (is_type (owned_part c.part) (n.mutex m)) (subst (λ w. above_mark n c (w ∷ us) ≡ 0) h z)

held_fits : (n : NameTypes) (m : MutexNo) (v : Value) (e : Env) (us : List Any) → slots_wrong n e us ≡ 0 → locked_of n e us ≡ 0 → IsHeld m v us → fits n (n.mutex m) v ≡ true
held_fits n m v e [] y z h = absurd h
held_fits n m v [] (u ∷ us) y z h = absurd (omega (arith, y))
held_fits n m v (c ∷ e) (u ∷ us) y z (inl h) =
    let y2 = no_more (other (slot_form n c (is_some c.name) u)) (slots_wrong n e us) y in
    let z2 = no_more (above_mark n c us) (locked_of n e us) z in
    let f = subst (λ w. slot_form n c (is_some c.name) w ≡ true) h.0 (not_other (slot_form n c (is_some c.name) u) y2.0) in
    fits_of n (owned_part c.part) (n.mutex m) v (top_type n c m us z2.0 h.1) (slot_fits n c (is_some c.name) v f)
held_fits n m v (c ∷ e) (u ∷ us) y z (inr h) =
    let y2 = no_more (other (slot_form n c (is_some c.name) u)) (slots_wrong n e us) y in
    let z2 = no_more (above_mark n c us) (locked_of n e us) z in
    held_fits n m v e us y2.1 z2.1 h

entry_fits : (n : NameTypes) (t : ThreadState) (m : MutexNo) (v : Value) (o : Option Entry) → entry_wrong (forms_of n t) o ≡ 0 → entry_wrong (λ y. locked_of n y.env (reverse t.slots)) o ≡ 0 → IsHeld m v (reverse t.slots) → fits n (n.mutex m) v ≡ true
entry_fits n t m v None y z h = absurd (omega (arith, y))
entry_fits n t m v (Some x) y z h = held_fits n m v x.env (reverse t.slots) (no_more (slots_wrong n x.env (reverse t.slots)) (temps_wrong n x.temps (reverse t.temps)) y).0 z h

still_there : (b : Bool) (n : ℕ) → b ≡ false → if_so (not b) n ≡ 0 → n ≡ 0
still_there true n e z = absurd cc
still_there false n e z = z

-- WHAT STANDS FOR A NAME

gift_fits : (n : NameTypes) (m : Option MutexNo) (g : Option Value) (k : MutexNo) (v : Value) → m ≡ Some k → g ≡ Some v → content_gift n m g ≡ 0 → fits n (n.mutex k) v ≡ true
gift_fits n m g k v e f z = right_of (is_there v) (fits n (n.mutex k) v) (subst (λ x. content_gift n x (Some v) ≡ 0) e (subst (λ x. content_gift n m x ≡ 0) f z))

result_fits : (n : NameTypes) (m : Option ℕ) (g : Option Value) (k : ℕ) (v : Value) → m ≡ Some k → g ≡ Some v → result_gift n m g ≡ 0 → fits n (n.result k) v ≡ true
result_fits n m g k v e f z = right_of (is_there v) (fits n (n.result k) v) (subst (λ x. result_gift n x (Some v) ≡ 0) e (subst (λ x. result_gift n m x ≡ 0) f z))

-- the sums that are nothing
record AllFit (table : Table) (n : NameTypes) (s : Sight) : Type 0 where
  things : tot (misfit n) s.things ≡ 0
  gifts : tot (gift_misfit n s) s.ground.threads ≡ 0
  forms : forms_wrong table n s ≡ 0
  locked : locked_wrong table n s ≡ 0

-- what stands for a name agrees with its type
agrees : (table : Table) (n : NameTypes) (s : Sight) (a : Node) (v : Value) → AllFit table n s → Stands s a v → fits n (type_of n a) v ≡ true
agrees table n s a v z (lying r i c h) = not_other (fits n (n.object c.object) c.value) (none_in (misfit n) (lies r i c) s.things z.things h)
agrees table n s a v z (flying w c h) = not_other (fits n (n.object c.object) c.value) (none_in (misfit n) (flies w c) s.things z.things h)
agrees table n s a v z (content m u h) = right_of (is_there u) (fits n (n.mutex m) u) (none_in (misfit n) (holds (as_content m) u) s.things z.things h)
agrees table n s a v z (result t u h) = right_of (is_there u) (fits n (n.result t) u) (none_in (misfit n) (holds (as_result t) u) s.things z.things h)
agrees table n s a v z (granted x m u h e g) =
    let y = none_in (gift_misfit n s) x s.ground.threads z.gifts h in
    gift_fits n (locked_mutex s x (instr_of s x)) x.thread.gift m u e g (no_more (content_gift n (locked_mutex s x (instr_of s x)) x.thread.gift) (result_gift n (joined_thread (instr_of s x) x.thread) x.thread.gift) y).0
agrees table n s a v z (joined x t u h e g) =
    let y = none_in (gift_misfit n s) x s.ground.threads z.gifts h in
    result_fits n (joined_thread (instr_of s x) x.thread) x.thread.gift t u e g (no_more (content_gift n (locked_mutex s x (instr_of s x)) x.thread.gift) (result_gift n (joined_thread (instr_of s x) x.thread) x.thread.gift) y).1
agrees table n s a v z (held x m u h e g) =
    let y = none_in (λ w. if_so (not (is_over w.thread.phase)) (entry_wrong (forms_of n w.thread) (table w.thread.pc))) x s.ground.threads z.forms h in
    let l = none_in (λ w. if_so (not (is_over w.thread.phase)) (entry_wrong (λ q. locked_of n q.env (reverse w.thread.slots)) (table w.thread.pc))) x s.ground.threads z.locked h in
    entry_fits n x.thread m u (table x.thread.pc) (still_there (is_over x.thread.phase) (entry_wrong (forms_of n x.thread) (table x.thread.pc)) e y) (still_there (is_over x.thread.phase) (entry_wrong (λ q. locked_of n q.env (reverse x.thread.slots)) (table x.thread.pc)) e l) g

falls : (table : Table) (n : NameTypes) (s : Sight) (a b : Node) → AllFit table n s → OwnsInTheEnd s a b → level n b < level n a
unfolding level
falls table n s a b z (directly {v = v} h e) = fewer n (type_of n a) b v (agrees table n s a v z h) e
falls table n s a c z (through {b = b} {v = v} h e o) =
    let x = fewer n (type_of n a) b v (agrees table n s a v z h) e in
    let y = falls table n s b c z o in
    omega (arith, x, y)

pub none_owns_itself : NoneOwnsItself
none_owns_itself k t a o =
    let s = sight k in
    let n = names_of t.object t.typing.gives in
    let y = no_more (tot (misfit n) s.things) (tot (gift_misfit n s) s.ground.threads) t.agree in
    let f = falls t.table n s a a (record { things = y.0; gifts = y.1; forms = t.forms; locked = t.locked }) o in
    omega (arith, f)
