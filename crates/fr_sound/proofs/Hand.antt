-- The value at hand: an operand comes there, leaves it, or is dropped.
use Rattle.std.specs.Prelude.{◌⊎◌}
use Rattle.std.proofs.Common.{◌≡◌, ◌≢◌, inl, inr, ⊎_elim, ℕ, zero, suc, ◌<◌, ◌≤◌, Bool, true, false, List, length, Option, Some, None, refl, sym, ap, ◌∙◌, subst, arith}
use Rattle.std.specs.Prelude.{ℤ}
use Rattle.fr_plain.specs.Below.fr_base.declared.label.Plain.{Plain}
use Rattle.fr_plain.specs.Below.fr_base.declared.label.Plain.TheVariants as plain
use Rattle.fr_plain.specs.Below.fr_base.declared.name.ObjNo.{ObjNo}
use Rattle.fr_plain.specs.Below.fr_typing.Kinds.{Owned, unit, int, box, mutex, task, Kind, own, shared, mutable, view, whole}
use Rattle.fr_plain.specs.Below.fr_typing.Places.{Env, AreBelow, kind_places}
use Rattle.fr_plain.specs.Below.fr_typing.Checks.{is_owned}
use Rattle.fr_store.specs.Keys.{Key, slot_k, temp_k, content_k, result_k, hand_k}
use Rattle.fr_store.specs.Local.{thread_of, IsOwnPlace}
use Rattle.fr_store.proofs.Keys.{decide_number}
use Rattle.fr_store.specs.Store.{Alike, Location, at_key, at_object, Val, gone_v, unit_v, int_v, box_v, mutex_v, task_v, ref_v, Store, Place, drop_value}
use Rattle.fr_store.specs.ListState.{Objects, store_beside, drop_objects, drop_last, drop_rest}
use Rattle.fr_store.specs.Typed.{hole, owns, refers, KeyTypes, TopFits}
use Rattle.fr_store.specs.Below.{tree_of, RefOf, ExactOf}
use Rattle.fr_store.specs.Rows.{tree_depth}
use Rattle.fr_store.specs.Thread.{ThreadKeys, ThreadTyped, Known, After}
use Rattle.fr_store.proofs.Rows.{same_store, top_fits}
use Rattle.fr_store.proofs.Sound.{ref_at}
use Rattle.fr_store.proofs.ThreadKept.{exact_owned, ref_found, shared_found, one_low}
use Rattle.fr_store.proofs.ValueRows.{int_row, unit_row, drop_row, forget_row}
use Rattle.fr_store.proofs.ListPlaces.{no_view}
use Rattle.fr_store.proofs.ListState.{at_hand as at_hand_key, list_put_hand, Alike-then}
use Rattle.fr_store.proofs.ListDrop.{drop_at, list_drop}
use Rattle.fr_plain.specs.declared.value.Value.{Value}
use Rattle.fr_plain.specs.declared.value.Value.TheVariants.{Own, ToSlot, ToObject, Held}
use Rattle.fr_plain.specs.Heap.{made_by, cell_at, with_cell, then_drop, drop_links, last_link, task_of, dropped, live}
use Rattle.fr_plain.specs.Heap as plain_heap
use Rattle.fr_plain.specs.State.{State, without, drop_value as drop_plain}
use Rattle.fr_plain.specs.Acts.{Act, unit as unit_value, task_in, lets_go, Did, act}
use Rattle.fr_sound.specs.RunTypes.{IsInt, Operand, o_temp, o_unit, o_int, held_after}
use Rattle.fr_sound.specs.Seen.{Gives, Beside, IsKnown, OneTask, AreKnown, HasNone, IsBeside, owned_val, val_of, vals, heap_of, seen, rank_of, Holds}
use Rattle.fr_plain.proofs.HeapLemmas.{made_kept}
use Rattle.fr_sound.proofs.SeenLemmas.{SameHeap, drops_agree, lasts_agree}
use Rattle.fr_sound.proofs.Known.{known_put, known_drop, known_more, known_alike, none_alike, drop_frees}

-- THE THREAD'S KEYS

-- slots of one key have one number
pub slot_number : (t u i j : ℕ) → slot_k t i ≡ slot_k u j → i ≡ j
slot_number t u i j e = cc

-- the keys of a thread and its hand
pub keys_of : (t high : ℕ) → ThreadKeys (slot_k t) (rank_of high) (hand_k t)
keys_of t high = record { differ = λ x y e. slot_number t t x y e; off = λ i e. cc; ranks = λ i j l. l }

-- WHAT IS BESIDE

-- a key is one of the thread, or not
thread_or : (k : Key) (t : ℕ) → (thread_of k ≡ Some t) ⊎ (thread_of k ≢ Some t)
thread_or (slot_k u n) t = ⊎_elim (λ (e : u ≡ t). inl (ap Some e)) (λ (ne : u ≢ t). inr (λ e. ne cc)) (decide_number u t)
thread_or (temp_k u n) t = inr (λ e. cc)
thread_or (content_k u n) t = inr (λ e. cc)
thread_or (result_k u) t = inr (λ e. cc)
thread_or (hand_k u) t = ⊎_elim (λ (e : u ≡ t). inl (ap Some e)) (λ (ne : u ≢ t). inr (λ e. ne cc)) (decide_number u t)

-- a step leaves what is beside, and shares no memory
pub beside_after : {beside : Beside} (t : ℕ) {rank : Key → ℕ} {E : KeyTypes} {e : Env} {s : Store} {o : Option Kind} → IsBeside beside t E → (a : After (slot_k t) rank (hand_k t) E e s o) → IsBeside beside t a.env
beside_after {beside = beside} t {E = E} y a = record { others = λ k ne. kept k ne ∙ y.others k ne; own = λ k m u is. by k m u is (thread_or k t) }
  where
    kept : (k : Key) → thread_of k ≢ Some t → a.env k ≡ E k
    kept k ne = a.others k (λ e. ne (ap thread_of e)) (λ i e. ne (ap thread_of e))

    stood : (k i : Key) (m : Bool) (u : Place) → thread_of k ≡ Some t → thread_of i ≡ Some t → E i ≡ refers m u → IsOwnPlace k u
    stood k i m u mine its is = let p = y.own i m u is in record { thread = p.thread; slot = p.slot; of = mine ∙ sym its ∙ p.of; is = p.is }

    known : (k : Key) (m : Bool) (u : Place) → thread_of k ≡ Some t → Known (slot_k t) (hand_k t) E k m u → IsOwnPlace k u
    known k m u mine (inl z) = record { thread = t; slot = z.0; of = mine; is = z.1 }
    known k m u mine (inr (i, is, inl same)) = stood k i m u mine (ap thread_of same ∙ mine) is
    known k m u mine (inr (i, is, inr (inl same))) = stood k i m u mine (ap thread_of same) is
    known k m u mine (inr (i, is, inr (inr (x, same)))) = stood k i m u mine (ap thread_of same) is

    by : (k : Key) (m : Bool) (u : Place) → a.env k ≡ refers m u → (thread_of k ≡ Some t) ⊎ (thread_of k ≢ Some t) → IsOwnPlace k u
    by k m u is (inl mine) = known k m u mine (a.new k m u is)
    by k m u is (inr ne) = y.own k m u (sym (kept k ne) ∙ is)

-- a typed state from what a row left
pub after_holds : {beside : Beside} (st : State) (e : Env) (o : Option Kind) (h : Option Value) (high : ℕ) {E : KeyTypes} {s : Store} → length e ≤ high → IsBeside beside st.thread E → After (slot_k st.thread) (rank_of high) (hand_k st.thread) E e s o → Alike s (seen beside st h)
    → length st.slots ≡ length e → AreKnown (IsKnown beside.owed st.heap) s → Holds beside e o h st
after_holds {beside = beside} st e o h high {E = E} {s = s} low near a alike slots known = record {
  high = high;
  low = low;
  types = a.env;
  slots = slots;
  known = known_alike (IsKnown beside.owed st.heap) tt s (seen beside st h) known alike;
  beside = beside_after st.thread near a;
  thread = record {
    typed = same_store (rank_of high) a.env a.env s (seen beside st h) a.thread.typed (λ k. refl) alike;
    nested = a.thread.nested;
    slots = a.thread.slots;
    above = a.thread.above;
    temp = a.thread.temp;
    names = a.thread.names;
    quiet = a.thread.quiet;
    over = a.thread.over;
    alone = a.thread.alone;
  };
}

-- a heap that holds the same is seen the same
pub seen_heap : (rest : Key → Val) (t : ℕ) (vs : List Val) (v : Val) (f g : Objects) → SameHeap f g → Alike (store_beside rest t vs v f) (store_beside rest t vs v g)
seen_heap rest t vs v f g h (at_key k) = refl
seen_heap rest t vs v f g h (at_object q) = sym (h q)

-- THE VALUE AT HAND

-- an owned value at hand has the tree of its type
pub hand_owns : {beside : Beside} {e : Env} {x : Owned} {h : Option Value} {st : State} → (y : Holds beside e (Some (own x)) h st) → y.types (hand_k st.thread) ≡ owns (tree_of x)
hand_owns {beside = beside} {x = x} {st = st} y = exact_owned (slot_k st.thread) y.types x (y.types (hand_k st.thread)) y.thread.temp

-- and its outermost part fits the tree
pub hand_fits : {beside : Beside} {e : Env} {x : Owned} {v : Value} {st : State} → Holds beside e (Some (own x)) (Some v) st → TopFits (tree_of x) (val_of beside.gives st.thread v)
hand_fits {beside = beside} {x = x} {v = v} {st = st} y =
    subst (TopFits (tree_of x)) (at_hand_key beside.at st.thread (vals beside.gives st.thread st.slots) (val_of beside.gives st.thread v) (heap_of beside.gives st.heap))
    (top_fits (rank_of y.high) y.types (seen beside st (Some v)) y.thread.typed (hand_k st.thread) (tree_of x) (hand_owns y))

-- a value that fits an owned type is owned
pub fits_owned : (g : Gives) (t : ℕ) (x : Owned) (v : Value) → TopFits (tree_of x) (val_of g t v) → (p : Plain) × (v ≡ Own p)
fits_owned g t x (Own p) f = (p, refl)
fits_owned g t unit (ToSlot i) f = cc
fits_owned g t int (ToSlot i) f = let z = f.1 in cc
fits_owned g t (box x) (ToSlot i) f = let z = f.1 in cc
fits_owned g t (mutex x) (ToSlot i) f = let z = f.1 in cc
fits_owned g t (task x) (ToSlot i) f = let z = f.1 in cc
fits_owned g t unit (ToObject i) f = cc
fits_owned g t unit (Held i) f = cc
fits_owned g t int (ToObject i) f = let z = f.1 in cc
fits_owned g t int (Held i) f = let z = f.1 in cc
fits_owned g t (box x) (ToObject i) f = let z = f.1 in cc
fits_owned g t (box x) (Held i) f = let z = f.1 in cc
fits_owned g t (mutex x) (ToObject i) f = let z = f.1 in cc
fits_owned g t (mutex x) (Held i) f = let z = f.1 in cc
fits_owned g t (task x) (ToObject i) f = let z = f.1 in cc
fits_owned g t (task x) (Held i) f = let z = f.1 in cc

-- a value that is seen as an integer is one
pub int_val : (g : Gives) (t : ℕ) (v : Value) (n : ℤ) → val_of g t v ≡ int_v n → v ≡ Own (plain.Int n)
int_val g t (Own plain.Nothing) n e = cc
int_val g t (Own plain.Unit) n e = cc
int_val g t (Own (plain.Int m)) n e = let same : m ≡ n = cc in ap (λ z. Own (plain.Int z)) same
int_val g t (Own (plain.Box o)) n e = cc
int_val g t (Own (plain.Mutex o)) n e = cc
int_val g t (Own (plain.Task o)) n e = cc
int_val g t (ToSlot i) n e = cc
int_val g t (ToObject i) n e = cc
int_val g t (Held i) n e = cc

-- an operand comes to hand
pub at_hand : {beside : Beside} {e : Env} {o : Option Kind} {h : Option Value} {st : State} {v : Value} {k : Kind} → Holds beside e o h st → Operand o h v k → Holds beside e (Some k) (Some v) st
at_hand {beside = beside} y o_temp = y
at_hand {beside = beside} {e = e} {st = st} y o_unit =
    after_holds st e (Some (own unit)) (Some unit_value) y.high y.low y.beside (unit_row (slot_k st.thread) (rank_of y.high) (hand_k st.thread) e y.types (seen beside st None) (keys_of st.thread y.high) y.thread)
    (list_put_hand beside.at st.thread (vals beside.gives st.thread st.slots) gone_v (heap_of beside.gives st.heap) unit_v) y.slots (known_put (IsKnown beside.owed st.heap) tt (seen beside st None) (at_key (hand_k st.thread)) unit_v y.known tt (λ q r f. cc))
at_hand {beside = beside} {e = e} {st = st} y (o_int {n = n}) =
    after_holds st e (Some (own int)) (Some (Own (plain.Int n))) y.high y.low y.beside (int_row (slot_k st.thread) (rank_of y.high) (hand_k st.thread) e y.types (seen beside st None) n (keys_of st.thread y.high) y.thread)
    (list_put_hand beside.at st.thread (vals beside.gives st.thread st.slots) gone_v (heap_of beside.gives st.heap) (int_v n)) y.slots (known_put (IsKnown beside.owed st.heap) tt (seen beside st None) (at_key (hand_k st.thread)) (int_v n) y.known tt (λ q r f. cc))

-- a reference at hand, to a place below slot n
pub record Refers (t : ℕ) (E : KeyTypes) (n : ℕ) : Type 0 where
  pub mutable : Bool
  pub place : Place
  pub is : E (hand_k t) ≡ refers mutable place
  pub slot : ℕ
  pub less : slot < n
  pub named : place.key ≡ slot_k t slot

-- a type of a reference says where the one at hand leads
pub hand_refers : {beside : Beside} {e : Env} (k : Kind) {v : Value} {st : State} (n : ℕ) → (y : Holds beside e (Some k) (Some v) st) → is_owned k ≡ false → AreBelow n (kind_places k) → Refers st.thread y.types n
hand_refers {beside = beside} (own x) n y o low = cc
hand_refers {beside = beside} (shared us) {st = st} n y o low =
    let r = shared_found (slot_k st.thread) y.types us (y.types (hand_k st.thread)) y.thread.temp in
    let f : RefOf (slot_k st.thread) y.types (whole (shared us)) false r.0 = subst (ExactOf (slot_k st.thread) y.types (whole (shared us))) r.1 y.thread.temp in
    let l = one_low (slot_k st.thread) us r.0 n low f.1 in
    record { mutable = false; place = r.0; is = r.1; slot = l.0; less = l.1; named = l.2 }
hand_refers {beside = beside} (mutable us) {st = st} n y o low =
    let r = ref_found (slot_k st.thread) y.types us (y.types (hand_k st.thread)) y.thread.temp in
    let f : RefOf (slot_k st.thread) y.types (whole (mutable us)) true r.0 = subst (ExactOf (slot_k st.thread) y.types (whole (mutable us))) r.1 y.thread.temp in
    let l = one_low (slot_k st.thread) us r.0 n low f.1 in
    record { mutable = true; place = r.0; is = r.1; slot = l.0; less = l.1; named = l.2 }
hand_refers {beside = beside} {e = e} (view x) {v = v} {st = st} n y o low =
    absurd (no_view beside.at st.thread (rank_of y.high) e y.types (vals beside.gives st.thread st.slots) (val_of beside.gives st.thread v) (heap_of beside.gives st.heap) (Some (view x)) y.beside.own y.thread x y.thread.temp)

-- WHAT AN ACT COMES TO

pub record Acted (beside : Beside) (a : Act) (h : Option Value) (st : State) (o : Option Kind) (e : Env) : Type 0 where
  pub did : Did
  pub is : act a st ≡ Some did
  pub same : did.state.thread ≡ st.thread
  pub holds : Holds beside e o (held_after a h did.value) did.state
  -- nobody has the task any more that the act drops
  pub frees : (u : ℕ) → lets_go a st ≡ Some u → HasNone u (seen beside did.state (held_after a h did.value))

-- an act that drops nothing
pub no_loss : {A : Type 0} (u : ℕ) → None ≡ Some u → A
no_loss u e = cc

-- equal options have equal locations
pub same_location : (a b : Location) → Some a ≡ Some b → a ≡ b
same_location a b e = cc

-- and equal values
pub same_val : (a b : Val) → Some a ≡ Some b → a ≡ b
same_val a b e = cc

-- DROPS

-- dropping what is no box drops nothing
pub drop_no_box : (n : ℕ) (v : Val) (f : Objects) → ((o : ObjNo) → v ≡ box_v o → ⊥) → drop_objects n v f ≡ f
drop_no_box zero v f ne = refl
drop_no_box (suc n) gone_v f ne = refl
drop_no_box (suc n) unit_v f ne = refl
drop_no_box (suc n) (int_v z) f ne = refl
drop_no_box (suc n) (mutex_v z r) f ne = refl
drop_no_box (suc n) (task_v z r) f ne = refl
drop_no_box (suc n) (ref_v z) f ne = refl
drop_no_box (suc n) (box_v o) f ne = absurd (ne o refl)

-- the machine drops what the store drops
pub drops_same : (g : Gives) (t n : ℕ) (h : plain_heap.Heap) (v : Value) → drop_rest n (val_of g t v) (heap_of g h) ≡ gone_v → SameHeap (drop_objects n (val_of g t v) (heap_of g h)) (heap_of g (without h v))
drops_same g t n h (Own x) e = drops_agree g n (live h) h x (heap_of g h) (λ q. refl) e (omega arith)
drops_same g t n h (ToSlot i) e = λ q. ap (λ f. f q) (drop_no_box n (ref_v (at_key (slot_k t i))) (heap_of g h) (λ o z. cc))
drops_same g t n h (ToObject o) e = λ q. ap (λ f. f q) (drop_no_box n (ref_v (at_object o)) (heap_of g h) (λ o z. cc))
drops_same g t n h (Held o) e = λ q. ap (λ f. f q) (drop_no_box n (gone_v) (heap_of g h) (λ o z. cc))

-- a drop makes nothing
made_links : (n : ℕ) (h : plain_heap.Heap) (v : Plain) (u : ℕ) → length (made_by (drop_links n h v) u) ≡ length (made_by h u)
made_links zero h v u = refl
made_links (suc n) h (plain.Box o) u = by (cell_at h o) (λ w. made_links n (with_cell h o None) w u)
  where
    by : (c : Option Plain) → ((w : Plain) → length (made_by (drop_links n (with_cell h o None) w) u) ≡ length (made_by (with_cell h o None) u)) → length (made_by (then_drop c h (drop_links n (with_cell h o None))) u) ≡ length (made_by h u)
    by None go = refl
    by (Some w) go = go w ∙ made_kept h o None u
made_links (suc n) h plain.Nothing u = refl
made_links (suc n) h plain.Unit u = refl
made_links (suc n) h (plain.Int z) u = refl
made_links (suc n) h (plain.Mutex z) u = refl
made_links (suc n) h (plain.Task z) u = refl

-- dropping a value makes no object
made_without : (h : plain_heap.Heap) (v : Value) (u : ℕ) → length (made_by (without h v) u) ≡ length (made_by h u)
made_without h (Own x) u = made_links (live h) h x u
made_without h (ToSlot i) u = refl
made_without h (ToObject o) u = refl
made_without h (Held o) u = refl

-- what is known stays so where no thread has made fewer objects
pub known_grown : (owed : ℕ → Bool) (h h2 : plain_heap.Heap) (s : Store) → ((u : ℕ) → length (made_by h u) ≤ length (made_by h2 u)) → AreKnown (IsKnown owed h) s → AreKnown (IsKnown owed h2) s
known_grown owed h h2 s grows k = known_more (IsKnown owed h) (IsKnown owed h2) s by k
  where
    by : (v : Val) → IsKnown owed h v → IsKnown owed h2 v
    by gone_v p = tt
    by unit_v p = tt
    by (int_v n) p = tt
    by (box_v o) p = let g = grows o.thread in omega (arith, p, g)
    by (mutex_v m r) p = tt
    by (task_v t r) p = p
    by (ref_v l) p = tt

-- what is known stays so after a drop
pub known_dropped : (owed : ℕ → Bool) (h : plain_heap.Heap) (v : Value) (s : Store) → AreKnown (IsKnown owed h) s → AreKnown (IsKnown owed (without h v)) s
known_dropped owed h v s k = known_grown owed h (without h v) s (λ u. let e = made_without h v u in omega (arith, e)) k

-- WHOSE TASK IS DROPPED

-- a task at the end of a value's boxes
task_in_is : (h : plain_heap.Heap) (v : Value) (u : ℕ) → task_in h v ≡ Some u → (p : Plain) × (v ≡ Own p) × (last_link (live h) h p ≡ plain.Task u)
task_in_is h (Own p) u e = (p, refl, by (last_link (live h) h p) e)
  where
    by : (x : Plain) → task_of x ≡ Some u → x ≡ plain.Task u
    by (plain.Task t) f = let same : t ≡ u = cc in ap (λ z. plain.Task z) same
    by plain.Nothing f = cc
    by plain.Unit f = cc
    by (plain.Int n) f = cc
    by (plain.Box o) f = cc
    by (plain.Mutex m) f = cc
task_in_is h (ToSlot i) u e = cc
task_in_is h (ToObject o) u e = cc
task_in_is h (Held o) u e = cc

-- after the drop nobody has it
pub drop_freed : (g : Gives) (t n : ℕ) (k : Key) (s : Store) (h : plain_heap.Heap) (v : Value) (u : ℕ) → OneTask s → s.at k ≡ val_of g t v → SameHeap s.heap (heap_of g h) → drop_rest n (val_of g t v) s.heap ≡ gone_v → task_in h v ≡ Some u → HasNone u (drop_value n k s)
drop_freed g t n k s h v u one at same ends e =
    let x = task_in_is h v u e in
    let owned : val_of g t v ≡ owned_val g x.0 = ap (val_of g t) x.1 in
    let rest : drop_rest n (owned_val g x.0) s.heap ≡ gone_v = ap (λ z. drop_rest n z s.heap) (sym owned) ∙ ends in
    drop_frees n k s u (tree_of (g.result u)) one
    (ap (λ z. drop_last n z s.heap) (at ∙ owned) ∙ lasts_agree g n (live h) h x.0 s.heap u same rest (omega arith) x.2)
    (ap (λ z. drop_rest n z s.heap) at ∙ ends)

-- nothing is at hand
pub hand_gone : {e : Env} {E : KeyTypes} {s : Store} (t high : ℕ) → ThreadTyped (slot_k t) (rank_of high) (hand_k t) e E s None → s.at (hand_k t) ≡ gone_v
hand_gone {E = E} {s = s} t high y = top_fits (rank_of high) E s y.typed (hand_k t) hole y.temp

-- the value at hand after its drop
pub record Dropped (beside : Beside) (e : Env) (st : State) (v : Value) : Type 0 where
  pub holds : Holds beside e None None (drop_plain st v)
  pub frees : (u : ℕ) → task_in st.heap v ≡ Some u → HasNone u (seen beside (drop_plain st v) None)

-- an owned value at hand is dropped
dropped_owned : {beside : Beside} {e : Env} {st : State} {x : Owned} {v : Value} → Holds beside e (Some (own x)) (Some v) st → Dropped beside e st v
dropped_owned {beside = beside} {e = e} {st = st} {x = x} {v = v} y =
    let t = st.thread in
    let vs = vals beside.gives t st.slots in
    let hv = val_of beside.gives t v in
    let heap = heap_of beside.gives st.heap in
    let n = tree_depth (tree_of x) in
    let s = seen beside st (Some v) in
    let at : s.at (hand_k t) ≡ hv = at_hand_key beside.at t vs hv heap in
    let a = drop_row (slot_k t) (rank_of y.high) (hand_k t) e y.types s x n (keys_of t y.high) y.thread (omega arith) in
    let ends : drop_rest n hv heap ≡ gone_v = ap (λ z. drop_rest n z heap) (sym at) ∙ sym (drop_at n (hand_k t) s) ∙ hand_gone t y.high a.thread in
    let alike : Alike (drop_value n (hand_k t) s) (seen beside (drop_plain st v) None) =
    Alike-then (drop_value n (hand_k t) s) (store_beside beside.at t vs gone_v (drop_objects n hv heap)) (store_beside beside.at t vs gone_v (heap_of beside.gives (without st.heap v)))
    (subst (λ (u : Val). Alike (drop_value n (hand_k t) s) (store_beside beside.at t vs u (drop_objects n hv heap))) ends (list_drop n beside.at t vs hv heap))
    (seen_heap beside.at t vs gone_v (drop_objects n hv heap) (heap_of beside.gives (without st.heap v)) (drops_same beside.gives t n st.heap v ends)) in
    record {
      holds = after_holds (drop_plain st v) e None None y.high y.low y.beside a alike y.slots (known_dropped beside.owed st.heap v (drop_value n (hand_k t) s) (known_drop (IsKnown beside.owed st.heap) tt n (hand_k t) s y.known));
      frees = λ u f. none_alike u (drop_value n (hand_k t) s) (seen beside (drop_plain st v) None) (drop_freed beside.gives t n (hand_k t) s st.heap v u y.known.once at (λ q. refl) ends f) alike;
    }

-- dropping a reference drops nothing
ref_without : (g : Gives) (t : ℕ) (h : plain_heap.Heap) (v : Value) (l : Location) → val_of g t v ≡ ref_v l → (without h v ≡ h) × (task_in h v ≡ None)
ref_without g t h (Own plain.Nothing) l e = cc
ref_without g t h (Own plain.Unit) l e = cc
ref_without g t h (Own (plain.Int n)) l e = cc
ref_without g t h (Own (plain.Box o)) l e = cc
ref_without g t h (Own (plain.Mutex m)) l e = cc
ref_without g t h (Own (plain.Task u)) l e = cc
ref_without g t h (ToSlot i) l e = (refl, refl)
ref_without g t h (ToObject o) l e = (refl, refl)
ref_without g t h (Held m) l e = cc

-- a reference at hand is dropped
dropped_reference : {beside : Beside} {e : Env} {st : State} {k : Kind} {v : Value} (m : Bool) (u : Place) → (y : Holds beside e (Some k) (Some v) st) → y.types (hand_k st.thread) ≡ refers m u → Dropped beside e st v
dropped_reference {beside = beside} {e = e} {st = st} {k = k} {v = v} m u y is =
    let t = st.thread in
    let s = seen beside st (Some v) in
    let r = ref_at (rank_of y.high) y.types s y.thread.typed (hand_k t) m u is in
    let hv = val_of beside.gives t v in
    let at : s.at (hand_k t) ≡ hv = at_hand_key beside.at t (vals beside.gives t st.slots) hv (heap_of beside.gives st.heap) in
    let a = forget_row (slot_k t) (rank_of y.high) (hand_k t) e y.types s k (keys_of t y.high) y.thread in
    let holds : Holds beside e None None st = after_holds st e None None y.high y.low y.beside a (list_put_hand beside.at t (vals beside.gives t st.slots) hv (heap_of beside.gives st.heap) gone_v) y.slots
    (known_put (IsKnown beside.owed st.heap) tt s (at_key (hand_k t)) gone_v y.known tt (λ q r f. cc)) in
    let w = ref_without beside.gives t st.heap v r.target (sym at ∙ r.is) in
    record {
      holds = subst (λ (g : plain_heap.Heap). Holds beside e None None (record st { heap = g })) (sym w.0) holds;
      frees = λ n f. no_loss n (sym w.1 ∙ f);
    }

-- the value at hand is dropped
pub dropped_hand : {beside : Beside} {e : Env} {st : State} (k : Kind) {v : Value} → Holds beside e (Some k) (Some v) st → Dropped beside e st v
dropped_hand (own x) y = dropped_owned y
dropped_hand {st = st} (shared us) y = let r = shared_found (slot_k st.thread) y.types us (y.types (hand_k st.thread)) y.thread.temp in dropped_reference false r.0 y r.1
dropped_hand {st = st} (mutable us) y = let r = ref_found (slot_k st.thread) y.types us (y.types (hand_k st.thread)) y.thread.temp in dropped_reference true r.0 y r.1
dropped_hand {beside = beside} {e = e} {st = st} (view x) {v = v} y =
    absurd (no_view beside.at st.thread (rank_of y.high) e y.types (vals beside.gives st.thread st.slots) (val_of beside.gives st.thread v) (heap_of beside.gives st.heap) (Some (view x)) y.beside.own y.thread x y.thread.temp)

-- INTEGERS AT HAND

-- dropping an integer drops nothing
dropped_int : (n : ℕ) (h : plain_heap.Heap) (z : ℤ) → drop_links n h (plain.Int z) ≡ h
dropped_int zero h z = refl
dropped_int (suc n) h z = refl

-- a value at hand of type int is an integer
pub hand_int : {beside : Beside} {e : Env} {st : State} {v : Value} → Holds beside e (Some (own int)) (Some v) st → IsInt v
hand_int {beside = beside} {st = st} {v = v} y = let f = hand_fits y in (f.0, int_val beside.gives st.thread v f.0 f.1)

-- an integer needs no key: it may leave the hand
pub let_go : {beside : Beside} {e : Env} {st : State} (n : ℤ) → Holds beside e (Some (own int)) (Some (Own (plain.Int n))) st → Holds beside e None None st
let_go {beside = beside} {e = e} {st = st} n y = subst (λ (g : plain_heap.Heap). Holds beside e None None (record st { heap = g })) (dropped_int (live st.heap) st.heap n) (dropped_hand (own int) y).holds

-- and so may each value of type int
pub let_go_value : {beside : Beside} {e : Env} {st : State} {v : Value} → Holds beside e (Some (own int)) (Some v) st → IsInt v → Holds beside e None None st
let_go_value {beside = beside} {e = e} {st = st} y i = let_go i.0 (subst (λ (u : Value). Holds beside e (Some (own int)) (Some u) st) i.1 y)
