-- References lead where their exact types do, in each cluster whose one heap is typed.
use Rattle.std.proofs.Common.{◌≡◌, ◌⊎◌, inl, inr, ℕ, suc, ◌+◌, ◌==◌, ◌&&◌, Bool, true, false, List, [], ◌∷◌, length, Option, Some, None, refl, sym, ap, subst, ◌∙◌, arith}
use Rattle.std.specs.Prelude.{slice_get, is_some}
use Rattle.std.proofs.lemmas.Bool.Decides.{nat_tests}
use Rattle.law_heap_still.specs.Below.fr_base.declared.name.ObjNo.{ObjNo}
use Rattle.law_heap_still.specs.Below.fr_base.declared.name.MutexNo.{MutexNo}
use Rattle.law_heap_still.specs.Below.fr_base.Names.{same_mutex}
use Rattle.law_heap_still.specs.Below.heap_partition.Plain.{plain_of}
use Rattle.law_heap_still.specs.Below.heap_partition.declared.value.Owned.{Owned}
use Rattle.law_heap_still.specs.Below.heap_partition.declared.value.Owned.TheVariants as owned
use Rattle.law_heap_still.specs.Below.thread_state.View.{is_over}
use Rattle.law_heap_still.specs.Below.thread_state.declared.value.Value.{Value}
use Rattle.law_heap_still.specs.Below.thread_state.declared.value.Value.TheVariants as value
use Rattle.law_heap_still.specs.Below.server_model.Servers.{Cluster}
use Rattle.law_heap_still.proofs.Below.fr_typing.PlaceLemmas.{eq_cases}
use Rattle.law_heap_still.specs.Below.fr_store.Keys.{Key, slot_k, temp_k, content_k, result_k, hand_k}
use Rattle.law_heap_still.specs.Below.fr_store.Store.{Location as StoreLocation, at_key, at_object, Val, gone_v, mutex_v, ref_v, Store, value_at, walk, Place as StorePlace}
use Rattle.law_heap_still.specs.Below.fr_store.Typed.{Tree, Exact, owns, refers, KeyTypes}
use Rattle.law_heap_still.proofs.Below.fr_store.Sound.{ref_at}
use Rattle.law_heap_still.proofs.Below.fr_store.Rows.{found_place}
use Rattle.law_heap_still.specs.Below.fr_sound.Seen.{Gives, owned_val}
use Rattle.law_heap_still.specs.Below.coherent_memory.Names.{tot, one, other, if_so, Among}
use Rattle.law_heap_still.specs.Below.coherent_memory.Things.{Location, at_slot, at_temp, in_cell, things_of}
use Rattle.law_heap_still.specs.Below.coherent_memory.Follow.{Standing, Ground, threads_in, slot_of, value_of, value_in, locate}
use Rattle.law_heap_still.specs.Below.coherent_memory.Sight.{sight}
use Rattle.law_heap_still.specs.Below.coherent_memory.Walking.{instr_of}
use Rattle.law_heap_still.specs.Below.coherent_memory.Rooted.{is_end, dressed}
use Rattle.law_heap_still.specs.Below.coherent_types.ClusterTypes.{same_place, is_held_at, leads_as, astray_from, astray, all_astray, astray_of, leads_wrong}
use Rattle.law_heap_still.specs.Below.law_words_paths.paths.HeapStore.{in_store, GoesOn, IsUnmarked}
use Rattle.law_heap_still.proofs.Below.law_words_paths.paths.Sole.{some_is}
use Rattle.law_heap_still.proofs.Below.law_words_paths.paths.Contained.{location_itself}
use Rattle.law_heap_still.proofs.Below.law_words_paths.paths.Shown.{shown_value}
use Rattle.law_heap_still.proofs.Below.law_words_paths.paths.Forms.{none_of}
use Rattle.law_types_still.specs.heap.Counted.{holder_off_from, holder_off, all_off, off_of, holders_off}
use Rattle.law_types_still.proofs.heap.Following.{HasHeap, heap_of, is_running, stands_there, IsShown, a_slot, an_object, cell_there, mark_unnamed, leads_in_heap, leads_in_cluster}
use Rattle.law_types_still.proofs.heap.Values.{seen_as, no_ref, slot_seen, temp_seen, running, held_shown}

-- A REFERENCE

ref_of : {l m : StoreLocation} → ref_v l ≡ ref_v m → l ≡ m
ref_of e = cc

slot_here : (t i : ℕ) (l : Location) → at_key (slot_k t i) ≡ in_store l → l ≡ at_slot t i
slot_here t i (at_slot u j) e = cc
slot_here t i (at_temp u j) e = absurd cc
slot_here t i (in_cell o) e = absurd cc

cell_here : (o : ObjNo) (l : Location) → at_object o ≡ in_store l → l ≡ in_cell o
cell_here o (at_slot u j) e = absurd cc
cell_here o (at_temp u j) e = absurd cc
cell_here o (in_cell p) e = cc

mutex_itself : (m : MutexNo) → same_mutex m m ≡ true
mutex_itself m = grind (arith, nat_tests)

one_mutex : {m l : MutexNo} {q r : Tree} → mutex_v m q ≡ mutex_v l r → m ≡ l
one_mutex e = cc

-- an owned value that is seen as one of a mutex
owned_mutex : (g : Gives) (v : Owned) (m : MutexNo) (q : Tree) → owned_val g (plain_of v) ≡ mutex_v m q → v ≡ owned.Mutex m
owned_mutex g owned.Nothing m q e = absurd cc
owned_mutex g owned.Unit m q e = absurd cc
owned_mutex g (owned.Int i) m q e = absurd cc
owned_mutex g (owned.Box p) m q e = absurd cc
owned_mutex g (owned.Mutex l) m q e = ap owned.Mutex (one_mutex e)
owned_mutex g (owned.Task t) m q e = absurd cc

seen_mutex : (g : Gives) (t : ℕ) (l : StoreLocation) (v : Value) (m : MutexNo) (q : Tree) → seen_as g t (ref_v l) v ≡ mutex_v m q → v ≡ value.Own (owned.Mutex m)
seen_mutex g t l value.Gone m q e = absurd cc
seen_mutex g t l (value.Own v) m q e = ap value.Own (owned_mutex g v m q e)
seen_mutex g t l (value.SharedSlot i) m q e = absurd cc
seen_mutex g t l (value.MutSlot i) m q e = absurd cc
seen_mutex g t l (value.Shared r) m q e = absurd cc
seen_mutex g t l (value.Mut r) m q e = absurd cc
seen_mutex g t l (value.Held h) m q e = absurd cc

same_truth : (a b : Bool) → a ≡ true → b ≡ true → a && b ≡ true
same_truth true b e f = f
same_truth false b e f = absurd cc

pub from_other : (b : Bool) → other b ≡ 0 → b ≡ true
from_other true e = refl
from_other false e = absurd cc

pub to_other : (b : Bool) → b ≡ true → other b ≡ 0
to_other true e = refl
to_other false e = absurd cc

module _ (k : Cluster) (c : HasHeap k) (x : Standing) (g : GoesOn k x) where
  abbrev t : ℕ
  t = x.thread.number

  abbrev st : Store
  st = heap_of k c

  abbrev ground : Ground
  ground = (sight k).ground

  -- what is marked: the value of a mutex stands where the mark leads
  abbrev Marks : Val → Value → Type 0
  Marks mark (value.Held m) = (mark ≡ gone_v) ⊎ ((l : StoreLocation) × (q : Tree) × (mark ≡ ref_v l) × (value_at st l ≡ Some (mutex_v m q)))
  Marks mark v = Unit {0}

  -- a holder is right
  abbrev Held : ℕ → ℕ → Value → Type 0
  Held i d (value.Mut r) = is_held_at i d r.holder ≡ true
  Held i d v = Unit {0}

  -- the value that stands at a location of the thread, where the one heap has one of a mutex there
  mutex_stands : (l : Location) → IsShown k c x g l → (m : MutexNo) (q : Tree) → value_at st (in_store l) ≡ Some (mutex_v m q) → value_in ground l ≡ Some (value.Own (owned.Mutex m))
  mutex_stands _ (a_slot i) m q e = by (slice_get x.thread.slots i) refl
    where
      none : st.at (slot_k t i) ≡ gone_v → value_in ground (at_slot t i) ≡ Some (value.Own (owned.Mutex m))
      none z = let y : gone_v ≡ mutex_v m q = sym z ∙ some_is e in absurd cc

      by : (o : Option Value) → slice_get x.thread.slots i ≡ o → value_in ground (at_slot t i) ≡ Some (value.Own (owned.Mutex m))
      by None f = none (rw (is_running k c x g) (rw (shown_value x.thread.slots i) (rw f refl)))
      by (Some v) f =
          let seen = slot_seen k c x g i v f in
          let same = seen_mutex c.typing.gives t (c.typing.marks t i) v m q (sym seen ∙ some_is e) in
          ap (λ o. slot_of o i) (stands_there k c x g) ∙ f ∙ ap Some same
  mutex_stands _ (an_object o z h) m q e =
      let d = cell_there k c x g o z h in
      let same : z ≡ mutex_v m q = some_is (sym h ∙ e) in
      ap value_of d.1 ∙ ap (λ v. Some (value.Own v)) (owned_mutex c.typing.gives d.0.value m q (sym d.2 ∙ same))

  leads_right : (key : Key) (mark : Val) (v : Value) (m : Bool) (u : StorePlace) (j : ℕ) → st.at key ≡ seen_as c.typing.gives t mark v → c.typing.exact key ≡ refers m u → u.key ≡ slot_k t j → Marks mark v → Held j u.depth v
      → leads_as ground t (record { slot = j; depth = u.depth }) v ≡ true
  leads_right key mark v m u j seen is at marks held =
      let E = c.typing.exact in
      let f = ref_at c.typing.rank E st c.state.typed key m u is in
      let p = found_place c.typing.rank E st m u f.base f.boxes f.type c.state.typed f.res in
      let same : f.target ≡ p.loc = some_is (sym f.leads ∙ p.chain) in
      let way : walk st u.depth (at_key (slot_k t j)) ≡ Some p.loc = subst (λ z. walk st u.depth (at_key z) ≡ Some p.loc) at p.at in
      let clear : IsUnmarked x j = λ h e. mark_unnamed k c x g j h e key m u is at in
      let r = leads_in_cluster k c x g j u.depth p.loc clear way in
      let h = leads_in_heap k c x g j u.depth r.0 r.1 in
      let there : in_store r.0 ≡ p.loc = some_is (sym h.0 ∙ way) in
      let ref : st.at key ≡ ref_v (in_store r.0) = f.is ∙ ap ref_v (same ∙ sym there) in
      by v r.0 r.1 h.1 (sym seen ∙ ref) marks held
    where
      abbrev_place : (l q : Location) → locate ground t j u.depth ≡ Some l → l ≡ q → same_place (Some q) (locate ground t j u.depth) ≡ true
      abbrev_place l q e s = ap (same_place (Some q)) (e ∙ ap Some s) ∙ location_itself q

      by : (v : Value) (l : Location) → locate ground t j u.depth ≡ Some l → IsShown k c x g l → seen_as c.typing.gives t mark v ≡ ref_v (in_store l) → Marks mark v → Held j u.depth v → leads_as ground t (record { slot = j; depth = u.depth }) v ≡ true
      by value.Gone l e y s marks held = absurd cc
      by (value.Own w) l e y s marks held = absurd (no_ref c.typing.gives w (in_store l) s)
      by (value.SharedSlot i) l e y s marks held = abbrev_place l (at_slot t i) e (slot_here t i l (ref_of s))
      by (value.MutSlot i) l e y s marks held = abbrev_place l (at_slot t i) e (slot_here t i l (ref_of s))
      by (value.Shared r) l e y s marks held = abbrev_place l (in_cell r.object) e (cell_here r.object l (ref_of s))
      by (value.Mut r) l e y s marks held = same_truth (same_place (Some (in_cell r.object)) (locate ground t j u.depth)) (is_held_at j u.depth r.holder) (abbrev_place l (in_cell r.object) e (cell_here r.object l (ref_of s))) held
      by (value.Held h) l e y s (inl z) held = let q : gone_v ≡ ref_v (in_store l) = sym z ∙ s in absurd cc
      by (value.Held h) l e y s (inr w) held =
          let same : w.0 ≡ in_store l = ref_of (sym w.2 ∙ s) in
          let stands = mutex_stands l y h w.1 (sym (ap (value_at st) same) ∙ w.3) in
          rw e (rw stands (mutex_itself h))

  -- so no value is astray
  not_astray : (key : Key) (mark : Val) (v : Value) → st.at key ≡ seen_as c.typing.gives t mark v → Marks mark v → holder_off t (c.typing.exact key) v ≡ 0 → astray ground t (c.typing.exact key) v ≡ 0
  not_astray key mark v seen marks off = by_exact (c.typing.exact key) refl off
    where
      held_here : (j d : ℕ) (v : Value) → if_so true (other true) ≡ 0 → holder_off_from t (slot_k t j) d v ≡ 0 → Held j d v
      held_here j d (value.Mut r) e z = eq_cases (λ b. if_so b (other (is_held_at j d r.holder)) ≡ 0 → is_held_at j d r.holder ≡ true) t t (λ q y. from_other (is_held_at j d r.holder) y) (λ ne y. absurd (ne refl)) z
      held_here j d value.Gone e z = tt
      held_here j d (value.Own w) e z = tt
      held_here j d (value.SharedSlot i) e z = tt
      held_here j d (value.MutSlot i) e z = tt
      held_here j d (value.Shared r) e z = tt
      held_here j d (value.Held m) e z = tt

      by_key : (m : Bool) (u : StorePlace) → c.typing.exact key ≡ refers m u → (h : Key) → u.key ≡ h → holder_off_from t h u.depth v ≡ 0 → astray_from ground t h u.depth v ≡ 0
      by_key m u is (slot_k w j) at z =
          eq_cases (λ b. b ≡ (w == t) → if_so b (other (leads_as ground t (record { slot = j; depth = u.depth }) v)) ≡ 0) w t
          (λ q f. to_other (leads_as ground t (record { slot = j; depth = u.depth }) v)
          (leads_right key mark v m u j seen is (at ∙ ap (λ y. slot_k y j) q) marks (held_here j u.depth v refl (subst (λ y. holder_off_from t (slot_k y j) u.depth v ≡ 0) q z))))
          (λ ne f. refl) refl
      by_key m u is (temp_k w j) at z = refl
      by_key m u is (content_k a b) at z = refl
      by_key m u is (result_k w) at z = refl
      by_key m u is (hand_k w) at z = refl

      by_exact : (e : Exact) → c.typing.exact key ≡ e → holder_off t e v ≡ 0 → astray ground t e v ≡ 0
      by_exact (owns q) is z = refl
      by_exact (refers m u) is z = by_key m u is u.key refl z

  slot_marks : (i : ℕ) (v : Value) → slice_get x.thread.slots i ≡ Some v → Marks (ref_v (c.typing.marks t i)) v
  slot_marks i value.Gone e = tt
  slot_marks i (value.Own w) e = tt
  slot_marks i (value.SharedSlot j) e = tt
  slot_marks i (value.MutSlot j) e = tt
  slot_marks i (value.Shared r) e = tt
  slot_marks i (value.Mut r) e = tt
  slot_marks i (value.Held m) e = let lock = (running k c x g).marked i m (held_shown k c x g i (value.Held m) e) in inr (c.typing.marks t i, _, refl, lock.leads)

  temp_marks : (v : Value) → Marks gone_v v
  temp_marks value.Gone = tt
  temp_marks (value.Own w) = tt
  temp_marks (value.SharedSlot j) = tt
  temp_marks (value.MutSlot j) = tt
  temp_marks (value.Shared r) = tt
  temp_marks (value.Mut r) = tt
  temp_marks (value.Held m) = inl refl

  all_right : (key : ℕ → Key) (i : ℕ) (vs : List Value) → ((j : ℕ) (v : Value) → slice_get vs j ≡ Some v → holder_off t (c.typing.exact (key (i + j))) v ≡ 0 → astray ground t (c.typing.exact (key (i + j))) v ≡ 0)
      → all_off c.typing.exact t key i vs ≡ 0 → all_astray c.typing.exact ground t key i vs ≡ 0
  all_right key i [] go z = refl
  all_right key i (v ∷ vs) go z =
      let first : astray ground t (c.typing.exact (key i)) v ≡ 0 = subst (λ n. holder_off t (c.typing.exact (key n)) v ≡ 0 → astray ground t (c.typing.exact (key n)) v ≡ 0) (omega arith) (go 0 v refl) (omega (arith, z)) in
      let later = all_right key (i + 1) vs (λ j w e. subst (λ n. holder_off t (c.typing.exact (key n)) w ≡ 0 → astray ground t (c.typing.exact (key n)) w ≡ 0) (omega arith) (go (suc j) w e)) (omega (arith, z)) in
      omega (arith, first, later)

  pub thread_right : off_of c.typing.exact x.thread ≡ 0 → astray_of c.typing.exact ground x.thread ≡ 0
  thread_right z =
      let slots = all_right (slot_k t) 0 x.thread.slots (λ j v e off. not_astray (slot_k t (0 + j)) (ref_v (c.typing.marks t (0 + j))) v (slot_seen k c x g (0 + j) v (from_zero j x.thread.slots v e)) (slot_marks (0 + j) v (from_zero j x.thread.slots v e)) off) (omega (arith, z)) in
      let temps = all_right (temp_k t) 0 x.thread.temps (λ j v e off. not_astray (temp_k t (0 + j)) gone_v v (temp_seen k c x g (0 + j) v (from_zero j x.thread.temps v e)) (temp_marks v) off) (omega (arith, z)) in
      omega (arith, slots, temps)
    where
      from_zero : (j : ℕ) (vs : List Value) (v : Value) → slice_get vs j ≡ Some v → slice_get vs (0 + j) ≡ Some v
      from_zero j vs v e = let z : j ≡ 0 + j = omega arith in subst (λ n. slice_get vs n ≡ Some v) z e

-- ALL THREADS

pub each_none : (f h : Standing → ℕ) (xs : List Standing) → ((x : Standing) → Among x xs → f x ≡ 0 → h x ≡ 0) → tot f xs ≡ 0 → tot h xs ≡ 0
each_none f h [] go z = refl
each_none f h (x ∷ xs) go z =
    let first = go x (inl refl) (omega (arith, z)) in
    let later = each_none f h xs (λ y a. go y (inr a)) (omega (arith, z)) in
    omega (arith, first, later)

-- a thread that is over has no values
pub bare : (k : Cluster) (x : Standing) → dressed (sight k) x ≡ 0 → is_over x.thread.phase ≡ true → (length x.thread.slots ≡ 0) × (length x.thread.temps ≡ 0)
bare k x none over =
    let all : other (is_end (instr_of (sight k) x)) + length x.thread.slots + length x.thread.temps + one (is_some x.thread.gift) ≡ 0 =
    sym (ap (λ b. if_so b (other (is_end (instr_of (sight k) x)) + length x.thread.slots + length x.thread.temps + one (is_some x.thread.gift))) over) ∙ none in
    (omega (arith, all), omega (arith, all))

no_values : (exact : KeyTypes) (g : Ground) (t : ℕ) (key : ℕ → Key) (i : ℕ) (vs : List Value) → length vs ≡ 0 → all_astray exact g t key i vs ≡ 0
no_values exact g t key i [] e = refl
no_values exact g t key i (v ∷ vs) e = absurd (omega (arith, e))

pub leads_follow : (k : Cluster) (c : HasHeap k) → holders_off c.typing.exact (sight k) ≡ 0 → leads_wrong c.typing.exact (sight k) ≡ 0
leads_follow k c z = each_none (λ x. off_of c.typing.exact x.thread) (λ x. astray_of c.typing.exact (sight k).ground x.thread) (threads_in (things_of k)) (λ x a off. by x a off (is_over x.thread.phase) refl) z
  where
    by : (x : Standing) → Among x (sight k).ground.threads → off_of c.typing.exact x.thread ≡ 0 → (q : Bool) → is_over x.thread.phase ≡ q → astray_of c.typing.exact (sight k).ground x.thread ≡ 0
    by x a off false e = thread_right k c x (record { among = a; going = e }) off
    by x a off true e =
        let b = bare k x (none_of (dressed (sight k)) x (sight k).ground.threads c.numbers.over_are_bare a) e in
        let slots = no_values c.typing.exact (sight k).ground x.thread.number (slot_k x.thread.number) 0 x.thread.slots b.0 in
        let temps = no_values c.typing.exact (sight k).ground x.thread.number (temp_k x.thread.number) 0 x.thread.temps b.1 in
        omega (arith, slots, temps)
