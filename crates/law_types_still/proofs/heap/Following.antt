-- A place leads in a cluster to where it leads in its typed one heap, whatever else is known of the cluster.
use Rattle.std.proofs.Common.{◌≡◌, inl, inr, ℕ, zero, suc, ◌%◌, ◌^◌, ◌==◌, ◌&&◌, ◌||◌, not, Bool, true, false, if◌then◌else◌, List, [], ◌∷◌, Option, Some, None, option_map, refl, sym, ap, subst, ◌∙◌, arith}
use Rattle.std.specs.Prelude.{slice_get}
use Rattle.law_heap_still.specs.Below.fr_base.declared.name.ObjNo.{ObjNo}
use Rattle.law_heap_still.specs.Below.fr_base.declared.name.MutexNo.{MutexNo}
use Rattle.law_heap_still.specs.Below.fr_base.declared.label.Plain.{Plain}
use Rattle.law_heap_still.specs.Below.fr_base.declared.label.Plain.TheVariants as plain
use Rattle.law_heap_still.specs.Below.heap_partition.Plain.{plain_of}
use Rattle.law_heap_still.specs.Below.heap_partition.declared.value.Cell.{Cell}
use Rattle.law_heap_still.specs.Below.heap_partition.declared.value.Owned.{Owned}
use Rattle.law_heap_still.specs.Below.heap_partition.declared.value.Owned.TheVariants as owned
use Rattle.law_heap_still.specs.Below.mut_borrow.declared.mutable.MutRef.{MutRef}
use Rattle.law_heap_still.specs.Below.mut_borrow.declared.shared.SharedRef.{SharedRef}
use Rattle.law_heap_still.specs.Below.thread_state.declared.value.Value.{Value}
use Rattle.law_heap_still.specs.Below.thread_state.declared.value.Value.TheVariants as value
use Rattle.law_heap_still.specs.Below.server_model.Servers.{Cluster}
use Rattle.law_heap_still.specs.Below.fr_store.Keys.{Key, slot_k}
use Rattle.law_heap_still.specs.Below.fr_store.Store.{Location as StoreLocation, at_key, at_object, Val, gone_v, box_v, ref_v, unit_v, int_v, Store, value_at, star_target, star_hop, walk}
use Rattle.law_heap_still.specs.Below.fr_store.Typed.{KeyTypes, Typed, Unnamed}
use Rattle.law_heap_still.proofs.Below.fr_store.Chains.{unique}
use Rattle.law_heap_still.proofs.Below.fr_store.Sound.{walk_last, ref_at}
use Rattle.law_heap_still.proofs.Below.fr_store.Rows.{not_to}
use Rattle.law_heap_still.specs.Below.fr_sound.Seen.{Gives, owned_val, seen_cell}
use Rattle.law_heap_still.specs.Below.fr_sound.States.{Typing, store_of}
use Rattle.law_heap_still.specs.Below.fr_plain.MachineThreads.{owing, loose}
use Rattle.law_heap_still.specs.Below.fr_plain.PlainState.{place_in, place_of}
use Rattle.law_heap_still.specs.Below.fr_code.Steps.{Place}
use Rattle.law_heap_still.specs.Below.fr_code.Machine.{CodeRunning}
use Rattle.law_heap_still.specs.Below.fr_code.CodeTypes.{Table}
use Rattle.law_heap_still.specs.Below.fr_code.TableStates.{CodeStateTypes}
use Rattle.law_heap_still.specs.Below.coherent_memory.Names.{tot, one, some, Among}
use Rattle.law_heap_still.specs.Below.coherent_memory.Things.{Location, at_slot, in_cell, Thing, stands, things_of}
use Rattle.law_heap_still.specs.Below.coherent_memory.Follow.{Standing, Ground, threads_in, thread_at, cell_of, slot_of, value_of, value_in, value_behind, leads, locate}
use Rattle.law_heap_still.specs.Below.coherent_memory.Sight.{Sight, sight}
use Rattle.law_heap_still.specs.Below.coherent_memory.Naming.{threads, started_at, zeroth_thread, uncounted_thread}
use Rattle.law_heap_still.specs.Below.coherent_memory.Requests.{home_of}
use Rattle.law_heap_still.specs.Below.coherent_memory.OneHeap.{one_heap, plain_value, object_value, going_on, was_let_go, running_at, life_of, life_at, if_given, is_given_thread}
use Rattle.law_heap_still.proofs.Below.law_words_paths.Below.coherent_types.Branches.{found}
use Rattle.law_heap_still.specs.Below.law_words_paths.paths.HeapStore.{in_store, GoesOn, IsUnmarked}
use Rattle.law_heap_still.proofs.Below.law_words_paths.paths.Sole.{some_is, walk_prefix}
use Rattle.law_heap_still.proofs.Below.law_words_paths.paths.Shown.{none_else, shown_value, object_shown}
use Rattle.law_heap_still.proofs.Below.law_words_paths.paths.Alike.{ref_type, there_of}
use Rattle.law_types_still.specs.heap.Counted.{HasNumbers}

-- a cluster whose one heap is typed
pub record HasHeap (k : Cluster) : Type 0 where
  pub numbers : HasNumbers k
  pub table : Table
  pub typing : Typing
  pub state : CodeStateTypes table typing (one_heap k)

-- its one heap as a store
abbrev pub heap_of : (k : Cluster) → HasHeap k → Store
heap_of k c = store_of (λ (p : Place). p.temps) c.typing (one_heap k)

same_slot : (t i j : ℕ) → at_slot t i ≡ at_slot t j → i ≡ j
same_slot t i j e = cc

then_leads : (t : ℕ) (o : Option Value) (m : Location) → leads t o ≡ Some m → (v : Value) × (o ≡ Some v)
then_leads t None m e = absurd cc
then_leads t (Some v) m e = (v, refl)

behind : (g : Ground) (o : Option Location) (v : Value) → value_behind g o ≡ Some v → (l : Location) × (o ≡ Some l) × (value_in g l ≡ Some v)
behind g None v e = absurd cc
behind g (Some l) v e = (l, refl, e)

-- no reference leads to a key that no type names
unnamed_target : (rank : Key → ℕ) (E : KeyTypes) (s : Store) → Typed rank E s → (j k : Key) → s.at j ≡ ref_v (at_key k) → Unnamed E k → ⊥
unnamed_target rank E s t j k is free =
    let q = ref_type rank E s t j (at_key k) is in
    let f = ref_at rank E s t j q.0 q.1 q.2 in
    let same : ref_v f.target ≡ ref_v (at_key k) = sym f.is ∙ is in
    let target : f.target ≡ at_key k = cc in
    let one = unique s t.owner f.base k f.boxes 0 (at_key k) (f.leads ∙ ap Some target) refl in
    not_to E k free q.0 q.1.key q.1.depth f.base f.boxes f.type f.res (free j q.0 q.1 q.2) one.0

-- THREADS

-- a weight that is nothing in all is nothing at each thread
none_at : (f : Thing → ℕ) (x : Standing) (b : List Thing) → tot f b ≡ 0 → Among x (threads_in b) → f (stands x.server x.packed x.thread) ≡ 0
none_at f x [] z h = absurd h
none_at f x (stands s p t ∷ b) z (inl e) = subst (λ (y : Standing). f (stands y.server y.packed y.thread) ≡ 0) e (omega (arith, z))
none_at f x (stands s p t ∷ b) z (inr h) = none_at f x b (omega (arith, z)) h
none_at f x (_ ∷ b) z h = none_at f x b (omega (arith, z)) h

going_place : (s : Sight) (t : ℕ) (p : CodeRunning) → place_of (going_on s t p) ≡ Some p
going_place s zero p = refl
going_place s (suc t) p = by (was_let_go s (suc t))
  where
    by : (q : Bool) → place_of (if q then loose p else owing p) ≡ Some p
    by true = refl
    by false = refl

module _ (k : Cluster) (c : HasHeap k) (x : Standing) (g : GoesOn k x) where
  pub stands_there : thread_at (sight k).ground.threads x.thread.number ≡ Some x
  stands_there = found x (things_of k) (c.numbers.numbers_differ x.thread.number) g.among

  -- its name was given
  pub is_given : is_given_thread (sight k) x.thread.number ≡ true
  is_given = by (x.thread.number == 0) (x.thread.number % 2 ^ 32 == 0) (some (tot (started_at (home_of x.thread.number) (x.thread.number % 2 ^ 32)) (things_of k))) zeroth counted
    where
      zeroth : one ((x.thread.number % 2 ^ 32 == 0) && not (x.thread.number == 0)) ≡ 0
      zeroth =
          let all : tot (threads zeroth_thread) (things_of k) ≡ 0 = omega (arith, c.numbers.counts_from_one) in
          omega (arith, none_at (threads zeroth_thread) x (things_of k) all g.among)

      counted : some (tot (started_at (home_of x.thread.number) (x.thread.number % 2 ^ 32)) (things_of k)) ≡ true
      counted =
          let all : tot (threads (uncounted_thread (sight k))) (things_of k) ≡ 0 = omega (arith, c.numbers.names_counted) in
          let one_of : uncounted_thread (sight k) x.thread.number ≡ 0 = omega (arith, none_at (threads (uncounted_thread (sight k))) x (things_of k) all g.among) in
          none_else (some (tot (started_at (home_of x.thread.number) (x.thread.number % 2 ^ 32)) (things_of k))) one_of

      by : (a b d : Bool) → one (b && not a) ≡ 0 → d ≡ true → a || (not b && d) ≡ true
      by true b d z e = refl
      by false true d z e = absurd cc
      by false false d z e = e

  -- so the plain state shows it where it is
  pub is_running : place_in ((one_heap k).thread x.thread.number) ≡ Some (running_at x.thread)
  is_running =
      ap (λ b. place_in (if_given b (life_at (sight k) x.thread.number (thread_at (sight k).ground.threads x.thread.number)))) is_given
      ∙ ap (λ o. place_of (life_at (sight k) x.thread.number o)) stands_there
      ∙ ap (λ b. place_of (life_of (sight k) x.thread b)) g.going
      ∙ going_place (sight k) x.thread.number (running_at x.thread)

-- PLACES

module _ (k : Cluster) (c : HasHeap k) (x : Standing) (g : GoesOn k x) where
  abbrev st : Store
  st = heap_of k c

  abbrev n : ℕ
  n = x.thread.number

  abbrev ground : Ground
  ground = (sight k).ground

  abbrev gives : Gives
  gives = c.typing.gives

  -- what is shown of a slot, by what stands there
  pub slot_none : (i : ℕ) → slice_get x.thread.slots i ≡ None → st.at (slot_k n i) ≡ gone_v
  slot_none i e = rw (is_running k c x g) (rw (shown_value x.thread.slots i) (rw e refl))

  pub slot_gone : (i : ℕ) → slice_get x.thread.slots i ≡ Some value.Gone → st.at (slot_k n i) ≡ gone_v
  slot_gone i e = rw (is_running k c x g) (rw (shown_value x.thread.slots i) (rw e refl))

  pub slot_own : (i : ℕ) (v : Owned) → slice_get x.thread.slots i ≡ Some (value.Own v) → st.at (slot_k n i) ≡ owned_val gives (plain_of v)
  slot_own i v e = rw (is_running k c x g) (rw (shown_value x.thread.slots i) (rw e refl))

  pub slot_shared_slot : (i j : ℕ) → slice_get x.thread.slots i ≡ Some (value.SharedSlot j) → st.at (slot_k n i) ≡ ref_v (at_key (slot_k n j))
  slot_shared_slot i j e = rw (is_running k c x g) (rw (shown_value x.thread.slots i) (rw e refl))

  pub slot_mut_slot : (i j : ℕ) → slice_get x.thread.slots i ≡ Some (value.MutSlot j) → st.at (slot_k n i) ≡ ref_v (at_key (slot_k n j))
  slot_mut_slot i j e = rw (is_running k c x g) (rw (shown_value x.thread.slots i) (rw e refl))

  pub slot_shared : (i : ℕ) (r : SharedRef) → slice_get x.thread.slots i ≡ Some (value.Shared r) → st.at (slot_k n i) ≡ ref_v (at_object r.object)
  slot_shared i r e = rw (is_running k c x g) (rw (shown_value x.thread.slots i) (rw e refl))

  pub slot_mut : (i : ℕ) (r : MutRef) → slice_get x.thread.slots i ≡ Some (value.Mut r) → st.at (slot_k n i) ≡ ref_v (at_object r.object)
  slot_mut i r e = rw (is_running k c x g) (rw (shown_value x.thread.slots i) (rw e refl))

  -- an object of the one heap has its cell
  pub cell_there : (o : ObjNo) (v : Val) → st.heap o ≡ Some v → (d : Cell) × (cell_of ground.cells o ≡ Some d) × (v ≡ owned_val gives (plain_of d.value))
  cell_there o v e = by (object_value (sight k) o) refl e
    where
      by : (p : Option Plain) → object_value (sight k) o ≡ p → seen_cell gives p ≡ Some v → (d : Cell) × (cell_of ground.cells o ≡ Some d) × (v ≡ owned_val gives (plain_of d.value))
      by None q e2 = absurd cc
      by (Some p) q e2 =
          let y = object_shown (sight k) o p q in
          (y.0, y.1, sym (some_is e2) ∙ ap (owned_val gives) (sym y.2))

  -- a slot of the thread, or an object that is in the one heap
  pub data IsShown : Location → Type 0 where
    a_slot : (i : ℕ) → IsShown (at_slot n i)
    an_object : (o : ObjNo) (v : Val) → st.heap o ≡ Some v → IsShown (in_cell o)

  -- what a box leads to is in the one heap, and so is what a reference leads to
  boxed_there : (l : StoreLocation) (o : ObjNo) → value_at st l ≡ Some (box_v o) → IsShown (in_cell o)
  boxed_there l o e = let q = c.state.objects_there l o e in an_object o (owned_val gives q.0) (ap (seen_cell gives) q.1)

  referred_there : (key : Key) (o : ObjNo) → st.at key ≡ ref_v (at_object o) → IsShown (in_cell o)
  referred_there key o e = let q = there_of c.typing.rank c.typing.exact st c.state.typed key (at_object o) e in an_object o q.0 q.1

  leads_to : {l m : Location} → Some l ≡ Some m → IsShown l → (star : Option StoreLocation) → star ≡ Some (in_store l) → (star ≡ Some (in_store m)) × IsShown m
  leads_to e s star h = let q : _ ≡ _ = some_is e in (subst (λ z. star ≡ Some (in_store z)) q h, subst IsShown q s)

  abbrev star_from : Val → Option StoreLocation
  star_from v = star_target (Some v)

  -- one star leads alike, from a slot
  slot_star : (i : ℕ) (v : Value) (m : Location) → slice_get x.thread.slots i ≡ Some v → leads n (Some v) ≡ Some m → (star_hop st (at_key (slot_k n i)) ≡ Some (in_store m)) × IsShown m
  slot_star i value.Gone m e f = absurd cc
  slot_star i (value.Own owned.Nothing) m e f = absurd cc
  slot_star i (value.Own owned.Unit) m e f = absurd cc
  slot_star i (value.Own (owned.Int z)) m e f = absurd cc
  slot_star i (value.Own (owned.Box p)) m e f =
      let v = slot_own i (owned.Box p) e in
      leads_to f (boxed_there (at_key (slot_k n i)) p.object (ap Some v)) (star_hop st (at_key (slot_k n i))) (ap star_from v)
  slot_star i (value.Own (owned.Mutex z)) m e f = absurd cc
  slot_star i (value.Own (owned.Task z)) m e f = absurd cc
  slot_star i (value.SharedSlot j) m e f = leads_to f (a_slot j) (star_hop st (at_key (slot_k n i))) (ap star_from (slot_shared_slot i j e))
  slot_star i (value.MutSlot j) m e f = leads_to f (a_slot j) (star_hop st (at_key (slot_k n i))) (ap star_from (slot_mut_slot i j e))
  slot_star i (value.Shared r) m e f = let v = slot_shared i r e in leads_to f (referred_there (slot_k n i) r.object v) (star_hop st (at_key (slot_k n i))) (ap star_from v)
  slot_star i (value.Mut r) m e f = let v = slot_mut i r e in leads_to f (referred_there (slot_k n i) r.object v) (star_hop st (at_key (slot_k n i))) (ap star_from v)
  slot_star i (value.Held z) m e f = absurd cc

  -- and from an object
  cell_star : (o : ObjNo) (d : Cell) (m : Location) → st.heap o ≡ Some (owned_val gives (plain_of d.value)) → leads n (Some (value.Own d.value)) ≡ Some m → (star_hop st (at_object o) ≡ Some (in_store m)) × IsShown m
  cell_star o d m e f = by d.value e f
    where
      by : (v : Owned) → st.heap o ≡ Some (owned_val gives (plain_of v)) → leads n (Some (value.Own v)) ≡ Some m → (star_hop st (at_object o) ≡ Some (in_store m)) × IsShown m
      by owned.Nothing e2 f2 = absurd cc
      by owned.Unit e2 f2 = absurd cc
      by (owned.Int z) e2 f2 = absurd cc
      by (owned.Box p) e2 f2 = leads_to f2 (boxed_there (at_object o) p.object e2) (star_hop st (at_object o)) (ap star_target e2)
      by (owned.Mutex z) e2 f2 = absurd cc
      by (owned.Task z) e2 f2 = absurd cc

  star : (l m : Location) (v : Value) → IsShown l → value_in ground l ≡ Some v → leads n (Some v) ≡ Some m → (star_hop st (in_store l) ≡ Some (in_store m)) × IsShown m
  star _ m v (a_slot i) e f = slot_star i v m (sym (ap (λ o. slot_of o i) (stands_there k c x g)) ∙ e) f
  star _ m v (an_object o z h) e f =
      let q = cell_there o z h in
      let same : Some (value.Own q.0.value) ≡ Some v = sym (ap value_of q.1) ∙ e in
      cell_star o q.0 m (h ∙ ap Some q.2) (ap (leads n) same ∙ f)

  -- A PLACE OF THE THREAD LEADS ALIKE
  pub leads_in_heap : (slot d : ℕ) (l : Location) → locate ground n slot d ≡ Some l → (walk st d (at_key (slot_k n slot)) ≡ Some (in_store l)) × IsShown l
  leads_in_heap slot zero l e = let q : at_slot n slot ≡ l = some_is e in (ap (λ z. Some (in_store z)) q, subst IsShown q (a_slot slot))
  leads_in_heap slot (suc d) l e =
      let v = then_leads n (value_behind ground (locate ground n slot d)) l e in
      let m = behind ground (locate ground n slot d) v.0 v.1 in
      let h = leads_in_heap slot d m.0 m.1 in
      let s = star m.0 l v.0 h.1 m.2 (sym (ap (leads n) v.1) ∙ e) in
      (walk_last st d (at_key (slot_k n slot)) (in_store m.0) h.0 ∙ s.0, s.1)

  -- A PLACE THAT TYPES RESOLVE LEADS SOMEWHERE

  -- no type names a mark
  pub mark_unnamed : (i : ℕ) (m : MutexNo) → slice_get x.thread.slots i ≡ Some (value.Held m) → Unnamed c.typing.exact (slot_k n i)
  mark_unnamed i m e =
      let thread = c.state.threads n (running_at x.thread) (is_running k c x g) in
      let lock = thread.marked i m (shown_value x.thread.slots i ∙ ap (option_map plain_value) e) in
      lock.unnamed

  -- the slot that a reference leads to is no mark
  unmarked : (j : Key) (i : ℕ) → st.at j ≡ ref_v (at_key (slot_k n i)) → IsUnmarked x i
  unmarked j i is m e = unnamed_target c.typing.rank c.typing.exact st c.state.typed j (slot_k n i) is (mark_unnamed i m e)

  -- one star more from it
  record NextStar (v : Option Value) (m : StoreLocation) : Type 0 where
    next : Location
    leads_there : leads n v ≡ Some next
    clear : (i : ℕ) → next ≡ at_slot n i → IsUnmarked x i

  none_star : {v : Option Value} {m : StoreLocation} (h : StoreLocation) (w : Val) → value_at st h ≡ Some w → star_target (Some w) ≡ None → star_hop st h ≡ Some m → NextStar v m
  none_star h w is none e = let q : None ≡ Some _ = sym none ∙ sym (ap star_target is) ∙ e in absurd cc

  object_next : (v : Option Value) (o : ObjNo) (m : StoreLocation) → leads n v ≡ Some (in_cell o) → NextStar v m
  object_next v o m e = record { next = in_cell o; leads_there = e; clear = λ i f. absurd cc }

  slot_next : (v : Option Value) (i j : ℕ) (m : StoreLocation) → leads n v ≡ Some (at_slot n j) → st.at (slot_k n i) ≡ ref_v (at_key (slot_k n j)) → NextStar v m
  slot_next v i j m e is = record { next = at_slot n j; leads_there = e; clear = λ a f. unmarked (slot_k n i) a (is ∙ ap (λ z. ref_v (in_store z)) f) }

  owned_next : (h : StoreLocation) (v : Owned) (m : StoreLocation) → value_at st h ≡ Some (owned_val gives (plain_of v)) → star_hop st h ≡ Some m → NextStar (Some (value.Own v)) m
  owned_next h owned.Nothing m is e = none_star h gone_v is refl e
  owned_next h owned.Unit m is e = none_star h unit_v is refl e
  owned_next h (owned.Int z) m is e = none_star h (int_v z) is refl e
  owned_next h (owned.Box p) m is e = object_next (Some (value.Own (owned.Box p))) p.object m refl
  owned_next h (owned.Mutex z) m is e = none_star h (owned_val gives (plain.Mutex z)) is refl e
  owned_next h (owned.Task z) m is e = none_star h (owned_val gives (plain.Task z)) is refl e

  value_next : (i : ℕ) (v : Value) (m : StoreLocation) → slice_get x.thread.slots i ≡ Some v → IsUnmarked x i → star_hop st (at_key (slot_k n i)) ≡ Some m → NextStar (Some v) m
  value_next i value.Gone m is clear e = none_star (at_key (slot_k n i)) gone_v (ap Some (slot_gone i is)) refl e
  value_next i (value.Own v) m is clear e = owned_next (at_key (slot_k n i)) v m (ap Some (slot_own i v is)) e
  value_next i (value.SharedSlot j) m is clear e = slot_next (Some (value.SharedSlot j)) i j m refl (slot_shared_slot i j is)
  value_next i (value.MutSlot j) m is clear e = slot_next (Some (value.MutSlot j)) i j m refl (slot_mut_slot i j is)
  value_next i (value.Shared r) m is clear e = object_next (Some (value.Shared r)) r.object m refl
  value_next i (value.Mut r) m is clear e = object_next (Some (value.Mut r)) r.object m refl
  value_next i (value.Held z) m is clear e = absurd (clear z is)

  -- the value there leads on
  record GoesOnFrom (l : Location) : Type 0 where
    next : Location
    leads_there : leads n (value_in ground l) ≡ Some next
    clear : (i : ℕ) → next ≡ at_slot n i → IsUnmarked x i

  from_next : (l : Location) (v : Value) (m : StoreLocation) → value_in ground l ≡ Some v → NextStar (Some v) m → GoesOnFrom l
  from_next l v m is q = record { next = q.next; leads_there = ap (leads n) is ∙ q.leads_there; clear = q.clear }

  next_from : (l : Location) (m : StoreLocation) → IsShown l → ((i : ℕ) → l ≡ at_slot n i → IsUnmarked x i) → star_hop st (in_store l) ≡ Some m → GoesOnFrom l
  next_from _ m (a_slot i) clear e = by (slice_get x.thread.slots i) refl
    where
      by : (o : Option Value) → slice_get x.thread.slots i ≡ o → GoesOnFrom (at_slot n i)
      by None is = let q : None ≡ Some m = sym (ap star_from (slot_none i is)) ∙ e in absurd cc
      by (Some v) is = from_next (at_slot n i) v m (ap (λ o. slot_of o i) (stands_there k c x g) ∙ is) (value_next i v m is (clear i refl) e)
  next_from _ m (an_object o z h) clear e =
      let q = cell_there o z h in
      from_next (in_cell o) (value.Own q.0.value) m (ap value_of q.1) (owned_next (at_object o) q.0.value m (h ∙ ap Some q.2) e)

  pub leads_in_cluster : (slot d : ℕ) (h : StoreLocation) → IsUnmarked x slot → walk st d (at_key (slot_k n slot)) ≡ Some h → (l : Location) × (locate ground n slot d ≡ Some l) × ((i : ℕ) → l ≡ at_slot n i → IsUnmarked x i)
  leads_in_cluster slot zero h clear e = (at_slot n slot, refl, λ i f. subst (IsUnmarked x) (same_slot n slot i f) clear)
  leads_in_cluster slot (suc d) h clear e =
      let p = walk_prefix st d (at_key (slot_k n slot)) h e in
      let r = leads_in_cluster slot d p.0 clear p.1 in
      let s = leads_in_heap slot d r.0 r.1 in
      let same : Some (in_store r.0) ≡ Some p.0 = sym s.0 ∙ p.1 in
      let q = next_from r.0 h s.1 r.2 (ap (star_hop st) (some_is same) ∙ p.2) in
      (q.next, ap (λ o. leads n (value_behind ground o)) r.1 ∙ q.leads_there, q.clear)
