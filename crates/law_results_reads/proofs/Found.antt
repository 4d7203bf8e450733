-- What stands where a thread's place leads has the form of the place's type.
use Rattle.std.proofs.Common.{◌≡◌, ◌⊎◌, ℕ, zero, Bool, true, false, List, [], Option, Some, None, is_some, refl, sym, ap, subst, ◌∙◌}
use Rattle.std.specs.Prelude.{slice_get}
use Rattle.law_counts_sums.specs.Below.fr_base.declared.name.ObjNo.{ObjNo}
use Rattle.law_counts_sums.specs.Below.fr_base.declared.name.MutexNo.{MutexNo}
use Rattle.law_counts_sums.specs.Below.fr_base.declared.place.Lval.{Lval}
use Rattle.law_counts_sums.specs.Below.fr_typing.Kinds.{Owned as OwnedType, unit, int, box, mutex, task, Kind, own, shared, mutable, view, Piece, whole, gone, boxed, copies}
use Rattle.law_counts_sums.specs.Below.fr_store.Keys.{Key, slot_k}
use Rattle.law_counts_sums.specs.Below.fr_store.Store.{at_key, at_object, Val, gone_v, unit_v, int_v, box_v, mutex_v, task_v, ref_v, Store, value_at, below_key}
use Rattle.law_counts_sums.specs.Below.fr_store.Typed.{Tree, hole, unit_tree, int_tree, mutex_tree, task_tree, box_tree, Exact, owns, refers, KeyTypes, TopFits, Fits, Resolves}
use Rattle.law_counts_sums.specs.Below.fr_store.Below.{tree_of, TreeOf, RefOf, ExactOf}
use Rattle.law_counts_sums.proofs.Below.fr_store.Chains.{unique}
use Rattle.law_counts_sums.proofs.Below.fr_store.Rows.{found_place}
use Rattle.law_counts_sums.proofs.Below.fr_store.Sound.{res_part}
use Rattle.law_words_paths.specs.Below.fr_sound.Seen.{Gives, owned_val, seen_cell}
use Rattle.law_counts_sums.specs.Below.heap_partition.Plain.{plain_of}
use Rattle.law_counts_sums.specs.Below.heap_partition.declared.value.Cell.{Cell}
use Rattle.law_counts_sums.specs.Below.heap_partition.declared.value.Owned.{Owned}
use Rattle.law_counts_sums.specs.Below.heap_partition.declared.value.Owned.TheVariants as owned
use Rattle.law_counts_sums.specs.Below.thread_state.declared.value.Value.{Value}
use Rattle.law_counts_sums.specs.Below.thread_state.declared.value.Value.TheVariants as value
use Rattle.law_counts_sums.specs.Below.server_model.Servers.{Cluster}
use Rattle.law_counts_sums.specs.Below.server_model.Places.{second_of}
use Rattle.law_counts_sums.specs.Below.coherent_memory.Things.{Location, at_slot, in_cell}
use Rattle.law_counts_sums.specs.Below.coherent_memory.Follow.{Standing, Ground, cell_of, value_in, value_of, slot_of, locate}
use Rattle.law_counts_sums.specs.Below.coherent_memory.Sight.{sight}
use Rattle.law_counts_sums.specs.Below.coherent_memory.OneHeap.{object_value}
use Rattle.law_words_paths.specs.Below.coherent_types.Names.{NameTypes}
use Rattle.law_words_paths.specs.Below.coherent_types.ClusterTypes.{has_form, slot_form}
use Rattle.law_words_paths.specs.paths.HeapStore.{in_store, heap_store, store_place, GoesOn, IsUnmarked, HasPaths}
use Rattle.law_words_paths.proofs.paths.Alike.{leads_in_heap, leads_in_cluster, IsShown, a_slot, an_object, slot_none}
use Rattle.law_words_paths.proofs.paths.Forms.{names, slot_part}
use Rattle.law_words_paths.proofs.paths.Shown.{object_shown, stands_there}
use Rattle.law_words_paths.proofs.paths.Sole.{some_is}
use Rattle.law_results_reads.proofs.Operands.{second_form}
use Rattle.law_results_reads.proofs.Reading.{Alike, equal, both_shared}

-- PIECES WITH ONE EXACT TYPE

-- of a piece with that exact type, which is one that is copied, there may be a second value
second_by : (key : ℕ → Key) (E : KeyTypes) (n : NameTypes) (P : Piece) (k : Kind) (p : Exact) (v : Value) → ExactOf key E P p → ExactOf key E (whole k) p → copies k ≡ true → has_form n P v ≡ true → (u : Value) × (second_of v ≡ Some u)
second_by key E n P (own o) (owns t) v ex is c form = by P ex form
  where
    tree : t ≡ tree_of o
    tree = is

    light : (o : OwnedType) (q : OwnedType) → tree_of q ≡ tree_of o → copies (own o) ≡ true → copies (own q) ≡ true
    light unit unit e c = refl
    light int int e c = refl
    light unit int e c = absurd cc
    light unit (box q) e c = absurd cc
    light unit (mutex q) e c = absurd cc
    light unit (task q) e c = absurd cc
    light int unit e c = absurd cc
    light int (box q) e c = absurd cc
    light int (mutex q) e c = absurd cc
    light int (task q) e c = absurd cc
    light (box o) q e c = absurd (cc c)
    light (mutex o) q e c = absurd (cc c)
    light (task o) q e c = absurd (cc c)

    no_hole : (o : OwnedType) → tree_of o ≡ hole → ⊥
    no_hole unit e = cc
    no_hole int e = cc
    no_hole (box q) e = cc
    no_hole (mutex q) e = cc
    no_hole (task q) e = cc

    no_box : (o : OwnedType) (q : Tree) → copies (own o) ≡ true → tree_of o ≡ box_tree q → ⊥
    no_box unit q c e = cc
    no_box int q c e = cc
    no_box (box o) q c e = cc
    no_box (mutex o) q c e = cc
    no_box (task o) q c e = cc

    by : (P : Piece) → TreeOf P t → has_form n P v ≡ true → (u : Value) × (second_of v ≡ Some u)
    by (whole (own q)) e f = second_form n (own q) v (light o q (sym e ∙ tree) c) f
    by (whole (shared us)) e f = absurd e
    by (whole (mutable us)) e f = absurd e
    by (whole (view q)) e f = absurd e
    by (gone q) e f = absurd (no_hole o (sym tree ∙ e))
    by (boxed q) e f = absurd (no_box o e.0 c (sym tree ∙ e.1))
second_by key E n P (shared us) (owns t) v ex is c form = absurd is
second_by key E n P (mutable us) (owns t) v ex is c form = absurd is
second_by key E n P (view o) (owns t) v ex is c form = absurd is
second_by key E n P k (refers m u) v ex is c form = by P ex form (not_mutable k is c)
  where
    not_mutable : (k : Kind) → RefOf key E (whole k) m u → copies k ≡ true → m ≡ false
    not_mutable (own o) e c = absurd e
    not_mutable (shared us) e c = e.0
    not_mutable (mutable us) e c = absurd (cc c)
    not_mutable (view o) e c = e.0

    by : (P : Piece) → RefOf key E P m u → has_form n P v ≡ true → m ≡ false → (w : Value) × (second_of v ≡ Some w)
    by (whole (own q)) e f g = absurd e
    by (whole (shared us)) e f g = second_form n (shared us) v refl f
    by (whole (mutable us)) e f g = let z : true ≡ false = sym e.0 ∙ g in absurd cc
    by (whole (view q)) e f g = second_form n (view q) v refl f
    by (gone q) e f g = absurd e
    by (boxed q) e f g = absurd e

-- a piece with the exact type of a mutex has a mutex
mutex_by : (key : ℕ → Key) (E : KeyTypes) (n : NameTypes) (P : Piece) (o : OwnedType) (p : Exact) (v : Value) → ExactOf key E P p → ExactOf key E (whole (own (mutex o))) p → has_form n P v ≡ true → (m : MutexNo) × (v ≡ value.Own (owned.Mutex m))
mutex_by key E n P o (owns t) v ex is form = by P ex form
  where
    tree : t ≡ mutex_tree (tree_of o)
    tree = is

    its_mutex : (q : OwnedType) → tree_of q ≡ mutex_tree (tree_of o) → has_form n (whole (own q)) v ≡ true → (m : MutexNo) × (v ≡ value.Own (owned.Mutex m))
    its_mutex (mutex q) e f = Rattle.law_results_reads.proofs.Operands.mutex_form n q v f
    its_mutex unit e f = absurd cc
    its_mutex int e f = absurd cc
    its_mutex (box q) e f = absurd cc
    its_mutex (task q) e f = absurd cc

    by : (P : Piece) → TreeOf P t → has_form n P v ≡ true → (m : MutexNo) × (v ≡ value.Own (owned.Mutex m))
    by (whole (own q)) e f = its_mutex q (sym e ∙ tree) f
    by (whole (shared us)) e f = absurd e
    by (whole (mutable us)) e f = absurd e
    by (whole (view q)) e f = absurd e
    by (gone q) e f = let z : hole ≡ mutex_tree (tree_of o) = sym e ∙ tree in absurd cc
    by (boxed q) e f = let z : box_tree e.0 ≡ mutex_tree (tree_of o) = sym e.1 ∙ tree in absurd cc
mutex_by key E n P o (refers m u) v ex is form = absurd is

module _ (k : Cluster) (c : HasPaths k) (x : Standing) (g : GoesOn k x) where
  abbrev t : ℕ
  t = x.thread.number

  abbrev ground : Ground
  ground = (sight k).ground

  abbrev st : Store
  st = heap_store k c.types

  abbrev E : KeyTypes
  E = c.types.typing.exact

  abbrev gives : Gives
  gives = c.types.typing.gives

  -- a value that stands at a location, with the exact type p
  pub data Stood (p : Exact) : Location → Value → Type 0 where
    slot_stands : (j : ℕ) (v : Value) (P : Piece) → slice_get x.thread.slots j ≡ Some v → ExactOf (slot_k t) E P p → has_form (names k c x g) P v ≡ true → Stood p (at_slot t j) v
    cell_stands : (o : ObjNo) (d : Cell) → cell_of ground.cells o ≡ Some d → Fits E st p (owned_val gives (plain_of d.value)) → Stood p (in_cell o) (value.Own d.value)

  at_key_same : {a b : Key} → at_key a ≡ at_key b → a ≡ b
  at_key_same e = cc

  -- where a place leads that types resolve something stands so
  pub stands_so : (only : Bool) (w : Lval) (b : Key) (n : ℕ) (p : Exact) → IsUnmarked x w.slot → Resolves E only (slot_k t w.slot) w.depth b n p → (p ≡ owns hole → ⊥) → (l : Location) × (v : Value) × (locate ground t w.slot w.depth ≡ Some l) × (value_in ground l ≡ Some v) × Stood p l v
  stands_so only w b n p unmarked r filled =
      let f = found_place c.types.typing.rank E st only (store_place t w) b n p c.types.state.typed r in
      let q = leads_in_cluster k c x g w.slot w.depth f.loc unmarked f.at in
      let shown = leads_in_heap k c x g w.slot w.depth q.0 q.1 in
      let loc : in_store q.0 ≡ f.loc = some_is (sym shown.0 ∙ f.at) in
      let there : value_at st (in_store q.0) ≡ Some f.value = ap (value_at st) loc ∙ f.there in
      let chain : below_key st b n ≡ Some (in_store q.0) = f.chain ∙ ap Some (sym loc) in
      let a = by q.0 shown.1 q.2 f.value there f.fits chain in
      (q.0, a.0, q.1, a.1, a.2)
    where
      part : (j : ℕ) → below_key st b n ≡ Some (at_key (slot_k t j)) → E (slot_k t j) ≡ p
      part j e =
          let one = unique st c.types.state.typed.owner b (slot_k t j) n zero (at_key (slot_k t j)) e refl in
          let h = res_part E only (slot_k t w.slot) w.depth b n p r in
          some_is (part_zero_is (E (slot_k t j)) ∙ subst (λ z. Rattle.law_counts_sums.specs.Below.fr_store.Typed.exact_under zero (E z) ≡ Some p) one.0 (subst (λ z. Rattle.law_counts_sums.specs.Below.fr_store.Typed.exact_under z (E b) ≡ Some p) one.1 h))
        where
          part_zero_is : (q : Exact) → Some q ≡ Rattle.law_counts_sums.specs.Below.fr_store.Typed.exact_under zero q
          part_zero_is (owns t) = refl
          part_zero_is (refers m u) = refl

      no_gone : (p : Exact) → Fits E st p gone_v → (p ≡ owns hole → ⊥) → ⊥
      no_gone (owns hole) f ne = ne refl
      no_gone (owns unit_tree) f ne = let z : gone_v ≡ unit_v = f in cc
      no_gone (owns int_tree) f ne = let z : gone_v ≡ int_v f.0 = f.1 in cc
      no_gone (owns (mutex_tree u)) f ne = let z : gone_v ≡ mutex_v f.0 u = f.1 in cc
      no_gone (owns (task_tree u)) f ne = let z : gone_v ≡ task_v f.0 u = f.1 in cc
      no_gone (owns (box_tree u)) f ne = let z : gone_v ≡ box_v f.0 = f.1 in cc
      no_gone (refers m u) f ne = let z : gone_v ≡ ref_v f.target = f.is in cc

      by : (l : Location) → IsShown k c x g l → ((i : ℕ) → l ≡ at_slot t i → IsUnmarked x i) → (val : Val) → value_at st (in_store l) ≡ Some val → Fits E st p val → below_key st b n ≡ Some (in_store l) → (v : Value) × (value_in ground l ≡ Some v) × Stood p l v
      by _ (a_slot j) clear val there fits chain = by_value (slice_get x.thread.slots j) refl
        where
          in_ground : (o : Option Value) → slice_get x.thread.slots j ≡ o → value_in ground (at_slot t j) ≡ o
          in_ground o e = ap (λ z. slot_of z j) (stands_there k c x g) ∙ e

          by_form : (v : Value) (P : Rattle.law_counts_sums.specs.Below.fr_typing.Places.Slot) (q : Bool) → slot_form (names k c x g) P q v ≡ true → IsUnmarked x j → slice_get x.thread.slots j ≡ Some v → has_form (names k c x g) P.part v ≡ true
          by_form v P true f un e = f
          by_form (value.Held m) P false f un e = absurd (un m e)
          by_form value.Gone P false f un e = absurd cc
          by_form (value.Own u) P false f un e = absurd cc
          by_form (value.SharedSlot u) P false f un e = absurd cc
          by_form (value.MutSlot u) P false f un e = absurd cc
          by_form (value.Shared u) P false f un e = absurd cc
          by_form (value.Mut u) P false f un e = absurd cc

          by_value : (o : Option Value) → slice_get x.thread.slots j ≡ o → (v : Value) × (value_in ground (at_slot t j) ≡ Some v) × Stood p (at_slot t j) v
          by_value (Some v) e =
              let h = slot_part k c x g j v e in
              let exact : ExactOf (slot_k t) E h.slot.part p = subst (ExactOf (slot_k t) E h.slot.part) (part j chain) h.exact in
              (v, in_ground (Some v) e, slot_stands j v h.slot.part e exact (by_form v h.slot (is_some h.slot.name) h.form (clear j refl) e))
          by_value None e =
              let gone_there : Some gone_v ≡ Some val = sym (ap Some (slot_none k c x g j e)) ∙ there in
              absurd (no_gone p (subst (Fits E st p) (sym (some_is gone_there)) fits) filled)
      by _ (an_object o u h) clear val there fits chain = by_plain (object_value (sight k) o) refl h
        where
          by_plain : (q : Option Rattle.law_counts_sums.specs.Below.fr_base.declared.label.Plain.Plain) → object_value (sight k) o ≡ q → seen_cell gives q ≡ Some u → (v : Value) × (value_in ground (in_cell o) ≡ Some v) × Stood p (in_cell o) v
          by_plain None q f = absurd cc
          by_plain (Some a) q f =
              let d = object_shown (sight k) o a q in
              let val_is : val ≡ owned_val gives (plain_of d.0.value) = some_is (sym there ∙ h) ∙ sym (some_is f) ∙ ap (owned_val gives) (sym d.2) in
              (value.Own d.0.value, ap value_of d.1, cell_stands o d.0 d.1 (subst (Fits E st p) val_is fits))

  -- a whole type is no hole
  pub no_hole : (q : Kind) (p : Exact) → ExactOf (slot_k t) E (whole q) p → p ≡ owns hole → ⊥
  no_hole q p ex e = by q (subst (ExactOf (slot_k t) E (whole q)) e ex)
    where
      by_owned : (o : OwnedType) → hole ≡ tree_of o → ⊥
      by_owned unit f = cc
      by_owned int f = cc
      by_owned (box o) f = cc
      by_owned (mutex o) f = cc
      by_owned (task o) f = cc

      by : (q : Kind) → ExactOf (slot_k t) E (whole q) (owns hole) → ⊥
      by (own o) f = by_owned o f
      by (shared us) f = f
      by (mutable us) f = f
      by (view o) f = f

  -- of what stands at a place whose type is copied there may be a second one
  pub second_at : (q : Kind) (p : Exact) (l : Location) (v u : Value) → Stood p l v → ExactOf (slot_k t) E (whole q) p → copies q ≡ true → Alike u v → (w : Value) × (second_of u ≡ Some w)
  second_at q p _ v u (slot_stands j _ P e ex form) is copied al = by u v al (second_by (slot_k t) E (names k c x g) P q p v ex is copied form)
    where
      by : (u v : Value) → Alike u v → (w : Value) × (second_of v ≡ Some w) → (w : Value) × (second_of u ≡ Some w)
      by u _ equal r = r
      by _ _ (both_shared a b words objects) r = (value.Shared (record a { pinned = false }), refl)
  second_at q p _ _ u (cell_stands o d has fits) is copied equal = by q p is copied fits
    where
      light : (v : Owned) (q : Kind) (p : Exact) → ExactOf (slot_k t) E (whole q) p → copies q ≡ true → Fits E st p (owned_val gives (plain_of v)) → (w : Value) × (second_of (value.Own v) ≡ Some w)
      light owned.Unit q p is c f = (value.Own owned.Unit, refl)
      light (owned.Int i) q p is c f = (value.Own (owned.Int i), refl)
      light v (own unit) (owns tr) is c f = unit_only v (subst (λ z. TopFits z (owned_val gives (plain_of v))) is f)
        where
          unit_only : (v : Owned) → owned_val gives (plain_of v) ≡ unit_v → (w : Value) × (second_of (value.Own v) ≡ Some w)
          unit_only owned.Unit f = (value.Own owned.Unit, refl)
          unit_only (owned.Int i) f = (value.Own (owned.Int i), refl)
          unit_only owned.Nothing f = absurd cc
          unit_only (owned.Box b) f = absurd cc
          unit_only (owned.Mutex b) f = absurd cc
          unit_only (owned.Task b) f = absurd cc
      light v (own int) (owns tr) is c f = int_only v (subst (λ z. TopFits z (owned_val gives (plain_of v))) is f)
        where
          int_only : (v : Owned) → (i : Rattle.std.proofs.Common.ℤ) × (owned_val gives (plain_of v) ≡ int_v i) → (w : Value) × (second_of (value.Own v) ≡ Some w)
          int_only owned.Unit f = (value.Own owned.Unit, refl)
          int_only (owned.Int i) f = (value.Own (owned.Int i), refl)
          int_only owned.Nothing f = let z = f.1 in absurd cc
          int_only (owned.Box b) f = let z = f.1 in absurd cc
          int_only (owned.Mutex b) f = let z = f.1 in absurd cc
          int_only (owned.Task b) f = let z = f.1 in absurd cc
      light v (own (box o)) p is c f = absurd (cc c)
      light v (own (mutex o)) p is c f = absurd (cc c)
      light v (own (task o)) p is c f = absurd (cc c)
      light v (own unit) (refers m b) is c f = absurd is
      light v (own int) (refers m b) is c f = absurd is
      light v (shared us) (owns tr) is c f = absurd is
      light v (mutable us) (owns tr) is c f = absurd is
      light v (view o) (owns tr) is c f = absurd is
      light v (shared us) (refers m b) is c f = absurd (no_reference v f.target f.is)
        where
          no_reference : (v : Owned) (l : Rattle.law_counts_sums.specs.Below.fr_store.Store.Location) → owned_val gives (plain_of v) ≡ ref_v l → ⊥
          no_reference owned.Nothing l e = cc
          no_reference owned.Unit l e = cc
          no_reference (owned.Int i) l e = cc
          no_reference (owned.Box i) l e = cc
          no_reference (owned.Mutex i) l e = cc
          no_reference (owned.Task i) l e = cc
      light v (mutable us) (refers m b) is c f = absurd (cc c)
      light v (view o) (refers m b) is c f = absurd (no_reference v f.target f.is)
        where
          no_reference : (v : Owned) (l : Rattle.law_counts_sums.specs.Below.fr_store.Store.Location) → owned_val gives (plain_of v) ≡ ref_v l → ⊥
          no_reference owned.Nothing l e = cc
          no_reference owned.Unit l e = cc
          no_reference (owned.Int i) l e = cc
          no_reference (owned.Box i) l e = cc
          no_reference (owned.Mutex i) l e = cc
          no_reference (owned.Task i) l e = cc

      by : (q : Kind) (p : Exact) → ExactOf (slot_k t) E (whole q) p → copies q ≡ true → Fits E st p (owned_val gives (plain_of d.value)) → (w : Value) × (second_of (value.Own d.value) ≡ Some w)
      by q p is c f = light d.value q p is c f

  -- what stands at a place of a mutex's type is a mutex
  pub mutex_at : (o : OwnedType) (p : Exact) (l : Location) (v u : Value) → Stood p l v → ExactOf (slot_k t) E (whole (own (mutex o))) p → Alike u v → (m : MutexNo) × (u ≡ value.Own (owned.Mutex m))
  mutex_at o p _ v u (slot_stands j _ P e ex form) is al = by u v al (mutex_by (slot_k t) E (names k c x g) P o p v ex is form)
    where
      by : (u v : Value) → Alike u v → (m : MutexNo) × (v ≡ value.Own (owned.Mutex m)) → (m : MutexNo) × (u ≡ value.Own (owned.Mutex m))
      by u _ equal r = r
      by _ _ (both_shared a b words objects) r = let z = r.1 in absurd cc
  mutex_at o p _ _ u (cell_stands q d has fits) is equal = by p is fits d.value
    where
      only : (v : Owned) (tr : Tree) → (m : MutexNo) × (owned_val gives (plain_of v) ≡ mutex_v m tr) → (m : MutexNo) × (value.Own v ≡ value.Own (owned.Mutex m))
      only (owned.Mutex m) tr f = (m, refl)
      only owned.Nothing tr f = let z = f.1 in absurd cc
      only owned.Unit tr f = let z = f.1 in absurd cc
      only (owned.Int i) tr f = let z = f.1 in absurd cc
      only (owned.Box i) tr f = let z = f.1 in absurd cc
      only (owned.Task i) tr f = let z = f.1 in absurd cc

      by : (p : Exact) → ExactOf (slot_k t) E (whole (own (mutex o))) p → Fits E st p (owned_val gives (plain_of d.value)) → (v : Owned) → (m : MutexNo) × (value.Own d.value ≡ value.Own (owned.Mutex m))
      by (owns tr) is f v = only d.value (tree_of o) (subst (λ z. TopFits z (owned_val gives (plain_of d.value))) is f)
      by (refers m b) is f v = absurd is
