-- Slots and temporary values have the forms of their parts, in each cluster whose one heap is typed and where they have the sorts that it doesn't tell.
use Rattle.std.proofs.Common.{◌≡◌, ℕ, suc, ◌<◌, ◌==◌, ◌&&◌, Bool, true, if◌then◌else◌, List, [], ◌∷◌, length, Option, Some, None, refl, sym, ap, subst, ◌∙◌, arith}
use Rattle.std.specs.Prelude.{is_some}
use Rattle.law_heap_still.specs.Below.fr_base.declared.name.ObjNo.{ObjNo}
use Rattle.law_heap_still.specs.Below.fr_base.declared.name.MutexNo.{MutexNo}
use Rattle.law_heap_still.specs.Below.heap_partition.Plain.{plain_of}
use Rattle.law_heap_still.specs.Below.heap_partition.declared.value.Owned.{Owned}
use Rattle.law_heap_still.specs.Below.heap_partition.declared.value.Owned.TheVariants as owned
use Rattle.law_heap_still.specs.Below.thread_state.declared.value.Value.{Value}
use Rattle.law_heap_still.specs.Below.thread_state.declared.value.Value.TheVariants as value
use Rattle.law_heap_still.specs.Below.fr_typing.Kinds.{Owned as OwnedType, unit, int, box, mutex, task, same_owned, Kind, own, shared, mutable, view, Piece, whole, gone, boxed, map_some}
use Rattle.law_heap_still.specs.Below.fr_typing.Places.{Slot, Env}
use Rattle.law_heap_still.proofs.Below.fr_typing.PlaceLemmas.{eq_cases}
use Rattle.law_heap_still.specs.Below.fr_store.Keys.{Key}
use Rattle.law_heap_still.specs.Below.fr_store.Store.{Location as StoreLocation, Val, gone_v, unit_v, int_v, box_v, mutex_v, task_v, ref_v, Store, Place as StorePlace}
use Rattle.law_heap_still.specs.Below.fr_store.Typed.{Typed, Tree, box_tree, Exact, owns, refers, KeyTypes, TopFits}
use Rattle.law_heap_still.specs.Below.fr_store.Below.{tree_of, TreeOf, RefOf, ExactOf, SlotsBelow}
use Rattle.law_heap_still.proofs.Below.fr_store.Sound.{ref_at}
use Rattle.law_heap_still.proofs.Below.fr_store.Rows.{top_fits}
use Rattle.law_heap_still.specs.Below.fr_sound.Seen.{Gives, owned_val}
use Rattle.law_heap_still.specs.Below.fr_sound.States.{env_at, owned_part}
use Rattle.law_plain_values.proofs.acts.Envs.{same_tree}
use Rattle.law_heap_still.specs.Below.coherent_types.Names.{NameTypes, names_of, fits, is_there, fits_some}
use Rattle.law_heap_still.specs.Below.coherent_types.ClusterTypes.{has_form, slot_form, slots_wrong}
use Rattle.law_heap_still.proofs.Below.law_words_paths.paths.Sole.{some_is}
use Rattle.law_heap_still.proofs.Below.law_words_paths.paths.Shown.{at_behind}
use Rattle.law_types_still.specs.heap.Counted.{has_sort, slot_sort, slots_unsorted}
use Rattle.law_types_still.proofs.heap.Values.{seen_as, no_ref}
use Rattle.law_types_still.proofs.heap.Leads.{from_other, to_other}

-- OWNED VALUES

same_self : (a : OwnedType) → same_owned a a ≡ true
same_self unit = refl
same_self int = refl
same_self (box a) = same_self a
same_self (mutex a) = same_self a
same_self (task a) = same_self a

pub same_if : (a b : OwnedType) → a ≡ b → same_owned a b ≡ true
same_if a b e = subst (λ z. same_owned a z ≡ true) e (same_self a)

-- an owned value is one of a type, where the outermost part is and a box's object has the type of what stands in it
top_form : (g : Gives) (object : ObjNo → OwnedType) (o : OwnedType) (v : Owned) → TopFits (tree_of o) (owned_val g (plain_of v)) → ((p : _) (a : OwnedType) → v ≡ owned.Box p → o ≡ box a → object p.object ≡ a) → is_there v && fits (names_of object g) o v ≡ true
top_form g object unit owned.Nothing f h = absurd cc
top_form g object unit owned.Unit f h = refl
top_form g object unit (owned.Int i) f h = absurd cc
top_form g object unit (owned.Box p) f h = absurd cc
top_form g object unit (owned.Mutex m) f h = absurd cc
top_form g object unit (owned.Task t) f h = absurd cc
top_form g object int owned.Nothing f h = let e = f.1 in absurd cc
top_form g object int owned.Unit f h = let e = f.1 in absurd cc
top_form g object int (owned.Int i) f h = refl
top_form g object int (owned.Box p) f h = let e = f.1 in absurd cc
top_form g object int (owned.Mutex m) f h = let e = f.1 in absurd cc
top_form g object int (owned.Task t) f h = let e = f.1 in absurd cc
top_form g object (box o) owned.Nothing f h = let e = f.1 in absurd cc
top_form g object (box o) owned.Unit f h = let e = f.1 in absurd cc
top_form g object (box o) (owned.Int i) f h = let e = f.1 in absurd cc
top_form g object (box o) (owned.Box p) f h = same_if (object p.object) o (h p o refl refl)
top_form g object (box o) (owned.Mutex m) f h = let e = f.1 in absurd cc
top_form g object (box o) (owned.Task t) f h = let e = f.1 in absurd cc
top_form g object (mutex o) owned.Nothing f h = let e = f.1 in absurd cc
top_form g object (mutex o) owned.Unit f h = let e = f.1 in absurd cc
top_form g object (mutex o) (owned.Int i) f h = let e = f.1 in absurd cc
top_form g object (mutex o) (owned.Box p) f h = let e = f.1 in absurd cc
top_form g object (mutex o) (owned.Mutex m) f h = let e = f.1 in same_if (g.mutex m) o (same_tree (g.mutex m) o cc)
top_form g object (mutex o) (owned.Task t) f h = let e = f.1 in absurd cc
top_form g object (task o) owned.Nothing f h = let e = f.1 in absurd cc
top_form g object (task o) owned.Unit f h = let e = f.1 in absurd cc
top_form g object (task o) (owned.Int i) f h = let e = f.1 in absurd cc
top_form g object (task o) (owned.Box p) f h = let e = f.1 in absurd cc
top_form g object (task o) (owned.Mutex m) f h = let e = f.1 in absurd cc
top_form g object (task o) (owned.Task t) f h = let e = f.1 in same_if (g.result t) o (same_tree (g.result t) o cc)

no_gone : (o : OwnedType) → TopFits (tree_of o) gone_v → ⊥
no_gone unit f = cc
no_gone int f = let e = f.1 in cc
no_gone (box o) f = let e = f.1 in cc
no_gone (mutex o) f = let e = f.1 in cc
no_gone (task o) f = let e = f.1 in cc

no_ref_top : (o : OwnedType) (l : StoreLocation) → TopFits (tree_of o) (ref_v l) → ⊥
no_ref_top unit l f = cc
no_ref_top int l f = let e = f.1 in cc
no_ref_top (box o) l f = let e = f.1 in cc
no_ref_top (mutex o) l f = let e = f.1 in cc
no_ref_top (task o) l f = let e = f.1 in cc

-- FORMS

module _ (rank : Key → ℕ) (E : KeyTypes) (s : Store) (typed : Typed rank E s) (key : ℕ → Key) (g : Gives) (object : ObjNo → OwnedType) (t : ℕ) where
  -- what a value's boxes and views lead to has its type
  pub record Leads (p : Piece) (v : Value) : Type 0 where
    pub boxes : (b : _) (a : OwnedType) → v ≡ value.Own (owned.Box b) → owned_part p ≡ Some (box a) → object b.object ≡ a
    pub views : (r : _) (a : OwnedType) → v ≡ value.Shared r → p ≡ whole (view a) → object r.object ≡ a

  abbrev names : NameTypes
  names = names_of object g

  own_form : (h : Key) (mark : Val) (o : OwnedType) (v : Value) → TopFits (tree_of o) (s.at h) → s.at h ≡ seen_as g t mark v → ((m : MutexNo) → v ≡ value.Held m → mark ≡ gone_v) → Leads (whole (own o)) v → has_form names (whole (own o)) v ≡ true
  own_form h mark o value.Gone f e held l = absurd (no_gone o (subst (TopFits (tree_of o)) e f))
  own_form h mark o (value.Own v) f e held l = top_form g object o v (subst (TopFits (tree_of o)) e f) (λ p a q r. l.boxes p a (ap value.Own q) (ap Some r))
  own_form h mark o (value.SharedSlot i) f e held l = absurd (no_ref_top o _ (subst (TopFits (tree_of o)) e f))
  own_form h mark o (value.MutSlot i) f e held l = absurd (no_ref_top o _ (subst (TopFits (tree_of o)) e f))
  own_form h mark o (value.Shared r) f e held l = absurd (no_ref_top o _ (subst (TopFits (tree_of o)) e f))
  own_form h mark o (value.Mut r) f e held l = absurd (no_ref_top o _ (subst (TopFits (tree_of o)) e f))
  own_form h mark o (value.Held m) f e held l = absurd (no_gone o (subst (TopFits (tree_of o)) (e ∙ held m refl) f))

  no_box_ref : (o : ObjNo) (l : StoreLocation) → ref_v l ≡ box_v o → ⊥
  no_box_ref o l e = cc

  boxed_form : (h : Key) (mark : Val) (p : Piece) (o : ObjNo) (v : Value) → has_sort (boxed p) v ≡ true → s.at h ≡ box_v o → s.at h ≡ seen_as g t mark v → ((m : MutexNo) → v ≡ value.Held m → mark ≡ gone_v) → Leads (boxed p) v → has_form names (boxed p) v ≡ true
  boxed_form h mark p o value.Gone sort f e held l = let z : gone_v ≡ box_v o = sym e ∙ f in absurd cc
  boxed_form h mark p o (value.Own owned.Nothing) sort f e held l = let z : gone_v ≡ box_v o = sym e ∙ f in absurd cc
  boxed_form h mark p o (value.Own owned.Unit) sort f e held l = let z : unit_v ≡ box_v o = sym e ∙ f in absurd cc
  boxed_form h mark p o (value.Own (owned.Int i)) sort f e held l = let z : int_v i ≡ box_v o = sym e ∙ f in absurd cc
  boxed_form h mark p o (value.Own (owned.Box b)) sort f e held l = by (owned_part p) refl sort
    where
      by : (q : Option OwnedType) → owned_part p ≡ q → is_some q ≡ true → fits_some names (map_some box q) (owned.Box b) ≡ true
      by None y z = absurd cc
      by (Some a) y z = same_if (object b.object) a (l.boxes b a refl (ap (map_some box) y))
  boxed_form h mark p o (value.Own (owned.Mutex m)) sort f e held l = let z : mutex_v m (tree_of (g.mutex m)) ≡ box_v o = sym e ∙ f in absurd cc
  boxed_form h mark p o (value.Own (owned.Task u)) sort f e held l = let z : task_v u (tree_of (g.result u)) ≡ box_v o = sym e ∙ f in absurd cc
  boxed_form h mark p o (value.SharedSlot i) sort f e held l = absurd (no_box_ref o _ (sym e ∙ f))
  boxed_form h mark p o (value.MutSlot i) sort f e held l = absurd (no_box_ref o _ (sym e ∙ f))
  boxed_form h mark p o (value.Shared r) sort f e held l = absurd (no_box_ref o _ (sym e ∙ f))
  boxed_form h mark p o (value.Mut r) sort f e held l = absurd (no_box_ref o _ (sym e ∙ f))
  boxed_form h mark p o (value.Held m) sort f e held l = let z : gone_v ≡ box_v o = sym (held m refl) ∙ sym e ∙ f in absurd cc

  gone_ref : (l : StoreLocation) → gone_v ≡ ref_v l → ⊥
  gone_ref l e = cc

  gone_form : (q : Kind) (v : Value) → has_sort (gone q) v ≡ true → has_form names (gone q) v ≡ true
  gone_form q value.Gone e = refl
  gone_form q (value.Own v) e = absurd cc
  gone_form q (value.SharedSlot i) e = absurd cc
  gone_form q (value.MutSlot i) e = absurd cc
  gone_form q (value.Shared r) e = absurd cc
  gone_form q (value.Mut r) e = absurd cc
  gone_form q (value.Held m) e = absurd cc

  -- a reference
  ref_form : (h : Key) (mark : Val) (p : Piece) (v : Value) (l : StoreLocation) (m : Bool) (u : StorePlace) → RefOf key E p m u → has_sort p v ≡ true → s.at h ≡ ref_v l → s.at h ≡ seen_as g t mark v → ((m : MutexNo) → v ≡ value.Held m → mark ≡ gone_v) → Leads p v → has_form names p v ≡ true
  ref_form h mark p value.Gone l m u r sort f e held w = absurd (gone_ref l (sym e ∙ f))
  ref_form h mark p (value.Own v) l m u r sort f e held w = absurd (no_ref g v l (sym e ∙ f))
  ref_form h mark p (value.Held n) l m u r sort f e held w = absurd (gone_ref l (sym (held n refl) ∙ sym e ∙ f))
  ref_form h mark (whole (own o)) v l m u r sort f e held w = absurd r
  ref_form h mark (whole (shared us)) (value.SharedSlot i) l m u r sort f e held w = refl
  ref_form h mark (whole (shared us)) (value.MutSlot i) l m u r sort f e held w = absurd cc
  ref_form h mark (whole (shared us)) (value.Shared q) l m u r sort f e held w = refl
  ref_form h mark (whole (shared us)) (value.Mut q) l m u r sort f e held w = absurd cc
  ref_form h mark (whole (mutable us)) (value.SharedSlot i) l m u r sort f e held w = absurd cc
  ref_form h mark (whole (mutable us)) (value.MutSlot i) l m u r sort f e held w = refl
  ref_form h mark (whole (mutable us)) (value.Shared q) l m u r sort f e held w = absurd cc
  ref_form h mark (whole (mutable us)) (value.Mut q) l m u r sort f e held w = refl
  ref_form h mark (whole (view o)) (value.SharedSlot i) l m u r sort f e held w = absurd cc
  ref_form h mark (whole (view o)) (value.MutSlot i) l m u r sort f e held w = absurd cc
  ref_form h mark (whole (view o)) (value.Shared q) l m u r sort f e held w = same_if (object q.object) o (w.views q o refl refl)
  ref_form h mark (whole (view o)) (value.Mut q) l m u r sort f e held w = absurd cc
  ref_form h mark (gone q) v l m u r sort f e held w = absurd r
  ref_form h mark (boxed p) v l m u r sort f e held w = absurd r

  -- a value of a key with an exact type of the part has its form
  pub value_form : (h : Key) (mark : Val) (p : Piece) (v : Value) → ExactOf key E p (E h) → has_sort p v ≡ true → s.at h ≡ seen_as g t mark v → ((m : MutexNo) → v ≡ value.Held m → mark ≡ gone_v) → Leads p v → has_form names p v ≡ true
  value_form h mark p v ex sort e held l = by (E h) refl ex
    where
      tree : (p : Piece) (q : Tree) → E h ≡ owns q → TreeOf p q → has_sort p v ≡ true → Leads p v → has_form names p v ≡ true
      tree (whole (own o)) q is y sort l = own_form h mark o v (subst (λ z. TopFits z (s.at h)) y (top_fits rank E s typed h q is)) e held l
      tree (whole (shared us)) q is y sort l = absurd y
      tree (whole (mutable us)) q is y sort l = absurd y
      tree (whole (view o)) q is y sort l = absurd y
      tree (gone r) q is y sort l = gone_form r v sort
      tree (boxed r) q is y sort l = let top : TopFits (box_tree y.0) (s.at h) = subst (λ z. TopFits z (s.at h)) y.1 (top_fits rank E s typed h q is) in boxed_form h mark r top.0 v sort top.1 e held l

      by : (x : Exact) → E h ≡ x → ExactOf key E p x → has_form names p v ≡ true
      by (owns q) is y = tree p q is y sort l
      by (refers m u) is y = let f = ref_at rank E s typed h m u is in ref_form h mark p v f.target m u y sort f.is e held l

-- LISTS

pub within_env : (e : Env) (i : ℕ) (x : Slot) → env_at e i ≡ Some x → i < length e
within_env [] i x h = absurd cc
within_env (y ∷ e) i x h = by (within_env e i x) h
  where
    by : (env_at e i ≡ Some x → i < length e) → (if i == length e then Some y else env_at e i) ≡ Some x → i < suc (length e)
    by go = eq_cases (λ b. (if b then Some y else env_at e i) ≡ Some x → i < suc (length e)) i (length e) (λ q f. omega (arith, q)) (λ ne f. omega (arith, go f))

pub newest : {A : Type 0} (n : ℕ) (a b : A) → (if n == n then a else b) ≡ a
newest n a b = eq_cases (λ t. (if t then a else b) ≡ a) n n (λ e. refl) (λ ne. absurd (ne refl))

pub older : {A : Type 0} (i n : ℕ) (a b : A) → i < n → (if i == n then a else b) ≡ b
older i n a b l = eq_cases (λ t. (if t then a else b) ≡ b) i n (λ e. absurd (omega (arith, e, l))) (λ ne. refl)

pub slots_right : (n : NameTypes) (e : Env) (vs : List Value) → length vs ≡ length e
    → ((i : ℕ) (x : Slot) (v : Value) → env_at e i ≡ Some x → at_behind vs i ≡ Some v → slot_sort x (is_some x.name) v ≡ true → slot_form n x (is_some x.name) v ≡ true)
    → slots_unsorted e vs ≡ 0 → slots_wrong n e vs ≡ 0
slots_right n [] [] long go z = refl
slots_right n [] (v ∷ vs) long go z = absurd (omega (arith, long))
slots_right n (x ∷ e) [] long go z = absurd (omega (arith, long))
slots_right n (x ∷ e) (v ∷ vs) long go z =
    let same : length vs ≡ length e = omega (arith, long) in
    let sort = from_other (slot_sort x (is_some x.name) v) (omega (arith, z)) in
    let at_end : at_behind (v ∷ vs) (length e) ≡ Some v = ap (λ i. if length e == i then Some v else at_behind vs (length e)) same ∙ newest (length e) (Some v) (at_behind vs (length e)) in
    let first = to_other (slot_form n x (is_some x.name) v) (go (length e) x v (newest (length e) (Some x) (env_at e (length e))) at_end sort) in
    let later = slots_right n e vs same (λ i y w a b. go i y w (older i (length e) (Some x) (env_at e i) (within_env e i y a) ∙ a) (older i (length vs) (Some v) (at_behind vs i) (omega (arith, within_env e i y a, same)) ∙ b)) (omega (arith, z)) in
    omega (arith, first, later)

pub exact_at : (key : ℕ → Key) (E : KeyTypes) (e : Env) (i : ℕ) (x : Slot) → SlotsBelow key E e → env_at e i ≡ Some x → ExactOf key E x.part (E (key i))
exact_at key E [] i x b h = absurd cc
exact_at key E (y ∷ e) i x b h = by (exact_at key E e i x b.1) h
  where
    by : (env_at e i ≡ Some x → ExactOf key E x.part (E (key i))) → (if i == length e then Some y else env_at e i) ≡ Some x → ExactOf key E x.part (E (key i))
    by go = eq_cases (λ t. (if t then Some y else env_at e i) ≡ Some x → ExactOf key E x.part (E (key i))) i (length e)
        (λ q f. subst (λ (z : Slot). ExactOf key E z.part (E (key i))) (some_is f) (subst (λ j. ExactOf key E y.part (E (key j))) (sym q) b.0)) (λ ne f. go f)
