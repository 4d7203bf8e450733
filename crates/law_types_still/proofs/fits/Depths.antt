-- What stands so many boxes below a key that owns something has a type, which is partly there.
use Rattle.std.proofs.Common.{◌≡◌, ◌⊎◌, inl, inr, ℕ, zero, suc, true, Some, None, refl, sym, ap, subst, ◌∙◌}
use Rattle.law_heap_still.specs.Below.fr_base.declared.name.ObjNo.{ObjNo}
use Rattle.law_heap_still.specs.Below.heap_partition.Plain.{plain_of}
use Rattle.law_heap_still.specs.Below.heap_partition.declared.value.BoxPtr.{BoxPtr}
use Rattle.law_heap_still.specs.Below.heap_partition.declared.value.Owned.{Owned}
use Rattle.law_heap_still.specs.Below.heap_partition.declared.value.Owned.TheVariants as owned
use Rattle.law_heap_still.specs.Below.fr_typing.Kinds.{Owned as OwnedType, unit, int, box, mutex, task}
use Rattle.law_heap_still.specs.Below.fr_store.Keys.{Key}
use Rattle.law_heap_still.specs.Below.fr_store.Store.{Location, at_key, Val, gone_v, unit_v, box_v, Store, value_at, below_key}
use Rattle.law_heap_still.specs.Below.fr_store.Typed.{Tree, hole, unit_tree, int_tree, mutex_tree, task_tree, box_tree, owns, KeyTypes, Typed, TopFits, tree_under, some_owns, exact_under}
use Rattle.law_heap_still.specs.Below.fr_store.Below.{tree_of}
use Rattle.law_heap_still.proofs.Below.fr_store.Chains.{from_suc}
use Rattle.law_types_still.specs.Below.fr_sound.Seen.{Gives, owned_val}
use Rattle.law_types_still.proofs.Below.law_plain_values.acts.Envs.{same_tree}
use Rattle.law_types_still.specs.Below.coherent_types.Names.{names_of, fits, is_there}
use Rattle.law_types_still.proofs.Below.law_words_paths.paths.Sole.{some_is}
use Rattle.law_types_still.proofs.heap.Objects.{under_boxes}
use Rattle.law_types_still.proofs.heap.Forms.{same_if}

-- TREES OF A TYPE

-- a tree is that of a type, but for what has moved away
abbrev pub Partly : OwnedType → Tree → Type 0
Partly unit t = (t ≡ hole) ⊎ (t ≡ unit_tree)
Partly int t = (t ≡ hole) ⊎ (t ≡ int_tree)
Partly (box a) t = (t ≡ hole) ⊎ ((x : Tree) × (t ≡ box_tree x) × Partly a x)
Partly (mutex a) t = (t ≡ hole) ⊎ (t ≡ mutex_tree (tree_of a))
Partly (task a) t = (t ≡ hole) ⊎ (t ≡ task_tree (tree_of a))

pub hole_partly : (a : OwnedType) (t : Tree) → t ≡ hole → Partly a t
hole_partly unit t e = inl e
hole_partly int t e = inl e
hole_partly (box a) t e = inl e
hole_partly (mutex a) t e = inl e
hole_partly (task a) t e = inl e

pub whole_partly : (a : OwnedType) → Partly a (tree_of a)
whole_partly unit = inr refl
whole_partly int = inr refl
whole_partly (box a) = inr (tree_of a, refl, whole_partly a)
whole_partly (mutex a) = inr refl
whole_partly (task a) = inr refl

no_deeper : (n : ℕ) (t x u : Tree) → t ≡ u → tree_under (suc n) u ≡ None → tree_under (suc n) t ≡ Some x → ⊥
no_deeper n t x u e none f = let z : None ≡ Some x = sym none ∙ sym (ap (tree_under (suc n)) e) ∙ f in cc

-- so is what stands under its boxes
pub under_partly : (n : ℕ) (q : OwnedType) (t x : Tree) → Partly q t → tree_under n t ≡ Some x → (a : OwnedType) × (under_boxes n q ≡ Some a) × Partly a x
under_partly zero q t x p e = (q, refl, subst (Partly q) (some_is e) p)
under_partly (suc n) unit t x (inl h) e = absurd (no_deeper n t x hole h refl e)
under_partly (suc n) unit t x (inr h) e = absurd (no_deeper n t x unit_tree h refl e)
under_partly (suc n) int t x (inl h) e = absurd (no_deeper n t x hole h refl e)
under_partly (suc n) int t x (inr h) e = absurd (no_deeper n t x int_tree h refl e)
under_partly (suc n) (box q) t x (inl h) e = absurd (no_deeper n t x hole h refl e)
under_partly (suc n) (box q) t x (inr h) e = under_partly n q h.0 x h.2 (sym (ap (tree_under (suc n)) h.1) ∙ e)
under_partly (suc n) (mutex q) t x (inl h) e = absurd (no_deeper n t x hole h refl e)
under_partly (suc n) (mutex q) t x (inr h) e = absurd (no_deeper n t x (mutex_tree (tree_of q)) h refl e)
under_partly (suc n) (task q) t x (inl h) e = absurd (no_deeper n t x hole h refl e)
under_partly (suc n) (task q) t x (inr h) e = absurd (no_deeper n t x (task_tree (tree_of q)) h refl e)

tree_deeper : (n : ℕ) (q x : Tree) → tree_under n q ≡ Some (box_tree x) → tree_under (suc n) q ≡ Some x
tree_deeper zero (box_tree q) x h = let same : q ≡ x = cc in ap Some same
tree_deeper zero hole x h = absurd cc
tree_deeper zero unit_tree x h = absurd cc
tree_deeper zero int_tree x h = absurd cc
tree_deeper zero (mutex_tree q) x h = absurd cc
tree_deeper zero (task_tree q) x h = absurd cc
tree_deeper (suc n) (box_tree q) x h = tree_deeper n q x h
tree_deeper (suc n) hole x h = absurd cc
tree_deeper (suc n) unit_tree x h = absurd cc
tree_deeper (suc n) int_tree x h = absurd cc
tree_deeper (suc n) (mutex_tree q) x h = absurd cc
tree_deeper (suc n) (task_tree q) x h = absurd cc

pub type_deeper : (n : ℕ) (q b : OwnedType) → under_boxes n q ≡ Some (box b) → under_boxes (suc n) q ≡ Some b
type_deeper zero (box q) b h = let same : q ≡ b = cc in ap Some same
type_deeper zero unit b h = absurd cc
type_deeper zero int b h = absurd cc
type_deeper zero (mutex q) b h = absurd cc
type_deeper zero (task q) b h = absurd cc
type_deeper (suc n) (box q) b h = type_deeper n q b h
type_deeper (suc n) unit b h = absurd cc
type_deeper (suc n) int b h = absurd cc
type_deeper (suc n) (mutex q) b h = absurd cc
type_deeper (suc n) (task q) b h = absurd cc

-- a box stands where the tree is one of a box
box_top : (t : Tree) (o : ObjNo) → TopFits t (box_v o) → (x : Tree) × (t ≡ box_tree x)
box_top (box_tree x) o f = (x, refl)
box_top hole o f = absurd cc
box_top unit_tree o f = absurd cc
box_top int_tree o f = let e = f.1 in absurd cc
box_top (mutex_tree x) o f = let e = f.1 in absurd cc
box_top (task_tree x) o f = let e = f.1 in absurd cc

-- VALUES

module _ (g : Gives) (object : ObjNo → OwnedType) where
  gone_fits : (a : OwnedType) (v : Owned) → owned_val g (plain_of v) ≡ gone_v → fits (names_of object g) a v ≡ true
  gone_fits a owned.Nothing e = refl
  gone_fits a owned.Unit e = absurd cc
  gone_fits a (owned.Int i) e = absurd cc
  gone_fits a (owned.Box p) e = absurd cc
  gone_fits a (owned.Mutex m) e = absurd cc
  gone_fits a (owned.Task t) e = absurd cc

  unit_fits : (v : Owned) → owned_val g (plain_of v) ≡ unit_v → fits (names_of object g) unit v ≡ true
  unit_fits owned.Nothing e = refl
  unit_fits owned.Unit e = refl
  unit_fits (owned.Int i) e = absurd cc
  unit_fits (owned.Box p) e = absurd cc
  unit_fits (owned.Mutex m) e = absurd cc
  unit_fits (owned.Task t) e = absurd cc

  int_fits : (v : Owned) → TopFits int_tree (owned_val g (plain_of v)) → fits (names_of object g) int v ≡ true
  int_fits owned.Nothing f = refl
  int_fits owned.Unit f = let e = f.1 in absurd cc
  int_fits (owned.Int i) f = refl
  int_fits (owned.Box p) f = let e = f.1 in absurd cc
  int_fits (owned.Mutex m) f = let e = f.1 in absurd cc
  int_fits (owned.Task t) f = let e = f.1 in absurd cc

  box_fits : (a : OwnedType) (x : Tree) (v : Owned) → TopFits (box_tree x) (owned_val g (plain_of v)) → ((p : BoxPtr) → v ≡ owned.Box p → object p.object ≡ a) → fits (names_of object g) (box a) v ≡ true
  box_fits a x owned.Nothing f h = refl
  box_fits a x owned.Unit f h = let e = f.1 in absurd cc
  box_fits a x (owned.Int i) f h = let e = f.1 in absurd cc
  box_fits a x (owned.Box p) f h = same_if (object p.object) a (h p refl)
  box_fits a x (owned.Mutex m) f h = let e = f.1 in absurd cc
  box_fits a x (owned.Task t) f h = let e = f.1 in absurd cc

  mutex_fits : (a : OwnedType) (v : Owned) → TopFits (mutex_tree (tree_of a)) (owned_val g (plain_of v)) → fits (names_of object g) (mutex a) v ≡ true
  mutex_fits a owned.Nothing f = refl
  mutex_fits a owned.Unit f = let e = f.1 in absurd cc
  mutex_fits a (owned.Int i) f = let e = f.1 in absurd cc
  mutex_fits a (owned.Box p) f = let e = f.1 in absurd cc
  mutex_fits a (owned.Mutex m) f = let e = f.1 in same_if (g.mutex m) a (same_tree (g.mutex m) a cc)
  mutex_fits a (owned.Task t) f = let e = f.1 in absurd cc

  task_fits : (a : OwnedType) (v : Owned) → TopFits (task_tree (tree_of a)) (owned_val g (plain_of v)) → fits (names_of object g) (task a) v ≡ true
  task_fits a owned.Nothing f = refl
  task_fits a owned.Unit f = let e = f.1 in absurd cc
  task_fits a (owned.Int i) f = let e = f.1 in absurd cc
  task_fits a (owned.Box p) f = let e = f.1 in absurd cc
  task_fits a (owned.Mutex m) f = let e = f.1 in absurd cc
  task_fits a (owned.Task t) f = let e = f.1 in same_if (g.result t) a (same_tree (g.result t) a cc)

  -- a value that stands where the tree is partly one of a type is of that type, where a box's object has the type of what stands in it
  pub fit_value : (a : OwnedType) (t : Tree) (v : Owned) → Partly a t → TopFits t (owned_val g (plain_of v)) → ((p : BoxPtr) (b : OwnedType) → v ≡ owned.Box p → a ≡ box b → object p.object ≡ b) → fits (names_of object g) a v ≡ true
  fit_value unit t v (inl h) f w = gone_fits unit v (subst (λ z. TopFits z (owned_val g (plain_of v))) h f)
  fit_value unit t v (inr h) f w = unit_fits v (subst (λ z. TopFits z (owned_val g (plain_of v))) h f)
  fit_value int t v (inl h) f w = gone_fits int v (subst (λ z. TopFits z (owned_val g (plain_of v))) h f)
  fit_value int t v (inr h) f w = int_fits v (subst (λ z. TopFits z (owned_val g (plain_of v))) h f)
  fit_value (box a) t v (inl h) f w = gone_fits (box a) v (subst (λ z. TopFits z (owned_val g (plain_of v))) h f)
  fit_value (box a) t v (inr h) f w = box_fits a h.0 v (subst (λ z. TopFits z (owned_val g (plain_of v))) h.1 f) (λ p e. w p a e refl)
  fit_value (mutex a) t v (inl h) f w = gone_fits (mutex a) v (subst (λ z. TopFits z (owned_val g (plain_of v))) h f)
  fit_value (mutex a) t v (inr h) f w = mutex_fits a v (subst (λ z. TopFits z (owned_val g (plain_of v))) h f)
  fit_value (task a) t v (inl h) f w = gone_fits (task a) v (subst (λ z. TopFits z (owned_val g (plain_of v))) h f)
  fit_value (task a) t v (inr h) f w = task_fits a v (subst (λ z. TopFits z (owned_val g (plain_of v))) h f)

  -- and it is there, where nothing moved away
  pub whole_there : (a : OwnedType) (v : Owned) → TopFits (tree_of a) (owned_val g (plain_of v)) → is_there v ≡ true
  whole_there a owned.Nothing f = absurd (none a f)
    where
      none : (a : OwnedType) → TopFits (tree_of a) gone_v → ⊥
      none unit f = cc
      none int f = let e = f.1 in cc
      none (box o) f = let e = f.1 in cc
      none (mutex o) f = let e = f.1 in cc
      none (task o) f = let e = f.1 in cc
  whole_there a owned.Unit f = refl
  whole_there a (owned.Int i) f = refl
  whole_there a (owned.Box p) f = refl
  whole_there a (owned.Mutex m) f = refl
  whole_there a (owned.Task t) f = refl

-- SO MANY BOXES BELOW

-- what stands so many boxes below a key of that type and tree
pub record AtDepth (s : Store) (q : OwnedType) (t : Tree) (n : ℕ) (l : Location) : Type 0 where
  pub type : OwnedType
  pub under : under_boxes n q ≡ Some type
  pub tree : Tree
  pub is : tree_under n t ≡ Some tree
  pub partly : Partly type tree
  pub value : Val
  pub there : value_at s l ≡ Some value
  pub fits_it : TopFits tree value

module _ (rank : Key → ℕ) (E : KeyTypes) (s : Store) (typed : Typed rank E s) (h : Key) (q : OwnedType) (t : Tree) (exact : E h ≡ owns t) (partly : Partly q t) where
  so_deep : (n : ℕ) (l : Location) (x : Tree) → tree_under n t ≡ Some x → below_key s h n ≡ Some l → AtDepth s q t n l
  so_deep n l x e leads =
      let a = typed.stands h n (owns x) (ap (exact_under n) exact ∙ ap some_owns e) in
      let same : a.spot ≡ l = some_is (sym a.leads ∙ leads) in
      let u = under_partly n q t x partly e in
      record { type = u.0; under = u.1; tree = x; is = e; partly = u.2; value = a.value; there = ap (value_at s) (sym same) ∙ a.there; fits_it = a.fits }

  pub at_depth : (n : ℕ) (l : Location) → below_key s h n ≡ Some l → AtDepth s q t n l
  at_depth zero l leads = so_deep zero l t refl leads
  at_depth (suc n) l leads =
      let r = from_suc s (at_key h) l n leads in
      let a = at_depth n r.0 r.2 in
      let b = box_top a.tree r.1 (subst (TopFits a.tree) (some_is (sym a.there ∙ r.3)) a.fits_it) in
      so_deep (suc n) l b.0 (tree_deeper n t b.0 (a.is ∙ ap Some b.1)) leads
