-- Each reference leads where it led, on the ground of a cluster that shows alike.
use Rattle.std.proofs.Common.{◌≡◌, ℕ, ◌+◌, ◌==◌, ◌<◌, ◌≤◌, Bool, true, false, not, ◌&&◌, List, [], ◌∷◌, length, reverse, map, Option, Some, None, refl, sym, ap, ap₂, ◌∙◌, arith}
use Rattle.std.specs.Prelude.{is_some}
use Rattle.std.specs.Bool.{⊤}
use Rattle.law_heap_still.specs.Below.fr_base.declared.name.MutexNo.{MutexNo}
use Rattle.law_heap_still.specs.Below.fr_base.declared.name.ObjNo.{ObjNo}
use Rattle.law_heap_still.specs.Below.fr_base.declared.place.Lval.{Lval}
use Rattle.law_heap_still.specs.Below.fr_store.Keys.{Key, slot_k, temp_k}
use Rattle.law_heap_still.specs.Below.fr_store.Typed.{Exact, owns, refers, KeyTypes}
use Rattle.law_heap_still.specs.Below.heap_partition.declared.value.Owned.TheVariants as owned
use Rattle.law_heap_still.specs.Below.thread_state.View.{ThreadState}
use Rattle.law_heap_still.specs.Below.thread_state.declared.value.Value.{Value}
use Rattle.law_heap_still.specs.Below.thread_state.declared.value.Value.TheVariants as value
use Rattle.law_heap_still.specs.Below.coherent_memory.Names.{tot, one, other, if_so, same_mutex}
use Rattle.law_heap_still.specs.Below.coherent_memory.Things.{Location}
use Rattle.law_heap_still.specs.Below.coherent_memory.Follow.{Standing, Ground, leads, locate, place_at, value_at}
use Rattle.law_heap_still.specs.Below.coherent_memory.Requests.{mutex_of}
use Rattle.law_heap_still.specs.Below.coherent_types.ClusterTypes.{same_place, is_held_at, leads_as, astray_from, astray, all_astray, astray_of}
use Rattle.law_heap_still.proofs.events.PlainValues.{shown_of}
use Rattle.law_types_still.proofs.threads.Bare.{bared, all_bared, bared_twice}
use Rattle.law_types_still.proofs.threads.Twins.{bare_standing, SeesFrames}

-- WORDS AREN'T SEEN

leads_bare : (g : Ground) (t : ℕ) (w : Lval) (v : Value) → leads_as g t w v ≡ leads_as g t w (bared v)
leads_bare g t w value.Gone = refl
leads_bare g t w (value.Own owned.Nothing) = refl
leads_bare g t w (value.Own owned.Unit) = refl
leads_bare g t w (value.Own (owned.Int i)) = refl
leads_bare g t w (value.Own (owned.Box p)) = refl
leads_bare g t w (value.Own (owned.Mutex m)) = refl
leads_bare g t w (value.Own (owned.Task u)) = refl
leads_bare g t w (value.SharedSlot i) = refl
leads_bare g t w (value.MutSlot i) = refl
leads_bare g t w (value.Shared r) = refl
leads_bare g t w (value.Mut r) = refl
leads_bare g t w (value.Held m) = refl

from_bare : (g : Ground) (t : ℕ) (k : Key) (n : ℕ) (v : Value) → astray_from g t k n v ≡ astray_from g t k n (bared v)
from_bare g t (slot_k u i) n v = ap (λ q. if_so (u == t) (other q)) (leads_bare g t (record { slot = i; depth = n }) v)
from_bare g t _ n v = refl

astray_bare : (g : Ground) (t : ℕ) (x : Exact) (v : Value) → astray g t x v ≡ astray g t x (bared v)
astray_bare g t (owns x) v = refl
astray_bare g t (refers m u) v = from_bare g t u.key u.depth v

all_bare : (exact : KeyTypes) (g : Ground) (t : ℕ) (key : ℕ → Key) (i : ℕ) (vs : List Value) → all_astray exact g t key i vs ≡ all_astray exact g t key i (all_bared vs)
all_bare exact g t key i [] = refl
all_bare exact g t key i (v ∷ vs) = ap₂ (λ a b. a + b) (astray_bare g t (exact (key i)) v) (all_bare exact g t key (i + 1) vs)

pub astray_sees : (exact : KeyTypes) (g : Ground) → SeesFrames (λ x. astray_of exact g x.thread)
astray_sees exact g x =
    let t = x.thread.number in
    ap₂ (λ a b. a + b) (all_bare exact g t (slot_k t) 0 x.thread.slots ∙ ap (all_astray exact g t (slot_k t) 0) (sym (bared_twice x.thread.slots)))
    (all_bare exact g t (temp_k t) 0 x.thread.temps ∙ ap (all_astray exact g t (temp_k t) 0) (sym (bared_twice x.thread.temps)))

-- ANOTHER GROUND

-- places of the thread lead alike, and the same mutex stands there
pub record LeadsAlike (g h : Ground) (t : ℕ) : Type 0 where
  pub place : (w : Lval) → place_at g t w ≡ place_at h t w
  pub mutex : (w : Lval) → mutex_of (value_at g t w) ≡ mutex_of (value_at h t w)

abbrev names_it : MutexNo → Option MutexNo → Bool
names_it m None = false
names_it m (Some n) = same_mutex n m

-- a mark is of the mutex that stands at its place
abbrev is_of : MutexNo → Option Value → Bool
is_of m (Some (value.Own (owned.Mutex n))) = same_mutex n m
is_of m v = false

of_named : (m : MutexNo) (o : Option Value) → is_of m o ≡ names_it m (mutex_of o)
of_named m None = refl
of_named m (Some value.Gone) = refl
of_named m (Some (value.Own owned.Nothing)) = refl
of_named m (Some (value.Own owned.Unit)) = refl
of_named m (Some (value.Own (owned.Int i))) = refl
of_named m (Some (value.Own (owned.Box p))) = refl
of_named m (Some (value.Own (owned.Mutex n))) = refl
of_named m (Some (value.Own (owned.Task u))) = refl
of_named m (Some (value.SharedSlot i)) = refl
of_named m (Some (value.MutSlot i)) = refl
of_named m (Some (value.Shared r)) = refl
of_named m (Some (value.Mut r)) = refl
of_named m (Some (value.Held n)) = refl

marks_by : (g : Ground) (t : ℕ) (w : Lval) (m : MutexNo) → leads_as g t w (value.Held m) ≡ is_of m (value_at g t w)
marks_by g t w m = refl

marks_alike : (g h : Ground) (t : ℕ) (w : Lval) (m : MutexNo) → LeadsAlike g h t → leads_as g t w (value.Held m) ≡ leads_as h t w (value.Held m)
marks_alike g h t w m a =
    marks_by g t w m ∙ of_named m (value_at g t w) ∙ ap (names_it m) (a.mutex w) ∙ sym (of_named m (value_at h t w)) ∙ sym (marks_by h t w m)

leads_same : (g h : Ground) (t : ℕ) (w : Lval) (v : Value) → LeadsAlike g h t → leads_as g t w v ≡ leads_as h t w v
leads_same g h t w (value.Held m) a = marks_alike g h t w m a
leads_same g h t w (value.Mut r) a = ap (λ l. same_place (leads t (Some (value.Mut r))) l && is_held_at w.slot w.depth r.holder) (a.place w)
leads_same g h t w value.Gone a = ap (same_place (leads t (Some value.Gone))) (a.place w)
leads_same g h t w (value.Own v) a = ap (same_place (leads t (Some (value.Own v)))) (a.place w)
leads_same g h t w (value.SharedSlot i) a = ap (same_place (leads t (Some (value.SharedSlot i)))) (a.place w)
leads_same g h t w (value.MutSlot i) a = ap (same_place (leads t (Some (value.MutSlot i)))) (a.place w)
leads_same g h t w (value.Shared r) a = ap (same_place (leads t (Some (value.Shared r)))) (a.place w)

astray_same : (g h : Ground) (t : ℕ) (x : Exact) (v : Value) → LeadsAlike g h t → astray g t x v ≡ astray h t x v
astray_same g h t (owns x) v a = refl
astray_same g h t (refers m u) v a = by u.key
  where
    by : (k : Key) → astray_from g t k u.depth v ≡ astray_from h t k u.depth v
    by (slot_k r i) = ap (λ q. if_so (r == t) (other q)) (leads_same g h t (record { slot = i; depth = u.depth }) v a)
    by _ = refl

all_same : (exact : KeyTypes) (g h : Ground) (t : ℕ) (key : ℕ → Key) (i : ℕ) (vs : List Value) → LeadsAlike g h t → all_astray exact g t key i vs ≡ all_astray exact h t key i vs
all_same exact g h t key i [] a = refl
all_same exact g h t key i (v ∷ vs) a = ap₂ (λ m n. m + n) (astray_same g h t (exact (key i)) v a) (all_same exact g h t key (i + 1) vs a)

pub astray_alike : (exact : KeyTypes) (g h : Ground) (y : ThreadState) → LeadsAlike g h y.number → astray_of exact g y ≡ astray_of exact h y
astray_alike exact g h y a = ap₂ (λ m n. m + n) (all_same exact g h y.number (slot_k y.number) 0 y.slots a) (all_same exact g h y.number (temp_k y.number) 0 y.temps a)

-- a thread without values has none astray
pub none_astray : (exact : KeyTypes) (g : Ground) (y : ThreadState) → length y.slots ≡ 0 → length y.temps ≡ 0 → astray_of exact g y ≡ 0
none_astray exact g y a b = ap₂ (λ m n. m + n) (by (slot_k y.number) y.slots a) (by (temp_k y.number) y.temps b)
  where
    by : (key : ℕ → Key) (vs : List Value) → length vs ≡ 0 → all_astray exact g y.number key 0 vs ≡ 0
    by key [] e = refl
    by key (v ∷ vs) e = absurd (cc e)
