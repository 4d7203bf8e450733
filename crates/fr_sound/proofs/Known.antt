-- Which values stand in a store after a change, and at how many places a task.
use Rattle.std.proofs.Common.{◌≡◌, ◌≢◌, ◌⊎◌, inl, inr, ℕ, zero, suc, Option, Some, None, refl, sym, ap, ◌∙◌, subst}
use Rattle.std.specs.Prelude.{if◌then◌else◌}
use Rattle.fr_plain.specs.Below.fr_base.declared.name.ObjNo.{ObjNo}
use Rattle.fr_store.specs.Keys.{Key}
use Rattle.fr_store.specs.Store.{Alike, Location, at_key, at_object, Val, gone_v, unit_v, int_v, box_v, mutex_v, task_v, ref_v, Store, value_at, put_value, or_gone, swap, unbox, make, drop_link, drop_value}
use Rattle.fr_store.specs.Typed.{Tree}
use Rattle.fr_store.specs.ListState.{without_object, drop_last, drop_rest}
use Rattle.fr_store.proofs.Keys.{key_cases, key_same, object_cases}
use Rattle.fr_store.proofs.Chains.{decide_location}
use Rattle.fr_store.proofs.Rows.{put_there, put_other}
use Rattle.fr_sound.specs.Seen.{OneTask, AreKnown, HasNone}

-- a value that is no task
abbrev pub NoTask : Val → Type 0
NoTask v = (t : ℕ) (r : Tree) → v ≡ task_v t r → ⊥

-- equal options have equal values
some_val : (a b : Val) → Some a ≡ Some b → a ≡ b
some_val a b e = cc

-- what stands there after a write stood there before, or was written there
put_cases : (s : Store) (l m : Location) (v w : Val) → value_at (put_value s l v) m ≡ Some w → ((m ≡ l) × (w ≡ v)) ⊎ ((m ≢ l) × (value_at s m ≡ Some w))
put_cases s l m v w e = by (decide_location m l)
  where
    by : (m ≡ l) ⊎ (m ≢ l) → ((m ≡ l) × (w ≡ v)) ⊎ ((m ≢ l) × (value_at s m ≡ Some w))
    by (inl same) = inl (same, some_val w v (sym e ∙ ap (value_at (put_value s l v)) same ∙ put_there s l v))
    by (inr ne) = inr (ne, sym (put_other s l v m ne) ∙ e)

-- where a value at m came from by a swap of h and l
abbrev Came : Key → Location → Location → Location → Type 0
Came h l m q = ((m ≡ at_key h) × (q ≡ l)) ⊎ (((m ≡ l) × (q ≡ at_key h)) ⊎ ((m ≡ q) × (m ≢ at_key h) × (m ≢ l)))

-- a task after a swap stood before it, at another place for another place
swap_task : (s : Store) (h : Key) (l m : Location) (t : ℕ) (r : Tree) → value_at (swap s h l) m ≡ Some (task_v t r) → (q : Location) × (value_at s q ≡ Some (task_v t r)) × Came h l m q
swap_task s h l m t r e = by (put_cases (put_value s l (s.at h)) (at_key h) m (or_gone (value_at s l)) (task_v t r) e)
  where
    there : (x : Option Val) → value_at s l ≡ x → task_v t r ≡ or_gone x → value_at s l ≡ Some (task_v t r)
    there (Some v) f g = f ∙ ap Some (sym g)
    there None f g = cc

    before : m ≢ at_key h → ((m ≡ l) × (task_v t r ≡ s.at h)) ⊎ ((m ≢ l) × (value_at s m ≡ Some (task_v t r))) → (q : Location) × (value_at s q ≡ Some (task_v t r)) × Came h l m q
    before ne (inl x) = (at_key h, ap Some (sym x.1), inr (inl (x.0, refl)))
    before ne (inr x) = (m, x.1, inr (inr (refl, ne, x.0)))

    by : ((m ≡ at_key h) × (task_v t r ≡ or_gone (value_at s l))) ⊎ ((m ≢ at_key h) × (value_at (put_value s l (s.at h)) m ≡ Some (task_v t r))) → (q : Location) × (value_at s q ≡ Some (task_v t r)) × Came h l m q
    by (inl x) = (l, there (value_at s l) refl x.1, inl (x.0, refl))
    by (inr x) = before x.0 (put_cases s l m (s.at h) (task_v t r) x.1)

-- after a swap nobody has a task that nobody had
pub none_swap : (t : ℕ) (s : Store) (h : Key) (l : Location) → HasNone t s → HasNone t (swap s h l)
none_swap t s h l n m r e = let x = swap_task s h l m t r e in n x.0 r x.1

-- after a swap a task stands at one place
pub swap_once : (s : Store) (h : Key) (l : Location) → OneTask s → OneTask (swap s h l)
swap_once s h l one m n t a b e f =
    let x = swap_task s h l m t a e in
    let y = swap_task s h l n t b f in
    by x.0 y.0 (one x.0 y.0 t a b x.1 y.1) x.2 y.2
  where
    by : (p q : Location) → p ≡ q → Came h l m p → Came h l n q → m ≡ n
    by p q g (inl x) (inl y) = x.0 ∙ sym y.0
    by p q g (inl x) (inr (inl y)) = x.0 ∙ sym y.1 ∙ sym g ∙ x.1 ∙ sym y.0
    by p q g (inl x) (inr (inr y)) = absurd (y.2 (y.0 ∙ sym g ∙ x.1))
    by p q g (inr (inl x)) (inl y) = x.0 ∙ sym y.1 ∙ sym g ∙ x.1 ∙ sym y.0
    by p q g (inr (inl x)) (inr (inl y)) = x.0 ∙ sym y.0
    by p q g (inr (inl x)) (inr (inr y)) = absurd (y.1 (y.0 ∙ sym g ∙ x.1))
    by p q g (inr (inr x)) (inl y) = absurd (x.2 (x.0 ∙ g ∙ y.1))
    by p q g (inr (inr x)) (inr (inl y)) = absurd (x.1 (x.0 ∙ g ∙ y.1))
    by p q g (inr (inr x)) (inr (inr y)) = x.0 ∙ g ∙ sym y.0

-- a write of another value
pub put_once : (s : Store) (l : Location) (v : Val) → NoTask v → OneTask s → OneTask (put_value s l v)
put_once s l v plain one m n t a b e f = by (put_cases s l m v (task_v t a) e) (put_cases s l n v (task_v t b) f)
  where
    by : ((m ≡ l) × (task_v t a ≡ v)) ⊎ ((m ≢ l) × (value_at s m ≡ Some (task_v t a))) → ((n ≡ l) × (task_v t b ≡ v)) ⊎ ((n ≢ l) × (value_at s n ≡ Some (task_v t b))) → m ≡ n
    by (inl x) y = absurd (plain t a (sym x.1))
    by (inr x) (inl y) = absurd (plain t b (sym y.1))
    by (inr x) (inr y) = one m n t a b x.1 y.1

-- what stands after a link of a drop
unbox_cases : (s : Store) (h : Key) (o : ObjNo) (m : Location) (w : Val) → value_at (unbox s h o) m ≡ Some w → ((m ≡ at_key h) × (w ≡ or_gone (s.heap o))) ⊎ ((m ≢ at_object o) × (value_at s m ≡ Some w))
unbox_cases s h o (at_key j) w =
    key_cases (λ x. Some (if x then or_gone (s.heap o) else s.at j) ≡ Some w → ((at_key j ≡ at_key h) × (w ≡ or_gone (s.heap o))) ⊎ ((at_key j ≢ at_object o) × (Some (s.at j) ≡ Some w))) j h
    (λ g e. inl (ap at_key g, some_val w (or_gone (s.heap o)) (sym e))) (λ ne e. inr (λ f. cc, e))
unbox_cases s h o (at_object p) w =
    object_cases (λ x. (if x then None else s.heap p) ≡ Some w → ((at_object p ≡ at_key h) × (w ≡ or_gone (s.heap o))) ⊎ ((at_object p ≢ at_object o) × (s.heap p ≡ Some w))) p o
    (λ g e. cc) (λ ne e. inr (λ f. ne cc, e))

-- after a link of a drop a task stands at one place
unbox_once : (s : Store) (h : Key) (o : ObjNo) → OneTask s → OneTask (unbox s h o)
unbox_once s h o one m n t a b e f = by (unbox_cases s h o m (task_v t a) e) (unbox_cases s h o n (task_v t b) f)
  where
    there : (r : Tree) (x : Option Val) → s.heap o ≡ x → task_v t r ≡ or_gone x → s.heap o ≡ Some (task_v t r)
    there r (Some v) f g = f ∙ ap Some (sym g)
    there r None f g = cc

    by : ((m ≡ at_key h) × (task_v t a ≡ or_gone (s.heap o))) ⊎ ((m ≢ at_object o) × (value_at s m ≡ Some (task_v t a))) → ((n ≡ at_key h) × (task_v t b ≡ or_gone (s.heap o))) ⊎ ((n ≢ at_object o) × (value_at s n ≡ Some (task_v t b))) → m ≡ n
    by (inl x) (inl y) = x.0 ∙ sym y.0
    by (inl x) (inr y) = absurd (y.0 (one n (at_object o) t b a y.1 (there a (s.heap o) refl x.1)))
    by (inr x) (inl y) = absurd (x.0 (one m (at_object o) t a b x.1 (there b (s.heap o) refl y.1)))
    by (inr x) (inr y) = one m n t a b x.1 y.1

-- what stands after an object is made
make_cases : (s : Store) (h : Key) (o : ObjNo) (m : Location) (w : Val) → value_at (make s h o) m ≡ Some w → (w ≡ box_v o) ⊎ (((m ≡ at_object o) × (s.at h ≡ w)) ⊎ ((m ≢ at_key h) × (value_at s m ≡ Some w)))
make_cases s h o (at_key j) w =
    key_cases (λ x. Some (if x then box_v o else s.at j) ≡ Some w → (w ≡ box_v o) ⊎ (((at_key j ≡ at_object o) × (s.at h ≡ w)) ⊎ ((at_key j ≢ at_key h) × (Some (s.at j) ≡ Some w)))) j h
    (λ g e. inl (some_val w (box_v o) (sym e))) (λ ne e. inr (inr (λ f. ne cc, e)))
make_cases s h o (at_object p) w =
    object_cases (λ x. (if x then Some (s.at h) else s.heap p) ≡ Some w → (w ≡ box_v o) ⊎ (((at_object p ≡ at_object o) × (s.at h ≡ w)) ⊎ ((at_object p ≢ at_key h) × (s.heap p ≡ Some w)))) p o
    (λ g e. inr (inl (ap at_object g, some_val (s.at h) w e))) (λ ne e. inr (inr (λ f. cc, e)))

-- after an object is made a task stands at one place
make_once : (s : Store) (h : Key) (o : ObjNo) → OneTask s → OneTask (make s h o)
make_once s h o one m n t a b e f = by (make_cases s h o m (task_v t a) e) (make_cases s h o n (task_v t b) f)
  where
    by : (task_v t a ≡ box_v o) ⊎ (((m ≡ at_object o) × (s.at h ≡ task_v t a)) ⊎ ((m ≢ at_key h) × (value_at s m ≡ Some (task_v t a)))) → (task_v t b ≡ box_v o) ⊎ (((n ≡ at_object o) × (s.at h ≡ task_v t b)) ⊎ ((n ≢ at_key h) × (value_at s n ≡ Some (task_v t b)))) → m ≡ n
    by (inl x) y = cc
    by (inr x) (inl y) = cc
    by (inr (inl x)) (inr (inl y)) = x.0 ∙ sym y.0
    by (inr (inl x)) (inr (inr y)) = absurd (y.0 (one n (at_key h) t b a y.1 (ap Some x.1)))
    by (inr (inr x)) (inr (inl y)) = absurd (x.0 (one m (at_key h) t a b x.1 (ap Some y.1)))
    by (inr (inr x)) (inr (inr y)) = one m n t a b x.1 y.1

-- after a drop a task stands at one place
drop_once : (n : ℕ) (h : Key) (s : Store) → OneTask s → OneTask (drop_value n h s)
drop_once zero h s one = one
drop_once (suc n) h s one = by (s.at h) (λ o. drop_once n h (unbox s h o) (unbox_once s h o one))
  where
    by : (v : Val) → ((o : ObjNo) → OneTask (drop_value n h (unbox s h o))) → OneTask (drop_link (drop_value n h) s h v)
    by (box_v o) go = go o
    by gone_v go = put_once s (at_key h) gone_v (λ t r e. cc) one
    by unit_v go = put_once s (at_key h) gone_v (λ t r e. cc) one
    by (int_v z) go = put_once s (at_key h) gone_v (λ t r e. cc) one
    by (mutex_v z r) go = put_once s (at_key h) gone_v (λ t r e. cc) one
    by (task_v z r) go = put_once s (at_key h) gone_v (λ t r e. cc) one
    by (ref_v z) go = put_once s (at_key h) gone_v (λ t r e. cc) one

-- after a drop nobody has the task that it ends with
pub drop_frees : (n : ℕ) (h : Key) (s : Store) (t : ℕ) (r : Tree) → OneTask s → drop_last n (s.at h) s.heap ≡ task_v t r → drop_rest n (s.at h) s.heap ≡ gone_v → HasNone t (drop_value n h s)
drop_frees zero h s t r one ends none = let g : task_v t r ≡ gone_v = sym ends ∙ none in absurd cc
drop_frees (suc n) h s t r one ends none = by (s.at h) refl ends none (λ o. drop_frees n h (unbox s h o) t r (unbox_once s h o one))
  where
    put_frees : s.at h ≡ task_v t r → HasNone t (put_value s (at_key h) gone_v)
    put_frees e m a there = by_case (put_cases s (at_key h) m gone_v (task_v t a) there)
      where
        by_case : ((m ≡ at_key h) × (task_v t a ≡ gone_v)) ⊎ ((m ≢ at_key h) × (value_at s m ≡ Some (task_v t a))) → ⊥
        by_case (inl x) = let z = x.1 in cc
        by_case (inr x) = x.0 (one m (at_key h) t a r x.1 (ap Some e))

    moved : (o : ObjNo) → (unbox s h o).at h ≡ or_gone (s.heap o)
    moved o = key_same h (or_gone (s.heap o)) (s.at h)

    by : (v : Val) → s.at h ≡ v → drop_last (suc n) v s.heap ≡ task_v t r → drop_rest (suc n) v s.heap ≡ gone_v
        → ((o : ObjNo) → drop_last n ((unbox s h o).at h) (unbox s h o).heap ≡ task_v t r → drop_rest n ((unbox s h o).at h) (unbox s h o).heap ≡ gone_v → HasNone t (drop_value n h (unbox s h o))) → HasNone t (drop_link (drop_value n h) s h v)
    by (box_v o) e f g go =
        go o (ap (λ x. drop_last n x (without_object s.heap o)) (moved o) ∙ f) (ap (λ x. drop_rest n x (without_object s.heap o)) (moved o) ∙ g)
    by (task_v u q) e f g go = put_frees (e ∙ f)
    by gone_v e f g go = cc
    by unit_v e f g go = cc
    by (int_v z) e f g go = cc
    by (mutex_v z r) e f g go = cc
    by (ref_v z) e f g go = cc

module _ (P : Val → Type 0) (none : P gone_v) where
  -- the value of a location, or gone
  or_none : (s : Store) (l : Location) → AreKnown P s → P (or_gone (value_at s l))
  or_none s l k = by (value_at s l) refl
    where
      by : (x : Option Val) → value_at s l ≡ x → P (or_gone x)
      by None e = none
      by (Some v) e = k.each l v e

  -- a value is put
  each_put : (s : Store) (l : Location) (v : Val) → ((m : Location) (w : Val) → value_at s m ≡ Some w → P w) → P v → (m : Location) (w : Val) → value_at (put_value s l v) m ≡ Some w → P w
  each_put s l v each p m w e = by (put_cases s l m v w e)
    where
      by : ((m ≡ l) × (w ≡ v)) ⊎ ((m ≢ l) × (value_at s m ≡ Some w)) → P w
      by (inl x) = subst P (sym x.1) p
      by (inr x) = each m w x.1

  pub known_put : (s : Store) (l : Location) (v : Val) → AreKnown P s → P v → NoTask v → AreKnown P (put_value s l v)
  known_put s l v k p plain = record { each = each_put s l v k.each p; once = put_once s l v plain k.once }

  -- two values change places
  pub known_swap : (s : Store) (h : Key) (l : Location) → AreKnown P s → AreKnown P (swap s h l)
  known_swap s h l k = record {
    each = each_put (put_value s l (s.at h)) (at_key h) (or_gone (value_at s l)) (each_put s l (s.at h) k.each (k.each (at_key h) (s.at h) refl)) (or_none s l k);
    once = swap_once s h l k.once;
  }

  -- an object is made
  pub known_make : (s : Store) (h : Key) (o : ObjNo) → AreKnown P s → P (box_v o) → AreKnown P (make s h o)
  known_make s h o k p = record { each = λ m w e. by m w (make_cases s h o m w e); once = make_once s h o k.once }
    where
      by : (m : Location) (w : Val) → (w ≡ box_v o) ⊎ (((m ≡ at_object o) × (s.at h ≡ w)) ⊎ ((m ≢ at_key h) × (value_at s m ≡ Some w))) → P w
      by m w (inl x) = subst P (sym x) p
      by m w (inr (inl x)) = subst P x.1 (k.each (at_key h) (s.at h) refl)
      by m w (inr (inr x)) = k.each m w x.1

  -- a value is dropped
  pub known_drop : (n : ℕ) (h : Key) (s : Store) → AreKnown P s → AreKnown P (drop_value n h s)
  known_drop n h s k = record { each = each_drop n s k.each; once = drop_once n h s k.once }
    where
      each_drop : (n : ℕ) (s : Store) → ((m : Location) (w : Val) → value_at s m ≡ Some w → P w) → (m : Location) (w : Val) → value_at (drop_value n h s) m ≡ Some w → P w
      each_drop zero s each = each
      each_drop (suc n) s each = by (s.at h) (λ o. each_drop n (unbox s h o) (λ m w e. opened o m w (unbox_cases s h o m w e)))
        where
          opened : (o : ObjNo) (m : Location) (w : Val) → ((m ≡ at_key h) × (w ≡ or_gone (s.heap o))) ⊎ ((m ≢ at_object o) × (value_at s m ≡ Some w)) → P w
          opened o m w (inl x) = subst P (sym x.1) (inside (s.heap o) refl)
            where
              inside : (x : Option Val) → s.heap o ≡ x → P (or_gone x)
              inside None e = none
              inside (Some v) e = each (at_object o) v e
          opened o m w (inr x) = each m w x.1

          by : (v : Val) → ((o : ObjNo) (m : Location) (w : Val) → value_at (drop_value n h (unbox s h o)) m ≡ Some w → P w) → (m : Location) (w : Val) → value_at (drop_link (drop_value n h) s h v) m ≡ Some w → P w
          by (box_v o) go = go o
          by gone_v go = each_put s (at_key h) gone_v each none
          by unit_v go = each_put s (at_key h) gone_v each none
          by (int_v z) go = each_put s (at_key h) gone_v each none
          by (mutex_v z r) go = each_put s (at_key h) gone_v each none
          by (task_v z r) go = each_put s (at_key h) gone_v each none
          by (ref_v z) go = each_put s (at_key h) gone_v each none

  -- only what stands at each location counts
  pub known_alike : (s s2 : Store) → AreKnown P s → Alike s s2 → AreKnown P s2
  known_alike s s2 k f = record { each = λ m w e. k.each m w (sym (f m) ∙ e); once = λ m n t a b e g. k.once m n t a b (sym (f m) ∙ e) (sym (f n) ∙ g) }

-- after a drop nobody has a task that nobody had
pub none_drop : (t n : ℕ) (h : Key) (s : Store) → OneTask s → HasNone t s → HasNone t (drop_value n h s)
none_drop t n h s one none l r e = (known_drop (IsNot t) (λ q f. cc) n h s (record { each = λ m w f. apart m w f; once = one })).each l (task_v t r) e r refl
  where
    IsNot : ℕ → Val → Type 0
    IsNot t v = (r : Tree) → v ≡ task_v t r → ⊥

    apart : (m : Location) (w : Val) → value_at s m ≡ Some w → IsNot t w
    apart m w f r g = none m r (f ∙ ap Some g)

-- a task that nobody had is put
pub new_once : (s : Store) (l : Location) (t : ℕ) (r : Tree) → HasNone t s → OneTask s → OneTask (put_value s l (task_v t r))
new_once s l t r none one m n u a b e f = by (put_cases s l m (task_v t r) (task_v u a) e) (put_cases s l n (task_v t r) (task_v u b) f)
  where
    same_number : {p q : ℕ} {c d : Tree} → task_v p c ≡ task_v q d → p ≡ q
    same_number h = cc

    by : ((m ≡ l) × (task_v u a ≡ task_v t r)) ⊎ ((m ≢ l) × (value_at s m ≡ Some (task_v u a))) → ((n ≡ l) × (task_v u b ≡ task_v t r)) ⊎ ((n ≢ l) × (value_at s n ≡ Some (task_v u b))) → m ≡ n
    by (inl x) (inl y) = x.0 ∙ sym y.0
    by (inl x) (inr y) = absurd (none n b (y.1 ∙ ap (λ z. Some (task_v z b)) (same_number x.1)))
    by (inr x) (inl y) = absurd (none m a (x.1 ∙ ap (λ z. Some (task_v z a)) (same_number y.1)))
    by (inr x) (inr y) = one m n u a b x.1 y.1

-- and it is known
pub known_new : (P : Val → Type 0) (s : Store) (l : Location) (t : ℕ) (r : Tree) → HasNone t s → P (task_v t r) → AreKnown P s → AreKnown P (put_value s l (task_v t r))
known_new P s l t r none p k = record { each = λ m w e. by m w (put_cases s l m (task_v t r) w e); once = new_once s l t r none k.once }
  where
    by : (m : Location) (w : Val) → ((m ≡ l) × (w ≡ task_v t r)) ⊎ ((m ≢ l) × (value_at s m ≡ Some w)) → P w
    by m w (inl x) = subst P (sym x.1) p
    by m w (inr x) = k.each m w x.1

-- a write of another value gives nobody a task
pub none_put : (t : ℕ) (s : Store) (l : Location) (v : Val) → NoTask v → HasNone t s → HasNone t (put_value s l v)
none_put t s l v plain none m r e = by (put_cases s l m v (task_v t r) e)
  where
    by : ((m ≡ l) × (task_v t r ≡ v)) ⊎ ((m ≢ l) × (value_at s m ≡ Some (task_v t r))) → ⊥
    by (inl x) = plain t r (sym x.1)
    by (inr x) = none m r x.1

-- a task that is written over is nobody's
pub put_frees : (t : ℕ) (r : Tree) (s : Store) (l : Location) (v : Val) → NoTask v → OneTask s → value_at s l ≡ Some (task_v t r) → HasNone t (put_value s l v)
put_frees t r s l v plain one there m a e = by (put_cases s l m v (task_v t a) e)
  where
    by : ((m ≡ l) × (task_v t a ≡ v)) ⊎ ((m ≢ l) × (value_at s m ≡ Some (task_v t a))) → ⊥
    by (inl x) = plain t a (sym x.1)
    by (inr x) = x.0 (one m l t a r x.1 there)

-- more may be known
pub known_more : (P Q : Val → Type 0) (s : Store) → ((v : Val) → P v → Q v) → AreKnown P s → AreKnown Q s
known_more P Q s f k = record { each = λ m w e. f w (k.each m w e); once = k.once }

-- nobody has the task either where the same stands
pub none_alike : (t : ℕ) (s s2 : Store) → HasNone t s → Alike s s2 → HasNone t s2
none_alike t s s2 n f l r e = n l r (sym (f l) ∙ e)
