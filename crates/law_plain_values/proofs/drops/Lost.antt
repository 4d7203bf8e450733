-- A value that stood in a slot of one thread goes: the state that is left is typed, where each other counted value stands again.
use Rattle.std.proofs.Common.{◌≡◌, ◌≢◌, ◌⊎◌, inl, inr, ⊎_elim, ◌∙◌, ℕ, ◌<◌, Bool, false, Some, None, refl, sym, ap, subst}
use Rattle.std.specs.Prelude.{◌==◌}
use Rattle.fr_base.specs.declared.label.Plain.{Plain}
use Rattle.fr_base.specs.declared.name.ObjNo.{ObjNo}
use Rattle.fr_base.specs.declared.name.MutexNo.{MutexNo}
use Rattle.fr_store.specs.Keys.{Key, slot_k, content_k, result_k}
use Rattle.fr_store.specs.Store.{Location, Val, gone_v, unit_v, int_v, box_v, mutex_v, task_v, ref_v, at_key, Store, value_at, Place}
use Rattle.fr_store.specs.Typed.{Tree, owns, refers, KeyTypes, Typed}
use Rattle.fr_store.specs.Below.{tree_of}
use Rattle.fr_store.proofs.Keys.{decide_number}
use Rattle.fr_plain.specs.declared.value.Value.{Value}
use Rattle.fr_plain.specs.declared.value.Value.TheVariants.{Held}
use Rattle.fr_plain.specs.State.{slot_at}
use Rattle.fr_plain.specs.MachineThreads.{ended, Shared}
use Rattle.fr_plain.specs.PlainState.{Running, PlainState, place_in}
use Rattle.fr_sound.specs.Seen.{OneTask}
use Rattle.fr_sound.specs.States.{Typing, WaitsFor, IsKept, IsBranch, IsShare, IsMark, MutexTyped, IsOwed}
use Rattle.law_plain_values.specs.acts.Positions.{Position, PositionTypes}
use Rattle.law_plain_values.proofs.acts.OneThread.{store, typing_with, CarriedOf, RunningCore, same_by, other_by, waits_same, share_back, as_many}
use Rattle.law_plain_values.proofs.acts.Turns.{theirs, nobody_by, turns_typed}
use Rattle.law_plain_values.proofs.acts.Stays.{of_by, near_by, named_by}
use Rattle.law_plain_values.proofs.acts.Mutexes.{decide_mutex}

-- counted values that are of another object, mutex or thread than this one
abbrev pub Others : Val → Val → Type 0
Others w (box_v o) = w ≢ box_v o
Others w (mutex_v m c) = (d : Tree) → w ≢ mutex_v m d
Others w (task_v t r) = (q : Tree) → w ≢ task_v t q
Others w _ = ⊥

-- the value is the task of that thread, or it isn't; and so of a box and of a mutex
pub task_or : (w : Val) (t : ℕ) → ((r : Tree) × (w ≡ task_v t r)) ⊎ ((r : Tree) → w ≢ task_v t r)
task_or (task_v k r) t = ⊎_elim (λ (e : k ≡ t). inl (r, ap (λ z. task_v z r) e)) (λ (ne : k ≢ t). inr (λ q f. let g : k ≡ t = cc in ne g)) (decide_number k t)
task_or gone_v t = inr (λ q f. cc)
task_or unit_v t = inr (λ q f. cc)
task_or (int_v n) t = inr (λ q f. cc)
task_or (box_v o) t = inr (λ q f. cc)
task_or (mutex_v m c) t = inr (λ q f. cc)
task_or (ref_v l) t = inr (λ q f. cc)

pub mutex_or : (w : Val) (m : MutexNo) → ((d : Tree) × (w ≡ mutex_v m d)) ⊎ ((d : Tree) → w ≢ mutex_v m d)
mutex_or (mutex_v k d) m = ⊎_elim (λ (e : k ≡ m). inl (d, ap (λ z. mutex_v z d) e)) (λ (ne : k ≢ m). inr (λ q f. let g : k ≡ m = cc in ne g)) (decide_mutex k m)
mutex_or gone_v m = inr (λ q f. cc)
mutex_or unit_v m = inr (λ q f. cc)
mutex_or (int_v n) m = inr (λ q f. cc)
mutex_or (box_v o) m = inr (λ q f. cc)
mutex_or (task_v t r) m = inr (λ q f. cc)
mutex_or (ref_v l) m = inr (λ q f. cc)

module _ (y : Typing) (a a2 : PlainState Position) (u : ℕ) (w : Val) (E2 : KeyTypes) where
  -- the value stood in the thread's first slot, and what it names stands no more; its thread goes on, or is there no more
  pub record Lost : Type 0 where
    pub state : PositionTypes y a
    pub was : (store y a).at (slot_k u 0) ≡ w
    pub typed : Typed y.rank E2 (store (typing_with y E2 y.marks) a2)
    pub mine : (z : Running Position) → place_in (a2.thread u) ≡ Some z → RunningCore (typing_with y E2 y.marks) (store (typing_with y E2 y.marks) a2) u (a2.pair u) z
    pub others : (n : ℕ) → n ≢ u → place_in (a2.thread n) ≡ place_in (a.thread n)
    pub free : a.pair u ≡ None
    pub pairs : (n : ℕ) → a2.pair n ≡ a.pair n
    pub same : (k : Key) → theirs (λ n. n == u) k ≡ false → E2 k ≡ y.exact k
    pub refs : (k : Key) (m : Bool) (v : Place) → E2 k ≡ refers m v → y.exact k ≡ refers m v
    pub held : (n i : ℕ) (m : MutexNo) (z : Running Position) → place_in (a.thread n) ≡ Some z → slot_at z.slots i ≡ Some (Held m) → value_at (store (typing_with y E2 y.marks) a2) (y.marks n i) ≡ value_at (store y a) (y.marks n i)
    -- the thread has no mark
    pub unmarked : (z : Running Position) (i : ℕ) (m : MutexNo) → place_in (a.thread u) ≡ Some z → slot_at z.slots i ≡ Some (Held m) → ⊥
    pub still_unmarked : (z : Running Position) (i : ℕ) (m : MutexNo) → place_in (a2.thread u) ≡ Some z → slot_at z.slots i ≡ Some (Held m) → ⊥
    pub results : (n : ℕ) (v : Value) → a2.thread n ≡ Some (ended v) → E2 (result_k n) ≡ owns (tree_of (y.gives.result n))
    -- each other thread is kept as it was
    pub kept_to : (n : ℕ) → IsKept (a.thread n) → ((r : Tree) → w ≢ task_v n r) → IsKept (a2.thread n)
    pub kept_back : (n : ℕ) → IsKept (a2.thread n) → IsKept (a.thread n) × ((r : Tree) → w ≢ task_v n r)
    -- what is counted
    pub carried : CarriedOf (Others w) (store y a) (store (typing_with y E2 y.marks) a2)
    pub no_box : (o : ObjNo) → w ≡ box_v o → (l : Location) → value_at (store (typing_with y E2 y.marks) a2) l ≡ Some (box_v o) → ⊥
    pub no_task : (n : ℕ) (q r : Tree) → w ≡ task_v n q → (l : Location) → value_at (store (typing_with y E2 y.marks) a2) l ≡ Some (task_v n r) → ⊥
    pub given : (m : MutexNo) → a2.is_given m ≡ a.is_given m
    pub mutexes : (m : MutexNo) → ((d : Tree) → w ≢ mutex_v m d) → (a2.mutex m ≡ a.mutex m) × (E2 (content_k m.home m.count) ≡ y.exact (content_k m.home m.count))
    pub share_there : (m : MutexNo) (d : Tree) → w ≡ mutex_v m d → (l : Location) → IsShare (store (typing_with y E2 y.marks) a2) m l → (z : Shared) × (a2.mutex m ≡ Some z)
    pub share_typed : (m : MutexNo) (d : Tree) → w ≡ mutex_v m d → ((n i : ℕ) → IsMark a m n i → IsMark a2 m n i) → ((n i : ℕ) → IsMark a2 m n i → IsMark a m n i) → (z : Shared) → a2.mutex m ≡ Some z → MutexTyped (typing_with y E2 y.marks) a2 (store (typing_with y E2 y.marks) a2) m z
    pub objects : (o : ObjNo) → w ≢ box_v o → a2.object o ≡ a.object o
    pub object_gone : (o : ObjNo) → w ≡ box_v o → a2.object o ≡ None
    pub made : (o : ObjNo) (v : Plain) (z : Running Position) → a2.object o ≡ Some v → place_in (a2.thread o.thread) ≡ Some z → o.count < a2.made o.thread

module _ {y : Typing} {a a2 : PlainState Position} {u : ℕ} {w : Val} {E2 : KeyTypes} (c : Lost y a a2 u w E2) where
  abbrev T : ℕ → Bool
  T n = n == u

  abbrev s1 : Store
  s1 = store y a

  abbrev s2 : Store
  s2 = store (typing_with y E2 y.marks) a2

  -- MARKS

  mark_to : (m : MutexNo) (n i : ℕ) → IsMark a m n i → IsMark a2 m n i
  mark_to m n i h = ⊎_elim (λ (e : n ≡ u). absurd (c.unmarked h.thread i m (ap (λ z. place_in (a.thread z)) (sym e) ∙ h.goes_on) h.mark)) (λ (ne : n ≢ u). record { thread = h.thread; goes_on = c.others n ne ∙ h.goes_on; mark = h.mark }) (decide_number n u)

  mark_back : (m : MutexNo) (n i : ℕ) → IsMark a2 m n i → IsMark a m n i
  mark_back m n i h = ⊎_elim (λ (e : n ≡ u). absurd (c.still_unmarked h.thread i m (ap (λ z. place_in (a2.thread z)) (sym e) ∙ h.goes_on) h.mark)) (λ (ne : n ≢ u). record { thread = h.thread; goes_on = sym (c.others n ne) ∙ h.goes_on; mark = h.mark }) (decide_number n u)

  -- WHO IS KEPT

  -- whose task goes is no branch of a pair
  not_lost : (p n : ℕ) → WaitsFor a p n → (r : Tree) → w ≢ task_v n r
  not_lost p n waits r e = let f = c.state.tasks_owed (at_key (slot_k u 0)) n r (ap Some (c.was ∙ e)) in f.free p waits

  branch : (p n : ℕ) → WaitsFor a p n → IsBranch y a p n → IsBranch y a2 p n
  branch p n waits h = record { kept = c.kept_to n h.kept (not_lost p n waits); gives = h.gives; only = λ q z. h.only q (waits_same a2 a (λ k. sym (c.pairs k)) q n z); below = h.below }

  owed_to : (n : ℕ) → IsOwed a n → ((r : Tree) → w ≢ task_v n r) → IsOwed a2 n
  owed_to n h ne = record { free = λ p z. h.free p (waits_same a2 a (λ k. sym (c.pairs k)) p n z); kept = c.kept_to n h.kept ne }

  owed_back : (n : ℕ) → IsOwed a2 n → IsOwed a n × ((r : Tree) → w ≢ task_v n r)
  owed_back n h = let k = c.kept_back n h.kept in (record { free = λ p z. h.free p (waits_same a a2 c.pairs p n z); kept = k.0 }, k.1)

  branches : (p b d : ℕ) → a2.pair p ≡ Some (b, d) → (b ≢ d) × IsBranch y a2 p b × IsBranch y a2 p d
  branches p b d e =
      let f = sym (c.pairs p) ∙ e in
      let h = c.state.pairs p b d f in
      (h.0, branch p b (record { first = b; second = d; pair = f; one = inl refl }) h.1, branch p d (record { first = b; second = d; pair = f; one = inr refl }) h.2)

  parents : (p b d : ℕ) → a2.pair p ≡ Some (b, d) → (z : Running Position) × (place_in (a2.thread p) ≡ Some z)
  parents p b d e =
      let f = sym (c.pairs p) ∙ e in
      let h = c.state.parents p b d f in
      (h.0, c.others p (λ q. let two : ℕ × ℕ = (b, d) in let g : None ≡ Some two = sym c.free ∙ ap a.pair (sym q) ∙ f in cc) ∙ h.1)

  -- WHAT IS COUNTED

  task_typed : (l : Location) (n : ℕ) (r : Tree) → value_at s2 l ≡ Some (task_v n r) → ((q : Tree) → w ≢ task_v n q)
  task_typed l n r e q f = c.no_task n q r f l e

  one_task : OneTask s2
  one_task l m n p q e f =
      sym (c.carried.to_from l) ∙ ap c.carried.to (c.state.one_task (c.carried.from l) (c.carried.from m) n p q (c.carried.back l (task_v n p) (task_typed l n p e) e) (c.carried.back m (task_v n q) (task_typed m n q f) f)) ∙ c.carried.to_from m

  owed_stand : (n : ℕ) → IsOwed a2 n → (l : Location) × (r : Tree) × (value_at s2 l ≡ Some (task_v n r))
  owed_stand n h = let k = owed_back n h in let f = c.state.owed_stand n k.0 in (c.carried.to f.0, f.1, c.carried.there f.0 (task_v n f.1) k.1 f.2)

  there : (l : Location) (m : MutexNo) → IsShare s2 m l → (z : Shared) × (a2.mutex m ≡ Some z)
  there l m h = by (mutex_or w m)
    where
      by : ((d : Tree) × (w ≡ mutex_v m d)) ⊎ ((d : Tree) → w ≢ mutex_v m d) → (z : Shared) × (a2.mutex m ≡ Some z)
      by (inl e) = c.share_there m e.0 e.1 l h
      by (inr ne) = let f = c.state.there (c.carried.from l) m (share_back (Others w) s1 s2 c.carried m (λ q. ne) l h) in (f.0, (c.mutexes m ne).0 ∙ f.1)

  mutexes : (m : MutexNo) (z : Shared) → a2.mutex m ≡ Some z → MutexTyped (typing_with y E2 y.marks) a2 s2 m z
  mutexes m z e = by (mutex_or w m)
    where
      other : ((d : Tree) → w ≢ mutex_v m d) → MutexTyped (typing_with y E2 y.marks) a2 s2 m z
      other ne =
          let k = c.mutexes m ne in
          let h = c.state.mutexes m z (sym k.0 ∙ e) in
          record {
            given = c.given m ∙ h.given;
            shares = as_many (Others w) s1 s2 c.carried m (λ q. ne) z.shares h.shares;
            needed = h.needed;
            out = λ f. let d = h.out f in record { thread = d.thread; slot = d.slot; is = mark_to m d.thread d.slot d.is; only = λ n i q. d.only n i (mark_back m n i q) };
            unheld = λ v f n i q. h.unheld v f n i (mark_back m n i q);
            content = λ v f. k.1 ∙ h.content v f;
          }

      by : ((d : Tree) × (w ≡ mutex_v m d)) ⊎ ((d : Tree) → w ≢ mutex_v m d) → MutexTyped (typing_with y E2 y.marks) a2 s2 m z
      by (inl f) = c.share_typed m f.0 f.1 (mark_to m) (mark_back m) z e
      by (inr ne) = other ne

  objects_there : (l : Location) (o : ObjNo) → value_at s2 l ≡ Some (box_v o) → (v : Plain) × (a2.object o ≡ Some v)
  objects_there l o e = let ne : w ≢ box_v o = λ f. c.no_box o f l e in let f = c.state.objects_there (c.carried.from l) o (c.carried.back l (box_v o) ne e) in (f.0, c.objects o ne ∙ f.1)

  objects_owned : (o : ObjNo) (v : Plain) → a2.object o ≡ Some v → (l : Location) × (value_at s2 l ≡ Some (box_v o))
  objects_owned o v e =
      let ne : w ≢ box_v o = λ f. let g : None ≡ Some v = sym (c.object_gone o f) ∙ e in cc in
      let f = c.state.objects_owned o v (sym (c.objects o ne) ∙ e) in
      (c.carried.to f.0, c.carried.there f.0 (box_v o) ne f.1)

  -- THE STATE
  pub lost_typed : PositionTypes (typing_with y E2 y.marks) a2
  lost_typed = turns_typed c.state (record {
    typed = c.typed;
    mine = λ n z k e. let q = same_by n u k in subst (λ i. RunningCore (typing_with y E2 y.marks) s2 i (a2.pair i) z) (sym q) (c.mine z (ap (λ i. place_in (a2.thread i)) (sym q) ∙ e));
    others = λ n z k e. sym (c.others n (other_by n u k)) ∙ e;
    pairs = λ n k. c.pairs n;
    same = c.same;
    of = of_by y a a2 T E2 c.state c.refs;
    near = near_by y a a2 T E2 c.state c.refs (λ n b e. c.pairs n ∙ e);
    named = named_by y a a2 T E2 c.state c.refs;
    nobody = nobody_by y a T c.state (λ n k. ap a.pair (same_by n u k) ∙ c.free);
    marks = λ n i k. refl;
    held = λ n i m z k runs mark. c.held n i m z runs mark;
    results = c.results;
    branches = branches;
    parents = parents;
    there = there;
    mutexes = mutexes;
    one_task = one_task;
    tasks_owed = λ l n r e. let ne = task_typed l n r e in owed_to n (c.state.tasks_owed (c.carried.from l) n r (c.carried.back l (task_v n r) ne e)) ne;
    owed_stand = owed_stand;
    objects_there = objects_there;
    objects_owned = objects_owned;
    objects_made = c.made;
  })
