-- A change of some threads, where what is counted is told sum by sum, leaves a typed state.
use Rattle.std.proofs.Common.{◌≡◌, ◌≢◌, ◌⊎◌, inl, inr, ◌∙◌, ℕ, ◌<◌, Bool, true, false, List, [], ◌∷◌, length, Option, Some, None, sym, ap}
use Rattle.std.specs.Prelude.{is_some}
use Rattle.fr_base.specs.declared.label.Plain.{Plain}
use Rattle.fr_base.specs.declared.name.ObjNo.{ObjNo}
use Rattle.fr_base.specs.declared.name.MutexNo.{MutexNo}
use Rattle.fr_typing.specs.Kinds.{Kind}
use Rattle.fr_typing.specs.Places.{Env}
use Rattle.fr_store.specs.Keys.{Key, slot_k, temp_k, content_k, result_k, hand_k}
use Rattle.fr_store.specs.Store.{Location, box_v, task_v, Store, value_at, Place}
use Rattle.fr_store.specs.Typed.{Tree, owns, refers, KeyTypes, Typed}
use Rattle.fr_store.specs.Below.{tree_of}
use Rattle.fr_store.proofs.OtherThreads.{other_row, sleep_row}
use Rattle.fr_plain.specs.declared.value.Value.{Value}
use Rattle.fr_plain.specs.declared.value.Value.TheVariants.{Held}
use Rattle.fr_plain.specs.State.{slot_at}
use Rattle.fr_plain.specs.MachineThreads.{ended, Shared}
use Rattle.fr_plain.specs.PlainState.{Running, PlainState, place_in}
use Rattle.fr_sound.specs.Seen.{OneTask}
use Rattle.fr_sound.specs.States.{Typing, RunningTyped, IsThread, hand_key, hand_kind, IsLock, WaitsFor, WaitsAbove, directly, through, IsNear, IsBranch, thread_of_key, IsShare, MutexTyped, IsOwed}
use Rattle.law_plain_values.specs.acts.Positions.{Position, Knows, temps_of, PositionTypes}
use Rattle.law_plain_values.proofs.acts.OneThread.{store, typing_with, RunningCore, with_lower, by_bool, has_pair, no_branches}

-- the keys that a change of these threads may touch: theirs, and those of contents and results
abbrev pub theirs : (ℕ → Bool) → Key → Bool
theirs T (slot_k u i) = T u
theirs T (temp_k u i) = T u
theirs T (content_k h c) = true
theirs T (result_k u) = true
theirs T (hand_k u) = T u

-- a key that isn't theirs and is a thread's is another thread's
pub theirs_other : (T : ℕ → Bool) (k : Key) (u : ℕ) → theirs T k ≡ false → thread_of_key k ≡ Some u → T u ≡ false
theirs_other T (slot_k v i) u h e = let f : v ≡ u = cc in sym (ap T f) ∙ h
theirs_other T (temp_k v i) u h e = let f : v ≡ u = cc in sym (ap T f) ∙ h
theirs_other T (content_k a c) u h e = cc
theirs_other T (result_k v) u h e = cc
theirs_other T (hand_k v) u h e = let f : v ≡ u = cc in sym (ap T f) ∙ h

-- after a change of the threads T, where threads, objects, mutexes and their contents may come and go
pub record Turns (y : Typing) (a a2 : PlainState Position) (T : ℕ → Bool) (E2 : KeyTypes) (M2 : ℕ → ℕ → Location) : Type 0 where
  pub typed : Typed y.rank E2 (store (typing_with y E2 M2) a2)
  pub mine : (u : ℕ) (x : Running Position) → T u ≡ true → place_in (a2.thread u) ≡ Some x → RunningCore (typing_with y E2 M2) (store (typing_with y E2 M2) a2) u (a2.pair u) x
  -- another thread that goes on goes on as it did
  pub others : (u : ℕ) (x : Running Position) → T u ≡ false → place_in (a2.thread u) ≡ Some x → place_in (a.thread u) ≡ Some x
  pub pairs : (u : ℕ) → T u ≡ false → a2.pair u ≡ a.pair u
  -- what is named
  pub same : (k : Key) → theirs T k ≡ false → E2 k ≡ y.exact k
  pub of : (k : Key) (m : Bool) (u : Place) → theirs T k ≡ true → E2 k ≡ refers m u → (t : ℕ) × (T t ≡ true) × (thread_of_key k ≡ Some t)
  pub near : (k : Key) (m : Bool) (u : Place) → E2 k ≡ refers m u → IsNear a2 k u
  pub named : (k : Key) (m : Bool) (u : Place) → theirs T k ≡ true → E2 k ≡ refers m u → ((t : ℕ) × (i : ℕ) × (T t ≡ true) × (u.key ≡ slot_k t i)) ⊎ ((j : Key) × (y.exact j ≡ refers m u))
  pub nobody : (k : Key) (m : Bool) (u : Place) → theirs T k ≡ false → y.exact k ≡ refers m u → theirs T u.key ≡ false
  -- marks of others lead where they led
  pub marks : (u i : ℕ) → T u ≡ false → M2 u i ≡ y.marks u i
  pub held : (u i : ℕ) (m : MutexNo) (w : Running Position) → T u ≡ false → place_in (a.thread u) ≡ Some w → slot_at w.slots i ≡ Some (Held m) → value_at (store (typing_with y E2 M2) a2) (y.marks u i) ≡ value_at (store y a) (y.marks u i)
  -- results and pairs
  pub results : (u : ℕ) (v : Value) → a2.thread u ≡ Some (ended v) → E2 (result_k u) ≡ owns (tree_of (y.gives.result u))
  pub branches : (p b c : ℕ) → a2.pair p ≡ Some (b, c) → (b ≢ c) × IsBranch y a2 p b × IsBranch y a2 p c
  pub parents : (p b c : ℕ) → a2.pair p ≡ Some (b, c) → (x : Running Position) × (place_in (a2.thread p) ≡ Some x)
  -- what is counted
  pub there : (l : Location) (m : MutexNo) → IsShare (store (typing_with y E2 M2) a2) m l → (z : Shared) × (a2.mutex m ≡ Some z)
  pub mutexes : (m : MutexNo) (z : Shared) → a2.mutex m ≡ Some z → MutexTyped (typing_with y E2 M2) a2 (store (typing_with y E2 M2) a2) m z
  pub one_task : OneTask (store (typing_with y E2 M2) a2)
  pub tasks_owed : (l : Location) (u : ℕ) (r : Tree) → value_at (store (typing_with y E2 M2) a2) l ≡ Some (task_v u r) → IsOwed a2 u
  pub owed_stand : (u : ℕ) → IsOwed a2 u → (l : Location) × (r : Tree) × (value_at (store (typing_with y E2 M2) a2) l ≡ Some (task_v u r))
  pub objects_there : (l : Location) (o : ObjNo) → value_at (store (typing_with y E2 M2) a2) l ≡ Some (box_v o) → (v : Plain) × (a2.object o ≡ Some v)
  pub objects_owned : (o : ObjNo) (v : Plain) → a2.object o ≡ Some v → (l : Location) × (value_at (store (typing_with y E2 M2) a2) l ≡ Some (box_v o))
  pub objects_made : (o : ObjNo) (v : Plain) (w : Running Position) → a2.object o ≡ Some v → place_in (a2.thread o.thread) ≡ Some w → o.count < a2.made o.thread

module _ {y : Typing} {a a2 : PlainState Position} {T : ℕ → Bool} {E2 : KeyTypes} {M2 : ℕ → ℕ → Location} (st : PositionTypes y a) (c : Turns y a a2 T E2 M2) where
  abbrev y2 : Typing
  y2 = typing_with y E2 M2

  abbrev s2 : Store
  s2 = store (typing_with y E2 M2) a2

  -- no other thread's key is named by a new reference, but where it waits
  fresh : (u : ℕ) → T u ≡ false → a2.pair u ≡ None → (j : Key) (m : Bool) (v : Place) → theirs T j ≡ true → E2 j ≡ refers m v → (i : ℕ) → v.key ≢ slot_k u i
  fresh u ne alone j m v h is i e = by n.near
    where
      n : IsNear a2 j v
      n = c.near j m v is

      mine : (t : ℕ) × (T t ≡ true) × (thread_of_key j ≡ Some t)
      mine = c.of j m v h is

      owner : n.owner ≡ u
      owner = let f : slot_k n.owner n.slot ≡ slot_k u i = sym n.is ∙ e in cc

      thread : n.thread ≡ mine.0
      thread = let f : Some n.thread ≡ Some mine.0 = sym n.of ∙ mine.2 in cc

      by : (n.owner ≡ n.thread) ⊎ WaitsAbove a2 n.owner n.thread → ⊥
      by (inl z) = let f : false ≡ true = sym ne ∙ ap T (sym owner ∙ z ∙ thread) ∙ mine.1 in cc
      by (inr z) = let p = has_pair a2 n.owner n.thread z in let f : Some p.0 ≡ None = sym p.1 ∙ ap a2.pair owner ∙ alone in cc

  not_hand : (u : ℕ) (ts : List Kind) (j : Key) (m : Bool) (v : Place) → E2 j ≡ refers m v → v.key ≢ hand_key u ts
  not_hand u [] j m v is e = let n = c.near j m v is in let f : slot_k n.owner n.slot ≡ temp_k u 0 = sym n.is ∙ e in absurd cc
  not_hand u (k ∷ ts) j m v is e = let n = c.near j m v is in let f : slot_k n.owner n.slot ≡ temp_k u (length ts) = sym n.is ∙ e in absurd cc

  hand_other : (u : ℕ) (ts : List Kind) → T u ≡ false → theirs T (hand_key u ts) ≡ false
  hand_other u [] ne = ne
  hand_other u (k ∷ ts) ne = ne

  thread_other : (u : ℕ) → T u ≡ false → (b : Bool) (ts : List Kind) (e : Env) (k : Option Kind) → b ≡ is_some (a2.pair u) → IsThread b (slot_k u) y.rank (hand_key u ts) e y.exact (store y a) k → IsThread b (slot_k u) y.rank (hand_key u ts) e E2 s2 k
  thread_other u ne true ts e k forks h = sleep_row (slot_k u) y.rank (hand_key u ts) e y.exact E2 k (theirs T) h c.same (λ i. ne) (hand_other u ts ne) (λ j m v z is. not_hand u ts j m v is) c.nobody
  thread_other u ne false ts e k forks h =
      other_row (slot_k u) y.rank (hand_key u ts) e y.exact E2 (store y a) s2 k (theirs T) h c.typed c.same (λ i. ne) (hand_other u ts ne)
      (λ j m v z is. (fresh u ne (no_branches (a2.pair u) forks) j m v z is, not_hand u ts j m v is)) c.nobody

  lock_other : (u i : ℕ) (m : MutexNo) (w : Running Position) (e : Env) → T u ≡ false → place_in (a.thread u) ≡ Some w → slot_at w.slots i ≡ Some (Held m) → IsLock y (store y a) e u i m → IsLock y2 s2 e u i m
  lock_other u i m w e ne runs h l = record {
    leads = ap (value_at s2) (c.marks u i ne) ∙ c.held u i m w ne runs h ∙ l.leads;
    unnamed = λ j q v is z. by_bool (theirs T j) (λ g. new j q v z (c.named j q v g is)) (λ g. l.unnamed j q v (sym (c.same j g) ∙ is) z);
    content = l.content;
  }
    where
      new : (j : Key) (q : Bool) (v : Place) → v.key ≡ slot_k u i → ((t : ℕ) × (n : ℕ) × (T t ≡ true) × (v.key ≡ slot_k t n)) ⊎ ((o : Key) × (y.exact o ≡ refers q v)) → ⊥
      new j q v z (inl r) = let f : slot_k u i ≡ slot_k r.0 r.1 = sym z ∙ r.3 in let same : u ≡ r.0 = cc in let g : false ≡ true = sym ne ∙ ap T same ∙ r.2 in cc
      new j q v z (inr r) = l.unnamed r.0 q v r.1 z

  core_other : (u : ℕ) (w : Running Position) → T u ≡ false → place_in (a.thread u) ≡ Some w → RunningTyped Knows temps_of y (store y a) u (a.pair u) w → RunningCore y2 s2 u (a2.pair u) w
  core_other u w ne runs r = record {
    entry = r.entry;
    known = r.known;
    gives = r.gives;
    keys = r.keys;
    thread = thread_other u ne r.entry.forked r.entry.temps r.entry.env (hand_kind r.entry.temps) forks r.thread;
    waiting = λ i l. c.same (temp_k u i) ne ∙ r.waiting i l;
    all_slots = r.all_slots;
    all_temps = r.all_temps;
    forks = forks;
    hidden = r.hidden;
    marked = λ i m e. lock_other u i m w r.entry.env ne runs e (r.marked i m e);
  }
    where
      forks : r.entry.forked ≡ is_some (a2.pair u)
      forks = r.forks ∙ ap is_some (sym (c.pairs u ne))

  branch_two : (p b : ℕ) → IsBranch y a2 p b → IsBranch y2 a2 p b
  branch_two p b h = record { kept = h.kept; gives = h.gives; only = h.only; below = h.below }

  pairs_two : (p b d : ℕ) → a2.pair p ≡ Some (b, d) → (b ≢ d) × IsBranch y2 a2 p b × IsBranch y2 a2 p d
  pairs_two p b d e = let h = c.branches p b d e in (h.0, branch_two p b h.1, branch_two p d h.2)

  core_two : (u : ℕ) (x : Running Position) → place_in (a2.thread u) ≡ Some x → RunningCore y2 s2 u (a2.pair u) x
  core_two u x e = by_bool (T u) (λ h. c.mine u x h e) (λ h. let runs = c.others u x h e in core_other u x h runs (st.threads u x runs))

  -- THE STATE
  pub turns_typed : PositionTypes (typing_with y E2 M2) a2
  turns_typed = record {
    typed = c.typed;
    threads = λ u x e. with_lower y2 a2 u x c.typed c.near pairs_two e (core_two u x e);
    results = c.results;
    near = c.near;
    pairs = pairs_two;
    parents = c.parents;
    there = c.there;
    mutexes = c.mutexes;
    one_task = c.one_task;
    tasks_owed = c.tasks_owed;
    owed_stand = c.owed_stand;
    objects_there = c.objects_there;
    objects_owned = c.objects_owned;
    objects_made = c.objects_made;
  }

-- WHO WAITS FOR WHOM, where pairs stay and others may come

module _ (a a2 : PlainState Position) (pairs : (u : ℕ) (b : ℕ × ℕ) → a.pair u ≡ Some b → a2.pair u ≡ Some b) where
  pub waits_more : (p t : ℕ) → WaitsFor a p t → WaitsFor a2 p t
  waits_more p t w = record { first = w.first; second = w.second; pair = pairs p (w.first, w.second) w.pair; one = w.one }

  above_more : (p t : ℕ) → WaitsAbove a p t → WaitsAbove a2 p t
  above_more p t (directly w) = directly (waits_more p t w)
  above_more p t (through {q = q} w r) = through (waits_more p q w) (above_more q t r)

  pub near_more : (k : Key) (u : Place) → IsNear a k u → IsNear a2 k u
  near_more k u n = record { thread = n.thread; of = n.of; owner = n.owner; slot = n.slot; is = n.is; near = by n.near }
    where
      by : (n.owner ≡ n.thread) ⊎ WaitsAbove a n.owner n.thread → (n.owner ≡ n.thread) ⊎ WaitsAbove a2 n.owner n.thread
      by (inl e) = inl e
      by (inr w) = inr (above_more n.owner n.thread w)

-- references of others lead to none of their keys, where none of them waits for a pair
pub nobody_by : (y : Typing) (a : PlainState Position) (T : ℕ → Bool) → PositionTypes y a → ((u : ℕ) → T u ≡ true → a.pair u ≡ None) → (k : Key) (m : Bool) (u : Place) → theirs T k ≡ false → y.exact k ≡ refers m u → theirs T u.key ≡ false
nobody_by y a T st alone k m u h is = ap (theirs T) n.is ∙ by_bool (T n.owner) (λ g. absurd (by g n.near)) (λ g. g)
  where
    n : IsNear a k u
    n = st.near k m u is

    by : T n.owner ≡ true → (n.owner ≡ n.thread) ⊎ WaitsAbove a n.owner n.thread → ⊥
    by g (inl z) = let f : true ≡ false = sym g ∙ ap T z ∙ theirs_other T k n.thread h n.of in cc
    by g (inr z) = let p = has_pair a n.owner n.thread z in let f : Some p.0 ≡ None = sym p.1 ∙ alone n.owner g in cc
