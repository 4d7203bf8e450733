-- A change of a thread's slots and temporary values where objects and mutexes may come and go: what is counted is told sum by sum.
use Rattle.std.proofs.Common.{◌≡◌, ◌≢◌, ◌⊎◌, inl, inr, ⊎_elim, ◌∙◌, ℕ, ◌<◌, Bool, true, false, List, length, Option, Some, None, refl, sym, ap, subst}
use Rattle.fr_base.specs.declared.name.ObjNo.{ObjNo}
use Rattle.fr_base.specs.declared.name.MutexNo.{MutexNo}
use Rattle.fr_base.specs.declared.label.Plain.{Plain}
use Rattle.fr_typing.specs.Kinds.{Owned, Kind}
use Rattle.fr_typing.specs.Places.{Env}
use Rattle.fr_store.specs.Keys.{Key, slot_k, temp_k, content_k, result_k, hand_k}
use Rattle.fr_store.specs.Store.{Location, box_v, task_v, gone_v, ref_v, value_at, Place}
use Rattle.fr_store.specs.Typed.{Tree, refers, KeyTypes, Unnamed}
use Rattle.fr_store.specs.Thread.{ThreadTyped}
use Rattle.fr_store.proofs.Keys.{decide_number}
use Rattle.fr_plain.specs.declared.value.Value.TheVariants.{Held}
use Rattle.fr_plain.specs.State.{slot_at}
use Rattle.fr_plain.specs.MachineThreads.{Shared}
use Rattle.fr_plain.specs.PlainState.{Running, PlainState, place_in}
use Rattle.fr_sound.specs.Entries.{Entry, going}
use Rattle.fr_sound.specs.Seen.{OneTask}
use Rattle.fr_sound.specs.States.{Typing, slot_val, temp_val, result_val, content_val, RunningTyped, env_at, is_hidden, is_held, IsLock, thread_of_key, IsShare, MutexTyped}
use Rattle.fr_code.specs.CodeTypes.{wait}
use Rattle.law_plain_values.specs.acts.Positions.{Position, Knows, temps_of, PositionTypes}
use Rattle.law_plain_values.proofs.acts.Lower.{seen_as, seen_is}
use Rattle.law_plain_values.proofs.acts.OneThread.{store, typing_with, with_running, RunningCore, touched, Turn, runs_still, no_branches}
use Rattle.law_plain_values.proofs.acts.Turned.{touched_own, turn_typed}
use Rattle.law_plain_values.proofs.acts.Focus.{Tops, hand_at, Focus, unfocus, temp_is}
use Rattle.law_plain_values.proofs.acts.AtHand.{result_same}
use Rattle.law_plain_values.proofs.acts.Hand.{At}

-- of the threads only that one differs, which goes on
pub record Lone (a a2 : PlainState Position) (t : ℕ) (x2 : Running Position) : Type 0 where
  pub now : a2.thread t ≡ with_running (a.thread t) x2
  pub others : (u : ℕ) → u ≢ t → a2.thread u ≡ a.thread u
  pub pairs : (u : ℕ) → a2.pair u ≡ a.pair u

-- WHAT STANDS AT KEYS

module _ (y : Typing) (a a2 : PlainState Position) (t : ℕ) (x x2 : Running Position) (E2 : KeyTypes) (M2 : ℕ → ℕ → Location) (runs : place_in (a.thread t) ≡ Some x) (lone : Lone a a2 t x2) (marks : (u i : ℕ) → u ≢ t → M2 u i ≡ y.marks u i) where
  lone_runs : place_in (a2.thread t) ≡ Some x2
  lone_runs = ap place_in lone.now ∙ runs_still (a.thread t) x x2 runs

  pub slot_after : (i : ℕ) → (store (typing_with y E2 M2) a2).at (slot_k t i) ≡ seen_as y.gives t (ref_v (M2 t i)) (slot_at x2.slots i)
  slot_after i = ap (slot_val temps_of (typing_with y E2 M2) t i) lone_runs ∙ seen_is temps_of (typing_with y E2 M2) t i x2

  pub temp_after : (i : ℕ) → (store (typing_with y E2 M2) a2).at (temp_k t i) ≡ seen_as y.gives t gone_v (slot_at x2.place.temps i)
  temp_after i = ap (temp_val temps_of (typing_with y E2 M2) t i) lone_runs ∙ temp_is (typing_with y E2 M2) t i x2

  pub slot_before : (i : ℕ) → (store y a).at (slot_k t i) ≡ seen_as y.gives t (ref_v (y.marks t i)) (slot_at x.slots i)
  slot_before i = ap (slot_val temps_of y t i) runs ∙ seen_is temps_of y t i x

  pub temp_before : (i : ℕ) → (store y a).at (temp_k t i) ≡ seen_as y.gives t gone_v (slot_at x.place.temps i)
  temp_before i = ap (temp_val temps_of y t i) runs ∙ temp_is y t i x

  -- the same stands at each key of those where the thread's slots, its temporary values and contents are the same
  pub keys_same : (P : Key → Type 0)
      → ((i : ℕ) → P (slot_k t i) → seen_as y.gives t (ref_v (M2 t i)) (slot_at x2.slots i) ≡ seen_as y.gives t (ref_v (y.marks t i)) (slot_at x.slots i))
      → ((i : ℕ) → P (temp_k t i) → seen_as y.gives t gone_v (slot_at x2.place.temps i) ≡ seen_as y.gives t gone_v (slot_at x.place.temps i))
      → ((h c : ℕ) → P (content_k h c) → content_val y.gives (a2.mutex (record { home = h; count = c })) ≡ content_val y.gives (a.mutex (record { home = h; count = c })))
      → (k : Key) → P k → (store (typing_with y E2 M2) a2).at k ≡ (store y a).at k
  keys_same P slots temps contents (slot_k u i) p =
      ⊎_elim
      (λ (e : u ≡ t). ap (λ w. (store (typing_with y E2 M2) a2).at (slot_k w i)) e ∙ slot_after i ∙ slots i (subst (λ w. P (slot_k w i)) e p) ∙ sym (slot_before i) ∙ ap (λ w. (store y a).at (slot_k w i)) (sym e))
      (λ (q : u ≢ t). ap (λ z. slot_val temps_of (typing_with y E2 M2) u i (place_in z)) (lone.others u q) ∙ same_marks u i q (place_in (a.thread u)))
      (decide_number u t)
    where
      same_marks : (u i : ℕ) → u ≢ t → (w : Option (Running Position)) → slot_val temps_of (typing_with y E2 M2) u i w ≡ slot_val temps_of y u i w
      same_marks u i q None = refl
      same_marks u i q (Some w) = seen_is temps_of (typing_with y E2 M2) u i w ∙ ap (λ l. seen_as y.gives u (ref_v l) (slot_at w.slots i)) (marks u i q) ∙ sym (seen_is temps_of y u i w)
  keys_same P slots temps contents (temp_k u i) p =
      ⊎_elim
      (λ (e : u ≡ t). ap (λ w. (store (typing_with y E2 M2) a2).at (temp_k w i)) e ∙ temp_after i ∙ temps i (subst (λ w. P (temp_k w i)) e p) ∙ sym (temp_before i) ∙ ap (λ w. (store y a).at (temp_k w i)) (sym e))
      (λ (q : u ≢ t). ap (λ z. temp_val temps_of y u i (place_in z)) (lone.others u q))
      (decide_number u t)
  keys_same P slots temps contents (content_k h c) p = contents h c p
  keys_same P slots temps contents (result_k u) p =
      ⊎_elim
      (λ (e : u ≡ t). subst (λ w. result_val temps_of y w (a2.thread w) ≡ result_val temps_of y w (a.thread w)) (sym e) (ap (result_val temps_of y t) lone.now ∙ result_same y t (a.thread t) x x2 runs))
      (λ (q : u ≢ t). ap (result_val temps_of y u) (lone.others u q))
      (decide_number u t)
  keys_same P slots temps contents (hand_k u) p = refl

-- THE CHANGE

-- the thread after it, with what others see of it
pub record Base (y : Typing) (a a2 : PlainState Position) (t : ℕ) (x x2 : Running Position) (e e2 : Env) (us ts2 : List Kind) (o2 : Option Kind) (g : Owned) (E2 : KeyTypes) (M2 : ℕ → ℕ → Location) : Type 0 where
  pub lone : Lone a a2 t x2
  pub tops : Tops us o2 ts2
  pub idle : o2 ≡ None → wait us ≡ true
  pub entry : x2.place.entry ≡ going e2 ts2 g
  pub temps : length x2.place.temps ≡ length ts2
  pub slots : length x2.slots ≡ length e2
  pub over : (i : ℕ) → i < length e2 → (n : ℕ) → y.rank (slot_k t i) < y.rank (temp_k t n)
  pub thread : ThreadTyped (slot_k t) y.rank (hand_at t us) e2 E2 (store (typing_with y E2 M2) a2) o2
  pub same : (k : Key) → touched t k ≡ false → E2 k ≡ y.exact k
  pub waits : (i : ℕ) → i < length us → E2 (temp_k t i) ≡ y.exact (temp_k t i)
  -- a reference names what one of the same thread named, or a slot of the thread; and no content refers that didn't
  pub named : (k : Key) (m : Bool) (u : Place) → E2 k ≡ refers m u → ((i : ℕ) × (u.key ≡ slot_k t i)) ⊎ ((j : Key) × (thread_of_key k ≡ Some t → thread_of_key j ≡ Some t) × (y.exact j ≡ refers m u))
  pub still : (k : Key) (m : Bool) (u : Place) → thread_of_key k ≢ Some t → E2 k ≡ refers m u → y.exact k ≡ refers m u
  pub hidden : (i : ℕ) → is_hidden (env_at e2 i) ≡ is_held (slot_at x2.slots i)
  pub locks : (i : ℕ) (m : MutexNo) → slot_at x2.slots i ≡ Some (Held m) → IsLock (typing_with y E2 M2) (store (typing_with y E2 M2) a2) e2 t i m
  pub marks : (u i : ℕ) → u ≢ t → M2 u i ≡ y.marks u i
  pub held : (u i : ℕ) (m : MutexNo) (w : Running Position) → u ≢ t → place_in (a.thread u) ≡ Some w → slot_at w.slots i ≡ Some (Held m) → value_at (store (typing_with y E2 M2) a2) (y.marks u i) ≡ value_at (store y a) (y.marks u i)

-- what is counted
pub record Sums (y : Typing) (a a2 : PlainState Position) (E2 : KeyTypes) (M2 : ℕ → ℕ → Location) : Type 0 where
  pub there : (l : Location) (m : MutexNo) → IsShare (store (typing_with y E2 M2) a2) m l → (z : Shared) × (a2.mutex m ≡ Some z)
  pub mutexes : (m : MutexNo) (z : Shared) → a2.mutex m ≡ Some z → MutexTyped (typing_with y E2 M2) a2 (store (typing_with y E2 M2) a2) m z
  pub one_task : OneTask (store (typing_with y E2 M2) a2)
  pub task_from : (l : Location) (u : ℕ) (r : Tree) → value_at (store (typing_with y E2 M2) a2) l ≡ Some (task_v u r) → (k : Location) × (value_at (store y a) k ≡ Some (task_v u r))
  pub task_to : (l : Location) (u : ℕ) (r : Tree) → value_at (store y a) l ≡ Some (task_v u r) → (k : Location) × (q : Tree) × (value_at (store (typing_with y E2 M2) a2) k ≡ Some (task_v u q))
  pub objects_there : (l : Location) (o : ObjNo) → value_at (store (typing_with y E2 M2) a2) l ≡ Some (box_v o) → (v : Plain) × (a2.object o ≡ Some v)
  pub objects_owned : (o : ObjNo) (v : Plain) → a2.object o ≡ Some v → (l : Location) × (value_at (store (typing_with y E2 M2) a2) l ≡ Some (box_v o))
  pub objects_made : (o : ObjNo) (v : Plain) (w : Running Position) → a2.object o ≡ Some v → place_in (a2.thread o.thread) ≡ Some w → o.count < a2.made o.thread

-- A STATE AFTER SUCH A CHANGE IS TYPED
pub turned : {y : Typing} {a a2 : PlainState Position} {t : ℕ} {x x2 : Running Position} {e e2 : Env} {ts us ts2 : List Kind} {o o2 : Option Kind} {g : Owned} {E2 : KeyTypes} {M2 : ℕ → ℕ → Location}
    → At y a t x e ts g → Focus y a t e us o → Base y a a2 t x x2 e e2 us ts2 o2 g E2 M2 → Sums y a a2 E2 M2 → PositionTypes (typing_with y E2 M2) a2
turned {y = y} {a = a} {a2 = a2} {t = t} {x = x} {x2 = x2} {e = e} {e2 = e2} {ts = ts} {us = us} {ts2 = ts2} {o = o} {o2 = o2} {g = g} {E2 = E2} {M2 = M2} h fc c n = turn_typed h.state turn
  where
    mine : RunningTyped Knows temps_of y (store y a) t (a.pair t) x
    mine = h.state.threads t x h.runs

    entry_is : mine.entry ≡ going e ts g
    entry_is = sym mine.known ∙ h.entry

    alone : a.pair t ≡ None
    alone = no_branches (a.pair t) (sym (ap (λ (z : Entry). z.forked) entry_is) ∙ mine.forks)

    temps_free : (n : ℕ) → Unnamed E2 (temp_k t n)
    temps_free n j m u is f = by (c.named j m u is)
      where
        by : ((i : ℕ) × (u.key ≡ slot_k t i)) ⊎ ((i : Key) × (thread_of_key j ≡ Some t → thread_of_key i ≡ Some t) × (y.exact i ≡ refers m u)) → ⊥
        by (inl z) = let q : slot_k t z.0 ≡ temp_k t n = sym z.1 ∙ f in absurd cc
        by (inr z) = let w = h.state.near z.0 m u z.2 in let q : slot_k w.owner w.slot ≡ temp_k t n = sym w.is ∙ f in absurd cc

    core : RunningCore (typing_with y E2 M2) (store (typing_with y E2 M2) a2) t (a2.pair t) x2
    core =
        unfocus y a a2 t e e2 us ts2 o o2 g E2 M2 x2 fc c.tops c.idle c.thread c.waits temps_free c.over c.entry
        (ap (λ (z : Entry). z.gives) (sym entry_is) ∙ mine.gives) (c.lone.pairs t ∙ alone)
        c.slots c.temps c.hidden c.locks

    turn : Turn y a a2 t x x2 E2 M2
    turn = record {
      was = h.runs;
      free = alone;
      now = c.lone.now;
      others = c.lone.others;
      pairs = c.lone.pairs;
      typed = c.thread.typed;
      mine = core;
      same = c.same;
      of = λ k m u q is. touched_own y a t k m u h.state q (λ ne. c.still k m u ne is);
      names = λ k m u q is. by k m u q (c.named k m u is);
      marks = c.marks;
      held = c.held;
      there = n.there;
      mutexes = n.mutexes;
      one_task = n.one_task;
      task_from = n.task_from;
      task_to = n.task_to;
      objects_there = n.objects_there;
      objects_owned = n.objects_owned;
      objects_made = n.objects_made;
    }
      where
        by : (k : Key) (m : Bool) (u : Place) → thread_of_key k ≡ Some t → ((i : ℕ) × (u.key ≡ slot_k t i)) ⊎ ((j : Key) × (thread_of_key k ≡ Some t → thread_of_key j ≡ Some t) × (y.exact j ≡ refers m u)) → ((i : ℕ) × (u.key ≡ slot_k t i)) ⊎ ((j : Key) × (thread_of_key j ≡ Some t) × (y.exact j ≡ refers m u))
        by k m u q (inl z) = inl z
        by k m u q (inr z) = inr (z.0, z.1 q, z.2)
