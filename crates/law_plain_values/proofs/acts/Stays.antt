-- What is counted, where each mutex, each object and each mark is as it was.
use Rattle.std.proofs.Common.{◌≡◌, ◌⊎◌, inr, ◌∙◌, ℕ, ◌<◌, Bool, true, Some, sym, ap}
use Rattle.fr_base.specs.declared.label.Plain.{Plain}
use Rattle.fr_base.specs.declared.name.ObjNo.{ObjNo}
use Rattle.fr_base.specs.declared.name.MutexNo.{MutexNo}
use Rattle.fr_store.specs.Keys.{Key, slot_k, temp_k, content_k, result_k, hand_k}
use Rattle.fr_store.specs.Store.{Location, Val, box_v, mutex_v, Store, value_at, Place}
use Rattle.fr_store.specs.Typed.{Tree, refers, KeyTypes}
use Rattle.fr_plain.specs.MachineThreads.{Shared}
use Rattle.fr_plain.specs.PlainState.{Running, PlainState, place_in}
use Rattle.fr_sound.specs.States.{Typing, IsNear, thread_of_key, IsShare, IsMark, MutexTyped}
use Rattle.law_plain_values.specs.acts.Positions.{Position, PositionTypes}
use Rattle.law_plain_values.proofs.acts.OneThread.{store, typing_with, CarriedOf, share_back, as_many}
use Rattle.law_plain_values.proofs.acts.Turns.{theirs, near_more}

-- mutexes, objects and marks are as before
pub record Stays (a a2 : PlainState Position) : Type 0 where
  pub mutexes : (m : MutexNo) → a2.mutex m ≡ a.mutex m
  pub given : (m : MutexNo) → a2.is_given m ≡ a.is_given m
  pub objects : (o : ObjNo) → a2.object o ≡ a.object o
  pub marks_to : (m : MutexNo) (u i : ℕ) → IsMark a m u i → IsMark a2 m u i
  pub marks_back : (m : MutexNo) (u i : ℕ) → IsMark a2 m u i → IsMark a m u i
  pub made : (o : ObjNo) (v : Plain) (w : Running Position) → a2.object o ≡ Some v → place_in (a2.thread o.thread) ≡ Some w → o.count < a2.made o.thread

module _ (y : Typing) (a a2 : PlainState Position) (E2 : KeyTypes) (Is : Val → Type 0) (st : PositionTypes y a) (s : Stays a a2) (carried : CarriedOf Is (store y a) (store (typing_with y E2 y.marks) a2)) where
  abbrev s2 : Store
  s2 = store (typing_with y E2 y.marks) a2

  -- each mutex of which a value stands is there
  pub there_by : ((m : MutexNo) (q : Tree) → Is (mutex_v m q)) → (l : Location) (m : MutexNo) → IsShare s2 m l → (z : Shared) × (a2.mutex m ≡ Some z)
  there_by shares l m h = let f = st.there (carried.from l) m (share_back Is (store y a) s2 carried m (shares m) l h) in (f.0, s.mutexes m ∙ f.1)

  pub mutexes_by : ((m : MutexNo) (q : Tree) → Is (mutex_v m q)) → ((m : MutexNo) → E2 (content_k m.home m.count) ≡ y.exact (content_k m.home m.count)) → (m : MutexNo) (z : Shared) → a2.mutex m ≡ Some z → MutexTyped (typing_with y E2 y.marks) a2 s2 m z
  mutexes_by shares contents m z e =
      let h = st.mutexes m z (sym (s.mutexes m) ∙ e) in
      record {
        given = s.given m ∙ h.given;
        shares = as_many Is (store y a) s2 carried m (shares m) z.shares h.shares;
        needed = h.needed;
        out = λ f. let d = h.out f in record { thread = d.thread; slot = d.slot; is = s.marks_to m d.thread d.slot d.is; only = λ u i w. d.only u i (s.marks_back m u i w) };
        unheld = λ v f u i w. h.unheld v f u i (s.marks_back m u i w);
        content = λ v f. contents m ∙ h.content v f;
      }

  -- and objects have their owners
  pub objects_by : ((o : ObjNo) → Is (box_v o)) → (l : Location) (o : ObjNo) → value_at s2 l ≡ Some (box_v o) → (v : Plain) × (a2.object o ≡ Some v)
  objects_by boxes l o e = let f = st.objects_there (carried.from l) o (carried.back l (box_v o) (boxes o) e) in (f.0, s.objects o ∙ f.1)

  pub owned_by : ((o : ObjNo) → Is (box_v o)) → (o : ObjNo) (v : Plain) → a2.object o ≡ Some v → (l : Location) × (value_at s2 l ≡ Some (box_v o))
  owned_by boxes o v e = let f = st.objects_owned o v (sym (s.objects o) ∙ e) in (carried.to f.0, carried.there f.0 (box_v o) (boxes o) f.1)

-- one of their keys that is a thread's is one of theirs
pub theirs_own : (T : ℕ → Bool) (k : Key) (u : ℕ) → theirs T k ≡ true → thread_of_key k ≡ Some u → T u ≡ true
theirs_own T (slot_k v i) u h e = let f : v ≡ u = cc in sym (ap T f) ∙ h
theirs_own T (temp_k v i) u h e = let f : v ≡ u = cc in sym (ap T f) ∙ h
theirs_own T (content_k a c) u h e = cc
theirs_own T (result_k v) u h e = cc
theirs_own T (hand_k v) u h e = let f : v ≡ u = cc in sym (ap T f) ∙ h

-- where each reference stood before
module _ (y : Typing) (a a2 : PlainState Position) (T : ℕ → Bool) (E2 : KeyTypes) (st : PositionTypes y a) (refs : (k : Key) (m : Bool) (u : Place) → E2 k ≡ refers m u → y.exact k ≡ refers m u) where
  pub of_by : (k : Key) (m : Bool) (u : Place) → theirs T k ≡ true → E2 k ≡ refers m u → (t : ℕ) × (T t ≡ true) × (thread_of_key k ≡ Some t)
  of_by k m u h is = let n = st.near k m u (refs k m u is) in (n.thread, theirs_own T k n.thread h n.of, n.of)

  pub near_by : ((u : ℕ) (b : ℕ × ℕ) → a.pair u ≡ Some b → a2.pair u ≡ Some b) → (k : Key) (m : Bool) (u : Place) → E2 k ≡ refers m u → IsNear a2 k u
  near_by pairs k m u is = near_more a a2 pairs k u (st.near k m u (refs k m u is))

  pub named_by : (k : Key) (m : Bool) (u : Place) → theirs T k ≡ true → E2 k ≡ refers m u → ((t : ℕ) × (i : ℕ) × (T t ≡ true) × (u.key ≡ slot_k t i)) ⊎ ((j : Key) × (y.exact j ≡ refers m u))
  named_by k m u h is = inr (k, refs k m u is)
