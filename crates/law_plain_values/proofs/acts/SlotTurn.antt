-- Slots and the value at hand change, and each counted value stands again.
use Rattle.std.proofs.Common.{◌≡◌, ◌≢◌, ◌⊎◌, inl, inr, ⊎_elim, ◌∙◌, ℕ, suc, ◌≤◌, Bool, true, List, length, Option, Some, None, refl, sym, ap, subst, arith}
use Rattle.fr_base.specs.declared.name.ObjNo.{ObjNo}
use Rattle.fr_base.specs.declared.name.MutexNo.{MutexNo}
use Rattle.fr_base.specs.declared.label.Plain.{Plain}
use Rattle.fr_typing.specs.Kinds.{Owned, Kind}
use Rattle.fr_typing.specs.Places.{Env}
use Rattle.fr_store.specs.Keys.{Key, slot_k, temp_k, content_k, result_k, hand_k}
use Rattle.fr_store.specs.Store.{Alike, Location, at_key, at_object, Val, gone_v, ref_v, Store, value_at, Place, swap}
use Rattle.fr_store.specs.Changes.{SameButTwo}
use Rattle.fr_store.specs.Typed.{refers, KeyTypes, Unnamed}
use Rattle.fr_store.specs.Thread.{ThreadTyped}
use Rattle.fr_store.proofs.Keys.{decide_number}
use Rattle.fr_store.proofs.Chains.{decide_location}
use Rattle.fr_store.proofs.Rows.{swap_other, swap_at, swap_hand}
use Rattle.fr_plain.specs.declared.value.Value.TheVariants.{Held}
use Rattle.fr_plain.specs.State.{slot_at}
use Rattle.fr_plain.specs.PlainState.{Running, PlainState, place_in}
use Rattle.fr_sound.specs.Entries.{Entry, going}
use Rattle.fr_sound.specs.Seen.{seen_cell}
use Rattle.fr_sound.specs.States.{Typing, slot_val, temp_val, result_val, content_val, RunningTyped, env_at, is_hidden, is_held, IsLock, thread_of_key}
use Rattle.fr_code.specs.CodeTypes.{wait}
use Rattle.law_plain_values.specs.acts.Positions.{Position, Knows, temps_of, PositionTypes}
use Rattle.law_plain_values.proofs.acts.Lower.{seen_as, seen_is}
use Rattle.law_plain_values.proofs.acts.OneThread.{store, typing_with, Carried, RunningCore, Changes, runs_still, no_branches}
use Rattle.law_plain_values.proofs.acts.Changed.{changed_typed}
use Rattle.law_plain_values.proofs.acts.Focus.{Tops, hand_at, Focus, unfocus, temp_is}
use Rattle.law_plain_values.proofs.acts.AtHand.{Only, result_same}
use Rattle.law_plain_values.proofs.acts.Hand.{At}
use Rattle.law_plain_values.proofs.acts.Rethread.{IsOwn, Stood}

-- WHAT STANDS AT THE THREAD'S KEYS AFTER THE CHANGE

module _ (y : Typing) (a a2 : PlainState Position) (t : ℕ) (x x2 : Running Position) (E2 : KeyTypes) (M2 : ℕ → ℕ → Location) (runs : place_in (a.thread t) ≡ Some x) (only : Only a a2 t x2) where
  pub runs_two : place_in (a2.thread t) ≡ Some x2
  runs_two = ap place_in only.now ∙ runs_still (a.thread t) x x2 runs

  pub slot_two : (i : ℕ) → (store (typing_with y E2 M2) a2).at (slot_k t i) ≡ seen_as y.gives t (ref_v (M2 t i)) (slot_at x2.slots i)
  slot_two i = ap (slot_val temps_of (typing_with y E2 M2) t i) runs_two ∙ seen_is temps_of (typing_with y E2 M2) t i x2

  pub temp_two : (i : ℕ) → (store (typing_with y E2 M2) a2).at (temp_k t i) ≡ seen_as y.gives t gone_v (slot_at x2.place.temps i)
  temp_two i = ap (temp_val temps_of (typing_with y E2 M2) t i) runs_two ∙ temp_is (typing_with y E2 M2) t i x2

  pub slot_one : (i : ℕ) → (store y a).at (slot_k t i) ≡ seen_as y.gives t (ref_v (y.marks t i)) (slot_at x.slots i)
  slot_one i = ap (slot_val temps_of y t i) runs ∙ seen_is temps_of y t i x

  pub temp_one : (i : ℕ) → (store y a).at (temp_k t i) ≡ seen_as y.gives t gone_v (slot_at x.place.temps i)
  temp_one i = ap (temp_val temps_of y t i) runs ∙ temp_is y t i x

  -- at keys of nobody's slot or temporary value but the thread's the same stands, where the marks of others lead where they led
  pub elsewhere : ((u i : ℕ) → u ≢ t → M2 u i ≡ y.marks u i) → (k : Key) → thread_of_key k ≢ Some t → (store (typing_with y E2 M2) a2).at k ≡ (store y a).at k
  elsewhere marks (slot_k u i) ne =
      let q : u ≢ t = λ f. ne (ap Some f) in
      ap (λ z. slot_val temps_of (typing_with y E2 M2) u i (place_in z)) (only.others u q) ∙ same_marks u i q (place_in (a.thread u))
    where
      same_marks : (u i : ℕ) → u ≢ t → (w : Option (Running Position)) → slot_val temps_of (typing_with y E2 M2) u i w ≡ slot_val temps_of y u i w
      same_marks u i q None = refl
      same_marks u i q (Some w) = seen_is temps_of (typing_with y E2 M2) u i w ∙ ap (λ l. seen_as y.gives u (ref_v l) (slot_at w.slots i)) (marks u i q) ∙ sym (seen_is temps_of y u i w)
  elsewhere marks (temp_k u i) ne = ap (λ z. temp_val temps_of y u i (place_in z)) (only.others u (λ f. ne (ap Some f)))
  elsewhere marks (content_k h c) ne = ap (content_val y.gives) (only.mutexes (record { home = h; count = c }))
  elsewhere marks (result_k u) ne =
      ⊎_elim
      (λ (e : u ≡ t). subst (λ w. result_val temps_of y w (a2.thread w) ≡ result_val temps_of y w (a.thread w)) (sym e) (ap (result_val temps_of y t) only.now ∙ result_same y t (a.thread t) x x2 runs))
      (λ (q : u ≢ t). ap (result_val temps_of y u) (only.others u q))
      (decide_number u t)
  elsewhere marks (hand_k u) ne = refl

-- one temporary value and another place change
pub same_two : (y : Typing) (a a2 : PlainState Position) (t : ℕ) (x x2 : Running Position) (E2 : KeyTypes) (n : ℕ) (l : Location) → place_in (a.thread t) ≡ Some x → Only a a2 t x2
    → ((i : ℕ) → at_key (slot_k t i) ≢ l → seen_as y.gives t (ref_v (y.marks t i)) (slot_at x2.slots i) ≡ seen_as y.gives t (ref_v (y.marks t i)) (slot_at x.slots i))
    → ((i : ℕ) → i ≢ n → seen_as y.gives t gone_v (slot_at x2.place.temps i) ≡ seen_as y.gives t gone_v (slot_at x.place.temps i))
    → ((o : ObjNo) → at_object o ≢ l → seen_cell y.gives (a2.object o) ≡ seen_cell y.gives (a.object o))
    → SameButTwo (at_key (temp_k t n)) l (store y a) (store (typing_with y E2 y.marks) a2)
same_two y a a2 t x x2 E2 n l runs only slots temps objects (at_object o) nh nl = objects o nl
same_two y a a2 t x x2 E2 n l runs only slots temps objects (at_key k) nh nl = ap Some (by k nh nl)
  where
    far : (k : Key) → thread_of_key k ≢ Some t → (store (typing_with y E2 y.marks) a2).at k ≡ (store y a).at k
    far k ne = elsewhere y a a2 t x x2 E2 y.marks runs only (λ u i q. refl) k ne

    some_other : (u : ℕ) → u ≢ t → Some u ≢ Some t
    some_other u q f = let g : u ≡ t = cc in q g

    by : (k : Key) → at_key k ≢ at_key (temp_k t n) → at_key k ≢ l → (store (typing_with y E2 y.marks) a2).at k ≡ (store y a).at k
    by (slot_k u i) nh nl =
        ⊎_elim
        (λ (e : u ≡ t). ap (λ w. (store (typing_with y E2 y.marks) a2).at (slot_k w i)) e ∙ slot_two y a a2 t x x2 E2 y.marks runs only i ∙ slots i (λ f. nl (ap (λ w. at_key (slot_k w i)) e ∙ f)) ∙ sym (slot_one y a a2 t x x2 E2 y.marks runs only i) ∙ ap (λ w. (store y a).at (slot_k w i)) (sym e))
        (λ (q : u ≢ t). far (slot_k u i) (some_other u q))
        (decide_number u t)
    by (temp_k u i) nh nl =
        ⊎_elim
        (λ (e : u ≡ t). ap (λ w. (store (typing_with y E2 y.marks) a2).at (temp_k w i)) e ∙ temp_two y a a2 t x x2 E2 y.marks runs only i ∙ temps i (λ f. nh (ap (λ w. at_key (temp_k w i)) e ∙ ap (λ j. at_key (temp_k t j)) f)) ∙ sym (temp_one y a a2 t x x2 E2 y.marks runs only i) ∙ ap (λ w. (store y a).at (temp_k w i)) (sym e))
        (λ (q : u ≢ t). far (temp_k u i) (some_other u q))
        (decide_number u t)
    by (content_k h c) nh nl = far (content_k h c) (λ f. cc)
    by (result_k u) nh nl = far (result_k u) (λ f. cc)
    by (hand_k u) nh nl = refl

-- TWO PLACES CHANGE

-- the values of a key and of a location have changed places
pub alike_swap : (s s2 : Store) (h : Key) (l : Location) (v : Val) → l ≢ at_key h → value_at s l ≡ Some v → SameButTwo (at_key h) l s s2 → value_at s2 l ≡ Some (s.at h) → s2.at h ≡ v → Alike (swap s h l) s2
alike_swap s s2 h l v ne is same there hand q = by (decide_location q (at_key h)) (decide_location q l)
  where
    by : (q ≡ at_key h) ⊎ (q ≢ at_key h) → (q ≡ l) ⊎ (q ≢ l) → value_at s2 q ≡ value_at (swap s h l) q
    by (inl e) f = ap (value_at s2) e ∙ ap Some hand ∙ sym is ∙ sym (swap_hand s h l v is) ∙ ap (value_at (swap s h l)) (sym e)
    by (inr e) (inl f) = ap (value_at s2) f ∙ there ∙ sym (swap_at s h l ne) ∙ ap (value_at (swap s h l)) (sym f)
    by (inr e) (inr f) = same q e f ∙ sym (swap_other s h l q e f)

-- THE CHANGE

-- after a change of slots and the value at hand: what stands elsewhere, and what its references name
pub record SlotTurn (y : Typing) (a a2 : PlainState Position) (t : ℕ) (x x2 : Running Position) (e e2 : Env) (us ts2 : List Kind) (o2 : Option Kind) (g : Owned) (E2 : KeyTypes) : Type 0 where
  pub only : Only a a2 t x2
  pub objects : (o : ObjNo) (v : Plain) → a.object o ≡ Some v → (w : Plain) × (a2.object o ≡ Some w)
  pub before : (o : ObjNo) (v : Plain) → a2.object o ≡ Some v → (w : Plain) × (a.object o ≡ Some w)
  pub tops : Tops us o2 ts2
  pub idle : o2 ≡ None → wait us ≡ true
  pub entry : x2.place.entry ≡ going e2 ts2 g
  pub temps : length x2.place.temps ≡ length ts2
  pub slots : length x2.slots ≡ length e2
  pub long : length e2 ≤ suc (length e)
  pub thread : ThreadTyped (slot_k t) y.rank (hand_at t us) e2 E2 (store (typing_with y E2 y.marks) a2) o2
  pub others : (k : Key) → k ≢ hand_at t us → ((i : ℕ) → k ≢ slot_k t i) → E2 k ≡ y.exact k
  pub stood : Stood (slot_k t) (hand_at t us) y.exact E2
  pub hidden : (i : ℕ) → is_hidden (env_at e2 i) ≡ is_held (slot_at x2.slots i)
  -- marks stay, and so does the type of what they keep out
  pub marked : (i : ℕ) (m : MutexNo) → slot_at x2.slots i ≡ Some (Held m) → slot_at x.slots i ≡ Some (Held m)
  pub still : (i : ℕ) (m : MutexNo) → slot_at x.slots i ≡ Some (Held m) → slot_at x2.slots i ≡ Some (Held m)
  pub content : (s : Store) (i : ℕ) (m : MutexNo) → slot_at x.slots i ≡ Some (Held m) → IsLock y s e t i m → IsLock y s e2 t i m
  pub held : (u i : ℕ) (m : MutexNo) (w : Running Position) → place_in (a.thread u) ≡ Some w → slot_at w.slots i ≡ Some (Held m) → value_at (store (typing_with y E2 y.marks) a2) (y.marks u i) ≡ value_at (store y a) (y.marks u i)
  pub carried : Carried (store y a) (store (typing_with y E2 y.marks) a2)

-- where a value is at hand nothing needs to wait
pub some_none : {A : Type 0} (x : A) (b : Bool) → Some x ≡ None → b ≡ true
some_none x b e = cc

-- a key of the thread's slots or its hand is the thread's
pub own_thread : (t : ℕ) (us : List Kind) (j : Key) → IsOwn (slot_k t) (hand_at t us) j → thread_of_key j ≡ Some t
own_thread t us j (inl e) = ap thread_of_key e
own_thread t us j (inr e) = ap thread_of_key e.1

-- A STATE WHOSE SLOTS AND VALUE AT HAND CHANGED IS TYPED
pub slots_changed : {y : Typing} {a a2 : PlainState Position} {t : ℕ} {x x2 : Running Position} {e e2 : Env} {ts us ts2 : List Kind} {o o2 : Option Kind} {g : Owned} {E2 : KeyTypes}
    → At y a t x e ts g → Focus y a t e us o → SlotTurn y a a2 t x x2 e e2 us ts2 o2 g E2 → PositionTypes (typing_with y E2 y.marks) a2
slots_changed {y = y} {a = a} {a2 = a2} {t = t} {x = x} {x2 = x2} {e = e} {e2 = e2} {ts = ts} {us = us} {ts2 = ts2} {o = o} {o2 = o2} {g = g} {E2 = E2} h fc c = changed_typed h.state changes
  where
    st : PositionTypes y a
    st = h.state

    mine : RunningTyped Knows temps_of y (store y a) t (a.pair t) x
    mine = st.threads t x h.runs

    entry_is : mine.entry ≡ going e ts g
    entry_is = sym mine.known ∙ h.entry

    alone : a.pair t ≡ None
    alone = no_branches (a.pair t) (sym (ap (λ (z : Entry). z.forked) entry_is) ∙ mine.forks)

    -- what a reference names was named before
    named : (j : Key) (m : Bool) (u : Place) → E2 j ≡ refers m u → (i : Key) × (y.exact i ≡ refers m u)
    named j m u is = by (c.stood j m u is)
      where
        by : (y.exact j ≡ refers m u) ⊎ ((i : Key) × (y.exact i ≡ refers m u) × IsOwn (slot_k t) (hand_at t us) i × IsOwn (slot_k t) (hand_at t us) j) → (i : Key) × (y.exact i ≡ refers m u)
        by (inl f) = (j, f)
        by (inr f) = (f.0, f.1)

    temps_free : (n : ℕ) → Unnamed E2 (temp_k t n)
    temps_free n j m u is f = let z = named j m u is in let w = st.near z.0 m u z.1 in let q : slot_k w.owner w.slot ≡ temp_k t n = sym w.is ∙ f in absurd cc

    lock_two : (i : ℕ) (m : MutexNo) → slot_at x2.slots i ≡ Some (Held m) → IsLock (typing_with y E2 y.marks) (store (typing_with y E2 y.marks) a2) e2 t i m
    lock_two i m q =
        let mark = c.marked i m q in
        let l = subst (λ (z : Entry). IsLock y (store y a) z.env t i m) entry_is (mine.marked i m mark) in
        let k = c.content (store y a) i m mark l in
        record { leads = c.held t i m x h.runs mark ∙ l.leads; unnamed = λ j b u is f. let z = named j b u is in l.unnamed z.0 b u z.1 f; content = k.content }

    core : RunningCore (typing_with y E2 y.marks) (store (typing_with y E2 y.marks) a2) t (a2.pair t) x2
    core =
        unfocus y a a2 t e e2 us ts2 o o2 g E2 y.marks x2 fc c.tops c.idle c.thread (λ i l. c.others (temp_k t i) (λ q. let f : i ≡ length us = cc in omega (arith, l, f)) (λ n q. cc)) temps_free (λ i l n. let k = c.long in fc.high i n (omega (arith, l, k))) c.entry
        (ap (λ (z : Entry). z.gives) (sym entry_is) ∙ mine.gives) (c.only.pairs t ∙ alone)
        c.slots c.temps c.hidden lock_two

    changes : Changes y a a2 t x x2 E2 y.marks
    changes = record {
      was = h.runs;
      free = alone;
      now = c.only.now;
      others = c.only.others;
      pairs = c.only.pairs;
      mutexes = c.only.mutexes;
      given = c.only.given;
      made = c.only.made;
      objects = c.objects;
      before = c.before;
      typed = c.thread.typed;
      mine = core;
      same = λ k ne. c.others k (λ q. ne (ap thread_of_key q)) (λ i q. ne (ap thread_of_key q));
      names = λ k m u q is. inr (own_name k m u q (c.stood k m u is));
      carried = c.carried;
      marks = λ u i ne. refl;
      held = λ u i m w ne r f. c.held u i m w r f;
      marked = c.marked;
      still = c.still;
    }
      where
        own_name : (k : Key) (m : Bool) (u : Place) → thread_of_key k ≡ Some t → (y.exact k ≡ refers m u) ⊎ ((i : Key) × (y.exact i ≡ refers m u) × IsOwn (slot_k t) (hand_at t us) i × IsOwn (slot_k t) (hand_at t us) k) → (j : Key) × (thread_of_key j ≡ Some t) × (y.exact j ≡ refers m u)
        own_name k m u q (inl f) = (k, q, f)
        own_name k m u q (inr f) = (f.0, own_thread t us f.0 f.2, f.1)
