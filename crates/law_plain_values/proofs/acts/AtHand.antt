-- The value at hand changes, and neither the old one nor the new one owns or counts: constants, copies, borrows, and what they end as.
use Rattle.std.proofs.Common.{◌≡◌, ◌≢◌, ◌⊎◌, inl, inr, ⊎_elim, ◌∙◌, ℕ, ◌≤◌, Bool, true, false, List, length, Option, Some, None, refl, sym, ap, subst, arith}
use Rattle.std.specs.Prelude.{if◌then◌else◌}
use Rattle.fr_base.specs.declared.name.ObjNo.{ObjNo}
use Rattle.fr_base.specs.declared.name.MutexNo.{MutexNo}
use Rattle.fr_typing.specs.Kinds.{Owned, Kind}
use Rattle.fr_typing.specs.Places.{Env}
use Rattle.fr_store.specs.Keys.{Key, slot_k, temp_k, content_k, result_k, hand_k}
use Rattle.fr_store.specs.Store.{Alike, Location, at_key, at_object, Val, gone_v, ref_v, Store, value_at, Place, put_value}
use Rattle.fr_store.specs.Typed.{Tree, hole, unit_tree, int_tree, mutex_tree, task_tree, box_tree, TopFits, Exact, owns, refers, KeyTypes, Typed, Unnamed}
use Rattle.fr_store.specs.Thread.{ThreadTyped}
use Rattle.fr_store.proofs.Keys.{key_cases, decide_key, decide_number}
use Rattle.fr_store.proofs.Chains.{decide_location}
use Rattle.fr_store.proofs.Sound.{ref_at}
use Rattle.fr_store.proofs.Rows.{top_fits, put_there, put_other, not_to}
use Rattle.fr_store.proofs.OtherThreads.{alike_row}
use Rattle.fr_plain.specs.declared.value.Value.TheVariants.{Held}
use Rattle.fr_plain.specs.State.{slot_at}
use Rattle.fr_plain.specs.MachineThreads.{Life, alive, over, owing, loose, ended}
use Rattle.fr_plain.specs.PlainState.{Running, PlainState, place_in}
use Rattle.fr_sound.specs.Seen.{seen_cell}
use Rattle.fr_sound.specs.Entries.{Entry, going}
use Rattle.fr_sound.specs.States.{Typing, key_val, slot_val, temp_val, result_val, content_val, RunningTyped, env_at, is_hidden, is_held, IsLock, thread_of_key}
use Rattle.fr_code.specs.CodeTypes.{wait}
use Rattle.law_plain_values.specs.acts.Positions.{Position, Knows, temps_of, PositionTypes}
use Rattle.law_plain_values.proofs.acts.Lower.{seen_as, seen_is, below_object}
use Rattle.law_plain_values.proofs.acts.OneThread.{store, typing_with, Counted, Carried, with_running, RunningCore, Changes, runs_still, no_branches}
use Rattle.law_plain_values.proofs.acts.Changed.{changed_typed}
use Rattle.law_plain_values.proofs.acts.Focus.{Tops, hand_at, Focus, unfocus, temp_is, temp_free}

-- only that thread differs, which goes on
pub record Only (a a2 : PlainState Position) (t : ℕ) (x2 : Running Position) : Type 0 where
  pub now : a2.thread t ≡ with_running (a.thread t) x2
  pub others : (u : ℕ) → u ≢ t → a2.thread u ≡ a.thread u
  pub pairs : (u : ℕ) → a2.pair u ≡ a.pair u
  pub mutexes : (m : MutexNo) → a2.mutex m ≡ a.mutex m
  pub given : (m : MutexNo) → a2.is_given m ≡ a.is_given m
  pub made : (u : ℕ) → a.made u ≤ a2.made u

-- a key with a reference has a reference's type
pub ref_type : (rank : Key → ℕ) (E : KeyTypes) (s : Store) (k : Key) (l : Location) → Typed rank E s → s.at k ≡ ref_v l → (m : Bool) × (u : Place) × (E k ≡ refers m u)
ref_type rank E s k l t h = by (E k) refl
  where
    none : (x : Tree) → TopFits x (ref_v l) → ⊥
    none hole f = cc
    none unit_tree f = cc
    none int_tree f = let g = f.1 in cc
    none (mutex_tree c) f = let g = f.1 in cc
    none (task_tree c) f = let g = f.1 in cc
    none (box_tree c) f = let g = f.1 in cc

    by : (p : Exact) → E k ≡ p → (m : Bool) × (u : Place) × (E k ≡ refers m u)
    by (owns x) e = absurd (none x (subst (TopFits x) h (top_fits rank E s t k x e)))
    by (refers m u) e = (m, u, e)

-- the result of a thread that goes on is none
pub result_same : (y : Typing) (t : ℕ) (l : Option (Life (Running Position))) (x x2 : Running Position) → place_in l ≡ Some x → result_val temps_of y t (with_running l x2) ≡ result_val temps_of y t l
result_same y t None x x2 e = cc
result_same y t (Some (alive z)) x x2 e = refl
result_same y t (Some over) x x2 e = cc
result_same y t (Some (owing z)) x x2 e = refl
result_same y t (Some (loose z)) x x2 e = refl
result_same y t (Some (ended v)) x x2 e = cc

-- a mark leads to no key that no type names
pub mark_off : (y : Typing) (a : PlainState Position) (u i : ℕ) (m : MutexNo) (w : Running Position) (h : Key) → PositionTypes y a → place_in (a.thread u) ≡ Some w → slot_at w.slots i ≡ Some (Held m) → Unnamed y.exact h → y.marks u i ≢ at_key h
mark_off y a u i m w h st runs mark free e =
    let is : (store y a).at (slot_k u i) ≡ ref_v (y.marks u i) = ap (slot_val temps_of y u i) runs ∙ seen_is temps_of y u i w ∙ ap (seen_as y.gives u (ref_v (y.marks u i))) mark in
    let r = ref_type y.rank y.exact (store y a) (slot_k u i) (y.marks u i) st.typed is in
    let f = ref_at y.rank y.exact (store y a) st.typed (slot_k u i) r.0 r.1 r.2 in
    let target : f.target ≡ y.marks u i = let g : ref_v f.target ≡ ref_v (y.marks u i) = sym f.is ∙ is in cc in
    let base = below_object (store y a) f.base h f.boxes (f.leads ∙ ap Some (target ∙ e)) in
    not_to y.exact h free r.0 r.1.key r.1.depth f.base f.boxes f.type f.res (free (slot_k u i) r.0 r.1 r.2) base

-- the same counted values stand where one value changed that isn't counted
pub carried_put : (s s2 : Store) (h : Key) (v : Val) → Alike (put_value s (at_key h) v) s2 → (Counted (s.at h) → ⊥) → (Counted v → ⊥) → Carried s s2
carried_put s s2 h v same old new = record {
  to = λ l. l;
  from = λ l. l;
  from_to = λ l. refl;
  to_from = λ l. refl;
  there = λ l w c e. ⊎_elim (λ (q : l ≡ at_key h). absurd (old (subst Counted (some_val (sym e ∙ ap (value_at s) q)) c))) (λ (ne : l ≢ at_key h). same l ∙ put_other s (at_key h) v l ne ∙ e) (decide_location l (at_key h));
  back = λ l w c e.
      ⊎_elim
      (λ (q : l ≡ at_key h). absurd (new (subst Counted (some_val (sym e ∙ same l ∙ ap (value_at (put_value s (at_key h) v)) q ∙ put_there s (at_key h) v)) c)))
      (λ (ne : l ≢ at_key h). sym (put_other s (at_key h) v l ne) ∙ sym (same l) ∙ e)
      (decide_location l (at_key h));
}
  where
    some_val : {p q : Val} → Some p ≡ Some q → p ≡ q
    some_val e = cc

module _ (y : Typing) (a a2 : PlainState Position) (t : ℕ) (x x2 : Running Position) (E2 : KeyTypes) (n : ℕ) (v : Val)
    (runs : place_in (a.thread t) ≡ Some x)
    (only : Only a a2 t x2)
    (objects : (o : ObjNo) → a2.object o ≡ a.object o)
    (slots : x2.slots ≡ x.slots)
    (others : (i : ℕ) → i ≢ n → seen_as y.gives t gone_v (slot_at x2.place.temps i) ≡ seen_as y.gives t gone_v (slot_at x.place.temps i))
    (hand : seen_as y.gives t gone_v (slot_at x2.place.temps n) ≡ v) where
  runs_two : place_in (a2.thread t) ≡ Some x2
  runs_two = ap place_in only.now ∙ runs_still (a.thread t) x x2 runs

  other_key : (k : Key) → k ≢ temp_k t n → key_val temps_of (typing_with y E2 y.marks) a2 k ≡ key_val temps_of y a k
  other_key (slot_k u i) ne =
      ⊎_elim
      (λ (e : u ≡ t). subst (λ w. slot_val temps_of y w i (place_in (a2.thread w)) ≡ slot_val temps_of y w i (place_in (a.thread w))) (sym e)
      (ap (slot_val temps_of y t i) runs_two ∙ seen_is temps_of y t i x2 ∙ ap (λ z. seen_as y.gives t (ref_v (y.marks t i)) (slot_at z i)) slots ∙ sym (seen_is temps_of y t i x) ∙ sym (ap (slot_val temps_of y t i) runs)))
      (λ (q : u ≢ t). ap (λ z. slot_val temps_of y u i (place_in z)) (only.others u q))
      (decide_number u t)
  other_key (temp_k u i) ne =
      ⊎_elim
      (λ (e : u ≡ t). subst (λ w. temp_val temps_of y w i (place_in (a2.thread w)) ≡ temp_val temps_of y w i (place_in (a.thread w))) (sym e)
      (ap (temp_val temps_of y t i) runs_two ∙ temp_is y t i x2 ∙ others i (λ (f : i ≡ n). ne (ap (λ w. temp_k w i) e ∙ ap (temp_k t) f)) ∙ sym (temp_is y t i x) ∙ sym (ap (temp_val temps_of y t i) runs)))
      (λ (q : u ≢ t). ap (λ z. temp_val temps_of y u i (place_in z)) (only.others u q))
      (decide_number u t)
  other_key (content_k h c) ne = ap (content_val y.gives) (only.mutexes (record { home = h; count = c }))
  other_key (result_k u) ne =
      ⊎_elim
      (λ (e : u ≡ t). subst (λ w. result_val temps_of y w (a2.thread w) ≡ result_val temps_of y w (a.thread w)) (sym e) (ap (result_val temps_of y t) only.now ∙ result_same y t (a.thread t) x x2 runs))
      (λ (q : u ≢ t). ap (result_val temps_of y u) (only.others u q))
      (decide_number u t)
  other_key (hand_k u) ne = refl

  -- the store with the new value at hand
  pub alike_temp : Alike (put_value (store y a) (at_key (temp_k t n)) v) (store (typing_with y E2 y.marks) a2)
  alike_temp (at_object o) = ap (seen_cell y.gives) (objects o)
  alike_temp (at_key k) =
      ap Some
      (key_cases (λ b. key_val temps_of (typing_with y E2 y.marks) a2 k ≡ (if b then v else key_val temps_of y a k)) k (temp_k t n)
      (λ e. ap (key_val temps_of (typing_with y E2 y.marks) a2) e ∙ ap (temp_val temps_of y t n) runs_two ∙ temp_is y t n x2 ∙ hand)
      (λ ne. other_key k ne))

-- a new reference at hand names what a reference of the thread named, or a slot that is no mark
abbrev pub NewName : Typing → ℕ → Running Position → Bool → Place → Type 0
NewName y t x m u = ((j : Key) × (thread_of_key j ≡ Some t) × (y.exact j ≡ refers m u)) ⊎ ((i : ℕ) × (u.key ≡ slot_k t i) × (is_held (slot_at x.slots i) ≡ false))

-- THE VALUE AT HAND CHANGES
pub hand_changed : (y : Typing) (a a2 : PlainState Position) (t : ℕ) (x x2 : Running Position) (e : Env) (ts us ts2 : List Kind) (o o2 : Option Kind) (g : Owned) (E2 : KeyTypes) (v : Val)
    → PositionTypes y a
    → place_in (a.thread t) ≡ Some x
    → x.place.entry ≡ going e ts g
    → Focus y a t e us o
    → Only a a2 t x2
    → ((o : ObjNo) → a2.object o ≡ a.object o)
    → x2.slots ≡ x.slots
    → Tops us o2 ts2
    → (o2 ≡ None → wait us ≡ true)
    → x2.place.entry ≡ going e ts2 g
    → length x2.place.temps ≡ length ts2
    → ((i : ℕ) → i ≢ length us → seen_as y.gives t gone_v (slot_at x2.place.temps i) ≡ seen_as y.gives t gone_v (slot_at x.place.temps i))
    → seen_as y.gives t gone_v (slot_at x2.place.temps (length us)) ≡ v
    → ThreadTyped (slot_k t) y.rank (hand_at t us) e E2 (put_value (store y a) (at_key (hand_at t us)) v) o2
    → ((k : Key) → k ≢ hand_at t us → E2 k ≡ y.exact k)
    → ((m : Bool) (u : Place) → E2 (hand_at t us) ≡ refers m u → NewName y t x m u)
    → (Counted ((store y a).at (hand_at t us)) → ⊥)
    → (Counted v → ⊥)
    → PositionTypes (typing_with y E2 y.marks) a2
hand_changed y a a2 t x x2 e ts us ts2 o o2 g E2 v st runs at fc only objects slots tops idle at2 long others hand th but new old_plain new_plain = changed_typed st changes
  where
    h : Key
    h = hand_at t us

    s2 : Store
    s2 = store (typing_with y E2 y.marks) a2

    same : Alike (put_value (store y a) (at_key (hand_at t us)) v) (store (typing_with y E2 y.marks) a2)
    same = alike_temp y a a2 t x x2 E2 (length us) v runs only objects slots others hand

    mine : RunningTyped Knows temps_of y (store y a) t (a.pair t) x
    mine = st.threads t x runs

    entry_is : mine.entry ≡ going e ts g
    entry_is = sym mine.known ∙ at

    alone : a.pair t ≡ None
    alone = no_branches (a.pair t) (sym (ap (λ (z : Entry). z.forked) entry_is) ∙ mine.forks)

    hand_free : Unnamed y.exact (hand_at t us)
    hand_free = temp_free y a t (length us) st

    thread : ThreadTyped (slot_k t) y.rank (hand_at t us) e E2 (store (typing_with y E2 y.marks) a2) o2
    thread = (alike_row (slot_k t) y.rank (hand_at t us) e E2 (put_value (store y a) (at_key (hand_at t us)) v) (store (typing_with y E2 y.marks) a2) o2 same).0 th

    -- what a reference names is a slot
    slot_named : (j : Key) (m : Bool) (u : Place) → E2 j ≡ refers m u → (w : ℕ) × (i : ℕ) × (u.key ≡ slot_k w i)
    slot_named j m u is = ⊎_elim (λ (q : j ≡ hand_at t us). newly (new m u (ap E2 (sym q) ∙ is))) (λ (ne : j ≢ hand_at t us). before j (sym (but j ne) ∙ is)) (decide_key j (hand_at t us))
      where
        before : (j : Key) → y.exact j ≡ refers m u → (w : ℕ) × (i : ℕ) × (u.key ≡ slot_k w i)
        before j is = let n = st.near j m u is in (n.owner, n.slot, n.is)

        newly : NewName y t x m u → (w : ℕ) × (i : ℕ) × (u.key ≡ slot_k w i)
        newly (inl z) = before z.0 z.2
        newly (inr z) = (t, z.0, z.1)

    temps_free : (n : ℕ) → Unnamed E2 (temp_k t n)
    temps_free n j m u is f = let z = slot_named j m u is in let q : slot_k z.0 z.1 ≡ temp_k t n = sym z.2 ∙ f in absurd cc

    -- no type names a mark
    mark_free : (i : ℕ) (m : MutexNo) → slot_at x.slots i ≡ Some (Held m) → Unnamed y.exact (slot_k t i) → Unnamed E2 (slot_k t i)
    mark_free i m mark free j q u is f = ⊎_elim (λ (z : j ≡ hand_at t us). newly (new q u (ap E2 (sym z) ∙ is))) (λ (ne : j ≢ hand_at t us). free j q u (sym (but j ne) ∙ is) f) (decide_key j (hand_at t us))
      where
        newly : NewName y t x q u → ⊥
        newly (inl z) = free z.0 q u z.2 f
        newly (inr z) =
            let p : slot_k t z.0 ≡ slot_k t i = sym z.1 ∙ f in
            let r : z.0 ≡ i = cc in
            let b : true ≡ false = sym (ap is_held mark) ∙ ap (λ k. is_held (slot_at x.slots k)) (sym r) ∙ z.2 in
            cc

    slot_same : (i : ℕ) → slot_at x2.slots i ≡ slot_at x.slots i
    slot_same i = ap (λ z. slot_at z i) slots

    mark_kept : (u i : ℕ) (m : MutexNo) (w : Running Position) → place_in (a.thread u) ≡ Some w → slot_at w.slots i ≡ Some (Held m) → value_at (store (typing_with y E2 y.marks) a2) (y.marks u i) ≡ value_at (store y a) (y.marks u i)
    mark_kept u i m w runs mark = same (y.marks u i) ∙ put_other (store y a) (at_key (hand_at t us)) v (y.marks u i) (mark_off y a u i m w (hand_at t us) st runs mark hand_free)

    lock_two : (i : ℕ) (m : MutexNo) → slot_at x2.slots i ≡ Some (Held m) → IsLock (typing_with y E2 y.marks) (store (typing_with y E2 y.marks) a2) e t i m
    lock_two i m q =
        let mark = sym (slot_same i) ∙ q in
        let l = subst (λ (z : Entry). IsLock y (store y a) z.env t i m) entry_is (mine.marked i m mark) in
        record { leads = mark_kept t i m x runs mark ∙ l.leads; unnamed = mark_free i m mark l.unnamed; content = l.content }

    core : RunningCore (typing_with y E2 y.marks) (store (typing_with y E2 y.marks) a2) t (a2.pair t) x2
    core =
        unfocus y a a2 t e e us ts2 o o2 g E2 y.marks x2 fc tops idle thread (λ i l. but (temp_k t i) (λ q. let f : i ≡ length us = cc in omega (arith, l, f))) temps_free (λ i l n. fc.high i n (omega (arith, l))) at2
        (ap (λ (z : Entry). z.gives) (sym entry_is) ∙ mine.gives) (only.pairs t ∙ alone)
        (ap length slots ∙ mine.all_slots ∙ ap (λ (z : Entry). length z.env) entry_is) long
        (λ i. ap (λ (z : Entry). is_hidden (env_at z.env i)) (sym entry_is) ∙ mine.hidden i ∙ ap is_held (sym (slot_same i)))
        lock_two

    changes : Changes y a a2 t x x2 E2 y.marks
    changes = record {
      was = runs;
      free = alone;
      now = only.now;
      others = only.others;
      pairs = only.pairs;
      mutexes = only.mutexes;
      given = only.given;
      made = only.made;
      objects = λ q w f. (w, objects q ∙ f);
      before = λ q w f. (w, sym (objects q) ∙ f);
      typed = thread.typed;
      mine = core;
      same = λ k ne. but k (λ q. ne (ap thread_of_key q));
      names = λ k m u q is. ⊎_elim (λ (z : k ≡ hand_at t us). named m u (new m u (ap E2 (sym z) ∙ is))) (λ (ne : k ≢ hand_at t us). inr (k, q, sym (but k ne) ∙ is)) (decide_key k (hand_at t us));
      carried = carried_put (store y a) (store (typing_with y E2 y.marks) a2) (hand_at t us) v same old_plain new_plain;
      marks = λ u i ne. refl;
      held = λ u i m w ne r f. mark_kept u i m w r f;
      marked = λ i m f. sym (slot_same i) ∙ f;
      still = λ i m f. slot_same i ∙ f;
    }
      where
        named : (m : Bool) (u : Place) → NewName y t x m u → ((i : ℕ) × (u.key ≡ slot_k t i)) ⊎ ((j : Key) × (thread_of_key j ≡ Some t) × (y.exact j ≡ refers m u))
        named m u (inl z) = inr z
        named m u (inr z) = inl (z.0, z.1)
