-- Temporary values come and go: constants, copies, borrows, and the end of what owns nothing.
use Rattle.std.proofs.Common.{◌≡◌, ◌≢◌, ◌⊎◌, inl, inr, ⊎_elim, ◌∙◌, ℕ, suc, ◌+◌, ◌<◌, ◌≤◌, Bool, true, List, ◌∷◌, length, Option, Some, None, refl, sym, ap, subst, arith}
use Rattle.std.specs.Prelude.{◌==◌, if◌then◌else◌}
use Rattle.fr_base.specs.declared.name.ObjNo.{ObjNo}
use Rattle.fr_typing.specs.Kinds.{Owned, Kind, whole}
use Rattle.fr_typing.specs.Places.{Env, Slot, AreBelow}
use Rattle.fr_typing.proofs.PlaceLemmas.{eq_cases}
use Rattle.fr_store.specs.Keys.{Key, slot_k, temp_k, same_key}
use Rattle.fr_store.specs.Store.{at_key, Val, gone_v, Store, Place, put_value}
use Rattle.fr_store.specs.Typed.{Tree, hole, Exact, owns, refers, KeyTypes, Typed, Unnamed}
use Rattle.fr_store.specs.Changes.{New}
use Rattle.fr_store.specs.Below.{ExactOf}
use Rattle.fr_store.specs.Rows.{with_type}
use Rattle.fr_store.specs.Thread.{ThreadKeys, ThreadTyped, TempIs, temp_places}
use Rattle.fr_store.proofs.Keys.{key_same, key_other, decide_key, decide_number}
use Rattle.fr_store.proofs.Changes.{set}
use Rattle.fr_store.proofs.Rows.{forget, top_fits, put_other}
use Rattle.fr_store.proofs.ThreadKept.{slots_with}
use Rattle.fr_plain.specs.declared.value.Value.{Value}
use Rattle.fr_plain.specs.State.{slot_at}
use Rattle.fr_plain.specs.MachineThreads.{Life, alive, over, owing, loose, ended}
use Rattle.fr_plain.specs.PlainState.{Running, PlainState, place_in}
use Rattle.fr_sound.specs.Entries.{Entry, going}
use Rattle.fr_sound.specs.States.{Typing, RunningTyped}
use Rattle.fr_code.specs.CodeTypes.{wait}
use Rattle.law_plain_values.specs.acts.Positions.{Position, Knows, temps_of, PositionTypes}
use Rattle.law_plain_values.proofs.acts.Lower.{seen_as}
use Rattle.law_plain_values.proofs.acts.Refs.{NoneNew, none_with, none_owns}
use Rattle.law_plain_values.proofs.acts.OneThread.{store, typing_with, Counted, with_running, runs_still, differs_by}
use Rattle.law_plain_values.proofs.acts.Raised.{raised, raised_typing}
use Rattle.law_plain_values.proofs.acts.Focus.{Tops, top_none, top_some, hand_at, Focus, focus, temp_none}
use Rattle.law_plain_values.proofs.acts.AtHand.{Only, NewName, hand_changed}

-- a thread of a typed state at that entry
pub record At (y : Typing) (a : PlainState Position) (t : ℕ) (x : Running Position) (e : Env) (ts : List Kind) (g : Owned) : Type 0 where
  pub state : PositionTypes y a
  pub runs : place_in (a.thread t) ≡ Some x
  pub entry : x.place.entry ≡ going e ts g

-- the state with that thread changed
pub record Becomes (y0 : Typing) (a2 : PlainState Position) (t : ℕ) (x2 : Running Position) (e : Env) (ts : List Kind) (g : Owned) : Type 0 where
  pub typing : Typing
  pub names : typing.gives ≡ y0.gives
  pub refs : NoneNew y0.exact typing.exact
  pub at : At typing a2 t x2 e ts g

-- the hand gets another type
pub rehung : (key : ℕ → Key) (rank : Key → ℕ) (a : Key) (e : List Slot) (E : KeyTypes) (s s2 : Store) (o o2 : Option Kind) (p : Exact) → ThreadKeys key rank a → ThreadTyped key rank a e E s o → Typed rank (with_type E a p) s2 → TempIs key (with_type E a p) a o2 → AreBelow (length e) (temp_places o2)
    → ((m : Bool) (u : Place) → p ≡ refers m u → u.key ≢ a) → ThreadTyped key rank a e (with_type E a p) s2 o2
rehung key rank a e E s s2 o o2 p ks t typed temp names off = record {
  typed = typed;
  nested = t.nested;
  over = t.over;
  slots = slots_with key E a p e t.quiet (λ i _. ks.off i) t.slots;
  above = λ i le. key_other (key i) a p (E (key i)) (ks.off i) ∙ t.above i le;
  temp = temp;
  names = names;
  quiet = λ j m u js. ⊎_elim (λ (z : j ≡ a). off m u (sym (key_same a p (E a)) ∙ ap (with_type E a p) (sym z) ∙ js)) (λ (z : j ≢ a). t.quiet j m u (sym (key_other j a p (E j) z) ∙ js)) (decide_key j a);
  alone = λ j m u js ne. t.alone j m u (sym (key_other j a p (E j) ne) ∙ js) ne;
}

-- a thread's ranks may be raised above its slots
pub room : (y : Typing) (t : ℕ) (e : Env) → ThreadKeys (slot_k t) y.rank (temp_k t 0) → (i n : ℕ) → i ≤ length e → (raised_typing (suc (y.rank (slot_k t (length e)))) y).rank (slot_k t i) < (raised_typing (suc (y.rank (slot_k t (length e)))) y).rank (temp_k t n)
room y t e ks i n le = by (decide_number i (length e))
  where
    by : (i ≡ length e) ⊎ (i ≢ length e) → y.rank (slot_k t i) < suc (y.rank (slot_k t (length e))) + y.rank (temp_k t n)
    by (inl same) = let f = ap (λ j. y.rank (slot_k t j)) same in omega (arith, f)
    by (inr ne) = let f = ks.ranks i (length e) (omega (arith, le, ne)) in omega (arith, f)

-- in a typed state the hand is above what waits, under ranks that suit
pub record Ranked (y0 : Typing) (a : PlainState Position) (t : ℕ) (x : Running Position) (e : Env) (ts us : List Kind) (o : Option Kind) (g : Owned) : Type 0 where
  pub typing : Typing
  pub names : typing.gives ≡ y0.gives
  pub refs : NoneNew y0.exact typing.exact
  pub at : At typing a t x e ts g
  pub focus : Focus typing a t e us o
  pub running : RunningTyped Knows temps_of typing (store typing a) t (a.pair t) x
  pub gives : g ≡ typing.gives.result t
  pub long : length x.place.temps ≡ length ts

pub ranked : (y : Typing) (a : PlainState Position) (t : ℕ) (x : Running Position) (e : Env) (ts us : List Kind) (o : Option Kind) (g : Owned) → At y a t x e ts g → Tops us o ts → wait us ≡ true → Ranked y a t x e ts us o g
ranked y a t x e ts us o g h tops w =
    let r = h.state.threads t x h.runs in
    let n = suc (y.rank (slot_k t (length e))) in
    let st = raised n y a h.state in
    let q = st.threads t x h.runs in
    let is : q.entry ≡ going e ts g = sym q.known ∙ h.entry in
    record {
      typing = raised_typing n y;
      names = refl;
      refs = λ k u q. q;
      at = record { state = st; runs = h.runs; entry = h.entry };
      focus = focus (raised_typing n y) a t x e ts g st h.runs h.entry (room y t e (record { differ = r.keys.differ; off = λ i z. absurd cc; ranks = r.keys.ranks })) us o tops (λ q. w);
      running = q;
      gives = ap (λ (z : Entry). z.gives) (sym is) ∙ q.gives;
      long = q.all_temps ∙ ap (λ (z : Entry). length z.temps) is;
    }

-- TEMPORARY VALUES AS A LIST

-- below a new value the others are as they were
pub pushed_others : (v : Value) (vs : List Value) (i n : ℕ) → n ≡ length vs → i ≢ n → slot_at (v ∷ vs) i ≡ slot_at vs i
pushed_others v vs i n l ne = ap (λ (b : Bool). if b then Some v else slot_at vs i) (differs_by i (length vs) (λ q. ne (q ∙ sym l)))

pub pushed_here : (v : Value) (vs : List Value) (n : ℕ) → n ≡ length vs → slot_at (v ∷ vs) n ≡ Some v
pushed_here v vs n l = eq_cases (λ b. (if b then Some v else slot_at vs n) ≡ Some v) n (length vs) (λ q. refl) (λ ne. absurd (ne l))

-- PUSH

-- a position with one temporary value more
abbrev pub push_place : Env → List Kind → Owned → Kind → Value → Position → Position
push_place e us g k v p = record { entry = going e (k ∷ us) g; temps = v ∷ p.temps }

-- the state with that thread changed, and the type of its hand
pub record Pushes (y0 : Typing) (a2 : PlainState Position) (t : ℕ) (hand : Key) (p : Exact) (x2 : Running Position) (e : Env) (ts : List Kind) (g : Owned) : Type 0 where
  pub typing : Typing
  pub names : typing.gives ≡ y0.gives
  pub types : typing.exact ≡ with_type y0.exact hand p
  pub at : At typing a2 t x2 e ts g

-- what is no mutable reference is none that is new
pub push_none : {y0 : Typing} {a2 : PlainState Position} {t : ℕ} {hand : Key} {p : Exact} {x2 : Running Position} {e : Env} {ts : List Kind} {g : Owned} (b : Pushes y0 a2 t hand p x2 e ts g) → ((u : Place) → p ≡ refers true u → ⊥) → NoneNew y0.exact b.typing.exact
push_none {y0 = y0} {hand = hand} {p = p} b other k u e = none_with y0.exact hand p other k u (sym (ap (λ (E : KeyTypes). E k) b.types) ∙ e)

-- a value that owns and counts nothing comes to hand
pub push : (y : Typing) (a a2 : PlainState Position) (t : ℕ) (x : Running Position) (e : Env) (us : List Kind) (g : Owned) (k : Kind) (v : Value) (p : Exact)
    → At y a t x e us g
    → Focus y a t e us None
    → Only a a2 t (record { place = push_place e us g k v x.place; slots = x.slots })
    → ((o : ObjNo) → a2.object o ≡ a.object o)
    → Typed y.rank (with_type y.exact (hand_at t us) p) (put_value (store y a) (at_key (hand_at t us)) (seen_as y.gives t gone_v (Some v)))
    → ExactOf (slot_k t) (with_type y.exact (hand_at t us) p) (whole k) p
    → AreBelow (length e) (temp_places (Some k))
    → ((m : Bool) (u : Place) → p ≡ refers m u → NewName y t x m u)
    → (Counted (seen_as y.gives t gone_v (Some v)) → ⊥)
    → Pushes y a2 t (hand_at t us) p (record { place = push_place e us g k v x.place; slots = x.slots }) e (k ∷ us) g
push y a a2 t x e us g k v p h fc only objects typed exact names new plain =
    let r = h.state.threads t x h.runs in
    let is : r.entry ≡ going e us g = sym r.known ∙ h.entry in
    let long : length x.place.temps ≡ length us = r.all_temps ∙ ap (λ (z : Entry). length z.temps) is in
    let E2 = with_type y.exact (hand_at t us) p in
    let at_hand : E2 (hand_at t us) ≡ p = key_same (hand_at t us) p (y.exact (hand_at t us)) in
    let empty = gone_there in
    record {
      typing = typing_with y E2 y.marks;
      names = refl;
      types = refl;
      at = record {
        state = hand_changed y a a2 t x (record { place = push_place e us g k v x.place; slots = x.slots }) e us us (k ∷ us) None (Some k) g E2 (seen_as y.gives t gone_v (Some v)) h.state h.runs h.entry fc only objects refl top_some (λ q. cc) refl (ap suc long)
            (λ i ne. ap (seen_as y.gives t gone_v) (pushed_others v x.place.temps i (length us) (sym long) ne))
            (ap (seen_as y.gives t gone_v) (pushed_here v x.place.temps (length us) (sym long)))
            (rehung (slot_k t) y.rank (hand_at t us) e y.exact (store y a) (put_value (store y a) (at_key (hand_at t us)) (seen_as y.gives t gone_v (Some v))) None (Some k) p fc.keys fc.thread typed (subst (ExactOf (slot_k t) E2 (whole k)) (sym at_hand) exact) names off)
            (λ j ne. key_other j (hand_at t us) p (y.exact j) ne)
            (λ m u q. new m u (sym at_hand ∙ q))
            (λ c. subst Counted empty c)
            plain;
        runs = ap place_in only.now ∙ runs_still (a.thread t) x (record { place = push_place e us g k v x.place; slots = x.slots }) h.runs;
        entry = refl;
      };
    }
  where
    gone_there : (store y a).at (hand_at t us) ≡ gone_v
    gone_there = top_fits y.rank y.exact (store y a) h.state.typed (hand_at t us) hole fc.thread.temp

    off : (m : Bool) (u : Place) → p ≡ refers m u → u.key ≢ hand_at t us
    off m u q = by (new m u q)
      where
        by : NewName y t x m u → u.key ≢ hand_at t us
        by (inl z) f = let n = h.state.near z.0 m u z.2 in let b : slot_k n.owner n.slot ≡ hand_at t us = sym n.is ∙ f in absurd cc
        by (inr z) f = let b : slot_k t z.0 ≡ hand_at t us = sym z.1 ∙ f in absurd cc

-- POP

-- the value at hand, which owns and counts nothing, ends
pub pop : (y : Typing) (a a2 : PlainState Position) (t : ℕ) (x : Running Position) (e : Env) (us : List Kind) (g : Owned) (k : Kind) (v : Value) (vs : List Value)
    → At y a t x e (k ∷ us) g
    → Focus y a t e us (Some k)
    → wait us ≡ true
    → x.place.temps ≡ v ∷ vs
    → Only a a2 t (record { place = record { entry = going e us g; temps = vs }; slots = x.slots })
    → ((o : ObjNo) → a2.object o ≡ a.object o)
    → (Counted ((store y a).at (hand_at t us)) → ⊥)
    → Becomes y a2 t (record { place = record { entry = going e us g; temps = vs }; slots = x.slots }) e us g
pop y a a2 t x e us g k v vs h fc waits temps only objects plain =
    let r = h.state.threads t x h.runs in
    let is : r.entry ≡ going e (k ∷ us) g = sym r.known ∙ h.entry in
    let long : length x.place.temps ≡ suc (length us) = r.all_temps ∙ ap (λ (z : Entry). length z.temps) is in
    let short : length vs ≡ length us = let q = ap length temps in omega (arith, q, long) in
    let E2 = with_type y.exact (hand_at t us) (owns hole) in
    let at_hand : E2 (hand_at t us) ≡ owns hole = key_same (hand_at t us) (owns hole) (y.exact (hand_at t us)) in
    let x2 : Running Position = record { place = record { entry = going e us g; temps = vs }; slots = x.slots } in
    record {
      typing = typing_with y E2 y.marks;
      names = refl;
      refs = none_owns y.exact (hand_at t us) hole;
      at = record {
        state = hand_changed y a a2 t x x2 e (k ∷ us) us us (Some k) None g E2 gone_v h.state h.runs h.entry fc only objects refl top_none (λ q. waits) refl short
            (λ i ne. sym (ap (λ z. seen_as y.gives t gone_v (slot_at z i)) temps ∙ ap (seen_as y.gives t gone_v) (pushed_others v vs i (length us) (sym short) ne)))
            (ap (seen_as y.gives t gone_v) (temp_none vs (length us) (omega (arith, short))))
            (rehung (slot_k t) y.rank (hand_at t us) e y.exact (store y a) (put_value (store y a) (at_key (hand_at t us)) gone_v) (Some k) None (owns hole) fc.keys fc.thread (forget y.rank y.exact (store y a) (hand_at t us) h.state.typed fc.thread.quiet) at_hand tt (λ m u q. absurd cc))
            (λ j ne. key_other j (hand_at t us) (owns hole) (y.exact j) ne)
            (λ m u q. let f : owns hole ≡ refers m u = sym at_hand ∙ q in absurd cc)
            plain
            (λ c. c);
        runs = ap place_in only.now ∙ runs_still (a.thread t) x x2 h.runs;
        entry = refl;
      };
    }

-- CONSTANTS

-- the store with a new value at hand that owns nothing
pub typed_new : (rank : Key → ℕ) (E : KeyTypes) (s : Store) (a : Key) (x : Tree) (v : Val) → Typed rank E s → Unnamed E a → New rank E s a (owns x) v → Typed rank (with_type E a (owns x)) (put_value s (at_key a) v)
typed_new rank E s a x v typed quiet n =
    set rank E (with_type E a (owns x)) s (put_value s (at_key a) v) a typed quiet (λ j ne. key_other j a (owns x) (E j) ne) (put_other s (at_key a) v)
    (subst (λ q. New rank E s a q (if same_key a a then v else s.at a)) (sym (key_same a (owns x) (E a))) (subst (New rank E s a (owns x)) (sym (key_same a v (s.at a))) n))

-- only that thread, in a state that differs there already
pub put_running : PlainState Position → ℕ → Running Position → PlainState Position
put_running a t x = record a { thread = λ u. if u == t then with_running (a.thread t) x else a.thread u }

pub only_put : (a : PlainState Position) (t : ℕ) (x : Running Position) → Only a (put_running a t x) t x
unfolding put_running
only_put a t x = record {
  now = eq_cases (λ b. (if b then with_running (a.thread t) x else a.thread t) ≡ with_running (a.thread t) x) t t (λ q. refl) (λ ne. absurd (ne refl));
  others = λ u ne. eq_cases (λ b. (if b then with_running (a.thread t) x else a.thread u) ≡ a.thread u) u t (λ q. absurd (ne q)) (λ z. refl);
  pairs = λ u. refl;
  mutexes = λ m. refl;
  given = λ m. refl;
  made = λ u. omega arith;
}

pub objects_put : (a : PlainState Position) (t : ℕ) (x : Running Position) → (o : ObjNo) → (put_running a t x).object o ≡ a.object o
unfolding put_running
objects_put a t x o = refl

made_put : (a : PlainState Position) (t : ℕ) (x : Running Position) → (u : ℕ) → (put_running a t x).made u ≡ a.made u
unfolding put_running
made_put a t x u = refl

pub with_twice : (l : Option (Life (Running Position))) (x z : Running Position) → with_running (with_running l x) z ≡ with_running l z
with_twice None x z = refl
with_twice (Some (alive q)) x z = refl
with_twice (Some over) x z = refl
with_twice (Some (owing q)) x z = refl
with_twice (Some (loose q)) x z = refl
with_twice (Some (ended v)) x z = refl

-- after such a change, the rest is as before
pub only_after : (a a2 : PlainState Position) (t : ℕ) (x z : Running Position) → Only a a2 t z → Only (put_running a t x) a2 t z
only_after a a2 t x z h =
    let p = only_put a t x in
    record {
      now = h.now ∙ sym (ap (λ l. with_running l z) p.now ∙ with_twice (a.thread t) x z);
      others = λ u ne. h.others u ne ∙ sym (p.others u ne);
      pairs = λ u. h.pairs u ∙ sym (p.pairs u);
      mutexes = λ m. h.mutexes m ∙ sym (p.mutexes m);
      given = λ m. h.given m ∙ sym (p.given m);
      made = λ u. subst (λ n. n ≤ a2.made u) (sym (made_put a t x u)) (h.made u);
    }
