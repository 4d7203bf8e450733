-- The hand of a thread: the key of the temporary value that an act takes or leaves, above left operands that wait.
use Rattle.std.proofs.Common.{◌≡◌, ◌≢◌, ◌⊎◌, inl, inr, ◌∙◌, ℕ, zero, suc, ◌<◌, ◌≤◌, Bool, true, false, List, [], ◌∷◌, length, Option, Some, None, refl, sym, ap, subst, arith}
use Rattle.std.specs.Prelude.{◌==◌, ◌&&◌, is_some, if◌then◌else◌}
use Rattle.fr_base.specs.declared.name.MutexNo.{MutexNo}
use Rattle.fr_typing.specs.Kinds.{Owned, unit, int, box, mutex, task, Kind, own, shared, mutable, view, whole}
use Rattle.fr_typing.specs.Places.{Env}
use Rattle.fr_typing.specs.Checks.{is_int}
use Rattle.fr_store.specs.Keys.{Key, slot_k, temp_k}
use Rattle.fr_store.specs.Store.{Location, gone_v, Store}
use Rattle.fr_store.specs.Typed.{Tree, hole, unit_tree, int_tree, mutex_tree, task_tree, box_tree, TopFits, Exact, owns, refers, KeyTypes, Typed, Unnamed}
use Rattle.fr_store.specs.Below.{ExactOf}
use Rattle.fr_store.specs.Thread.{ThreadKeys, ThreadTyped}
use Rattle.fr_store.proofs.Keys.{decide_number}
use Rattle.fr_store.proofs.Sound.{ref_at}
use Rattle.fr_store.proofs.Rows.{top_fits}
use Rattle.fr_store.proofs.ThreadKept.{no_temp, exact_owned}
use Rattle.fr_plain.specs.declared.value.Value.{Value}
use Rattle.fr_plain.specs.declared.value.Value.TheVariants.{Own, ToSlot, ToObject, Held}
use Rattle.fr_plain.specs.State.{slot_at}
use Rattle.fr_plain.specs.PlainState.{Running, PlainState, place_in}
use Rattle.fr_sound.specs.Entries.{Entry, going}
use Rattle.fr_sound.specs.States.{Typing, temp_val, RunningTyped, IsThread, hand_key, hand_kind, operands, env_at, is_hidden, is_held, IsLock}
use Rattle.fr_code.specs.CodeTypes.{wait}
use Rattle.law_plain_values.specs.acts.Positions.{Position, Knows, temps_of, PositionTypes}
use Rattle.law_plain_values.proofs.acts.OneThread.{store, typing_with, RunningCore, same_by}
use Rattle.law_plain_values.proofs.acts.Lower.{seen_as}

-- types that wait are int
pub both_true : (a b : Bool) → (a && b) ≡ true → (a ≡ true) × (b ≡ true)
both_true true b h = (refl, h)
both_true false b h = cc

pub int_kind : (k : Kind) → is_int k ≡ true → k ≡ own int
int_kind (own int) h = refl
int_kind (own unit) h = cc
int_kind (own (box x)) h = cc
int_kind (own (mutex x)) h = cc
int_kind (own (task x)) h = cc
int_kind (shared us) h = cc
int_kind (mutable us) h = cc
int_kind (view x) h = cc

pub first_waits : (k : Kind) (ts : List Kind) → wait (k ∷ ts) ≡ true → (k ≡ own int) × (wait ts ≡ true)
first_waits k ts h = let b = both_true (is_int k) (wait ts) h in (int_kind k b.0, b.1)

-- where nothing stands the type is a hole
pub hole_there : (rank : Key → ℕ) (E : KeyTypes) (s : Store) (k : Key) → Typed rank E s → s.at k ≡ gone_v → E k ≡ owns hole
hole_there rank E s k t h = by (E k) refl
  where
    tree : (x : Tree) → TopFits x gone_v → x ≡ hole
    tree hole f = refl
    tree unit_tree f = cc
    tree int_tree f = let g = f.1 in cc
    tree (mutex_tree c) f = let g = f.1 in cc
    tree (task_tree c) f = let g = f.1 in cc
    tree (box_tree c) f = let g = f.1 in cc

    by : (p : Exact) → E k ≡ p → E k ≡ owns hole
    by (owns x) e = e ∙ ap owns (tree x (subst (TopFits x) h (top_fits rank E s t k x e)))
    by (refers m u) e = let r = ref_at rank E s t k m u e in let f = sym h ∙ r.is in cc

-- THE HAND

-- the temporary values before an act or after it: those that wait, and the one at hand, if there is one
pub data Tops : List Kind → Option Kind → List Kind → Type 0 where
  top_none : {us : List Kind} → Tops us None us
  top_some : {us : List Kind} {k : Kind} → Tops us (Some k) (k ∷ us)

abbrev pub hand_at : ℕ → List Kind → Key
hand_at t us = temp_k t (length us)

-- a thread of a typed state with its hand above what waits
pub record Focus (y : Typing) (a : PlainState Position) (t : ℕ) (e : Env) (us : List Kind) (o : Option Kind) : Type 0 where
  pub ints : (i : ℕ) → i < length us → y.exact (temp_k t i) ≡ owns int_tree
  pub keys : ThreadKeys (slot_k t) y.rank (hand_at t us)
  pub thread : ThreadTyped (slot_k t) y.rank (hand_at t us) e y.exact (store y a) o
  pub high : (i n : ℕ) → i ≤ length e → y.rank (slot_k t i) < y.rank (temp_k t n)

-- the hand goes from a key that has an int, or nothing, to a free one
pub to_free : (key : ℕ → Key) (rank : Key → ℕ) (h c : Key) (e : Env) (E : KeyTypes) (s : Store) (o : Option Kind) (x : Tree) → ThreadTyped key rank h e E s o → E h ≡ owns x → E c ≡ owns hole → Unnamed E c → ((i : ℕ) → i < length e → rank (key i) < rank c) → ThreadTyped key rank c e E s None
to_free key rank h c e E s o x t eh ec free over = record {
  typed = t.typed;
  nested = t.nested;
  slots = t.slots;
  above = t.above;
  temp = ec;
  names = tt;
  quiet = free;
  over = over;
  alone = λ j m u js ne. t.alone j m u js (λ z. let g : owns x ≡ refers m u = sym eh ∙ ap E (sym z) ∙ js in cc);
}

-- and back to an int that waits
pub to_int : (key : ℕ → Key) (rank : Key → ℕ) (h c : Key) (e : Env) (E : KeyTypes) (s : Store) → ThreadTyped key rank c e E s None → E h ≡ owns int_tree → Unnamed E h → ((i : ℕ) → i < length e → rank (key i) < rank h) → ThreadTyped key rank h e E s (Some (own int))
to_int key rank h c e E s t eh free over = record {
  typed = t.typed;
  nested = t.nested;
  slots = t.slots;
  above = t.above;
  temp = subst (ExactOf key E (whole (own int))) (sym eh) refl;
  names = tt;
  quiet = free;
  over = over;
  alone = λ j m u js ne. t.alone j m u js (λ z. no_temp E c m u t.temp (ap E (sym z) ∙ js));
}

keys_at : (t : ℕ) (rank : Key → ℕ) (h : Key) (n : ℕ) → ThreadKeys (slot_k t) rank h → ThreadKeys (slot_k t) rank (temp_k t n)
keys_at t rank h n k = record { differ = k.differ; off = λ i e. absurd cc; ranks = k.ranks }

-- no type names a temporary value
pub temp_free : (y : Typing) (a : PlainState Position) (t n : ℕ) → PositionTypes y a → Unnamed y.exact (temp_k t n)
temp_free y a t n st j m u is e = let w = st.near j m u is in let f : slot_k w.owner w.slot ≡ temp_k t n = sym w.is ∙ e in absurd cc

-- a slot above all temporary values is none
pub temp_none : (vs : List Value) (n : ℕ) → length vs ≤ n → slot_at vs n ≡ None
temp_none [] n le = refl
temp_none (v ∷ vs) n le = by (temp_none vs n) (n == length vs) refl
  where
    by : (length vs ≤ n → slot_at vs n ≡ None) → (b : Bool) → (n == length vs) ≡ b → slot_at (v ∷ vs) n ≡ None
    by rest true e = absurd (let f = same_by n (length vs) e in omega (arith, f, le))
    by rest false e = ap (λ c. if c then Some v else slot_at vs n) e ∙ rest (omega (arith, le))

-- a temporary value, as the store shows it
pub temp_is : (y : Typing) (t i : ℕ) (x : Running Position) → temp_val temps_of y t i (Some x) ≡ seen_as y.gives t gone_v (slot_at x.place.temps i)
temp_is y t i x = by (slot_at x.place.temps i) refl
  where
    by : (o : Option Value) → slot_at x.place.temps i ≡ o → temp_val temps_of y t i (Some x) ≡ seen_as y.gives t gone_v (slot_at x.place.temps i)
    by None e = rw e refl
    by (Some (Held m)) e = rw e refl
    by (Some (Own v)) e = rw e refl
    by (Some (ToSlot j)) e = rw e refl
    by (Some (ToObject q)) e = rw e refl

module _ (y : Typing) (a : PlainState Position) (t : ℕ) (x : Running Position) (e : Env) (ts : List Kind) (g : Owned) (st : PositionTypes y a) (runs : place_in (a.thread t) ≡ Some x) (at : x.place.entry ≡ going e ts g) (big : (i n : ℕ) → i ≤ length e → y.rank (slot_k t i) < y.rank (temp_k t n)) where
  mine : RunningTyped Knows temps_of y (store y a) t (a.pair t) x
  mine = st.threads t x runs

  entry_is : mine.entry ≡ going e ts g
  entry_is = sym mine.known ∙ at

  thread_is : ThreadTyped (slot_k t) y.rank (hand_key t ts) e y.exact (store y a) (hand_kind ts)
  thread_is = subst (λ (z : Entry). IsThread z.forked (slot_k t) y.rank (hand_key t z.temps) z.env y.exact (store y a) (hand_kind z.temps)) entry_is mine.thread

  waits_are : (i : ℕ) → i < operands ts → y.exact (temp_k t i) ≡ owns int_tree
  waits_are = subst (λ (z : Entry). (i : ℕ) → i < operands z.temps → y.exact (temp_k t i) ≡ owns int_tree) entry_is mine.waiting

  keys_are : (n : ℕ) → ThreadKeys (slot_k t) y.rank (temp_k t n)
  keys_are n = keys_at t y.rank (hand_key t mine.entry.temps) n mine.keys

  as_many_temps : length x.place.temps ≡ length ts
  as_many_temps = mine.all_temps ∙ ap (λ (z : Entry). length z.temps) entry_is

  -- beyond the temporary values is nothing
  beyond : (n : ℕ) → length ts ≤ n → y.exact (temp_k t n) ≡ owns hole
  beyond n le =
      hole_there y.rank y.exact (store y a) (temp_k t n) st.typed
      (ap (temp_val temps_of y t n) runs ∙ temp_is y t n x ∙ ap (seen_as y.gives t gone_v) (temp_none x.place.temps n (omega (arith, le, as_many_temps))))

  -- THE HAND IS ABOVE WHAT WAITS
  pub focus : (us : List Kind) (o : Option Kind) → Tops us o ts → (o ≡ None → wait us ≡ true) → Focus y a t e us o
  focus us o tops w = by us o ts tops w refl
    where
      free_hand : (us : List Kind) → ts ≡ us → wait us ≡ true → Focus y a t e us None
      free_hand [] q w = record {
        ints = λ i l. absurd (omega (arith, l));
        keys = keys_are zero;
        thread = subst (λ z. ThreadTyped (slot_k t) y.rank (hand_key t z) e y.exact (store y a) (hand_kind z)) q thread_is;
        high = big;
      }
      free_hand (k ∷ us) q w =
          let f = first_waits k us w in
          let th : ThreadTyped (slot_k t) y.rank (temp_k t (length us)) e y.exact (store y a) (Some k) = subst (λ z. ThreadTyped (slot_k t) y.rank (hand_key t z) e y.exact (store y a) (hand_kind z)) q thread_is in
          let is : y.exact (temp_k t (length us)) ≡ owns int_tree = exact_owned (slot_k t) y.exact int (y.exact (temp_k t (length us))) (subst (λ z. ExactOf (slot_k t) y.exact (whole z) (y.exact (temp_k t (length us)))) f.0 th.temp) in
          record {
            ints = ints_all (length us) is (subst (λ z. (i : ℕ) → i < operands z → y.exact (temp_k t i) ≡ owns int_tree) q waits_are);
            keys = keys_are (suc (length us));
            thread = to_free (slot_k t) y.rank (temp_k t (length us)) (temp_k t (suc (length us))) e y.exact (store y a) (Some k) int_tree th is (beyond (suc (length us)) (let l = ap length q in omega (arith, l))) (temp_free y a t (suc (length us)) st) (λ i l. big i (suc (length us)) (omega (arith, l)));
            high = big;
          }
        where
          ints_all : (n : ℕ) → y.exact (temp_k t n) ≡ owns int_tree → ((i : ℕ) → i < n → y.exact (temp_k t i) ≡ owns int_tree) → (i : ℕ) → i < suc n → y.exact (temp_k t i) ≡ owns int_tree
          ints_all n is f i l = cases (decide_number i n)
            where
              cases : (i ≡ n) ⊎ (i ≢ n) → y.exact (temp_k t i) ≡ owns int_tree
              cases (inl same) = ap (λ z. y.exact (temp_k t z)) same ∙ is
              cases (inr ne) = f i (omega (arith, l, ne))

      by : (us : List Kind) (o : Option Kind) (rs : List Kind) → Tops us o rs → (o ≡ None → wait us ≡ true) → ts ≡ rs → Focus y a t e us o
      by us _ _ top_none w q = free_hand us q (w refl)
      by us _ _ (top_some {k = k}) w q = record {
        ints = subst (λ z. (i : ℕ) → i < operands z → y.exact (temp_k t i) ≡ owns int_tree) q waits_are;
        keys = keys_are (length us);
        thread = subst (λ z. ThreadTyped (slot_k t) y.rank (hand_key t z) e y.exact (store y a) (hand_kind z)) q thread_is;
        high = big;
      }

-- AFTER AN ACT

-- what is known of the thread after an act that leaves the hand above what waits
pub unfocus : (y : Typing) (a a2 : PlainState Position) (t : ℕ) (e e2 : Env) (us ts2 : List Kind) (o o2 : Option Kind) (g : Owned) (E2 : KeyTypes) (M2 : ℕ → ℕ → Location) (x2 : Running Position)
    → Focus y a t e us o → Tops us o2 ts2 → (o2 ≡ None → wait us ≡ true)
    → ThreadTyped (slot_k t) y.rank (hand_at t us) e2 E2 (store (typing_with y E2 M2) a2) o2
    → ((i : ℕ) → i < length us → E2 (temp_k t i) ≡ y.exact (temp_k t i))
    → ((n : ℕ) → Unnamed E2 (temp_k t n))
    → ((i : ℕ) → i < length e2 → (n : ℕ) → y.rank (slot_k t i) < y.rank (temp_k t n))
    → x2.place.entry ≡ going e2 ts2 g
    → g ≡ y.gives.result t
    → a2.pair t ≡ None
    → length x2.slots ≡ length e2
    → length x2.place.temps ≡ length ts2
    → ((i : ℕ) → is_hidden (env_at e2 i) ≡ is_held (slot_at x2.slots i))
    → ((i : ℕ) (m : MutexNo) → slot_at x2.slots i ≡ Some (Held m) → IsLock (typing_with y E2 M2) (store (typing_with y E2 M2) a2) e2 t i m)
    → RunningCore (typing_with y E2 M2) (store (typing_with y E2 M2) a2) t (a2.pair t) x2
unfocus y a a2 t e e2 us ts2 o o2 g E2 M2 x2 fc tops idle th stay free high at gives alone slots temps hidden marked = by us o2 ts2 tops idle fc.ints th stay at temps (keys_at t y.rank (hand_at t us) zero fc.keys)
  where
    over : (n i : ℕ) → i < length e2 → y.rank (slot_k t i) < y.rank (temp_k t n)
    over n i l = high i l n

    made : (us : List Kind) (ts2 : List Kind) → x2.place.entry ≡ going e2 ts2 g → length x2.place.temps ≡ length ts2 → ThreadKeys (slot_k t) y.rank (temp_k t zero)
        → ThreadTyped (slot_k t) y.rank (hand_key t ts2) e2 E2 (store (typing_with y E2 M2) a2) (hand_kind ts2) → ((i : ℕ) → i < operands ts2 → E2 (temp_k t i) ≡ owns int_tree) → RunningCore (typing_with y E2 M2) (store (typing_with y E2 M2) a2) t (a2.pair t) x2
    made us ts2 at temps ks th ints = record {
      entry = going e2 ts2 g;
      known = at;
      gives = gives;
      keys = key_of ts2;
      thread = th;
      waiting = ints;
      all_slots = slots;
      all_temps = temps;
      forks = sym (ap is_some alone);
      hidden = hidden;
      marked = marked;
    }
      where
        key_of : (ts : List Kind) → ThreadKeys (slot_k t) y.rank (hand_key t ts)
        key_of [] = ks
        key_of (k ∷ ts) = keys_at t y.rank (temp_k t zero) (length ts) ks

    by : (us : List Kind) (o2 : Option Kind) (ts2 : List Kind) → Tops us o2 ts2 → (o2 ≡ None → wait us ≡ true) → ((i : ℕ) → i < length us → y.exact (temp_k t i) ≡ owns int_tree) → ThreadTyped (slot_k t) y.rank (hand_at t us) e2 E2 (store (typing_with y E2 M2) a2) o2
        → ((i : ℕ) → i < length us → E2 (temp_k t i) ≡ y.exact (temp_k t i)) → x2.place.entry ≡ going e2 ts2 g → length x2.place.temps ≡ length ts2 → ThreadKeys (slot_k t) y.rank (temp_k t zero) → RunningCore (typing_with y E2 M2) (store (typing_with y E2 M2) a2) t (a2.pair t) x2
    by us _ _ (top_some {k = k}) w ints th stay at temps ks = made us (k ∷ us) at temps ks th (λ i l. stay i l ∙ ints i l)
    by [] _ _ top_none w ints th stay at temps ks = made [] [] at temps ks th (λ i l. absurd (omega (arith, l)))
    by (k ∷ us) _ _ top_none w ints th stay at temps ks =
        let f = first_waits k us (w refl) in
        let is : E2 (temp_k t (length us)) ≡ owns int_tree = stay (length us) (omega arith) ∙ ints (length us) (omega arith) in
        made (k ∷ us) (k ∷ us) at temps ks
        (subst (λ z. ThreadTyped (slot_k t) y.rank (temp_k t (length us)) e2 E2 (store (typing_with y E2 M2) a2) (Some z)) (sym f.0) (to_int (slot_k t) y.rank (temp_k t (length us)) (temp_k t (suc (length us))) e2 E2 (store (typing_with y E2 M2) a2) th is (free (length us)) (over (length us))))
        (λ i l. stay i (omega (arith, l)) ∙ ints i (omega (arith, l)))
