-- A typed state after one thread's act: that thread, and the others.
use Rattle.std.specs.Prelude.{◌⊎◌, ◌+◌, ⊤, if◌then◌else◌}
use Rattle.std.proofs.Common.{◌≡◌, ◌≢◌, inl, inr, ⊎_elim, ℕ, ◌≤◌, Bool, true, List, [], length, Option, Some, None, refl, sym, ap, ◌∙◌, subst, arith}
use Rattle.fr_plain.specs.Below.fr_typing.Kinds.{Kind, own}
use Rattle.fr_plain.specs.Below.fr_typing.Places.{Env}
use Rattle.fr_plain.proofs.Below.fr_typing.PlaceLemmas.{eq_cases}
use Rattle.fr_store.specs.Keys.{Key, slot_k, temp_k, content_k, result_k, hand_k}
use Rattle.fr_store.specs.Store.{Alike, Val, gone_v, unit_v, int_v, box_v, mutex_v, task_v, ref_v, at_key, at_object, Store}
use Rattle.fr_store.specs.ListState.{slot_value}
use Rattle.fr_store.specs.Typed.{KeyTypes, Typed}
use Rattle.fr_store.specs.Local.{thread_of, IsLocal}
use Rattle.fr_store.specs.Thread.{ThreadTyped}
use Rattle.fr_store.proofs.Keys.{decide_number}
use Rattle.fr_store.proofs.Rows.{same_store}
use Rattle.fr_store.proofs.OtherThreads.{alike_row}
use Rattle.fr_plain.specs.declared.value.Value.{Value}
use Rattle.fr_plain.specs.Heap.{Heap}
use Rattle.fr_plain.specs.Run.{Run, Life, alive, over, owing, loose, ended}
use Rattle.fr_plain.specs.Threads.{result_of_life}
use Rattle.fr_plain.specs.Whole.{Thread, Whole, thread_at, with_thread}
use Rattle.fr_sound.specs.RunTypes.{threads, RunTypes}
use Rattle.fr_sound.specs.Seen.{Gives, vals, hand_of, seen, rank_of, IsKnown, AreKnown, Holds}
use Rattle.fr_sound.specs.Together.{HasNeither, held_life, slot_in, hand_in, result_val, seen_all, is_owed, owed_by, owed_in, IsRunning, IsTypedIn, AreTyped}
use Rattle.fr_sound.proofs.Known.{known_alike, known_more}
use Rattle.fr_sound.proofs.ActsHold.{raised_store, raised_thread}
use Rattle.fr_sound.proofs.Focus.{with_same, with_other, beside_of, other_thread}

-- a life's term is typed in that environment
abbrev pub TypesLife : Gives → ℕ → Life → Env → Option Kind → Type 0
TypesLife g t (alive r) e o = (k : Kind) × RunTypes threads e o r k []
TypesLife g t over e o = ⊤
TypesLife g t (owing r) e o = RunTypes threads e o r (own (g.result t)) []
TypesLife g t (loose r) e o = (k : Kind) × RunTypes threads e o r k []
TypesLife g t (ended v) e o = ⊥

-- a thread's typing over a store, from its environment
pub typed_in : {e : Env} {o : Option Kind} (g : Gives) (high : ℕ) (E : KeyTypes) (s : Store) (t : ℕ) (slots : List Value) (l : Life) → ThreadTyped (slot_k t) (rank_of high) (hand_k t) e E s o → length slots ≡ length e → length e ≤ high → TypesLife g t l e o → IsTypedIn g high E s t slots l
typed_in g high E s t slots (alive r) y long low types = (types.0, record { env = _; temp = _; types = types.1; thread = y; long = long; low = low })
typed_in g high E s t slots over y long low types = tt
typed_in g high E s t slots (owing r) y long low types = record { env = _; temp = _; types = types; thread = y; long = long; low = low }
typed_in g high E s t slots (loose r) y long low types = (types.0, record { env = _; temp = _; types = types.1; thread = y; long = long; low = low })
typed_in g high E s t slots (ended v) y long low types = absurd types

-- the exact types after a change that leaves thread u alone
pub record Stays (u high high2 : ℕ) (E E2 : KeyTypes) (s2 : Store) : Type 0 where
  pub higher : high ≤ high2
  pub local : IsLocal E
  pub local2 : IsLocal E2
  pub kept : (k : Key) → thread_of k ≡ Some u → E2 k ≡ E k
  pub typed : Typed (rank_of high2) E2 s2

-- a running term of another thread stays typed
pub other_running : {g : Gives} {high high2 u : ℕ} {E E2 : KeyTypes} {s s2 : Store} {slots : List Value} {r : Run} {k : Kind} → Stays u high high2 E E2 s2 → IsRunning g high E s u slots r k → IsRunning g high2 E2 s2 u slots r k
other_running {high = high} {high2 = high2} {u = u} {E2 = E2} {s2 = s2} c z =
    let le = c.higher in
    let low = z.low in
    record {
      env = z.env;
      temp = z.temp;
      types = z.types;
      thread = other_thread u high2 E2 s2 c.local c.local2 c.kept c.typed (raised_thread u high high2 c.higher c.local z.thread);
      long = z.long;
      low = omega (arith, le, low);
    }

-- and so each other thread
pub other_typed : {high high2 u : ℕ} {E E2 : KeyTypes} {s2 : Store} (g : Gives) (s : Store) (slots : List Value) (l : Life) → Stays u high high2 E E2 s2 → E2 (result_k u) ≡ E (result_k u) → IsTypedIn g high E s u slots l → IsTypedIn g high2 E2 s2 u slots l
other_typed g s slots (alive r) c e z = (z.0, other_running c z.1)
other_typed g s slots over c e z = tt
other_typed g s slots (owing r) c e z = other_running c z
other_typed g s slots (loose r) c e z = (z.0, other_running c z.1)
other_typed g s slots (ended v) c e z = e ∙ z

-- the thread after an act
abbrev pub after_thread : Thread → Life → List Value → Thread
after_thread x l slots = record { number = x.number; life = l; slots = slots }

-- what is known with other owed threads, where the same are owed
pub known_owed : (f g : ℕ → Bool) (h : Heap) (s : Store) → ((u : ℕ) → f u ≡ true → g u ≡ true) → AreKnown (IsKnown f h) s → AreKnown (IsKnown g h) s
known_owed f g h s more k = known_more (IsKnown f h) (IsKnown g h) s by k
  where
    by : (v : Val) → IsKnown f h v → IsKnown g h v
    by gone_v p = tt
    by unit_v p = tt
    by (int_v n) p = tt
    by (box_v o) p = p
    by (mutex_v m r) p = tt
    by (task_v t r) p = more t p
    by (ref_v l) p = tt

module _ (g : Gives) (E : KeyTypes) (ts : List Thread) (x : Thread) (found : thread_at ts x.number ≡ Some x) (l2 : Life) (slots2 : List Value) where
  -- the threads after an act
  abbrev pub threads_after : List Thread
  threads_after = with_thread ts (after_thread x l2 slots2)

  -- what is found there
  found_after : thread_at threads_after x.number ≡ Some (after_thread x l2 slots2)
  found_after = with_same ts x (after_thread x l2 slots2) found

  pub kept_after : (u : ℕ) → u ≢ x.number → thread_at threads_after u ≡ thread_at ts u
  kept_after u ne = with_other ts (after_thread x l2 slots2) u ne

  -- what the thread sees is what all see
  pub unfocus_alike : (heap2 : Heap) (rest : Whole) → result_of_life l2 ≡ None → result_of_life x.life ≡ None
      → Alike (seen (beside_of g E ts) (record { thread = x.number; slots = slots2; heap = heap2 }) (held_life l2)) (seen_all g (record rest { threads = threads_after; heap = heap2 }))
  unfocus_alike heap2 rest none2 none (at_object o) = refl
  unfocus_alike heap2 rest none2 none (at_key (slot_k u n)) =
      ap Some (eq_cases (λ b. slot_in g u (thread_at threads_after u) n ≡ (if b then slot_value (vals g x.number slots2) n else slot_in g u (thread_at ts u) n)) u x.number
      (λ e. ap (λ z. slot_in g z (thread_at threads_after z) n) e ∙ ap (λ z. slot_in g x.number z n) found_after) (λ ne. ap (λ z. slot_in g u z n) (kept_after u ne)))
  unfocus_alike heap2 rest none2 none (at_key (temp_k u n)) = refl
  unfocus_alike heap2 rest none2 none (at_key (content_k u n)) = refl
  unfocus_alike heap2 rest none2 none (at_key (result_k u)) =
      ap Some (⊎_elim
      (λ (e : u ≡ x.number). ap (λ z. result_val g z (thread_at threads_after z)) e ∙ ap (result_val g x.number) found_after ∙ ap (hand_of g x.number) none2 ∙ sym (ap (λ z. result_val g z (thread_at ts z)) e ∙ ap (result_val g x.number) found ∙ ap (hand_of g x.number) none))
      (λ (ne : u ≢ x.number). ap (result_val g u) (kept_after u ne)) (decide_number u x.number))
  unfocus_alike heap2 rest none2 none (at_key (hand_k u)) =
      ap Some (eq_cases (λ b. hand_in g u (thread_at threads_after u) ≡ (if b then hand_of g x.number (held_life l2) else hand_in g u (thread_at ts u))) u x.number
      (λ e. ap (λ z. hand_in g z (thread_at threads_after z)) e ∙ ap (hand_in g x.number) found_after) (λ ne. ap (hand_in g u) (kept_after u ne)))

  -- the same threads are owed
  pub owed_after : is_owed l2 ≡ is_owed x.life → (u : ℕ) → owed_in ts u ≡ owed_in threads_after u
  owed_after same u = ⊎_elim
      (λ (e : u ≡ x.number). ap (λ z. owed_by (thread_at ts z)) e ∙ ap owed_by found ∙ sym same ∙ sym (ap (λ z. owed_by (thread_at threads_after z)) e ∙ ap owed_by found_after))
      (λ (ne : u ≢ x.number). sym (ap owed_by (kept_after u ne))) (decide_number u x.number)

-- a typed state with these types of results
pub record TypedWith (g : Gives) (s : Whole) : Type 0 where
  pub together : AreTyped s
  pub same : together.gives ≡ g

-- the threads beside thread t, typed over a store
pub record Base (g : Gives) (t : ℕ) (ts : List Thread) : Type 0 where
  pub high : ℕ
  pub types : KeyTypes
  pub store : Store
  pub local : IsLocal types
  pub each : (u : ℕ) (w : Thread) → u ≢ t → thread_at ts u ≡ Some w → IsTypedIn g high types store u w.slots w.life

-- those of a typed state
abbrev pub base_of : {s : Whole} (y : AreTyped s) (t : ℕ) → Base y.gives t s.threads
base_of {s = s} y t = record { high = y.high; types = y.types; store = seen_all y.gives s; local = y.local; each = λ u w ne is. y.each u w is }

-- the state is typed again after an act of one thread
module _ (g : Gives) (x : Thread) (ts : List Thread) (y : Base g x.number ts) (found : thread_at ts x.number ≡ Some x) (l2 : Life) (slots2 : List Value) (heap2 : Heap) (rest : Whole) (neither : HasNeither rest) (e2 : Env) (o2 : Option Kind)
    (z : Holds (beside_of g y.types ts) e2 o2 (held_life l2) (record { thread = x.number; slots = slots2; heap = heap2 })) (none2 : result_of_life l2 ≡ None) (none : result_of_life x.life ≡ None) (same : is_owed l2 ≡ is_owed x.life) (types : TypesLife g x.number l2 e2 o2) where
  abbrev after : Whole
  after = record rest { threads = with_thread ts (after_thread x l2 slots2); heap = heap2 }

  abbrev before : Store
  before = seen (beside_of g y.types ts) (record { thread = x.number; slots = slots2; heap = heap2 }) (held_life l2)

  alike : Alike before (seen_all g after)
  alike = unfocus_alike g y.types ts x found l2 slots2 heap2 rest none2 none

  abbrev high2 : ℕ
  high2 = y.high + z.high

  typed : Typed (rank_of high2) z.types (seen_all g after)
  typed = same_store (rank_of high2) z.types z.types before (seen_all g after) (raised_store z.high high2 (omega arith) z.beside.own z.thread.typed) (λ k. refl) alike

  mine : (w : Thread) → thread_at after.threads x.number ≡ Some w → IsTypedIn g high2 z.types (seen_all g after) x.number w.slots w.life
  mine w is =
      let low = z.low in
      let same2 : after_thread x l2 slots2 ≡ w = let f : Some (after_thread x l2 slots2) ≡ Some w = sym (with_same ts x (after_thread x l2 slots2) found) ∙ is in cc in
      let raised = raised_thread x.number z.high high2 (omega arith) z.beside.own z.thread in
      subst (λ (q : Thread). IsTypedIn g high2 z.types (seen_all g after) x.number q.slots q.life) same2
      (typed_in g high2 z.types (seen_all g after) x.number slots2 l2 ((alike_row (slot_k x.number) (rank_of high2) (hand_k x.number) e2 z.types before (seen_all g after) o2 alike).0 raised) z.slots (omega (arith, low)) types)

  other : (u : ℕ) (w : Thread) → u ≢ x.number → thread_at after.threads u ≡ Some w → IsTypedIn g high2 z.types (seen_all g after) u w.slots w.life
  other u w ne is =
      other_typed g y.store w.slots w.life (record {
        higher = omega arith;
        local = y.local;
        local2 = z.beside.own;
        kept = λ k e. z.beside.others k (λ f. ne (some_same u x.number (sym e ∙ f)));
        typed = typed;
      })
      (z.beside.others (result_k u) (λ f. cc)) (y.each u w ne (sym (with_other ts (after_thread x l2 slots2) u ne) ∙ is))
    where
      some_same : (a b : ℕ) → Some a ≡ Some b → a ≡ b
      some_same a b e = cc

  pub unfocus : TypedWith g after
  unfocus = record {
    together = record {
      gives = g;
      high = high2;
      types = z.types;
      typed = typed;
      local = z.beside.own;
      known = known_owed (owed_in ts) (owed_in after.threads) heap2 (seen_all g after) (λ u f. sym (owed_after g y.types ts x found l2 slots2 same u) ∙ f) (known_alike (IsKnown (owed_in ts) heap2) tt before (seen_all g after) z.known alike);
      each = λ u w is. by u w is (decide_number u x.number);
      neither = neither;
    };
    same = refl;
  }
    where
      by : (u : ℕ) (w : Thread) → thread_at after.threads u ≡ Some w → (u ≡ x.number) ⊎ (u ≢ x.number) → IsTypedIn g high2 z.types (seen_all g after) u w.slots w.life
      by u w is (inl e) = subst (λ (q : ℕ). IsTypedIn g high2 z.types (seen_all g after) q w.slots w.life) (sym e) (mine w (ap (thread_at after.threads) (sym e) ∙ is))
      by u w is (inr ne) = other u w ne is

-- A CHANGE BY ONE THREAD

-- a typed state after a change by thread t, where each other thread is as it was, or typed in itself
pub record Changed {s : Whole} (y : AreTyped s) (s2 : Whole) (t : ℕ) : Type 0 where
  pub high : ℕ
  pub types : KeyTypes
  pub neither : HasNeither s2
  pub higher : y.high ≤ high
  pub typed : Typed (rank_of high) types (seen_all y.gives s2)
  pub local : IsLocal types
  pub known : AreKnown (IsKnown (owed_in s2.threads) s2.heap) (seen_all y.gives s2)
  pub kept : (k : Key) (v : ℕ) → thread_of k ≡ Some v → v ≢ t → types k ≡ y.types k
  pub mine : (w : Thread) → thread_at s2.threads t ≡ Some w → IsTypedIn y.gives high types (seen_all y.gives s2) t w.slots w.life
  pub others : (u : ℕ) (w : Thread) → u ≢ t → thread_at s2.threads u ≡ Some w → ((thread_at s.threads u ≡ Some w) × (types (result_k u) ≡ y.types (result_k u))) ⊎ IsTypedIn y.gives high types (seen_all y.gives s2) u w.slots w.life

-- it is typed
pub rebuild : {s : Whole} (y : AreTyped s) (s2 : Whole) (t : ℕ) → Changed y s2 t → TypedWith y.gives s2
rebuild {s = s} y s2 t c = record {
  together = record { gives = y.gives; high = c.high; types = c.types; typed = c.typed; local = c.local; known = c.known; each = λ u w is. by u w is (decide_number u t); neither = c.neither };
  same = refl;
}
  where
    other : (u : ℕ) (w : Thread) → u ≢ t → ((thread_at s.threads u ≡ Some w) × (c.types (result_k u) ≡ y.types (result_k u))) ⊎ IsTypedIn y.gives c.high c.types (seen_all y.gives s2) u w.slots w.life → IsTypedIn y.gives c.high c.types (seen_all y.gives s2) u w.slots w.life
    other u w ne (inl z) = other_typed y.gives (seen_all y.gives s) w.slots w.life (record { higher = c.higher; local = y.local; local2 = c.local; kept = λ k e. c.kept k u e ne; typed = c.typed }) z.1 (y.each u w z.0)
    other u w ne (inr z) = z

    by : (u : ℕ) (w : Thread) → thread_at s2.threads u ≡ Some w → (u ≡ t) ⊎ (u ≢ t) → IsTypedIn y.gives c.high c.types (seen_all y.gives s2) u w.slots w.life
    by u w is (inl e) = subst (λ (q : ℕ). IsTypedIn y.gives c.high c.types (seen_all y.gives s2) q w.slots w.life) (sym e) (c.mine w (ap (thread_at s2.threads) (sym e) ∙ is))
    by u w is (inr ne) = other u w ne (c.others u w ne is)
