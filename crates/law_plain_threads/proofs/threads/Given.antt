-- A thread gives a new one the value of a slot: what both then have.
use Rattle.std.proofs.Common.{◌≡◌, ◌≢◌, ◌⊎◌, inl, inr, ⊎_elim, ◌∙◌, ℕ, suc, ◌<◌, ◌≤◌, Bool, true, false, List, [], ◌∷◌, length, Some, None, refl, sym, ap, arith}
use Rattle.fr_base.specs.declared.name.MutexNo.{MutexNo}
use Rattle.fr_typing.specs.Kinds.{Owned}
use Rattle.fr_typing.specs.Places.{Slot, Env, IsNested}
use Rattle.fr_store.specs.Keys.{Key, slot_k, temp_k}
use Rattle.fr_store.specs.Store.{gone_v, Store, value_at, Place}
use Rattle.fr_store.specs.Typed.{hole, Exact, owns, refers, KeyTypes, Typed, Unnamed}
use Rattle.fr_store.specs.Below.{SlotsBelow}
use Rattle.fr_store.specs.Thread.{ThreadTyped, OwnOrForeign}
use Rattle.fr_store.proofs.Keys.{decide_number}
use Rattle.fr_store.proofs.Rows.{top_fits}
use Rattle.fr_store.proofs.ThreadKept.{last_unnamed}
use Rattle.fr_plain.specs.declared.value.Value.{Value}
use Rattle.fr_plain.specs.declared.value.Value.TheVariants.{Held}
use Rattle.fr_plain.specs.State.{slot_at}
use Rattle.fr_plain.specs.PlainState.{Running, PlainState, place_in}
use Rattle.fr_sound.specs.Entries.{Entry, going}
use Rattle.fr_sound.specs.States.{Typing, env_at, part_of, is_hidden, is_held, IsLock}
use Rattle.law_plain_values.specs.acts.Positions.{Position, PositionTypes}
use Rattle.law_plain_values.proofs.acts.OneThread.{store, typing_with, Carried, with_running}
use Rattle.law_plain_values.proofs.acts.Focus.{top_none, Focus}
use Rattle.law_plain_values.proofs.acts.Hand.{At, pushed_others, pushed_here}
use Rattle.law_plain_values.proofs.acts.Slots.{below_new, here_new, slot_below, owned_in, lock_with, content_there}
use Rattle.law_plain_threads.proofs.threads.TwoTurn.{SlotsTurn}

-- the exact type is a reference's
abbrev pub Refers : Exact → Type 0
Refers p = (m : Bool) × (u : Place) × (p ≡ refers m u)

-- a new reference: that of a captured view
abbrev pub NewView : Typing → ℕ → ℕ → Running Position → Env → Key → Bool → Place → Type 0
NewView y t u x n j b z = (b ≡ false) × (i : ℕ) × (j ≡ slot_k u (length n)) × (z.key ≡ slot_k t i) × Refers (y.exact (slot_k t i)) × (is_held (slot_at x.slots i) ≡ false)

-- BEFORE

-- a thread whose slots are typed, awake or not, and a new one
pub record Giver (y : Typing) (a : PlainState Position) (t u : ℕ) (x xu : Running Position) (e n : Env) (g : Owned) : Type 0 where
  pub state : PositionTypes y a
  pub runs : place_in (a.thread t) ≡ Some x
  pub new : At y a u xu n [] g
  pub focus : Focus y a u n [] None
  pub differ : u ≢ t
  pub nested : IsNested e
  pub slots : SlotsBelow (slot_k t) y.exact e
  pub above : (i : ℕ) → length e ≤ i → y.exact (slot_k t i) ≡ owns hole
  pub many : length x.slots ≡ length e
  pub hidden : (i : ℕ) → is_hidden (env_at e i) ≡ is_held (slot_at x.slots i)

module _ {y : Typing} {a : PlainState Position} {t u : ℕ} {x xu : Running Position} {e n : Env} {g : Owned} (f : Giver y a t u x xu e n g) where
  -- the new thread's next slot is free
  pub next_free : Unnamed y.exact (slot_k u (length n))
  next_free = last_unnamed (slot_k u) y.rank (temp_k u 0) n y.exact (store y a) None (length n) (length n) f.focus.keys f.focus.thread f.focus.thread.names (omega arith) (omega arith)

  pub next_hole : y.exact (slot_k u (length n)) ≡ owns hole
  next_hole = f.focus.thread.above (length n) (omega arith)

  pub next_gone : (store y a).at (slot_k u (length n)) ≡ gone_v
  next_gone = top_fits y.rank y.exact (store y a) f.state.typed (slot_k u (length n)) hole next_hole

  pub new_many : length xu.slots ≡ length n
  new_many = let r = f.state.threads u xu f.new.runs in r.all_slots ∙ ap (λ (z : Entry). length z.env) (sym r.known ∙ f.new.entry)

-- AFTERWARDS

-- the new thread has one slot more, and its giver these: the exact types, and what stands
pub record Given (y : Typing) (a a2 : PlainState Position) (t u : ℕ) (x xu : Running Position) (e e2 n : Env) (sl : List Value) (new : Slot) (v : Value) (E2 : KeyTypes) : Type 0 where
  pub typed : Typed y.rank E2 (store (typing_with y E2 y.marks) a2)
  pub refs : (j : Key) (b : Bool) (z : Place) → E2 j ≡ refers b z → (y.exact j ≡ refers b z) ⊎ NewView y t u x n j b z
  pub off : (j : Key) → j ≢ slot_k u (length n) → ((k : ℕ) → j ≢ slot_k t k) → E2 j ≡ y.exact j
  pub keeps : (k : ℕ) → Refers (y.exact (slot_k t k)) → E2 (slot_k t k) ≡ y.exact (slot_k t k)
  -- slots of the giver, of the new thread, and of each other one
  pub nested : IsNested e2
  pub below : SlotsBelow (slot_k t) E2 e2
  pub long : length e2 ≡ length e
  pub above : (k : ℕ) → length e ≤ k → E2 (slot_k t k) ≡ owns hole
  pub nested_new : IsNested (new ∷ n)
  pub below_new : SlotsBelow (slot_k u) E2 (new ∷ n)
  pub below_other : (w : ℕ) (m : Env) → w ≢ t → w ≢ u → SlotsBelow (slot_k w) y.exact m → SlotsBelow (slot_k w) E2 m
  -- what stands
  pub held : (b k : ℕ) (q : MutexNo) (z : Running Position) → place_in (a.thread b) ≡ Some z → slot_at z.slots k ≡ Some (Held q) → value_at (store (typing_with y E2 y.marks) a2) (y.marks b k) ≡ value_at (store y a) (y.marks b k)
  pub carried : Carried (store y a) (store (typing_with y E2 y.marks) a2)
  -- the slots themselves
  pub slots : length sl ≡ length e
  pub hidden : (k : ℕ) → is_hidden (env_at e2 k) ≡ is_held (slot_at sl k)
  pub marked : (k : ℕ) (q : MutexNo) → slot_at sl k ≡ Some (Held q) → slot_at x.slots k ≡ Some (Held q)
  pub still : (k : ℕ) (q : MutexNo) → slot_at x.slots k ≡ Some (Held q) → slot_at sl k ≡ Some (Held q)
  pub content : (s : Store) (k : ℕ) (q : MutexNo) → slot_at x.slots k ≡ Some (Held q) → IsLock y s e t k q → IsLock y s e2 t k q
  pub clear : is_held (Some v) ≡ false
  pub named : is_hidden (Some new) ≡ false

module _ {y : Typing} {a a2 : PlainState Position} {t u : ℕ} {x xu : Running Position} {e e2 n : Env} {g : Owned} {sl : List Value} {new : Slot} {v : Value} {E2 : KeyTypes} (f : Giver y a t u x xu e n g) (c : Given y a a2 t u x xu e e2 n sl new v E2) where
  abbrev s2 : Store
  s2 = store (typing_with y E2 y.marks) a2

  pub off_temp : (b k : ℕ) → E2 (temp_k b k) ≡ y.exact (temp_k b k)
  off_temp b k = c.off (temp_k b k) (λ q. cc) (λ j q. cc)

  pub off_other : (b k : ℕ) → b ≢ t → b ≢ u → E2 (slot_k b k) ≡ y.exact (slot_k b k)
  off_other b k nt nu = c.off (slot_k b k) (λ q. nu cc) (λ j q. nt cc)

  off_new : (k : ℕ) → k ≢ length n → E2 (slot_k u k) ≡ y.exact (slot_k u k)
  off_new k ne = c.off (slot_k u k) (λ q. ne cc) (λ j q. f.differ cc)

  -- no type names what none named, but a slot of the giver
  pub given_unnamed : (h : Key) → Unnamed y.exact h → ((k : ℕ) → h ≢ slot_k t k) → Unnamed E2 h
  given_unnamed h free ne j b z is q = ⊎_elim (λ (r : y.exact j ≡ refers b z). free j b z r q) (λ (r : NewView y t u x n j b z). ne r.1 (sym q ∙ r.3)) (c.refs j b z is)

  -- a thread that is awake, but for the giver
  pub given_awake : (b : ℕ) (l l2 : Env) → b ≢ t → length l ≤ length l2 → ThreadTyped (slot_k b) y.rank (temp_k b 0) l y.exact (store y a) None → IsNested l2 → SlotsBelow (slot_k b) E2 l2 → ((k : ℕ) → length l2 ≤ k → E2 (slot_k b k) ≡ owns hole) → ((k : ℕ) → k < length l2 → y.rank (slot_k b k) < y.rank (temp_k b 0))
      → ((j : Key) (q : Bool) (z : Place) → NewView y t u x n j q z → OwnOrForeign (slot_k b) l2 j z) → ThreadTyped (slot_k b) y.rank (temp_k b 0) l2 E2 s2 None
  given_awake b l l2 nt le th nested below above high new = record {
    typed = c.typed;
    nested = nested;
    slots = below;
    above = above;
    temp = off_temp b 0 ∙ th.temp;
    names = tt;
    quiet = given_unnamed (temp_k b 0) th.quiet (λ k q. cc);
    over = high;
    alone = λ j q z is ne. ⊎_elim (λ (r : y.exact j ≡ refers q z). wider j z (th.alone j q z r ne)) (λ (r : NewView y t u x n j q z). new j q z r) (c.refs j q z is);
  }
    where
      wider : (j : Key) (z : Place) → OwnOrForeign (slot_k b) l j z → OwnOrForeign (slot_k b) l2 j z
      wider j z (inl q) = let lt = q.1 in inl (q.0, omega (arith, lt, le), q.2)
      wider j z (inr q) = inr q

  -- THE NEW THREAD

  new_typed : ThreadTyped (slot_k u) y.rank (temp_k u 0) (new ∷ n) E2 s2 None
  new_typed =
      given_awake u n (new ∷ n) f.differ (omega arith) f.focus.thread c.nested_new c.below_new (λ k le. off_new k (λ q. omega (arith, le, q)) ∙ f.focus.thread.above k (omega (arith, le))) (λ k lt. f.focus.high k 0 (omega (arith, lt)))
      (λ j q z r. inl (length n, omega arith, r.2))

  pub new_turn : a2.thread u ≡ with_running (a.thread u) (record { place = record { entry = going (new ∷ n) [] g; temps = xu.place.temps }; slots = v ∷ xu.slots })
      → SlotsTurn y a a2 u xu (record { place = record { entry = going (new ∷ n) [] g; temps = xu.place.temps }; slots = v ∷ xu.slots }) n (new ∷ n) [] [] None g E2
  new_turn now = record {
    at = f.new;
    focus = f.focus;
    now = now;
    tops = top_none;
    idle = λ q. refl;
    entry = refl;
    temps = refl;
    slots = ap suc (new_many f);
    long = omega arith;
    thread = new_typed;
    hidden = λ k. ⊎_elim
        (λ (q : k ≡ length n). ap is_hidden (here_new new n k q) ∙ c.named ∙ sym c.clear ∙ sym (ap is_held (pushed_here v xu.slots k (q ∙ sym (new_many f)))))
        (λ (q : k ≢ length n). ap is_hidden (below_new new n k q) ∙ old k ∙ sym (ap is_held (pushed_others v xu.slots k (length n) (sym (new_many f)) q)))
        (decide_number k (length n));
    marked = λ k q h. ⊎_elim (λ (r : k ≡ length n). absurd (not_held q (sym (pushed_here v xu.slots k (r ∙ sym (new_many f))) ∙ h))) (λ (r : k ≢ length n). sym (pushed_others v xu.slots k (length n) (sym (new_many f)) r) ∙ h) (decide_number k (length n));
    still = λ k q h. pushed_others v xu.slots k (length n) (sym (new_many f)) (λ r. let d = slot_below xu.slots k (Held q) h in let l = new_many f in omega (arith, d, r, l)) ∙ h;
    content = λ s k q h d. let l = content_there d in lock_with (ap (λ z. owned_in (part_of z)) (below_new new n (suc k) (λ r. omega (arith, l, r)))) d;
  }
    where
      not_held : (q : MutexNo) → Some v ≡ Some (Held q) → ⊥
      not_held q h = let d : false ≡ true = sym c.clear ∙ ap is_held h in cc

      old : (k : ℕ) → is_hidden (env_at n k) ≡ is_held (slot_at xu.slots k)
      old k = let r = f.state.threads u xu f.new.runs in ap (λ (z : Entry). is_hidden (env_at z.env k)) (sym f.new.entry ∙ r.known) ∙ r.hidden k
