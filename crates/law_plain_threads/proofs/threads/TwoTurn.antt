-- Two threads that go on change their slots, and each counted value stands again: the state is typed again.
use Rattle.std.proofs.Common.{◌≡◌, ◌≢◌, ◌⊎◌, inl, inr, ⊎_elim, ◌∙◌, ℕ, suc, ◌<◌, ◌≤◌, Bool, true, false, List, length, Option, Some, None, sym, ap, subst, arith}
use Rattle.fr_base.specs.declared.name.MutexNo.{MutexNo}
use Rattle.fr_typing.specs.Kinds.{Owned, Kind}
use Rattle.fr_typing.specs.Places.{Env}
use Rattle.fr_store.specs.Keys.{Key, slot_k, temp_k, content_k, result_k}
use Rattle.fr_store.specs.Store.{Store, value_at, Place}
use Rattle.fr_store.specs.Typed.{refers, KeyTypes}
use Rattle.fr_store.specs.Thread.{ThreadTyped}
use Rattle.fr_plain.specs.declared.value.Value.TheVariants.{Held}
use Rattle.fr_plain.specs.State.{slot_at}
use Rattle.fr_plain.specs.PlainState.{Running, PlainState, place_in}
use Rattle.fr_sound.specs.Entries.{Entry, going}
use Rattle.fr_sound.specs.States.{Typing, env_at, is_hidden, is_held, IsLock}
use Rattle.law_plain_values.specs.acts.Positions.{Position, PositionTypes}
use Rattle.law_plain_values.proofs.acts.OneThread.{store, typing_with, Carried, RunningCore, with_running}
use Rattle.law_plain_values.proofs.acts.Turns.{theirs, nobody_by}
use Rattle.law_plain_values.proofs.acts.Focus.{Tops, hand_at, Focus, unfocus, temp_free}
use Rattle.law_plain_values.proofs.acts.Hand.{At}
use Rattle.fr_code.specs.CodeTypes.{wait}
use Rattle.law_plain_values.proofs.acts.Stays.{of_by, near_by, named_by}
use Rattle.law_plain_values.proofs.acts.Threads.{no_pair}
use Rattle.law_plain_values.proofs.acts.Fresh.{either, either_first, either_second, either_is, either_not}
use Rattle.fr_base.specs.declared.name.ObjNo.{ObjNo}
use Rattle.fr_base.specs.declared.label.Plain.{Plain}
use Rattle.law_plain_threads.proofs.threads.Several.{GoesOnAs, SeveralTurn, several_typed}
use Rattle.fr_store.specs.Typed.{Unnamed}

-- what a thread whose slots changed is then
pub record SlotsTurn (y : Typing) (a a2 : PlainState Position) (t : ℕ) (x x2 : Running Position) (e e2 : Env) (ts us : List Kind) (o : Option Kind) (g : Owned) (E2 : KeyTypes) : Type 0 where
  pub at : At y a t x e ts g
  pub focus : Focus y a t e us o
  pub now : a2.thread t ≡ with_running (a.thread t) x2
  pub tops : Tops us o ts
  pub idle : o ≡ None → wait us ≡ true
  pub entry : x2.place.entry ≡ going e2 ts g
  pub temps : x2.place.temps ≡ x.place.temps
  pub slots : length x2.slots ≡ length e2
  pub long : length e2 ≤ suc (length e)
  pub thread : ThreadTyped (slot_k t) y.rank (hand_at t us) e2 E2 (store (typing_with y E2 y.marks) a2) o
  pub hidden : (i : ℕ) → is_hidden (env_at e2 i) ≡ is_held (slot_at x2.slots i)
  pub marked : (i : ℕ) (m : MutexNo) → slot_at x2.slots i ≡ Some (Held m) → slot_at x.slots i ≡ Some (Held m)
  pub still : (i : ℕ) (m : MutexNo) → slot_at x.slots i ≡ Some (Held m) → slot_at x2.slots i ≡ Some (Held m)
  pub content : (s : Store) (i : ℕ) (m : MutexNo) → slot_at x.slots i ≡ Some (Held m) → IsLock y s e t i m → IsLock y s e2 t i m

module _ {y : Typing} {a a2 : PlainState Position} {t : ℕ} {x x2 : Running Position} {e e2 : Env} {ts us : List Kind} {o : Option Kind} {g : Owned} {E2 : KeyTypes} (c : SlotsTurn y a a2 t x x2 e e2 ts us o g E2) where
  -- each reference stood before, or names a slot of another thread
  pub turned : (pairs : (w : ℕ) → a2.pair w ≡ a.pair w)
      → ((j : Key) (q : Bool) (w : Place) → E2 j ≡ refers q w → ((k : Key) × (y.exact k ≡ refers q w)) ⊎ ((v : ℕ) × (i : ℕ) × (v ≢ t) × (w.key ≡ slot_k v i)))
      → ((i : ℕ) → E2 (temp_k t i) ≡ y.exact (temp_k t i))
      → ((w i : ℕ) (m : MutexNo) (z : Running Position) → place_in (a.thread w) ≡ Some z → slot_at z.slots i ≡ Some (Held m) → value_at (store (typing_with y E2 y.marks) a2) (y.marks w i) ≡ value_at (store y a) (y.marks w i))
      → GoesOnAs y a a2 t E2
  turned pairs refs same held = record { thread = record { before = x; after = x2; runs = c.at.runs; now = c.now; marked = c.marked; still = c.still }; core = core }
    where
      free : (n : ℕ) → Unnamed E2 (temp_k t n)
      free n j m w z f = ⊎_elim (λ (q : (k : Key) × (y.exact k ≡ refers m w)). temp_free y a t n c.at.state q.0 m w q.1 f) (λ (q : (v : ℕ) × (i : ℕ) × (v ≢ t) × (w.key ≡ slot_k v i)). let d : slot_k q.0 q.1 ≡ temp_k t n = sym q.3 ∙ f in absurd cc) (refs j m w z)

      unnamed : (i : ℕ) → Unnamed y.exact (slot_k t i) → Unnamed E2 (slot_k t i)
      unnamed i h j m w z f = ⊎_elim (λ (q : (k : Key) × (y.exact k ≡ refers m w)). h q.0 m w q.1 f) (λ (q : (v : ℕ) × (n : ℕ) × (v ≢ t) × (w.key ≡ slot_k v n)). let d : slot_k q.0 q.1 ≡ slot_k t i = sym q.3 ∙ f in q.2 cc) (refs j m w z)

      core : RunningCore (typing_with y E2 y.marks) (store (typing_with y E2 y.marks) a2) t (a2.pair t) x2
      core =
          let run = c.at.state.threads t x c.at.runs in
          let e_is : run.entry ≡ going e ts g = sym run.known ∙ c.at.entry in
          unfocus y a a2 t e e2 us ts o o g E2 y.marks x2 c.focus c.tops c.idle c.thread (λ i il. same i) free (λ i il n. let k = c.long in c.focus.high i n (omega (arith, il, k))) c.entry
          (ap (λ (z : Entry). z.gives) (sym e_is) ∙ run.gives) (pairs t ∙ no_pair c.at) c.slots (ap length c.temps ∙ run.all_temps ∙ ap (λ (z : Entry). length z.temps) e_is) c.hidden
          (λ i m z.
          let mark = c.marked i m z in
          let lock = subst (λ (r : Entry). IsLock y (store y a) r.env t i m) e_is (run.marked i m mark) in
          let k = c.content (store y a) i m mark lock in
          record { leads = held t i m x c.at.runs mark ∙ lock.leads; unnamed = unnamed i lock.unnamed; content = k.content })

module _ {y : Typing} {a a2 : PlainState Position} {t u : ℕ} {x x2 xu xu2 : Running Position} {e e2 n n2 : Env} {ts us rs : List Kind} {o ou : Option Kind} {vs : List Kind} {g gu : Owned} {E2 : KeyTypes} (c : SlotsTurn y a a2 t x x2 e e2 ts us o g E2) (d : SlotsTurn y a a2 u xu xu2 n n2 rs vs ou gu E2)
    (others : (w : ℕ) → w ≢ t → w ≢ u → a2.thread w ≡ a.thread w) (pairs : (w : ℕ) → a2.pair w ≡ a.pair w)
    (refs : (j : Key) (q : Bool) (w : Place) → E2 j ≡ refers q w → y.exact j ≡ refers q w) (off : (j : Key) → ((i : ℕ) → j ≢ slot_k t i) → ((i : ℕ) → j ≢ slot_k u i) → E2 j ≡ y.exact j)
    (held : (w i : ℕ) (m : MutexNo) (z : Running Position) → place_in (a.thread w) ≡ Some z → slot_at z.slots i ≡ Some (Held m) → value_at (store (typing_with y E2 y.marks) a2) (y.marks w i) ≡ value_at (store y a) (y.marks w i))
    (carried : Carried (store y a) (store (typing_with y E2 y.marks) a2)) where
  other_keys : (j : Key) → theirs (either t u) j ≡ false → E2 j ≡ y.exact j
  other_keys j z = off j (λ i q. let f : true ≡ false = sym (either_first t u) ∙ sym (ap (theirs (either t u)) q) ∙ z in cc) (λ i q. let f : true ≡ false = sym (either_second t u) ∙ sym (ap (theirs (either t u)) q) ∙ z in cc)

  no_pairs : (w : ℕ) → (w ≡ t) ⊎ (w ≡ u) → a.pair w ≡ None
  no_pairs w (inl q) = ap a.pair q ∙ no_pair c.at
  no_pairs w (inr q) = ap a.pair q ∙ no_pair d.at

  each : (w : ℕ) → (w ≡ t) ⊎ (w ≡ u) → GoesOnAs y a a2 w E2
  each w (inl q) = subst (λ z. GoesOnAs y a a2 z E2) (sym q) (turned c pairs (λ j b z r. inl (j, refs j b z r)) (λ k. off (temp_k t k) (λ j f. cc) (λ j f. cc)) held)
  each w (inr q) = subst (λ z. GoesOnAs y a a2 z E2) (sym q) (turned d pairs (λ j b z r. inl (j, refs j b z r)) (λ k. off (temp_k u k) (λ j f. cc) (λ j f. cc)) held)

  -- THE STATE
  pub two_typed : (mutexes : (m : MutexNo) → a2.mutex m ≡ a.mutex m) (given : (m : MutexNo) → a2.is_given m ≡ a.is_given m) (objects : (q : ObjNo) → a2.object q ≡ a.object q) (made : (q : ObjNo) (v : Plain) (w : Running Position) → a2.object q ≡ Some v → place_in (a2.thread q.thread) ≡ Some w → q.count < a2.made q.thread)
      → PositionTypes (typing_with y E2 y.marks) a2
  two_typed mutexes given objects made = several_typed c.at.state leaves
    where
      leaves : SeveralTurn y a a2 (either t u) E2
      leaves = record {
        each = λ w q. each w (either_is t u w q);
        others = λ w q. let ne = either_not t u w q in others w ne.0 ne.1;
        pairs = pairs;
        typed = c.thread.typed;
        same = other_keys;
        contents = λ m. off (content_k m.home m.count) (λ i q. cc) (λ i q. cc);
        results = λ w. off (result_k w) (λ i q. cc) (λ i q. cc);
        of = of_by y a a2 (either t u) E2 c.at.state refs;
        near = near_by y a a2 (either t u) E2 c.at.state refs (λ w b i. pairs w ∙ i);
        named = named_by y a a2 (either t u) E2 c.at.state refs;
        nobody = nobody_by y a (either t u) c.at.state (λ w q. no_pairs w (either_is t u w q));
        held = λ w i m z q runs mark. held w i m z runs mark;
        carried = carried;
        mutexes = mutexes;
        given = given;
        objects = objects;
        made = made;
      }
