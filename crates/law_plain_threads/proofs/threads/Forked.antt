-- A thread waits for the two threads that it starts, of which one captures: the state is typed again.
use Rattle.std.proofs.Common.{◌≡◌, ◌≢◌, ◌⊎◌, inl, inr, ⊎_elim, ◌∙◌, ℕ, ◌<◌, ◌≤◌, Bool, true, false, List, [], ◌∷◌, length, Option, Some, None, refl, sym, ap, subst, arith}
use Rattle.std.specs.Prelude.{is_some}
use Rattle.fr_base.specs.declared.name.MutexNo.{MutexNo}
use Rattle.fr_typing.specs.Kinds.{Owned, unit, int, Kind, own, whole}
use Rattle.fr_typing.specs.Places.{Slot, Env, AreBelow}
use Rattle.fr_store.specs.Keys.{Key, slot_k, temp_k, content_k, result_k}
use Rattle.fr_store.specs.Store.{Store, Place}
use Rattle.fr_store.specs.Typed.{int_tree, owns, refers, KeyTypes, Unnamed}
use Rattle.fr_store.specs.Below.{ExactOf}
use Rattle.fr_store.specs.Thread.{ThreadKeys, ThreadTyped, Asleep, TempIs, temp_places}
use Rattle.fr_store.proofs.ThreadKept.{exact_owned}
use Rattle.fr_plain.specs.MachineThreads.{Life, alive, over, owing, loose, ended}
use Rattle.fr_code.specs.CodeTypes.{wait}
use Rattle.fr_plain.specs.declared.value.Value.{Value}
use Rattle.fr_plain.specs.declared.value.Value.TheVariants.{Held}
use Rattle.fr_plain.specs.State.{slot_at}
use Rattle.fr_plain.specs.PlainState.{Running, PlainState, place_in}
use Rattle.fr_sound.specs.Entries.{Entry, going, forked_at}
use Rattle.fr_sound.specs.States.{Typing, RunningTyped, hand_key, hand_kind, operands, IsThread, env_at, is_hidden, is_held, IsLock, WaitsFor, WaitsAbove, directly, through, IsNear, thread_of_key}
use Rattle.law_plain_values.specs.acts.Positions.{Position, Knows, temps_of, PositionTypes}
use Rattle.law_plain_values.proofs.acts.OneThread.{store, typing_with, RunningCore, with_running, has_pair, by_bool, waits_same}
use Rattle.law_plain_values.proofs.acts.Turns.{theirs, theirs_other, near_more}
use Rattle.law_plain_values.proofs.acts.Stays.{theirs_own}
use Rattle.law_plain_values.proofs.acts.Focus.{top_none, Focus, first_waits}
use Rattle.law_plain_values.proofs.acts.Hand.{At}
use Rattle.law_plain_values.proofs.acts.Threads.{no_pair}
use Rattle.law_plain_threads.proofs.threads.Given.{Refers, NewView, Giver, Given, given_unnamed, given_awake, off_temp, off_other, new_turn}
use Rattle.fr_store.proofs.Below.{slots_unnamed}
use Rattle.fr_store.specs.Typed.{Tree}
use Rattle.fr_typing.specs.Places.{write_blocked}
use Rattle.law_plain_threads.proofs.threads.Passed.{Passes, still_runs, new_runs}
use Rattle.law_plain_threads.proofs.threads.Several.{GoesOnAs, SeveralTurn, several_typed}
use Rattle.law_plain_threads.proofs.threads.TwoTurn.{SlotsTurn, turned}
use Rattle.law_plain_threads.proofs.threads.Paired.{three, three_is, three_not, three_first, three_second}

-- a thread that waits for two, of which the first one captures. Other threads' references to its slots are shared, and name only slots that refer
pub record Forked (y : Typing) (a : PlainState Position) (t u w : ℕ) (x xu xw : Running Position) (e n m : Env) (ts : List Kind) (g : Owned) : Type 0 where
  pub state : PositionTypes y a
  pub runs : place_in (a.thread t) ≡ Some x
  pub entry : x.place.entry ≡ forked_at e ts g
  pub idle : wait ts ≡ true
  pub first : At y a u xu n [] unit
  pub second : At y a w xw m [] unit
  pub differ : u ≢ t
  pub other : w ≢ t
  pub apart : w ≢ u
  pub waits : WaitsFor a t u
  pub waits_other : WaitsFor a t w
  pub only : (v : ℕ) → WaitsFor a t v → (v ≡ u) ⊎ (v ≡ w)
  -- a reference stands in one of its slots, or it is shared and names no slot of it but one that refers
  pub foreign : (j : Key) (b : Bool) (z : Place) → y.exact j ≡ refers b z → ((i : ℕ) × (i < length e) × (j ≡ slot_k t i)) ⊎ ((k : ℕ) → z.key ≡ slot_k t k → (b ≡ false) × Refers (y.exact (slot_k t k)))
  -- its slots rank below those of the two
  pub low : (i k : ℕ) → i < length e → y.rank (slot_k t i) < y.rank (slot_k u k)
  pub low_other : (i k : ℕ) → i < length e → y.rank (slot_k t i) < y.rank (slot_k w k)

module _ {y : Typing} {a : PlainState Position} {t u w : ℕ} {x xu xw : Running Position} {e n m : Env} {ts : List Kind} {g : Owned} (f : Forked y a t u w x xu xw e n m ts g) where
  parent_is : RunningTyped Knows temps_of y (store y a) t (a.pair t) x
  parent_is = f.state.threads t x f.runs

  entry_is : parent_is.entry ≡ forked_at e ts g
  entry_is = sym parent_is.known ∙ f.entry

  pub asleep : Asleep (slot_k t) y.rank (hand_key t ts) e y.exact (hand_kind ts)
  asleep = subst (λ (z : Entry). IsThread z.forked (slot_k t) y.rank (hand_key t z.temps) z.env y.exact (store y a) (hand_kind z.temps)) entry_is parent_is.thread

  pub parent_slots : length x.slots ≡ length e
  parent_slots = parent_is.all_slots ∙ ap (λ (z : Entry). length z.env) entry_is

  pub parent_hidden : (i : ℕ) → is_hidden (env_at e i) ≡ is_held (slot_at x.slots i)
  parent_hidden i = ap (λ (z : Entry). is_hidden (env_at z.env i)) (sym entry_is) ∙ parent_is.hidden i

  parent_marked : (i : ℕ) (q : MutexNo) → slot_at x.slots i ≡ Some (Held q) → IsLock y (store y a) e t i q
  parent_marked i q z = subst (λ (r : Entry). IsLock y (store y a) r.env t i q) entry_is (parent_is.marked i q z)

  -- references of others lead to none of the three
  pub forked_nobody : (k : Key) (b : Bool) (z : Place) → theirs (three t u w) k ≡ false → y.exact k ≡ refers b z → theirs (three t u w) z.key ≡ false
  forked_nobody k b z h is = ap (theirs (three t u w)) near.is ∙ by_bool (three t u w near.owner) (λ q. absurd (by q near.near)) (λ q. q)
    where
      near : IsNear a k z
      near = f.state.near k b z is

      away : three t u w near.thread ≡ false
      away = theirs_other (three t u w) k near.thread h near.of

      single : (v : ℕ) → a.pair v ≡ None → WaitsAbove a v near.thread → ⊥
      single v none q = let p = has_pair a v near.thread q in let i : Some p.0 ≡ None = sym p.1 ∙ none in cc

      is_one : (v : ℕ) → (v ≡ u) ⊎ (v ≡ w) → a.pair v ≡ None
      is_one v (inl q) = ap a.pair q ∙ no_pair f.first
      is_one v (inr q) = ap a.pair q ∙ no_pair f.second

      not_child : (v : ℕ) → near.thread ≡ v → (v ≡ u) ⊎ (v ≡ w) → ⊥
      not_child v q (inl i) = (three_not t u w near.thread away).1 (q ∙ i)
      not_child v q (inr i) = (three_not t u w near.thread away).2 (q ∙ i)

      child : (v : ℕ) → WaitsAbove a t v → near.thread ≡ v → ⊥
      child v (directly q) same = not_child v same (f.only v q)
      child v (through {q = mid} q r) same = single mid (is_one mid (f.only mid q)) (subst (WaitsAbove a mid) (sym same) r)

      above : (near.owner ≡ t) ⊎ ((near.owner ≡ u) ⊎ (near.owner ≡ w)) → WaitsAbove a near.owner near.thread → ⊥
      above (inl q) r = child near.thread (subst (λ v. WaitsAbove a v near.thread) q r) refl
      above (inr q) r = single near.owner (is_one near.owner q) r

      by : three t u w near.owner ≡ true → (near.owner ≡ near.thread) ⊎ WaitsAbove a near.owner near.thread → ⊥
      by q (inl i) = let c : true ≡ false = sym q ∙ ap (three t u w) i ∙ away in cc
      by q (inr r) = above (three_is t u w near.owner q) r

  -- it gives to the first one
  pub forked_giver : Focus y a u n [] None → Giver y a t u x xu e n unit
  forked_giver fu = record { state = f.state; runs = f.runs; new = f.first; focus = fu; differ = f.differ; nested = asleep.nested; slots = asleep.slots; above = asleep.above; many = parent_slots; hidden = parent_hidden }

  -- an owned variable that isn't write blocked is lent to nobody: other threads name only slots that refer
  pub parent_free : (i : ℕ) (z : Tree) → y.exact (slot_k t i) ≡ owns z → write_blocked e i ≡ false → Unnamed y.exact (slot_k t i)
  parent_free i z is free j b p r = by (f.foreign j b p r)
    where
      by : ((k : ℕ) × (k < length e) × (j ≡ slot_k t k)) ⊎ ((k : ℕ) → p.key ≡ slot_k t k → (b ≡ false) × Refers (y.exact (slot_k t k))) → p.key ≢ slot_k t i
      by (inl q) = slots_unnamed (slot_k t) y.exact (λ c d h. cc) e i q.0 b p asleep.slots free q.1 (ap y.exact (sym q.2) ∙ r)
      by (inr q) = λ h. let d = (q i h).1 in let c : owns z ≡ refers d.0 d.1 = sym is ∙ d.2 in cc

module _ {y : Typing} {a a2 : PlainState Position} {t u w : ℕ} {x xu xw : Running Position} {e e2 n m : Env} {ts : List Kind} {g : Owned} {sl : List Value} {new : Slot} {v : Value} {i : ℕ} {E2 : KeyTypes} (f : Forked y a t u w x xu xw e n m ts g) (fu : Focus y a u n [] None) (fw : Focus y a w m [] None)
    (passes : Passes a a2 t u x (record { place = record { entry = forked_at e2 ts g; temps = x.place.temps }; slots = sl }) xu (record { place = record { entry = going (new ∷ n) [] unit; temps = xu.place.temps }; slots = v ∷ xu.slots }) i (length n)) (c : Given y a a2 t u x xu e e2 n sl new v E2) where
  abbrev x2 : Running Position
  x2 = record { place = record { entry = forked_at e2 ts g; temps = x.place.temps }; slots = sl }

  abbrev xu2 : Running Position
  xu2 = record { place = record { entry = going (new ∷ n) [] unit; temps = xu.place.temps }; slots = v ∷ xu.slots }

  abbrev s2 : Store
  s2 = store (typing_with y E2 y.marks) a2

  giver : Giver y a t u x xu e n unit
  giver = forked_giver f fu

  -- THE CHILDREN

  second_typed : ThreadTyped (slot_k w) y.rank (temp_k w 0) m E2 s2 None
  second_typed =
      given_awake giver c w m m f.other (omega arith) fw.thread fw.thread.nested (c.below_other w m f.other f.apart fw.thread.slots) (λ k le. off_other giver c w k f.other f.apart ∙ fw.thread.above k le) (λ k lt. fw.high k 0 (omega (arith, lt)))
      (λ j q z r. inr (λ k h. let d : slot_k t r.1 ≡ slot_k w k = sym r.3 ∙ h in f.other cc))

  second_turn : SlotsTurn y a a2 w xw xw m m [] [] None unit E2
  second_turn =
      let r = f.state.threads w xw f.second.runs in
      let is : r.entry ≡ going m [] unit = sym r.known ∙ f.second.entry in
      record {
        at = f.second;
        focus = fw;
        now = passes.others w f.other f.apart ∙ same (a.thread w) f.second.runs;
        tops = top_none;
        idle = λ q. refl;
        entry = f.second.entry;
        temps = refl;
        slots = r.all_slots ∙ ap (λ (z : Entry). length z.env) is;
        long = omega arith;
        thread = second_typed;
        hidden = λ k. ap (λ (z : Entry). is_hidden (env_at z.env k)) (sym is) ∙ r.hidden k;
        marked = λ k q h. h;
        still = λ k q h. h;
        content = λ s k q h d. d;
      }
    where
      some : {p : Running Position} → Some p ≡ Some xw → p ≡ xw
      some h = cc

      same : (l : Option (Life (Running Position))) → place_in l ≡ Some xw → l ≡ with_running l xw
      same None h = cc
      same (Some (alive p)) h = ap (λ z. Some (alive z)) (some h)
      same (Some over) h = cc
      same (Some (owing p)) h = ap (λ z. Some (owing z)) (some h)
      same (Some (loose p)) h = ap (λ z. Some (loose z)) (some h)
      same (Some (ended r)) h = cc

  -- THE PARENT

  abbrev s1 : Store
  s1 = store y a

  still_asleep : Asleep (slot_k t) y.rank (hand_key t ts) e2 E2 (hand_kind ts)
  still_asleep =
      let p = asleep f in
      record {
        nested = c.nested;
        slots = c.below;
        above = λ k le. c.above k (subst (λ z. z ≤ k) c.long le);
        temp = temp_still ts f.idle p.temp;
        names = subst (λ z. AreBelow z (temp_places (hand_kind ts))) (sym c.long) p.names;
        quiet = given_unnamed giver c (hand_key t ts) p.quiet (λ k q. no_slot ts k q);
        over = λ k lt. p.over k (subst (λ z. k < z) c.long lt);
      }
    where
      no_slot : (ts : List Kind) (k : ℕ) → hand_key t ts ≡ slot_k t k → ⊥
      no_slot [] k q = cc
      no_slot (z ∷ zs) k q = cc

      temp_still : (ts : List Kind) → wait ts ≡ true → TempIs (slot_k t) y.exact (hand_key t ts) (hand_kind ts) → TempIs (slot_k t) E2 (hand_key t ts) (hand_kind ts)
      temp_still [] idle h = off_temp giver c t 0 ∙ h
      temp_still (k ∷ ks) idle h =
          let q = first_waits k ks idle in
          let is = exact_owned (slot_k t) y.exact int (y.exact (temp_k t (length ks))) (subst (λ z. ExactOf (slot_k t) y.exact (whole z) (y.exact (temp_k t (length ks)))) q.0 h) in
          subst (λ z. ExactOf (slot_k t) E2 (whole z) (E2 (temp_k t (length ks)))) (sym q.0) (subst (ExactOf (slot_k t) E2 (whole (own int))) (sym (off_temp giver c t (length ks) ∙ is)) refl)

  parent_core : RunningCore (typing_with y E2 y.marks) (store (typing_with y E2 y.marks) a2) t (a2.pair t) x2
  parent_core = record {
    entry = forked_at e2 ts g;
    known = refl;
    gives = ap (λ (z : Entry). z.gives) (sym (entry_is f)) ∙ (parent_is f).gives;
    keys = subst (λ (z : Entry). ThreadKeys (slot_k t) y.rank (hand_key t z.temps)) (entry_is f) (parent_is f).keys;
    thread = still_asleep;
    waiting = λ k lt. off_temp giver c t k ∙ subst (λ (z : Entry). (i : ℕ) → i < operands z.temps → y.exact (temp_k t i) ≡ owns int_tree) (entry_is f) (parent_is f).waiting k lt;
    all_slots = c.slots ∙ sym c.long;
    all_temps = (parent_is f).all_temps ∙ ap (λ (z : Entry). length z.temps) (entry_is f);
    forks = ap (λ (z : Entry). z.forked) (sym (entry_is f)) ∙ (parent_is f).forks ∙ ap is_some (sym (passes.pairs t));
    hidden = c.hidden;
    marked = λ k q h.
        let mark = c.marked k q h in
        let lock = parent_marked f k q mark in
        let l = c.content (store y a) k q mark lock in
        record { leads = c.held t k q x f.runs mark ∙ lock.leads; unnamed = free k q mark lock.unnamed; content = l.content };
  }
    where
      free : (k : ℕ) (q : MutexNo) → slot_at x.slots k ≡ Some (Held q) → Unnamed y.exact (slot_k t k) → Unnamed E2 (slot_k t k)
      free k q mark h j b z is r = ⊎_elim (λ (d : y.exact j ≡ refers b z). h j b z d r) view (c.refs j b z is)
        where
          view : NewView y t u x n j b z → ⊥
          view d =
              let p : slot_k t d.1 ≡ slot_k t k = sym d.3 ∙ r in
              let same : d.1 ≡ k = cc in
              let b : true ≡ false = sym (ap is_held mark) ∙ ap (λ i. is_held (slot_at x.slots i)) (sym same) ∙ d.5 in
              cc

  -- THE STATE

  known : (b : ℕ) → b ≢ t → (j : Key) (q : Bool) (z : Place) → E2 j ≡ refers q z → ((k : Key) × (y.exact k ≡ refers q z)) ⊎ ((v : ℕ) × (k : ℕ) × (v ≢ b) × (z.key ≡ slot_k v k))
  known b nt j q z is = ⊎_elim (λ (r : y.exact j ≡ refers q z). inl (j, r)) (λ (r : NewView y t u x n j q z). inr (t, r.1, (λ d. nt (sym d)), r.3)) (c.refs j q z is)

  one_of : (b : ℕ) → (b ≡ t) ⊎ ((b ≡ u) ⊎ (b ≡ w)) → GoesOnAs y a a2 b E2
  one_of b (inl q) = subst (λ z. GoesOnAs y a a2 z E2) (sym q) (record { thread = record { before = x; after = x2; runs = f.runs; now = passes.now; marked = c.marked; still = c.still }; core = parent_core })
  one_of b (inr (inl q)) = subst (λ z. GoesOnAs y a a2 z E2) (sym q) (turned (new_turn giver c passes.now_new) passes.pairs (known u f.differ) (off_temp giver c u) c.held)
  one_of b (inr (inr q)) = subst (λ z. GoesOnAs y a a2 z E2) (sym q) (turned second_turn passes.pairs (known w f.other) (off_temp giver c w) c.held)

  near : (k : Key) (q : Bool) (z : Place) → E2 k ≡ refers q z → IsNear a2 k z
  near k q z is =
      ⊎_elim (λ (r : y.exact k ≡ refers q z). near_more a a2 (λ b p i. passes.pairs b ∙ i) k z (f.state.near k q z r))
      (λ (r : NewView y t u x n k q z). record { thread = u; of = ap thread_of_key r.2; owner = t; slot = r.1; is = r.3; near = inr (directly (waits_same a a2 passes.pairs t u f.waits)) })
      (c.refs k q z is)

  of : (k : Key) (q : Bool) (z : Place) → theirs (three t u w) k ≡ true → E2 k ≡ refers q z → (b : ℕ) × (three t u w b ≡ true) × (thread_of_key k ≡ Some b)
  of k q z h is =
      ⊎_elim (λ (r : y.exact k ≡ refers q z). let d = f.state.near k q z r in let p : (b : ℕ) × (three t u w b ≡ true) × (thread_of_key k ≡ Some b) = (d.thread, theirs_own (three t u w) k d.thread h d.of, d.of) in p)
      (λ (r : NewView y t u x n k q z). (u, three_second t u w, ap thread_of_key r.2)) (c.refs k q z is)

  leaves : SeveralTurn y a a2 (three t u w) E2
  leaves = record {
    each = λ b q. one_of b (three_is t u w b q);
    others = λ b q. let d = three_not t u w b q in passes.others b d.0 d.1;
    pairs = passes.pairs;
    typed = c.typed;
    same = λ k h. c.off k (λ q. let d : true ≡ false = sym (three_second t u w) ∙ sym (ap (theirs (three t u w)) q) ∙ h in cc) (λ j q. let d : true ≡ false = sym (three_first t u w) ∙ sym (ap (theirs (three t u w)) q) ∙ h in cc);
    contents = λ q. c.off (content_k q.home q.count) (λ r. cc) (λ j r. cc);
    results = λ b. c.off (result_k b) (λ r. cc) (λ j r. cc);
    of = of;
    near = near;
    named = λ k q z h is. ⊎_elim (λ (r : y.exact k ≡ refers q z). inr (k, r)) (λ (r : NewView y t u x n k q z). inl (t, r.1, three_first t u w, r.3)) (c.refs k q z is);
    nobody = forked_nobody f;
    held = λ b k q z h runs mark. c.held b k q z runs mark;
    carried = c.carried;
    mutexes = passes.mutexes;
    given = passes.given;
    objects = passes.objects;
    made = passes.made;
  }

  pub caught : Forked (typing_with y E2 y.marks) a2 t u w (record { place = record { entry = forked_at e2 ts g; temps = x.place.temps }; slots = sl }) (record { place = record { entry = going (new ∷ n) [] unit; temps = xu.place.temps }; slots = v ∷ xu.slots }) xw e2 (new ∷ n) m ts g
  caught =
      let state = several_typed f.state leaves in
      record {
        state = state;
        runs = still_runs y E2 passes;
        entry = refl;
        idle = f.idle;
        first = record { state = state; runs = new_runs y E2 passes; entry = refl };
        second = record { state = state; runs = ap place_in (passes.others w f.other f.apart) ∙ f.second.runs; entry = f.second.entry };
        differ = f.differ;
        other = f.other;
        apart = f.apart;
        waits = waits_same a a2 passes.pairs t u f.waits;
        waits_other = waits_same a a2 passes.pairs t w f.waits_other;
        only = λ b q. f.only b (waits_same a2 a (λ z. sym (passes.pairs z)) t b q);
        foreign = λ j q z is. ⊎_elim (λ (r : y.exact j ≡ refers q z). before j q z (f.foreign j q z r)) (λ (r : NewView y t u x n j q z). inr (λ k d. (r.0, keeps k (named j q z k r d)))) (c.refs j q z is);
        low = λ b k lt. f.low b k (subst (λ z. b < z) c.long lt);
        low_other = λ b k lt. f.low_other b k (subst (λ z. b < z) c.long lt);
      }
    where
      keeps : (k : ℕ) → Refers (y.exact (slot_k t k)) → Refers (E2 (slot_k t k))
      keeps k d = (d.0, d.1, c.keeps k d ∙ d.2)

      named : (j : Key) (q : Bool) (z : Place) (k : ℕ) → NewView y t u x n j q z → z.key ≡ slot_k t k → Refers (y.exact (slot_k t k))
      named j q z k r d = let p : slot_k t r.1 ≡ slot_k t k = sym r.3 ∙ d in let same : r.1 ≡ k = cc in subst (λ i. Refers (y.exact (slot_k t i))) same r.4

      before : (j : Key) (q : Bool) (z : Place) → ((i : ℕ) × (i < length e) × (j ≡ slot_k t i)) ⊎ ((k : ℕ) → z.key ≡ slot_k t k → (q ≡ false) × Refers (y.exact (slot_k t k))) → ((i : ℕ) × (i < length e2) × (j ≡ slot_k t i)) ⊎ ((k : ℕ) → z.key ≡ slot_k t k → (q ≡ false) × Refers (E2 (slot_k t k)))
      before j q z (inl r) = inl (r.0, subst (λ b. r.0 < b) (sym c.long) r.1, r.2)
      before j q z (inr r) = inr (λ k d. ((r k d).0, keeps k (r k d).1))
