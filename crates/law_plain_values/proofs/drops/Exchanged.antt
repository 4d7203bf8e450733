-- What a carrier has and what stands in a place of a thread change places: the state is typed again.
use Rattle.std.proofs.Common.{◌≡◌, ◌≢◌, ◌⊎◌, inl, inr, ⊎_elim, ◌∙◌, ℕ, ◌<◌, ◌≤◌, Bool, true, false, List, length, Some, None, refl, sym, ap, subst, arith}
use Rattle.fr_base.specs.declared.label.Plain.{Plain}
use Rattle.fr_base.specs.declared.name.ObjNo.{ObjNo}
use Rattle.fr_base.specs.declared.name.MutexNo.{MutexNo}
use Rattle.fr_typing.specs.Kinds.{Owned, Kind, Piece}
use Rattle.fr_typing.specs.Places.{Env, IsNested, AreBelow, piece_places}
use Rattle.fr_store.specs.Keys.{Key, slot_k, temp_k, content_k, result_k}
use Rattle.fr_store.specs.Store.{Location, at_key, box_v, task_v, Store, value_at, Place}
use Rattle.fr_store.specs.Changes.{SameButTwo}
use Rattle.fr_store.specs.Typed.{Tree, hole, owns, refers, KeyTypes, Typed}
use Rattle.fr_store.specs.Below.{tree_of, TreeOf, SlotsBelow}
use Rattle.fr_store.specs.Thread.{ThreadTyped}
use Rattle.fr_store.proofs.Keys.{decide_number}
use Rattle.fr_plain.specs.declared.value.Value.{Value}
use Rattle.fr_plain.specs.declared.value.Value.TheVariants.{Held}
use Rattle.fr_plain.specs.State.{slot_at}
use Rattle.fr_plain.specs.MachineThreads.{loose, ended, Shared}
use Rattle.fr_plain.specs.PlainState.{Running, PlainState, place_in}
use Rattle.fr_sound.specs.Entries.{Entry, going}
use Rattle.fr_sound.specs.States.{Typing, RunningTyped, IsKept, IsBranch, IsOwed, IsMark, IsShare, MutexTyped, env_at, is_hidden, is_held, IsLock}
use Rattle.fr_code.specs.CodeTypes.{wait}
use Rattle.law_plain_values.specs.acts.Positions.{Position, Knows, temps_of}
use Rattle.law_plain_values.proofs.acts.OneThread.{store, typing_with, Counted, Carried, RunningCore, with_running, runs_still, kept_still, kept_before, none_ended, waits_same, share_back, as_many}
use Rattle.law_plain_values.proofs.acts.Turns.{theirs, nobody_by, turns_typed}
use Rattle.law_plain_values.proofs.acts.Focus.{top_none, hand_at, Focus, unfocus, temp_free}
use Rattle.law_plain_values.proofs.acts.AtHand.{mark_off}
use Rattle.law_plain_values.proofs.acts.Hand.{At}
use Rattle.law_plain_values.proofs.acts.Moved.{carried_swap}
use Rattle.law_plain_values.proofs.acts.Stays.{of_by, near_by, named_by}
use Rattle.law_plain_values.proofs.acts.Fresh.{either, either_first, either_second, either_is, either_not}
use Rattle.law_plain_values.proofs.acts.Rethread.{rethread}
use Rattle.law_plain_values.proofs.acts.Threads.{no_pair}
use Rattle.law_plain_values.specs.drops.Drops.{carries}
use Rattle.law_plain_values.proofs.drops.Carrier.{Carries, no_mark, carrier_core, carrier_free, carrier_alone, carrier_unmarked}
use Rattle.law_plain_values.proofs.drops.After.{mine_by}

-- after the exchange: what stands where, and with which types
pub record Exchange (y : Typing) (a a2 : PlainState Position) (t u : ℕ) (x x2 : Running Position) (e e2 : Env) (us : List Kind) (g : Owned) (p : Piece) (w : Plain) (tr : Tree) (l : Location) (E2 : KeyTypes) : Type 0 where
  pub here : a2.thread u ≡ Some (loose (carries p (y.gives.result u) w))
  pub now : a2.thread t ≡ with_running (a.thread t) x2
  pub others : (n : ℕ) → n ≢ t → n ≢ u → a2.thread n ≡ a.thread n
  pub pairs : (n : ℕ) → a2.pair n ≡ a.pair n
  pub mutexes : (m : MutexNo) → a2.mutex m ≡ a.mutex m
  pub given : (m : MutexNo) → a2.is_given m ≡ a.is_given m
  pub made : (o : ObjNo) (v : Plain) (z : Running Position) → a2.object o ≡ Some v → place_in (a2.thread o.thread) ≡ Some z → o.count < a2.made o.thread
  pub objects : (o : ObjNo) (v : Plain) → a.object o ≡ Some v → (z : Plain) × (a2.object o ≡ Some z)
  pub before : (o : ObjNo) (v : Plain) → a2.object o ≡ Some v → (z : Plain) × (a.object o ≡ Some z)
  pub entry : x2.place.entry ≡ going e2 us g
  pub temps : x2.place.temps ≡ x.place.temps
  pub slots : length x2.slots ≡ length e2
  pub long : length e2 ≡ length e
  -- what stands
  pub two : SameButTwo (at_key (slot_k u 0)) l (store y a) (store (typing_with y E2 y.marks) a2)
  pub to : value_at (store (typing_with y E2 y.marks) a2) l ≡ Some ((store y a).at (slot_k u 0))
  pub back : Some ((store (typing_with y E2 y.marks) a2).at (slot_k u 0)) ≡ value_at (store y a) l
  -- its types
  pub typed : Typed y.rank E2 (store (typing_with y E2 y.marks) a2)
  pub refs : (k : Key) (m : Bool) (z : Place) → E2 k ≡ refers m z → y.exact k ≡ refers m z
  pub off : (k : Key) → k ≢ slot_k u 0 → ((i : ℕ) → k ≢ slot_k t i) → E2 k ≡ y.exact k
  pub full : E2 (slot_k u 0) ≡ owns tr
  pub part : TreeOf p tr
  pub low : AreBelow 0 (piece_places p)
  pub nested : IsNested e2
  pub below : SlotsBelow (slot_k t) E2 e2
  pub above : (i : ℕ) → length e2 ≤ i → E2 (slot_k t i) ≡ owns hole
  -- marks
  pub hidden : (i : ℕ) → is_hidden (env_at e2 i) ≡ is_held (slot_at x2.slots i)
  pub marked : (i : ℕ) (m : MutexNo) → slot_at x2.slots i ≡ Some (Held m) → slot_at x.slots i ≡ Some (Held m)
  pub still : (i : ℕ) (m : MutexNo) → slot_at x.slots i ≡ Some (Held m) → slot_at x2.slots i ≡ Some (Held m)
  pub content : (s : Store) (i : ℕ) (m : MutexNo) → IsLock y s e t i m → IsLock y s e2 t i m
  pub away : (n i : ℕ) (m : MutexNo) (z : Running Position) → place_in (a.thread n) ≡ Some z → slot_at z.slots i ≡ Some (Held m) → y.marks n i ≢ l

module _ {y : Typing} {a a2 : PlainState Position} {t u : ℕ} {x x2 : Running Position} {e e2 : Env} {us : List Kind} {g : Owned} {q p : Piece} {v w : Plain} {tr : Tree} {l : Location} {E2 : KeyTypes} (at : At y a t x e us g) (fc : Focus y a t e us None) (waits : wait us ≡ true) (k : Carries y a u q v) (differ : t ≢ u)
    (c : Exchange y a a2 t u x x2 e e2 us g p w tr l E2) where
  abbrev s1 : Store
  s1 = store y a

  abbrev s2 : Store
  s2 = store (typing_with y E2 y.marks) a2

  abbrev T : ℕ → Bool
  T = either t u

  run : RunningTyped Knows temps_of y s1 t (a.pair t) x
  run = at.state.threads t x at.runs

  e_is : run.entry ≡ going e us g
  e_is = sym run.known ∙ at.entry

  runs_two : place_in (a2.thread t) ≡ Some x2
  runs_two = ap place_in c.now ∙ runs_still (a.thread t) x x2 at.runs

  held : (n i : ℕ) (m : MutexNo) (z : Running Position) → place_in (a.thread n) ≡ Some z → slot_at z.slots i ≡ Some (Held m) → value_at s2 (y.marks n i) ≡ value_at s1 (y.marks n i)
  held n i m z runs mark = c.two (y.marks n i) (mark_off y a n i m z (slot_k u 0) at.state runs mark (carrier_free k)) (c.away n i m z runs mark)

  -- THE THREAD
  thread : ThreadTyped (slot_k t) y.rank (hand_at t us) e2 E2 s2 None
  thread = rethread fc.thread (record {
    typed = c.typed;
    nested = c.nested;
    slots = c.below;
    above = c.above;
    temp = c.off (hand_at t us) (λ z. cc) (λ i z. cc) ∙ fc.thread.temp;
    names = tt;
    over = λ i il. fc.thread.over i (subst (λ n. i < n) c.long il);
    stood = λ j m z i. inl (c.refs j m z i);
  })

  core : RunningCore (typing_with y E2 y.marks) s2 t (a2.pair t) x2
  core =
      unfocus y a a2 t e e2 us us None None g E2 y.marks x2 fc top_none (λ z. waits) thread (λ i il. c.off (temp_k t i) (λ z. cc) (λ j z. cc))
      (λ n j m z i. temp_free y a t n at.state j m z (c.refs j m z i)) (λ i il n. fc.high i n (let f = c.long in omega (arith, il, f))) c.entry (ap (λ (z : Entry). z.gives) (sym e_is) ∙ run.gives) (c.pairs t ∙ no_pair at)
      c.slots (ap length c.temps ∙ run.all_temps ∙ ap (λ (z : Entry). length z.temps) e_is) c.hidden
      (λ i m z.
      let mark = c.marked i m z in
      let lock = c.content s1 i m (subst (λ (r : Entry). IsLock y s1 r.env t i m) e_is (run.marked i m mark)) in
      record { leads = held t i m x at.runs mark ∙ lock.leads; unnamed = λ j d r f. lock.unnamed j d r (c.refs j d r f); content = lock.content })

  -- THE CARRIER
  core_u : RunningCore (typing_with y E2 y.marks) s2 u (a2.pair u) (carries p (y.gives.result u) w)
  core_u = carrier_core k a2 E2 p w tr c.typed c.low c.full c.part (λ i ne. c.off (slot_k u i) (λ z. let f : i ≡ 0 = cc in ne f) (λ j z. let f : t ≡ u = cc in differ f)) (c.off (temp_k u 0) (λ z. cc) (λ j z. cc)) c.refs (c.pairs u)

  -- WHO IS KEPT

  unkept : IsKept (a.thread u) → ⊥
  unkept z = subst IsKept k.here z

  kept_to : (n : ℕ) → IsKept (a.thread n) → IsKept (a2.thread n)
  kept_to n z =
      ⊎_elim (λ (f : n ≡ t). subst (λ i. IsKept (a2.thread i)) (sym f) (subst IsKept (sym c.now) (kept_still (a.thread t) x2 (subst (λ i. IsKept (a.thread i)) f z))))
      (λ (nt : n ≢ t). subst IsKept (sym (c.others n nt (λ f. unkept (subst (λ i. IsKept (a.thread i)) f z)))) z) (decide_number n t)

  kept_back : (n : ℕ) → IsKept (a2.thread n) → IsKept (a.thread n)
  kept_back n z =
      ⊎_elim (λ (f : n ≡ t). subst (λ i. IsKept (a.thread i)) (sym f) (kept_before (a.thread t) x2 (subst IsKept c.now (subst (λ i. IsKept (a2.thread i)) f z))))
      (λ (nt : n ≢ t). subst IsKept (c.others n nt (λ f. subst IsKept c.here (subst (λ i. IsKept (a2.thread i)) f z))) z) (decide_number n t)

  branch : (i b : ℕ) → IsBranch y a i b → IsBranch y a2 i b
  branch i b d = record { kept = kept_to b d.kept; gives = d.gives; only = λ n z. d.only n (waits_same a2 a (λ r. sym (c.pairs r)) n b z); below = d.below }

  owed_to : (n : ℕ) → IsOwed a n → IsOwed a2 n
  owed_to n d = record { free = λ i z. d.free i (waits_same a2 a (λ r. sym (c.pairs r)) i n z); kept = kept_to n d.kept }

  owed_back : (n : ℕ) → IsOwed a2 n → IsOwed a n
  owed_back n d = record { free = λ i z. d.free i (waits_same a a2 c.pairs i n z); kept = kept_back n d.kept }

  no_pairs : (n : ℕ) → (n ≡ t) ⊎ (n ≡ u) → a.pair n ≡ None
  no_pairs n (inl z) = ap a.pair z ∙ no_pair at
  no_pairs n (inr z) = ap a.pair z ∙ carrier_alone k

  parents : (i b d : ℕ) → a2.pair i ≡ Some (b, d) → (z : Running Position) × (place_in (a2.thread i) ≡ Some z)
  parents i b d f =
      let was = sym (c.pairs i) ∙ f in
      let r = at.state.parents i b d was in
      let two : ℕ × ℕ = (b, d) in
      let nt : i ≢ t = λ z. (let h : None ≡ Some two = sym (no_pairs i (inl z)) ∙ was in cc) in
      let nu : i ≢ u = λ z. (let h : None ≡ Some two = sym (no_pairs i (inr z)) ∙ was in cc) in
      (r.0, ap place_in (c.others i nt nu) ∙ r.1)

  -- MARKS

  mark_to : (m : MutexNo) (n i : ℕ) → IsMark a m n i → IsMark a2 m n i
  mark_to m n i d =
      ⊎_elim (λ (z : n ≡ t). let f : Some x ≡ Some d.thread = sym at.runs ∙ ap (λ r. place_in (a.thread r)) (sym z) ∙ d.goes_on in let is : d.thread ≡ x = cc in record { thread = x2; goes_on = ap (λ r. place_in (a2.thread r)) z ∙ runs_two; mark = c.still i m (ap (λ (r : Running Position). slot_at r.slots i) (sym is) ∙ d.mark) })
      (λ (nt : n ≢ t). ⊎_elim (λ (z : n ≡ u). absurd (carrier_unmarked k d.thread i m (ap (λ r. place_in (a.thread r)) (sym z) ∙ d.goes_on) d.mark)) (λ (nu : n ≢ u). record { thread = d.thread; goes_on = ap place_in (c.others n nt nu) ∙ d.goes_on; mark = d.mark }) (decide_number n u)) (decide_number n t)

  mark_back : (m : MutexNo) (n i : ℕ) → IsMark a2 m n i → IsMark a m n i
  mark_back m n i d =
      ⊎_elim (λ (z : n ≡ t). let f : Some x2 ≡ Some d.thread = sym runs_two ∙ ap (λ r. place_in (a2.thread r)) (sym z) ∙ d.goes_on in let is : d.thread ≡ x2 = cc in record { thread = x; goes_on = ap (λ r. place_in (a.thread r)) z ∙ at.runs; mark = c.marked i m (ap (λ (r : Running Position). slot_at r.slots i) (sym is) ∙ d.mark) })
      (λ (nt : n ≢ t). ⊎_elim (λ (z : n ≡ u). absurd (unmarked_two d.thread i m (ap (λ r. place_in (a2.thread r)) (sym z) ∙ d.goes_on) d.mark)) (λ (nu : n ≢ u). record { thread = d.thread; goes_on = sym (ap place_in (c.others n nt nu)) ∙ d.goes_on; mark = d.mark }) (decide_number n u)) (decide_number n t)
    where
      unmarked_two : (z : Running Position) (i : ℕ) (m : MutexNo) → place_in (a2.thread u) ≡ Some z → slot_at z.slots i ≡ Some (Held m) → ⊥
      unmarked_two z i m f h = let r : Some (carries p (y.gives.result u) w) ≡ Some z = sym (ap place_in c.here) ∙ f in let is : z ≡ carries p (y.gives.result u) w = cc in no_mark p (y.gives.result u) w i m (ap (λ (s : Running Position). slot_at s.slots i) (sym is) ∙ h)

  -- WHAT IS COUNTED

  carried : Carried s1 s2
  carried = carried_swap s1 s2 (slot_k u 0) l c.two c.to c.back

  there : (j : Location) (m : MutexNo) → IsShare s2 m j → (z : Shared) × (a2.mutex m ≡ Some z)
  there j m h = let f = at.state.there (carried.from j) m (share_back Counted s1 s2 carried m (λ r. tt) j h) in (f.0, c.mutexes m ∙ f.1)

  mutexes : (m : MutexNo) (z : Shared) → a2.mutex m ≡ Some z → MutexTyped (typing_with y E2 y.marks) a2 s2 m z
  mutexes m z f =
      let h = at.state.mutexes m z (sym (c.mutexes m) ∙ f) in
      record {
        given = c.given m ∙ h.given;
        shares = as_many Counted s1 s2 carried m (λ r. tt) z.shares h.shares;
        needed = h.needed;
        out = λ o. let d = h.out o in record { thread = d.thread; slot = d.slot; is = mark_to m d.thread d.slot d.is; only = λ n i r. d.only n i (mark_back m n i r) };
        unheld = λ b o n i r. h.unheld b o n i (mark_back m n i r);
        content = λ b o. c.off (content_k m.home m.count) (λ r. cc) (λ i r. cc) ∙ h.content b o;
      }

  objects_there : (j : Location) (o : ObjNo) → value_at s2 j ≡ Some (box_v o) → (b : Plain) × (a2.object o ≡ Some b)
  objects_there j o f = let h = at.state.objects_there (carried.from j) o (carried.back j (box_v o) tt f) in c.objects o h.0 h.1

  objects_owned : (o : ObjNo) (b : Plain) → a2.object o ≡ Some b → (j : Location) × (value_at s2 j ≡ Some (box_v o))
  objects_owned o b f = let r = c.before o b f in let h = at.state.objects_owned o r.0 r.1 in (carried.to h.0, carried.there h.0 (box_v o) tt h.1)

  results : (n : ℕ) (r : Value) → a2.thread n ≡ Some (ended r) → E2 (result_k n) ≡ owns (tree_of (y.gives.result n))
  results n r f =
      let nt : n ≢ t = λ z. none_ended (a.thread t) x x2 r at.runs (sym c.now ∙ ap a2.thread (sym z) ∙ f) in
      let nu : n ≢ u = λ z. (let h : Some (loose (carries p (y.gives.result u) w)) ≡ Some (ended r) = sym c.here ∙ ap a2.thread (sym z) ∙ f in cc) in
      c.off (result_k n) (λ z. cc) (λ i z. cc) ∙ at.state.results n r (sym (c.others n nt nu) ∙ f)

  other_keys : (j : Key) → theirs T j ≡ false → E2 j ≡ y.exact j
  other_keys j f = c.off j (λ z. let h : true ≡ false = sym (either_second t u) ∙ sym (ap (theirs T) z) ∙ f in cc) (λ i z. let h : true ≡ false = sym (either_first t u) ∙ sym (ap (theirs T) z) ∙ f in cc)

  mine : (n : ℕ) (z : Running Position) → (n ≡ t) ⊎ (n ≡ u) → place_in (a2.thread n) ≡ Some z → RunningCore (typing_with y E2 y.marks) s2 n (a2.pair n) z
  mine n z (inl r) f = subst (λ i. RunningCore (typing_with y E2 y.marks) s2 i (a2.pair i) z) (sym r) (mine_by (typing_with y E2 y.marks) s2 a2 t x2 z runs_two core (ap (λ i. place_in (a2.thread i)) (sym r) ∙ f))
  mine n z (inr r) f = subst (λ i. RunningCore (typing_with y E2 y.marks) s2 i (a2.pair i) z) (sym r) (mine_by (typing_with y E2 y.marks) s2 a2 u (carries p (y.gives.result u) w) z (ap place_in c.here) core_u (ap (λ i. place_in (a2.thread i)) (sym r) ∙ f))

  -- THE STATE
  pub exchanged : Carries (typing_with y E2 y.marks) a2 u p w
  exchanged = record {
    state = turns_typed at.state (record {
      typed = c.typed;
      mine = λ n z d f. mine n z (either_is t u n d) f;
      others = λ n z d f. let ne = either_not t u n d in sym (ap place_in (c.others n ne.0 ne.1)) ∙ f;
      pairs = λ n d. c.pairs n;
      same = other_keys;
      of = of_by y a a2 T E2 at.state c.refs;
      near = near_by y a a2 T E2 at.state c.refs (λ n b f. c.pairs n ∙ f);
      named = named_by y a a2 T E2 at.state c.refs;
      nobody = nobody_by y a T at.state (λ n d. no_pairs n (either_is t u n d));
      marks = λ n i d. refl;
      held = λ n i m z d runs mark. held n i m z runs mark;
      results = results;
      branches = λ i b d f. let h = at.state.pairs i b d (sym (c.pairs i) ∙ f) in (h.0, branch i b h.1, branch i d h.2);
      parents = parents;
      there = there;
      mutexes = mutexes;
      one_task = λ i j n b d f h. sym (carried.to_from i) ∙ ap carried.to (at.state.one_task (carried.from i) (carried.from j) n b d (carried.back i (task_v n b) tt f) (carried.back j (task_v n d) tt h)) ∙ carried.to_from j;
      tasks_owed = λ i n r f. owed_to n (at.state.tasks_owed (carried.from i) n r (carried.back i (task_v n r) tt f));
      owed_stand = λ n d. let f = at.state.owed_stand n (owed_back n d) in (carried.to f.0, f.1, carried.there f.0 (task_v n f.1) tt f.2);
      objects_there = objects_there;
      objects_owned = objects_owned;
      objects_made = c.made;
    });
    here = c.here;
  }
