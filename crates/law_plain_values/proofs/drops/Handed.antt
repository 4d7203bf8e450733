-- A value that a key of a thread owns comes to a new carrier: the state is typed again, where the thread is.
use Rattle.std.proofs.Common.{◌≡◌, ◌≢◌, ◌⊎◌, inl, inr, ⊎_elim, ◌∙◌, ℕ, ◌<◌, Bool, true, false, [], ◌∷◌, Some, None, refl, sym, ap, subst, arith}
use Rattle.std.specs.Prelude.{is_some}
use Rattle.fr_base.specs.declared.label.Plain.{Plain}
use Rattle.fr_base.specs.declared.name.MutexNo.{MutexNo}
use Rattle.fr_typing.specs.Kinds.{unit, own, shared, mutable, view, Piece, whole, gone, boxed}
use Rattle.fr_typing.specs.Places.{AreBelow, piece_places}
use Rattle.fr_store.specs.Keys.{Key, slot_k, temp_k, content_k, result_k, hand_k}
use Rattle.fr_store.specs.Store.{Alike, at_key, at_object, gone_v, task_v, Store, value_at, Place, swap}
use Rattle.fr_store.specs.Changes.{SameButTwo}
use Rattle.fr_store.specs.Typed.{Tree, hole, owns, refers, KeyTypes, Typed, Unnamed}
use Rattle.fr_store.specs.Below.{tree_of, TreeOf, ExactOf}
use Rattle.fr_store.specs.Rows.{with_type}
use Rattle.fr_store.specs.Thread.{ThreadKeys, ThreadTyped}
use Rattle.fr_store.proofs.Keys.{key_same, key_other, decide_number}
use Rattle.fr_store.proofs.Rows.{swap_own, same_store}
use Rattle.fr_store.proofs.ThreadKept.{known_tree}
use Rattle.fr_plain.specs.declared.value.Value.{Value}
use Rattle.fr_plain.specs.declared.value.Value.TheVariants.{Held}
use Rattle.fr_plain.specs.State.{slot_at}
use Rattle.fr_plain.specs.MachineThreads.{loose, ended}
use Rattle.fr_plain.specs.PlainState.{Running, PlainState, place_in}
use Rattle.fr_sound.specs.Entries.{going}
use Rattle.fr_sound.specs.Seen.{owned_val, seen_cell}
use Rattle.fr_sound.specs.States.{Typing, IsKept, IsBranch, IsOwed, thread_of_key}
use Rattle.law_plain_values.specs.acts.Positions.{Position, PositionTypes}
use Rattle.law_plain_values.proofs.acts.OneThread.{store, typing_with, Carried, RunningCore, waits_same}
use Rattle.law_plain_values.proofs.acts.Turns.{theirs, nobody_by, turns_typed}
use Rattle.law_plain_values.proofs.acts.Focus.{temp_free}
use Rattle.law_plain_values.proofs.acts.AtHand.{mark_off}
use Rattle.law_plain_values.proofs.acts.Moved.{carried_swap}
use Rattle.law_plain_values.proofs.acts.SlotTurn.{alike_swap}
use Rattle.law_plain_values.proofs.acts.Stays.{Stays, there_by, mutexes_by, objects_by, owned_by, of_by, near_by, named_by}
use Rattle.law_plain_values.proofs.acts.Fresh.{either, either_first, either_second, either_is, either_not, none_waits, none_slot, hole_slot, hole_temp, free_slot}
use Rattle.law_plain_values.specs.drops.Drops.{carries}
use Rattle.law_plain_values.proofs.drops.Carrier.{Carries, slot_of_part, no_mark, no_hidden}
use Rattle.law_plain_values.proofs.drops.After.{mine_by}

-- a part with that tree which names nothing
pub own_part : (p : Piece) (t : Tree) → TreeOf p t → (q : Piece) × TreeOf q t × AreBelow 0 (piece_places q)
own_part (whole (own o)) t h = (whole (own o), h, tt)
own_part (whole (shared us)) t h = absurd h
own_part (whole (mutable us)) t h = absurd h
own_part (whole (view o)) t h = absurd h
own_part (gone k) t h = (gone (own unit), h, tt)
own_part (boxed p) t h = let r = own_part p h.0 h.2 in (boxed r.0, (h.0, h.1, r.1), r.2)

-- a thread's key is one of its keys
key_theirs : (T : ℕ → Bool) (k : Key) (t : ℕ) → thread_of_key k ≡ Some t → T t ≡ true → theirs T k ≡ true
key_theirs T (slot_k v i) t e h = let f : v ≡ t = cc in ap T f ∙ h
key_theirs T (temp_k v i) t e h = let f : v ≡ t = cc in ap T f ∙ h
key_theirs T (content_k a c) t e h = refl
key_theirs T (result_k v) t e h = refl
key_theirs T (hand_k v) t e h = let f : v ≡ t = cc in ap T f ∙ h

module _ (y : Typing) (a a2 : PlainState Position) (t u : ℕ) (h0 : Key) (p : Piece) (v : Plain) (tr : Tree) where
  abbrev E2 : KeyTypes
  E2 = with_type (with_type y.exact h0 (owns hole)) (slot_k u 0) (owns tr)

  pub record Handed : Type 0 where
    pub state : PositionTypes y a
    pub none : a.thread u ≡ None
    pub here : a2.thread u ≡ Some (loose (carries p (y.gives.result u) v))
    pub alone : a.pair t ≡ None
    pub differ : t ≢ u
    -- the carrier's keys
    pub keys : ThreadKeys (slot_k u) y.rank (temp_k u 0)
    pub over : y.rank (slot_k u 0) < y.rank (temp_k u 0)
    -- the key of the thread
    pub of : thread_of_key h0 ≡ Some t
    pub full : y.exact h0 ≡ owns tr
    pub free : Unnamed y.exact h0
    pub tree : TreeOf p tr
    pub nested : AreBelow 0 (piece_places p)
    -- what stands
    pub was : (store y a).at h0 ≡ owned_val y.gives v
    pub now : (store (typing_with y E2 y.marks) a2).at h0 ≡ gone_v
    pub came : (store (typing_with y E2 y.marks) a2).at (slot_k u 0) ≡ owned_val y.gives v
    pub same : (k : Key) → k ≢ h0 → k ≢ slot_k u 0 → (store (typing_with y E2 y.marks) a2).at k ≡ (store y a).at k
    pub others : (n : ℕ) → n ≢ t → n ≢ u → a2.thread n ≡ a.thread n
    pub pairs : (n : ℕ) → a2.pair n ≡ a.pair n
    pub kept_to : IsKept (a.thread t) → IsKept (a2.thread t)
    pub kept_back : IsKept (a2.thread t) → IsKept (a.thread t)
    pub unended : (r : Value) → a2.thread t ≡ Some (ended r) → ⊥
    pub stays : Stays a a2

module _ {y : Typing} {a a2 : PlainState Position} {t u : ℕ} {h0 : Key} {p : Piece} {v : Plain} {tr : Tree} (c : Handed y a a2 t u h0 p v tr) where
  abbrev h : Key
  h = slot_k u 0

  abbrev types : KeyTypes
  types = with_type (with_type y.exact h0 (owns hole)) (slot_k u 0) (owns tr)

  abbrev s1 : Store
  s1 = store y a

  abbrev s2 : Store
  s2 = store (typing_with y types y.marks) a2

  abbrev T : ℕ → Bool
  T = either t u

  apart : h ≢ h0
  apart e = let f : Some u ≡ Some t = ap thread_of_key e ∙ c.of in let g : t ≡ u = cc in c.differ g

  was_h : s1.at h ≡ gone_v
  was_h = none_slot y a c.state u c.none 0

  same : SameButTwo (at_key h) (at_key h0) s1 s2
  same (at_object o) nh n0 = ap (seen_cell y.gives) (c.stays.objects o)
  same (at_key k) nh n0 = ap Some (c.same k (λ e. n0 (ap at_key e)) (λ e. nh (ap at_key e)))

  free_h : Unnamed y.exact h
  free_h = free_slot y a c.state u c.none 0

  alike : Alike (swap s1 h (at_key h0)) s2
  alike = alike_swap s1 s2 h (at_key h0) (owned_val y.gives v) (λ e. apart (let f : h0 ≡ h = cc in sym f)) (ap Some c.was) same (ap Some (c.now ∙ sym was_h)) c.came

  pub handed_typed : Typed y.rank (with_type (with_type y.exact h0 (owns hole)) (slot_k u 0) (owns tr)) (store (typing_with y (with_type (with_type y.exact h0 (owns hole)) (slot_k u 0) (owns tr)) y.marks) a2)
  handed_typed = same_store y.rank types types (swap s1 h (at_key h0)) s2 (swap_own y.rank y.exact s1 h h0 0 hole tr tr (at_key h0) c.state.typed free_h apart (hole_slot y a c.state u c.none 0) c.free c.full refl refl) (λ j. refl) alike

  pub handed_off : (k : Key) → k ≢ slot_k u 0 → k ≢ h0 → with_type (with_type y.exact h0 (owns hole)) (slot_k u 0) (owns tr) k ≡ y.exact k
  handed_off k nh n0 = key_other k h (owns tr) (with_type y.exact h0 (owns hole) k) nh ∙ key_other k h0 (owns hole) (y.exact k) n0

  here_type : types h ≡ owns tr
  here_type = key_same h (owns tr) (with_type y.exact h0 (owns hole) h)

  pub handed_gone : with_type (with_type y.exact h0 (owns hole)) (slot_k u 0) (owns tr) h0 ≡ owns hole
  handed_gone = key_other h0 h (owns tr) (with_type y.exact h0 (owns hole) h0) (λ e. apart (sym e)) ∙ key_same h0 (owns hole) (y.exact h0)

  pub handed_refs : (k : Key) (m : Bool) (z : Place) → with_type (with_type y.exact h0 (owns hole)) (slot_k u 0) (owns tr) k ≡ refers m z → y.exact k ≡ refers m z
  handed_refs k m z e = known_tree (slot_k u) h y.exact h0 hole k m z (known_tree (slot_k u) h (with_type y.exact h0 (owns hole)) h tr k m z e)

  pub handed_held : (n i : ℕ) (m : MutexNo) (z : Running Position) → place_in (a.thread n) ≡ Some z → slot_at z.slots i ≡ Some (Held m) → value_at (store (typing_with y (with_type (with_type y.exact h0 (owns hole)) (slot_k u 0) (owns tr)) y.marks) a2) (y.marks n i) ≡ value_at (store y a) (y.marks n i)
  handed_held n i m z runs mark = same (y.marks n i) (mark_off y a n i m z h c.state runs mark free_h) (mark_off y a n i m z h0 c.state runs mark c.free)

  -- THE CARRIER
  thread : ThreadTyped (slot_k u) y.rank (temp_k u 0) (slot_of_part p ∷ []) types s2 None
  thread = record {
    typed = handed_typed;
    nested = (c.nested, tt);
    slots = (subst (ExactOf (slot_k u) types p) (sym here_type) c.tree, tt);
    above = λ i le. handed_off (slot_k u i) (λ e. let f : i ≡ 0 = cc in omega (arith, f, le)) (λ e. not_u e refl) ∙ hole_slot y a c.state u c.none i;
    temp = handed_off (temp_k u 0) (λ e. cc) (λ e. not_u e refl) ∙ hole_temp y a c.state u c.none 0;
    names = tt;
    quiet = λ k m z e. temp_free y a u 0 c.state k m z (handed_refs k m z e);
    over = λ i l. let f : i ≡ 0 = omega (arith, l) in let g = ap (λ j. y.rank (slot_k u j)) f in let o = c.over in omega (arith, o, g);
    alone = λ k m z e ne. inr (λ x. free_slot y a c.state u c.none x k m z (handed_refs k m z e));
  }
    where
      not_u : {k : Key} → k ≡ h0 → thread_of_key k ≡ Some u → ⊥
      not_u e f = let g : Some u ≡ Some t = sym f ∙ ap thread_of_key e ∙ c.of in let q : t ≡ u = cc in c.differ q

  core : RunningCore (typing_with y types y.marks) s2 u (a2.pair u) (carries p (y.gives.result u) v)
  core = record {
    entry = going (slot_of_part p ∷ []) [] (y.gives.result u);
    known = refl;
    gives = refl;
    keys = c.keys;
    thread = thread;
    waiting = λ i l. absurd (omega (arith, l));
    all_slots = refl;
    all_temps = refl;
    forks = ap is_some (sym (c.pairs u ∙ none_waits y a c.state u c.none));
    hidden = no_hidden p (y.gives.result u) v;
    marked = λ i m e. absurd (no_mark p (y.gives.result u) v i m e);
  }

  -- WHO IS KEPT

  not_here : (n : ℕ) → IsKept (a2.thread n) → n ≢ u
  not_here n k e = subst IsKept c.here (subst (λ z. IsKept (a2.thread z)) e k)

  not_there : (n : ℕ) → IsKept (a.thread n) → n ≢ u
  not_there n k e = subst IsKept c.none (subst (λ z. IsKept (a.thread z)) e k)

  kept_to : (n : ℕ) → IsKept (a.thread n) → IsKept (a2.thread n)
  kept_to n k = ⊎_elim (λ (e : n ≡ t). subst (λ z. IsKept (a2.thread z)) (sym e) (c.kept_to (subst (λ z. IsKept (a.thread z)) e k))) (λ (ne : n ≢ t). subst IsKept (sym (c.others n ne (not_there n k))) k) (decide_number n t)

  kept_back : (n : ℕ) → IsKept (a2.thread n) → IsKept (a.thread n)
  kept_back n k = ⊎_elim (λ (e : n ≡ t). subst (λ z. IsKept (a.thread z)) (sym e) (c.kept_back (subst (λ z. IsKept (a2.thread z)) e k))) (λ (ne : n ≢ t). subst IsKept (c.others n ne (not_here n k)) k) (decide_number n t)

  branch : (q b : ℕ) → IsBranch y a q b → IsBranch y a2 q b
  branch q b d = record { kept = kept_to b d.kept; gives = d.gives; only = λ n w. d.only n (waits_same a2 a (λ z. sym (c.pairs z)) n b w); below = d.below }

  owed_to : (n : ℕ) → IsOwed a n → IsOwed a2 n
  owed_to n d = record { free = λ q w. d.free q (waits_same a2 a (λ z. sym (c.pairs z)) q n w); kept = kept_to n d.kept }

  owed_back : (n : ℕ) → IsOwed a2 n → IsOwed a n
  owed_back n d = record { free = λ q w. d.free q (waits_same a a2 c.pairs q n w); kept = kept_back n d.kept }

  parents : (q b d : ℕ) → a2.pair q ≡ Some (b, d) → (w : Running Position) × (place_in (a2.thread q) ≡ Some w)
  parents q b d e =
      let f = c.state.parents q b d (sym (c.pairs q) ∙ e) in
      let two : ℕ × ℕ = (b, d) in
      let nt : q ≢ t = λ z. (let g : None ≡ Some two = sym c.alone ∙ ap a.pair (sym z) ∙ sym (c.pairs q) ∙ e in cc) in
      let nu : q ≢ u = λ z. (let g : None ≡ Some two = sym (none_waits y a c.state u c.none) ∙ ap a.pair (sym z) ∙ sym (c.pairs q) ∙ e in cc) in
      (f.0, ap place_in (c.others q nt nu) ∙ f.1)

  no_pairs : (n : ℕ) → (n ≡ t) ⊎ (n ≡ u) → a.pair n ≡ None
  no_pairs n (inl e) = ap a.pair e ∙ c.alone
  no_pairs n (inr e) = ap a.pair e ∙ none_waits y a c.state u c.none

  carried : Carried s1 s2
  carried = carried_swap s1 s2 h (at_key h0) same (ap Some (c.now ∙ sym was_h)) (ap Some (c.came ∙ sym c.was))

  off_result : (n : ℕ) → types (result_k n) ≡ y.exact (result_k n)
  off_result n = handed_off (result_k n) (λ e. cc) (λ e. let f : None ≡ Some t = ap thread_of_key e ∙ c.of in cc)

  off_content : (m : MutexNo) → types (content_k m.home m.count) ≡ y.exact (content_k m.home m.count)
  off_content m = handed_off (content_k m.home m.count) (λ e. cc) (λ e. let f : None ≡ Some t = ap thread_of_key e ∙ c.of in cc)

  results : (n : ℕ) (r : Value) → a2.thread n ≡ Some (ended r) → types (result_k n) ≡ owns (tree_of (y.gives.result n))
  results n r e =
      let nt : n ≢ t = λ z. c.unended r (ap a2.thread (sym z) ∙ e) in
      let nu : n ≢ u = λ z. (let f : Some (loose (carries p (y.gives.result u) v)) ≡ Some (ended r) = sym c.here ∙ ap a2.thread (sym z) ∙ e in cc) in
      off_result n ∙ c.state.results n r (sym (c.others n nt nu) ∙ e)

  other_keys : (k : Key) → theirs T k ≡ false → types k ≡ y.exact k
  other_keys k e = handed_off k (λ f. let g : true ≡ false = sym (either_second t u) ∙ sym (ap (theirs T) f) ∙ e in cc) (λ f. let g : true ≡ false = sym (key_theirs T h0 t c.of (either_first t u)) ∙ sym (ap (theirs T) f) ∙ e in cc)

  -- THE STATE, where the thread is typed
  module _ (typed_there : (z : Running Position) → place_in (a2.thread t) ≡ Some z → RunningCore (typing_with y (with_type (with_type y.exact h0 (owns hole)) (slot_k u 0) (owns tr)) y.marks) (store (typing_with y (with_type (with_type y.exact h0 (owns hole)) (slot_k u 0) (owns tr)) y.marks) a2) t (a2.pair t) z) where
    mine : (n : ℕ) (z : Running Position) → (n ≡ t) ⊎ (n ≡ u) → place_in (a2.thread n) ≡ Some z → RunningCore (typing_with y types y.marks) s2 n (a2.pair n) z
    mine n z (inl e) f = subst (λ i. RunningCore (typing_with y types y.marks) s2 i (a2.pair i) z) (sym e) (typed_there z (ap (λ i. place_in (a2.thread i)) (sym e) ∙ f))
    mine n z (inr e) f = subst (λ i. RunningCore (typing_with y types y.marks) s2 i (a2.pair i) z) (sym e) (mine_by (typing_with y types y.marks) s2 a2 u (carries p (y.gives.result u) v) z (ap place_in c.here) core (ap (λ i. place_in (a2.thread i)) (sym e) ∙ f))

    pub handed : Carries (typing_with y (with_type (with_type y.exact h0 (owns hole)) (slot_k u 0) (owns tr)) y.marks) a2 u p v
    handed = record {
      state = turns_typed c.state (record {
        typed = handed_typed;
        mine = λ n z q e. mine n z (either_is t u n q) e;
        others = λ n z q e. let ne = either_not t u n q in sym (ap place_in (c.others n ne.0 ne.1)) ∙ e;
        pairs = λ n q. c.pairs n;
        same = other_keys;
        of = of_by y a a2 T types c.state handed_refs;
        near = near_by y a a2 T types c.state handed_refs (λ n b e. c.pairs n ∙ e);
        named = named_by y a a2 T types c.state handed_refs;
        nobody = nobody_by y a T c.state (λ n q. no_pairs n (either_is t u n q));
        marks = λ n i q. refl;
        held = λ n i m z q runs mark. handed_held n i m z runs mark;
        results = results;
        branches = λ q b d e. let k = c.state.pairs q b d (sym (c.pairs q) ∙ e) in (k.0, branch q b k.1, branch q d k.2);
        parents = parents;
        there = there_by y a a2 types _ c.state c.stays carried (λ m q. tt);
        mutexes = mutexes_by y a a2 types _ c.state c.stays carried (λ m q. tt) off_content;
        one_task = λ l m n b q e f. sym (carried.to_from l) ∙ ap carried.to (c.state.one_task (carried.from l) (carried.from m) n b q (carried.back l (task_v n b) tt e) (carried.back m (task_v n q) tt f)) ∙ carried.to_from m;
        tasks_owed = λ l n r e. owed_to n (c.state.tasks_owed (carried.from l) n r (carried.back l (task_v n r) tt e));
        owed_stand = λ n d. let f = c.state.owed_stand n (owed_back n d) in (carried.to f.0, f.1, carried.there f.0 (task_v n f.1) tt f.2);
        objects_there = objects_by y a a2 types _ c.state c.stays carried (λ o. tt);
        objects_owned = owned_by y a a2 types _ c.state c.stays carried (λ o. tt);
        objects_made = c.stays.made;
      });
      here = c.here;
    }
