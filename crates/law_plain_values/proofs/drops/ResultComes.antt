-- A link of a drop: the task of a thread that has ended goes, and the thread's result comes to the carrier.
use Rattle.std.proofs.Common.{◌≡◌, ◌≢◌, ⊎_elim, ◌∙◌, ℕ, ◌<◌, Bool, true, false, Some, refl, sym, ap, subst}
use Rattle.std.specs.Prelude.{◌==◌}
use Rattle.fr_base.specs.declared.label.Plain.{Plain}
use Rattle.fr_base.specs.declared.label.Plain.TheVariants as plain
use Rattle.fr_base.specs.declared.name.ObjNo.{ObjNo}
use Rattle.fr_base.specs.declared.name.MutexNo.{MutexNo}
use Rattle.fr_typing.specs.Kinds.{own, Piece, whole}
use Rattle.fr_store.specs.Keys.{Key, slot_k, temp_k, content_k, result_k}
use Rattle.fr_store.specs.Store.{Location, at_key, at_object, Val, gone_v, task_v, Store, value_at, Place}
use Rattle.fr_store.specs.Typed.{Tree, hole, owns, refers, KeyTypes, Typed, Unnamed}
use Rattle.fr_store.specs.Below.{tree_of}
use Rattle.fr_store.specs.Rows.{with_type}
use Rattle.fr_store.proofs.Keys.{key_same, key_other, decide_number}
use Rattle.fr_store.proofs.ThreadKept.{known_tree}
use Rattle.fr_plain.specs.declared.value.Value.TheVariants.{Own}
use Rattle.fr_plain.specs.MachineThreads.{loose, over, ended}
use Rattle.fr_plain.specs.PlainState.{Running, PlainState, place_in}
use Rattle.fr_sound.specs.Seen.{owned_val, seen_cell}
use Rattle.fr_sound.specs.States.{Typing, content_val, result_val, IsKept}
use Rattle.law_plain_values.specs.acts.Positions.{Position, temps_of}
use Rattle.law_plain_values.proofs.acts.OneThread.{store, typing_with}
use Rattle.law_plain_values.proofs.acts.Turns.{theirs}
use Rattle.law_plain_values.proofs.acts.AtHand.{mark_off}
use Rattle.law_plain_values.specs.drops.Drops.{carries}
use Rattle.law_plain_values.proofs.drops.Lost.{lost_typed}
use Rattle.law_plain_values.proofs.drops.Carrier.{Carries, carrier_alone, carrier_free, carrier_value, carrier_core, carrier_unmarked}
use Rattle.law_plain_values.proofs.drops.Shapes.{Came, came_carried, came_nowhere, came_types, came_typed}
use Rattle.law_plain_values.proofs.drops.After.{After, after_carries, elsewhere, result_same, mine_by}
use Rattle.law_plain_values.proofs.drops.Unboxed.{not_mine}

-- THE TYPES, where the value of a key came to the carrier

module _ (E : KeyTypes) (u : ℕ) (k : Key) (t : Tree) (ne : slot_k u 0 ≢ k) where
  pub came_here : came_types E (slot_k u 0) k t (slot_k u 0) ≡ owns t
  came_here = key_same (slot_k u 0) (owns t) (with_type (with_type E (slot_k u 0) (owns hole)) k (owns hole) (slot_k u 0))

  pub came_off : (j : Key) → j ≢ slot_k u 0 → j ≢ k → came_types E (slot_k u 0) k t j ≡ E j
  came_off j nh nk = key_other j (slot_k u 0) (owns t) (with_type (with_type E (slot_k u 0) (owns hole)) k (owns hole) j) nh ∙ key_other j k (owns hole) (with_type E (slot_k u 0) (owns hole) j) nk ∙ key_other j (slot_k u 0) (owns hole) (E j) nh

  pub came_refs : (j : Key) (m : Bool) (z : Place) → came_types E (slot_k u 0) k t j ≡ refers m z → E j ≡ refers m z
  came_refs j m z e =
      known_tree (slot_k u) k E (slot_k u 0) hole j m z
      (known_tree (slot_k u) k (with_type E (slot_k u 0) (owns hole)) k hole j m z
      (known_tree (slot_k u) k (with_type (with_type E (slot_k u 0) (owns hole)) k (owns hole)) (slot_k u 0) t j m z e))

module _ {y : Typing} {a : PlainState Position} {u : ℕ} {p : Piece} {n : ℕ} (c : Carries y a u p (plain.Task n)) (w : Plain) (was : a.thread n ≡ Some (ended (Own w)))
    (a2 : PlainState Position) (here : a2.thread u ≡ Some (loose (carries (whole (own (y.gives.result n))) (y.gives.result u) w))) (ends : a2.thread n ≡ Some over) (others : (k : ℕ) → k ≢ u → k ≢ n → a2.thread k ≡ a.thread k) (pairs : (k : ℕ) → a2.pair k ≡ a.pair k) (mutexes : (m : MutexNo) → a2.mutex m ≡ a.mutex m)
    (given : (m : MutexNo) → a2.is_given m ≡ a.is_given m) (objects : (b : ObjNo) → a2.object b ≡ a.object b) (made : (b : ObjNo) (v : Plain) (z : Running Position) → a2.object b ≡ Some v → place_in (a2.thread b.thread) ≡ Some z → b.count < a2.made b.thread) where
  abbrev h : Key
  h = slot_k u 0

  abbrev rk : Key
  rk = result_k n

  abbrev R : Tree
  R = tree_of (y.gives.result n)

  abbrev E2 : KeyTypes
  E2 = came_types y.exact (slot_k u 0) (result_k n) (tree_of (y.gives.result n))

  abbrev s1 : Store
  s1 = store y a

  abbrev s2 : Store
  s2 = store (typing_with y E2 y.marks) a2

  abbrev val : Val
  val = owned_val y.gives w

  after : After y a2 u E2 val
  after = after_carries y a2 u E2 (whole (own (y.gives.result n))) (y.gives.result u) w here

  places : (k : ℕ) → k ≢ u → place_in (a2.thread k) ≡ place_in (a.thread k)
  places k ne = ⊎_elim (λ (e : k ≡ n). ap (λ z. place_in (a2.thread z)) e ∙ ap place_in ends ∙ sym (ap place_in was) ∙ ap (λ z. place_in (a.thread z)) (sym e)) (λ (q : k ≢ n). ap place_in (others k ne q)) (decide_number k n)

  result_gone : s2.at rk ≡ gone_v
  result_gone = ap (result_val temps_of (typing_with y E2 y.marks) n) ends

  same_key : (k : Key) → k ≢ h → k ≢ rk → s2.at k ≡ s1.at k
  same_key k nh nr = elsewhere c a2 E2 after places (λ j. j ≢ rk) (λ hm i z. ap (content_val y.gives) (mutexes (record { home = hm; count = i }))) (λ i z. result_as i z) k nh nr
    where
      result_as : (i : ℕ) → result_k i ≢ rk → s2.at (result_k i) ≡ s1.at (result_k i)
      result_as i z = result_same c a2 E2 after places i (λ ne. others i ne (λ f. z (ap result_k f)))

  came : Came s1 s2 h (at_key rk) (task_v n R) val
  came = record {
    apart = λ e. cc;
    was = carrier_value c;
    from = ap Some (ap (result_val temps_of y n) was);
    now = after.now;
    left = λ v e. let f : Some gone_v ≡ Some v = ap Some (sym result_gone) ∙ e in cc;
    same = same;
  }
    where
      same : (l : Location) → l ≢ at_key h → l ≢ at_key rk → value_at s2 l ≡ value_at s1 l
      same (at_key k) nh nr = ap Some (same_key k (λ e. nh (ap at_key e)) (λ e. nr (ap at_key e)))
      same (at_object b) nh nr = ap (seen_cell y.gives) (objects b)

  free_rk : Unnamed y.exact rk
  free_rk j q z is e = let i = c.state.near j q z is in let l : slot_k i.owner i.slot ≡ rk = sym i.is ∙ e in cc

  apart : h ≢ rk
  apart e = cc

  typed : Typed y.rank E2 s2
  typed = came_typed y.rank y.exact s1 s2 h rk (task_v n R) val R came result_gone c.state.typed (carrier_free c) free_rk apart (c.state.results n (Own w) was)

  off : (k : Key) → k ≢ h → k ≢ rk → E2 k ≡ y.exact k
  off = came_off y.exact u rk R apart

  refs : (k : Key) (m : Bool) (z : Place) → E2 k ≡ refers m z → y.exact k ≡ refers m z
  refs = came_refs y.exact u rk R apart

  unkept : IsKept (a.thread u) → ⊥
  unkept k = subst IsKept c.here k

  kept_to : (k : ℕ) → IsKept (a.thread k) → ((r : Tree) → task_v n R ≢ task_v k r) → IsKept (a2.thread k)
  kept_to k z ne = subst IsKept (sym (others k (λ f. unkept (subst (λ i. IsKept (a.thread i)) f z)) (λ f. ne R (ap (λ i. task_v i R) (sym f))))) z

  kept_back : (k : ℕ) → IsKept (a2.thread k) → IsKept (a.thread k) × ((r : Tree) → task_v n R ≢ task_v k r)
  kept_back k z =
      let other : k ≢ n = λ f. subst IsKept ends (subst (λ i. IsKept (a2.thread i)) f z) in
      (subst IsKept (others k (λ f. after.unkept (subst (λ i. IsKept (a2.thread i)) f z)) other) z, λ r f. let g : k ≡ n = cc in other g)

  pub result_comes : Carries (typing_with y (came_types y.exact (slot_k u 0) (result_k n) (tree_of (y.gives.result n))) y.marks) a2 u (whole (own (y.gives.result n))) w
  result_comes = record {
    state = lost_typed {w = task_v n R} (record {
      state = c.state;
      was = came.was;
      typed = typed;
      mine = λ z e. mine_by (typing_with y E2 y.marks) s2 a2 u (carries (whole (own (y.gives.result n))) (y.gives.result u) w) z (ap place_in here) (carrier_core c a2 E2 (whole (own (y.gives.result n))) w R typed tt (came_here y.exact u rk R apart) refl (λ i ne. off (slot_k u i) (λ f. let g : i ≡ 0 = cc in ne g) (λ f. cc)) (off (temp_k u 0) (λ f. cc) (λ f. cc)) refs (pairs u)) e;
      others = places;
      free = carrier_alone c;
      pairs = pairs;
      same = λ k e. off k (not_mine u 0 k e) (λ f. let g : true ≡ false = sym (ap (theirs (λ i. i == u)) f) ∙ e in cc);
      refs = refs;
      held = λ k i m z runs mark. came.same (y.marks k i) (mark_off y a k i m z h c.state runs mark (carrier_free c)) (mark_off y a k i m z rk c.state runs mark free_rk);
      unmarked = carrier_unmarked c;
      still_unmarked = after.unmarked;
      results = λ k r e. let other : k ≢ n = λ f. (let g : Some over ≡ Some (ended r) = sym ends ∙ ap a2.thread (sym f) ∙ e in cc) in off (result_k k) (λ f. cc) (λ f. let g : k ≡ n = cc in other g) ∙ c.state.results k r (sym (others k (λ f. after.unended r (ap a2.thread (sym f) ∙ e)) other) ∙ e);
      kept_to = kept_to;
      kept_back = kept_back;
      carried = came_carried came;
      no_box = λ b f l e. cc;
      no_task = λ k d r f l e. came_nowhere came (task_v k r) (λ g. cc) (λ q g. c.state.one_task q (at_key h) k r d g (ap Some (came.was ∙ f))) l e;
      given = given;
      mutexes = λ m ne. (mutexes m, off (content_k m.home m.count) (λ f. cc) (λ f. cc));
      share_there = λ m d f l e. cc;
      share_typed = λ m d f to back z e. cc;
      objects = λ b ne. objects b;
      object_gone = λ b f. cc;
      made = made;
    });
    here = here;
  }
