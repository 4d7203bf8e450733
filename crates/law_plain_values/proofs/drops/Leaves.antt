-- The end of a drop: the carrier goes with its value.
use Rattle.std.proofs.Common.{◌≡◌, ◌≢◌, ⊎_elim, ◌∙◌, ℕ, ◌<◌, Bool, Some, None, refl, sym, ap, subst}
use Rattle.fr_base.specs.declared.label.Plain.{Plain}
use Rattle.fr_base.specs.declared.name.ObjNo.{ObjNo}
use Rattle.fr_base.specs.declared.name.MutexNo.{MutexNo}
use Rattle.fr_typing.specs.Kinds.{Piece}
use Rattle.fr_store.specs.Keys.{Key, slot_k, content_k, result_k}
use Rattle.fr_store.specs.Store.{Location, at_key, at_object, Val, gone_v, box_v, mutex_v, task_v, Store, value_at, Place}
use Rattle.fr_store.specs.Typed.{Tree, hole, owns, refers, KeyTypes}
use Rattle.fr_store.specs.Rows.{with_type}
use Rattle.fr_store.proofs.Keys.{key_other, decide_number}
use Rattle.fr_store.proofs.ThreadKept.{known_tree}
use Rattle.fr_plain.specs.declared.value.Value.{Value}
use Rattle.fr_plain.specs.MachineThreads.{ended, Shared}
use Rattle.fr_plain.specs.PlainState.{Running, PlainState, place_in}
use Rattle.fr_sound.specs.Seen.{owned_val, seen_cell}
use Rattle.fr_sound.specs.States.{Typing, content_val, result_val, IsKept, IsMark, MutexTyped}
use Rattle.law_plain_values.specs.acts.Positions.{Position, temps_of, PositionTypes}
use Rattle.law_plain_values.proofs.acts.OneThread.{store, typing_with, Counted}
use Rattle.law_plain_values.proofs.acts.AtHand.{mark_off}
use Rattle.law_plain_values.proofs.drops.Lost.{lost_typed}
use Rattle.law_plain_values.proofs.drops.Carrier.{Carries, carrier_alone, carrier_free, carrier_value, carrier_unmarked}
use Rattle.law_plain_values.proofs.drops.Shapes.{Went, went_carried, went_nowhere, went_typed}
use Rattle.law_plain_values.proofs.drops.After.{After, after_none, elsewhere}
use Rattle.law_plain_values.proofs.drops.Unboxed.{not_mine}
use Rattle.law_plain_values.proofs.acts.Refs.{NoneNew, none_owns}

module _ {y : Typing} {a : PlainState Position} {u : ℕ} {p : Piece} {v : Plain} (c : Carries y a u p v) (a2 : PlainState Position) (none : a2.thread u ≡ None) (places : (k : ℕ) → k ≢ u → place_in (a2.thread k) ≡ place_in (a.thread k)) (results : (k : ℕ) → result_val temps_of y k (a2.thread k) ≡ result_val temps_of y k (a.thread k))
    (pairs : (k : ℕ) → a2.pair k ≡ a.pair k) (contents : (m : MutexNo) → content_val y.gives (a2.mutex m) ≡ content_val y.gives (a.mutex m)) (given : (m : MutexNo) → a2.is_given m ≡ a.is_given m) (objects : (b : ObjNo) → a2.object b ≡ a.object b)
    (made : (b : ObjNo) (w : Plain) (z : Running Position) → a2.object b ≡ Some w → place_in (a2.thread b.thread) ≡ Some z → b.count < a2.made b.thread) where
  abbrev h : Key
  h = slot_k u 0

  abbrev E2 : KeyTypes
  E2 = with_type y.exact (slot_k u 0) (owns hole)

  abbrev val : Val
  val = owned_val y.gives v

  abbrev s1 : Store
  s1 = store y a

  abbrev s2 : Store
  s2 = store (typing_with y E2 y.marks) a2

  after : After y a2 u E2 gone_v
  after = after_none y a2 u E2 none

  same_key : (k : Key) → k ≢ h → s2.at k ≡ s1.at k
  same_key k ne = elsewhere c a2 E2 after places (λ j. Unit {0}) (λ hm i z. contents (record { home = hm; count = i })) (λ i z. results i) k ne tt

  went : Went s1 s2 h val
  went = record { was = carrier_value c; now = after.now; same = same }
    where
      same : (l : Location) → l ≢ at_key h → value_at s2 l ≡ value_at s1 l
      same (at_key k) ne = ap Some (same_key k (λ e. ne (ap at_key e)))
      same (at_object b) ne = ap (seen_cell y.gives) (objects b)

  off : (k : Key) → k ≢ h → E2 k ≡ y.exact k
  off k ne = key_other k h (owns hole) (y.exact k) ne

  refs : (k : Key) (m : Bool) (z : Place) → E2 k ≡ refers m z → y.exact k ≡ refers m z
  refs k m z e = known_tree (slot_k u) h y.exact h hole k m z e

  module _ (ended_same : (k : ℕ) (r : Value) → a2.thread k ≡ Some (ended r) → a.thread k ≡ Some (ended r)) (no_box : (o : ObjNo) → owned_val y.gives v ≢ box_v o)
      (kept_to : (k : ℕ) → IsKept (a.thread k) → ((r : Tree) → owned_val y.gives v ≢ task_v k r) → IsKept (a2.thread k)) (kept_back : (k : ℕ) → IsKept (a2.thread k) → IsKept (a.thread k) × ((r : Tree) → owned_val y.gives v ≢ task_v k r))
      (mutexes : (m : MutexNo) → ((d : Tree) → owned_val y.gives v ≢ mutex_v m d) → a2.mutex m ≡ a.mutex m)
      (share_there : (m : MutexNo) (d : Tree) → owned_val y.gives v ≡ mutex_v m d → (z : Shared) × (a2.mutex m ≡ Some z))
      (share_typed : (m : MutexNo) (d : Tree) → owned_val y.gives v ≡ mutex_v m d → Went s1 s2 h val → ((n i : ℕ) → IsMark a m n i → IsMark a2 m n i) → ((n i : ℕ) → IsMark a2 m n i → IsMark a m n i) → (z : Shared) → a2.mutex m ≡ Some z → MutexTyped (typing_with y E2 y.marks) a2 s2 m z) where
    pub carrier_leaves : PositionTypes (typing_with y (with_type y.exact (slot_k u 0) (owns hole)) y.marks) a2
    carrier_leaves = lost_typed {w = val} (record {
      state = c.state;
      was = went.was;
      typed = went_typed went y.rank y.exact c.state.typed (carrier_free c);
      mine = λ z e. let f : None ≡ Some z = sym (ap place_in none) ∙ e in cc;
      others = places;
      free = carrier_alone c;
      pairs = pairs;
      same = λ k e. off k (not_mine u 0 k e);
      refs = refs;
      held = λ k i m z runs mark. went.same (y.marks k i) (mark_off y a k i m z h c.state runs mark (carrier_free c));
      unmarked = carrier_unmarked c;
      still_unmarked = after.unmarked;
      results = λ k r e. off (result_k k) (λ f. cc) ∙ c.state.results k r (ended_same k r e);
      kept_to = kept_to;
      kept_back = kept_back;
      carried = went_carried went;
      no_box = λ b f l e. absurd (no_box b f);
      no_task = λ k d r f l e. went_nowhere went (task_v k r) (λ g. cc) (λ q g. c.state.one_task q (at_key h) k r d g (ap Some (went.was ∙ f))) l e;
      given = given;
      mutexes = λ m ne. (mutexes m ne, off (content_k m.home m.count) (λ f. cc));
      share_there = λ m d f l e. share_there m d f;
      share_typed = λ m d f to back z e. share_typed m d f went to back z e;
      objects = λ b ne. objects b;
      object_gone = λ b f. absurd (no_box b f);
      made = made;
    })

-- WHO IS KEPT is not the carrier

pub kept_off : {y : Typing} {a : PlainState Position} {u : ℕ} {p : Piece} {v : Plain} → Carries y a u p v → (k : ℕ) → IsKept (a.thread k) → k ≢ u
kept_off {a = a} c k h e = subst IsKept c.here (subst (λ i. IsKept (a.thread i)) e h)

pub none_off : (a2 : PlainState Position) (u : ℕ) → a2.thread u ≡ None → (k : ℕ) → IsKept (a2.thread k) → k ≢ u
none_off a2 u none k h e = subst IsKept none (subst (λ i. IsKept (a2.thread i)) e h)

-- results stand, where no other thread changes
pub results_by : {y : Typing} {a : PlainState Position} {u : ℕ} {p : Piece} {v : Plain} → Carries y a u p v → (a2 : PlainState Position) → a2.thread u ≡ None → ((k : ℕ) → k ≢ u → a2.thread k ≡ a.thread k) → (k : ℕ) → result_val temps_of y k (a2.thread k) ≡ result_val temps_of y k (a.thread k)
results_by {y = y} {a = a} {u = u} c a2 none others k =
    ⊎_elim (λ (e : k ≡ u). ap (λ i. result_val temps_of y i (a2.thread i)) e ∙ ap (result_val temps_of y u) none ∙ sym (ap (result_val temps_of y u) c.here) ∙ ap (λ i. result_val temps_of y i (a.thread i)) (sym e)) (λ (ne : k ≢ u). ap (result_val temps_of y k) (others k ne)) (decide_number k u)

-- THE VALUE IS COUNTED NOWHERE

module _ {y : Typing} {a : PlainState Position} {u : ℕ} {p : Piece} {v : Plain} (c : Carries y a u p v) (flat : Counted (owned_val y.gives v) → ⊥) (a2 : PlainState Position) (none : a2.thread u ≡ None) (others : (k : ℕ) → k ≢ u → a2.thread k ≡ a.thread k) (pairs : (k : ℕ) → a2.pair k ≡ a.pair k)
    (mutexes : (m : MutexNo) → a2.mutex m ≡ a.mutex m) (given : (m : MutexNo) → a2.is_given m ≡ a.is_given m) (objects : (b : ObjNo) → a2.object b ≡ a.object b) (made : (b : ObjNo) (w : Plain) (z : Running Position) → a2.object b ≡ Some w → place_in (a2.thread b.thread) ≡ Some z → b.count < a2.made b.thread) where
  pub flat_leaves : (z : Typing) × PositionTypes z a2 × (z.gives ≡ y.gives) × NoneNew y.exact z.exact
  flat_leaves = (
    typing_with y (with_type y.exact (slot_k u 0) (owns hole)) y.marks,
    carrier_leaves c a2 none (λ k ne. ap place_in (others k ne)) (results_by c a2 none others) pairs (λ m. ap (content_val y.gives) (mutexes m)) given objects made
        (λ k r e. sym (others k (λ f. let g : None ≡ Some (ended r) = sym none ∙ ap a2.thread (sym f) ∙ e in cc)) ∙ e)
        (λ o e. flat (subst Counted (sym e) tt))
        (λ k h ne. subst IsKept (sym (others k (kept_off c k h))) h)
        (λ k h. (subst IsKept (others k (none_off a2 u none k h)) h, λ r e. flat (subst Counted (sym e) tt)))
        (λ m ne. mutexes m)
        (λ m d e. absurd (flat (subst Counted (sym e) tt)))
        (λ m d e. absurd (flat (subst Counted (sym e) tt))),
    refl,
    none_owns y.exact (slot_k u 0) hole,
  )
