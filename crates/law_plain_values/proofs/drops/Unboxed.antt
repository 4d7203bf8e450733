-- One link of a drop: a box's object goes, and what was in it comes to its carrier.
use Rattle.std.proofs.Common.{◌≡◌, ◌≢◌, ◌∙◌, ℕ, ◌<◌, Bool, false, Some, None, refl, sym, ap, subst}
use Rattle.std.specs.Prelude.{◌==◌}
use Rattle.fr_base.specs.declared.label.Plain.{Plain}
use Rattle.fr_base.specs.declared.label.Plain.TheVariants as plain
use Rattle.fr_base.specs.declared.name.ObjNo.{ObjNo}
use Rattle.fr_base.specs.declared.name.MutexNo.{MutexNo}
use Rattle.fr_typing.specs.Kinds.{Piece}
use Rattle.fr_typing.specs.Places.{AreBelow, piece_places}
use Rattle.fr_store.specs.Keys.{Key, slot_k, temp_k, content_k, result_k}
use Rattle.fr_store.specs.Store.{Location, at_key, at_object, Val, box_v, Store, value_at, Place}
use Rattle.fr_store.specs.Typed.{Tree, hole, unit_tree, int_tree, mutex_tree, task_tree, box_tree, TopFits, owns, refers, KeyTypes, Typed}
use Rattle.fr_store.specs.Below.{TreeOf}
use Rattle.fr_store.specs.Rows.{with_type}
use Rattle.fr_store.proofs.Keys.{key_same, key_other}
use Rattle.fr_store.proofs.Chains.{from_box}
use Rattle.fr_store.proofs.Changes.{unbox_link}
use Rattle.fr_store.proofs.ThreadKept.{known_tree}
use Rattle.fr_plain.specs.MachineThreads.{loose}
use Rattle.fr_plain.specs.PlainState.{Running, PlainState, place_in}
use Rattle.fr_sound.specs.Seen.{owned_val, seen_cell}
use Rattle.fr_sound.specs.States.{Typing, content_val, IsKept}
use Rattle.law_plain_values.specs.acts.Positions.{Position}
use Rattle.law_plain_values.proofs.acts.OneThread.{store, typing_with}
use Rattle.law_plain_values.proofs.acts.Turns.{theirs}
use Rattle.law_plain_values.proofs.acts.AtHand.{mark_off}
use Rattle.law_plain_values.proofs.acts.Moved.{mark_off_owned}
use Rattle.law_plain_values.specs.drops.Drops.{carries}
use Rattle.law_plain_values.proofs.drops.Lost.{lost_typed}
use Rattle.law_plain_values.proofs.drops.Carrier.{Carries, carrier_alone, carrier_free, carrier_value, carrier_core, carrier_unmarked}
use Rattle.law_plain_values.proofs.drops.Shapes.{Came, came_carried, came_nowhere}
use Rattle.law_plain_values.proofs.drops.After.{After, after_carries, elsewhere, result_same, mine_by}

-- what a box has in it, by its type
pub box_of : (t : Tree) (o : ObjNo) → TopFits t (box_v o) → (r : Tree) × (t ≡ box_tree r)
box_of hole o f = cc
box_of unit_tree o f = cc
box_of int_tree o f = let g = f.1 in cc
box_of (mutex_tree c) o f = let g = f.1 in cc
box_of (task_tree c) o f = let g = f.1 in cc
box_of (box_tree c) o f = (c, refl)

-- a key of others is none of the carrier's
pub not_mine : (u i : ℕ) (k : Key) → theirs (λ n. n == u) k ≡ false → k ≢ slot_k u i
not_mine u i k e f = let g : (u == u) ≡ false = sym (ap (theirs (λ n. n == u)) f) ∙ e in Rattle.law_plain_values.proofs.acts.OneThread.other_by u u g refl

module _ {y : Typing} {a : PlainState Position} {u : ℕ} {p : Piece} {o : ObjNo} (c : Carries y a u p (plain.Box o)) (w : Plain) (there : a.object o ≡ Some w) (t : Tree) (full : y.exact (slot_k u 0) ≡ owns (box_tree t)) (q : Piece) (tree : TreeOf q t) (nested : AreBelow 0 (piece_places q))
    (a2 : PlainState Position) (here : a2.thread u ≡ Some (loose (carries q (y.gives.result u) w))) (others : (n : ℕ) → n ≢ u → a2.thread n ≡ a.thread n) (pairs : (n : ℕ) → a2.pair n ≡ a.pair n) (mutexes : (m : MutexNo) → a2.mutex m ≡ a.mutex m) (given : (m : MutexNo) → a2.is_given m ≡ a.is_given m)
    (objects : (b : ObjNo) → b ≢ o → a2.object b ≡ a.object b) (gone : a2.object o ≡ None) (made : (b : ObjNo) (v : Plain) (z : Running Position) → a2.object b ≡ Some v → place_in (a2.thread b.thread) ≡ Some z → b.count < a2.made b.thread) where
  abbrev h : Key
  h = slot_k u 0

  abbrev E2 : KeyTypes
  E2 = with_type y.exact (slot_k u 0) (owns t)

  abbrev s1 : Store
  s1 = store y a

  abbrev s2 : Store
  s2 = store (typing_with y E2 y.marks) a2

  abbrev val : Val
  val = owned_val y.gives w

  after : After y a2 u E2 val
  after = after_carries y a2 u E2 q (y.gives.result u) w here

  places : (n : ℕ) → n ≢ u → place_in (a2.thread n) ≡ place_in (a.thread n)
  places n ne = ap place_in (others n ne)

  same_key : (k : Key) → k ≢ h → s2.at k ≡ s1.at k
  same_key k ne = elsewhere c a2 E2 after places (λ k. Unit {0}) (λ hm n z. ap (content_val y.gives) (mutexes (record { home = hm; count = n }))) (λ n z. result_same c a2 E2 after places n (others n)) k ne tt

  came : Came s1 s2 h (at_object o) (box_v o) val
  came = record {
    apart = λ e. cc;
    was = carrier_value c;
    from = ap (seen_cell y.gives) there;
    now = after.now;
    left = λ v e. let f : None ≡ Some v = sym (ap (seen_cell y.gives) gone) ∙ e in cc;
    same = same;
  }
    where
      same : (l : Location) → l ≢ at_key h → l ≢ at_object o → value_at s2 l ≡ value_at s1 l
      same (at_key k) nh nl = ap Some (same_key k (λ e. nh (ap at_key e)))
      same (at_object b) nh nl = ap (seen_cell y.gives) (objects b (λ e. nl (ap at_object e)))

  typed : Typed y.rank E2 s2
  typed = unbox_link y.rank y.exact E2 s1 s2 h t o c.state.typed (carrier_free c) (λ k ne. key_other k h (owns t) (y.exact k) ne) full (key_same h (owns t) (y.exact h)) came.same came.was (ap Some came.now ∙ sym came.from) (ap (seen_cell y.gives) gone)

  off : (k : Key) → k ≢ h → E2 k ≡ y.exact k
  off k ne = key_other k h (owns t) (y.exact k) ne

  refs : (k : Key) (m : Bool) (z : Place) → E2 k ≡ refers m z → y.exact k ≡ refers m z
  refs k m z e = known_tree (slot_k u) h y.exact h t k m z e

  unkept : IsKept (a.thread u) → ⊥
  unkept k = subst IsKept c.here k

  pub unboxed : Carries (typing_with y (with_type y.exact (slot_k u 0) (owns t)) y.marks) a2 u q w
  unboxed = record {
    state = lost_typed {w = box_v o} (record {
      state = c.state;
      was = came.was;
      typed = typed;
      mine = λ z e. mine_by (typing_with y E2 y.marks) s2 a2 u (carries q (y.gives.result u) w) z (ap place_in here) (carrier_core c a2 E2 q w t typed nested (key_same h (owns t) (y.exact h)) tree (λ i ne. off (slot_k u i) (λ f. let g : i ≡ 0 = cc in ne g)) (off (temp_k u 0) (λ f. cc)) refs (pairs u)) e;
      others = places;
      free = carrier_alone c;
      pairs = pairs;
      same = λ k e. off k (not_mine u 0 k e);
      refs = refs;
      held = λ n i m z runs mark. came.same (y.marks n i) (mark_off y a n i m z h c.state runs mark (carrier_free c)) (mark_off_owned y a n i m z h (box_tree t) t 1 (at_object o) c.state runs mark (carrier_free c) full refl (from_box s1 (at_key h) (at_key h) 0 o refl (ap Some came.was)));
      unmarked = carrier_unmarked c;
      still_unmarked = after.unmarked;
      results = λ n r e. off (result_k n) (λ f. cc) ∙ c.state.results n r (sym (others n (λ f. after.unended r (ap a2.thread (sym f) ∙ e))) ∙ e);
      kept_to = λ n k ne. subst IsKept (sym (others n (λ f. unkept (subst (λ z. IsKept (a.thread z)) f k)))) k;
      kept_back = λ n k. (subst IsKept (others n (λ f. after.unkept (subst (λ z. IsKept (a2.thread z)) f k))) k, λ r f. cc);
      carried = came_carried came;
      no_box = λ b f. let same : b ≡ o = cc in λ l e. came_nowhere came (box_v o) (λ g. cc) (λ d g. c.state.typed.owner d (at_key h) o g (ap Some came.was)) l (e ∙ ap (λ z. Some (box_v z)) same);
      no_task = λ n d r f l e. cc;
      given = given;
      mutexes = λ m ne. (mutexes m, off (content_k m.home m.count) (λ f. cc));
      share_there = λ m d f l e. cc;
      share_typed = λ m d f to back z e. cc;
      objects = λ b ne. objects b (λ f. ne (ap box_v (sym f)));
      object_gone = λ b f. let same : b ≡ o = cc in ap a2.object same ∙ gone;
      made = made;
    });
    here = here;
  }
