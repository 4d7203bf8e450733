-- A link of a drop: the last value of a mutex goes, and the content comes to the carrier.
use Rattle.std.proofs.Common.{◌≡◌, ◌≢◌, ◌∙◌, ℕ, zero, suc, ◌<◌, Bool, true, false, List, [], ◌∷◌, length, Some, None, refl, sym, ap, subst, arith}
use Rattle.std.specs.Prelude.{◌==◌, slice_get}
use Rattle.fr_base.specs.declared.label.Plain.{Plain}
use Rattle.fr_base.specs.declared.label.Plain.TheVariants as plain
use Rattle.fr_base.specs.declared.name.ObjNo.{ObjNo}
use Rattle.fr_base.specs.declared.name.MutexNo.{MutexNo}
use Rattle.fr_typing.specs.Kinds.{own, Piece, whole}
use Rattle.fr_store.specs.Keys.{Key, slot_k, temp_k, content_k, result_k}
use Rattle.fr_store.specs.Store.{Location, at_key, at_object, Val, gone_v, mutex_v, Store, value_at, Place}
use Rattle.fr_store.specs.Typed.{Tree, refers, KeyTypes, Typed, Unnamed}
use Rattle.fr_store.specs.Below.{tree_of}
use Rattle.fr_plain.specs.MachineThreads.{loose}
use Rattle.fr_plain.specs.PlainState.{Running, PlainState, place_in}
use Rattle.fr_sound.specs.Seen.{owned_val, seen_cell}
use Rattle.fr_sound.specs.States.{Typing, content_val, IsKept, AreSoMany, IsShare}
use Rattle.law_plain_values.specs.acts.Positions.{Position}
use Rattle.law_plain_values.proofs.acts.OneThread.{store, typing_with}
use Rattle.law_plain_values.proofs.acts.Turns.{theirs}
use Rattle.law_plain_values.proofs.acts.AtHand.{mark_off}
use Rattle.law_plain_values.proofs.acts.Mutexes.{mutex_is}
use Rattle.law_plain_values.specs.drops.Drops.{carries}
use Rattle.law_plain_values.proofs.drops.Lost.{lost_typed}
use Rattle.law_plain_values.proofs.drops.Carrier.{Carries, carrier_alone, carrier_free, carrier_value, carrier_core, carrier_unmarked}
use Rattle.law_plain_values.proofs.drops.Shapes.{Came, came_carried, came_nowhere, came_types, came_typed}
use Rattle.law_plain_values.proofs.drops.After.{After, after_carries, elsewhere, result_same, mine_by}
use Rattle.law_plain_values.proofs.drops.Unboxed.{not_mine}
use Rattle.law_plain_values.proofs.drops.ResultComes.{came_here, came_off, came_refs}

-- in a list of one there is one
one_get : (ls : List Location) (i j : ℕ) (l k : Location) → length ls ≡ 1 → slice_get ls i ≡ Some l → slice_get ls j ≡ Some k → l ≡ k
one_get [] i j l k n e f = cc
one_get (x ∷ []) zero zero l k n e f = let g : l ≡ x = cc in let z : x ≡ k = cc in g ∙ z
one_get (x ∷ []) zero (suc j) l k n e f = cc
one_get (x ∷ []) (suc i) j l k n e f = cc
one_get (x ∷ z ∷ ls) i j l k n e f = absurd (omega (arith, n))

-- where a mutex has one value, it is the one
pub only_share : (s : Store) (m : MutexNo) (l k : Location) → AreSoMany (IsShare s m) 1 → IsShare s m l → IsShare s m k → l ≡ k
only_share s m l k h e f = let i = h.all l e in let j = h.all k f in one_get h.places i.0 j.0 l k h.count i.1 j.1

module _ {y : Typing} {a : PlainState Position} {u : ℕ} {p : Piece} {m : MutexNo} (c : Carries y a u p (plain.Mutex m)) (w : Plain) (there : a.mutex m ≡ Some (record { content = Some w; shares = 1 }))
    (a2 : PlainState Position) (here : a2.thread u ≡ Some (loose (carries (whole (own (y.gives.mutex m))) (y.gives.result u) w))) (others : (k : ℕ) → k ≢ u → a2.thread k ≡ a.thread k) (pairs : (k : ℕ) → a2.pair k ≡ a.pair k) (gone : a2.mutex m ≡ None) (mutexes : (k : MutexNo) → k ≢ m → a2.mutex k ≡ a.mutex k)
    (given : (k : MutexNo) → a2.is_given k ≡ a.is_given k) (objects : (b : ObjNo) → a2.object b ≡ a.object b) (made : (b : ObjNo) (v : Plain) (z : Running Position) → a2.object b ≡ Some v → place_in (a2.thread b.thread) ≡ Some z → b.count < a2.made b.thread) where
  abbrev h : Key
  h = slot_k u 0

  abbrev ck : Key
  ck = content_k m.home m.count

  abbrev R : Tree
  R = tree_of (y.gives.mutex m)

  abbrev E2 : KeyTypes
  E2 = came_types y.exact (slot_k u 0) (content_k m.home m.count) (tree_of (y.gives.mutex m))

  abbrev s1 : Store
  s1 = store y a

  abbrev s2 : Store
  s2 = store (typing_with y E2 y.marks) a2

  abbrev val : Val
  val = owned_val y.gives w

  after : After y a2 u E2 val
  after = after_carries y a2 u E2 (whole (own (y.gives.mutex m))) (y.gives.result u) w here

  places : (k : ℕ) → k ≢ u → place_in (a2.thread k) ≡ place_in (a.thread k)
  places k ne = ap place_in (others k ne)

  content_gone : s2.at ck ≡ gone_v
  content_gone = ap (content_val y.gives) gone

  same_key : (k : Key) → k ≢ h → k ≢ ck → s2.at k ≡ s1.at k
  same_key k nh nc =
      elsewhere c a2 E2 after places (λ j. j ≢ ck) (λ hm i z. ap (content_val y.gives) (mutexes (record { home = hm; count = i }) (λ f. z (ap (λ (d : MutexNo). content_k d.home d.count) f)))) (λ i z. result_same c a2 E2 after places i (others i)) k nh nc

  came : Came s1 s2 h (at_key ck) (mutex_v m R) val
  came = record {
    apart = λ e. cc;
    was = carrier_value c;
    from = ap Some (ap (content_val y.gives) there);
    now = after.now;
    left = λ v e. let f : Some gone_v ≡ Some v = ap Some (sym content_gone) ∙ e in cc;
    same = same;
  }
    where
      same : (l : Location) → l ≢ at_key h → l ≢ at_key ck → value_at s2 l ≡ value_at s1 l
      same (at_key k) nh nc = ap Some (same_key k (λ e. nh (ap at_key e)) (λ e. nc (ap at_key e)))
      same (at_object b) nh nc = ap (seen_cell y.gives) (objects b)

  free_ck : Unnamed y.exact ck
  free_ck j q z is e = let i = c.state.near j q z is in let l : slot_k i.owner i.slot ≡ ck = sym i.is ∙ e in cc

  apart : h ≢ ck
  apart e = cc

  typed : Typed y.rank E2 s2
  typed = came_typed y.rank y.exact s1 s2 h ck (mutex_v m R) val R came content_gone c.state.typed (carrier_free c) free_ck apart ((c.state.mutexes m (record { content = Some w; shares = 1 }) there).content w refl)

  off : (k : Key) → k ≢ h → k ≢ ck → E2 k ≡ y.exact k
  off = came_off y.exact u ck R apart

  refs : (k : Key) (b : Bool) (z : Place) → E2 k ≡ refers b z → y.exact k ≡ refers b z
  refs = came_refs y.exact u ck R apart

  unkept : IsKept (a.thread u) → ⊥
  unkept k = subst IsKept c.here k

  -- no value of it is left
  none_left : (d : Tree) (l : Location) → value_at s2 l ≡ Some (mutex_v m d) → ⊥
  none_left d l e = came_nowhere came (mutex_v m d) (λ g. cc) (λ q g. only_share s1 m q (at_key h) (c.state.mutexes m (record { content = Some w; shares = 1 }) there).shares (d, g) (R, ap Some came.was)) l e

  pub content_comes : Carries (typing_with y (came_types y.exact (slot_k u 0) (content_k m.home m.count) (tree_of (y.gives.mutex m))) y.marks) a2 u (whole (own (y.gives.mutex m))) w
  content_comes = record {
    state = lost_typed {w = mutex_v m R} (record {
      state = c.state;
      was = came.was;
      typed = typed;
      mine = λ z e. mine_by (typing_with y E2 y.marks) s2 a2 u (carries (whole (own (y.gives.mutex m))) (y.gives.result u) w) z (ap place_in here) (carrier_core c a2 E2 (whole (own (y.gives.mutex m))) w R typed tt (came_here y.exact u ck R apart) refl (λ i ne. off (slot_k u i) (λ f. let g : i ≡ 0 = cc in ne g) (λ f. cc)) (off (temp_k u 0) (λ f. cc) (λ f. cc)) refs (pairs u)) e;
      others = places;
      free = carrier_alone c;
      pairs = pairs;
      same = λ k e. off k (not_mine u 0 k e) (λ f. let g : true ≡ false = sym (ap (theirs (λ i. i == u)) f) ∙ e in cc);
      refs = refs;
      held = λ k i d z runs mark. came.same (y.marks k i) (mark_off y a k i d z h c.state runs mark (carrier_free c)) (mark_off y a k i d z ck c.state runs mark free_ck);
      unmarked = carrier_unmarked c;
      still_unmarked = after.unmarked;
      results = λ k r e. off (result_k k) (λ f. cc) (λ f. cc) ∙ c.state.results k r (sym (others k (λ f. after.unended r (ap a2.thread (sym f) ∙ e))) ∙ e);
      kept_to = λ k z ne. subst IsKept (sym (others k (λ f. unkept (subst (λ i. IsKept (a.thread i)) f z)))) z;
      kept_back = λ k z. (subst IsKept (others k (λ f. after.unkept (subst (λ i. IsKept (a2.thread i)) f z))) z, λ r f. cc);
      carried = came_carried came;
      no_box = λ b f l e. cc;
      no_task = λ k d r f l e. cc;
      given = given;
      mutexes = λ k ne. let other : k ≢ m = λ f. ne R (ap (λ z. mutex_v z R) (sym f)) in (mutexes k other, off (content_k k.home k.count) (λ f. cc) (λ f. other (mutex_is k m f)));
      share_there = λ k d f l e. let same : k ≡ m = cc in absurd (none_left e.0 l (e.1 ∙ ap (λ z. Some (mutex_v z e.0)) same));
      share_typed = λ k d f to back z e. let same : k ≡ m = cc in let g : None ≡ Some z = sym gone ∙ ap a2.mutex (sym same) ∙ e in cc;
      objects = λ b ne. objects b;
      object_gone = λ b f. cc;
      made = made;
    });
    here = here;
  }
