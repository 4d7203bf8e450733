-- Assignment: of owned values, along boxes and through mutable references, and of references to variables.
use Rattle.std.proofs.Common.{◌≡◌, ◌≢◌, ℕ, ◌<◌, ◌≤◌, Bool, true, false, List, [], length, Option, Some, None, refl, sym, ap, ◌∙◌, subst, arith}
use Rattle.std.specs.Prelude.{◌||◌}
use Rattle.fr_plain.specs.Below.fr_base.declared.place.Lval.{Lval}
use Rattle.fr_plain.specs.Below.fr_typing.Kinds.{map_some, Owned, unit, Kind, own, shared, mutable, view, Piece, whole, gone, boxed}
use Rattle.fr_plain.specs.Below.fr_typing.Places.{Env, found, type_at, is_lent, is_mutable, put_at, Shape, write_blocked, shared_to, mutable_to, owned_shape, piece_shape, shape_at, AreBelow, kind_places, first_shape}
use Rattle.fr_plain.specs.Below.fr_typing.Checks.{is_owned}
use Rattle.fr_store.specs.Keys.{slot_k, hand_k}
use Rattle.fr_store.specs.Local.{thread_of}
use Rattle.fr_store.specs.Store.{Alike, Location, at_key, Val, gone_v, Store, Place, value_at, swap, drop_value}
use Rattle.fr_store.specs.Store as store
use Rattle.fr_store.specs.ListState.{slot_value, put_slot, store_beside, drop_objects, drop_rest}
use Rattle.fr_store.specs.Typed.{hole, owns, refers, KeyTypes, Unnamed}
use Rattle.fr_store.specs.Below.{tree_of, piece_depth}
use Rattle.fr_store.specs.Rows.{tree_depth, with_type}
use Rattle.fr_store.specs.Thread.{After, place_of}
use Rattle.fr_store.proofs.Keys.{key_same, key_other}
use Rattle.fr_store.proofs.Rows.{top_fits, unnamed_with}
use Rattle.fr_store.proofs.OtherThreads.{alike_row}
use Rattle.fr_store.proofs.OwnPaths.{assign_row}
use Rattle.fr_store.proofs.Through.{write_through_row}
use Rattle.fr_store.proofs.ReferenceRows.{clear_row, fill_row}
use Rattle.fr_store.proofs.PutAt.{length_put, put_twice}
use Rattle.fr_store.proofs.ThreadKept.{unnamed_key, known_tree}
use Rattle.fr_store.proofs.ValueRows.{drop_row}
use Rattle.fr_store.proofs.ListState.{at_hand as at_hand_key, at_slot, list_swap_slot, length_put_slot, Alike-then}
use Rattle.fr_store.proofs.ListDrop.{drop_alike, drop_at, list_drop, list_drop_slot, put_slot_twice, slot_put_same}
use Rattle.fr_plain.specs.declared.value.Value.{Value}
use Rattle.fr_plain.specs.Heap.{task_of}
use Rattle.fr_plain.specs.MachineActs.{end_of_some, where_reached}
use Rattle.fr_plain.specs.State.{State, slot_at, with_slot, Spot, in_slot, in_cell, with_value, then_reached, without, drop_value as drop_plain}
use Rattle.fr_plain.specs.Acts.{do_assign, unit as unit_value, task_in, task_in_some, lets_go, act, assign_did}
use Rattle.fr_sound.specs.RunTypes.{Puts, Writes, Turns, Assigns, to_own, to_lent, to_variable}
use Rattle.fr_sound.specs.Seen.{Beside, IsKnown, AreKnown, IsBeside, val_of, vals, heap_of, seen, location_of, rank_of, Holds}
use Rattle.fr_sound.proofs.SeenLemmas.{length_vals, slot_seen, slot_there, vals_with, length_with_slot}
use Rattle.fr_sound.proofs.FoundPlaces.{There, there}
use Rattle.fr_sound.proofs.Known.{known_swap, known_drop, known_alike, none_alike, none_swap}
use Rattle.fr_sound.proofs.Hand.{slot_number, keys_of, beside_after, after_holds, seen_heap, hand_fits, fits_owned, hand_refers, Acted, same_location, same_val, drops_same, known_dropped, drop_freed, hand_gone, Dropped}
use Rattle.fr_sound.proofs.ReadsHold.{swapped, known_after, thread_after, length_after}

-- AN OWNED VALUE

-- what has the shape of an owned type is no reference
no_reference_shape : (look : Lval → Option Shape) (q : Piece) (x : Owned) → piece_shape look q ≡ Some (owned_shape x) → (is_lent (found q) || is_mutable (found q)) ≡ false
no_reference_shape look (whole (own z)) x e = refl
no_reference_shape look (whole (shared us)) x e = by (first_shape look us) e
  where
    by : (f : Option Shape) → map_some shared_to f ≡ Some (owned_shape x) → true ≡ false
    by None g = cc
    by (Some y) g = cc
no_reference_shape look (whole (mutable us)) x e = by (first_shape look us) e
  where
    by : (f : Option Shape) → map_some mutable_to f ≡ Some (owned_shape x) → true ≡ false
    by None g = cc
    by (Some y) g = cc
no_reference_shape look (whole (view z)) x e = cc
no_reference_shape look (gone k) x e = refl
no_reference_shape look (boxed p) x e = refl

-- what a row says of an owned value at hand that goes to a place, where the old one is dropped at the hand
abbrev Written : (beside : Beside) (e1 : Env) (st : State) (v : Value) (w : Lval) (high : ℕ) → Type 0
Written beside e1 st v w high =
    (l : Location) × (n : ℕ) × (E : KeyTypes) × IsBeside beside st.thread E × (store.locate (seen beside st (Some v)) (place_of (slot_k st.thread) w) ≡ Some l) × After (slot_k st.thread) (rank_of high) (hand_k st.thread) E e1 (drop_value n (hand_k st.thread) (swap (seen beside st (Some v)) (hand_k st.thread) l)) None

-- the new value stands at the place and the old one is dropped
written_acts : {beside : Beside} {e : Env} {st : State} {w : Lval} {v : Value} {x : Owned} (e1 : Env) → (y : Holds beside e (Some (own x)) (Some v) st) → There beside st (Some v) w → length e1 ≡ length e → Written beside e1 st v w y.high → (h : Option Value) → Acted beside (do_assign w v) h st None e1
written_acts {beside = beside} {e = e} {st = st} {w = w} {v = v} {x = x} e1 y p len f h =
    let t = st.thread in
    let s = seen beside st (Some v) in
    let l : f.0 ≡ location_of t p.reached.spot = same_location f.0 (location_of t p.reached.spot) (sym f.4 ∙ p.at) in
    let n = f.1 in
    let s1 = swap s (hand_k t) (location_of t p.reached.spot) in
    let a : After (slot_k t) (rank_of y.high) (hand_k t) f.2 e1 (drop_value n (hand_k t) s1) None =
    subst (λ (k : Location). After (slot_k t) (rank_of y.high) (hand_k t) f.2 e1 (drop_value n (hand_k t) (swap s (hand_k t) k)) None) l f.5 in
    let owned = fits_owned beside.gives t x v (hand_fits y) in
    let low = y.low in
    let loss : lets_go (do_assign w v) st ≡ task_in (with_value st p.reached.spot v).heap p.value =
    ap (λ r. task_of (where_reached r (λ r. end_of_some (with_value st r.spot v).heap (Rattle.fr_plain.specs.State.value_at st r.spot)))) p.is ∙ ap (task_in_some (with_value st p.reached.spot v).heap) p.there in
    let dropped : Dropped beside e1 (with_value st p.reached.spot v) p.value =
    typed p.reached.spot p.value e1 y.high n (omega (arith, len, low)) f.3 s1 a (swapped st (Some v) w v p refl (λ q g. owned))
    (length_after st p.reached.spot v ∙ y.slots ∙ sym len) (known_swap (IsKnown beside.owed st.heap) tt s (hand_k t) (location_of t p.reached.spot) y.known) in
    record {
      did = record { value = unit_value; state = drop_plain (with_value st p.reached.spot v) p.value; labels = _ };
      same = thread_after st p.reached.spot v;
      is = ap (λ r. then_reached r (λ r. assign_did st v r (Rattle.fr_plain.specs.State.value_at st r.spot))) p.is ∙ ap (assign_did st v p.reached) p.there;
      holds = dropped.holds;
      frees = λ u z. dropped.frees u (sym loss ∙ z);
    }
  where
    -- the state in which the old value is at hand, with it dropped
    settled : (st1 : State) (old : Value) (e1 : Env) (high n : ℕ) {E : KeyTypes} (s1 : Store) → length e1 ≤ high → IsBeside beside st1.thread E → After (slot_k st1.thread) (rank_of high) (hand_k st1.thread) E e1 (drop_value n (hand_k st1.thread) s1) None → Alike s1 (seen beside st1 (Some old))
        → length st1.slots ≡ length e1 → AreKnown (IsKnown beside.owed st1.heap) s1 → Dropped beside e1 st1 old
    settled st1 old e1 high n s1 low near a alike slots known =
        let t = st1.thread in
        let vs = vals beside.gives t st1.slots in
        let hv = val_of beside.gives t old in
        let heap = heap_of beside.gives st1.heap in
        let s2 = seen beside st1 (Some old) in
        let at : s2.at (hand_k t) ≡ hv = at_hand_key beside.at t vs hv heap in
        let dropped_alike = drop_alike n (hand_k t) s1 s2 alike in
        let gone2 : (drop_value n (hand_k t) s2).at (hand_k t) ≡ gone_v = same_val ((drop_value n (hand_k t) s2).at (hand_k t)) gone_v (dropped_alike (at_key (hand_k t)) ∙ ap Some (hand_gone t high a.thread)) in
        let ends : drop_rest n hv heap ≡ gone_v = ap (λ z. drop_rest n z heap) (sym at) ∙ sym (drop_at n (hand_k t) s2) ∙ gone2 in
        let after : Alike (drop_value n (hand_k t) s2) (seen beside (drop_plain st1 old) None) =
        Alike-then (drop_value n (hand_k t) s2) (store_beside beside.at t vs gone_v (drop_objects n hv heap)) (store_beside beside.at t vs gone_v (heap_of beside.gives (without st1.heap old)))
        (subst (λ (u : Val). Alike (drop_value n (hand_k t) s2) (store_beside beside.at t vs u (drop_objects n hv heap))) ends (list_drop n beside.at t vs hv heap))
        (seen_heap beside.at t vs gone_v (drop_objects n hv heap) (heap_of beside.gives (without st1.heap old)) (drops_same beside.gives t n st1.heap old ends)) in
        record {
          holds = after_holds (drop_plain st1 old) e1 None None high low near a
              (Alike-then (drop_value n (hand_k t) s1) (drop_value n (hand_k t) s2) (seen beside (drop_plain st1 old) None) dropped_alike after)
              slots (known_dropped beside.owed st1.heap old (drop_value n (hand_k t) s1) (known_drop (IsKnown beside.owed st1.heap) tt n (hand_k t) s1 known));
          frees = λ u f. none_alike u (drop_value n (hand_k t) s2) (seen beside (drop_plain st1 old) None) (drop_freed beside.gives t n (hand_k t) s2 st1.heap old u (known_alike (IsKnown beside.owed st1.heap) tt s1 s2 known alike).once at (λ q. refl) ends f) after;
        }

    typed : (p : Spot) (old : Value) (e1 : Env) (high n : ℕ) {E : KeyTypes} → length e1 ≤ high → IsBeside beside st.thread E → (s1 : Store) → After (slot_k st.thread) (rank_of high) (hand_k st.thread) E e1 (drop_value n (hand_k st.thread) s1) None → Alike s1 (seen beside (with_value st p v) (Some old))
        → length (with_value st p v).slots ≡ length e1 → AreKnown (IsKnown beside.owed st.heap) s1 → Dropped beside e1 (with_value st p v) old
    typed (in_slot i) old e1 high n low near s1 a alike slots known = settled (with_value st (in_slot i) v) old e1 high n s1 low near a alike slots (known_after beside.owed st (in_slot i) v s1 known)
    typed (in_cell q) old e1 high n low near s1 a alike slots known = settled (with_value st (in_cell q) v) old e1 high n s1 low near a alike slots (known_after beside.owed st (in_cell q) v s1 known)

-- on an own path
put_acts : {beside : Beside} {e e2 : Env} {st : State} {w : Lval} {v : Value} {x : Owned} → Holds beside e (Some (own x)) (Some v) st → Puts e w x e2 → (h : Option Value) → Acted beside (do_assign w v) h st None e2
put_acts {beside = beside} {e = e} {st = st} {w = w} {v = v} {x = x} y m h =
    let t = st.thread in
    let f = assign_row (slot_k t) (rank_of y.high) (hand_k t) e y.types (seen beside st (Some v)) w x m.piece (keys_of t y.high) y.thread m.there m.is (no_reference_shape (shape_at e) m.piece x m.shape) m.free m.own_path in
    let n = piece_depth m.piece in
    let e1 = put_at e w (whole (own x)) in
    subst (Acted beside (do_assign w v) h st None) (sym m.after) (written_acts e1 y (there w m.piece y m.there m.is) (length_put e w (whole (own x))) (f.0, n, y.types, y.beside, f.1, f.2 n (omega arith)) h)

-- through mutable references
write_acts : {beside : Beside} {e : Env} {st : State} {w : Lval} {v : Value} {x : Owned} → Holds beside e (Some (own x)) (Some v) st → Writes e w x → (h : Option Value) → Acted beside (do_assign w v) h st None e
write_acts {beside = beside} {e = e} {st = st} {w = w} {v = v} {x = x} y m h =
    let t = st.thread in
    let keys = keys_of t y.high in
    let f = write_through_row (slot_k t) (rank_of y.high) (hand_k t) e y.types (seen beside st (Some v)) w x m.piece (shape_at e) keys y.thread m.there m.is m.shape m.free m.writable m.through in
    let a = f.2 in
    let n = tree_depth (tree_of x) in
    let d = drop_row (slot_k t) (rank_of y.high) (hand_k t) e a.env (swap (seen beside st (Some v)) (hand_k t) f.0) x n keys a.thread (omega arith) in
    written_acts e y (there w m.piece y m.there m.is) refl (f.0, n, a.env, beside_after t y.beside a, f.1, d) h

-- A REFERENCE

-- the variable has the reference at hand, and its old value is dropped
turned_holds : {beside : Beside} {e : Env} {st : State} {v : Value} (k : Kind) (x : ℕ) (q : Piece) (old : Value) → Holds beside e (Some k) (Some v) st → x < length e → type_at e (record { slot = x; depth = 0 }) ≡ found q → is_owned k ≡ false → write_blocked e x ≡ false → AreBelow x (kind_places k)
    → slot_at st.slots x ≡ Some old → Dropped beside (put_at e (record { slot = x; depth = 0 }) (whole k)) (record st { slots = with_slot st.slots x v }) old
turned_holds {beside = beside} {e = e} {st = st} {v = v} k x q old y lt is ref free below there_old =
    let t = st.thread in
    let key = slot_k t in
    let rank = rank_of y.high in
    let keys = keys_of t y.high in
    let w : Lval = record { slot = x; depth = 0 } in
    let s = seen beside st (Some v) in
    let us = vals beside.gives t st.slots in
    let hv = val_of beside.gives t v in
    let vx = val_of beside.gives t old in
    let r = hand_refers k x y ref below in
    let unnamed : Unnamed y.types (key x) = unnamed_key key rank (hand_k t) e y.types s (Some k) keys y.thread x free (λ m u g. not_named r.mutable r.place m u r.slot (sym r.is ∙ g) r.named r.less) in
    let n = piece_depth q in
    let e0 = put_at e w (gone (own unit)) in
    let E1 = with_type y.types (key x) (owns hole) in
    let c = clear_row key rank (hand_k t) e y.types s x q (Some k) n keys y.thread unnamed is (omega arith) in
    let hole_there : E1 (key x) ≡ owns hole = key_same (key x) (owns hole) (y.types (key x)) in
    let gone_there : (drop_value n (key x) s).at (key x) ≡ gone_v = top_fits rank E1 (drop_value n (key x) s) c.typed (key x) hole hole_there in
    let value : slot_value us x ≡ vx = slot_seen beside.gives t st.slots x old there_old in
    let first : s.at (key x) ≡ vx = at_slot beside.at t us hv (heap_of beside.gives st.heap) x ∙ value in
    let ends : drop_rest n vx (heap_of beside.gives st.heap) ≡ gone_v = ap (λ z. drop_rest n z (heap_of beside.gives st.heap)) (sym first) ∙ sym (drop_at n (key x) s) ∙ gone_there in
    let h2 = drop_objects n vx (heap_of beside.gives st.heap) in
    let s2 = store_beside beside.at t (put_slot us x gone_v) hv h2 in
    let here : x < length us = subst (λ m. x < m) (sym (length_vals beside.gives t st.slots ∙ y.slots)) lt in
    let alike1 : Alike (drop_value n (key x) s) s2 =
    subst (λ (g : Val). Alike (drop_value n (key x) s) (store_beside beside.at t (put_slot us x g) hv h2)) ends
    (subst (λ (z : Val). Alike (drop_value n (key x) s) (store_beside beside.at t (put_slot us x (drop_rest n z (heap_of beside.gives st.heap))) hv (drop_objects n z (heap_of beside.gives st.heap)))) value (list_drop_slot n beside.at t us hv (heap_of beside.gives st.heap) x here)) in
    let alike_c = alike_row key rank (hand_k t) e0 E1 (drop_value n (key x) s) s2 (Some k) alike1 in
    let c2 = alike_c.0 c in
    let off : (hand_k t) ≢ key x = λ g. cc in
    let hand2 : E1 (hand_k t) ≡ refers r.mutable r.place = key_other (hand_k t) (key x) (owns hole) (y.types (hand_k t)) off ∙ r.is in
    let ranks : rank r.place.key < rank (key x) = subst (λ j. rank j < rank (key x)) (sym r.named) r.less in
    let len0 = length_put e w (gone (own unit)) in
    let fill = fill_row key rank (hand_k t) e0 E1 s2 x k r.mutable r.place keys c2 hand2 hole_there (unnamed_with y.types (key x) hole (key x) unnamed) (subst (λ m. x < m) (sym len0) lt) below ranks in
    let a : After key rank (hand_k t) E1 (put_at e w (whole k)) (swap s2 (hand_k t) (at_key (key x))) None = subst (λ (f : Env). After key rank (hand_k t) E1 f (swap s2 (hand_k t) (at_key (key x))) None) (put_twice e x (gone (own unit)) (whole k)) fill in
    let here2 : x < length (put_slot us x gone_v) = subst (λ m. x < m) (sym (length_put_slot us x gone_v)) here in
    let alike2 : Alike (swap s2 (hand_k t) (at_key (key x))) (store_beside beside.at t (put_slot us x hv) gone_v h2) =
    subst (λ (z : Val). Alike (swap s2 (hand_k t) (at_key (key x))) (store_beside beside.at t (put_slot us x hv) z h2)) (slot_put_same us x gone_v here)
    (subst (λ (z : List Val). Alike (swap s2 (hand_k t) (at_key (key x))) (store_beside beside.at t z (slot_value (put_slot us x gone_v) x) h2)) (put_slot_twice us x gone_v hv) (list_swap_slot beside.at t (put_slot us x gone_v) hv h2 x here2)) in
    let st2 = drop_plain (record st { slots = with_slot st.slots x v }) old in
    let alike3 : Alike (swap s2 (hand_k t) (at_key (key x))) (store_beside beside.at t (vals beside.gives t (with_slot st.slots x v)) gone_v h2) =
    subst (λ (z : List Val). Alike (swap s2 (hand_k t) (at_key (key x))) (store_beside beside.at t z gone_v h2)) (sym (vals_with beside.gives t st.slots x v)) alike2 in
    let len = length_put e w (whole k) in
    let low = y.low in
    let known1 = known_drop (IsKnown beside.owed st.heap) tt n (key x) s y.known in
    let known2 = known_alike (IsKnown beside.owed st.heap) tt (drop_value n (key x) s) s2 known1 alike1 in
    let near : IsBeside beside t E1 = record {
      others = λ j ne. key_other j (key x) (owns hole) (y.types j) (λ e. ne (ap thread_of e)) ∙ y.beside.others j ne;
      own = λ j m u is. y.beside.own j m u (known_tree key (hand_k t) y.types (key x) hole j m u is);
    } in
    let after : Alike (swap s2 (hand_k t) (at_key (key x))) (seen beside st2 None) =
    Alike-then (swap s2 (hand_k t) (at_key (key x))) (store_beside beside.at t (vals beside.gives t (with_slot st.slots x v)) gone_v h2) (seen beside st2 None) alike3
    (seen_heap beside.at t (vals beside.gives t (with_slot st.slots x v)) gone_v h2 (heap_of beside.gives (without st.heap old)) (drops_same beside.gives t n st.heap old ends)) in
    record {
      holds = after_holds st2 (put_at e w (whole k)) None None y.high (omega (arith, len, low)) near a after
          (length_with_slot st.slots x v ∙ y.slots ∙ sym len)
          (known_dropped beside.owed st.heap old (swap s2 (hand_k t) (at_key (key x))) (known_swap (IsKnown beside.owed st.heap) tt s2 (hand_k t) (at_key (key x)) known2));
      frees = λ u f. none_alike u (swap s2 (hand_k t) (at_key (key x))) (seen beside st2 None)
          (none_swap u s2 (hand_k t) (at_key (key x)) (none_alike u (drop_value n (key x) s) s2 (drop_freed beside.gives t n (key x) s st.heap old u y.known.once first (λ z. refl) ends f) alike1)) after;
    }
  where
    -- the reference at hand is to a lower slot
    not_named : (m : Bool) (u : Place) (m2 : Bool) (u2 : Place) (z : ℕ) → refers m u ≡ refers m2 u2 → u.key ≡ slot_k st.thread z → z < x → u2.key ≢ slot_k st.thread x
    not_named m u m2 u2 z g named less f =
        let same : u ≡ u2 = cc in
        let number = slot_number st.thread st.thread z x (sym named ∙ ap (λ (p : Place). p.key) same ∙ f) in
        omega arith

-- a reference is assigned to a variable
turn_acts : {beside : Beside} {e e2 : Env} {st : State} {w : Lval} {v : Value} {k : Kind} → Holds beside e (Some k) (Some v) st → Turns e w k e2 → (h : Option Value) → Acted beside (do_assign w v) h st None e2
turn_acts {beside = beside} {e = e} {e2 = e2} {st = st} {w = w} {v = v} {k = k} y m h =
    let same : w ≡ variable w.slot = ap (λ n. at_depth w.slot n) m.variable in
    let old = slot_there st.slots w.slot (subst (λ n. w.slot < n) (sym y.slots) m.there) in
    let dropped = turned_holds k w.slot m.piece old.0 y m.there (ap (type_at e) (sym same) ∙ m.is) m.reference m.free m.below old.1 in
    let loss : lets_go (do_assign w v) st ≡ task_in st.heap old.0 = ap (λ z. lets_go (do_assign z v) st) same ∙ ap (task_in_some st.heap) old.1 in
    record {
      did = record { value = unit_value; state = drop_plain (record st { slots = with_slot st.slots w.slot v }) old.0; labels = _ };
      same = refl;
      is = ap (λ z. act (do_assign z v) st) same ∙ ap (assign_did st v (record { spot = in_slot w.slot; passed = [] })) old.1;
      holds = subst (λ (f : Env). Holds beside f None None (drop_plain (record st { slots = with_slot st.slots w.slot v }) old.0)) (ap (λ z. put_at e z (whole k)) (sym same) ∙ sym m.after)
          dropped.holds;
      frees = λ u z. dropped.frees u (sym loss ∙ z);
    }
  where
    at_depth : ℕ → ℕ → Lval
    at_depth x n = record { slot = x; depth = n }

    variable : ℕ → Lval
    variable x = record { slot = x; depth = 0 }

-- ASSIGNMENT

-- each typed assignment can be done
pub assign_acts : {beside : Beside} {e e2 : Env} {st : State} {w : Lval} {v : Value} {k : Kind} → Holds beside e (Some k) (Some v) st → Assigns e w k e2 → (h : Option Value) → Acted beside (do_assign w v) h st None e2
assign_acts {beside = beside} y (to_own m) h = put_acts y m h
assign_acts {beside = beside} y (to_lent m) h = write_acts y m h
assign_acts {beside = beside} y (to_variable m) h = turn_acts y m h
