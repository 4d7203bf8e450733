-- Reads and borrows: copies, moves and references come to hand.
use Rattle.std.proofs.Common.{◌≡◌, ℕ, ◌<◌, ◌≤◌, Bool, true, false, List, [], ◌∷◌, length, Option, Some, None, refl, sym, ap, ◌∙◌, subst, arith}
use Rattle.fr_plain.specs.Below.fr_base.declared.label.Plain.{Plain}
use Rattle.fr_plain.specs.Below.fr_base.declared.label.Plain.TheVariants as plain
use Rattle.fr_plain.specs.Below.fr_base.declared.name.ObjNo.{ObjNo}
use Rattle.fr_plain.specs.Below.fr_base.declared.place.Lval.{Lval}
use Rattle.fr_plain.specs.Below.fr_typing.Kinds.{unit, int, box, mutex, task, Kind, own, shared, mutable, view, whole, gone, copies}
use Rattle.fr_plain.specs.Below.fr_typing.Places.{Env, found, type_at, put_at}
use Rattle.fr_store.specs.Keys.{slot_k, hand_k}
use Rattle.fr_store.specs.Store.{Alike, Location, at_key, at_object, Val, gone_v, unit_v, int_v, task_v, ref_v, Store, value_at, or_gone, put_value, swap, drop_value}
use Rattle.fr_store.specs.Store as store
use Rattle.fr_store.specs.ListState.{slot_value, put_slot, store_beside, put_object}
use Rattle.fr_store.specs.Typed.{KeyTypes, Resolves}
use Rattle.fr_store.specs.Thread.{After, place_of}
use Rattle.fr_store.proofs.Below.{mut_place, resolved}
use Rattle.fr_store.proofs.OwnPaths.{move_row, own_reference}
use Rattle.fr_store.proofs.BorrowRows.{shared_row, mutable_row}
use Rattle.fr_store.proofs.ReferenceRows.{move_ref_row}
use Rattle.fr_store.proofs.PutAt.{length_put}
use Rattle.fr_store.proofs.ThreadKept.{ref_found, shared_found}
use Rattle.fr_store.proofs.Sound.{ref_at}
use Rattle.fr_store.proofs.Keys.{key_same}
use Rattle.fr_store.proofs.ValueRows.{int_row, unit_row, read_int_row, read_unit_row, copy_row}
use Rattle.fr_store.proofs.ListPlaces.{no_view_at}
use Rattle.fr_store.proofs.ListState.{list_put_hand, list_swap_slot, list_swap_object, Alike-then}
use Rattle.fr_plain.specs.declared.value.Value.{Value}
use Rattle.fr_plain.specs.declared.value.Value.TheVariants.{Own}
use Rattle.fr_plain.specs.Heap.{made_by, cell_at, with_cell}
use Rattle.fr_plain.specs.State.{State, with_slot, Spot, in_slot, in_cell, gone as gone_value, cell_of, with_value, then_reached}
use Rattle.fr_plain.specs.Acts.{do_read, do_borrow, read_did, reference, borrow_did}
use Rattle.fr_sound.specs.RunTypes.{Copies, Moves, Lends, LendsMut}
use Rattle.fr_sound.specs.Seen.{Gives, Beside, IsKnown, AreKnown, IsBeside, owned_val, val_of, vals, hand_of, heap_of, seen, location_of, rank_of, Holds}
use Rattle.fr_plain.proofs.HeapLemmas.{live_made, made_kept}
use Rattle.fr_sound.proofs.SeenLemmas.{length_vals, slot_seen, vals_with, length_with_slot, heap_put, SameHeap}
use Rattle.fr_sound.proofs.FoundPlaces.{There, there}
use Rattle.fr_sound.proofs.Known.{NoTask, known_put, known_swap}
use Rattle.fr_sound.proofs.Hand.{keys_of, after_holds, seen_heap, known_grown, no_loss, Acted, same_location, same_val}

-- THE VALUE AT HAND AND ONE AT A SPOT

-- they change places
pub swapped : {beside : Beside} (st : State) (h : Option Value) (w : Lval) (u : Value) (p : There beside st h w) → hand_of beside.gives st.thread h ≡ val_of beside.gives st.thread u → ((q : ObjNo) → p.reached.spot ≡ in_cell q → (x : Plain) × (u ≡ Own x))
    → Alike (swap (seen beside st h) (hand_k st.thread) (location_of st.thread p.reached.spot)) (seen beside (with_value st p.reached.spot u) (Some p.value))
swapped {beside = beside} st h w u p same owned = by p.reached.spot p.there p.stands p.slot owned
  where
    by : (s : Spot) → Rattle.fr_plain.specs.State.value_at st s ≡ Some p.value → value_at (seen beside st h) (location_of st.thread s) ≡ Some (val_of beside.gives st.thread p.value) → ((i : ℕ) → s ≡ in_slot i → i < length st.slots) → ((q : ObjNo) → s ≡ in_cell q → (x : Plain) × (u ≡ Own x))
        → Alike (swap (seen beside st h) (hand_k st.thread) (location_of st.thread s)) (seen beside (with_value st s u) (Some p.value))
    by (in_slot i) e f slot owned =
        let t = st.thread in
        let vs = vals beside.gives t st.slots in
        let here : i < length vs = subst (λ n. i < n) (sym (length_vals beside.gives t st.slots)) (slot i refl) in
        let held : slot_value vs i ≡ val_of beside.gives t p.value = slot_seen beside.gives t st.slots i p.value e in
        let new : put_slot vs i (hand_of beside.gives t h) ≡ vals beside.gives t (with_slot st.slots i u) = ap (put_slot vs i) same ∙ sym (vals_with beside.gives t st.slots i u) in
        subst (λ (v : Val). Alike (swap (seen beside st h) (hand_k t) (at_key (slot_k t i))) (store_beside beside.at t (vals beside.gives t (with_slot st.slots i u)) v (heap_of beside.gives st.heap))) held
        (subst (λ (l : List Val). Alike (swap (seen beside st h) (hand_k t) (at_key (slot_k t i))) (store_beside beside.at t l (slot_value vs i) (heap_of beside.gives st.heap))) new (list_swap_slot beside.at t vs (hand_of beside.gives t h) (heap_of beside.gives st.heap) i here))
    by (in_cell q) e f slot owned =
        let t = st.thread in
        let vs = vals beside.gives t st.slots in
        let x = owned q refl in
        let held : or_gone (heap_of beside.gives st.heap q) ≡ val_of beside.gives t p.value = ap or_gone f in
        let cell : hand_of beside.gives t h ≡ owned_val beside.gives x.0 = same ∙ ap (val_of beside.gives t) x.1 in
        let lives = cell_lives q e in
        let heap : SameHeap (put_object (heap_of beside.gives st.heap) q (hand_of beside.gives t h)) (heap_of beside.gives (with_cell st.heap q (cell_of u))) =
        λ z. ap (λ v. put_object (heap_of beside.gives st.heap) q v z) cell ∙ sym (heap_put beside.gives st.heap q z x.0 lives) ∙ ap (λ c. heap_of beside.gives (with_cell st.heap q c) z) (sym (ap cell_of x.1)) in
        Alike-then (swap (seen beside st h) (hand_k t) (at_object q)) (store_beside beside.at t vs (val_of beside.gives t p.value) (put_object (heap_of beside.gives st.heap) q (hand_of beside.gives t h))) (store_beside beside.at t vs (val_of beside.gives t p.value) (heap_of beside.gives (with_cell st.heap q (cell_of u))))
        (subst (λ (v : Val). Alike (swap (seen beside st h) (hand_k t) (at_object q)) (store_beside beside.at t vs v (put_object (heap_of beside.gives st.heap) q (hand_of beside.gives t h)))) held (list_swap_object beside.at t vs (hand_of beside.gives t h) (heap_of beside.gives st.heap) q))
        (seen_heap beside.at t vs (val_of beside.gives t p.value) (put_object (heap_of beside.gives st.heap) q (hand_of beside.gives t h)) (heap_of beside.gives (with_cell st.heap q (cell_of u))) heap)
      where
        cell_lives : (q : ObjNo) → Rattle.fr_plain.specs.State.value_at st (in_cell q) ≡ Some p.value → q.count < length (made_by st.heap q.thread)
        cell_lives q e = by_cell (cell_at st.heap q) refl e
          where
            by_cell : (c : Option Plain) → cell_at st.heap q ≡ c → Rattle.fr_plain.specs.State.owned c ≡ Some p.value → q.count < length (made_by st.heap q.thread)
            by_cell None g k = cc
            by_cell (Some v) g k = live_made st.heap q v g

-- what is known stays so after a write
pub known_after : (owed : ℕ → Bool) (st : State) (p : Spot) (u : Value) (s : Store) → AreKnown (IsKnown owed st.heap) s → AreKnown (IsKnown owed (with_value st p u).heap) s
known_after owed st (in_slot i) u s k = k
known_after owed st (in_cell q) u s k = known_grown owed st.heap (with_value st (in_cell q) u).heap s (λ t. let e = made_kept st.heap q (cell_of u) t in omega (arith, e)) k

-- a write is in the same thread
pub thread_after : (st : State) (p : Spot) (u : Value) → (with_value st p u).thread ≡ st.thread
thread_after st (in_slot i) u = refl
thread_after st (in_cell q) u = refl

-- a write adds no slot
pub length_after : (st : State) (p : Spot) (u : Value) → length (with_value st p u).slots ≡ length st.slots
length_after st (in_slot i) u = length_with_slot st.slots i u
length_after st (in_cell q) u = refl

-- COPIES

-- a value that owns nothing, copied from a place, comes to hand
copied_holds : {beside : Beside} {e : Env} {st : State} {w : Lval} (k : Kind) (p : There beside st None w) (l : Location) (v : Val) → (y : Holds beside e None None st) → store.locate (seen beside st None) (place_of (slot_k st.thread) w) ≡ Some l → value_at (seen beside st None) l ≡ Some v
    → After (slot_k st.thread) (rank_of y.high) (hand_k st.thread) y.types e (put_value (seen beside st None) (at_key (hand_k st.thread)) v) (Some k) → NoTask v → Holds beside e (Some k) (Some p.value) st
copied_holds {beside = beside} {e = e} {st = st} k p l v y at is a plain =
    let t = st.thread in
    let there : location_of t p.reached.spot ≡ l = same_location (location_of t p.reached.spot) l (sym p.at ∙ at) in
    let value : val_of beside.gives t p.value ≡ v = same_val (val_of beside.gives t p.value) v (sym p.stands ∙ ap (value_at (seen beside st None)) there ∙ is) in
    after_holds st e (Some k) (Some p.value) y.high y.low y.beside a
    (subst (λ (u : Val). Alike (put_value (seen beside st None) (at_key (hand_k t)) v) (store_beside beside.at t (vals beside.gives t st.slots) u (heap_of beside.gives st.heap))) (sym value) (list_put_hand beside.at t (vals beside.gives t st.slots) gone_v (heap_of beside.gives st.heap) v))
    y.slots (known_put (IsKnown beside.owed st.heap) tt (seen beside st None) (at_key (hand_k t)) v y.known (y.known.each l v is) plain)

-- a shared reference at hand is no task
shared_plain : {e : Env} {E : KeyTypes} (t high : ℕ) (us : List Lval) (s : Store) (v : Val) → After (slot_k t) (rank_of high) (hand_k t) E e (put_value s (at_key (hand_k t)) v) (Some (shared us)) → NoTask v
shared_plain t high us s v a u r is =
    let f = shared_found (slot_k t) a.env us (a.env (hand_k t)) a.thread.temp in
    let q = ref_at (rank_of high) a.env (put_value s (at_key (hand_k t)) v) a.thread.typed (hand_k t) false f.0 f.1 in
    let g : task_v u r ≡ ref_v q.target = sym is ∙ sym (key_same (hand_k t) v (s.at (hand_k t))) ∙ q.is in
    cc

-- a copy of each copied type
copy_kind : {beside : Beside} {e : Env} {st : State} {w : Lval} (k : Kind) → copies k ≡ true → Holds beside e None None st → (p : There beside st None w) → w.slot < length e → type_at e w ≡ found (whole k) → Holds beside e (Some k) (Some p.value) st
copy_kind {beside = beside} {e = e} {st = st} {w = w} (own unit) c y p lt is =
    let f = read_unit_row (slot_k st.thread) (rank_of y.high) (hand_k st.thread) e y.types (seen beside st None) None w (keys_of st.thread y.high) y.thread lt is in
    copied_holds (own unit) p f.0 unit_v y f.1 f.2 (unit_row (slot_k st.thread) (rank_of y.high) (hand_k st.thread) e y.types (seen beside st None) (keys_of st.thread y.high) y.thread) (λ t r z. cc)
copy_kind {beside = beside} {e = e} {st = st} {w = w} (own int) c y p lt is =
    let f = read_int_row (slot_k st.thread) (rank_of y.high) (hand_k st.thread) e y.types (seen beside st None) None w (keys_of st.thread y.high) y.thread lt is in
    copied_holds (own int) p f.0 (int_v f.1) y f.2 f.3 (int_row (slot_k st.thread) (rank_of y.high) (hand_k st.thread) e y.types (seen beside st None) f.1 (keys_of st.thread y.high) y.thread) (λ t r z. cc)
copy_kind {beside = beside} (own (box x)) c y p lt is = cc
copy_kind {beside = beside} (own (mutex x)) c y p lt is = cc
copy_kind {beside = beside} (own (task x)) c y p lt is = cc
copy_kind {beside = beside} {e = e} {st = st} {w = w} (shared us) c y p lt is =
    let f = copy_row (slot_k st.thread) (rank_of y.high) (hand_k st.thread) e y.types (seen beside st None) w us (keys_of st.thread y.high) y.thread lt is in
    copied_holds (shared us) p f.0 f.1 y f.2 f.3 f.4 (shared_plain st.thread y.high us (seen beside st None) f.1 f.4)
copy_kind {beside = beside} (mutable us) c y p lt is = cc
copy_kind {beside = beside} {e = e} {st = st} {w = w} (view x) c y p lt is =
    absurd (no_view_at beside.at st.thread (rank_of y.high) e y.types (vals beside.gives st.thread st.slots) gone_v (heap_of beside.gives st.heap) None y.beside.own y.thread w x lt is)

-- a copy of what a place has comes to hand
pub copy_acts : {beside : Beside} {e : Env} {st : State} {w : Lval} {k : Kind} → Holds beside e None None st → Copies e w k → Acted beside (do_read w false) None st (Some k) e
copy_acts {beside = beside} {st = st} {w = w} {k = k} y c =
    let p = there w (whole k) y c.there c.is in
    record {
      did = record { value = p.value; state = st; labels = _ };
      same = refl;
      is = ap (λ r. then_reached r (λ r. read_did st false r (Rattle.fr_plain.specs.State.value_at st r.spot))) p.is ∙ ap (read_did st false p.reached) p.there;
      holds = copy_kind k c.copied y p c.there c.is;
      frees = λ u f. no_loss u f;
    }

-- MOVES

-- what a row says of a value of type k that moves out of a place to the hand
abbrev MovedOut : (beside : Beside) (e : Env) (st : State) (w : Lval) (k : Kind) (high : ℕ) (E : KeyTypes) → Type 0
MovedOut beside e st w k high E =
    (l : Location) × (store.locate (seen beside st None) (place_of (slot_k st.thread) w) ≡ Some l) × After (slot_k st.thread) (rank_of high) (hand_k st.thread) E (put_at e w (gone k)) (swap (seen beside st None) (hand_k st.thread) l) (Some k)

-- the state after a move
moved_holds : {beside : Beside} {e : Env} {st : State} {w : Lval} (k : Kind) (p : There beside st None w) → (y : Holds beside e None None st) → MovedOut beside e st w k y.high y.types → Holds beside (put_at e w (gone k)) (Some k) (Some p.value) (with_value st p.reached.spot gone_value)
moved_holds {beside = beside} {e = e} {st = st} {w = w} k p y f =
    let t = st.thread in
    let l : f.0 ≡ location_of t p.reached.spot = same_location f.0 (location_of t p.reached.spot) (sym f.1 ∙ p.at) in
    let a : After (slot_k t) (rank_of y.high) (hand_k t) y.types (put_at e w (gone k)) (swap (seen beside st None) (hand_k t) (location_of t p.reached.spot)) (Some k) =
    subst (λ (z : Location). After (slot_k t) (rank_of y.high) (hand_k t) y.types (put_at e w (gone k)) (swap (seen beside st None) (hand_k t) z) (Some k)) l f.2 in
    let len = length_put e w (gone k) in
    let low = y.low in
    typed p.reached.spot (Some p.value) (put_at e w (gone k)) y.high (omega (arith, len, low)) y.beside a (swapped st None w gone_value p refl (λ q g. (plain.Nothing, refl)))
    (length_after st p.reached.spot gone_value ∙ y.slots ∙ sym len) (known_swap (IsKnown beside.owed st.heap) tt (seen beside st None) (hand_k t) (location_of t p.reached.spot) y.known)
  where
    typed : (s : Spot) (h : Option Value) (e2 : Env) (high : ℕ) {E : KeyTypes} {s2 : Store} → length e2 ≤ high → IsBeside beside st.thread E → After (slot_k st.thread) (rank_of high) (hand_k st.thread) E e2 s2 (Some k) → Alike s2 (seen beside (with_value st s gone_value) h)
        → length (with_value st s gone_value).slots ≡ length e2 → AreKnown (IsKnown beside.owed st.heap) s2 → Holds beside e2 (Some k) h (with_value st s gone_value)
    typed (in_slot i) h e2 high {s2 = s2} low near a alike slots known = after_holds (with_value st (in_slot i) gone_value) e2 (Some k) h high low near a alike slots (known_after beside.owed st (in_slot i) gone_value s2 known)
    typed (in_cell q) h e2 high {s2 = s2} low near a alike slots known = after_holds (with_value st (in_cell q) gone_value) e2 (Some k) h high low near a alike slots (known_after beside.owed st (in_cell q) gone_value s2 known)

-- a mutable reference moves out of a variable
moved_reference : {beside : Beside} {e e2 : Env} {st : State} {w : Lval} (us : List Lval) → (y : Holds beside e None None st) → Moves e w (mutable us) e2 → MovedOut beside e st w (mutable us) y.high y.types
moved_reference {beside = beside} {e = e} {st = st} {w = w} us y m =
    let t = st.thread in
    let key = slot_k t in
    let r = resolved key y.types (mut_place (rank_of y.high) y.types (seen beside st None) y.thread.typed) e y.thread.nested y.thread.slots w (whole (mutable us)) m.there m.is in
    let x = ref_found key y.types us r.type r.exact in
    let depth : w.depth ≡ 0 = own_reference key y.types e w false r.base r.boxes true x.0 y.thread.slots m.there m.own_path (subst (λ z. Resolves y.types false (key w.slot) w.depth r.base r.boxes z) x.1 r.res) in
    let same : w ≡ variable w.slot = ap (λ n. at_depth w.slot n) depth in
    let a = move_ref_row key (rank_of y.high) (hand_k t) e y.types (seen beside st None) w.slot us (keys_of t y.high) y.thread m.there (ap (type_at e) (sym same) ∙ m.is) m.free in
    subst (λ (z : Lval). MovedOut beside e st z (mutable us) y.high y.types) (sym same) (at_key (key w.slot), refl, a)
  where
    at_depth : ℕ → ℕ → Lval
    at_depth x n = record { slot = x; depth = n }

    variable : ℕ → Lval
    variable x = record { slot = x; depth = 0 }

-- a move of each moved type
moved_out : {beside : Beside} {e e2 : Env} {st : State} {w : Lval} (k : Kind) → (y : Holds beside e None None st) → Moves e w k e2 → MovedOut beside e st w k y.high y.types
moved_out {beside = beside} {e = e} {st = st} {w = w} (own x) y m = move_row (slot_k st.thread) (rank_of y.high) (hand_k st.thread) e y.types (seen beside st None) w x (keys_of st.thread y.high) y.thread m.there m.is m.free m.own_path
moved_out {beside = beside} (shared us) y m = let c = m.moved in cc
moved_out {beside = beside} (mutable us) y m = moved_reference us y m
moved_out {beside = beside} (view x) y m = let c = m.moved in cc

-- a moved value leaves nothing behind and comes to hand
pub move_acts : {beside : Beside} {e e2 : Env} {st : State} {w : Lval} {k : Kind} → Holds beside e None None st → Moves e w k e2 → Acted beside (do_read w true) None st (Some k) e2
move_acts {beside = beside} {st = st} {w = w} {k = k} y m =
    let p = there w (whole k) y m.there m.is in
    let st2 = with_value st p.reached.spot gone_value in
    record {
      did = record { value = p.value; state = st2; labels = _ };
      same = thread_after st p.reached.spot gone_value;
      is = ap (λ r. then_reached r (λ r. read_did st true r (Rattle.fr_plain.specs.State.value_at st r.spot))) p.is ∙ ap (read_did st true p.reached) p.there;
      holds = subst (λ (f : Env). Holds beside f (Some k) (Some p.value) st2) (sym m.after) (moved_holds k p y (moved_out k y m));
      frees = λ u f. no_loss u f;
    }

-- BORROWS

-- a reference to a spot is one to its location
reference_val : (g : Gives) (t : ℕ) (p : Spot) → val_of g t (reference p) ≡ ref_v (location_of t p)
reference_val g t (in_slot i) = refl
reference_val g t (in_cell o) = refl

-- a reference to the place comes to hand
lent_acts : {beside : Beside} {e : Env} {st : State} {w : Lval} (m : Bool) (k l : Kind) → (y : Holds beside e None None st) → w.slot < length e → type_at e w ≡ found (whole l)
    → ((z : Location) × (store.locate (seen beside st None) (place_of (slot_k st.thread) w) ≡ Some z) × After (slot_k st.thread) (rank_of y.high) (hand_k st.thread) y.types e (put_value (seen beside st None) (at_key (hand_k st.thread)) (ref_v z)) (Some k))
    → Acted beside (do_borrow w m) None st (Some k) e
lent_acts {beside = beside} {e = e} {st = st} {w = w} m k l y lt is f =
    let t = st.thread in
    let p = there w (whole l) y lt is in
    let same : location_of t p.reached.spot ≡ f.0 = same_location (location_of t p.reached.spot) f.0 (sym p.at ∙ f.1) in
    let value : val_of beside.gives t (reference p.reached.spot) ≡ ref_v f.0 = reference_val beside.gives t p.reached.spot ∙ ap ref_v same in
    record {
      did = record { value = reference p.reached.spot; state = st; labels = p.reached.passed };
      same = refl;
      is = ap (λ r. then_reached r (borrow_did st)) p.is;
      holds = after_holds st e (Some k) (Some (reference p.reached.spot)) y.high y.low y.beside f.2
          (subst (λ (u : Val). Alike (put_value (seen beside st None) (at_key (hand_k t)) (ref_v f.0)) (store_beside beside.at t (vals beside.gives t st.slots) u (heap_of beside.gives st.heap))) (sym value) (list_put_hand beside.at t (vals beside.gives t st.slots) gone_v (heap_of beside.gives st.heap) (ref_v f.0)))
          y.slots (known_put (IsKnown beside.owed st.heap) tt (seen beside st None) (at_key (hand_k t)) (ref_v f.0) y.known tt (λ q r g. cc));
      frees = λ u z. no_loss u z;
    }

-- a shared reference comes to hand
pub borrow_acts : {beside : Beside} {e : Env} {st : State} {w : Lval} → Holds beside e None None st → Lends e w → Acted beside (do_borrow w false) None st (Some (shared (w ∷ []))) e
borrow_acts {beside = beside} {e = e} {st = st} {w = w} y m =
    lent_acts false (shared (w ∷ [])) m.kind y m.there m.is (shared_row (slot_k st.thread) (rank_of y.high) (hand_k st.thread) e y.types (seen beside st None) w m.kind (keys_of st.thread y.high) y.thread m.there m.is m.free)

-- a mutable reference comes to hand
pub borrow_mut_acts : {beside : Beside} {e : Env} {st : State} {w : Lval} → Holds beside e None None st → LendsMut e w → Acted beside (do_borrow w true) None st (Some (mutable (w ∷ []))) e
borrow_mut_acts {beside = beside} {e = e} {st = st} {w = w} y m =
    lent_acts true (mutable (w ∷ [])) m.kind y m.there m.is (mutable_row (slot_k st.thread) (rank_of y.high) (hand_k st.thread) e y.types (seen beside st None) w m.kind (keys_of st.thread y.high) y.thread m.there m.is m.free m.writable)
