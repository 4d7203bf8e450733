-- Each typed act of a typed state can be done, and leaves a typed state.
use Rattle.std.proofs.Common.{◌≡◌, ℕ, suc, ◌<◌, ◌≤◌, List, [], ◌∷◌, length, Option, Some, None, refl, sym, ap, ◌∙◌, subst, arith}
use Rattle.std.specs.Prelude.{if◌then◌else◌}
use Rattle.fr_plain.specs.Below.fr_base.declared.label.Plain.TheVariants as plain
use Rattle.fr_plain.specs.Below.fr_base.declared.place.Op.{Op}
use Rattle.fr_plain.specs.Below.fr_terms.Terms.{Text}
use Rattle.fr_plain.specs.Below.fr_typing.Kinds.{Owned, int, box, Kind, own, view, whole}
use Rattle.fr_plain.specs.Below.fr_typing.Places.{Slot, Env, AreBelow}
use Rattle.fr_plain.proofs.Below.fr_typing.PlaceLemmas.{eq_cases}
use Rattle.fr_store.specs.Keys.{Key, slot_k, temp_k, content_k, result_k, hand_k}
use Rattle.fr_store.specs.Store.{Alike, Store, Place, at_key, Val, gone_v, box_v, swap, make, drop_value}
use Rattle.fr_store.specs.ListState.{slot_value, store_beside, put_object, drop_objects, drop_rest}
use Rattle.fr_store.specs.Typed.{hole, KeyTypes, Typed}
use Rattle.fr_store.specs.Local.{IsOwnPlace, IsLocal}
use Rattle.fr_store.specs.Below.{piece_depth, ExactOf}
use Rattle.fr_store.specs.Thread.{ThreadTyped, temp_places}
use Rattle.fr_store.proofs.Rows.{top_fits}
use Rattle.fr_store.proofs.SlotRows.{let_row, end_row, rank_next}
use Rattle.fr_store.proofs.ValueRows.{box_row}
use Rattle.fr_store.proofs.ListPlaces.{no_view}
use Rattle.fr_store.proofs.ListState.{at_slot, list_push, list_make, Alike-then}
use Rattle.fr_store.proofs.ListDrop.{drop_at, list_end}
use Rattle.fr_plain.specs.declared.value.Value.{Value}
use Rattle.fr_plain.specs.declared.value.Value.TheVariants.{Own}
use Rattle.fr_plain.specs.Heap.{next_object, with_object}
use Rattle.fr_plain.specs.State.{State, without, drop_value as drop_plain}
use Rattle.fr_plain.specs.Acts.{Act, do_box, do_arith, do_print, do_drop, unit as unit_value, box_did, result_of, arith_did, print_did, drop_did, task_in_some, newest as newest_value}
use Rattle.fr_plain.proofs.HeapLemmas.{next_new}
use Rattle.fr_sound.specs.RunTypes.{IsInt, o_int, ActTypes, a_let, a_copy, a_move, a_borrow, a_borrow_mut, a_assign, a_box, a_arith, a_print, a_discard, a_drop, a_end, a_leave}
use Rattle.fr_sound.specs.Seen.{Beside, IsKnown, val_of, vals, hand_of, seen_cell, heap_of, seen, rank_of, Holds}
use Rattle.fr_sound.proofs.SeenLemmas.{length_vals, heap_made, made_grows, made_next, SameHeap}
use Rattle.fr_sound.proofs.Known.{known_swap, known_make, known_drop, none_alike}
use Rattle.fr_sound.proofs.Hand.{keys_of, after_holds, seen_heap, hand_fits, fits_owned, at_hand, Acted, no_loss, drops_same, known_grown, known_dropped, drop_freed, dropped_hand, hand_int, let_go_value}
use Rattle.fr_sound.proofs.ReadsHold.{copy_acts, move_acts, borrow_acts, borrow_mut_acts}
use Rattle.fr_sound.proofs.WritesHold.{assign_acts}

-- NEW SLOTS

-- hands may rank higher, where threads share no memory
pub raised_store : {E : KeyTypes} {s : Store} (high high2 : ℕ) → high ≤ high2 → IsLocal E → Typed (rank_of high) E s → Typed (rank_of high2) E s
raised_store {E = E} high high2 le local y = record { stands = y.stands; below = λ k m u is. by k (local k m u is) (y.below k m u is); once = y.once; owner = y.owner }
  where
    grows : (k : Key) → rank_of high k ≤ rank_of high2 k
    grows (slot_k t n) = omega arith
    grows (temp_k t n) = omega arith
    grows (content_k t n) = omega arith
    grows (result_k t) = omega arith
    grows (hand_k t) = le

    by : (k : Key) {u : Place} → IsOwnPlace k u → rank_of high u.key < rank_of high k → rank_of high2 u.key < rank_of high2 k
    by k p lt =
        let same = ap (rank_of high2) p.is in
        let old = ap (rank_of high) p.is in
        let up = grows k in
        omega (arith, same, old, up, lt)

-- the same for a thread
pub raised_thread : {e : Env} {E : KeyTypes} {s : Store} {o : Option Kind} (t high high2 : ℕ) → high ≤ high2 → IsLocal E → ThreadTyped (slot_k t) (rank_of high) (hand_k t) e E s o → ThreadTyped (slot_k t) (rank_of high2) (hand_k t) e E s o
raised_thread t high high2 le local y = record {
  typed = raised_store high high2 le local y.typed;
  nested = y.nested;
  slots = y.slots;
  above = y.above;
  temp = y.temp;
  names = y.names;
  quiet = y.quiet;
  over = λ i lt. let o = y.over i lt in omega (arith, o, le);
  alone = y.alone;
}

-- `let`
let_holds : {beside : Beside} {e : Env} {st : State} {v : Value} (k : Kind) (name : Option Text) → Holds beside e (Some k) (Some v) st → Holds beside (record { name = name; part = whole k } ∷ e) None None (record st { slots = v ∷ st.slots })
let_holds {beside = beside} {e = e} {st = st} {v = v} k name y =
    let t = st.thread in
    let s = seen beside st (Some v) in
    let keys = keys_of t (suc y.high) in
    let r = raised_thread t y.high (suc y.high) (omega arith) y.beside.own y.thread in
    let low = y.low in
    let no = λ (x : Owned) (z : k ≡ view x). no_view beside.at t (rank_of y.high) e y.types (vals beside.gives t st.slots) (val_of beside.gives t v) (heap_of beside.gives st.heap) (Some k) y.beside.own y.thread x (subst (λ (l : Kind). ExactOf (slot_k t) y.types (whole l) (y.types (hand_k t))) z y.thread.temp) in
    let a = let_row (slot_k t) (rank_of (suc y.high)) (hand_k t) e y.types s k name keys r (rank_next (slot_k t) (rank_of (suc y.high)) (hand_k t) e y.types s k keys r no) (omega arith) in
    let same : length (vals beside.gives t st.slots) ≡ length e = length_vals beside.gives t st.slots ∙ y.slots in
    after_holds (record st { slots = v ∷ st.slots }) (record { name = name; part = whole k } ∷ e) None None (suc y.high) (omega arith) y.beside a
    (subst (λ n. Alike (swap s (hand_k t) (at_key (slot_k t n))) (store_beside beside.at t (val_of beside.gives t v ∷ vals beside.gives t st.slots) gone_v (heap_of beside.gives st.heap))) same (list_push beside.at t (vals beside.gives t st.slots) (val_of beside.gives t v) (heap_of beside.gives st.heap)))
    (ap suc y.slots) (known_swap (IsKnown beside.owed st.heap) tt s (hand_k t) (at_key (slot_k t (length e))) y.known)

-- the newest slot is dropped
slot_acts : {beside : Beside} {s : Slot} {e : Env} {o : Option Kind} {h : Option Value} {st : State} → AreBelow (length e) (temp_places o) → Holds beside (s ∷ e) o h st → Acted beside do_drop h st o e
slot_acts {beside = beside} {s = s} {e = e} {o = o} {h = h} {st = st} names y = by st.slots refl
  where
    by : (l : List Value) → st.slots ≡ l → Acted beside do_drop h st o e
    by [] g = let len = ap length (sym g) ∙ y.slots in absurd (omega (arith, len))
    by (v ∷ vs) g =
        let t = st.thread in
        let us = vals beside.gives t vs in
        let low = y.low in
        let len : length vs ≡ length e = let l = ap length (sym g) ∙ y.slots in omega (arith, l) in
        let place : length us ≡ length e = length_vals beside.gives t vs ∙ len in
        let st1 : State = record st { slots = v ∷ vs } in
        let same : st ≡ st1 = ap (λ (l : List Value). (let q : State = record st { slots = l } in q)) g in
        let y1 : Holds beside (s ∷ e) o h st1 = subst (λ (q : State). Holds beside (s ∷ e) o h q) same y in
        let n = piece_depth s.part in
        let key = slot_k t (length e) in
        let a = end_row (slot_k t) (rank_of y1.high) (hand_k t) e s y1.types (seen beside st1 h) o n (keys_of t y1.high) y1.thread names (omega arith) in
        let gone_there : (drop_value n key (seen beside st1 h)).at key ≡ gone_v = top_fits (rank_of y1.high) a.env (drop_value n key (seen beside st1 h)) a.thread.typed key hole (a.thread.above (length e) (omega arith)) in
        let at_first : (seen beside st1 h).at key ≡ val_of beside.gives t v = at_slot beside.at t (val_of beside.gives t v ∷ us) (hand_of beside.gives t h) (heap_of beside.gives st.heap) (length e) ∙ newest (val_of beside.gives t v) us (length e) place in
        let ends : drop_rest n (val_of beside.gives t v) (heap_of beside.gives st.heap) ≡ gone_v = ap (λ (u : Val). drop_rest n u (heap_of beside.gives st.heap)) (sym at_first) ∙ sym (drop_at n key (seen beside st1 h)) ∙ gone_there in
        let alike : Alike (drop_value n key (seen beside st1 h)) (store_beside beside.at t us (hand_of beside.gives t h) (drop_objects n (val_of beside.gives t v) (heap_of beside.gives st.heap))) =
        subst (λ (m : ℕ). Alike (drop_value n (slot_k t m) (seen beside st1 h)) (store_beside beside.at t us (hand_of beside.gives t h) (drop_objects n (val_of beside.gives t v) (heap_of beside.gives st.heap)))) place (list_end n beside.at t (val_of beside.gives t v) us (hand_of beside.gives t h) (heap_of beside.gives st.heap) ends) in
        let st2 = drop_plain (record st { slots = vs }) v in
        let low1 = y1.low in
        let after : Alike (drop_value n key (seen beside st1 h)) (seen beside st2 h) =
        Alike-then (drop_value n key (seen beside st1 h)) (store_beside beside.at t us (hand_of beside.gives t h) (drop_objects n (val_of beside.gives t v) (heap_of beside.gives st.heap))) (seen beside st2 h) alike
        (seen_heap beside.at t us (hand_of beside.gives t h) (drop_objects n (val_of beside.gives t v) (heap_of beside.gives st.heap)) (heap_of beside.gives (without st.heap v)) (drops_same beside.gives t n st.heap v ends)) in
        record {
          did = record { value = unit_value; state = st2; labels = Rattle.fr_plain.specs.State.drops v };
          same = refl;
          is = ap (drop_did st) g;
          holds = after_holds st2 e o h y1.high (omega (arith, low1)) y1.beside a after len (known_dropped beside.owed st.heap v (drop_value n key (seen beside st1 h)) (known_drop (IsKnown beside.owed st.heap) tt n key (seen beside st1 h) y1.known));
          frees = λ u f. none_alike u (drop_value n key (seen beside st1 h)) (seen beside st2 h) (drop_freed beside.gives t n key (seen beside st1 h) st.heap v u y1.known.once at_first (λ q. refl) ends (sym (ap (λ l. task_in_some st.heap (newest_value l)) g) ∙ f)) after;
        }
      where
        newest : (w : Val) (us : List Val) (m : ℕ) → length us ≡ m → slot_value (w ∷ us) m ≡ w
        newest w us m e = eq_cases (λ b. (if b then w else slot_value us m) ≡ w) m (length us) (λ _. refl) (λ ne. absurd (ne (sym e)))

-- A NEW OBJECT, ARITHMETIC, A PRINT, THE END

-- a new object has the value at hand
box_acts : {beside : Beside} {e : Env} {st : State} {v : Value} {x : Owned} → Holds beside e (Some (own x)) (Some v) st → (h : Option Value) → Acted beside (do_box v) h st (Some (own (box x))) e
box_acts {beside = beside} {e = e} {st = st} {v = v} {x = x} y h =
    let t = st.thread in
    let vs = vals beside.gives t st.slots in
    let s = seen beside st (Some v) in
    let owned = fits_owned beside.gives t x v (hand_fits y) in
    let n = next_object st.heap t in
    let a = box_row (slot_k t) (rank_of y.high) (hand_k t) e y.types s x n (keys_of t y.high) y.thread (ap (seen_cell beside.gives) (next_new st.heap t)) (λ l g. let c = y.known.each l (box_v n) g in omega (arith, c)) in
    let st2 : State = record st { heap = with_object st.heap t owned.0 } in
    let heap : SameHeap (put_object (heap_of beside.gives st.heap) n (val_of beside.gives t v)) (heap_of beside.gives (with_object st.heap t owned.0)) = λ q. ap (λ u. put_object (heap_of beside.gives st.heap) n (val_of beside.gives t u) q) owned.1 ∙ sym (heap_made beside.gives st.heap t q owned.0) in
    let after : Alike (make s (hand_k t) n) (seen beside st2 (Some (Own (plain.Box n)))) =
    Alike-then (make s (hand_k t) n) (store_beside beside.at t vs (box_v n) (put_object (heap_of beside.gives st.heap) n (val_of beside.gives t v))) (store_beside beside.at t vs (box_v n) (heap_of beside.gives (with_object st.heap t owned.0)))
    (list_make beside.at t vs (val_of beside.gives t v) (heap_of beside.gives st.heap) n) (seen_heap beside.at t vs (box_v n) (put_object (heap_of beside.gives st.heap) n (val_of beside.gives t v)) (heap_of beside.gives (with_object st.heap t owned.0)) heap) in
    record {
      did = record { value = Own (plain.Box n); state = st2; labels = _ };
      same = refl;
      is = ap (box_did st) owned.1;
      holds = after_holds st2 e (Some (own (box x))) (Some (Own (plain.Box n))) y.high y.low y.beside a after y.slots
          (known_make (IsKnown beside.owed st2.heap) tt s (hand_k t) n (known_grown beside.owed st.heap st2.heap s (made_grows st.heap t owned.0) y.known) (made_next st.heap t owned.0));
      frees = λ u f. no_loss u f;
    }

-- the result of two integers comes to hand
arith_acts : {beside : Beside} {e : Env} {st : State} {f : Op} {v w : Value} → Holds beside e (Some (own int)) (Some w) st → IsInt v → (h : Option Value) → Acted beside (do_arith f v w) h st (Some (own int)) e
arith_acts {beside = beside} {st = st} {f = f} {w = w} y a h =
    let b = hand_int y in
    record {
      did = record { value = Own (plain.Int (result_of f a.0 b.0)); state = st; labels = [] };
      same = refl;
      is = ap (λ z. arith_did st f z w) a.1 ∙ ap (arith_did st f (Own (plain.Int a.0))) b.1;
      holds = at_hand (let_go_value y b) o_int;
      frees = λ u z. no_loss u z;
    }

-- an integer is printed, and nothing is at hand
print_acts : {beside : Beside} {e : Env} {st : State} {v : Value} → Holds beside e (Some (own int)) (Some v) st → (h : Option Value) → Acted beside (do_print v) h st None e
print_acts {beside = beside} {e = e} {st = st} {v = v} y h =
    let i = hand_int y in
    record { did = record { value = unit_value; state = st; labels = _ }; same = refl; is = ap (print_did st) i.1; holds = let_go_value y i; frees = λ u f. no_loss u f }

-- each typed act of a typed state can be done, and leaves a typed state
pub acts_hold : {beside : Beside} {e e2 : Env} {o o2 : Option Kind} {h : Option Value} {a : Act} {st : State} → Holds beside e o h st → ActTypes e o h a o2 e2 → Acted beside a h st o2 e2
acts_hold {st = st} y (a_let {v = v} {k = k} name p) =
    record { did = record { value = unit_value; state = record st { slots = v ∷ st.slots }; labels = [] }; same = refl; is = refl; holds = let_holds k name (at_hand y p); frees = λ u f. no_loss u f }
acts_hold y (a_copy c) = copy_acts y c
acts_hold y (a_move m) = move_acts y m
acts_hold y (a_borrow m) = borrow_acts y m
acts_hold y (a_borrow_mut m) = borrow_mut_acts y m
acts_hold {h = h} y (a_assign p m) = assign_acts (at_hand y p) m h
acts_hold {h = h} y (a_box p) = box_acts (at_hand y p) h
acts_hold {h = h} y (a_arith i p) = arith_acts (at_hand y p) i h
acts_hold {h = h} y (a_print p) = print_acts (at_hand y p) h
acts_hold {st = st} y (a_discard {v = v} {k = k}) = let d = dropped_hand k y in record { did = record { value = unit_value; state = drop_plain st v; labels = _ }; same = refl; is = refl; holds = d.holds; frees = d.frees }
acts_hold y (a_drop names) = slot_acts names y
acts_hold {st = st} y (a_end {v = v} {k = k} p) = let d = dropped_hand k (at_hand y p) in record { did = record { value = unit_value; state = drop_plain st v; labels = _ }; same = refl; is = refl; holds = d.holds; frees = d.frees }
acts_hold {st = st} y (a_leave {v = v} {k = k} p) = let d = dropped_hand k (at_hand y p) in record { did = record { value = unit_value; state = drop_plain st v; labels = _ }; same = refl; is = refl; holds = d.holds; frees = d.frees }
