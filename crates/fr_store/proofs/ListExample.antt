-- `let mut x = Box::new(5); x = Box::new(6)`, and then the block's end: the steps over lists reach typed states, so that their premises are not empty.
use Rattle.std.specs.Prelude.{if◌then◌else◌}
use Rattle.fr_store.proofs.Keys.{object_cases}
use Rattle.std.proofs.Common.{◌≡◌, ℕ, [], ◌∷◌, Some, None, refl, sym, subst, pos, arith, Bool, false, true}
use Rattle.fr_base.specs.declared.name.ObjNo.{ObjNo}
use Rattle.fr_base.specs.declared.place.Lval.{Lval}
use Rattle.fr_typing.specs.Kinds.{own, int, box, whole}
use Rattle.fr_typing.specs.Places.{Slot}
use Rattle.fr_store.specs.Keys.{slot_k, same_object}
use Rattle.fr_store.specs.Store.{at_key, gone_v, int_v, box_v, value_at}
use Rattle.fr_store.specs.ListState.{Objects, store_of, put_in_slots, put_in_heap, put_object, drop_objects}
use Rattle.fr_store.specs.ListRows.{StateTyped}
use Rattle.fr_store.proofs.ListRows.{start_list, int_list, box_list, let_list, assign_list, end_list}

-- the main thread's objects
abbrev object : ℕ → ObjNo
object n = record { thread = 0; count = n }

-- the variable
abbrev x_slot : Slot
x_slot = record { name = Some (120 ∷ []); part = whole (own (box int)) }

-- no object
abbrev nothing : Objects
nothing = λ _. None

-- the heap after the first box, and after the second
abbrev one_box : Objects
one_box = put_object nothing (object 0) (int_v (pos 5))

-- the second box is made while the first is there
abbrev two_boxes : Objects
two_boxes = put_object one_box (object 1) (int_v (pos 6))

-- the variable as a place
abbrev w : Lval
w = record { slot = 0; depth = 0 }

-- after the assignment x has the second box, and the first object is gone
pub assigned_example : StateTyped 0 (x_slot ∷ []) (box_v (object 1) ∷ []) gone_v (drop_objects 2 (box_v (object 0)) two_boxes) None
assigned_example =
    let a1 = int_list 0 [] [] gone_v nothing (pos 5) (start_list 0) in
    let a2 = box_list 0 [] [] (int_v (pos 5)) nothing int (object 0) a1 refl in
    let a3 = let_list 0 [] [] (box_v (object 0)) one_box (own (box int)) (Some (120 ∷ [])) a2 in
    let a4 = int_list 0 (x_slot ∷ []) (box_v (object 0) ∷ []) gone_v one_box (pos 6) a3 in
    let a5 = box_list 0 (x_slot ∷ []) (box_v (object 0) ∷ []) (int_v (pos 6)) one_box int (object 1) a4 refl in
    let f = assign_list 0 (x_slot ∷ []) (box_v (object 0) ∷ []) (box_v (object 1)) two_boxes w (box int) (whole (own (box int))) a5 (omega arith) refl refl refl refl in
    let there : at_key (slot_k 0 0) ≡ f.0 = let g : Some (at_key (slot_k 0 0)) ≡ Some f.0 = f.2 in cc in
    let value : box_v (object 0) ≡ f.1 = let g : Some (box_v (object 0)) ≡ Some f.1 = subst (λ l. value_at (store_of 0 (box_v (object 0) ∷ []) (box_v (object 1)) two_boxes) l ≡ Some f.1) (sym there) f.3 in cc in
    subst (λ l. StateTyped 0 (x_slot ∷ []) (put_in_slots l (box_v (object 1)) (box_v (object 0) ∷ [])) gone_v (drop_objects 2 (box_v (object 0)) (put_in_heap l (box_v (object 1)) two_boxes)) None) (sym there)
    (subst (λ c. StateTyped 0 (x_slot ∷ []) (put_in_slots f.0 (box_v (object 1)) (box_v (object 0) ∷ [])) gone_v (drop_objects 2 c (put_in_heap f.0 (box_v (object 1)) two_boxes)) None) (sym value) (f.4 2 (omega arith)).1)

-- and after the block's end there is no slot and no object
pub ended_example : (h : Objects) × ((o : ObjNo) → h o ≡ None) × StateTyped 0 [] [] gone_v h None
ended_example =
    let before = drop_objects 2 (box_v (object 0)) two_boxes in
    let f = end_list 0 [] x_slot [] (box_v (object 1)) gone_v before None 2 assigned_example tt (omega arith) in
    (drop_objects 2 (box_v (object 1)) before, left, f.1)
  where
    left : (o : ObjNo) → drop_objects 2 (box_v (object 1)) (drop_objects 2 (box_v (object 0)) two_boxes) o ≡ None
    left o = object_cases (λ b. (if b then None else (if same_object o (object 0) then None else (if b then Some (int_v (pos 6)) else (if same_object o (object 0) then Some (int_v (pos 5)) else None)))) ≡ None) o (object 1) (λ _. refl) (λ _. first (same_object o (object 0)))
      where
        first : (b : Bool) → (if b then None else (if b then Some (int_v (pos 5)) else None)) ≡ None
        first true = refl
        first false = refl
