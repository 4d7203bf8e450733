-- The acts of a thread alone under other names.
use Rattle.std.proofs.Common.{◌≡◌, Bool, true, false, List, [], ◌∷◌, ◌++◌, Option, Some, None, refl, ap, ◌∙◌}
use Rattle.std.specs.Option.{option_map}
use Rattle.fr_base.specs.declared.label.Plain.TheVariants as plain
use Rattle.fr_base.specs.declared.label.Label.{Label}
use Rattle.fr_base.specs.declared.label.Label.TheVariants as label
use Rattle.fr_base.specs.declared.place.Lval.{Lval}
use Rattle.fr_base.specs.declared.place.Op.{Op}
use Rattle.fr_plain.specs.declared.value.Value.{Value}
use Rattle.fr_plain.specs.declared.value.Value.TheVariants.{Own, ToSlot, ToObject, Held}
use Rattle.fr_plain.specs.Heap.{Heap, next_object, with_object}
use Rattle.fr_plain.specs.State.{State, Spot, in_slot, in_cell, gone, value_at, with_value, loads, stores, drops, Reached, then_reached, locate, drop_value}
use Rattle.fr_plain.specs.MachineActs.{Act, do_let, do_read, do_borrow, do_assign, do_box, do_arith, do_print, do_discard, do_drop, do_end, do_spawn, do_join, do_finish, do_leave, do_mutex, do_dup, do_lock, do_unlock, do_par, do_par_end, Did, unit, read_did, reference, borrow_did, assign_did, box_did, arith_did, print_did, drop_did, act, end_of, end_of_some, newest, where_reached, drops_last}
use Rattle.law_plain_names.specs.Renamed.{Renaming, IsOneToOne, object, owned, kept, all_kept, heap, labels}
use Rattle.law_plain_names.proofs.Heaps.{local, spot, reached, next_renamed, with_object_renamed, end_link_renamed, value_renamed, with_value_renamed, loads_renamed, stores_renamed, drops_renamed, both_renamed, locate_renamed, drop_value_renamed}

module _ (n : Renaming) (once : IsOneToOne n) where
  abbrev pub done : Did → Did
  done d = record { value = kept n d.value; state = local n once d.state; labels = labels n d.labels }

  abbrev here : State → State
  here s = local n once s

  abbrev there : Spot → Spot
  there p = spot n once p

  abbrev led : Reached → Reached
  led r = reached n once r

  abbrev did : Value → State → List Label → Option Did
  did v s ls = Some (record { value = v; state = s; labels = ls })

  three_renamed : (ls ms ks xs ys : List Label) → xs ≡ labels n ms → ys ≡ labels n ks → labels n ls ++ xs ++ ys ≡ labels n (ls ++ ms ++ ks)
  three_renamed ls ms ks xs ys e f = ap (λ x. x ++ ys) (both_renamed n once ls ms xs e) ∙ both_renamed n once (ls ++ ms) ks ys f

  read_renamed : (s : State) (take : Bool) (r : Reached) (v : Option Value) → read_did (here s) take (led r) (option_map (kept n) v) ≡ option_map done (read_did s take r v)
  read_renamed s take r None = refl
  read_renamed s false r (Some v) = ap (did (kept n v) (here s)) (both_renamed n once r.passed (loads r.spot v) _ (loads_renamed n once r.spot v))
  read_renamed s true r (Some v) =
      ap (λ (x : State). did (kept n v) x (labels n r.passed ++ loads (there r.spot) (kept n v) ++ stores (there r.spot) gone)) (with_value_renamed n once s r.spot gone)
      ∙ ap (did (kept n v) (here (with_value s r.spot gone)))
      (three_renamed r.passed (loads r.spot v) (stores r.spot gone) _ _ (loads_renamed n once r.spot v) (stores_renamed n once r.spot gone))

  reference_renamed : (p : Spot) → reference (there p) ≡ kept n (reference p)
  reference_renamed (in_slot i) = refl
  reference_renamed (in_cell o) = refl

  borrow_renamed : (s : State) (r : Reached) → borrow_did (here s) (led r) ≡ option_map done (borrow_did s r)
  borrow_renamed s r = ap (λ (v : Value). did v (here s) (labels n r.passed)) (reference_renamed r.spot)

  assign_renamed : (s : State) (v : Value) (r : Reached) (old : Option Value) → assign_did (here s) (kept n v) (led r) (option_map (kept n) old) ≡ option_map done (assign_did s v r old)
  assign_renamed s v r None = refl
  assign_renamed s v r (Some old) =
      ap (λ (x : State). did unit (drop_value x (kept n old)) (labels n r.passed ++ drops (kept n old) ++ stores (there r.spot) (kept n v))) (with_value_renamed n once s r.spot v)
      ∙ ap (λ (x : State). did unit x (labels n r.passed ++ drops (kept n old) ++ stores (there r.spot) (kept n v))) (drop_value_renamed n once (with_value s r.spot v) old)
      ∙ ap (did unit (here (drop_value (with_value s r.spot v) old)))
      (three_renamed r.passed (drops old) (stores r.spot v) _ _ (drops_renamed n once old) (stores_renamed n once r.spot v))

  box_renamed : (s : State) (v : Value) → box_did (here s) (kept n v) ≡ option_map done (box_did s v)
  box_renamed s (Own v) =
      ap
      (λ o.
      did (Own (plain.Box o)) (record { thread = n.thread s.thread; slots = all_kept n s.slots; heap = with_object (heap n s.heap) (n.thread s.thread) (owned n v) })
      (label.Make o (owned n v) ∷ []))
      (next_renamed n once s.heap s.thread)
      ∙ ap
      (λ (h : Heap).
      did (Own (plain.Box (object n (next_object s.heap s.thread)))) (record { thread = n.thread s.thread; slots = all_kept n s.slots; heap = h })
      (label.Make (object n (next_object s.heap s.thread)) (owned n v) ∷ []))
      (with_object_renamed n once s.heap s.thread v)
  box_renamed s (ToSlot i) = refl
  box_renamed s (ToObject o) = refl
  box_renamed s (Held m) = refl

  arith_renamed : (s : State) (f : Op) (a b : Value) → arith_did (here s) f (kept n a) (kept n b) ≡ option_map done (arith_did s f a b)
  arith_renamed s f (Own (plain.Int a)) (Own (plain.Int b)) = refl
  arith_renamed s f (Own (plain.Int a)) (Own plain.Nothing) = refl
  arith_renamed s f (Own (plain.Int a)) (Own plain.Unit) = refl
  arith_renamed s f (Own (plain.Int a)) (Own (plain.Box o)) = refl
  arith_renamed s f (Own (plain.Int a)) (Own (plain.Mutex m)) = refl
  arith_renamed s f (Own (plain.Int a)) (Own (plain.Task t)) = refl
  arith_renamed s f (Own (plain.Int a)) (ToSlot i) = refl
  arith_renamed s f (Own (plain.Int a)) (ToObject o) = refl
  arith_renamed s f (Own (plain.Int a)) (Held m) = refl
  arith_renamed s f (Own plain.Nothing) b = refl
  arith_renamed s f (Own plain.Unit) b = refl
  arith_renamed s f (Own (plain.Box o)) b = refl
  arith_renamed s f (Own (plain.Mutex m)) b = refl
  arith_renamed s f (Own (plain.Task t)) b = refl
  arith_renamed s f (ToSlot i) b = refl
  arith_renamed s f (ToObject o) b = refl
  arith_renamed s f (Held m) b = refl

  print_renamed : (s : State) (v : Value) → print_did (here s) (kept n v) ≡ option_map done (print_did s v)
  print_renamed s (Own (plain.Int i)) = refl
  print_renamed s (Own plain.Nothing) = refl
  print_renamed s (Own plain.Unit) = refl
  print_renamed s (Own (plain.Box o)) = refl
  print_renamed s (Own (plain.Mutex m)) = refl
  print_renamed s (Own (plain.Task t)) = refl
  print_renamed s (ToSlot i) = refl
  print_renamed s (ToObject o) = refl
  print_renamed s (Held m) = refl

  -- a value is dropped, with labels behind those of its pointer
  dropped_did : (w v : Value) (s : State) (ls : List Label) → did (kept n w) (drop_value (here s) (kept n v)) (labels n ls) ≡ option_map done (did w (drop_value s v) ls)
  dropped_did w v s ls = ap (λ (x : State). did (kept n w) x (labels n ls)) (drop_value_renamed n once s v)

  drop_renamed : (s : State) (vs : List Value) → drop_did (here s) (all_kept n vs) ≡ option_map done (drop_did s vs)
  drop_renamed s [] = refl
  drop_renamed s (v ∷ vs) =
      ap (did unit (drop_value (record { thread = n.thread s.thread; slots = all_kept n vs; heap = heap n s.heap }) (kept n v))) (drops_renamed n once v)
      ∙ dropped_did unit v (record { thread = s.thread; slots = vs; heap = s.heap }) (drops v)

  module _ {B : Type 0} (r : B → B) where
    -- the bodies of new threads are what r makes of them
    abbrev pub act_of : Act B → Act B
    act_of (do_let v) = do_let (kept n v)
    act_of (do_read w take) = do_read w take
    act_of (do_borrow w is_mut) = do_borrow w is_mut
    act_of (do_assign w v) = do_assign w (kept n v)
    act_of (do_box v) = do_box (kept n v)
    act_of (do_arith f a b) = do_arith f (kept n a) (kept n b)
    act_of (do_print v) = do_print (kept n v)
    act_of (do_discard v) = do_discard (kept n v)
    act_of do_drop = do_drop
    act_of (do_end v) = do_end (kept n v)
    act_of (do_spawn cs p) = do_spawn cs (r p)
    act_of (do_join v) = do_join (kept n v)
    act_of (do_finish v) = do_finish (kept n v)
    act_of (do_leave v) = do_leave (kept n v)
    act_of (do_mutex v) = do_mutex (kept n v)
    act_of (do_dup w) = do_dup w
    act_of (do_lock w) = do_lock w
    act_of do_unlock = do_unlock
    act_of (do_par cs p ds q) = do_par cs (r p) ds (r q)
    act_of do_par_end = do_par_end

    at_place : {A : Type 0} (h : A → A) (s : State) (w : Lval) (go go2 : Reached → Option A) → ((x : Reached) → go (led x) ≡ option_map h (go2 x)) → then_reached (locate (here s) w) go ≡ option_map h (then_reached (locate s w) go2)
    at_place h s w go go2 e = ap (λ x. then_reached x go) (locate_renamed n once s w) ∙ by (locate s w)
      where
        by : (x : Option Reached) → then_reached (option_map led x) go ≡ option_map h (then_reached x go2)
        by None = refl
        by (Some x) = e x

    pub act_renamed : (a : Act B) (s : State) → act (act_of a) (here s) ≡ option_map done (act a s)
    act_renamed (do_let v) s = refl
    act_renamed (do_read w take) s = at_place done s w _ _ (λ x. ap (read_did (here s) take (led x)) (value_renamed n once s x.spot) ∙ read_renamed s take x (value_at s x.spot))
    act_renamed (do_borrow w is_mut) s = at_place done s w _ _ (λ x. borrow_renamed s x)
    act_renamed (do_assign w v) s = at_place done s w _ _ (λ x. ap (assign_did (here s) (kept n v) (led x)) (value_renamed n once s x.spot) ∙ assign_renamed s v x (value_at s x.spot))
    act_renamed (do_box v) s = box_renamed s v
    act_renamed (do_arith f a b) s = arith_renamed s f a b
    act_renamed (do_print v) s = print_renamed s v
    act_renamed (do_discard v) s = ap (did unit (drop_value (here s) (kept n v))) (drops_renamed n once v) ∙ dropped_did unit v s (drops v)
    act_renamed do_drop s = drop_renamed s s.slots
    act_renamed (do_end v) s =
        ap (did unit (drop_value (here s) (kept n v)))
        (ap (λ ls. ls ++ label.End (n.thread s.thread) ∷ []) (drops_renamed n once v) ∙ both_renamed n once (drops v) (label.End s.thread ∷ []) _ refl)
        ∙ dropped_did unit v s (drops v ++ label.End s.thread ∷ [])
    act_renamed (do_finish v) s = refl
    act_renamed (do_leave v) s = dropped_did unit v s (label.End s.thread ∷ [])
    act_renamed (do_spawn cs p) s = refl
    act_renamed (do_join v) s = refl
    act_renamed (do_mutex v) s = refl
    act_renamed (do_dup w) s = refl
    act_renamed (do_lock w) s = refl
    act_renamed do_unlock s = refl
    act_renamed (do_par cs p ds q) s = refl
    act_renamed do_par_end s = refl

    -- WHAT IS DROPPED LAST

    pub end_renamed : (h : Heap) (v : Value) → end_of (heap n h) (kept n v) ≡ owned n (end_of h v)
    end_renamed h (Own v) = end_link_renamed n once h v
    end_renamed h (ToSlot i) = refl
    end_renamed h (ToObject o) = refl
    end_renamed h (Held m) = refl

    end_some_renamed : (h : Heap) (v : Option Value) → end_of_some (heap n h) (option_map (kept n) v) ≡ owned n (end_of_some h v)
    end_some_renamed h None = refl
    end_some_renamed h (Some v) = end_renamed h v

    newest_renamed : (vs : List Value) → newest (all_kept n vs) ≡ option_map (kept n) (newest vs)
    newest_renamed [] = refl
    newest_renamed (v ∷ vs) = refl

    assigned_last : (s : State) (w : Lval) (v : Value) → drops_last (act_of (do_assign w v)) (here s) ≡ owned n (drops_last {B = B} (do_assign w v) s)
    assigned_last s w v = ap (λ x. where_reached x (λ r. end_of_some (with_value (here s) r.spot (kept n v)).heap (value_at (here s) r.spot))) (locate_renamed n once s w) ∙ by (locate s w)
      where
        by : (x : Option Reached) → where_reached (option_map led x) (λ r. end_of_some (with_value (here s) r.spot (kept n v)).heap (value_at (here s) r.spot)) ≡ owned n (where_reached x (λ r. end_of_some (with_value s r.spot v).heap (value_at s r.spot)))
        by None = refl
        by (Some x) =
            ap (λ (y : State). end_of_some y.heap (value_at (here s) (there x.spot))) (with_value_renamed n once s x.spot v)
            ∙ ap (end_of_some (heap n (with_value s x.spot v).heap)) (value_renamed n once s x.spot)
            ∙ end_some_renamed (with_value s x.spot v).heap (value_at s x.spot)

    pub last_act_renamed : (a : Act B) (s : State) → drops_last (act_of a) (here s) ≡ owned n (drops_last a s)
    last_act_renamed (do_assign w v) s = assigned_last s w v
    last_act_renamed (do_discard v) s = end_renamed s.heap v
    last_act_renamed do_drop s = ap (end_of_some (heap n s.heap)) (newest_renamed s.slots) ∙ end_some_renamed s.heap (newest s.slots)
    last_act_renamed (do_end v) s = end_renamed s.heap v
    last_act_renamed (do_leave v) s = end_renamed s.heap v
    last_act_renamed (do_let v) s = refl
    last_act_renamed (do_read w take) s = refl
    last_act_renamed (do_borrow w is_mut) s = refl
    last_act_renamed (do_box v) s = refl
    last_act_renamed (do_arith f a b) s = refl
    last_act_renamed (do_print v) s = refl
    last_act_renamed (do_finish v) s = refl
    last_act_renamed (do_spawn cs p) s = refl
    last_act_renamed (do_join v) s = refl
    last_act_renamed (do_mutex v) s = refl
    last_act_renamed (do_dup w) s = refl
    last_act_renamed (do_lock w) s = refl
    last_act_renamed do_unlock s = refl
    last_act_renamed (do_par cs p ds q) s = refl
    last_act_renamed do_par_end s = refl
