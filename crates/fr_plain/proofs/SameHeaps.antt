-- What is done over heaps that are the same name by name: places lead to the same, and acts leave the same.
use Rattle.std.proofs.Common.{◌≡◌, ◌≢◌, inl, inr, ⊎_elim, ℕ, zero, suc, ◌+◌, ◌<◌, ◌≤◌, Bool, true, false, List, [], ◌∷◌, ◌++◌, length, Option, Some, None, refl, sym, ap, ◌∙◌, subst, arith, length-append}
use Rattle.std.specs.Prelude.{⊤, ◌⊎◌, ◌==◌, if◌then◌else◌}
use Rattle.fr_base.specs.declared.label.Plain.{Plain}
use Rattle.fr_base.specs.declared.label.Plain.TheVariants as plain
use Rattle.fr_base.specs.declared.label.Label.{Label}
use Rattle.fr_base.specs.declared.label.Label.TheVariants as label
use Rattle.fr_base.specs.declared.name.ObjNo.{ObjNo}
use Rattle.fr_base.specs.declared.place.Lval.{Lval}
use Rattle.fr_base.specs.declared.place.Op.{Op}
use Rattle.fr_typing.proofs.PlaceLemmas.{eq_cases}
use Rattle.fr_plain.specs.declared.value.Value.{Value}
use Rattle.fr_plain.specs.declared.value.Value.TheVariants.{Own, ToSlot, ToObject, Held}
use Rattle.fr_plain.specs.Heap.{Heap, made_by, cell_at, with_cell, next_object, with_object, live, drop_links, dropped, then_link, last_link}
use Rattle.fr_plain.specs.State.{State, Spot, in_slot, in_cell, owned, value_at, cell_of, with_value, Reached, then_reached, led, stars, locate, without, drop_value, drops, gone}
use Rattle.fr_plain.specs.MachineActs.{Act, do_let, do_read, do_borrow, do_assign, do_box, do_arith, do_print, do_discard, do_drop, do_end, do_spawn, do_join, do_finish, do_leave, do_mutex, do_dup, do_lock, do_unlock, do_par, do_par_end, Did, read_did, borrow_did, assign_did, box_did, arith_did, print_did, drop_did, act, end_of, end_of_some, newest, where_reached, drops_last}
use Rattle.fr_plain.proofs.HeapLemmas.{made_same, made_other, object_is, cell_same, cell_other, new_same, new_other, live_made, live_falls, made_kept, dropped_box, dropped_none, link_box}

-- THE SAME OBJECTS

object_split : (x o : ObjNo) → (x ≡ o) ⊎ (x ≢ o)
object_split x o =
    eq_cases (λ b. (x ≡ o) ⊎ (x ≢ o)) x.thread o.thread
    (λ e. eq_cases (λ b. (x ≡ o) ⊎ (x ≢ o)) x.count o.count (λ f. inl (object_is x o e f)) (λ ne. inr (λ f. ne (ap (λ (y : ObjNo). y.count) f)))) (λ ne. inr (λ f. ne (ap (λ (y : ObjNo). y.thread) f)))

-- what stands at the end of boxes, as far as anything is let go by it
abbrev pub let_go_of : Plain → Plain
let_go_of (plain.Task t) = plain.Task t
let_go_of (plain.Mutex m) = plain.Mutex m
let_go_of _ = plain.Nothing

-- what is no box drops nothing more, and is its own end
links_rest : (n : ℕ) (h : Heap) (v : Plain) → ((o : ObjNo) → v ≢ plain.Box o) → drop_links n h v ≡ h
links_rest zero h v ne = refl
links_rest (suc n) h (plain.Box o) ne = absurd (ne o refl)
links_rest (suc n) h plain.Nothing ne = refl
links_rest (suc n) h plain.Unit ne = refl
links_rest (suc n) h (plain.Int i) ne = refl
links_rest (suc n) h (plain.Mutex m) ne = refl
links_rest (suc n) h (plain.Task t) ne = refl

end_rest : (n : ℕ) (h : Heap) (v : Plain) → ((o : ObjNo) → v ≢ plain.Box o) → last_link n h v ≡ v
end_rest zero h v ne = refl
end_rest (suc n) h (plain.Box o) ne = absurd (ne o refl)
end_rest (suc n) h plain.Nothing ne = refl
end_rest (suc n) h plain.Unit ne = refl
end_rest (suc n) h (plain.Int i) ne = refl
end_rest (suc n) h (plain.Mutex m) ne = refl
end_rest (suc n) h (plain.Task t) ne = refl

-- a box of no object lets nothing go
no_end : (n : ℕ) (h : Heap) (o : ObjNo) → cell_at h o ≡ None → let_go_of (last_link n h (plain.Box o)) ≡ plain.Nothing
no_end zero h o e = refl
no_end (suc n) h o e = ap (λ c. let_go_of (then_link c (last_link n (with_cell h o None)))) e

module _ (K : ℕ → Type 0) where
  -- the same objects live, with the same values; the threads of K have made equally many
  pub record SameHeap (h g : Heap) : Type 0 where
    pub cells : (o : ObjNo) → cell_at h o ≡ cell_at g o
    pub made : (t : ℕ) → K t → length (made_by h t) ≡ length (made_by g t)

  -- an object that lives has another value, or goes
  same_cell : (h g : Heap) → SameHeap h g → (o : ObjNo) (v : Plain) (c : Option Plain) → cell_at h o ≡ Some v → SameHeap (with_cell h o c) (with_cell g o c)
  same_cell h g s o v c e = record { cells = at; made = λ t k. made_kept h o c t ∙ s.made t k ∙ sym (made_kept g o c t) }
    where
      there : cell_at (with_cell h o c) o ≡ cell_at (with_cell g o c) o
      there = cell_same h o c (live_made h o v e) ∙ sym (cell_same g o c (live_made g o v (sym (s.cells o) ∙ e)))

      at : (x : ObjNo) → cell_at (with_cell h o c) x ≡ cell_at (with_cell g o c) x
      at x =
          ⊎_elim (λ (f : x ≡ o). ap (cell_at (with_cell h o c)) f ∙ there ∙ sym (ap (cell_at (with_cell g o c)) f))
          (λ (ne : x ≢ o). cell_other h o x c ne ∙ s.cells x ∙ sym (cell_other g o x c ne)) (object_split x o)

  -- a new object of a thread of K
  same_new : (h g : Heap) → SameHeap h g → (t : ℕ) (v : Plain) → K t → SameHeap (with_object h t v) (with_object g t v)
  same_new h g s t v k = record { cells = at; made = more }
    where
      next : next_object h t ≡ next_object g t
      next = ap (λ (n : ℕ). record { thread = t; count = n }) (s.made t k)

      there : cell_at (with_object h t v) (next_object h t) ≡ cell_at (with_object g t v) (next_object h t)
      there = new_same h t v ∙ sym (ap (cell_at (with_object g t v)) next ∙ new_same g t v)

      at : (x : ObjNo) → cell_at (with_object h t v) x ≡ cell_at (with_object g t v) x
      at x =
          ⊎_elim (λ (f : x ≡ next_object h t). ap (cell_at (with_object h t v)) f ∙ there ∙ sym (ap (cell_at (with_object g t v)) f))
          (λ (ne : x ≢ next_object h t). new_other h t x v ne ∙ s.cells x ∙ sym (new_other g t x v (λ f. ne (f ∙ sym next)))) (object_split x (next_object h t))

      here : length (made_by (with_object h t v) t) ≡ length (made_by (with_object g t v) t)
      here =
          ap length (made_same h t (made_by h t ++ Some v ∷ [])) ∙ length-append (made_by h t) (Some v ∷ []) ∙ ap (λ n. n + 1) (s.made t k)
          ∙ sym (ap length (made_same g t (made_by g t ++ Some v ∷ [])) ∙ length-append (made_by g t) (Some v ∷ []))

      more : (u : ℕ) → K u → length (made_by (with_object h t v) u) ≡ length (made_by (with_object g t v) u)
      more u l =
          eq_cases (λ b. length (made_by (with_object h t v) u) ≡ length (made_by (with_object g t v) u)) u t
          (λ e. ap (λ w. length (made_by (with_object h t v) w)) e ∙ here ∙ sym (ap (λ w. length (made_by (with_object g t v) w)) e))
          (λ ne. ap length (made_other h t u (made_by h t ++ Some v ∷ []) ne) ∙ s.made u l ∙ sym (ap length (made_other g t u (made_by g t ++ Some v ∷ []) ne)))

  -- DROPPING

  kept : (h g : Heap) (v : Plain) → ((o : ObjNo) → v ≢ plain.Box o) → SameHeap h g → SameHeap (dropped h v) (dropped g v)
  kept h g v ne s = subst (λ z. SameHeap z (dropped g v)) (sym (links_rest (live h) h v ne)) (subst (λ z. SameHeap h z) (sym (links_rest (live g) g v ne)) s)

  gone_box : (h g : Heap) → SameHeap h g → (o : ObjNo) → cell_at h o ≡ None → SameHeap (dropped h (plain.Box o)) (dropped g (plain.Box o))
  gone_box h g s o e = subst (λ z. SameHeap z (dropped g (plain.Box o))) (sym (dropped_none h o e)) (subst (λ z. SameHeap h z) (sym (dropped_none g o (sym (s.cells o) ∙ e))) s)

  same_dropped : (n : ℕ) (h g : Heap) → SameHeap h g → (v : Plain) → live h ≤ n → SameHeap (dropped h v) (dropped g v)
  same_dropped zero h g s (plain.Box o) l = by (cell_at h o) refl
    where
      by : (c : Option Plain) → cell_at h o ≡ c → SameHeap (dropped h (plain.Box o)) (dropped g (plain.Box o))
      by None e = gone_box h g s o e
      by (Some w) e = absurd (omega (arith, l, live_falls h o w e))
  same_dropped (suc n) h g s (plain.Box o) l = by (cell_at h o) refl (λ w e. same_dropped n (with_cell h o None) (with_cell g o None) (same_cell h g s o w None e) w (omega (arith, l, live_falls h o w e)))
    where
      by : (c : Option Plain) → cell_at h o ≡ c → ((w : Plain) → cell_at h o ≡ Some w → SameHeap (dropped (with_cell h o None) w) (dropped (with_cell g o None) w)) → SameHeap (dropped h (plain.Box o)) (dropped g (plain.Box o))
      by None e go = gone_box h g s o e
      by (Some w) e go =
          subst (λ z. SameHeap z (dropped g (plain.Box o))) (sym (dropped_box h o w e)) (subst (λ z. SameHeap (dropped (with_cell h o None) w) z) (sym (dropped_box g o w (sym (s.cells o) ∙ e))) (go w e))
  same_dropped n h g s plain.Nothing l = kept h g plain.Nothing (λ o e. cc) s
  same_dropped n h g s plain.Unit l = kept h g plain.Unit (λ o e. cc) s
  same_dropped n h g s (plain.Int i) l = kept h g (plain.Int i) (λ o e. cc) s
  same_dropped n h g s (plain.Mutex m) l = kept h g (plain.Mutex m) (λ o e. cc) s
  same_dropped n h g s (plain.Task t) l = kept h g (plain.Task t) (λ o e. cc) s

  pub same_without : (h g : Heap) → SameHeap h g → (v : Value) → SameHeap (without h v) (without g v)
  same_without h g s (Own v) = same_dropped (live h) h g s v (omega arith)
  same_without h g s (ToSlot i) = s
  same_without h g s (ToObject o) = s
  same_without h g s (Held m) = s

  same_link : (n : ℕ) (h g : Heap) → SameHeap h g → (v : Plain) → live h ≤ n → let_go_of (last_link (live h) h v) ≡ let_go_of (last_link (live g) g v)
  same_link zero h g s (plain.Box o) l = by (cell_at h o) refl
    where
      by : (c : Option Plain) → cell_at h o ≡ c → let_go_of (last_link (live h) h (plain.Box o)) ≡ let_go_of (last_link (live g) g (plain.Box o))
      by None e = no_end (live h) h o e ∙ sym (no_end (live g) g o (sym (s.cells o) ∙ e))
      by (Some w) e = absurd (omega (arith, l, live_falls h o w e))
  same_link (suc n) h g s (plain.Box o) l = by (cell_at h o) refl (λ w e. same_link n (with_cell h o None) (with_cell g o None) (same_cell h g s o w None e) w (omega (arith, l, live_falls h o w e)))
    where
      by : (c : Option Plain) → cell_at h o ≡ c → ((w : Plain) → cell_at h o ≡ Some w → let_go_of (last_link (live (with_cell h o None)) (with_cell h o None) w) ≡ let_go_of (last_link (live (with_cell g o None)) (with_cell g o None) w))
          → let_go_of (last_link (live h) h (plain.Box o)) ≡ let_go_of (last_link (live g) g (plain.Box o))
      by None e go = no_end (live h) h o e ∙ sym (no_end (live g) g o (sym (s.cells o) ∙ e))
      by (Some w) e go = ap let_go_of (link_box h o w e) ∙ go w e ∙ sym (ap let_go_of (link_box g o w (sym (s.cells o) ∙ e)))
  same_link n h g s plain.Nothing l = ap let_go_of (end_rest (live h) h plain.Nothing (λ o e. cc) ∙ sym (end_rest (live g) g plain.Nothing (λ o e. cc)))
  same_link n h g s plain.Unit l = ap let_go_of (end_rest (live h) h plain.Unit (λ o e. cc) ∙ sym (end_rest (live g) g plain.Unit (λ o e. cc)))
  same_link n h g s (plain.Int i) l = ap let_go_of (end_rest (live h) h (plain.Int i) (λ o e. cc) ∙ sym (end_rest (live g) g (plain.Int i) (λ o e. cc)))
  same_link n h g s (plain.Mutex m) l = ap let_go_of (end_rest (live h) h (plain.Mutex m) (λ o e. cc) ∙ sym (end_rest (live g) g (plain.Mutex m) (λ o e. cc)))
  same_link n h g s (plain.Task t) l = ap let_go_of (end_rest (live h) h (plain.Task t) (λ o e. cc) ∙ sym (end_rest (live g) g (plain.Task t) (λ o e. cc)))

  pub same_end : (h g : Heap) → SameHeap h g → (v : Value) → let_go_of (end_of h v) ≡ let_go_of (end_of g v)
  same_end h g s (Own v) = same_link (live h) h g s v (omega arith)
  same_end h g s (ToSlot i) = refl
  same_end h g s (ToObject o) = refl
  same_end h g s (Held m) = refl

  same_end_some : (h g : Heap) → SameHeap h g → (v : Option Value) → let_go_of (end_of_some h v) ≡ let_go_of (end_of_some g v)
  same_end_some h g s None = refl
  same_end_some h g s (Some v) = same_end h g s v

  -- STATES OF ONE THREAD

  pub record SameLocal (s z : State) : Type 0 where
    pub slots : s.slots ≡ z.slots
    pub heap : SameHeap s.heap z.heap

  -- neither is done without the other
  abbrev pub SameDid : Option Did → Option Did → Type 0
  SameDid None None = ⊤
  SameDid (Some d) (Some e) = (d.value ≡ e.value) × (d.labels ≡ e.labels) × SameLocal d.state e.state
  SameDid _ _ = ⊥

  module _ (h g : Heap) (s : SameHeap h g) (t : ℕ) (k : K t) (vs : List Value) where
    abbrev one : State
    one = record { thread = t; slots = vs; heap = h }

    abbrev other : State
    other = record { thread = t; slots = vs; heap = g }

    both : SameLocal one other
    both = record { slots = refl; heap = s }

    pub same_value : (p : Spot) → value_at one p ≡ value_at other p
    same_value (in_slot i) = refl
    same_value (in_cell o) = ap owned (s.cells o)

    same_stars : (slot n : ℕ) → stars one slot n ≡ stars other slot n
    same_stars slot zero = refl
    same_stars slot (suc n) = ap (λ x. then_reached x (λ r. led r (value_at one r.spot))) (same_stars slot n) ∙ by (stars other slot n)
      where
        by : (x : Option Reached) → then_reached x (λ r. led r (value_at one r.spot)) ≡ then_reached x (λ r. led r (value_at other r.spot))
        by None = refl
        by (Some r) = ap (led r) (same_value r.spot)

    pub same_locate : (w : Lval) → locate one w ≡ locate other w
    same_locate w = same_stars w.slot w.depth

    same_with : (p : Spot) (v old : Value) → value_at one p ≡ Some old → SameLocal (with_value one p v) (with_value other p v)
    same_with (in_slot i) v old e = record { slots = refl; heap = s }
    same_with (in_cell o) v old e = record { slots = refl; heap = by (cell_at h o) refl e }
      where
        by : (c : Option Plain) → cell_at h o ≡ c → owned c ≡ Some old → SameHeap (with_cell h o (cell_of v)) (with_cell g o (cell_of v))
        by None f e = absurd cc
        by (Some w) f e = same_cell h g s o w (cell_of v) f

    then_same : (x : Option Reached) (f q : Reached → Option Did) → ((r : Reached) → SameDid (f r) (q r)) → SameDid (then_reached x f) (then_reached x q)
    then_same None f q e = tt
    then_same (Some r) f q e = e r

    -- what is done where a place leads
    at_place : (w : Lval) (f q : Reached → Option Did) → ((r : Reached) → SameDid (f r) (q r)) → SameDid (then_reached (locate one w) f) (then_reached (locate other w) q)
    at_place w f q e = subst (λ x. SameDid (then_reached (locate one w) f) (then_reached x q)) (same_locate w) (then_same (locate one w) f q e)

    same_read : (take : Bool) (r : Reached) (v : Option Value) → value_at one r.spot ≡ v → SameDid (read_did one take r v) (read_did other take r v)
    same_read true r None e = tt
    same_read false r None e = tt
    same_read false r (Some v) e = (refl, refl, both)
    same_read true r (Some v) e = (refl, refl, same_with r.spot gone v e)

    same_assign : (v : Value) (r : Reached) (old : Option Value) → value_at one r.spot ≡ old → SameDid (assign_did one v r old) (assign_did other v r old)
    same_assign v r None e = tt
    same_assign v r (Some old) e =
        let z = same_with r.spot v old e in
        (refl, refl, record { slots = z.slots; heap = same_without (with_value one r.spot v).heap (with_value other r.spot v).heap z.heap old })

    same_box : (v : Value) → SameDid (box_did one v) (box_did other v)
    same_box (Own v) =
        let next : next_object h t ≡ next_object g t = ap (λ (n : ℕ). record { thread = t; count = n }) (s.made t k) in
        (ap (λ o. Own (plain.Box o)) next, ap (λ o. label.Make o v ∷ []) next, record { slots = refl; heap = same_new h g s t v k })
    same_box (ToSlot i) = tt
    same_box (ToObject o) = tt
    same_box (Held m) = tt

    same_arith : (f : Op) (v w : Value) → SameDid (arith_did one f v w) (arith_did other f v w)
    same_arith f (Own (plain.Int a)) (Own (plain.Int b)) = (refl, refl, both)
    same_arith f v w = tt

    same_print : (v : Value) → SameDid (print_did one v) (print_did other v)
    same_print (Own (plain.Int n)) = (refl, refl, both)
    same_print v = tt

    drops_value : (v : Value) → SameLocal (drop_value one v) (drop_value other v)
    drops_value v = record { slots = refl; heap = same_without h g s v }

    same_drop : (us : List Value) → SameDid (drop_did one us) (drop_did other us)
    same_drop [] = tt
    same_drop (v ∷ us) = (refl, refl, record { slots = refl; heap = same_without h g s v })

    assign_end : (v : Value) (r : Reached) (old : Option Value) → value_at one r.spot ≡ old → let_go_of (end_of_some (with_value one r.spot v).heap old) ≡ let_go_of (end_of_some (with_value other r.spot v).heap old)
    assign_end v r None e = refl
    assign_end v r (Some old) e = same_end (with_value one r.spot v).heap (with_value other r.spot v).heap (same_with r.spot v old e).heap old

    module _ {B : Type 0} where
      -- the same act leaves the same
      pub same_act : (a : Act B) → SameDid (act a one) (act a other)
      same_act (do_let v) = (refl, refl, record { slots = refl; heap = s })
      same_act (do_read w take) =
          at_place w (λ r. read_did one take r (value_at one r.spot)) (λ r. read_did other take r (value_at other r.spot))
          (λ r. subst (λ x. SameDid (read_did one take r (value_at one r.spot)) (read_did other take r x)) (same_value r.spot) (same_read take r (value_at one r.spot) refl))
      same_act (do_borrow w is_mut) = at_place w (borrow_did one) (borrow_did other) (λ r. (refl, refl, both))
      same_act (do_assign w v) =
          at_place w (λ r. assign_did one v r (value_at one r.spot)) (λ r. assign_did other v r (value_at other r.spot))
          (λ r. subst (λ x. SameDid (assign_did one v r (value_at one r.spot)) (assign_did other v r x)) (same_value r.spot) (same_assign v r (value_at one r.spot) refl))
      same_act (do_box v) = same_box v
      same_act (do_arith f v w) = same_arith f v w
      same_act (do_print v) = same_print v
      same_act (do_discard v) = (refl, refl, drops_value v)
      same_act do_drop = same_drop vs
      same_act (do_end v) = (refl, refl, drops_value v)
      same_act (do_finish v) = (refl, refl, both)
      same_act (do_leave v) = (refl, refl, drops_value v)
      same_act (do_spawn cs r) = tt
      same_act (do_join v) = tt
      same_act (do_mutex v) = tt
      same_act (do_dup w) = tt
      same_act (do_lock w) = tt
      same_act do_unlock = tt
      same_act (do_par cs p ds q) = tt
      same_act do_par_end = tt

      -- and lets the same go
      pub same_last : (a : Act B) → let_go_of (drops_last a one) ≡ let_go_of (drops_last a other)
      same_last (do_assign w v) = ap (λ x. let_go_of (where_reached x (λ r. end_of_some (with_value one r.spot v).heap (value_at one r.spot)))) (same_locate w) ∙ by (locate other w)
        where
          by : (x : Option Reached) → let_go_of (where_reached x (λ r. end_of_some (with_value one r.spot v).heap (value_at one r.spot))) ≡ let_go_of (where_reached x (λ r. end_of_some (with_value other r.spot v).heap (value_at other r.spot)))
          by None = refl
          by (Some r) = assign_end v r (value_at one r.spot) refl ∙ ap (λ x. let_go_of (end_of_some (with_value other r.spot v).heap x)) (same_value r.spot)
      same_last (do_discard v) = same_end h g s v
      same_last do_drop = same_end_some h g s (newest vs)
      same_last (do_end v) = same_end h g s v
      same_last (do_leave v) = same_end h g s v
      same_last (do_let v) = refl
      same_last (do_read w take) = refl
      same_last (do_borrow w is_mut) = refl
      same_last (do_box v) = refl
      same_last (do_arith f v w) = refl
      same_last (do_print v) = refl
      same_last (do_finish v) = refl
      same_last (do_spawn cs r) = refl
      same_last (do_join v) = refl
      same_last (do_mutex v) = refl
      same_last (do_dup w) = refl
      same_last (do_lock w) = refl
      same_last do_unlock = refl
      same_last (do_par cs p ds q) = refl
      same_last do_par_end = refl
