-- An owned place through mutable references is whole.
use Rattle.std.proofs.Common.{◌≡◌, ◌≢◌, ⊎_elim, ◌∙◌, ℕ, zero, suc, ◌<◌, Bool, true, false, List, length, Option, Some, None, refl, sym, ap, subst, arith}
use Rattle.std.specs.Prelude.{◌||◌}
use Rattle.fr_base.specs.declared.place.Lval.{Lval}
use Rattle.fr_typing.specs.Kinds.{map_some, Owned, box, own, shared, mutable, view, Piece, whole, gone, boxed}
use Rattle.fr_typing.specs.Places.{Env, Found, found, undefined, no_target, type_at, on_path, is_mutable, is_writable, owned_shape, piece_shape, shape_at}
use Rattle.fr_store.specs.Keys.{Key, slot_k}
use Rattle.fr_store.specs.Typed.{Tree, box_tree, Exact, owns, refers, KeyTypes, Whole, WholeTree, exact_under, Resolves, here, Loaned, self, loan, Unnamed}
use Rattle.fr_store.specs.Below.{tree_of, TreeOf}
use Rattle.fr_store.proofs.Keys.{decide_number}
use Rattle.fr_store.proofs.Chains.{part_suc}
use Rattle.fr_store.proofs.Sound.{res_part}
use Rattle.fr_store.proofs.Below.{Resolved, mut_place, res_once, resolved, resolved_writable}
use Rattle.fr_store.proofs.Through.{res_whole}
use Rattle.fr_store.proofs.ThreadKept.{ref_found}
use Rattle.fr_sound.specs.States.{Typing, owned_part}
use Rattle.fr_plain.specs.PlainState.{PlainState}
use Rattle.law_plain_values.specs.acts.Positions.{Position}
use Rattle.law_plain_values.proofs.acts.OneThread.{store}
use Rattle.law_plain_values.proofs.acts.Focus.{Focus}
use Rattle.fr_typing.specs.Kinds.{Kind}
use Rattle.law_plain_values.proofs.drops.Parts.{shape_part, shape_owns}

-- a whole tree of a part of that type
whole_of : (p : Piece) (t : Tree) (x : Owned) → TreeOf p t → WholeTree t → owned_part p ≡ Some x → t ≡ tree_of x
whole_of (whole (own o)) t x h w e = let f : o ≡ x = cc in h ∙ ap tree_of f
whole_of (whole (shared us)) t x h w e = absurd h
whole_of (whole (mutable us)) t x h w e = absurd h
whole_of (whole (view o)) t x h w e = absurd h
whole_of (gone k) t x h w e = absurd (subst WholeTree h w)
whole_of (boxed p) t x h w e = by (owned_part p) e (λ o f. whole_of p h.0 o h.2 (subst WholeTree h.1 w) f)
  where
    by : (f : Option Owned) → map_some box f ≡ Some x → ((o : Owned) → f ≡ Some o → h.0 ≡ tree_of o) → t ≡ tree_of x
    by None e ih = cc
    by (Some o) e ih = let f : box o ≡ x = cc in h.1 ∙ ap box_tree (ih o refl) ∙ ap tree_of f

-- a path with a mutable reference has one somewhere
found_on : (e : Env) (x d : ℕ) → on_path is_mutable e x d ≡ true → (n : ℕ) × (n < d) × (is_mutable (type_at e (record { slot = x; depth = n })) ≡ true)
found_on e x zero h = cc
found_on e x (suc d) h = by (on_path is_mutable e x d) refl h (found_on e x d)
  where
    by : (b : Bool) → on_path is_mutable e x d ≡ b → (b || is_mutable (type_at e (record { slot = x; depth = d }))) ≡ true → (on_path is_mutable e x d ≡ true → (n : ℕ) × (n < d) × (is_mutable (type_at e (record { slot = x; depth = n })) ≡ true)) → (n : ℕ) × (n < suc d) × (is_mutable (type_at e (record { slot = x; depth = n })) ≡ true)
    by true is h ih = let y = ih is in let lt = y.1 in (y.0, omega (arith, lt), y.2)
    by false is h ih = (d, omega arith, h)

mutable_found : (f : Found) → is_mutable f ≡ true → (us : List Lval) × (f ≡ found (whole (mutable us)))
mutable_found (found (whole (own o))) h = cc
mutable_found (found (whole (shared us))) h = cc
mutable_found (found (whole (mutable us))) h = (us, refl)
mutable_found (found (whole (view o))) h = cc
mutable_found (found (gone k)) h = cc
mutable_found (found (boxed p)) h = cc
mutable_found undefined h = cc
mutable_found no_target h = cc

-- in a chain of boxes all is owned
part_before : (d n : ℕ) (q p : Exact) → exact_under d q ≡ Some p → n < d → (t : Tree) × (exact_under n q ≡ Some (owns t))
part_before zero n q p e lt = absurd (omega (arith, lt))
part_before (suc d) n q p e lt =
    let x = part_suc d q p e in
    ⊎_elim (λ (z : n ≡ d). (box_tree x.0, ap (λ y. exact_under y q) z ∙ x.1)) (λ (z : n ≢ d). part_before d n q (owns (box_tree x.0)) x.1 (omega (arith, lt, z))) (decide_number n d)

-- what no type names is lent to nobody
pub loaned_self : (E : KeyTypes) (x j : Key) → Unnamed E j → Loaned E x j → j ≡ x
loaned_self E x _ free self = refl
loaned_self E x _ free (loan {t = k} h u f) = absurd (free k true u f refl)

module _ {y : Typing} {a : PlainState Position} {t : ℕ} {e : Env} {us : List Kind} (fc : Focus y a t e us None) (w : Lval) (p : Piece) (x : Owned) (lt : w.slot < length e) (is : type_at e w ≡ found p) (shape : piece_shape (shape_at e) p ≡ Some (owned_shape x)) (path : is_writable e w ≡ true) (lent : on_path is_mutable e w.slot w.depth ≡ true) where
  abbrev c : Resolved (slot_k t) y.exact true w p
  c = resolved_writable (slot_k t) y.exact (mut_place y.rank y.exact (store y a) fc.thread.typed) e fc.thread.nested fc.thread.slots w p lt path is

  no_chain : (q : Exact) → exact_under w.depth (y.exact (slot_k t w.slot)) ≡ Some q → ⊥
  no_chain q h =
      let n = found_on e w.slot w.depth lent in
      let m = mutable_found (type_at e (record { slot = w.slot; depth = n.0 })) n.2 in
      let b = part_before w.depth n.0 (y.exact (slot_k t w.slot)) q h n.1 in
      let v : Lval = record { slot = w.slot; depth = n.0 } in
      let r = resolved (slot_k t) y.exact (mut_place y.rank y.exact (store y a) fc.thread.typed) e fc.thread.nested fc.thread.slots v (whole (mutable m.0)) lt m.1 in
      let f = ref_found (slot_k t) y.exact m.0 r.type r.exact in
      let same = res_once y.exact false false (slot_k t w.slot) n.0 r.base (slot_k t w.slot) r.boxes n.0 r.type (owns b.0) r.res (here b.1) in
      let g : refers true f.0 ≡ owns b.0 = sym f.1 ∙ same.2 in
      cc

  -- what the place resolves to
  pub lent_to : (b : Key) × (n : ℕ) × Resolves y.exact true (slot_k t w.slot) w.depth b n (owns (tree_of x))
  lent_to =
      let o = shape_owns (slot_k t) y.exact (shape_at e) p x c.type shape c.exact in
      let same : c.type ≡ owns (tree_of x) =
      ⊎_elim (λ (z : Whole c.type). o.1 ∙ ap owns (whole_of p o.0 x o.2 (subst Whole o.1 z) (shape_part (shape_at e) p x shape)))
      (λ (z : (slot_k t w.slot ≡ c.base) × (w.depth ≡ c.boxes)). absurd (no_chain c.type (ap (λ k. exact_under w.depth (y.exact k)) z.0 ∙ ap (λ n. exact_under n (y.exact c.base)) z.1 ∙ res_part y.exact true (slot_k t w.slot) w.depth c.base c.boxes c.type c.res)))
      (res_whole y.rank y.exact (store y a) fc.thread.typed true (slot_k t w.slot) w.depth c.base c.boxes c.type c.res) in
      (c.base, c.boxes, subst (Resolves y.exact true (slot_k t w.slot) w.depth c.base c.boxes) same c.res)
