-- The types after what a carrier owns and what stands in a place over boxes alone have changed places.
use Rattle.std.proofs.Common.{◌≡◌, ◌≢◌, ◌∙◌, ℕ, ◌<◌, ◌≤◌, Bool, false, true, length, Some, None, List, refl, ap, subst, arith}
use Rattle.std.specs.Prelude.{not}
use Rattle.fr_base.specs.declared.label.Plain.{Plain}
use Rattle.fr_base.specs.declared.name.MutexNo.{MutexNo}
use Rattle.fr_base.specs.declared.place.Lval.{Lval}
use Rattle.fr_typing.specs.Kinds.{Owned, Kind, own, Piece, whole}
use Rattle.fr_typing.specs.Places.{Env, IsNested, owned_shape, piece_shape, shape_at, found, type_at, write_blocked, is_own_path, put_at}
use Rattle.fr_store.specs.Keys.{Key, slot_k}
use Rattle.fr_store.specs.Store.{swap}
use Rattle.fr_store.specs.Changes.{put_tree}
use Rattle.fr_store.specs.Typed.{Tree, hole, owns, KeyTypes, exact_under, some_owns, tree_under, Resolves, here, Typed, Unnamed}
use Rattle.fr_store.specs.Below.{tree_of, TreeOf, SlotsBelow}
use Rattle.fr_store.specs.Rows.{PlaceFound, with_type}
use Rattle.fr_store.specs.Thread.{place_of}
use Rattle.fr_store.proofs.Keys.{key_same, key_other}
use Rattle.fr_store.proofs.Rows.{found_place, swap_own, unnamed_with}
use Rattle.fr_store.proofs.Below.{mut_place, resolved}
use Rattle.fr_store.proofs.PutAt.{length_put, nested_put}
use Rattle.fr_store.proofs.ThreadKept.{no_temp, slots_with, unnamed_key}
use Rattle.fr_plain.specs.declared.value.Value.TheVariants.{Held}
use Rattle.fr_plain.specs.State.{slot_at}
use Rattle.fr_plain.specs.PlainState.{Running, PlainState, place_in}
use Rattle.fr_sound.specs.States.{Typing, part_at}
use Rattle.law_plain_values.specs.acts.Positions.{Position}
use Rattle.law_plain_values.proofs.acts.OneThread.{store}
use Rattle.law_plain_values.proofs.acts.Focus.{hand_at, Focus}
use Rattle.law_plain_values.proofs.acts.Hand.{At}
use Rattle.law_plain_values.proofs.acts.Moved.{mark_off_owned}
use Rattle.law_plain_values.proofs.acts.Slots.{owned_in}
use Rattle.law_plain_values.proofs.acts.Envs.{owned_put, part_type}
use Rattle.law_plain_values.proofs.acts.OwnPaths.{own_part, slots_put, swapped_types}
use Rattle.law_plain_values.proofs.drops.Carrier.{Carries, carrier_tree, carrier_free}
use Rattle.law_plain_values.proofs.drops.Parts.{shape_part, shape_owns, found_under, owned_kept}

module _ {y : Typing} {a : PlainState Position} {t : ℕ} {r : Running Position} {e : Env} {us : List Kind} {g : Owned} {u : ℕ} {x : Owned} {v : Plain} (at : At y a t r e us g) (fc : Focus y a t e us None) (k : Carries y a u (whole (own x)) v) (differ : t ≢ u) (w : Lval) (p : Piece) (lt : w.slot < length e)
    (is : type_at e w ≡ found p) (shape : piece_shape (shape_at e) p ≡ Some (owned_shape x)) (free : write_blocked e w.slot ≡ false) (mine : is_own_path e w ≡ true) where
  -- the variable, and the new value
  pub variable_free : Unnamed y.exact (slot_k t w.slot)
  variable_free = unnamed_key (slot_k t) y.rank (hand_at t us) e y.exact (store y a) None fc.keys fc.thread w.slot free (λ m z q. absurd (no_temp y.exact (hand_at t us) m z fc.thread.temp q))

  carried : y.exact (slot_k u 0) ≡ owns (tree_of x)
  carried = let f = carrier_tree k in f.1 ∙ ap owns f.2

  apart : slot_k u 0 ≢ slot_k t w.slot
  apart z = let f : t ≡ u = cc in differ f

  -- what stood in the place, in the tree of the variable
  pub stood : (old : Tree) × TreeOf p old × (tree : Tree) × (y.exact (slot_k t w.slot) ≡ owns tree) × (tree_under w.depth tree ≡ Some old)
  stood =
      let c = resolved (slot_k t) y.exact (mut_place y.rank y.exact (store y a) fc.thread.typed) e fc.thread.nested fc.thread.slots w p lt is in
      let o = shape_owns (slot_k t) y.exact (shape_at e) p x c.type shape c.exact in
      let b = own_part (slot_k t) y.exact e w false c.base c.boxes o.0 fc.thread.slots lt mine (subst (Resolves y.exact false (slot_k t w.slot) w.depth c.base c.boxes) o.1 c.res) in
      (o.0, o.2, b.0, b.1, b.2)

  module _ (old : Tree) (part : TreeOf p old) (tree : Tree) (full : y.exact (slot_k t w.slot) ≡ owns tree) (under : tree_under w.depth tree ≡ Some old) where
    pub place : PlaceFound y.exact (store y a) (place_of (slot_k t) w) (slot_k t w.slot) w.depth (owns old)
    place = found_place y.rank y.exact (store y a) false (place_of (slot_k t) w) (slot_k t w.slot) w.depth (owns old) fc.thread.typed (here (ap (exact_under w.depth) full ∙ ap some_owns under))

    abbrev E1 : KeyTypes
    E1 = with_type y.exact (slot_k t w.slot) (owns (put_tree w.depth (tree_of x) tree))

    pub placed_typed : Typed y.rank (swapped_types y.exact (slot_k u 0) (slot_k t w.slot) w.depth (tree_of x) tree old) (swap (store y a) (slot_k u 0) place.loc)
    placed_typed = swap_own y.rank y.exact (store y a) (slot_k u 0) (slot_k t w.slot) w.depth (tree_of x) tree old place.loc fc.thread.typed (carrier_free k) apart carried variable_free full under place.at

    pub placed_full : swapped_types y.exact (slot_k u 0) (slot_k t w.slot) w.depth (tree_of x) tree old (slot_k u 0) ≡ owns old
    placed_full = key_same (slot_k u 0) (owns old) (E1 (slot_k u 0))

    pub placed_off : (j : Key) → j ≢ slot_k u 0 → ((i : ℕ) → j ≢ slot_k t i) → swapped_types y.exact (slot_k u 0) (slot_k t w.slot) w.depth (tree_of x) tree old j ≡ y.exact j
    placed_off j nh ns = key_other j (slot_k u 0) (owns old) (E1 j) nh ∙ key_other j (slot_k t w.slot) (owns (put_tree w.depth (tree_of x) tree)) (y.exact j) (ns w.slot)

    pub placed_nested : IsNested (put_at e w (whole (own x)))
    placed_nested = nested_put e w (whole (own x)) tt fc.thread.nested

    pub placed_below : SlotsBelow (slot_k t) (swapped_types y.exact (slot_k u 0) (slot_k t w.slot) w.depth (tree_of x) tree old) (put_at e w (whole (own x)))
    placed_below =
        slots_with (slot_k t) E1 (slot_k u 0) (owns old) (put_at e w (whole (own x))) (unnamed_with y.exact (slot_k t w.slot) (put_tree w.depth (tree_of x) tree) (slot_k u 0) (carrier_free k)) (λ i l z. let f : t ≡ u = cc in differ f)
        (slots_put (slot_k t) y.exact e w (whole (own x)) (tree_of x) tree old fc.keys.differ fc.thread.slots variable_free full under refl)

    pub placed_above : (i : ℕ) → length (put_at e w (whole (own x))) ≤ i → swapped_types y.exact (slot_k u 0) (slot_k t w.slot) w.depth (tree_of x) tree old (slot_k t i) ≡ owns hole
    placed_above i le =
        let long = length_put e w (whole (own x)) in
        key_other (slot_k t i) (slot_k u 0) (owns old) (E1 (slot_k t i)) (λ z. let f : t ≡ u = cc in differ f) ∙ key_other (slot_k t i) (slot_k t w.slot) (owns (put_tree w.depth (tree_of x) tree)) (y.exact (slot_k t i)) (λ z. let f : i ≡ w.slot = cc in omega (arith, f, le, long, lt)) ∙ fc.thread.above i (omega (arith, le, long))

    pub placed_parts : (i : ℕ) → owned_in (part_at (put_at e w (whole (own x))) i) ≡ owned_in (part_at e i)
    placed_parts = owned_put e w (whole (own x)) (λ s q. owned_kept w.depth (whole (own x)) s.part p x (found_under e w.slot w.depth s.part p fc.thread.nested lt (part_type e w.slot s q) is (not_true mine)) (shape_part (shape_at e) p x shape) refl)
      where
        not_true : {b : Bool} → not b ≡ true → b ≡ false
        not_true {b = true} h = cc
        not_true {b = false} h = refl

    pub placed_away : (n i : ℕ) (m : MutexNo) (z : Running Position) → place_in (a.thread n) ≡ Some z → slot_at z.slots i ≡ Some (Held m) → y.marks n i ≢ place.loc
    placed_away n i m z runs mark = mark_off_owned y a n i m z (slot_k t w.slot) tree old w.depth place.loc at.state runs mark variable_free full under place.chain
