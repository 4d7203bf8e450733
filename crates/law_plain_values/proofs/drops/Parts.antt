-- The part so many boxes under a variable's part: what a place over boxes alone finds, and that a write there keeps the type that the variable was of.
use Rattle.std.proofs.Common.{◌≡◌, ◌∙◌, ℕ, zero, suc, ◌<◌, length, true, false, Option, Some, None, refl, sym, ap}
use Rattle.std.specs.Prelude.{◌||◌}
use Rattle.fr_base.specs.declared.place.Lval.{Lval}
use Rattle.fr_typing.specs.Kinds.{map_some, Owned, unit, int, box, mutex, task, own, shared, mutable, view, Piece, whole, gone, boxed, same_owned, SetTest}
use Rattle.fr_typing.specs.Places.{Shape, owned_shape, shared_to, mutable_to, same_owned_shape, first_shape, piece_shape, equal_shapes, Found, found, undefined, no_target, type_at, then_found, star, on_path, is_lent, is_mutable, Env, IsNested, put_under}
use Rattle.fr_typing.proofs.PlaceLemmas.{type_at-star}
use Rattle.fr_store.specs.Typed.{Exact, owns, refers, KeyTypes}
use Rattle.fr_store.specs.Below.{TreeOf, ExactOf, RefOf}
use Rattle.fr_store.specs.Typed.{Tree}
use Rattle.fr_store.specs.Keys.{Key}
use Rattle.fr_store.proofs.Below.{or_false}
use Rattle.fr_sound.specs.States.{owned_part}
use Rattle.law_plain_values.proofs.acts.Envs.{owned_box}

-- SHAPES

same_owned_is : (a b : Owned) → same_owned a b ≡ true → a ≡ b
same_owned_is unit unit h = refl
same_owned_is int int h = refl
same_owned_is (box a) (box b) h = ap box (same_owned_is a b h)
same_owned_is (mutex a) (mutex b) h = ap mutex (same_owned_is a b h)
same_owned_is (task a) (task b) h = ap task (same_owned_is a b h)
same_owned_is _ _ h = cc

-- only an owned shape has the shape of an owned type
pub shape_is : (a : Option Shape) (x : Owned) → equal_shapes a (Some (owned_shape x)) ≡ true → a ≡ Some (owned_shape x)
shape_is None x h = cc
shape_is (Some (owned_shape y)) x h = ap (λ z. Some (owned_shape z)) (same_owned_is y x h)
shape_is (Some (shared_to y)) x h = cc
shape_is (Some (mutable_to y)) x h = cc

-- a part of an owned type's shape is of that type
pub shape_part : (look : Lval → Option Shape) (p : Piece) (x : Owned) → piece_shape look p ≡ Some (owned_shape x) → owned_part p ≡ Some x
shape_part look (whole (own o)) x e = let f : o ≡ x = cc in ap Some f
shape_part look (whole (shared us)) x e = by (first_shape look us) e
  where
    by : (f : Option Shape) → map_some shared_to f ≡ Some (owned_shape x) → None ≡ Some x
    by None e = cc
    by (Some y) e = cc
shape_part look (whole (mutable us)) x e = by (first_shape look us) e
  where
    by : (f : Option Shape) → map_some mutable_to f ≡ Some (owned_shape x) → None ≡ Some x
    by None e = cc
    by (Some y) e = cc
shape_part look (whole (view o)) x e = cc
shape_part look (gone (own o)) x e = let f : o ≡ x = cc in ap Some f
shape_part look (gone (shared us)) x e = by (first_shape look us) e
  where
    by : (f : Option Shape) → map_some shared_to f ≡ Some (owned_shape x) → None ≡ Some x
    by None e = cc
    by (Some y) e = cc
shape_part look (gone (mutable us)) x e = by (first_shape look us) e
  where
    by : (f : Option Shape) → map_some mutable_to f ≡ Some (owned_shape x) → None ≡ Some x
    by None e = cc
    by (Some y) e = cc
shape_part look (gone (view o)) x e = cc
shape_part look (boxed p) x e = by (piece_shape look p) e (λ o f. shape_part look p o f)
  where
    by : (f : Option Shape) → same_owned_shape f ≡ Some (owned_shape x) → ((o : Owned) → f ≡ Some (owned_shape o) → owned_part p ≡ Some o) → map_some box (owned_part p) ≡ Some x
    by None e ih = cc
    by (Some (owned_shape o)) e ih = let f : box o ≡ x = cc in ap (map_some box) (ih o refl) ∙ ap Some f
    by (Some (shared_to o)) e ih = cc
    by (Some (mutable_to o)) e ih = cc

-- so it is no reference: its exact type owns
pub shape_owns : (key : ℕ → Key) (E : KeyTypes) (look : Lval → Option Shape) (p : Piece) (x : Owned) (q : Exact) → piece_shape look p ≡ Some (owned_shape x) → ExactOf key E p q → (t : Tree) × (q ≡ owns t) × TreeOf p t
shape_owns key E look p x (owns t) e h = (t, refl, h)
shape_owns key E look p x (refers m u) e h = absurd (no_ref p (shape_part look p x e) h)
  where
    no_ref : (p : Piece) → owned_part p ≡ Some x → RefOf key E p m u → ⊥
    no_ref (whole (own o)) e h = h
    no_ref (whole (shared us)) e h = cc
    no_ref (whole (mutable us)) e h = cc
    no_ref (whole (view o)) e h = cc
    no_ref (gone k) e h = h
    no_ref (boxed p) e h = h

-- UNDER BOXES

-- the part so many boxes under a part
abbrev under : ℕ → Piece → Option Piece
under zero q = Some q
under (suc n) (whole (own (box o))) = under n (whole (own o))
under (suc n) (boxed p) = under n p
under (suc n) p = None

under_next : (n : ℕ) (q p : Piece) → under n q ≡ Some p → under (suc n) q ≡ under (suc zero) p
under_next zero q p e = let f : q ≡ p = cc in ap (under (suc zero)) f
under_next (suc n) (whole (own (box o))) p e = under_next n (whole (own o)) p e
under_next (suc n) (boxed r) p e = under_next n r p e
under_next (suc n) (whole (own unit)) p e = cc
under_next (suc n) (whole (own int)) p e = cc
under_next (suc n) (whole (own (mutex o))) p e = cc
under_next (suc n) (whole (own (task o))) p e = cc
under_next (suc n) (whole (shared us)) p e = cc
under_next (suc n) (whole (mutable us)) p e = cc
under_next (suc n) (whole (view o)) p e = cc
under_next (suc n) (gone k) p e = cc

-- a star on what is no reference goes under a box
one_star : (same : SetTest) (look : Lval → Found) (q p : Piece) → star same look q ≡ found p → (is_lent (found q) || is_mutable (found q)) ≡ false → under (suc zero) q ≡ Some p
one_star same look (whole (own (box o))) p e h = let f : whole (own o) ≡ p = cc in ap Some f
one_star same look (boxed r) p e h = let f : r ≡ p = cc in ap Some f
one_star same look (whole (own unit)) p e h = cc
one_star same look (whole (own int)) p e h = cc
one_star same look (whole (own (mutex o))) p e h = cc
one_star same look (whole (own (task o))) p e h = cc
one_star same look (whole (shared us)) p e h = cc
one_star same look (whole (mutable us)) p e h = cc
one_star same look (whole (view o)) p e h = cc
one_star same look (gone k) p e h = cc

-- a place over boxes alone finds the part under its variable's boxes
pub found_under : (e : Env) (x n : ℕ) (q p : Piece) → IsNested e → x < length e → type_at e (record { slot = x; depth = 0 }) ≡ found q → type_at e (record { slot = x; depth = n }) ≡ found p → on_path (λ f. is_lent f || is_mutable f) e x n ≡ false → under n q ≡ Some p
found_under e x zero q p nested lt first is clear = let f : found q ≡ found p = sym first ∙ is in let g : q ≡ p = cc in ap Some g
found_under e x (suc n) q p nested lt first is clear =
    let o = or_false (on_path (λ f. is_lent f || is_mutable f) e x n) (is_lent (type_at e (record { slot = x; depth = n })) || is_mutable (type_at e (record { slot = x; depth = n }))) clear in
    by _ _ (type_at e (record { slot = x; depth = n })) refl (sym (type_at-star e x n nested lt) ∙ is) o.1 (λ r f. found_under e x n q r nested lt first f o.0)
  where
    by : (same : SetTest) (look : Lval → Found) (f : Found) → type_at e (record { slot = x; depth = n }) ≡ f → then_found f (star same look) ≡ found p → (is_lent f || is_mutable f) ≡ false → ((r : Piece) → type_at e (record { slot = x; depth = n }) ≡ found r → under n q ≡ Some r) → under (suc n) q ≡ Some p
    by same look (found r) g s h ih = under_next n q r (ih r g) ∙ one_star same look r p s h
    by same look undefined g s h ih = cc
    by same look no_target g s h ih = cc

-- where a part of the type of what stood there is put under it, a part is of the type that it was of
pub owned_kept : (n : ℕ) (new q p : Piece) (o : Owned) → under n q ≡ Some p → owned_part p ≡ Some o → owned_part new ≡ Some o → owned_part (put_under n new q) ≡ owned_part q
owned_kept zero new q p o e f g = let h : q ≡ p = cc in g ∙ sym f ∙ ap owned_part (sym h)
owned_kept (suc n) new (whole (own (box a))) p o e f g = owned_box (put_under n new (whole (own a))) ∙ ap (map_some box) (owned_kept n new (whole (own a)) p o e f g)
owned_kept (suc n) new (boxed r) p o e f g = owned_box (put_under n new r) ∙ ap (map_some box) (owned_kept n new r p o e f g)
owned_kept (suc n) new (whole (own unit)) p o e f g = cc
owned_kept (suc n) new (whole (own int)) p o e f g = cc
owned_kept (suc n) new (whole (own (mutex a))) p o e f g = cc
owned_kept (suc n) new (whole (own (task a))) p o e f g = cc
owned_kept (suc n) new (whole (shared us)) p o e f g = cc
owned_kept (suc n) new (whole (mutable us)) p o e f g = cc
owned_kept (suc n) new (whole (view a)) p o e f g = cc
owned_kept (suc n) new (gone k) p o e f g = cc
