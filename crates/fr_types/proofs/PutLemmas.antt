-- A part with another one under so many stars: as the code goes down it, and as places say it.
use Rattle.std.proofs.Common.{◌≡◌, ℕ, zero, suc, ◌-◌, Bool, false, refl, ap, ◌∙◌, arith}
use Rattle.std.specs.Prelude.{◌==◌, if◌then◌else◌}
use Rattle.std.proofs.lemmas.Bool.Decides.{nat_tests}
use Rattle.fr_typing.specs.Kinds.{Owned, unit, int, box, mutex, task, own, shared, mutable, view, Piece, whole, gone, boxed, box_of}
use Rattle.fr_typing.specs.Places.{put_under, piece_places, AreBelow}
use Rattle.fr_types.specs.Parts.{put_owned, put_part}

suc_zero : (n : ℕ) → (suc n == 0) ≡ false
suc_zero n = grind (arith, nat_tests)

-- above zero a test for zero gives the other value
over_suc : {A : Type 0} (n : ℕ) (x y : A) → (if suc n == 0 then x else y) ≡ y
over_suc n x y = ap (λ (b : Bool). if b then x else y) (suc_zero n)

less_one : (n : ℕ) → suc n - 1 ≡ n
less_one n = omega arith

put_owned-under : (n : ℕ) (new : Piece) (o : Owned) → put_owned n new o ≡ put_under n new (whole (own o))
put_owned-under zero new unit = refl
put_owned-under zero new int = refl
put_owned-under zero new (box o) = refl
put_owned-under zero new (mutex o) = refl
put_owned-under zero new (task o) = refl
put_owned-under (suc n) new unit = over_suc n new (whole (own unit))
put_owned-under (suc n) new int = over_suc n new (whole (own int))
put_owned-under (suc n) new (box o) = over_suc n new (box_of (put_owned (suc n - 1) new o)) ∙ ap box_of (ap (λ m. put_owned m new o) (less_one n) ∙ put_owned-under n new o)
put_owned-under (suc n) new (mutex o) = over_suc n new (whole (own (mutex o)))
put_owned-under (suc n) new (task o) = over_suc n new (whole (own (task o)))

-- without a star the type itself is replaced
pub put_owned_zero : (n : ℕ) (new : Piece) (o : Owned) → n ≡ 0 → put_owned n new o ≡ new
put_owned_zero n new unit e = simp e
put_owned_zero n new int e = simp e
put_owned_zero n new (box o) e = simp e
put_owned_zero n new (mutex o) e = simp e
put_owned_zero n new (task o) e = simp e

-- without a star the part itself is replaced
pub put_part_zero : (n : ℕ) (new p : Piece) → n ≡ 0 → put_part n new p ≡ new
put_part_zero n new (whole (own o)) e = put_owned_zero n new o e
put_part_zero n new (whole (shared us)) e = simp e
put_part_zero n new (whole (mutable us)) e = simp e
put_part_zero n new (whole (view o)) e = simp e
put_part_zero n new (gone k) e = simp e
put_part_zero n new (boxed p) e = simp e

-- the code's way down is the definition's
pub put_part-under : (n : ℕ) (new p : Piece) → put_part n new p ≡ put_under n new p
put_part-under n new (whole (own o)) = put_owned-under n new o
put_part-under zero new (whole (shared us)) = refl
put_part-under zero new (whole (mutable us)) = refl
put_part-under zero new (whole (view o)) = refl
put_part-under zero new (gone k) = refl
put_part-under zero new (boxed p) = refl
put_part-under (suc n) new (whole (shared us)) = over_suc n new (whole (shared us))
put_part-under (suc n) new (whole (mutable us)) = over_suc n new (whole (mutable us))
put_part-under (suc n) new (whole (view o)) = over_suc n new (whole (view o))
put_part-under (suc n) new (gone k) = over_suc n new (gone k)
put_part-under (suc n) new (boxed p) = over_suc n new (box_of (put_part (suc n - 1) new p)) ∙ ap box_of (ap (λ m. put_part m new p) (less_one n) ∙ put_part-under n new p)

box_of_below : (n : ℕ) (p : Piece) → AreBelow n (piece_places p) → AreBelow n (piece_places (box_of p))
box_of_below n (whole (own o)) h = tt
box_of_below n (whole (shared us)) h = h
box_of_below n (whole (mutable us)) h = h
box_of_below n (whole (view o)) h = h
box_of_below n (gone k) h = h
box_of_below n (boxed p) h = h

owned_below : (m n : ℕ) (new : Piece) (o : Owned) → AreBelow m (piece_places new) → AreBelow m (piece_places (put_under n new (whole (own o))))
owned_below m zero new o g = g
owned_below m (suc n) new unit g = tt
owned_below m (suc n) new int g = tt
owned_below m (suc n) new (box o) g = box_of_below m (put_under n new (whole (own o))) (owned_below m n new o g)
owned_below m (suc n) new (mutex o) g = tt
owned_below m (suc n) new (task o) g = tt

-- what is put into a part names what both name
pub put_under_below : (m n : ℕ) (new p : Piece) → AreBelow m (piece_places new) → AreBelow m (piece_places p) → AreBelow m (piece_places (put_under n new p))
put_under_below m zero new p g h = g
put_under_below m (suc n) new (boxed p) g h = box_of_below m (put_under n new p) (put_under_below m n new p g h)
put_under_below m (suc n) new (whole (own o)) g h = owned_below m (suc n) new o g
put_under_below m (suc n) new (whole (shared us)) g h = h
put_under_below m (suc n) new (whole (mutable us)) g h = h
put_under_below m (suc n) new (whole (view o)) g h = h
put_under_below m (suc n) new (gone k) g h = h
