-- Lists with the same items, in whatever order.
use Rattle.std.proofs.Common.{◌≡◌, ◌<◌, ℕ, zero, suc, arith, List, [], ◌∷◌, ◌++◌, length, Some, refl, sym, ap, subst, ◌∙◌, append-nil}
use Rattle.std.specs.Prelude.{slice_get, remove}
use Rattle.law_runs_rounds.specs.rounds.Order.{SameItems}

pub same_items : {X : Type 0} (xs : List X) → SameItems xs xs
same_items [] = refl
same_items (x ∷ xs) = (zero, refl, same_items xs)

pub nothing_first : {X : Type 0} (xs : List X) → SameItems xs [] → xs ≡ []
nothing_first [] s = refl
nothing_first (x ∷ xs) s = let h = s.1 in absurd (cc h)

-- each place below the length has an item
pub stands_there : {X : Type 0} (xs : List X) (i : ℕ) → i < length xs → (x : X) × (slice_get xs i ≡ Some x)
stands_there [] i l = absurd (omega (arith, l))
stands_there (x ∷ xs) zero l = (x, refl)
stands_there (x ∷ xs) (suc i) l = stands_there xs i (omega (arith, l))

-- TAKING OUT

-- of two items that are taken out one after the other, the second can be the first
record Swapped (X : Type 0) (ys : List X) (k j : ℕ) (x m : X) : Type 0 where
  pub at : ℕ
  pub next : ℕ
  pub item : slice_get ys at ≡ Some m
  pub other : slice_get (remove ys at) next ≡ Some x
  pub left : remove (remove ys at) next ≡ remove (remove ys k) j

swapped : {X : Type 0} (ys : List X) (k j : ℕ) (x m : X) → slice_get ys k ≡ Some x → slice_get (remove ys k) j ≡ Some m → Swapped X ys k j x m
swapped [] k j x m h g = absurd (cc h)
swapped (y ∷ ys) zero j x m h g = record { at = suc j; next = zero; item = g; other = h; left = refl }
swapped (y ∷ ys) (suc k) zero x m h g = record { at = zero; next = k; item = g; other = h; left = refl }
swapped (y ∷ ys) (suc k) (suc j) x m h g =
    let s = swapped ys k j x m h g in
    record { at = suc s.at; next = suc s.next; item = s.item; other = s.other; left = ap (λ l. y ∷ l) s.left }

-- an item of the first list is one of the second, and what is left of both has the same items
pub record Taken (X : Type 0) (xs ys : List X) (i : ℕ) (m : X) : Type 0 where
  pub at : ℕ
  pub item : slice_get ys at ≡ Some m
  pub rest : SameItems (remove xs i) (remove ys at)

pub taken : {X : Type 0} (xs ys : List X) (i : ℕ) (m : X) → SameItems xs ys → slice_get xs i ≡ Some m → Taken X xs ys i m
taken [] ys i m s h = absurd (cc h)
taken (x ∷ xs) ys zero m s h = let same : x ≡ m = cc in record { at = s.0; item = s.1 ∙ ap Some same; rest = s.2 }
taken (x ∷ xs) ys (suc i) m s h =
    let t = taken xs (remove ys s.0) i m s.2 h in
    let w = swapped ys s.0 t.at x m s.1 t.item in
    record { at = w.at; item = w.item; rest = (w.next, w.other, subst (SameItems (remove xs i)) (sym w.left) t.rest) }

-- PUTTING IN

-- what stands in the first part of a list
pub in_front : {X : Type 0} (ys zs : List X) (i : ℕ) (x : X) → slice_get ys i ≡ Some x → slice_get (ys ++ zs) i ≡ Some x
in_front [] zs i x h = absurd (cc h)
in_front (y ∷ ys) zs zero x h = h
in_front (y ∷ ys) zs (suc i) x h = in_front ys zs i x h

pub taken_in_front : {X : Type 0} (ys zs : List X) (i : ℕ) (x : X) → slice_get ys i ≡ Some x → remove (ys ++ zs) i ≡ remove ys i ++ zs
taken_in_front [] zs i x h = absurd (cc h)
taken_in_front (y ∷ ys) zs zero x h = refl
taken_in_front (y ∷ ys) zs (suc i) x h = ap (λ l. y ∷ l) (taken_in_front ys zs i x h)

-- more items come last in both
pub grown : {X : Type 0} (xs ys zs : List X) → SameItems xs ys → SameItems (xs ++ zs) (ys ++ zs)
grown [] ys zs s = subst (λ l. SameItems zs (l ++ zs)) (sym s) (same_items zs)
grown (x ∷ xs) ys zs s = (s.0, in_front ys zs s.0 x s.1, subst (SameItems (xs ++ zs)) (sym (taken_in_front ys zs s.0 x s.1)) (grown xs (remove ys s.0) zs s.2))

pub at_end : {X : Type 0} (ys zs : List X) (x : X) → slice_get (ys ++ x ∷ zs) (length ys) ≡ Some x
at_end [] zs x = refl
at_end (y ∷ ys) zs x = at_end ys zs x

taken_at_end : {X : Type 0} (ys zs : List X) (x : X) → remove (ys ++ x ∷ zs) (length ys) ≡ ys ++ zs
taken_at_end [] zs x = refl
taken_at_end (y ∷ ys) zs x = ap (λ l. y ∷ l) (taken_at_end ys zs x)

-- they come first in one, and last in the other
come_first : {X : Type 0} (ps bs ys : List X) → SameItems bs ys → SameItems (ps ++ bs) (ys ++ ps)
come_first [] bs ys s = subst (SameItems bs) (sym (append-nil ys)) s
come_first (p ∷ ps) bs ys s = (length ys, at_end ys ps p, subst (SameItems (ps ++ bs)) (sym (taken_at_end ys ps p)) (come_first ps bs ys s))

-- they come in between in one, and last in the other
pub come_between : {X : Type 0} (us bs ys ps : List X) → SameItems (us ++ bs) ys → SameItems ((us ++ ps) ++ bs) (ys ++ ps)
come_between [] bs ys ps s = come_first ps bs ys s
come_between (a ∷ us) bs ys ps s = (s.0, in_front ys ps s.0 a s.1, subst (SameItems ((us ++ ps) ++ bs)) (sym (taken_in_front ys ps s.0 a s.1)) (come_between us bs (remove ys s.0) ps s.2))
