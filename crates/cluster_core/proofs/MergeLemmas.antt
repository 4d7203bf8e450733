-- Adding those who wait one by one is merging.
use Rattle.std.proofs.Common.{◌≡◌, ℕ, zero, suc, ◌+◌, ◌-◌, ◌<◌, ◌≤◌, Bool, true, false, not, if◌then◌else◌, nat_lt, List, [], ◌∷◌, ◌++◌, length, drop, Option, Some, None, refl, sym, ap, subst, ◌∙◌, arith}
use Rattle.std.specs.Prelude.{slice_get}
use Rattle.std.proofs.lemmas.Bool.Decides.{nat_tests}
use Rattle.std.proofs.lemmas.List.{append_assoc}
use Rattle.fr_base.specs.declared.step.Wait.{Wait}
use Rattle.thread_state.specs.View.{ThreadState}
use Rattle.server_model.specs.Questions.{wait_of, add_wait, waits_among}
use Rattle.cluster_core.specs.Merging.{earlier}

-- each of them has that number or a later one
abbrev pub AllFrom : ℕ → List (ℕ × Wait) → Type 0
AllFrom n [] = Unit {0}
AllFrom n (x ∷ xs) = (n ≤ x.0) × AllFrom n xs

-- by rising number
abbrev pub IsSorted : List (ℕ × Wait) → Type 0
IsSorted [] = Unit {0}
IsSorted (x ∷ xs) = AllFrom x.0 xs × IsSorted xs

-- an earlier number will do
from_less : (m n : ℕ) (xs : List (ℕ × Wait)) → m ≤ n → AllFrom n xs → AllFrom m xs
from_less m n [] l a = tt
from_less m n (x ∷ xs) l a = (omega (arith, l, a.0), from_less m n xs l a.1)

-- one more that comes no earlier
added_from : (n t : ℕ) (w : Wait) (xs : List (ℕ × Wait)) → n ≤ t → AllFrom n xs → AllFrom n (add_wait t (Some w) xs)
added_from n t w [] l a = (l, tt)
added_from n t w (x ∷ xs) l a = by (nat_lt t x.0) (added_from n t w xs l a.1)
  where
    by : (b : Bool) → AllFrom n (add_wait t (Some w) xs) → AllFrom n (if b then (t, w) ∷ x ∷ xs else x ∷ add_wait t (Some w) xs)
    by true h = (l, a)
    by false h = (a.0, h)

-- one more is added in its place
added_sorted : (t : ℕ) (w : Wait) (xs : List (ℕ × Wait)) → IsSorted xs → IsSorted (add_wait t (Some w) xs)
added_sorted t w [] s = (tt, tt)
added_sorted t w (x ∷ xs) s = by (nat_lt t x.0) refl (added_sorted t w xs s.1)
  where
    by : (b : Bool) → nat_lt t x.0 ≡ b → IsSorted (add_wait t (Some w) xs) → IsSorted (if b then (t, w) ∷ x ∷ xs else x ∷ add_wait t (Some w) xs)
    by true e h = let l : t ≤ x.0 = grind (arith, nat_tests, e) in ((l, from_less t x.0 xs l s.0), s)
    by false e h = let l : x.0 ≤ t = grind (arith, nat_tests, e) in (added_from x.0 t w xs l s.0, h)

-- those who wait at a server stand by rising number
pub waits_sorted : (ts : List ThreadState) → IsSorted (waits_among ts [])
waits_sorted [] = tt
waits_sorted (t ∷ ts) = by (wait_of t.phase) (waits_sorted ts)
  where
    by : (o : Option Wait) → IsSorted (waits_among ts []) → IsSorted (add_wait t.number o (waits_among ts []))
    by None s = s
    by (Some w) s = added_sorted t.number w (waits_among ts []) s

-- one after another is added
abbrev pub add_each : List (ℕ × Wait) → List (ℕ × Wait) → List (ℕ × Wait)
add_each [] ys = ys
add_each (x ∷ xs) ys = add_each xs (add_wait x.0 (Some x.1) ys)

-- a number isn't before one that is no later
not_before : (t n : ℕ) → n ≤ t → nat_lt t n ≡ false
not_before t n l = grind (arith, nat_tests, l)

-- it is before a later one
is_before : (t n : ℕ) → t < n → nat_lt t n ≡ true
is_before t n l = grind (arith, nat_tests, l)

-- two that differ may be added in either order
either_order : (t x : ℕ) (w u : Wait) (ys : List (ℕ × Wait)) → t < x → add_wait x (Some u) (add_wait t (Some w) ys) ≡ add_wait t (Some w) (add_wait x (Some u) ys)
either_order t x w u [] l =
    ap (λ b. if b then (x, u) ∷ (t, w) ∷ [] else (t, w) ∷ (x, u) ∷ []) (not_before x t (omega (arith, l)))
    ∙ sym (ap (λ b. if b then (t, w) ∷ (x, u) ∷ [] else (x, u) ∷ (t, w) ∷ []) (is_before t x l))
either_order t x w u (y ∷ ys) l = by (nat_lt t y.0) (nat_lt x y.0) refl refl (either_order t x w u ys l)
  where
    first : (b : Bool) → List (ℕ × Wait)
    first b = if b then (t, w) ∷ y ∷ ys else y ∷ add_wait t (Some w) ys

    second : (b : Bool) → List (ℕ × Wait)
    second b = if b then (x, u) ∷ y ∷ ys else y ∷ add_wait x (Some u) ys

    by : (a b : Bool) → nat_lt t y.0 ≡ a → nat_lt x y.0 ≡ b → add_wait x (Some u) (add_wait t (Some w) ys) ≡ add_wait t (Some w) (add_wait x (Some u) ys)
        → add_wait x (Some u) (first a) ≡ add_wait t (Some w) (second b)
    by true true e f h =
        ap (λ q. if q then (x, u) ∷ (t, w) ∷ y ∷ ys else (t, w) ∷ add_wait x (Some u) (y ∷ ys)) (not_before x t (omega (arith, l)))
        ∙ ap (λ q. (t, w) ∷ (if q then (x, u) ∷ y ∷ ys else y ∷ add_wait x (Some u) ys)) f
        ∙ sym (ap (λ q. if q then (t, w) ∷ (x, u) ∷ y ∷ ys else (x, u) ∷ add_wait t (Some w) (y ∷ ys)) (is_before t x l))
    by true false e f h =
        ap (λ q. if q then (x, u) ∷ (t, w) ∷ y ∷ ys else (t, w) ∷ add_wait x (Some u) (y ∷ ys)) (not_before x t (omega (arith, l)))
        ∙ ap (λ q. (t, w) ∷ (if q then (x, u) ∷ y ∷ ys else y ∷ add_wait x (Some u) ys)) f
        ∙ sym (ap (λ q. if q then (t, w) ∷ y ∷ add_wait x (Some u) ys else y ∷ add_wait t (Some w) (add_wait x (Some u) ys)) e)
    by false true e f h =
        let low : y.0 ≤ t = grind (arith, nat_tests, e) in
        let high : x < y.0 = grind (arith, nat_tests, f) in
        absurd (omega (arith, low, high, l))
    by false false e f h =
        ap (λ q. if q then (x, u) ∷ y ∷ add_wait t (Some w) ys else y ∷ add_wait x (Some u) (add_wait t (Some w) ys)) f
        ∙ ap (λ l. y ∷ l) h
        ∙ sym (ap (λ q. if q then (t, w) ∷ y ∷ add_wait x (Some u) ys else y ∷ add_wait t (Some w) (add_wait x (Some u) ys)) e)

-- one that comes before all others may be added last
before_all : (t : ℕ) (w : Wait) (xs ys : List (ℕ × Wait)) → AllFrom (suc t) xs → add_each xs (add_wait t (Some w) ys) ≡ add_wait t (Some w) (add_each xs ys)
before_all t w [] ys a = refl
before_all t w (x ∷ xs) ys a = ap (add_each xs) (either_order t x.0 w x.1 ys (omega (arith, a.0))) ∙ before_all t w xs (add_wait x.0 (Some x.1) ys) a.1

-- one more of those that are added is added last
added_last : (t : ℕ) (w : Wait) (xs ys : List (ℕ × Wait)) → IsSorted xs → add_each (add_wait t (Some w) xs) ys ≡ add_wait t (Some w) (add_each xs ys)
added_last t w [] ys s = refl
added_last t w (x ∷ xs) ys s = by (nat_lt t x.0) refl (added_last t w xs (add_wait x.0 (Some x.1) ys) s.1)
  where
    by : (b : Bool) → nat_lt t x.0 ≡ b → add_each (add_wait t (Some w) xs) (add_wait x.0 (Some x.1) ys) ≡ add_wait t (Some w) (add_each xs (add_wait x.0 (Some x.1) ys))
        → add_each (if b then (t, w) ∷ x ∷ xs else x ∷ add_wait t (Some w) xs) ys ≡ add_wait t (Some w) (add_each (x ∷ xs) ys)
    by true e h = let l : suc t ≤ x.0 = grind (arith, nat_tests, e) in before_all t w (x ∷ xs) ys (l, from_less (suc t) x.0 xs l s.0)
    by false e h = h

-- those who wait at a server among others: one by one from the first on
pub waits_added : (ts : List ThreadState) (ys : List (ℕ × Wait)) → add_each (waits_among ts []) ys ≡ waits_among ts ys
waits_added [] ys = refl
waits_added (t ∷ ts) ys = by (wait_of t.phase) (waits_added ts ys)
  where
    by : (o : Option Wait) → add_each (waits_among ts []) ys ≡ waits_among ts ys → add_each (add_wait t.number o (waits_among ts [])) ys ≡ add_wait t.number o (waits_among ts ys)
    by None e = e
    by (Some w) e = added_last t.number w (waits_among ts []) ys (waits_sorted ts) ∙ ap (add_wait t.number (Some w)) e

-- MERGING

-- one that comes first stays first
stays_first : (z : ℕ × Wait) (xs ys : List (ℕ × Wait)) → AllFrom z.0 xs → add_each xs (z ∷ ys) ≡ z ∷ add_each xs ys
stays_first z [] ys a = refl
stays_first z (x ∷ xs) ys a =
    ap (λ b. add_each xs (if b then (x.0, x.1) ∷ z ∷ ys else z ∷ add_wait x.0 (Some x.1) ys)) (not_before x.0 z.0 a.0) ∙ stays_first z xs (add_wait x.0 (Some x.1) ys) a.1

-- what is left stands by rising number
sorted_drop : (i : ℕ) (xs : List (ℕ × Wait)) → IsSorted xs → IsSorted (drop i xs)
sorted_drop zero [] s = s
sorted_drop zero (x ∷ xs) s = s
sorted_drop (suc i) [] s = s
sorted_drop (suc i) (x ∷ xs) s = sorted_drop i xs s.1

-- what is left begins with what stands there
drop_at : (i : ℕ) (xs : List (ℕ × Wait)) (x : ℕ × Wait) → slice_get xs i ≡ Some x → drop i xs ≡ x ∷ drop (suc i) xs
drop_at i [] x e = absurd (cc e)
drop_at zero (y ∷ []) x e = let same : y ≡ x = cc in ap (λ z. z ∷ []) same
drop_at zero (y ∷ z ∷ xs) x e = let same : y ≡ x = cc in ap (λ q. q ∷ z ∷ xs) same
drop_at (suc i) (y ∷ xs) x e = drop_at i xs x e

-- past the end nothing is left
drop_past : (i : ℕ) (xs : List (ℕ × Wait)) → slice_get xs i ≡ None → drop i xs ≡ []
drop_past zero [] e = refl
drop_past (suc i) [] e = refl
drop_past zero (y ∷ xs) e = absurd (cc e)
drop_past (suc i) (y ∷ xs) e = drop_past i xs e

-- what stands there is within the list
inside : (i : ℕ) (xs : List (ℕ × Wait)) (x : ℕ × Wait) → slice_get xs i ≡ Some x → i < length xs
inside i [] x e = absurd (cc e)
inside zero (y ∷ xs) x e = omega arith
inside (suc i) (y ∷ xs) x e = let l = inside i xs x e in omega (arith, l)

-- the parts of what is picked
abbrev flag_of : Option (Bool × ℕ × Wait) → Bool
flag_of None = false
flag_of (Some p) = p.0

abbrev number_of : Option (Bool × ℕ × Wait) → ℕ
number_of None = 0
number_of (Some p) = p.1

abbrev wait_in : Wait → Option (Bool × ℕ × Wait) → Wait
wait_in u None = u
wait_in u (Some p) = p.2

-- what the earlier of two heads leaves to be merged, and that fewer are left
pub record Picks (xs ys : List (ℕ × Wait)) (i j : ℕ) (own : Bool) (t : ℕ) (w : Wait) : Type 0 where
  pub merges : add_each (drop i xs) (drop j ys) ≡ (t, w) ∷ add_each (drop (i + (if own then 1 else 0)) xs) (drop (j + (if not own then 1 else 0)) ys)
  pub fewer : (length xs - (i + (if own then 1 else 0))) + (length ys - (j + (if not own then 1 else 0))) < (length xs - i) + (length ys - j)

pub picked : (xs ys : List (ℕ × Wait)) (i j : ℕ) (own : Bool) (t : ℕ) (w : Wait) → IsSorted xs → earlier (slice_get xs i) (slice_get ys j) ≡ Some (own, t, w) → Picks xs ys i j own t w
picked xs ys i j own t w s e = by (slice_get xs i) (slice_get ys j) refl refl e
  where
    own_first : (x : ℕ × Wait) → slice_get xs i ≡ Some x → add_wait x.0 (Some x.1) (drop j ys) ≡ x ∷ drop j ys → Picks xs ys i j true x.0 x.1
    own_first x f h =
        let next : suc i ≡ i + 1 = omega arith in
        let stay : j ≡ j + 0 = omega arith in
        let split = drop_at i xs x f in
        let sorted : IsSorted (x ∷ drop (suc i) xs) = subst IsSorted split (sorted_drop i xs s) in
        let l = inside i xs x f in record {
          merges = ap (λ l. add_each l (drop j ys)) split ∙ ap (add_each (drop (suc i) xs)) h ∙ stays_first x (drop (suc i) xs) (drop j ys) sorted.0
              ∙ ap (λ k. x ∷ add_each (drop k xs) (drop j ys)) next ∙ ap (λ k. x ∷ add_each (drop (i + 1) xs) (drop k ys)) stay;
          fewer = omega (arith, l);
        }

    other_first : (y : ℕ × Wait) → slice_get ys j ≡ Some y → AllFrom y.0 (drop i xs) → Picks xs ys i j false y.0 y.1
    other_first y f a =
        let next : suc j ≡ j + 1 = omega arith in
        let stay : i ≡ i + 0 = omega arith in
        let l = inside j ys y f in record {
          merges = ap (add_each (drop i xs)) (drop_at j ys y f) ∙ stays_first y (drop i xs) (drop (suc j) ys) a
              ∙ ap (λ k. y ∷ add_each (drop i xs) (drop k ys)) next ∙ ap (λ k. y ∷ add_each (drop k xs) (drop (j + 1) ys)) stay;
          fewer = omega (arith, l);
        }

    same_pick : (b : Bool) (n : ℕ) (u : Wait) → ◌≡◌ {A = Option (Bool × ℕ × Wait)} (Some (b, n, u)) (Some (own, t, w)) → Picks xs ys i j b n u → Picks xs ys i j own t w
    same_pick b n u q k =
        let one : b ≡ own = ap (λ o. flag_of o) q in
        let two : n ≡ t = ap (λ o. number_of o) q in
        let three : u ≡ w = ap (λ o. wait_in u o) q in
        subst (λ z. Picks xs ys i j own t z) three (subst (λ z. Picks xs ys i j own z u) two (subst (λ z. Picks xs ys i j z n u) one k))

    either : (x y : ℕ × Wait) → slice_get xs i ≡ Some x → slice_get ys j ≡ Some y → (b : Bool) → nat_lt x.0 y.0 ≡ b → (if◌then◌else◌ {A = Option (Bool × ℕ × Wait)} b (Some (true, x.0, x.1)) (Some (false, y.0, y.1))) ≡ Some (own, t, w) → Picks xs ys i j own t w
    either x y f g true e q =
        let split = drop_at j ys y g in
        let front : add_wait x.0 (Some x.1) (drop j ys) ≡ x ∷ drop j ys =
        ap (add_wait x.0 (Some x.1)) split ∙ ap (λ b. if b then (x.0, x.1) ∷ y ∷ drop (suc j) ys else y ∷ add_wait x.0 (Some x.1) (drop (suc j) ys)) e ∙ ap (λ l. x ∷ l) (sym split) in
        same_pick true x.0 x.1 q (own_first x f front)
    either x y f g false e q =
        let split = drop_at i xs x f in
        let l : y.0 ≤ x.0 = grind (arith, nat_tests, e) in
        let sorted : IsSorted (x ∷ drop (suc i) xs) = subst IsSorted split (sorted_drop i xs s) in
        let all : AllFrom y.0 (x ∷ drop (suc i) xs) = (l, from_less y.0 x.0 (drop (suc i) xs) l sorted.0) in
        same_pick false y.0 y.1 q (other_first y g (subst (AllFrom y.0) (sym split) all))

    by : (o p : Option (ℕ × Wait)) → slice_get xs i ≡ o → slice_get ys j ≡ p → earlier o p ≡ Some (own, t, w) → Picks xs ys i j own t w
    by None None f g q = absurd (cc q)
    by (Some x) None f g q = same_pick true x.0 x.1 q (own_first x f (ap (add_wait x.0 (Some x.1)) (drop_past j ys g) ∙ ap (λ l. x ∷ l) (sym (drop_past j ys g))))
    by None (Some y) f g q = same_pick false y.0 y.1 q (other_first y g (subst (AllFrom y.0) (sym (drop_past i xs f)) tt))
    by (Some x) (Some y) f g q = either x y f g (nat_lt x.0 y.0) refl q

-- one of two that are there is picked
some_picked : (b : Bool) (x y : ℕ × Wait) (P : Type 0) → (if◌then◌else◌ {A = Option (Bool × ℕ × Wait)} b (Some (true, x.0, x.1)) (Some (false, y.0, y.1))) ≡ None → P
some_picked true x y P q = absurd (cc q)
some_picked false x y P q = absurd (cc q)

-- where neither has one, nothing is left
pub none_left : (xs ys : List (ℕ × Wait)) (i j : ℕ) → earlier (slice_get xs i) (slice_get ys j) ≡ None → add_each (drop i xs) (drop j ys) ≡ []
none_left xs ys i j e = by (slice_get xs i) (slice_get ys j) refl refl e
  where
    by : (o p : Option (ℕ × Wait)) → slice_get xs i ≡ o → slice_get ys j ≡ p → earlier o p ≡ None → add_each (drop i xs) (drop j ys) ≡ []
    by None None f g q = ap (λ l. add_each l (drop j ys)) (drop_past i xs f) ∙ drop_past j ys g
    by (Some x) None f g q = absurd (cc q)
    by None (Some y) f g q = absurd (cc q)
    by (Some x) (Some y) f g q = some_picked (nat_lt x.0 y.0) x y (add_each (drop i xs) (drop j ys) ≡ []) q

-- nothing was passed yet
pub whole : (xs ys : List (ℕ × Wait)) → add_each (drop 0 xs) (drop 0 ys) ≡ add_each xs ys
whole [] [] = refl
whole [] (y ∷ ys) = refl
whole (x ∷ xs) [] = refl
whole (x ∷ xs) (y ∷ ys) = refl

-- one more is in front
pub goes_on : (xs ys front : List (ℕ × Wait)) (i j m n : ℕ) (own : Bool) (t : ℕ) (w : Wait) (all : List (ℕ × Wait)) → Picks xs ys i j own t w → front ++ add_each (drop i xs) (drop j ys) ≡ all → m ≡ i + (if own then 1 else 0) → n ≡ j + (if not own then 1 else 0)
    → (front ++ (t, w) ∷ []) ++ add_each (drop m xs) (drop n ys) ≡ all
goes_on xs ys front i j m n own t w all k e f g =
    append_assoc front ((t, w) ∷ []) (add_each (drop m xs) (drop n ys))
    ∙ ap (λ a. front ++ (t, w) ∷ add_each (drop a xs) (drop n ys)) f
    ∙ ap (λ a. front ++ (t, w) ∷ add_each (drop (i + (if own then 1 else 0)) xs) (drop a ys)) g
    ∙ ap (λ l. front ++ l) (sym k.merges)
    ∙ e
