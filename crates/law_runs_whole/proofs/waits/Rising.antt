-- Lists of what threads wait for, by rising thread: what stands under a number, what is put into one, and that two which have the same under each number are the same.
use Rattle.std.proofs.Common.{◌≡◌, ◌≢◌, ℕ, suc, ◌<◌, ◌≤◌, ◌==◌, nat_lt, Bool, true, false, if◌then◌else◌, List, [], ◌∷◌, Option, Some, None, refl, sym, ap, ap₂, subst, ◌∙◌, arith}
use Rattle.std.specs.Prelude.{⊤}
use Rattle.std.proofs.lemmas.Bool.Decides.{nat_tests}
use Rattle.law_runs_whole.proofs.Below.fr_typing.PlaceLemmas.{eq_cases}
use Rattle.law_runs_whole.specs.Below.fr_base.declared.step.Wait.{Wait}
use Rattle.law_runs_whole.specs.Below.server_model.Questions.{add_wait}

-- a choice by whether a number is below another one
lt_cases : (P : Bool → Type 0) (a b : ℕ) → (a < b → P true) → (b ≤ a → P false) → P (nat_lt a b)
lt_cases P a b below above = by (nat_lt a b) refl
  where
    by : (q : Bool) → nat_lt a b ≡ q → P q
    by true e = below (grind (arith, nat_tests, e))
    by false e = above (grind (arith, nat_tests, e))

-- what stands under a number
abbrev pub under : List (ℕ × Wait) → ℕ → Option Wait
under [] t = None
under (x ∷ xs) t = if x.0 == t then Some x.1 else under xs t

-- the numbers rise, from this one on
abbrev pub Rises : ℕ → List (ℕ × Wait) → Type 0
Rises n [] = ⊤
Rises n (x ∷ xs) = (n ≤ x.0) × Rises (suc x.0) xs

at_first : (x : ℕ × Wait) (xs : List (ℕ × Wait)) (t : ℕ) → x.0 ≡ t → under (x ∷ xs) t ≡ Some x.1
at_first x xs t e = eq_cases (λ b. (if b then Some x.1 else under xs t) ≡ Some x.1) x.0 t (λ f. refl) (λ ne. absurd (ne e))

past_first : (x : ℕ × Wait) (xs : List (ℕ × Wait)) (t : ℕ) → x.0 ≢ t → under (x ∷ xs) t ≡ under xs t
past_first x xs t ne = eq_cases (λ b. (if b then Some x.1 else under xs t) ≡ under xs t) x.0 t (λ e. absurd (ne e)) (λ f. refl)

some_is_none : (w : Wait) (o : Option Wait) → o ≡ Some w → o ≡ None → ⊥
some_is_none w o e f = absurd cc

not_first : (x : ℕ × Wait) (xs : List (ℕ × Wait)) (t : ℕ) → under (x ∷ xs) t ≡ None → x.0 ≢ t
not_first x xs t h e = some_is_none x.1 (under (x ∷ xs) t) (at_first x xs t e) h

none_below : (n t : ℕ) (xs : List (ℕ × Wait)) → Rises n xs → t < n → under xs t ≡ None
none_below n t [] r l = refl
none_below n t (x ∷ xs) r l =
    let from : n ≤ x.0 = r.0 in
    past_first x xs t (λ e. absurd (omega (arith, e, from, l))) ∙ none_below (suc x.0) t xs r.1 (omega (arith, from, l))

-- two with the same first number
same_first : (x y : ℕ × Wait) (xs ys : List (ℕ × Wait)) → Rises (suc x.0) xs → Rises (suc y.0) ys → ((t : ℕ) → under (x ∷ xs) t ≡ under (y ∷ ys) t) → (((t : ℕ) → under xs t ≡ under ys t) → xs ≡ ys) → x.0 ≡ y.0 → (x ∷ xs) ≡ (y ∷ ys)
same_first x y xs ys r q h go e =
    let value : Some x.1 ≡ Some y.1 = sym (at_first x xs x.0 refl) ∙ h x.0 ∙ at_first y ys x.0 (sym e) in
    let one : x.1 ≡ y.1 = cc in
    ap₂ (λ (v : ℕ × Wait) (l : List (ℕ × Wait)). v ∷ l) (ap₂ (λ (m : ℕ) (w : Wait). (m, w)) e one)
    (go (λ t.
    eq_cases (λ b. under xs t ≡ under ys t) x.0 t (λ f. none_below (suc x.0) t xs r (omega (arith, f)) ∙ sym (none_below (suc y.0) t ys q (omega (arith, e, f))))
    (λ ne. sym (past_first x xs t ne) ∙ h t ∙ past_first y ys t (λ f. ne (e ∙ f)))))

-- nothing stands below the first one
first_least : (x y : ℕ × Wait) (xs ys : List (ℕ × Wait)) → Rises (suc y.0) ys → under (x ∷ xs) x.0 ≡ under (y ∷ ys) x.0 → x.0 < y.0 → ⊥
first_least x y xs ys q h l = not_first x xs x.0 (h ∙ none_below y.0 x.0 (y ∷ ys) (omega arith, q) l) refl

-- two that have the same under each number
pub same_rising : (n : ℕ) (xs ys : List (ℕ × Wait)) → Rises n xs → Rises n ys → ((t : ℕ) → under xs t ≡ under ys t) → xs ≡ ys
same_rising n [] [] r q h = refl
same_rising n [] (y ∷ ys) r q h = absurd (not_first y ys y.0 (sym (h y.0)) refl)
same_rising n (x ∷ xs) [] r q h = absurd (not_first x xs x.0 (h x.0) refl)
same_rising n (x ∷ xs) (y ∷ ys) r q h =
    eq_cases (λ b. (x ∷ xs) ≡ (y ∷ ys)) x.0 y.0 (λ e. same_first x y xs ys r.1 q.1 h (λ same. same_rising (suc x.0) xs ys r.1 (subst (λ m. Rises (suc m) ys) (sym e) q.1) same) e)
    (λ ne. lt_cases (λ b. (x ∷ xs) ≡ (y ∷ ys)) x.0 y.0 (λ l. absurd (first_least x y xs ys q.1 (h x.0) l)) (λ le. absurd (first_least y x ys xs r.1 (sym (h y.0)) (omega (arith, le, ne)))))

-- where nothing stood under a number, something is put there
put_rises : (n t : ℕ) (w : Wait) (xs : List (ℕ × Wait)) → Rises n xs → n ≤ t → under xs t ≡ None → Rises n (add_wait t (Some w) xs)
put_rises n t w [] r l h = (l, tt)
put_rises n t w (x ∷ xs) r l h =
    let ne = not_first x xs t h in
    lt_cases (λ b. Rises n (if b then (t, w) ∷ x ∷ xs else x ∷ add_wait t (Some w) xs)) t x.0 (λ lt. (l, (omega (arith, lt), r.1)))
    (λ le. (r.0, put_rises (suc x.0) t w xs r.1 (omega (arith, le, ne)) (sym (past_first x xs t ne) ∙ h)))

swapped : (a b : Bool) (v w o : Option Wait) → ((a ≡ true) → (b ≡ true) → ⊥) → (if a then v else if b then w else o) ≡ (if b then w else if a then v else o)
swapped true true v w o f = absurd (f refl refl)
swapped true false v w o f = refl
swapped false b v w o f = refl

put_under : (t : ℕ) (w : Wait) (xs : List (ℕ × Wait)) → under xs t ≡ None → (u : ℕ) → under (add_wait t (Some w) xs) u ≡ (if t == u then Some w else under xs u)
put_under t w [] h u = refl
put_under t w (x ∷ xs) h u =
    let ne = not_first x xs t h in
    lt_cases (λ b. under (if b then (t, w) ∷ x ∷ xs else x ∷ add_wait t (Some w) xs) u ≡ (if t == u then Some w else under (x ∷ xs) u)) t x.0 (λ lt. refl)
    (λ le. ap (λ o. if x.0 == u then Some x.1 else o) (put_under t w xs (sym (past_first x xs t ne) ∙ h) u) ∙ swapped (x.0 == u) (t == u) (Some x.1) (Some w) (under xs u) (λ e f. ne (grind (arith, nat_tests, e, f))))

-- so it rises with it, and has it there; with nothing it is as it was
pub added_rises : (t : ℕ) (o : Option Wait) (xs : List (ℕ × Wait)) → Rises 0 xs → under xs t ≡ None → Rises 0 (add_wait t o xs)
added_rises t None xs r h = r
added_rises t (Some w) xs r h = put_rises 0 t w xs r (omega arith) h

pub added_under : (t : ℕ) (o : Option Wait) (xs : List (ℕ × Wait)) → under xs t ≡ None → (u : ℕ) → under (add_wait t o xs) u ≡ (if t == u then o else under xs u)
added_under t None xs h u = eq_cases (λ b. under xs u ≡ (if b then None else under xs u)) t u (λ e. ap (under xs) (sym e) ∙ h) (λ ne. refl)
added_under t (Some w) xs h u = put_under t w xs h u
