-- The pairs by the numbers of their parents.
use Rattle.std.proofs.Common.{◌≡◌, ℕ, false, List, [], ◌∷◌, ◌++◌, Option, Some, None, refl, sym, ap, ◌∙◌, subst, nat_eq}
use Rattle.std.specs.Prelude.{◌==◌, cond, is_some, if◌then◌else◌}
use Rattle.std.specs.Map.{lookup, remove_entry}
use Rattle.indexmap.specs.IndexMap.{insert_entry}
use Rattle.fr_plain.specs.MachineThreads.{Pair, pair_of, without_pair}
use Rattle.fr_typing.proofs.PlaceLemmas.{eq_cases}
use Rattle.fr_shared.specs.declared.pairs.Two.{Two}
use Rattle.fr_shared.specs.PairInside.{pair_from, two_from, pairs_onto, IsFree, AreApart}
use Rattle.fr_shared.proofs.PlaceLemmas.{turned}

-- a parent that waits for none of these waits as before them
free_pair : (ps : List Pair) (es : List (ℕ × Two)) (t : ℕ) → IsFree es t → pair_of (pairs_onto ps es) t ≡ pair_of ps t
free_pair ps [] t h = refl
free_pair ps (e ∷ es) t h = free_pair (pair_from e.0 e.1 ∷ ps) es t h.1 ∙ ap (λ b. if b then Some (pair_from e.0 e.1) else pair_of ps t) h.0

-- a parent that isn't found waits for none
unfound : (es : List (ℕ × Two)) (t : ℕ) → lookup (nat_eq t) es ≡ None → IsFree es t
unfound [] t h = tt
unfound (e ∷ es) t h =
    eq_cases (λ b. cond b (Some e.1) (lookup (nat_eq t) es) ≡ None → t == e.0 ≡ b → IsFree (e ∷ es) t) t e.0 (λ same g k. cc)
    (λ other g k. (turned e.0 t ∙ k, unfound es t g)) h refl

-- a parent that is found waits for what was found
found : (ps : List Pair) (es : List (ℕ × Two)) (t : ℕ) (x : Two) → AreApart es → lookup (nat_eq t) es ≡ Some x → pair_of (pairs_onto ps es) t ≡ Some (pair_from t x)
found ps [] t x apart h = cc
found ps (e ∷ es) t x apart h =
    eq_cases (λ b. cond b (Some e.1) (lookup (nat_eq t) es) ≡ Some x → pair_of (pairs_onto (pair_from e.0 e.1 ∷ ps) es) t ≡ Some (pair_from t x)) t e.0
    (λ same g.
    let two : e.1 ≡ x = cc in
    free_pair (pair_from e.0 e.1 ∷ ps) es t (subst (IsFree es) (sym same) apart.0)
    ∙ eq_cases (λ b. (if b then Some (pair_from e.0 e.1) else pair_of ps t) ≡ Some (pair_from e.0 e.1)) e.0 t (λ _. refl) (λ no. absurd (no (sym same)))
    ∙ ap (λ k. Some (pair_from k e.1)) (sym same) ∙ ap (λ (y : Two). Some (pair_from t y)) two)
    (λ other g. found (pair_from e.0 e.1 ∷ ps) es t x apart.1 g) h

pub pair_found : (es : List (ℕ × Two)) (t : ℕ) → AreApart es → two_from t (lookup (nat_eq t) es) ≡ pair_of (pairs_onto [] es) t
pair_found es t apart = by (lookup (nat_eq t) es) refl
  where
    by : (o : Option Two) → lookup (nat_eq t) es ≡ o → two_from t (lookup (nat_eq t) es) ≡ pair_of (pairs_onto [] es) t
    by None h = ap (two_from t) h ∙ sym (free_pair [] es t (unfound es t h))
    by (Some x) h = ap (two_from t) h ∙ sym (found [] es t x apart h)

-- a parent that waits for no pair is new
pub unpaired : (es : List (ℕ × Two)) (t : ℕ) → AreApart es → pair_of (pairs_onto [] es) t ≡ None → IsFree es t
unpaired es t apart h = unfound es t (by (lookup (nat_eq t) es) (pair_found es t apart ∙ h))
  where
    by : (o : Option Two) → two_from t o ≡ None → o ≡ None
    by None g = refl
    by (Some x) g = cc

-- ONE MORE

push_onto : (ps : List Pair) (es : List (ℕ × Two)) (t : ℕ) (x : Two) → pairs_onto ps (es ++ (t, x) ∷ []) ≡ pair_from t x ∷ pairs_onto ps es
push_onto ps [] t x = refl
push_onto ps (e ∷ es) t x = push_onto (pair_from e.0 e.1 ∷ ps) es t x

goes_last : (es : List (ℕ × Two)) (t : ℕ) (x : Two) → IsFree es t → insert_entry nat_eq es t x ≡ es ++ (t, x) ∷ []
goes_last [] t x h = refl
goes_last (e ∷ es) t x h = ap (λ b. if b then (e.0, x) ∷ es else e ∷ insert_entry nat_eq es t x) (turned t e.0 ∙ h.0) ∙ ap (λ l. e ∷ l) (goes_last es t x h.1)

pub pair_added : (es : List (ℕ × Two)) (t : ℕ) (x : Two) → IsFree es t → pairs_onto [] (insert_entry nat_eq es t x) ≡ pair_from t x ∷ pairs_onto [] es
pair_added es t x h = ap (pairs_onto []) (goes_last es t x h) ∙ push_onto [] es t x

free_push : (es : List (ℕ × Two)) (t u : ℕ) (x : Two) → IsFree es u → t == u ≡ false → IsFree (es ++ (t, x) ∷ []) u
free_push [] t u x h ne = (ne, tt)
free_push (e ∷ es) t u x h ne = (h.0, free_push es t u x h.1 ne)

apart_push : (es : List (ℕ × Two)) (t : ℕ) (x : Two) → AreApart es → IsFree es t → AreApart (es ++ (t, x) ∷ [])
apart_push [] t x apart h = (tt, tt)
apart_push (e ∷ es) t x apart h = (free_push es t e.0 x apart.0 (turned t e.0 ∙ h.0), apart_push es t x apart.1 h.1)

pub added_apart : (es : List (ℕ × Two)) (t : ℕ) (x : Two) → AreApart es → IsFree es t → AreApart (insert_entry nat_eq es t x)
added_apart es t x apart h = subst AreApart (sym (goes_last es t x h)) (apart_push es t x apart h)

-- ONE LESS

free_stays : (ps : List Pair) (es : List (ℕ × Two)) (t : ℕ) → IsFree es t → without_pair (pairs_onto ps es) t ≡ pairs_onto (without_pair ps t) es
free_stays ps [] t h = refl
free_stays ps (e ∷ es) t h = free_stays (pair_from e.0 e.1 ∷ ps) es t h.1 ∙ ap (λ b. pairs_onto (if b then without_pair ps t else pair_from e.0 e.1 ∷ without_pair ps t) es) h.0

gone_onto : (ps : List Pair) (es : List (ℕ × Two)) (t : ℕ) → AreApart es → without_pair (pairs_onto ps es) t ≡ pairs_onto (without_pair ps t) (remove_entry (nat_eq t) es)
gone_onto ps [] t apart = refl
gone_onto ps (e ∷ es) t apart =
    eq_cases (λ b. without_pair (pairs_onto (pair_from e.0 e.1 ∷ ps) es) t ≡ pairs_onto (without_pair ps t) (cond b es (e ∷ remove_entry (nat_eq t) es))) t e.0
    (λ same.
    free_stays (pair_from e.0 e.1 ∷ ps) es t (subst (IsFree es) (sym same) apart.0)
    ∙ eq_cases (λ b. pairs_onto (if b then without_pair ps t else pair_from e.0 e.1 ∷ without_pair ps t) es ≡ pairs_onto (without_pair ps t) es) e.0 t (λ _. refl) (λ no. absurd (no (sym same))))
    (λ other.
    gone_onto (pair_from e.0 e.1 ∷ ps) es t apart.1
    ∙ eq_cases (λ b. pairs_onto (if b then without_pair ps t else pair_from e.0 e.1 ∷ without_pair ps t) (remove_entry (nat_eq t) es) ≡ pairs_onto (pair_from e.0 e.1 ∷ without_pair ps t) (remove_entry (nat_eq t) es)) e.0 t (λ same. absurd (other (sym same))) (λ _. refl))

pub pair_gone : (es : List (ℕ × Two)) (t : ℕ) → AreApart es → pairs_onto [] (remove_entry (nat_eq t) es) ≡ without_pair (pairs_onto [] es) t
pair_gone es t apart = sym (gone_onto [] es t apart)

free_gone : (es : List (ℕ × Two)) (t u : ℕ) → IsFree es u → IsFree (remove_entry (nat_eq t) es) u
free_gone [] t u h = tt
free_gone (e ∷ es) t u h = eq_cases (λ b. IsFree (cond b es (e ∷ remove_entry (nat_eq t) es)) u) t e.0 (λ _. h.1) (λ _. (h.0, free_gone es t u h.1))

pub gone_apart : (es : List (ℕ × Two)) (t : ℕ) → AreApart es → AreApart (remove_entry (nat_eq t) es)
gone_apart [] t apart = tt
gone_apart (e ∷ es) t apart = eq_cases (λ b. AreApart (cond b es (e ∷ remove_entry (nat_eq t) es))) t e.0 (λ _. apart.1) (λ _. (free_gone es t e.0 apart.0, gone_apart es t apart.1))

-- a parent with no two threads waits for none
pub none_from : (o : Option Two) (t : ℕ) → is_some o ≡ false → two_from t o ≡ None
none_from None t h = refl
none_from (Some x) t h = cc
