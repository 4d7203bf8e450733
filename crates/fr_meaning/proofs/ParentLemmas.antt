-- Parents of pairs wait for their end.
use Rattle.std.proofs.Common.{◌≡◌, ◌≢◌, ℕ, zero, suc, true, false, List, [], ◌∷◌, ◌++◌, get_or, Option, Some, None, refl, sym, ap, ◌∙◌, subst}
use Rattle.std.specs.Prelude.{◌==◌, IsSome, option_map, slice_set, if◌then◌else◌}
use Rattle.fr_plain.specs.MachineThreads.{Pair, pair_of, without_pair}
use Rattle.fr_shared.specs.PairRoom.{PairRoom}
use Rattle.fr_shared.specs.Places.{place_of}
use Rattle.fr_shared.proofs.PlaceLemmas.{later_place}
use Rattle.fr_forms.proofs.FormLemmas.{eq_cases}
use Rattle.fr_meaning.specs.declared.frame.Done.{Done}
use Rattle.fr_meaning.specs.declared.frame.Focus.{Focus}
use Rattle.fr_meaning.specs.declared.frame.Focus.TheVariants as focus
use Rattle.fr_meaning.specs.declared.frame.Frame.{Frame}
use Rattle.fr_meaning.specs.declared.thread.Thread.{Thread}
use Rattle.fr_meaning.specs.FrameTerms.{end_of}
use Rattle.fr_meaning.specs.Running.{focus_at, AreParents}
use Rattle.fr_meaning.specs.Threads.{numbers_of}

-- the focus of the thread at a place
pub focus_there : (xs : List Thread) (t i : ℕ) (x : Thread) → place_of (numbers_of xs) t ≡ Some i → x ≡ get_or xs i x → (focus_at xs t ≡ Some x.focus) × (x.number ≡ t)
focus_there [] t i x h is = absurd cc
focus_there (y ∷ xs) t i x h is =
    eq_cases (λ b. (if b then Some 0 else option_map (λ k. suc k) (place_of (numbers_of xs) t)) ≡ Some i → ((if b then Some y.focus else focus_at xs t) ≡ Some x.focus) × (x.number ≡ t)) y.number t
    (λ same g.
    let z : i ≡ 0 = cc in
    let e : x ≡ y = is ∙ ap (λ k. get_or (y ∷ xs) k x) z in
    (ap (λ (u : Thread). Some u.focus) (sym e), ap (λ (u : Thread). u.number) e ∙ same))
    (λ other g.
    let l = later_place (place_of (numbers_of xs) t) i g in
    focus_there xs t l.0 x l.1 (is ∙ ap (λ k. get_or (y ∷ xs) k x) l.2)) h

-- another thread of the same number and focus at its place
focus_set : (xs : List Thread) (i : ℕ) (x y : Thread) (t : ℕ) → x ≡ get_or xs i x → y.number ≡ x.number → y.focus ≡ x.focus → focus_at (slice_set xs i y) t ≡ focus_at xs t
focus_set [] i x y t is n f = refl
focus_set (u ∷ xs) zero x y t is n f =
    ap (λ k. if k == t then Some y.focus else focus_at xs t) (n ∙ ap (λ (w : Thread). w.number) is) ∙ ap (λ g. if u.number == t then Some g else focus_at xs t) (f ∙ ap (λ (w : Thread). w.focus) is)
focus_set (u ∷ xs) (suc i) x y t is n f = ap (λ o. if u.number == t then Some u.focus else o) (focus_set xs i x y t is n f)

-- the focus of another number
focus_other : (xs : List Thread) (i : ℕ) (x y : Thread) (t : ℕ) → x ≡ get_or xs i x → y.number ≡ x.number → x.number ≢ t → focus_at (slice_set xs i y) t ≡ focus_at xs t
focus_other [] i x y t is n ne = refl
focus_other (u ∷ xs) zero x y t is n ne =
    ap (λ k. if k == t then Some y.focus else focus_at xs t) (n ∙ ap (λ (w : Thread). w.number) is)
    ∙ eq_cases (λ b. (if b then Some y.focus else focus_at xs t) ≡ (if b then Some u.focus else focus_at xs t)) u.number t (λ same. absurd (ne (ap (λ (w : Thread). w.number) is ∙ same))) (λ _. refl)
focus_other (u ∷ xs) (suc i) x y t is n ne = ap (λ o. if u.number == t then Some u.focus else o) (focus_other xs i x y t is n ne)

-- a thread more
focus_push : (xs : List Thread) (n : Thread) (t : ℕ) (f : Focus) → focus_at xs t ≡ Some f → focus_at (xs ++ n ∷ []) t ≡ Some f
focus_push [] n t f h = absurd cc
focus_push (x ∷ xs) n t f h =
    eq_cases (λ b. (if b then Some x.focus else focus_at xs t) ≡ Some f → (if b then Some x.focus else focus_at (xs ++ n ∷ []) t) ≡ Some f) x.number t (λ same g. g) (λ other g. focus_push xs n t f g) h

-- PARENTS

-- a thread keeps its focus
pub parents_same : (ps : List Pair) (xs : List Thread) (i : ℕ) (x y : Thread) → x ≡ get_or xs i x → y.number ≡ x.number → y.focus ≡ x.focus → AreParents ps xs → AreParents ps (slice_set xs i y)
parents_same ps xs i x y is n f h = λ t p. focus_set xs i x y t is n f ∙ h t p

-- a thread that waits for the end of no pair goes on
pub parents_step : (ps : List Pair) (xs : List Thread) (t i : ℕ) (x y : Thread) → place_of (numbers_of xs) t ≡ Some i → x ≡ get_or xs i x → y.number ≡ x.number → x.focus ≢ focus.ParEnd → AreParents ps xs → AreParents ps (slice_set xs i y)
parents_step ps xs t i x y at is n ne h = λ u p. focus_other xs i x y u is n (other u p) ∙ h u p
  where
    other : (u : ℕ) → IsSome (pair_of ps u) → x.number ≢ u
    other u p = λ same. (
        let there = focus_there xs t i x at is in
        let f : Some x.focus ≡ Some focus.ParEnd = sym there.0 ∙ ap (focus_at xs) (sym there.1 ∙ same) ∙ h u p in
        ne cc)

-- and is no parent
pub no_pair : (ps : List Pair) (xs : List Thread) (t i : ℕ) (x : Thread) → place_of (numbers_of xs) t ≡ Some i → x ≡ get_or xs i x → x.focus ≢ focus.ParEnd → AreParents ps xs → pair_of ps t ≡ None
no_pair ps xs t i x at is ne h = by (pair_of ps t) refl
  where
    by : (o : Option Pair) → pair_of ps t ≡ o → o ≡ None
    by None e = refl
    by (Some p) e =
        let f : Some x.focus ≡ Some focus.ParEnd = sym (focus_there xs t i x at is).0 ∙ h t (subst (λ (o : Option Pair). IsSome o) (sym e) refl) in
        absurd (ne cc)

-- the pairs stay
pub still_parents : {a b : PairRoom} (xs : List Thread) → a ≡ b → AreParents b.pairs xs → AreParents a.pairs xs
still_parents {a} {b} xs e h = subst (λ (p : PairRoom). AreParents p.pairs xs) (sym e) h

-- a thread more
pub parents_push : (ps : List Pair) (xs : List Thread) (n : Thread) → AreParents ps xs → AreParents ps (xs ++ n ∷ [])
parents_push ps xs n h = λ t p. focus_push xs n t focus.ParEnd (h t p)

-- a parent more, which waits for the end of its pair
pub parents_more : (p : Pair) (ps : List Pair) (xs : List Thread) (i : ℕ) (y : Thread) → place_of (numbers_of xs) p.parent ≡ Some i → y ≡ get_or xs i y → y.focus ≡ focus.ParEnd → AreParents ps xs → AreParents (p ∷ ps) xs
parents_more p ps xs i y at is f h = λ t o. (
    eq_cases (λ b. IsSome (if b then Some p else pair_of ps t) → focus_at xs t ≡ Some focus.ParEnd) p.parent t
    (λ same g. ap (focus_at xs) (sym same) ∙ (focus_there xs p.parent i y at is).0 ∙ ap (λ q. Some q) f)
    (λ other g. h t g) o)

-- where the pair of a parent is gone, another one waits still
without : (ps : List Pair) (t u : ℕ) → IsSome (pair_of (without_pair ps t) u) → (t ≢ u) × IsSome (pair_of ps u)
without [] t u h = absurd (let f : false ≡ true = h in cc)
without (p ∷ ps) t u h =
    eq_cases (λ b. IsSome (pair_of (if b then without_pair ps t else p ∷ without_pair ps t) u) → (t ≢ u) × IsSome (if p.parent == u then Some p else pair_of ps u)) p.parent t
    (λ same g.
    let w = without ps t u g in
    (w.0, eq_cases (λ b. IsSome (if b then Some p else pair_of ps u)) p.parent u (λ e. absurd (w.0 (sym same ∙ e))) (λ _. w.1)))
    (λ other g.
    eq_cases (λ b. IsSome (if b then Some p else pair_of (without_pair ps t) u) → (t ≢ u) × IsSome (if b then Some p else pair_of ps u)) p.parent u (λ e k. (λ f. other (e ∙ sym f), refl)) (λ _ k. without ps t u k) g) h

-- the pair of a thread is gone, and the thread goes on
pub parents_less : (ps : List Pair) (xs : List Thread) (t i : ℕ) (x y : Thread) → place_of (numbers_of xs) t ≡ Some i → x ≡ get_or xs i x → y.number ≡ x.number → AreParents ps xs → AreParents (without_pair ps t) (slice_set xs i y)
parents_less ps xs t i x y at is n h = λ u p. (
    let w = without ps t u p in
    focus_other xs i x y u is n (λ same. w.0 (sym (focus_there xs t i x at is).1 ∙ same)) ∙ h u w.1)

-- OTHER FOCI

pub end_waits_not : (f : Focus) (gs : List Frame) (d : Done) → end_of f gs ≡ Some d → f ≢ focus.ParEnd
end_waits_not f gs d h = λ e. (let k : None ≡ Some d = ap (λ g. end_of g gs) (sym e) ∙ h in cc)

-- and has no frame left
pub end_bare : (f : Focus) (gs : List Frame) (d : Done) → end_of f gs ≡ Some d → gs ≡ []
end_bare (focus.Over e) [] d h = refl
end_bare (focus.Over e) (g ∷ gs) d h = cc
end_bare (focus.Read w take) gs d h = cc
end_bare (focus.Borrow w is_mut) gs d h = cc
end_bare (focus.Spawn node) gs d h = cc
end_bare (focus.Dup w) gs d h = cc
end_bare (focus.Lock w node) gs d h = cc
end_bare (focus.Par node) gs d h = cc
end_bare focus.ParEnd gs d h = cc

pub over_waits_not : (f : Focus) (d : Done) → f ≡ focus.Over d → f ≢ focus.ParEnd
over_waits_not f d h = λ e. (let k : focus.Over d ≡ focus.ParEnd = sym h ∙ e in cc)
