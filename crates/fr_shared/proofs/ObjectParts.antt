-- The cells of a thread's objects, by what lives.
use Rattle.std.proofs.Common.{◌≡◌, ◌≢◌, ℕ, zero, suc, ◌+◌, ◌<◌, ◌≤◌, false, List, [], ◌∷◌, ◌++◌, length, Option, Some, None, refl, sym, ap, ap₂, ◌∙◌, subst, arith, nat_eq, ⊎_elim}
use Rattle.std.specs.Prelude.{slice_get, slice_set, IsSome}
use Rattle.std.proofs.lemmas.Bool.{cases_lt}
use Rattle.fr_base.specs.declared.label.Plain.{Plain}
use Rattle.fr_plain.specs.Heap.{flat}
use Rattle.fr_plain.proofs.HeapLemmas.{flat_past}
use Rattle.fr_typing.proofs.PlaceLemmas.{eq_cases}
use Rattle.fr_shared.specs.ObjectsInside.{cells_from}

-- a count that isn't another's is told apart
pub apart : (a b : ℕ) → a ≢ b → nat_eq a b ≡ false
apart a b ne = eq_cases (λ x. x ≡ false) a b (λ e. absurd (ne e)) (λ _. refl)

pub length_cells : (f : ℕ → Option Plain) (k n : ℕ) → length (cells_from f k n) ≡ n
length_cells f k zero = refl
length_cells f k (suc n) = ap suc (length_cells f (suc k) n)

-- a cell of one that was made
cell_from : (f : ℕ → Option Plain) (k n i : ℕ) → i < n → flat (slice_get (cells_from f k n) i) ≡ f (k + i)
cell_from f k zero i lt = absurd (omega arith)
cell_from f k (suc n) zero lt = by (f k) ∙ ap f (omega arith)
  where
    by : (o : Option Plain) → flat (Some o) ≡ o
    by o = refl
cell_from f k (suc n) (suc i) lt = cell_from f (suc k) n i (omega arith) ∙ ap f (omega arith)

pub cell_made : (f : ℕ → Option Plain) (n i : ℕ) → i < n → flat (slice_get (cells_from f 0 n) i) ≡ f i
cell_made f n i lt = cell_from f 0 n i lt ∙ ap f (omega arith)

-- past them none lives
pub cell_unmade : (f : ℕ → Option Plain) (n i : ℕ) → n ≤ i → flat (slice_get (cells_from f 0 n) i) ≡ None
cell_unmade f n i le = flat_past (cells_from f 0 n) i (omega (arith, le, length_cells f 0 n))

-- one that lives was made
pub cell_lives : (f : ℕ → Option Plain) (n i : ℕ) → IsSome (flat (slice_get (cells_from f 0 n) i)) → IsSome (f i)
cell_lives f n i lives =
    ⊎_elim (λ (lt : i < n). subst (λ (o : Option Plain). IsSome o) (cell_made f n i lt) lives)
    (λ (le : n ≤ i). let no = subst (λ (o : Option Plain). IsSome o) (cell_unmade f n i le) lives in absurd cc) (cases_lt i n)

-- the same lives at these counts
cells_same : (f g : ℕ → Option Plain) (k n : ℕ) → ((q : ℕ) → k ≤ q → g q ≡ f q) → cells_from f k n ≡ cells_from g k n
cells_same f g k zero h = refl
cells_same f g k (suc n) h = ap₂ (λ (o : Option Plain) (os : List (Option Plain)). o ∷ os) (sym (h k (omega arith))) (cells_same f g (suc k) n (λ q le. h q (omega (arith, le))))

set_from : (f g : ℕ → Option Plain) (k n i : ℕ) (c : Option Plain) → g (k + i) ≡ c → ((q : ℕ) → k + i ≢ q → g q ≡ f q) → slice_set (cells_from f k n) i c ≡ cells_from g k n
set_from f g k zero i c at h = refl
set_from f g k (suc n) zero c at h = ap₂ (λ (o : Option Plain) (os : List (Option Plain)). o ∷ os) (sym at ∙ ap g (omega arith)) (cells_same f g (suc k) n (λ q le. h q (λ e. absurd (omega (arith, le, e)))))
set_from f g k (suc n) (suc i) c at h =
    let e : suc k + i ≡ k + suc i = omega arith in
    ap₂ (λ (o : Option Plain) (os : List (Option Plain)). o ∷ os) (sym (h k (λ e. absurd (omega (arith, e)))))
    (set_from f g (suc k) n i c (ap g e ∙ at) (λ q ne. h q (λ (s : k + suc i ≡ q). ne (e ∙ s))))

-- another value at a count, or none
pub cell_set : (f g : ℕ → Option Plain) (n i : ℕ) (c : Option Plain) → g i ≡ c → ((q : ℕ) → nat_eq i q ≡ false → g q ≡ f q) → slice_set (cells_from f 0 n) i c ≡ cells_from g 0 n
cell_set f g n i c at h =
    let e : 0 + i ≡ i = omega arith in
    set_from f g 0 n i c (ap g e ∙ at) (λ q ne. h q (apart i q (λ s. ne (e ∙ s))))

push_from : (f g : ℕ → Option Plain) (k n : ℕ) (c : Option Plain) → g (k + n) ≡ c → ((q : ℕ) → k + n ≢ q → g q ≡ f q) → cells_from f k n ++ c ∷ [] ≡ cells_from g k (suc n)
push_from f g k zero c at h = ap (λ (o : Option Plain). o ∷ []) (sym at ∙ ap g (omega arith))
push_from f g k (suc n) c at h =
    let e : suc k + n ≡ k + suc n = omega arith in
    ap₂ (λ (o : Option Plain) (os : List (Option Plain)). o ∷ os) (sym (h k (λ e. absurd (omega (arith, e)))))
    (push_from f g (suc k) n c (ap g e ∙ at) (λ q ne. h q (λ (s : k + suc n ≡ q). ne (e ∙ s))))

-- one more
pub cell_push : (f g : ℕ → Option Plain) (n m : ℕ) (c : Option Plain) → m ≡ n + 1 → g n ≡ c → ((q : ℕ) → nat_eq n q ≡ false → g q ≡ f q) → cells_from g 0 m ≡ cells_from f 0 n ++ c ∷ []
cell_push f g n m c more at h =
    let e : 0 + n ≡ n = omega arith in
    let s : m ≡ suc n = omega (arith, more) in
    ap (cells_from g 0) s ∙ sym (push_from f g 0 n c (ap g e ∙ at) (λ q ne. h q (apart n q (λ s. ne (e ∙ s)))))
