-- One of so many locations goes.
use Rattle.std.proofs.Common.{◌≡◌, ◌≢◌, ◌∙◌, ℕ, zero, suc, ◌<◌, List, [], ◌∷◌, length, Some, refl, sym, ap, arith}
use Rattle.std.specs.Prelude.{slice_get}
use Rattle.std.proofs.lemmas.Option.{slice_get_within}
use Rattle.fr_store.specs.Store.{Location}
use Rattle.fr_sound.specs.States.{AreSoMany}

-- the list without the element there
abbrev cut : List Location → ℕ → List Location
cut [] i = []
cut (x ∷ xs) zero = xs
cut (x ∷ xs) (suc i) = x ∷ cut xs i

-- where its elements stood
abbrev skip : ℕ → ℕ → ℕ
skip zero j = suc j
skip (suc i) zero = zero
skip (suc i) (suc j) = suc (skip i j)

cut_get : (xs : List Location) (i j : ℕ) → i < length xs → slice_get (cut xs i) j ≡ slice_get xs (skip i j)
cut_get [] i j l = absurd (omega (arith, l))
cut_get (x ∷ xs) zero j l = refl
cut_get (x ∷ xs) (suc i) zero l = refl
cut_get (x ∷ xs) (suc i) (suc j) l = cut_get xs i j (omega (arith, l))

cut_length : (xs : List Location) (i : ℕ) → i < length xs → suc (length (cut xs i)) ≡ length xs
cut_length [] i l = absurd (omega (arith, l))
cut_length (x ∷ xs) zero l = refl
cut_length (x ∷ xs) (suc i) l = ap suc (cut_length xs i (omega (arith, l)))

skip_off : (i j : ℕ) → skip i j ≢ i
skip_off zero j e = cc
skip_off (suc i) zero e = cc
skip_off (suc i) (suc j) e = skip_off i j (let f : skip i j ≡ i = omega (arith, e) in f)

skip_same : (i j k : ℕ) → skip i j ≡ skip i k → j ≡ k
skip_same zero j k e = omega (arith, e)
skip_same (suc i) zero zero e = refl
skip_same (suc i) zero (suc k) e = cc
skip_same (suc i) (suc j) zero e = cc
skip_same (suc i) (suc j) (suc k) e = ap suc (skip_same i j k (omega (arith, e)))

skipped : (i k : ℕ) → k ≢ i → (j : ℕ) × (skip i j ≡ k)
skipped zero zero ne = absurd (ne refl)
skipped zero (suc k) ne = (k, refl)
skipped (suc i) zero ne = (zero, refl)
skipped (suc i) (suc k) ne = let r = skipped i k (λ e. ne (ap suc e)) in (suc r.0, ap suc r.1)

fewer_at : (P Q : Location → Type 0) (n : ℕ) (l : Location) (h : AreSoMany P (suc n)) (i : ℕ) → slice_get h.places i ≡ Some l → i < length h.places → ((k : Location) → Q k → P k × (k ≢ l)) → ((k : Location) → P k → k ≢ l → Q k) → AreSoMany Q n
fewer_at P Q n l h i here within back to = record {
  places = cut h.places i;
  each = λ j k e. let f = sym (cut_get h.places i j within) ∙ e in to k (h.each (skip i j) k f) (λ z. skip_off i j (h.once (skip i j) i l (f ∙ ap Some z) here));
  all = λ k q.
      let b = back k q in
      let f = h.all k b.0 in
      let r = skipped i f.0 (λ z. b.1 (let g : Some k ≡ Some l = sym f.1 ∙ ap (slice_get h.places) z ∙ here in cc)) in
      (r.0, cut_get h.places i r.0 within ∙ ap (slice_get h.places) r.1 ∙ f.1);
  once = λ j k q e f. skip_same i j k (h.once (skip i j) (skip i k) q (sym (cut_get h.places i j within) ∙ e) (sym (cut_get h.places i k within) ∙ f));
  count = let f = cut_length h.places i within in let g = h.count in omega (arith, f, g);
}

pub one_fewer : (P Q : Location → Type 0) (n : ℕ) (l : Location) → AreSoMany P (suc n) → P l → ((k : Location) → Q k → P k × (k ≢ l)) → ((k : Location) → P k → k ≢ l → Q k) → AreSoMany Q n
one_fewer P Q n l h at back to = let f = h.all l at in fewer_at P Q n l h f.0 f.1 (slice_get_within h.places f.0 l f.1) back to
