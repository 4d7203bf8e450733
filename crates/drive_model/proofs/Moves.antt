-- A balance moves the candidate of one of the servers to another one.
use Rattle.std.proofs.Common.{◌≡◌, ◌≢◌, ◌≤◌, ◌<◌, ℕ, zero, suc, ◌+◌, nat_lt, Bool, true, false, true≢false, if◌then◌else◌, List, [], ◌∷◌, length, slice_get, Option, None, Some, refl, sym, subst, ap, ◌∙◌, arith}
use Rattle.std.specs.Prelude.{nat_le, option_map}
use Rattle.std.proofs.lemmas.Bool.{leb-true}
use Rattle.std.proofs.lemmas.Option.{slice_get_within}
use Rattle.drive_model.specs.Balance.{Load, Loaded, Shift, at_zero, first_best, shift_between, balance}
use Rattle.drive_model.specs.Laws.{candidate_in, IsMove, BalanceMoves}

-- it has the load that its server has
abbrev Stands : List Load → Loaded → Type 0
Stands all l = slice_get all l.server ≡ Some l.load

best_stands : (beats : ℕ → ℕ → Bool) (all : List Load) (best : Loaded) (i : ℕ) (xs : List Load) → ((k : ℕ) → slice_get all (i + k) ≡ slice_get xs k) → Stands all best → Stands all (first_best beats best i xs)
best_stands beats all best i [] f s = s
best_stands beats all best i (x ∷ xs) f s =
    best_stands beats all (if beats x.threads best.load.threads then record { server = i; load = x } else best) (i + 1) xs (λ k. let at : i + 1 + k ≡ i + suc k = omega arith in ap (slice_get all) at ∙ f (suc k)) (by (beats x.threads best.load.threads))
  where
    by : (b : Bool) → Stands all (if b then record { server = i; load = x } else best)
    by true = let at : i ≡ i + 0 = omega arith in ap (slice_get all) at ∙ f 0
    by false = s

moves : (ls : List Load) (most least : Loaded) (x : Shift) → Stands ls most → Stands ls least → shift_between most least ≡ Some x → IsMove ls x
moves ls most least x m l h = by (nat_le (least.load.threads + 2) most.load.threads) refl h
  where
    apart : least.load.threads + 2 ≤ most.load.threads → least.server ≢ most.server
    apart less e =
        let same : Some least.load ≡ Some most.load = sym l ∙ ap (slice_get ls) e ∙ m in
        let load : least.load ≡ most.load = cc in
        let threads : least.load.threads ≡ most.load.threads = ap (λ y. y.threads) load in
        omega (arith, less, threads)

    found : (t : Option ℕ) → most.load.candidate ≡ t → least.load.threads + 2 ≤ most.load.threads → option_map (λ t. record { source = most.server; thread = t; target = least.server }) t ≡ Some x → IsMove ls x
    found None is less e = absurd cc
    found (Some t) is less e =
        let same : record { source = most.server; thread = t; target = least.server } ≡ x = cc in
        subst (IsMove ls) same (record { candidate = ap candidate_in m ∙ is; target = slice_get_within ls least.server least.load l; apart = apart less })

    by : (b : Bool) → nat_le (least.load.threads + 2) most.load.threads ≡ b → (if b then option_map (λ t. record { source = most.server; thread = t; target = least.server }) most.load.candidate else None) ≡ Some x → IsMove ls x
    by true e g = found most.load.candidate refl (leb-true (least.load.threads + 2) most.load.threads e) g
    by false e g = absurd cc

pub balance_moves : BalanceMoves
balance_moves [] x h = absurd cc
balance_moves (l ∷ ls) x h =
    let first : (k : ℕ) → slice_get (l ∷ ls) (1 + k) ≡ slice_get ls k = λ k. let at : 1 + k ≡ suc k = omega arith in ap (slice_get (l ∷ ls)) at in
    moves (l ∷ ls) _ _ x (best_stands (λ a b. nat_lt b a) (l ∷ ls) (at_zero l) 1 ls first refl) (best_stands (λ a b. nat_lt a b) (l ∷ ls) (at_zero l) 1 ls first refl) h
