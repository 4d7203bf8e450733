-- How the threads of a server stand, by how many aren't over and how many wait.
use Rattle.std.proofs.Common.{◌≡◌, ℕ, zero, suc, ◌+◌, ◌-◌, ◌<◌, ◌≤◌, ◌==◌, ◌&&◌, ◌||◌, Bool, true, false, if◌then◌else◌, nat_lt, List, [], ◌∷◌, length, Option, Some, None, refl, sym, ap, ◌∙◌, arith}
use Rattle.std.specs.Prelude.{slice_get, is_some}
use Rattle.std.proofs.lemmas.Bool.Decides.{nat_tests}
use Rattle.fr_typing.proofs.PlaceLemmas.{eq_cases}
use Rattle.fr_base.specs.declared.step.Wait.{Wait}
use Rattle.thread_state.specs.View.{ThreadState, is_over}
use Rattle.thread_state.specs.declared.phase.Phase.{Phase}
use Rattle.thread_state.specs.declared.phase.Phase.TheVariants as phase
use Rattle.server_model.specs.Questions.{wait_of, add_wait, waits_among, active_in}
use Rattle.drive_model.specs.Ending.{is_none, all_threads, is_stopped}

not_zero : (n : ℕ) → (suc n == 0) ≡ false
not_zero n = grind (arith, nat_tests)

same_suc : (a b : ℕ) → (a == b) ≡ (suc a == suc b)
same_suc a b = eq_cases (λ q. q ≡ (suc a == suc b)) a b (λ e. grind (arith, nat_tests, e)) (λ ne. grind (arith, nat_tests, ne))

pub none_long : {X : Type 0} (xs : List X) → is_none xs ≡ (length xs == 0)
none_long [] = refl
none_long (x ∷ xs) = sym (not_zero (length xs))

-- all are over where none isn't
pub over_by_count : (ts : List ThreadState) → all_threads is_over ts ≡ (active_in ts == 0)
over_by_count [] = refl
over_by_count (t ∷ ts) = by (is_over t.phase) (over_by_count ts)
  where
    by : (b : Bool) → all_threads is_over ts ≡ (active_in ts == 0) → b && all_threads is_over ts ≡ ((if b then active_in ts else 1 + active_in ts) == 0)
    by true e = e
    by false e = sym (grind (arith, nat_tests))

-- one wait more
added_long : (t : ℕ) (o : Option Wait) (ws : List (ℕ × Wait)) → length (add_wait t o ws) ≡ length ws + (if is_some o then 1 else 0)
added_long t None ws = omega arith
added_long t (Some w) [] = refl
added_long t (Some w) (x ∷ xs) = by (nat_lt t x.0) (added_long t (Some w) xs)
  where
    by : (b : Bool) → length (add_wait t (Some w) xs) ≡ length xs + 1 → length (if b then (t, w) ∷ x ∷ xs else x ∷ add_wait t (Some w) xs) ≡ suc (length xs) + 1
    by true e = omega arith
    by false e = omega (arith, e)

-- who waits at a lock, a join or a pair isn't over
waits_not_over : (p : Phase) → is_over p ≡ true → wait_of p ≡ None
waits_not_over phase.Over e = refl
waits_not_over (phase.WaitLock m) e = absurd (cc e)
waits_not_over (phase.WaitJoin t) e = absurd (cc e)
waits_not_over (phase.WaitPar a b) e = absurd (cc e)
waits_not_over _ e = refl

-- at most as many wait as aren't over, and as many exactly where each that isn't over waits
record Waiting (ts : List ThreadState) : Type 0 where
  few : length (waits_among ts []) ≤ active_in ts
  exact : all_threads is_stopped ts ≡ (length (waits_among ts []) == active_in ts)

waiting : (ts : List ThreadState) → Waiting ts
waiting [] = record { few = omega arith; exact = refl }
waiting (t ∷ ts) = by (is_over t.phase) (is_some (wait_of t.phase)) refl refl (waiting ts)
  where
    w : ℕ
    w = length (waits_among ts [])

    more : (b : Bool) → is_some (wait_of t.phase) ≡ b → length (waits_among (t ∷ ts) []) ≡ w + (if b then 1 else 0)
    more b e = added_long t.number (wait_of t.phase) (waits_among ts []) ∙ ap (λ q. w + (if q then 1 else 0)) e

    by : (o b : Bool) → is_over t.phase ≡ o → is_some (wait_of t.phase) ≡ b → Waiting ts → Waiting (t ∷ ts)
    by true true e f k = let none : false ≡ true = ap is_some (sym (waits_not_over t.phase e)) ∙ f in absurd (cc none)
    by true false e f k =
        let l = more false f in
        let a : active_in (t ∷ ts) ≡ active_in ts = ap (λ q. if q then active_in ts else 1 + active_in ts) e in
        let s : all_threads is_stopped (t ∷ ts) ≡ all_threads is_stopped ts = ap (λ q. (q || is_some (wait_of t.phase)) && all_threads is_stopped ts) e in
        record { few = omega (arith, l, a, k.few); exact = s ∙ k.exact ∙ ap (λ n. n == active_in ts) (let q : w ≡ length (waits_among (t ∷ ts) []) = omega (arith, l) in q) ∙ ap (λ n. length (waits_among (t ∷ ts) []) == n) (sym a) }
    by false true e f k =
        let l = more true f in
        let a : active_in (t ∷ ts) ≡ 1 + active_in ts = ap (λ q. if q then active_in ts else 1 + active_in ts) e in
        let s : all_threads is_stopped (t ∷ ts) ≡ all_threads is_stopped ts = ap (λ q. (q || is_some (wait_of t.phase)) && all_threads is_stopped ts) e ∙ ap (λ q. q && all_threads is_stopped ts) f in
        let up = same_suc w (active_in ts) in
        record { few = omega (arith, l, a, k.few); exact = s ∙ k.exact ∙ up ∙ ap (λ n. n == suc (active_in ts)) (let q : suc w ≡ length (waits_among (t ∷ ts) []) = omega (arith, l) in q) ∙ ap (λ n. length (waits_among (t ∷ ts) []) == n) (let q : suc (active_in ts) ≡ active_in (t ∷ ts) = omega (arith, a) in q) }
    by false false e f k =
        let l = more false f in
        let a : active_in (t ∷ ts) ≡ 1 + active_in ts = ap (λ q. if q then active_in ts else 1 + active_in ts) e in
        let s : all_threads is_stopped (t ∷ ts) ≡ false = ap (λ q. (q || is_some (wait_of t.phase)) && all_threads is_stopped ts) e ∙ ap (λ q. q && all_threads is_stopped ts) f in
        let less : length (waits_among (t ∷ ts) []) < active_in (t ∷ ts) = omega (arith, l, a, k.few) in
        record { few = omega (arith, less); exact = s ∙ sym (let q : (length (waits_among (t ∷ ts) []) == active_in (t ∷ ts)) ≡ false = grind (arith, nat_tests, less) in q) }

get_some : {X : Type 0} (xs : List X) (i : ℕ) → is_some (slice_get xs i) ≡ nat_lt i (length xs)
get_some [] i = grind (arith, nat_tests)
get_some (x ∷ xs) zero = grind (arith, nat_tests)
get_some (x ∷ xs) (suc i) = get_some xs i ∙ grind (arith, nat_tests)

-- so it is told by whether there is a last one that waits
pub stopped_by_count : (ts : List ThreadState) (n : ℕ) → n ≡ active_in ts → (b : Bool) → (n == 0) ≡ b → all_threads is_stopped ts ≡ b || is_some (slice_get (waits_among ts []) (n - 1))
stopped_by_count ts n e true q =
    let k = waiting ts in
    let none : n ≡ 0 = grind (arith, nat_tests, q) in
    let few = k.few in
    let both : (length (waits_among ts []) == active_in ts) ≡ true = grind (arith, nat_tests, few, none, e) in
    k.exact ∙ both
stopped_by_count ts n e false q =
    let k = waiting ts in
    let some : 0 < n = grind (arith, nat_tests, q) in
    let few = k.few in
    let w = length (waits_among ts []) in
    let test : (w == active_in ts) ≡ nat_lt (n - 1) w = by (nat_lt (n - 1) w) refl some few in
    k.exact ∙ test ∙ sym (get_some (waits_among ts []) (n - 1))
  where
    by : (b : Bool) → nat_lt (n - 1) (length (waits_among ts [])) ≡ b → 0 < n → length (waits_among ts []) ≤ active_in ts → (length (waits_among ts []) == active_in ts) ≡ b
    by true f some few =
        let l : n - 1 < length (waits_among ts []) = grind (arith, nat_tests, f) in
        let same : length (waits_among ts []) ≡ active_in ts = omega (arith, l, some, few, e) in
        grind (arith, nat_tests, same)
    by false f some few =
        let l : length (waits_among ts []) ≤ n - 1 = grind (arith, nat_tests, f) in
        let less : length (waits_among ts []) < active_in ts = omega (arith, l, some, e) in
        grind (arith, nat_tests, less)
