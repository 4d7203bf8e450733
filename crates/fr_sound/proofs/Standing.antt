-- A thread has ended, waits, or steps.
use Rattle.std.specs.Prelude.{◌==◌, ◌||◌, is_some, if◌then◌else◌}
use Rattle.std.proofs.Common.{◌≡◌, ℕ, suc, ◌+◌, ◌≤◌, Bool, true, false, List, [], ◌∷◌, Option, Some, None, refl, sym, ap, ◌∙◌, arith}
use Rattle.fr_plain.specs.Below.fr_base.declared.label.Plain.TheVariants as plain
use Rattle.fr_plain.specs.Below.fr_base.declared.label.Label.{Label}
use Rattle.fr_plain.specs.Below.fr_base.declared.name.MutexNo.{MutexNo}
use Rattle.fr_plain.specs.Below.fr_base.declared.step.Fresh.{Fresh}
use Rattle.fr_plain.specs.Below.fr_base.declared.step.Fresh.TheVariants as fresh
use Rattle.fr_plain.specs.Below.fr_base.declared.step.Wait.{Wait}
use Rattle.fr_plain.specs.Below.fr_base.declared.step.Wait.TheVariants as wait
use Rattle.fr_plain.proofs.Below.fr_typing.PlaceLemmas.{eq_cases}
use Rattle.fr_plain.specs.declared.value.Value.{Value}
use Rattle.fr_plain.specs.declared.value.Value.TheVariants.{Own, ToSlot, ToObject, Held}
use Rattle.fr_plain.specs.Acts.{Act, do_let, do_read, do_borrow, do_assign, do_box, do_arith, do_print, do_discard, do_drop, do_end, do_spawn, do_join, do_finish, do_leave, do_mutex, do_dup, do_lock, do_unlock, do_par, do_par_end}
use Rattle.fr_plain.specs.Run.{Move, Life, life_move}
use Rattle.fr_plain.specs.MachineThreads.{mutex_at, mutex_there, pair_of}
use Rattle.fr_plain.specs.Machine.{mutex_behind, content_waits, lock_waits, pair_waits}
use Rattle.fr_plain.specs.Threads.{unless_some, join_waits, act_waits, move_waits}
use Rattle.fr_plain.specs.Whole.{Thread, Whole, thread_at, is_given, result_at, is_over, waits_for, state_of, has_ended as refused_ended, name_used, Takes, no_name, a_thread, two_threads, a_mutex, takes_name, refused_names, refused_wait, refused_of, refused}
use Rattle.fr_sound.specs.Together.{HasNeither, Stands, has_ended, is_waiting, is_going, OneOfThree}
use Rattle.fr_sound.proofs.Together.{never_stuck_together_lem, waits_for_living_lem}

-- A NEW NAME

-- a number above those of all threads
abbrev above : List Thread → ℕ
above [] = 0
above (x ∷ xs) = suc (x.number + above xs)

-- no thread has such a number
none_above : (ts : List Thread) (n : ℕ) → above ts ≤ n → thread_at ts n ≡ None
none_above [] n le = refl
none_above (x ∷ xs) n le = eq_cases (λ b. (if b then Some x else thread_at xs n) ≡ None) x.number n (λ e. absurd (omega (arith, e, le))) (λ _. none_above xs n (omega (arith, le)))

-- names that a step takes
abbrev names_for : Whole → Takes → Fresh
names_for s no_name = fresh.None
names_for s a_thread = fresh.Thread (above s.threads)
names_for s two_threads = fresh.Threads (above s.threads) (suc (above s.threads))
names_for s a_mutex = fresh.Mutex (record { home = 0; count = 0 })

-- are not refused
names_free : (s : Whole) → HasNeither s → (b : Takes) → refused_names s b (names_for s b) ≡ None
names_free s e no_name = refl
names_free s e a_thread = ap (λ (q : Option Thread). if is_some q then Some name_used else None) (none_above s.threads (above s.threads) (omega arith))
names_free s e two_threads =
    let n = above s.threads in
    ap (λ (q : Option Thread). if n == suc n || is_some q || is_given s (suc n) then Some name_used else None) (none_above s.threads n (omega arith))
    ∙ ap (λ (q : Option Thread). if n == suc n || false || is_some q then Some name_used else None) (none_above s.threads (suc n) (omega arith))
    ∙ eq_cases (λ b. (if b || false || false then Some name_used else None) ≡ None) n (suc n) (λ f. absurd (omega (arith, f))) (λ _. refl)
names_free s e a_mutex = ap (λ ms. if is_some (mutex_at ms (record { home = 0; count = 0 })) then Some name_used else None) e.0

-- WAITING

-- a thread waits for a join alone
waits_join : (s : Whole) → HasNeither s → (x : Thread) (m : Option (Move Life)) (w : Wait) → move_waits s x m ≡ Some w → (u : ℕ) × (w ≡ wait.Join u)
waits_join s n x None w e = cc
waits_join s n x (Some m) w e = by m.act e
  where
    by_result : (o : Option Value) (t : ℕ) → unless_some o (wait.Join t) ≡ Some w → (u : ℕ) × (w ≡ wait.Join u)
    by_result None t f = (t, (let q : wait.Join t ≡ w = cc in sym q))
    by_result (Some v) t f = cc

    by_value : (v : Value) → join_waits s v ≡ Some w → (u : ℕ) × (w ≡ wait.Join u)
    by_value (Own (plain.Task t)) f = by_result (result_at s.threads t) t f
    by_value (Own plain.Nothing) f = cc
    by_value (Own plain.Unit) f = cc
    by_value (Own (plain.Int n)) f = cc
    by_value (Own (plain.Box o)) f = cc
    by_value (Own (plain.Mutex n)) f = cc
    by_value (ToSlot i) f = cc
    by_value (ToObject o) f = cc
    by_value (Held o) f = cc

    -- no mutex and no pair is there to be waited for
    by_lock : (p : Option (MutexNo × List Label)) → lock_waits s p ≡ Some w → (u : ℕ) × (w ≡ wait.Join u)
    by_lock None f = cc
    by_lock (Some p) f = let z : None ≡ Some w = sym (ap (λ ms. content_waits (mutex_there ms p.0) p.0) n.0) ∙ f in cc

    by_pair : pair_waits s (pair_of s.pairs x.number) ≡ Some w → (u : ℕ) × (w ≡ wait.Join u)
    by_pair f = let z : None ≡ Some w = sym (ap (λ ps. pair_waits s (pair_of ps x.number)) n.1) ∙ f in cc

    by : (a : Act) → act_waits s x a ≡ Some w → (u : ℕ) × (w ≡ wait.Join u)
    by (do_join v) f = by_value v f
    by (do_let v) f = cc
    by (do_read p take) f = cc
    by (do_borrow p is_mut) f = cc
    by (do_assign p v) f = cc
    by (do_box v) f = cc
    by (do_arith o a b) f = cc
    by (do_print v) f = cc
    by (do_discard v) f = cc
    by do_drop f = cc
    by (do_end v) f = cc
    by (do_spawn cs r) f = cc
    by (do_finish v) f = cc
    by (do_leave v) f = cc
    by (do_mutex v) f = cc
    by (do_dup p) f = cc
    by (do_lock p) f = by_lock (mutex_behind (state_of s x) p) f
    by do_unlock f = cc
    by (do_par cs p ds q) f = cc
    by do_par_end f = by_pair f

-- each thread has ended, waits for another one that has not, or steps
pub one_of_three_lem : OneOfThree
one_of_three_lem s y t x found = by (is_over x.life) refl (waits_for s x) refl
  where
    by : (b : Bool) → is_over x.life ≡ b → (w : Option Wait) → waits_for s x ≡ w → Stands s t x
    by true e w f = has_ended e
    by false e (Some w) f =
        let j = waits_join s y.neither x (life_move x.life) w f in
        let living = waits_for_living_lem s y t j.0 x found (f ∙ ap Some j.1) in
        is_waiting j.0 living.0 (f ∙ ap Some j.1) living.1 living.2
    by false e None f =
        let b = takes_name (life_move x.life) in
        let names = names_for s b in
        let free : refused s t names ≡ None =
        ap (refused_of s names) found ∙ ap (λ q. if q then Some refused_ended else refused_wait (waits_for s x) (refused_names s b names)) e ∙ ap (λ q. refused_wait q (refused_names s b names)) f ∙ names_free s y.neither b in
        is_going names (never_stuck_together_lem s y t names free)
