-- No step lists a thread twice.
use Rattle.std.proofs.Common.{◌≡◌, ◌≢◌, ℕ, zero, suc, Bool, true, false, List, [], ◌∷◌, ◌++◌, Option, Some, None, refl, sym, ap, ◌∙◌}
use Rattle.std.specs.Prelude.{⊤, ◌==◌, ◌||◌, is_some, if◌then◌else◌}
use Rattle.fr_base.specs.declared.label.Plain.{Plain}
use Rattle.fr_base.specs.declared.label.Plain.TheVariants as plain
use Rattle.fr_base.specs.declared.label.Label.{Label}
use Rattle.fr_base.specs.declared.name.MutexNo.{MutexNo}
use Rattle.fr_base.specs.declared.step.Fresh.{Fresh}
use Rattle.fr_base.specs.declared.step.Fresh.TheVariants as fresh
use Rattle.fr_typing.proofs.PlaceLemmas.{eq_cases}
use Rattle.fr_plain.specs.declared.value.Value.{Value}
use Rattle.fr_plain.specs.declared.value.Value.TheVariants.{Own, ToSlot, ToObject, Held}
use Rattle.fr_plain.specs.State.{without}
use Rattle.fr_plain.specs.MachineActs.{Capture, Act, do_let, do_read, do_borrow, do_assign, do_box, do_arith, do_print, do_discard, do_drop, do_end, do_spawn, do_join, do_finish, do_leave, do_mutex, do_dup, do_lock, do_unlock, do_par, do_par_end, Did, act, unit, end_of, drops_last}
use Rattle.fr_plain.specs.MachineThreads.{Move, Moves, Life, alive, over, owing, loose, ended, settle_life, life_move, Passed, pass, Thread, Shared, Pair, Whole, mutex_at, mutex_there, with_mutex, pair_of, thread_at, with_thread, is_given, result_at, with_life, state_of, thread_released, thread_released_in, content_gone, share_gone, share_released, release_by, count_both, release}
use Rattle.fr_plain.specs.Machine.{Stepped, Turn, stepped, then_released, alone_stepped, started_with, started, joined_with, joined, is_nameless, nameless, mutex_behind, goes_on, made, where_there, at_mutex, at_place, shared, locked_with, locked, given_back, unlocked, two_with, second_of, two_started, taken, pair_over, two_ended, two_joined, done_act, moved, step_of, step, then_labels, go_on, run}
use Rattle.fr_plain.specs.SamePlain.{IsListedOnce, OnceLed, OnceStays}
use Rattle.fr_plain.proofs.ByName.{put_off, thread_more, or_else}

either_false : (a b : Bool) → (a || b) ≡ false → (a ≡ false) × (b ≡ false)
either_false false false e = (refl, refl)
either_false true b e = absurd cc
either_false false true e = absurd cc

module _ {P : Type 0} where
  once_put : (xs : List (Thread P)) → IsListedOnce xs → (u : Thread P) → IsListedOnce (with_thread xs u)
  once_put [] h u = tt
  once_put (x ∷ xs) h u =
      eq_cases (λ b. IsListedOnce (if b then u ∷ xs else x ∷ with_thread xs u)) x.number u.number (λ e. (ap (thread_at xs) (sym e) ∙ h.0, h.1)) (λ ne. (put_off xs u x.number (λ f. ne (sym f)) ∙ h.0, once_put xs h.1 u))

  -- what is put changes no name
  given_put : (xs : List (Thread P)) (u : Thread P) (t : ℕ) → thread_at xs t ≡ None → thread_at (with_thread xs u) t ≡ None
  given_put [] u t e = refl
  given_put (x ∷ xs) u t e =
      eq_cases (λ b. (if b then Some x else thread_at xs t) ≡ None → thread_at (if x.number == u.number then u ∷ xs else x ∷ with_thread xs u) t ≡ None) x.number t (λ f g. absurd cc)
      (λ ne g. eq_cases (λ b. thread_at (if b then u ∷ xs else x ∷ with_thread xs u) t ≡ None) x.number u.number
      (λ f. eq_cases (λ b. (if b then Some u else thread_at xs t) ≡ None) u.number t (λ k. absurd (ne (f ∙ k))) (λ _. g))
      (λ _. eq_cases (λ b. (if b then Some x else thread_at (with_thread xs u) t) ≡ None) x.number t (λ k. absurd (ne k)) (λ _. given_put xs u t g))) e

  not_this : (x : Thread P) (xs : List (Thread P)) (t : ℕ) → thread_at (x ∷ xs) t ≡ None → (x.number ≢ t) × (thread_at xs t ≡ None)
  not_this x xs t e = eq_cases (λ b. (if b then Some x else thread_at xs t) ≡ None → (x.number ≢ t) × (thread_at xs t ≡ None)) x.number t (λ f g. absurd cc) (λ ne g. (ne, g)) e

  alone_not : (u : Thread P) (t : ℕ) → u.number ≢ t → thread_at (u ∷ []) t ≡ None
  alone_not u t ne = eq_cases (λ b. (if b then Some u else None) ≡ None) u.number t (λ e. absurd (ne e)) (λ _. refl)

  once_more : (xs : List (Thread P)) → IsListedOnce xs → (u : Thread P) → thread_at xs u.number ≡ None → IsListedOnce (xs ++ u ∷ [])
  once_more [] h u e = (refl, tt)
  once_more (x ∷ xs) h u e =
      let f = not_this x xs u.number e in
      (thread_more xs (u ∷ []) x.number ∙ ap (λ p. or_else p (thread_at (u ∷ []) x.number)) h.0 ∙ alone_not u x.number (λ g. f.0 (sym g)), once_more xs h.1 u f.1)

  not_given : (s : Whole P) (t : ℕ) → is_given s t ≡ false → thread_at s.threads t ≡ None
  not_given s t = by (thread_at s.threads t)
    where
      by : (p : Option (Thread P)) → is_some p ≡ false → p ≡ None
      by None e = refl
      by (Some x) e = absurd cc

  abbrev Once : Whole P → Type 0
  Once s = IsListedOnce s.threads

  -- WHAT IS LET GO

  abbrev Keeps : (Whole P → Plain → Whole P) → Type 0
  Keeps go = (s : Whole P) → Once s → (v : Plain) → Once (go s v)

  thread_once : (go : Whole P → Plain → Whole P) → Keeps go → (s : Whole P) → Once s → (y : Thread P) (l : Life P) → Once (thread_released go s y l)
  thread_once go k s h y (alive p) = h
  thread_once go k s h y over = h
  thread_once go k s h y (owing p) = once_put s.threads h (with_life y (loose p))
  thread_once go k s h y (loose p) = h
  thread_once go k s h y (ended v) = k (record s { threads = with_thread s.threads (with_life y over); heap = without s.heap v }) (once_put s.threads h (with_life y over)) (end_of s.heap v)

  thread_in_once : (go : Whole P → Plain → Whole P) → Keeps go → (s : Whole P) → Once s → (y : Option (Thread P)) → Once (thread_released_in go s y)
  thread_in_once go k s h None = h
  thread_in_once go k s h (Some y) = thread_once go k s h y y.life

  content_once : (go : Whole P → Plain → Whole P) → Keeps go → (s : Whole P) → Once s → (v : Option Plain) → Once (content_gone go s v)
  content_once go k s h None = h
  content_once go k s h (Some v) = k (record s { heap = without s.heap (Own v) }) h (end_of s.heap (Own v))

  share_once : (go : Whole P → Plain → Whole P) → Keeps go → (s : Whole P) → Once s → (n : MutexNo) (x : Shared) (i : ℕ) → Once (share_gone go s n x i)
  share_once go k s h n x zero = content_once go k (record s { mutexes = with_mutex s.mutexes n None }) h x.content
  share_once go k s h n x (suc zero) = content_once go k (record s { mutexes = with_mutex s.mutexes n None }) h x.content
  share_once go k s h n x (suc (suc i)) = h

  share_in_once : (go : Whole P → Plain → Whole P) → Keeps go → (s : Whole P) → Once s → (n : MutexNo) (x : Option Shared) → Once (share_released go s n x)
  share_in_once go k s h n None = h
  share_in_once go k s h n (Some x) = share_once go k s h n x x.shares

  by_once : (k : ℕ) → Keeps (release_by k)
  by_once k s h plain.Nothing = h
  by_once k s h plain.Unit = h
  by_once k s h (plain.Int n) = h
  by_once k s h (plain.Box o) = h
  by_once zero s h (plain.Task t) = h
  by_once (suc k) s h (plain.Task t) = thread_in_once (release_by k) (by_once k) s h (thread_at s.threads t)
  by_once zero s h (plain.Mutex m) = h
  by_once (suc k) s h (plain.Mutex m) = share_in_once (release_by k) (by_once k) s h m (mutex_there s.mutexes m)

  release_once : Keeps release
  release_once s h v = by_once (count_both s.mutexes s.threads) s h v

  -- A STEP

  unless_once : (b : Bool) (d : Option (Stepped P)) → (b ≡ false → OnceLed d) → OnceLed (if b then None else d)
  unless_once true d h = tt
  unless_once false d h = h refl

  released_once : (v : Plain) (d : Option (Stepped P)) → OnceLed d → OnceLed (then_released v d)
  released_once v None h = tt
  released_once v (Some d) h = release_once d.state h v

  nameless_once : (names : Fresh) (d : Option (Stepped P)) → OnceLed d → OnceLed (nameless names d)
  nameless_once names d h = by (is_nameless names)
    where
      by : (b : Bool) → OnceLed (if b then d else None)
      by true = h
      by false = tt

  module _ (ms : Moves P) (s : Whole P) (h : Once s) (y : Thread P) (m : Move P (Life P)) where
    stepped_once : (d : Option Did) → OnceLed (stepped ms s y m d)
    stepped_once None = tt
    stepped_once (Some d) = once_put s.threads h (record { number = y.number; life = settle_life ms (m.plug d.value); slots = d.state.slots })

    alone_once : (a : Act P) → OnceLed (alone_stepped ms s y m a)
    alone_once a = released_once (drops_last a (state_of s y)) (stepped ms s y m (act a (state_of s y))) (stepped_once (act a (state_of s y)))

    start_with_once : (r : P) (u : ℕ) → is_given s u ≡ false → (p : Option Passed) → OnceLed (started_with ms s y m r u p)
    start_with_once r u e None = tt
    start_with_once r u e (Some p) =
        let here : Thread P = record { number = y.number; life = settle_life ms (m.plug (Own (plain.Task u))); slots = p.left } in
        once_more (with_thread s.threads here) (once_put s.threads h here) (record { number = u; life = owing (ms.settle r); slots = p.new }) (given_put s.threads here u (not_given s u e))

    start_once : (names : Fresh) (r : P) (passed : List Value → Option Passed) → OnceLed (started ms s y m names r passed)
    start_once fresh.None r passed = tt
    start_once (fresh.Threads a b) r passed = tt
    start_once (fresh.Mutex n) r passed = tt
    start_once (fresh.Thread u) r passed = unless_once (is_given s u) (started_with ms s y m r u (passed y.slots)) (λ e. start_with_once r u e (passed y.slots))

    join_with_once : (x : Option (Thread P)) (v : Option Value) → OnceLed (joined_with ms s y m x v)
    join_with_once None v = tt
    join_with_once (Some x) None = tt
    join_with_once (Some x) (Some v) = once_put (with_thread s.threads (with_life x over)) (once_put s.threads h (with_life x over)) (record { number = y.number; life = settle_life ms (m.plug v); slots = y.slots })

    join_once : (v : Value) → OnceLed (joined ms s y m v)
    join_once (Own (plain.Task u)) = join_with_once (thread_at s.threads u) (result_at s.threads u)
    join_once (Own plain.Nothing) = tt
    join_once (Own plain.Unit) = tt
    join_once (Own (plain.Int n)) = tt
    join_once (Own (plain.Box o)) = tt
    join_once (Own (plain.Mutex n)) = tt
    join_once (ToSlot i) = tt
    join_once (ToObject o) = tt
    join_once (Held o) = tt

    goes_once : (v : Value) (vs : List Value) → Once (goes_on ms s y m v vs)
    goes_once v vs = once_put s.threads h (record { number = y.number; life = settle_life ms (m.plug v); slots = vs })

    made_once : (names : Fresh) (v : Value) → OnceLed (made ms s y m names v)
    made_once fresh.None v = tt
    made_once (fresh.Thread t) v = tt
    made_once (fresh.Threads a b) v = tt
    made_once (fresh.Mutex n) (Own v) = unless_once (is_some (mutex_at s.mutexes n)) _ (λ _. goes_once (Own (plain.Mutex n)) y.slots)
    made_once (fresh.Mutex n) (ToSlot i) = tt
    made_once (fresh.Mutex n) (ToObject o) = tt
    made_once (fresh.Mutex n) (Held o) = tt

    where_once : (x : Option Shared) (go : Shared → Option (Stepped P)) → ((z : Shared) → OnceLed (go z)) → OnceLed (where_there ms x go)
    where_once None go k = tt
    where_once (Some x) go k = k x

    at_once : (p : Option (MutexNo × List Label)) (go : MutexNo → List Label → Shared → Option (Stepped P)) → ((n : MutexNo) (ls : List Label) (x : Shared) → OnceLed (go n ls x)) → OnceLed (at_mutex ms s p go)
    at_once None go k = tt
    at_once (Some p) go k = where_once (mutex_there s.mutexes p.0) (go p.0 p.1) (k p.0 p.1)

    lock_once : (n : MutexNo) (ls : List Label) (x : Shared) (v : Option Plain) → OnceLed (locked_with ms s y m n ls x v)
    lock_once n ls x None = tt
    lock_once n ls x (Some v) = goes_once unit (Own v ∷ Held n ∷ y.slots)

    back_once : (z : Whole P) → Once z → (n : MutexNo) (v : Plain) (x : Option Shared) → Once (given_back ms z n v x)
    back_once z k n v None = content_once release release_once z k (Some v)
    back_once z k n v (Some x) = k

    unlock_once : (vs : List Value) → OnceLed (unlocked ms s y m vs)
    unlock_once (Own v ∷ Held n ∷ rest) = back_once (goes_on ms s y m unit rest) (goes_once unit rest) n v (mutex_there s.mutexes n)
    unlock_once _ = tt

    -- two new threads, of different names
    two_once : (a : ℕ) (p : P) (first : List Value) (b : ℕ) (q : P) → (a == b) ≡ false → is_given s a ≡ false → is_given s b ≡ false → (z : Option Passed) → OnceLed (two_with ms s y m a p first b q z)
    two_once a p first b q ne e f None = tt
    two_once a p first b q ne e f (Some z) =
        let here : Thread P = record { number = y.number; life = settle_life ms (m.plug unit); slots = z.left } in
        let one : Thread P = record { number = a; life = owing (ms.settle p); slots = first } in
        let two : Thread P = record { number = b; life = owing (ms.settle q); slots = z.new } in
        once_two (with_thread s.threads here) (once_put s.threads h here) one two (given_put s.threads here a (not_given s a e)) (given_put s.threads here b (not_given s b f)) ne
      where
        once_two : (xs : List (Thread P)) → IsListedOnce xs → (u v : Thread P) → thread_at xs u.number ≡ None → thread_at xs v.number ≡ None → (u.number == v.number) ≡ false → IsListedOnce (xs ++ u ∷ v ∷ [])
        once_two [] h u v e f ne = (alone_not v u.number (λ g. eq_cases (λ b. b ≡ false → ⊥) u.number v.number (λ _ k. absurd cc) (λ off k. off (sym g)) ne), (refl, tt))
        once_two (x ∷ xs) h u v e f ne =
            let i = not_this x xs u.number e in
            let j = not_this x xs v.number f in (
              thread_more xs (u ∷ v ∷ []) x.number ∙ ap (λ p. or_else p (thread_at (u ∷ v ∷ []) x.number)) h.0 ∙ eq_cases (λ b. (if b then Some u else thread_at (v ∷ []) x.number) ≡ None) u.number x.number (λ g. absurd (i.0 (sym g))) (λ _. alone_not v x.number (λ g. j.0 (sym g))),
              once_two xs h.1 u v i.1 j.1 ne,
            )

    second_once : (a : ℕ) (p : P) (ds : List Capture) (b : ℕ) (q : P) → (a == b) ≡ false → is_given s a ≡ false → is_given s b ≡ false → (z : Option Passed) → OnceLed (second_of ms s y m a p ds b q z)
    second_once a p ds b q ne e f None = tt
    second_once a p ds b q ne e f (Some z) = two_once a p z.new b q ne e f (pass ds z.left [])

    pair_once : (names : Fresh) (cs : List Capture) (p : P) (ds : List Capture) (q : P) → OnceLed (two_started ms s y m names cs p ds q)
    pair_once fresh.None cs p ds q = tt
    pair_once (fresh.Thread t) cs p ds q = tt
    pair_once (fresh.Mutex n) cs p ds q = tt
    pair_once (fresh.Threads a b) cs p ds q =
        unless_once (a == b || is_given s a || is_given s b) (second_of ms s y m a p ds b q (pass cs y.slots []))
        (λ e. let f = either_false (a == b || is_given s a) (is_given s b) e in
        let g = either_false (a == b) (is_given s a) f.0 in
        second_once a p ds b q g.0 g.1 f.1 (pass cs y.slots []))

    taken_once : (xs : List (Thread P)) → IsListedOnce xs → (p : Option (Thread P)) → IsListedOnce (taken ms xs p)
    taken_once xs k None = k
    taken_once xs k (Some x) = once_put xs k (with_life x over)

    ended_once : (p : Pair) (v w : Option Value) → OnceLed (two_ended ms s y m p v w)
    ended_once p None w = tt
    ended_once p (Some v) None = tt
    ended_once p (Some v) (Some w) =
        once_put (pair_over ms s p) (taken_once (taken ms s.threads (thread_at s.threads p.first)) (taken_once s.threads h (thread_at s.threads p.first)) (thread_at s.threads p.second))
        (record { number = y.number; life = settle_life ms (m.plug unit); slots = y.slots })

    two_join_once : (p : Option Pair) → OnceLed (two_joined ms s y m p)
    two_join_once None = tt
    two_join_once (Some p) = ended_once p (result_at s.threads p.first) (result_at s.threads p.second)

    lone_once : (names : Fresh) (a : Act P) → OnceLed (nameless names (alone_stepped ms s y m a))
    lone_once names a = nameless_once names (alone_stepped ms s y m a) (alone_once a)

    done_once : (names : Fresh) (a : Act P) → OnceLed (done_act ms s y names m a)
    done_once names (do_let v) = lone_once names (do_let v)
    done_once names (do_read w take) = lone_once names (do_read w take)
    done_once names (do_borrow w is_mut) = lone_once names (do_borrow w is_mut)
    done_once names (do_assign w v) = lone_once names (do_assign w v)
    done_once names (do_box v) = lone_once names (do_box v)
    done_once names (do_arith f a b) = lone_once names (do_arith f a b)
    done_once names (do_print v) = lone_once names (do_print v)
    done_once names (do_discard v) = lone_once names (do_discard v)
    done_once names do_drop = lone_once names do_drop
    done_once names (do_end v) = lone_once names (do_end v)
    done_once names (do_finish v) = lone_once names (do_finish v)
    done_once names (do_leave v) = lone_once names (do_leave v)
    done_once names (do_spawn cs r) = start_once names r (λ vs. pass cs vs [])
    done_once names (do_join v) = nameless_once names (joined ms s y m v) (join_once v)
    done_once names (do_mutex v) = made_once names v
    done_once names (do_dup w) = nameless_once names (at_place ms s y w (shared ms s y m)) (at_once (mutex_behind (state_of s y) w) (shared ms s y m) (λ n ls x. goes_once (Own (plain.Mutex n)) y.slots))
    done_once names (do_lock w) = nameless_once names (at_place ms s y w (locked ms s y m)) (at_once (mutex_behind (state_of s y) w) (locked ms s y m) (λ n ls x. lock_once n ls x x.content))
    done_once names do_unlock = nameless_once names (unlocked ms s y m y.slots) (unlock_once y.slots)
    done_once names (do_par cs p ds q) = pair_once names cs p ds q
    done_once names do_par_end = nameless_once names (two_joined ms s y m (pair_of s.pairs y.number)) (two_join_once (pair_of s.pairs y.number))

  moved_once : (ms : Moves P) (s : Whole P) → Once s → (y : Thread P) (names : Fresh) (m : Option (Move P (Life P))) → OnceLed (moved ms s y names m)
  moved_once ms s h y names None = tt
  moved_once ms s h y names (Some m) = done_once ms s h y m names m.act

  step_of_once : (ms : Moves P) (s : Whole P) → Once s → (names : Fresh) (y : Option (Thread P)) → OnceLed (step_of ms s names y)
  step_of_once ms s h names None = tt
  step_of_once ms s h names (Some y) = moved_once ms s h y names (life_move ms y.life)

  pub step_once : (ms : Moves P) (s : Whole P) → Once s → (t : ℕ) (names : Fresh) → OnceLed (step ms s t names)
  step_once ms s h t names = step_of_once ms s h names (thread_at s.threads t)

  then_once : (d : Option (Stepped P)) (f : Whole P → Option (Stepped P)) → OnceLed d → ((s : Whole P) → Once s → OnceLed (f s)) → OnceLed (go_on d f)
  then_once None f h k = tt
  then_once (Some d) f h k = by (f d.state) (k d.state h)
    where
      by : (e : Option (Stepped P)) → OnceLed e → OnceLed (then_labels d.labels e)
      by None g = tt
      by (Some e) g = g

  pub run_once : (ms : Moves P) (order : List Turn) (s : Whole P) → Once s → OnceLed (run ms s order)
  run_once ms [] s h = h
  run_once ms (t ∷ ts) s h = then_once (step ms s t.0 t.1) (λ z. run ms z ts) (step_once ms s h t.0 t.1) (λ z k. run_once ms ts z k)

  pub once_stays : (ms : Moves P) → OnceStays ms
  once_stays ms s h order = run_once ms order s h
