-- Alike moves give alike steps and runs, whatever the places of the threads are.
use Rattle.std.proofs.Common.{◌≡◌, ℕ, zero, suc, ◌==◌, Bool, true, false, List, [], ◌∷◌, ◌++◌, length, Option, Some, None, refl, ap, ◌∙◌, subst}
use Rattle.std.specs.Prelude.{⊤, ◌+◌, ◌&&◌, ◌||◌, is_some, if◌then◌else◌}
use Rattle.fr_base.specs.declared.label.Plain.{Plain}
use Rattle.fr_base.specs.declared.label.Plain.TheVariants as plain_value
use Rattle.fr_base.specs.declared.label.Label.{Label}
use Rattle.fr_base.specs.declared.name.MutexNo.{MutexNo}
use Rattle.fr_base.specs.declared.place.Lval.{Lval}
use Rattle.fr_base.specs.declared.step.Fresh.{Fresh}
use Rattle.fr_base.specs.declared.step.Fresh.TheVariants as fresh
use Rattle.fr_base.specs.declared.step.Wait.TheVariants as wait
use Rattle.fr_base.specs.declared.step.Ending3.{Ending3}
use Rattle.fr_base.specs.declared.step.Ending3.TheVariants as ending
use Rattle.fr_plain.specs.declared.value.Value.{Value}
use Rattle.fr_plain.specs.declared.value.Value.TheVariants.{Own, ToSlot, ToObject, Held}
use Rattle.fr_plain.specs.Heap.{Heap}
use Rattle.fr_plain.specs.State.{State, without}
use Rattle.fr_plain.specs.MachineActs.{Capture, Act, carry, do_let, do_read, do_borrow, do_assign, do_box, do_arith, do_print, do_discard, do_drop, do_end, do_spawn, do_join, do_finish, do_leave, do_mutex, do_dup, do_lock, do_unlock, do_par, do_par_end, Did, act, unit, end_of, drops_last}
use Rattle.fr_plain.specs.MachineThreads.{Now, going, constant, temporary, on_value, Move, next, alone, Moves, Life, alive, over, owing, loose, ended, settle_life, life_move, Passed, pass, Thread, Shared, Mutex, Pair, Whole, mutex_at, mutex_there, with_mutex, pair_of, without_pair, thread_at, with_thread, is_given, result_of_life, result_in, result_at, with_life, is_over, all_over, state_of, value_gone, thread_released, thread_released_in, content_gone, share_gone, share_released, release_by, count_both, release}
use Rattle.fr_plain.specs.Machine.{Stepped, Turn, prints, stepped, then_released, alone_stepped, started_with, started, joined_with, joined, is_nameless, nameless, mutex_behind, goes_on, made, where_there, at_mutex, at_place, shared, locked_with, locked, given_back, unlocked, two_with, second_of, two_started, taken, pair_over, two_ended, two_joined, done_act, moved, step_of, step, unless_some, unless_both, content_waits, join_waits, lock_waits, pair_waits, act_waits, move_waits, waits_for, all_wait, Takes, no_name, a_thread, two_threads, a_mutex, takes_of, takes_name, has_ended, name_used, refused_wait, refused_names, refused_of, refused, then_labels, go_on, run, start, ending_of}
use Rattle.fr_plain.specs.Alike.{value_of, LivesAlike, both_alive, both_owing, both_loose, both_ended, both_over, ThreadsAlike, AllAlike, Alike, SteppedAlike, ActsAlike, same_act, same_start, same_starts, MovesAlike, NextAlike, both_done, both_going, PlacesAlike}

module _ {P Q : Type 0} (R : P → Q → Type 0) where
  -- LISTS OF THREADS

  -- both are there, or neither
  abbrev pub SameFound : Option (Thread P) → Option (Thread Q) → Type 0
  SameFound None None = ⊤
  SameFound (Some x) (Some y) = ThreadsAlike R x y
  SameFound _ _ = ⊥

  picked : (b c : Bool) (x : Thread P) (y : Thread Q) (p : Option (Thread P)) (q : Option (Thread Q)) → b ≡ c → ThreadsAlike R x y → SameFound p q → SameFound (if b then Some x else p) (if c then Some y else q)
  picked true true x y p q e h f = h
  picked false false x y p q e h f = f
  picked true false x y p q e h f = absurd cc
  picked false true x y p q e h f = absurd cc

  -- the thread of a number
  pub same_found : (xs : List (Thread P)) (ys : List (Thread Q)) → AllAlike R xs ys → (t : ℕ) → SameFound (thread_at xs t) (thread_at ys t)
  same_found [] [] h t = tt
  same_found [] (y ∷ ys) h t = absurd h
  same_found (x ∷ xs) [] h t = absurd h
  same_found (x ∷ xs) (y ∷ ys) h t = picked (x.number == t) (y.number == t) x y (thread_at xs t) (thread_at ys t) (ap (λ n. n == t) h.0.number) h.0 (same_found xs ys h.1 t)

  put_first : (b c : Bool) (x u : Thread P) (y v : Thread Q) (xs us : List (Thread P)) (ys vs : List (Thread Q)) → b ≡ c → ThreadsAlike R x y → ThreadsAlike R u v → AllAlike R xs ys → AllAlike R us vs
      → AllAlike R (if b then u ∷ xs else x ∷ us) (if c then v ∷ ys else y ∷ vs)
  put_first true true x u y v xs us ys vs e h k f g = (k, f)
  put_first false false x u y v xs us ys vs e h k f g = (h, g)
  put_first true false x u y v xs us ys vs e h k f g = absurd cc
  put_first false true x u y v xs us ys vs e h k f g = absurd cc

  -- another thread under its number
  pub same_put : (xs : List (Thread P)) (ys : List (Thread Q)) (u : Thread P) (v : Thread Q) → AllAlike R xs ys → ThreadsAlike R u v → AllAlike R (with_thread xs u) (with_thread ys v)
  same_put [] [] u v h k = tt
  same_put [] (y ∷ ys) u v h k = absurd h
  same_put (x ∷ xs) [] u v h k = absurd h
  same_put (x ∷ xs) (y ∷ ys) u v h k =
      put_first (x.number == u.number) (y.number == v.number) x u y v xs (with_thread xs u) ys (with_thread ys v) (ap (λ n. n == u.number) h.0.number ∙ ap (λ n. y.number == n) k.number) h.0 k h.1 (same_put xs ys u v h.1 k)

  -- one thread more
  pub same_more : (xs : List (Thread P)) (ys : List (Thread Q)) (u : Thread P) (v : Thread Q) → AllAlike R xs ys → ThreadsAlike R u v → AllAlike R (xs ++ u ∷ []) (ys ++ v ∷ [])
  same_more [] [] u v h k = (k, tt)
  same_more [] (y ∷ ys) u v h k = absurd h
  same_more (x ∷ xs) [] u v h k = absurd h
  same_more (x ∷ xs) (y ∷ ys) u v h k = (h.0, same_more xs ys u v h.1 k)

  -- two threads more
  pub same_two : (xs : List (Thread P)) (ys : List (Thread Q)) (u v : Thread P) (w z : Thread Q) → AllAlike R xs ys → ThreadsAlike R u w → ThreadsAlike R v z → AllAlike R (xs ++ u ∷ v ∷ []) (ys ++ w ∷ z ∷ [])
  same_two [] [] u v w z h k l = (k, (l, tt))
  same_two [] (y ∷ ys) u v w z h k l = absurd h
  same_two (x ∷ xs) [] u v w z h k l = absurd h
  same_two (x ∷ xs) (y ∷ ys) u v w z h k l = (h.0, same_two xs ys u v w z h.1 k l)

  same_length : (xs : List (Thread P)) (ys : List (Thread Q)) → AllAlike R xs ys → length xs ≡ length ys
  same_length [] [] h = refl
  same_length [] (y ∷ ys) h = absurd h
  same_length (x ∷ xs) [] h = absurd h
  same_length (x ∷ xs) (y ∷ ys) h = ap suc (same_length xs ys h.1)

  -- RESULTS

  life_result : {l : Life P} {c : Life Q} → LivesAlike R l c → result_of_life l ≡ result_of_life c
  life_result (both_alive h) = refl
  life_result (both_owing h) = refl
  life_result (both_loose h) = refl
  life_result both_ended = refl
  life_result both_over = refl

  same_result : (p : Option (Thread P)) (q : Option (Thread Q)) → SameFound p q → result_in p ≡ result_in q
  same_result None None h = refl
  same_result None (Some y) h = absurd h
  same_result (Some x) None h = absurd h
  same_result (Some x) (Some y) h = life_result h.life

  same_given : (p : Option (Thread P)) (q : Option (Thread Q)) → SameFound p q → is_some p ≡ is_some q
  same_given None None h = refl
  same_given None (Some y) h = absurd h
  same_given (Some x) None h = absurd h
  same_given (Some x) (Some y) h = refl

  -- WHAT GOES WITH A DROPPED VALUE

  abbrev SameGo : (Whole P → Plain → Whole P) → (Whole Q → Plain → Whole Q) → Type 0
  SameGo f g = (s : Whole P) (c : Whole Q) → Alike R s c → (v : Plain) → Alike R (f s v) (g c v)

  module _ (f : Whole P → Plain → Whole P) (g : Whole Q → Plain → Whole Q) (go : SameGo f g) where
    same_gone : (s : Whole P) (c : Whole Q) → Alike R s c → (v : Value) → Alike R (value_gone f s v) (value_gone g c v)
    same_gone s c h v =
        subst (λ w. Alike R (value_gone f s v) (g (record c { heap = without c.heap v }) w)) (ap (λ z. end_of z v) h.heap)
        (go (record s { heap = without s.heap v }) (record c { heap = without c.heap v }) (record { threads = h.threads; heap = ap (λ z. without z v) h.heap; mutexes = h.mutexes; pairs = h.pairs; output = h.output }) (end_of s.heap v))

    same_released : (s : Whole P) (c : Whole Q) → Alike R s c → (x : Thread P) (y : Thread Q) → ThreadsAlike R x y → {l : Life P} {m : Life Q} → LivesAlike R l m → Alike R (thread_released f s x l) (thread_released g c y m)
    same_released s c h x y k (both_alive e) = h
    same_released s c h x y k (both_loose e) = h
    same_released s c h x y k both_over = h
    same_released s c h x y k {l = owing p} {m = owing q} (both_owing e) = record {
      threads = same_put s.threads c.threads (with_life x (loose p)) (with_life y (loose q)) h.threads (record { number = k.number; life = both_loose e; slots = k.slots });
      heap = h.heap;
      mutexes = h.mutexes;
      pairs = h.pairs;
      output = h.output;
    }
    same_released s c h x y k (both_ended {v = v}) =
        same_gone (record s { threads = with_thread s.threads (with_life x over) }) (record c { threads = with_thread c.threads (with_life y over) })
        (record { threads = same_put s.threads c.threads (with_life x over) (with_life y over) h.threads (record { number = k.number; life = both_over; slots = k.slots }); heap = h.heap; mutexes = h.mutexes; pairs = h.pairs; output = h.output }) v

    same_released_in : (s : Whole P) (c : Whole Q) → Alike R s c → (p : Option (Thread P)) (q : Option (Thread Q)) → SameFound p q → Alike R (thread_released_in f s p) (thread_released_in g c q)
    same_released_in s c h None None k = h
    same_released_in s c h None (Some y) k = absurd k
    same_released_in s c h (Some x) None k = absurd k
    same_released_in s c h (Some x) (Some y) k = same_released s c h x y k k.life

    -- a mutex of both states
    same_with : (s : Whole P) (c : Whole Q) → Alike R s c → (n : MutexNo) (new : Option Shared) → Alike R (record s { mutexes = with_mutex s.mutexes n new }) (record c { mutexes = with_mutex c.mutexes n new })
    same_with s c h n new = record { threads = h.threads; heap = h.heap; mutexes = ap (λ ms. with_mutex ms n new) h.mutexes; pairs = h.pairs; output = h.output }

    same_content : (s : Whole P) (c : Whole Q) → Alike R s c → (v : Option Plain) → Alike R (content_gone f s v) (content_gone g c v)
    same_content s c h None = h
    same_content s c h (Some v) = same_gone s c h (Own v)

    same_share : (s : Whole P) (c : Whole Q) → Alike R s c → (n : MutexNo) (x : Shared) (k : ℕ) → Alike R (share_gone f s n x k) (share_gone g c n x k)
    same_share s c h n x (suc (suc k)) = same_with s c h n (Some (record x { shares = suc k }))
    same_share s c h n x (suc zero) = same_content (record s { mutexes = with_mutex s.mutexes n None }) (record c { mutexes = with_mutex c.mutexes n None }) (same_with s c h n None) x.content
    same_share s c h n x zero = same_content (record s { mutexes = with_mutex s.mutexes n None }) (record c { mutexes = with_mutex c.mutexes n None }) (same_with s c h n None) x.content

    same_shares : (s : Whole P) (c : Whole Q) → Alike R s c → (n : MutexNo) (x : Option Shared) → Alike R (share_released f s n x) (share_released g c n x)
    same_shares s c h n None = h
    same_shares s c h n (Some x) = same_share s c h n x x.shares

    same_task : (s : Whole P) (c : Whole Q) → Alike R s c → (t : ℕ) → Alike R (thread_released_in f s (thread_at s.threads t)) (thread_released_in g c (thread_at c.threads t))
    same_task s c h t = same_released_in s c h (thread_at s.threads t) (thread_at c.threads t) (same_found s.threads c.threads h.threads t)

    same_mutexes : (s : Whole P) (c : Whole Q) → Alike R s c → (n : MutexNo) → Alike R (share_released f s n (mutex_there s.mutexes n)) (share_released g c n (mutex_there c.mutexes n))
    same_mutexes s c h n = subst (λ ms. Alike R (share_released f s n (mutex_there s.mutexes n)) (share_released g c n (mutex_there ms n))) h.mutexes (same_shares s c h n (mutex_there s.mutexes n))

  same_go : (n : ℕ) → SameGo (release_by n) (release_by n)
  same_go n s c h plain_value.Nothing = h
  same_go n s c h plain_value.Unit = h
  same_go n s c h (plain_value.Int i) = h
  same_go n s c h (plain_value.Box o) = h
  same_go zero s c h (plain_value.Task t) = h
  same_go (suc n) s c h (plain_value.Task t) = same_task (release_by n) (release_by n) (same_go n) s c h t
  same_go zero s c h (plain_value.Mutex m) = h
  same_go (suc n) s c h (plain_value.Mutex m) = same_mutexes (release_by n) (release_by n) (same_go n) s c h m

  same_count : (ms : List Mutex) (xs : List (Thread P)) (ys : List (Thread Q)) → AllAlike R xs ys → count_both ms xs ≡ count_both ms ys
  same_count [] xs ys h = same_length xs ys h
  same_count (m ∷ ms) xs ys h = ap suc (same_count ms xs ys h)

  pub same_release : SameGo release release
  same_release s c h v =
      subst (λ n. Alike R (release s v) (release_by n c v)) (same_count s.mutexes s.threads c.threads h.threads ∙ ap (λ ms. count_both ms c.threads) h.mutexes) (same_go (count_both s.mutexes s.threads) s c h v)

  -- A STEP

  same_state : (s : Whole P) (c : Whole Q) (x : Thread P) (y : Thread Q) → Alike R s c → ThreadsAlike R x y → state_of s x ≡ state_of c y
  same_state s c x y h k =
      ap (λ (n : ℕ). record { thread = n; slots = x.slots; heap = s.heap }) k.number
      ∙ ap (λ (vs : List Value). record { thread = y.number; slots = vs; heap = s.heap }) k.slots
      ∙ ap (λ (z : Heap). record { thread = y.number; slots = y.slots; heap = z }) h.heap

  then_same : (p : Option (Stepped P)) (q : Option (Stepped Q)) (f : Whole P → Option (Stepped P)) (g : Whole Q → Option (Stepped Q)) → SteppedAlike R p q → ((s : Whole P) (c : Whole Q) → Alike R s c → SteppedAlike R (f s) (g c)) → SteppedAlike R (go_on p f) (go_on q g)
  then_same None None f g e h = tt
  then_same None (Some b) f g e h = absurd e
  then_same (Some a) None f g e h = absurd e
  then_same (Some a) (Some b) f g e h = by (f a.state) (g b.state) (h a.state b.state e.1)
    where
      by : (p : Option (Stepped P)) (q : Option (Stepped Q)) → SteppedAlike R p q → SteppedAlike R (then_labels a.labels p) (then_labels b.labels q)
      by None None e2 = tt
      by None (Some d) e2 = absurd e2
      by (Some d) None e2 = absurd e2
      by (Some d1) (Some d2) e2 = (ap (λ l. l ++ d1.labels) e.0 ∙ ap (λ l. b.labels ++ l) e2.0, e2.1)

module _ {P Q : Type 0} (R : P → Q → Type 0) (ms : Moves P) (ns : Moves Q) where
  module _ (s : Whole P) (c : Whole Q) (x : Thread P) (y : Thread Q) (m : Move P (Life P)) (n : Move Q (Life Q)) (h : Alike R s c) (k : ThreadsAlike R x y) (fits : (v : Value) → LivesAlike R (settle_life ms (m.plug v)) (settle_life ns (n.plug v))) where
    same_stepped : (d : Option Did) → SteppedAlike R (stepped ms s x m d) (stepped ns c y n d)
    same_stepped None = tt
    same_stepped (Some d) = (
      refl,
      record {
        threads = same_put R s.threads c.threads (record { number = x.number; life = settle_life ms (m.plug d.value); slots = d.state.slots }) (record { number = y.number; life = settle_life ns (n.plug d.value); slots = d.state.slots }) h.threads (record { number = k.number; life = fits d.value; slots = refl });
        heap = refl;
        mutexes = h.mutexes;
        pairs = h.pairs;
        output = ap (λ o. o ++ prints d.labels) h.output;
      },
    )

    same_then : (t : Plain) (p : Option (Stepped P)) (q : Option (Stepped Q)) → SteppedAlike R p q → SteppedAlike R (then_released t p) (then_released t q)
    same_then t None None e = tt
    same_then t None (Some b) e = absurd e
    same_then t (Some a) None e = absurd e
    same_then t (Some a) (Some b) e = (e.0, same_release R a.state b.state e.1 t)

    same_alone : (a : Act P) (b : Act Q) → ((z : State) → act a z ≡ act b z) → ((z : State) → drops_last a z ≡ drops_last b z) → SteppedAlike R (alone_stepped ms s x m a) (alone_stepped ns c y n b)
    same_alone a b e f =
        let z = state_of s x in
        let w = state_of c y in
        subst (λ t. SteppedAlike R (alone_stepped ms s x m a) (then_released t (stepped ns c y n (act b w)))) (f z ∙ ap (drops_last b) (same_state R s c x y h k))
        (subst (λ d. SteppedAlike R (alone_stepped ms s x m a) (then_released (drops_last a z) (stepped ns c y n d))) (e z ∙ ap (act b) (same_state R s c x y h k))
        (same_then (drops_last a z) (stepped ms s x m (act a z)) (stepped ns c y n (act a z)) (same_stepped (act a z))))

    -- starting a thread
    same_started_with : (r : P) (body : Q) (u : ℕ) → R (ms.settle r) (ns.settle body) → (p : Option Passed) → SteppedAlike R (started_with ms s x m r u p) (started_with ns c y n body u p)
    same_started_with r body u f None = tt
    same_started_with r body u f (Some p) = (
      refl,
      record {
        threads = same_more R (with_thread s.threads (record { number = x.number; life = settle_life ms (m.plug (Own (plain_value.Task u))); slots = p.left })) (with_thread c.threads (record { number = y.number; life = settle_life ns (n.plug (Own (plain_value.Task u))); slots = p.left })) (record { number = u; life = owing (ms.settle r); slots = p.new }) (record { number = u; life = owing (ns.settle body); slots = p.new })
            (same_put R s.threads c.threads (record { number = x.number; life = settle_life ms (m.plug (Own (plain_value.Task u))); slots = p.left }) (record { number = y.number; life = settle_life ns (n.plug (Own (plain_value.Task u))); slots = p.left }) h.threads (record { number = k.number; life = fits (Own (plain_value.Task u)); slots = refl }))
            (record { number = refl; life = both_owing f; slots = refl });
        heap = h.heap;
        mutexes = h.mutexes;
        pairs = h.pairs;
        output = h.output;
      },
    )

    unless_given : (a b : Bool) (p : Option (Stepped P)) (q : Option (Stepped Q)) → a ≡ b → SteppedAlike R p q → SteppedAlike R (if a then None else p) (if b then None else q)
    unless_given true true p q e f = tt
    unless_given false false p q e f = f
    unless_given true false p q e f = absurd cc
    unless_given false true p q e f = absurd cc

    same_started : (names : Fresh) (r : P) (body : Q) → R (ms.settle r) (ns.settle body) → (passed : List Value → Option Passed) → SteppedAlike R (started ms s x m names r passed) (started ns c y n names body passed)
    same_started (fresh.Thread u) r body f passed =
        unless_given (is_given s u) (is_given c u) (started_with ms s x m r u (passed x.slots)) (started_with ns c y n body u (passed y.slots)) (same_given R (thread_at s.threads u) (thread_at c.threads u) (same_found R s.threads c.threads h.threads u))
        (subst (λ vs. SteppedAlike R (started_with ms s x m r u (passed x.slots)) (started_with ns c y n body u (passed vs))) k.slots (same_started_with r body u f (passed x.slots)))
    same_started fresh.None r body f passed = tt
    same_started (fresh.Threads t u) r body f passed = tt
    same_started (fresh.Mutex u) r body f passed = tt

    -- joining a thread
    same_joined_with : (p : Option (Thread P)) (q : Option (Thread Q)) → SameFound R p q → (v : Option Value) → SteppedAlike R (joined_with ms s x m p v) (joined_with ns c y n q v)
    same_joined_with None None e v = tt
    same_joined_with None (Some b) e v = absurd e
    same_joined_with (Some a) None e v = absurd e
    same_joined_with (Some a) (Some b) e None = tt
    same_joined_with (Some a) (Some b) e (Some v) = (
      refl,
      record {
        threads = same_put R (with_thread s.threads (with_life a over)) (with_thread c.threads (with_life b over)) (record { number = x.number; life = settle_life ms (m.plug v); slots = x.slots }) (record { number = y.number; life = settle_life ns (n.plug v); slots = y.slots })
            (same_put R s.threads c.threads (with_life a over) (with_life b over) h.threads (record { number = e.number; life = both_over; slots = e.slots }))
            (record { number = k.number; life = fits v; slots = k.slots });
        heap = h.heap;
        mutexes = h.mutexes;
        pairs = h.pairs;
        output = h.output;
      },
    )

    same_joined : (v : Value) → SteppedAlike R (joined ms s x m v) (joined ns c y n v)
    same_joined (Own (plain_value.Task u)) =
        let f = same_found R s.threads c.threads h.threads u in
        subst (λ z. SteppedAlike R (joined ms s x m (Own (plain_value.Task u))) (joined_with ns c y n (thread_at c.threads u) z)) (same_result R (thread_at s.threads u) (thread_at c.threads u) f)
        (same_joined_with (thread_at s.threads u) (thread_at c.threads u) f (result_at s.threads u))
    same_joined (Own plain_value.Nothing) = tt
    same_joined (Own plain_value.Unit) = tt
    same_joined (Own (plain_value.Int i)) = tt
    same_joined (Own (plain_value.Box o)) = tt
    same_joined (Own (plain_value.Mutex o)) = tt
    same_joined (ToSlot i) = tt
    same_joined (ToObject o) = tt
    same_joined (Held o) = tt

    -- MUTEXES

    same_goes : (v : Value) (slots : List Value) → Alike R (goes_on ms s x m v slots) (goes_on ns c y n v slots)
    same_goes v slots = record {
      threads = same_put R s.threads c.threads (record { number = x.number; life = settle_life ms (m.plug v); slots = slots }) (record { number = y.number; life = settle_life ns (n.plug v); slots = slots }) h.threads (record { number = k.number; life = fits v; slots = refl });
      heap = h.heap;
      mutexes = h.mutexes;
      pairs = h.pairs;
      output = h.output;
    }

    -- with other mutexes
    same_beside : (v : Value) (slots : List Value) (g : List Mutex → List Mutex) → Alike R (record (goes_on ms s x m v slots) { mutexes = g s.mutexes }) (record (goes_on ns c y n v slots) { mutexes = g c.mutexes })
    same_beside v slots g = let z = same_goes v slots in record { threads = z.threads; heap = z.heap; mutexes = ap g h.mutexes; pairs = z.pairs; output = z.output }

    same_made : (names : Fresh) (v : Value) → SteppedAlike R (made ms s x m names v) (made ns c y n names v)
    same_made (fresh.Mutex u) (Own v) =
        let new : List Mutex → List Mutex = λ l. l ++ record { number = u; there = Some (record { content = Some v; shares = 1 }) } ∷ [] in
        unless_given (is_some (mutex_at s.mutexes u)) (is_some (mutex_at c.mutexes u)) (Some (record { state = record (goes_on ms s x m (Own (plain_value.Mutex u)) x.slots) { mutexes = new s.mutexes }; labels = [] })) (Some (record { state = record (goes_on ns c y n (Own (plain_value.Mutex u)) y.slots) { mutexes = new c.mutexes }; labels = [] }))
        (ap (λ l. is_some (mutex_at l u)) h.mutexes)
        (refl, subst (λ vs. Alike R (record (goes_on ms s x m (Own (plain_value.Mutex u)) x.slots) { mutexes = new s.mutexes }) (record (goes_on ns c y n (Own (plain_value.Mutex u)) vs) { mutexes = new c.mutexes })) k.slots (same_beside (Own (plain_value.Mutex u)) x.slots new))
    same_made (fresh.Mutex u) (ToSlot i) = tt
    same_made (fresh.Mutex u) (ToObject o) = tt
    same_made (fresh.Mutex u) (Held o) = tt
    same_made fresh.None v = tt
    same_made (fresh.Thread t) v = tt
    same_made (fresh.Threads t u) v = tt

    -- at the mutex of a place
    abbrev SameAt : (MutexNo → List Label → Shared → Option (Stepped P)) → (MutexNo → List Label → Shared → Option (Stepped Q)) → Type 0
    SameAt f g = (u : MutexNo) (ls : List Label) (z : Shared) → SteppedAlike R (f u ls z) (g u ls z)

    same_where : (f : MutexNo → List Label → Shared → Option (Stepped P)) (g : MutexNo → List Label → Shared → Option (Stepped Q)) → SameAt f g → (u : MutexNo) (ls : List Label) (z : Option Shared) → SteppedAlike R (where_there ms z (f u ls)) (where_there ns z (g u ls))
    same_where f g e u ls None = tt
    same_where f g e u ls (Some z) = e u ls z

    same_at_mutex : (f : MutexNo → List Label → Shared → Option (Stepped P)) (g : MutexNo → List Label → Shared → Option (Stepped Q)) → SameAt f g → (p : Option (MutexNo × List Label)) → SteppedAlike R (at_mutex ms s p f) (at_mutex ns c p g)
    same_at_mutex f g e None = tt
    same_at_mutex f g e (Some p) = subst (λ l. SteppedAlike R (at_mutex ms s (Some p) f) (where_there ns (mutex_there l p.0) (g p.0 p.1))) h.mutexes (same_where f g e p.0 p.1 (mutex_there s.mutexes p.0))

    same_at_place : (w : Lval) (f : MutexNo → List Label → Shared → Option (Stepped P)) (g : MutexNo → List Label → Shared → Option (Stepped Q)) → SameAt f g → SteppedAlike R (at_place ms s x w f) (at_place ns c y w g)
    same_at_place w f g e = subst (λ z. SteppedAlike R (at_place ms s x w f) (at_mutex ns c (mutex_behind z w) g)) (same_state R s c x y h k) (same_at_mutex f g e (mutex_behind (state_of s x) w))

    same_shared : SameAt (shared ms s x m) (shared ns c y n)
    same_shared u ls z =
        let new : List Mutex → List Mutex = λ l. with_mutex l u (Some (record z { shares = z.shares + 1 })) in
        (refl, subst (λ vs. Alike R (record (goes_on ms s x m (Own (plain_value.Mutex u)) x.slots) { mutexes = new s.mutexes }) (record (goes_on ns c y n (Own (plain_value.Mutex u)) vs) { mutexes = new c.mutexes })) k.slots (same_beside (Own (plain_value.Mutex u)) x.slots new))

    same_locked : SameAt (locked ms s x m) (locked ns c y n)
    same_locked u ls z = by z.content
      where
        by : (v : Option Plain) → SteppedAlike R (locked_with ms s x m u ls z v) (locked_with ns c y n u ls z v)
        by None = tt
        by (Some v) =
            let new : List Mutex → List Mutex = λ l. with_mutex l u (Some (record z { content = None })) in
            (refl, subst (λ vs. Alike R (record (goes_on ms s x m unit (Own v ∷ Held u ∷ x.slots)) { mutexes = new s.mutexes }) (record (goes_on ns c y n unit (Own v ∷ Held u ∷ vs)) { mutexes = new c.mutexes })) k.slots (same_beside unit (Own v ∷ Held u ∷ x.slots) new))

    same_given_back : (a : Whole P) (b : Whole Q) → Alike R a b → (u : MutexNo) (v : Plain) (z : Option Shared) → Alike R (given_back ms a u v z) (given_back ns b u v z)
    same_given_back a b e u v (Some z) = record { threads = e.threads; heap = e.heap; mutexes = ap (λ l. with_mutex l u (Some (record z { content = Some v }))) e.mutexes; pairs = e.pairs; output = e.output }
    same_given_back a b e u v None = same_gone R release release (same_release R) a b e (Own v)

    same_unlocked : (slots : List Value) → SteppedAlike R (unlocked ms s x m slots) (unlocked ns c y n slots)
    same_unlocked (Own v ∷ Held u ∷ rest) =
        (refl, subst (λ l. Alike R (given_back ms (goes_on ms s x m unit rest) u v (mutex_there s.mutexes u)) (given_back ns (goes_on ns c y n unit rest) u v (mutex_there l u))) h.mutexes (same_given_back (goes_on ms s x m unit rest) (goes_on ns c y n unit rest) (same_goes unit rest) u v (mutex_there s.mutexes u)))
    same_unlocked _ = tt

    -- PAIRS

    same_two_with : (a : ℕ) (p : P) (p2 : Q) → R (ms.settle p) (ns.settle p2) → (first : List Value) (b : ℕ) (q : P) (q2 : Q) → R (ms.settle q) (ns.settle q2) → (z : Option Passed) → SteppedAlike R (two_with ms s x m a p first b q z) (two_with ns c y n a p2 first b q2 z)
    same_two_with a p p2 e first b q q2 f None = tt
    same_two_with a p p2 e first b q q2 f (Some z) = (
      refl,
      record {
        threads = same_two R (with_thread s.threads (record { number = x.number; life = settle_life ms (m.plug unit); slots = z.left })) (with_thread c.threads (record { number = y.number; life = settle_life ns (n.plug unit); slots = z.left })) (record { number = a; life = owing (ms.settle p); slots = first }) (record { number = b; life = owing (ms.settle q); slots = z.new }) (record { number = a; life = owing (ns.settle p2); slots = first }) (record { number = b; life = owing (ns.settle q2); slots = z.new })
            (same_put R s.threads c.threads (record { number = x.number; life = settle_life ms (m.plug unit); slots = z.left }) (record { number = y.number; life = settle_life ns (n.plug unit); slots = z.left }) h.threads (record { number = k.number; life = fits unit; slots = refl }))
            (record { number = refl; life = both_owing e; slots = refl }) (record { number = refl; life = both_owing f; slots = refl });
        heap = h.heap;
        mutexes = h.mutexes;
        pairs = ap (λ (t : ℕ). record { parent = t; first = a; second = b } ∷ s.pairs) k.number ∙ ap (λ (l : List Pair). record { parent = y.number; first = a; second = b } ∷ l) h.pairs;
        output = h.output;
      },
    )

    same_second : (a : ℕ) (p : P) (p2 : Q) → R (ms.settle p) (ns.settle p2) → (ds : List Capture) (b : ℕ) (q : P) (q2 : Q) → R (ms.settle q) (ns.settle q2) → (z : Option Passed) → SteppedAlike R (second_of ms s x m a p ds b q z) (second_of ns c y n a p2 ds b q2 z)
    same_second a p p2 e ds b q q2 f None = tt
    same_second a p p2 e ds b q q2 f (Some z) = same_two_with a p p2 e z.new b q q2 f (pass ds z.left [])

    both_given : (a : ℕ) → is_given s a ≡ is_given c a
    both_given a = same_given R (thread_at s.threads a) (thread_at c.threads a) (same_found R s.threads c.threads h.threads a)

    same_two_started : (names : Fresh) (cs : List Capture) (p : P) (p2 : Q) → R (ms.settle p) (ns.settle p2) → (ds : List Capture) (q : P) (q2 : Q) → R (ms.settle q) (ns.settle q2) → SteppedAlike R (two_started ms s x m names cs p ds q) (two_started ns c y n names cs p2 ds q2)
    same_two_started (fresh.Threads a b) cs p p2 e ds q q2 f =
        unless_given (a == b || is_given s a || is_given s b) (a == b || is_given c a || is_given c b) (second_of ms s x m a p ds b q (pass cs x.slots [])) (second_of ns c y n a p2 ds b q2 (pass cs y.slots []))
        (ap (λ z. a == b || z || is_given s b) (both_given a) ∙ ap (λ z. a == b || is_given c a || z) (both_given b))
        (subst (λ vs. SteppedAlike R (second_of ms s x m a p ds b q (pass cs x.slots [])) (second_of ns c y n a p2 ds b q2 (pass cs vs []))) k.slots (same_second a p p2 e ds b q q2 f (pass cs x.slots [])))
    same_two_started fresh.None cs p p2 e ds q q2 f = tt
    same_two_started (fresh.Thread a) cs p p2 e ds q q2 f = tt
    same_two_started (fresh.Mutex a) cs p p2 e ds q q2 f = tt

    same_taken : (xs : List (Thread P)) (ys : List (Thread Q)) → AllAlike R xs ys → (p : Option (Thread P)) (q : Option (Thread Q)) → SameFound R p q → AllAlike R (taken ms xs p) (taken ns ys q)
    same_taken xs ys e None None f = e
    same_taken xs ys e None (Some b) f = absurd f
    same_taken xs ys e (Some a) None f = absurd f
    same_taken xs ys e (Some a) (Some b) f = same_put R xs ys (with_life a over) (with_life b over) e (record { number = f.number; life = both_over; slots = f.slots })

    same_two_ended : (p : Pair) (v u : Option Value) → SteppedAlike R (two_ended ms s x m p v u) (two_ended ns c y n p v u)
    same_two_ended p None u = tt
    same_two_ended p (Some v) None = tt
    same_two_ended p (Some v) (Some u) = (
      refl,
      record {
        threads = same_put R (pair_over ms s p) (pair_over ns c p) (record { number = x.number; life = settle_life ms (m.plug unit); slots = x.slots }) (record { number = y.number; life = settle_life ns (n.plug unit); slots = y.slots })
            (same_taken (taken ms s.threads (thread_at s.threads p.first)) (taken ns c.threads (thread_at c.threads p.first)) (same_taken s.threads c.threads h.threads (thread_at s.threads p.first) (thread_at c.threads p.first) (same_found R s.threads c.threads h.threads p.first)) (thread_at s.threads p.second) (thread_at c.threads p.second) (same_found R s.threads c.threads h.threads p.second))
            (record { number = k.number; life = fits unit; slots = k.slots });
        heap = h.heap;
        mutexes = h.mutexes;
        pairs = ap (λ l. without_pair l x.number) h.pairs ∙ ap (λ t. without_pair c.pairs t) k.number;
        output = h.output;
      },
    )

    result_both : (t : ℕ) → result_at s.threads t ≡ result_at c.threads t
    result_both t = same_result R (thread_at s.threads t) (thread_at c.threads t) (same_found R s.threads c.threads h.threads t)

    same_two_joined : (p : Option Pair) → SteppedAlike R (two_joined ms s x m p) (two_joined ns c y n p)
    same_two_joined None = tt
    same_two_joined (Some p) =
        subst (λ v. SteppedAlike R (two_joined ms s x m (Some p)) (two_ended ns c y n p v (result_at c.threads p.second))) (result_both p.first)
        (subst (λ v. SteppedAlike R (two_joined ms s x m (Some p)) (two_ended ns c y n p (result_at s.threads p.first) v)) (result_both p.second) (same_two_ended p (result_at s.threads p.first) (result_at s.threads p.second)))

    -- ALL ACTS

    without_names : (names : Fresh) (p : Option (Stepped P)) (q : Option (Stepped Q)) → SteppedAlike R p q → SteppedAlike R (nameless names p) (nameless names q)
    without_names names p q e = by (is_nameless names)
      where
        by : (b : Bool) → SteppedAlike R (if b then p else None) (if b then q else None)
        by true = e
        by false = tt

    lone : (names : Fresh) (a : Act P) (b : Act Q) → ((z : State) → act a z ≡ act b z) → ((z : State) → drops_last a z ≡ drops_last b z)
        → SteppedAlike R (nameless names (alone_stepped ms s x m a)) (nameless names (alone_stepped ns c y n b))
    lone names a b e f = without_names names (alone_stepped ms s x m a) (alone_stepped ns c y n b) (same_alone a b e f)

    -- an act that starts no thread
    same_own : (names : Fresh) (a : Act ⊥) → SteppedAlike R (done_act ms s x names m (carry a)) (done_act ns c y names n (carry a))
    same_own names (do_mutex v) = same_made names v
    same_own names (do_dup w) = without_names names (at_place ms s x w (shared ms s x m)) (at_place ns c y w (shared ns c y n)) (same_at_place w (shared ms s x m) (shared ns c y n) same_shared)
    same_own names (do_lock w) = without_names names (at_place ms s x w (locked ms s x m)) (at_place ns c y w (locked ns c y n)) (same_at_place w (locked ms s x m) (locked ns c y n) same_locked)
    same_own names do_unlock = without_names names (unlocked ms s x m x.slots) (unlocked ns c y n y.slots) (subst (λ vs. SteppedAlike R (unlocked ms s x m x.slots) (unlocked ns c y n vs)) k.slots (same_unlocked x.slots))
    same_own names (do_par cs p ds q) = absurd p
    same_own names do_par_end =
        without_names names (two_joined ms s x m (pair_of s.pairs x.number)) (two_joined ns c y n (pair_of c.pairs y.number))
        (subst (λ p. SteppedAlike R (two_joined ms s x m (pair_of s.pairs x.number)) (two_joined ns c y n p)) (ap (λ l. pair_of l x.number) h.pairs ∙ ap (λ t. pair_of c.pairs t) k.number) (same_two_joined (pair_of s.pairs x.number)))
    same_own names (do_join v) = without_names names (joined ms s x m v) (joined ns c y n v) (same_joined v)
    same_own names (do_spawn cs r) = absurd r
    same_own names (do_let v) = lone names (do_let v) (do_let v) (λ z. refl) (λ z. refl)
    same_own names (do_read w take) = lone names (do_read w take) (do_read w take) (λ z. refl) (λ z. refl)
    same_own names (do_borrow w is_mut) = lone names (do_borrow w is_mut) (do_borrow w is_mut) (λ z. refl) (λ z. refl)
    same_own names (do_assign w v) = lone names (do_assign w v) (do_assign w v) (λ z. refl) (λ z. refl)
    same_own names (do_box v) = lone names (do_box v) (do_box v) (λ z. refl) (λ z. refl)
    same_own names (do_arith f v w) = lone names (do_arith f v w) (do_arith f v w) (λ z. refl) (λ z. refl)
    same_own names (do_print v) = lone names (do_print v) (do_print v) (λ z. refl) (λ z. refl)
    same_own names (do_discard v) = lone names (do_discard v) (do_discard v) (λ z. refl) (λ z. refl)
    same_own names do_drop = lone names do_drop do_drop (λ z. refl) (λ z. refl)
    same_own names (do_end v) = lone names (do_end v) (do_end v) (λ z. refl) (λ z. refl)
    same_own names (do_finish v) = lone names (do_finish v) (do_finish v) (λ z. refl) (λ z. refl)
    same_own names (do_leave v) = lone names (do_leave v) (do_leave v) (λ z. refl) (λ z. refl)

    pub same_done : (names : Fresh) {a : Act P} {b : Act Q} → ActsAlike R ms ns a b → SteppedAlike R (done_act ms s x names m a) (done_act ns c y names n b)
    same_done names (same_act a) = same_own names a
    same_done names (same_start {cs = cs} {p = p} {q = q} f) = same_started names p q f (λ slots. pass cs slots [])
    same_done names (same_starts {cs = cs} {ds = ds} {p = p} {p2 = p2} {q = q} {q2 = q2} e f) = same_two_started names cs p q e ds p2 q2 f

  -- THE MOVE OF A THREAD

  -- what a thread becomes by its next act
  record LifeAlike (m : Move P (Life P)) (n : Move Q (Life Q)) : Type 0 where
    act : ActsAlike R ms ns m.act n.act
    plug : (v : Value) → LivesAlike R (settle_life ms (m.plug v)) (settle_life ns (n.plug v))

  abbrev LifeMoves : Option (Move P (Life P)) → Option (Move Q (Life Q)) → Type 0
  LifeMoves None None = ⊤
  LifeMoves (Some m) (Some n) = LifeAlike m n
  LifeMoves _ _ = ⊥

  on_done : {A : Type 0} (n : Now) (v : Value) (f : Value → A) (a : A) → value_of n ≡ Some v → f v ≡ on_value n f a
  on_done going v f a e = absurd cc
  on_done (constant w) v f a e = ap f cc
  on_done (temporary w) v f a e = ap f cc

  -- in each of the three lives a thread moves on, or is at its end
  module _ (f : P → Life P) (g : Q → Life Q) (fits : (p : P) (q : Q) → R (ms.settle p) (ns.settle q) → LivesAlike R (settle_life ms (f p)) (settle_life ns (g q))) where
    wrapped : (a : Option (Move P P)) (b : Option (Move Q Q)) → MovesAlike R ms ns a b → LifeMoves (next f a) (next g b)
    wrapped None None e = tt
    wrapped None (Some n) e = absurd e
    wrapped (Some m) None e = absurd e
    wrapped (Some m) (Some n) e = record { act = e.act; plug = λ v. fits (m.plug v) (n.plug v) (e.plug v) }

    moves_on : (end : Value → Act ⊥) (l : Value → Life P) (k : Value → Life Q) → ((v : Value) → LivesAlike R (settle_life ms (l v)) (settle_life ns (k v))) → {u w : Now} {a : Option (Move P P)} {b : Option (Move Q Q)} → NextAlike R ms ns u w a b
        → LifeMoves (on_value u (λ v. alone l (carry (end v))) (next f a)) (on_value w (λ v. alone k (carry (end v))) (next g b))
    moves_on end l k stop (both_going {a = a} {b = b} e) = wrapped a b e
    moves_on end l k stop (both_done {n = u} {m = w} {a = a} {b = b} {v = v} d e) =
        subst (λ z. LifeMoves z (on_value w (λ v. alone k (carry (end v))) (next g b))) (on_done u v (λ v. alone l (carry (end v))) (next f a) d)
        (subst (λ z. LifeMoves (alone l (carry (end v))) z) (on_done w v (λ v. alone k (carry (end v))) (next g b) e) (record { act = same_act (end v); plug = stop }))

  same_life : PlacesAlike R ms ns → {l : Life P} {k : Life Q} → LivesAlike R l k → LifeMoves (life_move ms l) (life_move ns k)
  same_life h (both_alive {p = p} {q = q} e) = moves_on alive alive (λ p q r. both_alive r) do_end (λ v. over) (λ v. over) (λ v. both_over) (h p q e)
  same_life h (both_owing {p = p} {q = q} e) = moves_on owing owing (λ p q r. both_owing r) do_finish ended ended (λ v. both_ended) (h p q e)
  same_life h (both_loose {p = p} {q = q} e) = moves_on loose loose (λ p q r. both_loose r) do_leave (λ v. over) (λ v. over) (λ v. both_over) (h p q e)
  same_life h both_ended = tt
  same_life h both_over = tt

  same_moved : (s : Whole P) (c : Whole Q) (x : Thread P) (y : Thread Q) (names : Fresh) → Alike R s c → ThreadsAlike R x y → (p : Option (Move P (Life P))) (q : Option (Move Q (Life Q))) → LifeMoves p q → SteppedAlike R (moved ms s x names p) (moved ns c y names q)
  same_moved s c x y names h k None None e = tt
  same_moved s c x y names h k None (Some n) e = absurd e
  same_moved s c x y names h k (Some m) None e = absurd e
  same_moved s c x y names h k (Some m) (Some n) e = same_done s c x y m n h k e.plug names e.act

  same_step_of : (s : Whole P) (c : Whole Q) (names : Fresh) → Alike R s c → PlacesAlike R ms ns → (p : Option (Thread P)) (q : Option (Thread Q)) → SameFound R p q → SteppedAlike R (step_of ms s names p) (step_of ns c names q)
  same_step_of s c names h g None None e = tt
  same_step_of s c names h g None (Some y) e = absurd e
  same_step_of s c names h g (Some x) None e = absurd e
  same_step_of s c names h g (Some x) (Some y) e = same_moved s c x y names h e (life_move ms x.life) (life_move ns y.life) (same_life g e.life)

  -- a step of one machine is a step of the other
  pub step_alike : PlacesAlike R ms ns → (s : Whole P) (c : Whole Q) → Alike R s c → (t : ℕ) (names : Fresh) → SteppedAlike R (step ms s t names) (step ns c t names)
  step_alike g s c h t names = same_step_of s c names h g (thread_at s.threads t) (thread_at c.threads t) (same_found R s.threads c.threads h.threads t)

  pub run_alike : PlacesAlike R ms ns → (s : Whole P) (c : Whole Q) → Alike R s c → (order : List Turn) → SteppedAlike R (run ms s order) (run ns c order)
  run_alike g s c h [] = (refl, h)
  run_alike g s c h (t ∷ ts) = then_same R (step ms s t.0 t.1) (step ns c t.0 t.1) (λ z. run ms z ts) (λ z. run ns z ts) (step_alike g s c h t.0 t.1) (λ a b k. run_alike g a b k ts)

  pub start_alike : (p : P) (q : Q) → R (ms.settle p) (ns.settle q) → Alike R (start ms p) (start ns q)
  start_alike p q h = record { threads = (record { number = refl; life = both_alive h; slots = refl }, tt); heap = refl; mutexes = refl; pairs = refl; output = refl }

  -- WAITING, REFUSALS AND ENDINGS

  over_alike : {l : Life P} {k : Life Q} → LivesAlike R l k → is_over l ≡ is_over k
  over_alike (both_alive h) = refl
  over_alike (both_owing h) = refl
  over_alike (both_loose h) = refl
  over_alike both_ended = refl
  over_alike both_over = refl

  module _ (s : Whole P) (c : Whole Q) (h : Alike R s c) where
    found_alike : (t : ℕ) → SameFound R (thread_at s.threads t) (thread_at c.threads t)
    found_alike t = same_found R s.threads c.threads h.threads t

    result_alike : (t : ℕ) → result_at s.threads t ≡ result_at c.threads t
    result_alike t = same_result R (thread_at s.threads t) (thread_at c.threads t) (found_alike t)

    given_alike : (t : ℕ) → is_given s t ≡ is_given c t
    given_alike t = same_given R (thread_at s.threads t) (thread_at c.threads t) (found_alike t)

    join_alike : (v : Value) → join_waits s v ≡ join_waits c v
    join_alike (Own (plain_value.Task u)) = ap (λ o. unless_some o (wait.Join u)) (result_alike u)
    join_alike (Own plain_value.Nothing) = refl
    join_alike (Own plain_value.Unit) = refl
    join_alike (Own (plain_value.Int i)) = refl
    join_alike (Own (plain_value.Box o)) = refl
    join_alike (Own (plain_value.Mutex o)) = refl
    join_alike (ToSlot i) = refl
    join_alike (ToObject o) = refl
    join_alike (Held o) = refl

    lock_alike : (p : Option (MutexNo × List Label)) → lock_waits s p ≡ lock_waits c p
    lock_alike None = refl
    lock_alike (Some p) = ap (λ l. content_waits (mutex_there l p.0) p.0) h.mutexes

    pair_alike : (p : Option Pair) → pair_waits s p ≡ pair_waits c p
    pair_alike None = refl
    pair_alike (Some p) = ap (λ o. unless_both o (result_at s.threads p.second) (wait.Par p.first p.second)) (result_alike p.first) ∙ ap (λ o. unless_both (result_at c.threads p.first) o (wait.Par p.first p.second)) (result_alike p.second)

    module _ (x : Thread P) (y : Thread Q) (k : ThreadsAlike R x y) where
      own_waits : (a : Act ⊥) → act_waits s x (carry a) ≡ act_waits c y (carry a)
      own_waits (do_join v) = join_alike v
      own_waits (do_lock w) = ap (λ z. lock_waits s (mutex_behind z w)) (same_state R s c x y h k) ∙ lock_alike (mutex_behind (state_of c y) w)
      own_waits do_par_end = ap (λ l. pair_waits s (pair_of l x.number)) h.pairs ∙ ap (λ t. pair_waits s (pair_of c.pairs t)) k.number ∙ pair_alike (pair_of c.pairs y.number)
      own_waits (do_spawn cs r) = absurd r
      own_waits (do_par cs p ds q) = absurd p
      own_waits (do_let v) = refl
      own_waits (do_read w take) = refl
      own_waits (do_borrow w is_mut) = refl
      own_waits (do_assign w v) = refl
      own_waits (do_box v) = refl
      own_waits (do_arith f v w) = refl
      own_waits (do_print v) = refl
      own_waits (do_discard v) = refl
      own_waits do_drop = refl
      own_waits (do_end v) = refl
      own_waits (do_finish v) = refl
      own_waits (do_leave v) = refl
      own_waits (do_mutex v) = refl
      own_waits (do_dup w) = refl
      own_waits do_unlock = refl

      pub act_alike : {a : Act P} {b : Act Q} → ActsAlike R ms ns a b → act_waits s x a ≡ act_waits c y b
      act_alike (same_act a) = own_waits a
      act_alike (same_start e) = refl
      act_alike (same_starts e f) = refl

      move_alike : (m : Option (Move P (Life P))) (n : Option (Move Q (Life Q))) → LifeMoves m n → move_waits s x m ≡ move_waits c y n
      move_alike None None e = refl
      move_alike None (Some n) e = absurd e
      move_alike (Some m) None e = absurd e
      move_alike (Some m) (Some n) e = act_alike e.act

    own_takes : (a : Act ⊥) → takes_of {P = P} (carry a) ≡ takes_of {P = Q} (carry a)
    own_takes (do_spawn cs r) = absurd r
    own_takes (do_par cs p ds q) = absurd p
    own_takes (do_let v) = refl
    own_takes (do_read w take) = refl
    own_takes (do_borrow w is_mut) = refl
    own_takes (do_assign w v) = refl
    own_takes (do_box v) = refl
    own_takes (do_arith f v w) = refl
    own_takes (do_print v) = refl
    own_takes (do_discard v) = refl
    own_takes do_drop = refl
    own_takes (do_end v) = refl
    own_takes (do_join v) = refl
    own_takes (do_finish v) = refl
    own_takes (do_leave v) = refl
    own_takes (do_mutex v) = refl
    own_takes (do_dup w) = refl
    own_takes (do_lock w) = refl
    own_takes do_unlock = refl
    own_takes do_par_end = refl

    pub act_takes : {a : Act P} {b : Act Q} → ActsAlike R ms ns a b → takes_of a ≡ takes_of b
    act_takes (same_act a) = own_takes a
    act_takes (same_start e) = refl
    act_takes (same_starts e f) = refl

    name_alike : (m : Option (Move P (Life P))) (n : Option (Move Q (Life Q))) → LifeMoves m n → takes_name m ≡ takes_name n
    name_alike None None e = refl
    name_alike None (Some n) e = absurd e
    name_alike (Some m) None e = absurd e
    name_alike (Some m) (Some n) e = act_takes e.act

    pub names_alike : (k : Takes) (names : Fresh) → refused_names s k names ≡ refused_names c k names
    names_alike no_name fresh.None = refl
    names_alike a_thread (fresh.Thread u) = ap (λ b. if b then Some name_used else None) (given_alike u)
    names_alike two_threads (fresh.Threads u v) = ap (λ b. if u == v || b || is_given s v then Some name_used else None) (given_alike u) ∙ ap (λ b. if u == v || is_given c u || b then Some name_used else None) (given_alike v)
    names_alike a_mutex (fresh.Mutex n) = ap (λ l. if is_some (mutex_at l n) then Some name_used else None) h.mutexes
    names_alike _ _ = refl

    waits_alike : PlacesAlike R ms ns → (x : Thread P) (y : Thread Q) → ThreadsAlike R x y → waits_for ms s x ≡ waits_for ns c y
    waits_alike g x y k = move_alike x y k (life_move ms x.life) (life_move ns y.life) (same_life g k.life)

    -- each step is refused for the same cause
    pub refused_alike : PlacesAlike R ms ns → (t : ℕ) (names : Fresh) → refused ms s t names ≡ refused ns c t names
    refused_alike g t names = by (thread_at s.threads t) (thread_at c.threads t) (found_alike t)
      where
        by : (x : Option (Thread P)) (y : Option (Thread Q)) → SameFound R x y → refused_of ms s names x ≡ refused_of ns c names y
        by None None e = refl
        by None (Some y) e = absurd e
        by (Some x) None e = absurd e
        by (Some x) (Some y) e =
            ap (λ b. if b then Some has_ended else refused_wait (waits_for ms s x) (refused_names s (takes_name (life_move ms x.life)) names)) (over_alike e.life)
            ∙ ap (λ w. if is_over y.life then Some has_ended else refused_wait w (refused_names s (takes_name (life_move ms x.life)) names)) (waits_alike g x y e)
            ∙ ap (λ k. if is_over y.life then Some has_ended else refused_wait (waits_for ns c y) (refused_names s k names)) (name_alike (life_move ms x.life) (life_move ns y.life) (same_life g e.life))
            ∙ ap (λ r. if is_over y.life then Some has_ended else refused_wait (waits_for ns c y) r) (names_alike (takes_name (life_move ns y.life)) names)

    -- and both states stand alike
    all_over_alike : (xs : List (Thread P)) (ys : List (Thread Q)) → AllAlike R xs ys → all_over xs ≡ all_over ys
    all_over_alike [] [] e = refl
    all_over_alike [] (y ∷ ys) e = absurd e
    all_over_alike (x ∷ xs) [] e = absurd e
    all_over_alike (x ∷ xs) (y ∷ ys) e = ap (λ b. b && all_over xs) (over_alike e.0.life) ∙ ap (λ b. is_over y.life && b) (all_over_alike xs ys e.1)

    all_wait_alike : PlacesAlike R ms ns → (xs : List (Thread P)) (ys : List (Thread Q)) → AllAlike R xs ys → all_wait ms s xs ≡ all_wait ns c ys
    all_wait_alike g [] [] e = refl
    all_wait_alike g [] (y ∷ ys) e = absurd e
    all_wait_alike g (x ∷ xs) [] e = absurd e
    all_wait_alike g (x ∷ xs) (y ∷ ys) e =
        ap (λ b. (b || is_some (waits_for ms s x)) && all_wait ms s xs) (over_alike e.0.life) ∙ ap (λ w. (is_over y.life || is_some w) && all_wait ms s xs) (waits_alike g x y e.0)
        ∙ ap (λ b. (is_over y.life || is_some (waits_for ns c y)) && b) (all_wait_alike g xs ys e.1)

    pub ending_alike : PlacesAlike R ms ns → ending_of ms s ≡ ending_of ns c
    ending_alike g =
        ap (λ b. (let e : Ending3 = if b then ending.Finished else if all_wait ms s s.threads then ending.Deadlocked else ending.Going in e)) (all_over_alike s.threads c.threads h.threads)
        ∙ ap (λ b. (let e : Ending3 = if all_over c.threads then ending.Finished else if b then ending.Deadlocked else ending.Going in e)) (all_wait_alike g s.threads c.threads h.threads)
