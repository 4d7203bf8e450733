-- Equal plain states have equal steps, runs, waits and endings.
use Rattle.std.proofs.Common.{◌≡◌, ◌≢◌, ℕ, zero, suc, Bool, true, false, List, [], ◌∷◌, ◌++◌, length, Option, Some, None, refl, sym, ap, ◌∙◌, subst, ◌+◌}
use Rattle.std.specs.Prelude.{⊤, ◌==◌, ◌&&◌, ◌||◌, is_some, if◌then◌else◌}
use Rattle.fr_base.specs.declared.label.Plain.{Plain}
use Rattle.fr_base.specs.declared.label.Plain.TheVariants as plain
use Rattle.fr_base.specs.declared.label.Label.{Label}
use Rattle.fr_base.specs.declared.name.MutexNo.{MutexNo}
use Rattle.fr_base.specs.declared.place.Lval.{Lval}
use Rattle.fr_base.specs.declared.step.Fresh.{Fresh}
use Rattle.fr_base.specs.declared.step.Fresh.TheVariants as fresh
use Rattle.fr_base.specs.declared.step.Wait.{Wait}
use Rattle.fr_base.specs.declared.step.Wait.TheVariants as wait
use Rattle.fr_base.specs.declared.step.Ending3.{Ending3}
use Rattle.fr_base.specs.declared.step.Ending3.TheVariants as ending
use Rattle.fr_typing.proofs.PlaceLemmas.{eq_cases}
use Rattle.fr_plain.specs.declared.value.Value.{Value}
use Rattle.fr_plain.specs.declared.value.Value.TheVariants.{Own, ToSlot, ToObject, Held}
use Rattle.fr_plain.specs.Heap.{made_by}
use Rattle.fr_plain.specs.State.{Reached, then_reached, locate, value_at}
use Rattle.fr_plain.specs.MachineActs.{Capture, Act, do_let, do_read, do_borrow, do_assign, do_box, do_arith, do_print, do_discard, do_drop, do_end, do_spawn, do_join, do_finish, do_leave, do_mutex, do_dup, do_lock, do_unlock, do_par, do_par_end, Did, act, unit, drops_last}
use Rattle.fr_plain.specs.MachineThreads.{Move, Moves, Life, alive, over, owing, loose, ended, settle_life, life_move, Passed, pass, Thread, Shared, Mutex, Pair, Whole, mutex_at, mutex_there, with_mutex, pair_of, thread_at, with_thread, is_given, result_of_life, result_in, result_at, with_life, is_over, all_over, state_of}
use Rattle.fr_plain.specs.Machine.{Stepped, Turn, stepped, then_released, alone_stepped, started_with, started, joined_with, joined, is_nameless, nameless, mutex_value, mutex_behind, goes_on, made, where_there, at_mutex, at_place, shared, locked_with, locked, given_back, unlocked, two_with, second_of, two_started, taken, pair_over, two_ended, two_joined, done_act, moved, step_of, step, unless_some, unless_both, content_waits, join_waits, lock_waits, pair_waits, act_waits, move_waits, waits_for, all_wait, Takes, no_name, a_thread, two_threads, a_mutex, takes_name, has_ended, name_used, refused_wait, refused_names, refused_of, refused, then_labels, go_on, run, ending_of}
use Rattle.fr_plain.specs.PlainState.{Running, SameState, running, running_in, is_over_in, two_of, plain_state}
use Rattle.fr_plain.specs.SamePlain.{SameStepped, IsListedOnce, waits_in, waits_at, SamePlain}
use Rattle.fr_plain.proofs.SameHeaps.{let_go_of, SameHeap, SameDid, same_value, same_locate, same_act, same_last}
use Rattle.fr_plain.proofs.ByName.{SameMutexes, there_of, shown, same_set, same_mutex_more, same_there, same_given, SamePairs, same_pair_gone, same_pair_more, heap_less, SameThreads, found_number, put_in, put_at, put_off, same_put, same_more, GoesOn, goes_more, Same, same_release, same_dropped_value}

-- BOOLEANS

unless_over : {A : Type 0} (b : Bool) (x y : A) → b ≡ false → (if b then x else y) ≡ y
unless_over true x y e = absurd cc
unless_over false x y e = refl

when_over : {A : Type 0} (b c : Bool) (n x y : A) → b ≡ c → (b ≡ false → x ≡ y) → (if b then n else x) ≡ (if c then n else y)
when_over true true n x y e f = refl
when_over false false n x y e f = f refl
when_over true false n x y e f = absurd cc
when_over false true n x y e f = absurd cc

shown_by : (p q : Option Mutex) → there_of p ≡ there_of q → is_some p ≡ is_some q → shown p ≡ shown q
shown_by None None e f = refl
shown_by None (Some y) e f = absurd cc
shown_by (Some x) None e f = absurd cc
shown_by (Some x) (Some y) e f = ap Some e

both_true : (a b : Bool) → (a && b) ≡ true → (a ≡ true) × (b ≡ true)
both_true true true e = (refl, refl)
both_true true false e = absurd cc
both_true false b e = absurd cc

both_ways : (a b : Bool) → (a ≡ true → b ≡ true) → (b ≡ true → a ≡ true) → a ≡ b
both_ways true b f g = sym (f refl)
both_ways false true f g = g refl
both_ways false false f g = refl

module _ {P : Type 0} where
  -- STATES

  over_running : (l m : Life P) (us vs : List Value) → running us l ≡ running vs m → is_over l ≡ is_over m
  over_running l m us vs e = over_of l us ∙ ap is_over e ∙ sym (over_of m vs)
    where
      over_of : (l : Life P) (us : List Value) → is_over l ≡ is_over (running us l)
      over_of (alive p) us = refl
      over_of over us = refl
      over_of (owing p) us = refl
      over_of (loose p) us = refl
      over_of (ended v) us = refl

  over_in_running : (p q : Option (Thread P)) → running_in p ≡ running_in q → is_over_in p ≡ is_over_in q
  over_in_running None None e = refl
  over_in_running None (Some y) e = absurd cc
  over_in_running (Some x) None e = absurd cc
  over_in_running (Some x) (Some y) e = over_running x.life y.life x.slots y.slots cc

  -- states whose plain states are the same, part by part
  pub same_by_names : (s c : Whole P) → SameState (plain_state s) (plain_state c) → Same s c
  same_by_names s c h = record {
    threads = h.threads;
    heap = record {
      cells = h.objects;
      made = λ t k.
          sym (unless_over (is_over_in (thread_at s.threads t)) 0 (length (made_by s.heap t)) k) ∙ h.made t
          ∙ unless_over (is_over_in (thread_at c.threads t)) 0 (length (made_by c.heap t)) (sym (over_in_running (thread_at s.threads t) (thread_at c.threads t) (h.threads t)) ∙ k);
    };
    mutexes = λ m. shown_by (mutex_at s.mutexes m) (mutex_at c.mutexes m) (h.mutexes m) (h.given m);
    pairs = λ t k.
        sym (unless_over (is_over_in (thread_at s.threads t)) None (two_of (pair_of s.pairs t)) k) ∙ h.pairs t
        ∙ unless_over (is_over_in (thread_at c.threads t)) None (two_of (pair_of c.pairs t)) (sym (over_in_running (thread_at s.threads t) (thread_at c.threads t) (h.threads t)) ∙ k);
  }

  pub same_to_names : (s c : Whole P) → Same s c → SameState (plain_state s) (plain_state c)
  same_to_names s c h = record {
    threads = h.threads;
    made = λ t. when_over (is_over_in (thread_at s.threads t)) (is_over_in (thread_at c.threads t)) 0 (length (made_by s.heap t)) (length (made_by c.heap t)) (over_in_running (thread_at s.threads t) (thread_at c.threads t) (h.threads t)) (h.heap.made t);
    pairs = λ t.
        when_over (is_over_in (thread_at s.threads t)) (is_over_in (thread_at c.threads t)) None (two_of (pair_of s.pairs t)) (two_of (pair_of c.pairs t)) (over_in_running (thread_at s.threads t) (thread_at c.threads t) (h.threads t)) (h.pairs t);
    objects = h.heap.cells;
    mutexes = same_there s.mutexes c.mutexes h.mutexes;
    given = same_given s.mutexes c.mutexes h.mutexes;
  }

  -- neither leads on without the other
  abbrev pub Both : Option (Stepped P) → Option (Stepped P) → Type 0
  Both None None = ⊤
  Both (Some x) (Some y) = (x.labels ≡ y.labels) × Same x.state y.state
  Both _ _ = ⊥

  -- FOUND THREADS

  given_running : (p q : Option (Thread P)) → running_in p ≡ running_in q → is_some p ≡ is_some q
  given_running None None e = refl
  given_running None (Some y) e = absurd cc
  given_running (Some x) None e = absurd cc
  given_running (Some x) (Some y) e = refl

  result_running : (l : Life P) (us : List Value) → result_of_life l ≡ result_of_life (running us l)
  result_running (alive p) us = refl
  result_running over us = refl
  result_running (owing p) us = refl
  result_running (loose p) us = refl
  result_running (ended v) us = refl

  same_result_in : (p q : Option (Thread P)) → running_in p ≡ running_in q → result_in p ≡ result_in q
  same_result_in None None e = refl
  same_result_in None (Some y) e = absurd cc
  same_result_in (Some x) None e = absurd cc
  same_result_in (Some x) (Some y) e = let f : running x.slots x.life ≡ running y.slots y.life = cc in result_running x.life x.slots ∙ ap result_of_life f ∙ sym (result_running y.life y.slots)

  -- a thread that is put elsewhere, or that is over, leaves the others going on
  goes_off : (xs : List (Thread P)) (u : Thread P) (t : ℕ) → u.number ≢ t → GoesOn (with_thread xs u) t → GoesOn xs t
  goes_off xs u t ne k = sym (ap is_over_in (put_off xs u t ne)) ∙ k

  goes_over : (xs : List (Thread P)) (y : Thread P) (t : ℕ) → GoesOn (with_thread xs (with_life y over)) t → GoesOn xs t
  goes_over xs y t =
      eq_cases (λ b. is_over_in (thread_at (with_thread xs (with_life y over)) t) ≡ false → is_over_in (thread_at xs t) ≡ false) y.number t (λ e k. by (thread_at xs t) (sym (ap is_over_in (put_at xs (with_life y over) t e)) ∙ k))
      (λ ne k. goes_off xs (with_life y over) t ne k)
    where
      by : (p : Option (Thread P)) → is_over_in (put_in (with_life y over) p) ≡ false → is_over_in p ≡ false
      by None k = refl
      by (Some x) k = absurd cc

  module _ (s c : Whole P) (h : Same s c) where
    result_same : (t : ℕ) → result_at s.threads t ≡ result_at c.threads t
    result_same t = same_result_in (thread_at s.threads t) (thread_at c.threads t) (h.threads t)

    given_same : (t : ℕ) → is_given s t ≡ is_given c t
    given_same t = given_running (thread_at s.threads t) (thread_at c.threads t) (h.threads t)

  unless_both_given : (a b : Bool) (p q : Option (Stepped P)) → a ≡ b → Both p q → Both (if a then None else p) (if b then None else q)
  unless_both_given true true p q e f = tt
  unless_both_given false false p q e f = f
  unless_both_given true false p q e f = absurd cc
  unless_both_given false true p q e f = absurd cc

  same_then : (v w : Plain) → let_go_of v ≡ let_go_of w → (p q : Option (Stepped P)) → Both p q → Both (then_released v p) (then_released w q)
  same_then v w e None None f = tt
  same_then v w e None (Some b) f = absurd f
  same_then v w e (Some a) None f = absurd f
  same_then v w e (Some a) (Some b) f = (f.0, same_release a.state b.state f.1 v w e)

  both_nameless : (names : Fresh) (p q : Option (Stepped P)) → Both p q → Both (nameless names p) (nameless names q)
  both_nameless names p q f = by (is_nameless names)
    where
      by : (b : Bool) → Both (if b then p else None) (if b then q else None)
      by true = f
      by false = tt

  -- A STEP OF A THREAD THAT GOES ON

  module _ (ms : Moves P) (s c : Whole P) (h : Same s c) (x : Thread P) (es : thread_at s.threads x.number ≡ Some x) (ec : thread_at c.threads x.number ≡ Some x) (lives : is_over x.life ≡ false) (m : Move P (Life P)) where
    abbrev there : Life P → List Value → Thread P
    there l vs = record { number = x.number; life = l; slots = vs }

    here : GoesOn s.threads x.number
    here = ap is_over_in es ∙ lives

    -- the thread goes on, and others are over
    less : (xs : List (Thread P)) → ((t : ℕ) → GoesOn xs t → GoesOn s.threads t) → (l : Life P) (vs : List Value) (t : ℕ) → GoesOn (with_thread xs (there l vs)) t → GoesOn s.threads t
    less xs f l vs t =
        eq_cases (λ b. GoesOn (with_thread xs (there l vs)) t → GoesOn s.threads t) x.number t (λ e k. subst (λ u. GoesOn s.threads u) e here) (λ ne k. f t (goes_off xs (there l vs) t ne k))

    -- at the thread's place
    same_there_put : (xs ys : List (Thread P)) → SameThreads xs ys → (l : Life P) (vs : List Value) → SameThreads (with_thread xs (there l vs)) (with_thread ys (there l vs))
    same_there_put xs ys f l vs = same_put xs ys f (there l vs) (there l vs) refl refl

    heap_after : (xs : List (Thread P)) → ((t : ℕ) → GoesOn xs t → GoesOn s.threads t) → SameHeap (GoesOn xs) s.heap c.heap
    heap_after xs f = heap_less (GoesOn s.threads) (GoesOn xs) s.heap c.heap f h.heap

    pairs_after : (xs : List (Thread P)) → ((t : ℕ) → GoesOn xs t → GoesOn s.threads t) → SamePairs (GoesOn xs) s.pairs c.pairs
    pairs_after xs f t k = h.pairs t (f t k)

    keeps : (t : ℕ) → GoesOn s.threads t → GoesOn s.threads t
    keeps t k = k

    same_stepped : (d e : Option Did) → SameDid (GoesOn s.threads) d e → Both (stepped ms s x m d) (stepped ms c x m e)
    same_stepped None None f = tt
    same_stepped None (Some e) f = absurd f
    same_stepped (Some d) None f = absurd f
    same_stepped (Some d) (Some e) f =
        let after : (t : ℕ) → GoesOn (with_thread s.threads (there (settle_life ms (m.plug d.value)) d.state.slots)) t → GoesOn s.threads t = less s.threads keeps (settle_life ms (m.plug d.value)) d.state.slots in (
          f.1,
          record {
            threads = same_put s.threads c.threads h.threads (there (settle_life ms (m.plug d.value)) d.state.slots) (there (settle_life ms (m.plug e.value)) e.state.slots) refl
                (ap (λ v. running d.state.slots (settle_life ms (m.plug v))) f.0 ∙ ap (λ vs. running vs (settle_life ms (m.plug e.value))) f.2.slots);
            heap = heap_less (GoesOn s.threads) (GoesOn (with_thread s.threads (there (settle_life ms (m.plug d.value)) d.state.slots))) d.state.heap e.state.heap after f.2.heap;
            mutexes = h.mutexes;
            pairs = pairs_after (with_thread s.threads (there (settle_life ms (m.plug d.value)) d.state.slots)) after;
          },
        )

    same_alone : (a : Act P) → Both (alone_stepped ms s x m a) (alone_stepped ms c x m a)
    same_alone a =
        same_then (drops_last a (state_of s x)) (drops_last a (state_of c x)) (same_last (GoesOn s.threads) s.heap c.heap h.heap x.number here x.slots a) (stepped ms s x m (act a (state_of s x))) (stepped ms c x m (act a (state_of c x)))
        (same_stepped (act a (state_of s x)) (act a (state_of c x)) (same_act (GoesOn s.threads) s.heap c.heap h.heap x.number here x.slots a))

    -- STARTING AND JOINING

    same_started_with : (r : P) (u : ℕ) (p : Option Passed) → Both (started_with ms s x m r u p) (started_with ms c x m r u p)
    same_started_with r u None = tt
    same_started_with r u (Some p) =
        let l : Life P = settle_life ms (m.plug (Own (plain.Task u))) in
        let new : Thread P = record { number = u; life = owing (ms.settle r); slots = p.new } in
        let after : (t : ℕ) → GoesOn (with_thread s.threads (there l p.left) ++ new ∷ []) t → GoesOn s.threads t = λ t k. less s.threads keeps l p.left t (goes_more (with_thread s.threads (there l p.left)) (new ∷ []) t k) in (
          refl,
          record {
            threads = same_more (with_thread s.threads (there l p.left)) (with_thread c.threads (there l p.left)) (new ∷ []) (same_there_put s.threads c.threads h.threads l p.left);
            heap = heap_after (with_thread s.threads (there l p.left) ++ new ∷ []) after;
            mutexes = h.mutexes;
            pairs = pairs_after (with_thread s.threads (there l p.left) ++ new ∷ []) after;
          },
        )

    same_started : (names : Fresh) (r : P) (passed : List Value → Option Passed) → Both (started ms s x m names r passed) (started ms c x m names r passed)
    same_started (fresh.Thread u) r passed = unless_both_given (is_given s u) (is_given c u) (started_with ms s x m r u (passed x.slots)) (started_with ms c x m r u (passed x.slots)) (given_same s c h u) (same_started_with r u (passed x.slots))
    same_started fresh.None r passed = tt
    same_started (fresh.Threads t u) r passed = tt
    same_started (fresh.Mutex u) r passed = tt

    -- a thread's result is taken
    same_taken : (xs ys : List (Thread P)) → SameThreads xs ys → (t : ℕ) (p q : Option (Thread P)) → thread_at s.threads t ≡ p → thread_at c.threads t ≡ q → running_in p ≡ running_in q → SameThreads (taken ms xs p) (taken ms ys q)
    same_taken xs ys f t None None e k r = f
    same_taken xs ys f t None (Some z) e k r = absurd cc
    same_taken xs ys f t (Some y) None e k r = absurd cc
    same_taken xs ys f t (Some y) (Some z) e k r = same_put xs ys f (with_life y over) (with_life z over) (found_number s.threads t y e ∙ sym (found_number c.threads t z k)) refl

    less_taken : (xs : List (Thread P)) → ((t : ℕ) → GoesOn xs t → GoesOn s.threads t) → (p : Option (Thread P)) (t : ℕ) → GoesOn (taken ms xs p) t → GoesOn s.threads t
    less_taken xs f None t k = f t k
    less_taken xs f (Some y) t k = f t (goes_over xs y t k)

    same_joined_with : (u : ℕ) (p q : Option (Thread P)) → thread_at s.threads u ≡ p → thread_at c.threads u ≡ q → running_in p ≡ running_in q → (v : Option Value) → Both (joined_with ms s x m p v) (joined_with ms c x m q v)
    same_joined_with u None None e k r v = tt
    same_joined_with u None (Some z) e k r v = absurd cc
    same_joined_with u (Some y) None e k r v = absurd cc
    same_joined_with u (Some y) (Some z) e k r None = tt
    same_joined_with u (Some y) (Some z) e k r (Some v) =
        let xs : List (Thread P) = with_thread s.threads (with_life y over) in
        let after : (t : ℕ) → GoesOn (with_thread xs (there (settle_life ms (m.plug v)) x.slots)) t → GoesOn s.threads t = less xs (λ t. goes_over s.threads y t) (settle_life ms (m.plug v)) x.slots in (
          refl,
          record {
            threads = same_there_put xs (with_thread c.threads (with_life z over)) (same_taken s.threads c.threads h.threads u (Some y) (Some z) e k r) (settle_life ms (m.plug v)) x.slots;
            heap = heap_after (with_thread xs (there (settle_life ms (m.plug v)) x.slots)) after;
            mutexes = h.mutexes;
            pairs = pairs_after (with_thread xs (there (settle_life ms (m.plug v)) x.slots)) after;
          },
        )

    same_joined : (v : Value) → Both (joined ms s x m v) (joined ms c x m v)
    same_joined (Own (plain.Task u)) =
        subst (λ z. Both (joined ms s x m (Own (plain.Task u))) (joined_with ms c x m (thread_at c.threads u) z)) (result_same s c h u) (same_joined_with u (thread_at s.threads u) (thread_at c.threads u) refl refl (h.threads u) (result_at s.threads u))
    same_joined (Own plain.Nothing) = tt
    same_joined (Own plain.Unit) = tt
    same_joined (Own (plain.Int i)) = tt
    same_joined (Own (plain.Box o)) = tt
    same_joined (Own (plain.Mutex o)) = tt
    same_joined (ToSlot i) = tt
    same_joined (ToObject o) = tt
    same_joined (Held o) = tt

    -- MUTEXES

    -- the thread goes on beside other mutexes
    same_goes : (v : Value) (vs : List Value) (f g : List Mutex) → SameMutexes f g → Same (record (goes_on ms s x m v vs) { mutexes = f }) (record (goes_on ms c x m v vs) { mutexes = g })
    same_goes v vs f g e =
        let l : Life P = settle_life ms (m.plug v) in
        record {
          threads = same_there_put s.threads c.threads h.threads l vs;
          heap = heap_after (with_thread s.threads (there l vs)) (less s.threads keeps l vs);
          mutexes = e;
          pairs = pairs_after (with_thread s.threads (there l vs)) (less s.threads keeps l vs);
        }

    same_made : (names : Fresh) (v : Value) → Both (made ms s x m names v) (made ms c x m names v)
    same_made (fresh.Mutex n) (Own v) =
        let new : List Mutex = record { number = n; there = Some (record { content = Some v; shares = 1 }) } ∷ [] in
        unless_both_given (is_some (mutex_at s.mutexes n)) (is_some (mutex_at c.mutexes n)) (Some (record { state = record (goes_on ms s x m (Own (plain.Mutex n)) x.slots) { mutexes = s.mutexes ++ new }; labels = [] })) (Some (record { state = record (goes_on ms c x m (Own (plain.Mutex n)) x.slots) { mutexes = c.mutexes ++ new }; labels = [] }))
        (same_given s.mutexes c.mutexes h.mutexes n) (refl, same_goes (Own (plain.Mutex n)) x.slots (s.mutexes ++ new) (c.mutexes ++ new) (same_mutex_more s.mutexes c.mutexes new h.mutexes))
    same_made (fresh.Mutex n) (ToSlot i) = tt
    same_made (fresh.Mutex n) (ToObject o) = tt
    same_made (fresh.Mutex n) (Held o) = tt
    same_made fresh.None v = tt
    same_made (fresh.Thread t) v = tt
    same_made (fresh.Threads t u) v = tt

    same_behind : (w : Lval) → mutex_behind (state_of s x) w ≡ mutex_behind (state_of c x) w
    same_behind w = ap (λ r. then_reached r (λ r. mutex_value r (value_at (state_of s x) r.spot))) (same_locate (GoesOn s.threads) s.heap c.heap h.heap x.number here x.slots w) ∙ by (locate (state_of c x) w)
      where
        by : (p : Option Reached) → then_reached p (λ r. mutex_value r (value_at (state_of s x) r.spot)) ≡ then_reached p (λ r. mutex_value r (value_at (state_of c x) r.spot))
        by None = refl
        by (Some r) = ap (mutex_value r) (same_value (GoesOn s.threads) s.heap c.heap h.heap x.number here x.slots r.spot)

    abbrev BothAt : (MutexNo → List Label → Shared → Option (Stepped P)) → (MutexNo → List Label → Shared → Option (Stepped P)) → Type 0
    BothAt f g = (n : MutexNo) (ls : List Label) (z : Shared) → Both (f n ls z) (g n ls z)

    same_where : (f g : MutexNo → List Label → Shared → Option (Stepped P)) → BothAt f g → (n : MutexNo) (ls : List Label) (z : Option Shared) → Both (where_there ms z (f n ls)) (where_there ms z (g n ls))
    same_where f g e n ls None = tt
    same_where f g e n ls (Some z) = e n ls z

    same_at : (f g : MutexNo → List Label → Shared → Option (Stepped P)) → BothAt f g → (p : Option (MutexNo × List Label)) → Both (at_mutex ms s p f) (at_mutex ms c p g)
    same_at f g e None = tt
    same_at f g e (Some p) = subst (λ z. Both (at_mutex ms s (Some p) f) (where_there ms z (g p.0 p.1))) (same_there s.mutexes c.mutexes h.mutexes p.0) (same_where f g e p.0 p.1 (mutex_there s.mutexes p.0))

    same_place : (w : Lval) (f g : MutexNo → List Label → Shared → Option (Stepped P)) → BothAt f g → Both (at_place ms s x w f) (at_place ms c x w g)
    same_place w f g e = subst (λ z. Both (at_place ms s x w f) (at_mutex ms c z g)) (same_behind w) (same_at f g e (mutex_behind (state_of s x) w))

    same_shared : BothAt (shared ms s x m) (shared ms c x m)
    same_shared n ls z =
        let new : Option Shared = Some (record z { shares = z.shares + 1 }) in
        (refl, same_goes (Own (plain.Mutex n)) x.slots (with_mutex s.mutexes n new) (with_mutex c.mutexes n new) (same_set s.mutexes c.mutexes h.mutexes n new))

    same_locked : BothAt (locked ms s x m) (locked ms c x m)
    same_locked n ls z = by z.content
      where
        by : (v : Option Plain) → Both (locked_with ms s x m n ls z v) (locked_with ms c x m n ls z v)
        by None = tt
        by (Some v) =
            let new : Option Shared = Some (record z { content = None }) in
            (refl, same_goes unit (Own v ∷ Held n ∷ x.slots) (with_mutex s.mutexes n new) (with_mutex c.mutexes n new) (same_set s.mutexes c.mutexes h.mutexes n new))

    same_back : (rest : List Value) (n : MutexNo) (v : Plain) (z : Option Shared) → Same (given_back ms (goes_on ms s x m unit rest) n v z) (given_back ms (goes_on ms c x m unit rest) n v z)
    same_back rest n v (Some z) =
        let new : Option Shared = Some (record z { content = Some v }) in
        same_goes unit rest (with_mutex s.mutexes n new) (with_mutex c.mutexes n new) (same_set s.mutexes c.mutexes h.mutexes n new)
    same_back rest n v None = same_dropped_value (goes_on ms s x m unit rest) (goes_on ms c x m unit rest) (same_goes unit rest s.mutexes c.mutexes h.mutexes) v

    same_unlocked : (vs : List Value) → Both (unlocked ms s x m vs) (unlocked ms c x m vs)
    same_unlocked (Own v ∷ Held n ∷ rest) = (refl, subst (λ z. Same (given_back ms (goes_on ms s x m unit rest) n v (mutex_there s.mutexes n)) (given_back ms (goes_on ms c x m unit rest) n v z)) (same_there s.mutexes c.mutexes h.mutexes n) (same_back rest n v (mutex_there s.mutexes n)))
    same_unlocked _ = tt

    -- PAIRS

    same_two_with : (a : ℕ) (p : P) (first : List Value) (b : ℕ) (q : P) (z : Option Passed) → Both (two_with ms s x m a p first b q z) (two_with ms c x m a p first b q z)
    same_two_with a p first b q None = tt
    same_two_with a p first b q (Some z) =
        let l : Life P = settle_life ms (m.plug unit) in
        let new : List (Thread P) = record { number = a; life = owing (ms.settle p); slots = first } ∷ record { number = b; life = owing (ms.settle q); slots = z.new } ∷ [] in
        let two : Pair = record { parent = x.number; first = a; second = b } in
        let after : (t : ℕ) → GoesOn (with_thread s.threads (there l z.left) ++ new) t → GoesOn s.threads t = λ t k. less s.threads keeps l z.left t (goes_more (with_thread s.threads (there l z.left)) new t k) in (
          refl,
          record {
            threads = same_more (with_thread s.threads (there l z.left)) (with_thread c.threads (there l z.left)) new (same_there_put s.threads c.threads h.threads l z.left);
            heap = heap_after (with_thread s.threads (there l z.left) ++ new) after;
            mutexes = h.mutexes;
            pairs = same_pair_more (GoesOn (with_thread s.threads (there l z.left) ++ new)) s.pairs c.pairs (pairs_after (with_thread s.threads (there l z.left) ++ new) after) two;
          },
        )

    same_second : (a : ℕ) (p : P) (ds : List Capture) (b : ℕ) (q : P) (z : Option Passed) → Both (second_of ms s x m a p ds b q z) (second_of ms c x m a p ds b q z)
    same_second a p ds b q None = tt
    same_second a p ds b q (Some z) = same_two_with a p z.new b q (pass ds z.left [])

    same_two_started : (names : Fresh) (cs : List Capture) (p : P) (ds : List Capture) (q : P) → Both (two_started ms s x m names cs p ds q) (two_started ms c x m names cs p ds q)
    same_two_started (fresh.Threads a b) cs p ds q =
        unless_both_given (a == b || is_given s a || is_given s b) (a == b || is_given c a || is_given c b) (second_of ms s x m a p ds b q (pass cs x.slots [])) (second_of ms c x m a p ds b q (pass cs x.slots []))
        (ap (λ g. a == b || g || is_given s b) (given_same s c h a) ∙ ap (λ g. a == b || is_given c a || g) (given_same s c h b)) (same_second a p ds b q (pass cs x.slots []))
    same_two_started fresh.None cs p ds q = tt
    same_two_started (fresh.Thread t) cs p ds q = tt
    same_two_started (fresh.Mutex n) cs p ds q = tt

    -- two pairs of the same threads
    same_ended : (p q : Pair) → p.first ≡ q.first → p.second ≡ q.second → (v w : Option Value) → Both (two_ended ms s x m p v w) (two_ended ms c x m q v w)
    same_ended p q e f None w = tt
    same_ended p q e f (Some v) None = tt
    same_ended p q e f (Some v) (Some w) =
        let l : Life P = settle_life ms (m.plug unit) in
        let first : (t : ℕ) → GoesOn (taken ms s.threads (thread_at s.threads p.first)) t → GoesOn s.threads t = less_taken s.threads keeps (thread_at s.threads p.first) in
        let both : (t : ℕ) → GoesOn (pair_over ms s p) t → GoesOn s.threads t = less_taken (taken ms s.threads (thread_at s.threads p.first)) first (thread_at s.threads p.second) in
        let after : (t : ℕ) → GoesOn (with_thread (pair_over ms s p) (there l x.slots)) t → GoesOn s.threads t = less (pair_over ms s p) both l x.slots in (
          refl,
          record {
            threads = same_there_put (pair_over ms s p) (pair_over ms c q)
                (same_taken (taken ms s.threads (thread_at s.threads p.first)) (taken ms c.threads (thread_at c.threads q.first))
                (same_taken s.threads c.threads h.threads p.first (thread_at s.threads p.first) (thread_at c.threads q.first) refl (ap (thread_at c.threads) e) (h.threads p.first ∙ ap (λ t. running_in (thread_at c.threads t)) e))
                p.second (thread_at s.threads p.second) (thread_at c.threads q.second) refl (ap (thread_at c.threads) f) (h.threads p.second ∙ ap (λ t. running_in (thread_at c.threads t)) f))
                l x.slots;
            heap = heap_after (with_thread (pair_over ms s p) (there l x.slots)) after;
            mutexes = h.mutexes;
            pairs = same_pair_gone (GoesOn (with_thread (pair_over ms s p) (there l x.slots))) s.pairs c.pairs (pairs_after (with_thread (pair_over ms s p) (there l x.slots)) after) x.number;
          },
        )

    same_two_joined : (p q : Option Pair) → two_of p ≡ two_of q → Both (two_joined ms s x m p) (two_joined ms c x m q)
    same_two_joined None None e = tt
    same_two_joined None (Some q) e = absurd cc
    same_two_joined (Some p) None e = absurd cc
    same_two_joined (Some p) (Some q) e =
        let two : (p.first, p.second) ≡ (q.first, q.second) = cc in
        let f : p.first ≡ q.first = ap (λ (z : ℕ × ℕ). z.0) two in
        let g : p.second ≡ q.second = ap (λ (z : ℕ × ℕ). z.1) two in
        subst (λ z. Both (two_joined ms s x m (Some p)) (two_ended ms c x m q z (result_at c.threads q.second))) (result_same s c h p.first ∙ ap (result_at c.threads) f)
        (subst (λ z. Both (two_joined ms s x m (Some p)) (two_ended ms c x m q (result_at s.threads p.first) z)) (result_same s c h p.second ∙ ap (result_at c.threads) g)
        (same_ended p q f g (result_at s.threads p.first) (result_at s.threads p.second)))

    -- ALL ACTS

    lone : (names : Fresh) (a : Act P) → Both (nameless names (alone_stepped ms s x m a)) (nameless names (alone_stepped ms c x m a))
    lone names a = both_nameless names (alone_stepped ms s x m a) (alone_stepped ms c x m a) (same_alone a)

    same_done : (names : Fresh) (a : Act P) → Both (done_act ms s x names m a) (done_act ms c x names m a)
    same_done names (do_spawn cs r) = same_started names r (λ vs. pass cs vs [])
    same_done names (do_join v) = both_nameless names (joined ms s x m v) (joined ms c x m v) (same_joined v)
    same_done names (do_mutex v) = same_made names v
    same_done names (do_dup w) = both_nameless names (at_place ms s x w (shared ms s x m)) (at_place ms c x w (shared ms c x m)) (same_place w (shared ms s x m) (shared ms c x m) same_shared)
    same_done names (do_lock w) = both_nameless names (at_place ms s x w (locked ms s x m)) (at_place ms c x w (locked ms c x m)) (same_place w (locked ms s x m) (locked ms c x m) same_locked)
    same_done names do_unlock = both_nameless names (unlocked ms s x m x.slots) (unlocked ms c x m x.slots) (same_unlocked x.slots)
    same_done names (do_par cs p ds q) = same_two_started names cs p ds q
    same_done names do_par_end = both_nameless names (two_joined ms s x m (pair_of s.pairs x.number)) (two_joined ms c x m (pair_of c.pairs x.number)) (same_two_joined (pair_of s.pairs x.number) (pair_of c.pairs x.number) (h.pairs x.number here))
    same_done names (do_let v) = lone names (do_let v)
    same_done names (do_read w take) = lone names (do_read w take)
    same_done names (do_borrow w is_mut) = lone names (do_borrow w is_mut)
    same_done names (do_assign w v) = lone names (do_assign w v)
    same_done names (do_box v) = lone names (do_box v)
    same_done names (do_arith f v w) = lone names (do_arith f v w)
    same_done names (do_print v) = lone names (do_print v)
    same_done names (do_discard v) = lone names (do_discard v)
    same_done names do_drop = lone names do_drop
    same_done names (do_end v) = lone names (do_end v)
    same_done names (do_finish v) = lone names (do_finish v)
    same_done names (do_leave v) = lone names (do_leave v)

    -- WAITING

    same_join_waits : (v : Value) → join_waits s v ≡ join_waits c v
    same_join_waits (Own (plain.Task u)) = ap (λ o. unless_some o (wait.Join u)) (result_same s c h u)
    same_join_waits (Own plain.Nothing) = refl
    same_join_waits (Own plain.Unit) = refl
    same_join_waits (Own (plain.Int i)) = refl
    same_join_waits (Own (plain.Box o)) = refl
    same_join_waits (Own (plain.Mutex o)) = refl
    same_join_waits (ToSlot i) = refl
    same_join_waits (ToObject o) = refl
    same_join_waits (Held o) = refl

    same_lock_waits : (p : Option (MutexNo × List Label)) → lock_waits s p ≡ lock_waits c p
    same_lock_waits None = refl
    same_lock_waits (Some p) = ap (λ z. content_waits z p.0) (same_there s.mutexes c.mutexes h.mutexes p.0)

    same_pair_waits : (p q : Option Pair) → two_of p ≡ two_of q → pair_waits s p ≡ pair_waits c q
    same_pair_waits None None e = refl
    same_pair_waits None (Some q) e = absurd cc
    same_pair_waits (Some p) None e = absurd cc
    same_pair_waits (Some p) (Some q) e =
        let two : (p.first, p.second) ≡ (q.first, q.second) = cc in
        let f : p.first ≡ q.first = ap (λ (z : ℕ × ℕ). z.0) two in
        let g : p.second ≡ q.second = ap (λ (z : ℕ × ℕ). z.1) two in
        ap (λ o. unless_both o (result_at s.threads p.second) (wait.Par p.first p.second)) (result_same s c h p.first) ∙ ap (λ o. unless_both (result_at c.threads p.first) o (wait.Par p.first p.second)) (result_same s c h p.second)
        ∙ ap (λ n. unless_both (result_at c.threads n) (result_at c.threads p.second) (wait.Par n p.second)) f ∙ ap (λ n. unless_both (result_at c.threads q.first) (result_at c.threads n) (wait.Par q.first n)) g

    same_act_waits : (a : Act P) → act_waits s x a ≡ act_waits c x a
    same_act_waits (do_join v) = same_join_waits v
    same_act_waits (do_lock w) = ap (lock_waits s) (same_behind w) ∙ same_lock_waits (mutex_behind (state_of c x) w)
    same_act_waits do_par_end = same_pair_waits (pair_of s.pairs x.number) (pair_of c.pairs x.number) (h.pairs x.number here)
    same_act_waits (do_spawn cs r) = refl
    same_act_waits (do_par cs p ds q) = refl
    same_act_waits (do_let v) = refl
    same_act_waits (do_read w take) = refl
    same_act_waits (do_borrow w is_mut) = refl
    same_act_waits (do_assign w v) = refl
    same_act_waits (do_box v) = refl
    same_act_waits (do_arith f v w) = refl
    same_act_waits (do_print v) = refl
    same_act_waits (do_discard v) = refl
    same_act_waits do_drop = refl
    same_act_waits (do_end v) = refl
    same_act_waits (do_finish v) = refl
    same_act_waits (do_leave v) = refl
    same_act_waits (do_mutex v) = refl
    same_act_waits (do_dup w) = refl
    same_act_waits do_unlock = refl

  -- A STEP OF ANY THREAD

  -- a thread that goes on is told by its number and what is shown of it
  same_thread : (x y : Thread P) → x.number ≡ y.number → running x.slots x.life ≡ running y.slots y.life → is_over x.life ≡ false → x ≡ y
  same_thread x y n e k = by x.life y.life refl refl (running_lives x.life y.life x.slots y.slots e k)
    where
      running_lives : (l m : Life P) (us vs : List Value) → running us l ≡ running vs m → is_over l ≡ false → (l ≡ m) × (us ≡ vs)
      running_lives (alive p) (alive q) us vs e k =
          let f : record { place = p; slots = us } ≡ record { place = q; slots = vs } = cc in
          (ap (λ (r : Running P). alive r.place) f, ap (λ (r : Running P). r.slots) f)
      running_lives (owing p) (owing q) us vs e k =
          let f : record { place = p; slots = us } ≡ record { place = q; slots = vs } = cc in
          (ap (λ (r : Running P). owing r.place) f, ap (λ (r : Running P). r.slots) f)
      running_lives (loose p) (loose q) us vs e k =
          let f : record { place = p; slots = us } ≡ record { place = q; slots = vs } = cc in
          (ap (λ (r : Running P). loose r.place) f, ap (λ (r : Running P). r.slots) f)
      running_lives over m us vs e k = absurd cc
      running_lives (ended v) m us vs e k = absurd cc
      running_lives l m us vs e k = absurd cc

      by : (l m : Life P) → x.life ≡ l → y.life ≡ m → (x.life ≡ y.life) × (x.slots ≡ y.slots) → x ≡ y
      by l m f g e =
          ap (λ (t : ℕ). record { number = t; life = x.life; slots = x.slots }) n ∙ ap (λ (l : Life P). record { number = y.number; life = l; slots = x.slots }) e.0
          ∙ ap (λ (vs : List Value). record { number = y.number; life = y.life; slots = vs }) e.1

  stays_over : (ms : Moves P) (l : Life P) → is_over l ≡ true → life_move ms l ≡ None
  stays_over ms over e = refl
  stays_over ms (ended v) e = refl
  stays_over ms (alive p) e = absurd cc
  stays_over ms (owing p) e = absurd cc
  stays_over ms (loose p) e = absurd cc

  module _ (ms : Moves P) (s c : Whole P) (h : Same s c) where
    same_moved : (names : Fresh) (x : Thread P) → thread_at s.threads x.number ≡ Some x → thread_at c.threads x.number ≡ Some x → is_over x.life ≡ false → (m : Option (Move P (Life P))) → Both (moved ms s x names m) (moved ms c x names m)
    same_moved names x es ec k None = tt
    same_moved names x es ec k (Some m) = same_done ms s c h x es ec k m names m.act

    same_move_waits : (x : Thread P) → thread_at s.threads x.number ≡ Some x → thread_at c.threads x.number ≡ Some x → is_over x.life ≡ false → (m : Option (Move P (Life P))) → move_waits s x m ≡ move_waits c x m
    same_move_waits x es ec k None = refl
    same_move_waits x es ec k (Some m) = same_act_waits ms s c h x es ec k m m.act

    -- what is said of two threads found under one name: they are over alike, or they are one thread that goes on
    found : (D : Thread P → Thread P → Type 0) (t : ℕ) (x y : Thread P) → thread_at s.threads t ≡ Some x → thread_at c.threads t ≡ Some y → running x.slots x.life ≡ running y.slots y.life → (is_over x.life ≡ true → is_over y.life ≡ true → D x y)
        → (thread_at s.threads x.number ≡ Some x → thread_at c.threads x.number ≡ Some x → is_over x.life ≡ false → D x x) → D x y
    found D t x y es ec e f g = by (is_over x.life) refl
      where
        by : (b : Bool) → is_over x.life ≡ b → D x y
        by true k = f k (sym (over_running x.life y.life x.slots y.slots e) ∙ k)
        by false k =
            let nx = found_number s.threads t x es in
            let ny = found_number c.threads t y ec in
            let one : x ≡ y = same_thread x y (nx ∙ sym ny) e k in
            subst (D x) one (g (ap (thread_at s.threads) nx ∙ es) (ap (thread_at c.threads) nx ∙ ec ∙ ap Some (sym one)) k)

    same_step_of : (names : Fresh) (t : ℕ) (p q : Option (Thread P)) → thread_at s.threads t ≡ p → thread_at c.threads t ≡ q → running_in p ≡ running_in q → Both (step_of ms s names p) (step_of ms c names q)
    same_step_of names t None None es ec e = tt
    same_step_of names t None (Some y) es ec e = absurd cc
    same_step_of names t (Some x) None es ec e = absurd cc
    same_step_of names t (Some x) (Some y) es ec e =
        let f : running x.slots x.life ≡ running y.slots y.life = cc in
        found (λ x y. Both (step_of ms s names (Some x)) (step_of ms c names (Some y))) t x y es ec f
        (λ k l. subst (λ (z : Option (Stepped P)). Both z (step_of ms c names (Some y))) (sym (ap (moved ms s x names) (stays_over ms x.life k))) (subst (λ (z : Option (Stepped P)). Both None z) (sym (ap (moved ms c y names) (stays_over ms y.life l))) tt))
        (λ es ec k. same_moved names x es ec k (life_move ms x.life))

    pub both_step : (t : ℕ) (names : Fresh) → Both (step ms s t names) (step ms c t names)
    both_step t names = same_step_of names t (thread_at s.threads t) (thread_at c.threads t) refl refl (h.threads t)

    -- what threads wait for
    same_waits_for : (t : ℕ) (x y : Thread P) → thread_at s.threads t ≡ Some x → thread_at c.threads t ≡ Some y → running x.slots x.life ≡ running y.slots y.life → waits_for ms s x ≡ waits_for ms c y
    same_waits_for t x y es ec e =
        found (λ x y. waits_for ms s x ≡ waits_for ms c y) t x y es ec e (λ k l. ap (move_waits s x) (stays_over ms x.life k) ∙ sym (ap (move_waits c y) (stays_over ms y.life l)))
        (λ es ec k. same_move_waits x es ec k (life_move ms x.life))

    same_names : (k : Takes) (names : Fresh) → refused_names s k names ≡ refused_names c k names
    same_names no_name fresh.None = refl
    same_names a_thread (fresh.Thread u) = ap (λ b. if b then Some name_used else None) (given_same s c h u)
    same_names two_threads (fresh.Threads u v) = ap (λ b. if u == v || b || is_given s v then Some name_used else None) (given_same s c h u) ∙ ap (λ b. if u == v || is_given c u || b then Some name_used else None) (given_same s c h v)
    same_names a_mutex (fresh.Mutex n) = ap (λ b. if b then Some name_used else None) (same_given s.mutexes c.mutexes h.mutexes n)
    same_names _ _ = refl

    same_refused_of : (names : Fresh) (t : ℕ) (p q : Option (Thread P)) → thread_at s.threads t ≡ p → thread_at c.threads t ≡ q → running_in p ≡ running_in q → refused_of ms s names p ≡ refused_of ms c names q
    same_refused_of names t None None es ec e = refl
    same_refused_of names t None (Some y) es ec e = absurd cc
    same_refused_of names t (Some x) None es ec e = absurd cc
    same_refused_of names t (Some x) (Some y) es ec e =
        let f : running x.slots x.life ≡ running y.slots y.life = cc in
        found (λ x y. refused_of ms s names (Some x) ≡ refused_of ms c names (Some y)) t x y es ec f
        (λ k l. ap (λ (b : Bool). if b then Some has_ended else refused_wait (waits_for ms s x) (refused_names s (takes_name (life_move ms x.life)) names)) k ∙ sym (ap (λ (b : Bool). if b then Some has_ended else refused_wait (waits_for ms c y) (refused_names c (takes_name (life_move ms y.life)) names)) l))
        (λ es ec k. ap (λ w. if is_over x.life then Some has_ended else refused_wait w (refused_names s (takes_name (life_move ms x.life)) names)) (same_move_waits x es ec k (life_move ms x.life))
        ∙ ap (λ r. if is_over x.life then Some has_ended else refused_wait (waits_for ms c x) r) (same_names (takes_name (life_move ms x.life)) names))

    same_refused : (t : ℕ) (names : Fresh) → refused ms s t names ≡ refused ms c t names
    same_refused t names = same_refused_of names t (thread_at s.threads t) (thread_at c.threads t) refl refl (h.threads t)

    same_waits_at : (t : ℕ) → waits_at ms s t ≡ waits_at ms c t
    same_waits_at t = by (thread_at s.threads t) (thread_at c.threads t) refl refl (h.threads t)
      where
        by : (p q : Option (Thread P)) → thread_at s.threads t ≡ p → thread_at c.threads t ≡ q → running_in p ≡ running_in q → waits_in ms s p ≡ waits_in ms c q
        by None None es ec e = refl
        by None (Some y) es ec e = absurd cc
        by (Some x) None es ec e = absurd cc
        by (Some x) (Some y) es ec e = same_waits_for t x y es ec cc

  -- RUNS

  then_both : (p q : Option (Stepped P)) (f : Whole P → Option (Stepped P)) → Both p q → ((s c : Whole P) → Same s c → Both (f s) (f c)) → Both (go_on p f) (go_on q f)
  then_both None None f e h = tt
  then_both None (Some b) f e h = absurd e
  then_both (Some a) None f e h = absurd e
  then_both (Some a) (Some b) f e h = by (f a.state) (f b.state) (h a.state b.state e.1)
    where
      by : (p q : Option (Stepped P)) → Both p q → Both (then_labels a.labels p) (then_labels b.labels q)
      by None None k = tt
      by None (Some d) k = absurd k
      by (Some d) None k = absurd k
      by (Some x) (Some y) k = (ap (λ l. l ++ x.labels) e.0 ∙ ap (λ l. b.labels ++ l) k.0, k.1)

  pub both_run : (ms : Moves P) (order : List Turn) (s c : Whole P) → Same s c → Both (run ms s order) (run ms c order)
  both_run ms [] s c h = (refl, h)
  both_run ms (t ∷ ts) s c h = then_both (step ms s t.0 t.1) (step ms c t.0 t.1) (λ z. run ms z ts) (both_step ms s c h t.0 t.1) (λ a b k. both_run ms ts a b k)

  shown_both : (p q : Option (Stepped P)) → Both p q → SameStepped p q
  shown_both None None e = tt
  shown_both None (Some y) e = absurd e
  shown_both (Some x) None e = absurd e
  shown_both (Some x) (Some y) e = (e.0, same_to_names x.state y.state e.1)

  -- ENDINGS

  abbrev all_of : (Thread P → Bool) → List (Thread P) → Bool
  all_of f [] = true
  all_of f (x ∷ xs) = f x && all_of f xs

  abbrev holds : (Thread P → Bool) → Option (Thread P) → Bool
  holds f None = true
  holds f (Some x) = f x

  found_all : (f : Thread P → Bool) (xs : List (Thread P)) → all_of f xs ≡ true → (t : ℕ) → holds f (thread_at xs t) ≡ true
  found_all f [] e t = refl
  found_all f (x ∷ xs) e t =
      let z = both_true (f x) (all_of f xs) e in
      eq_cases (λ b. holds f (if b then Some x else thread_at xs t) ≡ true) x.number t (λ _. z.0) (λ _. found_all f xs z.1 t)

  all_found : (f : Thread P → Bool) (xs : List (Thread P)) → IsListedOnce xs → ((t : ℕ) → holds f (thread_at xs t) ≡ true) → all_of f xs ≡ true
  all_found f [] h e = refl
  all_found f (x ∷ xs) h e =
      let first : f x ≡ true = eq_cases (λ b. holds f (if b then Some x else thread_at xs x.number) ≡ true → f x ≡ true) x.number x.number (λ _ k. k) (λ ne k. absurd (ne refl)) (e x.number) in
      let rest : all_of f xs ≡ true = all_found f xs h.1 (λ t. eq_cases (λ b. holds f (if b then Some x else thread_at xs t) ≡ true → holds f (thread_at xs t) ≡ true) x.number t (λ n k. ap (λ u. holds f (thread_at xs u)) (sym n) ∙ ap (holds f) h.0) (λ _ k. k) (e t)) in
      ap (λ b. b && all_of f xs) first ∙ rest

  same_all : (f g : Thread P → Bool) (xs ys : List (Thread P)) → IsListedOnce xs → IsListedOnce ys → ((t : ℕ) → holds f (thread_at xs t) ≡ holds g (thread_at ys t)) → all_of f xs ≡ all_of g ys
  same_all f g xs ys h k e =
      both_ways (all_of f xs) (all_of g ys) (λ z. all_found g ys k (λ t. sym (e t) ∙ found_all f xs z t)) (λ z. all_found f xs h (λ t. e t ∙ found_all g ys z t))

  over_all : (xs : List (Thread P)) → all_over xs ≡ all_of (λ x. is_over x.life) xs
  over_all [] = refl
  over_all (x ∷ xs) = ap (λ b. is_over x.life && b) (over_all xs)

  wait_all : (ms : Moves P) (s : Whole P) (xs : List (Thread P)) → all_wait ms s xs ≡ all_of (λ x. is_over x.life || is_some (waits_for ms s x)) xs
  wait_all ms s [] = refl
  wait_all ms s (x ∷ xs) = ap (λ b. (is_over x.life || is_some (waits_for ms s x)) && b) (wait_all ms s xs)

  module _ (ms : Moves P) (s c : Whole P) (h : Same s c) (a : IsListedOnce s.threads) (b : IsListedOnce c.threads) where
    same_over : all_over s.threads ≡ all_over c.threads
    same_over = over_all s.threads ∙ same_all (λ x. is_over x.life) (λ x. is_over x.life) s.threads c.threads a b (λ t. by (thread_at s.threads t) (thread_at c.threads t) (h.threads t)) ∙ sym (over_all c.threads)
      where
        by : (p q : Option (Thread P)) → running_in p ≡ running_in q → holds (λ x. is_over x.life) p ≡ holds (λ x. is_over x.life) q
        by None None e = refl
        by None (Some y) e = absurd cc
        by (Some x) None e = absurd cc
        by (Some x) (Some y) e = over_running x.life y.life x.slots y.slots cc

    same_wait : all_wait ms s s.threads ≡ all_wait ms c c.threads
    same_wait =
        wait_all ms s s.threads
        ∙ same_all (λ x. is_over x.life || is_some (waits_for ms s x)) (λ x. is_over x.life || is_some (waits_for ms c x)) s.threads c.threads a b (λ t. by t (thread_at s.threads t) (thread_at c.threads t) refl refl (h.threads t)) ∙ sym (wait_all ms c c.threads)
      where
        by : (t : ℕ) (p q : Option (Thread P)) → thread_at s.threads t ≡ p → thread_at c.threads t ≡ q → running_in p ≡ running_in q → holds (λ x. is_over x.life || is_some (waits_for ms s x)) p ≡ holds (λ x. is_over x.life || is_some (waits_for ms c x)) q
        by t None None es ec e = refl
        by t None (Some y) es ec e = absurd cc
        by t (Some x) None es ec e = absurd cc
        by t (Some x) (Some y) es ec e =
            let f : running x.slots x.life ≡ running y.slots y.life = cc in
            ap (λ o. o || is_some (waits_for ms s x)) (over_running x.life y.life x.slots y.slots f) ∙ ap (λ w. is_over y.life || is_some w) (same_waits_for ms s c h t x y es ec f)

    same_ending : ending_of ms s ≡ ending_of ms c
    same_ending =
        ap (λ b. (let e : Ending3 = if b then ending.Finished else if all_wait ms s s.threads then ending.Deadlocked else ending.Going in e)) same_over
        ∙ ap (λ b. (let e : Ending3 = if all_over c.threads then ending.Finished else if b then ending.Deadlocked else ending.Going in e)) same_wait

  pub same_plain : (ms : Moves P) → SamePlain ms
  same_plain ms s c e =
      let h = same_by_names s c e in
      record {
        steps = λ t names. shown_both (step ms s t names) (step ms c t names) (both_step ms s c h t names);
        runs = λ order. shown_both (run ms s order) (run ms c order) (both_run ms order s c h);
        waits = same_waits_at ms s c h;
        refusals = same_refused ms s c h;
        endings = same_ending ms s c h;
      }
