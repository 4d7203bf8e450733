-- A step prints the prints in its labels, and so does a run.
use Rattle.std.proofs.Common.{◌≡◌, ℕ, zero, suc, ◌==◌, Bool, true, false, ◌||◌, List, [], ◌∷◌, ◌++◌, Option, Some, None, refl, sym, ap, ◌∙◌}
use Rattle.std.proofs.lemmas.List.{append-nil, append_assoc}
use Rattle.std.specs.Prelude.{⊤, ℤ, if◌then◌else◌, is_some}
use Rattle.fr_base.specs.declared.name.MutexNo.{MutexNo}
use Rattle.fr_base.specs.declared.place.Lval.{Lval}
use Rattle.fr_base.specs.declared.label.Plain.{Plain}
use Rattle.fr_base.specs.declared.label.Plain.TheVariants as plain
use Rattle.fr_base.specs.declared.label.Label.{Label}
use Rattle.fr_base.specs.declared.label.Label.TheVariants as label
use Rattle.fr_base.specs.declared.step.Fresh.{Fresh}
use Rattle.fr_base.specs.declared.step.Fresh.TheVariants as fresh
use Rattle.fr_plain.specs.declared.value.Value.{Value}
use Rattle.fr_plain.specs.declared.value.Value.TheVariants.{Own, ToSlot, ToObject, Held}
use Rattle.fr_plain.specs.State as local
use Rattle.fr_plain.specs.MachineActs.{Capture, Act, do_let, do_read, do_borrow, do_assign, do_box, do_arith, do_print, do_discard, do_drop, do_end, do_spawn, do_join, do_finish, do_leave, do_mutex, do_dup, do_lock, do_unlock, do_par, do_par_end, Did, act, unit, drops_last}
use Rattle.fr_plain.specs.MachineThreads.{Move, Moves, Life, alive, over, owing, loose, ended, life_move, Passed, pass, Thread, Shared, Pair, Whole, mutex_at, mutex_there, pair_of, thread_at, result_in, result_at, state_of, thread_released, thread_released_in, content_gone, share_gone, share_released, release_by, count_both, release}
use Rattle.fr_plain.specs.Machine.{Stepped, Turn, prints, is_nameless, nameless, mutex_value, mutex_behind, then_released, stepped, alone_stepped, started_with, started, joined_with, joined, goes_on, made, where_there, at_mutex, at_place, shared, locked_with, locked, given_back, unlocked, two_with, second_of, two_started, two_ended, two_joined, done_act, moved, step_of, step, then_labels, go_on, run}

-- LABELS WITHOUT PRINTS

prints_append : (a b : List Label) → prints (a ++ b) ≡ prints a ++ prints b
prints_append [] b = refl
prints_append (label.Print n ∷ a) b = ap (λ ns. n ∷ ns) (prints_append a b)
prints_append (label.Make o v ∷ a) b = prints_append a b
prints_append (label.Load o v ∷ a) b = prints_append a b
prints_append (label.Store o v ∷ a) b = prints_append a b
prints_append (label.Drop o ∷ a) b = prints_append a b
prints_append (label.Lock m ∷ a) b = prints_append a b
prints_append (label.Unlock m ∷ a) b = prints_append a b
prints_append (label.Start t ∷ a) b = prints_append a b
prints_append (label.End t ∷ a) b = prints_append a b

both_silent : (a b : List Label) → prints a ≡ [] → prints b ≡ [] → prints (a ++ b) ≡ []
both_silent a b h k = prints_append a b ∙ ap (λ ns. ns ++ prints b) h ∙ k

loads_silent : (p : local.Spot) (v : Value) → prints (local.loads p v) ≡ []
loads_silent (local.in_slot i) v = refl
loads_silent (local.in_cell o) (Own v) = refl
loads_silent (local.in_cell o) (ToSlot i) = refl
loads_silent (local.in_cell o) (ToObject p) = refl
loads_silent (local.in_cell o) (Held p) = refl

abbrev Silent : Option local.Reached → Type 0
Silent None = ⊤
Silent (Some r) = prints r.passed ≡ []

led_silent : (r : local.Reached) → prints r.passed ≡ [] → (v : Option Value) → Silent (local.led r v)
led_silent r h None = tt
led_silent r h (Some (Own (plain.Box o))) = both_silent r.passed (local.loads r.spot (Own (plain.Box o))) h (loads_silent r.spot (Own (plain.Box o)))
led_silent r h (Some (ToSlot i)) = h
led_silent r h (Some (ToObject o)) = h
led_silent r h (Some (Held o)) = tt
led_silent r h (Some (Own plain.Nothing)) = tt
led_silent r h (Some (Own plain.Unit)) = tt
led_silent r h (Some (Own (plain.Int n))) = tt
led_silent r h (Some (Own (plain.Mutex m))) = tt
led_silent r h (Some (Own (plain.Task t))) = tt

then_silent : (o : Option local.Reached) (go : local.Reached → Option local.Reached) → Silent o → ((r : local.Reached) → prints r.passed ≡ [] → Silent (go r)) → Silent (local.then_reached o go)
then_silent None go h f = tt
then_silent (Some r) go h f = f r h

-- the way to a place has loads alone
stars_silent : (s : local.State) (slot n : ℕ) → Silent (local.stars s slot n)
stars_silent s slot zero = refl
stars_silent s slot (suc n) = then_silent (local.stars s slot n) (λ r. local.led r (local.value_at s r.spot)) (stars_silent s slot n) (λ r h. led_silent r h (local.value_at s r.spot))

abbrev SilentAt : Option (MutexNo × List Label) → Type 0
SilentAt None = ⊤
SilentAt (Some p) = prints p.1 ≡ []

value_silent : (r : local.Reached) → prints r.passed ≡ [] → (v : Option Value) → SilentAt (mutex_value r v)
value_silent r h None = tt
value_silent r h (Some (Own (plain.Mutex m))) = both_silent r.passed (local.loads r.spot (Own (plain.Mutex m))) h (loads_silent r.spot (Own (plain.Mutex m)))
value_silent r h (Some (Own plain.Nothing)) = tt
value_silent r h (Some (Own plain.Unit)) = tt
value_silent r h (Some (Own (plain.Int n))) = tt
value_silent r h (Some (Own (plain.Box o))) = tt
value_silent r h (Some (Own (plain.Task t))) = tt
value_silent r h (Some (ToSlot i)) = tt
value_silent r h (Some (ToObject o)) = tt
value_silent r h (Some (Held o)) = tt

then_at : (o : Option local.Reached) (go : local.Reached → Option (MutexNo × List Label)) → Silent o → ((r : local.Reached) → prints r.passed ≡ [] → SilentAt (go r)) → SilentAt (local.then_reached o go)
then_at None go h f = tt
then_at (Some r) go h f = f r h

-- and so has the way to a mutex
behind_silent : (s : local.State) (w : Lval) → SilentAt (mutex_behind s w)
behind_silent s w = then_at (local.locate s w) (λ r. mutex_value r (local.value_at s r.spot)) (stars_silent s w.slot w.depth) (λ r h. value_silent r h (local.value_at s r.spot))

-- nothing is printed
same_output : (ns : List ℤ) (ls : List Label) → prints ls ≡ [] → ns ≡ ns ++ prints ls
same_output ns ls h = sym (ap (λ ms. ns ++ ms) h ∙ append-nil ns)

module _ {P : Type 0} where
  -- WHAT IS DROPPED PRINTS NOTHING

  abbrev Quiet : (Whole P → Plain → Whole P) → Type 0
  Quiet go = (s : Whole P) (v : Plain) → (go s v).output ≡ s.output

  thread_quiet : (go : Whole P → Plain → Whole P) → Quiet go → (s : Whole P) (y : Thread P) (l : Life P) → (thread_released go s y l).output ≡ s.output
  thread_quiet go h s y (alive p) = refl
  thread_quiet go h s y (owing p) = refl
  thread_quiet go h s y (loose p) = refl
  thread_quiet go h s y (ended v) = h _ _
  thread_quiet go h s y over = refl

  thread_in_quiet : (go : Whole P → Plain → Whole P) → Quiet go → (s : Whole P) (y : Option (Thread P)) → (thread_released_in go s y).output ≡ s.output
  thread_in_quiet go h s None = refl
  thread_in_quiet go h s (Some y) = thread_quiet go h s y y.life

  content_quiet : (go : Whole P → Plain → Whole P) → Quiet go → (s : Whole P) (v : Option Plain) → (content_gone go s v).output ≡ s.output
  content_quiet go h s None = refl
  content_quiet go h s (Some v) = h _ _

  share_quiet : (go : Whole P → Plain → Whole P) → Quiet go → (s : Whole P) (n : MutexNo) (x : Shared) (k : ℕ) → (share_gone go s n x k).output ≡ s.output
  share_quiet go h s n x zero = content_quiet go h _ x.content
  share_quiet go h s n x (suc zero) = content_quiet go h _ x.content
  share_quiet go h s n x (suc (suc k)) = refl

  share_in_quiet : (go : Whole P → Plain → Whole P) → Quiet go → (s : Whole P) (n : MutexNo) (x : Option Shared) → (share_released go s n x).output ≡ s.output
  share_in_quiet go h s n None = refl
  share_in_quiet go h s n (Some x) = share_quiet go h s n x x.shares

  release_quiet : (k : ℕ) → Quiet (release_by k)
  release_quiet k s plain.Nothing = refl
  release_quiet k s plain.Unit = refl
  release_quiet k s (plain.Int n) = refl
  release_quiet k s (plain.Box o) = refl
  release_quiet zero s (plain.Task t) = refl
  release_quiet (suc k) s (plain.Task t) = thread_in_quiet (release_by k) (release_quiet k) s (thread_at s.threads t)
  release_quiet zero s (plain.Mutex m) = refl
  release_quiet (suc k) s (plain.Mutex m) = share_in_quiet (release_by k) (release_quiet k) s m (mutex_there s.mutexes m)

  all_quiet : Quiet release
  all_quiet s v = release_quiet (count_both s.mutexes s.threads) s v

  -- A STEP

  abbrev pub Output : Whole P → Option (Stepped P) → Type 0
  Output s None = ⊤
  Output s (Some d) = d.state.output ≡ s.output ++ prints d.labels

  if_output : (s : Whole P) (b : Bool) (d : Option (Stepped P)) → Output s d → Output s (if b then d else None)
  if_output s true d h = h
  if_output s false d h = tt

  unless_output : (s : Whole P) (b : Bool) (d : Option (Stepped P)) → Output s d → Output s (if b then None else d)
  unless_output s true d h = tt
  unless_output s false d h = h

  module _ (ms : Moves P) (s : Whole P) (y : Thread P) (m : Move P (Life P)) where
    -- ONE THREAD ALONE

    stepped_output : (d : Option Did) → Output s (stepped ms s y m d)
    stepped_output None = tt
    stepped_output (Some d) = refl

    released_output : (v : Plain) (d : Option (Stepped P)) → Output s d → Output s (then_released v d)
    released_output v None h = tt
    released_output v (Some d) h = all_quiet d.state v ∙ h

    alone_output : (a : Act P) → Output s (alone_stepped ms s y m a)
    alone_output a =
        let did = act a (state_of s y) in
        released_output (drops_last a (state_of s y)) (stepped ms s y m did) (stepped_output did)

    -- OTHER THREADS

    start_with_output : (body : P) (u : ℕ) (p : Option Passed) → Output s (started_with ms s y m body u p)
    start_with_output body u None = tt
    start_with_output body u (Some p) = same_output s.output (label.Start u ∷ []) refl

    start_output : (names : Fresh) (body : P) (passed : List Value → Option Passed) → Output s (started ms s y m names body passed)
    start_output fresh.None body passed = tt
    start_output (fresh.Threads a b) body passed = tt
    start_output (fresh.Mutex n) body passed = tt
    start_output (fresh.Thread u) body passed = unless_output s (is_some (thread_at s.threads u)) (started_with ms s y m body u (passed y.slots)) (start_with_output body u (passed y.slots))

    join_with_output : (x : Option (Thread P)) (v : Option Value) → Output s (joined_with ms s y m x v)
    join_with_output None v = tt
    join_with_output (Some x) None = tt
    join_with_output (Some x) (Some v) = same_output s.output [] refl

    join_output : (v : Value) → Output s (joined ms s y m v)
    join_output (Own (plain.Task u)) = join_with_output (thread_at s.threads u) (result_in (thread_at s.threads u))
    join_output (Own plain.Nothing) = tt
    join_output (Own plain.Unit) = tt
    join_output (Own (plain.Int n)) = tt
    join_output (Own (plain.Box o)) = tt
    join_output (Own (plain.Mutex n)) = tt
    join_output (ToSlot i) = tt
    join_output (ToObject o) = tt
    join_output (Held o) = tt

    -- MUTEXES

    made_output : (names : Fresh) (v : Value) → Output s (made ms s y m names v)
    made_output fresh.None v = tt
    made_output (fresh.Thread t) v = tt
    made_output (fresh.Threads a b) v = tt
    made_output (fresh.Mutex n) (Own v) = unless_output s (is_some (mutex_at s.mutexes n)) _ (same_output s.output [] refl)
    made_output (fresh.Mutex n) (ToSlot i) = tt
    made_output (fresh.Mutex n) (ToObject o) = tt
    made_output (fresh.Mutex n) (Held o) = tt

    where_output : (x : Option Shared) (go : Shared → Option (Stepped P)) → ((z : Shared) → Output s (go z)) → Output s (where_there ms x go)
    where_output None go h = tt
    where_output (Some x) go h = h x

    at_output : (p : Option (MutexNo × List Label)) (go : MutexNo → List Label → Shared → Option (Stepped P)) → SilentAt p → ((n : MutexNo) (ls : List Label) (x : Shared) → prints ls ≡ [] → Output s (go n ls x)) → Output s (at_mutex ms s p go)
    at_output None go e h = tt
    at_output (Some p) go e h = where_output (mutex_there s.mutexes p.0) (go p.0 p.1) (λ x. h p.0 p.1 x e)

    place_output : (w : Lval) (go : MutexNo → List Label → Shared → Option (Stepped P)) → ((n : MutexNo) (ls : List Label) (x : Shared) → prints ls ≡ [] → Output s (go n ls x)) → Output s (at_place ms s y w go)
    place_output w go h = at_output (mutex_behind (state_of s y) w) go (behind_silent (state_of s y) w) h

    lock_output : (n : MutexNo) (ls : List Label) (x : Shared) (v : Option Plain) → prints ls ≡ [] → Output s (locked_with ms s y m n ls x v)
    lock_output n ls x None h = tt
    lock_output n ls x (Some v) h = same_output s.output (ls ++ label.Lock n ∷ []) (both_silent ls (label.Lock n ∷ []) h refl)

    back_output : (z : Whole P) (n : MutexNo) (v : Plain) (x : Option Shared) → (given_back ms z n v x).output ≡ z.output
    back_output z n v None = content_quiet release all_quiet z (Some v)
    back_output z n v (Some x) = refl

    unlock_output : (vs : List Value) → Output s (unlocked ms s y m vs)
    unlock_output (Own v ∷ Held n ∷ rest) = back_output (goes_on ms s y m unit rest) n v (mutex_there s.mutexes n) ∙ same_output s.output (label.Unlock n ∷ []) refl
    unlock_output _ = tt

    -- PAIRS

    two_output : (a : ℕ) (p : P) (first : List Value) (b : ℕ) (q : P) (x : Option Passed) → Output s (two_with ms s y m a p first b q x)
    two_output a p first b q None = tt
    two_output a p first b q (Some x) = same_output s.output (label.Start a ∷ label.Start b ∷ []) refl

    second_output : (a : ℕ) (p : P) (ds : List Capture) (b : ℕ) (q : P) (x : Option Passed) → Output s (second_of ms s y m a p ds b q x)
    second_output a p ds b q None = tt
    second_output a p ds b q (Some x) = two_output a p x.new b q (pass ds x.left [])

    pair_output : (names : Fresh) (cs : List Capture) (p : P) (ds : List Capture) (q : P) → Output s (two_started ms s y m names cs p ds q)
    pair_output fresh.None cs p ds q = tt
    pair_output (fresh.Thread t) cs p ds q = tt
    pair_output (fresh.Mutex n) cs p ds q = tt
    pair_output (fresh.Threads a b) cs p ds q = unless_output s (a == b || is_some (thread_at s.threads a) || is_some (thread_at s.threads b)) _ (second_output a p ds b q (pass cs y.slots []))

    ended_output : (p : Pair) (v w : Option Value) → Output s (two_ended ms s y m p v w)
    ended_output p None w = tt
    ended_output p (Some v) None = tt
    ended_output p (Some v) (Some w) = same_output s.output [] refl

    two_join_output : (p : Option Pair) → Output s (two_joined ms s y m p)
    two_join_output None = tt
    two_join_output (Some p) = ended_output p (result_at s.threads p.first) (result_at s.threads p.second)

    -- ALL ACTS

    nameless_output : (names : Fresh) (d : Option (Stepped P)) → Output s d → Output s (nameless names d)
    nameless_output names d h = if_output s (is_nameless names) d h

    done_output : (names : Fresh) (a : Act P) → Output s (done_act ms s y names m a)
    done_output names (do_let v) = nameless_output names _ (alone_output (do_let v))
    done_output names (do_read w take) = nameless_output names _ (alone_output (do_read w take))
    done_output names (do_borrow w is_mut) = nameless_output names _ (alone_output (do_borrow w is_mut))
    done_output names (do_assign w v) = nameless_output names _ (alone_output (do_assign w v))
    done_output names (do_box v) = nameless_output names _ (alone_output (do_box v))
    done_output names (do_arith f a b) = nameless_output names _ (alone_output (do_arith f a b))
    done_output names (do_print v) = nameless_output names _ (alone_output (do_print v))
    done_output names (do_discard v) = nameless_output names _ (alone_output (do_discard v))
    done_output names do_drop = nameless_output names _ (alone_output do_drop)
    done_output names (do_end v) = nameless_output names _ (alone_output (do_end v))
    done_output names (do_finish v) = nameless_output names _ (alone_output (do_finish v))
    done_output names (do_leave v) = nameless_output names _ (alone_output (do_leave v))
    done_output names (do_spawn cs r) = start_output names r (λ slots. pass cs slots [])
    done_output names (do_join v) = nameless_output names _ (join_output v)
    done_output names (do_mutex v) = made_output names v
    done_output names (do_dup w) = nameless_output names _ (place_output w (shared ms s y m) (λ n ls x h. same_output s.output ls h))
    done_output names (do_lock w) = nameless_output names _ (place_output w (locked ms s y m) (λ n ls x h. lock_output n ls x x.content h))
    done_output names do_unlock = nameless_output names _ (unlock_output y.slots)
    done_output names (do_par cs p ds q) = pair_output names cs p ds q
    done_output names do_par_end = nameless_output names _ (two_join_output (pair_of s.pairs y.number))

  moved_output : (ms : Moves P) (s : Whole P) (y : Thread P) (names : Fresh) (m : Option (Move P (Life P))) → Output s (moved ms s y names m)
  moved_output ms s y names None = tt
  moved_output ms s y names (Some m) = done_output ms s y m names m.act

  step_output : (ms : Moves P) (s : Whole P) (names : Fresh) (y : Option (Thread P)) → Output s (step_of ms s names y)
  step_output ms s names None = tt
  step_output ms s names (Some y) = moved_output ms s y names (life_move ms y.life)

  -- RUNS

  labels_output : (s : Whole P) (d : Stepped P) (e : Option (Stepped P)) → d.state.output ≡ s.output ++ prints d.labels → Output d.state e → Output s (then_labels d.labels e)
  labels_output s d None h k = tt
  labels_output s d (Some e) h k =
      k ∙ ap (λ ns. ns ++ prints e.labels) h ∙ append_assoc s.output (prints d.labels) (prints e.labels) ∙ ap (λ ns. s.output ++ ns) (sym (prints_append d.labels e.labels))

  after_output : (s : Whole P) (d : Option (Stepped P)) (f : Whole P → Option (Stepped P)) → Output s d → ((x : Whole P) → Output x (f x)) → Output s (go_on d f)
  after_output s None f h k = tt
  after_output s (Some d) f h k = labels_output s d (f d.state) h (k d.state)

  pub run_output : (ms : Moves P) (turns : List Turn) (s : Whole P) → Output s (run ms s turns)
  run_output ms [] s = same_output s.output [] refl
  run_output ms (t ∷ ts) s = after_output s (step ms s t.0 t.1) (λ d. run ms d ts) (step_output ms s t.1 (thread_at s.threads t.0)) (λ x. run_output ms ts x)
