-- What is known of a thread whose step can be done.
use Rattle.std.proofs.Common.{◌≡◌, ℕ, ℤ, zero, suc, ◌<◌, Bool, true, false, List, [], ◌∷◌, length, get_or, Option, Some, None, refl, sym, ap, ◌∙◌, subst, arith}
use Rattle.std.specs.Prelude.{IsSome, is_some, option_map, if◌then◌else◌}
use Rattle.fr_base.specs.declared.label.Plain.TheVariants as plain
use Rattle.fr_base.specs.declared.step.Fresh.{Fresh}
use Rattle.fr_base.specs.declared.step.Fresh.TheVariants as fresh
use Rattle.fr_plain.specs.declared.value.Value.{Value}
use Rattle.fr_plain.specs.declared.value.Value.TheVariants.{Own, ToSlot, ToObject, Held}
use Rattle.fr_plain.specs.Acts.{Act, do_spawn, do_join, do_dup, do_lock, do_unlock, do_par_end, Did, act, drops_last}
use Rattle.fr_plain.specs.Run.{Run, Move, next, move, Life, life_move}
use Rattle.fr_plain.specs.Threads.{Passed, result_of_life, result_in as result_in_plain}
use Rattle.fr_plain.specs.Whole.{no_name, Thread as PlainThread, Whole, Stepped, thread_at, is_given, pass, stepped, then_released, alone_stepped, started_with, joined, joined_with, done_act, moved, step_of, step, state_of}
use Rattle.fr_forms.specs.declared.forms.Form.{Form}
use Rattle.fr_meaning.specs.declared.frame.Frame.{Frame}
use Rattle.fr_meaning.specs.declared.next.Next.{Next}
use Rattle.fr_meaning.specs.declared.next.Next.TheVariants as next_
use Rattle.fr_meaning.specs.declared.thread.Stage.{Stage}
use Rattle.fr_meaning.specs.declared.thread.Stage.TheVariants as stage
use Rattle.fr_meaning.specs.declared.thread.Thread.{Thread}
use Rattle.fr_forms.specs.FormTerms.{AreInOrder, captures_of, captures_at}
use Rattle.fr_meaning.specs.Next.{IsNext, next_takes, task_named}
use Rattle.fr_shared.specs.Places.{place_of}
use Rattle.fr_acts.specs.SlotOrder.{newest_first}
use Rattle.fr_meaning.specs.Beside.{Beside}
use Rattle.fr_meaning.specs.Threads.{run_in, IsWell, AreWell, IsGoingOn, IsEnded, result_in, life_at, thread_of, threads_of, whole, numbers_of}
use Rattle.fr_acts.specs.Acting.{state, releases}
use Rattle.fr_meaning.specs.Turning.{turned_by, turned, settled, term_step}
use Rattle.fr_meaning.proofs.EntryLemmas.{at_same}
use Rattle.fr_forms.proofs.FormLemmas.{eq_cases}
use Rattle.fr_meaning.proofs.OwnActs.{Owns, own_named, own_done, nameless}
use Rattle.fr_meaning.proofs.StepLemmas.{not_done}
use Rattle.fr_meaning.proofs.ThreadLists.{none_there, there_at, well_at}
use Rattle.fr_meaning.proofs.NextMoves.{Moves, next_moves, run_owns}
use Rattle.fr_meaning.proofs.WholeSteps.{life_moves, kept_result, moved_to}

-- PLACES

some_map : (o : Option ℕ) → is_some o ≡ is_some (option_map (λ k. suc k) o)
some_map None = refl
some_map (Some k) = refl

-- a thread is there exactly where its number has a place
pub given_place : (fs : List Form) (xs : List Thread) (t : ℕ) → is_some (thread_at (threads_of fs xs) t) ≡ is_some (place_of (numbers_of xs) t)
given_place fs [] t = refl
given_place fs (x ∷ xs) t =
    eq_cases (λ b. is_some (if b then Some (thread_of fs x) else thread_at (threads_of fs xs) t) ≡ is_some (if b then Some 0 else option_map (λ k. suc k) (place_of (numbers_of xs) t))) x.number t
    (λ same. refl) (λ other. given_place fs xs t ∙ some_map (place_of (numbers_of xs) t))

later_inside : (o : Option ℕ) (i n : ℕ) → ((k : ℕ) → o ≡ Some k → k < n) → option_map (λ k. suc k) o ≡ Some i → i < suc n
later_inside None i n h e = absurd cc
later_inside (Some k) i n h e = let same : suc k ≡ i = cc in omega (arith, h k refl)

-- a place is inside the list
pub place_inside : (xs : List Thread) (t i : ℕ) → place_of (numbers_of xs) t ≡ Some i → i < length xs
place_inside [] t i h = absurd cc
place_inside (x ∷ xs) t i h =
    eq_cases (λ b. (if b then Some 0 else option_map (λ k. suc k) (place_of (numbers_of xs) t)) ≡ Some i → i < suc (length xs)) x.number t
    (λ same g. let z : 0 ≡ i = cc in omega arith) (λ other g. later_inside (place_of (numbers_of xs) t) i (length xs) (λ k e. place_inside xs t k e) g) h

none_of : (o : Option ℕ) → is_some o ≡ false → o ≡ None
none_of None h = refl
none_of (Some k) h = absurd cc

-- THE THREAD

pub no_some : {A : Type 0} (o : Option A) → o ≡ None → IsSome o → ⊥
no_some None e h = let f : false ≡ true = h in cc
no_some (Some x) e h = cc

-- a thread without a place takes no step
pub no_step : (fs : List Form) (xs : List Thread) (beside : Beside) (output : List ℤ) (t : ℕ) (names : Fresh) → place_of (numbers_of xs) t ≡ None → IsSome (step (whole fs xs beside output) t names) → ⊥
no_step fs xs beside output t names h goes = no_some (step (whole fs xs beside output) t names) (ap (step_of (whole fs xs beside output) names) (none_there fs xs t h)) goes

-- the thread at its place, whose next step can be done under these names
pub record Steps (fs : List Form) (xs : List Thread) (beside : Beside) (output : List ℤ) (t : ℕ) (names : Fresh) (i : ℕ) (x : Thread) (n : Next) : Type 0 where
  pub order : AreInOrder fs
  pub well : IsWell fs x
  pub place : place_of (numbers_of xs) t ≡ Some i
  pub is : x ≡ get_or xs i x
  pub comes : IsNext x.focus x.frames.items n
  pub goes : IsSome (step (whole fs xs beside output) t names)

module _ {fs : List Form} {xs : List Thread} {beside : Beside} {output : List ℤ} {t : ℕ} {names : Fresh} {i : ℕ} {x : Thread} {n : Next} where
  -- its move can be done
  pub move_goes : Steps fs xs beside output t names i x n → IsSome (moved (whole fs xs beside output) (thread_of fs x) names (life_move (life_at x.stage (run_in fs x))))
  move_goes h = subst (λ (o : Option Stepped). IsSome o) (ap (step_of (whole fs xs beside output) names) (there_at fs xs t i x h.place h.is).0) h.goes

  -- so it is in progress
  pub is_on : Steps fs xs beside output t names i x n → IsGoingOn x.stage
  is_on h = by x.stage (move_goes h)
    where
      by : (g : Stage) → IsSome (moved (whole fs xs beside output) (thread_of fs x) names (life_move (life_at g (run_in fs x)))) → IsGoingOn g
      by stage.Alive k = tt
      by stage.Owing k = tt
      by stage.Loose k = tt
      by stage.Over k = no_some {A = Stepped} None refl k
      by (stage.Ended v) k = no_some {A = Stepped} None refl k

  -- and its move is the one that comes next
  pub is_move : Steps fs xs beside output t names i x n → Moves fs n (life_move (life_at x.stage (run_in fs x)))
  is_move h = next_moves fs x n h.order h.well (is_on h) h.comes

-- from what is known of all threads
pub steps_at : (fs : List Form) (xs : List Thread) (beside : Beside) (output : List ℤ) (t : ℕ) (names : Fresh) (i : ℕ) (n : Next) (ns : List ℕ) → AreInOrder fs → AreWell fs xs → ns ≡ numbers_of xs → place_of ns t ≡ Some i → i < length xs →
    ((x : Thread) → x ≡ get_or xs i x → IsNext x.focus x.frames.items n) → IsSome (step (whole fs xs beside output) t names) → (x : Thread) → x ≡ get_or xs i x → Steps fs xs beside output t names i x n
steps_at fs xs beside output t names i n ns a all same h lt comes goes x is = record { order = a; well = well_at fs xs i x lt is all; place = ap (λ ks. place_of ks t) (sym same) ∙ h; is = is; comes = comes x is; goes = goes }

-- NAMES

-- an act of the thread's own takes none
own_goes : (s : Whole) (x : PlainThread) (names : Fresh) (o : Option (Move Life)) → Owns o → IsSome (moved s x names o) → names ≡ fresh.None
own_goes s x names None h g = absurd (no_some {A = Stepped} None refl g)
own_goes s x names (Some m) h g = (nameless names (alone_stepped s x m m.act) (subst (λ (o : Option Stepped). IsSome o) (own_named s x names m m.act h) g)).0

-- what a move does whose act is known
pub with_act : (s : Whole) (x : PlainThread) (names : Fresh) (o : Option (Move Life)) (m : Move Life) (a : Act) → o ≡ Some m → m.act ≡ a → IsSome (moved s x names o) → IsSome (done_act s x names m a)
with_act s x names o m a e same g = subst (λ (o : Option Stepped). IsSome o) (ap (moved s x names) e ∙ ap (done_act s x names m) same) g

-- nor does a join
pub takes_none : (fs : List Form) (xs : List Thread) (beside : Beside) (output : List ℤ) (t : ℕ) (names : Fresh) (i : ℕ) (x : Thread) (n : Next) → Steps fs xs beside output t names i x n → next_takes n ≡ no_name → names ≡ fresh.None
takes_none fs xs beside output t names i x (next_.End d) h e = own_goes (whole fs xs beside output) (thread_of fs x) names (life_move (life_at x.stage (run_in fs x))) (is_move h) (move_goes h)
takes_none fs xs beside output t names i x (next_.Join v) h e =
    let m = is_move h in
    (nameless names (joined (whole fs xs beside output) (thread_of fs x) m.0 v) (with_act (whole fs xs beside output) (thread_of fs x) names (life_move (life_at x.stage (run_in fs x))) m.0 (do_join v) m.1 m.2 (move_goes h))).0
takes_none fs xs beside output t names i x (next_.Start node) h e = absurd cc
takes_none fs xs beside output t names i x (next_.Mutex v) h e = absurd cc
takes_none fs xs beside output t names i x (next_.Par node) h e = absurd cc
takes_none fs xs beside output t names i x (next_.Dup w) h e =
    let m = is_move h in
    (nameless names _ (with_act (whole fs xs beside output) (thread_of fs x) names (life_move (life_at x.stage (run_in fs x))) m.0 (do_dup w) m.1 m.2 (move_goes h))).0
takes_none fs xs beside output t names i x (next_.Lock w node) h e =
    let m = is_move h in
    (nameless names _ (with_act (whole fs xs beside output) (thread_of fs x) names (life_move (life_at x.stage (run_in fs x))) m.0 (do_lock w) m.1 m.2 (move_goes h))).0
takes_none fs xs beside output t names i x (next_.Unlock d) h e =
    let m = is_move h in
    (nameless names _ (with_act (whole fs xs beside output) (thread_of fs x) names (life_move (life_at x.stage (run_in fs x))) m.0 do_unlock m.1 m.2 (move_goes h))).0
takes_none fs xs beside output t names i x next_.ParEnd h e =
    let m = is_move h in
    (nameless names _ (with_act (whole fs xs beside output) (thread_of fs x) names (life_move (life_at x.stage (run_in fs x))) m.0 do_par_end m.1 m.2 (move_goes h))).0
takes_none fs xs beside output t names i x next_.Own h e = own_goes (whole fs xs beside output) (thread_of fs x) names (life_move (life_at x.stage (run_in fs x))) (is_move h) (move_goes h)

-- AN ACT OF ITS OWN

-- what it does to the thread's term
alone_goes : (s : Whole) (x : PlainThread) (g : Stage) (o : Option (Move Run)) → Owns o → IsSome (moved s x fresh.None (next (life_at g) o)) → IsSome (settled (turned o (state_of s x)))
alone_goes s x g None w h = absurd (no_some {A = Stepped} None refl h)
alone_goes s x g (Some m) w h = by (act m.act (state_of s x)) (subst (λ (o : Option Stepped). IsSome o) (own_done s x (moved_to g m) m.act w) h)
  where
    by : (d : Option Did) → IsSome (then_released (drops_last m.act (state_of s x)) (stepped s x (moved_to g m) d)) → IsSome (settled (turned_by m (releases m.act (state_of s x)) d))
    by None k = absurd (no_some {A = Stepped} None refl k)
    by (Some d) k = refl

-- the step of the thread's term can be done
pub own_steps : (fs : List Form) (xs : List Thread) (beside : Beside) (output : List ℤ) (t i : ℕ) (x : Thread) → Steps fs xs beside output t fresh.None i x next_.Own → IsSome (term_step (run_in fs x) (state x.number x.slots.items beside.heap))
own_steps fs xs beside output t i x h =
    let e = life_moves x.stage (run_in fs x) (is_on h) (not_done fs x.frames.items x.focus h.order h.well.settled h.well.way h.comes.goes_on) in
    alone_goes (whole fs xs beside output) (thread_of fs x) x.stage (move (run_in fs x)) (run_owns fs x.frames.items x.focus h.well.settled h.well.way h.comes)
    (subst (λ (o : Option (Move Life)). IsSome (moved (whole fs xs beside output) (thread_of fs x) fresh.None o)) e (move_goes h))

-- A JOIN

-- the other thread, whose result is kept
record Kept (s : Whole) (v : Value) : Type 0 where
  joined : ℕ
  task : v ≡ Own (plain.Task joined)
  other : PlainThread
  found : thread_at s.threads joined ≡ Some other
  result : Value
  kept : result_of_life other.life ≡ Some result

join_finds : (s : Whole) (x : PlainThread) (m : Move Life) (v : Value) → IsSome (joined s x m v) → Kept s v
join_finds s x m (Own (plain.Task u)) h = by (thread_at s.threads u) refl h
  where
    by_result : (y : PlainThread) (w : Option Value) → thread_at s.threads u ≡ Some y → result_of_life y.life ≡ w → IsSome (joined_with s x m (Some y) w) → Kept s (Own (plain.Task u))
    by_result y None e f k = absurd (no_some {A = Stepped} None refl k)
    by_result y (Some w) e f k = record { joined = u; task = refl; other = y; found = e; result = w; kept = f }

    by : (o : Option PlainThread) → thread_at s.threads u ≡ o → IsSome (joined_with s x m o (result_in_plain o)) → Kept s (Own (plain.Task u))
    by None e k = absurd (no_some {A = Stepped} None refl k)
    by (Some y) e k = by_result y (result_of_life y.life) e refl k
join_finds s x m (Own plain.Nothing) h = absurd (no_some {A = Stepped} None refl h)
join_finds s x m (Own plain.Unit) h = absurd (no_some {A = Stepped} None refl h)
join_finds s x m (Own (plain.Int n)) h = absurd (no_some {A = Stepped} None refl h)
join_finds s x m (Own (plain.Box o)) h = absurd (no_some {A = Stepped} None refl h)
join_finds s x m (Own (plain.Mutex n)) h = absurd (no_some {A = Stepped} None refl h)
join_finds s x m (ToSlot n) h = absurd (no_some {A = Stepped} None refl h)
join_finds s x m (ToObject o) h = absurd (no_some {A = Stepped} None refl h)
join_finds s x m (Held o) h = absurd (no_some {A = Stepped} None refl h)

pub kept_ended : (g : Stage) (v : Value) → result_in g ≡ Some v → IsEnded g
kept_ended stage.Alive v h = absurd cc
kept_ended stage.Owing v h = absurd cc
kept_ended stage.Loose v h = absurd cc
kept_ended stage.Over v h = absurd cc
kept_ended (stage.Ended w) v h = tt

-- the thread that is joined has a place, and has ended
pub record JoinSteps (fs : List Form) (xs : List Thread) (v : Value) : Type 0 where
  pub joined : ℕ
  pub task : v ≡ Own (plain.Task joined)
  pub there : place_of (numbers_of xs) joined ≡ None → ⊥
  pub ended : (k : ℕ) (z : Thread) → place_of (numbers_of xs) joined ≡ Some k → z ≡ get_or xs k z → IsEnded z.stage

pub join_steps : (fs : List Form) (xs : List Thread) (beside : Beside) (output : List ℤ) (t i : ℕ) (x : Thread) (v : Value) → Steps fs xs beside output t fresh.None i x (next_.Join v) → JoinSteps fs xs v
join_steps fs xs beside output t i x v h =
    let s = whole fs xs beside output in
    let m = is_move h in
    let k = join_finds s (thread_of fs x) m.0 v (with_act s (thread_of fs x) fresh.None (life_move (life_at x.stage (run_in fs x))) m.0 (do_join v) m.1 m.2 (move_goes h)) in
    record {
      joined = k.joined;
      task = k.task;
      there = λ e. (let f : None ≡ Some k.other = sym (none_there fs xs k.joined e) ∙ k.found in cc);
      ended = λ p z e is. (let same = some_same (thread_of fs z) k.other (sym (there_at fs xs k.joined p z e is).0 ∙ k.found) in
          kept_ended z.stage k.result (sym (kept_result z.stage (run_in fs z)) ∙ ap (λ (y : PlainThread). result_of_life y.life) same ∙ k.kept));
    }
  where
    some_same : (a b : PlainThread) → Some a ≡ Some b → a ≡ b
    some_same a b e = cc

-- A START

-- the name is new, and the captures pass
pub record StartSteps (fs : List Form) (xs : List Thread) (names : Fresh) (x : Thread) (node : ℕ) : Type 0 where
  pub number : ℕ
  pub named : names ≡ fresh.Thread number
  pub new : place_of (numbers_of xs) number ≡ None
  pub passes : IsSome (pass (captures_of (captures_at fs node)) (newest_first x.slots.items) [])

pub start_steps : (fs : List Form) (xs : List Thread) (beside : Beside) (output : List ℤ) (t : ℕ) (names : Fresh) (i : ℕ) (x : Thread) (node : ℕ) → Steps fs xs beside output t names i x (next_.Start node) → StartSteps fs xs names x node
start_steps fs xs beside output t names i x node h =
    let m = is_move h in
    by names m.0 m.1 (with_act s (thread_of fs x) names (life_move (life_at x.stage (run_in fs x))) m.0 (do_spawn (captures_of (captures_at fs node)) m.1) m.2 m.3 (move_goes h))
  where
    s : Whole
    s = whole fs xs beside output

    passed : Option Passed
    passed = pass (captures_of (captures_at fs node)) (newest_first x.slots.items) []

    by_new : (m : Move Life) (r : Run) (u : ℕ) (b : Bool) (p : Option Passed) → is_given s u ≡ b → passed ≡ p → IsSome (if b then None else started_with s (thread_of fs x) m r u p) → StartSteps fs xs (fresh.Thread u) x node
    by_new m r u true p e f k = absurd (no_some {A = Stepped} None refl k)
    by_new m r u false None e f k = absurd (no_some {A = Stepped} None refl k)
    by_new m r u false (Some p) e f k = record {
      number = u;
      named = refl;
      new = none_of (place_of (numbers_of xs) u) (sym (given_place fs xs u) ∙ e);
      passes = subst (λ (o : Option Passed). IsSome o) (sym f) refl;
    }

    by : (names : Fresh) (m : Move Life) (r : Run) → IsSome (done_act s (thread_of fs x) names m (do_spawn (captures_of (captures_at fs node)) r)) → StartSteps fs xs names x node
    by fresh.None m r k = absurd (no_some {A = Stepped} None refl k)
    by (fresh.Thread u) m r k = by_new m r u (is_given s u) passed refl refl k
    by (fresh.Threads u w) m r k = absurd (no_some {A = Stepped} None refl k)
    by (fresh.Mutex q) m r k = absurd (no_some {A = Stepped} None refl k)

-- SOME THREAD AT A PLACE

pub thread_here : (xs : List Thread) (i : ℕ) → i < length xs → (x : Thread) × (x ≡ get_or xs i x)
thread_here [] i lt = absurd (omega arith)
thread_here (x ∷ xs) zero lt = (x, refl)
thread_here (x ∷ xs) (suc i) lt = thread_here xs i (omega arith)

-- the task that is named
pub joined_same : (v : Value) (u t : ℕ) → v ≡ Own (plain.Task u) → Some t ≡ task_named v → t ≡ u
joined_same v u t e h = let f = h ∙ ap task_named e in let same : t ≡ u = cc in same

-- the name that is given
pub named_same : (names : Fresh) (u t : ℕ) → names ≡ fresh.Thread u → names ≡ fresh.Thread t → t ≡ u
named_same names u t h g = let f = sym g ∙ h in let same : t ≡ u = cc in same

-- what comes next of a thread, read off it twice
pub comes_at : (xs : List Thread) (i : ℕ) (y z : Thread) (gs : List Frame) (m n : Next) → i < length xs → y ≡ get_or xs i y → z ≡ get_or xs i z → gs ≡ z.frames.items → m ≡ n → IsNext y.focus gs m → (x : Thread) → x ≡ get_or xs i x → IsNext x.focus x.frames.items n
comes_at xs i y z gs m n lt first second e same h x is =
    subst (IsNext x.focus x.frames.items) same
    (subst (λ ks. IsNext x.focus ks m) (e ∙ ap (λ (q : Thread). q.frames.items) (at_same xs i z x lt second is)) (subst (λ f. IsNext f gs m) (ap (λ (q : Thread). q.focus) (at_same xs i y x lt first is)) h))
