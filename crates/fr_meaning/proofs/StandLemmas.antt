-- How a thread stands: what it waits for, why its step is refused, and which names it takes.
use Rattle.std.proofs.Common.{◌≡◌, ℕ, ℤ, Bool, true, false, List, get_or, Option, Some, None, refl, sym, ap, ◌∙◌}
use Rattle.std.specs.Prelude.{is_some, ◌||◌, ◌&&◌, option_map, if◌then◌else◌}
use Rattle.fr_base.specs.declared.label.Plain.TheVariants as plain
use Rattle.fr_base.specs.declared.step.Fresh.{Fresh}
use Rattle.fr_base.specs.declared.step.Wait.{Wait}
use Rattle.fr_base.specs.declared.step.Wait.TheVariants as wait
use Rattle.fr_plain.specs.declared.value.Value.{Value}
use Rattle.fr_plain.specs.declared.value.Value.TheVariants.{Own, ToSlot, ToObject, Held}
use Rattle.fr_plain.specs.Run.{Run, life_move}
use Rattle.fr_plain.specs.Machine.{unless_both, pair_waits}
use Rattle.fr_plain.specs.MachineThreads.{pair_of}
use Rattle.fr_shared.specs.declared.pairs.Two.{Two}
use Rattle.fr_shared.specs.PairInside.{two_from}
use Rattle.fr_plain.specs.Threads.{unless_some, join_waits, result_in as result_in_plain}
use Rattle.fr_plain.specs.Whole.{Thread as PlainThread, Whole, result_at, is_over, waits_for, has_ended, Takes, no_name, a_thread, two_threads, a_mutex, takes_name, refused_names, refused_wait, refused_of}
use Rattle.fr_meaning.specs.declared.error.StepError.{StepError}
use Rattle.fr_meaning.specs.declared.error.StepError.TheVariants as error
use Rattle.fr_forms.specs.declared.forms.Form.{Form}
use Rattle.fr_meaning.specs.declared.need.Need.{Need}
use Rattle.fr_meaning.specs.declared.next.Next.{Next}
use Rattle.fr_meaning.specs.declared.thread.Stage.{Stage}
use Rattle.fr_meaning.specs.declared.thread.Stage.TheVariants as stage
use Rattle.fr_meaning.specs.declared.thread.Thread.{Thread}
use Rattle.fr_forms.specs.FormTerms.{AreInOrder}
use Rattle.fr_meaning.specs.Next.{IsNext, next_waits, next_takes, task_named}
use Rattle.fr_shared.specs.Places.{place_of}
use Rattle.fr_meaning.specs.PoolView.{error_of, takes_for, refusal, kind_of, need_in, need_of}
use Rattle.fr_meaning.specs.Beside.{Beside}
use Rattle.fr_meaning.specs.Threads.{run_in, IsWell, IsGoingOn, is_done, result_in, life_at, thread_of, threads_of, whole, numbers_of}
use Rattle.fr_meaning.proofs.NextMoves.{next_moves, moves_wait}
use Rattle.fr_meaning.proofs.ThreadLists.{none_there, there_at}
use Rattle.fr_meaning.proofs.WholeSteps.{kept_result}

-- A THREAD

pub life_done : (g : Stage) (r : Run) → is_over (life_at g r) ≡ is_done g
life_done stage.Alive r = refl
life_done stage.Owing r = refl
life_done stage.Loose r = refl
life_done stage.Over r = refl
life_done (stage.Ended v) r = refl

pub not_done_on : (g : Stage) → is_done g ≡ false → IsGoingOn g
not_done_on stage.Alive h = tt
not_done_on stage.Owing h = tt
not_done_on stage.Loose h = tt
not_done_on stage.Over h = absurd cc
not_done_on (stage.Ended v) h = absurd cc

-- what a thread in progress waits for and which names it takes, by what it does next
pub stands : (fs : List Form) (s : Whole) (x : Thread) (n : Next) → AreInOrder fs → IsWell fs x → is_done x.stage ≡ false → IsNext x.focus x.frames.items n → (waits_for s (thread_of fs x) ≡ next_waits s (thread_of fs x) n) × (takes_name (life_move (thread_of fs x).life) ≡ next_takes n)
stands fs s x n a w g h = moves_wait fs s (thread_of fs x) n (life_move (life_at x.stage (run_in fs x))) (next_moves fs x n a w (not_done_on x.stage g) h)

-- A JOIN

-- a task waits for its thread's result
task_waits : (s : Whole) (v : Value) (u : ℕ) → task_named v ≡ Some u → join_waits s v ≡ unless_some (result_at s.threads u) (wait.Join u)
task_waits s (Own (plain.Task t)) u h = let same : t ≡ u = cc in ap (λ k. unless_some (result_at s.threads k) (wait.Join k)) same
task_waits s (Own plain.Nothing) u h = absurd cc
task_waits s (Own plain.Unit) u h = absurd cc
task_waits s (Own (plain.Int n)) u h = absurd cc
task_waits s (Own (plain.Box o)) u h = absurd cc
task_waits s (Own (plain.Mutex n)) u h = absurd cc
task_waits s (ToSlot n) u h = absurd cc
task_waits s (ToObject o) u h = absurd cc
task_waits s (Held o) u h = absurd cc

waits_by : (o : Option Value) (b : Bool) (w : Wait) → is_some o ≡ b → unless_some o w ≡ (if b then None else Some w)
waits_by None true w h = absurd cc
waits_by None false w h = refl
waits_by (Some v) true w h = refl
waits_by (Some v) false w h = absurd cc

-- by whether its result is kept
pub join_by : (s : Whole) (v : Value) (u : ℕ) (b : Bool) → task_named v ≡ Some u → is_some (result_at s.threads u) ≡ b → join_waits s v ≡ (if b then None else Some (wait.Join u))
join_by s v u b h e = task_waits s v u h ∙ waits_by (result_at s.threads u) b (wait.Join u) e

-- a thread that isn't there has no result
pub result_nowhere : (fs : List Form) (xs : List Thread) (u : ℕ) → place_of (numbers_of xs) u ≡ None → is_some (result_at (threads_of fs xs) u) ≡ false
result_nowhere fs xs u e = ap (λ o. is_some (result_in_plain o)) (none_there fs xs u e)

-- a thread at its place has the one that is kept
pub result_there : (fs : List Form) (xs : List Thread) (u k : ℕ) (z : Thread) → place_of (numbers_of xs) u ≡ Some k → z ≡ get_or xs k z → is_some (result_at (threads_of fs xs) u) ≡ is_some (result_in z.stage)
result_there fs xs u k z e is = ap (λ o. is_some (result_in_plain o)) (there_at fs xs u k z e is).0 ∙ ap (λ o. is_some o) (kept_result z.stage (run_in fs z))

-- a value that is no task waits for nobody
pub waits_nobody : (s : Whole) (v : Value) → None ≡ task_named v → join_waits s v ≡ None
waits_nobody s (Own (plain.Task t)) h = absurd cc
waits_nobody s (Own plain.Nothing) h = refl
waits_nobody s (Own plain.Unit) h = refl
waits_nobody s (Own (plain.Int n)) h = refl
waits_nobody s (Own (plain.Box o)) h = refl
waits_nobody s (Own (plain.Mutex n)) h = refl
waits_nobody s (ToSlot n) h = refl
waits_nobody s (ToObject o) h = refl
waits_nobody s (Held o) h = refl

-- THE END OF A PAIR

both_by : (a b : Option Value) (c : Bool) (w : Wait) → (is_some a && is_some b) ≡ c → unless_both a b w ≡ (if c then None else Some w)
both_by None b true w h = absurd cc
both_by None b false w h = refl
both_by (Some x) None true w h = absurd cc
both_by (Some x) None false w h = refl
both_by (Some x) (Some y) true w h = refl
both_by (Some x) (Some y) false w h = absurd cc

-- by whether both have a result
pub pair_by : (s : Whole) (t : ℕ) (x : Two) (c : Bool) → two_from t (Some x) ≡ pair_of s.pairs t → (is_some (result_at s.threads x.first) && is_some (result_at s.threads x.second)) ≡ c →
    pair_waits s (pair_of s.pairs t) ≡ (if c then None else Some (wait.Par x.first x.second))
pair_by s t x c h r = ap (pair_waits s) (sym h) ∙ both_by (result_at s.threads x.first) (result_at s.threads x.second) c (wait.Par x.first x.second) r

-- REFUSALS

pub refused_nowhere : (fs : List Form) (xs : List Thread) (beside : Beside) (output : List ℤ) (t : ℕ) (names : Fresh) → place_of (numbers_of xs) t ≡ None → refusal (whole fs xs beside output) t names ≡ Some error.NoThread
refused_nowhere fs xs beside output t names h = ap (λ o. option_map error_of (refused_of (whole fs xs beside output) names o)) (none_there fs xs t h)

-- by whether it has ended, what it waits for, and the names that it takes
abbrev by_causes : Whole → Fresh → Bool → Option Wait → Takes → Option StepError
by_causes s names over w takes = option_map error_of (if over then Some has_ended else refused_wait w (refused_names s takes names))

pub refused_ended : (fs : List Form) (xs : List Thread) (beside : Beside) (output : List ℤ) (t : ℕ) (names : Fresh) (i : ℕ) (x : Thread) → place_of (numbers_of xs) t ≡ Some i → x ≡ get_or xs i x → is_done x.stage ≡ true → refusal (whole fs xs beside output) t names ≡ Some error.Ended
refused_ended fs xs beside output t names i x h is e =
    let s = whole fs xs beside output in
    ap (λ o. option_map error_of (refused_of s names o)) (there_at fs xs t i x h is).0
    ∙ ap (λ b. by_causes s names b (waits_for s (thread_of fs x)) (takes_name (life_move (thread_of fs x).life))) (life_done x.stage (run_in fs x) ∙ e)

pub refused_there : (fs : List Form) (xs : List Thread) (beside : Beside) (output : List ℤ) (t : ℕ) (names : Fresh) (i : ℕ) (x : Thread) (n : Next) (w : Option Wait) → AreInOrder fs → IsWell fs x → place_of (numbers_of xs) t ≡ Some i → x ≡ get_or xs i x → is_done x.stage ≡ false → IsNext x.focus x.frames.items n →
    next_waits (whole fs xs beside output) (thread_of fs x) n ≡ w → refusal (whole fs xs beside output) t names ≡ option_map error_of (refused_wait w (refused_names (whole fs xs beside output) (next_takes n) names))
refused_there fs xs beside output t names i x n w a well h is e comes stays =
    let s = whole fs xs beside output in
    let st = stands fs s x n a well e comes in
    ap (λ o. option_map error_of (refused_of s names o)) (there_at fs xs t i x h is).0
    ∙ ap (λ b. by_causes s names b (waits_for s (thread_of fs x)) (takes_name (life_move (thread_of fs x).life))) (life_done x.stage (run_in fs x) ∙ e)
    ∙ ap (λ o. by_causes s names false o (takes_name (life_move (thread_of fs x).life))) (st.0 ∙ stays) ∙ ap (λ b. by_causes s names false w b) st.1

-- NAMES

pub takes_kind : (t : Takes) → takes_for (kind_of t) ≡ t
takes_kind no_name = refl
takes_kind a_thread = refl
takes_kind two_threads = refl
takes_kind a_mutex = refl

pub need_nowhere : (fs : List Form) (xs : List Thread) (beside : Beside) (output : List ℤ) (t : ℕ) → place_of (numbers_of xs) t ≡ None → need_of (whole fs xs beside output) t ≡ None
need_nowhere fs xs beside output t h = ap need_in (none_there fs xs t h)

abbrev by_need : Bool → Takes → Option Need
by_need over takes = if over then None else Some (kind_of takes)

pub need_ended : (fs : List Form) (xs : List Thread) (beside : Beside) (output : List ℤ) (t i : ℕ) (x : Thread) → place_of (numbers_of xs) t ≡ Some i → x ≡ get_or xs i x → is_done x.stage ≡ true → need_of (whole fs xs beside output) t ≡ None
need_ended fs xs beside output t i x h is e = ap need_in (there_at fs xs t i x h is).0 ∙ ap (λ b. by_need b (takes_name (life_move (thread_of fs x).life))) (life_done x.stage (run_in fs x) ∙ e)

pub need_there : (fs : List Form) (xs : List Thread) (beside : Beside) (output : List ℤ) (t i : ℕ) (x : Thread) (n : Next) (need : Need) → AreInOrder fs → IsWell fs x → place_of (numbers_of xs) t ≡ Some i → x ≡ get_or xs i x → is_done x.stage ≡ false → IsNext x.focus x.frames.items n →
    need ≡ kind_of (next_takes n) → need_of (whole fs xs beside output) t ≡ Some need
need_there fs xs beside output t i x n need a well h is e comes same =
    ap need_in (there_at fs xs t i x h is).0 ∙ ap (λ b. by_need b (takes_name (life_move (thread_of fs x).life))) (life_done x.stage (run_in fs x) ∙ e)
    ∙ ap (by_need false) (stands fs (whole fs xs beside output) x n a well e comes).1 ∙ ap Some (sym same)

-- STANDING STILL

-- it has ended or waits
abbrev pub still : Whole → PlainThread → Bool
still s x = is_over x.life || is_some (waits_for s x)

pub still_waits : (fs : List Form) (s : Whole) (x : Thread) (n : Next) (w : Option Wait) → AreInOrder fs → IsWell fs x → is_done x.stage ≡ false → IsNext x.focus x.frames.items n → next_waits s (thread_of fs x) n ≡ w → still s (thread_of fs x) ≡ is_some w
still_waits fs s x n w a well e comes h =
    ap (λ b. b || is_some (waits_for s (thread_of fs x))) (life_done x.stage (run_in fs x) ∙ e) ∙ ap is_some ((stands fs s x n a well e comes).0 ∙ h)
