-- A step of a thread of the code is a step of the plain state.
use Rattle.std.proofs.Common.{◌≡◌, ℕ, ℤ, Bool, List, [], ◌∷◌, ◌++◌, get_or, Option, Some, None, refl, sym, ap, ◌∙◌}
use Rattle.std.specs.Prelude.{is_some, slice_set, if◌then◌else◌}
use Rattle.fr_base.specs.declared.label.Label.{Label}
use Rattle.fr_base.specs.declared.label.Label.TheVariants as label
use Rattle.fr_base.specs.declared.label.Plain.{Plain}
use Rattle.fr_base.specs.declared.label.Plain.TheVariants.{Task}
use Rattle.fr_base.specs.declared.step.Fresh.TheVariants as fresh
use Rattle.fr_plain.specs.declared.value.Value.{Value}
use Rattle.fr_plain.specs.declared.value.Value.TheVariants.{Own}
use Rattle.fr_plain.specs.Heap.{Heap}
use Rattle.fr_plain.specs.State.{State}
use Rattle.fr_plain.specs.Acts.{Act, do_let, do_read, do_borrow, do_assign, do_box, do_arith, do_print, do_discard, do_drop, do_end, do_spawn, do_join, do_finish, do_leave, do_mutex, do_dup, do_lock, do_unlock, do_par, do_par_end, Did, act, drops_last}
use Rattle.fr_plain.specs.MachineThreads.{count_both}
use Rattle.fr_plain.specs.Run as run
use Rattle.fr_plain.specs.Run.{Capture, Run, going, now, settle, Move, next, alone, move, Life, settle_life, life_move}
use Rattle.fr_plain.specs.Threads.{Whole, Thread as PlainThread, with_thread, with_life, Passed, pass, release, result_of_life, result_in as result_in_plain}
use Rattle.fr_plain.specs.Whole.{Stepped, prints, then_released, stepped, alone_stepped, moved, step_of, step, state_of, joined, joined_with, started_with}
use Rattle.fr_forms.specs.declared.forms.Form.{Form}
use Rattle.fr_meaning.specs.declared.frame.Done.{Done}
use Rattle.fr_meaning.specs.declared.frame.Done.TheVariants as done
use Rattle.fr_meaning.specs.declared.thread.Stage.{Stage}
use Rattle.fr_meaning.specs.declared.thread.Stage.TheVariants as stage
use Rattle.fr_meaning.specs.declared.thread.Thread.{Thread}
use Rattle.fr_meaning.specs.DoneTerms.{over, value_of}
use Rattle.fr_shared.specs.Places.{place_of}
use Rattle.fr_acts.specs.SlotOrder.{newest_first}
use Rattle.fr_meaning.specs.Beside.{Beside}
use Rattle.fr_meaning.specs.Threads.{run_in, IsGoingOn, result_in, end_act, end_value, after_end, life_at, thread_of, threads_of, whole, numbers_of}
use Rattle.fr_shared.specs.declared.heap.Released.{Released}
use Rattle.fr_shared.specs.Releases.{released_of}
use Rattle.fr_acts.specs.MutexActs.{last_of}
use Rattle.fr_acts.specs.Acting.{state, did, releases}
use Rattle.fr_meaning.specs.Turning.{Turned, turned_by, turned, turns_to, settled, term_step}
use Rattle.std.proofs.lemmas.List.{append-nil}
use Rattle.fr_meaning.specs.declared.frame.Frame.{Frame}
use Rattle.fr_meaning.specs.Contexts.{wrap}
use Rattle.fr_meaning.specs.FrameTerms.{wrapped, all_around, end_of}
use Rattle.fr_meaning.proofs.ContextLemmas.{now_wrap, move_wrap}
use Rattle.fr_acts.proofs.ReleaseLemmas.{last_same}
use Rattle.fr_acts.proofs.ActLemmas.{IsSilent, silent}
use Rattle.fr_meaning.proofs.StepLemmas.{run_end}
use Rattle.fr_meaning.proofs.OwnActs.{IsOwn, own_done}
use Rattle.fr_meaning.proofs.ThreadLists.{none_there, there_at, set_at, numbers_set, threads_push}

-- LIVES

-- the move of a life in progress is that of its term
pub life_moves : (g : Stage) (r : Run) → IsGoingOn g → now r ≡ going → life_move (life_at g r) ≡ next (life_at g) (move r)
life_moves stage.Alive r on h = rw h refl
life_moves stage.Owing r on h = rw h refl
life_moves stage.Loose r on h = rw h refl
life_moves stage.Over r on h = absurd on
life_moves (stage.Ended v) r on h = absurd on

-- and settles as its term does
pub life_settles : (g : Stage) (r : Run) → IsGoingOn g → settle_life (life_at g r) ≡ life_at g (settle r)
life_settles stage.Alive r on = refl
life_settles stage.Owing r on = refl
life_settles stage.Loose r on = refl
life_settles stage.Over r on = absurd on
life_settles (stage.Ended v) r on = absurd on

-- an act that is done on one thread's state is one that the thread does alone
own_act : (a : Act) (s : State) (d : Did) → act a s ≡ Some d → IsOwn a
own_act (do_let v) s d h = tt
own_act (do_read w take) s d h = tt
own_act (do_borrow w is_mut) s d h = tt
own_act (do_assign w v) s d h = tt
own_act (do_box v) s d h = tt
own_act (do_arith f a b) s d h = tt
own_act (do_print v) s d h = tt
own_act (do_discard v) s d h = tt
own_act do_drop s d h = tt
own_act (do_end v) s d h = tt
own_act (do_spawn cs r) s d h = absurd cc
own_act (do_join v) s d h = absurd cc
own_act (do_finish v) s d h = tt
own_act (do_leave v) s d h = tt
own_act (do_mutex v) s d h = absurd cc
own_act (do_dup w) s d h = absurd cc
own_act (do_lock w) s d h = absurd cc
own_act do_unlock s d h = absurd cc
own_act (do_par cs r ds q) s d h = absurd cc
own_act do_par_end s d h = absurd cc

-- WHAT GOES WITH A DROPPED VALUE

-- what goes last, as the code tells it
goes_last : (s : Whole) (v : Plain) → release s v ≡ release s (last_of (released_of v))
goes_last s v = sym (last_same (count_both s.mutexes s.threads) s v)

-- A THREAD ALONE

turned_same : (a b : Turned) → Some a ≡ Some b → a ≡ b
turned_same a b h = cc

-- the thread of a move's life
abbrev pub moved_to : Stage → Move Run → Move Life
moved_to g m = record { act = m.act; plug = λ v. life_at g (m.plug v) }

-- a state after a step
abbrev pub stepped_to : Whole → List Label → Option Stepped
stepped_to s labels = Some (record { state = s; labels = labels })

-- what the step leaves
abbrev left_by : Whole → PlainThread → Heap → List Label → Released → Option Stepped
left_by s x heap labels u = Some (record { state = release (record s { threads = with_thread s.threads x; heap = heap; output = s.output ++ prints labels }) (last_of u); labels = labels })

-- by what the act does
alone_by : (s : Whole) (x : PlainThread) (g : Stage) (q : Run) (m : Move Run) (d : Option Did) (slots : List Value) (heap : Heap) (labels : List Label) (u : Released) → IsGoingOn g → act m.act (state_of s x) ≡ d →
    settled (turned_by m (releases m.act (state_of s x)) d) ≡ turns_to q x.number slots heap labels u → alone_stepped s x (moved_to g m) m.act ≡ left_by s (record { number = x.number; life = life_at g q; slots = newest_first slots }) heap labels u
alone_by s x g q m None slots heap labels u on a e = absurd cc
alone_by s x g q m (Some d) slots heap labels u on a e =
    let f = turned_same (record { run = settle (m.plug d.value); state = d.state; labels = d.labels; released = releases m.act (state_of s x) }) (record { run = q; state = state x.number slots heap; labels = labels; released = u }) e in
    let st = ap (λ (y : Turned). y.state) f in
    let last = drops_last m.act (state_of s x) in
    ap (λ o. then_released last (stepped s x (moved_to g m) o)) a
    ∙ ap (λ z. stepped_to z d.labels) (goes_last (record s { threads = with_thread s.threads (record { number = x.number; life = settle_life (life_at g (m.plug d.value)); slots = d.state.slots }); heap = d.state.heap; output = s.output ++ prints d.labels }) last)
    ∙ ap (λ l. left_by s (record { number = x.number; life = l; slots = d.state.slots }) d.state.heap d.labels (releases m.act (state_of s x))) (life_settles g (m.plug d.value) on ∙ ap (λ (y : Turned). life_at g y.run) f)
    ∙ ap (λ (c : State). left_by s (record { number = x.number; life = life_at g q; slots = c.slots }) c.heap d.labels (releases m.act (state_of s x))) st
    ∙ ap (λ ls. left_by s (record { number = x.number; life = life_at g q; slots = newest_first slots }) heap ls (releases m.act (state_of s x))) (ap (λ (y : Turned). y.labels) f)
    ∙ ap (left_by s (record { number = x.number; life = life_at g q; slots = newest_first slots }) heap labels) (ap (λ (y : Turned). y.released) f)

-- an act that is done
done_of : (m : Move Run) (w : Released) (d : Option Did) (y : Turned) → settled (turned_by m w d) ≡ Some y → (e : Did) × (d ≡ Some e)
done_of m w None y h = absurd cc
done_of m w (Some e) y h = (e, refl)

-- by the term's move
alone_in : (s : Whole) (x : PlainThread) (g : Stage) (q : Run) (o : Option (Move Run)) (slots : List Value) (heap : Heap) (labels : List Label) (u : Released) → IsGoingOn g →
    settled (turned o (state_of s x)) ≡ turns_to q x.number slots heap labels u → moved s x fresh.None (next (life_at g) o) ≡ left_by s (record { number = x.number; life = life_at g q; slots = newest_first slots }) heap labels u
alone_in s x g q None slots heap labels u on e = absurd cc
alone_in s x g q (Some m) slots heap labels u on e =
    let d = done_of m (releases m.act (state_of s x)) (act m.act (state_of s x)) (record { run = q; state = state x.number slots heap; labels = labels; released = u }) e in
    own_done s x (moved_to g m) m.act (own_act m.act (state_of s x) d.0 d.1)
    ∙ alone_by s x g q m (act m.act (state_of s x)) slots heap labels u on refl e

-- the thread's step alone is a step of the plain state
pub whole_alone : (fs : List Form) (xs : List Thread) (beside : Beside) (new : Heap) (output : List ℤ) (t i : ℕ) (x y : Thread) (labels : List Label) (u : Released) → place_of (numbers_of xs) t ≡ Some i → x ≡ get_or xs i x → IsGoingOn x.stage → now (run_in fs x) ≡ going →
    term_step (run_in fs x) (state x.number x.slots.items beside.heap) ≡ turns_to (run_in fs y) x.number y.slots.items new labels u → y.number ≡ x.number → y.stage ≡ x.stage →
    step (whole fs xs beside output) t fresh.None ≡ Some (record { state = release (whole fs (slice_set xs i y) (record beside { heap = new }) (output ++ prints labels)) (last_of u); labels = labels })
whole_alone fs xs beside new output t i x y labels u h is on go e n same =
    let s = whole fs xs beside output in
    let there = there_at fs xs t i x h is in
    ap (step_of s fresh.None) there.0 ∙ ap (moved s (thread_of fs x) fresh.None) (life_moves x.stage (run_in fs x) on go)
    ∙ alone_in s (thread_of fs x) x.stage (run_in fs y) (move (run_in fs x)) y.slots.items new labels u on e
    ∙ ap (λ (z : PlainThread). left_by s z new labels u) (thread_again y x n same)
    ∙ ap (λ ts. left_with ts new (output ++ prints labels) labels u) (set_at fs xs t i y h (n ∙ there.1))
  where
    left_with : List PlainThread → Heap → List ℤ → List Label → Released → Option Stepped
    left_with ts h o ls u = Some (record { state = release (record { threads = ts; heap = h; mutexes = beside.mutexes; pairs = beside.pairs; output = o }) (last_of u); labels = ls })

    thread_again : (y x : Thread) → y.number ≡ x.number → y.stage ≡ x.stage → record { number = x.number; life = life_at x.stage (run_in fs y); slots = newest_first y.slots.items } ≡ thread_of fs y
    thread_again y x n same =
        ap (λ k. plain_of k x.stage y) (sym n) ∙ ap (λ g. plain_of y.number g y) (sym same)
      where
        plain_of : ℕ → Stage → Thread → PlainThread
        plain_of k g y = record { number = k; life = life_at g (run_in fs y); slots = newest_first y.slots.items }

-- THE END

-- the move of a life whose term is done
pub end_moves : (g : Stage) (d : Done) → IsGoingOn g → life_move (life_at g (over d)) ≡ Some (record { act = end_act g (value_of d); plug = λ v. life_at (after_end g v) (over d) })
end_moves stage.Alive done.Unit on = refl
end_moves stage.Alive (done.Number n) on = refl
end_moves stage.Alive (done.Temp v) on = refl
end_moves stage.Owing done.Unit on = refl
end_moves stage.Owing (done.Number n) on = refl
end_moves stage.Owing (done.Temp v) on = refl
end_moves stage.Loose done.Unit on = refl
end_moves stage.Loose (done.Number n) on = refl
end_moves stage.Loose (done.Temp v) on = refl
end_moves stage.Over d on = absurd on
end_moves (stage.Ended v) d on = absurd on

-- the act at the end is the thread's own, and prints nothing
pub own_end : (g : Stage) (v : Value) → IsOwn (end_act g v) × IsSilent (end_act g v)
own_end stage.Alive v = (tt, tt)
own_end stage.Owing v = (tt, tt)
own_end stage.Loose v = (tt, tt)
own_end stage.Over v = (tt, tt)
own_end (stage.Ended w) v = (tt, tt)

-- what the life is at its end
end_life : (g : Stage) (v : Value) (q r : Run) → settle_life (life_at (after_end g (end_value g v)) q) ≡ life_at (after_end g v) r
end_life stage.Alive v q r = refl
end_life stage.Owing v q r = refl
end_life stage.Loose v q r = refl
end_life stage.Over v q r = refl
end_life (stage.Ended w) v q r = refl

-- the end of a thread is a step of the plain state
pub whole_end : (fs : List Form) (xs : List Thread) (beside : Beside) (new : Heap) (output : List ℤ) (t i : ℕ) (x y : Thread) (d : Done) (labels : List Label) (u : Released) → place_of (numbers_of xs) t ≡ Some i → x ≡ get_or xs i x → IsGoingOn x.stage → end_of x.focus x.frames.items ≡ Some d →
    act (end_act x.stage (value_of d)) (state x.number x.slots.items beside.heap) ≡ did (end_value x.stage (value_of d)) x.number y.slots.items new labels → u ≡ releases (end_act x.stage (value_of d)) (state x.number x.slots.items beside.heap) → y.number ≡ x.number → y.stage ≡ after_end x.stage (value_of d) →
    step (whole fs xs beside output) t fresh.None ≡ Some (record { state = release (whole fs (slice_set xs i y) (record beside { heap = new }) output) (last_of u); labels = labels })
whole_end fs xs beside new output t i x y d labels u h is on e a task n same =
    let s = whole fs xs beside output in
    let there = there_at fs xs t i x h is in
    let v = value_of d in
    let own = own_end x.stage v in
    let m : Move Life = record { act = end_act x.stage v; plug = λ w. life_at (after_end x.stage w) (over d) } in
    let quiet = silent (end_act x.stage v) (state x.number x.slots.items beside.heap) (record { value = end_value x.stage v; state = state x.number y.slots.items new; labels = labels }) own.1 a in
    let printed : output ++ prints labels ≡ output = ap (λ ns. output ++ ns) quiet ∙ append-nil output in
    ap (step_of s fresh.None) there.0 ∙ ap (λ r. moved s (thread_of fs x) fresh.None (life_move (life_at x.stage r))) (run_end fs x.focus x.frames.items d e)
    ∙ ap (moved s (thread_of fs x) fresh.None) (end_moves x.stage d on) ∙ own_done s (thread_of fs x) m (end_act x.stage v) own.0
    ∙ ap (λ o. then_released (drops_last (end_act x.stage v) (state x.number x.slots.items beside.heap)) (stepped s (thread_of fs x) m o)) a
    ∙ ap (λ z. stepped_to z labels) (goes_last (record s { threads = with_thread s.threads (record { number = x.number; life = settle_life (life_at (after_end x.stage (end_value x.stage v)) (over d)); slots = newest_first y.slots.items }); heap = new; output = output ++ prints labels }) (drops_last (end_act x.stage v) (state x.number x.slots.items beside.heap)))
    ∙ ap (λ w. left_by s (record { number = x.number; life = settle_life (life_at (after_end x.stage (end_value x.stage v)) (over d)); slots = newest_first y.slots.items }) new labels w) (sym task)
    ∙ ap (λ l. left_by s (record { number = x.number; life = l; slots = newest_first y.slots.items }) new labels u) (end_life x.stage v (over d) (run_in fs y))
    ∙ ap (λ k. left_by s (record { number = k; life = life_at (after_end x.stage v) (run_in fs y); slots = newest_first y.slots.items }) new labels u) (sym n)
    ∙ ap (λ g. left_by s (record { number = y.number; life = life_at g (run_in fs y); slots = newest_first y.slots.items }) new labels u) (sym same)
    ∙ ap (λ ns. left_to ns) printed ∙ ap (λ ts. left_with ts) (set_at fs xs t i y h (n ∙ there.1))
  where
    left_to : List ℤ → Option Stepped
    left_to ns = Some (record { state = release (record { threads = with_thread (threads_of fs xs) (thread_of fs y); heap = new; mutexes = beside.mutexes; pairs = beside.pairs; output = ns }) (last_of u); labels = labels })

    left_with : List PlainThread → Option Stepped
    left_with ts = Some (record { state = release (record { threads = ts; heap = new; mutexes = beside.mutexes; pairs = beside.pairs; output = output }) (last_of u); labels = labels })

-- JOINING

-- the move of a join whose part is done
pub join_moves : (d : Done) → move (run.join_r (over d)) ≡ alone run.temp (do_join (value_of d))
join_moves done.Unit = refl
join_moves (done.Number n) = refl
join_moves (done.Temp v) = refl

-- the result that is kept
pub kept_result : (g : Stage) (r : Run) → result_of_life (life_at g r) ≡ result_in g
kept_result stage.Alive r = refl
kept_result stage.Owing r = refl
kept_result stage.Loose r = refl
kept_result stage.Over r = refl
kept_result (stage.Ended v) r = refl

-- a join is a step of the plain state
pub whole_join : (fs : List Form) (xs : List Thread) (beside : Beside) (output : List ℤ) (t i u k : ℕ) (x y z w : Thread) (gs : List Frame) (d : Done) (v : Value) →
    place_of (numbers_of xs) t ≡ Some i → x ≡ get_or xs i x → IsGoingOn x.stage → run_in fs x ≡ wrapped fs gs (run.join_r (over d)) → value_of d ≡ Own (Task u) →
    place_of (numbers_of xs) u ≡ Some k → z ≡ get_or xs k z → result_in z.stage ≡ Some v → thread_of fs w ≡ with_life (thread_of fs z) run.over → w.number ≡ z.number →
    run_in fs y ≡ settle (wrapped fs gs (run.temp v)) → y.number ≡ x.number → y.stage ≡ x.stage → y.slots.items ≡ x.slots.items →
    step (whole fs xs beside output) t fresh.None ≡ stepped_to (whole fs (slice_set (slice_set xs k w) i y) beside output) []
whole_join fs xs beside output t i u k x y z w gs d v h is on top task hz isz kept over_w nw goes ny gy sy =
    let s = whole fs xs beside output in
    let there = there_at fs xs t i x h is in
    let other = there_at fs xs u k z hz isz in
    let cs = all_around fs gs in
    let go = now_wrap cs (run.join_r (over d)) refl in
    let m : Move Life = record { act = do_join (value_of d); plug = λ q. life_at x.stage (wrap cs (run.temp q)) } in
    let X = thread_of fs x in
    ap (step_of s fresh.None) there.0 ∙ ap (λ r. moved s X fresh.None (life_move (life_at x.stage r))) top
    ∙ ap (moved s X fresh.None) (life_moves x.stage (wrapped fs gs (run.join_r (over d))) on go ∙ ap (next (life_at x.stage)) (move_wrap cs (run.join_r (over d)) refl ∙ ap (next (wrap cs)) (join_moves d)))
    ∙ ap (λ q. joined s X m q) task
    ∙ ap (λ o. joined_with s X m o (result_in_plain o)) other.0 ∙ ap (λ o. joined_with s X m (Some (thread_of fs z)) o) (kept_result z.stage (run_in fs z) ∙ kept)
    ∙ ap (λ ts. after_join (with_thread ts (record { number = x.number; life = settle_life (life_at x.stage (wrapped fs gs (run.temp v))); slots = X.slots }))) (ap (with_thread (threads_of fs xs)) (sym over_w) ∙ set_at fs xs u k w hz (nw ∙ other.1))
    ∙ ap (λ l. after_join (with_thread (threads_of fs (slice_set xs k w)) (record { number = x.number; life = l; slots = X.slots }))) (life_settles x.stage (wrapped fs gs (run.temp v)) on ∙ ap (life_at x.stage) (sym goes))
    ∙ ap (λ (q : PlainThread). after_join (with_thread (threads_of fs (slice_set xs k w)) q)) (again x y ny gy sy)
    ∙ ap after_join (set_at fs (slice_set xs k w) t i y (ap (λ ns. place_of ns t) (numbers_set xs k z w isz nw) ∙ h) (ny ∙ there.1))
  where
    after_join : List PlainThread → Option Stepped
    after_join ts = Some (record { state = record { threads = ts; heap = beside.heap; mutexes = beside.mutexes; pairs = beside.pairs; output = output }; labels = [] })

    parts : ℕ → Stage → List Value → Thread → PlainThread
    parts n g vs y = record { number = n; life = life_at g (run_in fs y); slots = newest_first vs }

    again : (x y : Thread) → y.number ≡ x.number → y.stage ≡ x.stage → y.slots.items ≡ x.slots.items → parts x.number x.stage x.slots.items y ≡ thread_of fs y
    again x y a b c = ap (λ n. parts n x.stage x.slots.items y) (sym a) ∙ ap (λ g. parts y.number g x.slots.items y) (sym b) ∙ ap (λ vs. parts y.number y.stage vs y) (sym c)

-- STARTING

-- the start of a thread is a step of the plain state
pub whole_start : (fs : List Form) (xs : List Thread) (beside : Beside) (output : List ℤ) (t i u : ℕ) (x y n : Thread) (gs : List Frame) (cs : List Capture) (r : Run) (p : Passed) →
    place_of (numbers_of xs) t ≡ Some i → x ≡ get_or xs i x → IsGoingOn x.stage → run_in fs x ≡ wrapped fs gs (run.spawn cs r) → place_of (numbers_of xs) u ≡ None → pass cs (newest_first x.slots.items) [] ≡ Some p →
    run_in fs y ≡ settle (wrapped fs gs (run.temp (Own (Task u)))) → y.number ≡ x.number → y.stage ≡ x.stage → newest_first y.slots.items ≡ p.left → thread_of fs n ≡ record { number = u; life = run.owing (settle r); slots = p.new } →
    step (whole fs xs beside output) t (fresh.Thread u) ≡ stepped_to (whole fs (slice_set xs i y ++ n ∷ []) beside output) (label.Start u ∷ [])
whole_start fs xs beside output t i u x y n gs cs r p h is on top none passes goes ny gy sy new =
    let s = whole fs xs beside output in
    let there = there_at fs xs t i x h is in
    let around = all_around fs gs in
    let go = now_wrap around (run.spawn cs r) refl in
    let m : Move Life = record { act = do_spawn cs r; plug = λ q. life_at x.stage (wrap around (run.temp q)) } in
    let X = thread_of fs x in
    ap (step_of s (fresh.Thread u)) there.0 ∙ ap (λ q. moved s X (fresh.Thread u) (life_move (life_at x.stage q))) top
    ∙ ap (moved s X (fresh.Thread u)) (life_moves x.stage (wrapped fs gs (run.spawn cs r)) on go ∙ ap (next (life_at x.stage)) (move_wrap around (run.spawn cs r) refl))
    ∙ ap (λ o. given (is_some o) s X m) (none_there fs xs u none)
    ∙ ap (started_with s X m r u) passes
    ∙ ap (λ l. after_start (with_thread s.threads (record { number = x.number; life = l; slots = p.left })) (record { number = u; life = run.owing (settle r); slots = p.new })) (life_settles x.stage (wrapped fs gs (run.temp (Own (Task u)))) on ∙ ap (life_at x.stage) (sym goes))
    ∙ ap (λ q. after_start (with_thread s.threads q) (record { number = u; life = run.owing (settle r); slots = p.new })) (again x y ny gy sy)
    ∙ ap (λ ts. after_start ts (record { number = u; life = run.owing (settle r); slots = p.new })) (set_at fs xs t i y h (ny ∙ there.1))
    ∙ ap (after_start (threads_of fs (slice_set xs i y))) (sym new) ∙ ap after_all (sym (threads_push fs (slice_set xs i y) n))
  where
    given : Bool → Whole → PlainThread → Move Life → Option Stepped
    given b s X m = if b then None else started_with s X m r u (pass cs X.slots [])

    after_all : List PlainThread → Option Stepped
    after_all ts = Some (record { state = record { threads = ts; heap = beside.heap; mutexes = beside.mutexes; pairs = beside.pairs; output = output }; labels = label.Start u ∷ [] })

    after_start : List PlainThread → PlainThread → Option Stepped
    after_start ts q = after_all (ts ++ q ∷ [])

    parts : ℕ → Stage → List Value → Thread → PlainThread
    parts k g vs y = record { number = k; life = life_at g (run_in fs y); slots = vs }

    again : (x y : Thread) → y.number ≡ x.number → y.stage ≡ x.stage → newest_first y.slots.items ≡ p.left → parts x.number x.stage p.left y ≡ thread_of fs y
    again x y a b c = ap (λ k. parts k x.stage p.left y) (sym a) ∙ ap (λ g. parts y.number g p.left y) (sym b) ∙ ap (λ vs. parts y.number y.stage vs y) (sym c)
