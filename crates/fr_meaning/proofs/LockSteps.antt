-- A step at a mutex, from the act and the term around it.
use Rattle.std.proofs.Common.{◌≡◌, ℕ, ℤ, ◌≤◌, List, length, get_or, Option, Some, None, refl, sym, ap, ◌∙◌, subst, arith}
use Rattle.std.specs.Prelude.{IsSome, slice_set}
use Rattle.fr_base.specs.declared.label.Label.{Label}
use Rattle.fr_base.specs.declared.name.MutexNo.{MutexNo}
use Rattle.fr_base.specs.declared.place.Lval.{Lval}
use Rattle.fr_base.specs.declared.step.Fresh.{Fresh}
use Rattle.fr_base.specs.declared.step.Fresh.TheVariants as fresh
use Rattle.fr_plain.specs.declared.value.Value.{Value}
use Rattle.fr_plain.specs.Acts.{Act, do_mutex, do_dup, do_lock, do_unlock}
use Rattle.fr_plain.specs.Heap.{Heap}
use Rattle.fr_plain.specs.Machine.{mutex_behind}
use Rattle.fr_plain.specs.MachineThreads.{Mutex, mutex_at}
use Rattle.fr_plain.specs.Run.{Run, temp, mutex_r, locked, going, now, settle, Move, next, alone, move, Life, life_move}
use Rattle.fr_plain.specs.State.{cell_of}
use Rattle.fr_plain.specs.Threads.{Thread as PlainThread, with_thread, release}
use Rattle.fr_plain.specs.Whole.{Stepped, done_act, moved, step_of, step}
use Rattle.fr_forms.specs.declared.forms.Form.{Form}
use Rattle.fr_shared.specs.declared.heap.Released.{Released}
use Rattle.fr_shared.specs.Places.{place_of}
use Rattle.fr_acts.specs.Acting.{state}
use Rattle.fr_acts.specs.Behind.{there_behind, content_behind}
use Rattle.fr_acts.specs.MutexActs.{Rest, part, last_of, Leads, IsLocked}
use Rattle.fr_acts.specs.SlotOrder.{newest_first}
use Rattle.fr_acts.proofs.GoLemmas.{acts_go}
use Rattle.fr_meaning.specs.declared.next.Next.TheVariants as next_
use Rattle.fr_meaning.specs.declared.frame.Done.{Done}
use Rattle.fr_meaning.specs.declared.frame.Frame.{Frame}
use Rattle.fr_meaning.specs.declared.thread.Stage.{Stage}
use Rattle.fr_meaning.specs.declared.thread.Thread.{Thread}
use Rattle.fr_meaning.specs.Beside.{Beside}
use Rattle.fr_forms.specs.Depths.{depth}
use Rattle.fr_meaning.specs.Contexts.{fill}
use Rattle.fr_meaning.specs.DoneTerms.{over, value_of}
use Rattle.fr_meaning.specs.FrameTerms.{around, all_around, wrapped, focus_run, AreInside}
use Rattle.fr_meaning.specs.Next.{TopNext}
use Rattle.fr_meaning.specs.declared.frame.TheConstants.{FRAMES}
use Rattle.fr_meaning.specs.Threads.{run_in, IsWell, IsGoingOn, life_at, thread_of, threads_of, whole, numbers_of}
use Rattle.fr_meaning.proofs.ContextLemmas.{depth_wrap}
use Rattle.fr_meaning.proofs.FrameLemmas.{wrap_push, inside_front, depth_over}
use Rattle.fr_meaning.proofs.NextMoves.{done_value, frame_moves}
use Rattle.fr_meaning.proofs.StepFacts.{Steps, no_some, with_act, is_move, move_goes}
use Rattle.fr_meaning.proofs.ThreadLists.{there_at, set_at}
use Rattle.fr_meaning.proofs.WholeSteps.{life_settles, stepped_to}

-- where the act leads from the thread's slots, the heap and the mutexes to others, the plain step is these, with what goes last let
-- go, and the thread goes on with what its move plugs in
pub whole_leads : (fs : List Form) (xs : List Thread) (beside : Beside) (output : List ℤ) (t i : ℕ) (names : Fresh) (x y : Thread) (gs : List Frame) (r : Run) (m : Move Run) (heap : Heap) (ms : List Mutex) (v : Value) (labels : List Label) (u : Released) →
    place_of (numbers_of xs) t ≡ Some i → x ≡ get_or xs i x → IsGoingOn x.stage → run_in fs x ≡ wrapped fs gs r → now r ≡ going → move r ≡ Some m →
    Leads t names m.act (part x.slots.items beside.heap beside.mutexes) (part y.slots.items heap ms) v labels u → run_in fs y ≡ settle (wrapped fs gs (m.plug v)) → y.number ≡ x.number → y.stage ≡ x.stage →
    step (whole fs xs beside output) t names ≡ stepped_to (release (whole fs (slice_set xs i y) (record beside { heap = heap; mutexes = ms }) output) (last_of u)) labels
whole_leads fs xs beside output t i names x y gs r m heap ms v labels u h is on top go moves leads goes ny gy =
    let s = whole fs xs beside output in
    let there = there_at fs xs t i x h is in
    let X = thread_of fs x in
    let rest : Rest = record { threads = threads_of fs xs; life = life_at x.stage (run_in fs x); pairs = beside.pairs; output = output } in
    let n : Move Life = record { act = m.act; plug = λ q. life_at x.stage (wrapped fs gs (m.plug q)) } in
    ap (step_of s names) there.0 ∙ ap (λ q. moved s X names (life_move (life_at x.stage q))) top ∙ ap (moved s X names) (frame_moves fs gs x.stage r m on go moves) ∙ subst (λ k. Leads k names m.act (part x.slots.items beside.heap beside.mutexes) (part y.slots.items heap ms) v labels u) (sym there.1) leads rest n
    ∙ ap (λ l. after (with_thread (threads_of fs xs) (record { number = x.number; life = l; slots = newest_first y.slots.items }))) (life_settles x.stage (wrapped fs gs (m.plug v)) on ∙ ap (life_at x.stage) (sym goes))
    ∙ ap (λ (q : PlainThread). after (with_thread (threads_of fs xs) q)) (again x y ny gy) ∙ ap after (set_at fs xs t i y h (ny ∙ there.1))
  where
    after : List PlainThread → Option Stepped
    after ts = stepped_to (release (record { threads = ts; heap = heap; mutexes = ms; pairs = beside.pairs; output = output }) (last_of u)) labels

    parts : ℕ → Stage → Thread → PlainThread
    parts n g y = record { number = n; life = life_at g (run_in fs y); slots = newest_first y.slots.items }

    again : (x y : Thread) → y.number ≡ x.number → y.stage ≡ x.stage → parts x.number x.stage y ≡ thread_of fs y
    again x y a b = ap (λ n. parts n x.stage y) (sym a) ∙ ap (λ g. parts y.number g y) (sym b)

-- the move of a new mutex whose content is done, and of a lock whose body is
pub make_move : (d : Done) → move (mutex_r (over d)) ≡ Some (record { act = do_mutex (value_of d); plug = temp })
make_move d = done_value d (λ v. alone temp (do_mutex v)) (next mutex_r (move (over d)))

pub unlock_move : (d : Done) → move (locked (over d)) ≡ Some (record { act = do_unlock; plug = λ v. over d })
unlock_move d = done_value d (λ v. alone (λ x. over d) do_unlock) (next locked (move (over d)))

-- the run of a thread whose top frame's part is done
pub top_run : (fs : List Form) (x : Thread) (g : Frame) (d : Done) → (h : TopNext g x.focus x.frames.items d) → run_in fs x ≡ wrapped fs h.around (fill (around fs g) (over d))
top_run fs x g d h = ap (λ f. wrapped fs x.frames.items (focus_run fs f)) h.at_end ∙ ap (λ gs. wrapped fs gs (over d)) h.top ∙ wrap_push fs h.around g (over d)

-- without that frame it goes on as deep at most
pub top_room : (fs : List Form) (x : Thread) (gs : List Frame) (g : Frame) (d e : Done) → IsWell fs x → (h : TopNext g x.focus x.frames.items d) → gs ≡ h.around → depth (wrapped fs gs (over e)) ≤ FRAMES
top_room fs x gs g d e well h same =
    let less = depth_wrap (all_around fs h.around) (over e) (fill (around fs g) (over d)) (omega (arith, depth_over e)) in
    omega (arith, ap (λ ks. depth (wrapped fs ks (over e))) same, less, ap depth (top_run fs x g d h), well.depth)

-- and in frames that name forms
pub top_inside : (fs : List Form) (x : Thread) (gs : List Frame) (g : Frame) (d : Done) → IsWell fs x → (h : TopNext g x.focus x.frames.items d) → gs ≡ h.around → AreInside (length fs) gs
top_inside fs x gs g d well h same = subst (AreInside (length fs)) (sym same) (inside_front (length fs) h.around g (subst (AreInside (length fs)) h.top well.frames)).0

-- a thread goes on from its focus as deep at most
pub focus_room : (fs : List Form) (x : Thread) (v : Value) → IsWell fs x → depth (wrapped fs x.frames.items (temp v)) ≤ FRAMES
focus_room fs x v well =
    let less = depth_wrap (all_around fs x.frames.items) (temp v) (focus_run fs x.focus) (omega arith) in
    omega (arith, less, well.depth)

-- the same act, by its parts
pub leads_as : (t : ℕ) (names new : Fresh) (a b : Act) (slots left : List Value) (heap after : Heap) (ms was became : List Mutex) (v : Value) (labels : List Label) (u : Released) → names ≡ new → a ≡ b → was ≡ ms → left ≡ slots →
    Leads t names a (part slots heap was) (part slots after became) v labels u → Leads t new b (part slots heap ms) (part left after became) v labels u
leads_as t names new a b slots left heap after ms was became v labels u n e m l h =
    subst (λ k. Leads t k b (part slots heap ms) (part left after became) v labels u) n
    (subst (λ k. Leads t names k (part slots heap ms) (part left after became) v labels u) e
    (subst (λ k. Leads t names a (part slots heap k) (part left after became) v labels u) m
    (subst (λ k. Leads t names a (part slots heap was) (part k after became) v labels u) (sym l) h)))

-- WHAT THE ACTS ASK FOR

-- a new mutex takes a name that wasn't given, and its content is owned
pub make_steps : (fs : List Form) (xs : List Thread) (beside : Beside) (output : List ℤ) (t : ℕ) (names : Fresh) (i : ℕ) (x : Thread) (v : Value) → Steps fs xs beside output t names i x (next_.Mutex v) →
    (n : MutexNo) × (names ≡ fresh.Mutex n) × IsSome (cell_of v) × (mutex_at beside.mutexes n ≡ None)
make_steps fs xs beside output t names i x v h =
    let m = is_move h in
    by names m.0 (with_act (whole fs xs beside output) (thread_of fs x) names (life_move (life_at x.stage (run_in fs x))) m.0 (do_mutex v) m.1 m.2 (move_goes h))
  where
    by : (names : Fresh) (m : Move Life) → IsSome (done_act (whole fs xs beside output) (thread_of fs x) names m (do_mutex v)) → (n : MutexNo) × (names ≡ fresh.Mutex n) × IsSome (cell_of v) × (mutex_at beside.mutexes n ≡ None)
    by fresh.None m k = absurd (no_some {A = Stepped} None refl k)
    by (fresh.Thread u) m k = absurd (no_some {A = Stepped} None refl k)
    by (fresh.Threads u w) m k = absurd (no_some {A = Stepped} None refl k)
    by (fresh.Mutex n) m k = let r = acts_go.made (whole fs xs beside output) (thread_of fs x) m n v k in (n, refl, r.0, r.1)

-- what is shared is there
pub dup_steps : (fs : List Form) (xs : List Thread) (beside : Beside) (output : List ℤ) (t i : ℕ) (x : Thread) (w : Lval) (vs : List Value) → Steps fs xs beside output t fresh.None i x (next_.Dup w) → vs ≡ x.slots.items → IsSome (there_behind beside.mutexes (mutex_behind (state t vs beside.heap) w))
dup_steps fs xs beside output t i x w vs h same =
    let m = is_move h in
    let goes = acts_go.dup (whole fs xs beside output) (thread_of fs x) m.0 w (with_act (whole fs xs beside output) (thread_of fs x) fresh.None (life_move (life_at x.stage (run_in fs x))) m.0 (do_dup w) m.1 m.2 (move_goes h)) in
    subst (λ k. IsSome (there_behind beside.mutexes (mutex_behind (state k vs beside.heap) w))) (there_at fs xs t i x h.place h.is).1
    (subst (λ us. IsSome (there_behind beside.mutexes (mutex_behind (state x.number us beside.heap) w))) (sym same) goes)

-- the content of what is locked is in
pub lock_steps : (fs : List Form) (xs : List Thread) (beside : Beside) (output : List ℤ) (t i : ℕ) (x : Thread) (w : Lval) (node : ℕ) → Steps fs xs beside output t fresh.None i x (next_.Lock w node) → IsSome (content_behind beside.mutexes (mutex_behind (state t x.slots.items beside.heap) w))
lock_steps fs xs beside output t i x w node h =
    let m = is_move h in
    let goes = acts_go.lock (whole fs xs beside output) (thread_of fs x) m.0 w (with_act (whole fs xs beside output) (thread_of fs x) fresh.None (life_move (life_at x.stage (run_in fs x))) m.0 (do_lock w) m.1 m.2 (move_goes h)) in
    subst (λ k. IsSome (content_behind beside.mutexes (mutex_behind (state k x.slots.items beside.heap) w))) (there_at fs xs t i x h.place h.is).1 goes

-- what is unlocked stands above its mark
pub unlock_steps : (fs : List Form) (xs : List Thread) (beside : Beside) (output : List ℤ) (t i : ℕ) (x : Thread) (d : Done) → Steps fs xs beside output t fresh.None i x (next_.Unlock d) → IsLocked (newest_first x.slots.items)
unlock_steps fs xs beside output t i x d h =
    let m = is_move h in
    acts_go.unlock (whole fs xs beside output) (thread_of fs x) m.0 (with_act (whole fs xs beside output) (thread_of fs x) fresh.None (life_move (life_at x.stage (run_in fs x))) m.0 do_unlock m.1 m.2 (move_goes h))
