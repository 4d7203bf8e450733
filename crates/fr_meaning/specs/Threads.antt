-- A thread of the code, and what it stands for.
use Rattle.std.specs.Prelude.{◌≡◌, ◌≢◌, ℕ, ℤ, ◌<◌, ◌≤◌, ⊤, Bool, true, false, List, [], ◌∷◌, ◌++◌, length, Option, Some, None, IsSome, vec_len, vec_capacity}
use Rattle.fr_base.specs.Rooms.{WithRoom}
use Rattle.fr_base.specs.declared.label.Label.{Label}
use Rattle.fr_plain.specs.declared.value.Value.{Value}
use Rattle.fr_plain.specs.Acts.{Act, do_end, do_finish, do_leave, unit, end_of as link_of}
use Rattle.fr_plain.specs.Heap.{Heap}
use Rattle.fr_plain.specs.State.{without}
use Rattle.fr_plain.specs.Run.{Run, Life, alive, over, owing, loose, ended}
use Rattle.fr_plain.specs.Threads.{Whole, Thread as PlainThread, pass}
use Rattle.fr_forms.specs.FormTerms.{captures_of, captures_at}
use Rattle.fr_forms.specs.declared.forms.Form.{Form}
use Rattle.fr_meaning.specs.declared.thread.Stage.{Stage}
use Rattle.fr_meaning.specs.declared.thread.Stage.TheVariants as stage
use Rattle.fr_meaning.specs.declared.thread.Thread.{Thread}
use Rattle.fr_meaning.specs.Beside.{Beside}
use Rattle.fr_meaning.specs.Contexts.{IsSettled}
use Rattle.fr_forms.specs.Depths.{depth}
use Rattle.fr_base.specs.declared.label.Plain.TheVariants.{Task}
use Rattle.fr_plain.specs.declared.value.Value.TheVariants.{Own}
use Rattle.fr_meaning.specs.declared.frame.TheConstants.{FRAMES}
use Rattle.fr_meaning.specs.declared.frame.Done.{Done}
use Rattle.fr_meaning.specs.declared.frame.Frame.{Frame}
use Rattle.fr_meaning.specs.declared.frame.Frame.TheVariants as frame
use Rattle.fr_meaning.specs.declared.frame.Focus.TheVariants as focus
use Rattle.fr_shared.specs.declared.heap.Released.{Released}
use Rattle.fr_shared.specs.declared.heap.Released.TheVariants as released
use Rattle.fr_meaning.specs.DoneTerms.{value_of}
use Rattle.fr_shared.specs.HeapRoom.{HeapRoom}
use Rattle.fr_shared.specs.Releases.{released_of}
use Rattle.fr_meaning.specs.FrameTerms.{wrapped, focus_run, AreInside, HasMadeWay, end_of}
use Rattle.fr_acts.specs.Acting.{state}
use Rattle.fr_meaning.specs.Turning.{term_step, focus_labels, frame_labels}
use Rattle.fr_acts.specs.SlotOrder.{newest_first}

-- the running term
abbrev pub run_in : List Form → Thread → Run
run_in fs x = wrapped fs x.frames.items (focus_run fs x.focus)

-- a thread that goes on has room for all frames that it comes to, and one that has ended has no room for frames
abbrev pub HasRoom : Stage → ℕ → Type 0
HasRoom stage.Alive room = FRAMES ≤ room
HasRoom stage.Owing room = FRAMES ≤ room
HasRoom stage.Loose room = FRAMES ≤ room
HasRoom stage.Over room = room ≡ 0
HasRoom (stage.Ended v) room = room ≡ 0

-- the frames name forms, no left operand that is done is waited for, all that needs no step has vanished, no step
-- needs more frames, and there is room for them as long as the thread goes on
pub record IsWell (fs : List Form) (x : Thread) : Type 0 where
  pub frames : AreInside (length fs) x.frames.items
  pub way : HasMadeWay fs x.frames.items x.focus
  pub settled : IsSettled (run_in fs x)
  pub depth : depth (run_in fs x) ≤ FRAMES
  pub room : HasRoom x.stage (vec_capacity x.frames)

-- the thread is in progress
abbrev pub IsGoingOn : Stage → Type 0
IsGoingOn stage.Alive = ⊤
IsGoingOn stage.Owing = ⊤
IsGoingOn stage.Loose = ⊤
IsGoingOn _ = ⊥

-- its result is kept
abbrev pub result_in : Stage → Option Value
result_in (stage.Ended v) = Some v
result_in _ = None

-- it has ended
abbrev pub is_done : Stage → Bool
is_done stage.Over = true
is_done (stage.Ended v) = true
is_done _ = false

abbrev pub IsEnded : Stage → Type 0
IsEnded (stage.Ended v) = ⊤
IsEnded _ = ⊥

-- the act at its end, the value that the act leaves, and the thread after it
abbrev pub end_act : Stage → Value → Act
end_act stage.Owing v = do_finish v
end_act stage.Loose v = do_leave v
end_act _ v = do_end v

abbrev pub end_value : Stage → Value → Value
end_value stage.Owing v = v
end_value _ v = unit

abbrev pub after_end : Stage → Value → Stage
after_end stage.Owing v = stage.Ended v
after_end _ v = stage.Over

-- ALL THREADS

-- the thread's life
abbrev pub life_at : Stage → Run → Life
life_at stage.Alive r = alive r
life_at stage.Owing r = owing r
life_at stage.Loose r = loose r
life_at stage.Over r = over
life_at (stage.Ended v) r = ended v

-- the plain thread that it stands for
abbrev pub thread_of : List Form → Thread → PlainThread
thread_of fs x = record { number = x.number; life = life_at x.stage (run_in fs x); slots = newest_first x.slots.items }

abbrev pub threads_of : List Form → List Thread → List PlainThread
threads_of fs [] = []
threads_of fs (x ∷ xs) = thread_of fs x ∷ threads_of fs xs

-- the plain state of all threads
abbrev pub whole : List Form → List Thread → Beside → List ℤ → Whole
whole fs xs beside output = record { threads = threads_of fs xs; heap = beside.heap; mutexes = beside.mutexes; pairs = beside.pairs; output = output }

abbrev pub numbers_of : List Thread → List ℕ
numbers_of [] = []
numbers_of (x ∷ xs) = x.number ∷ numbers_of xs

abbrev pub AreWell : List Form → List Thread → Type 0
AreWell fs [] = ⊤
AreWell fs (x ∷ xs) = IsWell fs x × AreWell fs xs

-- a thread whose task is dropped: where it is in progress nobody will have its result, and a result that is kept is
-- dropped, with what goes last with it
abbrev pub after_release : Stage → Stage
after_release stage.Owing = stage.Loose
after_release (stage.Ended v) = stage.Over
after_release s = s

abbrev pub released_heap : Heap → Stage → Heap
released_heap h (stage.Ended v) = without h v
released_heap h _ = h

abbrev pub released_last : Heap → Stage → Released
released_last h (stage.Ended v) = released_of (link_of h v)
released_last h _ = released.Nothing

-- the thread's own step can be done, and there is room for what it makes
pub record CanGo (fs : List Form) (x : Thread) (heap : HeapRoom) (labels : WithRoom Label) : Type 0 where
  pub on : IsGoingOn x.stage
  pub at_step : end_of x.focus x.frames.items ≡ None
  pub no_pair : x.focus ≢ focus.ParEnd
  pub goes : IsSome (term_step (run_in fs x) (state x.number x.slots.items heap.heap))
  pub slots : vec_len x.slots < vec_capacity x.slots
  pub ready : heap.ready ≡ Some x.number
  pub spare : focus_labels x.focus ≤ labels.spare
  pub frame_spare : (gs : List Frame) (g : Frame) → x.frames.items ≡ gs ++ g ∷ [] → frame_labels g ≤ labels.spare

-- the thread joins that one next
pub record Joins (x : Thread) (joined : ℕ) : Type 0 where
  pub on : IsGoingOn x.stage
  pub around : List Frame
  pub top : x.frames.items ≡ around ++ frame.Join ∷ []
  pub done : Done
  pub at_end : x.focus ≡ focus.Over done
  pub task : value_of done ≡ Own (Task joined)

-- the thread starts the one of that form next
pub record Starts (fs : List Form) (x : Thread) (node : ℕ) : Type 0 where
  pub on : IsGoingOn x.stage
  pub at_start : x.focus ≡ focus.Spawn node
  pub passes : IsSome (pass (captures_of (captures_at fs node)) (newest_first x.slots.items) [])
