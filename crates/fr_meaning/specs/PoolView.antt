-- What a pool is to its callers: a plain state of many threads.
use Rattle.std.specs.Prelude.{ℕ, ℤ, ◌+◌, List, [], ◌∷◌, Option, Some, None, option_map, if◌then◌else◌}
use Rattle.fr_base.specs.declared.step.Fresh.{Fresh}
use Rattle.fr_plain.specs.declared.value.Value.{Value}
use Rattle.fr_plain.specs.Run.{Run, life_move, life_left}
use Rattle.fr_plain.specs.Whole.{Thread as PlainThread, Whole, thread_at, is_over, Takes, no_name, a_thread, two_threads, a_mutex, takes_name, Refusal, no_thread, has_ended, waits, name_kind, name_used, refused}
use Rattle.fr_forms.specs.declared.forms.Form.{Form}
use Rattle.fr_meaning.specs.declared.frame.Frame.{Frame}
use Rattle.fr_meaning.specs.declared.frame.Focus.{Focus}
use Rattle.fr_meaning.specs.declared.thread.Stage.{Stage}
use Rattle.fr_meaning.specs.declared.need.Need.{Need}
use Rattle.fr_meaning.specs.declared.need.Need.TheVariants as need
use Rattle.fr_meaning.specs.declared.error.StepError.{StepError}
use Rattle.fr_meaning.specs.declared.error.StepError.TheVariants as error
use Rattle.fr_meaning.specs.Beside.{Beside}
use Rattle.fr_meaning.specs.FrameTerms.{wrapped, focus_run}
use Rattle.fr_acts.specs.SlotOrder.{newest_first}
use Rattle.fr_meaning.specs.Threads.{life_at}

-- a thread, without what room it has
pub record Entry : Type 0 where
  pub number : ℕ
  pub stage : Stage
  pub frames : List Frame
  pub focus : Focus
  pub slots : List Value

pub record View : Type 0 where
  pub forms : List Form
  pub threads : List Entry
  pub beside : Beside
  pub output : List ℤ

-- the running term
abbrev pub run_of : List Form → Entry → Run
run_of fs e = wrapped fs e.frames (focus_run fs e.focus)

-- the plain thread that an entry stands for
abbrev pub thread_in : List Form → Entry → PlainThread
thread_in fs e = record { number = e.number; life = life_at e.stage (run_of fs e); slots = newest_first e.slots }

abbrev pub threads_in : List Form → List Entry → List PlainThread
threads_in fs [] = []
threads_in fs (e ∷ es) = thread_in fs e ∷ threads_in fs es

-- the plain state that a pool stands for
abbrev pub whole_of : View → Whole
whole_of v = record { threads = threads_in v.forms v.threads; heap = v.beside.heap; mutexes = v.beside.mutexes; pairs = v.beside.pairs; output = v.output }

-- how many steps these threads have still to do, with those of the threads that they start
abbrev pub total_left : List PlainThread → ℕ
total_left [] = 0
total_left (x ∷ xs) = life_left x.life + total_left xs

abbrev pub steps_left_of : View → ℕ
steps_left_of v = total_left (whole_of v).threads

-- what a call says of a refusal
abbrev pub error_of : Refusal → StepError
error_of no_thread = error.NoThread
error_of has_ended = error.Ended
error_of (waits w) = error.Waits w
error_of name_kind = error.NameKind
error_of name_used = error.NameUsed

-- why a thread of a plain state can't step with these new names, the first cause
abbrev pub refusal : Whole → ℕ → Fresh → Option StepError
refusal s t names = option_map error_of (refused s t names)

-- the kind of names that a step takes
abbrev pub kind_of : Takes → Need
kind_of no_name = need.Nothing
kind_of a_thread = need.Thread
kind_of two_threads = need.Threads
kind_of a_mutex = need.Mutex

-- the names of a kind
abbrev pub takes_for : Need → Takes
takes_for need.Nothing = no_name
takes_for need.Thread = a_thread
takes_for need.Threads = two_threads
takes_for need.Mutex = a_mutex

abbrev pub need_in : Option PlainThread → Option Need
need_in None = None
need_in (Some t) = if is_over t.life then None else Some (kind_of (takes_name (life_move t.life)))

-- the kind of names that a thread's next step takes, where it is there and hasn't ended
abbrev pub need_of : Whole → ℕ → Option Need
need_of s t = need_in (thread_at s.threads t)
