-- What a thread does next: it ends, it joins another one, it starts one or two, it does something at a mutex, or it does an
-- act of its own.
use Rattle.std.specs.Prelude.{◌≡◌, ◌≢◌, ℕ, List, [], ◌∷◌, ◌++◌, Option, Some, None}
use Rattle.fr_base.specs.declared.label.Plain.TheVariants.{Task}
use Rattle.fr_base.specs.declared.place.Lval.{Lval}
use Rattle.fr_base.specs.declared.step.Wait.{Wait}
use Rattle.fr_plain.specs.declared.value.Value.{Value}
use Rattle.fr_plain.specs.declared.value.Value.TheVariants.{Own}
use Rattle.fr_plain.specs.Threads.{Whole, Thread, state_of}
use Rattle.fr_plain.specs.MachineThreads.{pair_of}
use Rattle.fr_plain.specs.Machine.{mutex_behind, join_waits, lock_waits, pair_waits}
use Rattle.fr_plain.specs.Whole.{Takes, no_name, a_thread, two_threads, a_mutex}
use Rattle.fr_meaning.specs.declared.frame.Done.{Done}
use Rattle.fr_meaning.specs.declared.frame.Frame.{Frame}
use Rattle.fr_meaning.specs.declared.frame.Frame.TheVariants as frame
use Rattle.fr_meaning.specs.declared.frame.Focus.{Focus}
use Rattle.fr_meaning.specs.declared.frame.Focus.TheVariants as focus
use Rattle.fr_meaning.specs.declared.next.Next.{Next}
use Rattle.fr_meaning.specs.declared.next.Next.TheVariants as next
use Rattle.fr_meaning.specs.DoneTerms.{value_of}
use Rattle.fr_meaning.specs.FrameTerms.{end_of}

-- this frame is on top, and its part is done
pub record TopNext (g : Frame) (f : Focus) (gs : List Frame) (d : Done) : Type 0 where
  pub around : List Frame
  pub top : gs ≡ around ++ g ∷ []
  pub at_end : f ≡ focus.Over d

-- the same, by the value of the part
pub record ValueNext (g : Frame) (f : Focus) (gs : List Frame) (v : Value) : Type 0 where
  pub done : Done
  pub next : TopNext g f gs done
  pub value : value_of done ≡ v

-- none of the others
pub record OwnNext (f : Focus) (gs : List Frame) : Type 0 where
  pub goes_on : end_of f gs ≡ None
  pub no_start : (node : ℕ) → f ≢ focus.Spawn node
  pub no_join : (around : List Frame) (d : Done) → gs ≡ around ++ frame.Join ∷ [] → f ≢ focus.Over d
  pub no_mutex : (around : List Frame) (d : Done) → gs ≡ around ++ frame.Mutex ∷ [] → f ≢ focus.Over d
  pub no_unlock : (around : List Frame) (d : Done) → gs ≡ around ++ frame.Locked ∷ [] → f ≢ focus.Over d
  pub no_dup : (w : Lval) → f ≢ focus.Dup w
  pub no_lock : (w : Lval) (node : ℕ) → f ≢ focus.Lock w node
  pub no_par : (node : ℕ) → f ≢ focus.Par node
  pub no_par_end : f ≢ focus.ParEnd

abbrev pub IsNext : Focus → List Frame → Next → Type 0
IsNext f gs (next.End d) = end_of f gs ≡ Some d
IsNext f gs (next.Join v) = ValueNext frame.Join f gs v
IsNext f gs (next.Start node) = f ≡ focus.Spawn node
IsNext f gs (next.Mutex v) = ValueNext frame.Mutex f gs v
IsNext f gs (next.Dup w) = f ≡ focus.Dup w
IsNext f gs (next.Lock w node) = f ≡ focus.Lock w node
IsNext f gs (next.Unlock d) = TopNext frame.Locked f gs d
IsNext f gs (next.Par node) = f ≡ focus.Par node
IsNext f gs next.ParEnd = f ≡ focus.ParEnd
IsNext f gs next.Own = OwnNext f gs

-- a join waits, a lock, and the end of a pair
abbrev pub next_waits : Whole → Thread → Next → Option Wait
next_waits s x (next.Join v) = join_waits s v
next_waits s x (next.Lock w node) = lock_waits s (mutex_behind (state_of s x) w)
next_waits s x next.ParEnd = pair_waits s (pair_of s.pairs x.number)
next_waits s x _ = None

-- the starts of threads take names, and new mutexes
abbrev pub next_takes : Next → Takes
next_takes (next.Start node) = a_thread
next_takes (next.Par node) = two_threads
next_takes (next.Mutex v) = a_mutex
next_takes _ = no_name

-- the thread whose task the value is
abbrev pub task_named : Value → Option ℕ
task_named (Own (Task t)) = Some t
task_named _ = None
