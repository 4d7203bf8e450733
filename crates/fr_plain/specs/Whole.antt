-- The plain machine whole, with running terms.
use Rattle.std.specs.Prelude.{ℕ, Bool, List, Option}
use Rattle.fr_base.specs.declared.step.Fresh.{Fresh}
use Rattle.fr_base.specs.declared.step.Wait.{Wait}
use Rattle.fr_base.specs.declared.step.Ending3.{Ending3}
use Rattle.fr_plain.specs.declared.value.Value.{Value}
use Rattle.fr_plain.specs.Acts.{Act, Did}
use Rattle.fr_plain.specs.Run.{Run, Move, Life, terms}
use Rattle.fr_plain.specs.Machine as machine
pub use Rattle.fr_plain.specs.Threads.{Thread, Whole, thread_at, with_thread, is_given, Passed, pass, result_at, with_life, let_threads_go, let_go, is_over, all_over, state_of}
pub use Rattle.fr_plain.specs.Tasks.{then_let_go}
pub use Rattle.fr_plain.specs.Machine.{prints, is_nameless, Refusal, no_thread, has_ended, waits, name_kind, name_used, Turn, main_steps, refused_wait, then_released, nameless, Takes, no_name, a_thread, two_threads, a_mutex, takes_of, takes_name, refused_names, then_labels, go_on}

abbrev pub Stepped : Type 0
Stepped = machine.Stepped Run

abbrev pub stepped : Whole → Thread → Move Life → Option Did → Option Stepped
stepped s t m d = machine.stepped terms s t m d

abbrev pub alone_stepped : Whole → Thread → Move Life → Act → Option Stepped
alone_stepped s t m a = machine.alone_stepped terms s t m a

abbrev pub started_with : Whole → Thread → Move Life → Run → ℕ → Option Passed → Option Stepped
started_with s t m r u p = machine.started_with terms s t m r u p

abbrev pub started : Whole → Thread → Move Life → Fresh → Run → (List Value → Option Passed) → Option Stepped
started s t m names r passed = machine.started terms s t m names r passed

abbrev pub joined_with : Whole → Thread → Move Life → Option Thread → Option Value → Option Stepped
joined_with s t m x v = machine.joined_with terms s t m x v

abbrev pub joined : Whole → Thread → Move Life → Value → Option Stepped
joined s t m v = machine.joined terms s t m v

abbrev pub done_act : Whole → Thread → Fresh → Move Life → Act → Option Stepped
done_act s t names m a = machine.done_act terms s t names m a

abbrev pub moved : Whole → Thread → Fresh → Option (Move Life) → Option Stepped
moved s t names m = machine.moved terms s t names m

abbrev pub step_of : Whole → Fresh → Option Thread → Option Stepped
step_of s names t = machine.step_of terms s names t

-- one step of that thread with these new names; None where it isn't an enabled step
abbrev pub step : Whole → ℕ → Fresh → Option Stepped
step s t names = machine.step terms s t names

abbrev pub waits_for : Whole → Thread → Option Wait
waits_for s x = machine.waits_for terms s x

abbrev pub all_wait : Whole → List Thread → Bool
all_wait s xs = machine.all_wait terms s xs

abbrev pub refused_of : Whole → Fresh → Option Thread → Option Refusal
refused_of s names t = machine.refused_of terms s names t

-- the first reason, in the order of `Refusal`
abbrev pub refused : Whole → ℕ → Fresh → Option Refusal
refused s t names = machine.refused terms s t names

abbrev pub run : Whole → List Turn → Option Stepped
run s order = machine.run terms s order

-- the main thread alone, at the start of its term
abbrev pub start : Run → Whole
start r = machine.start terms r

-- the plain run of a program under an order
abbrev pub plain : Run → List Turn → Option Stepped
plain r order = machine.plain terms r order

abbrev pub ending_of : Whole → Ending3
ending_of s = machine.ending_of terms s
