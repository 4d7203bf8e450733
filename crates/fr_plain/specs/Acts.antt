-- The acts of running terms.
use Rattle.std.specs.Prelude.{ℕ, Option}
use Rattle.fr_base.specs.declared.label.Plain.{Plain}
use Rattle.fr_plain.specs.State.{State}
use Rattle.fr_plain.specs.RunningTerms.{Run}
use Rattle.fr_plain.specs.MachineActs as machine
use Rattle.fr_plain.specs.Tasks as tasks
pub use Rattle.fr_plain.specs.MachineActs.{do_let, do_read, do_borrow, do_assign, do_box, do_arith, do_print, do_discard, do_drop, do_end, do_spawn, do_join, do_finish, do_leave, do_mutex, do_dup, do_lock, do_unlock, do_par, do_par_end, Did, unit, read_did, reference, borrow_did, assign_did, box_did, result_of, arith_did, print_did, drop_did, end_of, end_of_some, newest}
pub use Rattle.fr_plain.specs.Tasks.{task_in, task_in_some}

-- the bodies of new threads are terms
abbrev pub Act : Type 0
Act = machine.Act Run

abbrev pub act : Act → State → Option Did
act a s = machine.act a s

abbrev pub drops_last : Act → State → Plain
drops_last a s = machine.drops_last a s

abbrev pub lets_go : Act → State → Option ℕ
lets_go a s = tasks.lets_go a s
