-- What became of a plain step, as the definitions have it.
use Rattle.std.specs.Prelude.{Bool, true, false}
use Rattle.fr_base.specs.declared.instruction.Instr.{Instr}
use Rattle.fr_base.specs.declared.instruction.Instr.TheVariants as instr
use Rattle.server_model.specs.Work.{Hand}
use Rattle.server_model.specs.Commit.{Committed, done, waits, refused}
use Rattle.server_steps.specs.declared.committed.Committed.{Committed as Made}
use Rattle.server_steps.specs.declared.committed.Committed.TheVariants as made

-- done with what the event has done, or one request was sent
abbrev pub committed : Made → Hand → Committed
committed (made.Done names) h = done names h
committed made.Waits h = waits h

-- each value that the step needs is there
abbrev pub is_committed : Committed → Bool
is_committed refused = false
is_committed c = true

-- its step takes no name and waits for nothing
abbrev pub goes_alone : Instr → Bool
goes_alone (instr.Spawn cs pc) = false
goes_alone (instr.Join o) = false
goes_alone (instr.Mutex o) = false
goes_alone (instr.Dup w) = false
goes_alone (instr.Lock w) = false
goes_alone (instr.Par cs pc ds other) = false
goes_alone (instr.End o) = false
goes_alone i = true

-- its step asks for something, takes the name of a mutex, or is the thread's last one
abbrev pub asks_or_ends : Instr → Bool
asks_or_ends (instr.Join o) = true
asks_or_ends (instr.Mutex o) = true
asks_or_ends (instr.Dup w) = true
asks_or_ends (instr.Lock w) = true
asks_or_ends (instr.End o) = true
asks_or_ends i = false

-- its step starts two threads
abbrev pub starts_pair : Instr → Bool
starts_pair (instr.Par cs pc ds other) = true
starts_pair i = false
