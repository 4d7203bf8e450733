-- ENTRIES OF MOVES AND ASSIGNMENTS THROUGH STARS ARE LEGAL where they are done (in the manner of DRust; the state is this project's).
use Rattle.std.specs.Prelude.{ℕ}
use Rattle.law_heap_writes.specs.Below.law_words_asked.Below.fr_base.declared.instruction.Instr.{Instr}
use Rattle.law_heap_writes.specs.Below.law_words_asked.Below.fr_base.declared.place.Lval.{Lval}
use Rattle.law_heap_writes.specs.Below.law_words_asked.Below.thread_state.View.{ThreadState}
use Rattle.law_heap_writes.specs.Below.law_words_asked.Below.server_model.Servers.{Cluster}
use Rattle.law_heap_writes.specs.Below.law_words_asked.writes.Writing.{WritesThrough}

-- a value is moved out of the end of a place with stars, or gets there, whatever stood there
pub data WritesThere (k : Cluster) (y : ThreadState) : Instr → Type 0 where
  writes : {i : Instr} (w : Lval) (d : ℕ) → WritesThrough i w d → WritesThere k y i
