-- A step that a thread does alone, from its parts: its term, its slots (the newest last), the heap, the labels, and what
-- goes last with the value that it drops.
use Rattle.std.specs.Prelude.{ℕ, ◌+◌, List, Option, Some, None}
use Rattle.fr_base.specs.declared.label.Label.{Label}
use Rattle.fr_plain.specs.declared.value.Value.{Value}
use Rattle.fr_plain.specs.Heap.{Heap}
use Rattle.fr_plain.specs.State.{State}
use Rattle.fr_plain.specs.Acts.{Did, act}
use Rattle.fr_plain.specs.Run.{Run, Move, move, settle}
use Rattle.fr_meaning.specs.declared.frame.Frame.{Frame}
use Rattle.fr_meaning.specs.declared.frame.Frame.TheVariants as frame
use Rattle.fr_meaning.specs.declared.frame.Focus.{Focus}
use Rattle.fr_meaning.specs.declared.frame.Focus.TheVariants as focus
use Rattle.fr_shared.specs.declared.heap.Released.{Released}
use Rattle.fr_acts.specs.Acting.{state, releases}

-- where a move leads before what needs no step has vanished, and what goes last with what it drops
pub record Turned : Type 0 where
  pub run : Run
  pub state : State
  pub labels : List Label
  pub released : Released

abbrev pub turned_by : Move Run → Released → Option Did → Option Turned
turned_by m u None = None
turned_by m u (Some d) = Some (record { run = m.plug d.value; state = d.state; labels = d.labels; released = u })

abbrev pub turned : Option (Move Run) → State → Option Turned
turned None s = None
turned (Some m) s = turned_by m (releases m.act s) (act m.act s)

abbrev pub turns_to : Run → ℕ → List Value → Heap → List Label → Released → Option Turned
turns_to r t slots heap labels u = Some (record { run = r; state = state t slots heap; labels = labels; released = u })

-- what needs no step has vanished
abbrev pub settled : Option Turned → Option Turned
settled None = None
settled (Some x) = Some (record { run = settle x.run; state = x.state; labels = x.labels; released = x.released })

-- one step of a term that goes on, which the thread does alone
abbrev pub term_step : Run → State → Option Turned
term_step r s = settled (turned (move r) s)

-- how many labels a step of the frame's term gives at most
abbrev pub frame_labels : Frame → ℕ
frame_labels (frame.Assign w) = w.depth + 2
frame_labels _ = 2

abbrev pub focus_labels : Focus → ℕ
focus_labels (focus.Read w take) = w.depth + 2
focus_labels (focus.Borrow w is_mut) = w.depth + 2
focus_labels (focus.Dup w) = w.depth + 2
focus_labels (focus.Lock w node) = w.depth + 2
focus_labels _ = 2
