-- A source with an order behind it: the run of its program under that order, its text, and where the order is refused (this
-- project's rules).
use Rattle.std.specs.Prelude.{◌≡◌, ℕ, ◌+◌, ℤ, List, [], ◌∷◌, ◌++◌, Bool, true, false, not, ◌==◌, length, take, drop, Some, None, codes, decimal}
use Rattle.std.specs.List.{prefix_len}
use Rattle.fr_base.specs.declared.step.Ending3.{Ending3}
use Rattle.fr_base.specs.declared.step.Ending3.TheVariants as ending
use Rattle.fr_terms.specs.Terms.{Term}
use Rattle.fr_plain.specs.Whole.{Whole, Stepped, Turn, run, start, ending_of}
use Rattle.fr_plain.specs.Resolve.{program}
use Rattle.journal.specs.declared.order.OrderLine.{OrderLine}
use Rattle.journal.specs.OrderText.{IsOrder, IsRefused, steps_of}
use Rattle.replay_answers.specs.Report.{number_lines}
use Rattle.source_front.specs.Typed.{IsTyped}

-- THE TWO PARTS OF AN INPUT

-- a byte of the source: none is the mark `%`, behind which the order comes
abbrev pub is_of_source : ℕ → Bool
is_of_source byte = not (byte == 37)

abbrev pub source_length : List ℕ → ℕ
source_length bytes = prefix_len is_of_source bytes

-- the bytes before the first mark
abbrev pub source_in : List ℕ → List ℕ
source_in bytes = take (source_length bytes) bytes

-- the mark, and what comes behind it
abbrev pub behind_source : List ℕ → List ℕ
behind_source bytes = drop (source_length bytes) bytes

-- the byte where the text of the order starts, behind the mark and a newline
abbrev pub order_start : List ℕ → ℕ
order_start bytes = source_length bytes + 2

-- THE STEPS OF AN ORDER

abbrev pub turns : List OrderLine → List Turn
turns lines = steps_of lines

-- THE TEXT

abbrev pub ending_text : Ending3 → List ℕ
ending_text ending.Finished = codes "finished"
ending_text ending.Deadlocked = codes "deadlocked"
ending_text ending.Going = codes "unfinished"

abbrev pub status_of_ending : Ending3 → ℕ
status_of_ending ending.Finished = 0
status_of_ending ending.Deadlocked = 1
status_of_ending ending.Going = 2

-- how the state stands after the order, the printed numbers, and how many steps the order has
abbrev pub replay_text : Ending3 → ℕ → List ℤ → List ℕ
replay_text end steps printed =
    codes "ended " ++ ending_text end ++ codes "\nprints " ++ decimal (length printed) ++ codes "\n" ++ number_lines printed
    ++ codes "steps " ++ decimal steps ++ codes "\n"

-- REPLAYS

-- behind the source there are a mark, a newline and the text of an order of these lines
pub record HasLines (bytes : List ℕ) (lines : List OrderLine) : Type 0 where
  pub order : List ℕ
  pub marked : behind_source bytes ≡ 37 ∷ 10 ∷ order
  pub spelled : IsOrder (order_start bytes) order lines

-- the bytes are the source of a typed program with an order of these lines behind it
pub record HasOrder (bytes : List ℕ) (t : Term) (lines : List OrderLine) : Type 0 where
  pub typed : IsTyped (source_in bytes) t
  pub behind : HasLines bytes lines

-- from this state each step of the lines is a plain step; the text tells the state that they lead to
pub record ReplaysFrom (from : Whole) (lines : List OrderLine) (status : ℕ) (text : List ℕ) : Type 0 where
  pub last : Stepped
  pub goes : run from (turns lines) ≡ Some last
  pub stands : status ≡ status_of_ending (ending_of last.state)
  pub written : text ≡ replay_text (ending_of last.state) (length (turns lines)) last.state.output

-- each step of the order is a plain step of the program, from its start
pub record Replays (bytes : List ℕ) (status : ℕ) (text : List ℕ) : Type 0 where
  pub term : Term
  pub lines : List OrderLine
  pub order : HasOrder bytes term lines
  pub replayed : ReplaysFrom (start (program term)) lines status text

-- WHERE AN ORDER IS REFUSED

-- from this state the steps of the lines before are plain steps, and those of the line that starts there are not all
pub record IsNoStep (from : Whole) (lines : List OrderLine) (place : ℕ) : Type 0 where
  pub front : List OrderLine
  pub line : OrderLine
  pub rest : List OrderLine
  pub whole : lines ≡ front ++ line ∷ rest
  pub reached : Stepped
  pub goes : run from (turns front) ≡ Some reached
  pub stuck : run reached.state (turns (line ∷ [])) ≡ None
  pub here : place ≡ line.place

-- the first line that is not in the format, or else the first whose steps are not all plain steps
pub data IsBadOrder (t : Term) (from : ℕ) (order : List ℕ) (place : ℕ) : Type 0 where
  bad_line : IsRefused from order place → IsBadOrder t from order place
  bad_step : (lines : List OrderLine) → IsOrder from order lines → IsNoStep (start (program t)) lines place → IsBadOrder t from order place

-- behind the mark: a newline and a bad order, or no newline
abbrev pub IsBadAfter : Bool → Term → ℕ → List ℕ → ℕ → Type 0
IsBadAfter true t at order place = IsBadOrder t (at + 2) order place
IsBadAfter false t at order place = place ≡ at + 1

-- behind the source: no mark, so that the place is the end; or nothing good behind the mark
abbrev pub IsBadBehind : Term → ℕ → List ℕ → ℕ → Type 0
IsBadBehind t at [] place = place ≡ at
IsBadBehind t at (mark ∷ []) place = place ≡ at + 1
IsBadBehind t at (mark ∷ byte ∷ order) place = IsBadAfter (byte == 10) t at order place

-- the source of a typed program, whose order is refused at that place
pub record HasBadOrder (bytes : List ℕ) (place : ℕ) : Type 0 where
  pub term : Term
  pub typed : IsTyped (source_in bytes) term
  pub bad : IsBadBehind term (source_length bytes) (behind_source bytes) place
