-- THE CODE OF A RUNNING TERM (this project's rule), by recursion on the term: the thread's own instructions, behind them those of the threads that it
-- starts, behind these those of the threads that these start, and so on; each thread's end behind its instructions.
use Rattle.std.specs.Prelude.{ℕ, zero, suc, ◌+◌, Bool, List, [], ◌∷◌, ◌++◌, length, map}
use Rattle.fr_base.specs.declared.instruction.Operand.{Operand}
use Rattle.fr_base.specs.declared.instruction.Operand.TheVariants as operand
use Rattle.fr_base.specs.declared.instruction.Instr.{Instr}
use Rattle.fr_base.specs.declared.instruction.Instr.TheVariants as instr
use Rattle.fr_base.specs.Rooms.{WithRoom}
use Rattle.fr_plain.specs.Run.{Capture, Run, temp, unit_c, number, read, borrow, box_r, arith, bind, print, assign, block, spawn, join_r, mutex_r, dup, lock, locked, par, par_end, Parts, last, more, steps_left}
use Rattle.fr_code.specs.StandsFor.{operand_of, borrowing}

-- an instruction whose threads have no place yet
pub data Piece : Type 0 where
  does : Instr → Piece
  starts : List Capture → Run → Piece
  starts_two : List Capture → Run → List Capture → Run → Piece

-- a value before a `;` is given up
abbrev pub given_up : Operand → List Piece
given_up operand.Pop = does instr.Discard ∷ []
given_up (operand.Const n) = []
given_up operand.Unit = []

abbrev pub drops : ℕ → List Piece
drops zero = []
drops (suc k) = does instr.DropSlot ∷ drops k

abbrev mutual
  pub pieces : Run → List Piece
  pieces (temp v) = []
  pieces unit_c = []
  pieces (number n) = []
  pieces (read w take) = does (instr.Read w take) ∷ []
  pieces (borrow w is_mut) = does (borrowing w is_mut) ∷ []
  pieces (box_r r) = pieces r ++ does (instr.Box (operand_of r)) ∷ []
  pieces (arith f a b) = pieces a ++ (pieces b ++ does (instr.Arith f (operand_of a) (operand_of b)) ∷ [])
  pieces (bind r) = pieces r ++ does (instr.Let (operand_of r)) ∷ []
  pieces (print r) = pieces r ++ does (instr.Print (operand_of r)) ∷ []
  pieces (assign w r) = pieces r ++ does (instr.Assign w (operand_of r)) ∷ []
  pieces (block k is) = pieces_in is ++ drops k
  pieces (spawn cs r) = starts cs r ∷ []
  pieces (join_r r) = pieces r ++ does (instr.Join (operand_of r)) ∷ []
  pieces (mutex_r r) = pieces r ++ does (instr.Mutex (operand_of r)) ∷ []
  pieces (dup w) = does (instr.Dup w) ∷ []
  pieces (lock w r) = does (instr.Lock w) ∷ pieces r ++ does instr.Unlock ∷ []
  pieces (locked r) = pieces r ++ does instr.Unlock ∷ []
  pieces (par cs a ds b) = starts_two cs a ds b ∷ does instr.ParEnd ∷ []
  pieces par_end = does instr.ParEnd ∷ []

  pub pieces_in : Parts → List Piece
  pieces_in (last r) = pieces r
  pieces_in (more r is) = pieces r ++ (given_up (operand_of r) ++ pieces_in is)

abbrev pub thread : Run → List Piece
thread r = pieces r ++ does (instr.End (operand_of r)) ∷ []

-- one thread behind another
abbrev pub threads_of : List Run → List Piece
threads_of [] = []
threads_of (r ∷ rs) = thread r ++ threads_of rs

-- the threads that are started, of a pair the first one first
abbrev pub started_by : List Piece → List Run
started_by [] = []
started_by (does i ∷ ps) = started_by ps
started_by (starts cs r ∷ ps) = r ∷ started_by ps
started_by (starts_two cs a ds b ∷ ps) = a ∷ b ∷ started_by ps

abbrev pub size : Run → ℕ
size r = length (thread r)

abbrev pub slots : List Capture → WithRoom (ℕ × Bool)
slots cs = record { items = map (λ (c : Capture). (c.slot, c.take)) cs; spare = 0 }

-- the instructions, where the threads that they start stand one behind another from that place on
abbrev pub placed : ℕ → List Piece → List Instr
placed n [] = []
placed n (does i ∷ ps) = i ∷ placed n ps
placed n (starts cs r ∷ ps) = instr.Spawn (slots cs) n ∷ placed (n + size r) ps
placed n (starts_two cs a ds b ∷ ps) = instr.Par (slots cs) n (slots ds) (n + size a) ∷ placed (n + size a + size b) ps

abbrev pub started : List Run → List Run
started rs = started_by (threads_of rs)

-- these threads, and behind them, from that place on, those that they start, for so many generations
abbrev pub generations : ℕ → ℕ → List Run → List Instr
generations zero n rs = []
generations (suc d) n rs = placed n (threads_of rs) ++ generations d (n + length (threads_of (started rs))) (started rs)

-- there are no more generations than steps, and one
abbrev pub code_of : Run → List Instr
code_of r = generations (suc (steps_left r)) (size r) (r ∷ [])
