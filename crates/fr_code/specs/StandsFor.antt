-- What stands in the code for a running term (this project's rule): the values that it holds are the temporary values, and the
-- instructions from there on are its steps.
use Rattle.std.specs.Prelude.{◌≡◌, ⊤, ℕ, zero, suc, ◌+◌, Bool, true, false, List, [], ◌∷◌, Some, slice_get}
use Rattle.fr_sound.specs.Below.fr_base.declared.place.Lval.{Lval}
use Rattle.fr_sound.specs.Below.fr_base.declared.instruction.Operand.{Operand}
use Rattle.fr_sound.specs.Below.fr_base.declared.instruction.Operand.TheVariants as operand
use Rattle.fr_sound.specs.Below.fr_base.declared.instruction.Instr.{Instr}
use Rattle.fr_sound.specs.Below.fr_base.declared.instruction.Instr.TheVariants as instr
use Rattle.fr_sound.specs.Below.fr_base.Rooms.{WithRoom}
use Rattle.fr_sound.specs.Below.fr_plain.declared.value.Value.{Value}
use Rattle.fr_sound.specs.Below.fr_plain.Run.{Capture, Run, temp, unit_c, number, read, borrow, box_r, arith, bind, print, assign, block, spawn, join_r, mutex_r, dup, lock, locked, par, par_end, Parts, last, more, Now, going, constant, temporary, now}
use Rattle.fr_code.specs.Steps.{captured}

abbrev mutual
  -- where a term's value is found once it is done
  pub operand_of : Run → Operand
  operand_of (temp v) = operand.Pop
  operand_of unit_c = operand.Unit
  operand_of (number n) = operand.Const n
  operand_of (bind r) = operand.Unit
  operand_of (print r) = operand.Unit
  operand_of (assign w r) = operand.Unit
  operand_of (block k is) = operand_of_last is
  operand_of (lock w r) = operand_of r
  operand_of (locked r) = operand_of r
  operand_of (par cs a ds b) = operand.Unit
  operand_of par_end = operand.Unit
  operand_of _ = operand.Pop

  pub operand_of_last : Parts → Operand
  operand_of_last (last r) = operand_of r
  operand_of_last (more r is) = operand_of_last is

abbrev mutual
  -- the temporary values in a term, above those before it
  pub temps_in : Run → List Value → List Value
  temps_in (temp v) ts = v ∷ ts
  temps_in unit_c ts = ts
  temps_in (number n) ts = ts
  temps_in (read w take) ts = ts
  temps_in (borrow w is_mut) ts = ts
  temps_in (box_r r) ts = temps_in r ts
  temps_in (arith f a b) ts = temps_in b (temps_in a ts)
  temps_in (bind r) ts = temps_in r ts
  temps_in (print r) ts = temps_in r ts
  temps_in (assign w r) ts = temps_in r ts
  temps_in (block k is) ts = temps_in_parts is ts
  temps_in (spawn cs r) ts = ts
  temps_in (join_r r) ts = temps_in r ts
  temps_in (mutex_r r) ts = temps_in r ts
  temps_in (dup w) ts = ts
  temps_in (lock w r) ts = ts
  temps_in (locked r) ts = temps_in r ts
  temps_in (par cs a ds b) ts = ts
  temps_in par_end ts = ts

  pub temps_in_parts : Parts → List Value → List Value
  temps_in_parts (last r) ts = temps_in r ts
  temps_in_parts (more r is) ts = temps_in_parts is (temps_in r ts)

abbrev mutual
  -- no step was made in it
  pub IsSource : Run → Type 0
  IsSource (temp v) = ⊥
  IsSource unit_c = ⊤
  IsSource (number n) = ⊤
  IsSource (read w take) = ⊤
  IsSource (borrow w is_mut) = ⊤
  IsSource (box_r r) = IsSource r
  IsSource (arith f a b) = IsSource a × IsSource b
  IsSource (bind r) = IsSource r
  IsSource (print r) = IsSource r
  IsSource (assign w r) = IsSource r
  IsSource (block k is) = AreSource is
  IsSource (spawn cs r) = IsSource r
  IsSource (join_r r) = IsSource r
  IsSource (mutex_r r) = IsSource r
  IsSource (dup w) = ⊤
  IsSource (lock w r) = IsSource r
  IsSource (locked r) = ⊥
  IsSource (par cs a ds b) = IsSource a × IsSource b
  IsSource par_end = ⊥

  pub AreSource : Parts → Type 0
  AreSource (last r) = IsSource r
  AreSource (more r is) = IsSource r × AreSource is

-- what is evaluated after a term, while that goes on: no step was made there
abbrev pub Later : Now → Type 0 → Type 0
Later going p = p
Later (constant v) p = ⊤
Later (temporary v) p = ⊤

-- what stands after a `;`, until the term before it has vanished or was dropped
abbrev pub LaterParts : Now → Type 0 → Type 0
LaterParts going p = p
LaterParts (constant v) p = ⊤
LaterParts (temporary v) p = p

-- a term before a `;` that leaves a temporary value is followed by its drop
abbrev pub Discards : List Instr → Operand → ℕ → ℕ → Type 0
Discards code operand.Pop p q = (slice_get code p ≡ Some instr.Discard) × (q ≡ p + 1)
Discards code (operand.Const n) p q = q ≡ p
Discards code operand.Unit p q = q ≡ p

-- so many slots are dropped
abbrev pub DropsAt : List Instr → ℕ → ℕ → ℕ → Type 0
DropsAt code p zero q = q ≡ p
DropsAt code p (suc k) q = (slice_get code p ≡ Some instr.DropSlot) × DropsAt code (p + 1) k q

-- the end of a thread with that result
abbrev pub Ends : List Instr → ℕ → Operand → Type 0
Ends code p o = slice_get code p ≡ Some (instr.End o)

-- the content is put back
abbrev pub Unlocks : List Instr → ℕ → ℕ → Type 0
Unlocks code p q = (slice_get code p ≡ Some instr.Unlock) × (q ≡ p + 1)

-- two threads start with these captures and codes, and then both are waited for
pub record Pairs (code : List Instr) (p : ℕ) (cs : List Capture) (to : ℕ) (ds : List Capture) (other : ℕ) (q : ℕ) : Type 0 where
  pub ours : WithRoom (ℕ × Bool)
  pub theirs : WithRoom (ℕ × Bool)
  pub starts : slice_get code p ≡ Some (instr.Par ours to theirs other)
  pub captures : captured ours.items ≡ cs
  pub others : captured theirs.items ≡ ds
  pub waits : slice_get code (p + 1) ≡ Some instr.ParEnd
  pub next : q ≡ p + 1 + 1

abbrev pub borrowing : Lval → Bool → Instr
borrowing w true = instr.BorrowMut w
borrowing w false = instr.Borrow w

abbrev mutual
  -- from place p to place q stands the code of what is left of the term
  pub At : List Instr → ℕ → Run → ℕ → Type 0
  At code p (temp v) q = q ≡ p
  At code p unit_c q = q ≡ p
  At code p (number n) q = q ≡ p
  At code p (read w take) q = (slice_get code p ≡ Some (instr.Read w take)) × (q ≡ p + 1)
  At code p (borrow w is_mut) q = (slice_get code p ≡ Some (borrowing w is_mut)) × (q ≡ p + 1)
  At code p (box_r r) q = (m : ℕ) × At code p r m × (slice_get code m ≡ Some (instr.Box (operand_of r))) × (q ≡ m + 1)
  At code p (arith f a b) q = (m n : ℕ) × At code p a m × At code m b n × (slice_get code n ≡ Some (instr.Arith f (operand_of a) (operand_of b))) × (q ≡ n + 1) × Later (now a) (IsSource b)
  At code p (bind r) q = (m : ℕ) × At code p r m × (slice_get code m ≡ Some (instr.Let (operand_of r))) × (q ≡ m + 1)
  At code p (print r) q = (m : ℕ) × At code p r m × (slice_get code m ≡ Some (instr.Print (operand_of r))) × (q ≡ m + 1)
  At code p (assign w r) q = (m : ℕ) × At code p r m × (slice_get code m ≡ Some (instr.Assign w (operand_of r))) × (q ≡ m + 1)
  At code p (block k is) q = (m : ℕ) × AtParts code p is m × DropsAt code m k q
  -- the new thread's code stands elsewhere
  At code p (spawn cs r) q = (xs : WithRoom (ℕ × Bool)) × (to e : ℕ) × (slice_get code p ≡ Some (instr.Spawn xs to)) × (captured xs.items ≡ cs) × (q ≡ p + 1) × At code to r e × Ends code e (operand_of r) × IsSource r
  At code p (join_r r) q = (m : ℕ) × At code p r m × (slice_get code m ≡ Some (instr.Join (operand_of r))) × (q ≡ m + 1)
  At code p (mutex_r r) q = (m : ℕ) × At code p r m × (slice_get code m ≡ Some (instr.Mutex (operand_of r))) × (q ≡ m + 1)
  At code p (dup w) q = (slice_get code p ≡ Some (instr.Dup w)) × (q ≡ p + 1)
  At code p (lock w r) q = (m : ℕ) × (slice_get code p ≡ Some (instr.Lock w)) × At code (p + 1) r m × Unlocks code m q × IsSource r
  At code p (locked r) q = (m : ℕ) × At code p r m × Unlocks code m q
  -- the codes of both threads stand elsewhere
  At code p (par cs a ds b) q = (to e : ℕ) × (other f : ℕ) × Pairs code p cs to ds other q × At code to a e × Ends code e (operand_of a) × IsSource a × At code other b f × Ends code f (operand_of b) × IsSource b
  At code p par_end q = (slice_get code p ≡ Some instr.ParEnd) × (q ≡ p + 1)

  pub AtParts : List Instr → ℕ → Parts → ℕ → Type 0
  AtParts code p (last r) q = At code p r q
  AtParts code p (more r is) q = (m n : ℕ) × At code p r m × Discards code (operand_of r) m n × AtParts code n is q × LaterParts (now r) (AreSource is)

-- a thread at an instruction with its temporary values stands for a term: the code of the term's steps and the thread's end
-- stand there, and the temporary values are the term's
pub record Stands (code : List Instr) (p : ℕ) (ts : List Value) (r : Run) : Type 0 where
  pub to : ℕ
  pub at : At code p r to
  pub temps : ts ≡ temps_in r []
  pub over : Ends code to (operand_of r)

-- the code of a thread that starts with this term
pub record IsCodeFrom (code : List Instr) (p : ℕ) (r : Run) : Type 0 where
  pub to : ℕ
  pub at : At code p r to
  pub over : Ends code to (operand_of r)
  pub source : IsSource r

-- the code of a program: its main thread starts at the first instruction
abbrev pub IsCodeOf : List Instr → Run → Type 0
IsCodeOf code r = IsCodeFrom code 0 r
