-- The codes of some small programs, each written above it.
use Rattle.std.specs.Prelude.{ℕ, Bool, pos, true, false, List, [], ◌∷◌, ◌++◌}
use Rattle.fr_sound.specs.Below.fr_base.declared.place.Lval.{Lval}
use Rattle.fr_sound.specs.Below.fr_base.declared.place.Op.TheVariants as op
use Rattle.fr_sound.specs.Below.fr_base.declared.instruction.Operand.{Operand}
use Rattle.fr_sound.specs.Below.fr_base.declared.instruction.Operand.TheVariants as operand
use Rattle.fr_sound.specs.Below.fr_base.declared.instruction.Instr.{Instr}
use Rattle.fr_sound.specs.Below.fr_base.declared.instruction.Instr.TheVariants as instr
use Rattle.fr_sound.specs.Below.fr_base.Rooms.{WithRoom}
use Rattle.fr_sound.specs.Below.fr_terms.Terms.{Term, let_t, print_t, arith_t}
use Rattle.fr_sound.specs.Below.fr_plain.Resolve.{program}
use Rattle.fr_sound.specs.Below.fr_plain.Examples.{block, read, number, x, y, boxed}
use Rattle.fr_sound.specs.Below.fr_plain.ThreadRuns.{moved_in}
use Rattle.fr_sound.specs.Below.fr_plain.LockRuns.{constant_inside, exchanged, counted}
use Rattle.fr_sound.specs.Below.fr_plain.PairRuns.{handed_over, twice_shared}
use Rattle.fr_code.specs.StandsFor.{IsCodeOf}

abbrev place : ℕ → ℕ → Lval
place slot depth = record { slot = slot; depth = depth }

abbrev constant : ℕ → Operand
constant n = operand.Const (pos n)

-- { let mut x = box 1; *x = 2; print *x }
abbrev boxed_code : List Instr
boxed_code =
    instr.Box (constant 1) ∷ instr.Let operand.Pop ∷ instr.Assign (place 0 1) (constant 2) ∷ instr.Read (place 0 1) false ∷ instr.Print operand.Pop ∷ instr.DropSlot ∷ instr.End operand.Unit ∷ []

-- { let mut x = 1; { let mut y = 2; x }; print x }
abbrev inner : Term
inner = block (let_t 0 x (number 1) ∷ block (let_t 0 y (number 2) ∷ read x 0 ∷ []) ∷ print_t 0 (read x 0) ∷ [])

abbrev inner_code : List Instr
inner_code =
    instr.Let (constant 1) ∷ instr.Let (constant 2) ∷ instr.Read (place 0 0) false ∷ instr.DropSlot ∷ instr.Discard ∷ instr.Read (place 0 0) false ∷ instr.Print operand.Pop ∷ instr.DropSlot ∷ instr.End operand.Unit ∷ []

-- { let mut x = 3; print (x - (x + 1)) }
abbrev twice : Term
twice = block (let_t 0 x (number 3) ∷ print_t 0 (arith_t 0 op.Sub (read x 0) (arith_t 0 op.Add (read x 0) (number 1))) ∷ [])

abbrev twice_code : List Instr
twice_code =
    instr.Let (constant 3) ∷ instr.Read (place 0 0) false ∷ instr.Read (place 0 0) false ∷ instr.Arith op.Add operand.Pop (constant 1) ∷ instr.Arith op.Sub operand.Pop operand.Pop ∷ instr.Print operand.Pop ∷ instr.DropSlot ∷ instr.End operand.Unit
    ∷ []

-- the capture of that slot
abbrev pub taking : ℕ → WithRoom (ℕ × Bool)
taking slot = record { items = (slot, true) ∷ []; spare = 0 }

abbrev pub copying : ℕ → WithRoom (ℕ × Bool)
copying slot = record { items = (slot, false) ∷ []; spare = 0 }

-- { let mut x = box 1; let mut h = spawn (x) { *x }; print join h }
abbrev pub started_code : List Instr
started_code =
    instr.Box (constant 1) ∷ instr.Let operand.Pop ∷ instr.Spawn (taking 0) 10 ∷ instr.Let operand.Pop ∷ instr.Read (place 1 0) true ∷ instr.Join operand.Pop ∷ instr.Print operand.Pop ∷ instr.DropSlot ∷ instr.DropSlot ∷ instr.End operand.Unit
    ∷ instr.Read (place 0 1) false ∷ instr.DropSlot ∷ instr.End operand.Pop ∷ []

-- { let mut m = mutex 1; let mut y = lock m as c { 5 }; print y }
abbrev constant_code : List Instr
constant_code =
    instr.Mutex (constant 1) ∷ instr.Let operand.Pop ∷ instr.Lock (place 0 0) ∷ instr.Unlock ∷ instr.Let (constant 5) ∷ instr.Read (place 1 0) false ∷ instr.Print operand.Pop ∷ instr.DropSlot ∷ instr.DropSlot ∷ instr.End operand.Unit ∷ []

-- { let mut m = mutex box 1; let mut y = lock m as c { let mut x = c; c = box 2; x }; print *y }
abbrev exchanged_code : List Instr
exchanged_code =
    instr.Box (constant 1) ∷ instr.Mutex operand.Pop ∷ instr.Let operand.Pop ∷ instr.Lock (place 0 0) ∷ instr.Read (place 2 0) true ∷ instr.Let operand.Pop ∷ instr.Box (constant 2) ∷ instr.Assign (place 2 0) operand.Pop ∷ instr.Read (place 3 0) true ∷ instr.DropSlot
    ∷ instr.Unlock ∷ instr.Let operand.Pop ∷ instr.Read (place 1 1) false ∷ instr.Print operand.Pop ∷ instr.DropSlot ∷ instr.DropSlot ∷ instr.End operand.Unit ∷ []

-- { let mut m = mutex 0; let mut n = dup m; let mut h = spawn (n) { lock n as c { c = (c + 1) } }; join h; lock m as c { print c } }
abbrev pub counted_code : List Instr
counted_code =
    instr.Mutex (constant 0) ∷ instr.Let operand.Pop ∷ instr.Dup (place 0 0) ∷ instr.Let operand.Pop ∷ instr.Spawn (taking 1) 17 ∷ instr.Let operand.Pop ∷ instr.Read (place 2 0) true ∷ instr.Join operand.Pop ∷ instr.Discard
    ∷ instr.Lock (place 0 0) ∷ instr.Read (place 4 0) false ∷ instr.Print operand.Pop ∷ instr.Unlock ∷ instr.DropSlot ∷ instr.DropSlot ∷ instr.DropSlot ∷ instr.End operand.Unit
    ∷ instr.Lock (place 0 0) ∷ instr.Read (place 2 0) false ∷ instr.Arith op.Add operand.Pop (constant 1) ∷ instr.Assign (place 2 0) operand.Pop ∷ instr.Unlock ∷ instr.DropSlot ∷ instr.End operand.Unit ∷ []

-- a thread that prints what its capture refers to or owns
abbrev printing : List Instr
printing = instr.Read (place 0 1) false ∷ instr.Print operand.Pop ∷ instr.DropSlot ∷ instr.End operand.Unit ∷ []

-- { let mut x = box 1; let mut y = box 2; par (x) { print *x } (y) { *y = 3; print *y } }
abbrev handed_code : List Instr
handed_code =
    instr.Box (constant 1) ∷ instr.Let operand.Pop ∷ instr.Box (constant 2) ∷ instr.Let operand.Pop ∷ instr.Par (taking 0) 9 (taking 1) 13 ∷ instr.ParEnd ∷ instr.DropSlot ∷ instr.DropSlot ∷ instr.End operand.Unit ∷ printing
    ++ instr.Assign (place 0 1) (constant 3) ∷ printing

-- { let mut x = box 1; { let mut r = &*x; par (r) { print *r } (r) { print *r } }; *x = 2; { let mut s = &*x; par (s) { print *s } (s) { print *s } } }
abbrev pub shared_code : List Instr
shared_code =
    instr.Box (constant 1) ∷ instr.Let operand.Pop ∷ instr.Borrow (place 0 1) ∷ instr.Let operand.Pop ∷ instr.Par (copying 1) 15 (copying 1) 19 ∷ instr.ParEnd ∷ instr.DropSlot ∷ instr.Assign (place 0 1) (constant 2)
    ∷ instr.Borrow (place 0 1) ∷ instr.Let operand.Pop ∷ instr.Par (copying 1) 23 (copying 1) 27 ∷ instr.ParEnd ∷ instr.DropSlot ∷ instr.DropSlot ∷ instr.End operand.Unit ∷ printing ++ printing ++ printing ++ printing

pub record CodesCompute : Type 0 where
  pub boxed : IsCodeOf boxed_code (program boxed)
  pub inner : IsCodeOf inner_code (program inner)
  pub twice : IsCodeOf twice_code (program twice)
  pub started : IsCodeOf started_code (program moved_in)
  -- mutexes
  pub constant_inside : IsCodeOf constant_code (program constant_inside)
  pub exchanged : IsCodeOf exchanged_code (program exchanged)
  pub counted : IsCodeOf counted_code (program counted)
  -- pairs of threads
  pub handed_over : IsCodeOf handed_code (program handed_over)
  pub twice_shared : IsCodeOf shared_code (program twice_shared)
