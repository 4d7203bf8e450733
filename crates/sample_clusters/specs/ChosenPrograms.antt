-- Programs whose runs are chosen among all enabled events.
use Rattle.std.specs.Prelude.{pos, ℕ, Bool, true, false, List, [], ◌∷◌}
use Rattle.server_model.specs.Below.fr_base.declared.place.Lval.{Lval}
use Rattle.server_model.specs.Below.fr_base.Rooms.{WithRoom}
use Rattle.server_model.specs.Below.fr_base.declared.instruction.Operand.{Operand}
use Rattle.server_model.specs.Below.fr_base.declared.instruction.Operand.TheVariants as operand
use Rattle.server_model.specs.Below.fr_base.declared.instruction.Instr.{Instr}
use Rattle.server_model.specs.Below.fr_base.declared.instruction.Instr.TheVariants as instr

abbrev at_place : ℕ → ℕ → Lval
at_place slot depth = record { slot = slot; depth = depth }

abbrev number : ℕ → Operand
number n = operand.Const (pos n)

abbrev takes_slot : ℕ → WithRoom (ℕ × Bool)
takes_slot slot = record { items = (slot, true) ∷ []; spare = 0 }

abbrev copies_slot : ℕ → WithRoom (ℕ × Bool)
copies_slot slot = record { items = (slot, false) ∷ []; spare = 0 }

abbrev no_slot : WithRoom (ℕ × Bool)
no_slot = record { items = []; spare = 0 }

-- { let mut x = box box 1; { let mut r = &mut *x; { let mut s = &mut **r; *s = 5; print *s; { let mut u = &mut *s; *u = 6 }; print *s }; *r = box 9 };
--   print **x; { let mut h = spawn (x) { **x = 7; *x; () } }; () }
abbrev pub lent_deep : List Instr
lent_deep =
    instr.Box (number 1) ∷ instr.Box operand.Pop ∷ instr.Let operand.Pop
    ∷ instr.BorrowMut (at_place 0 1) ∷ instr.Let operand.Pop ∷ instr.BorrowMut (at_place 1 2) ∷ instr.Let operand.Pop
    ∷ instr.Assign (at_place 2 1) (number 5) ∷ instr.Read (at_place 2 1) false ∷ instr.Print operand.Pop
    ∷ instr.BorrowMut (at_place 2 1) ∷ instr.Let operand.Pop ∷ instr.Assign (at_place 3 1) (number 6) ∷ instr.DropSlot ∷ instr.Read (at_place 2 1) false ∷ instr.Print operand.Pop
    ∷ instr.DropSlot ∷ instr.Box (number 9) ∷ instr.Assign (at_place 1 1) operand.Pop ∷ instr.DropSlot ∷ instr.Read (at_place 0 2) false ∷ instr.Print operand.Pop
    ∷ instr.Spawn (takes_slot 0) 27 ∷ instr.Let operand.Pop ∷ instr.DropSlot ∷ instr.DropSlot ∷ instr.End operand.Unit
    ∷ instr.Assign (at_place 0 2) (number 7) ∷ instr.Read (at_place 0 1) true ∷ instr.Discard ∷ instr.DropSlot ∷ instr.End operand.Unit ∷ []

-- { let mut m = mutex box 1; let mut a = dup m; let mut h = spawn (a) { lock a as c { *c = 8 }; a }; lock m as d { *d = 3; print *d };
--   let mut b = join h; () }
abbrev pub locked_by_two : List Instr
locked_by_two =
    instr.Box (number 1) ∷ instr.Mutex operand.Pop ∷ instr.Let operand.Pop ∷ instr.Dup (at_place 0 0) ∷ instr.Let operand.Pop ∷ instr.Spawn (takes_slot 1) 20 ∷ instr.Let operand.Pop
    ∷ instr.Lock (at_place 0 0) ∷ instr.Assign (at_place 4 1) (number 3) ∷ instr.Read (at_place 4 1) false ∷ instr.Print operand.Pop ∷ instr.Unlock
    ∷ instr.Read (at_place 2 0) true ∷ instr.Join operand.Pop ∷ instr.Let operand.Pop ∷ instr.DropSlot ∷ instr.DropSlot ∷ instr.DropSlot ∷ instr.DropSlot ∷ instr.End operand.Unit
    ∷ instr.Lock (at_place 0 0) ∷ instr.Assign (at_place 2 1) (number 8) ∷ instr.Unlock ∷ instr.Read (at_place 0 0) true ∷ instr.DropSlot ∷ instr.End operand.Pop ∷ []

-- { let mut x = box box 4; { let mut r = &*x; par (r) { let mut s = &**r; par (s) { print *s } () { }; print **r } (r) { print **r } }; **x = 5 }
abbrev pub viewed_twice : List Instr
viewed_twice =
    instr.Box (number 4) ∷ instr.Box operand.Pop ∷ instr.Let operand.Pop ∷ instr.Borrow (at_place 0 1) ∷ instr.Let operand.Pop
    ∷ instr.Par (copies_slot 1) 11 (copies_slot 1) 20 ∷ instr.ParEnd ∷ instr.DropSlot ∷ instr.Assign (at_place 0 2) (number 5) ∷ instr.DropSlot ∷ instr.End operand.Unit
    ∷ instr.Borrow (at_place 0 2) ∷ instr.Let operand.Pop ∷ instr.Par (copies_slot 1) 24 no_slot 28 ∷ instr.ParEnd ∷ instr.Read (at_place 0 2) false ∷ instr.Print operand.Pop
    ∷ instr.DropSlot ∷ instr.DropSlot ∷ instr.End operand.Unit
    ∷ instr.Read (at_place 0 2) false ∷ instr.Print operand.Pop ∷ instr.DropSlot ∷ instr.End operand.Unit
    ∷ instr.Read (at_place 0 1) false ∷ instr.Print operand.Pop ∷ instr.DropSlot ∷ instr.End operand.Unit
    ∷ instr.End operand.Unit ∷ []

-- { let mut x = box mutex box 1; let mut m = dup *x; { let mut h = spawn (x) { lock *x as c { *c = 8; print *c } }; lock m as d { *d = 3 } } }
abbrev pub locked_in_box : List Instr
locked_in_box =
    instr.Box (number 1) ∷ instr.Mutex operand.Pop ∷ instr.Box operand.Pop ∷ instr.Let operand.Pop ∷ instr.Dup (at_place 0 1) ∷ instr.Let operand.Pop
    ∷ instr.Spawn (takes_slot 0) 15 ∷ instr.Let operand.Pop ∷ instr.Lock (at_place 1 0) ∷ instr.Assign (at_place 4 1) (number 3) ∷ instr.Unlock
    ∷ instr.DropSlot ∷ instr.DropSlot ∷ instr.DropSlot ∷ instr.End operand.Unit
    ∷ instr.Lock (at_place 0 1) ∷ instr.Assign (at_place 2 1) (number 8) ∷ instr.Read (at_place 2 1) false ∷ instr.Print operand.Pop ∷ instr.Unlock ∷ instr.DropSlot ∷ instr.End operand.Unit ∷ []
