-- The codes of some small programs, each written above it.
use Rattle.std.specs.Prelude.{ℕ, pos, Bool, true, false, List, [], ◌∷◌, ◌++◌}
use Rattle.fr_base.specs.declared.place.Lval.{Lval}
use Rattle.fr_base.specs.declared.place.Op.TheVariants as op
use Rattle.fr_base.specs.declared.settings.Options.{Options}
use Rattle.fr_base.specs.declared.instruction.Operand.{Operand}
use Rattle.fr_base.specs.declared.instruction.Operand.TheVariants as operand
use Rattle.fr_base.specs.declared.instruction.Instr.{Instr}
use Rattle.fr_base.specs.declared.instruction.Instr.TheVariants as instr
use Rattle.fr_base.specs.Rooms.{WithRoom}

abbrev pub place : ℕ → ℕ → Lval
place slot depth = record { slot = slot; depth = depth }

abbrev pub number : ℕ → Operand
number n = operand.Const (pos n)

abbrev pub captures : List (ℕ × Bool) → WithRoom (ℕ × Bool)
captures xs = record { items = xs; spare = 0 }

-- so many servers, with so many colours; no definition of an event looks at the other options
abbrev pub with_servers : (servers colours : ℕ) → Options
with_servers servers colours = record { servers = servers; workers = 1; colours = colours; cache = 64; quantum = 16; turns = 1000000; balance = 0; choice = 0; trace = false }

-- let mut x = box n, printing a place, and assigning a number through a star
abbrev pub boxed : ℕ → List Instr
boxed n = instr.Box (number n) ∷ instr.Let operand.Pop ∷ []

abbrev pub printed : Lval → List Instr
printed w = instr.Read w false ∷ instr.Print operand.Pop ∷ []

abbrev pub set : Lval → ℕ → List Instr
set w n = instr.Assign w (number n) ∷ []

abbrev pub dropped : List Instr
dropped = instr.DropSlot ∷ []

abbrev pub over : List Instr
over = instr.End operand.Unit ∷ []

-- { let mut x = box 1; *x = 2; print *x }
abbrev pub written_box : List Instr
written_box = boxed 1 ++ set (place 0 1) 2 ++ printed (place 0 1) ++ dropped ++ over

-- { }
abbrev pub empty : List Instr
empty = over

-- { let mut x = 1; { let mut r = &mut x; *r = 2 }; print x }
abbrev pub lent_slot : List Instr
lent_slot = instr.Let (number 1) ∷ instr.BorrowMut (place 0 0) ∷ instr.Let operand.Pop ∷ set (place 1 1) 2 ++ dropped ++ printed (place 0 0) ++ dropped ++ over

abbrev pub borrowed : Lval → List Instr
borrowed w = instr.Borrow w ∷ instr.Let operand.Pop ∷ []

abbrev pub lent : Lval → List Instr
lent w = instr.BorrowMut w ∷ instr.Let operand.Pop ∷ []

-- let mut h = spawn (first slot, which is moved) { code at that place }
abbrev pub spawned : ℕ → List Instr
spawned body = instr.Spawn (captures ((0, true) ∷ [])) body ∷ instr.Let operand.Pop ∷ []

-- join of the task in that slot
abbrev pub joined : ℕ → List Instr
joined slot = instr.Read (place slot 0) true ∷ instr.Join operand.Pop ∷ []

-- par (slot) .. (slot) ..
abbrev both : ℕ → ℕ → ℕ → List Instr
both slot first second = instr.Par (captures ((slot, false) ∷ [])) first (captures ((slot, false) ∷ [])) second ∷ instr.ParEnd ∷ []

-- { let mut x = box 5; let mut h = spawn (x) { print *x; print *x }; join h }
abbrev pub read_elsewhere : List Instr
read_elsewhere =
    boxed 5 ++ spawned 9 ++ joined 1 ++ dropped ++ dropped ++ instr.End operand.Pop ∷ []
    ++ printed (place 0 1) ++ printed (place 0 1) ++ dropped ++ over

-- { let mut x = box 5; let mut h = spawn (x) { *x = 6; x }; let mut y = join h; print *y }
abbrev pub written_elsewhere : List Instr
written_elsewhere =
    boxed 5 ++ spawned 13 ++ joined 1 ++ instr.Let operand.Pop ∷ printed (place 2 1) ++ dropped ++ dropped ++ dropped ++ over
    ++ set (place 0 1) 6 ++ instr.Read (place 0 0) true ∷ dropped ++ instr.End operand.Pop ∷ []

abbrev pub prints_first : List Instr
prints_first = printed (place 0 1) ++ dropped ++ over

-- { let mut x = box 1; { let mut r = &*x; par (r) { print *r } (r) { print *r } }; *x = 2;
--   { let mut s = &*x; par (s) { print *s } (s) { print *s } } }
abbrev pub read_by_pairs : List Instr
read_by_pairs =
    boxed 1 ++ borrowed (place 0 1) ++ both 1 15 19 ++ dropped ++ set (place 0 1) 2 ++ borrowed (place 0 1) ++ both 1 23 27 ++ dropped ++ dropped ++ over
    ++ prints_first ++ prints_first ++ prints_first ++ prints_first

-- { let mut x = box 0; *x = 1; *x = 2; *x = 3; *x = 4; *x = 5; print *x }
abbrev pub often_written : List Instr
often_written =
    boxed 0 ++ set (place 0 1) 1 ++ set (place 0 1) 2 ++ set (place 0 1) 3 ++ set (place 0 1) 4 ++ set (place 0 1) 5 ++ printed (place 0 1) ++ dropped ++ over

-- { let mut x = box 1; { let mut r = &mut *x; *r = 2; print *r; *r = 3; print *r }; print *x }
abbrev pub lent_box : List Instr
lent_box =
    boxed 1 ++ lent (place 0 1) ++ set (place 1 1) 2 ++ printed (place 1 1) ++ set (place 1 1) 3 ++ printed (place 1 1) ++ dropped ++ printed (place 0 1) ++ dropped ++ over

-- { let mut x = box 1; let mut y = box 2; let mut a = &*x; let mut b = &*y;
--   par (a, b) { print *a; print *b; print (*a + *b) } () { } }
abbrev pub read_two : List Instr
read_two =
    boxed 1 ++ boxed 2 ++ borrowed (place 0 1) ++ borrowed (place 1 1)
    ++ instr.Par (captures ((2, false) ∷ (3, false) ∷ [])) 15 (captures []) 26 ∷ instr.ParEnd ∷ dropped ++ dropped ++ dropped ++ dropped ++ over
    ++ printed (place 0 1) ++ printed (place 1 1) ++ instr.Read (place 0 1) false ∷ instr.Read (place 1 1) false ∷ instr.Arith op.Add operand.Pop operand.Pop ∷ instr.Print operand.Pop ∷ dropped ++ dropped ++ over
    ++ over

-- { let mut m = mutex 1; lock m as a { lock m as b { print b } } }
abbrev pub locked_twice : List Instr
locked_twice =
    instr.Mutex (number 1) ∷ instr.Let operand.Pop ∷ instr.Lock (place 0 0) ∷ instr.Lock (place 0 0) ∷ printed (place 4 0) ++ instr.Unlock ∷ instr.Unlock ∷ dropped ++ over

-- { let mut m = mutex box 7; let mut h = spawn (m) { lock m as c { *c = 8 } }; join h }
abbrev pub locked_elsewhere : List Instr
locked_elsewhere =
    instr.Box (number 7) ∷ instr.Mutex operand.Pop ∷ instr.Let operand.Pop ∷ spawned 10 ++ joined 1 ++ dropped ++ dropped ++ instr.End operand.Pop ∷ []
    ++ instr.Lock (place 0 0) ∷ set (place 2 1) 8 ++ instr.Unlock ∷ dropped ++ over

-- { let mut x = box 1; let mut h = spawn (x) { { let mut r = &mut *x; *r = 2 }; print *x }; join h }
abbrev pub lent_elsewhere : List Instr
lent_elsewhere =
    boxed 1 ++ spawned 9 ++ joined 1 ++ dropped ++ dropped ++ instr.End operand.Pop ∷ []
    ++ lent (place 0 1) ++ set (place 1 1) 2 ++ dropped ++ printed (place 0 1) ++ dropped ++ over

-- { let mut x = box 1; { let mut r = &mut *x; *r = 2 }; print *x }
abbrev pub lent_once : List Instr
lent_once = boxed 1 ++ lent (place 0 1) ++ set (place 1 1) 2 ++ dropped ++ printed (place 0 1) ++ dropped ++ over

-- { let mut x = box 1; let mut r = &mut *x; *r = 2; print *r }
abbrev pub read_dirty : List Instr
read_dirty = boxed 1 ++ lent (place 0 1) ++ set (place 1 1) 2 ++ printed (place 1 1) ++ dropped ++ dropped ++ over

-- { let mut x = box 1; let mut r = &mut *x; *r = 2; { let mut s = &*r; print *s }; *r = 3; print *r }
abbrev pub shared_dirty : List Instr
shared_dirty =
    boxed 1 ++ lent (place 0 1) ++ set (place 1 1) 2 ++ borrowed (place 1 1) ++ printed (place 2 1) ++ dropped ++ set (place 1 1) 3 ++ printed (place 1 1) ++ dropped ++ dropped ++ over

-- { let mut x = box box 1; { let mut r = &mut *x; { let mut y = &mut **r; *y = 2 }; print **r }; print **x }
abbrev pub lent_inside : List Instr
lent_inside =
    instr.Box (number 1) ∷ instr.Box operand.Pop ∷ instr.Let operand.Pop ∷ lent (place 0 1) ++ lent (place 1 2) ++ set (place 2 1) 2 ++ dropped ++ printed (place 1 2) ++ dropped ++ printed (place 0 2) ++ dropped ++ over

-- { let mut x = box 1; let mut r = &mut *x; print *r; *r = 2; let mut s = &mut *r; print *s }
abbrev pub lent_dirty : List Instr
lent_dirty =
    boxed 1 ++ lent (place 0 1) ++ printed (place 1 1) ++ set (place 1 1) 2 ++ lent (place 1 1) ++ printed (place 2 1) ++ dropped ++ dropped ++ dropped ++ over

-- { let mut x = box box 1; let mut y = *x; print *y }
abbrev pub moved_out : List Instr
moved_out =
    instr.Box (number 1) ∷ instr.Box operand.Pop ∷ instr.Let operand.Pop ∷ instr.Read (place 0 1) true ∷ instr.Let operand.Pop ∷ printed (place 1 1) ++ dropped ++ dropped ++ over

-- { let mut m = mutex 1; let mut n = dup m; let mut h = spawn (m) { lock m as a { a = (a + 1) } };
--   lock n as b { b = (b + 10) }; join h; lock n as c { print c } }
abbrev pub counted_up : List Instr
counted_up =
    instr.Mutex (number 1) ∷ instr.Let operand.Pop ∷ instr.Dup (place 0 0) ∷ instr.Let operand.Pop ∷ spawned 22
    ++ instr.Lock (place 1 0) ∷ instr.Read (place 4 0) false ∷ instr.Arith op.Add operand.Pop (number 10) ∷ instr.Assign (place 4 0) operand.Pop ∷ instr.Unlock
    ∷ joined 2 ++ instr.Discard ∷ instr.Lock (place 1 0) ∷ printed (place 4 0) ++ instr.Unlock ∷ dropped ++ dropped ++ dropped ++ over
    ++ instr.Lock (place 0 0) ∷ instr.Read (place 2 0) false ∷ instr.Arith op.Add operand.Pop (number 1) ∷ instr.Assign (place 2 0) operand.Pop ∷ instr.Unlock ∷ dropped ++ over

-- { let mut h = spawn () { box 1 }; print 3 }
abbrev pub task_dropped : List Instr
task_dropped =
    instr.Spawn (captures []) 5 ∷ instr.Let operand.Pop ∷ instr.Print (number 3) ∷ dropped ++ over ++ instr.Box (number 1) ∷ instr.End operand.Pop ∷ []

-- { let mut x = box box 1; let mut h = spawn (x) { **x = 5; print **x }; join h }
abbrev pub written_deep : List Instr
written_deep =
    instr.Box (number 1) ∷ instr.Box operand.Pop ∷ instr.Let operand.Pop ∷ spawned 10 ++ joined 1 ++ dropped ++ dropped ++ instr.End operand.Pop ∷ []
    ++ set (place 0 2) 5 ++ printed (place 0 2) ++ dropped ++ over

-- { let mut x = box 1; let mut y = box 2; { let mut r = &mut *x; *r = 5; r = &mut *y; *r = 6 }; print *x; print *y }
abbrev pub turned : List Instr
turned =
    boxed 1 ++ boxed 2 ++ lent (place 0 1) ++ set (place 2 1) 5 ++ instr.BorrowMut (place 1 1) ∷ instr.Assign (place 2 0) operand.Pop ∷ set (place 2 1) 6 ++ dropped
    ++ printed (place 0 1) ++ printed (place 1 1) ++ dropped ++ dropped ++ over

-- { let mut x = box 1; let mut r = &*x; print *r; print *r; print *r }
abbrev pub read_thrice : List Instr
read_thrice = boxed 1 ++ borrowed (place 0 1) ++ printed (place 1 1) ++ printed (place 1 1) ++ printed (place 1 1) ++ dropped ++ dropped ++ over

-- { let mut x = box box 1; let mut h = spawn (x) { print **x }; join h }
abbrev pub read_deep : List Instr
read_deep =
    instr.Box (number 1) ∷ instr.Box operand.Pop ∷ instr.Let operand.Pop ∷ spawned 10 ++ joined 1 ++ dropped ++ dropped ++ instr.End operand.Pop ∷ []
    ++ printed (place 0 2) ++ dropped ++ over
