-- The codes of some programs that mix borrows, threads and mutexes, each written above it.
use Rattle.std.specs.Prelude.{ℕ, true, false, List, [], ◌∷◌, ◌++◌}
use Rattle.fr_base.specs.declared.place.Op.TheVariants as op
use Rattle.fr_base.specs.declared.instruction.Operand.TheVariants as operand
use Rattle.fr_base.specs.declared.instruction.Instr.{Instr}
use Rattle.fr_base.specs.declared.instruction.Instr.TheVariants as instr
use Rattle.server_model.specs.Programs.{place, number, captures, boxed, printed, set, dropped, over, borrowed, lent, joined, prints_first}

-- let mut x = box box n
abbrev boxed_twice : ℕ → List Instr
boxed_twice n = instr.Box (number n) ∷ instr.Box operand.Pop ∷ instr.Let operand.Pop ∷ []

-- a number more at a place
abbrev raised : ℕ → ℕ → ℕ → List Instr
raised slot stars n = instr.Read (place slot stars) false ∷ instr.Arith op.Add operand.Pop (number n) ∷ instr.Assign (place slot stars) operand.Pop ∷ []

-- { let mut x = box box 1; { let mut r = &mut *x; { let mut s = &mut *r; *s = box 4;
--   { let mut t = &mut **s; *t = (*t + 1) }; print **s }; print **r }; print **x }
abbrev pub lent_on : List Instr
lent_on =
    boxed_twice 1 ++ lent (place 0 1) ++ lent (place 1 1) ++ instr.Box (number 4) ∷ instr.Assign (place 2 1) operand.Pop ∷ lent (place 2 2) ++ raised 3 1 1 ++ dropped
    ++ printed (place 2 2) ++ dropped ++ printed (place 1 2) ++ dropped ++ printed (place 0 2) ++ dropped ++ over

abbrev raises : ℕ → List Instr
raises n = instr.Lock (place 0 0) ∷ raised 2 1 n ++ instr.Unlock ∷ dropped ++ over

-- { let mut m = mutex box 1; let mut a = dup m; let mut b = dup m; let mut h = spawn (a) { lock a as c { *c = (*c + 1) } };
--   let mut k = spawn (b) { lock b as c { *c = (*c + 10) } }; join h; join k; lock m as c { print *c } }
abbrev pub raised_by_two : List Instr
raised_by_two =
    instr.Box (number 1) ∷ instr.Mutex operand.Pop ∷ instr.Let operand.Pop ∷ instr.Dup (place 0 0) ∷ instr.Let operand.Pop ∷ instr.Dup (place 0 0) ∷ instr.Let operand.Pop
    ∷ instr.Spawn (captures ((1, true) ∷ [])) 27 ∷ instr.Let operand.Pop ∷ instr.Spawn (captures ((2, true) ∷ [])) 34 ∷ instr.Let operand.Pop
    ∷ joined 3 ++ instr.Discard ∷ joined 4 ++ instr.Discard ∷ instr.Lock (place 0 0) ∷ printed (place 6 1) ++ instr.Unlock ∷ dropped ++ dropped ++ dropped ++ dropped ++ dropped ++ over
    ++ raises 1 ++ raises 10

abbrev prints_deep : List Instr
prints_deep = printed (place 0 2) ++ dropped ++ over

-- { let mut x = box box 3; { let mut r = &*x; par (r) { par (r) { print **r } (r) { print **r } } () { } }; *x = box 4; print **x }
abbrev pub pair_in_pair : List Instr
pair_in_pair =
    boxed_twice 3 ++ borrowed (place 0 1) ++ instr.Par (captures ((1, false) ∷ [])) 14 (captures []) 18 ∷ instr.ParEnd ∷ dropped ++ instr.Box (number 4) ∷ instr.Assign (place 0 1) operand.Pop ∷ printed (place 0 2) ++ dropped ++ over
    ++ instr.Par (captures ((0, false) ∷ [])) 19 (captures ((0, false) ∷ [])) 23 ∷ instr.ParEnd ∷ dropped ++ over ++ over ++ prints_deep ++ prints_deep

-- { let mut h = spawn () { box box 2 }; let mut g = spawn (h) { let mut y = join h; **y = (**y + 5); y }; let mut z = join g; print **z }
abbrev pub result_on : List Instr
result_on =
    instr.Spawn (captures []) 13 ∷ instr.Let operand.Pop ∷ instr.Spawn (captures ((0, true) ∷ [])) 16 ∷ instr.Let operand.Pop ∷ joined 1 ++ instr.Let operand.Pop ∷ printed (place 2 2) ++ dropped ++ dropped ++ dropped ++ over
    ++ instr.Box (number 2) ∷ instr.Box operand.Pop ∷ instr.End operand.Pop ∷ joined 0 ++ instr.Let operand.Pop ∷ raised 1 2 5 ++ instr.Read (place 1 0) true ∷ dropped ++ dropped ++ instr.End operand.Pop ∷ []

-- { let mut x = box box 1; let mut y = *x; *x = box 9; *y = 7; print *y; print **x }
abbrev pub filled_again : List Instr
filled_again =
    boxed_twice 1 ++ instr.Read (place 0 1) true ∷ instr.Let operand.Pop ∷ instr.Box (number 9) ∷ instr.Assign (place 0 1) operand.Pop ∷ set (place 1 1) 7
    ++ printed (place 1 1) ++ printed (place 0 2) ++ dropped ++ dropped ++ over

-- { let mut x = box 1; let mut r = &mut *x; *r = 2; { let mut s = &*r; par (s) { print *s } (s) { print *s } }; *r = 3;
--   { let mut s = &*r; par (s) { print *s } () { } }; print *r }
abbrev pub shared_in_turns : List Instr
shared_in_turns =
    boxed 1 ++ lent (place 0 1) ++ set (place 1 1) 2 ++ borrowed (place 1 1) ++ instr.Par (captures ((2, false) ∷ [])) 21 (captures ((2, false) ∷ [])) 25 ∷ instr.ParEnd ∷ dropped ++ set (place 1 1) 3
    ++ borrowed (place 1 1) ++ instr.Par (captures ((2, false) ∷ [])) 29 (captures []) 33 ∷ instr.ParEnd ∷ dropped ++ printed (place 1 1) ++ dropped ++ dropped ++ over
    ++ prints_first ++ prints_first ++ prints_first ++ over

-- { let mut x = box 1; { let mut r = &mut x; *r = box 2; **r = 3; { let mut s = &mut **r; *s = 4 } }; print *x }
abbrev pub lent_through_slot : List Instr
lent_through_slot =
    boxed 1 ++ lent (place 0 0) ++ instr.Box (number 2) ∷ instr.Assign (place 1 1) operand.Pop ∷ set (place 1 2) 3 ++ lent (place 1 2) ++ set (place 2 1) 4 ++ dropped ++ dropped ++ printed (place 0 1) ++ dropped ++ over

-- { let mut m = mutex mutex box 1; let mut h = spawn () { mutex box 2 }; print 1 }
abbrev pub all_dropped : List Instr
all_dropped =
    instr.Box (number 1) ∷ instr.Mutex operand.Pop ∷ instr.Mutex operand.Pop ∷ instr.Let operand.Pop ∷ instr.Spawn (captures []) 10 ∷ instr.Let operand.Pop ∷ instr.Print (number 1) ∷ dropped ++ dropped ++ over
    ++ instr.Box (number 2) ∷ instr.Mutex operand.Pop ∷ instr.End operand.Pop ∷ []
