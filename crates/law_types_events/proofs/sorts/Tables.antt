-- In the table of a code the temporary values below the top are integers at each entry: an instruction that adds one, or takes the top, says it of those below, each other
-- one leaves them as they are, and no code ends with such an instruction.
use Rattle.std.proofs.Common.{◌≡◌, ℕ, zero, suc, ◌+◌, ◌≤◌, Bool, true, false, ◌&&◌, if◌then◌else◌, List, [], ◌∷◌, length, Option, Some, None, refl, sym, ap, ◌∙◌, arith}
use Rattle.std.specs.Prelude.{slice_get}
use Rattle.law_types_still.specs.Below.fr_base.declared.instruction.Instr.{Instr}
use Rattle.law_types_still.specs.Below.fr_base.declared.instruction.Operand.{Operand}
use Rattle.law_types_still.specs.Below.fr_typing.Kinds.{Owned, unit, int, box, mutex, task, same_owned, Kind, own, shared, mutable, view, SetTest, union, join_kind}
use Rattle.law_types_still.specs.Below.fr_typing.Places.{alike}
use Rattle.law_types_still.specs.Below.fr_typing.Checks.{is_int}
use Rattle.law_types_still.specs.Below.fr_code.CodeTypes.{Entry, Table, wait, Takes, takes_const, takes_unit, takes_pop, InstrTypes, i_let, i_assign, i_copy, i_move, i_borrow, i_borrow_mut, i_box, i_arith, i_print, i_discard, i_drop, i_spawn, i_join, i_mutex, i_dup, i_lock, i_unlock, i_par, i_par_end}
use Rattle.law_types_still.specs.Below.fr_code.CodeTable.{Leads, to_next, ends, AllEnter, Successors, IsTable}
use Rattle.law_types_still.specs.Below.fr_code.Joins.{and_temp, join_temps, JoinsTo, alone, first, second}

-- those below the top
abbrev pub below_top : List Kind → List Kind
below_top [] = []
below_top (k ∷ ks) = ks

abbrev pub LowInts : List Kind → Type 0
LowInts ts = wait (below_top ts) ≡ true

and_first : (a b : Bool) → a && b ≡ true → a ≡ true
and_first true b e = refl
and_first false b e = absurd cc

and_second : (a b : Bool) → a && b ≡ true → b ≡ true
and_second true b e = e
and_second false b e = absurd cc

and_both : (a b : Bool) → a ≡ true → b ≡ true → a && b ≡ true
and_both true b e f = f
and_both false b e f = absurd cc

-- where all are integers, so are those below the top
pub wait_low : (ts : List Kind) → wait ts ≡ true → LowInts ts
wait_low [] w = refl
wait_low (k ∷ ts) w = and_second (is_int k) (wait ts) w

-- OPERANDS

takes_low : {o : Operand} {ts us : List Kind} {k : Kind} → Takes o ts k us → LowInts ts
takes_low {ts = ts} (takes_const w) = wait_low ts w
takes_low {ts = ts} (takes_unit w) = wait_low ts w
takes_low (takes_pop w) = w

-- INSTRUCTIONS

-- before an instruction they are integers, where they are afterwards
step_low : (table : Table) (x : Entry) (i : Instr) (y : Entry) → InstrTypes table x i y → LowInts y.temps → LowInts x.temps
step_low table _ _ _ (i_let x t new) low = takes_low t
step_low table _ _ _ (i_assign t has may kept shape below) low = takes_low t
step_low table _ _ _ (i_copy {ts = ts} w has twice free) low = wait_low ts w
step_low table _ _ _ (i_move {ts = ts} w has once free path) low = wait_low ts w
step_low table _ _ _ (i_borrow {ts = ts} w has free) low = wait_low ts w
step_low table _ _ _ (i_borrow_mut {ts = ts} w has may) low = wait_low ts w
step_low table _ _ _ (i_box t full) low = takes_low t
step_low table _ _ _ (i_arith t u) low = takes_low t
step_low table _ _ _ (i_print t) low = takes_low t
step_low table _ _ _ (i_discard t) low = takes_low t
step_low table _ _ _ (i_drop named locked lives) low = low
step_low table _ _ _ (i_spawn {ts = ts} w pass body full) low = wait_low ts w
step_low table _ _ _ (i_join t) low = takes_low t
step_low table _ _ _ (i_mutex t full) low = takes_low t
step_low table _ _ _ (i_dup {ts = ts} w has free) low = wait_low ts w
step_low table _ _ _ (i_lock {ts = ts} name w has free new) low = wait_low ts w
step_low table _ _ _ (i_unlock owned) low = low
step_low table _ _ _ (i_par {ts = ts} w a b one two) low = wait_low ts w
step_low table _ _ _ i_par_end low = low

-- JOINS

-- a join that is an integer is one of integers
int_join : (same : SetTest) (k l r : Kind) → join_kind same k l ≡ Some r → is_int r ≡ true → (is_int k ≡ true) × (is_int l ≡ true)
int_join same (own a) (own b) r j i = by a b (same_owned a b) refl j
  where
    of : (a b : Owned) → same_owned a b ≡ true → own a ≡ r → (is_int (own a) ≡ true) × (is_int (own b) ≡ true)
    of int int e f = (refl, refl)
    of int unit e f = absurd cc
    of int (box b) e f = absurd cc
    of int (mutex b) e f = absurd cc
    of int (task b) e f = absurd cc
    of unit b e f = let z : is_int (own unit) ≡ true = ap is_int f ∙ i in absurd cc
    of (box a) b e f = let z : is_int (own (box a)) ≡ true = ap is_int f ∙ i in absurd cc
    of (mutex a) b e f = let z : is_int (own (mutex a)) ≡ true = ap is_int f ∙ i in absurd cc
    of (task a) b e f = let z : is_int (own (task a)) ≡ true = ap is_int f ∙ i in absurd cc

    by : (a b : Owned) (t : Bool) → same_owned a b ≡ t → (if t then Some (own a) else None) ≡ Some r → (is_int (own a) ≡ true) × (is_int (own b) ≡ true)
    by a b true e f = of a b e cc
    by a b false e f = absurd cc
int_join same (view a) (view b) r j i = by (same_owned a b) j
  where
    by : (t : Bool) → (if t then Some (view a) else None) ≡ Some r → (is_int (view a) ≡ true) × (is_int (view b) ≡ true)
    by true f = let z : view a ≡ r = cc in let w : is_int (view a) ≡ true = ap is_int z ∙ i in absurd cc
    by false f = absurd cc
int_join same (shared us) (shared vs) r j i = by (same us vs) j
  where
    by : (t : Bool) → (if t then Some (shared (union us vs)) else None) ≡ Some r → (is_int (shared us) ≡ true) × (is_int (shared vs) ≡ true)
    by true f = let z : shared (union us vs) ≡ r = cc in let w : is_int (shared (union us vs)) ≡ true = ap is_int z ∙ i in absurd cc
    by false f = absurd cc
int_join same (mutable us) (mutable vs) r j i = by (same us vs) j
  where
    by : (t : Bool) → (if t then Some (mutable (union us vs)) else None) ≡ Some r → (is_int (mutable us) ≡ true) × (is_int (mutable vs) ≡ true)
    by true f = let z : mutable (union us vs) ≡ r = cc in let w : is_int (mutable (union us vs)) ≡ true = ap is_int z ∙ i in absurd cc
    by false f = absurd cc
int_join same _ _ r j i = absurd cc

-- the join of two with something on top
record Topped (same : SetTest) (k l : Kind) (ks ls zs : List Kind) : Type 0 where
  top : Kind
  rest : List Kind
  is : zs ≡ top ∷ rest
  kinds : join_kind same k l ≡ Some top
  rests : join_temps same ks ls ≡ Some rest

topped : (same : SetTest) (k l : Kind) (ks ls zs : List Kind) → join_temps same (k ∷ ks) (l ∷ ls) ≡ Some zs → Topped same k l ks ls zs
topped same k l ks ls zs j = by (join_kind same k l) (join_temps same ks ls) refl refl j
  where
    by : (a : Option Kind) (b : Option (List Kind)) → join_kind same k l ≡ a → join_temps same ks ls ≡ b → and_temp a b ≡ Some zs → Topped same k l ks ls zs
    by None b e f h = absurd cc
    by (Some a) None e f h = absurd cc
    by (Some a) (Some b) e f h = record { top = a; rest = b; is = cc; kinds = e; rests = f }

-- where all of a join are integers, all are of both
wait_join : (same : SetTest) (ks ls zs : List Kind) → join_temps same ks ls ≡ Some zs → wait zs ≡ true → (wait ks ≡ true) × (wait ls ≡ true)
wait_join same [] [] zs j w = (refl, refl)
wait_join same [] (l ∷ ls) zs j w = absurd cc
wait_join same (k ∷ ks) [] zs j w = absurd cc
wait_join same (k ∷ ks) (l ∷ ls) zs j w =
    let t = topped same k l ks ls zs j in
    let all : is_int t.top && wait t.rest ≡ true = sym (ap wait t.is) ∙ w in
    let one = int_join same k l t.top t.kinds (and_first (is_int t.top) (wait t.rest) all) in
    let more = wait_join same ks ls t.rest t.rests (and_second (is_int t.top) (wait t.rest) all) in
    (and_both (is_int k) (wait ks) one.0 more.0, and_both (is_int l) (wait ls) one.1 more.1)

low_join : (same : SetTest) (ks ls zs : List Kind) → join_temps same ks ls ≡ Some zs → LowInts zs → LowInts ks × LowInts ls
low_join same [] [] zs j w = (refl, refl)
low_join same [] (l ∷ ls) zs j w = absurd cc
low_join same (k ∷ ks) [] zs j w = absurd cc
low_join same (k ∷ ks) (l ∷ ls) zs j w =
    let t = topped same k l ks ls zs j in
    wait_join same ks ls t.rest t.rests (sym (ap (λ ts. wait (below_top ts)) t.is) ∙ w)

joined_low : (x y : Entry) → JoinsTo x y → LowInts y.temps → LowInts x.temps
joined_low _ _ alone low = low
joined_low x y (first other j) low = (low_join (alike y.env) x.temps other.temps y.temps j.temps low).0
joined_low x y (second other j) low = (low_join (alike y.env) other.temps x.temps y.temps j.temps low).1

-- THE TABLE

off_end : {X : Type 0} (xs : List X) (n : ℕ) (x : X) → length xs ≤ n → slice_get xs n ≡ Some x → ⊥
off_end [] n x l e = cc
off_end (y ∷ xs) zero x l e = omega (arith, l)
off_end (y ∷ xs) (suc n) x l e = off_end xs n x (omega (arith, l)) e

module _ (code : List Instr) (table : Table) (is : IsTable code table) where
  lead_low : (pc : ℕ) (x : Entry) (i : Instr) (ss : Successors) → ((y : Entry) → table (pc + 1) ≡ Some y → LowInts y.temps) → Leads table pc x i ss → AllEnter table ss → LowInts x.temps
  lead_low pc x i _ go (to_next {y = y} t) into = let next = into.0 in step_low table x i y t (joined_low y next.entry next.joins (go next.entry next.at))
  lead_low pc _ _ _ go (ends t) into = takes_low t

  low_from : (left pc : ℕ) (x : Entry) → length code ≤ left + pc → table pc ≡ Some x → LowInts x.temps
  low_from zero pc x le known = let row = is.rows pc x known in absurd (off_end code pc row.instruction (omega (arith, le)) row.there)
  low_from (suc left) pc x le known =
      let row = is.rows pc x known in lead_low pc x row.instruction row.successors (λ y at. low_from left (pc + 1) y (omega (arith, le)) at) row.leads row.enter

  -- at each entry
  pub low_ints : (pc : ℕ) (x : Entry) → table pc ≡ Some x → LowInts x.temps
  low_ints pc x known = low_from (length code) pc x (omega arith) known
