-- Typed lines of code: instruction after instruction, with what typing knows before each, and with the threads that they start.
use Rattle.std.proofs.Common.{◌≡◌, ℕ, ℤ, ◌+◌, true, List, [], ◌∷◌, Some, sym, subst}
use Rattle.std.specs.Prelude.{⊤, slice_get}
use Rattle.fr_base.specs.declared.instruction.Operand.{Operand}
use Rattle.fr_base.specs.declared.instruction.Operand.TheVariants as operand
use Rattle.fr_base.specs.declared.instruction.Instr.{Instr}
use Rattle.fr_base.specs.declared.instruction.Instr.TheVariants as instr
use Rattle.fr_typing.specs.Kinds.{Owned, unit, int, Kind, own}
use Rattle.fr_typing.specs.Places.{Env}
use Rattle.fr_code.specs.CodeTypes.{Entry, going, Table, wait, Takes, takes_const, takes_unit, takes_pop, InstrTypes}
use Rattle.law_plain_table.specs.Layout.{bodies_of}

-- a thread's start: its first instruction, its slots, and the type of its result
pub record Start : Type 0 where
  pub at : ℕ
  pub env : Env
  pub gives : Owned

abbrev pub first_entry : Start → Entry
first_entry s = going s.env [] s.gives

abbrev pub places : List Start → List ℕ
places [] = []
places (s ∷ ss) = s.at ∷ places ss

-- the table has their first entries
abbrev pub AllStart : Table → List Start → Type 0
AllStart table [] = ⊤
AllStart table (s ∷ ss) = (table s.at ≡ Some (first_entry s)) × AllStart table ss

mutual
  -- from an instruction with its entry to another with its
  pub data Line (code : List Instr) : ℕ → Entry → ℕ → Entry → Type 0 where
    stays : {p : ℕ} {x : Entry} → Line code p x p x
    goes : {p q : ℕ} {x y z : Entry} (i : Instr) (ss : List Start) → slice_get code p ≡ Some i → places ss ≡ bodies_of i → ((table : Table) → AllStart table ss → InstrTypes table x i y) → Threads code ss → Line code (p + 1) y q z → Line code p x q z

  -- whole threads: each has a line to its end
  pub data Threads (code : List Instr) : List Start → Type 0 where
    no_thread : Threads code []
    a_thread : {ss : List Start} {ts : List Kind} {o : Operand} (s : Start) (to : ℕ) → Line code s.at (first_entry s) to (going [] ts s.gives) → slice_get code to ≡ Some (instr.End o) → Takes o ts (own s.gives) [] → Threads code ss → Threads code (s ∷ ss)

-- one line behind another
pub then_line : {code : List Instr} {p q r : ℕ} {x y z : Entry} → Line code p x q y → Line code q y r z → Line code p x r z
then_line stays m = m
then_line (goes i ss at same types threads l) m = goes i ss at same types threads (then_line l m)

-- a line of one instruction, with the threads that it starts
pub one_with : {code : List Instr} {p q : ℕ} {x y : Entry} (i : Instr) (ss : List Start) → slice_get code p ≡ Some i → places ss ≡ bodies_of i → ((table : Table) → AllStart table ss → InstrTypes table x i y) → Threads code ss → q ≡ p + 1 → Line code p x q y
one_with {code = code} {p = p} {x = x} {y = y} i ss at same types threads e = subst (λ n. Line code p x n y) (sym e) (goes i ss at same types threads stays)

-- of one that starts none
pub one : {code : List Instr} {p q : ℕ} {x y : Entry} (i : Instr) → slice_get code p ≡ Some i → bodies_of i ≡ [] → ((table : Table) → InstrTypes table x i y) → q ≡ p + 1 → Line code p x q y
one i at none types e = one_with i [] at (sym none) (λ table s. types table) no_thread e

-- a line of none
pub none_more : {code : List Instr} {p q : ℕ} {x : Entry} → q ≡ p → Line code p x q x
none_more {code = code} {p = p} {x = x} e = subst (λ n. Line code p x n x) (sym e) stays

-- VALUES

-- what a value adds to the temporary values, by where it is found
abbrev pub push : Operand → Kind → List Kind → List Kind
push operand.Pop k ts = k ∷ ts
push (operand.Const n) k ts = ts
push operand.Unit k ts = ts

-- a constant is of its type
pub data Gives : Operand → Kind → Type 0 where
  gives_const : {n : ℤ} → Gives (operand.Const n) (own int)
  gives_unit : Gives operand.Unit (own unit)
  gives_pop : {k : Kind} → Gives operand.Pop k

-- it is taken again
pub taken : {o : Operand} {k : Kind} (ts : List Kind) → Gives o k → wait ts ≡ true → Takes o (push o k ts) k ts
taken ts gives_const w = takes_const w
taken ts gives_unit w = takes_unit w
taken ts gives_pop w = takes_pop w

-- code of a typed term: a line to where its value is found
pub record Emits (code : List Instr) (p : ℕ) (e : Env) (ts : List Kind) (g : Owned) (q : ℕ) (f : Env) (o : Operand) (k : Kind) : Type 0 where
  pub line : Line code p (going e ts g) q (going f (push o k ts) g)
  pub value : Gives o k
