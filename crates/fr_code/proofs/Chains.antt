-- A table whose entries lead each to the next: of code without jumps.
use Rattle.std.proofs.Common.{◌≡◌, ℕ, zero, suc, ◌+◌, List, [], ◌∷◌, Option, Some, None, refl, sym, ap, ◌∙◌, subst, arith}
use Rattle.std.specs.Prelude.{slice_get}
use Rattle.fr_sound.specs.Below.fr_base.declared.instruction.Operand.{Operand}
use Rattle.fr_sound.specs.Below.fr_base.declared.instruction.Instr.{Instr}
use Rattle.fr_sound.specs.Below.fr_base.declared.instruction.Instr.TheVariants as instr
use Rattle.fr_sound.specs.Below.fr_typing.Kinds.{Owned, Kind, own}
use Rattle.fr_code.specs.CodeTypes.{Entry, going, Table, table_of, Takes, InstrTypes}
use Rattle.fr_code.specs.Joins.{alone}
use Rattle.fr_code.specs.CodeTable.{to_next, ends, Row, IsTable}

-- an instruction leads from its entry to the next one, or ends its thread
pub data Link (table : Table) : Entry → Instr → Option Entry → Type 0 where
  leads : {x y : Entry} {i : Instr} → InstrTypes table x i y → Link table x i (Some y)
  stops : {ts : List Kind} {g : Owned} {o : Operand} {next : Option Entry} → Takes o ts (own g) [] → Link table (going [] ts g) (instr.End o) next

abbrev pub first : List Entry → Option Entry
first [] = None
first (x ∷ xs) = Some x

-- each instruction has one entry, and each entry an instruction
abbrev pub Chain : Table → List Instr → List Entry → Type 0
Chain table [] [] = Unit {0}
Chain table (i ∷ is) (x ∷ xs) = Link table x i (first xs) × Chain table is xs
Chain table _ _ = ⊥

first_is : (xs : List Entry) → slice_get xs 0 ≡ first xs
first_is [] = refl
first_is (x ∷ xs) = refl

-- the link at a place
link_at : (table : Table) (is : List Instr) (xs : List Entry) (n : ℕ) (x : Entry) → Chain table is xs → slice_get xs n ≡ Some x → (i : Instr) × (slice_get is n ≡ Some i) × Link table x i (slice_get xs (suc n))
link_at table [] [] n x c e = absurd cc
link_at table [] (y ∷ xs) n x c e = absurd c
link_at table (i ∷ is) [] n x c e = absurd c
link_at table (i ∷ is) (y ∷ xs) zero x c e =
    let f : y ≡ x = cc in
    (i, refl, subst (λ z. Link table z i (slice_get xs 0)) f (subst (Link table y i) (sym (first_is xs)) c.0))
link_at table (i ∷ is) (y ∷ xs) (suc n) x c e = link_at table is xs n x c.1 e

module _ (code : List Instr) (xs : List Entry) where
  row_of : (n : ℕ) (x : Entry) (i : Instr) (o : Option Entry) → slice_get code n ≡ Some i → slice_get xs (n + 1) ≡ o → Link (table_of xs) x i o → Row code (table_of xs) n x
  row_of n x i o at next (leads {y = y} t) = record { instruction = i; there = at; successors = (n + 1, y) ∷ []; leads = to_next t; enter = (record { entry = y; at = next; joins = alone }, tt) }
  row_of n x i o at next (stops t) = record { instruction = i; there = at; successors = []; leads = ends t; enter = tt }

  plus_one : (n : ℕ) → n + 1 ≡ suc n
  plus_one n = omega arith

  -- such entries are a table of the code
  pub chained : (main : Owned) → first xs ≡ Some (going [] [] main) → Chain (table_of xs) code xs → IsTable code (table_of xs)
  chained main starts c = record {
    main = main;
    starts = first_is xs ∙ starts;
    rows = λ n x e.
        let l = link_at (table_of xs) code xs n x c e in
        row_of n x l.0 (slice_get xs (suc n)) l.1 (ap (slice_get xs) (plus_one n)) l.2;
  }
