-- The steps of compiled code (this project's rule): what an instruction does with the values of its operands, and where its
-- thread is then.
use Rattle.std.specs.Prelude.{ℕ, ◌+◌, Bool, true, false, List, [], ◌∷◌, Option, Some, None, slice_get}
use Rattle.fr_sound.specs.Below.fr_base.declared.label.Plain.TheVariants as plain
use Rattle.fr_sound.specs.Below.fr_base.declared.instruction.Operand.{Operand}
use Rattle.fr_sound.specs.Below.fr_base.declared.instruction.Operand.TheVariants as operand
use Rattle.fr_sound.specs.Below.fr_base.declared.instruction.Instr.{Instr}
use Rattle.fr_sound.specs.Below.fr_base.declared.instruction.Instr.TheVariants as instr
use Rattle.fr_sound.specs.Below.fr_plain.declared.value.Value.{Value}
use Rattle.fr_sound.specs.Below.fr_plain.declared.value.Value.TheVariants.{Own}
use Rattle.fr_sound.specs.Below.fr_plain.MachineActs.{Capture, Act, do_let, do_read, do_borrow, do_assign, do_box, do_arith, do_print, do_discard, do_drop, do_spawn, do_join, do_mutex, do_dup, do_lock, do_unlock, do_par, do_par_end, unit}
use Rattle.fr_sound.specs.Below.fr_plain.MachineThreads.{Now, going, constant, temporary, Move, Moves}

-- a place of a thread in the code: its next instruction, and its temporary values, the last one first
pub record Place : Type 0 where
  pub pc : ℕ
  pub temps : List Value

-- a new thread has the place of its code
abbrev pub CodeAct : Type 0
CodeAct = Act Place

abbrev pub CodeMove : Type 0
CodeMove = Move Place Place

abbrev pub captured : List (ℕ × Bool) → List Capture
captured [] = []
captured (x ∷ xs) = record { slot = x.0; take = x.1 } ∷ captured xs

-- an operand's value, and the temporary values that are left
abbrev pub with_operand : Operand → List Value → (Value → List Value → Option CodeMove) → Option CodeMove
with_operand (operand.Const n) ts go = go (Own (plain.Int n)) ts
with_operand operand.Unit ts go = go unit ts
with_operand operand.Pop [] go = None
with_operand operand.Pop (v ∷ ts) go = go v ts

abbrev pub went : (Value → ℕ) → (Value → List Value) → CodeAct → Option CodeMove
went at ts a = Some (record { act = a; plug = λ v. record { pc = at v; temps = ts v } })

-- the act leaves no temporary value
abbrev pub quiet : ℕ → List Value → CodeAct → Option CodeMove
quiet pc ts a = went (λ v. pc) (λ v. ts) a

-- the act's value is a temporary value
abbrev pub loud : ℕ → List Value → CodeAct → Option CodeMove
loud pc ts a = went (λ v. pc) (λ v. v ∷ ts) a

-- of two operands that are popped the right one is on top
abbrev pub run_instr : Option Instr → ℕ → List Value → Option CodeMove
run_instr None pc ts = None
run_instr (Some (instr.Let o)) pc ts = with_operand o ts (λ v us. quiet (pc + 1) us (do_let v))
run_instr (Some (instr.Assign w o)) pc ts = with_operand o ts (λ v us. quiet (pc + 1) us (do_assign w v))
run_instr (Some (instr.Read w take)) pc ts = loud (pc + 1) ts (do_read w take)
run_instr (Some (instr.Borrow w)) pc ts = loud (pc + 1) ts (do_borrow w false)
run_instr (Some (instr.BorrowMut w)) pc ts = loud (pc + 1) ts (do_borrow w true)
run_instr (Some (instr.Box o)) pc ts = with_operand o ts (λ v us. loud (pc + 1) us (do_box v))
run_instr (Some (instr.Arith f a b)) pc ts = with_operand b ts (λ w us. with_operand a us (λ v vs. loud (pc + 1) vs (do_arith f v w)))
run_instr (Some (instr.Print o)) pc ts = with_operand o ts (λ v us. quiet (pc + 1) us (do_print v))
run_instr (Some instr.Discard) pc ts = with_operand operand.Pop ts (λ v us. quiet (pc + 1) us (do_discard v))
run_instr (Some instr.DropSlot) pc ts = quiet (pc + 1) ts do_drop
run_instr (Some (instr.Spawn xs body)) pc ts = loud (pc + 1) ts (do_spawn (captured xs.items) (record { pc = body; temps = [] }))
run_instr (Some (instr.Join o)) pc ts = with_operand o ts (λ v us. loud (pc + 1) us (do_join v))
run_instr (Some (instr.Mutex o)) pc ts = with_operand o ts (λ v us. loud (pc + 1) us (do_mutex v))
run_instr (Some (instr.Dup w)) pc ts = loud (pc + 1) ts (do_dup w)
run_instr (Some (instr.Lock w)) pc ts = quiet (pc + 1) ts (do_lock w)
run_instr (Some instr.Unlock) pc ts = quiet (pc + 1) ts do_unlock
run_instr (Some (instr.Par xs body ys other)) pc ts = quiet (pc + 1) ts (do_par (captured xs.items) (record { pc = body; temps = [] }) (captured ys.items) (record { pc = other; temps = [] }))
run_instr (Some instr.ParEnd) pc ts = quiet (pc + 1) ts do_par_end
run_instr (Some (instr.End o)) pc ts = None

abbrev pub code_move : List Instr → ℕ → List Value → Option CodeMove
code_move code pc ts = run_instr (slice_get code pc) pc ts

-- THE END OF A THREAD

abbrev pub end_value : Operand → List Value → Now
end_value (operand.Const n) ts = constant (Own (plain.Int n))
end_value operand.Unit ts = constant unit
end_value operand.Pop [] = going
end_value operand.Pop (v ∷ ts) = temporary v

abbrev pub over_at : Option Instr → List Value → Now
over_at (Some (instr.End o)) ts = end_value o ts
over_at _ ts = going

-- how the places of the code move
abbrev pub code_moves : List Instr → Moves Place
code_moves code = record { now = λ p. over_at (slice_get code p.pc) p.temps; move = λ p. code_move code p.pc p.temps; settle = λ p. p }
