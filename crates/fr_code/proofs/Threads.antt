-- A thread and its code make the same move, also at the thread's end.
use Rattle.std.proofs.Common.{◌≡◌, ℕ, List, [], ◌∷◌, Option, Some, None, refl, sym, ap, ◌∙◌, subst}
use Rattle.std.specs.Prelude.{slice_get}
use Rattle.fr_sound.specs.Below.fr_base.declared.instruction.Operand.{Operand}
use Rattle.fr_sound.specs.Below.fr_base.declared.instruction.Operand.TheVariants as operand
use Rattle.fr_sound.specs.Below.fr_base.declared.instruction.Instr.{Instr}
use Rattle.fr_sound.specs.Below.fr_base.declared.instruction.Instr.TheVariants as instr
use Rattle.fr_sound.specs.Below.fr_plain.declared.value.Value.{Value}
use Rattle.fr_sound.specs.Below.fr_plain.MachineActs.{do_print}
use Rattle.fr_sound.specs.Below.fr_plain.Run.{Run, Now, going, constant, temporary, now, Move, move, terms}
use Rattle.fr_sound.specs.Below.fr_plain.Alike.{value_of, NextAlike, both_done, both_going}
use Rattle.fr_code.specs.Steps.{CodeAct, CodeMove, with_operand, quiet, run_instr, code_move, end_value, over_at, code_moves}
use Rattle.fr_code.specs.StandsFor.{operand_of, temps_in, Ends, Stands}
use Rattle.fr_code.specs.Laws.{StandsAt, MovesAlike}
use Rattle.fr_code.proofs.Finished.{OperandNow, operand_now, Finished, finished}
use Rattle.fr_code.proofs.Following.{StandsIn, Same, follows}
use Rattle.fr_code.proofs.GoingMoves.{There, going_moves}
use Rattle.fr_code.proofs.Settling.{settling_stands}

-- the value of an operand
abbrev printed : Option CodeMove → Option Value
printed None = None
printed (Some m) = by m.act
  where
    by : CodeAct → Option Value
    by (do_print v) = Some v
    by a = None

abbrev printing : Value → List Value → Option CodeMove
printing v us = quiet 0 us (do_print v)

value_printed : (o : Operand) (us : List Value) → value_of (end_value o us) ≡ printed (with_operand o us printing)
value_printed (operand.Const n) us = refl
value_printed operand.Unit us = refl
value_printed operand.Pop [] = refl
value_printed operand.Pop (v ∷ us) = refl

-- an instruction that moves is no end
moved_going : (i : Option Instr) (p : ℕ) (us : List Value) (c : CodeMove) → run_instr i p us ≡ Some c → over_at i us ≡ going
moved_going (Some (instr.End o)) p us c e = absurd cc
moved_going _ p us c e = refl

module _ (code : List Instr) where
  -- at the end of a thread, whose term is done with that value
  pub end_is : (p : ℕ) (us : List Value) (r : Run) (v : Value) → (h : Stands code p us r) → with_operand (operand_of r) (temps_in r []) printing ≡ printing v [] → h.to ≡ p → value_of (over_at (slice_get code p) us) ≡ Some v
  end_is p us r v h take e =
      ap (λ i. value_of (over_at i us)) (ap (slice_get code) (sym e) ∙ h.over) ∙ ap (λ z. value_of (end_value (operand_of r) z)) h.temps ∙ value_printed (operand_of r) (temps_in r []) ∙ ap printed take

  -- there the code has no move
  pub ended_stays : (p : ℕ) (us : List Value) (r : Run) → (h : Stands code p us r) → h.to ≡ p → code_move code p us ≡ None
  ended_stays p us r h e = ap (λ i. run_instr i p us) (ap (slice_get code) (sym e) ∙ h.over)

  -- a move of the term
  inside : (n : Now) (i : Option Instr) (p : ℕ) (us : List Value) (e : ℕ) (o : Operand) → Ends code e o → n ≡ going → (a : Option (Move Run)) (x : Option CodeMove) → There a → run_instr i p us ≡ x → Same code (StandsIn code e [] o) a x
      → NextAlike (StandsAt code) terms (code_moves code) n (over_at i us) a x
  inside n i p us e o f g None x t is h = absurd t
  inside n i p us e o f g (Some m) None t is h = absurd h
  inside n i p us e o f g (Some m) (Some c) t is h =
      subst (λ k. NextAlike (StandsAt code) terms (code_moves code) k (over_at i us) (Some m) (Some c)) (sym g)
      (subst (λ k. NextAlike (StandsAt code) terms (code_moves code) going k (Some m) (Some c)) (sym (moved_going i p us c is))
      (both_going (record { act = h.act; plug = λ v. let s = h.fits v in settling_stands code (c.plug v).pc (c.plug v).temps (m.plug v) (record { to = e; at = s.at; temps = s.temps; over = subst (Ends code e) (sym s.operand) f }) })))

  -- a thread's next move
  moves : (p : ℕ) (us : List Value) (r : Run) → Stands code p us r → NextAlike (StandsAt code) terms (code_moves code) (now r) (over_at (slice_get code p) us) (move r) (code_move code p us)
  moves p us r h = by (now r) refl (operand_now code r) (finished code r p h.to [] h.at)
    where
      by : (n : Now) → now r ≡ n → OperandNow code n (operand_of r) → Finished code n (temps_in r []) [] p h.to → NextAlike (StandsAt code) terms (code_moves code) (now r) (over_at (slice_get code p) us) (move r) (code_move code p us)
      by going e o f =
          inside (now r) (slice_get code p) p us h.to (operand_of r) h.over e (move r) (code_move code p us) (going_moves r e) refl (subst (λ z. Same code (StandsIn code h.to [] (operand_of r)) (move r) (code_move code p z)) (sym h.temps) (follows code r p h.to [] e h.at))
      by (constant v) e o f = both_done (ap value_of e) (end_is p us r v h (o.0 (temps_in r []) printing ∙ ap (printing v) f.0) f.1)
      by (temporary v) e o f = both_done (ap value_of e) (end_is p us r v h (ap (λ z. with_operand z (temps_in r []) printing) o ∙ ap (λ z. with_operand operand.Pop z printing) f.0) f.1)

-- a thread and its code make the same move
pub moves_alike : MovesAlike
moves_alike code r p h = moves code p.pc p.temps r h
