-- Instructions are granted by the rows of acts.
use Rattle.std.proofs.Common.{◌≡◌, inl, inr, ◌∙◌, ℕ, true, false, List, [], ◌∷◌, length, Option, refl, arith}
use Rattle.fr_base.specs.declared.label.Plain.TheVariants as plain
use Rattle.fr_base.specs.declared.instruction.Operand.{Operand}
use Rattle.fr_typing.specs.Kinds.{Kind}
use Rattle.fr_plain.specs.declared.value.Value.{Value}
use Rattle.fr_plain.specs.declared.value.Value.TheVariants.{Own}
use Rattle.fr_plain.specs.MachineActs.{do_let, do_read, do_borrow, do_assign, do_box, do_arith, do_print, do_discard, do_drop, do_spawn, do_join, do_mutex, do_dup, do_lock, do_unlock, do_par, do_par_end, unit as unit_value}
use Rattle.fr_code.specs.CodeTypes.{Takes, takes_const, takes_unit, takes_pop, i_let, i_assign, i_copy, i_move, i_borrow, i_borrow_mut, i_box, i_arith, i_print, i_discard, i_drop, i_spawn, i_join, i_mutex, i_dup, i_lock, i_unlock, i_par, i_par_end}
use Rattle.fr_code.specs.Steps.{Place, CodeMove, captured, with_operand}
use Rattle.law_plain_values.specs.acts.ActRows.{Pops, pops_unit, pops_int, pops_temp, quiet, loud, r_let, r_assign, r_copy, r_move, r_borrow, r_borrow_mut, r_box, r_arith, r_print, r_discard, r_drop, r_spawn, r_join, r_mutex, r_dup, r_lock, r_unlock, r_par, r_par_end, ends_as}
use Rattle.law_plain_values.specs.acts.CodeRows.{InstructionsHaveRows, EndsHaveRows}

-- an operand that is typed is at hand
record At (o : Operand) (ts : List Kind) (vs : List Value) (k : Kind) (us : List Kind) : Type 0 where
  value : Value
  left : List Value
  pops : Pops ts vs value k us left
  is : (go : Value → List Value → Option CodeMove) → with_operand o vs go ≡ go value left
  as_long : length left ≡ length us

at_hand : {o : Operand} {ts : List Kind} {k : Kind} {us : List Kind} (vs : List Value) → Takes o ts k us → length vs ≡ length ts → At o ts vs k us
at_hand vs (takes_const {n = n} w) l = record { value = Own (plain.Int n); left = vs; pops = pops_int n w; is = λ go. refl; as_long = l }
at_hand vs (takes_unit w) l = record { value = unit_value; left = vs; pops = pops_unit w; is = λ go. refl; as_long = l }
at_hand [] (takes_pop w) l = absurd (omega (arith, l))
at_hand (v ∷ vs) (takes_pop w) l = record { value = v; left = vs; pops = pops_temp w; is = λ go. refl; as_long = omega (arith, l) }

abbrev place : ℕ → Place
place pc = record { pc = pc; temps = [] }

pub instructions_have_rows_lem : InstructionsHaveRows
instructions_have_rows_lem table pc _ _ _ vs (i_let x t n) l = let a = at_hand vs t l in record { act = do_let a.value; leaves = quiet a.left; is = a.is _; row = r_let x a.pops n }
instructions_have_rows_lem table pc _ _ _ vs (i_assign {w = w} t h o kept shape out) l = let a = at_hand vs t l in record { act = do_assign w a.value; leaves = quiet a.left; is = a.is _; row = r_assign a.pops h o kept shape out }
instructions_have_rows_lem table pc _ _ _ vs (i_copy {w = w} q h c b) l = record { act = do_read w false; leaves = loud vs; is = refl; row = r_copy q h c b }
instructions_have_rows_lem table pc _ _ _ vs (i_move {w = w} q h c b p) l = record { act = do_read w true; leaves = loud vs; is = refl; row = r_move q h c b p }
instructions_have_rows_lem table pc _ _ _ vs (i_borrow {w = w} q h b) l = record { act = do_borrow w false; leaves = loud vs; is = refl; row = r_borrow q h b }
instructions_have_rows_lem table pc _ _ _ vs (i_borrow_mut {w = w} q h o) l = record { act = do_borrow w true; leaves = loud vs; is = refl; row = r_borrow_mut q h o }
instructions_have_rows_lem table pc _ _ _ vs (i_box t f) l = let a = at_hand vs t l in record { act = do_box a.value; leaves = loud a.left; is = a.is _; row = r_box a.pops }
instructions_have_rows_lem table pc _ _ _ vs (i_arith {f = f} t u) l =
    let b = at_hand vs t l in
    let a = at_hand b.left u b.as_long in
    record { act = do_arith f a.value b.value; leaves = loud a.left; is = b.is _ ∙ a.is _; row = r_arith b.pops a.pops }
instructions_have_rows_lem table pc _ _ _ vs (i_print t) l = let a = at_hand vs t l in record { act = do_print a.value; leaves = quiet a.left; is = a.is _; row = r_print a.pops }
instructions_have_rows_lem table pc _ _ _ vs (i_discard t) l = let a = at_hand vs t l in record { act = do_discard a.value; leaves = quiet a.left; is = a.is _; row = r_discard a.pops }
instructions_have_rows_lem table pc _ _ _ vs (i_drop n k o) l = record { act = do_drop; leaves = quiet vs; is = refl; row = r_drop n k o }
instructions_have_rows_lem table pc _ _ _ vs (i_spawn {cs = cs} {body = body} w c b f) l = record { act = do_spawn (captured cs.items) (place body); leaves = loud vs; is = refl; row = r_spawn cs.items w c (b, refl) }
instructions_have_rows_lem table pc _ _ _ vs (i_join t) l = let a = at_hand vs t l in record { act = do_join a.value; leaves = loud a.left; is = a.is _; row = r_join a.pops }
instructions_have_rows_lem table pc _ _ _ vs (i_mutex t f) l = let a = at_hand vs t l in record { act = do_mutex a.value; leaves = loud a.left; is = a.is _; row = r_mutex a.pops }
instructions_have_rows_lem table pc _ _ _ vs (i_dup {w = w} q h b) l = record { act = do_dup w; leaves = loud vs; is = refl; row = r_dup q h b }
instructions_have_rows_lem table pc _ _ _ vs (i_lock {w = w} name q h b n) l = record { act = do_lock w; leaves = quiet vs; is = refl; row = r_lock name q h b n }
instructions_have_rows_lem table pc _ _ _ vs (i_unlock o) l = record { act = do_unlock; leaves = quiet vs; is = refl; row = r_unlock o }
instructions_have_rows_lem table pc _ _ _ vs (i_par {cs = cs} {ds = ds} {body = body} {other = other} w c d b q) l =
    record { act = do_par (captured cs.items) (place body) (captured ds.items) (place other); leaves = quiet vs; is = refl; row = r_par cs.items ds.items w c d (b, refl) (q, refl) }
instructions_have_rows_lem table pc _ _ _ vs i_par_end l = record { act = do_par_end; leaves = quiet vs; is = refl; row = r_par_end }

pub ends_have_rows : EndsHaveRows
ends_have_rows ts g o [] (takes_const {n = n} w) l = record { value = Own (plain.Int n); is = inl refl; ends = ends_as (pops_int n w) }
ends_have_rows ts g o (v ∷ vs) (takes_const w) l = absurd (omega (arith, l))
ends_have_rows ts g o [] (takes_unit w) l = record { value = unit_value; is = inl refl; ends = ends_as (pops_unit w) }
ends_have_rows ts g o (v ∷ vs) (takes_unit w) l = absurd (omega (arith, l))
ends_have_rows ts g o [] (takes_pop w) l = absurd (omega (arith, l))
ends_have_rows ts g o (v ∷ []) (takes_pop w) l = record { value = v; is = inr refl; ends = ends_as (pops_temp w) }
ends_have_rows ts g o (v ∷ w ∷ vs) (takes_pop q) l = absurd (omega (arith, l))
