-- Terms that are done, and terms without a temporary value.
use Rattle.std.proofs.Common.{◌≡◌, ℕ, length, Option, Some, None, refl, ap, ◌∙◌}
use Rattle.std.specs.Prelude.{⊤}
use Rattle.fr_plain.specs.Below.fr_base.declared.place.Op.{Op}
use Rattle.fr_plain.specs.Below.fr_typing.Kinds.{Kind}
use Rattle.fr_plain.specs.Below.fr_typing.Places.{Env, AreBelow, kind_places}
use Rattle.fr_plain.specs.declared.value.Value.{Value}
use Rattle.fr_plain.specs.Run.{Run, temp, unit_c, number, read, borrow, box_r, arith, bind, print, assign, block, spawn, join_r, mutex_r, dup, lock, locked, par, par_end, Parts, last, more, Now, going, constant, temporary, by_now, after, at_end, now, now_parts}
use Rattle.fr_sound.specs.RunTypes.{Forms, t_join, Falls, f_none, f_one, IsNumber, RunTypes, t_temp, t_unit, t_number, t_box, t_left, t_right, t_let, t_print, t_assign, t_block, PartsTypes, p_last, p_more, first_of, held, held_in, Operand, o_unit, o_int}

-- what a done term's typing says: its environment is left as it was, and its value is an operand
pub data Done : Now → Env → Option Kind → Option Value → Kind → Env → Type 0 where
  d_going : {e e1 : Env} {o : Option Kind} {h : Option Value} {k : Kind} → Done going e o h k e1
  d_constant : {e : Env} {v : Value} {k : Kind} → Operand None None v k → Done (constant v) e None None k e
  d_temporary : {e : Env} {v : Value} {k : Kind} → Done (temporary v) e (Some k) (Some v) k e

-- a block whose items are done
at_end_done : {w : Now} {n : ℕ} {e e1 e2 : Env} {o : Option Kind} {h : Option Value} {k : Kind} → Falls n e1 e2 → Done w e o h k e1 → Done (at_end n w) e o h k e2
at_end_done f_none d = d
at_end_done (f_one f) d = d_going

-- an item that is done, before others
after_done : {m w : Now} {e e1 e2 : Env} {o : Option Kind} {h g : Option Value} {k l : Kind} → Done m e o h k e1 → Done w e1 None g l e2 → Done (after m w) e o (first_of h g) l e2
after_done d_going c = d_going
after_done (d_constant v) c = c
after_done d_temporary c = d_going

mutual
  -- a term that is done leaves its environment, and its value is an operand of its type
  pub done : {forms : Forms} (r : Run) {e e1 : Env} {o : Option Kind} {k : Kind} → RunTypes forms e o r k e1 → Done (now r) e o (held r) k e1
  done (temp v) t_temp = d_temporary
  done unit_c t_unit = d_constant o_unit
  done (number n) t_number = d_constant o_int
  done (read w take) t = d_going
  done (borrow w is_mut) t = d_going
  done (box_r r) t = d_going
  done (arith f a b) t = d_going
  done (bind r) t = d_going
  done (print r) t = d_going
  done (assign w r) t = d_going
  done (block n is) (t_block p f below) = at_end_done f (done_parts is p)
  done (spawn cs r) t = d_going
  done (join_r r) t = d_going
  done (mutex_r r) t = d_going
  done (dup w) t = d_going
  done (lock w r) t = d_going
  done (locked r) t = d_going
  done (par cs a ds b) t = d_going
  done par_end t = d_going

  -- and so do parts that are done
  pub done_parts : {forms : Forms} (is : Parts) {e e1 : Env} {o : Option Kind} {k : Kind} → PartsTypes forms e o is k e1 → Done (now_parts is) e o (held_in is) k e1
  done_parts (last r) (p_last t) = done r t
  done_parts (more r is) (p_more t p) = after_done (done r t) (done_parts is p)

-- DONE TERMS STAND ANYWHERE

-- a constant or a temporary value
abbrev pub IsDone : Now → Type 0
IsDone going = ⊥
IsDone (constant v) = ⊤
IsDone (temporary v) = ⊤

-- a constant
abbrev IsConstant : Now → Type 0
IsConstant going = ⊥
IsConstant (constant v) = ⊤
IsConstant (temporary v) = ⊥

-- where items are done, the first was a constant
both_done : (m w : Now) → IsDone (after m w) → IsConstant m × IsDone w
both_done going w d = absurd d
both_done (constant v) w d = (tt, d)
both_done (temporary v) w d = absurd d

-- a constant is done
constant_done : (n : Now) → IsConstant n → IsDone n
constant_done going d = absurd d
constant_done (constant v) d = tt
constant_done (temporary v) d = absurd d

-- a constant's type names no places
constant_places : {n : Now} {e e1 : Env} {o : Option Kind} {h : Option Value} {k : Kind} (m : ℕ) → IsConstant n → Done n e o h k e1 → AreBelow m (kind_places k)
constant_places m c d_going = absurd c
constant_places m c (d_constant o_unit) = tt
constant_places m c (d_constant o_int) = tt
constant_places m c d_temporary = absurd c

mutual
  -- a done term has its type in every environment in which its type's places are
  pub anywhere : {forms : Forms} (r : Run) {e e1 : Env} {o : Option Kind} {k : Kind} (e2 : Env) → IsDone (now r) → AreBelow (length e2) (kind_places k) → RunTypes forms e o r k e1 → RunTypes forms e2 o r k e2
  anywhere (temp v) e2 d b t_temp = t_temp
  anywhere unit_c e2 d b t_unit = t_unit
  anywhere (number n) e2 d b t_number = t_number
  anywhere (read w take) e2 d b t = absurd d
  anywhere (borrow w is_mut) e2 d b t = absurd d
  anywhere (box_r r) e2 d b t = absurd d
  anywhere (arith f x y) e2 d b t = absurd d
  anywhere (bind r) e2 d b t = absurd d
  anywhere (print r) e2 d b t = absurd d
  anywhere (assign w r) e2 d b t = absurd d
  anywhere (block n is) e2 d b (t_block p f_none below) = t_block (anywhere_parts is e2 d b p) f_none b
  anywhere (block n is) e2 d b (t_block p (f_one f) below) = absurd d
  anywhere (spawn cs r) e2 d b t = absurd d
  anywhere (join_r r) e2 d b t = absurd d
  anywhere (mutex_r r) e2 d b t = absurd d
  anywhere (dup w) e2 d b t = absurd d
  anywhere (lock w r) e2 d b t = absurd d
  anywhere (locked r) e2 d b t = absurd d
  anywhere (par cs x ds y) e2 d b t = absurd d
  anywhere par_end e2 d b t = absurd d

  -- and so have parts that are done
  pub anywhere_parts : {forms : Forms} (is : Parts) {e e1 : Env} {o : Option Kind} {k : Kind} (e2 : Env) → IsDone (now_parts is) → AreBelow (length e2) (kind_places k) → PartsTypes forms e o is k e1 → PartsTypes forms e2 o is k e2
  anywhere_parts (last r) e2 d b (p_last t) = p_last (anywhere r e2 d b t)
  anywhere_parts (more r is) e2 d b (p_more t p) =
      let c = both_done (now r) (now_parts is) d in p_more (anywhere r e2 (constant_done (now r) c.0) (constant_places (length e2) c.0 (done r t)) t) (anywhere_parts is e2 c.1 b p)

-- WITHOUT A TEMPORARY VALUE

-- of one value and none the one counts
pub first_none : (a : Option Value) → first_of a None ≡ a
first_none None = refl
first_none (Some v) = refl

-- an operand that is done is no temporary value
pub number_held : (n : Now) (x y : Option Value) → IsNumber n → by_now n x (λ v. y) (λ v. y) ≡ y
number_held going x y i = absurd i
number_held (constant v) x y i = refl
number_held (temporary v) x y i = refl

-- while the left operand goes on, its value counts
pub going_held : (f : Op) (a b : Run) → now a ≡ going → held (arith f a b) ≡ held a
going_held f a b e = ap (λ n. by_now n (held a) (λ v. held b) (λ v. held b)) e

mutual
  -- a term typed without a temporary value has none
  pub quiet : {forms : Forms} (r : Run) {e e1 : Env} {k : Kind} → RunTypes forms e None r k e1 → held r ≡ None
  quiet (temp v) t = elim t [ ]
  quiet unit_c t = refl
  quiet (number n) t = refl
  quiet (read w take) t = refl
  quiet (borrow w is_mut) t = refl
  quiet (box_r r) (t_box t) = quiet r t
  quiet (arith f a b) (t_left e t u) = going_held f a b e ∙ quiet a t
  quiet (arith f a b) (t_right i t) = number_held (now a) (held a) (held b) i ∙ quiet b t
  quiet (bind r) (t_let name t) = quiet r t
  quiet (print r) (t_print t) = quiet r t
  quiet (assign w r) (t_assign t a) = quiet r t
  quiet (block n is) (t_block p f below) = quiet_parts is p
  quiet (spawn cs r) t = refl
  quiet (join_r r) (t_join t) = quiet r t
  quiet (mutex_r r) t = elim t [ ]
  quiet (dup w) t = refl
  quiet (lock w r) t = refl
  quiet (locked r) t = elim t [ ]
  quiet (par cs a ds b) t = refl
  quiet par_end t = refl

  -- and so have parts
  pub quiet_parts : {forms : Forms} (is : Parts) {e e1 : Env} {k : Kind} → PartsTypes forms e None is k e1 → held_in is ≡ None
  quiet_parts (last r) (p_last t) = quiet r t
  quiet_parts (more r is) (p_more t p) = ap (λ a. first_of a (held_in is)) (quiet r t) ∙ quiet_parts is p
