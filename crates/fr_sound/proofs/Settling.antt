-- Settling keeps a term's typing and its temporary value.
use Rattle.std.proofs.Common.{◌≡◌, ℕ, zero, suc, length, Option, None, refl, sym, ap, ◌∙◌, subst}
use Rattle.fr_plain.specs.Below.fr_typing.Kinds.{int, Kind, own}
use Rattle.fr_plain.specs.Below.fr_typing.Places.{Env, AreBelow, kind_places}
use Rattle.fr_plain.specs.declared.value.Value.{Value}
use Rattle.fr_plain.specs.Run.{Run, temp, unit_c, number, read, borrow, box_r, arith, bind, print, assign, block, spawn, join_r, mutex_r, dup, lock, locked, par, par_end, Parts, last, more, Now, going, constant, temporary, after, at_end, now, now_parts, settle, settle_parts, settle_more, settle_right, close_last, close}
use Rattle.fr_sound.specs.RunTypes.{Forms, t_join, Falls, f_none, IsNumber, RunTypes, t_box, t_left, t_right, t_let, t_print, t_assign, t_block, PartsTypes, p_last, p_more, first_of, held, held_in}
use Rattle.fr_sound.proofs.DoneTerms.{Done, d_going, d_constant, d_temporary, done, number_held, going_held}

-- WHAT IS DONE STAYS DONE

-- closing a block round its last item
now_last : (n : Now) (r : Run) → now (close_last n r) ≡ now r
now_last going r = refl
now_last (constant v) r = refl
now_last (temporary v) r = refl

-- closing a block
now_close : (n : ℕ) (is : Parts) → now (close n is) ≡ at_end n (now_parts is)
now_close zero (last r) = now_last (now r) r
now_close zero (more r is) = refl
now_close (suc n) is = refl

-- an item before others
now_more : (n : Now) (q : Run) (is rest : Parts) → now q ≡ n → now_parts rest ≡ now_parts is → now_parts (settle_more n q is rest) ≡ after (now q) (now_parts is)
now_more going q is rest e h = refl
now_more (constant v) q is rest e h = h ∙ sym (ap (λ m. after m (now_parts is)) e)
now_more (temporary v) q is rest e h = refl

mutual
  -- settling makes no term done, and leaves it so
  pub now_settle : (r : Run) → now (settle r) ≡ now r
  now_settle (temp v) = refl
  now_settle unit_c = refl
  now_settle (number n) = refl
  now_settle (read w take) = refl
  now_settle (borrow w is_mut) = refl
  now_settle (box_r r) = refl
  now_settle (arith f a b) = refl
  now_settle (bind r) = refl
  now_settle (print r) = refl
  now_settle (assign w r) = refl
  now_settle (spawn cs r) = refl
  now_settle (join_r r) = refl
  now_settle (mutex_r r) = refl
  now_settle (dup w) = refl
  now_settle (lock w r) = refl
  now_settle (locked r) = refl
  now_settle (par cs a ds b) = refl
  now_settle par_end = refl
  now_settle (block n is) = now_close n (settle_parts is) ∙ ap (at_end n) (now_settle_parts is)

  -- and so with parts
  pub now_settle_parts : (is : Parts) → now_parts (settle_parts is) ≡ now_parts is
  now_settle_parts (last r) = now_settle r
  now_settle_parts (more r is) = now_more (now (settle r)) (settle r) is (settle_parts is) refl (now_settle_parts is) ∙ ap (λ m. after m (now_parts is)) (now_settle r)

-- a right operand settles where the left one is done
right_settles : (n : Now) (b rest : Run) → IsNumber n → settle_right n b rest ≡ rest
right_settles going b rest i = absurd i
right_settles (constant v) b rest i = refl
right_settles (temporary v) b rest i = refl

-- THE TYPING

-- a block that is closed round its last item
settled_last : {forms : Forms} (w : Now) (r : Run) {e e1 e2 : Env} {o : Option Kind} {k : Kind} → RunTypes forms e o r k e1 → Falls zero e1 e2 → AreBelow (length e2) (kind_places k) → RunTypes forms e o (close_last w r) k e2
settled_last going r t f below = t_block (p_last t) f below
settled_last (constant v) r t f_none below = t
settled_last (temporary v) r t f_none below = t

-- a block that is closed
closes : {forms : Forms} (n : ℕ) (is : Parts) {e e1 e2 : Env} {o : Option Kind} {k : Kind} → PartsTypes forms e o is k e1 → Falls n e1 e2 → AreBelow (length e2) (kind_places k) → RunTypes forms e o (close n is) k e2
closes zero (last r) (p_last t) f below = settled_last (now r) r t f below
closes zero (more r is) p f below = t_block p f below
closes (suc n) is p f below = t_block p f below

-- an item before others
more_settles : {forms : Forms} {w : Now} (r : Run) (is rest : Parts) {e e1 e2 : Env} {o : Option Kind} {h : Option Value} {k l : Kind} → Done w e o h k e1 → RunTypes forms e o r k e1 → PartsTypes forms e1 None is l e2 → PartsTypes forms e1 None rest l e2 → PartsTypes forms e o (settle_more w r is rest) l e2
more_settles r is rest d_going t p q = p_more t p
more_settles r is rest (d_constant v) t p q = q
more_settles r is rest d_temporary t p q = p_more t p

mutual
  -- settling keeps the typing
  pub settle_types : {forms : Forms} (r : Run) {e e1 : Env} {o : Option Kind} {k : Kind} → RunTypes forms e o r k e1 → RunTypes forms e o (settle r) k e1
  settle_types (temp v) t = t
  settle_types unit_c t = t
  settle_types (number n) t = t
  settle_types (read w take) t = t
  settle_types (borrow w is_mut) t = t
  settle_types (box_r r) (t_box t) = t_box (settle_types r t)
  settle_types {forms = forms} (arith f a b) {e = e} {e1 = e1} {o = o} (t_left g t u) =
      let same = now_settle a ∙ g in
      subst (λ (q : Run). RunTypes forms e o (arith f (settle a) q) (own int) e1) (sym (ap (λ n. settle_right n b (settle b)) same)) (t_left same (settle_types a t) u)
  settle_types {forms = forms} (arith f a b) {e = e} {e1 = e1} {o = o} (t_right i t) =
      let j = subst IsNumber (sym (now_settle a)) i in
      subst (λ (q : Run). RunTypes forms e o (arith f (settle a) q) (own int) e1) (sym (right_settles (now (settle a)) b (settle b) j)) (t_right j (settle_types b t))
  settle_types (bind r) (t_let name t) = t_let name (settle_types r t)
  settle_types (print r) (t_print t) = t_print (settle_types r t)
  settle_types (assign w r) (t_assign t a) = t_assign (settle_types r t) a
  settle_types (spawn cs r) t = t
  settle_types (join_r r) (t_join t) = t_join (settle_types r t)
  settle_types (mutex_r r) t = elim t [ ]
  settle_types (dup w) t = t
  settle_types (lock w r) t = t
  settle_types (locked r) t = elim t [ ]
  settle_types (par cs a ds b) t = t
  settle_types par_end t = t
  settle_types (block n is) (t_block p f below) = closes n (settle_parts is) (settle_parts_types is p) f below

  -- and that of parts
  pub settle_parts_types : {forms : Forms} (is : Parts) {e e1 : Env} {o : Option Kind} {k : Kind} → PartsTypes forms e o is k e1 → PartsTypes forms e o (settle_parts is) k e1
  settle_parts_types (last r) (p_last t) = p_last (settle_types r t)
  settle_parts_types (more r is) (p_more t p) = let s = settle_types r t in more_settles (settle r) is (settle_parts is) (done (settle r) s) s p (settle_parts_types is p)

-- THE TEMPORARY VALUE

-- a block that is closed round its last item
held_last : (w : Now) (r : Run) → held (close_last w r) ≡ held r
held_last going r = refl
held_last (constant v) r = refl
held_last (temporary v) r = refl

-- a block that is closed
held_close : (n : ℕ) (is : Parts) → held (close n is) ≡ held_in is
held_close zero (last r) = held_last (now r) r
held_close zero (more r is) = refl
held_close (suc n) is = refl

-- an item before others
more_holds : {w : Now} (r : Run) (is rest : Parts) {e e1 : Env} {o : Option Kind} {h : Option Value} {k : Kind} → Done w e o h k e1 → held r ≡ h → held_in rest ≡ held_in is → held_in (settle_more w r is rest) ≡ first_of (held r) (held_in is)
more_holds r is rest d_going same q = refl
more_holds r is rest (d_constant v) same q = q ∙ sym (ap (λ a. first_of a (held_in is)) same)
more_holds r is rest d_temporary same q = refl

mutual
  -- settling keeps the temporary value
  pub settle_holds : {forms : Forms} (r : Run) {e e1 : Env} {o : Option Kind} {k : Kind} → RunTypes forms e o r k e1 → held (settle r) ≡ held r
  settle_holds (temp v) t = refl
  settle_holds unit_c t = refl
  settle_holds (number n) t = refl
  settle_holds (read w take) t = refl
  settle_holds (borrow w is_mut) t = refl
  settle_holds (box_r r) (t_box t) = settle_holds r t
  settle_holds (arith f a b) (t_left g t u) = going_held f (settle a) (settle_right (now (settle a)) b (settle b)) (now_settle a ∙ g) ∙ settle_holds a t ∙ sym (going_held f a b g)
  settle_holds (arith f a b) (t_right i t) =
      let j = subst IsNumber (sym (now_settle a)) i in
      number_held (now (settle a)) (held (settle a)) (held (settle_right (now (settle a)) b (settle b))) j ∙ ap held (right_settles (now (settle a)) b (settle b) j) ∙ settle_holds b t ∙ sym (number_held (now a) (held a) (held b) i)
  settle_holds (bind r) (t_let name t) = settle_holds r t
  settle_holds (print r) (t_print t) = settle_holds r t
  settle_holds (assign w r) (t_assign t a) = settle_holds r t
  settle_holds (spawn cs r) t = refl
  settle_holds (join_r r) (t_join t) = settle_holds r t
  settle_holds (mutex_r r) t = elim t [ ]
  settle_holds (dup w) t = refl
  settle_holds (lock w r) t = refl
  settle_holds (locked r) t = elim t [ ]
  settle_holds (par cs a ds b) t = refl
  settle_holds par_end t = refl
  settle_holds (block n is) (t_block p f below) = held_close n (settle_parts is) ∙ settle_parts_hold is p

  -- and that of parts
  pub settle_parts_hold : {forms : Forms} (is : Parts) {e e1 : Env} {o : Option Kind} {k : Kind} → PartsTypes forms e o is k e1 → held_in (settle_parts is) ≡ held_in is
  settle_parts_hold (last r) (p_last t) = settle_holds r t
  settle_parts_hold (more r is) (p_more t p) =
      more_holds (settle r) is (settle_parts is) (done (settle r) (settle_types r t)) refl (settle_parts_hold is p) ∙ ap (λ a. first_of a (held_in is)) (settle_holds r t)
