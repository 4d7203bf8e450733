-- Settled terms, and how deep terms are after a step.
use Rattle.std.proofs.Common.{◌≡◌, ℕ, zero, suc, ◌+◌, ◌≤◌, Option, Some, None, refl, sym, subst, arith}
use Rattle.std.specs.Prelude.{max, ⊤}
use Rattle.fr_plain.specs.declared.value.Value.{Value}
use Rattle.fr_plain.specs.Acts.{do_box, do_arith, do_let, do_print, do_assign, do_discard, do_join, do_mutex, do_unlock}
use Rattle.fr_plain.specs.Run.{Run, temp, unit_c, number, read, borrow, box_r, arith as arith_r, bind, print, assign, block, spawn, join_r, mutex_r, dup, lock, locked, par, par_end, Parts, last, more, Now, going, constant, temporary, on_value, by_now, now, now_parts, settle_more, settle_right, close_last, close, settle, settle_parts, Move, next, alone, block_end, move, move_parts}
use Rattle.fr_meaning.specs.Contexts.{IsOpen, IsHeld, RightSettled, IsSettled}
use Rattle.fr_forms.specs.Depths.{depth, depth_in}

-- WHAT IS SETTLED

-- a block before its last item
close_more_settled : (k : ℕ) (r : Run) (is : Parts) → IsSettled r → IsHeld (now r) → IsSettled (close k (more r is))
close_more_settled zero r is a b = (a, b)
close_more_settled (suc k) r is a b = (a, b)

-- a block at its last item
close_last_settled : (n : Now) (r : Run) → now r ≡ n → IsSettled r → IsSettled (close_last n r)
close_last_settled going r e h = (h, subst (IsOpen zero) (sym e) tt)
close_last_settled (constant v) r e h = h
close_last_settled (temporary v) r e h = h

-- an item before others
more_settled : (n : Now) (k : ℕ) (r : Run) (is rest : Parts) → now r ≡ n → IsSettled r → IsSettled (close k rest) → IsSettled (close k (settle_more n r is rest))
more_settled going k r is rest e a b = close_more_settled k r is a (subst IsHeld (sym e) tt)
more_settled (constant v) k r is rest e a b = b
more_settled (temporary v) k r is rest e a b = close_more_settled k r is a (subst IsHeld (sym e) tt)

-- a right operand
right_settled : (n : Now) (b rest : Run) → IsSettled rest → RightSettled n (IsSettled (settle_right n b rest))
right_settled going b rest h = tt
right_settled (constant v) b rest h = h
right_settled (temporary v) b rest h = h

mutual
  -- settling leaves a settled term
  pub settle_settled : (r : Run) → IsSettled (settle r)
  settle_settled (temp v) = tt
  settle_settled unit_c = tt
  settle_settled (number n) = tt
  settle_settled (read w take) = tt
  settle_settled (borrow w is_mut) = tt
  settle_settled (box_r r) = settle_settled r
  settle_settled (arith_r f a b) = (settle_settled a, right_settled (now (settle a)) b (settle b) (settle_settled b))
  settle_settled (bind r) = settle_settled r
  settle_settled (print r) = settle_settled r
  settle_settled (assign w r) = settle_settled r
  settle_settled (block k is) = close_settled k is
  settle_settled (spawn cs r) = tt
  settle_settled (join_r r) = settle_settled r
  settle_settled (mutex_r r) = settle_settled r
  settle_settled (dup w) = tt
  settle_settled (lock w r) = tt
  settle_settled (locked r) = settle_settled r
  settle_settled (par cs a ds b) = tt
  settle_settled par_end = tt

  -- a block is settled where its items are
  close_settled : (k : ℕ) (is : Parts) → IsSettled (close k (settle_parts is))
  close_settled zero (last r) = close_last_settled (now (settle r)) (settle r) refl (settle_settled r)
  close_settled (suc k) (last r) = (settle_settled r, tt)
  close_settled k (more r is) = more_settled (now (settle r)) k (settle r) is (settle_parts is) refl (settle_settled r) (close_settled k is)

-- HOW DEEP TERMS ARE

-- closing a block makes it no deeper
close_last_depth : (n : Now) (r : Run) → depth (close_last n r) ≤ depth r + 1
close_last_depth going r = omega arith
close_last_depth (constant v) r = omega arith
close_last_depth (temporary v) r = omega arith

-- a block with items left is as deep as they are
close_depth : (k : ℕ) (r : Run) (is : Parts) → depth (close k (more r is)) ≤ max (depth r) (depth_in is) + 1
close_depth zero r is = omega arith
close_depth (suc k) r is = omega arith

-- an item that vanishes makes no block deeper
more_depth : (n : Now) (k : ℕ) (r : Run) (is rest : Parts) (m : ℕ) → max (depth r) (depth_in is) + 1 ≤ m → depth (close k rest) ≤ m → depth (close k (settle_more n r is rest)) ≤ m
more_depth going k r is rest m a b = omega (arith, a, close_depth k r is)
more_depth (constant v) k r is rest m a b = b
more_depth (temporary v) k r is rest m a b = omega (arith, a, close_depth k r is)

-- nor does a right operand
right_depth : (n : Now) (b rest : Run) → depth rest ≤ depth b → depth (settle_right n b rest) ≤ depth b
right_depth going b rest h = omega arith
right_depth (constant v) b rest h = h
right_depth (temporary v) b rest h = h

mutual
  -- settling makes no term deeper
  pub depth_settle : (r : Run) → depth (settle r) ≤ depth r
  depth_settle (temp v) = omega arith
  depth_settle unit_c = omega arith
  depth_settle (number n) = omega arith
  depth_settle (read w take) = omega arith
  depth_settle (borrow w is_mut) = omega arith
  depth_settle (box_r r) = omega (arith, depth_settle r)
  depth_settle (arith_r f a b) = omega (arith, depth_settle a, right_depth (now (settle a)) b (settle b) (depth_settle b))
  depth_settle (bind r) = omega (arith, depth_settle r)
  depth_settle (print r) = omega (arith, depth_settle r)
  depth_settle (assign w r) = omega (arith, depth_settle r)
  depth_settle (block k is) = parts_depth k is
  depth_settle (spawn cs r) = omega arith
  depth_settle (join_r r) = omega (arith, depth_settle r)
  depth_settle (mutex_r r) = omega (arith, depth_settle r)
  depth_settle (dup w) = omega arith
  depth_settle (lock w r) = omega arith
  depth_settle (locked r) = omega (arith, depth_settle r)
  depth_settle (par cs a ds b) = omega arith
  depth_settle par_end = omega arith

  -- settling a block's items makes it no deeper
  parts_depth : (k : ℕ) (is : Parts) → depth (close k (settle_parts is)) ≤ depth_in is + 1
  parts_depth zero (last r) = omega (arith, depth_settle r, close_last_depth (now (settle r)) (settle r))
  parts_depth (suc k) (last r) = omega (arith, depth_settle r)
  parts_depth k (more r is) = more_depth (now (settle r)) k (settle r) is (settle_parts is) (max (depth r) (depth_in is) + 1) (omega (arith, depth_settle r)) (omega (arith, parts_depth k is))

module _ {P : Type 0} (size : P → ℕ) where
  -- what a move leads to is within a bound
  abbrev pub Within : ℕ → Option (Move P) → Type 0
  Within m None = ⊤
  Within m (Some x) = (v : Value) → size (x.plug v) ≤ m

  -- by whether the part is done
  on_value_within : (n : Now) (f : Value → Option (Move P)) (a : Option (Move P)) (m : ℕ) → ((v : Value) → Within m (f v)) → Within m a → Within m (on_value n f a)
  on_value_within going f a m h g = g
  on_value_within (constant v) f a m h g = h v
  on_value_within (temporary v) f a m h g = h v

  -- by whether the item is done
  by_now_within : (n : Now) (a : Option (Move P)) (f g : Value → Option (Move P)) (m : ℕ) → Within m a → ((v : Value) → Within m (f v)) → ((v : Value) → Within m (g v)) → Within m (by_now n a f g)
  by_now_within going a f g m h i j = h
  by_now_within (constant v) a f g m h i j = i v
  by_now_within (temporary v) a f g m h i j = j v

-- a move inside a move
next_within : {P Q : Type 0} (size : P → ℕ) (other : Q → ℕ) (f : P → Q) (o : Option (Move P)) (k m : ℕ) → ((q : P) → size q ≤ k → other (f q) ≤ m) → Within size k o → Within other m (next f o)
next_within size other f None k m g h = tt
next_within size other f (Some x) k m g h = λ v. g (x.plug v) (h v)

-- dropping a slot makes no block deeper
end_within : (k : ℕ) (is : Parts) → Within depth (depth_in is + 1) (block_end k is)
end_within zero is = tt
end_within (suc k) is = λ v. omega arith

-- within a larger bound
looser : (o : Option (Move Parts)) (k m : ℕ) → k ≤ m → Within depth_in k o → Within depth_in m o
looser None k m le h = tt
looser (Some x) k m le h = λ v. let i = h v in omega arith

mutual
  -- a move makes no term deeper
  pub move_depth : (r : Run) → Within depth (depth r) (move r)
  move_depth (temp v) = tt
  move_depth unit_c = tt
  move_depth (number n) = tt
  move_depth (read w take) = λ v. omega arith
  move_depth (borrow w is_mut) = λ v. omega arith
  move_depth (box_r r) = on_value_within depth (now r) (λ v. alone temp (do_box v)) (next box_r (move r)) (depth r + 1) (λ v x. omega arith) (next_within depth depth box_r (move r) (depth r) (depth r + 1) (λ q h. omega arith) (move_depth r))
  move_depth (arith_r f a b) =
      on_value_within depth (now a) (λ v. on_value (now b) (λ w. alone temp (do_arith f v w)) (next (arith_r f a) (move b))) (next (λ x. arith_r f x b) (move a)) (max (depth a) (depth b) + 1)
      (λ v. on_value_within depth (now b) (λ w. alone temp (do_arith f v w)) (next (arith_r f a) (move b)) (max (depth a) (depth b) + 1) (λ w x. omega arith) (next_within depth depth (arith_r f a) (move b) (depth b) (max (depth a) (depth b) + 1) (λ q h. omega arith) (move_depth b)))
      (next_within depth depth (λ x. arith_r f x b) (move a) (depth a) (max (depth a) (depth b) + 1) (λ q h. omega arith) (move_depth a))
  move_depth (bind r) = on_value_within depth (now r) (λ v. alone (λ x. unit_c) (do_let v)) (next bind (move r)) (depth r + 1) (λ v x. omega arith) (next_within depth depth bind (move r) (depth r) (depth r + 1) (λ q h. omega arith) (move_depth r))
  move_depth (print r) = on_value_within depth (now r) (λ v. alone (λ x. unit_c) (do_print v)) (next print (move r)) (depth r + 1) (λ v x. omega arith) (next_within depth depth print (move r) (depth r) (depth r + 1) (λ q h. omega arith) (move_depth r))
  move_depth (assign w r) = on_value_within depth (now r) (λ v. alone (λ x. unit_c) (do_assign w v)) (next (assign w) (move r)) (depth r + 1) (λ v x. omega arith) (next_within depth depth (assign w) (move r) (depth r) (depth r + 1) (λ q h. omega arith) (move_depth r))
  move_depth (block k is) = on_value_within depth (now_parts is) (λ v. block_end k is) (next (block k) (move_parts is)) (depth_in is + 1) (λ v. end_within k is) (next_within depth_in depth (block k) (move_parts is) (depth_in is) (depth_in is + 1) (λ q h. omega arith) (parts_move_depth is))
  move_depth (spawn cs r) = λ v. omega arith
  move_depth (join_r r) = on_value_within depth (now r) (λ v. alone temp (do_join v)) (next join_r (move r)) (depth r + 1) (λ v x. omega arith) (next_within depth depth join_r (move r) (depth r) (depth r + 1) (λ q h. omega arith) (move_depth r))
  move_depth (mutex_r r) = on_value_within depth (now r) (λ v. alone temp (do_mutex v)) (next mutex_r (move r)) (depth r + 1) (λ v x. omega arith) (next_within depth depth mutex_r (move r) (depth r) (depth r + 1) (λ q h. omega arith) (move_depth r))
  move_depth (dup w) = λ v. omega arith
  move_depth (lock w r) = λ v. omega arith
  move_depth (locked r) = on_value_within depth (now r) (λ v. alone (λ x. r) do_unlock) (next locked (move r)) (depth r + 1) (λ v x. omega arith) (next_within depth depth locked (move r) (depth r) (depth r + 1) (λ q h. omega arith) (move_depth r))
  move_depth (par cs a ds b) = λ v. omega arith
  move_depth par_end = λ v. omega arith

  -- a move of items makes them no deeper
  parts_move_depth : (is : Parts) → Within depth_in (depth_in is) (move_parts is)
  parts_move_depth (last r) = next_within depth depth_in last (move r) (depth r) (depth r) (λ q h. omega arith) (move_depth r)
  parts_move_depth (more r is) =
      by_now_within depth_in (now r) (next (λ x. more x is) (move r)) (λ v. move_parts is) (λ v. alone (λ x. is) (do_discard v)) (max (depth r) (depth_in is))
      (next_within depth depth_in (λ x. more x is) (move r) (depth r) (max (depth r) (depth_in is)) (λ q h. omega arith) (move_depth r))
      (λ v. looser (move_parts is) (depth_in is) (max (depth r) (depth_in is)) (omega arith) (parts_move_depth is)) (λ v x. omega arith)
