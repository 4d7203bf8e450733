-- A step is one of those that are left, and what needs no step is none.
use Rattle.std.proofs.Common.{◌≡◌, ℕ, zero, suc, ◌+◌, Bool, true, false, Option, Some, None, refl, sym, ap, ◌∙◌, subst, arith}
use Rattle.std.specs.Prelude.{⊤}
use Rattle.fr_base.specs.declared.place.Op.{Op}
use Rattle.fr_plain.specs.declared.value.Value.{Value}
use Rattle.fr_plain.specs.Acts.{Act, do_end, do_box, do_arith, do_let, do_print, do_assign, do_discard, do_spawn, do_join, do_finish, do_leave, do_mutex, do_unlock, do_par}
use Rattle.fr_plain.specs.Run.{Run, temp, unit_c, number, read, borrow, box_r, arith as arith_r, bind, print, assign, block, spawn, join_r, mutex_r, dup, lock, locked, par, par_end, Parts, last, more, Now, going, constant, temporary, by_now, on_value, after, at_end, now, now_parts, settle_more, settle_right, close_last, close, settle, settle_parts, Move, next, alone, block_end, move, move_parts, Life, alive, over, owing, loose, ended, settle_life, life_move, one_if_temporary, leaves, leaves_last, steps_left, steps_in, life_left}

-- a done term has no step left, and leaves a temporary value where it is one
abbrev Done : Now → ℕ → Bool → Type 0
Done going n b = ⊤
Done (constant v) n b = (n ≡ 0) × (b ≡ false)
Done (temporary v) n b = (n ≡ 0) × (b ≡ true)

-- an item that is done, before others
after_done : (n m : Now) (a : ℕ) (b : Bool) (x : ℕ) (y : Bool) → Done n a b → Done m x y → Done (after n m) (a + one_if_temporary b + x) y
after_done going m a b x y h g = tt
after_done (constant v) m a b x y h g =
    let f = ap one_if_temporary h.1 in
    let e : x ≡ a + one_if_temporary b + x = omega (arith, h.0, f) in
    subst (λ k. Done m k y) e g
after_done (temporary v) m a b x y h g = tt

-- a block whose items are done
at_end_done : (k : ℕ) (n : Now) (a : ℕ) (b : Bool) → Done n a b → Done (at_end k n) (a + k) b
at_end_done zero n a b h = let e : a ≡ a + zero = omega arith in subst (λ m. Done n m b) e h
at_end_done (suc k) n a b h = tt

mutual
  -- of a term
  done_left : (r : Run) → Done (now r) (steps_left r) (leaves r)
  done_left (temp v) = (refl, refl)
  done_left unit_c = (refl, refl)
  done_left (number n) = (refl, refl)
  done_left (read w take) = tt
  done_left (borrow w is_mut) = tt
  done_left (box_r r) = tt
  done_left (arith_r f a b) = tt
  done_left (bind r) = tt
  done_left (print r) = tt
  done_left (assign w r) = tt
  done_left (block k is) = at_end_done k (now_parts is) (steps_in is) (leaves_last is) (done_in is)
  done_left (spawn cs r) = tt
  done_left (join_r r) = tt
  done_left (mutex_r r) = tt
  done_left (dup w) = tt
  done_left (lock w r) = tt
  done_left (locked r) = tt
  done_left (par cs a ds b) = tt
  done_left par_end = tt

  -- of items
  done_in : (is : Parts) → Done (now_parts is) (steps_in is) (leaves_last is)
  done_in (last r) = done_left r
  done_in (more r is) = after_done (now r) (now_parts is) (steps_left r) (leaves r) (steps_in is) (leaves_last is) (done_left r) (done_in is)

-- SETTLING

-- as many steps, and the same kind of value
abbrev Same : Run → ℕ → Bool → Type 0
Same q n b = (steps_left q ≡ n) × (leaves q ≡ b)

-- at the last item
close_last_same : (n : Now) (r : Run) (m : ℕ) (b : Bool) → Same r m b → Same (close_last n r) (m + 0) b
close_last_same going r m b h = (ap (λ k. k + 0) h.0, h.1)
close_last_same (constant v) r m b h = (omega (arith, h.0), h.1)
close_last_same (temporary v) r m b h = (omega (arith, h.0), h.1)

-- before the last item
close_more_same : (k : ℕ) (r : Run) (is : Parts) (m : ℕ) (b : Bool) → Same r m b → Same (close k (more r is)) (m + one_if_temporary b + steps_in is + k) (leaves_last is)
close_more_same zero r is m b h = (omega (arith, h.0, ap one_if_temporary h.1), refl)
close_more_same (suc k) r is m b h = (omega (arith, h.0, ap one_if_temporary h.1), refl)

-- an item before others
more_same : (n : Now) (k : ℕ) (r : Run) (is rest : Parts) (m : ℕ) (b : Bool) → Done n (steps_left r) (leaves r) → Same r m b → Same (close k rest) (steps_in is + k) (leaves_last is) →
    Same (close k (settle_more n r is rest)) (m + one_if_temporary b + steps_in is + k) (leaves_last is)
more_same going k r is rest m b d h g = close_more_same k r is m b h
more_same (constant v) k r is rest m b d h g = (omega (arith, g.0, h.0, d.0, ap one_if_temporary (sym h.1 ∙ d.1)), g.1)
more_same (temporary v) k r is rest m b d h g = close_more_same k r is m b h

-- settling a right operand
right_left : (n : Now) (b rest : Run) → steps_left rest ≡ steps_left b → steps_left (settle_right n b rest) ≡ steps_left b
right_left going b rest h = refl
right_left (constant v) b rest h = h
right_left (temporary v) b rest h = h

mutual
  -- settling is no step
  pub settle_left : (r : Run) → Same (settle r) (steps_left r) (leaves r)
  settle_left (temp v) = (refl, refl)
  settle_left unit_c = (refl, refl)
  settle_left (number n) = (refl, refl)
  settle_left (read w take) = (refl, refl)
  settle_left (borrow w is_mut) = (refl, refl)
  settle_left (box_r r) = (ap (λ n. n + 1) (settle_left r).0, refl)
  settle_left (arith_r f a b) = (omega (arith, (settle_left a).0, right_left (now (settle a)) b (settle b) (settle_left b).0), refl)
  settle_left (bind r) = (ap (λ n. n + 1) (settle_left r).0, refl)
  settle_left (print r) = (ap (λ n. n + 1) (settle_left r).0, refl)
  settle_left (assign w r) = (ap (λ n. n + 1) (settle_left r).0, refl)
  settle_left (block k is) = close_left k is
  settle_left (spawn cs r) = (refl, refl)
  settle_left (join_r r) = (ap (λ n. n + 1) (settle_left r).0, refl)
  settle_left (mutex_r r) = (ap (λ n. n + 1) (settle_left r).0, refl)
  settle_left (dup w) = (refl, refl)
  settle_left (lock w r) = (refl, refl)
  settle_left (locked r) = let s = settle_left r in (ap (λ n. n + 1) s.0, s.1)
  settle_left (par cs a ds b) = (refl, refl)
  settle_left par_end = (refl, refl)

  -- nor is settling items
  close_left : (k : ℕ) (is : Parts) → Same (close k (settle_parts is)) (steps_in is + k) (leaves_last is)
  close_left zero (last r) = close_last_same (now (settle r)) (settle r) (steps_left r) (leaves r) (settle_left r)
  close_left (suc k) (last r) = (ap (λ n. n + suc k) (settle_left r).0, (settle_left r).1)
  close_left k (more r is) = more_same (now (settle r)) k (settle r) is (settle_parts is) (steps_left r) (leaves r) (done_left (settle r)) (settle_left r) (close_left k is)

-- MOVES

-- the steps of the threads that the act starts, and their ends
abbrev pub born : Act → ℕ
born (do_spawn cs r) = steps_left r + 1
born (do_par cs a ds b) = steps_left a + steps_left b + 2
born _ = 0

module _ {P : Type 0} (count : P → ℕ) (kind : P → Bool) where
  -- a move is one step of n, a thread that it starts takes its steps with it, and it leaves the same kind of value
  abbrev Falls : ℕ → Bool → Option (Move P) → Type 0
  Falls n b None = ⊤
  Falls n b (Some m) = (v : Value) → (count (m.plug v) + 1 + born m.act ≡ n) × (kind (m.plug v) ≡ b)

-- a move inside a move
next_falls : {P Q : Type 0} (count : P → ℕ) (kind : P → Bool) (other : Q → ℕ) (sort : Q → Bool) (f : P → Q) (o : Option (Move P)) (n m : ℕ) (b c : Bool) →
    ((q : P) (k : ℕ) → count q + 1 + k ≡ n → kind q ≡ b → (other (f q) + 1 + k ≡ m) × (sort (f q) ≡ c)) → Falls count kind n b o → Falls other sort m c (next f o)
next_falls count kind other sort f None n m b c g h = tt
next_falls count kind other sort f (Some x) n m b c g h = λ v. g (x.plug v) (born x.act) (h v).0 (h v).1

-- a term with one part: its own step where the part is done, else the part's
one_falls : (n : Now) (r : Run) (f : Run → Run) (own : Value → Option (Move Run)) (b : Bool) → Done n (steps_left r) (leaves r) → ((v : Value) → Falls steps_left leaves 1 b (own v)) →
    ((q : Run) → steps_left (f q) ≡ steps_left q + 1) → ((q : Run) → leaves (f q) ≡ b) → Falls steps_left leaves (steps_left r) (leaves r) (move r) → Falls steps_left leaves (steps_left r + 1) b (on_value n own (next f (move r)))
one_falls going r f own b d o g l h = next_falls steps_left leaves steps_left leaves f (move r) (steps_left r) (steps_left r + 1) (leaves r) b (λ q k e x. (omega (arith, e, g q), l q)) h
one_falls (constant v) r f own b d o g l h = let e : 1 ≡ steps_left r + 1 = omega (arith, d.0) in subst (λ n. Falls steps_left leaves n b (own v)) e (o v)
one_falls (temporary v) r f own b d o g l h = let e : 1 ≡ steps_left r + 1 = omega (arith, d.0) in subst (λ n. Falls steps_left leaves n b (own v)) e (o v)

-- dropping a slot is a step
end_falls : (k : ℕ) (is : Parts) → Falls steps_left leaves (steps_in is + k) (leaves_last is) (block_end k is)
end_falls zero is = tt
end_falls (suc k) is = λ v. (omega arith, refl)

-- of a block, by whether its items are done
block_falls : (n : Now) (k : ℕ) (is : Parts) → Falls steps_in leaves_last (steps_in is) (leaves_last is) (move_parts is) → Falls steps_left leaves (steps_in is + k) (leaves_last is) (on_value n (λ v. block_end k is) (next (block k) (move_parts is)))
block_falls going k is h = next_falls steps_in leaves_last steps_left leaves (block k) (move_parts is) (steps_in is) (steps_in is + k) (leaves_last is) (leaves_last is) (λ q n e l. (omega (arith, e), l)) h
block_falls (constant v) k is h = end_falls k is
block_falls (temporary v) k is h = end_falls k is

-- of items, by whether the first is done
more_falls : (n : Now) (r : Run) (is : Parts) → Done n (steps_left r) (leaves r) → Falls steps_left leaves (steps_left r) (leaves r) (move r) → Falls steps_in leaves_last (steps_in is) (leaves_last is) (move_parts is) →
    Falls steps_in leaves_last (steps_left r + one_if_temporary (leaves r) + steps_in is) (leaves_last is) (by_now n (next (λ x. more x is) (move r)) (λ v. move_parts is) (λ v. alone (λ x. is) (do_discard v)))
more_falls going r is d h g =
    next_falls steps_left leaves steps_in leaves_last (λ x. more x is) (move r) (steps_left r) (steps_left r + one_if_temporary (leaves r) + steps_in is) (leaves r) (leaves_last is)
    (λ q k e l. (omega (arith, e, ap one_if_temporary l), refl)) h
more_falls (constant v) r is d h g =
    let e : steps_in is ≡ steps_left r + one_if_temporary (leaves r) + steps_in is = omega (arith, d.0, ap one_if_temporary d.1) in
    subst (λ n. Falls steps_in leaves_last n (leaves_last is) (move_parts is)) e g
more_falls (temporary v) r is d h g = λ x. (omega (arith, d.0, ap one_if_temporary d.1), refl)

-- of an operation whose left operand has no step left
right_falls : (f : Op) (a b : Run) (v : Value) → steps_left a ≡ 0 → Falls steps_left leaves (steps_left b) (leaves b) (move b)
    → Falls steps_left leaves (steps_left a + steps_left b + 1) true (on_value (now b) (λ w. alone temp (do_arith f v w)) (next (arith_r f a) (move b)))
right_falls f a b v none g =
    let same : steps_left b + 1 ≡ steps_left a + steps_left b + 1 = omega (arith, none) in
    subst (λ n. Falls steps_left leaves n true (on_value (now b) (λ w. alone temp (do_arith f v w)) (next (arith_r f a) (move b)))) same
    (one_falls (now b) b (arith_r f a) (λ w. alone temp (do_arith f v w)) true (done_left b) (λ w x. (refl, refl)) (λ q. omega (arith, none)) (λ q. refl) g)

-- of an operation, by whether its left operand is done
arith_falls : (n : Now) (f : Op) (a b : Run) → now a ≡ n → Done n (steps_left a) (leaves a) → Falls steps_left leaves (steps_left a) (leaves a) (move a) → Falls steps_left leaves (steps_left b) (leaves b) (move b)
    → Falls steps_left leaves (steps_left a + steps_left b + 1) true (on_value n (λ v. on_value (now b) (λ w. alone temp (do_arith f v w)) (next (arith_r f a) (move b))) (next (λ x. arith_r f x b) (move a)))
arith_falls going f a b e d h g = next_falls steps_left leaves steps_left leaves (λ x. arith_r f x b) (move a) (steps_left a) (steps_left a + steps_left b + 1) (leaves a) true (λ q n k l. (omega (arith, k), refl)) h
arith_falls (constant v) f a b e d h g = right_falls f a b v d.0 g
arith_falls (temporary v) f a b e d h g = right_falls f a b v d.0 g

-- of a lock's body, by whether that is done: its value is the lock's
locked_falls : (n : Now) (r : Run) → Falls steps_left leaves (steps_left r) (leaves r) (move r) → Falls steps_left leaves (steps_left r + 1) (leaves r) (on_value n (λ v. alone (λ x. r) do_unlock) (next locked (move r)))
locked_falls going r h = next_falls steps_left leaves steps_left leaves locked (move r) (steps_left r) (steps_left r + 1) (leaves r) (leaves r) (λ q k e x. (omega (arith, e), x)) h
locked_falls (constant v) r h = λ u. (omega arith, refl)
locked_falls (temporary v) r h = λ u. (omega arith, refl)

mutual
  -- a move of a term is a step of it
  move_falls : (r : Run) → Falls steps_left leaves (steps_left r) (leaves r) (move r)
  move_falls (temp v) = tt
  move_falls unit_c = tt
  move_falls (number n) = tt
  move_falls (read w take) = λ v. (refl, refl)
  move_falls (borrow w is_mut) = λ v. (refl, refl)
  move_falls (box_r r) = one_falls (now r) r box_r (λ v. alone temp (do_box v)) true (done_left r) (λ v x. (refl, refl)) (λ q. refl) (λ q. refl) (move_falls r)
  move_falls (arith_r f a b) = arith_falls (now a) f a b refl (done_left a) (move_falls a) (move_falls b)
  move_falls (bind r) = one_falls (now r) r bind (λ v. alone (λ x. unit_c) (do_let v)) false (done_left r) (λ v x. (refl, refl)) (λ q. refl) (λ q. refl) (move_falls r)
  move_falls (print r) = one_falls (now r) r print (λ v. alone (λ x. unit_c) (do_print v)) false (done_left r) (λ v x. (refl, refl)) (λ q. refl) (λ q. refl) (move_falls r)
  move_falls (assign w r) = one_falls (now r) r (assign w) (λ v. alone (λ x. unit_c) (do_assign w v)) false (done_left r) (λ v x. (refl, refl)) (λ q. refl) (λ q. refl) (move_falls r)
  move_falls (block k is) = block_falls (now_parts is) k is (parts_falls is)
  move_falls (spawn cs r) = λ v. (omega arith, refl)
  move_falls (join_r r) = one_falls (now r) r join_r (λ v. alone temp (do_join v)) true (done_left r) (λ v x. (refl, refl)) (λ q. refl) (λ q. refl) (move_falls r)
  move_falls (mutex_r r) = one_falls (now r) r mutex_r (λ v. alone temp (do_mutex v)) true (done_left r) (λ v x. (refl, refl)) (λ q. refl) (λ q. refl) (move_falls r)
  move_falls (dup w) = λ v. (refl, refl)
  move_falls (lock w r) = λ v. (omega arith, refl)
  move_falls (locked r) = locked_falls (now r) r (move_falls r)
  move_falls (par cs a ds b) = λ v. (omega arith, refl)
  move_falls par_end = λ v. (refl, refl)

  -- a move of items is a step of them
  parts_falls : (is : Parts) → Falls steps_in leaves_last (steps_in is) (leaves_last is) (move_parts is)
  parts_falls (last r) = next_falls steps_left leaves steps_in leaves_last last (move r) (steps_left r) (steps_left r) (leaves r) (leaves r) (λ q k e l. (e, l)) (move_falls r)
  parts_falls (more r is) = more_falls (now r) r is (done_left r) (move_falls r) (parts_falls is)

-- of a thread, by whether its term is done
life_by : (n : Now) (r : Run) (wrap : Run → Life) (f : Value → Life) (a : Value → Act) (m : Move Life) (v : Value) → Done n (steps_left r) (leaves r) → Falls steps_left leaves (steps_left r) (leaves r) (move r) →
    ((q : Run) → life_left (settle_life (wrap q)) ≡ steps_left q + 1) → ((u : Value) → life_left (settle_life (f u)) ≡ 0) → ((u : Value) → born (a u) ≡ 0) →
    on_value n (λ u. alone f (a u)) (next wrap (move r)) ≡ Some m → life_left (settle_life (m.plug v)) + 1 + born m.act ≡ steps_left r + 1
life_by going r wrap f a m v d h w z k e = by (move r) h e
  where
    by : (o : Option (Move Run)) → Falls steps_left leaves (steps_left r) (leaves r) o → next wrap o ≡ Some m → life_left (settle_life (m.plug v)) + 1 + born m.act ≡ steps_left r + 1
    by None h e = absurd cc
    by (Some x) h e =
        let same : m ≡ record { act = x.act; plug = λ u. wrap (x.plug u) } = cc in
        let g = ap (λ (y : Move Life). life_left (settle_life (y.plug v)) + 1 + born y.act) same in
        omega (arith, g, w (x.plug v), (h v).0)
life_by (constant u) r wrap f a m v d h w z k e =
    let same : m ≡ record { act = a u; plug = f } = cc in
    let g = ap (λ (y : Move Life). life_left (settle_life (y.plug v)) + 1 + born y.act) same in
    omega (arith, g, z v, k u, d.0)
life_by (temporary u) r wrap f a m v d h w z k e =
    let same : m ≡ record { act = a u; plug = f } = cc in
    let g = ap (λ (y : Move Life). life_left (settle_life (y.plug v)) + 1 + born y.act) same in
    omega (arith, g, z v, k u, d.0)

-- settling leaves as many steps of a thread in progress
settled_left : (q : Run) → steps_left (settle q) + 1 ≡ steps_left q + 1
settled_left q = ap (λ n. n + 1) (settle_left q).0

-- after a step of a thread one step less is left, beside those that it gave to a thread that it starts
pub life_falls : (l : Life) (m : Move Life) (v : Value) → life_move l ≡ Some m → life_left (settle_life (m.plug v)) + 1 + born m.act ≡ life_left l
life_falls (alive r) m v e = life_by (now r) r alive (λ x. over) do_end m v (done_left r) (move_falls r) settled_left (λ u. refl) (λ u. refl) e
life_falls (owing r) m v e = life_by (now r) r owing ended do_finish m v (done_left r) (move_falls r) settled_left (λ u. refl) (λ u. refl) e
life_falls (loose r) m v e = life_by (now r) r loose (λ x. over) do_leave m v (done_left r) (move_falls r) settled_left (λ u. refl) (λ u. refl) e
life_falls over m v e = absurd cc
life_falls (ended u) m v e = absurd cc
