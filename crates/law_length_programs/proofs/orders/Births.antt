-- How many threads a running term starts: a move starts some of them, and what needs no step starts none.
use Rattle.std.proofs.Common.{◌≡◌, ◌≤◌, ℕ, zero, suc, ◌+◌, Option, Some, None, refl, ap, arith}
use Rattle.std.specs.Prelude.{⊤}
use Rattle.fr_plain.specs.declared.value.Value.{Value}
use Rattle.fr_plain.specs.Acts.{Act, do_end, do_box, do_arith, do_let, do_print, do_assign, do_discard, do_spawn, do_join, do_finish, do_leave, do_mutex, do_unlock, do_par}
use Rattle.fr_plain.specs.Run.{Run, temp, unit_c, number, read, borrow, box_r, arith as arith_r, bind, print, assign, block, spawn, join_r, mutex_r, dup, lock, locked, par, par_end, Parts, last, more, Now, going, constant, temporary, by_now, on_value, now, now_parts, settle_more, settle_right, close_last, close, settle, settle_parts, Move, next, alone, block_end, move, move_parts, Life, alive, over, owing, loose, ended, settle_life, life_move}

abbrev mutual
  -- the threads that it starts, with those that these start
  pub births : Run → ℕ
  births (temp v) = 0
  births unit_c = 0
  births (number n) = 0
  births (read w take) = 0
  births (borrow w is_mut) = 0
  births (box_r r) = births r
  births (arith_r f a b) = births a + births b
  births (bind r) = births r
  births (print r) = births r
  births (assign w r) = births r
  births (block k is) = births_in is
  births (spawn cs r) = births r + 1
  births (join_r r) = births r
  births (mutex_r r) = births r
  births (dup w) = 0
  births (lock w r) = births r
  births (locked r) = births r
  births (par cs a ds b) = births a + births b + 2
  births par_end = 0

  pub births_in : Parts → ℕ
  births_in (last r) = births r
  births_in (more r is) = births r + births_in is

abbrev pub life_births : Life → ℕ
life_births (alive r) = births r
life_births over = 0
life_births (owing r) = births r
life_births (loose r) = births r
life_births (ended v) = 0

-- the threads that an act starts, with those that these start
abbrev pub born : Act → ℕ
born (do_spawn cs r) = births r + 1
born (do_par cs a ds b) = births a + births b + 2
born _ = 0

-- SETTLING

close_last_fewer : (n : Now) (r : Run) → births (close_last n r) ≤ births r
close_last_fewer going r = omega arith
close_last_fewer (constant v) r = omega arith
close_last_fewer (temporary v) r = omega arith

close_fewer : (k : ℕ) (is : Parts) → births (close k is) ≤ births_in is
close_fewer zero (last r) = close_last_fewer (now r) r
close_fewer zero (more r is) = omega arith
close_fewer (suc k) is = omega arith

right_fewer : (n : Now) (b rest : Run) → births rest ≤ births b → births (settle_right n b rest) ≤ births b
right_fewer going b rest h = omega arith
right_fewer (constant v) b rest h = h
right_fewer (temporary v) b rest h = h

more_fewer : (n : Now) (r : Run) (is rest : Parts) → births_in rest ≤ births_in is → births_in (settle_more n r is rest) ≤ births r + births_in is
more_fewer going r is rest h = omega arith
more_fewer (constant v) r is rest h = omega (arith, h)
more_fewer (temporary v) r is rest h = omega arith

mutual
  -- settling starts no thread
  pub settle_fewer : (r : Run) → births (settle r) ≤ births r
  settle_fewer (temp v) = omega arith
  settle_fewer unit_c = omega arith
  settle_fewer (number n) = omega arith
  settle_fewer (read w take) = omega arith
  settle_fewer (borrow w is_mut) = omega arith
  settle_fewer (box_r r) = settle_fewer r
  settle_fewer (arith_r f a b) = omega (arith, settle_fewer a, right_fewer (now (settle a)) b (settle b) (settle_fewer b))
  settle_fewer (bind r) = settle_fewer r
  settle_fewer (print r) = settle_fewer r
  settle_fewer (assign w r) = settle_fewer r
  settle_fewer (block k is) = omega (arith, close_fewer k (settle_parts is), parts_fewer is)
  settle_fewer (spawn cs r) = omega arith
  settle_fewer (join_r r) = settle_fewer r
  settle_fewer (mutex_r r) = settle_fewer r
  settle_fewer (dup w) = omega arith
  settle_fewer (lock w r) = omega arith
  settle_fewer (locked r) = settle_fewer r
  settle_fewer (par cs a ds b) = omega arith
  settle_fewer par_end = omega arith

  -- nor does settling items
  parts_fewer : (is : Parts) → births_in (settle_parts is) ≤ births_in is
  parts_fewer (last r) = settle_fewer r
  parts_fewer (more r is) = omega (arith, more_fewer (now (settle r)) (settle r) is (settle_parts is) (parts_fewer is), settle_fewer r)

-- MOVES

module _ {P : Type 0} (count : P → ℕ) where
  -- a move starts threads of so many
  abbrev Falls : ℕ → Option (Move P) → Type 0
  Falls n None = ⊤
  Falls n (Some m) = (v : Value) → count (m.plug v) + born m.act ≤ n

-- a move inside a move
next_falls : {P Q : Type 0} (count : P → ℕ) (other : Q → ℕ) (f : P → Q) (o : Option (Move P)) (n m : ℕ) → ((q : P) (k : ℕ) → count q + k ≤ n → other (f q) + k ≤ m) → Falls count n o → Falls other m (next f o)
next_falls count other f None n m g h = tt
next_falls count other f (Some x) n m g h = λ v. g (x.plug v) (born x.act) (h v)

-- a term with one part: its own move where the part is done, else the part's
one_falls : (n : Now) (r : Run) (f : Run → Run) (own : Value → Option (Move Run)) (m : ℕ) → ((v : Value) → Falls births m (own v)) → ((q : Run) (k : ℕ) → births q + k ≤ births r → births (f q) + k ≤ m) → Falls births (births r) (move r)
    → Falls births m (on_value n own (next f (move r)))
one_falls going r f own m o g h = next_falls births births f (move r) (births r) m g h
one_falls (constant v) r f own m o g h = o v
one_falls (temporary v) r f own m o g h = o v

end_falls : (k : ℕ) (is : Parts) → Falls births (births_in is) (block_end k is)
end_falls zero is = tt
end_falls (suc k) is = λ v. omega arith

block_falls : (n : Now) (k : ℕ) (is : Parts) → Falls births_in (births_in is) (move_parts is) → Falls births (births_in is) (on_value n (λ v. block_end k is) (next (block k) (move_parts is)))
block_falls going k is h = next_falls births_in births (block k) (move_parts is) (births_in is) (births_in is) (λ q k e. e) h
block_falls (constant v) k is h = end_falls k is
block_falls (temporary v) k is h = end_falls k is

-- the same with more
parts_of_more : (o : Option (Move Parts)) (n m : ℕ) → n ≤ m → Falls births_in n o → Falls births_in m o
parts_of_more None n m l h = tt
parts_of_more (Some x) n m l h = λ v. (let e = h v in omega (arith, e, l))

more_falls : (n : Now) (r : Run) (is : Parts) → Falls births (births r) (move r) → Falls births_in (births_in is) (move_parts is)
    → Falls births_in (births r + births_in is) (by_now n (next (λ x. more x is) (move r)) (λ v. move_parts is) (λ v. alone (λ x. is) (do_discard v)))
more_falls going r is h g = next_falls births births_in (λ x. more x is) (move r) (births r) (births r + births_in is) (λ q k e. omega (arith, e)) h
more_falls (constant v) r is h g = parts_of_more (move_parts is) (births_in is) (births r + births_in is) (omega arith) g
more_falls (temporary v) r is h g = λ x. omega arith

arith_falls : (n : Now) (f : _) (a b : Run) → Falls births (births a) (move a) → Falls births (births b) (move b)
    → Falls births (births a + births b) (on_value n (λ v. on_value (now b) (λ w. alone temp (do_arith f v w)) (next (arith_r f a) (move b))) (next (λ x. arith_r f x b) (move a)))
arith_falls going f a b h g = next_falls births births (λ x. arith_r f x b) (move a) (births a) (births a + births b) (λ q k e. omega (arith, e)) h
arith_falls (constant v) f a b h g = one_falls (now b) b (arith_r f a) (λ w. alone temp (do_arith f v w)) (births a + births b) (λ w x. omega arith) (λ q k e. omega (arith, e)) g
arith_falls (temporary v) f a b h g = one_falls (now b) b (arith_r f a) (λ w. alone temp (do_arith f v w)) (births a + births b) (λ w x. omega arith) (λ q k e. omega (arith, e)) g

locked_falls : (n : Now) (r : Run) → Falls births (births r) (move r) → Falls births (births r) (on_value n (λ v. alone (λ x. r) do_unlock) (next locked (move r)))
locked_falls going r h = next_falls births births locked (move r) (births r) (births r) (λ q k e. e) h
locked_falls (constant v) r h = λ u. omega arith
locked_falls (temporary v) r h = λ u. omega arith

mutual
  -- a move of a term starts threads of its own
  move_falls : (r : Run) → Falls births (births r) (move r)
  move_falls (temp v) = tt
  move_falls unit_c = tt
  move_falls (number n) = tt
  move_falls (read w take) = λ v. omega arith
  move_falls (borrow w is_mut) = λ v. omega arith
  move_falls (box_r r) = one_falls (now r) r box_r (λ v. alone temp (do_box v)) (births r) (λ v x. omega arith) (λ q k e. e) (move_falls r)
  move_falls (arith_r f a b) = arith_falls (now a) f a b (move_falls a) (move_falls b)
  move_falls (bind r) = one_falls (now r) r bind (λ v. alone (λ x. unit_c) (do_let v)) (births r) (λ v x. omega arith) (λ q k e. e) (move_falls r)
  move_falls (print r) = one_falls (now r) r print (λ v. alone (λ x. unit_c) (do_print v)) (births r) (λ v x. omega arith) (λ q k e. e) (move_falls r)
  move_falls (assign w r) = one_falls (now r) r (assign w) (λ v. alone (λ x. unit_c) (do_assign w v)) (births r) (λ v x. omega arith) (λ q k e. e) (move_falls r)
  move_falls (block k is) = block_falls (now_parts is) k is (parts_falls is)
  move_falls (spawn cs r) = λ v. omega arith
  move_falls (join_r r) = one_falls (now r) r join_r (λ v. alone temp (do_join v)) (births r) (λ v x. omega arith) (λ q k e. e) (move_falls r)
  move_falls (mutex_r r) = one_falls (now r) r mutex_r (λ v. alone temp (do_mutex v)) (births r) (λ v x. omega arith) (λ q k e. e) (move_falls r)
  move_falls (dup w) = λ v. omega arith
  move_falls (lock w r) = λ v. omega arith
  move_falls (locked r) = locked_falls (now r) r (move_falls r)
  move_falls (par cs a ds b) = λ v. omega arith
  move_falls par_end = λ v. omega arith

  -- and so does one of items
  parts_falls : (is : Parts) → Falls births_in (births_in is) (move_parts is)
  parts_falls (last r) = next_falls births births_in last (move r) (births r) (births r) (λ q k e. e) (move_falls r)
  parts_falls (more r is) = more_falls (now r) r is (move_falls r) (parts_falls is)

-- A THREAD

life_by : (n : Now) (r : Run) (wrap : Run → Life) (f : Value → Life) (a : Value → Act) (m : Move Life) (v : Value) → Falls births (births r) (move r) → ((q : Run) → life_births (settle_life (wrap q)) ≤ births q) → ((u : Value) → life_births (settle_life (f u)) ≡ 0)
    → ((u : Value) → born (a u) ≡ 0) → on_value n (λ u. alone f (a u)) (next wrap (move r)) ≡ Some m → life_births (settle_life (m.plug v)) + born m.act ≤ births r
life_by going r wrap f a m v h w z k e = by (move r) h e
  where
    by : (o : Option (Move Run)) → Falls births (births r) o → next wrap o ≡ Some m → life_births (settle_life (m.plug v)) + born m.act ≤ births r
    by None h e = absurd cc
    by (Some x) h e =
        let same : m ≡ record { act = x.act; plug = λ u. wrap (x.plug u) } = cc in
        let g = ap (λ (y : Move Life). life_births (settle_life (y.plug v)) + born y.act) same in
        omega (arith, g, w (x.plug v), h v)
life_by (constant u) r wrap f a m v h w z k e =
    let same : m ≡ record { act = a u; plug = f } = cc in
    let g = ap (λ (y : Move Life). life_births (settle_life (y.plug v)) + born y.act) same in
    omega (arith, g, z v, k u)
life_by (temporary u) r wrap f a m v h w z k e =
    let same : m ≡ record { act = a u; plug = f } = cc in
    let g = ap (λ (y : Move Life). life_births (settle_life (y.plug v)) + born y.act) same in
    omega (arith, g, z v, k u)

-- a step of a thread starts threads of its own
pub life_falls : (l : Life) (m : Move Life) (v : Value) → life_move l ≡ Some m → life_births (settle_life (m.plug v)) + born m.act ≤ life_births l
life_falls (alive r) m v e = life_by (now r) r alive (λ x. over) do_end m v (move_falls r) settle_fewer (λ u. refl) (λ u. refl) e
life_falls (owing r) m v e = life_by (now r) r owing ended do_finish m v (move_falls r) settle_fewer (λ u. refl) (λ u. refl) e
life_falls (loose r) m v e = life_by (now r) r loose (λ x. over) do_leave m v (move_falls r) settle_fewer (λ u. refl) (λ u. refl) e
life_falls over m v e = absurd cc
life_falls (ended u) m v e = absurd cc
