-- A term has a piece for each of its steps, with those of the threads that it starts; what these are; and no other piece starts a thread.
use Rattle.std.proofs.Common.{◌≡◌, ℕ, zero, suc, ◌+◌, ◌≤◌, Bool, true, false, List, [], ◌∷◌, ◌++◌, length, refl, arith, length-append}
use Rattle.std.specs.Prelude.{⊤}
use Rattle.fr_base.specs.declared.place.Lval.{Lval}
use Rattle.fr_base.specs.declared.instruction.Operand.{Operand}
use Rattle.fr_base.specs.declared.instruction.Operand.TheVariants as operand
use Rattle.fr_base.specs.declared.instruction.Instr.TheVariants as instr
use Rattle.fr_plain.specs.Run.{Run, temp, unit_c, number, read, borrow, box_r, arith as arith_r, bind, print, assign, block, spawn, join_r, mutex_r, dup, lock, locked, par, par_end, Parts, last, more, one_if_temporary, leaves, leaves_last, steps_left, steps_in}
use Rattle.fr_code.specs.StandsFor.{operand_of, operand_of_last, IsSource, AreSource, borrowing}
use Rattle.law_plain_table.specs.Layout.{bodies_of}
use Rattle.law_plain_table.specs.CodeOf.{Piece, does, starts, starts_two, given_up, drops, pieces, pieces_in, thread, threads_of, started_by}
use Rattle.law_plain_table.proofs.Coded.{one_longer, AllSource}

-- HOW MANY

-- with those of the threads that are started
abbrev pub count : List Piece → ℕ
count [] = 0
count (does i ∷ ps) = count ps + 1
count (starts cs r ∷ ps) = steps_left r + 2 + count ps
count (starts_two cs a ds b ∷ ps) = steps_left a + steps_left b + 3 + count ps

pub count_join : (ps qs : List Piece) → count (ps ++ qs) ≡ count ps + count qs
count_join [] qs = omega arith
count_join (does i ∷ ps) qs = let r = count_join ps qs in omega (arith, r)
count_join (starts cs r ∷ ps) qs = let r = count_join ps qs in omega (arith, r)
count_join (starts_two cs a ds b ∷ ps) qs = let r = count_join ps qs in omega (arith, r)

mutual
  count_given : (r : Run) → count (given_up (operand_of r)) ≡ one_if_temporary (leaves r)
  count_given (temp v) = refl
  count_given unit_c = refl
  count_given (number n) = refl
  count_given (read w take) = refl
  count_given (borrow w is_mut) = refl
  count_given (box_r r) = refl
  count_given (arith_r f a b) = refl
  count_given (bind r) = refl
  count_given (print r) = refl
  count_given (assign w r) = refl
  count_given (block k is) = count_given_last is
  count_given (spawn cs r) = refl
  count_given (join_r r) = refl
  count_given (mutex_r r) = refl
  count_given (dup w) = refl
  count_given (lock w r) = count_given r
  count_given (locked r) = count_given r
  count_given (par cs a ds b) = refl
  count_given par_end = refl

  count_given_last : (is : Parts) → count (given_up (operand_of_last is)) ≡ one_if_temporary (leaves_last is)
  count_given_last (last r) = count_given r
  count_given_last (more r is) = count_given_last is

count_drops : (k : ℕ) → count (drops k) ≡ k
count_drops zero = refl
count_drops (suc k) = let r = count_drops k in omega (arith, r)

mutual
  counted : (r : Run) → count (pieces r) ≡ steps_left r
  counted (temp v) = refl
  counted unit_c = refl
  counted (number n) = refl
  counted (read w take) = refl
  counted (borrow w is_mut) = refl
  counted (box_r r) = omega (arith, counted r, count_join (pieces r) (does (instr.Box (operand_of r)) ∷ []))
  counted (arith_r f a b) =
      let op = does (instr.Arith f (operand_of a) (operand_of b)) in
      omega (arith, counted a, counted b, count_join (pieces a) (pieces b ++ op ∷ []), count_join (pieces b) (op ∷ []))
  counted (bind r) = omega (arith, counted r, count_join (pieces r) (does (instr.Let (operand_of r)) ∷ []))
  counted (print r) = omega (arith, counted r, count_join (pieces r) (does (instr.Print (operand_of r)) ∷ []))
  counted (assign w r) = omega (arith, counted r, count_join (pieces r) (does (instr.Assign w (operand_of r)) ∷ []))
  counted (block k is) = omega (arith, counted_in is, count_drops k, count_join (pieces_in is) (drops k))
  counted (spawn cs r) = omega arith
  counted (join_r r) = omega (arith, counted r, count_join (pieces r) (does (instr.Join (operand_of r)) ∷ []))
  counted (mutex_r r) = omega (arith, counted r, count_join (pieces r) (does (instr.Mutex (operand_of r)) ∷ []))
  counted (dup w) = refl
  counted (lock w r) = omega (arith, counted r, count_join (pieces r) (does instr.Unlock ∷ []))
  counted (locked r) = omega (arith, counted r, count_join (pieces r) (does instr.Unlock ∷ []))
  counted (par cs a ds b) = omega arith
  counted par_end = refl

  counted_in : (is : Parts) → count (pieces_in is) ≡ steps_in is
  counted_in (last r) = counted r
  counted_in (more r is) = omega (arith, counted r, count_given r, counted_in is, count_join (pieces r) (given_up (operand_of r) ++ pieces_in is), count_join (given_up (operand_of r)) (pieces_in is))

pub counted_thread : (r : Run) → count (thread r) ≡ steps_left r + 1
counted_thread r = omega (arith, counted r, count_join (pieces r) (does (instr.End (operand_of r)) ∷ []))

-- the pieces, and those of the threads that they start
pub count_is : (ps : List Piece) → count ps ≡ length ps + count (threads_of (started_by ps))
count_is [] = refl
count_is (does i ∷ ps) = let r = count_is ps in omega (arith, r)
count_is (starts cs r ∷ ps) = let k = count_is ps in omega (arith, k, counted_thread r, count_join (thread r) (threads_of (started_by ps)))
count_is (starts_two cs a ds b ∷ ps) =
    let k = count_is ps in
    let us = threads_of (started_by ps) in
    omega (arith, k, counted_thread a, counted_thread b, count_join (thread a) (thread b ++ us), count_join (thread b) us)

-- fewer are left behind a generation
pub fewer : (rs : List Run) (d : ℕ) → count (threads_of rs) ≤ suc d → count (threads_of (started_by (threads_of rs))) ≤ d
fewer [] d h = omega arith
fewer (r ∷ rs) d h = omega (arith, h, count_is (threads_of (r ∷ rs)), length-append (thread r) (threads_of rs), one_longer (pieces r) (does (instr.End (operand_of r))))

-- WHAT IS STARTED

-- of a piece that starts threads no step was made in their terms; another one starts none
abbrev IsGood : Piece → Type 0
IsGood (does i) = bodies_of i ≡ []
IsGood (starts cs r) = IsSource r
IsGood (starts_two cs a ds b) = IsSource a × IsSource b

abbrev pub AreGood : List Piece → Type 0
AreGood [] = ⊤
AreGood (x ∷ ps) = IsGood x × AreGood ps

good_join : (ps qs : List Piece) → AreGood ps → AreGood qs → AreGood (ps ++ qs)
good_join [] qs h g = g
good_join (x ∷ ps) qs h g = (h.0, good_join ps qs h.1 g)

good_borrow : (b : Bool) (w : Lval) → bodies_of (borrowing w b) ≡ []
good_borrow true w = refl
good_borrow false w = refl

good_given : (o : Operand) → AreGood (given_up o)
good_given operand.Pop = (refl, tt)
good_given (operand.Const n) = tt
good_given operand.Unit = tt

good_drops : (k : ℕ) → AreGood (drops k)
good_drops zero = tt
good_drops (suc k) = (refl, good_drops k)

mutual
  good : (r : Run) → IsSource r → AreGood (pieces r)
  good (temp v) s = tt
  good unit_c s = tt
  good (number n) s = tt
  good (read w take) s = (refl, tt)
  good (borrow w is_mut) s = (good_borrow is_mut w, tt)
  good (box_r r) s = good_join (pieces r) _ (good r s) (refl, tt)
  good (arith_r f a b) s = good_join (pieces a) _ (good a s.0) (good_join (pieces b) _ (good b s.1) (refl, tt))
  good (bind r) s = good_join (pieces r) _ (good r s) (refl, tt)
  good (print r) s = good_join (pieces r) _ (good r s) (refl, tt)
  good (assign w r) s = good_join (pieces r) _ (good r s) (refl, tt)
  good (block k is) s = good_join (pieces_in is) _ (good_in is s) (good_drops k)
  good (spawn cs r) s = (s, tt)
  good (join_r r) s = good_join (pieces r) _ (good r s) (refl, tt)
  good (mutex_r r) s = good_join (pieces r) _ (good r s) (refl, tt)
  good (dup w) s = (refl, tt)
  good (lock w r) s = (refl, good_join (pieces r) _ (good r s) (refl, tt))
  good (locked r) s = absurd s
  good (par cs a ds b) s = (s, (refl, tt))
  good par_end s = absurd s

  good_in : (is : Parts) → AreSource is → AreGood (pieces_in is)
  good_in (last r) s = good r s
  good_in (more r is) s = good_join (pieces r) _ (good r s.0) (good_join (given_up (operand_of r)) _ (good_given (operand_of r)) (good_in is s.1))

pub good_threads : (rs : List Run) → AllSource rs → AreGood (threads_of rs)
good_threads [] s = tt
good_threads (r ∷ rs) s = good_join (thread r) (threads_of rs) (good_join (pieces r) _ (good r s.0) (refl, tt)) (good_threads rs s.1)

pub good_started : (ps : List Piece) → AreGood ps → AllSource (started_by ps)
good_started [] h = tt
good_started (does i ∷ ps) h = good_started ps h.1
good_started (starts cs r ∷ ps) h = (h.0, good_started ps h.1)
good_started (starts_two cs a ds b ∷ ps) h = (h.0.0, (h.0.1, good_started ps h.1))
