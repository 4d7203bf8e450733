-- Where the pieces of a term stand, the term's code stands.
use Rattle.std.proofs.Common.{◌≡◌, ℕ, zero, suc, ◌+◌, Bool, List, [], ◌∷◌, ◌++◌, length, Some, refl, ap, subst, arith, length-append}
use Rattle.std.specs.Prelude.{⊤, slice_get}
use Rattle.fr_base.specs.declared.instruction.Operand.{Operand}
use Rattle.fr_base.specs.declared.instruction.Operand.TheVariants as operand
use Rattle.fr_base.specs.declared.instruction.Instr.{Instr}
use Rattle.fr_base.specs.declared.instruction.Instr.TheVariants as instr
use Rattle.fr_base.specs.Rooms.{WithRoom}
use Rattle.fr_plain.specs.Run.{Capture, Run, temp, unit_c, number, read, borrow, box_r, arith as arith_r, bind, print, assign, block, spawn, join_r, mutex_r, dup, lock, locked, par, par_end, Parts, last, more, Now, going, constant, temporary, now}
use Rattle.fr_code.specs.Steps.{captured}
use Rattle.fr_code.specs.StandsFor.{operand_of, IsSource, AreSource, Later, LaterParts, Discards, DropsAt, At, AtParts, IsCodeFrom}
use Rattle.law_plain_table.specs.CodeOf.{Piece, does, starts, starts_two, given_up, drops, pieces, pieces_in, thread, threads_of, size, slots, placed}

-- the slots of captures are those captures
pub captured_slots : (cs : List Capture) → captured (slots cs).items ≡ cs
captured_slots [] = refl
captured_slots (c ∷ cs) = ap (λ ds. c ∷ ds) (captured_slots cs)

pub length_placed : (n : ℕ) (ps : List Piece) → length (placed n ps) ≡ length ps
length_placed n [] = refl
length_placed n (does i ∷ ps) = ap suc (length_placed n ps)
length_placed n (starts cs r ∷ ps) = ap suc (length_placed (n + size r) ps)
length_placed n (starts_two cs a ds b ∷ ps) = ap suc (length_placed (n + size a + size b) ps)

-- a piece more
pub one_longer : (ps : List Piece) (x : Piece) → length (ps ++ x ∷ []) ≡ length ps + 1
one_longer ps x = let l = length-append ps (x ∷ []) in omega (arith, l)

later_is : (n : Now) (A : Type 0) → A → Later n A
later_is going A a = a
later_is (constant v) A a = tt
later_is (temporary v) A a = tt

later_parts : (n : Now) (A : Type 0) → A → LaterParts n A
later_parts going A a = a
later_parts (constant v) A a = tt
later_parts (temporary v) A a = a

-- no step was made in any of them
abbrev pub AllSource : List Run → Type 0
AllSource [] = ⊤
AllSource (r ∷ rs) = IsSource r × AllSource rs

module _ (code : List Instr) where
  -- the instructions stand there
  abbrev pub Has : ℕ → List Instr → Type 0
  Has p [] = ⊤
  Has p (i ∷ is) = (slice_get code p ≡ Some i) × Has (p + 1) is

  pub has_split : (is js : List Instr) (p : ℕ) → Has p (is ++ js) → Has p is × Has (p + length is) js
  has_split [] js p h = (tt, subst (λ n. Has n js) (omega arith) h)
  has_split (i ∷ is) js p h =
      let k = has_split is js (p + 1) h.1 in
      let e : p + 1 + length is ≡ p + length (i ∷ is) = omega arith in
      ((h.0, k.0), subst (λ n. Has n js) e k.1)

  -- a thread's code stands there, with its end
  pub record Stood (p : ℕ) (r : Run) : Type 0 where
    pub from : IsCodeFrom code p r
    pub next : p + size r ≡ from.to + 1

  -- threads one behind another
  abbrev pub Started : ℕ → List Run → Type 0
  Started p [] = ⊤
  Started p (r ∷ rs) = Stood p r × Started (p + size r) rs

  -- the instruction stands there, and the threads that it starts stand somewhere
  abbrev pub Stands : ℕ → Piece → Type 0
  Stands p (does i) = slice_get code p ≡ Some i
  Stands p (starts cs r) = (xs : WithRoom (ℕ × Bool)) × (to : ℕ) × (slice_get code p ≡ Some (instr.Spawn xs to)) × (captured xs.items ≡ cs) × IsCodeFrom code to r
  Stands p (starts_two cs a ds b) =
      (xs ys : WithRoom (ℕ × Bool)) × (to other : ℕ) × (slice_get code p ≡ Some (instr.Par xs to ys other)) × (captured xs.items ≡ cs) × (captured ys.items ≡ ds) × IsCodeFrom code to a × IsCodeFrom code other b

  abbrev pub Fits : ℕ → List Piece → Type 0
  Fits p [] = ⊤
  Fits p (x ∷ ps) = Stands p x × Fits (p + 1) ps

  pub fits_split : (ps qs : List Piece) (p : ℕ) → Fits p (ps ++ qs) → Fits p ps × Fits (p + length ps) qs
  fits_split [] qs p h = (tt, subst (λ n. Fits n qs) (omega arith) h)
  fits_split (x ∷ ps) qs p h =
      let k = fits_split ps qs (p + 1) h.1 in
      let e : p + 1 + length ps ≡ p + length (x ∷ ps) = omega arith in
      ((h.0, k.0), subst (λ n. Fits n qs) e k.1)

  discards : (o : Operand) (p : ℕ) → Fits p (given_up o) → Discards code o p (p + length (given_up o))
  discards operand.Pop p h = (h.0, omega arith)
  discards (operand.Const n) p h = omega arith
  discards operand.Unit p h = omega arith

  drops_at : (k p : ℕ) → Fits p (drops k) → DropsAt code p k (p + length (drops k))
  drops_at zero p h = omega arith
  drops_at (suc k) p h = let e : p + 1 + length (drops k) ≡ p + suc (length (drops k)) = omega arith in (h.0, subst (DropsAt code (p + 1) k) e (drops_at k (p + 1) h.1))

  -- the last of some pieces, and those before it
  record Ending (p : ℕ) (ps : List Piece) (i : Instr) : Type 0 where
    front : Fits p ps
    there : slice_get code (p + length ps) ≡ Some i
    next : p + length (ps ++ does i ∷ []) ≡ p + length ps + 1

  ending : (p : ℕ) (ps : List Piece) (i : Instr) → Fits p (ps ++ does i ∷ []) → Ending p ps i
  ending p ps i h = let k = fits_split ps (does i ∷ []) p h in let l = one_longer ps (does i) in record { front = k.0; there = k.1.0; next = omega (arith, l) }

  mutual
    pub stands : (r : Run) (p : ℕ) → IsSource r → Fits p (pieces r) → At code p r (p + length (pieces r))
    stands (temp v) p s h = absurd s
    stands unit_c p s h = omega arith
    stands (number n) p s h = omega arith
    stands (read w take) p s h = (h.0, omega arith)
    stands (borrow w is_mut) p s h = (h.0, omega arith)
    stands (box_r r) p s h = let k = ending p (pieces r) (instr.Box (operand_of r)) h in (p + length (pieces r), stands r p s k.front, k.there, k.next)
    stands (arith_r f a b) p s h =
        let op = instr.Arith f (operand_of a) (operand_of b) in
        let k = fits_split (pieces a) (pieces b ++ does op ∷ []) p h in
        let l = ending (p + length (pieces a)) (pieces b) op k.1 in
        let n = l.next in
        let e = length-append (pieces a) (pieces b ++ does op ∷ []) in
        (p + length (pieces a), p + length (pieces a) + length (pieces b), stands a p s.0 k.0, stands b (p + length (pieces a)) s.1 l.front, l.there, omega (arith, n, e), later_is (now a) (IsSource b) s.1)
    stands (bind r) p s h = let k = ending p (pieces r) (instr.Let (operand_of r)) h in (p + length (pieces r), stands r p s k.front, k.there, k.next)
    stands (print r) p s h = let k = ending p (pieces r) (instr.Print (operand_of r)) h in (p + length (pieces r), stands r p s k.front, k.there, k.next)
    stands (assign w r) p s h = let k = ending p (pieces r) (instr.Assign w (operand_of r)) h in (p + length (pieces r), stands r p s k.front, k.there, k.next)
    stands (block k is) p s h =
        let f = fits_split (pieces_in is) (drops k) p h in
        let l = length-append (pieces_in is) (drops k) in
        let e : p + length (pieces_in is) + length (drops k) ≡ p + length (pieces_in is ++ drops k) = omega (arith, l) in
        (p + length (pieces_in is), stands_in is p s f.0, subst (DropsAt code (p + length (pieces_in is)) k) e (drops_at k (p + length (pieces_in is)) f.1))
    stands (spawn cs r) p s h = let b = h.0.4 in (h.0.0, h.0.1, b.to, h.0.2, h.0.3, omega arith, b.at, b.over, b.source)
    stands (join_r r) p s h = let k = ending p (pieces r) (instr.Join (operand_of r)) h in (p + length (pieces r), stands r p s k.front, k.there, k.next)
    stands (mutex_r r) p s h = let k = ending p (pieces r) (instr.Mutex (operand_of r)) h in (p + length (pieces r), stands r p s k.front, k.there, k.next)
    stands (dup w) p s h = (h.0, omega arith)
    stands (lock w r) p s h =
        let k = ending (p + 1) (pieces r) instr.Unlock h.1 in
        let n = k.next in
        (p + 1 + length (pieces r), h.0, stands r (p + 1) s k.front, (k.there, omega (arith, n)), s)
    stands (locked r) p s h = absurd s
    stands (par cs a ds b) p s h =
        let u = h.0.7 in
        let v = h.0.8 in
        (h.0.2, u.to, h.0.3, v.to, record { ours = h.0.0; theirs = h.0.1; starts = h.0.4; captures = h.0.5; others = h.0.6; waits = h.1.0; next = omega arith }, u.at, u.over, u.source, v.at, v.over, v.source)
    stands par_end p s h = absurd s

    stands_in : (is : Parts) (p : ℕ) → AreSource is → Fits p (pieces_in is) → AtParts code p is (p + length (pieces_in is))
    stands_in (last r) p s h = stands r p s h
    stands_in (more r is) p s h =
        let a = length (pieces r) in
        let b = length (given_up (operand_of r)) in
        let k = fits_split (pieces r) (given_up (operand_of r) ++ pieces_in is) p h in
        let l = fits_split (given_up (operand_of r)) (pieces_in is) (p + a) k.1 in
        let m = length-append (pieces r) (given_up (operand_of r) ++ pieces_in is) in
        let n = length-append (given_up (operand_of r)) (pieces_in is) in
        let e : p + a + b + length (pieces_in is) ≡ p + length (pieces_in (more r is)) = omega (arith, m, n) in
        (p + a, p + a + b, stands r p s.0 k.0, discards (operand_of r) (p + a) l.0, subst (AtParts code (p + a + b) is) e (stands_in is (p + a + b) s.1 l.1), later_parts (now r) (AreSource is) s.1)

  -- threads stand where their pieces do
  pub stood : (rs : List Run) (p : ℕ) → AllSource rs → Fits p (threads_of rs) → Started p rs
  stood [] p s h = tt
  stood (r ∷ rs) p s h =
      let k = fits_split (thread r) (threads_of rs) p h in
      let l = ending p (pieces r) (instr.End (operand_of r)) k.0 in
      (record { from = record { to = p + length (pieces r); at = stands r p s.0 l.front; over = l.there; source = s.0 }; next = l.next }, stood rs (p + size r) s.1 k.1)
