-- Where the threads that a line starts stand: behind it, in the order of the instructions that start them.
use Rattle.std.proofs.Common.{◌≡◌, ◌⊎◌, inl, inr, ℕ, zero, suc, ◌+◌, ◌<◌, ◌≤◌, List, [], ◌∷◌, ◌++◌, Some, None, refl, sym, ap, ◌∙◌, subst, arith}
use Rattle.std.proofs.Math.Nat.{eq-or-lt_of_le}
use Rattle.std.specs.Prelude.{slice_get}
use Rattle.fr_base.specs.declared.instruction.Operand.{Operand}
use Rattle.fr_base.specs.declared.instruction.Instr.{Instr}
use Rattle.fr_base.specs.declared.instruction.Instr.TheVariants as instr
use Rattle.fr_code.specs.CodeTypes.{Entry, Table, InstrTypes}
use Rattle.law_plain_table.specs.Layout.{bodies_of, bodies, AllAbove, Rises, IsBehindEnd, AllBehindEnds, IsLaidOut}
use Rattle.law_plain_table.proofs.Lines.{Start, places, AllStart, Line, stays, goes, Threads, no_thread, a_thread}

-- NUMBERS IN LISTS

abbrev pub In : ℕ → List ℕ → Type 0
In m [] = ⊥
In m (n ∷ ns) = (m ≡ n) ⊎ In m ns

pub in_either : (m : ℕ) (xs bs : List ℕ) → In m (xs ++ bs) → In m xs ⊎ In m bs
in_either m [] bs h = inr h
in_either m (a ∷ xs) bs (inl e) = inl (inl e)
in_either m (a ∷ xs) bs (inr h) = by (in_either m xs bs h)
  where
    by : In m xs ⊎ In m bs → In m (a ∷ xs) ⊎ In m bs
    by (inl i) = inl (inr i)
    by (inr i) = inr i

in_first : (m : ℕ) (xs bs : List ℕ) → In m xs → In m (xs ++ bs)
in_first m [] bs h = absurd h
in_first m (a ∷ xs) bs (inl e) = inl e
in_first m (a ∷ xs) bs (inr h) = inr (in_first m xs bs h)

in_last : (m : ℕ) (xs bs : List ℕ) → In m bs → In m (xs ++ bs)
in_last m [] bs h = h
in_last m (a ∷ xs) bs h = inr (in_last m xs bs h)

pub above_in : (n m : ℕ) (ms : List ℕ) → AllAbove n ms → In m ms → n < m
above_in n m [] h i = absurd i
above_in n m (k ∷ ks) h (inl e) = let l = h.0 in omega (arith, l, e)
above_in n m (k ∷ ks) h (inr i) = above_in n m ks h.1 i

behind_in : (code : List Instr) (m : ℕ) (ms : List ℕ) → AllBehindEnds code ms → In m ms → IsBehindEnd code m
behind_in code m [] h i = absurd i
behind_in code m (k ∷ ks) h (inl e) = subst (IsBehindEnd code) (sym e) h.0
behind_in code m (k ∷ ks) h (inr i) = behind_in code m ks h.1 i

pub above_all : (n : ℕ) (ms : List ℕ) → ((m : ℕ) → In m ms → n < m) → AllAbove n ms
above_all n [] h = tt
above_all n (m ∷ ms) h = (h m (inl refl), above_all n ms (λ k i. h k (inr i)))

above_join : (n : ℕ) (xs bs : List ℕ) → AllAbove n xs → AllAbove n bs → AllAbove n (xs ++ bs)
above_join n [] bs a b = b
above_join n (x ∷ xs) bs a b = (a.0, above_join n xs bs a.1 b)

pub rises_join : (xs bs : List ℕ) → Rises xs → Rises bs → ((m n : ℕ) → In m xs → In n bs → m < n) → Rises (xs ++ bs)
rises_join [] bs a b h = b
rises_join (x ∷ xs) bs a b h = (above_join x xs bs a.0 (above_all x bs (λ n i. h x n (inl refl) i)), rises_join xs bs a.1 b (λ m n i j. h m n (inr i) j))

pub places_join : (xs bs : List Start) → places (xs ++ bs) ≡ places xs ++ places bs
places_join [] bs = refl
places_join (s ∷ xs) bs = ap (λ ns. s.at ∷ ns) (places_join xs bs)

rises_first : (xs bs : List ℕ) → Rises (xs ++ bs) → Rises xs
rises_first [] bs h = tt
rises_first (x ∷ xs) bs h = (above_all x xs (λ m i. above_in x m (xs ++ bs) h.0 (in_first m xs bs i)), rises_first xs bs h.1)

rises_last : (xs bs : List ℕ) → Rises (xs ++ bs) → Rises bs
rises_last [] bs h = h
rises_last (x ∷ xs) bs h = rises_last xs bs h.1

rises_across : (xs bs : List ℕ) (m n : ℕ) → Rises (xs ++ bs) → In m xs → In n bs → m < n
rises_across [] bs m n h i j = absurd i
rises_across (x ∷ xs) bs m n h (inl e) j = let l = above_in x n (xs ++ bs) h.0 (in_last n xs bs j) in omega (arith, l, e)
rises_across (x ∷ xs) bs m n h (inr i) j = rises_across xs bs m n h.1 i j

-- THE BODIES OF A CODE

same_head : {A : Type 0} {i j : A} → Some i ≡ Some j → i ≡ j
same_head e = cc

-- a body of an instruction is one of the code
in_bodies : (code : List Instr) (p : ℕ) (i : Instr) (m : ℕ) → slice_get code p ≡ Some i → In m (bodies_of i) → In m (bodies code)
in_bodies [] p i m e h = absurd cc
in_bodies (j ∷ code) zero i m e h = in_first m (bodies_of j) (bodies code) (subst (λ z. In m (bodies_of z)) (sym (same_head e)) h)
in_bodies (j ∷ code) (suc p) i m e h = in_last m (bodies_of j) (bodies code) (in_bodies code p i m e h)

-- the bodies of one instruction rise
one_rises : (code : List Instr) (p : ℕ) (i : Instr) → slice_get code p ≡ Some i → Rises (bodies code) → Rises (bodies_of i)
one_rises [] p i e h = absurd cc
one_rises (j ∷ code) zero i e h = subst (λ z. Rises (bodies_of z)) (same_head e) (rises_first (bodies_of j) (bodies code) h)
one_rises (j ∷ code) (suc p) i e h = one_rises code p i e (rises_last (bodies_of j) (bodies code) h)

-- those of a later one stand later
two_rise : (code : List Instr) (p q : ℕ) (i j : Instr) (m n : ℕ) → p < q → slice_get code p ≡ Some i → slice_get code q ≡ Some j → In m (bodies_of i) → In n (bodies_of j) → Rises (bodies code) → m < n
two_rise [] p q i j m n lt e f a b h = absurd cc
two_rise (k ∷ code) p zero i j m n lt e f a b h = absurd (omega (arith, lt))
two_rise (k ∷ code) zero (suc q) i j m n lt e f a b h = rises_across (bodies_of k) (bodies code) m n h (subst (λ z. In m (bodies_of z)) (sym (same_head e)) a) (in_bodies code q j n f b)
two_rise (k ∷ code) (suc p) (suc q) i j m n lt e f a b h = two_rise code p q i j m n (omega (arith, lt)) e f a b (rises_last (bodies_of k) (bodies code) h)

-- WHAT A LINE STARTS

abbrev pub children : {code : List Instr} {p q : ℕ} {x y : Entry} → Line code p x q y → List Start
children stays = []
children (goes i ss at same types threads l) = ss ++ children l

abbrev pub join_threads : {code : List Instr} {ss us : List Start} → Threads code ss → Threads code us → Threads code (ss ++ us)
join_threads no_thread us = us
join_threads (a_thread s to l over takes ts) us = a_thread s to l over takes (join_threads ts us)

module _ (code : List Instr) where
  pub line_rises : {p q : ℕ} {x y : Entry} → Line code p x q y → p ≤ q
  line_rises stays = omega arith
  line_rises (goes i ss at same types threads l) = let r = line_rises l in omega (arith, r)

  no_end_types : (table : Table) (x y : Entry) (o : Operand) → InstrTypes table x (instr.End o) y → ⊥
  no_end_types table x y o t = elim t [ ]

  no_end : (i : Instr) (o : Operand) (ss : List Start) (x y : Entry) → i ≡ instr.End o → places ss ≡ bodies_of i → ((table : Table) → AllStart table ss → InstrTypes table x i y) → ⊥
  no_end i o [] x y e same types = no_end_types (λ pc. None) x y o (subst (λ j. InstrTypes (λ pc. None) x j y) e (types (λ pc. None) tt))
  no_end i o (s ∷ ss) x y e same types = let f : s.at ∷ places ss ≡ [] = same ∙ ap bodies_of e in absurd cc

  same_there : {i j : Instr} (k : ℕ) → slice_get code k ≡ Some i → slice_get code k ≡ Some j → i ≡ j
  same_there k e f = let g = sym e ∙ f in cc

  -- a line ends before the first end of a thread behind its start
  pub first_end : {p q : ℕ} {x y : Entry} (k : ℕ) (o : Operand) → Line code p x q y → slice_get code k ≡ Some (instr.End o) → p ≤ k → q ≤ k
  first_end k o stays at le = le
  first_end {p = p} {q = q} {x = x} k o (goes {y = z} i ss there same types threads l) at le =
      by (λ lt. first_end k o l at (omega (arith, lt))) (eq-or-lt_of_le le)
    where
      by : (p < k → q ≤ k) → (p ≡ k) ⊎ (p < k) → q ≤ k
      by go (inl e) = absurd (no_end i o ss x z (same_there k (subst (λ n. slice_get code n ≡ Some i) e there) at) same types)
      by go (inr lt) = go lt

  -- made by an instruction at one of these places
  pub record Made (p q m : ℕ) : Type 0 where
    pub at : ℕ
    pub instruction : Instr
    pub from : p ≤ at
    pub to : at < q
    pub there : slice_get code at ≡ Some instruction
    pub body : In m (bodies_of instruction)

  made_later : (p q m : ℕ) → Made (p + 1) q m → Made p q m
  made_later p q m d = let f = d.from in record { at = d.at; instruction = d.instruction; from = omega (arith, f); to = d.to; there = d.there; body = d.body }

  pub children_made : {p q : ℕ} {x y : Entry} (l : Line code p x q y) (m : ℕ) → In m (places (children l)) → Made p q m
  children_made stays m i = absurd i
  children_made {p = p} {q = q} (goes i ss there same types threads l) m h = by (children_made l m) (in_either m (places ss) (places (children l)) (subst (In m) (places_join ss (children l)) h))
    where
      by : (In m (places (children l)) → Made (p + 1) q m) → In m (places ss) ⊎ In m (places (children l)) → Made p q m
      by go (inl h) = let r = line_rises l in record { at = p; instruction = i; from = omega arith; to = omega (arith, r); there = there; body = subst (In m) same h }
      by go (inr h) = made_later p q m (go h)

  module _ (laid : IsLaidOut code) where
    -- of two that are made the one of a later instruction stands later
    made_order : {p q r s : ℕ} (m n : ℕ) (a : Made p q m) (b : Made r s n) → a.at < b.at → m < n
    made_order m n a b lt = two_rise code a.at b.at a.instruction b.instruction m n lt a.there b.there a.body b.body laid.rises

    pub children_rise : {p q : ℕ} {x y : Entry} (l : Line code p x q y) → Rises (places (children l))
    children_rise stays = tt
    children_rise {p = p} {q = q} (goes i ss there same types threads l) =
        subst Rises (sym (places_join ss (children l)))
        (rises_join (places ss) (places (children l)) (subst Rises (sym same) (one_rises code p i there laid.rises)) (children_rise l)
        (λ m n a b. let later = children_made l n b in let f = later.from in let r = line_rises l in
        made_order {p = p} {q = q} m n (record { at = p; instruction = i; from = omega arith; to = omega (arith, r); there = there; body = subst (In m) same a }) later (omega (arith, f))))

    -- what is so of a thread that is still to come, behind that place: each thread that an instruction from there on starts stands later, and
    -- between it and whatever stands before it there is an end
    pub record Waits (c m : ℕ) : Type 0 where
      pub above : c ≤ m
      pub early : (h : ℕ) (i : Instr) → c ≤ h → slice_get code h ≡ Some i → (n : ℕ) → In n (bodies_of i) → m < n
      pub ends : (a : ℕ) → a < m → (k : ℕ) × (o : Operand) × (a ≤ k) × (k < m) × (slice_get code k ≡ Some (instr.End o))

    ends_behind : (m : ℕ) → IsBehindEnd code m → (a : ℕ) → a < m → (k : ℕ) × (o : Operand) × (a ≤ k) × (k < m) × (slice_get code k ≡ Some (instr.End o))
    ends_behind m b a lt = let n = b.next in (b.last, b.operand, omega (arith, n, lt), omega (arith, n), b.there)

    -- one that stands behind a line's start stands behind its end
    behind_line : {p q : ℕ} {x y : Entry} (m : ℕ) → Line code p x q y → ((a : ℕ) → a < m → (k : ℕ) × (o : Operand) × (a ≤ k) × (k < m) × (slice_get code k ≡ Some (instr.End o))) → p < m → q + 1 ≤ m
    behind_line {p = p} m l ends lt = let e = ends p lt in let f = first_end e.0 e.1 l e.4 e.2 in let u = e.3 in omega (arith, f, u)

    -- those that wait while a thread's line is passed, and those that it starts
    pub waits_on : {c p q : ℕ} {x y : Entry} (m : ℕ) → Line code p x q y → Waits c m → c ≤ p → p < m → Waits (q + 1) m
    waits_on m l w le lt = let r = line_rises l in record {
      above = behind_line m l w.ends lt;
      early = λ h i from at n b. w.early h i (omega (arith, r, le, from)) at n b;
      ends = w.ends;
    }

    pub waits_new : {c p q : ℕ} {x y : Entry} (m : ℕ) (l : Line code p x q y) → Waits c p → In m (places (children l)) → Waits (q + 1) m
    waits_new {c = c} {p = p} {q = q} m l w i =
        let d = children_made l m i in
        let f = d.from in
        let t = d.to in
        let a = w.above in
        let ends = ends_behind m (behind_in code m (bodies code) laid.behind (in_bodies code d.at d.instruction m d.there d.body)) in
        record {
          above = behind_line m l ends (w.early d.at d.instruction (omega (arith, f, a)) d.there m d.body);
          early = λ h j from at n b. two_rise code d.at h d.instruction j m n (omega (arith, t, from)) d.there at d.body b laid.rises;
          ends = ends;
        }

    -- of those that waited and those that are new these stand later
    pub waits_before : {c p q : ℕ} {x y : Entry} (m n : ℕ) (l : Line code p x q y) → Waits c m → c ≤ p → In n (places (children l)) → m < n
    waits_before m n l w le i = let d = children_made l n i in let f = d.from in w.early d.at d.instruction (omega (arith, f, le)) d.there n d.body

    -- main waits at the start
    pub main_waits : Waits 0 0
    main_waits = record {
      above = omega arith;
      early = λ h i from at n b. (let e = behind_in code n (bodies code) laid.behind (in_bodies code h i n at b) in let f = e.next in omega (arith, f));
      ends = λ a lt. absurd (omega (arith, lt));
    }
