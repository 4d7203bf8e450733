-- An object comes to a partition: at an address that was free, or at the next one; and objects come to and leave a server.
use Rattle.std.proofs.Common.{◌≡◌, ℕ, zero, suc, ◌+◌, ◌<◌, ◌≤◌, ◌==◌, ◌&&◌, Bool, true, false, nat_lt, if◌then◌else◌, List, [], ◌∷◌, ◌++◌, length, Option, Some, None, refl, sym, ap, subst, ◌∙◌, arith}
use Rattle.std.specs.Prelude.{slice_get, slice_set}
use Rattle.std.proofs.lemmas.Bool.{eq-eqb}
use Rattle.std.proofs.lemmas.Bool.Decides.{nat_tests}
use Rattle.coherent_memory.proofs.Below.fr_typing.PlaceLemmas.{eq_cases}
use Rattle.coherent_memory.specs.Below.global_addr.Words.{colour_of, address_of}
use Rattle.coherent_memory.specs.Below.heap_partition.declared.value.Cell.{Cell}
use Rattle.coherent_memory.specs.Below.colour_retire.Colours.{picked, rest_of}
use Rattle.coherent_memory.specs.Below.owner_box.View.{PartitionState}
use Rattle.coherent_memory.specs.Below.owner_box.Partition.{put_cell, made, freed}
use Rattle.coherent_memory.specs.Below.server_model.Servers.{Rest}
use Rattle.coherent_memory.specs.Below.server_model.Work.{Work, look, with_partition}
use Rattle.coherent_memory.specs.Names.{tot, one}
use Rattle.coherent_memory.specs.Things.{Thing, lies, flies, vacant, retired, counts, things_at, cell_things, free_things, partition_things}
use Rattle.coherent_memory.specs.Weights.{states, below}
use Rattle.law_counts_sums.specs.Sums.{is_server}
use Rattle.law_counts_sums.proofs.Trades.{Trade, Same, tot-append, trade_whole, trade_right, trade_push, tot-front}
use Rattle.law_counts_sums.proofs.Rules.{Rule, counts_on, lifts, lifts_last, lands, grows, turned, beside, in_turn, padded, Placed, Kept}
use Rattle.law_counts_sums.proofs.Bags.{WorkOk, counts_of, body_things, rest_things, of_partition}
use Rattle.law_counts_sums.proofs.Chains.{work_trades}
use Rattle.law_counts_sums.proofs.Cells.{left_by, looked, frees, vacates, self_state, not_free}

pub length_set : {X : Type 0} (xs : List X) (i : ℕ) (x : X) → length (slice_set xs i x) ≡ length xs
length_set [] i x = refl
length_set (y ∷ ys) zero x = refl
length_set (y ∷ ys) (suc i) x = ap suc (length_set ys i x)

-- the state of the next object's address before it comes
abbrev pub taken_place : ℕ → List (ℕ × ℕ) → List Thing
taken_place s [] = []
taken_place s (pair ∷ rest) = vacant s pair.0 pair.1 ∷ []

set_back : {X : Type 0} (xs : List X) (a : ℕ) (x y : X) → slice_get xs a ≡ Some x → slice_set (slice_set xs a y) a x ≡ xs
set_back [] a x y e = refl
set_back (z ∷ xs) zero x y e = let same : z ≡ x = cc in ap (λ q. q ∷ xs) (sym same)
set_back (z ∷ xs) (suc a) x y e = ap (λ l. z ∷ l) (set_back xs a x y e)

get_set : {X : Type 0} (xs : List X) (a : ℕ) (x y : X) → slice_get xs a ≡ Some x → slice_get (slice_set xs a y) a ≡ Some y
get_set [] a x y e = cc
get_set (z ∷ xs) zero x y e = refl
get_set (z ∷ xs) (suc a) x y e = get_set xs a x y e

within : {X : Type 0} (xs : List X) (n : ℕ) (v : X) → slice_get xs n ≡ Some v → n < length xs
within [] n v e = cc
within (x ∷ xs) zero v e = omega arith
within (x ∷ xs) (suc n) v e = let l = within xs n v e in omega (arith, l)

-- at an address that is free
pub makes_at : (s : ℕ) (p : PartitionState) (pair : ℕ × ℕ) (rest : List (ℕ × ℕ)) (c : Cell) → slice_get p.cells pair.0 ≡ Some None
    → Trade (things_at (cell_things s (pair ∷ rest)) 0 p.cells ++ things_at (free_things s) 0 (pair ∷ rest)) (vacant s pair.0 pair.1 ∷ []) (lies s pair.0 c ∷ [])
    (things_at (cell_things s rest) 0 (put_cell p.cells pair.0 c) ++ things_at (free_things s) 0 rest)
makes_at s p pair rest c e =
    let a = pair.0 in
    let cs = slice_set p.cells a (Some c) in
    let l = within p.cells a None e in
    let new : put_cell p.cells a c ≡ cs = eq_cases (λ b. (if b then p.cells ++ Some c ∷ [] else cs) ≡ cs) a (length p.cells) (λ h. absurd (omega arith)) (λ ne. refl) in
    let back : slice_set cs a None ≡ p.cells = set_back p.cells a None (Some c) e in
    let gone = vacates s pair.1 a rest c 0 cs a (omega arith) (get_set p.cells a None (Some c) e) in
    let swap : Same (things_at (cell_things s rest) 0 cs) (lies s a c ∷ things_at (cell_things s (pair ∷ rest)) 0 p.cells) = subst (λ l. Same (things_at (cell_things s rest) 0 cs) (lies s a c ∷ things_at (cell_things s (pair ∷ rest)) 0 l)) back gone in
    subst (λ l. Trade (things_at (cell_things s (pair ∷ rest)) 0 p.cells ++ things_at (free_things s) 0 (pair ∷ rest)) (vacant s a pair.1 ∷ []) (lies s a c ∷ []) (things_at (cell_things s rest) 0 l ++ things_at (free_things s) 0 rest)) (sym new)
    (record {
      rest = things_at (cell_things s (pair ∷ rest)) 0 p.cells ++ things_at (free_things s) 0 rest;
      before = λ f. omega (arith, tot-append f (things_at (cell_things s (pair ∷ rest)) 0 p.cells) (things_at (free_things s) 0 (pair ∷ rest)), tot-append f (things_at (cell_things s (pair ∷ rest)) 0 p.cells) (things_at (free_things s) 0 rest), tot-front (λ q. vacant s q.0 q.1 ∷ []) f 0 pair rest);
      after = λ f. omega (arith, swap f, tot-append f (things_at (cell_things s rest) 0 cs) (things_at (free_things s) 0 rest), tot-append f (things_at (cell_things s (pair ∷ rest)) 0 p.cells) (things_at (free_things s) 0 rest));
    })

-- at the next one
pub makes_next : (s : ℕ) (p : PartitionState) (c : Cell)
    → Trade (things_at (cell_things s []) 0 p.cells ++ []) [] (lies s (length p.cells) c ∷ []) (things_at (cell_things s []) 0 (put_cell p.cells (length p.cells) c) ++ [])
makes_next s p c =
    let n = length p.cells in
    let g = cell_things s [] in
    eq_cases (λ b. Trade (things_at g 0 p.cells ++ []) [] (lies s n c ∷ []) (things_at g 0 (if b then p.cells ++ Some c ∷ [] else slice_set p.cells n (Some c)) ++ [])) n n
    (λ e. trade_right [] (subst (λ m. Trade (things_at g 0 p.cells) [] (lies s m c ∷ []) (things_at g 0 (p.cells ++ Some c ∷ []))) (omega arith) (trade_push g p.cells 0 (Some c))))
    (λ ne. absurd (ne refl))

next_length : (cs : List (Option Cell)) (c : Cell) → length (put_cell cs (length cs) c) ≡ length cs + 1
next_length cs c = eq_cases (λ b. length (if b then cs ++ Some c ∷ [] else slice_set cs (length cs) (Some c)) ≡ length cs + 1) (length cs) (length cs) (λ e. pushed cs (Some c)) (λ ne. absurd (ne refl))
  where
    pushed : {X : Type 0} (xs : List X) (x : X) → length (xs ++ x ∷ []) ≡ length xs + 1
    pushed [] x = refl
    pushed (y ∷ ys) x = omega (arith, pushed ys x)

at_length : (cs : List (Option Cell)) (a : ℕ) (c : Cell) → a < length cs → length (put_cell cs a c) ≡ length cs
at_length cs a c l = eq_cases (λ b. length (if b then cs ++ Some c ∷ [] else slice_set cs a (Some c)) ≡ length cs) a (length cs) (λ e. absurd (omega arith)) (λ ne. length_set cs a (Some c))

got : (cs : List (Option Cell)) (a : ℕ) → a < length cs → ((c : Cell) → slice_get cs a ≡ Some (Some c) → ⊥) → slice_get cs a ≡ Some None
got [] a l none = absurd (omega arith)
got (None ∷ cs) zero l none = refl
got (Some c ∷ cs) zero l none = absurd (none c refl)
got (x ∷ cs) (suc a) l none = got cs a (omega arith) none

-- ONE MORE OBJECT

pub makes : (s : ℕ) (p : PartitionState) (c : Cell) (fl : List (ℕ × ℕ)) → ((pair : ℕ × ℕ) (rest : List (ℕ × ℕ)) → fl ≡ pair ∷ rest → slice_get p.cells pair.0 ≡ Some None)
    → Trade (things_at (cell_things s fl) 0 p.cells ++ things_at (free_things s) 0 fl) (taken_place s fl) (lies s (picked fl (length p.cells)).0 c ∷ [])
    (things_at (cell_things s (rest_of fl)) 0 (put_cell p.cells (picked fl (length p.cells)).0 c) ++ things_at (free_things s) 0 (rest_of fl))
makes s p c [] h = makes_next s p c
makes s p c (pair ∷ rest) h = makes_at s p pair rest c (h pair rest refl)

-- WHAT THE STATES OF ADDRESSES SAY

tot_le : (f g : Thing → ℕ) → ((x : Thing) → f x ≤ g x) → (xs : List Thing) → tot f xs ≤ tot g xs
tot_le f g h [] = omega arith
tot_le f g h (x ∷ xs) = omega (arith, h x, tot_le f g h xs)

below_server : (s a : ℕ) (x : Thing) → below (s, a) x ≤ is_server s x
below_server s a (counts r next n t m e) = by (r == s) (nat_lt a next)
  where
    by : (p q : Bool) → one (p && q) ≤ one p
    by true true = omega arith
    by true false = omega arith
    by false q = omega arith
below_server s a _ = omega arith

few_states : (s a : ℕ) (b : List Thing) → Placed b → tot (states (s, a)) b ≤ 1
few_states s a b k = omega (arith, k.one_state (s, a), k.servers_differ s, tot_le (below (s, a)) (is_server s) (below_server s a) b)

module _ (n e : ℕ) (r : Rest) (others : List Thing) (k : Placed (rest_things n e r ++ others)) where
  -- the partition's part
  part : (f : Thing → ℕ) → tot f (partition_things n r.partition) ≤ tot f (rest_things n e r ++ others)
  part f =
      let whole = of_partition n e r r.partition (trade_whole (partition_things n r.partition) (partition_things n r.partition)) in
      omega (arith, whole.before f, tot-append f (rest_things n e r) others)

  -- each address has at most one state in it
  pub one_state : (a : ℕ) → tot (states (n, a)) (partition_things n r.partition) ≤ 1
  one_state a = omega (arith, part (states (n, a)), few_states n a (rest_things n e r ++ others) k)

  -- a free address is below the next one, and no object lies there
  pub free_place : (pair : ℕ × ℕ) (rest : List (ℕ × ℕ)) → r.partition.free ≡ pair ∷ rest → slice_get r.partition.cells pair.0 ≡ Some None
  free_place pair rest q =
      let p = r.partition in
      let a = pair.0 in
      let f = states (n, a) in
      let cs = things_at (cell_things n p.free) 0 p.cells in
      let fs = things_at (free_things n) 0 p.free in
      let all = rest_things n e r ++ others in
      let front : tot (λ x. f x) (things_at (free_things n) 0 (pair ∷ rest)) ≡ f (vacant n a pair.1) + tot f (things_at (free_things n) 0 rest) = omega (arith, tot-front (λ z. vacant n z.0 z.1 ∷ []) f 0 pair rest) in
      let freed : 1 ≤ tot f fs = subst (λ l. 1 ≤ tot f (things_at (free_things n) 0 l)) (sym q) (omega (arith, front, self_state n a)) in
      let own : is_server n (counts_of n e r) ≡ 1 = ap one (eq-eqb n n refl) in
      let rest_below : tot (below (n, a)) (body_things n r ++ others) ≤ tot (is_server n) (body_things n r ++ others) = tot_le (below (n, a)) (is_server n) (below_server n a) (body_things n r ++ others) in
      let most : tot f all ≤ tot (below (n, a)) all = k.one_state (n, a) in
      let once : tot (is_server n) all ≤ 1 = k.servers_differ n in
      let few : tot f all ≤ 1 = few_states n a all k in
      let here : below (n, a) (counts_of n e r) ≡ 1 = seen (n == n) (nat_lt a (length p.cells)) (omega (arith, freed, own, rest_below, most, once, part f, tot-append f cs fs)) in
      got p.cells a (less (n == n) a (length p.cells) here) (λ c g. absurd (omega (arith, freed, few, self_state n a, part f, vacates n 0 a p.free c 0 p.cells a (omega arith) g f, tot-append f cs fs)))
    where
      seen : (q b : Bool) → 1 ≤ one (q && b) → one (q && b) ≡ 1
      seen true true l = refl
      seen true false l = absurd (omega arith)
      seen false b l = absurd (omega arith)

      less : (q : Bool) (a m : ℕ) → one (q && nat_lt a m) ≡ 1 → a < m
      less q a m h = by q (nat_lt a m) refl h
        where
          by : (q b : Bool) → nat_lt a m ≡ b → one (q && b) ≡ 1 → a < m
          by true true e h = grind (arith, nat_tests, e)
          by true false e h = absurd (omega arith)
          by false b e h = absurd (omega arith)

-- THE RULES OF IT

pub counts_stay : (n e : ℕ) (r r2 : Rest) → length r2.partition.cells ≡ length r.partition.cells → Rule (counts_of n e r ∷ []) (counts_of n e r2 ∷ [])
counts_stay n e r r2 q =
    subst (λ m. Rule (counts_of n e r ∷ []) (counts n m r2.partition.retired r2.started r2.mutexes.made e ∷ [])) (sym q)
    (counts_on n (length r.partition.cells) r.partition.retired r.started r.mutexes.made e r2.partition.retired r2.started r2.mutexes.made e)

leaves_rule : (s limit w : ℕ) (c : Cell) → Rule (lies s (address_of w) c ∷ []) (left_by s limit w ∷ flies w c ∷ [])
leaves_rule s limit w c = by (nat_lt (colour_of w + 1) limit)
  where
    by : (b : Bool) → Rule (lies s (address_of w) c ∷ []) ((if b then vacant s (address_of w) (colour_of w + 1) else retired s (address_of w)) ∷ flies w c ∷ [])
    by true = lifts s (address_of w) (colour_of w + 1) w c
    by false = lifts_last s (address_of w) w c

comes_rule : (n e w : ℕ) (r : Rest) (c : Cell) (fl : List (ℕ × ℕ)) (r2 : Rest) → length r2.partition.cells ≡ length (put_cell r.partition.cells (picked fl (length r.partition.cells)).0 c)
    → ((pair : ℕ × ℕ) (rest : List (ℕ × ℕ)) → fl ≡ pair ∷ rest → slice_get r.partition.cells pair.0 ≡ Some None)
    → Rule (counts_of n e r ∷ (taken_place n fl ++ flies w c ∷ [])) (counts_of n e r2 ∷ lies n (picked fl (length r.partition.cells)).0 c ∷ [])
comes_rule n e w r c [] r2 len h =
    let m = length r.partition.cells in
    let more : length r2.partition.cells ≡ m + 1 = len ∙ next_length r.partition.cells c in
    in_turn (grows n m r.partition.retired r.started r.mutexes.made e w c)
    (beside (subst (λ i. Rule (counts n (m + 1) r.partition.retired r.started r.mutexes.made e ∷ []) (counts n i r2.partition.retired r2.started r2.mutexes.made e ∷ [])) (sym more)
    (counts_on n (m + 1) r.partition.retired r.started r.mutexes.made e r2.partition.retired r2.started r2.mutexes.made e)) (turned (lies n m c ∷ []) (lies n m c ∷ []) (λ f. refl)))
comes_rule n e w r c (pair ∷ rest) r2 len h =
    let stays : length r2.partition.cells ≡ length r.partition.cells = len ∙ at_length r.partition.cells pair.0 c (within r.partition.cells pair.0 None (h pair rest refl)) in
    beside (counts_stay n e r r2 stays) (lands n pair.0 pair.1 w c)

-- a thing comes beside, or goes from there
pub one_comes : (x : Thing) (others : List Thing) → Trade others [] (x ∷ []) (x ∷ others)
one_comes x others = record { rest = others; before = λ f. omega arith; after = λ f. omega arith }

pub one_goes : (x : Thing) (others : List Thing) → Trade (x ∷ others) (x ∷ []) [] others
one_goes x others = record { rest = others; before = λ f. omega arith; after = λ f. omega arith }

module _ {K : List Thing → Type 0} (k : Kept K) (n e : ℕ) (others : List Thing) where
  -- an object leaves its partition, and is in the hand as one that flies
  pub leaves_keeps : (x : Work) (w : ℕ) (c : Cell) → look x.rest.partition w ≡ Some c → WorkOk K n e others x → WorkOk K n e (flies w c ∷ others) (with_partition (freed x.rest.partition w) x)
  leaves_keeps x w c q g =
      let p = x.rest.partition in
      let here = looked p w c q in
      let r2 = record x.rest { partition = freed p w } in
      let free = not_free n p (address_of w) c here (one_state n e x.rest others (k.placed (rest_things n e x.rest ++ others) g.bag) (address_of w)) in
      work_trades k n e x (with_partition (freed p w) x) refl (of_partition n e x.rest (freed p w) (frees n p w c here free)) (one_comes (flies w c) others)
      (padded (beside (counts_stay n e x.rest r2 (length_set p.cells (address_of w) None)) (leaves_rule n p.limit w c))) g

  -- an object that flies comes
  pub comes_keeps : (x : Work) (w : ℕ) (c : Cell) → WorkOk K n e (flies w c ∷ others) x → WorkOk K n e others (with_partition (made x.rest.partition c) x)
  comes_keeps x w c g =
      let p = x.rest.partition in
      let r2 = record x.rest { partition = made p c } in
      let place = free_place n e x.rest (flies w c ∷ others) (k.placed (rest_things n e x.rest ++ (flies w c ∷ others)) g.bag) in
      work_trades k n e x (with_partition (made p c) x) refl (of_partition n e x.rest (made p c) (makes n p c p.free place)) (one_goes (flies w c) others)
      (comes_rule n e w x.rest c p.free r2 refl place) g
