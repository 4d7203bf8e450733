-- What a partition trades when an object leaves.
use Rattle.std.proofs.Common.{◌≡◌, ◌≢◌, ℕ, zero, suc, ◌+◌, ◌<◌, ◌≤◌, ◌==◌, ◌||◌, ◌&&◌, Bool, true, false, nat_lt, if◌then◌else◌, List, [], ◌∷◌, ◌++◌, Option, Some, None, refl, sym, ap, subst, arith}
use Rattle.std.specs.Prelude.{slice_get, slice_set, slice_index_or}
use Rattle.std.proofs.lemmas.Bool.{eq-eqb}
use Rattle.coherent_memory.proofs.Below.fr_typing.PlaceLemmas.{eq_cases}
use Rattle.coherent_memory.specs.Below.global_addr.Words.{colour_of, address_of}
use Rattle.coherent_memory.specs.Below.heap_partition.declared.value.Cell.{Cell}
use Rattle.coherent_memory.specs.Below.owner_box.View.{PartitionState}
use Rattle.coherent_memory.specs.Below.owner_box.Partition.{freed, cell_of}
use Rattle.coherent_memory.specs.Below.server_model.Work.{look, leads_here}
use Rattle.coherent_memory.specs.Names.{tot, one}
use Rattle.coherent_memory.specs.Things.{Thing, lies, vacant, retired, things_at, is_free, cell_things, free_things, partition_things}
use Rattle.coherent_memory.specs.Weights.{states}
use Rattle.law_counts_sums.proofs.Trades.{Trade, Same, tot-append, trade_whole, trade_right, trade_at, tot-front}

-- what a word's address becomes when its object leaves
abbrev pub left_by : ℕ → ℕ → ℕ → Thing
left_by s limit w = if nat_lt (colour_of w + 1) limit then vacant s (address_of w) (colour_of w + 1) else retired s (address_of w)

-- the cell that is found
pub indexed : (xs : List (Option Cell)) (a : ℕ) (c : Cell) → slice_index_or xs a None ≡ Some c → slice_get xs a ≡ Some (Some c)
indexed [] a c h = cc
indexed (x ∷ xs) zero c h = cc
indexed (x ∷ xs) (suc a) c h = indexed xs a c h

pub looked : (p : PartitionState) (w : ℕ) (c : Cell) → look p w ≡ Some c → slice_get p.cells (address_of w) ≡ Some (Some c)
looked p w c h = by (leads_here p w) h
  where
    by : (b : Bool) → (if b then cell_of p w else None) ≡ Some c → slice_get p.cells (address_of w) ≡ Some (Some c)
    by true g = indexed p.cells (address_of w) c g
    by false g = cc

-- another address that is free makes no difference
cell_beside : (s a n i : ℕ) (free : List (ℕ × ℕ)) (z : Option Cell) → a ≢ i → cell_things s ((a, n) ∷ free) i z ≡ cell_things s free i z
cell_beside s a n i free (Some c) ne = refl
cell_beside s a n i free None ne = eq_cases (λ b. (if b || is_free i free then [] else retired s i ∷ []) ≡ cell_things s free i None) a i (λ e. absurd (ne e)) (λ _. refl)

cells_beside : (s a n : ℕ) (free : List (ℕ × ℕ)) (i : ℕ) (xs : List (Option Cell)) → a < i → things_at (cell_things s ((a, n) ∷ free)) i xs ≡ things_at (cell_things s free) i xs
cells_beside s a n free i [] l = refl
cells_beside s a n free i (x ∷ xs) l =
    let here = cell_beside s a n i free x (omega arith) in
    let more = cells_beside s a n free (i + 1) xs (omega arith) in
    cc

-- a cell goes, and its address is free
pub vacates : (s n a : ℕ) (free : List (ℕ × ℕ)) (c : Cell) (i : ℕ) (xs : List (Option Cell)) (k : ℕ) → a ≡ i + k → slice_get xs k ≡ Some (Some c)
    → Same (things_at (cell_things s free) i xs) (lies s a c ∷ things_at (cell_things s ((a, n) ∷ free)) i (slice_set xs k None))
vacates s n a free c i [] k e h f = cc
vacates s n a free c i (x ∷ xs) zero e h f =
    let same : x ≡ Some c = cc in
    let here : a ≡ i = omega arith in
    let none : cell_things s ((a, n) ∷ free) i None ≡ [] = eq_cases (λ b. (if b || is_free i free then [] else retired s i ∷ []) ≡ []) a i (λ _. refl) (λ ne. absurd (ne here)) in
    let rest = cells_beside s a n free (i + 1) xs (omega arith) in
    let first : f (lies s i c) ≡ f (lies s a c) = ap (λ m. f (lies s m c)) (sym here) in
    let left : tot f (things_at (cell_things s free) i (x ∷ xs)) ≡ f (lies s i c) + tot f (things_at (cell_things s free) (i + 1) xs) =
    subst (λ y. tot f (things_at (cell_things s free) i (y ∷ xs)) ≡ f (lies s i c) + tot f (things_at (cell_things s free) (i + 1) xs)) (sym same) refl in
    let right : tot f (things_at (cell_things s ((a, n) ∷ free)) i (None ∷ xs)) ≡ tot f (things_at (cell_things s free) (i + 1) xs) =
    subst (λ l. tot f (l ++ things_at (cell_things s ((a, n) ∷ free)) (i + 1) xs) ≡ tot f (things_at (cell_things s free) (i + 1) xs)) (sym none) (ap (tot f) rest) in
    omega (arith, first, left, right)
vacates s n a free c i (x ∷ xs) (suc k) e h f =
    let go = vacates s n a free c (i + 1) xs k (omega arith) h f in
    let same : tot f (cell_things s ((a, n) ∷ free) i x) ≡ tot f (cell_things s free i x) = ap (tot f) (cell_beside s a n i free x (omega arith)) in
    omega (arith, go, same, tot-append f (cell_things s free i x) (things_at (cell_things s free) (i + 1) xs), tot-append f (cell_things s ((a, n) ∷ free) i x) (things_at (cell_things s ((a, n) ∷ free)) (i + 1) (slice_set xs k None)))

frees_by : (s : ℕ) (p : PartitionState) (a next : ℕ) (c : Cell) (b : Bool) → slice_get p.cells a ≡ Some (Some c) → is_free a p.free ≡ false
    → Trade (partition_things s p) (lies s a c ∷ []) ((if b then vacant s a next else retired s a) ∷ [])
    (things_at (cell_things s (if b then (a, next) ∷ p.free else p.free)) 0 (slice_set p.cells a None) ++ things_at (free_things s) 0 (if b then (a, next) ∷ p.free else p.free))
frees_by s p a next c true h e =
    let cells = slice_set p.cells a None in record {
      rest = things_at (cell_things s ((a, next) ∷ p.free)) 0 cells ++ things_at (free_things s) 0 p.free;
      before = λ f. omega (arith, vacates s next a p.free c 0 p.cells a (omega arith) h f, tot-append f (things_at (cell_things s p.free) 0 p.cells) (things_at (free_things s) 0 p.free), tot-append f (things_at (cell_things s ((a, next) ∷ p.free)) 0 cells) (things_at (free_things s) 0 p.free));
      after = λ f. omega (arith, tot-append f (things_at (cell_things s ((a, next) ∷ p.free)) 0 cells) (things_at (free_things s) 0 ((a, next) ∷ p.free)), tot-append f (things_at (cell_things s ((a, next) ∷ p.free)) 0 cells) (things_at (free_things s) 0 p.free), tot-front (λ pair. vacant s pair.0 pair.1 ∷ []) f 0 (a, next) p.free);
    }
frees_by s p a next c false h e =
    let whole : Trade (lies s a c ∷ []) (lies s a c ∷ []) (retired s a ∷ []) (if is_free a p.free then [] else retired s a ∷ []) =
    subst (λ b. Trade (lies s a c ∷ []) (lies s a c ∷ []) (retired s a ∷ []) (if b then [] else retired s a ∷ [])) (sym e) (trade_whole _ _) in
    trade_right (things_at (free_things s) 0 p.free) (trade_at (cell_things s p.free) p.cells 0 a (Some c) None _ _ h
    (subst (λ n. Trade (cell_things s p.free n (Some c)) (lies s a c ∷ []) (retired s a ∷ []) (cell_things s p.free n None)) (omega arith) whole))

-- an object leaves
pub frees : (s : ℕ) (p : PartitionState) (w : ℕ) (c : Cell) → slice_get p.cells (address_of w) ≡ Some (Some c) → is_free (address_of w) p.free ≡ false
    → Trade (partition_things s p) (lies s (address_of w) c ∷ []) (left_by s p.limit w ∷ []) (partition_things s (freed p w))
frees s p w c h e = frees_by s p (address_of w) (colour_of w + 1) c (nat_lt (colour_of w + 1) p.limit) h e

-- ADDRESSES

pub free_states : (s a i : ℕ) (free : List (ℕ × ℕ)) → is_free a free ≡ true → 1 ≤ tot (states (s, a)) (things_at (free_things s) i free)
free_states s a i [] h = cc
free_states s a i (pair ∷ rest) h = either (s == s) (pair.0 == a) (eq-eqb s s refl) (free_states s a (i + 1) rest) h
  where
    either : (q b : Bool) → q ≡ true → (is_free a rest ≡ true → 1 ≤ tot (states (s, a)) (things_at (free_things s) (i + 1) rest)) → (b || is_free a rest) ≡ true
        → 1 ≤ one (q && b) + tot (states (s, a)) (things_at (free_things s) (i + 1) rest)
    either true true e go g = omega arith
    either true false e go g = let l = go g in omega (arith, l)
    either false b e go g = cc

pub self_state : (s a : ℕ) → one (s == s && a == a) ≡ 1
self_state s a = by (s == s) (a == a) (eq-eqb s s refl) (eq-eqb a a refl)
  where
    by : (p q : Bool) → p ≡ true → q ≡ true → one (p && q) ≡ 1
    by true true e h = refl
    by true false e h = cc
    by false q e h = cc

-- an address where an object lies isn't free, where it has one state
pub not_free : (s : ℕ) (p : PartitionState) (a : ℕ) (c : Cell) → slice_get p.cells a ≡ Some (Some c) → tot (states (s, a)) (partition_things s p) ≤ 1 → is_free a p.free ≡ false
not_free s p a c h l = by (is_free a p.free) refl
  where
    by : (b : Bool) → is_free a p.free ≡ b → b ≡ false
    by true e = absurd (omega (arith, l, free_states s a 0 p.free e, self_state s a, vacates s 0 a p.free c 0 p.cells a (omega arith) h (states (s, a)), tot-append (states (s, a)) (things_at (cell_things s p.free) 0 p.cells) (things_at (free_things s) 0 p.free)))
    by false e = refl
