-- The retired number is the number of addresses that are neither live nor free.
use Rattle.std.proofs.Common.{arith, ◌≡◌, ◌≢◌, ◌+◌, ◌<◌, ◌≤◌, ◌==◌, ◌∙◌, ℕ, Bool, true, false, List, [], ◌∷◌, All, length, nat_lt, slice_index_or, zero, suc, subst, ap, refl}
use Rattle.std.specs.Prelude.{Option, Some, None, IsSome, if◌then◌else◌, take}
use Rattle.std.proofs.lemmas.Bool.Decides.{nat_tests}
use Rattle.std.proofs.lemmas.List.{take_all}
use Rattle.std.proofs.lemmas.List.Elements.{All-cons, All-head, All-nil, All-tail}
use Rattle.heap_partition.specs.declared.value.Cell.{Cell}
use Rattle.colour_retire.specs.Colours.{IsFreeList}
use Rattle.owner_box.specs.View.{PartitionState}
use Rattle.owner_box.specs.Partition.{IsTidy, IsFreeIn, live_count}
use Rattle.owner_box.proofs.States.{live_not_free}
use Rattle.owner_box.specs.States.{colour_at, used_state, state_of, one_if_retired, retired_among, FreePairsAreStates, RetiredIsExact}

-- 1 where an address has a cell, or a colour
abbrev pub one_if_live : Option Cell → ℕ
one_if_live None = 0
one_if_live (Some cell) = 1

abbrev pub one_if_free : Option ℕ → ℕ
one_if_free None = 0
one_if_free (Some colour) = 1

-- how many free pairs have one of the first addresses
abbrev pub free_among : List (ℕ × ℕ) → ℕ → ℕ
free_among [] n = 0
free_among (pair ∷ rest) n = (if nat_lt pair.0 n then 1 else 0) + free_among rest n

-- one address more has one live cell more, or none
pub live-take_more : (cells : List (Option Cell)) (n : ℕ) → n < length cells
    → live_count (take (suc n) cells) ≡ live_count (take n cells) + one_if_live (slice_index_or cells n None)
live-take_more [] n l = absurd (omega (arith, l))
live-take_more (None ∷ rest) zero l = refl
live-take_more (Some x ∷ rest) zero l = refl
live-take_more (None ∷ rest) (suc n) l = live-take_more rest n (omega (arith, l))
live-take_more (Some x ∷ rest) (suc n) l =
    let more = live-take_more rest n (omega (arith, l)) in omega (arith, more)

-- an address that no pair has is not free
pub colour_at-none : (free : List (ℕ × ℕ)) (a : ℕ) → All (λ pair. pair.0 ≢ a) free → colour_at free a ≡ None
colour_at-none [] a all = refl
colour_at-none (pair ∷ rest) a all = by (colour_at-none rest a (All-tail (λ pair. pair.0 ≢ a) pair rest all)) (pair.0 == a) refl
  where
    by : colour_at rest a ≡ None → (b : Bool) → (pair.0 == a) ≡ b → (if pair.0 == a then Some pair.1 else colour_at rest a) ≡ None
    by none true is = absurd (All-head (λ pair. pair.0 ≢ a) pair rest all (grind (arith, nat_tests, is)))
    by none false is = rw is none

-- a free pair's colour is found at its address
pub colour_at-pair : (free : List (ℕ × ℕ)) → IsFreeList free → All (λ pair. colour_at free pair.0 ≡ Some pair.1) free
colour_at-pair [] all = All-nil (λ pair. colour_at [] pair.0 ≡ Some pair.1)
colour_at-pair (pair ∷ rest) all =
    All-cons (λ other. colour_at (pair ∷ rest) other.0 ≡ Some other.1) pair rest (first (pair.0 == pair.0) refl)
    (λ k d l. later (slice_index_or rest k d) (colour_at-pair rest all.2 k d l) (all.1 k d l) (pair.0 == (slice_index_or rest k d).0) refl)
  where
    first : (b : Bool) → (pair.0 == pair.0) ≡ b → (if pair.0 == pair.0 then Some pair.1 else colour_at rest pair.0) ≡ Some pair.1
    first true is = rw is refl
    first false is = absurd (grind (arith, nat_tests, is))

    later : (other : ℕ × ℕ) → colour_at rest other.0 ≡ Some other.1 → other.0 ≢ pair.0 → (b : Bool) → (pair.0 == other.0) ≡ b
        → (if pair.0 == other.0 then Some pair.1 else colour_at rest other.0) ≡ Some other.1
    later other found apart true is = absurd (apart (grind (arith, nat_tests, is)))
    later other found apart false is = rw is found

-- a number that isn't n is below n + 1 just where it is below n
pub lt_suc : (m n : ℕ) → (m == n) ≡ false → nat_lt m (suc n) ≡ nat_lt m n
lt_suc m n other = by (nat_lt m n) refl
  where
    by : (b : Bool) → nat_lt m n ≡ b → nat_lt m (suc n) ≡ b
    by true is = grind (arith, nat_tests, is)
    by false is = grind (arith, nat_tests, is, other)

-- one address more has one free pair more, or none
pub free_among-more : (free : List (ℕ × ℕ)) (n : ℕ) → IsFreeList free → free_among free (suc n) ≡ free_among free n + one_if_free (colour_at free n)
free_among-more [] n all = refl
free_among-more (pair ∷ rest) n all = by (free_among-more rest n all.2) (pair.0 == n) refl
  where
    by : free_among rest (suc n) ≡ free_among rest n + one_if_free (colour_at rest n) → (b : Bool) → (pair.0 == n) ≡ b
        → (if nat_lt pair.0 (suc n) then 1 else 0) + free_among rest (suc n)
        ≡ (if nat_lt pair.0 n then 1 else 0) + free_among rest n + one_if_free (if pair.0 == n then Some pair.1 else colour_at rest n)
    by more true is =
        let same : pair.0 ≡ n = grind (arith, nat_tests, is) in
        let none : colour_at rest n ≡ None = colour_at-none rest n (subst (λ a. All (λ other. other.0 ≢ a) rest) same all.1) in
        let kept : free_among rest (suc n) ≡ free_among rest n + 0 = more ∙ ap (λ x. free_among rest n + one_if_free x) none in
        let low : nat_lt pair.0 (suc n) ≡ true = grind (arith, nat_tests, same) in
        let high : nat_lt pair.0 n ≡ false = grind (arith, nat_tests, same) in
        rw (is, low, high, kept) (omega arith)
    by more false is =
        let other : nat_lt pair.0 (suc n) ≡ nat_lt pair.0 n = lt_suc pair.0 n is in
        rw (is, other, more) (omega arith)

-- among no addresses none is free
pub free_among-zero : (free : List (ℕ × ℕ)) → free_among free 0 ≡ 0
free_among-zero [] = refl
free_among-zero (pair ∷ rest) =
    let none : nat_lt pair.0 0 ≡ false = grind (arith, nat_tests) in rw (none, free_among-zero rest) refl

-- among all addresses all free pairs are
pub free_among-all : (limit : ℕ) (cells : List (Option Cell)) (free : List (ℕ × ℕ)) → All (IsFreeIn limit cells) free → free_among free (length cells) ≡ length free
free_among-all limit cells [] all = refl
free_among-all limit cells (pair ∷ rest) all =
    let first : IsFreeIn limit cells pair = All-head (IsFreeIn limit cells) pair rest all in
    let low : nat_lt pair.0 (length cells) ≡ true = grind (arith, nat_tests, first.used) in
    let more = free_among-all limit cells rest (All-tail (IsFreeIn limit cells) pair rest all) in
    rw (low, more) (omega arith)

-- an address that was used has one of the three states
pub one_state : (slot : Option Cell) (colour : Option ℕ) → (IsSome slot → colour ≡ None)
    → one_if_live slot + one_if_free colour + one_if_retired (used_state slot colour) ≡ 1
one_state None None apart = refl
one_state None (Some k) apart = refl
one_state (Some cell) colour apart = rw (apart refl) refl

-- the state of an address that was used
pub state_of-used : (p : PartitionState) (a : ℕ) → a < length p.cells → state_of p a ≡ used_state (slice_index_or p.cells a None) (colour_at p.free a)
state_of-used p a l = let low : nat_lt a (length p.cells) ≡ true = grind (arith, nat_tests, l) in rw low refl

-- the first addresses are each live, free or retired
pub counted_to : (p : PartitionState) → IsTidy p → (n : ℕ) → n ≤ length p.cells
    → live_count (take n p.cells) + free_among p.free n + retired_among p n ≡ n
counted_to p t zero l = rw (free_among-zero p.free) refl
counted_to p t (suc n) l =
    let before = counted_to p t n (omega (arith, l)) in
    let live = live-take_more p.cells n (omega (arith, l)) in
    let free = free_among-more p.free n t.once in
    let one = one_state (slice_index_or p.cells n None) (colour_at p.free n)
    (λ some. colour_at-none p.free n (live_not_free p.limit n p.cells p.free some t.free_in)) in
    let state : retired_among p (suc n) ≡ retired_among p n + one_if_retired (used_state (slice_index_or p.cells n None) (colour_at p.free n)) =
    ap (λ s. retired_among p n + one_if_retired s) (state_of-used p n (omega (arith, l))) in
    omega (arith, before, live, free, one, state)

pub retired_exact : RetiredIsExact
retired_exact p t =
    let all = counted_to p t (length p.cells) (omega arith) in
    let cells : live_count (take (length p.cells) p.cells) ≡ live_count p.cells = ap live_count (take_all (length p.cells) p.cells (omega arith)) in
    omega (arith, all, cells, free_among-all p.limit p.cells p.free t.free_in, t.counted)

pub free_pairs : FreePairsAreStates
free_pairs p t k d l =
    let pair = slice_index_or p.free k d in
    let here : IsFreeIn p.limit p.cells (slice_index_or p.free k d) = t.free_in k d l in
    let state = state_of-used p (slice_index_or p.free k d).0 here.used in
    state ∙ ap (λ slot. used_state slot (colour_at p.free (slice_index_or p.free k d).0)) here.vacant
    ∙ ap (used_state None) (colour_at-pair p.free t.once k d l)
