-- The limits of a source (this project's rules).
use Rattle.std.specs.Prelude.{ℕ, ◌+◌, ◌≤◌, max, ⊤}
use Rattle.fr_terms.specs.Terms.{Spot, Term, block_t, let_t, assign_t, read_t, borrow_t, borrow_mut_t, number_t, unit_t, box_t, print_t, arith_t, join_t, mutex_t, dup_t, lock_t, spawn_t, par_t, Items, none, item}

abbrev mutual
  -- how many levels a term has: each item and each term is one deeper than the term that it is a part of
  pub levels : Term → ℕ
  levels (block_t at items) = levels_of items + 1
  levels (let_t at name value) = levels value + 1
  levels (assign_t at to value) = levels value + 1
  levels (read_t at from) = 1
  levels (borrow_t at of) = 1
  levels (borrow_mut_t at of) = 1
  levels (number_t at value) = 1
  levels (unit_t at) = 1
  levels (box_t at value) = levels value + 1
  levels (print_t at value) = levels value + 1
  levels (arith_t at op left right) = max (levels left) (levels right) + 1
  levels (join_t at task) = levels task + 1
  levels (mutex_t at value) = levels value + 1
  levels (dup_t at of) = 1
  levels (lock_t at of name body) = levels body + 1
  levels (spawn_t at captures body) = levels body + 1
  levels (par_t at captures body others other) = max (levels body) (levels other) + 1

  pub levels_of : Items → ℕ
  levels_of none = 0
  levels_of (item first rest) = max (levels first) (levels_of rest)

-- at most eight stars
abbrev pub IsShort : Spot → Type 0
IsShort w = w.stars ≤ 8

abbrev mutual
  pub HasShortPlaces : Term → Type 0
  HasShortPlaces (block_t at items) = HaveShortPlaces items
  HasShortPlaces (let_t at name value) = HasShortPlaces value
  HasShortPlaces (assign_t at to value) = IsShort to × HasShortPlaces value
  HasShortPlaces (read_t at from) = IsShort from
  HasShortPlaces (borrow_t at of) = IsShort of
  HasShortPlaces (borrow_mut_t at of) = IsShort of
  HasShortPlaces (number_t at value) = ⊤
  HasShortPlaces (unit_t at) = ⊤
  HasShortPlaces (box_t at value) = HasShortPlaces value
  HasShortPlaces (print_t at value) = HasShortPlaces value
  HasShortPlaces (arith_t at op left right) = HasShortPlaces left × HasShortPlaces right
  HasShortPlaces (join_t at task) = HasShortPlaces task
  HasShortPlaces (mutex_t at value) = HasShortPlaces value
  HasShortPlaces (dup_t at of) = IsShort of
  HasShortPlaces (lock_t at of name body) = IsShort of × HasShortPlaces body
  HasShortPlaces (spawn_t at captures body) = HasShortPlaces body
  HasShortPlaces (par_t at captures body others other) = HasShortPlaces body × HasShortPlaces other

  pub HaveShortPlaces : Items → Type 0
  HaveShortPlaces none = ⊤
  HaveShortPlaces (item first rest) = HasShortPlaces first × HaveShortPlaces rest

-- no term deeper than 64, no place with more than eight stars (names and numbers have their limits as tokens)
pub record IsWithinLimits (t : Term) : Type 0 where
  pub depth : levels t ≤ 64
  pub places : HasShortPlaces t
