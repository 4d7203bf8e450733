-- The terms of the language (Featherweight Rust with this project's threads, mutexes, arithmetic and print),
-- each with the place of its first token. Names are texts.
use Rattle.std.specs.Prelude.{ℕ, ℤ, Bool, ⊤, List}
use Rattle.std.specs.Str.{bytes_eq}
use Rattle.fr_base.specs.declared.place.Op.{Op}

-- a name's bytes
abbrev pub Text : Type 0
Text = List ℕ

abbrev pub same_text : Text → Text → Bool
same_text a b = bytes_eq a b

-- a place as it is written: a name under so many stars; `at` is where its first token starts
pub record Spot : Type 0 where
  pub at : ℕ
  pub name : Text
  pub stars : ℕ

-- a captured name
pub record Captured : Type 0 where
  pub at : ℕ
  pub name : Text

mutual
  pub data Term : Type 0 where
    block_t : (at : ℕ) (items : Items) → Term
    let_t : (at : ℕ) (name : Text) (value : Term) → Term
    assign_t : (at : ℕ) (to : Spot) (value : Term) → Term
    read_t : (at : ℕ) (from : Spot) → Term
    borrow_t : (at : ℕ) (of : Spot) → Term
    borrow_mut_t : (at : ℕ) (of : Spot) → Term
    number_t : (at : ℕ) (value : ℤ) → Term
    unit_t : (at : ℕ) → Term
    box_t : (at : ℕ) (value : Term) → Term
    print_t : (at : ℕ) (value : Term) → Term
    arith_t : (at : ℕ) (op : Op) (left right : Term) → Term
    join_t : (at : ℕ) (task : Term) → Term
    mutex_t : (at : ℕ) (value : Term) → Term
    dup_t : (at : ℕ) (of : Spot) → Term
    lock_t : (at : ℕ) (of : Spot) (name : Text) (body : Term) → Term
    spawn_t : (at : ℕ) (captures : List Captured) (body : Term) → Term
    par_t : (at : ℕ) (captures : List Captured) (body : Term) (others : List Captured) (other : Term) → Term

  pub data Items : Type 0 where
    none : Items
    item : (first : Term) (rest : Items) → Items

-- where a term's first token starts
abbrev pub start_of : Term → ℕ
start_of (block_t at items) = at
start_of (let_t at name value) = at
start_of (assign_t at to value) = at
start_of (read_t at from) = at
start_of (borrow_t at of) = at
start_of (borrow_mut_t at of) = at
start_of (number_t at value) = at
start_of (unit_t at) = at
start_of (box_t at value) = at
start_of (print_t at value) = at
start_of (arith_t at op left right) = at
start_of (join_t at task) = at
start_of (mutex_t at value) = at
start_of (dup_t at of) = at
start_of (lock_t at of name body) = at
start_of (spawn_t at captures body) = at
start_of (par_t at captures body others other) = at

-- a block, as programs and the bodies of threads and locks are
abbrev pub IsBlock : Term → Type 0
IsBlock (block_t at items) = ⊤
IsBlock _ = ⊥
