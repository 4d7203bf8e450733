-- Generated programs (this project's rule): by a number and a size, one of three kinds of programs of any length.
use Rattle.std.specs.Prelude.{ℕ, ◌+◌, ◌/◌, ◌%◌, ◌==◌, zero, suc, pos, List, [], ◌∷◌, ◌++◌, codes, decimal, if◌then◌else◌}
use Rattle.fr_base.specs.declared.place.Op.TheVariants.{Add}
use Rattle.fr_terms.specs.Terms.{Text, Spot, Captured, Term, block_t, let_t, assign_t, read_t, borrow_t, number_t, box_t, print_t, arith_t, join_t, mutex_t, dup_t, lock_t, spawn_t, par_t, Items, none, item}
use Rattle.fr_parse.specs.Canonical.{canonical}

-- TERMS, none of which stands anywhere yet

abbrev pub items : List Term → Items
items [] = none
items (t ∷ ts) = item t (items ts)

abbrev pub block : List Term → Term
block ts = block_t 0 (items ts)

-- a name under so many stars
abbrev pub place : ℕ → Text → Spot
place stars name = record { at = 0; name = name; stars = stars }

abbrev pub read : ℕ → Text → Term
read stars name = read_t 0 (place stars name)

abbrev pub name : Text → List Captured
name x = record { at = 0; name = x } ∷ []

abbrev pub number : ℕ → Term
number n = number_t 0 (pos n)

-- so much is added to what stands at a place
abbrev pub add_at : ℕ → Text → ℕ → Term
add_at stars x d = assign_t 0 (place stars x) (arith_t 0 Add (read stars x) (number d))

-- what stands at the end under so many stars of `x` is printed
abbrev pub print_end : ℕ → Term
print_end stars = print_t 0 (read stars (codes "x"))

-- some items so many times
abbrev pub times : ℕ → List Term → List Term
times zero ts = []
times (suc k) ts = ts ++ times k ts

-- COUNTING: two threads add to what a mutex holds

abbrev pub add_locked : Text → ℕ → Term
add_locked share d = lock_t 0 (place 0 share) (codes "c") (block (add_at 0 (codes "c") d ∷ []))

abbrev pub counter : Text → ℕ → ℕ → Term
counter share k d = spawn_t 0 (name share) (block (times k (add_locked share d ∷ [])))

abbrev pub counting : ℕ → ℕ → List Term
counting k d =
    let_t 0 (codes "m") (mutex_t 0 (number 0))
    ∷ let_t 0 (codes "a") (dup_t 0 (place 0 (codes "m")))
    ∷ let_t 0 (codes "b") (dup_t 0 (place 0 (codes "m")))
    ∷ let_t 0 (codes "h") (counter (codes "a") k d)
    ∷ let_t 0 (codes "g") (counter (codes "b") k d)
    ∷ join_t 0 (read 0 (codes "h"))
    ∷ join_t 0 (read 0 (codes "g"))
    ∷ lock_t 0 (place 0 (codes "m")) (codes "c") (block (print_t 0 (read 0 (codes "c")) ∷ []))
    ∷ []

-- SHARING: pairs of threads read a box, which is written between them

abbrev pub printing : Term
printing = block (print_t 0 (read 1 (codes "r")) ∷ [])

abbrev pub shared_round : ℕ → List Term
shared_round d =
    block (let_t 0 (codes "r") (borrow_t 0 (place 1 (codes "x"))) ∷ par_t 0 (name (codes "r")) printing (name (codes "r")) printing ∷ [])
    ∷ add_at 1 (codes "x") d
    ∷ []

abbrev pub sharing : ℕ → ℕ → List Term
sharing k d = let_t 0 (codes "x") (box_t 0 (number d)) ∷ times k (shared_round d) ++ print_end 1 ∷ []

-- HANDING ON: one thread after another owns a box in a box, and gives it back

-- the name of the thread of that number
abbrev pub task_name : ℕ → Text
task_name i = codes "h" ++ decimal i

abbrev pub handed : ℕ → ℕ → List Term
handed i d =
    let_t 0 (task_name i) (spawn_t 0 (name (codes "x")) (block (add_at 2 (codes "x") d ∷ read 0 (codes "x") ∷ [])))
    ∷ assign_t 0 (place 0 (codes "x")) (join_t 0 (read 0 (task_name i)))
    ∷ []

-- so many threads, numbered from `i`
abbrev pub handed_from : ℕ → ℕ → ℕ → List Term
handed_from i zero d = []
handed_from i (suc n) d = handed i d ++ handed_from (i + 1) n d

abbrev pub handing : ℕ → ℕ → List Term
handing k d = let_t 0 (codes "x") (box_t 0 (box_t 0 (number d))) ∷ handed_from 0 k d ++ print_end 2 ∷ []

-- THE PROGRAM

-- what is added each time: 1 to 97
abbrev pub step_of : ℕ → ℕ
step_of n = 1 + n / 3 % 97

abbrev pub by_kind : ℕ → ℕ → ℕ → List Term
by_kind kind k d = if kind == 0 then counting k d else (if kind == 1 then sharing k d else handing k d)

abbrev pub program : ℕ → ℕ → Term
program n size = block (by_kind (n % 3) size (step_of n))

-- its text, which stays shut in what is said of it: open, it is long
unfoldable pub program_text : ℕ → ℕ → List ℕ
program_text n size = canonical (program n size)
