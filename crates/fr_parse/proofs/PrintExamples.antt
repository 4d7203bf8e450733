-- Small programs and their canonical texts.
use Rattle.std.proofs.Common.{◌≡◌, ℕ, pos, negsuc, [], ◌∷◌, refl, codes}
use Rattle.std.specs.Fmt.{digits}
use Rattle.fr_base.specs.declared.place.Op.TheVariants.{Add}
use Rattle.fr_terms.specs.Terms.{Spot, Captured, Term, block_t, let_t, assign_t, read_t, borrow_t, borrow_mut_t, number_t, unit_t, box_t, print_t, arith_t, join_t, mutex_t, dup_t, lock_t, spawn_t, par_t, none, item}
use Rattle.fr_parse.specs.Canonical.{canonical}

-- names under so many stars, and a captured name
abbrev x_under : ℕ → Spot
x_under stars = record { at = 0; name = codes "x"; stars = stars }

-- m under so many stars
abbrev m_under : ℕ → Spot
m_under stars = record { at = 0; name = codes "m"; stars = stars }

-- r under so many stars
abbrev r_under : ℕ → Spot
r_under stars = record { at = 0; name = codes "r"; stars = stars }

-- captured x
abbrev x_c : Captured
x_c = record { at = 0; name = codes "x" }

-- captured m
abbrev m_c : Captured
m_c = record { at = 0; name = codes "m" }

-- captured r
abbrev r_c : Captured
r_c = record { at = 0; name = codes "r" }

-- an empty block
empty_text : canonical (block_t 0 none) ≡ codes "{ }\n"
empty_text = refl

-- the constant unit behind a last semicolon is written out
unit_text : canonical (block_t 0 (item (number_t 0 (negsuc 1)) (item (unit_t 0) none))) ≡ codes "{ - 2 ; ( ) }\n"
unfolding digits
unit_text = refl

-- a borrow that two threads share
abbrev threads : Term
threads =
    block_t 0 (item (let_t 0 (codes "r") (borrow_t 0 (x_under 1)))
    (item (par_t 0 (r_c ∷ []) (block_t 0 (item (print_t 0 (read_t 0 (r_under 1))) none)) (r_c ∷ []) (block_t 0 (item (print_t 0 (read_t 0 (r_under 1))) none))) none))

-- a borrow that two threads share, in a whole program
par_text : canonical (block_t 0 (item (let_t 0 (codes "x") (box_t 0 (number_t 0 (pos 2))))
    (item threads (item (assign_t 0 (x_under 1) (arith_t 0 Add (read_t 0 (x_under 1)) (number_t 0 (pos 2)))) (item (print_t 0 (read_t 0 (x_under 1))) none)))))
    ≡ codes "{ let mut x = box 2 ; { let mut r = & * x ; par ( r ) { print * r } ( r ) { print * r } } ; * x = ( * x + 2 ) ; print * x }\n"
unfolding digits
par_text = refl

-- threads, locks, and borrows that write
locked_text : canonical (block_t 0 (item (let_t 0 (codes "m") (mutex_t 0 (number_t 0 (pos 10)))) (item (join_t 0 (spawn_t 0 (x_c ∷ m_c ∷ []) (block_t 0 none)))
    (item (lock_t 0 (m_under 2) (codes "r") (block_t 0 (item (dup_t 0 (m_under 0)) none))) (item (spawn_t 0 [] (block_t 0 (item (borrow_mut_t 0 (m_under 0)) none))) none)))))
    ≡ codes "{ let mut m = mutex 10 ; join spawn ( x , m ) { } ; lock * * m as r { dup m } ; spawn ( ) { & mut m } }\n"
unfolding digits
locked_text = refl
