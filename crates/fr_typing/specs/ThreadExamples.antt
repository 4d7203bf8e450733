-- What typing gives for whole programs with threads, mutexes and branches, each written above its term.
use Rattle.std.specs.Prelude.{◌≡◌, pos, [], ◌∷◌}
use Rattle.fr_base.specs.declared.place.Op.TheVariants.{Add}
use Rattle.fr_terms.specs.Terms.{Term, block_t, let_t, assign_t, borrow_t, borrow_mut_t, number_t, box_t, print_t, arith_t, join_t, mutex_t, dup_t, lock_t, spawn_t, par_t}
use Rattle.fr_typing.specs.declared.reason.Reason.TheVariants.{NameInScope, NotDefined, NotFull, NotOwned, NotWritable, Outlives, UnknownName, WriteBlocked, WrongType}
use Rattle.fr_typing.specs.Kinds.{unit, own}
use Rattle.fr_typing.specs.Finding.{typed, fault}
use Rattle.fr_typing.specs.Typing.{typing}
use Rattle.fr_typing.specs.Examples.{items, spot, read, name, c, h, m, n, q, r, s, t, x, y}

-- { let mut m = mutex 0; let mut n = dup m; let mut h = spawn (n) { lock n as c { c = (c + 1) } }; join h; lock m as c { print c } }
abbrev counted : Term
counted = block_t 0 (items (let_t 2 m (mutex_t 14 (number_t 20 (pos 0))) ∷ let_t 23 n (dup_t 35 (spot 39 m 0)) ∷ let_t 42 h (spawn_t 54 (name 61 n ∷ []) (block_t 64 (items (lock_t 66 (spot 71 n 0) c (block_t 78 (items (assign_t 80 (spot 80 c 0) (arith_t 84 Add (read 85 c 0) (number_t 89 (pos 1))) ∷ []))) ∷ [])))) ∷ join_t 97 (read 102 h 0) ∷ lock_t 105 (spot 110 m 0) c (block_t 117 (items (print_t 119 (read 125 c 0) ∷ []))) ∷ []))

-- { let mut m = mutex box 1; lock m as c { let mut x = c } }
abbrev takes_out : Term
takes_out = block_t 0 (items (let_t 2 m (mutex_t 14 (box_t 20 (number_t 24 (pos 1)))) ∷ lock_t 27 (spot 32 m 0) c (block_t 39 (items (let_t 41 x (read 53 c 0) ∷ []))) ∷ []))

-- { let mut m = mutex box 1; let mut y = lock m as c { let mut x = c; c = box 2; x }; print *y }
abbrev puts_back : Term
puts_back = block_t 0 (items (let_t 2 m (mutex_t 14 (box_t 20 (number_t 24 (pos 1)))) ∷ let_t 27 y (lock_t 39 (spot 44 m 0) c (block_t 51 (items (let_t 53 x (read 65 c 0) ∷ assign_t 68 (spot 68 c 0) (box_t 72 (number_t 76 (pos 2))) ∷ read 79 x 0 ∷ [])))) ∷ print_t 84 (read 90 y 1) ∷ []))

-- { let mut x = 1; let mut m = mutex 0; lock m as c { &x } }
abbrev refers_out : Term
refers_out = block_t 0 (items (let_t 2 x (number_t 14 (pos 1)) ∷ let_t 17 m (mutex_t 29 (number_t 35 (pos 0))) ∷ lock_t 38 (spot 43 m 0) c (block_t 50 (items (borrow_t 52 (spot 53 x 0) ∷ []))) ∷ []))

-- { let mut m = mutex 0; lock m as c { m = mutex 1 } }
abbrev held : Term
held = block_t 0 (items (let_t 2 m (mutex_t 14 (number_t 20 (pos 0))) ∷ lock_t 23 (spot 28 m 0) c (block_t 35 (items (assign_t 37 (spot 37 m 0) (mutex_t 41 (number_t 47 (pos 1))) ∷ []))) ∷ []))

-- { let mut m = mutex 0; lock m as m { print 1 } }
abbrev locks_as_itself : Term
locks_as_itself = block_t 0 (items (let_t 2 m (mutex_t 14 (number_t 20 (pos 0))) ∷ lock_t 23 (spot 28 m 0) m (block_t 35 (items (print_t 37 (number_t 43 (pos 1)) ∷ []))) ∷ []))

-- { let mut x = box 1; lock x as c { print c } }
abbrev locks_a_box : Term
locks_a_box = block_t 0 (items (let_t 2 x (box_t 14 (number_t 18 (pos 1))) ∷ lock_t 21 (spot 26 x 0) c (block_t 33 (items (print_t 35 (read 41 c 0) ∷ []))) ∷ []))

-- { let mut x = 1; let mut y = dup x }
abbrev dups_a_number : Term
dups_a_number = block_t 0 (items (let_t 2 x (number_t 14 (pos 1)) ∷ let_t 17 y (dup_t 29 (spot 33 x 0)) ∷ []))

-- { let mut x = 1; join x }
abbrev joins_a_number : Term
joins_a_number = block_t 0 (items (let_t 2 x (number_t 14 (pos 1)) ∷ join_t 17 (read 22 x 0) ∷ []))

-- { let mut x = 1; let mut m = mutex &x }
abbrev mutex_of_reference : Term
mutex_of_reference = block_t 0 (items (let_t 2 x (number_t 14 (pos 1)) ∷ let_t 17 m (mutex_t 29 (borrow_t 35 (spot 36 x 0))) ∷ []))

-- { let mut x = box 1; let mut h = spawn (x) { *x = 2; x }; x = join h; print *x }
abbrev there_and_back : Term
there_and_back = block_t 0 (items (let_t 2 x (box_t 14 (number_t 18 (pos 1))) ∷ let_t 21 h (spawn_t 33 (name 40 x ∷ []) (block_t 43 (items (assign_t 45 (spot 45 x 1) (number_t 50 (pos 2)) ∷ read 53 x 0 ∷ [])))) ∷ assign_t 58 (spot 58 x 0) (join_t 62 (read 67 h 0)) ∷ print_t 70 (read 76 x 1) ∷ []))

-- { let mut x = box 1; let mut h = spawn (x) { print *x }; print *x }
abbrev spawn_takes : Term
spawn_takes = block_t 0 (items (let_t 2 x (box_t 14 (number_t 18 (pos 1))) ∷ let_t 21 h (spawn_t 33 (name 40 x ∷ []) (block_t 43 (items (print_t 45 (read 51 x 1) ∷ [])))) ∷ print_t 57 (read 63 x 1) ∷ []))

-- { let mut x = 1; let mut r = &x; let mut h = spawn (r) { print *r } }
abbrev spawn_reference : Term
spawn_reference = block_t 0 (items (let_t 2 x (number_t 14 (pos 1)) ∷ let_t 17 r (borrow_t 29 (spot 30 x 0)) ∷ let_t 33 h (spawn_t 45 (name 52 r ∷ []) (block_t 55 (items (print_t 57 (read 63 r 1) ∷ [])))) ∷ []))

-- { let mut x = box 1; let mut r = &x; let mut h = spawn (x) { print *x } }
abbrev spawn_lent : Term
spawn_lent = block_t 0 (items (let_t 2 x (box_t 14 (number_t 18 (pos 1))) ∷ let_t 21 r (borrow_t 33 (spot 34 x 0)) ∷ let_t 37 h (spawn_t 49 (name 56 x ∷ []) (block_t 59 (items (print_t 61 (read 67 x 1) ∷ [])))) ∷ []))

-- { let mut x = box box 1; let mut y = *x; let mut h = spawn (x) { print 1 } }
abbrev spawn_part : Term
spawn_part = block_t 0 (items (let_t 2 x (box_t 14 (box_t 18 (number_t 22 (pos 1)))) ∷ let_t 25 y (read 37 x 1) ∷ let_t 41 h (spawn_t 53 (name 60 x ∷ []) (block_t 63 (items (print_t 65 (number_t 71 (pos 1)) ∷ [])))) ∷ []))

-- { let mut x = 1; let mut h = spawn (x, x) { print x } }
abbrev spawn_twice : Term
spawn_twice = block_t 0 (items (let_t 2 x (number_t 14 (pos 1)) ∷ let_t 17 h (spawn_t 29 (name 36 x ∷ name 39 x ∷ []) (block_t 42 (items (print_t 44 (read 50 x 0) ∷ [])))) ∷ []))

-- { let mut h = spawn () { let mut x = 1; let mut y = 2; { &x } } }
abbrev spawn_gives_reference : Term
spawn_gives_reference = block_t 0 (items (let_t 2 h (spawn_t 14 [] (block_t 23 (items (let_t 25 x (number_t 37 (pos 1)) ∷ let_t 40 y (number_t 52 (pos 2)) ∷ block_t 55 (items (borrow_t 57 (spot 58 x 0) ∷ [])) ∷ [])))) ∷ []))

-- { let mut x = box 1; { let mut r = &*x; par (r) { print *r } (r) { print *r } }; *x = 2 }
abbrev looks_in : Term
looks_in = block_t 0 (items (let_t 2 x (box_t 14 (number_t 18 (pos 1))) ∷ block_t 21 (items (let_t 23 r (borrow_t 35 (spot 36 x 1)) ∷ par_t 40 (name 45 r ∷ []) (block_t 48 (items (print_t 50 (read 56 r 1) ∷ []))) (name 62 r ∷ []) (block_t 65 (items (print_t 67 (read 73 r 1) ∷ []))) ∷ [])) ∷ assign_t 81 (spot 81 x 1) (number_t 86 (pos 2)) ∷ []))

-- { let mut x = box box 1; let mut r = &*x; par (r) { let mut s = &*r; par (s) { print **s } (s) { let mut t = &**s; print *t } } () { print 1 } }
abbrev looks_on : Term
looks_on = block_t 0 (items (let_t 2 x (box_t 14 (box_t 18 (number_t 22 (pos 1)))) ∷ let_t 25 r (borrow_t 37 (spot 38 x 1)) ∷ par_t 42 (name 47 r ∷ []) (block_t 50 (items (let_t 52 s (borrow_t 64 (spot 65 r 1)) ∷ par_t 69 (name 74 s ∷ []) (block_t 77 (items (print_t 79 (read 85 s 2) ∷ []))) (name 92 s ∷ []) (block_t 95 (items (let_t 97 t (borrow_t 109 (spot 110 s 2)) ∷ print_t 115 (read 121 t 1) ∷ []))) ∷ []))) [] (block_t 131 (items (print_t 133 (number_t 139 (pos 1)) ∷ []))) ∷ []))

-- { let mut x = box 1; let mut r = &*x; par (r) { print *r } (r) { print *r }; *x = 2 }
abbrev looked_at : Term
looked_at = block_t 0 (items (let_t 2 x (box_t 14 (number_t 18 (pos 1))) ∷ let_t 21 r (borrow_t 33 (spot 34 x 1)) ∷ par_t 38 (name 43 r ∷ []) (block_t 46 (items (print_t 48 (read 54 r 1) ∷ []))) (name 60 r ∷ []) (block_t 63 (items (print_t 65 (read 71 r 1) ∷ []))) ∷ assign_t 77 (spot 77 x 1) (number_t 82 (pos 2)) ∷ []))

-- { let mut x = 1; let mut r = &x; par (r) { print *r } () { print 1 } }
abbrev looks_at_slot : Term
looks_at_slot = block_t 0 (items (let_t 2 x (number_t 14 (pos 1)) ∷ let_t 17 r (borrow_t 29 (spot 30 x 0)) ∷ par_t 33 (name 38 r ∷ []) (block_t 41 (items (print_t 43 (read 49 r 1) ∷ []))) [] (block_t 57 (items (print_t 59 (number_t 65 (pos 1)) ∷ []))) ∷ []))

-- { let mut x = box 1; let mut r = &mut *x; par (r) { *r = 2 } () { print 1 } }
abbrev writes_in : Term
writes_in = block_t 0 (items (let_t 2 x (box_t 14 (number_t 18 (pos 1))) ∷ let_t 21 r (borrow_mut_t 33 (spot 38 x 1)) ∷ par_t 42 (name 47 r ∷ []) (block_t 50 (items (assign_t 52 (spot 52 r 1) (number_t 57 (pos 2)) ∷ []))) [] (block_t 64 (items (print_t 66 (number_t 72 (pos 1)) ∷ []))) ∷ []))

-- { let mut x = box 1; let mut r = &*x; par (r) { *r = 2 } () { print 1 } }
abbrev view_write : Term
view_write = block_t 0 (items (let_t 2 x (box_t 14 (number_t 18 (pos 1))) ∷ let_t 21 r (borrow_t 33 (spot 34 x 1)) ∷ par_t 38 (name 43 r ∷ []) (block_t 46 (items (assign_t 48 (spot 48 r 1) (number_t 53 (pos 2)) ∷ []))) [] (block_t 60 (items (print_t 62 (number_t 68 (pos 1)) ∷ []))) ∷ []))

-- { let mut x = box 1; let mut r = &*x; par (r) { let mut h = spawn (r) { print *r } } () { print 1 } }
abbrev spawn_view : Term
spawn_view = block_t 0 (items (let_t 2 x (box_t 14 (number_t 18 (pos 1))) ∷ let_t 21 r (borrow_t 33 (spot 34 x 1)) ∷ par_t 38 (name 43 r ∷ []) (block_t 46 (items (let_t 48 h (spawn_t 60 (name 67 r ∷ []) (block_t 70 (items (print_t 72 (read 78 r 1) ∷ [])))) ∷ []))) [] (block_t 88 (items (print_t 90 (number_t 96 (pos 1)) ∷ []))) ∷ []))

-- { let mut x = box box 1; let mut r = &mut x; let mut s = &**r; par (s) { print **s } () { print 1 } }
abbrev looks_through : Term
looks_through = block_t 0 (items (let_t 2 x (box_t 14 (box_t 18 (number_t 22 (pos 1)))) ∷ let_t 25 r (borrow_mut_t 37 (spot 42 x 0)) ∷ let_t 45 s (borrow_t 57 (spot 58 r 2)) ∷ par_t 63 (name 68 s ∷ []) (block_t 71 (items (print_t 73 (read 79 s 2) ∷ []))) [] (block_t 88 (items (print_t 90 (number_t 96 (pos 1)) ∷ []))) ∷ []))

-- { let mut x = box box 1; let mut r = &mut x; let mut s = &*r; par (s) { print ***s } () { print 1 } }
abbrev looks_at_lent : Term
looks_at_lent = block_t 0 (items (let_t 2 x (box_t 14 (box_t 18 (number_t 22 (pos 1)))) ∷ let_t 25 r (borrow_mut_t 37 (spot 42 x 0)) ∷ let_t 45 s (borrow_t 57 (spot 58 r 1)) ∷ par_t 62 (name 67 s ∷ []) (block_t 70 (items (print_t 72 (read 78 s 3) ∷ []))) [] (block_t 88 (items (print_t 90 (number_t 96 (pos 1)) ∷ []))) ∷ []))

-- { let mut x = box 1; par (x) { print *x } (x) { print *x } }
abbrev both_take : Term
both_take = block_t 0 (items (let_t 2 x (box_t 14 (number_t 18 (pos 1))) ∷ par_t 21 (name 26 x ∷ []) (block_t 29 (items (print_t 31 (read 37 x 1) ∷ []))) (name 43 x ∷ []) (block_t 46 (items (print_t 48 (read 54 x 1) ∷ []))) ∷ []))

-- { par () { 1 } () { print q } }
abbrev gives_a_number : Term
gives_a_number = block_t 0 (items (par_t 2 [] (block_t 9 (items (number_t 11 (pos 1) ∷ []))) [] (block_t 18 (items (print_t 20 (read 26 q 0) ∷ []))) ∷ []))

-- { par () { 1 } () { 2 } }
abbrev first_gives : Term
first_gives = block_t 0 (items (par_t 2 [] (block_t 9 (items (number_t 11 (pos 1) ∷ []))) [] (block_t 18 (items (number_t 20 (pos 2) ∷ []))) ∷ []))

-- { par () { print 1 } () { 2 } }
abbrev second_gives : Term
second_gives = block_t 0 (items (par_t 2 [] (block_t 9 (items (print_t 11 (number_t 17 (pos 1)) ∷ []))) [] (block_t 24 (items (number_t 26 (pos 2) ∷ []))) ∷ []))

pub record ThreadsCompute : Type 0 where
  pub counted : typing counted [] ≡ typed (own unit) []
  pub takes_out : typing takes_out [] ≡ fault 27 NotFull
  pub puts_back : typing puts_back [] ≡ typed (own unit) []
  pub refers_out : typing refers_out [] ≡ fault 50 NotOwned
  pub held : typing held [] ≡ fault 37 WriteBlocked
  pub locks_as_itself : typing locks_as_itself [] ≡ fault 23 NameInScope
  pub locks_a_box : typing locks_a_box [] ≡ fault 26 WrongType
  pub dups_a_number : typing dups_a_number [] ≡ fault 33 WrongType
  pub joins_a_number : typing joins_a_number [] ≡ fault 22 WrongType
  pub mutex_of_reference : typing mutex_of_reference [] ≡ fault 35 NotOwned
  pub there_and_back : typing there_and_back [] ≡ typed (own unit) []
  pub spawn_takes : typing spawn_takes [] ≡ fault 63 NotDefined
  pub spawn_reference : typing spawn_reference [] ≡ fault 52 NotOwned
  pub spawn_lent : typing spawn_lent [] ≡ fault 56 WriteBlocked
  pub spawn_part : typing spawn_part [] ≡ fault 60 NotFull
  pub spawn_twice : typing spawn_twice [] ≡ fault 39 NameInScope
  pub spawn_gives_reference : typing spawn_gives_reference [] ≡ fault 55 Outlives
  pub looks_in : typing looks_in [] ≡ typed (own unit) []
  pub looks_on : typing looks_on [] ≡ typed (own unit) []
  pub looked_at : typing looked_at [] ≡ fault 77 WriteBlocked
  pub looks_at_slot : typing looks_at_slot [] ≡ fault 38 NotOwned
  pub writes_in : typing writes_in [] ≡ fault 47 NotOwned
  pub view_write : typing view_write [] ≡ fault 48 NotWritable
  pub spawn_view : typing spawn_view [] ≡ fault 67 NotOwned
  pub looks_through : typing looks_through [] ≡ typed (own unit) []
  pub looks_at_lent : typing looks_at_lent [] ≡ fault 67 NotOwned
  pub both_take : typing both_take [] ≡ fault 43 NotDefined
  pub gives_a_number : typing gives_a_number [] ≡ fault 26 UnknownName
  pub first_gives : typing first_gives [] ≡ fault 9 WrongType
  pub second_gives : typing second_gives [] ≡ fault 24 WrongType
