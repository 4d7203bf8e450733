-- What typing gives for whole programs with references and sums, each written above its term.
use Rattle.std.specs.Prelude.{◌≡◌, pos, [], ◌∷◌}
use Rattle.fr_base.specs.declared.place.Op.TheVariants.{Add, Sub, Mul}
use Rattle.fr_terms.specs.Terms.{Term, block_t, let_t, assign_t, borrow_t, borrow_mut_t, number_t, unit_t, box_t, print_t, arith_t}
use Rattle.fr_typing.specs.declared.reason.Reason.TheVariants.{MovedThrough, NotDefined, NotOwned, NotWritable, Outlives, ReadBlocked, UnknownName, WriteBlocked, WrongType}
use Rattle.fr_typing.specs.Kinds.{unit, own}
use Rattle.fr_typing.specs.Finding.{typed, fault}
use Rattle.fr_typing.specs.Typing.{typing}
use Rattle.fr_typing.specs.Examples.{items, spot, read, q, r, s, x, y, z}

-- { let mut x = 1; let mut r = &mut x; print x; *r = 2 }
abbrev lent : Term
lent = block_t 0 (items (let_t 2 x (number_t 14 (pos 1)) ∷ let_t 17 r (borrow_mut_t 29 (spot 34 x 0)) ∷ print_t 37 (read 43 x 0) ∷ assign_t 46 (spot 46 r 1) (number_t 51 (pos 2)) ∷ []))

-- { let mut x = 1; { let mut r = &mut x; *r = 2 }; print x }
abbrev lent_inside : Term
lent_inside = block_t 0 (items (let_t 2 x (number_t 14 (pos 1)) ∷ block_t 17 (items (let_t 19 r (borrow_mut_t 31 (spot 36 x 0)) ∷ assign_t 39 (spot 39 r 1) (number_t 44 (pos 2)) ∷ [])) ∷ print_t 49 (read 55 x 0) ∷ []))

-- { let mut r = &mut q; print 1 }
abbrev no_such : Term
no_such = block_t 0 (items (let_t 2 r (borrow_mut_t 14 (spot 19 q 0)) ∷ print_t 22 (number_t 28 (pos 1)) ∷ []))

-- { let mut x = 1; let mut r = &x; { let mut y = 2; r = &y } }
abbrev of_inner : Term
of_inner = block_t 0 (items (let_t 2 x (number_t 14 (pos 1)) ∷ let_t 17 r (borrow_t 29 (spot 30 x 0)) ∷ block_t 33 (items (let_t 35 y (number_t 47 (pos 2)) ∷ assign_t 50 (spot 50 r 0) (borrow_t 54 (spot 55 y 0)) ∷ [])) ∷ []))

-- { { let mut y = 2; &y } }
abbrev last_of_inner : Term
last_of_inner = block_t 0 (items (block_t 2 (items (let_t 4 y (number_t 16 (pos 2)) ∷ borrow_t 19 (spot 20 y 0) ∷ [])) ∷ []))

-- { let mut x = box 1; let mut r = &x; let mut y = *r }
abbrev through_reference : Term
through_reference = block_t 0 (items (let_t 2 x (box_t 14 (number_t 18 (pos 1))) ∷ let_t 21 r (borrow_t 33 (spot 34 x 0)) ∷ let_t 37 y (read 49 r 1) ∷ []))

-- { let mut x = 1; let mut r = &x; *r = 2 }
abbrev shared_write : Term
shared_write = block_t 0 (items (let_t 2 x (number_t 14 (pos 1)) ∷ let_t 17 r (borrow_t 29 (spot 30 x 0)) ∷ assign_t 33 (spot 33 r 1) (number_t 38 (pos 2)) ∷ []))

-- { let mut x = box 1; let mut r = &x; let mut s = &mut **r }
abbrev shared_mut : Term
shared_mut = block_t 0 (items (let_t 2 x (box_t 14 (number_t 18 (pos 1))) ∷ let_t 21 r (borrow_t 33 (spot 34 x 0)) ∷ let_t 37 s (borrow_mut_t 49 (spot 54 r 2)) ∷ []))

-- { let mut x = 1; let mut r = &x; x = 2 }
abbrev lent_write : Term
lent_write = block_t 0 (items (let_t 2 x (number_t 14 (pos 1)) ∷ let_t 17 r (borrow_t 29 (spot 30 x 0)) ∷ assign_t 33 (spot 33 x 0) (number_t 37 (pos 2)) ∷ []))

-- { let mut x = 1; let mut r = &x; let mut s = &x; print (*r + (*s * x)) }
abbrev two_readers : Term
two_readers = block_t 0 (items (let_t 2 x (number_t 14 (pos 1)) ∷ let_t 17 r (borrow_t 29 (spot 30 x 0)) ∷ let_t 33 s (borrow_t 45 (spot 46 x 0)) ∷ print_t 49 (arith_t 55 Add (read 56 r 1) (arith_t 61 Mul (read 62 s 1) (read 67 x 0))) ∷ []))

-- { let mut x = 1; let mut r = &mut x; let mut s = &mut x }
abbrev two_writers : Term
two_writers = block_t 0 (items (let_t 2 x (number_t 14 (pos 1)) ∷ let_t 17 r (borrow_mut_t 29 (spot 34 x 0)) ∷ let_t 37 s (borrow_mut_t 49 (spot 54 x 0)) ∷ []))

-- { let mut x = box 1; let mut r = &mut x; let mut s = &mut **r; *s = 2; print *s }
abbrev again_lent : Term
again_lent = block_t 0 (items (let_t 2 x (box_t 14 (number_t 18 (pos 1))) ∷ let_t 21 r (borrow_mut_t 33 (spot 38 x 0)) ∷ let_t 41 s (borrow_mut_t 53 (spot 58 r 2)) ∷ assign_t 63 (spot 63 s 1) (number_t 68 (pos 2)) ∷ print_t 71 (read 77 s 1) ∷ []))

-- { let mut x = 1; let mut y = 1; let mut r = &x; let mut s = &mut r; *s = &y }
abbrev under_star : Term
under_star = block_t 0 (items (let_t 2 x (number_t 14 (pos 1)) ∷ let_t 17 y (number_t 29 (pos 1)) ∷ let_t 32 r (borrow_t 44 (spot 45 x 0)) ∷ let_t 48 s (borrow_mut_t 60 (spot 65 r 0)) ∷ assign_t 68 (spot 68 s 1) (borrow_t 73 (spot 74 y 0)) ∷ []))

-- { let mut x = box 1; let mut y = x; let mut r = &x }
abbrev gone_lent : Term
gone_lent = block_t 0 (items (let_t 2 x (box_t 14 (number_t 18 (pos 1))) ∷ let_t 21 y (read 33 x 0) ∷ let_t 36 r (borrow_t 48 (spot 49 x 0)) ∷ []))

-- { let mut x = box 1; let mut z = 2; let mut r = &mut *x; { let mut s = r }; let mut y = x; r = &mut z }
abbrev shape_stays : Term
shape_stays = block_t 0 (items (let_t 2 x (box_t 14 (number_t 18 (pos 1))) ∷ let_t 21 z (number_t 33 (pos 2)) ∷ let_t 36 r (borrow_mut_t 48 (spot 53 x 1)) ∷ block_t 57 (items (let_t 59 s (read 71 r 0) ∷ [])) ∷ let_t 76 y (read 88 x 0) ∷ assign_t 91 (spot 91 r 0) (borrow_mut_t 95 (spot 100 z 0)) ∷ []))

-- { (() + q) }
abbrev left_operand : Term
left_operand = block_t 0 (items (arith_t 2 Add (unit_t 3) (read 8 q 0) ∷ []))

-- { (1 - ()) }
abbrev right_operand : Term
right_operand = block_t 0 (items (arith_t 2 Sub (number_t 3 (pos 1)) (unit_t 7) ∷ []))

pub record BorrowsCompute : Type 0 where
  pub lent : typing lent [] ≡ fault 43 ReadBlocked
  pub lent_inside : typing lent_inside [] ≡ typed (own unit) []
  pub no_such : typing no_such [] ≡ fault 19 UnknownName
  pub of_inner : typing of_inner [] ≡ fault 54 Outlives
  pub last_of_inner : typing last_of_inner [] ≡ fault 19 Outlives
  pub through_reference : typing through_reference [] ≡ fault 49 MovedThrough
  pub shared_write : typing shared_write [] ≡ fault 33 NotWritable
  pub shared_mut : typing shared_mut [] ≡ fault 54 NotWritable
  pub lent_write : typing lent_write [] ≡ fault 33 WriteBlocked
  pub two_readers : typing two_readers [] ≡ typed (own unit) []
  pub two_writers : typing two_writers [] ≡ fault 54 WriteBlocked
  pub again_lent : typing again_lent [] ≡ typed (own unit) []
  pub under_star : typing under_star [] ≡ fault 73 NotOwned
  pub gone_lent : typing gone_lent [] ≡ fault 49 NotDefined
  pub shape_stays : typing shape_stays [] ≡ typed (own unit) []
  pub left_operand : typing left_operand [] ≡ fault 3 WrongType
  pub right_operand : typing right_operand [] ≡ fault 7 WrongType
