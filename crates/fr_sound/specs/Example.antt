-- Programs with references and arithmetic that start typed: what the laws ask for can be met.
use Rattle.fr_plain.specs.Examples.{lent_inside, twice_read, again_lent, turned, left_first}
use Rattle.fr_plain.specs.Resolve.{program}
use Rattle.fr_plain.specs.Whole.{start}
use Rattle.fr_sound.specs.NeverStuck.{IsTyped}

pub record ExamplesStart : Type 0 where
  -- { let mut x = 1; { let mut r = &mut x; *r = 2 }; print x }
  pub lent_inside : IsTyped (start (program lent_inside))
  -- { let mut x = box 1; let mut r = &*x; print (*r + *r) }
  pub twice_read : IsTyped (start (program twice_read))
  -- { let mut x = box box 1; let mut r = &mut *x; let mut y = &mut **r; *y = 2; print *y }
  pub again_lent : IsTyped (start (program again_lent))
  -- { let mut x = 1; let mut y = 2; let mut r = &x; r = &y; &x; print (*r - x) }
  pub turned : IsTyped (start (program turned))
  -- { let mut x = 1; print (x - { x = 5; x }) }
  pub left_first : IsTyped (start (program left_first))
