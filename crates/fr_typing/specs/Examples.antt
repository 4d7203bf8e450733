-- What typing gives for some programs, each written above its term.
use Rattle.std.specs.Prelude.{◌≡◌, ℕ, ◌+◌, pos, suc, zero, List, [], ◌∷◌, Some}
use Rattle.fr_terms.specs.Terms.{Text, Spot, Captured, Term, block_t, let_t, assign_t, read_t, number_t, box_t, print_t, Items, none, item}
use Rattle.fr_typing.specs.declared.reason.Reason.TheVariants.{UnknownName, NameInScope, NotDefined, NoTarget, WrongType, NotOwned}
use Rattle.fr_typing.specs.Kinds.{unit, int, box, own, whole, gone, boxed}
use Rattle.fr_typing.specs.Places.{Env}
use Rattle.fr_typing.specs.Finding.{typed, fault}
use Rattle.fr_typing.specs.Typing.{typing}

abbrev pub items : List Term → Items
items [] = none
items (t ∷ ts) = item t (items ts)

-- the names
abbrev pub x : Text
x = 120 ∷ []

abbrev pub y : Text
y = 121 ∷ []

abbrev pub c : Text
c = 99 ∷ []

abbrev pub h : Text
h = 104 ∷ []

abbrev pub m : Text
m = 109 ∷ []

abbrev pub n : Text
n = 110 ∷ []

abbrev pub q : Text
q = 113 ∷ []

abbrev pub r : Text
r = 114 ∷ []

abbrev pub s : Text
s = 115 ∷ []

abbrev pub t : Text
t = 116 ∷ []

abbrev pub z : Text
z = 122 ∷ []

-- a place at a byte of the source
abbrev pub spot : ℕ → Text → ℕ → Spot
spot at name stars = record { at = at; name = name; stars = stars }

abbrev pub read : ℕ → Text → ℕ → Term
read at name stars = read_t at (spot at name stars)

-- a captured name at a byte of the source
abbrev pub name : ℕ → Text → Captured
name at text = record { at = at; name = text }

-- { let mut x = box 1; *x = 2; print *x }
abbrev written : Term
written = block_t 0 (items (let_t 2 x (box_t 14 (number_t 18 (pos 1))) ∷ assign_t 21 (spot 21 x 1) (number_t 26 (pos 2)) ∷ print_t 29 (read 35 x 1) ∷ []))

-- { let mut x = box 1; let mut y = x; print *x }
abbrev moved : Term
moved = block_t 0 (items (let_t 2 x (box_t 14 (number_t 18 (pos 1))) ∷ let_t 21 y (read 33 x 0) ∷ print_t 36 (read 42 x 1) ∷ []))

-- { let mut x = 1; { let mut y = box x; y } }
abbrev given : Term
given = block_t 0 (items (let_t 2 x (number_t 14 (pos 1)) ∷ block_t 17 (items (let_t 19 y (box_t 31 (read 35 x 0)) ∷ read 38 y 0 ∷ [])) ∷ []))

-- { let mut x = box 1; let mut y = x; x = box 2; print *x }
abbrev again : Term
again = block_t 0 (items (let_t 2 x (box_t 14 (number_t 18 (pos 1))) ∷ let_t 21 y (read 33 x 0) ∷ assign_t 36 (spot 36 x 0) (box_t 40 (number_t 44 (pos 2))) ∷ print_t 47 (read 53 x 1) ∷ []))

-- *x, where x is a box of a box of an integer
abbrev inner : Term
inner = read 0 x 1

abbrev before : Env
before = record { name = Some x; part = whole (own (box (box int))) } ∷ []

-- { let mut x = box box 1; let mut y = *x; let mut x = 1 }
abbrev twice : Term
twice = block_t 0 (items (let_t 2 x (box_t 14 (box_t 18 (number_t 22 (pos 1)))) ∷ let_t 25 y (read 37 x 1) ∷ let_t 41 x (number_t 53 (pos 1)) ∷ []))

-- so many boxes, each at its place, around 1
abbrev boxes : ℕ → ℕ → Term
boxes at zero = number_t at (pos 1)
boxes at (suc n) = box_t at (boxes (at + 4) n)

pub record ExamplesCompute : Type 0 where
  pub written : typing written [] ≡ typed (own unit) []
  pub moved : typing moved [] ≡ fault 42 NotDefined
  pub given : typing given [] ≡ typed (own (box int)) []
  pub again : typing again [] ≡ typed (own unit) []
  pub inner : typing inner before ≡ typed (own (box int)) (record { name = Some x; part = boxed (gone (own (box int))) } ∷ [])
  pub twice : typing twice [] ≡ fault 41 NameInScope
  pub unknown : typing (read 7 x 0) [] ≡ fault 7 UnknownName
  pub no_target : typing (read 7 x 3) before ≡ fault 7 NoTarget
  pub not_int : typing (print_t 3 (read 9 x 1)) before ≡ fault 9 WrongType
  pub other_shape : typing (assign_t 3 (spot 3 x 1) (number_t 8 (pos 1))) before ≡ fault 8 WrongType
  pub full : typing (boxes 5 64) [] ≡ fault 9 NotOwned
