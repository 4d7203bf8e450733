-- A code by which shapes are told apart.
use Rattle.std.specs.Prelude.{◌≡◌, ℕ, suc, zero, List, [], ◌∷◌, refl}
use Rattle.std.specs.Coded.{Coded, code_by, coded×, coded_ℕ, coded_list, coded_option}
use Rattle.std.proofs.Common.{ap}
use Rattle.fr_typing.specs.Kinds.{Owned}
use Rattle.fr_typing.specs.Places.{Shape, owned_shape, shared_to, mutable_to}
use Rattle.fr_types.specs.Codes.{owned_code}
use Rattle.fr_types.specs.SlotShapes.{Known}

-- the references, from the outside, and the owned type that they lead to
abbrev pub Leading : Type 0
Leading = List ℕ × Owned

abbrev pub one_more : ℕ → Leading → Leading
one_more n p = (n ∷ p.0, p.1)

abbrev pub shape_leading : Shape → Leading
shape_leading (owned_shape o) = ([], o)
shape_leading (shared_to s) = one_more 0 (shape_leading s)
shape_leading (mutable_to s) = one_more 1 (shape_leading s)

abbrev pub references : List ℕ → Owned → Shape
references [] o = owned_shape o
references (zero ∷ ns) o = shared_to (references ns o)
references (suc n ∷ ns) o = mutable_to (references ns o)

abbrev pub leading_shape : Leading → Shape
leading_shape p = references p.0 p.1

pub leading_shape-shape_leading : (s : Shape) → leading_shape (shape_leading s) ≡ s
leading_shape-shape_leading (owned_shape o) = refl
leading_shape-shape_leading (shared_to s) = ap shared_to (leading_shape-shape_leading s)
leading_shape-shape_leading (mutable_to s) = ap mutable_to (leading_shape-shape_leading s)

abbrev pub shape_code : Coded Shape
shape_code = code_by Leading (coded× (coded_list coded_ℕ) owned_code) shape_leading leading_shape leading_shape-shape_leading

abbrev pub shapes_code : Coded (List Shape)
shapes_code = coded_list shape_code

abbrev pub known_code : Coded Known
known_code = coded_option (coded_list (coded_option shape_code))
