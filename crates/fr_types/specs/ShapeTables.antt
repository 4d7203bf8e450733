-- Numbers of shapes: a list of different shapes, the last one first, in which a shape's number is how many stand before it.
use Rattle.std.specs.Prelude.{◌≡◌, ℕ, ◌==◌, ◌<◌, ◌≤◌, ⊤, List, [], ◌∷◌, length, Bool, true, false, Option, Some, None, if◌then◌else◌}
use Rattle.fr_typing.specs.Kinds.{box, mutex, task}
use Rattle.fr_typing.specs.Places.{Shape, owned_shape, shared_to, mutable_to, same_shape}
use Rattle.fr_types.specs.declared.shape_node.Sort.{Sort}
use Rattle.fr_types.specs.declared.shape_node.Sort.TheVariants.{Box, Mutex, Task, Shared, Mut}

-- the shape of a number
abbrev pub shape_no : List Shape → ℕ → Option Shape
shape_no [] n = None
shape_no (s ∷ below) n = if n == length below then Some s else shape_no below n

abbrev pub shape_of_no : List Shape → Option ℕ → Option Shape
shape_of_no ss None = None
shape_of_no ss (Some n) = shape_no ss n

-- it is a number of the list, if it is one
abbrev pub IsNumber : List Shape → Option ℕ → Type 0
IsNumber ss None = ⊤
IsNumber ss (Some n) = n < length ss

-- the number of a shape
abbrev pub number_in : List Shape → Shape → Option ℕ
number_in [] s = None
number_in (t ∷ below) s = if same_shape t s then Some (length below) else number_in below s

abbrev pub number_at : List Shape → Option Shape → Option ℕ
number_at ss None = None
number_at ss (Some s) = number_in ss s

-- the shape of this sort that is made of another one: boxes, mutexes and tasks hold owned types alone
abbrev pub wrapped : Sort → Shape → Option Shape
wrapped Box (owned_shape o) = Some (owned_shape (box o))
wrapped Mutex (owned_shape o) = Some (owned_shape (mutex o))
wrapped Task (owned_shape o) = Some (owned_shape (task o))
wrapped Shared s = Some (shared_to s)
wrapped Mut s = Some (mutable_to s)
wrapped _ _ = None

abbrev pub wrapped_in : Option Shape → Sort → Option Shape
wrapped_in None sort = None
wrapped_in (Some s) sort = wrapped sort s

abbrev pub wrapped_no : List Shape → ℕ → Sort → Option Shape
wrapped_no ss n sort = wrapped_in (shape_no ss n) sort

-- the shape is there, and that of an owned type
abbrev pub is_owned_shape : Option Shape → Bool
is_owned_shape (Some (owned_shape o)) = true
is_owned_shape _ = false

-- the shapes with one more, if it isn't there
abbrev pub with_new : Option ℕ → Shape → List Shape → List Shape
with_new None s ss = s ∷ ss
with_new (Some n) s ss = ss

abbrev pub with_shape : List Shape → Option Shape → List Shape
with_shape ss None = ss
with_shape ss (Some s) = with_new (number_in ss s) s ss

-- no two numbers have one shape
abbrev pub AreDifferent : List Shape → Type 0
AreDifferent ss = (m n : ℕ) (s : Shape) → shape_no ss m ≡ Some s → shape_no ss n ≡ Some s → m ≡ n

-- what had a number keeps it
pub record Keeps (old new : List Shape) : Type 0 where
  pub longer : length old ≤ length new
  pub same : (n : ℕ) → n < length old → shape_no new n ≡ shape_no old n
