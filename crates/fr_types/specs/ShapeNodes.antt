-- What the code keeps of each shape of a table.
use Rattle.std.specs.Prelude.{◌≡◌, ℕ, ◌<◌, ◌≤◌, List, [], ◌∷◌, length, slice_index_or, Bool, true, false, Option, Some, None}
use Rattle.fr_typing.specs.Kinds.{unit, int}
use Rattle.fr_typing.specs.Places.{Shape, owned_shape}
use Rattle.fr_types.specs.declared.shape_node.Sort.{Sort}
use Rattle.fr_types.specs.declared.shape_node.Sort.TheVariants.{Box, Mutex, Task, Shared, Mut}
use Rattle.fr_types.specs.declared.shape_node.Made.{Made}
use Rattle.fr_types.specs.declared.shape_node.Made.TheVariants.{Unit, Int, Around}
use Rattle.fr_types.specs.declared.shape_node.ShapeNode.{ShapeNode}
use Rattle.fr_types.specs.ShapeTables.{shape_no, number_in, number_at, wrapped_no}

-- a shape of which no other is made
abbrev pub leaf : Made → ShapeNode
leaf m = record { made = m; boxed = None; mutex = None; task = None; shared = None; mutable = None }

-- what is asked of a shape that isn't there
abbrev pub blank : ShapeNode
blank = leaf Unit

-- the number to which a star takes what is made so
abbrev pub inner_of : Made → Option ℕ
inner_of (Around Box n) = Some n
inner_of (Around Shared n) = Some n
inner_of (Around Mut n) = Some n
inner_of _ = None

-- what is made so is an owned type's
abbrev pub is_owned_made : Made → Bool
is_owned_made (Around Shared n) = false
is_owned_made (Around Mut n) = false
is_owned_made _ = true

abbrev pub child_of : ShapeNode → Sort → Option ℕ
child_of n Box = n.boxed
child_of n Mutex = n.mutex
child_of n Task = n.task
child_of n Shared = n.shared
child_of n Mut = n.mutable

abbrev pub with_child : ShapeNode → Sort → ℕ → ShapeNode
with_child n Box number = record n { boxed = Some number }
with_child n Mutex number = record n { mutex = Some number }
with_child n Task number = record n { task = Some number }
with_child n Shared number = record n { shared = Some number }
with_child n Mut number = record n { mutable = Some number }

-- the shape that is made so
abbrev pub made_in : List Shape → Made → Option Shape
made_in ss Unit = Some (owned_shape unit)
made_in ss Int = Some (owned_shape int)
made_in ss (Around sort inner) = wrapped_no ss inner sort

abbrev pub or_unit : Option Shape → Shape
or_unit None = owned_shape unit
or_unit (Some s) = s

-- the shapes of these, in order, above those
abbrev pub shapes_onto : List Shape → List ShapeNode → List Shape
shapes_onto below [] = below
shapes_onto below (n ∷ ns) = shapes_onto (or_unit (made_in below n.made) ∷ below) ns

-- the last shape first
abbrev pub shapes_of : List ShapeNode → List Shape
shapes_of ns = shapes_onto [] ns

-- unit and int come first; each shape is made as it says, knows the numbers of all that are made of it, and has one number
pub record IsTable (ss : List Shape) (ns : List ShapeNode) : Type 0 where
  pub unit_first : 0 < length ss → shape_no ss 0 ≡ Some (owned_shape unit)
  pub int_next : 0 < length ss → shape_no ss 1 ≡ Some (owned_shape int)
  pub made : (n : ℕ) → n < length ns → made_in ss (slice_index_or ns n blank).made ≡ shape_no ss n
  pub children : (n : ℕ) (sort : Sort) → child_of (slice_index_or ns n blank) sort ≡ number_at ss (wrapped_no ss n sort)
  pub different : (n : ℕ) (s : Shape) → shape_no ss n ≡ Some s → number_in ss s ≡ Some n
  pub few : length ns ≤ 4294967295
