-- What is looked for on a path.
use Rattle.std.specs.Prelude.{Bool, ◌||◌}
use Rattle.fr_typing.specs.Places.{Found, is_lent, is_mutable}
use Rattle.fr_types.specs.declared.path.Test.{Test}
use Rattle.fr_types.specs.declared.path.Test.TheVariants.{Lent, Mutable, Any}

abbrev pub test_of : Test → Found → Bool
test_of Lent = is_lent
test_of Mutable = is_mutable
test_of Any = λ f. is_lent f || is_mutable f
