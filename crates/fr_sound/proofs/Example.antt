-- Programs that start typed.
use Rattle.std.proofs.Common.{◌≡◌, [], refl}
use Rattle.fr_plain.specs.Below.fr_terms.Terms.{Term, block_t, Items, none}
use Rattle.fr_plain.specs.Below.fr_typing.Sequential.{AreSequential}
use Rattle.fr_plain.specs.Below.fr_typing.Kinds.{unit, own}
use Rattle.fr_plain.specs.Below.fr_typing.Finding.{typed}
use Rattle.fr_plain.specs.Below.fr_typing.Typing.{typing}
use Rattle.fr_plain.proofs.Below.fr_typing.Agree.{exactly_one_lem}
use Rattle.fr_plain.specs.Examples.{lent_inside, twice_read, again_lent, turned, left_first}
use Rattle.fr_plain.specs.Resolve.{program}
use Rattle.fr_plain.specs.Whole.{start}
use Rattle.fr_sound.specs.NeverStuck.{IsTyped}
use Rattle.fr_sound.specs.Example.{ExamplesStart}
use Rattle.fr_sound.proofs.Whole.{starts_typed_lem}

-- the items of a program
abbrev items_of : Term → Items
items_of (block_t at items) = items
items_of t = none

-- a program that typing computes to be typed as unit starts typed
computed : (items : Items) → AreSequential items → typing (block_t 0 items) [] ≡ typed (own unit) [] → IsTyped (start (program (block_t 0 items)))
computed items ok is = starts_typed_lem 0 items (own unit) [] ok ((exactly_one_lem.types (block_t 0 items) [] (own unit) []).1 is)

-- the programs start typed
pub examples_start_lem : ExamplesStart
examples_start_lem = record {
  lent_inside = computed (items_of lent_inside) (tt, ((tt, (tt, tt)), (tt, tt))) refl;
  twice_read = computed (items_of twice_read) (tt, (tt, ((tt, tt), tt))) refl;
  again_lent = computed (items_of again_lent) (tt, (tt, (tt, (tt, (tt, tt))))) refl;
  turned = computed (items_of turned) (tt, (tt, (tt, (tt, (tt, ((tt, tt), tt)))))) refl;
  left_first = computed (items_of left_first) (tt, ((tt, (tt, (tt, tt))), tt)) refl;
}
