-- When two boxes, owned values and cells are the same, words included, as tests.
use Rattle.std.specs.Prelude.{Bool, true, false, ◌&&◌, ◌==◌}
use Rattle.std.specs.Ordering.{int_eq}
use Rattle.fr_base.specs.Names.{same_object, same_mutex}
use Rattle.heap_partition.specs.declared.value.BoxPtr.{BoxPtr}
use Rattle.heap_partition.specs.declared.value.Owned.{Owned}
use Rattle.heap_partition.specs.declared.value.Owned.TheVariants as owned
use Rattle.heap_partition.specs.declared.value.Cell.{Cell}

abbrev pub same_box : BoxPtr → BoxPtr → Bool
same_box p q = (p.word == q.word) && same_object p.object q.object

abbrev pub same_owned : Owned → Owned → Bool
same_owned owned.Nothing owned.Nothing = true
same_owned owned.Unit owned.Unit = true
same_owned (owned.Int n) (owned.Int m) = int_eq n m
same_owned (owned.Box p) (owned.Box q) = same_box p q
same_owned (owned.Mutex m) (owned.Mutex n) = same_mutex m n
same_owned (owned.Task t) (owned.Task u) = t == u
same_owned _ _ = false

abbrev pub same_cell : Cell → Cell → Bool
same_cell c d = same_object c.object d.object && same_owned c.value d.value
