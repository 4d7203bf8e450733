-- The numbers of the kinds of messages.
use Rattle.std.specs.Prelude.{ℕ}
use Rattle.fr_base.specs.declared.message.Kind.{Kind}
use Rattle.fr_base.specs.declared.message.Kind.TheVariants as kind

abbrev pub kind_number : Kind → ℕ
kind_number kind.Fetch = 0
kind_number kind.Fetched = 1
kind_number kind.Move = 2
kind_number kind.Moved = 3
kind_number kind.Drop = 4
kind_number kind.Lock = 5
kind_number kind.Granted = 6
kind_number kind.Unlock = 7
kind_number kind.Dup = 8
kind_number kind.Dupped = 9
kind_number kind.Release = 10
kind_number kind.Start = 11
kind_number kind.Join = 12
kind_number kind.Joined = 13
kind_number kind.Finished = 14
kind_number kind.Migrate = 15
