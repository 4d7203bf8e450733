-- The rows: that they are typed programs, so that what follows is said of runs that are there, and what follows.
use Rattle.std.specs.Prelude.{◌≡◌}
use Rattle.law_plain_table.specs.Below.fr_base.declared.settings.Options.{Options}
use Rattle.law_plain_table.specs.Below.fr_terms.Terms.{block_t}
use Rattle.law_runs_whole.specs.Below.coherent_memory.Naming.{options_out}
use Rattle.law_runs_whole.specs.programs.Programs.{Given}
use Rattle.law_runs_samples.specs.Rows.{Row, written_box, empty, lent_slot, often_written, lent_box, read_elsewhere, written_elsewhere, read_by_pairs, read_two, locked_elsewhere, locked_twice}
use Rattle.law_runs_samples.specs.Follow.{EventsEndAs}

-- a typed program with its code, under these options
pub record IsTyped (row : Row) (o : Options) : Type 0 where
  pub given : Given
  pub term : block_t given.at given.items ≡ row.term
  pub options : given.options ≡ o

abbrev pub TypedUnderAll : Row → Type 0
TypedUnderAll row = (o : Options) → options_out o ≡ 0 → IsTyped row o

abbrev pub OfAll : (Row → Type 0) → Type 0
OfAll P =
    P written_box × P empty × P lent_slot × P often_written × P lent_box × P read_elsewhere × P written_elsewhere × P read_by_pairs × P read_two × P locked_elsewhere × P locked_twice

abbrev pub RowsAreTyped : Type 0
RowsAreTyped = OfAll TypedUnderAll

abbrev pub RowsFollow : Type 0
RowsFollow = OfAll EventsEndAs
