-- The rows are typed programs, and were explored.
use Rattle.std.proofs.Common.{◌≡◌, ℕ, [], refl, rules}
use Rattle.law_plain_table.specs.Below.fr_terms.Terms.{block_t, Items}
use Rattle.law_plain_table.specs.Below.fr_terms.Limits.{HasShortPlaces}
use Rattle.law_plain_table.specs.Below.fr_typing.Kinds.{unit, own}
use Rattle.law_plain_table.specs.Below.fr_typing.Finding.{typed}
use Rattle.law_plain_table.specs.Below.fr_typing.Typing.{typing}
use Rattle.law_plain_table.specs.Below.fr_typing.Laws.{ExactlyOne}
use Rattle.law_plain_table.specs.Below.fr_plain.Resolve.{program}
use Rattle.law_plain_table.specs.CodeOf.{code_of}
use Rattle.law_plain_table.specs.ProgramCodes.{ProgramsHaveCodes}
use Rattle.law_plain_names.specs.Explored.{End}
use Rattle.law_runs_samples.specs.Rows.{written_box, empty, lent_slot, often_written, lent_box, read_elsewhere, written_elsewhere, read_by_pairs, read_two, locked_elsewhere, locked_twice}
use Rattle.law_runs_samples.specs.Examples.{TypedUnderAll, RowsAreTyped}

-- a block that typing gives a type
module _ (one : ExactlyOne) (codes : ProgramsHaveCodes) where
  typed_row : (items : Items) (steps : ℕ) (end : End) → typing (block_t 0 items) [] ≡ typed (own unit) [] → HasShortPlaces (block_t 0 items) → TypedUnderAll (record { term = block_t 0 items; steps = steps; end = end })
  typed_row items steps end e short o within = record {
    given = record {
      code = code_of (program (block_t 0 items));
      at = 0;
      items = items;
      kind = own unit;
      env = [];
      options = o;
      short = short;
      typed = (one.types (block_t 0 items) [] (own unit) []).1 e;
      is = (codes (block_t 0 items)).is;
      laid = (codes (block_t 0 items)).laid;
      within = within;
    };
    term = refl;
    options = refl;
  }

  pub rows_are_typed : RowsAreTyped
  rows_are_typed = (
    typed_row _ written_box.steps written_box.end refl (search rules),
    typed_row _ empty.steps empty.end refl (search rules),
    typed_row _ lent_slot.steps lent_slot.end refl (search rules),
    typed_row _ often_written.steps often_written.end refl (search rules),
    typed_row _ lent_box.steps lent_box.end refl (search rules),
    typed_row _ read_elsewhere.steps read_elsewhere.end refl (search rules),
    typed_row _ written_elsewhere.steps written_elsewhere.end refl (search rules),
    typed_row _ read_by_pairs.steps read_by_pairs.end refl (search rules),
    typed_row _ read_two.steps read_two.end refl (search rules),
    typed_row _ locked_elsewhere.steps locked_elsewhere.end refl (search rules),
    typed_row _ locked_twice.steps locked_twice.end refl (search rules),
  )
