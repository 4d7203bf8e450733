-- The code of a checked program has a table.
use Rattle.std.proofs.Common.{List, []}
use Rattle.fr_base.specs.declared.instruction.Instr.{Instr}
use Rattle.fr_terms.specs.Terms.{Term, block_t, let_t, assign_t, read_t, borrow_t, borrow_mut_t, number_t, unit_t, box_t, print_t, arith_t, join_t, mutex_t, dup_t, lock_t, spawn_t, par_t, IsBlock}
use Rattle.fr_terms.specs.Limits.{HasShortPlaces}
use Rattle.fr_typing.specs.Kinds.{Kind}
use Rattle.fr_typing.specs.Laws.{IsTyped}
use Rattle.fr_syntax.specs.Meanings.{term_of}
use Rattle.borrow_check.specs.Programs.{Program, IsChecked}
use Rattle.fr_plain.specs.Resolve.{program}
use Rattle.fr_code.specs.StandsFor.{IsCodeOf}
use Rattle.law_plain_table.specs.Layout.{IsLaidOut}
use Rattle.law_plain_table.specs.Tables.{HasTable}
use Rattle.law_plain_table.proofs.Programs.{programs_have_tables}

block_tabled : (code : List Instr) (t : Term) → IsBlock t → HasShortPlaces t → IsTyped [] t → IsCodeOf code (program t) → IsLaidOut code → (k : Kind) × HasTable code k
block_tabled code (block_t at items) b short y is laid = (y.kind, programs_have_tables code at items y.kind y.after short y.types is laid)
block_tabled code (let_t at x t) b short y is laid = absurd b
block_tabled code (assign_t at w t) b short y is laid = absurd b
block_tabled code (read_t at w) b short y is laid = absurd b
block_tabled code (borrow_t at w) b short y is laid = absurd b
block_tabled code (borrow_mut_t at w) b short y is laid = absurd b
block_tabled code (number_t at n) b short y is laid = absurd b
block_tabled code (unit_t at) b short y is laid = absurd b
block_tabled code (box_t at t) b short y is laid = absurd b
block_tabled code (print_t at t) b short y is laid = absurd b
block_tabled code (arith_t at op t u) b short y is laid = absurd b
block_tabled code (join_t at t) b short y is laid = absurd b
block_tabled code (mutex_t at t) b short y is laid = absurd b
block_tabled code (dup_t at w) b short y is laid = absurd b
block_tabled code (lock_t at w x t) b short y is laid = absurd b
block_tabled code (spawn_t at cs t) b short y is laid = absurd b
block_tabled code (par_t at cs t ds u) b short y is laid = absurd b

-- a checked program is a typed block within the limits
pub checked_tabled : (p : Program) (code : List Instr) → IsChecked p → IsCodeOf code (program (term_of p.arena)) → IsLaidOut code → (k : Kind) × HasTable code k
checked_tabled p code c is laid = block_tabled code (term_of p.arena) c.checkable.block c.checkable.within.places c.typed is laid
