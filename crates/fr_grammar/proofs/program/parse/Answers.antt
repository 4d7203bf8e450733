use Rattle.std.proofs.Common.{◌∙◌}
use Rattle.std.proofs.lemmas.Result.{err_from_is_err_and}
use Rattle.fr_grammar.proofs.GrowthLemmas.{tree_done}
use Rattle.fr_grammar.proofs.Programs.{program_sound, fault_spells_none, program_is}
use Rattle.fr_grammar.proofs.FirstRefusal.{fault_is_first}
use Rattle.fr_grammar.proofs.program.parse.Goals as goal

pub program-requires-clause-readable : goal.program-requires-clause-readable
program-requires-clause-readable c =
    rw c.in_ok-copy_names.ensures.names c.as_slice-items.ensures.readable

pub returns-in_err-program-clause-first : goal.returns-in_err-program-clause-first
returns-in_err-program-clause-first c =
    let p = err_from_is_err_and c.from_residual-in_err-program.result c.from_residual-in_err-program.ensures.1 in
    rw (p.1, p.2) (fault_is_first _ _ _ _ c.as_slice-items.ensures.items c.in_err-program.ensures.value)

pub returns-in_err-program-clause-refused : goal.returns-in_err-program-clause-refused
returns-in_err-program-clause-refused c =
    let p = err_from_is_err_and c.from_residual-in_err-program.result c.from_residual-in_err-program.ensures.1 in
    rw (p.1, p.2) (fault_spells_none _ _ _ _ _ c.in_ok-copy_names.ensures.names c.as_slice-items.ensures.items c.in_err-program.ensures.value)

pub returns-clause-tree : goal.returns-clause-tree
returns-clause-tree c = (tree_done _ _ _ (c.in_ok-copy_names.ensures.meanings ∙ c.new-tree.ensures.meanings) c.in_ok-program.ensures.node).0

pub returns-clause-spelled : goal.returns-clause-spelled
returns-clause-spelled c =
    let done = tree_done _ _ _ (c.in_ok-copy_names.ensures.meanings ∙ c.new-tree.ensures.meanings) c.in_ok-program.ensures.node in
    program_sound _ _ _ (program_is _ _ _ _ _ _ c.in_ok-copy_names.ensures.names c.as_slice-items.ensures.items c.in_ok-program.ensures.value done.1)
