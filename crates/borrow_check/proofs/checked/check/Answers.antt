use Rattle.std.proofs.Common.{◌∙◌}
use Rattle.fr_types.specs.Types.{kind_of}
use Rattle.borrow_check.proofs.ProgramLemmas.{few_at_root, checked_at_root, typed_at_root, fault_at_root}
use Rattle.borrow_check.proofs.checked.check.Goals as goal

pub check_term-requires-clause-few : goal.check_term-requires-clause-few
check_term-requires-clause-few c = few_at_root c.args.tree c.root.result c.new-env.result c.len.ensures.arena c.requires c.root.ensures c.new-env.ensures

pub invariant_of-result : goal.invariant_of-result
invariant_of-result c =
    checked_at_root c.args.tree c.root.result c.new-env.result (kind_of c.in-Ok.field-0) _ c.in_ok-usages.usages.items c.check_term.new.checker.usages.items
    c.len.ensures.arena c.requires c.root.ensures c.new-env.ensures c.in-Ok.ensures.gives c.in-Ok.ensures.usages (c.in_ok-usages.ensures ∙ c.len.ensures.meanings)

pub returns-in-Ok-clause-typed : goal.returns-in-Ok-clause-typed
returns-in-Ok-clause-typed c = typed_at_root c.args.tree c.root.result c.new-env.result (kind_of c.in-Ok.field-0) _ c.root.ensures c.new-env.ensures c.in-Ok.ensures.gives

pub returns-in-Err-clause-fault : goal.returns-in-Err-clause-fault
returns-in-Err-clause-fault c = fault_at_root c.args.tree c.root.result c.new-env.result c.in-Err.e _ c.root.ensures c.new-env.ensures c.in-Err.ensures.gives
