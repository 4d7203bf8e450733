use Rattle.std.proofs.Common.{sym, subst}
use Rattle.fr_syntax.proofs.NameTexts.{names_apart}
use Rattle.borrow_check.specs.Rules.{AreDifferentTexts}
use Rattle.cluster_tests.proofs.run.checked.Goals as goal

pub check-requires : goal.check-requires
check-requires c =
    let spelled = c.in_ok-tree.ensures.spelled in
    record {
      tree = c.in_ok-tree.ensures.tree;
      within = spelled.limits;
      block = spelled.grammar.0;
      names = subst AreDifferentTexts (sym c.in_ok-tree.ensures.names) (names_apart c.args.input.now c.in_ok-tokens.tokens.items c.in_ok-tokens.tokens.names c.in_ok-tokens.ensures.ok);
    }
