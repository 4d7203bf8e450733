use Rattle.std.proofs.Common.{refl}
use Rattle.fr_syntax.specs.declared.tree.Term.TheVariants.{Dup}
use Rattle.fr_syntax.specs.Meanings.{term_s}
use Rattle.fr_grammar.proofs.GrowthLemmas.{grown_first, grown_node}
use Rattle.fr_grammar.proofs.ReadableLemmas.{readable_part}
use Rattle.fr_grammar.proofs.leaves.leaf.Goals as goal

pub turned_at-requires : goal.turned_at-requires
turned_at-requires c = (_, readable_part _ _ 1 c.args.tokens.now c.requires.readable)

pub returns-in_ok-add-in-Minus-clause-readable : goal.returns-in_ok-add-in-Minus-clause-readable
returns-in_ok-add-in-Minus-clause-readable c = c.in_ok-value-in-Minus.ensures.readable _ (readable_part _ _ 1 c.args.tokens.now c.requires.readable)

pub returns-in_ok-add-in-DupWord-clause-node : goal.returns-in_ok-add-in-DupWord-clause-node
returns-in_ok-add-in-DupWord-clause-node c =
    let a = c.in_ok-add-in-DupWord.ensures in
    grown_node _ _ _ _ _ (Dup c.in_ok-of-in-DupWord.of) term_s (grown_first _ _ _ _ c.in_ok-of-in-DupWord.ensures.node) a.number a.len a.names_kept a.meaning a.keeps refl
