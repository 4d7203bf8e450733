use Rattle.std.proofs.Common.{refl, ap}
use Rattle.fr_syntax.specs.declared.tree.Term.TheVariants.{Borrow, BorrowMut}
use Rattle.fr_syntax.specs.Meanings.{Meaning, as_term, term_s}
use Rattle.fr_grammar.proofs.GrowthLemmas.{grown_first, grown_node}
use Rattle.fr_grammar.proofs.FirstToken.{borrow_value}
use Rattle.fr_grammar.proofs.leaves.borrow.Goals as goal

pub returns-in_ok-add-in-MutWord-clause-node : goal.returns-in_ok-add-in-MutWord-clause-node
returns-in_ok-add-in-MutWord-clause-node c =
    let a = c.in_ok-add-in-MutWord.ensures in
    grown_node _ _ _ _ _ (BorrowMut c.in_ok-of-in-MutWord.of) term_s (grown_first _ _ _ _ c.in_ok-of-in-MutWord.ensures.node) a.number a.len a.names_kept a.meaning a.keeps refl

pub returns-in_ok-add-in_default-kind-clause-node : goal.returns-in_ok-add-in_default-kind-clause-node
returns-in_ok-add-in_default-kind-clause-node c =
    let a = c.in_ok-add-in_default-kind.ensures in
    grown_node _ _ _ _ _ (Borrow c.in_ok-of-in_default-kind.of) term_s (grown_first _ _ _ _ c.in_ok-of-in_default-kind.ensures.node) a.number a.len a.names_kept a.meaning a.keeps refl

pub returns-in_ok-add-in_default-kind-clause-value : goal.returns-in_ok-add-in_default-kind-clause-value
returns-in_ok-add-in_default-kind-clause-value c =
    borrow_value _ _ _ _ _ _ _ c.in-len1-up.len_at_least c.in_default-kind.not-MutWord c.in_ok-of-in_default-kind.ensures.value (ap (λ (m : Meaning). as_term m.what) c.in_ok-add-in_default-kind.ensures.meaning)
