use Rattle.std.proofs.Common.{subst}
use Rattle.fr_syntax.specs.Ordered.{IsArena}
use Rattle.fr_syntax.proofs.tree.Tree.len.Goals as goal

pub returns-clause-arena : goal.returns-clause-arena
returns-clause-arena c = subst IsArena c.self.view_is c.self.invariant
