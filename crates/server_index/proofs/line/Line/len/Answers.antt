use Rattle.std.proofs.Common.{length, ap, ◌∙◌, arith}
use Rattle.server_index.proofs.LineLemmas.{all_marks, few_items}
use Rattle.server_index.proofs.line.Line.len.Goals as goal

pub returns-clause-count : goal.returns-clause-count
returns-clause-count g c = c.len.ensures ∙ all_marks c.self.invariant ∙ ap (λ q. length q.items) c.self.view_is

pub returns-clause-few : goal.returns-clause-few
returns-clause-few g c = omega (arith, c.len.ensures, all_marks c.self.invariant, few_items c.self.invariant)
