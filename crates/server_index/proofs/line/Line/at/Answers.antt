use Rattle.std.proofs.Common.{length, slice_get, sym, ap, ◌∙◌, arith}
use Rattle.std.proofs.lemmas.Option.{slice_get_past}
use Rattle.server_index.proofs.LineLemmas.{all_marks, found}
use Rattle.server_index.proofs.line.Line.at.Goals as goal

pub returns-then-at-len : goal.returns-then-at-len
returns-then-at-len g c =
    c.as_ref.ensures.value ∙ sym (found c.find.result c.args.at c.index.result.now c.self.invariant c.find.ensures.rank c.find.ensures.marked c.index.ensures).item
    ∙ ap (λ q. slice_get q.items c.args.at) c.self.view_is

pub returns-else-at-len : goal.returns-else-at-len
returns-else-at-len g c =
    let all = all_marks c.self.invariant ∙ ap (λ q. length q.items) c.self.view_is in
    sym (slice_get_past c.args.self.now.items c.args.at (omega (arith, all, c.len.ensures, c.if-at-len.false)))
