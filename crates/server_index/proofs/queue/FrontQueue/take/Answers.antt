use Rattle.std.proofs.Common.{rules, sym, ap, ◌∙◌}
use Rattle.std.specs.List.{remove}
use Rattle.std.proofs.lemmas.List.Edits.{remove-append_right}
use Rattle.server_index.proofs.queue.FrontQueue.take.Goals as goal

pub returns-else-at-len-clause-items : goal.returns-else-at-len-clause-items
returns-else-at-len-clause-items g c =
    rw c.take.ensures.items
    (sym (remove-append_right c.self.inside.front.items c.self.inside.rest.items c.len-len.result c.args.at (search (rules, c.len-len.ensures)) c.if-at-len.false)
    ∙ ap (λ q. remove q.items c.args.at) c.self.view_is)
