use Rattle.std.proofs.Common.{◌++◌, [], ◌∷◌, ap, ◌∙◌, arith}
use Rattle.server_index.proofs.LineLemmas.{put_line, last_item}
use Rattle.server_index.proofs.line.Line.push.Goals as goal

pub invariant_of-self : goal.invariant_of-self
invariant_of-self g c =
    let room = ap (λ q. q.room) c.self.view_is in
    put_line c.put.new.self c.args.item c.self.invariant (omega (arith, room, c.requires.room)) c.put.ensures

pub returns-clause-items : goal.returns-clause-items
returns-clause-items g c =
    let room = ap (λ q. q.room) c.self.view_is in
    last_item c.args.item c.self.invariant (omega (arith, room, c.requires.room)) ∙ ap (λ q. q.items ++ c.args.item ∷ []) c.self.view_is
