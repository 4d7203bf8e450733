use Rattle.std.proofs.Common.{rules}
use Rattle.drust_top.specs.Inputs.{IsInput}
use Rattle.drust_top.proofs.Replies.{size_refused}
use Rattle.drust_top.proofs.top.input.Goals as goal

pub returns-in-Err-TooLong-clause-answered : goal.returns-in-Err-TooLong-clause-answered
returns-in-Err-TooLong-clause-answered g c = λ words some h.
    c.reply.ensures.answered words (g.S.Source.left c.args.source.now) (size_refused words c.args.request.now (g.S.Source.left c.args.source.now) (g.S.Source.left c.read_all.new.source) some c.requires.reads (search rules)) h

pub returns-in-Err-TooLong-clause-broken : goal.returns-in-Err-TooLong-clause-broken
returns-in-Err-TooLong-clause-broken g c = λ words some h.
    c.reply.ensures.broken words (g.S.Source.left c.args.source.now) (size_refused words c.args.request.now (g.S.Source.left c.args.source.now) (g.S.Source.left c.read_all.new.source) some c.requires.reads (search rules)) h

pub returns-in-Ok-clause-answered : goal.returns-in-Ok-clause-answered
returns-in-Ok-clause-answered g c = λ words some h.
    let input : IsInput c.deref.result.now (g.S.Source.left c.args.source.now) = search rules in
    c.answer.ensures.answered words (g.S.Source.left c.args.source.now) some input h

pub returns-in-Ok-clause-broken : goal.returns-in-Ok-clause-broken
returns-in-Ok-clause-broken g c = λ words some h.
    let input : IsInput c.deref.result.now (g.S.Source.left c.args.source.now) = search rules in
    c.answer.ensures.broken words (g.S.Source.left c.args.source.now) some input h
