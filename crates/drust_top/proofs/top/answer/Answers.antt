use Rattle.std.proofs.Common.{◌≡◌, ℕ, List, sym, subst, string_bytes, rules}
use Rattle.std.specs.Prelude.{IfSome}
use Rattle.drust_top.specs.Headline.{RepliesTo, IsRightFor}
use Rattle.drust_top.proofs.Replies.{answered, right_for}
use Rattle.drust_top.proofs.top.answer.Goals as goal

pub returns-in-Ok-clause-answered : goal.returns-in-Ok-clause-answered
returns-in-Ok-clause-answered g c = λ words left some input h.
    let text : string_bytes c.in-Ok.field-0.text ≡ c.as_bytes.result.now = search rules in
    let told : RepliesTo c.args.request.now.command c.args.request.now.options c.args.bytes.now c.in-Ok.field-0.ran c.in-Ok.field-0.status c.as_bytes.result.now = subst (λ (x : List ℕ). RepliesTo c.args.request.now.command c.args.request.now.options c.args.bytes.now c.in-Ok.field-0.ran c.in-Ok.field-0.status x) text c.in-Ok.ensures.answers in
    c.reply.ensures.answered words left (answered words c.args.request.now c.args.bytes.now left c.in-Ok.field-0.ran c.in-Ok.field-0.status c.as_bytes.result.now some input c.requires.size told) h

pub returns-in-Ok-clause-broken : goal.returns-in-Ok-clause-broken
returns-in-Ok-clause-broken g c = λ words left some input h.
    let text : string_bytes c.in-Ok.field-0.text ≡ c.as_bytes.result.now = search rules in
    let told : RepliesTo c.args.request.now.command c.args.request.now.options c.args.bytes.now c.in-Ok.field-0.ran c.in-Ok.field-0.status c.as_bytes.result.now = subst (λ (x : List ℕ). RepliesTo c.args.request.now.command c.args.request.now.options c.args.bytes.now c.in-Ok.field-0.ran c.in-Ok.field-0.status x) text c.in-Ok.ensures.answers in
    c.reply.ensures.broken words left (answered words c.args.request.now c.args.bytes.now left c.in-Ok.field-0.ran c.in-Ok.field-0.status c.as_bytes.result.now some input c.requires.size told) h

pub returns-in-Ok-clause-right : goal.returns-in-Ok-clause-right
returns-in-Ok-clause-right g c = λ words left some input.
    subst (λ o. IfSome o (IsRightFor words left)) (sym c.reply.ensures.ran) (right_for words c.args.request.now c.args.bytes.now left c.in-Ok.field-0.ran some input c.in-Ok.ensures.right)
