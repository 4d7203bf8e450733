use Rattle.std.proofs.Common.{◌≡◌, ℕ, List, subst, string_bytes, rules}
use Rattle.drust_top.specs.Headline.{Makes, made}
use Rattle.drust_top.proofs.top.generated.Goals as goal

pub returns-in-Ok-clause-answered : goal.returns-in-Ok-clause-answered
returns-in-Ok-clause-answered g c = λ words left some h.
    let text : string_bytes c.in-Ok.field-0.text ≡ c.as_bytes.result.now = search rules in
    let told : Makes c.args.request.now.command c.args.request.now.options c.args.request.now.number c.args.request.now.size c.in-Ok.field-0.ran c.in-Ok.field-0.status c.as_bytes.result.now = subst (λ (x : List ℕ). Makes c.args.request.now.command c.args.request.now.options c.args.request.now.number c.args.request.now.size c.in-Ok.field-0.ran c.in-Ok.field-0.status x) text c.in-Ok.ensures.answers in
    c.reply.ensures.answered words left (made c.args.request.now some told) h

pub returns-in-Ok-clause-broken : goal.returns-in-Ok-clause-broken
returns-in-Ok-clause-broken g c = λ words left some h.
    let text : string_bytes c.in-Ok.field-0.text ≡ c.as_bytes.result.now = search rules in
    let told : Makes c.args.request.now.command c.args.request.now.options c.args.request.now.number c.args.request.now.size c.in-Ok.field-0.ran c.in-Ok.field-0.status c.as_bytes.result.now = subst (λ (x : List ℕ). Makes c.args.request.now.command c.args.request.now.options c.args.request.now.number c.args.request.now.size c.in-Ok.field-0.ran c.in-Ok.field-0.status x) text c.in-Ok.ensures.answers in
    c.reply.ensures.broken words left (made c.args.request.now some told) h
