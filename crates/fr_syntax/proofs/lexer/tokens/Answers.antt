use Rattle.std.proofs.Common.{◌≡◌, ◌+◌, ◌<◌, [], ◌∷◌, ◌++◌, length, length-append, arith, ap, ◌∙◌, rules, refl}
use Rattle.fr_syntax.specs.declared.token.Token.{Token}
use Rattle.fr_syntax.proofs.TokenLemmas.{step, few_more}
use Rattle.fr_syntax.proofs.EndLemmas.{inner_readable, ends_pushed, open_pushed}
use Rattle.fr_syntax.proofs.lexer.tokens.Goals as goal

pub each-preserved : goal.each-preserved
each-preserved c =
    let place = c.each.place in
    let skipped = c.first_text-skipped.result.0 in
    let text = c.first_text-skipped.result.1.now in
    let some : 0 < length text = search rules in
    let t : Token = record { kind = c.in_ok-kind.kind; start = place + skipped; end = place + (skipped + length text) } in
    let pushed : c.push-in-each.new.self.items ≡ c.each.tokens.items ++ t ∷ [] = c.in_ok-push-2.ensures.pushed ∙ ap (λ l. l ++ t ∷ []) c.in_ok-kind.ensures.items in
    let names = c.in_ok-push-2.ensures.names ∙ c.in_ok-kind.ensures.names in
    record {
      leads = step c.args.bytes.now c.each.tokens.items _ c.each.tokens.names _ place c.each.rest.now text c.first_text-skipped.result.2.now t
          c.each.invariant.leads c.first_text-skipped.ensures.text c.first_text-skipped.ensures.after some (ap (λ n. place + n) c.first_text-skipped.ensures.blanks) (omega arith) c.in_ok-kind.ensures.kind names pushed;
      same = search rules;
      all = omega arith;
      few = omega (arith, few_more c.each.tokens.names _ text place skipped c.each.invariant.few some names);
      short = omega (arith, ap length pushed, length-append c.each.tokens.items (t ∷ []), some);
      inner = open_pushed _ c.each.tokens.items _ t c.each.invariant.inner c.in_ok-kind.ensures.inner pushed;
    }

pub returns-then-is_empty-clause-ends : goal.returns-then-is_empty-clause-ends
returns-then-is_empty-clause-ends c = ends_pushed c.each.tokens.items _ _ c.each.invariant.inner refl c.in_ok-push.ensures.pushed

pub push-requires-in-each-clause-readable : goal.push-requires-in-each-clause-readable
push-requires-in-each-clause-readable c = inner_readable _ _ c.in_ok-kind.ensures.inner
