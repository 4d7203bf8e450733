use Rattle.std.proofs.Common.{rules, ◌<◌, length, subst, sym}
use Rattle.std.specs.Prelude.{string_bytes}
use Rattle.std.proofs.lemmas.List.{length-map}
use Rattle.fr_syntax.specs.Bounds.{most_tokens}
use Rattle.fr_syntax.specs.TokenList.{TokenList, IsReadable}
use Rattle.fr_syntax.proofs.ReadableLemmas.{list_pushed}
use Rattle.fr_syntax.proofs.list.Tokens.push.Goals as goal

pub invariant_of-self : goal.invariant_of-self
invariant_of-self c =
    let names = c.self.inside.names.items in
    let few = subst (λ (l : TokenList). length l.items < most_tokens) (sym c.self.view_is) c.requires.few in
    let readable = subst (λ (l : TokenList). IsReadable (length l.names) c.args.token.kind) (sym c.self.view_is) c.requires.readable in
    list_pushed c.push.result (length names) c.self.inside.items.items _ c.args.token c.self.invariant (subst (λ n. IsReadable n c.args.token.kind) (length-map names string_bytes) readable) few c.push.ensures.pushed (search rules)
