use Rattle.std.proofs.Common.{◌<◌, length, arith, subst, sym}
use Rattle.std.specs.Prelude.{string_bytes}
use Rattle.std.proofs.lemmas.List.{length-map}
use Rattle.fr_syntax.specs.Bounds.{most_numbered}
use Rattle.fr_syntax.specs.TokenList.{TokenList}
use Rattle.fr_syntax.proofs.ReadableLemmas.{list_named}
use Rattle.fr_syntax.proofs.list.Tokens.add_name.Goals as goal

pub invariant_of-self-2 : goal.invariant_of-self-2
invariant_of-self-2 c =
    let names = c.self.inside.names.items in
    let few = subst (λ (l : TokenList). length l.names < most_numbered) (sym c.self.view_is) c.requires.few in
    list_named (length names) _ _ (omega (arith, c.push.ensures.lower_bound)) (omega (arith, c.push.ensures.upper_bound, few, length-map names string_bytes)) c.self.invariant
