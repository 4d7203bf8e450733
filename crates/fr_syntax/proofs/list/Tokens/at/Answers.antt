use Rattle.std.proofs.Common.{length, ap, sym, subst, ◌∙◌}
use Rattle.std.specs.Prelude.{string_bytes}
use Rattle.std.proofs.lemmas.List.{length-map}
use Rattle.fr_syntax.specs.TokenList.{TokenList, AreReadable}
use Rattle.fr_syntax.proofs.ReadableLemmas.{seen_readable}
use Rattle.fr_syntax.proofs.list.Tokens.at.Goals as goal

pub returns-clause-readable : goal.returns-clause-readable
returns-clause-readable c =
    let names = c.self.inside.names.items in
    let same = sym (length-map names string_bytes) ∙ ap (λ (l : TokenList). length l.names) c.self.view_is in
    seen_readable _ c.self.inside.items.items c.args.at c.at.result (subst (λ n. AreReadable n c.self.inside.items.items) same c.self.invariant.readable) c.at.ensures
