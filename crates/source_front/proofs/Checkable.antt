-- What is read from tokens can be checked.
use Rattle.std.proofs.Common.{◌≡◌, ℕ, List, [], sym, subst}
use Rattle.fr_terms.specs.Terms.{Text}
use Rattle.fr_typing.specs.Laws as laws
use Rattle.fr_syntax.specs.declared.token.Token.{Token}
use Rattle.fr_syntax.specs.Arena.{Arena}
use Rattle.fr_syntax.specs.Meanings.{term_of, IsTree}
use Rattle.fr_syntax.specs.Tokens.{AreTokens}
use Rattle.fr_grammar.specs.Source.{Spelled, IsSource}
use Rattle.fr_syntax.proofs.NameTexts.{names_apart}
use Rattle.borrow_check.specs.Rules.{AreDifferentTexts}
use Rattle.borrow_check.specs.Programs.{IsCheckable}
use Rattle.source_front.specs.Typed.{IsTyped}

pub checkable : (bytes : List ℕ) (ts : List Token) (names : List Text) (tree : Arena) → AreTokens bytes ts names → Spelled names ts (term_of tree) → tree.names ≡ names → IsTree tree → IsCheckable tree
checkable bytes ts names tree tokens spelled same whole =
    record {
      tree = whole;
      within = spelled.limits;
      block = spelled.grammar.0;
      names = subst AreDifferentTexts (sym same) (names_apart bytes ts names tokens);
    }

-- and its program is that of a source, once it has a type
pub typed_source : (bytes : List ℕ) (tree checked : Arena) → IsSource bytes (term_of tree) → laws.IsTyped [] (term_of tree) → checked ≡ tree → IsTyped bytes (term_of checked)
typed_source bytes tree checked source h same =
    subst (λ (a : Arena). IsTyped bytes (term_of a)) (sym same)
    (record { source = source; kind = h.kind; after = h.after; types = h.types })
