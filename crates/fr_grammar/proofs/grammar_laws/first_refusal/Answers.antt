use Rattle.fr_grammar.proofs.TableSteps.{never_memory}
use Rattle.fr_grammar.proofs.TableLimits.{within_limits}
use Rattle.fr_grammar.proofs.TableLaws.{none_is, syntax_is, too_deep_is, limits_are}
use Rattle.fr_grammar.proofs.grammar_laws.first_refusal.Goals as goal

pub returns : goal.returns
returns c = record {
  none = none_is;
  memory = λ ts e. never_memory ts _ e;
  syntax = syntax_is;
  too_deep = too_deep_is;
  limits = limits_are;
  within = within_limits;
}
