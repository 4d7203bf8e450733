use Rattle.fr_grammar.proofs.Programs.{refused_no_source, unspelled_no_source}
use Rattle.fr_grammar.proofs.grammar_laws.no_program.Goals as goal

pub returns : goal.returns
returns c = record { tokens = refused_no_source; grammar = unspelled_no_source }
