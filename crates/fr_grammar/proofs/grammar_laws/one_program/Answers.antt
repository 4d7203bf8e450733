use Rattle.fr_grammar.proofs.Programs.{program_once, source_once}
use Rattle.fr_grammar.proofs.grammar_laws.one_program.Goals as goal

pub returns : goal.returns
returns c = record { once = program_once; source = source_once }
