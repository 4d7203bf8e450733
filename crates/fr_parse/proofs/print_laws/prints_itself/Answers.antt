use Rattle.fr_grammar.proofs.Programs.{source_once}
use Rattle.fr_parse.proofs.PrintLaw.{prints, read_again, text_tells, same_text}
use Rattle.fr_parse.proofs.SourceTexts.{source_printable}
use Rattle.fr_parse.proofs.print_laws.prints_itself.Goals as goal

pub returns : goal.returns
returns c = record { source = prints; only = read_again source_once; tells = text_tells source_once; printable = source_printable; same = same_text }
