use Rattle.drust_cli.proofs.Parsers.{rows_found, words_refused, words_taken}
use Rattle.drust_cli.proofs.parser.matches.Goals as goal

pub returns-clause-rows : goal.returns-clause-rows
returns-clause-rows c = rows_found _ _ c.try_get_matches_from.result c.in_ok-options.ensures.app c.try_get_matches_from.ensures.matches

pub returns-clause-taken : goal.returns-clause-taken
returns-clause-taken c = words_taken _ _ c.try_get_matches_from.result c.in_ok-options.ensures.app c.try_get_matches_from.ensures.kinds

pub returns-clause-refused : goal.returns-clause-refused
returns-clause-refused c = words_refused _ _ c.try_get_matches_from.result c.in_ok-options.ensures.app c.try_get_matches_from.ensures.kinds
