use Rattle.law_words_paths.proofs.words.words_go_on.Goals as goal
use Rattle.law_words_paths.proofs.words.Words.{words_go_on, fresh_go_on, changed_rewords}
use Rattle.law_words_paths.proofs.words.Beside.{holders_go_on, dirty_goes_on}
use Rattle.law_words_paths.proofs.words.Past.{past_goes_on, are_no_firsts}
use Rattle.law_words_paths.proofs.words.NewWord.{new_words_go_on}
use Rattle.law_words_paths.proofs.words.Example.{words_apply}

pub returns-clause-words : goal.returns-clause-words
returns-clause-words c = words_go_on

pub returns-clause-holders : goal.returns-clause-holders
returns-clause-holders c = holders_go_on

pub returns-clause-dirty : goal.returns-clause-dirty
returns-clause-dirty c = dirty_goes_on

pub returns-clause-applies : goal.returns-clause-applies
returns-clause-applies c = words_apply

pub returns-clause-fresh : goal.returns-clause-fresh
returns-clause-fresh c = fresh_go_on

pub returns-clause-past : goal.returns-clause-past
returns-clause-past c = past_goes_on

pub returns-clause-no_firsts : goal.returns-clause-no_firsts
returns-clause-no_firsts c = are_no_firsts

pub returns-clause-new_words : goal.returns-clause-new_words
returns-clause-new_words c = new_words_go_on

pub returns-clause-changed : goal.returns-clause-changed
returns-clause-changed c = changed_rewords
