use Rattle.law_words_paths.proofs.words.small_steps_reword.Goals as goal
use Rattle.law_words_paths.proofs.words.Tints.{slots_reword, tint_rewords}
use Rattle.law_words_paths.proofs.words.Cells.{cells_reword}
use Rattle.law_words_paths.proofs.words.Marks.{mark_rewords}
use Rattle.law_words_paths.proofs.words.TintWords.{tint_keeps_words}

pub returns-clause-tints : goal.returns-clause-tints
returns-clause-tints c = tint_rewords

pub returns-clause-words : goal.returns-clause-words
returns-clause-words c = tint_keeps_words

pub returns-clause-marks : goal.returns-clause-marks
returns-clause-marks c = mark_rewords

pub returns-clause-cells : goal.returns-clause-cells
returns-clause-cells c = cells_reword

pub returns-clause-slots : goal.returns-clause-slots
returns-clause-slots c = slots_reword
