use Rattle.owner_box.proofs.Runs.{no_word_twice, none_again}
use Rattle.owner_box.proofs.laws.runs_law.Goals as goal

pub returns : goal.returns
returns c = record { no_word_twice = no_word_twice; none_again = none_again }
