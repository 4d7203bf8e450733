use Rattle.law_words_values.proofs.freed.objects_go.Goals as goal
use Rattle.law_words_values.proofs.freed.Going.{freed_leaves}
use Rattle.law_words_values.proofs.freed.Drops.{drops_leave}

pub returns : goal.returns
returns c = record { freed = freed_leaves; drops = drops_leave }
