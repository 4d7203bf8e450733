use Rattle.coloured_heap.proofs.Journals.{driven, reached}
use Rattle.coloured_heap.proofs.laws.all_legal.Goals as goal

pub returns-clause-driven : goal.returns-clause-driven
returns-clause-driven c = driven

pub returns-clause-reached : goal.returns-clause-reached
returns-clause-reached c = reached
