use Rattle.law_heap_writes.proofs.writes.each_event.Goals as goal
use Rattle.law_heap_writes.proofs.writes.Every.{every_plain, each_is}

pub returns : goal.returns
returns c = record { instructions = every_plain; events = each_is }
