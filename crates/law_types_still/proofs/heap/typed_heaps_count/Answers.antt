use Rattle.law_types_still.proofs.heap.typed_heaps_count.Goals as goal
use Rattle.law_types_still.proofs.heap.Counts.{typed_heaps_count, types_follow}

pub returns : goal.returns
returns c = record { counts = typed_heaps_count; types = types_follow }
